-- What strokes leave on a page, stroke by stroke.
use Rattle.std.proofs.Common.{◌≡◌, ℕ, ◌<◌, List, [], ◌∷◌, ◌++◌, length, take, drop, get_or, replicate, arith}
use Rattle.std.proofs.lemmas.List.{append-nil, take_all, drop_all, length-replicate, get_or-replicate}
use Rattle.std.proofs.lemmas.List.Sums.{fold_push}
use Rattle.page_slots.specs.Stroke.{StrokeValue, IsWithinPage}
use Rattle.page_slots.specs.Page.{zeros, left_by, overwritten, AreWithinPage}

pub length-zeros : length zeros ≡ 4096
unfolding zeros
length-zeros = length-replicate {A = ℕ} 4096 0

pub byte-zeros : (k : ℕ) → k < 4096 → get_or zeros k 0 ≡ 0
unfolding zeros
byte-zeros k h = get_or-replicate 4096 k 0 0 h

pub zeros-is : (bytes : List ℕ) → bytes ≡ replicate 4096 0 → bytes ≡ zeros
unfolding zeros
zeros-is bytes e = e

pub left_by-push : (strokes : List StrokeValue) (stroke : StrokeValue) → left_by (strokes ++ stroke ∷ []) ≡ overwritten (left_by strokes) stroke
left_by-push strokes stroke = fold_push overwritten zeros strokes stroke

pub within-push : (strokes : List StrokeValue) (stroke : StrokeValue) → AreWithinPage strokes → IsWithinPage stroke → AreWithinPage (strokes ++ stroke ∷ [])
within-push [] stroke all one = (one, tt)
within-push (s ∷ strokes) stroke all one = (all.0, within-push strokes stroke all.1 one)

-- a buffer that is written whole
pub whole : (n : ℕ) (new old : List ℕ) → n ≡ length old → length new ≡ length old → take n (new ++ drop (length new) old) ≡ new
whole n new old e f = rw (drop_all (length new) old (omega arith)) (rw append-nil (take_all n new (omega arith)))
