-- The pages on which the pieces of a range of the region lie.
use Rattle.std.proofs.Common.{◌≡◌, ℕ, suc, ◌+◌, ◌-◌, ◌*◌, ◌/◌, ◌%◌, ◌<◌, ◌≤◌, ◌==◌, ◌||◌, max, min, Bool, true, false, All, List, [], ◌∷◌, nat_le, nat_lt, sym, ap, ◌∙◌, ⊎_elim, arith}
use Rattle.std.proofs.lemmas.Bool.{cases_lt, eq-eqb, ne_eqb}
use Rattle.std.proofs.lemmas.Bool.Decides.{leb_tells, nat_tests}
use Rattle.std.proofs.lemmas.List.Elements.{All-nil, All-cons}
use Rattle.tce_window.specs.declared.piece.Piece.{Piece}
use Rattle.tce_window.specs.Laying.{LieOver}
use Rattle.tce_window.specs.Pieces.{on_page}
use Rattle.tce_window.specs.Region.{touches}
use Rattle.tce_window.proofs.Laws.{by_number}

pub is_less : (a b : ℕ) → a < b → nat_lt a b ≡ true
is_less a b less = ⊎_elim (λ (t : (nat_le (suc a) b ≡ true) × (suc a ≤ b)). t.0) (λ (t : (nat_le (suc a) b ≡ false) × (b < suc a)). absurd (omega (arith, less, t.1))) (leb_tells (suc a) b)

pub not_less : (a b : ℕ) → b ≤ a → nat_lt a b ≡ false
not_less a b more = ⊎_elim (λ (t : (nat_le (suc a) b ≡ true) × (suc a ≤ b)). absurd (omega (arith, more, t.1))) (λ (t : (nat_le (suc a) b ≡ false) × (b < suc a)). t.0) (leb_tells (suc a) b)

-- whether the addresses from..to meet those of page p
abbrev meets : (from to p : ℕ) → Bool
meets from to p = nat_lt (max from (4096 * p)) (min to (4096 * (p + 1)))

-- the first piece, and those behind it
meets_more : (from to len page p : ℕ) → from < to → page ≡ from / 4096 → len ≡ min (to - from) (4096 - from % 4096) → (page == p || meets (from + len) to p) ≡ meets from to p
meets_more from to len page p less on is = by_number page p ((page == p || meets (from + len) to p) ≡ meets from to p)
    (λ same. rw (eq-eqb page p same) (sym (is_less (max from (4096 * p)) (min to (4096 * (p + 1))) (omega (arith, less, on, same)))))
    (λ other. rw (ne_eqb page p other) (⊎_elim
    (λ (low : p < from / 4096). not_less (max (from + len) (4096 * p)) (min to (4096 * (p + 1))) (omega (arith, low)) ∙ sym (not_less (max from (4096 * p)) (min to (4096 * (p + 1))) (omega (arith, low))))
    (λ (ge : from / 4096 ≤ p). let behind : from / 4096 < p = ⊎_elim (λ lt. lt) (λ le. absurd (other (omega (arith, ge, le, on)))) (cases_lt (from / 4096) p) in
    let far : max (from + len) (4096 * p) ≡ max from (4096 * p) = omega (arith, behind, is) in ap (λ k. nat_lt k (min to (4096 * (p + 1)))) far)
    (cases_lt p (from / 4096))))

over_meets : (from to : ℕ) (pieces : List Piece) (p : ℕ) → LieOver from to pieces → on_page pieces p ≡ meets from to p
over_meets from to [] p h = sym (not_less (max from (4096 * p)) (min to (4096 * (p + 1))) (omega (arith, h)))
over_meets from to (piece ∷ pieces) p h = ap (λ b. piece.page == p || b) (over_meets (from + piece.len) to pieces p h.4) ∙ meets_more from to piece.len piece.page p h.0 h.1 h.3

meets_touches : (at len p : ℕ) → 1 ≤ len → meets at (at + len) p ≡ touches at len p
meets_touches at len p some = ⊎_elim
    (λ (low : p < at / 4096). not_less (max at (4096 * p)) (min (at + len) (4096 * (p + 1))) (omega (arith, low)) ∙ sym (grind (arith, nat_tests)))
    (λ (ge : at / 4096 ≤ p). ⊎_elim
    (λ (below : p < (at + len + 4095) / 4096). is_less (max at (4096 * p)) (min (at + len) (4096 * (p + 1))) (omega (arith, ge, below, some)) ∙ sym (grind (arith, nat_tests)))
    (λ (past : (at + len + 4095) / 4096 ≤ p). not_less (max at (4096 * p)) (min (at + len) (4096 * (p + 1))) (omega (arith, past)) ∙ sym (grind (arith, nat_tests)))
    (cases_lt p ((at + len + 4095) / 4096)))
    (cases_lt p (at / 4096))

-- they are those that the range touches
pub over_touches : (at len : ℕ) (pieces : List Piece) (p : ℕ) → LieOver at (at + len) pieces → 1 ≤ len → on_page pieces p ≡ touches at len p
over_touches at len pieces p h some = over_meets at (at + len) pieces p h ∙ meets_touches at len p some

-- and all inside the region, as the range is
pub over_inside : (n from to : ℕ) (pieces : List Piece) → LieOver from to pieces → to ≤ 4096 * n → All (λ piece. piece.page < n) pieces
over_inside n from to [] h within = All-nil (λ piece. piece.page < n)
over_inside n from to (piece ∷ pieces) h within = All-cons (λ piece. piece.page < n) piece pieces (omega (arith, h.0, h.1, within)) (over_inside n (from + piece.len) to pieces h.4 within)
