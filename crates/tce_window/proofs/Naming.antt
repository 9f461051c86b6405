-- The last strokes of one name on a page.
use Rattle.std.proofs.Common.{◌≡◌, ℕ, zero, suc, ◌+◌, ◌-◌, ◌<◌, ◌≤◌, List, [], ◌∷◌, ◌++◌, Option, Some, None, length, get_or, take, drop, fold, All, cond, true, false, refl, sym, ◌∙◌, ap, subst, arith, append-nil, take-append-drop}
use Rattle.std.proofs.lemmas.List.{take_more, append_assoc}
use Rattle.std.proofs.lemmas.List.Sums.{fold-append, fold_push}
use Rattle.std.proofs.lemmas.List.Elements.{All-head, All-tail}
use Rattle.page_slots.specs.Stroke.{StrokeValue}
use Rattle.page_slots.specs.declared.stroke.StrokeName.{StrokeName}
use Rattle.tce_window.specs.Named.{same_name, last_run, last_other}

abbrev run_step : StrokeName → List StrokeValue → StrokeValue → List StrokeValue
run_step name run stroke = cond (same_name stroke.name name) (run ++ stroke ∷ []) []

abbrev other_step : StrokeName → Option StrokeName → StrokeValue → Option StrokeName
other_step name found stroke = cond (same_name stroke.name name) found (Some stroke.name)

-- strokes of the name lengthen the run, and are no other
run_over : (name : StrokeName) (run strokes : List StrokeValue) → All (λ s. same_name s.name name ≡ true) strokes → fold (run_step name) run strokes ≡ run ++ strokes
run_over name run [] all = sym (append-nil run)
run_over name run (s ∷ strokes) all =
    let own : same_name s.name name ≡ true = All-head (λ t. same_name t.name name ≡ true) s strokes all in
    rw own (run_over name (run ++ s ∷ []) strokes (All-tail (λ t. same_name t.name name ≡ true) s strokes all) ∙ append_assoc run (s ∷ []) strokes)

other_over : (name : StrokeName) (found : Option StrokeName) (strokes : List StrokeValue) → All (λ s. same_name s.name name ≡ true) strokes → fold (other_step name) found strokes ≡ found
other_over name found [] all = refl
other_over name found (s ∷ strokes) all =
    let own : same_name s.name name ≡ true = All-head (λ t. same_name t.name name ≡ true) s strokes all in
    rw own (other_over name found strokes (All-tail (λ t. same_name t.name name ≡ true) s strokes all))

pub run_from : (name : StrokeName) (strokes : List StrokeValue) (start : ℕ) → All (λ s. same_name s.name name ≡ true) (drop start strokes)
    → last_run name (take start strokes) ≡ [] → last_run name strokes ≡ drop start strokes
run_from name strokes start all none =
    ap (last_run name) (sym (take-append-drop start strokes))
    ∙ fold-append (run_step name) [] (take start strokes) (drop start strokes)
    ∙ ap (λ run. fold (run_step name) run (drop start strokes)) none
    ∙ run_over name [] (drop start strokes) all

pub other_from : (name : StrokeName) (strokes : List StrokeValue) (start : ℕ) → All (λ s. same_name s.name name ≡ true) (drop start strokes)
    → last_other name strokes ≡ last_other name (take start strokes)
other_from name strokes start all =
    ap (last_other name) (sym (take-append-drop start strokes))
    ∙ fold-append (other_step name) None (take start strokes) (drop start strokes)
    ∙ other_over name (last_other name (take start strokes)) (drop start strokes) all

front_of : (strokes : List StrokeValue) (start : ℕ) (d : StrokeValue) → 0 < start → start ≤ length strokes
    → take start strokes ≡ take (start - 1) strokes ++ get_or strokes (start - 1) d ∷ []
front_of strokes start d some within =
    let e : start - 1 + 1 ≡ start = omega (arith, some) in
    subst (λ n. take n strokes ≡ take (start - 1) strokes ++ get_or strokes (start - 1) d ∷ []) e (take_more strokes (start - 1) d (omega (arith, some, within)))

pub no_run : (name : StrokeName) (strokes : List StrokeValue) (start : ℕ) (d : StrokeValue) → 0 < start → start ≤ length strokes
    → same_name ((get_or strokes (start - 1) d).name) name ≡ false → last_run name (take start strokes) ≡ []
no_run name strokes start d some within other =
    ap (last_run name) (front_of strokes start d some within)
    ∙ fold_push (run_step name) [] (take (start - 1) strokes) (get_or strokes (start - 1) d)
    ∙ rw other refl

pub found_other : (name : StrokeName) (strokes : List StrokeValue) (start : ℕ) (d : StrokeValue) → 0 < start → start ≤ length strokes
    → same_name ((get_or strokes (start - 1) d).name) name ≡ false → last_other name (take start strokes) ≡ Some ((get_or strokes (start - 1) d).name)
found_other name strokes start d some within other =
    ap (last_other name) (front_of strokes start d some within)
    ∙ fold_push (other_step name) None (take (start - 1) strokes) (get_or strokes (start - 1) d)
    ∙ rw other refl

-- inside a list the default does not matter
pub same_at : {X : Type 0} (xs : List X) (i : ℕ) (d e : X) → i < length xs → get_or xs i d ≡ get_or xs i e
same_at [] i d e h = absurd (omega (arith, h))
same_at (x ∷ xs) zero d e h = refl
same_at (x ∷ xs) (suc i) d e h = same_at xs i d e (omega (arith, h))
