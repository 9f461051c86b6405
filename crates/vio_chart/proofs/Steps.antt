-- The lists of units that have a line and of partitions that have a lane, one name further.
use Rattle.std.proofs.Common.{◌≡◌, ℕ, ◌+◌, ◌==◌, List, [], ◌∷◌, ◌++◌, refl, sym, ap, ◌∙◌, add-one, if◌then◌else◌}
use Rattle.std.specs.List.{list_any}
use Rattle.vio_num.specs.declared.names.UnitId.{UnitId}
use Rattle.vio_trace.specs.declared.rows.Trace.{Trace}
use Rattle.vio_chart.specs.Columns.{has_line, lanes_below, lines_below, unit_at}

pub lines_on : (trace : Trace) (n : ℕ)
    → lines_below trace (n + 1) ≡ lines_below trace n ++ (if has_line trace (unit_at n) then unit_at n ∷ [] else [])
unfolding lines_below
lines_on trace n = rw add-one refl

pub lanes_on : (units : List UnitId) (n : ℕ)
    → lanes_below units (n + 1)
    ≡ lanes_below units n ++ (if list_any (λ unit. unit.partition == n) units then n ∷ [] else [])
unfolding lanes_below
lanes_on units n = rw add-one refl

pub lines_none : (trace : Trace) → [] ≡ lines_below trace 0
unfolding lines_below
lines_none trace = refl

pub lanes_none : (units : List UnitId) → [] ≡ lanes_below units 0
unfolding lanes_below
lanes_none units = refl

pub lines_more : (trace : Trace) (n : ℕ) (unit : UnitId) (before after : List UnitId) → unit ≡ unit_at n
    → before ≡ lines_below trace n → after ≡ before ++ (if has_line trace unit then unit ∷ [] else [])
    → after ≡ lines_below trace (n + 1)
lines_more trace n unit before after e f g =
    g ∙ (ap (λ (l : List UnitId). l ++ (if has_line trace unit then unit ∷ [] else [])) f
    ∙ (ap (λ (u : UnitId). lines_below trace n ++ (if has_line trace u then u ∷ [] else [])) e ∙ sym (lines_on trace n)))

pub lanes_more : (units : List UnitId) (n : ℕ) (before after : List ℕ) → before ≡ lanes_below units n
    → after ≡ before ++ (if list_any (λ unit. unit.partition == n) units then n ∷ [] else [])
    → after ≡ lanes_below units (n + 1)
lanes_more units n before after f g =
    g ∙ (ap (λ (l : List ℕ). l ++ (if list_any (λ unit. unit.partition == n) units then n ∷ [] else [])) f
    ∙ sym (lanes_on units n))
