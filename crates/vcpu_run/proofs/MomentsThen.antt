-- What a unit's region was as a line ended stays so, as strokes are laid there that are of no earlier line.
use Rattle.std.proofs.Common.{◌≡◌, ℕ, ◌<◌, ◌≤◌, IsSome, List, Option, sym, subst}
use Rattle.vio_num.specs.declared.names.UnitId.{UnitId}
use Rattle.page_slots.specs.Stroke.{StrokeValue}
use Rattle.unit_region.specs.RegionLines.{IsFrontOn, IsOn}
use Rattle.unit_region.proofs.Laws.{on_self, on_then}
use Rattle.vcpu_run.specs.Moments.{IsMoment}

-- a page that was read with all that it had then
abbrev pub HadThen : UnitId → (number : ℕ) → (had now : Option (List StrokeValue)) → Type 0
HadThen unit number had now = IsMoment unit number had now × IsSome had

pub then_more : (unit : UnitId) (number : ℕ) (had old new : Option (List StrokeValue)) → IsFrontOn unit (λ mark. number < mark) old new
    → HadThen unit number had old → HadThen unit number had new
then_more unit number had old new more is =
    (record { earlier = is.0.earlier; later = on_then unit (λ mark. number < mark) had old new is.0.later more }, is.1)

-- one that is read now, where all strokes of the unit's own are of lines up to this one
pub then_now : (unit : UnitId) (number : ℕ) (had now : Option (List StrokeValue)) → ((stroke : StrokeValue) → IsOn stroke now → stroke.name.who ≡ unit → stroke.name.mark ≤ number)
    → (had ≡ now) × IsSome had → HadThen unit number had now
then_now unit number had now earlier is = (
  subst (λ (o : Option (List StrokeValue)). IsMoment unit number o now) (sym is.0)
      (record { earlier = earlier; later = on_self unit (λ mark. number < mark) now }),
  is.1,
)

-- the same strokes
pub then_same : (unit : UnitId) (number : ℕ) (had old new : Option (List StrokeValue)) → new ≡ old → HadThen unit number had old → HadThen unit number had new
then_same unit number had old new same = subst (HadThen unit number had) (sym same)
