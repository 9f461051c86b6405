-- That a unit's region keeps its strokes, and that the unit laid none there itself.
use Rattle.std.proofs.Common.{◌≡◌, ◌≢◌, ℕ, Result, Ok, Err, OnOk, sym, ap, subst}
use Rattle.vio_num.specs.declared.memory.NoMemory.{NoMemory}
use Rattle.vio_num.specs.declared.names.UnitId.{UnitId}
use Rattle.unit_region.specs.RegionLines.{IsFrontOn}
use Rattle.unit_region.proofs.Laws.{on_as, on_self, on_then}
use Rattle.lan_script.specs.Regions.{IsLineMark, LaysLine, LaysNoOwn, RegionsGrow, strokes_at}
use Rattle.lan_script.specs.Units.{LanValue}
use Rattle.lan_script.specs.Windows.{facts_in}
use Rattle.lan_script.proofs.Laws.{region_same, region_then, regions_placed}
use Rattle.vcpu_run.specs.PortRegions.{LaysLogged, RegionKept, RegionsKept}

pub kept_same : (lan : LanValue) (unit : UnitId) → RegionKept unit lan lan
kept_same lan unit = record { grows = region_same lan unit; own = λ page. on_self unit (λ mark. ⊥) (strokes_at lan unit page) }

pub kept_then : (unit : UnitId) (old mid new : LanValue) → RegionKept unit old mid → RegionKept unit mid new → RegionKept unit old new
kept_then unit old mid new first next = record {
  grows = region_then unit old mid new first.grows next.grows;
  own = λ page. on_then unit (λ mark. ⊥) (strokes_at old unit page) (strokes_at mid unit page) (strokes_at new unit page) (first.own page) (next.own page);
}

pub kept_placed : (unit : UnitId) (old new : LanValue) → new.places ≡ old.places → RegionKept unit old new
kept_placed unit old new same = record {
  grows = regions_placed old new same unit;
  own = λ page. subst (IsFrontOn unit (λ mark. ⊥) (strokes_at old unit page)) (sym (ap (λ ps. (facts_in ps unit).strokes page) same))
      (on_self unit (λ mark. ⊥) (strokes_at old unit page));
}

-- a step of a line at another unit, and at this one
pub line_beside : (unit : UnitId) (mark : ℕ) (other : UnitId) (old new : LanValue) → other ≢ unit → RegionsGrow old new → LaysLine unit mark old new
    → RegionKept other old new
line_beside unit mark other old new apart grows lays = record {
  grows = grows other;
  own = λ page.
      on_as other (IsLineMark unit mark other) (λ m. ⊥) (strokes_at old other page) (strokes_at new other page) (λ m is. absurd (apart is.0)) (lays other page);
}

pub line_own : (unit : UnitId) (mark : ℕ) (old new : LanValue) → LaysLine unit mark old new → LaysLogged unit mark old new
line_own unit mark old new lays page =
    on_as unit (IsLineMark unit mark unit) (λ m. m ≡ mark) (strokes_at old unit page) (strokes_at new unit page) (λ m is. is.1) (lays unit page)

-- a raw call
pub kept_called : {X : Type 0} (r : Result X NoMemory) (old new : LanValue) → OnOk r (RegionsGrow old new) → OnOk r (LaysNoOwn old new) → OnOk r (RegionsKept old new)
kept_called (Ok x) old new grows none = λ unit. record { grows = grows unit; own = λ page. none unit page }
kept_called (Err memory) old new grows none = tt
