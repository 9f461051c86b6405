-- What the region of a unit was as a line of its partition ended, by the strokes that it has since.
use Rattle.std.specs.Prelude.{ℕ, IsSome, List, Option}
use Rattle.vio_num.specs.declared.names.UnitId.{UnitId}
use Rattle.page_slots.specs.Stroke.{StrokeValue}
use Rattle.unit_region.specs.RegionLines.{IsOn, RegionSeen}
use Rattle.vcpu_run.specs.Moments.{IsMoment}

-- the region of a unit whose pages have these strokes now, as the line of this number ended: a page was read with all that it had then
abbrev pub region_then : UnitId → (number : ℕ) → (ℕ → Option (List StrokeValue)) → RegionSeen
region_then unit number strokes = record {
  stroke_at = λ page stroke. IsOn stroke (strokes page);
  front_at = λ page front. IsMoment unit number front (strokes page) × IsSome front;
}
