-- What a turn of a server leaves of the strokes that its client laid.
use Rattle.std.proofs.Common.{◌≡◌, ◌≢◌, List, None, Option, Some}
use Rattle.std.proofs.lemmas.List.Elements.{All-weaker}
use Rattle.vio_num.specs.declared.names.UnitId.{UnitId}
use Rattle.page_slots.specs.Stroke.{StrokeValue}
use Rattle.block_server.specs.OwnerStrokes.{AddsOthers}
use Rattle.unit_region.specs.RegionLines.{IsFrontOn}

pub none_owned : (unit : UnitId) (old new : Option (List StrokeValue)) → AddsOthers unit old new → IsFrontOn unit (λ m. ⊥) old new
none_owned unit (Some old) (Some new) adds = record {
  rest = adds.0;
  is = adds.1;
  later = All-weaker (λ (stroke : StrokeValue). stroke.name.who ≢ unit) (λ (stroke : StrokeValue). stroke.name.who ≡ unit → ⊥) (λ stroke other. other) adds.0 adds.2;
}
none_owned unit (Some old) None adds = absurd adds
none_owned unit None (Some new) adds = absurd adds
none_owned unit None None adds = tt
