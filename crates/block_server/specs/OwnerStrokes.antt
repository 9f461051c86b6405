-- What is laid on a window's pages under other names than its own unit's.
use Rattle.std.specs.Prelude.{◌≡◌, ◌≢◌, ◌++◌, ℕ, All, List, Option, Some, None, ⊤}
use Rattle.vio_num.specs.declared.names.UnitId.{UnitId}
use Rattle.page_slots.specs.Stroke.{StrokeValue}
use Rattle.rdma_copy.specs.Copy.{Side}

-- a page has the strokes that it had, and behind them others, each of another unit than this one
abbrev pub AddsOthers : UnitId → (old new : Option (List StrokeValue)) → Type 0
AddsOthers unit (Some old) (Some new) = (rest : List StrokeValue) × (new ≡ old ++ rest) × All (λ stroke. stroke.name.who ≢ unit) rest
AddsOthers unit None None = ⊤
AddsOthers unit _ _ = ⊥

-- no stroke was laid on a window's pages in the name of its own unit
abbrev pub LaysNoneOfOwner : (old new : Side) → Type 0
LaysNoneOfOwner old new = (page : ℕ) → AddsOthers old.unit (old.strokes page) (new.strokes page)
