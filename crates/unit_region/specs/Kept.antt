-- What the lines and the calls of a unit leave of its own window.
use Rattle.std.specs.Prelude.{◌≡◌, ℕ, Bool, false, ◌++◌, All, List, Option, Some, None, ⊤}
use Rattle.vio_num.specs.declared.names.UnitId.{UnitId}
use Rattle.page_slots.specs.Stroke.{StrokeValue}
use Rattle.tce_window.specs.PortState.{PortState}
use Rattle.rdma_copy.specs.Copy.{SideGrows}
use Rattle.rdma_copy.specs.Copies.{side_of as side_at}

-- Strokes of this unit, if any, were laid behind those of a page.
pub record LaysOwn (unit : UnitId) (old new : List StrokeValue) : Type 0 where
  pub more : List StrokeValue
  pub is : new ≡ old ++ more
  pub own : All (λ stroke. stroke.name.who ≡ unit) more

-- the same of a page that is in its place; one that is away stays so
abbrev pub LaysOwnOn : UnitId → Option (List StrokeValue) → Option (List StrokeValue) → Type 0
LaysOwnOn unit (Some old) (Some new) = LaysOwn unit old new
LaysOwnOn unit None None = ⊤
LaysOwnOn unit _ _ = ⊥

-- on each page of a window
abbrev pub LaysOwnAll : UnitId → (old new : ℕ → Option (List StrokeValue)) → Type 0
LaysOwnAll unit old new = (p : ℕ) → LaysOwnOn unit (old p) (new p)

-- The window is where it was and holds as much, no stroke and no value of it is gone, and where nobody else has a hand in it
-- each stroke that it has more is its own unit's.
pub record KeepsWindow (is_shared : Bool) (old new : PortState) : Type 0 where
  pub place : new.place ≡ old.place
  pub held : new.held_count ≡ old.held_count
  pub grows : SideGrows (side_at old) (side_at new)
  pub own : is_shared ≡ false → LaysOwnAll old.place.unit old.strokes new.strokes
