-- Two plain windows as a map of windows.
use Rattle.std.specs.Prelude.{◌≡◌, ℕ, ◌+◌, ◌*◌, ◌∷◌, [], Bool, true, false, Some, length, slice_get, if◌then◌else◌}
use Rattle.vio_num.specs.declared.TheConstants.{PAGE_BYTES}
use Rattle.std.proofs.Common.{refl}
use Rattle.vio_num.specs.declared.names.UnitId.{UnitId}
use Rattle.tce_window.specs.Grant.{values_of}
use Rattle.tce_window.specs.Held.{HeldValue}
use Rattle.tce_window.specs.Lent.{IsLentBy, written_still_lent}
use Rattle.tce_window.specs.Moved.{Follows}
use Rattle.tce_window.specs.PlainPort.{known_of, plain_begins}
use Rattle.tce_window.specs.PortState.{WindowFacts, none_beside}
use Rattle.tce_window.specs.Window.{WindowValue}
use Rattle.lan_switch.specs.Switch.{same_unit}

abbrev pub unit_b : UnitId
unit_b = record { partition = 2; unit = 0 }

abbrev pub unit_c : UnitId
unit_c = record { partition = 3; unit = 0 }

-- a unit's plain window
abbrev pub plain_facts : UnitId → WindowValue → WindowFacts
plain_facts unit window = record {
  unit = unit;
  size = length window.pages;
  lenders = [];
  strokes = (known_of window).strokes;
  values = (known_of window).values;
  held_from = window.held_from;
  held_count = window.held_count;
  taken = λ _. 0;
  laid = λ _. [];
  in_use = window.in_use;
}

-- a unit without a window
abbrev pub no_window : UnitId → WindowFacts
no_window unit = record (none_beside unit) { values = λ e. (PAGE_BYTES * e + 3) ∷ [] }

-- which of the two it is, if any
abbrev pub facts_at : (is_b is_c : Bool) → UnitId → WindowValue → WindowValue → WindowFacts
facts_at true is_c unit b c = plain_facts unit b
facts_at false true unit b c = plain_facts unit c
facts_at false false unit b c = no_window unit

abbrev pub facts_by : WindowValue → WindowValue → UnitId → WindowFacts
facts_by b c unit = facts_at (same_unit unit unit_b) (same_unit unit unit_c) unit b c

abbrev pub fits_at : (is_b is_c : Bool) → WindowValue → WindowValue → HeldValue → Type 0
fits_at true is_c b c held = IsLentBy b held
fits_at false true b c held = IsLentBy c held
fits_at false false b c held = ⊥

abbrev pub fits_by : WindowValue → WindowValue → UnitId → HeldValue → Type 0
fits_by b c unit held = fits_at (same_unit unit unit_b) (same_unit unit unit_c) b c held

abbrev pub found_by : WindowValue → WindowValue → UnitId → ℕ → ℕ → Type 0
found_by b c unit page word = ⊥

named_at : (is_b is_c : Bool) (unit : UnitId) (b c : WindowValue) → (facts_at is_b is_c unit b c).unit ≡ unit
named_at true is_c unit b c = refl
named_at false true unit b c = refl
named_at false false unit b c = refl

pub named_by : (b c : WindowValue) (unit : UnitId) → (facts_by b c unit).unit ≡ unit
named_by b c unit = named_at (same_unit unit unit_b) (same_unit unit unit_c) unit b c

begins_at : (is_b is_c : Bool) (unit : UnitId) (b c : WindowValue) (e : ℕ)
    → slice_get ((facts_at is_b is_c unit b c).values e) 0 ≡ Some (PAGE_BYTES * e + 3)
begins_at true is_c unit b c e = plain_begins b e
begins_at false true unit b c e = plain_begins c e
begins_at false false unit b c e = refl

pub begins_by : (b c : WindowValue) (unit : UnitId) (e : ℕ)
    → slice_get ((facts_by b c unit).values e) 0 ≡ Some (PAGE_BYTES * e + 3)
begins_by b c unit e = begins_at (same_unit unit unit_b) (same_unit unit unit_c) unit b c e

written_at : (is_b is_c : Bool) (b c : WindowValue) (old new : HeldValue)
    → fits_at is_b is_c b c old → Follows old new → fits_at is_b is_c b c new
written_at true is_c b c old new fits follows = written_still_lent b old new fits follows
written_at false true b c old new fits follows = written_still_lent c old new fits follows
written_at false false b c old new fits follows = absurd fits

pub written_by : (b c : WindowValue) (unit : UnitId) (old new : HeldValue)
    → fits_by b c unit old → Follows old new → fits_by b c unit new
written_by b c unit old new fits follows =
    written_at (same_unit unit unit_b) (same_unit unit unit_c) b c old new fits follows
