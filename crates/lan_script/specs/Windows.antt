-- The windows of LAN units as a map: each unit's own, but that of a unit that sends.
use Rattle.std.specs.Prelude.{◌≡◌, ℕ, ◌+◌, ◌*◌, ◌∷◌, [], List, Option, Some, None, IfSome, IsSomeAnd, IfOk, IfErr, OnErr, Result, IsSome, false, suc, length, slice_get, replicate, ◌<◌, if◌then◌else◌}
use Rattle.std.proofs.Common.{refl}
use Rattle.vio_num.specs.declared.names.UnitId.{UnitId}
use Rattle.tce_window.specs.Held.{HeldValue, either, held_strokes}
use Rattle.tce_window.specs.declared.answers.HoldFault.{HoldFault}
use Rattle.tce_window.specs.declared.answers.Right.{Right}
use Rattle.tce_window.specs.Lent.{IsLentBy, written_still_lent}
use Rattle.tce_window.specs.Moved.{Follows}
use Rattle.tce_window.specs.Pieces.{IsRefused, IsSharedUse}
use Rattle.tce_window.specs.PlainPort.{known_of, plain_begins}
use Rattle.tce_window.specs.Port.{CountsHold}
use Rattle.tce_window.specs.PortState.{WindowFacts, none_beside, Holds, HoldsNone, OnlyGivesBack, OnlyHolds}
use Rattle.tce_window.specs.Window.{WindowValue, blank_page}
use Rattle.lan_switch.specs.Switch.{same_unit}
use Rattle.lan_script.specs.declared.windows.Place.{Place}

-- the place of a unit with a window that is opened
abbrev pub fresh_place : UnitId → ℕ → Place
fresh_place unit pages = record {
  unit = unit;
  window = Some (record {
    unit = unit;
    pages = replicate pages blank_page;
    rows = [];
    spare = 0;
    held_from = 0;
    held_count = 0;
    in_use = 0;
  });
}

-- the place of a unit among these, or their number
abbrev pub place_in : UnitId → List Place → ℕ
place_in unit [] = 0
place_in unit (place ∷ places) =
    if same_unit place.unit unit then 0 else suc (place_in unit places)

-- the window of a unit; none where it is away, or where the unit has no place
abbrev pub window_in : UnitId → List Place → Option WindowValue
window_in unit [] = None
window_in unit (place ∷ places) =
    if same_unit place.unit unit then place.window else window_in unit places

-- the window of a place is its unit's
abbrev pub IsOwn : Place → Type 0
IsOwn place = IfSome place.window (λ window. window.unit ≡ place.unit)

-- how many pages a window has, in a number that is 0 where there is no window
abbrev pub kind_of : Option WindowValue → ℕ
kind_of None = 0
kind_of (Some window) = suc (length window.pages)

-- which units have a place, and of how many pages their windows are, one behind the other
abbrev pub shape_of : List Place → List ℕ
shape_of [] = []
shape_of (place ∷ places) =
    place.unit.partition ∷ place.unit.unit ∷ kind_of place.window ∷ shape_of places

-- What is known of a unit's window. Of one that is away it is what windows there are beside it, so that whoever lends
-- the map knows that it gets back the windows that it lent.
abbrev pub facts_of : UnitId → List Place → Option WindowValue → WindowFacts
facts_of unit places (Some window) = record {
  unit = unit;
  size = length window.pages;
  lenders = [];
  strokes = (known_of window).strokes;
  values = (known_of window).values;
  held_from = window.held_from;
  held_count = window.held_count;
  taken = λ _. 0;
  laid = λ _. [];
  in_use = window.in_use;
}
facts_of unit places None = record (none_beside unit) {
  values = λ e. (4096 * e + 3) ∷ [];
  laid = λ _. 1 ∷ shape_of places;
}

abbrev pub facts_in : List Place → UnitId → WindowFacts
facts_in places unit = facts_of unit places (window_in unit places)

-- the range is the one that the unit's window holds
abbrev pub FitsIn : List Place → UnitId → HeldValue → Type 0
FitsIn places unit held = IsSomeAnd (window_in unit places) (λ window. IsLentBy window held)

-- no page of a plain window is found in use
abbrev pub FoundIn : List Place → UnitId → ℕ → ℕ → Type 0
FoundIn places unit page word = ⊥

-- the unit has a place
abbrev pub HasPlace : UnitId → List Place → Type 0
HasPlace unit places = place_in unit places < length places

-- The place of a unit's window, which is there.
pub record HasWindow (places : List Place) (unit : UnitId) (place : ℕ) : Type 0 where
  pub place_is : place ≡ place_in unit places
  pub within : place < length places
  pub there : IsSome (window_in unit places)

-- the places with this window, or none, in the place of the unit's, and no other change
abbrev pub with_window : UnitId → Option WindowValue → List Place → List Place
with_window unit window [] = []
with_window unit window (place ∷ places) =
    if same_unit place.unit unit
    then record place { window = window } ∷ places
    else place ∷ with_window unit window places

-- A range of a window was held, or refused.
pub record HoldsWindow (before after : WindowValue) (ioba len : ℕ) (right : Right) (result : Result HeldValue HoldFault) : Type 0 where
  pub ok : IfOk result (Holds false (known_of before) ioba len right (known_of after))
  pub fits : IfOk result (λ held. IsLentBy after held)
  pub cause : IfErr result (λ fault. IsRefused (known_of after).values right (known_of before).place.size ioba len fault)
  pub shared : IfErr result (IsSharedUse false)
  pub err : OnErr result (HoldsNone false (known_of before) (known_of after))
  pub counts : CountsHold result before.in_use after.in_use
  pub rest : OnlyHolds false (known_of before) (known_of after)

-- A range of a window was given back.
pub record GivesWindow (before after : WindowValue) (held : HeldValue) : Type 0 where
  pub strokes : (p : ℕ) → (known_of after).strokes p ≡ either ((known_of before).strokes p) (held_strokes held.pages p)
  pub free : after.held_count ≡ 0
  pub rest : OnlyGivesBack (known_of before) (known_of after)

-- A window that is there became this one.
pub record Turns (old new : Option WindowValue) (P : WindowValue → WindowValue → Type 0) : Type 0 where
  pub before : WindowValue
  pub after : WindowValue
  pub was : old ≡ Some before
  pub is : new ≡ Some after
  pub made : P before after

-- The unit's window became this one, and nothing else changed.
pub record TurnsAt (unit : UnitId) (old new : List Place) (P : WindowValue → WindowValue → Type 0) : Type 0 where
  pub before : WindowValue
  pub after : WindowValue
  pub was : window_in unit old ≡ Some before
  pub own : before.unit ≡ unit
  pub rest : new ≡ with_window unit (Some after) old
  pub made : P before after

named_of : (unit : UnitId) (places : List Place) (window : Option WindowValue) → (facts_of unit places window).unit ≡ unit
named_of unit places (Some window) = refl
named_of unit places None = refl

pub named_in : (places : List Place) (unit : UnitId) → (facts_in places unit).unit ≡ unit
named_in places unit = named_of unit places (window_in unit places)

begins_of : (unit : UnitId) (places : List Place) (window : Option WindowValue) (e : ℕ)
    → slice_get ((facts_of unit places window).values e) 0 ≡ Some (4096 * e + 3)
begins_of unit places (Some window) e = plain_begins window e
begins_of unit places None e = refl

pub begins_in : (places : List Place) (unit : UnitId) (e : ℕ)
    → slice_get ((facts_in places unit).values e) 0 ≡ Some (4096 * e + 3)
begins_in places unit e = begins_of unit places (window_in unit places) e

written_of : (window : Option WindowValue) (old new : HeldValue)
    → IsSomeAnd window (λ window. IsLentBy window old) → Follows old new → IsSomeAnd window (λ window. IsLentBy window new)
written_of (Some window) old new fits follows = written_still_lent window old new fits follows
written_of None old new fits follows = absurd fits

pub written_in : (places : List Place) (unit : UnitId) (old new : HeldValue)
    → FitsIn places unit old → Follows old new → FitsIn places unit new
written_in places unit old new fits follows = written_of (window_in unit places) old new fits follows
