-- The values of the entries of the units' windows, and what lines and calls leave of them.
use Rattle.std.specs.Prelude.{◌≡◌, ◌/◌, ◌==◌, ℕ, All, Bool, true, false, not, List}
use Rattle.vio_num.specs.declared.names.UnitId.{UnitId}
use Rattle.boot_text.specs.declared.verb.Verb.{Verb}
use Rattle.boot_text.specs.declared.verb.Verb.TheVariants as verbs
pub use Rattle.unit_region.specs.LinePuts.{is_put}
use Rattle.lan_switch.specs.Switch.{same_unit}
use Rattle.lan_script.specs.declared.calls.PortCall.{PortCall}
use Rattle.lan_script.specs.declared.calls.PortCall.TheVariants as calls
use Rattle.lan_script.specs.declared.windows.Place.{Place}
use Rattle.lan_script.specs.Units.{LanValue}
use Rattle.lan_script.specs.Windows.{facts_in}

-- each entry of the unit's window has the values that it had
abbrev pub KeepsValues : UnitId → (old new : List Place) → Type 0
KeepsValues unit old new = (e : ℕ) → (facts_in new unit).values e ≡ (facts_in old unit).values e

-- the same of every unit
abbrev pub SameValues : (old new : LanValue) → Type 0
SameValues old new = (unit : UnitId) → KeepsValues unit old.places new.places

-- the same of every other unit
abbrev pub SameValuesBeside : UnitId → (old new : LanValue) → Type 0
SameValuesBeside unit old new = (other : UnitId) → same_unit other unit ≡ false → KeepsValues other old.places new.places

-- each value of each entry names the entry's own page, with whatever rights
abbrev pub AreOwn : (values : ℕ → List ℕ) → Type 0
AreOwn values = (e : ℕ) → All (λ value. value / 4096 ≡ e) (values e)

abbrev pub NamesOwn : LanValue → UnitId → Type 0
NamesOwn lan unit = AreOwn (λ e. (facts_in lan.places unit).values e)

-- whether a line lets an entry name another page than its own
abbrev pub puts_other : Verb → Bool
puts_other (verbs.Tce entry page readable writable) = not (page == entry)
puts_other _ = false

-- a call on the entries of a window
abbrev pub is_entry_call : PortCall → Bool
is_entry_call (calls.Entry call) = true
is_entry_call _ = false
