-- The address of a port, and which lines give it another.
use Rattle.std.specs.Prelude.{◌≡◌, ◌⊎◌, Bool, true, false, Option, Some, None, ⊤}
use Rattle.vio_num.specs.declared.hypervisor.Hrc.TheVariants.{Success}
use Rattle.vio_num.specs.declared.names.Mac.{Mac}
use Rattle.vio_num.specs.declared.names.UnitId.{UnitId}
use Rattle.boot_text.specs.declared.verb.Verb.{Verb}
use Rattle.boot_text.specs.declared.verb.Verb.TheVariants as verbs
use Rattle.vio_trace.specs.declared.outcome.Outcome.{Outcome}
use Rattle.vio_trace.specs.declared.outcome.Outcome.TheVariants as outcomes
use Rattle.lan_frame.specs.Station.{IsGroup}
use Rattle.lan_buffers.specs.declared.settings.Settings.{Settings}
use Rattle.lan_script.specs.PortReplay.{PortReplay}
use Rattle.lan_script.specs.Replayed.{replay_at}
use Rattle.lan_script.specs.Seats.{seat_at}
use Rattle.lan_script.specs.Units.{LanValue}
use Rattle.lan_script.specs.declared.lines.PortStep.{PortStep}
use Rattle.lan_script.specs.declared.lines.PortStep.TheVariants as steps
use Rattle.lan_script.specs.declared.seat.PortSeat.{PortSeat}

-- the address of an open port
abbrev pub mac_in : Option Settings → Option Mac
mac_in None = None
mac_in (Some settings) = Some settings.mac

abbrev pub mac_at : LanValue → UnitId → Option Mac
mac_at lan unit = mac_in (replay_at lan unit).settings

-- a port that is open has the address that it had, or this one, which it was given
abbrev pub HasMacOf : (given before after : Option Mac) → Type 0
HasMacOf given before None = ⊤
HasMacOf given before (Some mac) = (before ≡ Some mac) ⊎ (given ≡ Some mac)

abbrev pub MovesMac : (given : Option Mac) → (old new : PortReplay) → Type 0
MovesMac given old new = HasMacOf given (mac_in old.settings) (mac_in new.settings)

-- a port that is open has the address that it was given, if it was given one, or else that which it had
abbrev pub SetsMacOf : (given before after : Option Mac) → Type 0
SetsMacOf given before None = ⊤
SetsMacOf None before (Some mac) = before ≡ Some mac
SetsMacOf (Some to) before (Some mac) = mac ≡ to

abbrev pub SetsMac : (given : Option Mac) → (old new : PortReplay) → Type 0
SetsMac given old new = SetsMacOf given (mac_in old.settings) (mac_in new.settings)

-- the address that a line gives where it ends with code 0: `open` that of the seat, and `mac` its own
abbrev pub changed_to : Mac → Outcome → Option Mac
changed_to mac (outcomes.Code Success) = Some mac
changed_to mac _ = None

abbrev pub mac_given : PortSeat → Verb → Outcome → Option Mac
mac_given seat verbs.Open outcome = changed_to seat.mac outcome
mac_given seat (verbs.ChangeMac mac) outcome = changed_to mac outcome
mac_given seat _ outcome = None

-- the same of a step of a line
abbrev pub mac_stepped : PortSeat → Verb → PortStep → Option Mac
mac_stepped seat verb (steps.Ends outcome) = mac_given seat verb outcome
mac_stepped seat verb (steps.Waits did done) = None

-- a step of a line gives its unit's port the address that the line gives, and no other
abbrev pub StepsMac : UnitId → Verb → PortStep → (old new : LanValue) → Type 0
StepsMac unit verb step old new = (seat : PortSeat) → seat_at old.seats unit ≡ Some seat
    → SetsMac (mac_stepped seat verb step) (replay_at old unit) (replay_at new unit)

-- whether lines give an address
abbrev pub gives_mac : Verb → Bool
gives_mac verbs.Open = true
gives_mac (verbs.ChangeMac mac) = true
gives_mac _ = false

-- an address of a group of stations
abbrev pub IsForGroup : Mac → Type 0
IsForGroup mac = IsGroup mac

-- the settings of the unit's port are those of before
abbrev pub SameSettings : UnitId → (old new : LanValue) → Type 0
SameSettings unit old new = (replay_at new unit).settings ≡ (replay_at old unit).settings
