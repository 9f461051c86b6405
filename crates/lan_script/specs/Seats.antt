-- The seats of LAN units, and what their lines may be.
use Rattle.std.specs.Prelude.{◌≡◌, ℕ, Bool, true, false, List, [], ◌∷◌, Option, Some, None, suc, if◌then◌else◌}
use Rattle.vio_num.specs.declared.names.UnitId.{UnitId}
use Rattle.boot_text.specs.Sound.{IsFrom}
use Rattle.boot_text.specs.declared.statement.TheConstants.{MOST_SLOTS, MOST_UNIT_PAGES}
use Rattle.boot_text.specs.declared.verb.Verb.{Verb}
use Rattle.boot_text.specs.declared.verb.Verb.TheVariants as verbs
use Rattle.vio_trace.specs.declared.outcome.Outcome.{Outcome}
use Rattle.vio_trace.specs.declared.outcome.Outcome.TheVariants as outcomes
use Rattle.unit_region.specs.declared.step.Step.{Step}
use Rattle.unit_region.specs.declared.step.Step.TheVariants as region
use Rattle.lan_switch.specs.Switch.{same_unit}
use Rattle.lan_script.specs.declared.lines.PortStep.{PortStep}
use Rattle.lan_script.specs.declared.lines.PortStep.TheVariants as steps
use Rattle.lan_script.specs.declared.seat.PortSeat.{PortSeat}

-- the seat of a unit
abbrev pub seat_at : List PortSeat → UnitId → Option PortSeat
seat_at [] unit = None
seat_at (seat ∷ seats) unit = if same_unit seat.unit unit then Some seat else seat_at seats unit

-- its place, or the number of the seats
abbrev pub seat_place : UnitId → List PortSeat → ℕ
seat_place unit [] = 0
seat_place unit (seat ∷ seats) = if same_unit seat.unit unit then 0 else suc (seat_place unit seats)

-- the sizes of a seat are within their ranges
abbrev pub IsSizedSeat : PortSeat → Type 0
IsSizedSeat seat = IsFrom 1 MOST_UNIT_PAGES seat.pages × IsFrom 1 MOST_SLOTS seat.slots

-- a line that is of a LAN unit
abbrev pub is_for_port : Verb → Bool
is_for_port verbs.Open = true
is_for_port verbs.Close = true
is_for_port (verbs.Post at len count) = true
is_for_port (verbs.Send mac len seed at) = true
is_for_port (verbs.Take count) = true
is_for_port (verbs.ChangeMac mac) = true
is_for_port (verbs.Multicast control mac) = true
is_for_port (verbs.Fill at len seed) = true
is_for_port (verbs.Poke at bytes) = true
is_for_port (verbs.Peek at len) = true
is_for_port (verbs.Tce entry page readable writable) = true
is_for_port _ = false

-- a line in the unit's own region
abbrev pub is_in_region : Verb → Bool
is_in_region (verbs.Fill at len seed) = true
is_in_region (verbs.Poke at bytes) = true
is_in_region (verbs.Peek at len) = true
is_in_region (verbs.Tce entry page readable writable) = true
is_in_region _ = false

-- how a line of a LAN unit ends
abbrev pub is_of_port : Outcome → Bool
is_of_port (outcomes.Code code) = true
is_of_port (outcomes.Frame code number) = true
is_of_port (outcomes.Posted buffers code) = true
is_of_port (outcomes.Took count) = true
is_of_port outcomes.Range = true
is_of_port outcomes.Done = true
is_of_port (outcomes.Bytes shown) = true
is_of_port _ = false

-- how a line in a region ends
abbrev pub is_of_region : Outcome → Bool
is_of_region (outcomes.Code code) = true
is_of_region outcomes.Range = true
is_of_region outcomes.Done = true
is_of_region (outcomes.Bytes shown) = true
is_of_region _ = false

-- a step that ends its line ends it so
abbrev pub TellsOfPort : PortStep → Type 0
TellsOfPort (steps.Ends outcome) = is_of_port outcome ≡ true
TellsOfPort (steps.Waits did done) = Unit {0}

-- a step in a region that ends its line ends it as such a line ends
abbrev pub TellsOfRegion : Step → Type 0
TellsOfRegion (region.Ends outcome) = is_of_region outcome ≡ true
TellsOfRegion (region.Waits did) = Unit {0}
