-- The addresses that a LAN unit has from the plan and from its lines, the frames that are offered to it, and what raw calls make of it.
use Rattle.std.specs.Prelude.{◌≡◌, ◌⊎◌, ◌≤◌, ◌==◌, ℕ, false, List, Option, Some, None, length, slice_index, ⊤, if◌then◌else◌}
use Rattle.std.specs.List.{Contains, slice_get}
use Rattle.vio_num.specs.Words.{Begins}
use Rattle.vio_num.specs.declared.hypervisor.Hrc.TheVariants.{Success}
use Rattle.vio_num.specs.declared.names.Mac.{Mac}
use Rattle.vio_num.specs.declared.names.UnitId.{UnitId}
use Rattle.boot_text.specs.declared.plan.Line.{Line}
use Rattle.boot_text.specs.declared.verb.Verb.{Verb}
use Rattle.boot_text.specs.declared.verb.Verb.TheVariants as verbs
use Rattle.hcall_table.specs.Named.{number_of}
use Rattle.hcall_table.specs.Rows.{row_of}
use Rattle.hcall_table.specs.declared.hcall.Hcall.{Hcall}
use Rattle.hcall_table.specs.declared.hcall.Hcall.TheVariants as rows
use Rattle.hcall_table.specs.declared.named.Named.TheVariants as names
use Rattle.unit_region.specs.declared.step.Step.{Step}
use Rattle.unit_region.specs.declared.step.Step.TheVariants as steps
use Rattle.vio_trace.specs.declared.lan_rows.FrameRow.{FrameRow}
use Rattle.vio_trace.specs.declared.outcome.Outcome.{Outcome}
use Rattle.vio_trace.specs.declared.outcome.Outcome.TheVariants as outcomes
use Rattle.vio_trace.specs.declared.rows.LogRow.{LogRow}
use Rattle.lan_switch.specs.Switch.{same_unit}
use Rattle.lan_script.specs.Buffers.{posted_at}
use Rattle.lan_script.specs.CalledMac.{low_mac}
use Rattle.lan_script.specs.Entries.{ValuesGrow}
use Rattle.lan_script.specs.OwnMac.{IsForGroup, MovesMac, SetsMac, changed_to, mac_at, mac_given}
use Rattle.lan_script.specs.PortCounts.{counts_at}
use Rattle.lan_script.specs.Replayed.{replay_at}
use Rattle.lan_script.specs.Seats.{seat_at}
use Rattle.lan_script.specs.Targets.{offers_to}
use Rattle.lan_script.specs.Units.{LanValue, to_of}
use Rattle.lan_script.specs.declared.seat.PortSeat.{PortSeat}
use Rattle.vcpu_run.specs.Credited.{Ended, ended_by}
use Rattle.vcpu_run.specs.PortReplays.{OffersSince, sent_at}
use Rattle.vcpu_run.specs.Ports.{unit_of}

-- the address that a raw call of a row gives the unit whose address is its first argument, where it succeeds: a registration, and a
-- change of the address
abbrev pub mac_asked : UnitId → Option Hcall → List ℕ → Outcome → Option Mac
mac_asked unit (Some rows.RegisterLogicalLan) args outcome =
    if slice_index args 0 == number_of (names.Unit unit) then changed_to (low_mac (slice_index args 4)) outcome else None
mac_asked unit (Some rows.ChangeLogicalLanMac) args outcome =
    if slice_index args 0 == number_of (names.Unit unit) then changed_to (low_mac (slice_index args 1)) outcome else None
mac_asked unit row args outcome = None

-- the same of a line
abbrev pub mac_by_call : UnitId → Verb → Outcome → Option Mac
mac_by_call unit (verbs.Hcall number args) outcome = mac_asked unit (row_of number) args outcome
mac_by_call unit verb outcome = None

-- A line of the unit's partition made a raw call that gave the unit this address.
pub record IsGiven (unit : UnitId) (lines : List Line) (logs : List LogRow) (mac : Mac) : Type 0 where
  pub at : ℕ
  pub line : Line
  pub row : LogRow
  pub there : slice_get lines at ≡ Some line
  pub logged : slice_get logs at ≡ Some row
  pub gave : mac_by_call unit line.verb row.outcome ≡ Some mac

-- A unit has the address of its seat, that of each of its `mac` lines that ended with code 0, and those that raw calls of its partition gave it.
abbrev pub HasOwnMac : PortSeat → List Ended → Mac → Type 0
HasOwnMac seat own mac = (mac ≡ seat.mac) ⊎ Contains own (record { verb = verbs.ChangeMac mac; outcome = outcomes.Code Success })

abbrev pub HasMac : UnitId → PortSeat → List Line → List LogRow → Mac → Type 0
HasMac unit seat lines logs mac = HasOwnMac seat (ended_by unit.unit lines logs) mac ⊎ IsGiven unit lines logs mac

-- each frame of another unit that has an offer to the port is for a group or for an address that the unit has
abbrev pub OffersAreFor : (port : UnitId) → PortSeat → List Line → List LogRow → (frames : UnitId → List FrameRow) → Type 0
OffersAreFor port seat lines logs frames = (sender : UnitId) → same_unit sender port ≡ false → (frame : FrameRow) → Contains (frames sender) frame
    → 1 ≤ length (offers_to port frame.offers) → IsForGroup (to_of frame) ⊎ HasMac port seat lines logs (to_of frame)

-- While a run goes on, an open port has such an address, and the offers so far are for it.
pub record KeepsMac (lan : LanValue) (unit : UnitId) (seat : PortSeat) (lines : List Line) (logs : List LogRow) : Type 0 where
  pub mac : (mac : Mac) → mac_at lan unit ≡ Some mac → HasMac unit seat lines logs mac
  pub fit : OffersAreFor unit seat lines logs (sent_at lan)

-- What a raw call made of a port of its partition: its address may be this one, which the call gave. It has the frames, the posts, and the
-- values of each entry that it had, in their places, and others behind them, if any, and as many frames at least were taken from its receive queue.
pub record CallsPort (given : Option Mac) (unit : UnitId) (old new : LanValue) : Type 0 where
  pub seats : new.seats ≡ old.seats
  pub since : OffersSince old new unit
  pub moves : MovesMac given (replay_at old unit) (replay_at new unit)
  pub frames : Begins (sent_at old unit) (sent_at new unit)
  pub posted : Begins (posted_at old unit) (posted_at new unit)
  pub taken : (counts_at old unit).taken ≤ (counts_at new unit).taken
  pub values : ValuesGrow unit old new

-- what a call at one unit of a partition made of each port of it
abbrev pub CallsPorts : (partition unit : ℕ) → (given : Option Mac) → (old new : LanValue) → Type 0
CallsPorts partition unit given old new = (u : ℕ) → CallsPort (if unit == u then given else None) (unit_of partition u) old new

-- the record of a raw call says a code or a value
abbrev pub IsOfCall : Outcome → Type 0
IsOfCall (outcomes.Code code) = ⊤
IsOfCall (outcomes.Value value) = ⊤
IsOfCall _ = ⊥

-- what the end of a line that makes a raw call says, and made of them
abbrev pub EndsPorts : (partition : ℕ) → Verb → (old new : LanValue) → Step → Type 0
EndsPorts partition verb old new (steps.Ends outcome) =
    IsOfCall outcome × ((u : ℕ) → CallsPort (mac_by_call (unit_of partition u) verb outcome) (unit_of partition u) old new)
EndsPorts partition verb old new (steps.Waits did) = ⊥

-- the address that a step of a line gives
abbrev pub mac_by : PortSeat → Verb → Step → Option Mac
mac_by seat verb (steps.Ends outcome) = mac_given seat verb outcome
mac_by seat verb (steps.Waits did) = None

-- a step of a line gives the unit's port that address, and no other
abbrev pub StepsMac : UnitId → Verb → (old new : LanValue) → Step → Type 0
StepsMac unit verb old new step = (seat : PortSeat) → seat_at old.seats unit ≡ Some seat → SetsMac (mac_by seat verb step) (replay_at old unit) (replay_at new unit)
