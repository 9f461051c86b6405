-- The offers of a LAN unit's frames, by where the other plain ports of its partition stand in their replays.
use Rattle.std.specs.Prelude.{◌≡◌, ◌≢◌, ◌≤◌, ℕ, false, List, [], ◌∷◌, Some, length, slice_get, take}
use Rattle.std.specs.List.{Contains}
use Rattle.vio_num.specs.declared.hypervisor.Hrc.{Hrc}
use Rattle.vio_num.specs.declared.names.Mac.{Mac}
use Rattle.vio_num.specs.declared.names.UnitId.{UnitId}
use Rattle.boot_text.specs.declared.plan.Line.{Line}
use Rattle.boot_text.specs.declared.verb.Verb.TheVariants as verbs
use Rattle.lan_switch.specs.Calls.{IsOwnAddress}
use Rattle.lan_script.specs.PortReplay.{PortReplay, closed_replay}
use Rattle.lan_script.specs.Seats.{IsSizedSeat, seat_at}
use Rattle.lan_switch.specs.Switch.{port_of, same_unit}
use Rattle.lan_script.specs.Spent.{IsNamed}
use Rattle.lan_script.specs.Targets.{IsTarget, OffersTo, SpentFor, least_for, offers_to}
use Rattle.lan_script.specs.Units.{LanValue, to_of}
use Rattle.vio_num.specs.Words.{Begins}
use Rattle.lan_script.specs.declared.seat.PortSeat.{PortSeat}
use Rattle.vio_trace.specs.declared.lan_rows.DeliverRow.{DeliverRow}
use Rattle.vio_trace.specs.declared.lan_rows.FrameRow.{FrameRow}
use Rattle.vio_trace.specs.declared.lan_rows.Offered.TheVariants.{NoBuffer}
use Rattle.vio_trace.specs.declared.outcome.Outcome.TheVariants as outcomes
use Rattle.vio_trace.specs.declared.rows.LogRow.{LogRow}
use Rattle.vcpu_run.specs.declared.script.Script.{Script}
use Rattle.vcpu_run.specs.declared.unit_seat.Seat.{Seat}
use Rattle.vcpu_run.specs.declared.unit_seat.Seat.TheVariants as sits
use Rattle.vcpu_run.specs.Credited.{Ended, ended_by}
use Rattle.vcpu_run.specs.PortReplays.{AreReplayed, IsPlainPort, sent_at}
use Rattle.vcpu_run.specs.Ports.{unit_of}

-- A port is a target of frames to this address, as some of its lines from the first on leave it.
pub record WasTarget (seat : PortSeat) (own : List Ended) (to : Mac) : Type 0 where
  pub before : List Ended
  pub begins : Begins before own
  pub left : PortReplay
  pub replayed : AreReplayed seat closed_replay before left
  pub target : IsTarget left to

-- Each frame of another unit that has an offer to the port was for it.
abbrev pub OffersFit : (port : UnitId) (seat : PortSeat) (own : List Ended) (frames : UnitId → List FrameRow) → Type 0
OffersFit port seat own frames = (sender : UnitId) → same_unit sender port ≡ false → (frame : FrameRow) → Contains (frames sender) frame
    → 1 ≤ length (offers_to port frame.offers) → WasTarget seat own (to_of frame)

-- the same of each plain port of a script, while a run goes on
abbrev pub TellsFit : LanValue → Script → Type 0
TellsFit lan script = (unit : ℕ) → IsPlainPort unit script.lines.now → slice_get script.seats.items unit ≡ Some sits.Port → (seat : PortSeat)
    → seat_at lan.seats (unit_of script.partition unit) ≡ Some seat → IsSizedSeat seat → IsOwnAddress seat.mac
    → OffersFit (unit_of script.partition unit) seat (ended_by unit script.lines.now script.logs.items) (sent_at lan)

-- The line of this number sends from the unit, and it ended with a frame of this number.
pub record EndsFrame (lines : List Line) (logs : List LogRow) (unit at number : ℕ) : Type 0 where
  pub to : Mac
  pub len : ℕ
  pub seed : ℕ
  pub from : ℕ
  pub line : Line
  pub there : slice_get lines at ≡ Some line
  pub unit_is : line.unit ≡ unit
  pub verb_is : line.verb ≡ verbs.Send to len seed from
  pub code : Hrc
  pub row : LogRow
  pub logged : slice_get logs at ≡ Some row
  pub outcome_is : row.outcome ≡ outcomes.Frame code number

-- The frame was offered, or not, to a port as its lines so far leave it. Where it found no buffer, each post so far that is long enough is
-- named by a delivery.
pub record GoesTo (port : UnitId) (seat : PortSeat) (own : List Ended) (frame : FrameRow) (delivers : List DeliverRow) : Type 0 where
  pub left : PortReplay
  pub replayed : AreReplayed seat closed_replay own left
  pub offers : OffersTo port left frame
  pub no_buffer : offers_to port frame.offers ≡ NoBuffer ∷ [] → (number len : ℕ) → slice_get left.lengths number ≡ Some len
      → least_for frame ≤ len → IsNamed delivers port left.sessions number

-- The same while a run goes on.
pub record GoesNow (lan : LanValue) (port : UnitId) (seat : PortSeat) (own : List Ended) (frame : FrameRow) : Type 0 where
  pub left : PortReplay
  pub replayed : AreReplayed seat closed_replay own left
  pub offers : OffersTo port left frame
  pub spent : SpentFor port frame left (port_of lan.stations port)

-- The frame of this number is among these, and was offered to each other plain port of its partition as the lines that ended before leave it.
pub record FrameGoes (partition : ℕ) (seats : List PortSeat) (lines : List Line) (before : List LogRow) (unit number : ℕ) (frames : List FrameRow)
    (delivers : UnitId → List DeliverRow) : Type 0 where
  pub frame : FrameRow
  pub kept : Contains frames frame
  pub number_is : frame.number ≡ number
  pub goes : (port : ℕ) (seat : PortSeat) → port ≢ unit → IsPlainPort port lines → seat_at seats (unit_of partition port) ≡ Some seat
      → GoesTo (unit_of partition port) seat (ended_by port lines before) frame (delivers (unit_of partition port))

-- The same while a run goes on.
pub record KeepsOffers (lan : LanValue) (partition : ℕ) (seats : List Seat) (lines : List Line) (before : List LogRow) (unit number : ℕ) : Type 0 where
  pub frame : FrameRow
  pub kept : Contains (sent_at lan (unit_of partition unit)) frame
  pub number_is : frame.number ≡ number
  pub goes : (port : ℕ) (seat : PortSeat) → port ≢ unit → IsPlainPort port lines → slice_get seats port ≡ Some sits.Port
      → seat_at lan.seats (unit_of partition port) ≡ Some seat → IsSizedSeat seat → IsOwnAddress seat.mac
      → GoesNow lan (unit_of partition port) seat (ended_by port lines before) frame

-- each line of a plain port that ended with a frame
abbrev pub OffersOver : LanValue → (partition : ℕ) → List Seat → List Line → List LogRow → Type 0
OffersOver lan partition seats lines logs = (unit : ℕ) → IsPlainPort unit lines → slice_get seats unit ≡ Some sits.Port → (at number : ℕ)
    → EndsFrame lines logs unit at number → KeepsOffers lan partition seats lines (take at logs) unit number

-- the same of the lines of a script
abbrev pub TellsOffers : LanValue → Script → Type 0
TellsOffers lan script = OffersOver lan script.partition script.seats.items script.lines.now script.logs.items
