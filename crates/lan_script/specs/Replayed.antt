-- The replay of a port of a run, as the port is, and what steps of lines make of it.
use Rattle.std.specs.Prelude.{◌≡◌, ◌+◌, ◌*◌, ◌/◌, ◌<◌, ◌≤◌, ◌++◌, ℕ, Bool, true, false, List, [], ◌∷◌, Option, Some, None, IfSome, IsSome, length, map, slice_index}
use Rattle.vio_num.specs.declared.names.UnitId.{UnitId}
use Rattle.vio_num.specs.declared.hypervisor.Hrc.{Hrc}
use Rattle.vio_num.specs.declared.hypervisor.Hrc.TheVariants.{Success, Busy, Parameter}
use Rattle.tce_window.specs.Region.{region_byte}
use Rattle.tce_window.specs.Window.{AllThere}
use Rattle.lan_frame.specs.Station.{IsGroup, destination_of}
use Rattle.vio_trace.specs.declared.outcome.Outcome.TheVariants as outcomes
use Rattle.boot_text.specs.declared.verb.Verb.{Verb}
use Rattle.boot_text.specs.declared.verb.Verb.TheVariants as verbs
use Rattle.lan_buffers.specs.Buffer.{buffer_address, buffer_len, most_sizes}
use Rattle.lan_buffers.specs.Pools.{post_len}
use Rattle.lan_buffers.specs.Calls.{closed_port}
use Rattle.lan_buffers.specs.Port.{PortValue, now}
use Rattle.lan_buffers.specs.declared.settings.Settings.{Settings}
use Rattle.lan_switch.specs.Calls.{IsOwnAddress, IsRegistration}
use Rattle.lan_switch.specs.Sending.{least_frame, most_frame}
use Rattle.lan_switch.specs.Source.{parts_of}
use Rattle.lan_switch.specs.Switch.{port_of, same_unit}
use Rattle.vio_num.specs.declared.names.Mac.{Mac}
use Rattle.lan_script.specs.Invariant.{sent_by}
use Rattle.lan_script.specs.PortReplay.{CloseSays, IsBufferLen, IsFrameCode, IsOn, LineSays, OpenSays, PortReplay, different, with_posted}
use Rattle.lan_script.specs.Seats.{IsSizedSeat, seat_at}
use Rattle.lan_script.specs.Units.{LanValue, window_at}
use Rattle.lan_script.specs.Values.{NamesOwn}
use Rattle.lan_script.specs.Windows.{facts_in}
use Rattle.lan_script.specs.declared.lines.PortStep.{PortStep}
use Rattle.lan_script.specs.declared.lines.PortStep.TheVariants as steps
use Rattle.lan_script.specs.declared.seat.PortSeat.{PortSeat}
use Rattle.lan_script.specs.declared.windows.Place.{Place}

-- the settings of a port, and the lengths that were posted in its last session
abbrev pub settings_of : Option PortValue → Option Settings
settings_of None = None
settings_of (Some port) = port.settings

abbrev pub lengths_of : Option PortValue → List ℕ
lengths_of None = []
lengths_of (Some port) = map post_len (now port).posts

-- the sessions of a port so far
abbrev pub sessions_by : Option PortValue → ℕ
sessions_by None = 0
sessions_by (Some port) = length port.drop_counts

-- the bytes of each frame of a unit
abbrev pub bytes_sent : LanValue → UnitId → List (List ℕ)
bytes_sent lan unit = map (λ row. row.bytes) (sent_by lan.seats lan.frames unit)

-- what a port shows of its replay, with the bytes of its frames
abbrev pub replay_of : Option PortValue → (frames : List (List ℕ)) → PortReplay
replay_of port frames = record { settings = settings_of port; lengths = lengths_of port; sessions = sessions_by port; frames = frames }

abbrev pub replay_at : LanValue → UnitId → PortReplay
replay_at lan unit = replay_of (port_of lan.stations unit) (bytes_sent lan unit)

-- every port stands in its replay as it did
abbrev pub SameReplays : (old new : LanValue) → Type 0
SameReplays old new = (unit : UnitId) → replay_at new unit ≡ replay_at old unit

-- every other port does
abbrev pub SameBeside : UnitId → (old new : LanValue) → Type 0
SameBeside unit old new = (other : UnitId) → same_unit other unit ≡ false → replay_at new other ≡ replay_at old other

-- this was done at the port of the unit, and no other stands in its replay elsewhere than before
pub record ReplaysOn (unit : UnitId) (Says : (old new : PortReplay) → Type 0) (old new : LanValue) : Type 0 where
  pub says : Says (replay_at old unit) (replay_at new unit)
  pub beside : SameBeside unit old new

-- whether a line is one of the replay
abbrev pub is_replayed : Verb → Bool
is_replayed verbs.Open = true
is_replayed verbs.Close = true
is_replayed (verbs.ChangeMac mac) = true
is_replayed (verbs.Multicast control mac) = true
is_replayed (verbs.Post at len count) = true
is_replayed (verbs.Send mac len seed at) = true
is_replayed verb = false

-- What a step of a line says: one that ends the line tells what the replay says, and a line of the replay ends in its first step.
abbrev pub StepSays : PortSeat → Verb → PortStep → (old new : PortReplay) → Type 0
StepSays seat verb (steps.Ends outcome) old new = LineSays seat verb outcome old new
StepSays seat verb (steps.Waits did done) old new = (is_replayed verb ≡ false) × (new ≡ old)

-- every value of the unit's window is that with which it began: each entry grants its page, to read and to write
abbrev pub GrantsAll : LanValue → UnitId → Type 0
GrantsAll lan unit = (e : ℕ) → (facts_in lan.places unit).values e ≡ (4096 * e + 3) ∷ []

-- The unit is one of whose lines a replay speaks: its address is one that a unit may have of its own, and no value was put into an
-- entry of its window.
pub record IsReplayable (seat : PortSeat) (lan : LanValue) (unit : UnitId) : Type 0 where
  pub is : seat_at lan.seats unit ≡ Some seat
  pub sized : IsSizedSeat seat
  pub own : IsOwnAddress seat.mac
  pub grants : GrantsAll lan unit

-- a step of a line of such a unit does what the replay says
abbrev pub Replays : UnitId → Verb → PortStep → (old new : LanValue) → Type 0
Replays unit verb step old new = (seat : PortSeat) → IsReplayable seat old unit → ReplaysOn unit (StepSays seat verb step) old new

-- a registration is one that `open` makes at this seat
abbrev pub IsOpening : (list queue filters : ℕ) → Mac → PortSeat → Type 0
IsOpening list queue filters mac seat = IsRegistration list queue filters mac (closed_port seat.unit seat.slots)

-- a line of the replay is in its first step
abbrev pub IsFirst : Verb → (done : ℕ) → Type 0
IsFirst verb done = is_replayed verb ≡ true → done ≡ 0

-- a registration that `open` makes says what the replay says of it
abbrev pub OpensAt : UnitId → (list queue filters : ℕ) → Mac → Hrc → (old new : LanValue) → Type 0
OpensAt unit list queue filters mac code old new = (seat : PortSeat) → seat_at old.seats unit ≡ Some seat → IsOpening list queue filters mac seat
    → ReplaysOn unit (λ a b. OpenSays mac a.settings (outcomes.Code code) a b) old new

-- so does a call that frees the port
abbrev pub ClosesAt : UnitId → Hrc → (old new : LanValue) → Type 0
ClosesAt unit code old new = ReplaysOn unit (λ a b. CloseSays a.settings (outcomes.Code code) a b) old new

-- A call that posts a buffer of this length, which is one or is none, says this: it is posted, or nothing changed.
pub record AddSays (len : ℕ) (IsOne : Type 0) (code : Hrc) (old new : PortReplay) : Type 0 where
  pub posted : code ≡ Success → new ≡ record old { lengths = with_posted len 1 old.lengths }
  pub refused : ¬ (code ≡ Success) → new ≡ old
  pub parameter : ¬ (IsOn old × IsOne) → code ≡ Parameter
  pub ends : ¬ (code ≡ Busy)

-- so many buffers of this length were posted
abbrev pub HasPosted : (len count : ℕ) → (old new : PortReplay) → Type 0
HasPosted len count old new = new ≡ record old { lengths = with_posted len count old.lengths }

-- each page of the unit's window is in its place
abbrev pub HasPages : LanValue → UnitId → Type 0
HasPages lan unit = IfSome (window_at lan unit) (λ window. AllThere window.pages)

-- A frame was sent: it has the next number, and these bytes; one for a group succeeds.
pub record SendsFrame (code : Hrc) (number : ℕ) (old new : PortReplay) : Type 0 where
  pub number_is : number ≡ length old.frames + 1
  pub code_is : IsFrameCode code
  pub bytes : List ℕ
  pub left_is : new ≡ record old { frames = old.frames ++ bytes ∷ [] }
  pub group : IsGroup (record { bytes = destination_of bytes }) → code ≡ Success

-- a call that sends says this of a frame that has a number
abbrev pub SentSays : Hrc → (number : Option ℕ) → (old new : PortReplay) → Type 0
SentSays code None old new = new ≡ old
SentSays code (Some number) old new = SendsFrame code number old new

-- The region of a unit shows these bytes from this address on.
pub record Shows (places : List Place) (unit : UnitId) (at : ℕ) (bytes : List ℕ) : Type 0 where
  pub there : (k : ℕ) → k < length bytes → IsSome ((facts_in places unit).strokes ((at + k) / 4096))
  pub each : (k : ℕ) → k < length bytes → region_byte (facts_in places unit).strokes (at + k) ≡ slice_index bytes k

-- A frame of one part, of this address and length, which is that of a frame.
pub record IsOnePart (at len : ℕ) (descriptors : List ℕ) : Type 0 where
  pub part : ℕ
  pub alone : parts_of descriptors ≡ part ∷ []
  pub at_is : buffer_address part ≡ at
  pub len_is : buffer_len part ≡ len
  pub sized : (least_frame ≤ len) × (len ≤ most_frame)

-- It may be sent: the port is open, and its window grants the part.
pub record MayGoOut (lan : LanValue) (unit : UnitId) (descriptors : List ℕ) : Type 0 where
  pub opened : IsOn (replay_at lan unit)
  pub grants : GrantsAll lan unit
  pub seat : PortSeat
  pub seat_is : seat_at lan.seats unit ≡ Some seat
  pub at : ℕ
  pub len : ℕ
  pub part : IsOnePart at len descriptors
  pub inside : at + len ≤ 4096 * seat.pages

-- What becomes of a frame: from a closed port it goes nowhere, and one that may be sent has a number.
pub record GoesOut (lan : LanValue) (unit : UnitId) (descriptors : List ℕ) (code : Hrc) (number : Option ℕ) : Type 0 where
  pub closed : (replay_at lan unit).settings ≡ None → (code ≡ Parameter) × (number ≡ None)
  pub numbered : MayGoOut lan unit descriptors → IsSome number

-- A frame of one part, of a window whose entries name their own pages, has the bytes that the region shows there.
abbrev pub HasShown : LanValue → UnitId → (descriptors : List ℕ) → (frame : List ℕ) → Type 0
HasShown lan unit descriptors frame = (at : ℕ) (bytes : List ℕ) → IsOnePart at (length bytes) descriptors → NamesOwn lan unit → Shows lan.places unit at bytes
    → frame ≡ bytes

-- the same of a frame that was sent, if it has a number
abbrev pub SendsShown : UnitId → (descriptors : List ℕ) → (number : Option ℕ) → (old new : LanValue) → Type 0
SendsShown unit descriptors number old new = IsSome number → (at : ℕ) (bytes : List ℕ) → IsOnePart at (length bytes) descriptors → NamesOwn old unit
    → Shows old.places unit at bytes → (replay_at new unit).frames ≡ (replay_at old unit).frames ++ bytes ∷ []

-- a frame that has a number is the last that the unit sent, and has these bytes
abbrev pub AddsBytes : UnitId → (number : Option ℕ) → (bytes : List ℕ) → (old new : LanValue) → Type 0
AddsBytes unit number bytes old new = IsSome number → bytes_sent new unit ≡ bytes_sent old unit ++ bytes ∷ []

-- A buffer of this address and length has a place at the unit's port even if no frame came, and its window grants the buffer.
pub record FitsOne (lan : LanValue) (unit : UnitId) (at len : ℕ) : Type 0 where
  pub opened : IsOn (replay_at lan unit)
  pub len_is : IsBufferLen len
  pub grants : GrantsAll lan unit
  pub seat : PortSeat
  pub seat_is : seat_at lan.seats unit ≡ Some seat
  pub inside : at + len ≤ 4096 * seat.pages
  pub few : length (replay_at lan unit).lengths + 1 ≤ seat.slots
  pub sizes : length (different (with_posted len 1 (replay_at lan unit).lengths)) ≤ most_sizes
