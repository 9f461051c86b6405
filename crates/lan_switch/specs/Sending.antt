-- What becomes of a frame that a unit sends (LoPAR, "H_SEND_LOGICAL_LAN"): to which ports it is offered, what each of
-- them makes of it, and what the sender is answered.
use Rattle.std.specs.Prelude.{◌≡◌, ◌↔◌, ℕ, ◌+◌, ◌<◌, ◌≤◌, ◌⊎◌, Bool, true, false, All, IsTrue, List, [], ◌∷◌, ◌++◌, Option, Some, None, length, slice_get, set, take, drop, if◌then◌else◌}
use Rattle.std.specs.List.{list_any}
use Rattle.vio_num.specs.declared.names.Mac.{Mac}
use Rattle.vio_num.specs.declared.names.UnitId.{UnitId}
use Rattle.vio_num.specs.declared.hypervisor.Hrc.{Hrc}
use Rattle.vio_num.specs.declared.hypervisor.Hrc.TheVariants.{Success, Busy, Parameter, Dropped, SourceParm}
use Rattle.page_slots.specs.declared.stroke.StrokeName.{StrokeName}
use Rattle.tce_window.specs.declared.answers.HoldFault.{HoldFault}
use Rattle.tce_window.specs.declared.answers.HoldFault.TheVariants.{InUse as HeldInUse}
use Rattle.tce_window.specs.declared.piece.Piece.{Piece}
use Rattle.tce_window.specs.PortState.{PortState, WindowFacts, port_at}
use Rattle.lan_frame.specs.Station.{IsGroup, destination_of}
use Rattle.lan_buffers.specs.declared.answers.Deliver.{Deliver}
use Rattle.lan_buffers.specs.declared.answers.Deliver.TheVariants as sent
use Rattle.lan_buffers.specs.Answers.{IfDone, IfUngranted, IfSentInUse, IsPlain, OnDropped, OnFound, OnNothing, LeavesWindow}
use Rattle.lan_buffers.specs.Calls.{AcceptsTo, Delivers, Drops, FindsBuffer, FindsNoBuffer, FindsNoSize, FindsPageInUse, GivesBlank, IsOpen}
use Rattle.lan_buffers.specs.Port.{PortValue}
use Rattle.lan_switch.specs.declared.answers.Offer.{Offer}
use Rattle.lan_switch.specs.declared.answers.SendRecord.{SendRecord}
use Rattle.lan_switch.specs.declared.station.Station.{Station}
use Rattle.lan_switch.specs.Calls.{CountsCode}
use Rattle.lan_switch.specs.Map.{HasFound}
use Rattle.lan_switch.specs.Source.{AreRead, RefusesPart, parts_len, parts_of}
use Rattle.lan_switch.specs.Switch.{place_of, port_of, same_unit, station_of, unit_of}

-- the bytes of a frame that a LAN unit sends
abbrev pub least_frame : ℕ
least_frame = 14

abbrev pub most_frame : ℕ
most_frame = 65527

-- The unit is a port, and it is registered.
pub record IsRegistered (stations : List Station) (unit : UnitId) : Type 0 where
  pub port : PortValue
  pub here : port_of stations unit ≡ Some port
  pub opened : IsOpen port

-- A call may be made: the unit is registered, and the parts make a frame.
pub record MakesFrame (stations : List Station) (unit : UnitId) (parts : List ℕ) : Type 0 where
  pub registered : IsRegistered stations unit
  pub long_enough : least_frame ≤ parts_len parts
  pub short_enough : parts_len parts ≤ most_frame

abbrev pub IsSending : List Station → UnitId → (descriptors : List ℕ) → Type 0
IsSending stations unit descriptors = MakesFrame stations unit (parts_of descriptors)

-- The place of the unit's station, where the call may be made.
pub record IsSenderPlace (stations : List Station) (unit : UnitId) (parts : List ℕ) (place : ℕ) : Type 0 where
  pub asked : MakesFrame stations unit parts
  pub place_is : place ≡ place_of unit stations
  pub within : place < length stations

-- The windows of the other units before and after frames were delivered through them: what is known of each, and
-- whether a page of it was found in use, by a word of it, when that was known of it.
pub record LanWindows : Type 1 where
  pub is_shared : Bool
  pub facts : UnitId → WindowFacts
  pub facts' : UnitId → WindowFacts
  pub found : UnitId → WindowFacts → (page word : ℕ) → Type 0

-- those that a map reaches, before and after
abbrev pub windows_of : {M : Type 0} → Bool → (state : M → UnitId → WindowFacts) → (Found : M → UnitId → ℕ → ℕ → Type 0) → (old new : M) → LanWindows
windows_of is_shared state Found old new = record {
  is_shared = is_shared;
  facts = state old;
  facts' = state new;
  found = HasFound state Found;
}

-- A frame, its sender's name for it, and the windows through which it was offered.
pub record Offering : Type 1 where
  pub name : StrokeName
  pub frame : List ℕ
  pub windows : LanWindows

-- these, put together
abbrev pub offering : StrokeName → List ℕ → LanWindows → Offering
offering name frame windows = record { name = name; frame = frame; windows = windows }

-- whom a frame is for
abbrev pub to_of : List ℕ → Mac
to_of frame = record { bytes = destination_of frame }

-- a window before and after
abbrev pub before : Offering → UnitId → PortState
before o unit = port_at (o.windows.facts unit)

abbrev pub after : Offering → UnitId → PortState
after o unit = port_at (o.windows.facts' unit)

-- What a port made of a frame, through its unit's window: each answer has its cause, and leaves what it says.
pub record IsOffered (name : StrokeName) (frame : List ℕ) (is_shared : Bool) (window window' : PortState) (Found : ℕ → ℕ → Type 0) (old new : PortValue) (answer : Deliver) : Type 0 where
  pub plain : IsPlain answer
  pub closed : (answer ≡ sent.Closed 0) ↔ (old.settings ≡ None)
  pub no_size : (answer ≡ sent.NoSize) ↔ FindsNoSize old (length frame)
  pub no_buffer : (answer ≡ sent.NoBuffer) ↔ FindsNoBuffer old (length frame)
  pub found : OnFound answer (FindsBuffer old (length frame))
  pub done : IfDone answer (Delivers old name frame new is_shared window window')
  pub ungranted : IfUngranted answer (GivesBlank old name (length frame) new window window')
  pub in_use : IfSentInUse answer (λ page word. FindsPageInUse old (length frame) is_shared window window' page (Found page word))
  pub dropped : OnDropped answer (Drops old new)
  pub nothing : OnNothing answer (new ≡ old)
  pub window_is : LeavesWindow is_shared answer window window'

-- the same of an offering, at a unit
abbrev pub IsOfferedAt : Offering → UnitId → (old new : PortValue) → Deliver → Type 0
IsOfferedAt o unit = IsOffered o.name o.frame o.windows.is_shared (before o unit) (after o unit) (o.windows.found unit (o.windows.facts' unit))

-- Another station than the sender's, whose port accepts frames to this address.
pub record IsTarget (sender : UnitId) (to : Mac) (station : Station) : Type 0 where
  pub other : same_unit (unit_of station) sender ≡ false
  pub accepts : AcceptsTo station.port to

-- The frame is offered to the station's port, which answers so.
pub record Takes (o : Offering) (old new : Station) (answer : Deliver) : Type 0 where
  pub target : IsTarget o.name.who (to_of o.frame) old
  pub offered : IsOfferedAt o (unit_of old) old.port new.port answer
  pub memory : ¬ (answer ≡ sent.NoMemory)
  pub frames : new.frames ≡ old.frames
  pub unit : unit_of new ≡ unit_of old

abbrev pub unit_of_station : Option Station → UnitId
unit_of_station (Some station) = unit_of station
unit_of_station None = record { partition = 0; unit = 0 }

-- the unit of the station at a place
abbrev pub unit_at : List Station → ℕ → UnitId
unit_at stations place = unit_of_station (slice_get stations place)

-- The frame was offered at this place, whose station stays as it is but for its port.
pub record OffersAt (o : Offering) (old new : List Station) (place : ℕ) (offer : Offer) : Type 0 where
  pub station : Station
  pub station' : Station
  pub is : slice_get old place ≡ Some station
  pub unit_is : offer.unit ≡ unit_of station
  pub offered : IsOfferedAt o (unit_of station) station.port station'.port offer.answer
  pub memory : ¬ (offer.answer ≡ sent.NoMemory)
  pub frames : station'.frames ≡ station.frames
  pub unit : unit_of station' ≡ unit_of station
  pub rest : new ≡ set old place station'

-- the station is passed over: it is no target, and stays as it is
abbrev pub IsPassed : Offering → (old new : Station) → Type 0
IsPassed o old new = (¬ IsTarget o.name.who (to_of o.frame) old) × (new ≡ old)

-- the first, or else the second
abbrev pub Either : Bool → Type 0 → Type 0 → Type 0
Either true P Q = P
Either false P Q = Q

-- The offers of a frame, in ascending order of the stations: of a frame to a group (`all`) each target has one; of
-- another frame the first target alone.
abbrev pub AreOffered : Offering → (all : Bool) → (old new : List Station) → List Offer → Type 0
AreOffered o all [] [] offers = offers ≡ []
AreOffered o all (old ∷ olds) (new ∷ news) offers =
    ((answer : Deliver) × (later : List Offer) × (offers ≡ record { unit = unit_of old; answer = answer } ∷ later)
    × Takes o old new answer
    × Either all (AreOffered o all olds news later) ((later ≡ []) × (news ≡ olds)))
    ⊎ (IsPassed o old new × AreOffered o all olds news offers)
AreOffered o all _ _ offers = ⊥

-- whether the unit was offered the frame
abbrev pub has_offer : UnitId → List Offer → Bool
has_offer unit offers = list_any (λ offer. same_unit unit offer.unit) offers

-- A frame went out: to each target if it is for a group, and else to the first; no other window was touched.
pub record GoesOut (o : Offering) (old new : List Station) (offers : List Offer) : Type 0 where
  pub all : Bool
  pub group : IsTrue all ↔ IsGroup (to_of o.frame)
  pub offered : AreOffered o all old new offers
  pub beside : (other : UnitId) → has_offer other offers ≡ false → o.windows.facts' other ≡ o.windows.facts other

-- Memory ran out at a target: those before it took what they were offered, it and all behind it stay, and no window
-- was touched but those of these and its own. A frame to one station was offered to none before it.
pub record StopsAt (o : Offering) (old new : List Station) : Type 0 where
  pub count : ℕ
  pub station : Station
  pub is : slice_get old count ≡ Some station
  pub target : IsTarget o.name.who (to_of o.frame) station
  pub offers : List Offer
  pub offered : AreOffered o true (take count old) (take count new) offers
  pub one : ¬ IsGroup (to_of o.frame) → offers ≡ []
  pub later : drop count new ≡ drop count old
  pub beside : (other : UnitId) → has_offer other offers ≡ false → same_unit other (unit_of station) ≡ false
      → o.windows.facts' other ≡ o.windows.facts other

-- the code of a frame to one station whose one offer, if there is one, has this answer
abbrev pub code_after : Deliver → Hrc
code_after (sent.Done post) = Success
code_after (sent.Turn word) = Busy
code_after (sent.InUse page word) = Busy
code_after _ = Dropped

abbrev pub one_code : List Offer → Hrc
one_code [] = Dropped
one_code (offer ∷ offers) = code_after offer.answer

-- whether a frame with this code has a number
abbrev pub is_numbered : Hrc → Bool
is_numbered Success = true
is_numbered Dropped = true
is_numbered _ = false

-- the stations with this number of frames of the unit
abbrev pub with_frames : UnitId → ℕ → List Station → List Station
with_frames unit frames [] = []
with_frames unit frames (station ∷ stations) =
    if same_unit (unit_of station) unit
    then record station { frames = frames } ∷ stations
    else station ∷ with_frames unit frames stations

abbrev pub frames_of : Option Station → ℕ
frames_of (Some station) = station.frames
frames_of None = 0

-- the number of the unit's next frame
abbrev pub next_number : List Station → UnitId → ℕ
next_number stations unit = frames_of (station_of stations unit) + 1

-- A record that says this code and fault alone.
pub record SaysOnly (code : Hrc) (fault : Option HoldFault) (r : SendRecord) : Type 0 where
  pub code_is : r.code ≡ code
  pub fault_is : r.fault ≡ fault
  pub frame : r.frame ≡ None
  pub from : r.from.items ≡ []
  pub bytes : r.bytes ≡ []
  pub offers : r.offers.items ≡ []

-- the code of a source that was refused
abbrev pub source_code : HoldFault → Hrc
source_code (HeldInUse page word) = Busy
source_code _ = SourceParm

-- what a record says of the frame: all of it, where the frame has a number, and else nothing
abbrev pub SaysFrame : (numbered : Bool) → (number : ℕ) → List Piece → List ℕ → SendRecord → Type 0
SaysFrame true number pieces frame r = (r.frame ≡ Some number) × (r.from.items ≡ pieces) × (r.bytes ≡ frame)
SaysFrame false number pieces frame r = (r.frame ≡ None) × (r.from.items ≡ []) × (r.bytes ≡ [])

-- The call was refused, and nothing changed.
pub record RefusesCall (old new : List Station) (unit : UnitId) (descriptors : List ℕ) (window window' : PortState) (r : SendRecord) : Type 0 where
  pub cause : ¬ IsSending old unit descriptors
  pub says : SaysOnly Parameter None r
  pub stays : new ≡ old
  pub unread : window' ≡ window

-- The frame could not be read, and nothing changed; a page in use was counted.
pub record RefusesSource (is_shared : Bool) (Found : ℕ → ℕ → Type 0) (old new : List Station) (unit : UnitId) (descriptors : List ℕ) (window window' : PortState) (r : SendRecord) : Type 0 where
  pub asked : IsSending old unit descriptors
  pub fault : HoldFault
  pub cause : RefusesPart is_shared Found window window' (parts_of descriptors) fault
  pub says : SaysOnly (source_code fault) (Some fault) r
  pub stays : new ≡ old
  pub counts : CountsCode (source_code fault) window.in_use window'.in_use

-- the name of the unit's next frame
abbrev pub next_name : List Station → UnitId → StrokeName
next_name stations unit = record { who = unit; mark = next_number stations unit }

-- The call may be made, and the frame was read; no page was found in use.
pub record ReadsFrame (old : List Station) (unit : UnitId) (descriptors : List ℕ) (window window' : PortState) (pieces : List Piece) (frame : List ℕ) : Type 0 where
  pub asked : IsSending old unit descriptors
  pub read : AreRead window window' (parts_of descriptors) pieces frame
  pub uncounted : window'.in_use ≡ window.in_use

-- The frame of this name was offered, and the sender answered: it has a number unless its one port was busy.
pub record AnswersFrame (old new : List Station) (name : StrokeName) (pieces : List Piece) (frame : List ℕ) (windows : LanWindows) (r : SendRecord) : Type 0 where
  pub mid : List Station
  pub out : GoesOut (offering name frame windows) old mid r.offers.items
  pub code : r.code ≡ (if out.all then Success else one_code r.offers.items)
  pub fault : r.fault ≡ None
  pub says : SaysFrame (is_numbered r.code) name.mark pieces frame r
  pub rest : new ≡ (if is_numbered r.code then with_frames name.who name.mark mid else mid)

-- The frame was read and offered: to each other port that accepts it, if it is for a group, and else to the lowest.
pub record OffersFrame (old new : List Station) (unit : UnitId) (descriptors : List ℕ) (window window' : PortState) (windows : LanWindows) (r : SendRecord) : Type 0 where
  pub pieces : List Piece
  pub frame : List ℕ
  pub source : ReadsFrame old unit descriptors window window' pieces frame
  pub answered : AnswersFrame old new (next_name old unit) pieces frame windows r

-- no other window was touched
abbrev pub StaysBeside : LanWindows → Type 0
StaysBeside windows = windows.facts' ≡ windows.facts

-- what a send that was answered is: one of three
abbrev pub IsSent : (old new : List Station) → UnitId → List ℕ → (is_shared : Bool) → (Found : ℕ → ℕ → Type 0) → (window window' : PortState) → LanWindows → SendRecord → Type 0
IsSent old new unit descriptors is_shared Found window window' windows r =
    (RefusesCall old new unit descriptors window window' r × StaysBeside windows)
    ⊎ ((RefusesSource is_shared Found old new unit descriptors window window' r × StaysBeside windows)
    ⊎ OffersFrame old new unit descriptors window window' windows r)

-- Memory ran out while the frame of this name was offered: its number is not given again.
pub record LosesFrame (old new : List Station) (name : StrokeName) (frame : List ℕ) (windows : LanWindows) : Type 0 where
  pub mid : List Station
  pub stops : StopsAt (offering name frame windows) old mid
  pub rest : new ≡ with_frames name.who name.mark mid

-- Memory ran out after the frame was read.
pub record StopsOffering (old new : List Station) (unit : UnitId) (descriptors : List ℕ) (window window' : PortState) (windows : LanWindows) : Type 0 where
  pub pieces : List Piece
  pub frame : List ℕ
  pub source : ReadsFrame old unit descriptors window window' pieces frame
  pub lost : LosesFrame old new (next_name old unit) frame windows

-- Memory ran out: before the frame had a number nothing changed.
abbrev pub FailsToSend : (old new : List Station) → UnitId → List ℕ → (window window' : PortState) → LanWindows → Type 0
FailsToSend old new unit descriptors window window' windows =
    ((new ≡ old) × StaysBeside windows)
    ⊎ StopsOffering old new unit descriptors window window' windows
