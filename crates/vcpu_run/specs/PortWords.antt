-- What the records of a LAN unit's lines say of its port: the frames that it sent, the buffers that it posted, and the frames
-- that it took from its receive queue.
use Rattle.std.specs.Prelude.{◌≡◌, ℕ, ◌+◌, ◌*◌, ◌≤◌, ◌==◌, false, All, List, [], ◌∷◌, ◌++◌, Option, Some, None, filter, length, map, slice_get, take, if◌then◌else◌}
use Rattle.vio_num.specs.declared.hypervisor.Hrc.{Hrc}
use Rattle.vio_num.specs.declared.names.UnitId.{UnitId}
use Rattle.boot_text.specs.declared.plan.Line.{Line}
use Rattle.boot_text.specs.declared.plan.Partition.{Partition}
use Rattle.lan_switch.specs.Switch.{same_unit}
use Rattle.vio_trace.specs.declared.lan_rows.FrameRow.{FrameRow}
use Rattle.vio_trace.specs.declared.outcome.Outcome.{Outcome}
use Rattle.vio_trace.specs.declared.outcome.Outcome.TheVariants as outcomes
use Rattle.vio_trace.specs.declared.rows.Trace.{Trace}
use Rattle.lan_script.specs.Buffers.{posted_at}
use Rattle.lan_script.specs.Correlators.{CarriesAddress}
use Rattle.lan_script.specs.Entries.{values_at}
use Rattle.lan_script.specs.Invariant.{sent_by}
use Rattle.lan_script.specs.PortCounts.{PortCounts, counts, counts_at, counts_by, counts_told, is_frame}
use Rattle.lan_script.specs.PortReplay.{IsOn, PortReplay, closed_replay}
use Rattle.lan_script.specs.Seats.{IsSizedSeat, seat_at}
use Rattle.lan_script.specs.Units.{LanValue}
use Rattle.lan_script.specs.declared.seat.PortSeat.{PortSeat}
use Rattle.lan_switch.specs.Calls.{IsOwnAddress}
use Rattle.vcpu_run.specs.declared.script.Progress.{Progress}
use Rattle.vcpu_run.specs.declared.script.Progress.TheVariants as progress
use Rattle.vcpu_run.specs.declared.script.Script.{Script}
use Rattle.vcpu_run.specs.declared.unit_seat.Seat.TheVariants as sits
use Rattle.vcpu_run.specs.Among.{AreAmong}
use Rattle.vcpu_run.specs.Credited.{Ended, ended_by}
use Rattle.vcpu_run.specs.FailedPorts.{TellsClosed}
use Rattle.vcpu_run.specs.Ports.{IsPortOf, ports_of, unit_of}
use Rattle.vcpu_run.specs.PortCalls.{TellsEntries}
use Rattle.vcpu_run.specs.PortBytes.{KeepsBytes, NamesOwnPages, bytes_told}
use Rattle.vcpu_run.specs.PortMacs.{KeepsMac, OffersAreFor}
use Rattle.vcpu_run.specs.PortOffers.{EndsFrame, FrameGoes, OffersFit, TellsFit, TellsOffers}
use Rattle.vcpu_run.specs.PortPosts.{AreInForm, AreRanged, IsUnder, buffers_of, buffers_under}
use Rattle.vcpu_run.specs.PortRegions.{AreInTurn, KeepsLogged, KeepsTold, RegionsAreTold, StrokesAreLogged}
use Rattle.vcpu_run.specs.PortReplays.{AreReplayed, IsFirstOf, IsPlainPort, KeepsReplay}
use Rattle.vcpu_run.specs.Settled.{script_of}
use Rattle.vcpu_run.specs.Shown.{records_of, values_shown}
use Rattle.vcpu_run.specs.Suited.{is_call}
use Rattle.vcpu_run.specs.ValuesPut.{AreValuesTold, KeepsPuts, values_told}

-- a frame, by its code and its number
pub record FrameTold : Type 0 where
  pub code : Hrc
  pub number : ℕ

abbrev pub frame_told : FrameRow → FrameTold
frame_told row = record { code = row.code; number = row.number }

-- the frame of which the end of a line tells
abbrev pub frame_of : Outcome → List FrameTold
frame_of (outcomes.Frame code number) = record { code = code; number = number } ∷ []
frame_of _ = []

-- the frames of which lines tell that ended, in order; the buffers that they tell as posted, and the frames as taken
abbrev pub frames_told : List Ended → List FrameTold
frames_told [] = []
frames_told (ended ∷ more) = frame_of ended.outcome ++ frames_told more

abbrev pub posts_told : List Ended → ℕ
posts_told [] = 0
posts_told (ended ∷ more) = (counts_told ended.outcome).posts + posts_told more

abbrev pub taken_told : List Ended → ℕ
taken_told [] = 0
taken_told (ended ∷ more) = (counts_told ended.outcome).taken + taken_told more

-- no line of a script makes a raw hypervisor call
abbrev pub HasNoCall : List Line → Type 0
HasNoCall lines = All (λ line. is_call line.verb ≡ false) lines

-- What the lines of a unit tell is what the trace shows of its port: its frames, each with its code and its number, in order;
-- as many buffers as it posted; and as many frames, at most, as it took.
pub record LinesTell (own : List Ended) (trace : Trace) (unit : UnitId) : Type 0 where
  pub frames : frames_told own ≡ map frame_told (filter (λ row. same_unit row.unit unit) trace.frames)
  pub posts : posts_told own ≡ length (filter (λ row. same_unit row.unit unit) trace.posts)
  pub taken : taken_told own ≤ length (filter (λ row. is_frame row.high) (filter (λ row. same_unit row.unit unit) trace.harvests))

-- the same of each port of a plan whose partition makes no raw call
abbrev pub WordsAreTold : List Partition → Trace → Type 0
WordsAreTold partitions trace = (unit : UnitId) → IsPortOf (ports_of partitions) unit → HasNoCall (script_of partitions unit.partition)
    → LinesTell (ended_by unit.unit (script_of partitions unit.partition) (records_of trace unit.partition)) trace unit

-- The same whatever raw calls the unit's partition makes: each frame of which a line tells is among those of the port, with its code and its
-- number, each buffer among those that it posted, and each value that a line put behind the first of its entry, in their order; and its lines
-- tell of no more frames taken than were.
pub record LinesAreAmong (own : List Ended) (trace : Trace) (unit : UnitId) : Type 0 where
  pub frames : AreAmong (frames_told own) (map frame_told (filter (λ row. same_unit row.unit unit) trace.frames))
  pub posts : AreAmong (buffers_of own) (map (λ row. row.descriptor) (filter (λ row. same_unit row.unit unit) trace.posts))
  pub values : (e : ℕ) → AreAmong ((4096 * e + 3) ∷ values_told e own) (values_shown trace unit e)
  pub taken : taken_told own ≤ length (filter (λ row. is_frame row.high) (filter (λ row. same_unit row.unit unit) trace.harvests))

abbrev pub WordsAreAmong : List Partition → Trace → Type 0
WordsAreAmong partitions trace = (unit : UnitId) → IsPortOf (ports_of partitions) unit
    → LinesAreAmong (ended_by unit.unit (script_of partitions unit.partition) (records_of trace unit.partition)) trace unit

-- each `send` line of a port ends with `range` exactly where its frame does not lie in the region
abbrev pub SendsAreRanged : List Partition → Trace → Type 0
SendsAreRanged partitions trace = (unit : UnitId) (seat : PortSeat) → seat_at (ports_of partitions) unit ≡ Some seat
    → AreRanged seat (ended_by unit.unit (script_of partitions unit.partition) (records_of trace unit.partition))

-- how many sessions a trace shows of a port
abbrev pub sessions_shown : Trace → UnitId → ℕ
sessions_shown trace unit = length (filter (λ row. same_unit row.unit unit) trace.ports)

-- The records of a port are what the replay of its lines says, its frames have the bytes of those of the replay, and it has as many
-- sessions. Where it leaves the port open, all deliveries of the last session were harvested.
pub record IsPortReplayed (seat : PortSeat) (own : List Ended) (trace : Trace) (unit : UnitId) : Type 0 where
  pub left : PortReplay
  pub replayed : AreReplayed seat closed_replay own left
  pub frames : map (λ row. row.bytes) (filter (λ row. same_unit row.unit unit) trace.frames) ≡ left.frames
  pub sessions : sessions_shown trace unit ≡ left.sessions
  pub harvested : IsOn left
      → length (filter (λ row. row.session == sessions_shown trace unit) (filter (λ row. same_unit row.unit unit) trace.harvests))
      ≡ length (filter (λ row. row.session == sessions_shown trace unit) (filter (λ row. same_unit row.unit unit) trace.delivers))

-- the same of each plain port of a plan
abbrev pub PortsAreReplayed : List Partition → Trace → Type 0
PortsAreReplayed partitions trace = (unit : UnitId) (seat : PortSeat) → seat_at (ports_of partitions) unit ≡ Some seat
    → IsPlainPort unit.unit (script_of partitions unit.partition)
    → IsPortReplayed seat (ended_by unit.unit (script_of partitions unit.partition) (records_of trace unit.partition)) trace unit

-- each frame of a line of a plain port was offered to the other plain ports of its partition as the lines before leave them
abbrev pub FramesAreOffered : List Partition → Trace → Type 0
FramesAreOffered partitions trace = (unit : UnitId) → IsPortOf (ports_of partitions) unit → IsPlainPort unit.unit (script_of partitions unit.partition)
    → (at number : ℕ) → EndsFrame (script_of partitions unit.partition) (records_of trace unit.partition) unit.unit at number
    → FrameGoes unit.partition (ports_of partitions) (script_of partitions unit.partition) (take at (records_of trace unit.partition)) unit.unit number
    (filter (λ row. same_unit row.unit unit) trace.frames) (λ port. filter (λ row. same_unit row.unit port) trace.delivers)

-- each frame of another unit that has an offer to a plain port was for it, by some of its lines
abbrev pub OffersAreFit : List Partition → Trace → Type 0
OffersAreFit partitions trace = (unit : UnitId) (seat : PortSeat) → seat_at (ports_of partitions) unit ≡ Some seat
    → IsPlainPort unit.unit (script_of partitions unit.partition)
    → OffersFit unit seat (ended_by unit.unit (script_of partitions unit.partition) (records_of trace unit.partition))
    (λ sender. filter (λ row. same_unit row.unit sender) trace.frames)

-- the `post` lines of a unit that tell how many buffers they posted are those of its posts, in order: each at its address, of its length
abbrev pub BuffersAreTold : List Partition → Trace → Type 0
BuffersAreTold partitions trace = (unit : UnitId) → IsPortOf (ports_of partitions) unit → HasNoCall (script_of partitions unit.partition)
    → buffers_of (ended_by unit.unit (script_of partitions unit.partition) (records_of trace unit.partition))
    ≡ map (λ row. row.descriptor) (filter (λ row. same_unit row.unit unit) trace.posts)

-- each line of a port ends in its form, and none took more frames than it says
abbrev pub LinesAreInForm : List Partition → Trace → Type 0
LinesAreInForm partitions trace = (unit : UnitId) → IsPortOf (ports_of partitions) unit
    → AreInForm (ended_by unit.unit (script_of partitions unit.partition) (records_of trace unit.partition))

-- a port has offers only of frames to groups and to addresses that it has from the plan or a line, raw calls of its partition among these
abbrev pub OffersHaveAddress : List Partition → Trace → Type 0
OffersHaveAddress partitions trace = (unit : UnitId) (seat : PortSeat) → seat_at (ports_of partitions) unit ≡ Some seat
    → OffersAreFor unit seat (script_of partitions unit.partition) (records_of trace unit.partition)
    (λ sender. filter (λ row. same_unit row.unit sender) trace.frames)

-- where no line of its partition makes a raw call, and none of its own lets an entry name another page, the frames of a port are those of its
-- lines: each is for the line's address and from the present one, with the line's pattern, and as long as the line says
abbrev pub FramesHaveBytes : List Partition → Trace → Type 0
FramesHaveBytes partitions trace = (unit : UnitId) (seat : PortSeat) → seat_at (ports_of partitions) unit ≡ Some seat
    → HasNoCall (script_of partitions unit.partition) → NamesOwnPages unit.unit (script_of partitions unit.partition)
    → bytes_told seat seat.mac (ended_by unit.unit (script_of partitions unit.partition) (records_of trace unit.partition))
    ≡ map (λ row. row.bytes) (filter (λ row. same_unit row.unit unit) trace.frames)

-- there, too, each post of the port has its buffer's address as its correlator
abbrev pub PostsCarryAddresses : List Partition → Trace → Type 0
PostsCarryAddresses partitions trace = (unit : UnitId) → IsPortOf (ports_of partitions) unit → HasNoCall (script_of partitions unit.partition)
    → NamesOwnPages unit.unit (script_of partitions unit.partition)
    → All CarriesAddress (filter (λ row. same_unit row.unit unit) trace.posts)

-- where no line of its partition makes a raw call, the values of the entries of a port's window are those that its lines say they put
abbrev pub ValuesAreTold : List Partition → Trace → Type 0
ValuesAreTold partitions trace = (unit : UnitId) → IsPortOf (ports_of partitions) unit → HasNoCall (script_of partitions unit.partition)
    → AreValuesTold trace unit (ended_by unit.unit (script_of partitions unit.partition) (records_of trace unit.partition))

-- What the records of a plan's ports tell.
pub record PortsAreTold (partitions : List Partition) (trace : Trace) : Type 0 where
  pub words : WordsAreTold partitions trace
  pub among : WordsAreAmong partitions trace
  pub ranges : SendsAreRanged partitions trace
  pub buffers : BuffersAreTold partitions trace
  pub forms : LinesAreInForm partitions trace
  pub values : ValuesAreTold partitions trace
  pub regions : RegionsAreTold partitions trace
  pub logged : StrokesAreLogged partitions trace
  pub addressed : OffersHaveAddress partitions trace
  pub bytes : FramesHaveBytes partitions trace
  pub correlators : PostsCarryAddresses partitions trace
  pub replayed : PortsAreReplayed partitions trace
  pub offered : FramesAreOffered partitions trace
  pub fit : OffersAreFit partitions trace

-- the frames of a unit, while a run goes on
abbrev pub frames_at : LanValue → UnitId → List FrameTold
frames_at lan unit = map frame_told (sent_by lan.seats lan.frames unit)

-- how far a line came
abbrev pub done_in : Progress → ℕ
done_in (progress.Took taken) = taken
done_in (progress.Posted posted) = posted
done_in _ = 0

-- what the current line of a script did at a unit, if it is of that unit
abbrev pub counts_under : (unit done : ℕ) → Option Line → PortCounts
counts_under unit done None = counts 0 0
counts_under unit done (Some line) = if line.unit == unit then counts_by line.verb done else counts 0 0

abbrev pub counts_now : (unit : ℕ) → Script → PortCounts
counts_now unit script = counts_under unit (done_in script.progress) (slice_get script.lines.now script.at)

-- What the lines of a script's unit tell, with what the current one did so far, is what its port did.
pub record TellsPort (own : List Ended) (now : PortCounts) (lan : LanValue) (unit : UnitId) : Type 0 where
  pub frames : frames_told own ≡ frames_at lan unit
  pub posts : posts_told own + now.posts ≡ (counts_at lan unit).posts
  pub taken : taken_told own + now.taken ≤ (counts_at lan unit).taken

abbrev pub TellsWords : LanValue → Script → Type 0
TellsWords lan script = HasNoCall script.lines.now → (unit : ℕ) → slice_get script.seats.items unit ≡ Some sits.Port
    → TellsPort (ended_by unit script.lines.now script.logs.items) (counts_now unit script) lan (unit_of script.partition unit)

-- the buffers that the lines of each port of a script tell, with those of the current one so far, are those that it posted
abbrev pub buffers_now : (unit : ℕ) → Script → List ℕ
buffers_now unit script = buffers_under unit (done_in script.progress) (slice_get script.lines.now script.at)

abbrev pub TellsBuffers : LanValue → Script → Type 0
TellsBuffers lan script = HasNoCall script.lines.now → (unit : ℕ) → slice_get script.seats.items unit ≡ Some sits.Port
    → buffers_of (ended_by unit script.lines.now script.logs.items) ++ buffers_now unit script ≡ posted_at lan (unit_of script.partition unit)

-- What the lines of a unit tell, with what the current one did so far, is among what its port did.
pub record KeepsAmong (own : List Ended) (buffers : List ℕ) (now : PortCounts) (lan : LanValue) (unit : UnitId) : Type 0 where
  pub frames : AreAmong (frames_told own) (frames_at lan unit)
  pub posts : AreAmong (buffers_of own ++ buffers) (posted_at lan unit)
  pub values : (e : ℕ) → AreAmong ((4096 * e + 3) ∷ values_told e own) (values_at lan unit e)
  pub taken : taken_told own + now.taken ≤ (counts_at lan unit).taken

abbrev pub TellsAmong : LanValue → Script → Type 0
TellsAmong lan script = (unit : ℕ) → slice_get script.seats.items unit ≡ Some sits.Port
    → KeepsAmong (ended_by unit script.lines.now script.logs.items) (buffers_now unit script) (counts_now unit script) lan (unit_of script.partition unit)

-- the `send` lines of each port of a script say `range` where they are to
abbrev pub TellsRanges : LanValue → Script → Type 0
TellsRanges lan script = (unit : ℕ) → slice_get script.seats.items unit ≡ Some sits.Port → (seat : PortSeat)
    → seat_at lan.seats (unit_of script.partition unit) ≡ Some seat → AreRanged seat (ended_by unit script.lines.now script.logs.items)

-- the values of the entries of each port of a script are those that its lines say they put
abbrev pub TellsValues : LanValue → Script → Type 0
TellsValues lan script = HasNoCall script.lines.now → (unit : ℕ) → slice_get script.seats.items unit ≡ Some sits.Port
    → KeepsPuts (ended_by unit script.lines.now script.logs.items) lan (unit_of script.partition unit)

-- the lines of each port of a script say what was so of its region as they ended, and there is what they say
abbrev pub TellsRegions : LanValue → Script → Type 0
TellsRegions lan script = AreInTurn script.lines.now script.logs.items script.at → (unit : ℕ) → slice_get script.seats.items unit ≡ Some sits.Port
    → KeepsTold script.lines.now script.logs.items lan (unit_of script.partition unit)

-- the strokes of each port of a script in its own region bear the numbers of its lines, of those that ended or of the current one
abbrev pub TellsLogged : LanValue → Script → Type 0
TellsLogged lan script = (unit : ℕ) → slice_get script.seats.items unit ≡ Some sits.Port
    → KeepsLogged script.lines.now script.logs.items script.at lan (unit_of script.partition unit)

-- each line of a port of a script ends in its form, and took no more than it says
pub record TakesOwn (script : Script) (unit : ℕ) : Type 0 where
  pub ended : AreInForm (ended_by unit script.lines.now script.logs.items)
  pub now : IsUnder unit (done_in script.progress) (slice_get script.lines.now script.at)

abbrev pub TellsTakes : Script → Type 0
TellsTakes script = (unit : ℕ) → slice_get script.seats.items unit ≡ Some sits.Port → TakesOwn script unit

-- each port of a script has an address from the plan or its lines, and the offers so far are for it
abbrev pub TellsMacs : LanValue → Script → Type 0
TellsMacs lan script = (unit : ℕ) → slice_get script.seats.items unit ≡ Some sits.Port → (seat : PortSeat)
    → seat_at lan.seats (unit_of script.partition unit) ≡ Some seat
    → KeepsMac lan (unit_of script.partition unit) seat script.lines.now script.logs.items

-- the frames of each port of a script whose entries name their own pages are those of its lines, and its posts carry their buffers' addresses
abbrev pub TellsBytes : LanValue → Script → Type 0
TellsBytes lan script = HasNoCall script.lines.now → (unit : ℕ) → NamesOwnPages unit script.lines.now → slice_get script.seats.items unit ≡ Some sits.Port
    → (seat : PortSeat) → seat_at lan.seats (unit_of script.partition unit) ≡ Some seat
    → KeepsBytes lan (unit_of script.partition unit) seat (ended_by unit script.lines.now script.logs.items)

-- The lines of a unit of a script keep its replay, and the current one has not got past its first step.
pub record ReplaysOwn (lan : LanValue) (script : Script) (unit : ℕ) (seat : PortSeat) : Type 0 where
  pub keeps : KeepsReplay seat (ended_by unit script.lines.now script.logs.items) lan (unit_of script.partition unit)
  pub first : IsFirstOf unit (done_in script.progress) (slice_get script.lines.now script.at)

-- the same of each plain port of a script
abbrev pub TellsReplay : LanValue → Script → Type 0
TellsReplay lan script = (unit : ℕ) → IsPlainPort unit script.lines.now → slice_get script.seats.items unit ≡ Some sits.Port → (seat : PortSeat)
    → seat_at lan.seats (unit_of script.partition unit) ≡ Some seat → IsSizedSeat seat → IsOwnAddress seat.mac → ReplaysOwn lan script unit seat

-- What the lines of a script tell of its ports.
pub record TellsPorts (lan : LanValue) (script : Script) : Type 0 where
  pub words : TellsWords lan script
  pub among : TellsAmong lan script
  pub ranges : TellsRanges lan script
  pub buffers : TellsBuffers lan script
  pub takes : TellsTakes script
  pub values : TellsValues lan script
  pub regions : TellsRegions lan script
  pub logged : TellsLogged lan script
  pub entries : TellsEntries lan script
  pub macs : TellsMacs lan script
  pub bytes : TellsBytes lan script
  pub replay : TellsReplay lan script
  pub offers : TellsOffers lan script
  pub fit : TellsFit lan script
  pub closes : TellsClosed lan script

-- the same of all scripts
abbrev pub PortsTell : LanValue → List Script → Type 0
PortsTell lan scripts = (i : ℕ) (script : Script) → slice_get scripts i ≡ Some script → TellsPorts lan script
