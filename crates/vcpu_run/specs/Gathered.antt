-- What a trace shows of the parts of a machine, unit by unit.
use Rattle.std.specs.Prelude.{◌≡◌, true, false, List, [], Option, Some, None, IfSome, IsSomeAnd, length, map, slice_get}
use Rattle.std.specs.List.{flat_map}
use Rattle.vio_num.specs.declared.history.Grant.{Grant}
use Rattle.vio_num.specs.declared.history.Served.{Served}
use Rattle.std.specs.Option.{option_map}
use Rattle.crq_ring.specs.Pipe.{IsLawfulPipe, PipeValue}
use Rattle.lan_script.specs.Carried.{FramesAreCarried}
use Rattle.lan_script.specs.Invariant.{side_in}
use Rattle.lan_script.specs.PortLaw.{AreOrdered, PortsAreLawful}
use Rattle.lan_script.specs.RowsOf.{CountsRows}
use Rattle.lan_script.specs.Seats.{seat_at}
use Rattle.lan_script.specs.Units.{LanValue, window_at as port_window_at}
use Rattle.lan_script.specs.declared.rows.LanRows.{LanRows}
use Rattle.lan_script.specs.declared.seat.PortSeat.{PortSeat}
use Rattle.vio_num.specs.declared.names.UnitId.{UnitId}
use Rattle.crq_session.specs.PlainState.{side_of}
use Rattle.tce_window.specs.Grant.{AreNumbered}
use Rattle.tce_window.specs.Strokes.{AllWithin}
use Rattle.tce_window.specs.Window.{WindowValue, AllThere, strokes_at}
use Rattle.rdma_copy.specs.declared.copy.CopyRecord.{CopyRecord}
use Rattle.vio_trace.specs.declared.rows.Trace.{Trace}
use Rattle.vio_trace.specs.declared.rows.LogRow.{LogRow}
use Rattle.vio_trace.specs.declared.rows.QueueRow.{QueueRow}
use Rattle.vio_trace.specs.declared.rows.AnswerRow.{AnswerRow}
use Rattle.vio_trace.specs.declared.window_rows.CopyRow.{CopyRow}
use Rattle.vio_trace.specs.declared.window_rows.StrokeRow.{StrokeRow}
use Rattle.vio_trace.specs.declared.window_rows.TceValueRow.{TceValueRow}
use Rattle.vcpu_run.specs.declared.driver.Driver.{Driver}
use Rattle.vcpu_run.specs.declared.pair.Pair.{Pair}
use Rattle.vcpu_run.specs.declared.script.Script.{Script}
use Rattle.vcpu_run.specs.declared.unit_seat.Seat.{Seat}
use Rattle.vcpu_run.specs.declared.unit_seat.Seat.TheVariants as sits
use Rattle.vcpu_run.specs.declared.unit_seat.UnitSeat.{UnitSeat}
use Rattle.vcpu_run.specs.Agreed.{driver_at}
use Rattle.vcpu_run.specs.CopyRows.{copies_by}
use Rattle.vcpu_run.specs.Units.{seats_of}
use Rattle.vcpu_run.specs.Sessions.{session_rows}
use Rattle.vcpu_run.specs.Windows.{strokes_in_rows, values_in_rows}

-- the records of a partition's script
abbrev pub logs_of : Script → List LogRow
logs_of script = script.logs.items

-- neither window of a pair holds anything
pub record IsFree (pair : Pair) : Type 0 where
  pub own : pair.own.held_count ≡ 0
  pub client : pair.window.held_count ≡ 0

-- the pair of a server unit, and its client's: the rows of a unit's queue, its window, and its driver
abbrev pub queue_by : List Pair → UnitId → Seat → Option PipeValue
queue_by pairs unit sits.Server = option_map (λ pair. (side_of pair.link true).queue) (slice_get pairs unit.unit)
queue_by pairs unit (sits.Client k) = option_map (λ pair. (side_of pair.link false).queue) (slice_get pairs k)
queue_by pairs unit sits.Port = None

abbrev pub queue_at : List Pair → UnitSeat → Option PipeValue
queue_at pairs unit = queue_by pairs unit.unit unit.seat

-- the window of a port
abbrev pub port_window : Option PortSeat → LanValue → UnitId → Option WindowValue
port_window None lan unit = None
port_window (Some seat) lan unit = port_window_at lan unit

abbrev pub window_by : List Pair → LanValue → UnitId → Seat → Option WindowValue
window_by pairs lan unit sits.Server = option_map (λ pair. pair.own) (slice_get pairs unit.unit)
window_by pairs lan unit (sits.Client k) = option_map (λ pair. pair.window) (slice_get pairs k)
window_by pairs lan unit sits.Port = port_window (seat_at lan.seats unit) lan unit

abbrev pub window_at : List Pair → LanValue → UnitSeat → Option WindowValue
window_at pairs lan unit = window_by pairs lan unit.unit unit.seat

-- the driver of a client
abbrev pub driver_of_client : List Pair → Seat → Option Driver
driver_of_client pairs (sits.Client k) = driver_at pairs k
driver_of_client pairs _ = None

abbrev pub driver_of : List Pair → UnitSeat → Option Driver
driver_of pairs unit = driver_of_client pairs unit.seat

-- the rows of what a unit may have
abbrev pub rows_if : {Part Row : Type 0} → (Part → List Row) → Option Part → List Row
rows_if rows None = []
rows_if rows (Some part) = rows part

-- the sessions of a unit's queue, the values and the strokes of its window
abbrev pub sessions_at : List Pair → UnitSeat → List QueueRow
sessions_at pairs unit = rows_if (session_rows unit.unit) (queue_at pairs unit)

abbrev pub values_at : List Pair → LanValue → UnitSeat → List TceValueRow
values_at pairs lan unit = rows_if (values_in_rows unit.unit) (window_at pairs lan unit)

abbrev pub marks_at : List Pair → LanValue → UnitSeat → List StrokeRow
marks_at pairs lan unit = rows_if (strokes_in_rows unit.unit) (window_at pairs lan unit)

-- the answers that a client took
abbrev pub answer_by : UnitId → AnswerRow → AnswerRow
answer_by unit row = record row { unit = unit }

abbrev pub answers_at : List Pair → UnitSeat → List AnswerRow
answers_at pairs unit = rows_if (λ driver. map (answer_by unit.unit) driver.answers.items) (driver_of pairs unit)

-- the copies of a server unit
abbrev pub copies_of : List CopyRecord → Pair → List CopyRow
copies_of copies pair = copies_by pair.server copies

-- the trace of a machine's parts, with these rows of its ports
abbrev pub trace_of : List Pair → List Script → LanValue → LanRows → List Served → List Grant → List CopyRecord → Trace
trace_of pairs scripts lan rows history grants copies = record {
  logs = flat_map logs_of scripts;
  queues = flat_map (sessions_at pairs) (seats_of scripts);
  grants = grants;
  serves = history;
  answers = flat_map (answers_at pairs) (seats_of scripts);
  frames = rows.frames.items;
  ports = rows.ports.items;
  posts = rows.posts.items;
  delivers = rows.delivers.items;
  harvests = rows.harvests.items;
  tces = flat_map (values_at pairs lan) (seats_of scripts);
  copies = flat_map (copies_of copies) pairs;
  strokes = flat_map (marks_at pairs lan) (seats_of scripts);
}

-- The trace is that of a machine's parts; the rows of its ports are lawful and in order, and carry what they say.
pub record IsGathered (pairs : List Pair) (scripts : List Script) (lan : LanValue) (history : List Served) (grants : List Grant) (copies : List CopyRecord) (trace : Trace) : Type 0 where
  pub rows : LanRows
  pub lawful : PortsAreLawful lan.seats rows.frames.items rows.ports.items rows.posts.items rows.delivers.items rows.harvests.items
  pub carried : FramesAreCarried lan.seats (side_in lan.places) rows.frames.items rows.posts.items rows.delivers.items
  pub ordered : AreOrdered rows
  pub counted : CountsRows lan rows
  pub trace_is : trace ≡ trace_of pairs scripts lan rows history grants copies

-- what is so of the queue and of the window of a unit, as of each queue and each window
abbrev pub HasLawfulQueue : List Pair → UnitSeat → Type 0
HasLawfulQueue pairs unit = IfSome (queue_at pairs unit) IsLawfulPipe

pub record IsLawfulWindow (window : WindowValue) : Type 0 where
  pub numbered : AreNumbered (length window.pages) [] window.rows
  pub there : window.held_count ≡ 0 → AllThere window.pages
  pub within : AllWithin (strokes_at window.pages)

-- A window is that of a seat: of its unit and of its pages, and nothing of it is held.
pub record IsWindowOf (unit : UnitId) (seat : PortSeat) (window : WindowValue) : Type 0 where
  pub unit_is : window.unit ≡ unit
  pub pages : length window.pages ≡ seat.pages
  pub free : window.held_count ≡ 0

-- the window of a port is that of its seat
abbrev pub FitsPort : LanValue → UnitId → Seat → Type 0
FitsPort lan unit sits.Port = IfSome (seat_at lan.seats unit) (λ seat. IsSomeAnd (port_window_at lan unit) (IsWindowOf unit seat))
FitsPort lan unit _ = Unit {0}

pub record HasLawfulWindow (pairs : List Pair) (lan : LanValue) (unit : UnitSeat) : Type 0 where
  pub lawful : IfSome (window_at pairs lan unit) IsLawfulWindow
  pub fits : FitsPort lan unit.unit unit.seat
