-- What gathering asks of a machine's parts, from what is so of them; and the trace that was gathered.
use Rattle.std.proofs.Common.{◌≡◌, ◌≤◌, All, List, Result, Ok, Err, IfOk, OnOk, length, get_or, sym, subst, arith}
use Rattle.std.specs.List.{flat_map}
use Rattle.std.proofs.lemmas.Option.{slice_get-get_or}
use Rattle.rdma_copy.specs.declared.copy.CopyRecord.{CopyRecord}
use Rattle.vio_num.specs.declared.memory.NoMemory.{NoMemory}
use Rattle.vio_num.specs.declared.history.Grant.{Grant}
use Rattle.vio_num.specs.declared.history.Served.{Served}
use Rattle.boot_text.specs.declared.plan.Partition.{Partition}
use Rattle.lan_script.specs.Carried.{FramesAreCarried}
use Rattle.lan_script.specs.Invariant.{side_in}
use Rattle.lan_script.specs.PortLaw.{AreOrdered, PortsAreLawful}
use Rattle.lan_script.specs.Units.{LanValue}
use Rattle.lan_script.specs.declared.rows.LanRows.{LanRows}
use Rattle.lan_script.specs.declared.seat.PortSeat.{PortSeat}
use Rattle.vio_trace.specs.declared.rows.Trace.{Trace}
use Rattle.vio_trace.specs.declared.lan_rows.DeliverRow.{DeliverRow}
use Rattle.vio_trace.specs.declared.lan_rows.FrameRow.{FrameRow}
use Rattle.vio_trace.specs.declared.lan_rows.HarvestRow.{HarvestRow}
use Rattle.vio_trace.specs.declared.lan_rows.PortRow.{PortRow}
use Rattle.vio_trace.specs.declared.lan_rows.PostRow.{PostRow}
use Rattle.vio_trace.specs.declared.rows.AnswerRow.{AnswerRow}
use Rattle.vio_trace.specs.declared.rows.LogRow.{LogRow}
use Rattle.vio_trace.specs.declared.rows.QueueRow.{QueueRow}
use Rattle.vio_trace.specs.declared.window_rows.CopyRow.{CopyRow}
use Rattle.vio_trace.specs.declared.window_rows.StrokeRow.{StrokeRow}
use Rattle.vio_trace.specs.declared.window_rows.TceValueRow.{TceValueRow}
use Rattle.vcpu_run.specs.declared.pair.Pair.{Pair}
use Rattle.vcpu_run.specs.declared.script.Script.{Script}
use Rattle.vcpu_run.specs.Gathered.{IsFree, IsGathered, answers_at, copies_of, logs_of, marks_at, sessions_at, trace_of, values_at}
use Rattle.vcpu_run.specs.Units.{seats_of}
use Rattle.vcpu_run.specs.Machines.{AreScripts}
use Rattle.vcpu_run.specs.Pairs.{AreOfOneHome}
use Rattle.vcpu_run.specs.Ports.{ports_of}

pub free_pairs : (copies : List CopyRecord) (pairs : List Pair) → AreOfOneHome copies pairs → All IsFree pairs
free_pairs copies pairs are k d less =
    let ready = (are.pairs_are k (get_or pairs k d) (slice_get-get_or pairs k d less)).ready in
    record { own = ready.own_free; client = ready.client_free }

pub few_seats : (pairs : List Pair) (ports : List PortSeat) (scripts : List Script) → AreScripts pairs ports scripts → All (λ script. length script.seats.items ≤ 256) scripts
few_seats pairs ports scripts are k d less =
    let few = (are k (get_or scripts k d) (slice_get-get_or scripts k d less)).few in omega (arith, few)

-- the port law, over rows as they are in a trace, and what the frames and deliveries carry
abbrev pub LawfulRows : LanValue → LanRows → Type 0
LawfulRows lan rows =
    PortsAreLawful lan.seats rows.frames.items rows.ports.items rows.posts.items rows.delivers.items rows.harvests.items
    × FramesAreCarried lan.seats (side_in lan.places) rows.frames.items rows.posts.items rows.delivers.items

-- and over the ports of a plan
pub ports_are : (lan : LanValue) (rows : LanRows) (partitions : List Partition) → LawfulRows lan rows → lan.seats ≡ ports_of partitions
    → PortsAreLawful (ports_of partitions) rows.frames.items rows.ports.items rows.posts.items rows.delivers.items rows.harvests.items
ports_are lan rows partitions keeps same =
    subst (λ seats. PortsAreLawful seats rows.frames.items rows.ports.items rows.posts.items rows.delivers.items rows.harvests.items) same keeps.0

-- what is so of the trace that was gathered
pub from_rows : (pairs : List Pair) (scripts : List Script) (lan : LanValue) (history : List Served) (grants : List Grant) (copies : List CopyRecord) (r : Result Trace NoMemory)
    (A : Type 0) (P : Trace → Type 0) → IfOk r (IsGathered pairs scripts lan history grants copies) → OnOk r A
    → ((rows : LanRows) → LawfulRows lan rows → AreOrdered rows → A → P (trace_of pairs scripts lan rows history grants copies)) → IfOk r P
from_rows pairs scripts lan history grants copies (Ok t) A P is a step = subst P (sym is.trace_is) (step is.rows (is.lawful, is.carried) is.ordered a)
from_rows pairs scripts lan history grants copies (Err none) A P is a step = tt

abbrev pub made_of : List LogRow → List QueueRow → List Grant → List Served → List AnswerRow → List FrameRow → List PortRow → List PostRow → List DeliverRow → List HarvestRow → List TceValueRow → List CopyRow → List StrokeRow → Trace
made_of logs queues grants history answers frames ports posts delivers harvests tces made strokes = record {
  logs = logs;
  queues = queues;
  grants = grants;
  serves = history;
  answers = answers;
  frames = frames;
  ports = ports;
  posts = posts;
  delivers = delivers;
  harvests = harvests;
  tces = tces;
  copies = made;
  strokes = strokes;
}

pub trace_is : (pairs : List Pair) (scripts : List Script) (lan : LanValue) (rows : LanRows) (history history' : List Served) (grants grants' : List Grant) (copies : List CopyRecord)
    (logs : List LogRow) (queues : List QueueRow) (answers : List AnswerRow)
    (frames : List FrameRow) (ports : List PortRow) (posts : List PostRow) (delivers : List DeliverRow) (harvests : List HarvestRow) (tces : List TceValueRow) (made : List CopyRow) (strokes : List StrokeRow)
    → logs ≡ flat_map logs_of scripts → queues ≡ flat_map (sessions_at pairs) (seats_of scripts) → grants' ≡ grants → history' ≡ history
    → answers ≡ flat_map (answers_at pairs) (seats_of scripts) → frames ≡ rows.frames.items → ports ≡ rows.ports.items → posts ≡ rows.posts.items
    → delivers ≡ rows.delivers.items → harvests ≡ rows.harvests.items → tces ≡ flat_map (values_at pairs lan) (seats_of scripts)
    → made ≡ flat_map (copies_of copies) pairs → strokes ≡ flat_map (marks_at pairs lan) (seats_of scripts)
    → made_of logs queues grants' history' answers frames ports posts delivers harvests tces made strokes ≡ trace_of pairs scripts lan rows history grants copies
trace_is pairs scripts lan rows history history' grants grants' copies logs queues answers frames ports posts delivers harvests tces made strokes a b c d e i j k l m f g h = cc
