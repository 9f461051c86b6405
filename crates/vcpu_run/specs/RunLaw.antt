-- The law of a run, so far as it is proved: what its trace says of its queues, its copies and windows, its records, the credits and the
-- refusals that they tell of, the strokes of clients in their own regions, the answers that were sent, its LAN ports and what is told of
-- them, how it ends, what its server units took in, which of it they served, that each of that has its answer, that clients' queues handed
-- over the answers of logins that no line cuts off, and which copies moved its answer and its data, and how its requests to log in were
-- answered.
use Rattle.std.specs.Prelude.{◌≡◌, ◌⊎◌, ℕ, ◌+◌, ◌*◌, ◌<◌, ◌≤◌, List, [], ◌∷◌, All, Some, None, length, map}
use Rattle.std.specs.List.{AllPairs}
use Rattle.vio_num.specs.Queue.{Handed, LawfulDrop}
use Rattle.vio_num.specs.declared.names.UnitId.{UnitId}
use Rattle.rdma_copy.specs.Copy.{IsLawful}
use Rattle.rdma_copy.specs.declared.copy.CopyRecord.{CopyRecord}
use Rattle.block_server.specs.Makers.{NeverFalls}
use Rattle.block_server.specs.Receipts.{GrantsMany}
use Rattle.boot_text.specs.Sound.{unit_at, IsClientOf, IsServer}
use Rattle.boot_text.specs.declared.plan.Partition.{Partition}
use Rattle.boot_text.specs.declared.plan.Plan.{Plan}
use Rattle.boot_text.specs.declared.plan.UnitPlan.{UnitPlan}
use Rattle.boot_text.specs.declared.plan.UnitPlan.TheVariants as units
use Rattle.vio_trace.specs.Form.{IsInOrder}
use Rattle.vio_trace.specs.declared.rows.Trace.{Trace}
use Rattle.vio_trace.specs.declared.rows.QueueRow.{QueueRow}
use Rattle.vio_trace.specs.declared.window_rows.CopyRow.{CopyRow}
use Rattle.vio_trace.specs.declared.window_rows.StrokeRow.{StrokeRow}
use Rattle.vio_trace.specs.declared.window_rows.TceValueRow.{TceValueRow}
use Rattle.lan_script.specs.Carried.{FramesAreCarried}
use Rattle.lan_script.specs.PortLaw.{PortsAreLawful}
use Rattle.vcpu_run.specs.AnswersSent.{AnswersAreGiven, AnswersAreSent}
use Rattle.vcpu_run.specs.CallsShown.{CallsAreSaid}
use Rattle.vcpu_run.specs.ClientStrokes.{ClientsAreLogged}
use Rattle.vcpu_run.specs.CopyRows.{copy_row}
use Rattle.vcpu_run.specs.Credited.{KeepsCredit, ended_by}
use Rattle.vcpu_run.specs.Intake.{EntriesAreFetched}
use Rattle.vcpu_run.specs.Lines.{numbers_to_fail}
use Rattle.vcpu_run.specs.LoginsSent.{LoginsAreAnswered, LoginsAreSent}
use Rattle.vcpu_run.specs.OwnClients.{OwnClientsTell}
use Rattle.vcpu_run.specs.PlainClients.{PlainClientsAreScripted}
use Rattle.vcpu_run.specs.Ports.{ports_of}
use Rattle.vcpu_run.specs.PortWords.{PortsAreTold}
use Rattle.vcpu_run.specs.StrokeMakers.{StrokesAreMade, versions_named}
use Rattle.vcpu_run.specs.Refusals.{RefusalsAreTold}
use Rattle.vcpu_run.specs.Requests.{RequestsAreServed}
use Rattle.vcpu_run.specs.RowsCopied.{LinesAreExplained, RowsAreCopied}
use Rattle.vcpu_run.specs.Settled.{ClientsAreSettled, ServersAreSettled, script_of}
use Rattle.vcpu_run.specs.Shown.{pages_at, puts_into, records_of, sessions_of, strokes_on, window_shown}
use Rattle.vcpu_run.specs.WholeLogins.{LastAreHandedOver}

-- so many slots, 256 for each page of a unit's queue
abbrev pub HasSlots : ℕ → UnitPlan → Type 0
HasSlots slots (units.Server queue) = slots ≡ 256 * queue
HasSlots slots (units.Client server pages queue) = slots ≡ 256 * queue
HasSlots slots (units.Lan mac pages own) = ⊥

-- A session of a queue: it has the slots of the plan; what was taken is a front of what was put, unaltered and in order,
-- and at most as many entries as slots were put and not taken; each entry that found its slot full has one record.
pub record IsLawfulSession (partitions : List Partition) (row : QueueRow) : Type 0 where
  pub planned : UnitPlan
  pub unit : unit_at partitions row.unit ≡ Some planned
  pub slots : HasSlots row.slots planned
  pub handed : Handed row.sent row.taken row.slots
  pub drops : All (λ drop. LawfulDrop row.sent row.slots drop.number drop.held) row.drops
  pub once : AllPairs (λ a b. a.number < b.number) row.drops

-- sessions are numbered from n on, without a gap
abbrev pub AreCounted : ℕ → List QueueRow → Type 0
AreCounted n [] = Unit {0}
AreCounted n (row ∷ rows) = (row.session ≡ n) × AreCounted (n + 1) rows

-- The queue law of a run.
pub record QueuesAreLawful (partitions : List Partition) (trace : Trace) : Type 0 where
  pub each : All (IsLawfulSession partitions) trace.queues
  pub counted : (unit : UnitId) → AreCounted 1 (sessions_of trace unit)

-- the copy is lawful, from one of these two windows to the other, as the trace shows them
abbrev pub IsBetween : List Partition → Trace → CopyRecord → (server client : UnitId) → Type 0
IsBetween partitions trace copy server client = (from : ℕ) × (to : ℕ)
    × (IsLawful copy (window_shown partitions trace client) from (window_shown partitions trace server) to
    ⊎ IsLawful copy (window_shown partitions trace server) from (window_shown partitions trace client) to)

-- A copy that a server unit made: it is lawful, between the unit's own window and its client's.
pub record IsLawfulCopy (partitions : List Partition) (trace : Trace) (row : CopyRow) : Type 0 where
  pub copy : CopyRecord
  pub shown : row ≡ copy_row copy
  pub by : IsServer partitions row.unit
  pub lawful : (client : UnitId) → IsClientOf partitions client row.unit → IsBetween partitions trace copy row.unit client

-- places and versions count from n on, without a gap
abbrev pub ArePlaced : ℕ → List StrokeRow → Type 0
ArePlaced n [] = Unit {0}
ArePlaced n (row ∷ rows) = (row.place ≡ n) × ArePlaced (n + 1) rows

abbrev pub AreVersions : ℕ → List TceValueRow → Type 0
AreVersions n [] = Unit {0}
AreVersions n (row ∷ rows) = (row.version ≡ n) × AreVersions (n + 1) rows

-- a stroke lies in its unit's region, within its page
pub record LiesInRegion (partitions : List Partition) (row : StrokeRow) : Type 0 where
  pub page : row.page < pages_at partitions row.unit
  pub inside : row.offset + length row.bytes ≤ 4096

-- The copy law of a run.
pub record CopiesAreLawful (partitions : List Partition) (trace : Trace) : Type 0 where
  pub each : All (IsLawfulCopy partitions trace) trace.copies
  pub strokes : All (LiesInRegion partitions) trace.strokes
  pub places : (unit : UnitId) (page : ℕ) → ArePlaced 0 (strokes_on trace unit page)
  pub versions : (unit : UnitId) (e : ℕ) → AreVersions 1 (puts_into trace unit e)
  pub windows : All (λ row. row.entry < pages_at partitions row.unit) trace.tces
  pub no_server : (unit : UnitId) (e : ℕ) → IsServer partitions unit → puts_into trace unit e ≡ []
  pub made : StrokesAreMade partitions trace
  pub rising : (unit : UnitId) (entry : ℕ) → NeverFalls (versions_named trace unit entry)

-- the records of each partition are of exactly its lines up to the first that fails it, one a line, in their order
abbrev pub RecordsAreOfLines : List Partition → Trace → Type 0
RecordsAreOfLines partitions trace = (p : ℕ) → map (λ row. row.line) (records_of trace p) ≡ numbers_to_fail (script_of partitions p)

-- of each unit of a partition the records keep its credits: never more is outstanding than was granted
abbrev pub CreditsAreKept : List Partition → Trace → Type 0
CreditsAreKept partitions trace = (p unit : ℕ) → KeepsCredit None (ended_by unit (script_of partitions p) (records_of trace p))

-- The port law of a run, over the plan's ports: their rows are lawful, and their frames and deliveries carry what they say, in
-- the windows as the trace shows them.
pub record PortsKeepLaw (partitions : List Partition) (trace : Trace) : Type 0 where
  pub lawful : PortsAreLawful (ports_of partitions) trace.frames trace.ports trace.posts trace.delivers trace.harvests
  pub carried : FramesAreCarried (ports_of partitions) (window_shown partitions trace) trace.frames trace.posts trace.delivers

pub record KeepsLawOf (partitions : List Partition) (trace : Trace) : Type 0 where
  pub order : IsInOrder trace
  pub queues : QueuesAreLawful partitions trace
  pub copies : CopiesAreLawful partitions trace
  pub records : RecordsAreOfLines partitions trace
  pub called : CallsAreSaid partitions trace
  pub credits : CreditsAreKept partitions trace
  pub logged : ClientsAreLogged partitions trace
  pub refusals : RefusalsAreTold partitions trace
  pub answers : AnswersAreSent partitions trace
  pub ports : PortsKeepLaw partitions trace
  pub told : PortsAreTold partitions trace
  pub settled : ServersAreSettled partitions trace
  pub handed : ClientsAreSettled partitions trace
  pub intake : EntriesAreFetched partitions trace
  pub requests : RequestsAreServed partitions trace
  pub given : AnswersAreGiven partitions trace
  pub whole : LastAreHandedOver partitions trace
  pub copied : RowsAreCopied partitions trace
  pub explained : LinesAreExplained partitions trace
  pub logins : LoginsAreSent partitions trace
  pub dealt : LoginsAreAnswered partitions trace

-- And each login that a line says was granted grants as many requests as the plan says; each plain client did exactly what its script says; and
-- what an own client's lines tell is so of its server unit.
pub record KeepsLaw (plan : Plan) (trace : Trace) : Type 0 where
  pub law : KeepsLawOf plan.partitions trace
  pub grants : All (GrantsMany plan.grant) trace.grants
  pub scripted : PlainClientsAreScripted plan.grant plan.partitions trace
  pub own : OwnClientsTell plan.grant plan.partitions trace
