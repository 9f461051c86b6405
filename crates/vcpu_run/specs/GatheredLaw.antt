-- What is so of the trace that is gathered from the parts of a machine of a plan, by what is so of the parts.
use Rattle.std.specs.Prelude.{All, List}
use Rattle.boot_text.specs.declared.plan.Partition.{Partition}
use Rattle.lan_script.specs.Units.{LanValue}
use Rattle.rdma_copy.specs.declared.copy.CopyRecord.{CopyRecord}
use Rattle.vio_trace.specs.declared.rows.Trace.{Trace}
use Rattle.vcpu_run.specs.declared.pair.Pair.{Pair}
use Rattle.vcpu_run.specs.declared.script.Script.{Script}
use Rattle.vcpu_run.specs.Agreed.{AreCredited}
use Rattle.vcpu_run.specs.AnswersSent.{AnswersAreGiven}
use Rattle.vcpu_run.specs.Caused.{IsShownAll}
use Rattle.vcpu_run.specs.CallsShown.{CallsAreSaid}
use Rattle.vcpu_run.specs.ClientStrokes.{ClientsAreLogged}
use Rattle.vcpu_run.specs.CopiesCounted.{copies_at}
use Rattle.vcpu_run.specs.Intake.{EntriesAreFetched}
use Rattle.vcpu_run.specs.Lines.{IsOver}
use Rattle.vcpu_run.specs.LoginsSent.{LoginsAreAnswered, LoginsAreSent}
use Rattle.vcpu_run.specs.PortWords.{PortsAreTold}
use Rattle.vcpu_run.specs.PortsRest.{PortsEnd}
use Rattle.vcpu_run.specs.Requests.{RequestsAreServed}
use Rattle.vcpu_run.specs.RowsCopied.{LinesAreExplained, RowsAreCopied}
use Rattle.vcpu_run.specs.RunLaw.{CopiesAreLawful, CreditsAreKept, PortsKeepLaw, QueuesAreLawful, RecordsAreOfLines}
use Rattle.vcpu_run.specs.Settled.{ClientsAreSettled, ServersAreSettled}
use Rattle.vcpu_run.specs.WholeLogins.{LastAreHandedOver}

-- However the run ended: queues, copies and ports are lawful, and all that the pairs show is told.
pub record PartsAreLawful (made : List CopyRecord) (pairs : List Pair) (partitions : List Partition) (trace : Trace) : Type 0 where
  pub queues : QueuesAreLawful partitions trace
  pub copies : CopiesAreLawful partitions trace
  pub ports : PortsKeepLaw partitions trace
  pub shown : IsShownAll partitions trace made pairs

-- By how far the scripts came, by their credits, and by what is told of the ports.
pub record LinesAreLawful (copies : List CopyRecord) (pairs : List Pair) (scripts : List Script) (lan : LanValue) (partitions : List Partition) (trace : Trace) : Type 0 where
  pub records : All IsOver scripts → RecordsAreOfLines partitions trace
  pub credits : AreCredited (copies_at copies pairs) pairs scripts → CreditsAreKept partitions trace
  pub logged : All IsOver scripts → AreCredited (copies_at copies pairs) pairs scripts → ClientsAreLogged partitions trace
  pub called : PortsEnd lan scripts → AreCredited (copies_at copies pairs) pairs scripts → CallsAreSaid partitions trace
  pub told : All IsOver scripts → PortsEnd lan scripts → PortsAreTold partitions trace

-- Where the machine is at rest: nothing is left in the queues, and what the server units took, served, copied and put is accounted for.
pub record RestIsLawful (partitions : List Partition) (trace : Trace) : Type 0 where
  pub settled : ServersAreSettled partitions trace
  pub handed : ClientsAreSettled partitions trace
  pub intake : EntriesAreFetched partitions trace
  pub requests : RequestsAreServed partitions trace
  pub given : AnswersAreGiven partitions trace
  pub copied : RowsAreCopied partitions trace
  pub explained : LinesAreExplained partitions trace

-- Where the responses in the clients' queues are those of the rows, too: whole logins are handed over, and logins answered.
pub record LoginsAreLawful (partitions : List Partition) (trace : Trace) : Type 0 where
  pub whole : LastAreHandedOver partitions trace
  pub logins : LoginsAreSent partitions trace
  pub dealt : LoginsAreAnswered partitions trace
