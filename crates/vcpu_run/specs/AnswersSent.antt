-- The answers of a run: which responses a client's queue got, by the rows of its server unit, and that each row has its answer or is
-- cut off (SRP, "SRP_RSP response").
use Rattle.std.specs.Prelude.{◌≡◌, All, List, filter}
use Rattle.std.specs.List.{flat_map}
use Rattle.vio_num.specs.declared.entry.Entry.{Entry}
use Rattle.vio_num.specs.declared.names.UnitId.{UnitId}
use Rattle.block_server.specs.Answering.{answers_of}
use Rattle.block_server.specs.Entries.{is_response}
use Rattle.block_server.specs.Owed.{IsGiven}
use Rattle.boot_text.specs.Sound.{IsClientOf, IsServer}
use Rattle.boot_text.specs.declared.plan.Partition.{Partition}
use Rattle.vio_trace.specs.declared.rows.Trace.{Trace}
use Rattle.vcpu_run.specs.Shown.{sessions_of}

-- what a trace shows as sent to a unit's queue, over its sessions in order, and the responses to commands and tasks among it
abbrev pub sent_to : Trace → UnitId → List Entry
sent_to trace unit = flat_map (λ row. row.sent) (sessions_of trace unit)

abbrev pub responses_to : Trace → UnitId → List Entry
responses_to trace unit = filter is_response (sent_to trace unit)

-- Of each client the responses that were sent to its queue are exactly one for each row of its server unit that has its answer,
-- in the order of the rows: with the answer's length and the request's tag.
abbrev pub AnswersAreSent : List Partition → Trace → Type 0
AnswersAreSent partitions trace =
    (server client : UnitId) → IsServer partitions server → IsClientOf partitions client server → responses_to trace client ≡ answers_of server trace.serves

-- Each row of a server unit that has a client has its answer; or a line behind the grant of its login says that its session was lost, or
-- ended for a cause other than a logout.
abbrev pub AnswersAreGiven : List Partition → Trace → Type 0
AnswersAreGiven partitions trace =
    (server client : UnitId) → IsServer partitions server → IsClientOf partitions client server → ∥ All (IsGiven server trace.grants) trace.serves ∥₁
