-- Whole logins: a login that no line ends for a cause but its client's own logout has its answers in its client's last session, which
-- handed them over (SRP, "SRP_RSP response").
use Rattle.std.specs.Prelude.{◌≡◌, ◌⊎◌, ◌++◌, ℕ, ◌≤◌, List, [], ◌∷◌, Some, filter}
use Rattle.std.specs.List.{slice_get}
use Rattle.vio_num.specs.declared.entry.Entry.{Entry}
use Rattle.vio_num.specs.declared.history.Grant.TheVariants.{Granted}
use Rattle.vio_num.specs.declared.history.Served.{Served}
use Rattle.vio_num.specs.declared.names.UnitId.{UnitId}
use Rattle.block_server.specs.Answering.{answers_of}
use Rattle.block_server.specs.Entries.{is_response}
use Rattle.block_server.specs.Owed.{IsCutOff}
use Rattle.boot_text.specs.Sound.{IsClientOf, IsServer}
use Rattle.boot_text.specs.declared.plan.Partition.{Partition}
use Rattle.vio_trace.specs.declared.rows.QueueRow.{QueueRow}
use Rattle.vio_trace.specs.declared.rows.Trace.{Trace}
use Rattle.vcpu_run.specs.AnswersSent.{responses_to}
use Rattle.vcpu_run.specs.Freeing.{NoneBreaks}
use Rattle.vcpu_run.specs.LastGiven.{AreEarlier}
use Rattle.vcpu_run.specs.Settled.{script_of}
use Rattle.vcpu_run.specs.Shown.{sessions_of}

-- what was put into a queue in its last session, and what it handed over in it; nothing where there is none
abbrev pub last_sent : List QueueRow → List Entry
last_sent [] = []
last_sent (row ∷ []) = row.sent
last_sent (row ∷ next ∷ rows) = last_sent (next ∷ rows)

abbrev pub last_taken : List QueueRow → List Entry
last_taken [] = []
last_taken (row ∷ []) = row.taken
last_taken (row ∷ next ∷ rows) = last_taken (next ∷ rows)

-- The rows from a place on have all of the unit's rows of the login and of later ones. The responses that the client's queue got are one
-- for each of the unit's rows with an answer, in their order; those of the rows from that place on are the last of its last session; and
-- the queue handed them over, if there are any. (Where its partition makes no raw call and does not fail, it handed over all before them, too.)
pub record AreLastOf (partitions : List Partition) (trace : Trace) (server client : UnitId) (login : ℕ) : Type 0 where
  pub before : List Served
  pub behind : List Served
  pub parts : trace.serves ≡ before ++ behind
  pub earlier : AreEarlier server login before
  pub once : responses_to trace client ≡ answers_of server trace.serves
  pub front : List Entry
  pub sent : filter is_response (last_sent (sessions_of trace client)) ≡ front ++ answers_of server behind
  pub handed : (answers_of server behind ≡ []) ⊎ (filter is_response (last_taken (sessions_of trace client)) ≡ front ++ answers_of server behind)
  pub taken : NoneBreaks (script_of partitions client.partition) → filter is_response (last_taken (sessions_of trace client)) ≡ front ++ answers_of server behind

-- Of each login that a line grants to a server unit: it is cut off, or its answers and those behind are the last of the client's last session.
abbrev pub LastAreHandedOver : List Partition → Trace → Type 0
LastAreHandedOver partitions trace = (server client : UnitId) → IsServer partitions server → IsClientOf partitions client server
    → (place session login number credits : ℕ) → 1 ≤ session → slice_get trace.grants place ≡ Some (Granted server session login number credits)
    → ∥ IsCutOff server trace.grants session login ⊎ AreLastOf partitions trace server client login ∥₁
