-- Own clients: their windows' entries name their own pages, and may take rights from the server unit; and what is so of what they tell.
use Rattle.std.specs.Prelude.{◌≡◌, ◌≤◌, ℕ, All, IfSome, List, true, false, ⊤}
use Rattle.std.specs.List.{Contains}
use Rattle.boot_text.specs.Sound.{IsClientOf}
use Rattle.boot_text.specs.declared.plan.Line.{Line}
use Rattle.boot_text.specs.declared.plan.Partition.{Partition}
use Rattle.vio_num.specs.Entry.{is_srp_entry}
use Rattle.vio_num.specs.declared.entry.Entry.{Entry}
use Rattle.vio_num.specs.declared.history.Served.{Served}
use Rattle.vio_num.specs.declared.names.UnitId.{UnitId}
use Rattle.block_server.specs.Entries.{is_response}
use Rattle.block_server.specs.RowsOn.{row_tag}
use Rattle.vio_trace.specs.declared.outcome.Outcome.{Outcome}
use Rattle.vio_trace.specs.declared.outcome.Outcome.TheVariants as outcomes
use Rattle.vio_trace.specs.declared.rows.AnswerRow.{AnswerRow}
use Rattle.vio_trace.specs.declared.rows.Trace.{Trace}
use Rattle.vcpu_run.specs.AnswersTaken.{answers_to}
use Rattle.vcpu_run.specs.Credited.{Ended, ended_by}
use Rattle.vcpu_run.specs.DataRead.{given_by}
use Rattle.vcpu_run.specs.Intake.{entries_taken}
use Rattle.vcpu_run.specs.PlainClients.{HasAnswerRow, SumsUp, granted_in, grants_of, lie_behind, lines_of, names_own, strokes_of, tables_in, tells_data, written_by}
use Rattle.vcpu_run.specs.PlainRejected.{TellsOf}
use Rattle.vcpu_run.specs.PortWords.{HasNoCall}
use Rattle.vcpu_run.specs.Replay.{any_share}
use Rattle.vcpu_run.specs.Settled.{script_of}
use Rattle.vcpu_run.specs.Shown.{records_of}

-- A client unit is an own client where no line of its partition makes a raw hypervisor call; no line of its own writes in the pages that are the
-- driver's, or on a page of a table of its lines; and what its own put into entries names each the entry's own page, with whatever rights.
pub record IsOwnClient (unit : ℕ) (lines : List Line) : Type 0 where
  pub no_call : HasNoCall lines
  pub own_entries : All (λ line. names_own line.verb ≡ true) (lines_of unit lines)
  pub behind : All (λ line. lie_behind (written_by line.verb) ≡ true) (lines_of unit lines)
  pub no_table : All (λ line. any_share (written_by line.verb) (tables_in (lines_of unit lines)) ≡ false) (lines_of unit lines)

-- A row of a unit with this tag.
pub record IsRowOf (rows : List Served) (server : UnitId) (tag : ℕ) (row : Served) : Type 0 where
  pub there : Contains rows row
  pub of_unit : row.unit ≡ server
  pub tag_is : row_tag row ≡ tag

-- There is one; and where it is the only one, what is said of data is so of its data-in.
pub record TellsOfRow (rows : List Served) (server : UnitId) (tag : ℕ) (outcome : Outcome) : Type 0 where
  pub some : (row : Served) × IsRowOf rows server tag row
  pub only : (row : Served) → IsRowOf rows server tag row → ((other : Served) → IsRowOf rows server tag other → other ≡ row) → SumsUp row.inn outcome

-- A line that gives data, or says that they are stale, does so of a tag of such a row.
abbrev pub TellsOwnData : (rows : List Served) → (server : UnitId) → Ended → Type 0
TellsOwnData rows server e = IfSome (given_by e.verb) (λ tag. tells_data e.outcome ≡ true → TellsOfRow rows server tag e.outcome)

-- Where a line says that a login was granted, it says that this many requests were.
abbrev pub IsGrantOf : (grant : ℕ) → Outcome → Type 0
IsGrantOf grant (outcomes.Granted credits) = credits ≡ grant
IsGrantOf grant outcome = ⊤

-- An SRP entry that bears the tag of one of these answers has the length of a response: 36, 40 or 54.
abbrev pub IsResponseTo : List AnswerRow → Entry → Type 0
IsResponseTo answers entry = is_srp_entry entry ≡ true → (noted : AnswerRow) → Contains answers noted → noted.tag ≡ entry.low → is_response entry ≡ true

-- An own client's records say no more often that a login was granted than the lines on its server unit's logins do, and of as many requests as the
-- plan says; where one says that a login was rejected, the server unit laid the rejection in the client's region; what its lines say of data has a
-- row; and each answer that it took is that of a row with its tag, and was told by an entry that is as long as a response.
pub record IsAsOwn (grant : ℕ) (partitions : List Partition) (trace : Trace) (server client : UnitId) : Type 0 where
  pub granted : granted_in (ended_by client.unit (script_of partitions client.partition) (records_of trace client.partition)) ≤ grants_of server trace.grants
  pub numbers : All (λ e. IsGrantOf grant e.outcome) (ended_by client.unit (script_of partitions client.partition) (records_of trace client.partition))
  pub rejected : All (TellsOf server (strokes_of trace client)) (ended_by client.unit (script_of partitions client.partition) (records_of trace client.partition))
  pub reads : All (TellsOwnData trace.serves server) (ended_by client.unit (script_of partitions client.partition) (records_of trace client.partition))
  pub answers : All (HasAnswerRow trace.serves server) (answers_to trace client)
  pub entries : All (λ row. IsResponseTo (answers_to trace client) row.entry) (entries_taken trace client)

-- Each own client of the plan's partitions is so, where a login grants so many requests.
abbrev pub OwnClientsTell : (grant : ℕ) → List Partition → Trace → Type 0
OwnClientsTell grant partitions trace = (client server : UnitId) → IsClientOf partitions client server
    → IsOwnClient client.unit (script_of partitions client.partition) → IsAsOwn grant partitions trace server client
