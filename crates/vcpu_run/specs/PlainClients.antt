-- Plain clients do exactly what their script says: which clients are plain, and what the trace of a run on one thread says of them.
use Rattle.std.specs.Prelude.{◌≡◌, ◌≢◌, ◌≤◌, ℕ, ◌==◌, ◌&&◌, nat_le, Bool, true, false, List, [], ◌∷◌, All, filter, length, IfSome, ⊤, ◌*◌, ◌||◌, map, Option, Some}
use Rattle.std.specs.List.{AllPairs, flat_map, list_all, sum, Contains}
use Rattle.vio_num.specs.declared.TheConstants.{PAGE_BYTES}
use Rattle.vio_num.specs.Entry.{is_srp_entry, iu_length}
use Rattle.vio_num.specs.declared.entry.Entry.{Entry}
use Rattle.vio_num.specs.declared.history.Grant.{Grant}
use Rattle.vio_num.specs.declared.history.Grant.TheVariants.{Granted, Lapsed}
use Rattle.vio_num.specs.declared.history.Lapse.{Lapse}
use Rattle.vio_num.specs.declared.history.Lapse.TheVariants as lapses
use Rattle.vio_num.specs.declared.history.Served.{Served}
use Rattle.vio_num.specs.declared.names.UnitId.{UnitId}
use Rattle.srp_iu.specs.Grammar.{Canon}
use Rattle.srp_iu.specs.Layout.{IsBytes, field}
use Rattle.srp_iu.specs.declared.response.Rsp.{Rsp as Response}
use Rattle.srp_iu.specs.declared.unit.Iu.TheVariants as units
use Rattle.block_server.specs.Entries.{is_response}
use Rattle.block_server.specs.Makers.{same_unit}
use Rattle.block_server.specs.Receipts.{unit_of}
use Rattle.boot_text.specs.Sound.{IsClientOf}
use Rattle.boot_text.specs.declared.plan.Line.{Line}
use Rattle.boot_text.specs.declared.plan.Partition.{Partition}
use Rattle.boot_text.specs.declared.verb.Verb.{Verb}
use Rattle.boot_text.specs.declared.verb.Verb.TheVariants as verbs
use Rattle.vio_trace.specs.declared.outcome.Outcome.{Outcome}
use Rattle.vio_trace.specs.declared.outcome.Outcome.TheVariants as outcomes
use Rattle.vio_trace.specs.declared.rows.AnswerRow.{AnswerRow}
use Rattle.vio_trace.specs.declared.rows.Trace.{Trace}
use Rattle.vscsi_client.specs.declared.TheConstants.{DATA_START}
use Rattle.vcpu_run.specs.AnswersTaken.{answers_to}
use Rattle.vcpu_run.specs.Credited.{Ended, ended_by, grants}
use Rattle.vcpu_run.specs.DataRead.{given_by}
use Rattle.vcpu_run.specs.Intake.{entries_taken}
use Rattle.page_slots.specs.Stroke.{StrokeValue}
use Rattle.vcpu_run.specs.PlainRejected.{TellsOf}
use Rattle.vcpu_run.specs.PortWords.{HasNoCall}
use Rattle.vcpu_run.specs.Replay.{IsReplayed, Range, any_share, before_lines, range, table_range}
use Rattle.vcpu_run.specs.Settled.{script_of}
use Rattle.vcpu_run.specs.Shown.{pages_at, records_of, stroke_value, strokes_on}

-- the table of a line's command
abbrev pub tables_of : Verb → List Range
tables_of (verbs.Read lba blocks at pieces table) = table_range pieces table
tables_of (verbs.Write lba blocks at pieces table) = table_range pieces table
tables_of (verbs.CommandIn cdb at len pieces table) = table_range pieces table
tables_of (verbs.CommandOut cdb at len pieces table) = table_range pieces table
tables_of _ = []

-- the bytes that a line writes itself
abbrev pub written_by : Verb → List Range
written_by (verbs.Fill at len seed) = range at len ∷ []
written_by (verbs.Poke at bytes) = range at (length bytes) ∷ []
written_by _ = []

-- whether a value that a line puts into an entry of its window names the entry's own page
abbrev pub names_own : Verb → Bool
names_own (verbs.Tce entry page readable writable) = page == entry
names_own _ = true

-- whether a value that a line puts into an entry of its window names the entry's own page, and has all rights if that is one of the driver's
abbrev pub keeps_own : Verb → Bool
keeps_own (verbs.Tce entry page readable writable) = page == entry && (nat_le DATA_START (PAGE_BYTES * entry) || (readable && writable))
keeps_own _ = true

-- the lines of a unit, and their tables
abbrev pub lines_of : (unit : ℕ) → List Line → List Line
lines_of unit lines = filter (λ line. line.unit == unit) lines

abbrev pub tables_in : List Line → List Range
tables_in lines = flat_map (λ line. tables_of line.verb) lines

-- whether no byte of these ranges lies in the pages that are the driver's
abbrev pub lie_behind : List Range → Bool
lie_behind ranges = list_all (λ r. nat_le DATA_START r.at) ranges

-- A client unit is plain where no line of its partition makes a raw hypervisor call; no line of its own writes in the pages that are the
-- driver's, or on a page of a table of its lines; and what its own put into entries keeps each its own page, and those of the driver's
-- pages all rights. (A line may fail the partition.)
pub record IsPlainClient (unit : ℕ) (lines : List Line) : Type 0 where
  pub no_call : HasNoCall lines
  pub own_entries : All (λ line. keeps_own line.verb ≡ true) (lines_of unit lines)
  pub behind : All (λ line. lie_behind (written_by line.verb) ≡ true) (lines_of unit lines)
  pub no_table : All (λ line. any_share (written_by line.verb) (tables_in (lines_of unit lines)) ≡ false) (lines_of unit lines)

-- whether a login may end for this cause: its client logged out, or its partner was lost
abbrev pub is_clients : Lapse → Bool
is_clients lapses.Logout = true
is_clients lapses.Lost = true
is_clients _ = false

abbrev pub ends_by_client : Grant → Bool
ends_by_client (Granted unit session login number credits) = true
ends_by_client (Lapsed unit session login cause outstanding granted) = is_clients cause

-- two rows are of different tags
abbrev pub HaveOtherTags : Served → Served → Type 0
HaveOtherTags a b = field 8 8 a.iu ≢ field 8 8 b.iu

-- how many of these lines ended as a login that was granted
abbrev pub granted_in : List Ended → ℕ
granted_in ended = length (filter (λ e. grants e.outcome) ended)

-- how many of these lines say that a login of this unit was granted
abbrev pub grants_login : Grant → Bool
grants_login (Granted unit session login number credits) = true
grants_login (Lapsed unit session login cause outstanding granted) = false

abbrev pub grants_of : UnitId → List Grant → ℕ
grants_of unit lines = length (filter (λ line. same_unit (unit_of line) unit && grants_login line) lines)

-- what a record says of data-in: how many bytes they are, and their sum
abbrev pub SumsUp : (inn : List ℕ) → Outcome → Type 0
SumsUp inn (outcomes.Data len total) = (len ≡ length inn) × (total ≡ sum inn)
SumsUp inn outcome = ⊤

-- A row of the server unit has this tag, and what is said of data is so of its data-in.
pub record HasRowOf (rows : List Served) (server : UnitId) (tag : ℕ) (outcome : Outcome) : Type 0 where
  pub row : Served
  pub there : Contains rows row
  pub of_unit : row.unit ≡ server
  pub tag_is : field 8 8 row.iu ≡ tag
  pub says : SumsUp row.inn outcome

-- whether a record gives the data of a tag, or says that a page of them is stale
abbrev pub tells_data : Outcome → Bool
tells_data (outcomes.Data len total) = true
tells_data (outcomes.Stale page) = true
tells_data outcome = false

-- a line does so only of the tag and of the data-in of a row
abbrev pub IsDataOfRow : (rows : List Served) → (server : UnitId) → Ended → Type 0
IsDataOfRow rows server e = IfSome (given_by e.verb) (λ tag. tells_data e.outcome ≡ true → HasRowOf rows server tag e.outcome)

-- An answer that a client noted is that of a row of the server unit, which has its tag: both are the canonical bytes of one response, so they are
-- the same bytes. (Of numbers above 255, which no trace has, there would be more.)
pub record HasAnswerRow (rows : List Served) (server : UnitId) (noted : AnswerRow) : Type 0 where
  pub row : Served
  pub there : Contains rows row
  pub of_unit : row.unit ≡ server
  pub tag_is : field 8 8 row.iu ≡ noted.tag
  pub response : Response
  pub row_says : Canon row.answer (units.Rsp response)
  pub answer_says : Canon noted.answer (units.Rsp response)
  pub answer_is : IsBytes row.answer → IsBytes noted.answer → row.answer ≡ noted.answer

-- An entry with an information unit that bears the tag of one of these answers has its length, which is that of a response: 36, 40 or 54.
abbrev pub FitsAnswers : List AnswerRow → Entry → Type 0
FitsAnswers answers entry = is_srp_entry entry ≡ true → (noted : AnswerRow) → Contains answers noted → noted.tag ≡ entry.low
    → (iu_length entry ≡ length noted.answer) × (is_response entry ≡ true)

-- the strokes that a trace shows on the pages of a unit's region
abbrev pub strokes_of : Trace → UnitId → (page : ℕ) → Option (List StrokeValue)
strokes_of trace unit page = Some (map stroke_value (strokes_on trace unit page))

-- A client's records are those of the replay of its lines, and say no more often that a login was granted than the lines on its server
-- unit's logins do; of that unit each login ends by its client alone, and no two rows have one tag. (That no line of it ends as unanswered
-- follows: the replay of a login says otherwise.) And of what its lines say of the data of commands each tag is that of such a row, and the
-- length and the sum those of its data-in; and each answer that it took is that of such a row, and as long as the entry says that it took
-- with its tag. And where one says that a login was rejected, the server unit laid the rejection in the client's region.
pub record IsAsScripted (grant : ℕ) (partitions : List Partition) (trace : Trace) (server client : UnitId) : Type 0 where
  pub records : IsReplayed grant (pages_at partitions client) before_lines
      (ended_by client.unit (script_of partitions client.partition) (records_of trace client.partition))
  pub granted : granted_in (ended_by client.unit (script_of partitions client.partition) (records_of trace client.partition)) ≤ grants_of server trace.grants
  pub logins : All (λ grant. same_unit (unit_of grant) server ≡ true → ends_by_client grant ≡ true) trace.grants
  pub tags : AllPairs HaveOtherTags (filter (λ row. same_unit row.unit server) trace.serves)
  pub reads : (e : Ended) → Contains (ended_by client.unit (script_of partitions client.partition) (records_of trace client.partition)) e → IsDataOfRow trace.serves server e
  pub answers : All (HasAnswerRow trace.serves server) (answers_to trace client)
  pub entries : All (λ row. FitsAnswers (answers_to trace client) row.entry) (entries_taken trace client)
  pub rejected : All (TellsOf server (strokes_of trace client)) (ended_by client.unit (script_of partitions client.partition) (records_of trace client.partition))

-- Each plain client of the plan's partitions is as scripted, where a login grants so many requests.
abbrev pub PlainClientsAreScripted : (grant : ℕ) → List Partition → Trace → Type 0
PlainClientsAreScripted grant partitions trace = (client server : UnitId) → IsClientOf partitions client server
    → IsPlainClient client.unit (script_of partitions client.partition) → IsAsScripted grant partitions trace server client
