-- What the records of a client's lines say of requests that were not sent: each refusal by the records before it; and of its own
-- region. (Of a client whose partition makes no raw hypervisor call, plain or not.)
use Rattle.std.specs.Prelude.{◌≡◌, ℕ, ◌+◌, ◌-◌, ◌*◌, ◌<◌, ◌==◌, length, map, List, [], ◌∷◌, ◌++◌, MatchBool, MatchOption, Option, Some, None, min, not, ⊤, if◌then◌else◌}
use Rattle.std.specs.List.{AllPairs, Contains}
use Rattle.std.specs.Option.{option_map}
use Rattle.boot_text.specs.Sound.{IsClientOf}
use Rattle.boot_text.specs.declared.plan.Partition.{Partition}
use Rattle.boot_text.specs.declared.verb.Verb.{Verb}
use Rattle.boot_text.specs.declared.verb.Verb.TheVariants as verbs
use Rattle.vio_num.specs.declared.names.UnitId.{UnitId}
use Rattle.tce_window.specs.Puts.{takes}
use Rattle.tce_window.specs.Region.{in_region}
use Rattle.unit_region.specs.Answers.{tce_of}
pub use Rattle.unit_region.specs.RegionLines.{IsShown, IsWritten, code_if}
use Rattle.vio_trace.specs.declared.outcome.Outcome.{Outcome}
use Rattle.vio_trace.specs.declared.outcome.Outcome.TheVariants as outcomes
use Rattle.vio_trace.specs.declared.rows.Trace.{Trace}
use Rattle.vcpu_run.specs.AnswersSent.{sent_to}
use Rattle.vcpu_run.specs.AnswersTaken.{AreAnswersTaken, answers_to}
use Rattle.vcpu_run.specs.DataTold.{AreDataTold}
use Rattle.vcpu_run.specs.DropsShown.{AreDropsTold}
use Rattle.vcpu_run.specs.Credited.{Ended, ended_by}
use Rattle.vcpu_run.specs.AnswersSeen.{AreResponsesRead, IsFront}
use Rattle.vcpu_run.specs.FailedShut.{AreFailedTold}
use Rattle.vcpu_run.specs.FewEvents.{EventsAreFew}
use Rattle.vcpu_run.specs.LinesShow.{LinesShow, Seen}
use Rattle.vcpu_run.specs.PortWords.{HasNoCall}
use Rattle.vcpu_run.specs.Replay.{Range, asks, lie_within, ranges_of}
use Rattle.vcpu_run.specs.SentOrder.{AreSentIn}
use Rattle.vcpu_run.specs.Settled.{script_of}
use Rattle.vcpu_run.specs.ShutShown.{AreShutTold}
use Rattle.vcpu_run.specs.ValuesPut.{AreValuesTold}
use Rattle.vcpu_run.specs.Shown.{pages_at, records_of, stroke_value, strokes_on, values_shown}

-- A login that is on by the records: what it grants, how many commands and tasks are outstanding, and the tags of those that were
-- sent since it was granted.
pub record LoginNow : Type 0 where
  pub granted : ℕ
  pub outstanding : ℕ
  pub asked : List ℕ

-- a login that is granted begins with nothing
abbrev pub begun_login : ℕ → LoginNow
begun_login granted = record { granted = granted; outstanding = 0; asked = [] }

-- a request was sent under this tag: a logout ends the login, a command or a task is one more
abbrev pub sent_by : Verb → (tag : ℕ) → Option LoginNow → Option LoginNow
sent_by verbs.Logout tag login = None
sent_by verb tag login = option_map (λ (l : LoginNow). record l { outstanding = l.outstanding + 1; asked = l.asked ++ tag ∷ [] }) login

-- no login is on once its partner was lost, or its queue was freed by a reset that was granted none
abbrev pub kept_by : Verb → Option LoginNow → Option LoginNow
kept_by verbs.Reset login = None
kept_by verb login = login

-- what a record leaves of it
abbrev pub login_by : Verb → Outcome → Option LoginNow → Option LoginNow
login_by verb (outcomes.Granted credits) login = Some (begun_login credits)
login_by verb (outcomes.Sent tag) login = sent_by verb tag login
login_by verb (outcomes.Took count) login = option_map (λ (l : LoginNow). record l { outstanding = l.outstanding - count }) login
login_by verb outcomes.Lost login = None
login_by verb (outcomes.TookThenLost count) login = None
login_by verb _ login = kept_by verb login

-- Nothing speaks against the request by the records: it was sent, or it met the page of one that is outstanding, a queue that is not
-- registered, or a full one.
abbrev pub IsTried : (asked : List ℕ) → Outcome → Type 0
IsTried asked (outcomes.Sent tag) = ⊤
IsTried asked (outcomes.Overlap tag) = Contains asked tag
IsTried asked outcomes.Closed = ⊤
IsTried asked (outcomes.Dropped number held) = ⊤
IsTried asked _ = ⊥

-- the first that speaks against a command or a task by the records: its bytes do not lie in the region, no login is on, or as many
-- are outstanding as are granted, of which 200 count
abbrev pub credit_refusal : Option LoginNow → Option Outcome
credit_refusal None = Some outcomes.NotLoggedIn
credit_refusal (Some l) = if l.outstanding == min l.granted 200 then Some (outcomes.NoCredit 0) else None

abbrev pub told_refusal : (pages : ℕ) → List Range → Option LoginNow → Option Outcome
told_refusal pages ranges login = if not (lie_within pages ranges) then Some outcomes.Range else credit_refusal login

-- the tags sent since the login that is on was granted
abbrev pub asked_in : Option LoginNow → List ℕ
asked_in None = []
asked_in (Some l) = l.asked

-- that is said, or the request is tried
abbrev pub IsAsked : Option LoginNow → Option Outcome → Outcome → Type 0
IsAsked login why outcome = MatchOption why (IsTried (asked_in login) outcome) (λ said. outcome ≡ said)

-- a logout finds no login, or one that is outstanding, or is tried
abbrev pub IsLogout : Option LoginNow → Outcome → Type 0
IsLogout None outcome = outcome ≡ outcomes.NotLoggedIn
IsLogout (Some l) outcome = MatchBool (l.outstanding == 0) (IsTried [] outcome) ((tag : ℕ) × (outcome ≡ outcomes.Overlap tag) × Contains l.asked tag)

-- what a line says, if it sends, or if it is one of the client's own region
abbrev pub IsSaid : (pages : ℕ) → Option LoginNow → Verb → Outcome → Type 0
IsSaid pages login verbs.Logout outcome = IsLogout login outcome
IsSaid pages login (verbs.Fill at len seed) outcome = IsWritten (in_region pages at len) outcome
IsSaid pages login (verbs.Poke at bytes) outcome = IsWritten (in_region pages at (length bytes)) outcome
IsSaid pages login (verbs.Peek at len) outcome = IsShown (in_region pages at len) len outcome
IsSaid pages login (verbs.Tce entry page readable writable) outcome =
    outcome ≡ outcomes.Code (code_if (takes pages (4096 * entry) (tce_of page readable writable)))
IsSaid pages login verb outcome = MatchBool (asks verb) (IsAsked login (told_refusal pages (ranges_of verb) login) outcome) ⊤

-- the same of lines one after the other
abbrev pub AreSaid : (pages : ℕ) → Option LoginNow → List Ended → Type 0
AreSaid pages login [] = ⊤
AreSaid pages login (ended ∷ more) =
    IsSaid pages login ended.verb ended.outcome × AreSaid pages (login_by ended.verb ended.outcome login) more

-- the tags under which requests were sent, by the records
abbrev pub tag_of : Outcome → List ℕ
tag_of (outcomes.Sent tag) = tag ∷ []
tag_of _ = []

abbrev pub tags_told : List Ended → List ℕ
tags_told [] = []
tags_told (ended ∷ more) = tag_of ended.outcome ++ tags_told more

-- Of a client's lines each refusal is so by the records before it, and the tags of what was sent rise.
pub record HasCausesTold (pages : ℕ) (ended : List Ended) : Type 0 where
  pub refusals : AreSaid pages None ended
  pub tags : AllPairs (λ a b. a < b) (tags_told ended)

-- what a trace shows of a client's region, and of its server unit's queue
abbrev pub seen_in : Trace → (client server : UnitId) → Seen
seen_in trace client server = record {
  stroke_at = λ page stroke. Contains (map stroke_value (strokes_on trace client page)) stroke;
  front_at = λ page front. IsFront front (Some (map stroke_value (strokes_on trace client page)));
  value_at = λ entry value. Contains (values_shown trace client entry) value;
  entry_put = λ entry. Contains (sent_to trace server) entry;
}

-- So is it of each client of a partition that makes no raw call; what its lines say that they sent or wrote is there, and what they say of
-- the answers that it took, and of the data of their commands, is so; each answer was read in its region; and where one failed the partition
-- each login of its server unit is ended.
pub record IsClientTold (partitions : List Partition) (trace : Trace) (client server : UnitId) : Type 0 where
  pub causes : HasCausesTold (pages_at partitions client) (ended_by client.unit (script_of partitions client.partition) (records_of trace client.partition))
  pub shown : LinesShow (seen_in trace client server) client client.unit (script_of partitions client.partition) (records_of trace client.partition)
  pub order : AreSentIn (seen_in trace client server) client client.unit (script_of partitions client.partition) (records_of trace client.partition) (sent_to trace server)
  pub drops : AreDropsTold trace client server (script_of partitions client.partition) (records_of trace client.partition)
  pub shut : AreShutTold trace client server (script_of partitions client.partition) (records_of trace client.partition)
  pub failed : AreFailedTold trace server (script_of partitions client.partition) (records_of trace client.partition)
  pub put : AreValuesTold trace client (ended_by client.unit (script_of partitions client.partition) (records_of trace client.partition))
  pub few : EventsAreFew trace server (script_of partitions client.partition) (ended_by client.unit (script_of partitions client.partition) (records_of trace client.partition))
  pub takes : AreAnswersTaken trace client (ended_by client.unit (script_of partitions client.partition) (records_of trace client.partition))
  pub reads : AreDataTold (seen_in trace client server) server (ended_by client.unit (script_of partitions client.partition) (records_of trace client.partition))
      (answers_to trace client)
  pub read : AreResponsesRead (seen_in trace client server).front_at (answers_to trace client)

abbrev pub RefusalsAreTold : List Partition → Trace → Type 0
RefusalsAreTold partitions trace = (client server : UnitId) → IsClientOf partitions client server
    → HasNoCall (script_of partitions client.partition) → IsClientTold partitions trace client server
