-- A step of a line of a plain client: what it leaves between the client and its server unit, and how the line's record is that of the replay.
use Rattle.std.specs.Prelude.{◌≡◌, ◌≢◌, ◌⊎◌, ℕ, ◌+◌, ◌<◌, ◌≤◌, All, Bool, true, false, List, [], ◌∷◌, ◌++◌, Option, None, Result, IfOk, IfSome, drop, is_some, length, ⊤, if◌then◌else◌}
use Rattle.std.specs.List.{list_any}
use Rattle.vio_num.specs.Entry.{is_srp_entry}
use Rattle.vio_num.specs.declared.entry.Entry.{Entry}
use Rattle.vio_num.specs.declared.memory.NoMemory.{NoMemory}
use Rattle.vio_num.specs.declared.hypervisor.Moved.{Moved}
use Rattle.crq_ring.specs.declared.rows.PipeRow.{PipeRow}
use Rattle.crq_session.specs.EndState.{EndState, OnlyTakes}
use Rattle.crq_session.specs.declared.handshake.Handshake.TheVariants.{Waiting}
use Rattle.tce_window.specs.PortState.{OnlyReads, PortState}
use Rattle.block_server.specs.Talk.{Word, tag_asked}
use Rattle.block_server.specs.Talk.Word.{asks}
use Rattle.block_server.specs.declared.unit.Unit.{Unit}
use Rattle.boot_text.specs.declared.verb.Verb.{Verb}
use Rattle.boot_text.specs.declared.verb.Verb.TheVariants as verbs
use Rattle.unit_region.specs.declared.step.Step.{Step}
use Rattle.unit_region.specs.declared.step.Step.TheVariants as steps
use Rattle.vscsi_client.specs.Login.{login_slot}
use Rattle.vscsi_client.specs.Spans.{has_page_of, meets, span_of}
use Rattle.vscsi_client.specs.State.{ClientState, next_tag}
use Rattle.vscsi_client.specs.declared.outgoing.Outgoing.{Outgoing}
use Rattle.vscsi_client.specs.declared.outgoing.Span.{Span}
use Rattle.vscsi_client.specs.declared.row.Row.{Row}
use Rattle.vscsi_client.specs.declared.stage.Stage.TheVariants.{Idle}
use Rattle.vio_num.specs.declared.names.UnitId.{UnitId}
use Rattle.page_slots.specs.Stroke.{StrokeValue}
use Rattle.vcpu_run.specs.Credited.{grants, taken_in}
use Rattle.vcpu_run.specs.PlainClients.{lie_behind, names_own, written_by}
use Rattle.vcpu_run.specs.PlainTalk.{Between, ServerStays, TalksPlainly, is_sent, owes, is_login}
use Rattle.vcpu_run.specs.PlainNoted.{AreLaid, NotesLaid}
use Rattle.vcpu_run.specs.PlainRejected.{TellsRejection}
use Rattle.vcpu_run.specs.declared.driver.Driver.{Driver}
use Rattle.vio_trace.specs.declared.rows.AnswerRow.{AnswerRow}
use Rattle.vcpu_run.specs.Replay.{Asked as Replayed, Range, Replay, after_line, answered, any_share, ends_as, forgotten, logged_in, login_says}
use Rattle.vcpu_run.specs.TagRows.{is_inward, row_at}
use Rattle.vcpu_run.specs.declared.taking.Took.{Took}
use Rattle.vcpu_run.specs.declared.taking.Took.TheVariants as tooks
use Rattle.vcpu_run.specs.declared.script.Progress.{Progress}
use Rattle.vcpu_run.specs.declared.script.Progress.TheVariants as progress

-- WHAT A CLIENT AND THE REPLAY OF ITS LINES HAVE IN COMMON ----------------------------------------

-- whether some of these ranges have a page of a span
abbrev pub have_page_of : Span → List Range → Bool
have_page_of span ranges = list_any (λ r. meets (span_of r.at r.len) span) ranges

-- A request that is outstanding is this one of the replay: it has its tag, and the pages of its ranges, of which those behind the first
-- are of its table.
pub record IsReplayedAs (request : Outgoing) (asked : Replayed) : Type 0 where
  pub tag : request.tag ≡ asked.tag
  pub pages : (span : Span) → has_page_of span request ≡ have_page_of span asked.ranges
  pub table : (span : Span) → meets request.table span ≡ have_page_of span (drop 1 asked.ranges)

abbrev pub AreReplayedAs : List Outgoing → List Replayed → Type 0
AreReplayedAs [] [] = ⊤
AreReplayedAs (request ∷ requests) (asked ∷ more) = IsReplayedAs request asked × AreReplayedAs requests more
AreReplayedAs _ _ = ⊥

-- A login is on in the client just where one is on in the replay, and then its queue is registered; the same is outstanding, which is
-- nothing without a login, and no more than is granted.
pub record AgreeOnCredits (granted : ℕ) (now : Replay) (at : Between) : Type 0 where
  pub is_on : is_some at.client.granted ≡ now.is_on
  pub there : now.is_on ≡ true → at.own.registered ≡ true
  pub outstanding : AreReplayedAs at.client.outgoing now.outstanding
  pub none : now.is_on ≡ false → now.outstanding ≡ []
  pub within : length now.outstanding ≤ granted

-- So is it between two lines: the client's next tag is that of the replay, no login is under way, and the client does not wait to hear of
-- its server unit; before it has registered its queue it has kept no answer.
pub record FollowsReplay (granted : ℕ) (now : Replay) (at : Between) : Type 0 where
  pub tag : next_tag at.client ≡ now.tag
  pub login : at.client.login ≡ Idle
  pub settled : at.client.handshake ≢ Waiting
  pub fresh : at.own.registered ≡ false → at.client.kept ≡ []
  pub credits : AgreeOnCredits granted now at

-- Its partition failed: its queue is not registered, and no entry that was kept is an event or one of the initialisation. (It knows of the
-- login and of what is outstanding as before.)
pub record WasFailed (at : Between) : Type 0 where
  pub laid : AreLaid at.client at.window at.client.kept
  pub registered : at.own.registered ≡ false
  pub kept : All (λ (entry : Entry). is_srp_entry entry ≡ true) at.client.kept

-- behind the last line
abbrev pub RestsAs : (granted : ℕ) → Replay → Between → Type 0
RestsAs granted now at = FollowsReplay granted now at ⊎ WasFailed at

-- In the midst of a login, while the client waits to hear of its server unit: nothing is on, and nothing outstanding.
pub record AwaitsUnit (now : Replay) (at : Between) : Type 0 where
  pub tag : next_tag at.client ≡ now.tag
  pub waits : at.client.handshake ≡ Waiting
  pub off : now.is_on ≡ false
  pub none : now.outstanding ≡ []

-- No answer that was kept is that to the login.
abbrev pub KeptApart : ClientState → Type 0
KeptApart s = All (λ (entry : Entry). login_slot entry.low s.login ≡ None) s.kept

-- Once the login was sent: it has the tag that was next, and its answer was not taken.
pub record HasSentLogin (granted : ℕ) (now : Replay) (at : Between) : Type 0 where
  pub tag : next_tag at.client ≡ now.tag + 1
  pub registered : at.own.registered ≡ true
  pub apart : KeptApart at.client
  pub login : is_sent at.client.login ≡ true
  pub credits : AgreeOnCredits granted now at

-- a login's line: it is to begin, or the client waits to hear of its server unit, or the login was sent
abbrev pub IsLoggingIn : (granted : ℕ) → Replay → Between → Type 0
IsLoggingIn granted now at = FollowsReplay granted now at ⊎ (AwaitsUnit now at ⊎ HasSentLogin granted now at)

-- In the midst of a reset, once the client's queue was freed: but for the tags all is to be forgotten.
pub record HasFreed (now : Replay) (at : Between) : Type 0 where
  pub registered : at.own.registered ≡ false
  pub tag : next_tag at.client ≡ now.tag

abbrev pub IsResetting : (granted : ℕ) → Progress → Replay → Between → Type 0
IsResetting granted progress.Freed now at = HasFreed now at ⊎ IsLoggingIn granted (forgotten now) at
IsResetting granted p now at = FollowsReplay granted now at

-- In the midst of taking answers, so many of these were taken: no more than the line wants, and than were outstanding.
pub record HasTaken (granted count taken : ℕ) (now : Replay) (at : Between) : Type 0 where
  pub wanted : taken ≤ count
  pub there : taken ≤ length now.outstanding
  pub left : FollowsReplay granted (answered taken now) at

-- How far a line came, before which the replay was this.
abbrev pub HasCome : (granted : ℕ) → Verb → Progress → Replay → Between → Type 0
HasCome granted verbs.Login p now at = IsLoggingIn granted now at
HasCome granted verbs.Reset p now at = IsResetting granted p now at
HasCome granted (verbs.Take count) p now at = HasTaken granted count (taken_in p) now at
HasCome granted verb p now at = FollowsReplay granted now at

-- WHAT A STEP OF A LINE LEAVES --------------------------------------------------------------------

-- The server unit is yet to hear of something, or to serve something.
abbrev pub HasToDo : Between → List Word → Type 0
HasToDo at words = (words ≢ []) ⊎ (at.unit.pending.items ≢ [])

-- A line that ends has the outcome of the replay, if it has one there, and leaves what is left by it; one that waits, and has an outcome
-- there, does so only for what the server unit has to do.
abbrev pub IsAsReplayed : (granted : ℕ) → Verb → Progress → Replay → Between → List Word → Step → Type 0
IsAsReplayed granted verb p now at words (steps.Ends outcome) =
    IfSome (ends_as granted at.window.place.size now verb) (λ said. outcome ≡ said)
    × FollowsReplay granted (after_line granted at.window.place.size now verb) at
IsAsReplayed granted verb p now at words (steps.Waits did) =
    HasCome granted verb p now at × IfSome (ends_as granted at.window.place.size now verb) (λ said. HasToDo at words)

-- What a word asks has a tag above the last one of before.
abbrev pub IsNewWord : (last most : ℕ) → Word → Type 0
IsNewWord last most (asks address bytes iu) = (last < tag_asked iu) × (tag_asked iu ≤ most)
IsNewWord last most word = ⊤

-- What a login is asked under is kept as that of no command with data-in.
abbrev pub KeepsLogin : List Row → Word → Type 0
KeepsLogin rs (asks address bytes iu) = is_login iu ≡ true → is_inward (row_at rs (tag_asked iu)) ≡ false
KeepsLogin rs word = ⊤

-- Since it had asked for so many things, a client asked for what these words do, and for no more.
pub record AsksAnew (last : ℕ) (s : ClientState) (words : List Word) : Type 0 where
  pub more : last ≤ length s.rows
  pub asked : All (IsNewWord last (length s.rows)) words
  pub logins : All (KeepsLogin s.rows) words

-- so is it of a step that ends a line
abbrev pub StepTells : Verb → Step → (who : UnitId) → (strokes : ℕ → Option (List StrokeValue)) → Type 0
StepTells verb (steps.Ends outcome) who strokes = TellsRejection verb outcome who strokes
StepTells verb (steps.Waits did) who strokes = ⊤

-- how many logins a step ends as granted: one, or none
abbrev pub granted_by : Step → ℕ
granted_by (steps.Ends outcome) = if grants outcome then 1 else 0
granted_by (steps.Waits did) = 0

-- These words are to come behind the step of a client that had asked for so many things, and was owed so many logins: one of which it is told
-- is owed no more. One that it says was rejected was rejected by the server unit; and what answers it noted, another unit laid.
pub record StepsOn (granted : ℕ) (verb : Verb) (p : Progress) (now : Replay) (last owed : ℕ) (before after : List AnswerRow) (at : Between) (step : Step) : Type 0 where
  pub words : List Word
  pub talks : TalksPlainly granted at words
  pub anew : AsksAnew last at.client words
  pub replayed : IsAsReplayed granted verb p now at words step
  pub told : granted_by step + owes at words ≤ owed
  pub laid : StepTells verb step at.unit.id at.window.strokes
  pub noted : NotesLaid at.window.place.unit at.window.strokes before after

-- a client, the answers that it noted, its queue's end and its window, without the server unit
pub record Own : Type 0 where
  pub client : ClientState
  pub answers : List AnswerRow
  pub end : EndState
  pub window : PortState

abbrev pub own_by : ClientState → List AnswerRow → EndState → PortState → Own
own_by client answers end window = record { client = client; answers = answers; end = end; window = window }

-- the same of a driver
abbrev pub own_of : Driver → EndState → PortState → Own
own_of driver end window = own_by driver.client driver.answers.items end window

-- what was noted between these two
abbrev pub OwnNotes : (old new : Own) → Type 0
OwnNotes old new = NotesLaid new.window.place.unit new.window.strokes old.answers new.answers

abbrev pub beside : Unit → EndState → Own → Between
beside unit server own = record { unit = unit; server = server; client = own.client; own = own.end; window = own.window }

-- A line keeps each entry its own page, and it writes behind the driver's pages. (It may take a right from these.)
pub record IsPlainVerb (verb : Verb) : Type 0 where
  pub own_entry : names_own verb ≡ true
  pub behind : lie_behind (written_by verb) ≡ true

-- A line writes on no page of a table of what is outstanding.
abbrev pub SparesTables : Verb → Replay → Type 0
SparesTables verb now = All (λ asked. any_share (written_by verb) (drop 1 asked.ranges) ≡ false) now.outstanding

-- A step of a plain line goes on as the replay, whatever the server unit and its queue's end are, so long as nothing is to come there.
-- Nobody else has a hand in the end and the window.
abbrev pub StepsPlainly : Verb → (p p' : Progress) → (old new : Own) → Result Step NoMemory → Type 0
StepsPlainly verb p p' old new result =
    IsPlainVerb verb → (granted : ℕ) (unit : Unit) (server server' : EndState) (now : Replay) → SparesTables verb now
    → ServerStays (beside unit server old) (beside unit server' new) → TalksPlainly granted (beside unit server old) []
    → HasCome granted verb p now (beside unit server old)
    → IfOk result (StepsOn granted verb p' now (length old.client.rows) (owes (beside unit server old) []) old.answers new.answers (beside unit server' new))

-- WHAT TAKING AN ENTRY LEAVES ---------------------------------------------------------------------

-- An answer is that of the oldest that was outstanding. There is none only where nothing is outstanding, or the server unit has it to
-- serve; and nothing else is found.
abbrev pub LeavesTook : (granted : ℕ) → Replay → Took → Between → Type 0
LeavesTook granted now tooks.Answer at = (1 ≤ length now.outstanding) × FollowsReplay granted (answered 1 now) at
LeavesTook granted now tooks.Nothing at = FollowsReplay granted now at × ((now.outstanding ≡ []) ⊎ HasToDo at [])
LeavesTook granted now took at = ⊥

-- The client's end took some entries, and did nothing else.
pub record TakesEntries (old new : EndState) : Type 0 where
  pub rest : OnlyTakes false old new
  pub rows : List PipeRow
  pub more : new.taken ≡ old.taken ++ rows

-- Where its partition failed, it has, and the client has asked for nothing since.
abbrev pub FailsOn : (old new : Own) → Type 0
FailsOn old new = (granted : ℕ) (unit : Unit) (server server' : EndState) → ServerStays (beside unit server old) (beside unit server' new)
    → TalksPlainly granted (beside unit server old) [] → WasFailed (beside unit server old)
    → TalksPlainly granted (beside unit server' new) [] × WasFailed (beside unit server' new) × (next_tag new.client ≡ next_tag old.client) × OwnNotes old new

pub record TakesPlainly (took : Took) (old new : Own) : Type 0 where
  pub entries : TakesEntries old.end new.end
  pub reads : OnlyReads false old.window new.window
  pub leaves : (granted : ℕ) (unit : Unit) (server server' : EndState) (now : Replay) → ServerStays (beside unit server old) (beside unit server' new)
      → TalksPlainly granted (beside unit server old) [] → FollowsReplay granted now (beside unit server old)
      → TalksPlainly granted (beside unit server' new) [] × LeavesTook granted now took (beside unit server' new) × OwnNotes old new
  pub failed : FailsOn old new

-- WHAT A TURN OF A LOGIN LEAVES -------------------------------------------------------------------

-- A login's line, or one that resets, goes on with a turn: where the queue was freed, nothing is on and nothing outstanding.
abbrev pub MayLogIn : (granted : ℕ) → Replay → Between → Type 0
MayLogIn granted now at = IsLoggingIn granted now at ⊎ (HasFreed now at × (now.is_on ≡ false) × (now.outstanding ≡ []))

-- it ends as the replay says, or waits for what the server unit has to do
abbrev pub IsLoginReplayed : (granted : ℕ) → Replay → Between → List Word → Step → Type 0
IsLoginReplayed granted now at words (steps.Ends outcome) = (outcome ≡ login_says granted now) × FollowsReplay granted (logged_in now) at
IsLoginReplayed granted now at words (steps.Waits did) = IsLoggingIn granted now at × HasToDo at words

-- WHAT TAKING ALL THE REST LEAVES -----------------------------------------------------------------

-- Behind the last line answers are taken, and nothing is asked.
abbrev pub RestsPlainly : (old new : Own) → Result Moved NoMemory → Type 0
RestsPlainly old new result = (granted : ℕ) (unit : Unit) (server server' : EndState) (now : Replay) → ServerStays (beside unit server old) (beside unit server' new)
    → TalksPlainly granted (beside unit server old) [] → RestsAs granted now (beside unit server old)
    → IfOk result (λ moved. TalksPlainly granted (beside unit server' new) [] × (later : Replay) × (next_tag new.client ≡ next_tag old.client) × RestsAs granted later (beside unit server' new) × OwnNotes old new)

abbrev pub LogsInPlainly : (old new : Own) → Result Step NoMemory → Type 0
LogsInPlainly old new result = (granted : ℕ) (unit : Unit) (server server' : EndState) (now : Replay) → ServerStays (beside unit server old) (beside unit server' new)
    → TalksPlainly granted (beside unit server old) [] → MayLogIn granted now (beside unit server old)
    → IfOk result (λ step. (words : List Word) × TalksPlainly granted (beside unit server' new) words × AsksAnew (length old.client.rows) new.client words × IsLoginReplayed granted now (beside unit server' new) words step
    × StepTells verbs.Login step unit.id new.window.strokes × (new.answers ≡ old.answers))
