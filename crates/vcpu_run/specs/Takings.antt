-- What each step of a client's line keeps of the answers that it took: where they stand among the entries, and what the records
-- tell of them.
use Rattle.std.specs.Prelude.{◌≡◌, ℕ, ◌+◌, ◌≤◌, true, All, List, [], ◌∷◌, ◌++◌, Option, Some, None, Result, Ok, Err, length, ⊤}
use Rattle.vio_num.specs.declared.entry.Entry.{Entry}
use Rattle.vio_num.specs.declared.memory.NoMemory.{NoMemory}
use Rattle.crq_session.specs.EndState.{EndState}
use Rattle.srp_iu.specs.Grammar.{Canon}
use Rattle.srp_iu.specs.declared.response.Rsp.{Rsp as Response}
use Rattle.srp_iu.specs.declared.unit.Iu.TheVariants as units
use Rattle.boot_text.specs.declared.verb.Verb.{Verb}
use Rattle.boot_text.specs.declared.verb.Verb.TheVariants as verbs
use Rattle.vio_trace.specs.declared.rows.AnswerRow.{AnswerRow}
use Rattle.vscsi_client.specs.Login.{login_slot}
use Rattle.vscsi_client.specs.State.{ClientState, tags_of}
use Rattle.vscsi_client.specs.declared.row.Row.{Row}
use Rattle.vscsi_client.specs.declared.stage.Stage.{Stage}
use Rattle.unit_region.specs.declared.step.Step.{Step}
use Rattle.unit_region.specs.declared.step.Step.TheVariants as steps
use Rattle.vcpu_run.specs.declared.driver.Driver.{Driver}
use Rattle.vcpu_run.specs.declared.taking.Took.{Took}
use Rattle.vcpu_run.specs.declared.taking.Took.TheVariants as tooks
use Rattle.vcpu_run.specs.Answered.{AreBegun}
use Rattle.vcpu_run.specs.DataKept.{KeepsData}
use Rattle.vcpu_run.specs.EventsHeard.{Hears}
use Rattle.vcpu_run.specs.TagRows.{is_given, is_inward, row_at}
use Rattle.vcpu_run.specs.AnswersTaken.{AreAmong, IsAnswerOf, IsTakeSaid, TakesNow, answered_tags, has_tag, is_known, tags_among, tags_taken, takes_by}

-- an entry that is held and is not under the tag of the login
abbrev pub unless_login : Option ℕ → Entry → List Entry
unless_login None entry = entry ∷ []
unless_login (Some slot) entry = []

abbrev pub waiting_by : Option Entry → Stage → List Entry
waiting_by None login = []
waiting_by (Some entry) login = unless_login (login_slot entry.low login) entry

abbrev pub waiting : ClientState → List Entry
waiting s = waiting_by s.held s.login

-- a registered queue is in a session
abbrev pub IsBegun : EndState → Type 0
IsBegun end = end.registered ≡ true → 1 ≤ end.last_session

-- The answers, and behind them the entries that are kept, stand in order among what was taken, which was taken in sessions; and none
-- waits besides.
pub record AreGiven (driver : Driver) (end : EndState) : Type 0 where
  pub begun : AreBegun end.taken
  pub order : AreAmong (answered_tags driver.answers.items ++ tags_among driver.client.kept) (tags_taken end.taken)
  pub rest : waiting driver.client ≡ []
  pub each : All IsAnswerOf driver.answers.items

-- more answers stand behind those of before
abbrev pub HasMoreAnswers : List AnswerRow → List AnswerRow → Type 0
HasMoreAnswers old new = (rows : List AnswerRow) × (new ≡ old ++ rows)

-- the client's server unit is that of before
abbrev pub SameServer : ClientState → ClientState → Type 0
SameServer s s' = s'.server ≡ s.server

-- A client's steps keep this at its end.
pub record Gives (old new : Driver) (end end' : EndState) : Type 0 where
  pub heard : Hears 0 old.client new.client end end'
  pub server : SameServer old.client new.client
  pub keeps : KeepsData old.client new.client old.answers.items new.answers.items
  pub more : HasMoreAnswers old.answers.items new.answers.items
  pub session : IsBegun end → IsBegun end'
  pub given : IsBegun end → AreGiven old end → AreGiven new end'

-- What a client keeps of a tag is what the records tell, and the answers with these tags.
pub record FitsTag (rs : List Row) (asked tags inward : List ℕ) (tag : ℕ) : Type 0 where
  pub sent : has_tag tag inward ≡ true → is_inward (row_at rs tag) ≡ true
  pub of_line : has_tag tag asked ≡ true → is_inward (row_at rs tag) ≡ true → has_tag tag inward ≡ true
  pub known : is_given (row_at rs tag) ≡ is_known tag tags inward
  pub answered : has_tag tag tags ≡ true → tag ≤ length rs
  pub begun : has_tag tag asked ≡ true → 1 ≤ tag
  pub used : has_tag tag asked ≡ true → tag ≤ length rs

-- There are as many answers as the records and the current line took, and each tag is as they tell.
pub record AgreesTaken (taken : ℕ) (now : TakesNow) (driver : Driver) : Type 0 where
  pub count : length driver.answers.items ≡ now.count + taken
  pub tags : (tag : ℕ) → FitsTag driver.client.rows (tags_of driver.client.outgoing) (answered_tags driver.answers.items) now.inward tag

-- an entry that is taken keeps this, and an answer is one more
abbrev pub taken_as : Took → ℕ → ℕ
taken_as tooks.Answer taken = taken + 1
taken_as _ taken = taken

abbrev pub TookTaken : Took → Driver → Driver → Type 0
TookTaken took a b = (taken : ℕ) (now : TakesNow) → AgreesTaken taken now a → AgreesTaken (taken_as took taken) now b

-- An answer of this tag was noted.
pub record Notes (tag : ℕ) (response : Response) (old new : List AnswerRow) : Type 0 where
  pub row : AnswerRow
  pub rows : new ≡ old ++ row ∷ []
  pub tag_is : row.tag ≡ tag
  pub canonical : Canon row.answer (units.Rsp response)

-- it was noted as one taken in this session
pub record NotesIn (session tag : ℕ) (response : Response) (old new : List AnswerRow) : Type 0 where
  pub noted : Notes tag response old new
  pub session_is : noted.row.session ≡ session

-- what a line took so far: no more than it says, and nothing where it takes none
abbrev pub IsTakenUpTo : Verb → (taken : ℕ) → Type 0
IsTakenUpTo (verbs.Take count) taken = taken ≤ count
IsTakenUpTo _ taken = taken ≡ 0

-- a step of a line keeps this
abbrev pub KeepsTaken : Verb → (taken taken' : ℕ) → Driver → Driver → Step → Type 0
KeepsTaken verb taken taken' a b (steps.Ends outcome) = (now : TakesNow) → AgreesTaken taken now a
    → IsTakeSaid (answered_tags b.answers.items) now verb outcome × AgreesTaken 0 (takes_by verb outcome now) b
KeepsTaken verb taken taken' a b (steps.Waits did) =
    IsTakenUpTo verb taken' × ((now : TakesNow) → AgreesTaken taken now a → AgreesTaken taken' now b)

abbrev pub StepsTaken : Verb → (taken taken' : ℕ) → Driver → Driver → Result Step NoMemory → Type 0
StepsTaken verb taken taken' a b (Ok step) = IsTakenUpTo verb taken → KeepsTaken verb taken taken' a b step
StepsTaken verb taken taken' a b (Err memory) = ⊤
