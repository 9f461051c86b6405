-- What a client keeps of the data of its commands: where they lie, as the lines say that sent them, and how much of them its answers leave.
use Rattle.std.specs.Prelude.{◌≡◌, ℕ, ◌*◌, ◌≤◌, true, List, Option, Some, None, IfSome, length, ⊤}
use Rattle.std.specs.List.{Contains}
use Rattle.srp_iu.specs.Grammar.{Canon}
use Rattle.srp_iu.specs.declared.response.Rsp.{Rsp as Response}
use Rattle.srp_iu.specs.declared.unit.Iu.TheVariants as units
use Rattle.boot_text.specs.declared.verb.Verb.{Verb}
use Rattle.boot_text.specs.declared.verb.Verb.TheVariants as verbs
use Rattle.vio_trace.specs.declared.outcome.Outcome.{Outcome}
use Rattle.vio_trace.specs.declared.outcome.Outcome.TheVariants as outcomes
use Rattle.vio_trace.specs.declared.rows.AnswerRow.{AnswerRow}
use Rattle.vscsi_client.specs.State.{ClientState, tags_of}
use Rattle.vscsi_client.specs.Transferred.{DataRange, transferred}
use Rattle.vscsi_client.specs.declared.op.Dir.TheVariants as dirs
use Rattle.vscsi_client.specs.declared.outgoing.Outgoing.{Outgoing}
use Rattle.vscsi_client.specs.declared.row.DataIn.{DataIn}
use Rattle.vscsi_client.specs.declared.row.Row.{Row}
use Rattle.vscsi_client.specs.declared.row.Row.TheVariants as rows
use Rattle.unit_region.specs.declared.step.Step.{Step}
use Rattle.unit_region.specs.declared.step.Step.TheVariants as steps
use Rattle.vcpu_run.specs.AnswersTaken.{has_tag}
use Rattle.vcpu_run.specs.Credited.{Ended}
use Rattle.vcpu_run.specs.TagRows.{is_inward, row_at}

-- what a response says of its command's data-in
abbrev pub said_by : Response → DataIn
said_by response = record { flags = response.flags; in_residual = response.in_residual }

-- An answer of a tag was noted that says so of its command's data-in.
pub record IsNoted (answers : List AnswerRow) (tag : ℕ) (said : DataIn) : Type 0 where
  pub row : AnswerRow
  pub there : Contains answers row
  pub tag_is : row.tag ≡ tag
  pub response : Response
  pub canonical : Canon row.answer (units.Rsp response)
  pub says : said ≡ said_by response

-- what a client knows of data-in that were answered is what an answer says that it noted
abbrev pub AreNoted : List Row → List AnswerRow → Type 0
AreNoted rs answers = (tag at len : ℕ) (said : DataIn) → row_at rs tag ≡ rows.Command dirs.In at len (Some said) → IsNoted answers tag said

-- the row of a tag is of a command with data-in that lie there
abbrev pub IsInwardAt : List Row → (tag at len : ℕ) → Type 0
IsInwardAt rs tag at len = (said : Option DataIn) × (row_at rs tag ≡ rows.Command dirs.In at len said)

-- no request is outstanding under tag 0
abbrev pub AreAsked : List Outgoing → Type 0
AreAsked outgoing = (tag : ℕ) → has_tag tag (tags_of outgoing) ≡ true → 1 ≤ tag

-- A step of a client whose tags are so leaves the data of each command where they are, and has noted what it knows of them; what it asked for
-- before is no command with data-in if it was none.
pub record KeepsData (s s' : ClientState) (answers answers' : List AnswerRow) : Type 0 where
  pub more : length s.rows ≤ length s'.rows
  pub kinds : AreAsked s.outgoing → (tag : ℕ) → tag ≤ length s.rows → is_inward (row_at s'.rows tag) ≡ true → is_inward (row_at s.rows tag) ≡ true
  pub asked : AreAsked s.outgoing → AreAsked s'.outgoing
  pub rows_stay : AreAsked s.outgoing → (tag at len : ℕ) → IsInwardAt s.rows tag at len → IsInwardAt s'.rows tag at len
  pub noted : AreAsked s.outgoing → AreNoted s.rows answers → AreNoted s'.rows answers'

-- where the data-in of a line's command lie: 512 bytes a block, or as many as it says
abbrev pub range_in : Verb → Option DataRange
range_in (verbs.Read lba blocks at pieces table) = Some (record { at = at; len = 512 * blocks })
range_in (verbs.CommandIn cdb at len pieces table) = Some (record { at = at; len = len })
range_in _ = None

-- a request that was sent under a tag has its row, if it has data-in
abbrev pub IsKeptAt : List Row → Option DataRange → Outcome → Type 0
IsKeptAt rs range (outcomes.Sent tag) = IfSome range (λ r. IsInwardAt rs tag r.at r.len)
IsKeptAt rs range _ = ⊤

abbrev pub StepSends : List Row → Verb → Step → Type 0
StepSends rs verb (steps.Ends outcome) = IsKeptAt rs (range_in verb) outcome
StepSends rs verb (steps.Waits did) = ⊤

-- the same of lines that ended
abbrev pub AreKeptAt : List Row → List Ended → Type 0
AreKeptAt rs ended = (e : Ended) → Contains ended e → IsKeptAt rs (range_in e.verb) e.outcome

-- The data of a tag lie in a range: that of a line that was sent under the tag, cut to what an answer of the tag says was transferred.
pub record IsRangeOf (ended : List Ended) (answers : List AnswerRow) (tag : ℕ) (range : DataRange) : Type 0 where
  pub line : Ended
  pub there : Contains ended line
  pub sent : line.outcome ≡ outcomes.Sent tag
  pub len : ℕ
  pub reads : range_in line.verb ≡ Some (record { at = range.at; len = len })
  pub said : DataIn
  pub noted : IsNoted answers tag said
  pub cut : range.len ≡ transferred len said
