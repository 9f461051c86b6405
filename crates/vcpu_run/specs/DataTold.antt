-- What the lines of a client say of the data of its commands.
use Rattle.std.specs.Prelude.{ℕ, List, Option, IfSome, ⊤}
use Rattle.std.specs.List.{Contains}
use Rattle.vio_num.specs.declared.names.UnitId.{UnitId}
use Rattle.page_slots.specs.declared.stroke.StrokeName.{StrokeName}
use Rattle.vio_trace.specs.declared.outcome.Outcome.{Outcome}
use Rattle.vio_trace.specs.declared.outcome.Outcome.TheVariants as outcomes
use Rattle.vio_trace.specs.declared.rows.AnswerRow.{AnswerRow}
use Rattle.vscsi_client.specs.Transferred.{DataRange}
use Rattle.vcpu_run.specs.Credited.{Ended}
use Rattle.vcpu_run.specs.DataKept.{IsRangeOf}
use Rattle.vcpu_run.specs.DataRead.{IsDataTold, given_by}
use Rattle.vcpu_run.specs.LinesShow.{Seen}

-- What is said of the data of a tag is so of their range.
pub record IsGivenFrom (seen : Seen) (name : StrokeName) (ended : List Ended) (answers : List AnswerRow) (outcome : Outcome) : Type 0 where
  pub range : DataRange
  pub of_line : IsRangeOf ended answers name.mark range
  pub told : IsDataTold seen name range outcome

-- data that are given, or are stale
abbrev pub IsGivenIf : Seen → StrokeName → List Ended → List AnswerRow → Outcome → Type 0
IsGivenIf seen name ended answers (outcomes.Data len total) = IsGivenFrom seen name ended answers (outcomes.Data len total)
IsGivenIf seen name ended answers (outcomes.Stale page) = IsGivenFrom seen name ended answers (outcomes.Stale page)
IsGivenIf seen name ended answers _ = ⊤

-- a line that gives the data of a tag reads what its client's server unit wrote last under the tag
abbrev pub IsLineGiven : Seen → (server : UnitId) → List Ended → List AnswerRow → (tag : Option ℕ) → Outcome → Type 0
IsLineGiven seen server ended answers given outcome = IfSome given (λ tag. IsGivenIf seen (record { who = server; mark = tag }) ended answers outcome)

-- the same of all lines of a client
abbrev pub AreDataTold : Seen → (server : UnitId) → List Ended → List AnswerRow → Type 0
AreDataTold seen server ended answers = (e : Ended) → Contains ended e → IsLineGiven seen server ended answers (given_by e.verb) e.outcome
