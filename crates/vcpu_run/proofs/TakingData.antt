-- What a line says that gives the data of a tag: they are known where the client keeps an answer to a command with data-in.
use Rattle.std.proofs.Common.{◌≡◌, ◌∙◌, ℕ, ◌-◌, nat_le, Bool, true, false, cond, List, Some, None, Result, Ok, Err, length, slice_index_or, take, refl, sym, ap, subst, arith}
use Rattle.std.proofs.lemmas.List.{length-map, take_all}
use Rattle.boot_text.specs.declared.verb.Verb.TheVariants as verbs
use Rattle.vio_num.specs.declared.hypervisor.Moved.{Moved}
use Rattle.vio_trace.specs.declared.outcome.Outcome.{Outcome}
use Rattle.vio_trace.specs.declared.outcome.Outcome.TheVariants as outcomes
use Rattle.vio_trace.specs.declared.rows.AnswerRow.{AnswerRow}
use Rattle.unit_region.specs.declared.step.Step.TheVariants as steps
use Rattle.vscsi_client.specs.State.{ClientState}
use Rattle.vscsi_client.specs.Transferred.{data_of_row, data_range}
use Rattle.vscsi_client.specs.declared.answers.DataFault.{DataFault}
use Rattle.vscsi_client.specs.declared.answers.DataFault.TheVariants as faults
use Rattle.vscsi_client.specs.declared.op.Dir.TheVariants as dirs
use Rattle.vscsi_client.specs.declared.row.Row.{Row}
use Rattle.vscsi_client.specs.declared.row.Row.TheVariants as rows
use Rattle.vcpu_run.specs.declared.driver.Driver.{Driver}
use Rattle.vcpu_run.specs.AnswersTaken.{IsDataSaid, TakesNow, answered_tags, is_known, takes_by}
use Rattle.vcpu_run.specs.Takings.{AgreesTaken, StepsTaken}
use Rattle.vcpu_run.specs.TagRows.{is_given, row_at}
use Rattle.vcpu_run.proofs.AnswersCounted.{SameTags, same_agrees}

given_none : (row : Row) → data_of_row row ≡ None → is_given row ≡ false
given_none (rows.Command dirs.In at len (Some said)) none = absurd (cc)
given_none (rows.Command dirs.In at len None) none = refl
given_none (rows.Command dirs.Out at len said) none = refl
given_none (rows.Command dirs.Neither at len said) none = refl
given_none rows.Login none = refl
given_none rows.Logout none = refl
given_none rows.Task none = refl

none_given : (row : Row) → is_given row ≡ false → data_of_row row ≡ None
none_given (rows.Command dirs.In at len (Some said)) none = absurd (cc)
none_given (rows.Command dirs.In at len None) none = refl
none_given (rows.Command dirs.Out at len said) none = refl
none_given (rows.Command dirs.Neither at len said) none = refl
none_given rows.Login none = refl
none_given rows.Logout none = refl
none_given rows.Task none = refl

-- the range of a tag is none where its row was not answered
range_given : (s : ClientState) (tag : ℕ) → data_range s tag ≡ None → is_given (row_at s.rows tag) ≡ false
range_given s tag none = at (nat_le 1 tag) none
  where
    at : (b : Bool) → cond b (data_of_row (slice_index_or s.rows (tag - 1) rows.Login)) None ≡ None → is_given (cond b (slice_index_or s.rows (tag - 1) rows.Login) rows.Login) ≡ false
    at true e = given_none (slice_index_or s.rows (tag - 1) rows.Login) e
    at false e = refl

given_range : (s : ClientState) (tag : ℕ) → is_given (row_at s.rows tag) ≡ false → data_range s tag ≡ None
given_range s tag none = at (nat_le 1 tag) none
  where
    at : (b : Bool) → is_given (cond b (slice_index_or s.rows (tag - 1) rows.Login) rows.Login) ≡ false → cond b (data_of_row (slice_index_or s.rows (tag - 1) rows.Login)) None ≡ None
    at true e = none_given (slice_index_or s.rows (tag - 1) rows.Login) e
    at false e = refl

-- all answers are those that the records tell of
known_now : (tag : ℕ) (now : TakesNow) (a : Driver) → AgreesTaken 0 now a → is_known tag (take now.count (answered_tags a.answers.items)) now.inward ≡ is_given (row_at a.client.rows tag)
known_now tag now a agrees =
    let count : now.count ≡ length (answered_tags a.answers.items) = omega (arith, agrees.count, length-map a.answers.items (λ (row : AnswerRow). row.tag)) in
    ap (λ (n : ℕ). is_known tag (take n (answered_tags a.answers.items)) now.inward) count
    ∙ (ap (λ (tags : List ℕ). is_known tag tags now.inward) (take_all (length (answered_tags a.answers.items)) (answered_tags a.answers.items) (omega arith)) ∙ sym (agrees.tags tag).known)

-- data that are known are given, or are stale
pub known_taken : (tag : ℕ) (a b : Driver) (outcome : Outcome) → SameTags a b → (data_range a.client tag ≡ None → ⊥) → IsDataSaid true outcome → ((now : TakesNow) → takes_by (verbs.Data tag) outcome now ≡ now)
    → StepsTaken (verbs.Data tag) 0 0 a b (Ok (steps.Ends outcome))
known_taken tag a b outcome same some said still = λ up_to now agrees. (
  subst (λ (tags : List ℕ). IsDataSaid (is_known tag (take now.count tags) now.inward) outcome) (sym (ap answered_tags same.answers))
      (subst (λ (b : Bool). IsDataSaid b outcome) (sym (known_now tag now a agrees ∙ given (is_given (row_at a.client.rows tag)) refl)) said),
  subst (λ (n : TakesNow). AgreesTaken 0 n b) (sym (still now)) (same_agrees 0 now a b same agrees),
)
  where
    given : (t : Bool) → is_given (row_at a.client.rows tag) ≡ t → is_given (row_at a.client.rows tag) ≡ true
    given true e = e
    given false e = absurd (some (given_range a.client tag e))

-- others are unknown
pub unknown_taken : (tag : ℕ) (a b : Driver) → SameTags a b → data_range a.client tag ≡ None → StepsTaken (verbs.Data tag) 0 0 a b (Ok (steps.Ends outcomes.Unknown))
unknown_taken tag a b same none = λ up_to now agrees. (
  subst (λ (tags : List ℕ). IsDataSaid (is_known tag (take now.count tags) now.inward) outcomes.Unknown) (sym (ap answered_tags same.answers))
      (subst (λ (b : Bool). IsDataSaid b outcomes.Unknown) (sym (known_now tag now a agrees ∙ range_given a.client tag none)) refl),
  same_agrees 0 now a b same agrees,
)

pub data_waits : (tag : ℕ) (a b : Driver) (did : Moved) → SameTags a b → StepsTaken (verbs.Data tag) 0 0 a b (Ok (steps.Waits did))
data_waits tag a b did same = λ up_to. (refl, λ now agrees. same_agrees 0 now a b same agrees)

-- data that are stale are not unknown
pub not_unknown : {T : Type 0} → (r : Result T DataFault) (page : ℕ) → r ≡ Err (faults.Stale page) → r ≡ Err faults.Unknown → ⊥
not_unknown r page stale unknown = cc (stale, unknown)
