-- Each step of a server unit whose session is over, or was, keeps what is so of its rows and of what it laid: no row is added, and what is laid is
-- the answer to a login, which is no response.
use Rattle.std.proofs.Common.{◌≡◌, ◌∙◌, ◌⊎◌, inl, inr, ℕ, Bool, true, List, [], ◌∷◌, Option, sym, ap, subst}
use Rattle.crq_session.specs.EndState.{EndState}
use Rattle.srp_iu.specs.declared.unit.Iu.{Iu}
use Rattle.srp_iu.specs.declared.unit.Iu.TheVariants as units
use Rattle.block_server.specs.Doings.{Does, DoesOne, Doing, DropsAll, KeepsEntry, LeadsOver, LogsOutFirst, LosesEntry, Prepares, PutsEntry, TakesRequest, WritesAnswer}
use Rattle.block_server.specs.Judged.{row_in}
use Rattle.block_server.specs.RowsOn.{HasLastRow}
use Rattle.block_server.specs.Standing.{IsAnswerTo}
use Rattle.block_server.specs.Talk.{Suits, order_asked}
use Rattle.block_server.specs.declared.request.Request.{Request}
use Rattle.block_server.specs.declared.service.Outcome.{Outcome}
use Rattle.block_server.specs.declared.service.Outcome.TheVariants as outcomes
use Rattle.block_server.specs.declared.service.Stage.{Stage}
use Rattle.block_server.specs.declared.service.Stage.TheVariants as stages
use Rattle.vscsi_client.specs.State.{ClientState}
use Rattle.vcpu_run.specs.OwnOver.{IsOver, IsPrepared, IsWritten, stream_of}
use Rattle.vcpu_run.specs.OwnRows.{KeepsRows}
use Rattle.vcpu_run.specs.PlainTalk.{Ask, IsAsk, IsFair, IsPendingAs, is_grant, is_login}
use Rattle.vcpu_run.proofs.OverDoes.{answer_entry, none_pending, over_does, start_answer, start_entry}
use Rattle.vcpu_run.proofs.OverServes.{grant_row, prepares_grants, prepares_known, same_outcome, same_request}
use Rattle.vcpu_run.proofs.OverSteps.{IsJoining, joining_ask, served_by}
use Rattle.vcpu_run.proofs.OwnRowsDo.{aside_rows}
use Rattle.vcpu_run.proofs.OwnRowsPut.{puts_rows}
use Rattle.vcpu_run.proofs.OwnRowsStay.{calls_rows, drops_rows, idle_stays, keeps_rows, logs_rows, rows_stay, settled_stay, settles_rows, takes_rows}
use Rattle.vcpu_run.proofs.OwnRowsWrites.{writes_rows}
use Rattle.vcpu_run.proofs.OwnWrites.{WorkedFirst}

-- ---- the answer to a login is worked out

-- no row is added for it
pub no_row : (d d' : Doing) (step : Prepares d d') → is_grant step.outcome ≡ true → d'.rows ≡ d.rows
no_row d d' step grants =
    subst (λ (place : Option ℕ). HasLastRow d.id step.request d.rows place d'.rows) (ap row_in step.stage ∙ grant_row step.outcome grants) step.rows

prepared_rows : (d d' : Doing) (s : ClientState) (step : Prepares d d') → is_grant step.outcome ≡ true → KeepsRows d s → KeepsRows d' s
prepared_rows d d' s step grants keeps =
    rows_stay d d' s
    (record {
      id = step.stays.id;
      rows = no_row d d' step grants;
      client = prepares_known d d' step grants;
      due = λ stroke is. absurd (start_entry d.stage (outcomes.Served is.place) step.first is.stage);
      settled = settled_stay d d' step.stays.id (no_row d d' step grants) (ap row_in step.stage ∙ grant_row step.outcome grants ∙ sym (ap row_in step.first))
          (λ request rest is. (rest, step.pends ∙ is));
    })
    keeps

-- ---- it is written

login_suits : (iu : Iu) (outcome : Outcome) → is_login iu ≡ true → IsFair iu → is_grant outcome ≡ true → Suits 0 (order_asked iu) outcome
login_suits (units.LoginReq request) (outcomes.Granted number) is fair grants = fair
login_suits (units.LoginReq request) outcome is fair grants = absurd (cc (grants))
login_suits iu outcome isnt fair grants = absurd (cc (isnt))

same_answer : (stage : Stage) (a b : Outcome) → stage ≡ stages.Answer a → stage ≡ stages.Answer b → a ≡ b
same_answer stage a b is other = cc (is, other)

login_worked : (granted : ℕ) (d : Doing) (own : EndState) (ask : Ask) → d.logins.granted ≡ granted → IsAsk ask → is_login ask.iu ≡ true → (is : IsPrepared d own ask)
    → WorkedFirst granted d is.outcome ask
login_worked granted d own ask grants is_ask login is = record {
  current = 0;
  suits = login_suits ask.iu is.outcome login is_ask.fair is.grants;
  answer = subst (λ (n : ℕ). IsAnswerTo 0 n ask.tag (order_asked ask.iu) is.outcome d.answer) grants is.answer;
}

written_rows : (granted : ℕ) (failed : Bool) (d d' : Doing) (s : ClientState) (own : EndState) → (is : IsOver granted failed d s own) → (ask : Ask)
    → IsJoining failed d s own (stream_of s is.rest) is.answered is.lost ask → IsPrepared d own ask → WritesAnswer d d' → KeepsRows d s → KeepsRows d' s
written_rows granted failed d d' s own is ask joins prepared step keeps =
    writes_rows granted d d' s ask step is.usable is_ask
    (subst (λ (request : Request). IsPendingAs request ask)
    (sym (same_request d.pending step.request prepared.serves.request step.rest [] step.pending prepared.serves.pending)) prepared.serves.is)
    (subst (λ (outcome : Outcome). WorkedFirst granted d outcome ask) (same_answer d.stage prepared.outcome step.outcome prepared.stage step.first)
    (login_worked granted d own ask is.grants is_ask joins.has.asked prepared)) keeps
  where
    is_ask : IsAsk ask
    is_ask = joining_ask failed d s own (stream_of s is.rest) is.answered is.lost ask joins is.owed.each

-- ---- its entry is lost

grant_served : (outcome : Outcome) (place : ℕ) → is_grant outcome ≡ true → outcome ≡ outcomes.Served place → ⊥
grant_served outcome place grants is = by (subst (λ (o : Outcome). is_grant o ≡ true) is grants)
  where
    by : is_grant (outcomes.Served place) ≡ true → ⊥
    by e = cc (e)

lost_rows : (granted : ℕ) (d d' : Doing) (s : ClientState) (own : EndState) (ask : Ask) → IsWritten granted d own ask → LosesEntry d d' → KeepsRows d s → KeepsRows d' s
lost_rows granted d d' s own ask is step keeps =
    idle_stays d d' s step.stays.id step.put.rows step.put.client step.stage
    (λ place at. grant_served is.outcome place is.grants (same_outcome d.stage is.outcome (outcomes.Served place) is.stage at)) keeps

-- ---- each step

prepares_over : (granted : ℕ) (failed : Bool) (d d' : Doing) (s : ClientState) (own : EndState) → IsOver granted failed d s own → Prepares d d' → KeepsRows d s → KeepsRows d' s
prepares_over granted failed d d' s own is step keeps =
    served_by granted failed d s own (stream_of s is.rest) is.answered is.lost (λ none. absurd (none_pending d.pending step.request step.rest none step.pending))
    (λ ask joins taken. prepared_rows d d' s step
    (prepares_grants d d' own ask (joining_ask failed d s own (stream_of s is.rest) is.answered is.lost ask joins is.owed.each) joins.has.asked step taken.serves) keeps)
    (λ ask joins prepared. absurd (start_answer d.stage prepared.outcome step.first prepared.stage))
    (λ ask joins written. absurd (start_entry d.stage written.outcome step.first written.stage)) is.phase

writes_over : (granted : ℕ) (failed : Bool) (d d' : Doing) (s : ClientState) (own : EndState) → IsOver granted failed d s own → WritesAnswer d d' → KeepsRows d s → KeepsRows d' s
writes_over granted failed d d' s own is step keeps =
    served_by granted failed d s own (stream_of s is.rest) is.answered is.lost (λ none. absurd (none_pending d.pending step.request step.rest none step.pending))
    (λ ask joins taken. absurd (start_answer d.stage step.outcome taken.stage step.first)) (λ ask joins prepared. written_rows granted failed d d' s own is ask joins prepared step keeps)
    (λ ask joins written. absurd (answer_entry d.stage step.outcome written.outcome step.first written.stage)) is.phase

loses_over : (granted : ℕ) (failed : Bool) (d d' : Doing) (s : ClientState) (own : EndState) → IsOver granted failed d s own → LosesEntry d d' → KeepsRows d s → KeepsRows d' s
loses_over granted failed d d' s own is step keeps =
    served_by granted failed d s own (stream_of s is.rest) is.answered is.lost (λ none. absurd (none_pending d.pending step.request d'.pending none step.pending))
    (λ ask joins taken. absurd (start_entry d.stage step.outcome taken.stage step.first)) (λ ask joins prepared. absurd (answer_entry d.stage prepared.outcome step.outcome prepared.stage step.first))
    (λ ask joins written. lost_rows granted d d' s own ask written step keeps) is.phase

pub over_rows : (granted : ℕ) (failed : Bool) (d d' : Doing) (s : ClientState) (own : EndState) → IsOver granted failed d s own → DoesOne d d' → KeepsRows d s → KeepsRows d' s
over_rows granted failed d d' s own is (inl step) keeps = calls_rows d d' s step keeps
over_rows granted failed d d' s own is (inr (inl step)) keeps = settles_rows d d' s step keeps
over_rows granted failed d d' s own is (inr (inr (inl step))) keeps = aside_rows d d' s step.stays step.aside keeps
over_rows granted failed d d' s own is (inr (inr (inr (inl step)))) keeps = aside_rows d d' s step.stays step.aside keeps
over_rows granted failed d d' s own is (inr (inr (inr (inr (inl step))))) keeps = aside_rows d d' s step.stays step.aside keeps
over_rows granted failed d d' s own is (inr (inr (inr (inr (inr (inl step)))))) keeps = aside_rows d d' s step.stays step.aside keeps
over_rows granted failed d d' s own is (inr (inr (inr (inr (inr (inr (inl step))))))) keeps = aside_rows d d' s step.stays step.aside keeps
over_rows granted failed d d' s own is (inr (inr (inr (inr (inr (inr (inr (inl step)))))))) keeps = aside_rows d d' s step.stays step.aside keeps
over_rows granted failed d d' s own is (inr (inr (inr (inr (inr (inr (inr (inr rest)))))))) keeps = serves rest
  where
    serves : TakesRequest d d' ⊎ (DropsAll d d' ⊎ (LogsOutFirst d d' ⊎ (Prepares d d' ⊎ (WritesAnswer d d' ⊎ (KeepsEntry d d' ⊎ (PutsEntry d d' ⊎ LosesEntry d d')))))) → KeepsRows d' s
    serves (inl step) = takes_rows d d' s step keeps
    serves (inr (inl step)) = drops_rows d d' s step keeps
    serves (inr (inr (inl step))) = logs_rows d d' s step keeps
    serves (inr (inr (inr (inl step)))) = prepares_over granted failed d d' s own is step keeps
    serves (inr (inr (inr (inr (inl step))))) = writes_over granted failed d d' s own is step keeps
    serves (inr (inr (inr (inr (inr (inl step)))))) = keeps_rows d d' s step keeps
    serves (inr (inr (inr (inr (inr (inr (inl step))))))) = puts_rows d d' s step keeps
    serves (inr (inr (inr (inr (inr (inr (inr step))))))) = loses_over granted failed d d' s own is step keeps

rows_leads : (granted : ℕ) (failed : Bool) (s : ClientState) (own : EndState) (over : List Doing) (d d' : Doing) → IsOver granted failed d s own → LeadsOver over d d' → KeepsRows d s
    → IsOver granted failed d' s own × KeepsRows d' s
rows_leads granted failed s own [] d d' is leads keeps =
    (subst (λ (at : Doing). IsOver granted failed at s own) (sym leads) is, subst (λ (at : Doing). KeepsRows at s) (sym leads) keeps)
rows_leads granted failed s own (next ∷ over) d d' is leads keeps =
    rows_leads granted failed s own over next d' (over_does granted failed d next s own is leads.0) leads.1 (over_rows granted failed d next s own is leads.0 keeps)

-- a turn
pub over_rows_turn : (granted : ℕ) (failed : Bool) (d d' : Doing) (s : ClientState) (own : EndState) → IsOver granted failed d s own → Does d d' → KeepsRows d s
    → IsOver granted failed d' s own × KeepsRows d' s
over_rows_turn granted failed d d' s own is turn keeps = rows_leads granted failed s own turn.over d d' is turn.leads keeps
