-- A server unit whose session is over, or was, adds no row within its turn, and changes none; at rest it has none in service.
use Rattle.std.proofs.Common.{◌≡◌, ◌∙◌, ◌⊎◌, inl, inr, ℕ, Bool, true, List, [], ◌∷◌, None, refl, ap, subst}
use Rattle.crq_session.specs.EndState.{EndState}
use Rattle.vio_num.specs.declared.history.Served.{Served}
use Rattle.block_server.specs.Doings.{AwaitsRoom, Does, DoesOne, Doing, DropsAll, IsAtRest, KeepsEntry, LeadsOver, LogsOutFirst, LosesEntry, Prepares, PutsEntry, TakesRequest, WritesAnswer}
use Rattle.block_server.specs.Judged.{row_in}
use Rattle.block_server.specs.Serving.{SettlesRow}
use Rattle.block_server.specs.declared.service.Outcome.{Outcome}
use Rattle.block_server.specs.declared.service.Outcome.TheVariants as outcomes
use Rattle.block_server.specs.declared.service.Stage.TheVariants as stages
use Rattle.vscsi_client.specs.State.{ClientState}
use Rattle.vcpu_run.specs.OwnOver.{IsOver, stream_of}
use Rattle.vcpu_run.specs.PlainTalk.{is_grant}
use Rattle.vcpu_run.proofs.OverDoes.{answer_entry, none_pending, over_does, start_answer, start_entry}
use Rattle.vcpu_run.proofs.OverRows.{no_row}
use Rattle.vcpu_run.proofs.OverServes.{prepares_grants, same_outcome}
use Rattle.vcpu_run.proofs.OverSteps.{joining_ask, served_by}

-- ---- each step

grant_settles : (outcome : Outcome) (answer : List ℕ) (rows rows' : List Served) → is_grant outcome ≡ true → SettlesRow outcome answer rows rows' → rows' ≡ rows
grant_settles (outcomes.Granted number) answer rows rows' grants settles = settles
grant_settles outcome answer rows rows' grants settles = absurd (cc (grants))

prepares_same : (granted : ℕ) (failed : Bool) (d d' : Doing) (s : ClientState) (own : EndState) → IsOver granted failed d s own → Prepares d d' → d'.rows ≡ d.rows
prepares_same granted failed d d' s own is step =
    served_by granted failed d s own (stream_of s is.rest) is.answered is.lost (λ none. absurd (none_pending d.pending step.request step.rest none step.pending))
    (λ ask joins taken. no_row d d' step
    (prepares_grants d d' own ask (joining_ask failed d s own (stream_of s is.rest) is.answered is.lost ask joins is.owed.each) joins.has.asked step taken.serves))
    (λ ask joins prepared. absurd (start_answer d.stage prepared.outcome step.first prepared.stage))
    (λ ask joins written. absurd (start_entry d.stage written.outcome step.first written.stage)) is.phase

puts_same : (granted : ℕ) (failed : Bool) (d d' : Doing) (s : ClientState) (own : EndState) → IsOver granted failed d s own → PutsEntry d d' → d'.rows ≡ d.rows
puts_same granted failed d d' s own is step =
    served_by granted failed d s own (stream_of s is.rest) is.answered is.lost (λ none. absurd (none_pending d.pending step.request d'.pending none step.pending))
    (λ ask joins taken. absurd (start_entry d.stage step.outcome taken.stage step.first)) (λ ask joins prepared. absurd (answer_entry d.stage prepared.outcome step.outcome prepared.stage step.first))
    (λ ask joins written. grant_settles step.outcome d.answer d.rows d'.rows
    (subst (λ (o : Outcome). is_grant o ≡ true) (same_outcome d.stage written.outcome step.outcome written.stage step.first) written.grants) step.rows) is.phase

pub over_same : (granted : ℕ) (failed : Bool) (d d' : Doing) (s : ClientState) (own : EndState) → IsOver granted failed d s own → DoesOne d d' → d'.rows ≡ d.rows
over_same granted failed d d' s own is (inl step) = step.aside.rows
over_same granted failed d d' s own is (inr (inl step)) = step.aside.rows
over_same granted failed d d' s own is (inr (inr (inl step))) = step.aside.rows
over_same granted failed d d' s own is (inr (inr (inr (inl step)))) = step.aside.rows
over_same granted failed d d' s own is (inr (inr (inr (inr (inl step))))) = step.aside.rows
over_same granted failed d d' s own is (inr (inr (inr (inr (inr (inl step)))))) = step.aside.rows
over_same granted failed d d' s own is (inr (inr (inr (inr (inr (inr (inl step))))))) = step.aside.rows
over_same granted failed d d' s own is (inr (inr (inr (inr (inr (inr (inr (inl step)))))))) = step.aside.rows
over_same granted failed d d' s own is (inr (inr (inr (inr (inr (inr (inr (inr rest)))))))) = serves rest
  where
    serves : TakesRequest d d' ⊎ (DropsAll d d' ⊎ (LogsOutFirst d d' ⊎ (Prepares d d' ⊎ (WritesAnswer d d' ⊎ (KeepsEntry d d' ⊎ (PutsEntry d d' ⊎ LosesEntry d d')))))) → d'.rows ≡ d.rows
    serves (inl step) = step.put.rows
    serves (inr (inl step)) = step.put.rows
    serves (inr (inr (inl step))) = step.put.rows
    serves (inr (inr (inr (inl step)))) = prepares_same granted failed d d' s own is step
    serves (inr (inr (inr (inr (inl step))))) = step.rows
    serves (inr (inr (inr (inr (inr (inl step)))))) = step.put.rows
    serves (inr (inr (inr (inr (inr (inr (inl step))))))) = puts_same granted failed d d' s own is step
    serves (inr (inr (inr (inr (inr (inr (inr step))))))) = step.put.rows

same_leads : (granted : ℕ) (failed : Bool) (s : ClientState) (own : EndState) (over : List Doing) (d d' : Doing) → IsOver granted failed d s own → LeadsOver over d d' → d'.rows ≡ d.rows
same_leads granted failed s own [] d d' is leads = ap (λ (at : Doing). at.rows) leads
same_leads granted failed s own (next ∷ over) d d' is leads =
    same_leads granted failed s own over next d' (over_does granted failed d next s own is leads.0) leads.1 ∙ over_same granted failed d next s own is leads.0

-- a turn
pub over_same_turn : (granted : ℕ) (failed : Bool) (d d' : Doing) (s : ClientState) (own : EndState) → IsOver granted failed d s own → Does d d' → d'.rows ≡ d.rows
over_same_turn granted failed d d' s own is turn = same_leads granted failed s own turn.over d d' is turn.leads

-- ---- at rest

grant_entry : (outcome : Outcome) → is_grant outcome ≡ true → row_in (stages.Entry outcome) ≡ None
grant_entry (outcomes.Granted number) is = refl
grant_entry outcome is = absurd (cc (is))

awaits_none : (granted : ℕ) (failed : Bool) (d : Doing) (s : ClientState) (own : EndState) → IsOver granted failed d s own → AwaitsRoom d → row_in d.stage ≡ None
awaits_none granted failed d s own is awaits =
    served_by granted failed d s own (stream_of s is.rest) is.answered is.lost (λ none. absurd (none_pending d.pending awaits.request awaits.rest none awaits.pending))
    (λ ask joins taken. absurd (start_entry d.stage awaits.outcome taken.stage awaits.stage))
    (λ ask joins prepared. absurd (answer_entry d.stage prepared.outcome awaits.outcome prepared.stage awaits.stage))
    (λ ask joins written. ap row_in written.stage ∙ grant_entry written.outcome written.grants) is.phase

pub rests_none : (granted : ℕ) (failed : Bool) (d : Doing) (s : ClientState) (own : EndState) → IsOver granted failed d s own → IsAtRest d → row_in d.stage ≡ None
rests_none granted failed d s own is (inl free) = ap row_in free.stage
rests_none granted failed d s own is (inr awaits) = awaits_none granted failed d s own is awaits
