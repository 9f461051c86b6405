-- What the steps of a login, and the taking of entries, leave of what was taken from a client's queue.
use Rattle.std.proofs.Common.{◌≡◌, ◌∙◌, ◌⊎◌, inl, inr, ℕ, ◌++◌, false, List, [], ◌∷◌, append-nil, sym, ap, subst}
use Rattle.crq_session.specs.EndState.{EndState, OnlyReserves}
use Rattle.crq_session.specs.Answered.{FindsNone}
use Rattle.crq_session.specs.declared.answers.RegAnswer.{RegAnswer}
use Rattle.vscsi_client.specs.State.{ClientState}
use Rattle.vscsi_client.specs.Turned.{LoginStep, PollsNone, Registers, Runs, Site, Steps}
use Rattle.vscsi_client.specs.Turned.LoginStep.{Began, Looked, NotWritten, Put, RanOut, Registered, Took, TookNone, Wrote}
use Rattle.vcpu_run.proofs.OwnQuietEnds.{TookOn, took_here, took_more, took_reserves, took_sends, took_then}
use Rattle.vcpu_run.proofs.PlainOpens.{finds_open}

same_end : (old new : EndState) → new ≡ old → TookOn old new
same_end old new same = subst (TookOn old) (sym same) (took_here old)

registered_took : (s s' : ClientState) (old new : EndState) (answer : RegAnswer) → Registers false s s' old new answer → TookOn old new
registered_took s s' old new answer registers = record {
  place = registers.rest.place ∙ registers.ready.place;
  stays = λ there. let finds = finds_open s s' old new answer there registers in (finds.ready.registered ∙ there, finds.ready.last_session);
  more = [];
  taken = taken (registers.rest.taken ∙ registers.ready.taken);
}
  where
    taken : new.taken ≡ old.taken → new.taken ≡ old.taken ++ []
    taken same = same ∙ sym (append-nil old.taken)

polled_took : (s s' : ClientState) (old new : EndState) → PollsNone false s s' old new → TookOn old new
polled_took s s' old new polls = took_then old polls.room new (took_reserves old polls.room polls.ready) (by polls.none)
  where
    by : FindsNone false polls.room new polls.number ⊎ ((polls.room.registered ≡ false) × OnlyReserves polls.room new) → TookOn polls.room new
    by (inl none) = took_more false polls.room new [] polls.rest (none.taken ∙ sym (append-nil polls.room.taken))
    by (inr off) = took_reserves polls.room new off.1

step_took : (line : ℕ) (step : LoginStep) (a b : Site) → a.at.crq_shared ≡ false → Steps line step a b → TookOn a.at.crq b.at.crq
step_took line (Registered answer) a b alone did =
    registered_took a.client b.client a.at.crq b.at.crq answer (subst (λ shared. Registers shared a.client b.client a.at.crq b.at.crq answer) alone did.0)
step_took line Took a b alone did =
    took_then a.at.crq did.0.room b.at.crq (took_reserves a.at.crq did.0.room did.0.ready) (took_more a.at.crq_shared did.0.room b.at.crq _ did.0.rest did.0.taken.taken)
step_took line TookNone a b alone did = polled_took a.client b.client a.at.crq b.at.crq (subst (λ shared. PollsNone shared a.client b.client a.at.crq b.at.crq) alone did.0)
step_took line (Looked found) a b alone did = same_end a.at.crq b.at.crq did.1
step_took line Began a b alone did = same_end a.at.crq b.at.crq did.1
step_took line Wrote a b alone did = same_end a.at.crq b.at.crq did.2
step_took line (NotWritten page word) a b alone did = same_end a.at.crq b.at.crq did.2
step_took line (Put due answer) a b alone did =
    took_then a.at.crq did.0.room b.at.crq (took_reserves a.at.crq did.0.room did.0.ready) (took_sends a.at.crq_shared did.0.room b.at.crq did.0.rest)
step_took line RanOut a b alone did = took_reserves a.at.crq b.at.crq did.crq

-- Several steps of a login, where nobody else has a hand in the queue.
pub took_runs : (line : ℕ) (steps : List LoginStep) (a b : Site) → a.at.crq_shared ≡ false → Runs line steps a b → TookOn a.at.crq b.at.crq × (b.at.crq_shared ≡ false)
took_runs line [] a b alone same = (subst (λ (site : Site). TookOn a.at.crq site.at.crq) (sym same) (took_here a.at.crq), ap (λ (site : Site). site.at.crq_shared) same ∙ alone)
took_runs line (step ∷ steps) a c alone (b, runs, did, hands) =
    let before = took_runs line steps a b alone runs in
    (took_then a.at.crq b.at.crq c.at.crq before.0 (step_took line step b c before.1 did), hands.crq ∙ before.1)
