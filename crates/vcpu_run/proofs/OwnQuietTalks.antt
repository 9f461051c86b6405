-- An own client that talks with its server unit, at its pair: none of its lines waits in a turn in which nothing was done, where the server unit waits.
use Rattle.std.proofs.Common.{◌≡◌, inl, inr, ℕ, ◌==◌, true, false, true≢false, List, [], Some, Ok, arith, length, length-drop, refl, sym}
use Rattle.boot_text.specs.declared.plan.Line.{Line}
use Rattle.boot_text.specs.declared.verb.Verb.{Verb}
use Rattle.boot_text.specs.declared.verb.Verb.TheVariants as verbs
use Rattle.vio_num.specs.declared.hypervisor.Moved.TheVariants as moves
use Rattle.crq_session.specs.Answered.{received_now, taken_now}
use Rattle.crq_session.specs.PlainState.{end_of}
use Rattle.block_server.specs.declared.unit.Unit.{Unit}
use Rattle.unit_region.specs.declared.step.Step.TheVariants as steps
use Rattle.vcpu_run.specs.Credited.{Ended}
use Rattle.vcpu_run.specs.Links.{IsFull, ServerWaits, link_state}
use Rattle.vcpu_run.specs.OwnPairs.{TalksOwn}
use Rattle.vcpu_run.specs.PlainPairs.{ServerBooks, between_of}
use Rattle.vcpu_run.specs.PlainScripts.{HasWork, PairPlainly, PairSteppedOn, awaits}
use Rattle.vcpu_run.specs.PlainSteps.{IsPlainVerb, SparesTables}
use Rattle.vcpu_run.specs.PlainTalk.{TalksPlainly}
use Rattle.vcpu_run.specs.Works.{fails}
use Rattle.vcpu_run.specs.declared.driver.Driver.{Driver}
use Rattle.vcpu_run.specs.declared.pair.Pair.{Pair}
use Rattle.vcpu_run.specs.declared.script.Progress.{Progress}
use Rattle.vcpu_run.proofs.OwnTurnTalks.{own_steps}
use Rattle.vcpu_run.proofs.PlainReady.{own_few}
use Rattle.vcpu_run.proofs.PlainScripted.{awaited_ends}

-- what is to come to a client is less than its queue holds
queue_full : (granted : ℕ) (unit : Unit) (a : Driver) (pair : Pair) → TalksPlainly granted (between_of unit a pair) [] → IsFull (link_state pair.link).client → ⊥
queue_full granted unit a pair talks full = omega (
  arith,
  own_few granted (between_of unit a pair) [] talks.phase full.registered,
  talks.calm.own_slots,
  full.full,
  length-drop (length (taken_now (end_of [] pair.link false))) (received_now (end_of [] pair.link false)),
)

-- a line that may wait fails no partition, and writes nothing
pub waiting_verb : (verb : Verb) → awaits verb ≡ true → (fails verb ≡ false) × IsPlainVerb verb
waiting_verb verbs.Login is = (refl, record { own_entry = refl; behind = refl })
waiting_verb verbs.Reset is = (refl, record { own_entry = refl; behind = refl })
waiting_verb (verbs.Take count) is = (refl, record { own_entry = refl; behind = refl })
waiting_verb verb is = absurd (true≢false (sym is))

-- An own client's line does not wait in a turn in which nothing was done.
pub talks_none_waits : (granted : ℕ) (told : List Ended) (lines : List Line) (home u k : ℕ) (books : ServerBooks) (line : Line) (p p' : Progress) (unit : Unit) (a : Driver) (old new : Pair)
    → (line.unit == u) ≡ true → awaits line.verb ≡ true → old.driver ≡ Some a → (is : TalksOwn granted told lines home u k books [] (Some line) p unit a old) → SparesTables line.verb is.now
    → ServerWaits (Some unit) (link_state old.link) → PairPlainly line.verb p p' old new (Ok (steps.Waits moves.Quiet)) → ⊥
talks_none_waits granted told lines home u k books line p p' unit a old new own awaiting was is spares waits plainly = by waits
  where
    on : PairSteppedOn granted unit line.verb p' is.now old new (steps.Waits moves.Quiet)
    on = own_steps granted told lines home u k books line p p' unit a old new (steps.Waits moves.Quiet) own (waiting_verb line.verb awaiting).0 was is (waiting_verb line.verb awaiting).1 spares plainly

    works : unit.pending.items ≡ [] → HasWork unit on.words → ⊥
    works none (inl some) = some (on.stepped.2 refl)
    works none (inr some) = some none

    by : ServerWaits (Some unit) (link_state old.link) → ⊥
    by (inl full) = queue_full granted unit a old is.talks full
    by (inr (emptied, nothing)) = works nothing.pending (awaited_ends granted (length new.window.pages) is.now line.verb (HasWork unit on.words) awaiting on.stepped.1)
