-- A line that ended at its client's pair, and says that it met a closed queue, did so once a session of the server unit's queue was over.
use Rattle.std.proofs.Common.{◌≡◌, ◌∙◌, ◌⊎◌, inl, inr, ℕ, ◌≤◌, zero, suc, not, true, false, List, Option, Some, None, Ok, IfSome, IsSomeAnd, length, refl, sym, ap, arith}
use Rattle.crq_session.specs.PlainState.{side_of}
use Rattle.boot_text.specs.declared.verb.Verb.{Verb}
use Rattle.boot_text.specs.declared.verb.Verb.TheVariants as verbs
use Rattle.vio_trace.specs.declared.outcome.Outcome.{Outcome}
use Rattle.unit_region.specs.declared.step.Step.TheVariants as steps
use Rattle.vcpu_run.specs.declared.driver.Driver.{Driver}
use Rattle.vcpu_run.specs.declared.pair.Pair.{Pair}
use Rattle.vcpu_run.specs.declared.script.Progress.{Progress}
use Rattle.vcpu_run.specs.Credited.{Ended}
use Rattle.vcpu_run.specs.Freeing.{is_reset}
use Rattle.vcpu_run.specs.LinesShow.{requests}
use Rattle.vcpu_run.specs.Pairs.{Drives}
use Rattle.vcpu_run.specs.ScriptTold.{PairIsTold}
use Rattle.vcpu_run.specs.ShutShown.{HadEnd, PairMeetsShut, PairShut, SaysShut, StepShut}
use Rattle.vcpu_run.specs.TakenScripts.{IsTaken, PairTaken}
use Rattle.vcpu_run.specs.Telling.{HasQueue, IsOf, IsTold}
use Rattle.vcpu_run.proofs.Announcing.{both_bools}
use Rattle.vcpu_run.proofs.ShutKept.{says_shut_more}

-- a line that sends a request is no reset
no_reset : (verb : Verb) → requests verb ≡ true → is_reset verb ≡ false
no_reset verbs.Login asks = refl
no_reset verbs.Reset asks = absurd (cc (asks))
no_reset verbs.Logout asks = refl
no_reset verbs.Tur asks = refl
no_reset (verbs.Read lba blocks at pieces table) asks = refl
no_reset (verbs.Write lba blocks at pieces table) asks = refl
no_reset (verbs.Command cdb) asks = refl
no_reset (verbs.CommandIn cdb at len pieces table) asks = refl
no_reset (verbs.CommandOut cdb at len pieces table) asks = refl
no_reset (verbs.Task function of) asks = refl
no_reset (verbs.Take count) asks = refl
no_reset (verbs.Data of) asks = refl
no_reset verbs.Open asks = refl
no_reset verbs.Close asks = refl
no_reset (verbs.Post at len count) asks = refl
no_reset (verbs.Send to len seed at) asks = refl
no_reset (verbs.ChangeMac own) asks = refl
no_reset (verbs.Multicast control group) asks = refl
no_reset (verbs.Fill at len seed) asks = refl
no_reset (verbs.Poke at bytes) asks = refl
no_reset (verbs.Peek at len) asks = refl
no_reset (verbs.Tce entry page readable writable) asks = refl
no_reset (verbs.Hcall number arguments) asks = refl
no_reset verbs.Fail asks = refl

positive : (n : ℕ) → (n ≡ 0 → ⊥) → 1 ≤ n
positive zero none = absurd (none refl)
positive (suc n) none = omega arith

-- a client that met a closed queue under a login, between these two states of its pair
had_end : (pages : ℕ) (verb : Verb) (p : Progress) (own : List Ended) (before after : Pair) (d : Driver) → Drives before after → IsOf verb p
    → IsTold pages own p (side_of before.link false).registered d.client → IsTaken own before d → requests verb ≡ true → PairMeetsShut d.client before.link after.link → HadEnd after.link
had_end pages verb p own before after d drives of told taken asks met = record { begun = begun; over = λ on. absurd (both_bools (side_of after.link true).registered on (server met.queue)) }
  where
    begun : 1 ≤ (side_of after.link true).queue.session
    begun = positive (side_of after.link true).queue.session
        (λ none. met.login (taken.reached (taken.begun.sent (sym drives.server_session ∙ none))).granted)

    -- the own queue is registered under a login
    on : (d.client.granted ≡ None) ⊎ HasQueue p (side_of before.link false).registered → (side_of before.link false).registered ≡ true
    on (inl out) = absurd (met.login out)
    on (inr is) = is ∙ ap not (of.reset (no_reset verb asks))

    server : ((side_of before.link false).registered ≡ false) ⊎ ((side_of after.link true).registered ≡ false) → (side_of after.link true).registered ≡ false
    server (inl off) = absurd (both_bools (side_of before.link false).registered (on told.queue) off)
    server (inr off) = off

pub ends_shut : (verb : Verb) (p : Progress) (own : List Ended) (before after : Pair) (outcome : Outcome) → IsSomeAnd before.driver (λ d. Unit {0}) → Drives before after → IsOf verb p
    → PairIsTold own p before → PairTaken own before → PairShut verb before after (Ok (steps.Ends outcome)) → SaysShut (HadEnd after.link) verb outcome
ends_shut verb p own before after outcome has drives of = at before.driver has
  where
    at : (o : Option Driver) → IsSomeAnd o (λ d. Unit {0}) → IfSome o (λ d. IsTold (length before.window.pages) own p (side_of before.link false).registered d.client)
        → IfSome o (IsTaken own before) → IfSome o (λ d. StepShut (PairMeetsShut d.client before.link after.link) verb (Ok (steps.Ends outcome))) → SaysShut (HadEnd after.link) verb outcome
    at None has told taken shut = absurd has
    at (Some d) has told taken shut =
        says_shut_more (PairMeetsShut d.client before.link after.link) (HadEnd after.link) verb outcome
        (had_end (length before.window.pages) verb p own before after d drives of told taken) shut
