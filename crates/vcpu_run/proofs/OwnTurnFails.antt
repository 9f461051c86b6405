-- An own client that talks with its server unit, where its partition fails: its queue is freed, if it is registered, of which the unit is to hear.
use Rattle.std.proofs.Common.{◌≡◌, ◌⊎◌, inl, inr, ℕ, ◌+◌, ◌≤◌, true, false, List, [], Option, Some, None, refl, sym, subst, arith}
use Rattle.boot_text.specs.declared.plan.Line.{Line}
use Rattle.crq_session.specs.PlainState.{side_of}
use Rattle.block_server.specs.declared.unit.Unit.{Unit}
use Rattle.vcpu_run.specs.Credited.{Ended}
use Rattle.vcpu_run.specs.Machines.{server_id}
use Rattle.vcpu_run.specs.OwnPairs.{TalksOwn}
use Rattle.vcpu_run.specs.PlainClients.{granted_in, grants_of}
use Rattle.vcpu_run.specs.PlainPairs.{ServerBooks, between_of}
use Rattle.vcpu_run.specs.PlainScripts.{PairFailed, PairFailsPlainly, PairIs, StandsAt}
use Rattle.vcpu_run.specs.PlainSteps.{RestsAs, WasFailed}
use Rattle.vcpu_run.specs.PlainTalk.{TalksPlainly, owes}
use Rattle.vcpu_run.specs.Works.{fails}
use Rattle.vcpu_run.specs.declared.driver.Driver.{Driver}
use Rattle.vcpu_run.specs.declared.pair.Pair.{Pair}
use Rattle.vcpu_run.specs.declared.script.Progress.{Progress}
use Rattle.vcpu_run.proofs.OwnTurnTalks.{TalksNow}
use Rattle.vcpu_run.proofs.PlainDown.{Stood, fail_follows, failed_owes, may_fail, off_failed}
use Rattle.vcpu_run.proofs.PlainScripted.{pair_then}
use Rattle.vcpu_run.proofs.PlainSeated.{driver_of, owes_there, talks_at}

-- What comes of it.
pub failed_own : (granted : ℕ) (told : List Ended) (lines : List Line) (home u k : ℕ) (books : ServerBooks) (line : Line) (p : Progress) (unit : Unit) (a : Driver) (old new : Pair) → fails line.verb ≡ true
    → old.driver ≡ Some a → TalksOwn granted told lines home u k books [] (Some line) p unit a old → PairFailsPlainly old new → PairFailed granted unit [] old new
failed_own granted told lines home u k books line p unit a old new failing was is plainly =
    plainly granted unit [] (talks_at granted unit [] old a was is.talks) (may_fail granted is.now [] old refl (fail_follows granted u line p is.now old failing is.stands))

-- whatever line comes then
talks_failed : (granted : ℕ) (told told' : List Ended) (lines : List Line) (home u k : ℕ) (books : ServerBooks) (line : Line) (line' : Option Line) (p p' : Progress) (unit : Unit) (a : Driver) (old new : Pair)
    → old.driver ≡ Some a → granted_in told' ≡ granted_in told → (is : TalksOwn granted told lines home u k books [] (Some line) p unit a old) → PairFailed granted unit [] old new
    → StandsAt granted u line' p' is.now new → TalksNow granted told' lines home u k books line' p' unit new
talks_failed granted told told' lines home u k books line line' p p' unit a old new was same is now stands =
    let at = driver_of (λ (b : Driver). TalksPlainly granted (between_of unit b new) now.later) new.driver now.talks in
    record {
      words = now.later;
      driver = at.0;
      driver_is = at.1;
      talks = record {
        talks = at.2;
        owed = owed at.0 at.1;
        now = is.now;
        spares = is.spares;
        stands = stands;
      };
    }
  where
    owed : (b : Driver) → new.driver ≡ Some b → granted_in told' + owes (between_of unit b new) now.later ≤ grants_of (server_id home k) books.lines
    owed b there = omega (arith, same, is.owed, failed_owes granted unit old new now, owes_there unit now.later new b there, owes_there unit [] old a was)

-- the line is to be gone on with
pub fails_on : (granted : ℕ) (told : List Ended) (lines : List Line) (home u k : ℕ) (books : ServerBooks) (line : Line) (p : Progress) (unit : Unit) (a : Driver) (old new : Pair) → fails line.verb ≡ true
    → old.driver ≡ Some a → TalksOwn granted told lines home u k books [] (Some line) p unit a old → PairFailsPlainly old new → TalksNow granted told lines home u k books (Some line) p unit new
fails_on granted told lines home u k books line p unit a old new failing was is plainly =
    talks_failed granted told told lines home u k books line (Some line) p p unit a old new was refl is now (stands now.left)
  where
    now : PairFailed granted unit [] old new
    now = failed_own granted told lines home u k books line p unit a old new failing was is plainly

    stands : ((new ≡ old) × (now.later ≡ [])) ⊎ PairIs WasFailed new → StandsAt granted u (Some line) p is.now new
    stands (inl same) = subst (StandsAt granted u (Some line) p is.now) (sym same.0) is.stands
    stands (inr failed) = inr (failing, failed)

-- it ends, since no queue is registered: no line comes behind it
pub fails_last : (granted : ℕ) (told told' : List Ended) (lines : List Line) (home u k : ℕ) (books : ServerBooks) (line : Line) (p p' : Progress) (unit : Unit) (a : Driver) (old new : Pair) → fails line.verb ≡ true
    → old.driver ≡ Some a → granted_in told' ≡ granted_in told → (side_of new.link false).registered ≡ false → TalksOwn granted told lines home u k books [] (Some line) p unit a old
    → PairFailsPlainly old new → TalksNow granted told' lines home u k books None p' unit new
fails_last granted told told' lines home u k books line p p' unit a old new failing was same off is plainly =
    talks_failed granted told told' lines home u k books line None p p' unit a old new was same is now
    (is.now, pair_then WasFailed (RestsAs granted is.now) new (λ at failed. inr failed) (off_failed granted is.now new off (stood now.left)))
  where
    now : PairFailed granted unit [] old new
    now = failed_own granted told lines home u k books line p unit a old new failing was is plainly

    stood : ((new ≡ old) × (now.later ≡ [])) ⊎ PairIs WasFailed new → Stood granted is.now new
    stood (inl here) = subst (Stood granted is.now) (sym here.0) (fail_follows granted u line p is.now old failing is.stands)
    stood (inr failed) = inr failed
