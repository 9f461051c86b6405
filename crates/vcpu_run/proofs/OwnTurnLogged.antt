-- An own client's line that logs in, or resets, at its pair, its server unit's session being over, or having been: what a step of it leaves.
use Rattle.std.proofs.Common.{◌≡◌, ℕ, ◌==◌, false, true, List, [], Option, Some, refl, sym, subst}
use Rattle.std.specs.Borrow.{GName}
use Rattle.boot_text.specs.declared.plan.Line.{Line}
use Rattle.boot_text.specs.declared.verb.Verb.{Verb}
use Rattle.boot_text.specs.declared.verb.Verb.TheVariants as verbs
use Rattle.crq_ring.specs.Pipe.{IsLawfulPipe}
use Rattle.crq_session.specs.PlainState.{end_of, side_of}
use Rattle.tce_window.specs.PlainPort.{known_of}
use Rattle.block_server.specs.declared.unit.Unit.{Unit}
use Rattle.unit_region.specs.declared.step.Step.{Step}
use Rattle.vcpu_run.specs.Acts.{ActsFor}
use Rattle.vcpu_run.specs.ActsAt.{acting_at}
use Rattle.vcpu_run.specs.Credited.{Ended}
use Rattle.vcpu_run.specs.Machines.{server_id}
use Rattle.vcpu_run.specs.OwnPairs.{ComesOver, IsMidLogin, IsOverOwn}
use Rattle.vcpu_run.specs.OwnSteps.{LogsIn}
use Rattle.vcpu_run.specs.OwnTurned.{StepsOver}
use Rattle.vcpu_run.specs.Pairs.{Drives}
use Rattle.vcpu_run.specs.PlainPairs.{ServerBooks}
use Rattle.vcpu_run.specs.PlainRejected.{TellsRejection}
use Rattle.vcpu_run.specs.declared.driver.Driver.{Driver}
use Rattle.vcpu_run.specs.declared.pair.Pair.{Pair}
use Rattle.vcpu_run.specs.declared.script.Progress.{Progress}
use Rattle.vcpu_run.specs.declared.script.Progress.TheVariants as progress
use Rattle.vcpu_run.proofs.OwnTurnLogin.{LogsAt, login_pair, logs_pair}
use Rattle.vcpu_run.proofs.OwnTurnReset.{comes_within, reset_pair}

-- a reset that has freed the queue is in the midst of a login
freed_at : (granted : ℕ) (told : List Ended) (home u k : ℕ) (books : ServerBooks) (line : Line) (p : Progress) (unit : Unit) (a b : Driver) (old new : Pair) → (line.unit == u) ≡ true
    → line.verb ≡ verbs.Reset → unit.id ≡ server_id home k → Drives old new → new.driver ≡ Some b → IsOverOwn granted false told home u k books (Some line) p unit a old
    → IsLawfulPipe (side_of old.link false).queue → IsMidLogin a.client → LogsAt granted told home u k books line p progress.Freed unit a b old new
freed_at granted told home u k books line p unit a b old new own verb id drives there is laws mid = record {
  own = own;
  id = id;
  drives = drives;
  there = there;
  is = is;
  mid = mid;
  within = comes_within old laws;
  comes = λ mid. subst (λ (v : Verb). ComesOver v progress.Freed b.client (end_of [] new.link false)) (sym verb) mid;
  tells = λ outcome of. subst (λ (v : Verb). TellsRejection v outcome (server_id home k) (known_of new.window).strokes) (sym verb) tt;
}

pub logged_line : (names : List GName) (granted : ℕ) (told : List Ended) (lines : List Line) (home u k : ℕ) (books : ServerBooks) (line : Line) (line' : Option Line) (p p' : Progress) (unit : Unit)
    (a b : Driver) (old new : Pair) (step : Step) → (line.unit == u) ≡ true → LogsIn line.verb → unit.id ≡ server_id home k → Drives old new → new.driver ≡ Some b
    → IsOverOwn granted false told home u k books (Some line) p unit a old → IsLawfulPipe (side_of old.link false).queue
    → ActsFor line.number line.verb p p' (acting_at names a old) (acting_at names b new) step → StepsOver granted told lines home u k books line line' p' unit b new step
logged_line names granted told lines home u k books line line' p p' unit a b old new step own logs_in id drives there is laws acts = by line.verb refl logs_in
  where
    by : (verb : Verb) → line.verb ≡ verb → LogsIn verb → StepsOver granted told lines home u k books line line' p' unit b new step
    by verbs.Login verb logs =
        login_pair names granted told lines home u k books line line' p p' unit a b old new step own verb id drives there is (comes_within old laws) acts
    by verbs.Reset verb logs =
        reset_pair names granted told lines home u k books line line' p p' unit a b old new step own verb drives is
        (λ mid logs_in. logs_pair names granted told lines home u k books line line' p progress.Freed unit a b old new step
        (freed_at granted told home u k books line p unit a b old new own verb id drives there is laws mid) logs_in)
        (subst (λ (v : Verb). ActsFor line.number v p p' (acting_at names a old) (acting_at names b new) step) verb acts)
    by other verb logs = absurd logs
