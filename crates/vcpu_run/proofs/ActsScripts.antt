-- What a turn of a script does at the pairs of its clients.
use Rattle.std.proofs.Common.{◌≡◌, Bool, false, true, List, IfOk, OnOk, Option, Some, None, Result, Ok, Err, IsSomeAnd, slice_get, refl, sym, ap, subst}
use Rattle.boot_text.specs.declared.plan.Line.{Line}
use Rattle.vio_trace.specs.declared.outcome.Outcome.{Outcome}
use Rattle.unit_region.specs.declared.step.Step.TheVariants as steps
use Rattle.vio_num.specs.declared.hypervisor.Moved.{Moved}
use Rattle.vio_num.specs.declared.hypervisor.Moved.TheVariants as moves
use Rattle.vcpu_run.specs.Acts.{TakesRest}
use Rattle.vcpu_run.specs.ActsAt.{AllLead, EndsLine, FailsLine, GoesBy, GoesOnce, GoesWith, LineActs}
use Rattle.vcpu_run.specs.NotedOn.{AllKeepNoted}
use Rattle.vcpu_run.specs.PlainScripts.{AllRestPlainly, LinePlainly}
use Rattle.vcpu_run.specs.Suited.{is_call, suits}
use Rattle.vcpu_run.specs.TakenScripts.{AllGive}
use Rattle.vcpu_run.specs.Works.{fails}
use Rattle.vcpu_run.specs.declared.pair.Pair.{Pair}
use Rattle.vcpu_run.specs.declared.script.Progress.{Progress}
use Rattle.vcpu_run.specs.declared.script.Script.{Script}
use Rattle.vcpu_run.proofs.ActsPairs.{line_unmoved}
use Rattle.vcpu_run.proofs.DataNoted.{keep_gives}

not_both : (b : Bool) → b ≡ true → b ≡ false → ⊥
not_both b is isnt = cc

not_moved : moves.Moved ≡ moves.Quiet → ⊥
not_moved e = cc (e)

-- a line that fails the partition
pub fails_go : {E : Type 0} (r : Result Moved E) (line : Line) (old new : List Pair) (script script' : Script) → fails line.verb ≡ true
    → IfOk r (λ moved. FailsLine line old new script script' × (moved ≡ moves.Quiet → script' ≡ script)) → IfOk r (λ moved. GoesWith moved line old new script script')
fails_go (Ok t) line old new script script' is acts = record {
  failing = λ e. acts.0;
  going = λ one no_call. absurd (not_both (fails line.verb) is one);
  stays = λ quiet. ap (λ (s : Script). s.at) (acts.1 quiet);
}
fails_go (Err e) line old new script script' is acts = tt

-- another line, which ends or waits
pub ends_go : (line : Line) (p' : Progress) (outcome : Outcome) (old new : List Pair) (script script' : Script) → fails line.verb ≡ false
    → (is_call line.verb ≡ false → LineActs script.seats.items line script.progress p' old new (steps.Ends outcome))
    → (is_call line.verb ≡ false → LinePlainly script.seats.items line script.progress p' old new (Ok (steps.Ends outcome))) → (is_call line.verb ≡ false → AllKeepNoted old new)
    → EndsLine line outcome script script' → GoesWith moves.Moved line old new script script'
ends_go line p' outcome old new script script' one acts plainly keeps ended = record {
  failing = λ is. absurd (not_both (fails line.verb) is one);
  going = λ none no_call. record { progress = p'; step = steps.Ends outcome; says = refl; acts = acts no_call; plainly = plainly no_call; leaves = ended; keeps = keeps no_call; still = λ quiet. absurd (not_moved quiet) };
  stays = λ quiet. absurd (not_moved quiet);
}

pub waits_go : (line : Line) (p' : Progress) (did : Moved) (old new : List Pair) (script : Script) → fails line.verb ≡ false
    → IsSomeAnd (slice_get script.seats.items line.unit) (suits line.verb)
    → (is_call line.verb ≡ false → LineActs script.seats.items line script.progress p' old new (steps.Waits did))
    → (is_call line.verb ≡ false → LinePlainly script.seats.items line script.progress p' old new (Ok (steps.Waits did)))
    → (is_call line.verb ≡ false → AllKeepNoted old new) → GoesWith did line old new script (record script { progress = p' })
waits_go line p' did old new script one suited acts plainly keeps = record {
  failing = λ is. absurd (not_both (fails line.verb) is one);
  going = λ none no_call. record {
    progress = p';
    step = steps.Waits did;
    says = refl;
    acts = acts no_call;
    plainly = plainly no_call;
    leaves = refl;
    keeps = keeps no_call;
    still = λ quiet. line_unmoved script.seats.items line script.progress p' old new (steps.Waits did) suited (acts no_call) (ap (λ (m : Moved). steps.Waits m) quiet);
  };
  stays = λ quiet. refl;
}

-- the current line, or none
pub goes_some : {E : Type 0} (r : Result Moved E) (line : Line) (old new : List Pair) (script script' : Script) → slice_get script.lines.now script.at ≡ Some line
    → IfOk r (λ moved. GoesWith moved line old new script script') → IfOk r (λ moved. GoesOnce moved old new script script')
goes_some r line old new script script' is goes = subst (λ (o : Option Line). IfOk r (λ moved. GoesBy moved o old new script script')) (sym is) goes

pub goes_none : {E : Type 0} (r : Result Moved E) (old new : List Pair) (script : Script) → slice_get script.lines.now script.at ≡ None → OnOk r (AllLead TakesRest old new)
    → OnOk r (AllRestPlainly old new) → OnOk r (AllGive old new) → IfOk r (λ moved. GoesOnce moved old new script script)
goes_none r old new script is rests plainly gives =
    subst (λ (o : Option Line). IfOk r (λ moved. GoesBy moved o old new script script)) (sym is) (all r rests plainly gives)
  where
    all : {E : Type 0} (r : Result Moved E) → OnOk r (AllLead TakesRest old new) → OnOk r (AllRestPlainly old new) → OnOk r (AllGive old new)
        → IfOk r (λ moved. AllLead TakesRest old new × AllRestPlainly old new × AllKeepNoted old new × (script ≡ script))
    all (Ok t) a b c = (a, b, keep_gives old new c, refl)
    all (Err e) a b c = tt

-- where nothing was done, the script stands where it stood
goes_by : (o : Option Line) (moved : Moved) (old new : List Pair) (script script' : Script) → GoesBy moved o old new script script' → moved ≡ moves.Quiet → script'.at ≡ script.at
goes_by None moved old new script script' goes quiet = ap (λ (s : Script). s.at) goes.3
goes_by (Some line) moved old new script script' goes quiet = goes.stays quiet

pub goes_stays : (moved : Moved) (old new : List Pair) (script script' : Script) → GoesOnce moved old new script script' → moved ≡ moves.Quiet → script'.at ≡ script.at
goes_stays moved old new script script' goes quiet = goes_by (slice_get script.lines.now script.at) moved old new script script' goes quiet
