use Rattle.std.proofs.Common.{◌∙◌, arith, refl}
use Rattle.vcpu_run.proofs.OpenRounds.{open_next}
use Rattle.vcpu_run.proofs.RoundsTold.{out_next}
use Rattle.vcpu_run.proofs.Scripted.{run_same, run_then}
use Rattle.vcpu_run.proofs.OwnEnded.{awaits_own_next}
use Rattle.vcpu_run.proofs.PlainRuns.{awaits_next}
use Rattle.vcpu_run.proofs.rounds.end_lines.Goals as goal

pub loop-number-init : goal.loop-number-init
loop-number-init c = record {
  scripts = λ pairs ports are. are;
  run = run_same c.args.scripts.now;
  keeps = λ pairs ports is. record { credited = λ copies made are. are; said = λ out are. are; told = λ lan tells. tells; unfreed = λ opens keep. keep };
  rest = λ i more. refl;
  clients = λ granted home books pairs ports scripts_are none are. are;
  same = λ is. refl;
}

pub loop-number-preserved : goal.loop-number-preserved
loop-number-preserved c =
    let before = c.loop-number.invariant in
    let after = c.end_line_at.ensures in
    record {
      scripts = λ pairs ports are. after.scripts pairs ports (before.scripts pairs ports are);
      run = run_then c.args.scripts.now c.loop-number.scripts c.end_line_at.new.scripts before.run after.run;
      keeps = λ pairs ports is.
          let first = before.keeps pairs ports is in
          let next = c.in_ok-turned.ensures.keeps pairs ports (before.scripts pairs ports is) in
          record {
            credited = λ copies made are. next.credited copies made (first.credited copies made are);
            said = λ out are. next.said (out_next pairs c.args.scripts.now c.loop-number.scripts c.loop-number.number before.rest out) (first.said out are);
            told = λ lan tells. next.told lan (first.told lan tells);
            unfreed = λ opens keep. next.unfreed (open_next pairs c.args.scripts.now c.loop-number.scripts c.loop-number.number before.rest before.run opens) (first.unfreed opens keep);
          };
      rest = λ i more. after.elsewhere i (λ same. omega (arith, more, same)) ∙ before.rest i (omega (arith, more));
      clients = λ granted home books pairs ports scripts_are none are.
          c.in_ok-turned.ensures.clients granted home books pairs ports (before.scripts pairs ports scripts_are)
          (record {
            plain = awaits_next c.args.scripts.now c.loop-number.scripts c.loop-number.number before.rest none.plain;
            own = awaits_own_next c.args.scripts.now c.loop-number.scripts c.loop-number.number before.rest none.own;
          }) (before.clients granted home books pairs ports scripts_are none are);
      same = λ is. c.in_ok-turned.ensures.quiet (c.either-moved.ensures.other is) ∙ before.same (c.either-moved.ensures.one is);
    }

pub returns-in_err-turned-clause-scripts : goal.returns-in_err-turned-clause-scripts
returns-in_err-turned-clause-scripts c pairs ports are = c.end_line_at.ensures.scripts pairs ports (c.loop-number.invariant.scripts pairs ports are)

pub returns-in_err-turned-clause-run : goal.returns-in_err-turned-clause-run
returns-in_err-turned-clause-run c =
    run_then c.args.scripts.now c.loop-number.scripts c.end_line_at.new.scripts c.loop-number.invariant.run c.end_line_at.ensures.run
