use Rattle.std.proofs.Common.{List, sym, subst, arith, refl}
use Rattle.vio_trace.specs.declared.rows.LogRow.{LogRow}
use Rattle.vcpu_run.specs.Scripts.{AreLogged}
use Rattle.vcpu_run.proofs.Crediting.{credited_new}
use Rattle.vcpu_run.proofs.ScriptsTold.{new_told}
use Rattle.vcpu_run.proofs.Logging.{logged_none}
use Rattle.vcpu_run.specs.declared.script.Progress.TheVariants as progress
use Rattle.vcpu_run.proofs.PortsTelling.{fresh_tells}
use Rattle.vcpu_run.proofs.PlainTurning.{starts_plainly}
use Rattle.vcpu_run.proofs.script.Script.new.Goals as goal

pub returns-clause-script : goal.returns-clause-script
returns-clause-script c = λ pairs seats. record {
  seats = seats;
  lines = c.requires.lines;
  in_order = c.requires.in_order;
  at = omega arith;
  logs = subst (λ (logs : List LogRow). AreLogged c.args.partition 0 c.args.lines.now logs) (sym c.new.ensures.items) (logged_none c.args.partition c.args.lines.now);
}

pub returns-clause-credited : goal.returns-clause-credited
returns-clause-credited c = λ pairs out. credited_new pairs _ c.new.ensures.items refl out

pub returns-clause-told : goal.returns-clause-told
returns-clause-told c = λ lan fresh. fresh_tells lan
    (record {
      alloc = c.args.alloc;
      partition = c.args.partition;
      lines = c.args.lines;
      at = 0;
      progress = progress.Fresh;
      seats = c.args.seats;
      logs = c.new.result;
    }) c.new.ensures.items refl fresh

pub returns-clause-said : goal.returns-clause-said
returns-clause-said c = λ pairs out untaken. new_told pairs _ c.new.ensures.items refl out untaken

pub returns-clause-fresh : goal.returns-clause-fresh
returns-clause-fresh c = c.new.ensures.items

pub returns-clause-plainly : goal.returns-clause-plainly
returns-clause-plainly c = λ granted u pair new.
    starts_plainly granted u _ pair new.driver new.driver.unit new.server c.new.ensures.items refl new.driver_is new.client new.queue
