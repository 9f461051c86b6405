use Rattle.vcpu_run.specs.CopiesCounted.{copies_at}
use Rattle.vcpu_run.proofs.CopiesMade.{all_made}
use Rattle.vcpu_run.specs.declared.script.Script.{Script}
use Rattle.vcpu_run.specs.Rounds.{RestsWhereOver, parts_at}
use Rattle.vcpu_run.specs.Served.{books_in}
use Rattle.vcpu_run.proofs.Resting.{ok_more}
use Rattle.std.proofs.Common.{List, subst, sym}
use Rattle.vcpu_run.proofs.Elsewhere.{ok_then}
use Rattle.vcpu_run.proofs.Scripted.{run_then}
use Rattle.vcpu_run.proofs.rounds.step.Goals as goal

pub returns-in-Quiet-clause-machine : goal.returns-in-Quiet-clause-machine
returns-in-Quiet-clause-machine g c = record {
  serving = c.round.ensures.machine.serving;
  scripts_are = c.end_lines.ensures.scripts c.round.new.pairs c.round.new.lan.seats c.round.ensures.machine.scripts_are;
}

pub returns-in-Quiet-clause-stays : goal.returns-in-Quiet-clause-stays
returns-in-Quiet-clause-stays g c =
    let before = c.round.ensures.stays in
    record {
      stay = before.stay;
      run = run_then c.args.scripts.now c.round.new.scripts c.end_lines.new.scripts before.run c.end_lines.ensures.run;
      seats = before.seats;
    }

pub returns-in-Quiet-clause-keeps : goal.returns-in-Quiet-clause-keeps
returns-in-Quiet-clause-keeps g c =
    let pairs = c.round.new.pairs in
    let seats = c.round.new.lan.seats in
    let scripts_are = c.round.ensures.machine.scripts_are in
    let before = c.in_ok-round.ensures.keeps in
    ok_then c.end_lines.result _ _
    (λ kept.
    let ends = kept pairs seats scripts_are in
    record {
      credited = λ are.
          ends.credited (copies_at c.round.new.server.copies.items pairs)
          (all_made c.round.new.server.partition c.round.new.server.copies.items pairs c.round.ensures.machine.serving.pairs_are) (before.credited are);
      said = λ told. ends.said ((c.in_ok-round.ensures.quiet c.in-Quiet.is).out told) (before.said told);
      told = λ tells. ends.told c.round.new.lan (before.told tells);
      linked = before.linked;
    })
    c.end_lines.ensures.keeps

pub returns-in-Quiet-clause-rests : goal.returns-in-Quiet-clause-rests
returns-in-Quiet-clause-rests g c =
    let rests = (c.in_ok-round.ensures.quiet c.in-Quiet.is).rests in
    ok_more c.end_lines.result _ _
    (λ moved same is.
    subst (λ (scripts : List Script). RestsWhereOver (parts_at c.args.server.now c.args.pairs.now c.args.scripts.now c.args.lan.now) (parts_at c.round.new.server c.round.new.pairs scripts c.round.new.lan))
    (sym (same is)) rests)
    c.end_lines.ensures.quiet

pub returns-in-Quiet-clause-unfreed : goal.returns-in-Quiet-clause-unfreed
returns-in-Quiet-clause-unfreed g c =
    ok_then c.end_lines.result _ _
    (λ kept linked keep.
    (kept c.round.new.pairs c.round.new.lan.seats c.round.ensures.machine.scripts_are).unfreed
    ((c.in_ok-round.ensures.quiet c.in-Quiet.is).opened linked) (c.in_ok-round.ensures.unfreed keep))
    c.end_lines.ensures.keeps

pub returns-in-Quiet-clause-clients : goal.returns-in-Quiet-clause-clients
returns-in-Quiet-clause-clients g c =
    ok_then c.end_lines.result _ _
    (λ kept linked granted are.
    kept granted c.round.new.server.partition (books_in c.round.new.server) c.round.new.pairs c.round.new.lan.seats c.round.ensures.machine.scripts_are
    ((c.in_ok-round.ensures.quiet c.in-Quiet.is).quietly linked granted are) (c.in_ok-round.ensures.clients granted are))
    c.end_lines.ensures.clients
