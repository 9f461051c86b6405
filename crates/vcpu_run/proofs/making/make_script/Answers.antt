use Rattle.std.proofs.Common.{All, List, map, ◌∙◌, ap, sym, subst}
use Rattle.boot_text.specs.declared.plan.Line.{Line}
use Rattle.vcpu_run.specs.Machines.{seat_of}
use Rattle.vcpu_run.specs.Suited.{IsLineAt}
use Rattle.vcpu_run.proofs.Booted.{lines_at}
use Rattle.vcpu_run.proofs.making.make_script.Goals as goal

pub returns : goal.returns
returns c =
    let new = c.new.ensures in
    record {
      number_is = new.partition;
      for_it = record { lines = new.lines ∙ c.as_slice-2.ensures; seats = rw new.seats (c.in_ok-seats.ensures ∙ ap (map seat_of) c.as_slice.ensures) };
      whole = λ pairs seats. new.script pairs (rw new.seats at seats);
      fresh = new.fresh;
      credited = λ pairs out. new.credited pairs (rw new.seats at out);
      said = λ pairs out. new.said pairs (rw new.seats at out);
      told = new.told;
      plainly = new.plainly;
    }

pub new-requires-clause-lines : goal.new-requires-clause-lines
new-requires-clause-lines c =
    subst (λ (lines : List Line). All (IsLineAt c.in_ok-seats.seats.items) lines) (sym c.as_slice-2.ensures)
    (lines_at c.args.partition.now.units _ c.args.partition.now.lines (c.in_ok-seats.ensures ∙ ap (map seat_of) c.as_slice.ensures) c.requires.lines)
