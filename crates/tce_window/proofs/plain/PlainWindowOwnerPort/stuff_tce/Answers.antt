-- What the plain form says of its rows, said of the values of each entry.
use Rattle.std.proofs.Common.{rules, length, replicate, ◌/◌}
use Rattle.tce_window.specs.Puts.{takes_all}
use Rattle.tce_window.specs.Window.{holds}
use Rattle.tce_window.proofs.Putting.{busy_told, parameter_told, puts_told, never_falls}
use Rattle.tce_window.proofs.plain.PlainWindowOwnerPort.stuff_tce.Goals as goal

pub returns-clause-parameter : goal.returns-clause-parameter
returns-clause-parameter c =
    parameter_told (takes_all (length c.args.self.now.pages) c.args.ioba (replicate c.args.count c.args.tce)) (holds c.args.self.now) (c.args.ioba / 4096) (replicate c.args.count c.args.tce) c.stuff_tce.result c.stuff_tce.ensures.parameter c.stuff_tce.ensures.answer

pub returns-clause-busy : goal.returns-clause-busy
returns-clause-busy c =
    busy_told (takes_all (length c.args.self.now.pages) c.args.ioba (replicate c.args.count c.args.tce)) c.args.self.now c.args.ioba (replicate c.args.count c.args.tce) c.stuff_tce.result c.stuff_tce.ensures.parameter c.stuff_tce.ensures.answer

pub returns-clause-put : goal.returns-clause-put
returns-clause-put c =
    puts_told (takes_all (length c.args.self.now.pages) c.args.ioba (replicate c.args.count c.args.tce)) c.args.self.now c.stuff_tce.new.self c.args.ioba (replicate c.args.count c.args.tce) c.stuff_tce.result c.stuff_tce.ensures.rows c.stuff_tce.ensures.parameter c.stuff_tce.ensures.answer

pub returns-clause-rest : goal.returns-clause-rest
returns-clause-rest c = record {
  place = search rules;
  strokes = search rules;
  held_from = search rules;
  held_count = search rules;
  taken = search rules;
  laid = search rules;
  in_use = never_falls c.stuff_tce.result c.args.self.now.in_use c.stuff_tce.new.self.in_use c.stuff_tce.ensures.in_use;
}
