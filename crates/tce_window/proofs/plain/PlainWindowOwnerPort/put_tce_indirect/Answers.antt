-- What the plain form says of its rows, said of the values of each entry.
use Rattle.std.proofs.Common.{rules, length, ◌/◌}
use Rattle.tce_window.specs.Puts.{takes_all}
use Rattle.tce_window.specs.Window.{holds}
use Rattle.tce_window.proofs.Putting.{busy_told, parameter_told, puts_told, never_falls}
use Rattle.tce_window.proofs.plain.PlainWindowOwnerPort.put_tce_indirect.Goals as goal

pub returns-clause-parameter : goal.returns-clause-parameter
returns-clause-parameter c =
    parameter_told (takes_all (length c.args.self.now.pages) c.args.ioba c.args.list.now) (holds c.args.self.now) (c.args.ioba / 4096) c.args.list.now c.put_tce_indirect.result c.put_tce_indirect.ensures.parameter c.put_tce_indirect.ensures.answer

pub returns-clause-busy : goal.returns-clause-busy
returns-clause-busy c =
    busy_told (takes_all (length c.args.self.now.pages) c.args.ioba c.args.list.now) c.args.self.now c.args.ioba c.args.list.now c.put_tce_indirect.result c.put_tce_indirect.ensures.parameter c.put_tce_indirect.ensures.answer

pub returns-clause-put : goal.returns-clause-put
returns-clause-put c =
    puts_told (takes_all (length c.args.self.now.pages) c.args.ioba c.args.list.now) c.args.self.now c.put_tce_indirect.new.self c.args.ioba c.args.list.now c.put_tce_indirect.result c.put_tce_indirect.ensures.rows c.put_tce_indirect.ensures.parameter c.put_tce_indirect.ensures.answer

pub returns-clause-rest : goal.returns-clause-rest
returns-clause-rest c = record {
  place = search rules;
  strokes = search rules;
  held_from = search rules;
  held_count = search rules;
  taken = search rules;
  laid = search rules;
  in_use = never_falls c.put_tce_indirect.result c.args.self.now.in_use c.put_tce_indirect.new.self.in_use c.put_tce_indirect.ensures.in_use;
}
