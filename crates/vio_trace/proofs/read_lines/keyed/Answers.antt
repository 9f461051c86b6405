use Rattle.std.proofs.Common.{rules}
use Rattle.vio_trace.proofs.Parted.{none_behind}
use Rattle.vio_trace.proofs.read_lines.keyed.Goals as goal

pub returns-in_default : goal.returns-in_default
returns-in_default g c words h e = search (rules, e)

pub returns-in-Err-Bad : goal.returns-in-Err-Bad
returns-in-Err-Bad g c = none_behind c.args.front.now g.F.Fields.line g.F.Fields.fits c.args.line.now c.in-Some.rest.now (search rules) (search rules)
