use Rattle.std.proofs.Common.{rules}
use Rattle.vio_trace.specs.Reading.{NoneBegins}
use Rattle.vio_trace.proofs.Sharing.{line_bad, unended_bad}
use Rattle.vio_trace.proofs.Refused.{none_of_line, none_unended}
use Rattle.vio_trace.proofs.read_rows.read_line.Goals as goal

pub returns-in_default-clause-refused : goal.returns-in_default-clause-refused
returns-in_default-clause-refused g c =
    let fact : NoneBegins g.K.Line.text g.K.Line.fits c.args.text.now = none_unended g.K.Line.text g.K.Line.fits c.is_one_line.ensures c.args.text.now (search rules) in
    search (rules, fact)

pub returns-in-Err-Bad-clause-refused : goal.returns-in-Err-Bad-clause-refused
returns-in-Err-Bad-clause-refused g c =
    let fact : NoneBegins g.K.Line.text g.K.Line.fits c.args.text.now = none_of_line g.K.Line.text g.K.Line.fits c.is_one_line.ensures
    c.args.text.now c.in-Some.line.now c.in-Some.rest.now (search rules) (search rules) (search rules) in
    search (rules, fact)

pub returns-in_default-clause-bad : goal.returns-in_default-clause-bad
returns-in_default-clause-bad g c = unended_bad g.K.Line.text g.K.Line.fits c.args.text.now (search rules)

pub returns-in-Err-Bad-clause-bad : goal.returns-in-Err-Bad-clause-bad
returns-in-Err-Bad-clause-bad g c =
    line_bad g.K.Line.text g.K.Line.fits c.is_one_line.ensures
    c.args.text.now c.in-Some.line.now c.in-Some.rest.now (search rules) (search rules) (search rules)

pub returns-in_default-clause-first : goal.returns-in_default-clause-first
returns-in_default-clause-first g c = unended_bad g.K.Line.text g.K.Line.fits c.args.text.now (search rules)

pub returns-in-Err-Bad-clause-first : goal.returns-in-Err-Bad-clause-first
returns-in-Err-Bad-clause-first g c =
    line_bad g.K.Line.text g.K.Line.fits c.is_one_line.ensures
    c.args.text.now c.in-Some.line.now c.in-Some.rest.now (search rules) (search rules) (search rules)
