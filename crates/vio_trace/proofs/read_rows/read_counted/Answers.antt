use Rattle.std.proofs.Common.{◌≡◌, length, rules, arith}
use Rattle.vio_trace.specs.Begun.{BeginsFew}
use Rattle.vio_trace.specs.Reading.{NoneBegins, NoneCounted, WhereBad}
use Rattle.vio_trace.proofs.Begun.{few_begun}
use Rattle.vio_trace.proofs.Headed.{where_bad}
use Rattle.vio_trace.specs.Shared.{NoneShares, WhereBadAt}
use Rattle.vio_trace.proofs.Sharing.{counted_bad, where_bad_at}
use Rattle.vio_trace.proofs.Refused.{none_counted}
use Rattle.vio_trace.proofs.read_rows.read_counted.Goals as goal

pub returns-in_err-row-clause-refused : goal.returns-in_err-row-clause-refused
returns-in_err-row-clause-refused g c =
    let fact : WhereBad c.in_err-row.field-0.0 (NoneCounted g.K.Line.text g.K.Line.fits c.args.count c.args.text.now) =
    where_bad c.in_err-row.field-0.0 (NoneBegins g.K.Line.text g.K.Line.fits c.loop-read.rest.now) _
    (none_counted g.K.Line.text g.K.Line.fits c.is_one_line.ensures c.loop-read.rows c.args.text.now c.loop-read.rest.now c.args.count
    c.loop-read.invariant.rows (omega (arith, c.loop-read.invariant.count)) c.loop-read.invariant.text) c.in_err-row.ensures.refused in
    search (rules, fact)

pub returns-in_err-row-clause-bad : goal.returns-in_err-row-clause-bad
returns-in_err-row-clause-bad g c =
    let fact : WhereBadAt c.in_err-row.field-0.0 (NoneShares (NoneCounted g.K.Line.text g.K.Line.fits c.args.count) c.args.text.now) =
    where_bad_at c.in_err-row.field-0.0 (NoneShares (NoneBegins g.K.Line.text g.K.Line.fits) c.loop-read.rest.now) _
    (λ left. counted_bad g.K.Line.text g.K.Line.fits c.is_one_line.ensures c.loop-read.rows c.args.text.now c.loop-read.rest.now c.args.count left
    c.loop-read.invariant.rows (omega (arith, c.loop-read.invariant.count)) c.loop-read.invariant.text) c.in_err-row.ensures.bad in
    search (rules, fact)

pub returns-in_err-row-clause-begun : goal.returns-in_err-row-clause-begun
returns-in_err-row-clause-begun g c =
    let fact : WhereBadAt c.in_err-row.field-0.0 (BeginsFew g.K.Line.text g.K.Line.fits c.args.count c.args.text.now) =
    where_bad_at c.in_err-row.field-0.0 (λ left. left ≡ length c.loop-read.rest.now) _
    (λ left. few_begun g.K.Line.text g.K.Line.fits c.loop-read.rows c.args.text.now c.loop-read.rest.now c.args.count left
    c.loop-read.invariant.rows (omega (arith, c.loop-read.invariant.count)) c.loop-read.invariant.text) c.in_err-row.ensures.alone in
    search (rules, fact)
