use Rattle.std.proofs.Common.{rules, length}
use Rattle.vio_trace.specs.Reading.{NoneBegins}
use Rattle.vio_trace.specs.Shared.{NoneShares}
use Rattle.vio_trace.proofs.Begun.{each_told}
use Rattle.vio_trace.proofs.AheadShared.{none_begun, none_told}
use Rattle.vio_trace.proofs.Pushed.{negated_not, not_negated}
use Rattle.vio_trace.proofs.read_rows.is_out_of_order.Goals as goal

pub returns-in-Ok-clause-out : goal.returns-in-Ok-clause-out
returns-in-Ok-clause-out g c is_out =
    none_told g.R.Lines.text g.R.Lines.in_range g.R.SectionRow.before g.R.SectionRow.kind c.args.rows.now c.in-Ok.row c.args.text.now c.in-Ok.ensures.first
    (λ h. not_negated c.is_next.result is_out (c.is_next.ensures.1 h))

pub returns-in-Err-Bad-clause-out : goal.returns-in-Err-Bad-clause-out
returns-in-Err-Bad-clause-out g c is_out =
    let bad : NoneShares (NoneBegins g.R.Lines.text g.R.Lines.in_range) c.args.text.now (length c.args.text.now) = search (rules, c.in-Err-Bad.ensures.none) in
    none_begun g.R.Lines.text g.R.Lines.in_range g.R.SectionRow.before c.args.rows.now c.args.text.now bad

pub returns-in-Ok-clause-follows : goal.returns-in-Ok-clause-follows
returns-in-Ok-clause-follows g c is_not =
    each_told g.R.Lines.text g.R.Lines.in_range g.R.SectionRow.before g.R.SectionRow.kind c.args.rows.now c.in-Ok.row c.args.text.now c.in-Ok.ensures.first
    (c.is_next.ensures.0 (negated_not c.is_next.result is_not))
