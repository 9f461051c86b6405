use Rattle.std.proofs.Common.{rules}
use Rattle.vio_trace.specs.declared.lan_rows.DeliverRow.{DeliverRow}
use Rattle.vio_trace.specs.Begun.{BeginsRow}
use Rattle.vio_trace.specs.Form.{IsDeliverRow}
use Rattle.vio_trace.specs.Reading.{NoneBegins, WhereBad}
use Rattle.vio_trace.specs.Text.{deliver_text}
use Rattle.vio_trace.specs.Shared.{NoneShares, WhereBadAt}
use Rattle.vio_trace.proofs.Begun.{first_head}
use Rattle.vio_trace.proofs.BegunRows.{deliver_begins_to}
use Rattle.vio_trace.proofs.Badly.{deliver_bad_head, deliver_bad_to}
use Rattle.vio_trace.proofs.Sharing.{where_bad_at}
use Rattle.vio_trace.proofs.Headed.{where_bad, deliver_none_head, deliver_none_to}
use Rattle.vio_trace.proofs.sections.DeliverRowSectionRow.read.Goals as goal

pub returns-in_err-head-clause-refused : goal.returns-in_err-head-clause-refused
returns-in_err-head-clause-refused c =
    let fact : WhereBad c.in_err-head.field-0.0 (NoneBegins deliver_text IsDeliverRow c.args.text.now) = where_bad c.in_err-head.field-0.0 _ (NoneBegins deliver_text IsDeliverRow c.args.text.now) (deliver_none_head c.args.text.now) c.in_err-head.ensures.refused in
    search (rules, fact)

pub returns-in_err-to-clause-refused : goal.returns-in_err-to-clause-refused
returns-in_err-to-clause-refused c =
    let fact : WhereBad c.in_err-to.field-0.0 (NoneBegins deliver_text IsDeliverRow c.args.text.now) = where_bad c.in_err-to.field-0.0 _ (NoneBegins deliver_text IsDeliverRow c.args.text.now) (deliver_none_to c.args.text.now c.in_ok-head.rest.now c.in_ok-head.head c.in_ok-head.ensures.ok.0 c.in_ok-head.ensures.ok.1) c.in_err-to.ensures.refused in
    search (rules, fact)

pub returns-in_err-head-clause-bad : goal.returns-in_err-head-clause-bad
returns-in_err-head-clause-bad c =
    let fact : WhereBadAt c.in_err-head.field-0.0 (NoneShares (NoneBegins deliver_text IsDeliverRow) c.args.text.now) = where_bad_at c.in_err-head.field-0.0 _ (NoneShares (NoneBegins deliver_text IsDeliverRow) c.args.text.now) (λ left. deliver_bad_head c.args.text.now left) c.in_err-head.ensures.bad in
    search (rules, fact)

pub returns-in_err-to-clause-bad : goal.returns-in_err-to-clause-bad
returns-in_err-to-clause-bad c =
    let fact : WhereBadAt c.in_err-to.field-0.0 (NoneShares (NoneBegins deliver_text IsDeliverRow) c.args.text.now) = where_bad_at c.in_err-to.field-0.0 _ (NoneShares (NoneBegins deliver_text IsDeliverRow) c.args.text.now) (λ left. deliver_bad_to c.args.text.now c.in_ok-head.rest.now c.in_ok-head.head left c.in_ok-head.ensures.ok.0 c.in_ok-head.ensures.ok.1) c.in_err-to.ensures.bad in
    search (rules, fact)

pub returns-in_err-head-clause-begun : goal.returns-in_err-head-clause-begun
returns-in_err-head-clause-begun c =
    let fact : WhereBadAt c.in_err-head.field-0.0 (BeginsRow deliver_text IsDeliverRow (λ (row : DeliverRow). Unit {0}) c.args.text.now) = where_bad_at c.in_err-head.field-0.0 _ (BeginsRow deliver_text IsDeliverRow (λ (row : DeliverRow). Unit {0}) c.args.text.now) (λ left. first_head deliver_text IsDeliverRow (λ (row : DeliverRow). Unit {0}) c.args.text.now left) c.in_err-head.ensures.alone in
    search (rules, fact)

pub returns-in_err-to-clause-begun : goal.returns-in_err-to-clause-begun
returns-in_err-to-clause-begun c =
    let fact : WhereBadAt c.in_err-to.field-0.0 (BeginsRow deliver_text IsDeliverRow (λ (row : DeliverRow). Unit {0}) c.args.text.now) = where_bad_at c.in_err-to.field-0.0 _ (BeginsRow deliver_text IsDeliverRow (λ (row : DeliverRow). Unit {0}) c.args.text.now) (λ left. deliver_begins_to c.args.text.now c.in_ok-head.rest.now c.in_ok-head.head left c.in_ok-head.ensures.ok.0 c.in_ok-head.ensures.ok.1) c.in_err-to.ensures.begun in
    search (rules, fact)
