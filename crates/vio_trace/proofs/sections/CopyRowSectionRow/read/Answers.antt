use Rattle.std.proofs.Common.{rules}
use Rattle.vio_trace.specs.declared.window_rows.CopyRow.{CopyRow}
use Rattle.vio_trace.specs.Begun.{BeginsRow}
use Rattle.vio_trace.specs.Form.{IsCopyRow}
use Rattle.vio_trace.specs.Reading.{NoneBegins, WhereBad}
use Rattle.vio_trace.specs.Text.{copy_text}
use Rattle.vio_trace.specs.Shared.{NoneShares, WhereBadAt}
use Rattle.vio_trace.proofs.Begun.{first_head}
use Rattle.vio_trace.proofs.BegunRows.{copy_begins_from, copy_begins_to}
use Rattle.vio_trace.proofs.Badly.{copy_bad_head, copy_bad_from, copy_bad_to}
use Rattle.vio_trace.proofs.Sharing.{where_bad_at}
use Rattle.vio_trace.proofs.Headed.{where_bad, copy_none_head, copy_none_from, copy_none_to}
use Rattle.vio_trace.proofs.sections.CopyRowSectionRow.read.Goals as goal

pub returns-in_err-head-clause-refused : goal.returns-in_err-head-clause-refused
returns-in_err-head-clause-refused c =
    let fact : WhereBad c.in_err-head.field-0.0 (NoneBegins copy_text IsCopyRow c.args.text.now) = where_bad c.in_err-head.field-0.0 _ (NoneBegins copy_text IsCopyRow c.args.text.now) (copy_none_head c.args.text.now) c.in_err-head.ensures.refused in
    search (rules, fact)

pub returns-in_err-from-clause-refused : goal.returns-in_err-from-clause-refused
returns-in_err-from-clause-refused c =
    let fact : WhereBad c.in_err-from.field-0.0 (NoneBegins copy_text IsCopyRow c.args.text.now) = where_bad c.in_err-from.field-0.0 _ (NoneBegins copy_text IsCopyRow c.args.text.now) (copy_none_from c.args.text.now c.in_ok-head.rest.now c.in_ok-head.head c.in_ok-head.ensures.ok.0 c.in_ok-head.ensures.ok.1) c.in_err-from.ensures.refused in
    search (rules, fact)

pub returns-in_err-to-clause-refused : goal.returns-in_err-to-clause-refused
returns-in_err-to-clause-refused c =
    let fact : WhereBad c.in_err-to.field-0.0 (NoneBegins copy_text IsCopyRow c.args.text.now) = where_bad c.in_err-to.field-0.0 _ (NoneBegins copy_text IsCopyRow c.args.text.now) (copy_none_to c.args.text.now c.in_ok-head.rest.now c.in_ok-from.rest.now c.in_ok-head.head c.in_ok-from.from c.in_ok-head.ensures.ok.0 c.in_ok-head.ensures.ok.1 c.in_ok-from.ensures.rows.0 c.in_ok-from.ensures.count c.in_ok-from.ensures.rows.1) c.in_err-to.ensures.refused in
    search (rules, fact)

pub returns-in_err-head-clause-bad : goal.returns-in_err-head-clause-bad
returns-in_err-head-clause-bad c =
    let fact : WhereBadAt c.in_err-head.field-0.0 (NoneShares (NoneBegins copy_text IsCopyRow) c.args.text.now) = where_bad_at c.in_err-head.field-0.0 _ (NoneShares (NoneBegins copy_text IsCopyRow) c.args.text.now) (λ left. copy_bad_head c.args.text.now left) c.in_err-head.ensures.bad in
    search (rules, fact)

pub returns-in_err-from-clause-bad : goal.returns-in_err-from-clause-bad
returns-in_err-from-clause-bad c =
    let fact : WhereBadAt c.in_err-from.field-0.0 (NoneShares (NoneBegins copy_text IsCopyRow) c.args.text.now) = where_bad_at c.in_err-from.field-0.0 _ (NoneShares (NoneBegins copy_text IsCopyRow) c.args.text.now) (λ left. copy_bad_from c.args.text.now c.in_ok-head.rest.now c.in_ok-head.head left c.in_ok-head.ensures.ok.0 c.in_ok-head.ensures.ok.1) c.in_err-from.ensures.bad in
    search (rules, fact)

pub returns-in_err-to-clause-bad : goal.returns-in_err-to-clause-bad
returns-in_err-to-clause-bad c =
    let fact : WhereBadAt c.in_err-to.field-0.0 (NoneShares (NoneBegins copy_text IsCopyRow) c.args.text.now) = where_bad_at c.in_err-to.field-0.0 _ (NoneShares (NoneBegins copy_text IsCopyRow) c.args.text.now) (λ left. copy_bad_to c.args.text.now c.in_ok-head.rest.now c.in_ok-from.rest.now c.in_ok-head.head c.in_ok-from.from left c.in_ok-head.ensures.ok.0 c.in_ok-head.ensures.ok.1 c.in_ok-from.ensures.rows.0 c.in_ok-from.ensures.count c.in_ok-from.ensures.rows.1) c.in_err-to.ensures.bad in
    search (rules, fact)

pub returns-in_err-head-clause-begun : goal.returns-in_err-head-clause-begun
returns-in_err-head-clause-begun c =
    let fact : WhereBadAt c.in_err-head.field-0.0 (BeginsRow copy_text IsCopyRow (λ (row : CopyRow). Unit {0}) c.args.text.now) = where_bad_at c.in_err-head.field-0.0 _ (BeginsRow copy_text IsCopyRow (λ (row : CopyRow). Unit {0}) c.args.text.now) (λ left. first_head copy_text IsCopyRow (λ (row : CopyRow). Unit {0}) c.args.text.now left) c.in_err-head.ensures.alone in
    search (rules, fact)

pub returns-in_err-from-clause-begun : goal.returns-in_err-from-clause-begun
returns-in_err-from-clause-begun c =
    let fact : WhereBadAt c.in_err-from.field-0.0 (BeginsRow copy_text IsCopyRow (λ (row : CopyRow). Unit {0}) c.args.text.now) = where_bad_at c.in_err-from.field-0.0 _ (BeginsRow copy_text IsCopyRow (λ (row : CopyRow). Unit {0}) c.args.text.now) (λ left. copy_begins_from c.args.text.now c.in_ok-head.rest.now c.in_ok-head.head left c.in_ok-head.ensures.ok.0 c.in_ok-head.ensures.ok.1) c.in_err-from.ensures.begun in
    search (rules, fact)

pub returns-in_err-to-clause-begun : goal.returns-in_err-to-clause-begun
returns-in_err-to-clause-begun c =
    let fact : WhereBadAt c.in_err-to.field-0.0 (BeginsRow copy_text IsCopyRow (λ (row : CopyRow). Unit {0}) c.args.text.now) = where_bad_at c.in_err-to.field-0.0 _ (BeginsRow copy_text IsCopyRow (λ (row : CopyRow). Unit {0}) c.args.text.now) (λ left. copy_begins_to c.args.text.now c.in_ok-head.rest.now c.in_ok-from.rest.now c.in_ok-head.head c.in_ok-from.from left c.in_ok-head.ensures.ok.0 c.in_ok-head.ensures.ok.1 c.in_ok-from.ensures.rows.0 c.in_ok-from.ensures.count c.in_ok-from.ensures.rows.1) c.in_err-to.ensures.begun in
    search (rules, fact)
