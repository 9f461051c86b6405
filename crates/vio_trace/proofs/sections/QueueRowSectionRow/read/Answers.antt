use Rattle.std.proofs.Common.{rules}
use Rattle.vio_trace.specs.declared.rows.QueueRow.{QueueRow}
use Rattle.vio_trace.specs.Begun.{BeginsRow}
use Rattle.vio_trace.specs.Form.{IsQueueRow}
use Rattle.vio_trace.specs.Reading.{NoneBegins, WhereBad}
use Rattle.vio_trace.specs.Text.{queue_text}
use Rattle.vio_trace.specs.Shared.{NoneShares, WhereBadAt}
use Rattle.vio_trace.proofs.Begun.{first_head}
use Rattle.vio_trace.proofs.BegunRows.{queue_begins_sent, queue_begins_taken, queue_begins_drops}
use Rattle.vio_trace.proofs.Badly.{queue_bad_head, queue_bad_sent, queue_bad_taken, queue_bad_drops}
use Rattle.vio_trace.proofs.Sharing.{where_bad_at}
use Rattle.vio_trace.proofs.Headed.{where_bad, queue_none_head, queue_none_sent, queue_none_taken, queue_none_drops}
use Rattle.vio_trace.proofs.sections.QueueRowSectionRow.read.Goals as goal

pub returns-in_err-head-clause-refused : goal.returns-in_err-head-clause-refused
returns-in_err-head-clause-refused c =
    let fact : WhereBad c.in_err-head.field-0.0 (NoneBegins queue_text IsQueueRow c.args.text.now) = where_bad c.in_err-head.field-0.0 _ (NoneBegins queue_text IsQueueRow c.args.text.now) (queue_none_head c.args.text.now) c.in_err-head.ensures.refused in
    search (rules, fact)

pub returns-in_err-sent-clause-refused : goal.returns-in_err-sent-clause-refused
returns-in_err-sent-clause-refused c =
    let fact : WhereBad c.in_err-sent.field-0.0 (NoneBegins queue_text IsQueueRow c.args.text.now) = where_bad c.in_err-sent.field-0.0 _ (NoneBegins queue_text IsQueueRow c.args.text.now) (queue_none_sent c.args.text.now c.in_ok-head.rest.now c.in_ok-head.head c.in_ok-head.ensures.ok.0 c.in_ok-head.ensures.ok.1) c.in_err-sent.ensures.refused in
    search (rules, fact)

pub returns-in_err-taken-clause-refused : goal.returns-in_err-taken-clause-refused
returns-in_err-taken-clause-refused c =
    let fact : WhereBad c.in_err-taken.field-0.0 (NoneBegins queue_text IsQueueRow c.args.text.now) = where_bad c.in_err-taken.field-0.0 _ (NoneBegins queue_text IsQueueRow c.args.text.now) (queue_none_taken c.args.text.now c.in_ok-head.rest.now c.in_ok-sent.rest.now c.in_ok-head.head c.in_ok-sent.sent c.in_ok-head.ensures.ok.0 c.in_ok-head.ensures.ok.1 c.in_ok-sent.ensures.rows.0 c.in_ok-sent.ensures.count c.in_ok-sent.ensures.rows.1) c.in_err-taken.ensures.refused in
    search (rules, fact)

pub returns-in_err-drops-clause-refused : goal.returns-in_err-drops-clause-refused
returns-in_err-drops-clause-refused c =
    let fact : WhereBad c.in_err-drops.field-0.0 (NoneBegins queue_text IsQueueRow c.args.text.now) = where_bad c.in_err-drops.field-0.0 _ (NoneBegins queue_text IsQueueRow c.args.text.now) (queue_none_drops c.args.text.now c.in_ok-head.rest.now c.in_ok-sent.rest.now c.in_ok-taken.rest.now c.in_ok-head.head c.in_ok-sent.sent c.in_ok-taken.taken c.in_ok-head.ensures.ok.0 c.in_ok-head.ensures.ok.1 c.in_ok-sent.ensures.rows.0 c.in_ok-sent.ensures.count c.in_ok-sent.ensures.rows.1 c.in_ok-taken.ensures.rows.0 c.in_ok-taken.ensures.count c.in_ok-taken.ensures.rows.1) c.in_err-drops.ensures.refused in
    search (rules, fact)

pub returns-in_err-head-clause-bad : goal.returns-in_err-head-clause-bad
returns-in_err-head-clause-bad c =
    let fact : WhereBadAt c.in_err-head.field-0.0 (NoneShares (NoneBegins queue_text IsQueueRow) c.args.text.now) = where_bad_at c.in_err-head.field-0.0 _ (NoneShares (NoneBegins queue_text IsQueueRow) c.args.text.now) (λ left. queue_bad_head c.args.text.now left) c.in_err-head.ensures.bad in
    search (rules, fact)

pub returns-in_err-sent-clause-bad : goal.returns-in_err-sent-clause-bad
returns-in_err-sent-clause-bad c =
    let fact : WhereBadAt c.in_err-sent.field-0.0 (NoneShares (NoneBegins queue_text IsQueueRow) c.args.text.now) = where_bad_at c.in_err-sent.field-0.0 _ (NoneShares (NoneBegins queue_text IsQueueRow) c.args.text.now) (λ left. queue_bad_sent c.args.text.now c.in_ok-head.rest.now c.in_ok-head.head left c.in_ok-head.ensures.ok.0 c.in_ok-head.ensures.ok.1) c.in_err-sent.ensures.bad in
    search (rules, fact)

pub returns-in_err-taken-clause-bad : goal.returns-in_err-taken-clause-bad
returns-in_err-taken-clause-bad c =
    let fact : WhereBadAt c.in_err-taken.field-0.0 (NoneShares (NoneBegins queue_text IsQueueRow) c.args.text.now) = where_bad_at c.in_err-taken.field-0.0 _ (NoneShares (NoneBegins queue_text IsQueueRow) c.args.text.now) (λ left. queue_bad_taken c.args.text.now c.in_ok-head.rest.now c.in_ok-sent.rest.now c.in_ok-head.head c.in_ok-sent.sent left c.in_ok-head.ensures.ok.0 c.in_ok-head.ensures.ok.1 c.in_ok-sent.ensures.rows.0 c.in_ok-sent.ensures.count c.in_ok-sent.ensures.rows.1) c.in_err-taken.ensures.bad in
    search (rules, fact)

pub returns-in_err-drops-clause-bad : goal.returns-in_err-drops-clause-bad
returns-in_err-drops-clause-bad c =
    let fact : WhereBadAt c.in_err-drops.field-0.0 (NoneShares (NoneBegins queue_text IsQueueRow) c.args.text.now) = where_bad_at c.in_err-drops.field-0.0 _ (NoneShares (NoneBegins queue_text IsQueueRow) c.args.text.now) (λ left. queue_bad_drops c.args.text.now c.in_ok-head.rest.now c.in_ok-sent.rest.now c.in_ok-taken.rest.now c.in_ok-head.head c.in_ok-sent.sent c.in_ok-taken.taken left c.in_ok-head.ensures.ok.0 c.in_ok-head.ensures.ok.1 c.in_ok-sent.ensures.rows.0 c.in_ok-sent.ensures.count c.in_ok-sent.ensures.rows.1 c.in_ok-taken.ensures.rows.0 c.in_ok-taken.ensures.count c.in_ok-taken.ensures.rows.1) c.in_err-drops.ensures.bad in
    search (rules, fact)

pub returns-in_err-head-clause-begun : goal.returns-in_err-head-clause-begun
returns-in_err-head-clause-begun c =
    let fact : WhereBadAt c.in_err-head.field-0.0 (BeginsRow queue_text IsQueueRow (λ (row : QueueRow). Unit {0}) c.args.text.now) = where_bad_at c.in_err-head.field-0.0 _ (BeginsRow queue_text IsQueueRow (λ (row : QueueRow). Unit {0}) c.args.text.now) (λ left. first_head queue_text IsQueueRow (λ (row : QueueRow). Unit {0}) c.args.text.now left) c.in_err-head.ensures.alone in
    search (rules, fact)

pub returns-in_err-sent-clause-begun : goal.returns-in_err-sent-clause-begun
returns-in_err-sent-clause-begun c =
    let fact : WhereBadAt c.in_err-sent.field-0.0 (BeginsRow queue_text IsQueueRow (λ (row : QueueRow). Unit {0}) c.args.text.now) = where_bad_at c.in_err-sent.field-0.0 _ (BeginsRow queue_text IsQueueRow (λ (row : QueueRow). Unit {0}) c.args.text.now) (λ left. queue_begins_sent c.args.text.now c.in_ok-head.rest.now c.in_ok-head.head left c.in_ok-head.ensures.ok.0 c.in_ok-head.ensures.ok.1) c.in_err-sent.ensures.begun in
    search (rules, fact)

pub returns-in_err-taken-clause-begun : goal.returns-in_err-taken-clause-begun
returns-in_err-taken-clause-begun c =
    let fact : WhereBadAt c.in_err-taken.field-0.0 (BeginsRow queue_text IsQueueRow (λ (row : QueueRow). Unit {0}) c.args.text.now) = where_bad_at c.in_err-taken.field-0.0 _ (BeginsRow queue_text IsQueueRow (λ (row : QueueRow). Unit {0}) c.args.text.now) (λ left. queue_begins_taken c.args.text.now c.in_ok-head.rest.now c.in_ok-sent.rest.now c.in_ok-head.head c.in_ok-sent.sent left c.in_ok-head.ensures.ok.0 c.in_ok-head.ensures.ok.1 c.in_ok-sent.ensures.rows.0 c.in_ok-sent.ensures.count c.in_ok-sent.ensures.rows.1) c.in_err-taken.ensures.begun in
    search (rules, fact)

pub returns-in_err-drops-clause-begun : goal.returns-in_err-drops-clause-begun
returns-in_err-drops-clause-begun c =
    let fact : WhereBadAt c.in_err-drops.field-0.0 (BeginsRow queue_text IsQueueRow (λ (row : QueueRow). Unit {0}) c.args.text.now) = where_bad_at c.in_err-drops.field-0.0 _ (BeginsRow queue_text IsQueueRow (λ (row : QueueRow). Unit {0}) c.args.text.now) (λ left. queue_begins_drops c.args.text.now c.in_ok-head.rest.now c.in_ok-sent.rest.now c.in_ok-taken.rest.now c.in_ok-head.head c.in_ok-sent.sent c.in_ok-taken.taken left c.in_ok-head.ensures.ok.0 c.in_ok-head.ensures.ok.1 c.in_ok-sent.ensures.rows.0 c.in_ok-sent.ensures.count c.in_ok-sent.ensures.rows.1 c.in_ok-taken.ensures.rows.0 c.in_ok-taken.ensures.count c.in_ok-taken.ensures.rows.1) c.in_err-drops.ensures.begun in
    search (rules, fact)
