use Rattle.std.proofs.Common.{rules, All}
use Rattle.vio_trace.specs.declared.lan_rows.FrameRow.{FrameRow}
use Rattle.vio_trace.specs.Begun.{BeginsRow}
use Rattle.vio_trace.specs.Form.{IsFrameRow, IsOfferOf}
use Rattle.vio_trace.specs.Reading.{NoneBegins, WhereBad}
use Rattle.vio_trace.specs.Text.{frame_text}
use Rattle.vio_trace.specs.Shared.{NoneShares, WhereBadAt}
use Rattle.vio_trace.proofs.Begun.{first_head}
use Rattle.vio_trace.proofs.BegunRows.{frame_begins_from}
use Rattle.vio_trace.proofs.Badly.{frame_bad_head, frame_bad_from}
use Rattle.vio_trace.proofs.Sharing.{where_bad_at, where_bad_none}
use Rattle.vio_trace.proofs.Headed.{where_bad, frame_none_head, frame_none_from}
use Rattle.vio_trace.proofs.sections.FrameRowSectionRow.read.Goals as goal

pub returns-in_err-head-clause-refused : goal.returns-in_err-head-clause-refused
returns-in_err-head-clause-refused c =
    let fact : WhereBad c.in_err-head.field-0.0 (NoneBegins frame_text IsFrameRow c.args.text.now) = where_bad c.in_err-head.field-0.0 _ (NoneBegins frame_text IsFrameRow c.args.text.now) (frame_none_head c.args.text.now) c.in_err-head.ensures.refused in
    search (rules, fact)

pub returns-in_err-from-clause-refused : goal.returns-in_err-from-clause-refused
returns-in_err-from-clause-refused c =
    let fact : WhereBad c.in_err-from.field-0.0 (NoneBegins frame_text IsFrameRow c.args.text.now) = where_bad c.in_err-from.field-0.0 _ (NoneBegins frame_text IsFrameRow c.args.text.now) (frame_none_from c.args.text.now c.in_ok-head.rest.now c.in_ok-head.head c.in_ok-head.ensures.ok.0 c.in_ok-head.ensures.ok.1) c.in_err-from.ensures.refused in
    search (rules, fact)

pub returns-in_err-offers-clause-refused : goal.returns-in_err-offers-clause-refused
returns-in_err-offers-clause-refused c =
    let fact : WhereBad c.in_err-offers.field-0.0 (NoneBegins frame_text IsFrameRow c.args.text.now) = where_bad c.in_err-offers.field-0.0 _ (NoneBegins frame_text IsFrameRow c.args.text.now) (λ bad. absurd bad) c.in_err-offers.ensures.refused in
    search (rules, fact)

pub returns-in_err-head-clause-bad : goal.returns-in_err-head-clause-bad
returns-in_err-head-clause-bad c =
    let fact : WhereBadAt c.in_err-head.field-0.0 (NoneShares (NoneBegins frame_text IsFrameRow) c.args.text.now) = where_bad_at c.in_err-head.field-0.0 _ (NoneShares (NoneBegins frame_text IsFrameRow) c.args.text.now) (λ left. frame_bad_head c.args.text.now left) c.in_err-head.ensures.bad in
    search (rules, fact)

pub returns-in_err-from-clause-bad : goal.returns-in_err-from-clause-bad
returns-in_err-from-clause-bad c =
    let fact : WhereBadAt c.in_err-from.field-0.0 (NoneShares (NoneBegins frame_text IsFrameRow) c.args.text.now) = where_bad_at c.in_err-from.field-0.0 _ (NoneShares (NoneBegins frame_text IsFrameRow) c.args.text.now) (λ left. frame_bad_from c.args.text.now c.in_ok-head.rest.now c.in_ok-head.head left c.in_ok-head.ensures.ok.0 c.in_ok-head.ensures.ok.1) c.in_err-from.ensures.bad in
    search (rules, fact)

pub returns-in_err-offers-clause-bad : goal.returns-in_err-offers-clause-bad
returns-in_err-offers-clause-bad c =
    let fact : WhereBadAt c.in_err-offers.field-0.0 (NoneShares (NoneBegins frame_text IsFrameRow) c.args.text.now) = where_bad_none c.in_err-offers.field-0.0 _ c.in_err-offers.ensures.refused in
    search (rules, fact)

pub returns-in_err-head-clause-begun : goal.returns-in_err-head-clause-begun
returns-in_err-head-clause-begun c =
    let fact : WhereBadAt c.in_err-head.field-0.0 (BeginsRow frame_text IsFrameRow (λ (frame : FrameRow). All (IsOfferOf frame) frame.offers) c.args.text.now) = where_bad_at c.in_err-head.field-0.0 _ (BeginsRow frame_text IsFrameRow (λ (frame : FrameRow). All (IsOfferOf frame) frame.offers) c.args.text.now) (λ left. first_head frame_text IsFrameRow (λ (frame : FrameRow). All (IsOfferOf frame) frame.offers) c.args.text.now left) c.in_err-head.ensures.alone in
    search (rules, fact)

pub returns-in_err-from-clause-begun : goal.returns-in_err-from-clause-begun
returns-in_err-from-clause-begun c =
    let fact : WhereBadAt c.in_err-from.field-0.0 (BeginsRow frame_text IsFrameRow (λ (frame : FrameRow). All (IsOfferOf frame) frame.offers) c.args.text.now) = where_bad_at c.in_err-from.field-0.0 _ (BeginsRow frame_text IsFrameRow (λ (frame : FrameRow). All (IsOfferOf frame) frame.offers) c.args.text.now) (λ left. frame_begins_from c.args.text.now c.in_ok-head.rest.now c.in_ok-head.head left c.in_ok-head.ensures.ok.0 c.in_ok-head.ensures.ok.1) c.in_err-from.ensures.begun in
    search (rules, fact)

pub returns-in_err-offers-clause-begun : goal.returns-in_err-offers-clause-begun
returns-in_err-offers-clause-begun c =
    let fact : WhereBadAt c.in_err-offers.field-0.0 (BeginsRow frame_text IsFrameRow (λ (frame : FrameRow). All (IsOfferOf frame) frame.offers) c.args.text.now) = where_bad_none c.in_err-offers.field-0.0 _ c.in_err-offers.ensures.refused in
    search (rules, fact)
