use Rattle.std.proofs.Common.{rules, length, refl}
use Rattle.vio_trace.specs.Form.{IsDeliverRow}
use Rattle.vio_trace.specs.Reading.{NoneBegins, WhereBad}
use Rattle.vio_trace.specs.Shared.{NoneShares}
use Rattle.vio_trace.specs.Text.{deliver_text}
use Rattle.vio_trace.proofs.Badly.{deliver_bad_head}
use Rattle.vio_trace.proofs.Firsts.{deliver_first}
use Rattle.vio_trace.proofs.Headed.{where_bad}
use Rattle.vio_trace.proofs.sections.DeliverRowSectionRow.read_first.Goals as goal

pub returns-in_err-head-clause-none : goal.returns-in_err-head-clause-none
returns-in_err-head-clause-none c =
    let fact : WhereBad c.in_err-head.field-0.0 (NoneShares (NoneBegins deliver_text IsDeliverRow) c.args.text.now (length c.args.text.now)) = where_bad c.in_err-head.field-0.0 _ _ (deliver_bad_head c.args.text.now (length c.args.text.now)) c.in_err-head.ensures.first in
    search (rules, fact)

pub returns-clause-first : goal.returns-clause-first
returns-clause-first c =
    deliver_first c.args.text.now c.in_ok-head.field-0-1.now c.in_ok-head.head _ c.in_ok-head.ensures.ok.0 c.in_ok-head.ensures.ok.1 refl refl
