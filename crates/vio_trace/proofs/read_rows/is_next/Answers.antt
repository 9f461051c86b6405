use Rattle.std.proofs.Common.{arith}
use Rattle.vio_trace.proofs.Pushed.{follows_get, get_follows}
use Rattle.vio_trace.proofs.read_rows.is_next.Goals as goal

pub returns-then-rows-gt0 : goal.returns-then-rows-gt0
returns-then-rows-gt0 g c =
    let before = g.R.SectionRow.before in (
      λ h. follows_get before c.args.rows.now c.args.row.now c.index-rows-rows.result _ (omega arith) c.index-rows-rows.is (c.is_before.ensures.0 h),
      λ h. c.is_before.ensures.1 (get_follows before c.args.rows.now c.args.row.now c.index-rows-rows.result _ (omega arith) c.index-rows-rows.is h),
    )
