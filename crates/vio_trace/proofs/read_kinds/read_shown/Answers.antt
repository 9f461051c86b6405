use Rattle.std.proofs.Common.{rules, arith}
use Rattle.vio_trace.proofs.Undone.{none_shown}
use Rattle.vio_trace.proofs.read_kinds.read_shown.Goals as goal

pub returns-else-is_shown : goal.returns-else-is_shown
returns-else-is_shown c =
    none_shown c.args.text.now c.in_ok-bytes.bytes (search rules) (search rules)
    (λ h. cc (c.if-is_shown.false, c.is_shown.ensures.1 (omega (arith, h.0, c.len.ensures), omega (arith, h.1, c.len.ensures))))
