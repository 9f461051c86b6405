use Rattle.std.proofs.Common.{rules, arith}
use Rattle.vio_trace.proofs.Counted.{ends_none, ends_one}
use Rattle.vio_trace.proofs.read.line_behind.Goals as goal

pub returns-then-byte-eq10 : goal.returns-then-byte-eq10
returns-then-byte-eq10 c = omega (arith, ends_one c.args.byte (search rules))

pub returns-else-byte-eq10 : goal.returns-else-byte-eq10
returns-else-byte-eq10 c = omega (arith, ends_none c.args.byte (search rules))
