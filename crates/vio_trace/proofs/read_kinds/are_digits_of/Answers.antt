use Rattle.std.proofs.Common.{arith}
use Rattle.vio_trace.proofs.read_kinds.are_digits_of.Goals as goal

pub returns-clause-range : goal.returns-clause-range
returns-clause-range c i = omega (arith, c.type_inv.bytes i)
