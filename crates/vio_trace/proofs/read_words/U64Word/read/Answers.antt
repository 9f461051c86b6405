use Rattle.std.proofs.Common.{arith}
use Rattle.vio_trace.proofs.Numbers.{decimal_without}
use Rattle.vio_trace.proofs.read_words.U64Word.read.Goals as goal

pub returns-in_err-n-clause-plain : goal.returns-in_err-n-clause-plain
returns-in_err-n-clause-plain c n h = decimal_without n (omega (arith, h))

pub returns-clause-plain : goal.returns-clause-plain
returns-clause-plain c n h = decimal_without n (omega (arith, h))
