use Rattle.std.proofs.Common.{arith, sym}
use Rattle.vio_trace.specs.declared.outcome.Outcome.TheVariants as outcomes
use Rattle.vio_trace.proofs.read_outcome.read_word_alone.Goals as goal

pub returns-else-are_same-7 : goal.returns-else-are_same-7
returns-else-are_same-7 c (outcomes.Sent n) h e = absurd (omega (arith, h))
returns-else-are_same-7 c (outcomes.Took n) h e = absurd (omega (arith, h))
returns-else-are_same-7 c (outcomes.Code a) h e = absurd (omega (arith, h))
returns-else-are_same-7 c (outcomes.Posted n a) h e = absurd (omega (arith, h))
returns-else-are_same-7 c (outcomes.Frame a n) h e = absurd (omega (arith, h))
returns-else-are_same-7 c (outcomes.Data n s) h e = absurd (omega (arith, h))
returns-else-are_same-7 c (outcomes.Granted n) h e = absurd (omega (arith, h))
returns-else-are_same-7 c (outcomes.Rejected n) h e = absurd (omega (arith, h))
returns-else-are_same-7 c (outcomes.NoCredit n) h e = absurd (omega (arith, h))
returns-else-are_same-7 c (outcomes.Overlap n) h e = absurd (omega (arith, h))
returns-else-are_same-7 c (outcomes.Dropped n s) h e = absurd (omega (arith, h))
returns-else-are_same-7 c (outcomes.TookThenLost n) h e = absurd (omega (arith, h))
returns-else-are_same-7 c (outcomes.Stale n) h e = absurd (omega (arith, h))
returns-else-are_same-7 c (outcomes.Value n) h e = absurd (omega (arith, h))
returns-else-are_same-7 c (outcomes.Bytes shown) h e = absurd (omega (arith, h))
returns-else-are_same-7 c outcomes.Done h e = cc (c.if-are_same.false, c.are_same.ensures.1 (sym e))
returns-else-are_same-7 c outcomes.Range h e = cc (c.if-are_same-2.false, c.are_same-else-are_same.ensures.1 (sym e))
returns-else-are_same-7 c outcomes.Lost h e = cc (c.if-are_same-3.false, c.are_same-else-are_same-2.ensures.1 (sym e))
returns-else-are_same-7 c outcomes.Unanswered h e = cc (c.if-are_same-4.false, c.are_same-else-are_same-3.ensures.1 (sym e))
returns-else-are_same-7 c outcomes.NotLoggedIn h e = cc (c.if-are_same-5.false, c.are_same-else-are_same-4.ensures.1 (sym e))
returns-else-are_same-7 c outcomes.Closed h e = cc (c.if-are_same-6.false, c.are_same-else-are_same-5.ensures.1 (sym e))
returns-else-are_same-7 c outcomes.Unknown h e = cc (c.if-are_same-7.false, c.are_same-else-are_same-6.ensures.1 (sym e))
