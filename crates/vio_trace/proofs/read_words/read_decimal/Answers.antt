use Rattle.std.proofs.Common.{rules, arith}
use Rattle.vio_trace.proofs.Numbers.{no_value, too_great, not_written}
use Rattle.vio_trace.proofs.read_words.read_decimal.Goals.{else-n-most-via-then-n-most+else-are_same, else-n-most-via-else-n-most}
use Rattle.vio_trace.proofs.read_words.read_decimal.Goals as goal

pub returns-in_default : goal.returns-in_default
returns-in_default c = no_value c.args.most c.args.word.now (omega arith) (search rules)

pub returns-else-n-most : goal.returns-else-n-most
returns-else-n-most c =
    elim c.else-n-most.branch [
      | else-n-most-via-then-n-most+else-are_same w ↦ not_written c.in-Some.n c.args.most c.args.word.now (omega arith) (search rules) (search rules)
      | else-n-most-via-else-n-most w ↦ too_great c.in-Some.n c.args.most c.args.word.now (omega arith) (omega arith) (omega arith) (search rules)
    ]
