-- What is left of the digits, read behind the number so far, gives the number of all.
use Rattle.std.proofs.Common.{◌≡◌, drop}
use Rattle.vio_trace.specs.Reading.{value_on}
use Rattle.vio_trace.proofs.read_words.value.Given as goal

abbrev pub invariant-loop-digit : goal.invariant-loop-digit
invariant-loop-digit l = value_on l.n (drop l.digit-index l.word) ≡ value_on 0 l.word
