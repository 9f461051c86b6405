use Rattle.std.proofs.Common.{◌≡◌, drop}
use Rattle.boot_text.specs.Numbers.{digits_on}
use Rattle.boot_text.proofs.numbers.digits.Given as goal

abbrev pub invariant-loop-digit : goal.invariant-loop-digit
invariant-loop-digit l = digits_on l.base l.n (drop l.digit-index l.word) ≡ digits_on l.base 0 l.word
