use Rattle.std.proofs.Common.{◌≡◌, ◌≤◌, drop}
use Rattle.boot_text.specs.Numbers.{part_on}
use Rattle.boot_text.proofs.names.name_part.Given as goal

abbrev pub invariant-loop-digit : goal.invariant-loop-digit
invariant-loop-digit l = record {
  within : l.n ≤ 255;
  left : part_on l.n (drop l.digit-index l.word) ≡ part_on 0 l.word;
}
