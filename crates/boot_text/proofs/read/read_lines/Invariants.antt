use Rattle.std.proofs.Common.{◌≡◌, ℕ, ◌+◌, List, Bor, drop, map}
use Rattle.boot_text.specs.BootText.{read_from}
use Rattle.boot_text.specs.SoFar.{nothing}
use Rattle.boot_text.proofs.read.read_lines.Given as goal

abbrev pub invariant-loop-line : goal.invariant-loop-line
invariant-loop-line l = record {
  number : l.number ≡ l.line-index + 1;
  left : read_from l.number l.draft (map (λ (line : Bor (List ℕ)). line.now) (drop l.line-index l.lines))
      ≡ read_from 1 nothing (map (λ (line : Bor (List ℕ)). line.now) l.lines);
}
