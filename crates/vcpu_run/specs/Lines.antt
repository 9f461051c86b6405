-- Which lines of a script have a record once it is over: those up to the first that fails its partition.
use Rattle.std.specs.Prelude.{ℕ, ◌+◌, ◌≤◌, nat_lt, not, Bool, List, [], ◌∷◌, length, map, if◌then◌else◌}
use Rattle.boot_text.specs.declared.plan.Line.{Line}
use Rattle.vcpu_run.specs.declared.script.Script.{Script}
use Rattle.vcpu_run.specs.Works.{fails}

-- the lines up to the first that fails the partition, with it; all of them where none does
abbrev pub lines_to_fail : List Line → List Line
lines_to_fail [] = []
lines_to_fail (line ∷ lines) = line ∷ (if fails line.verb then [] else lines_to_fail lines)

-- their numbers
abbrev pub numbers_to_fail : List Line → List ℕ
numbers_to_fail lines = map (λ line. line.number) (lines_to_fail lines)

-- the place at which a script stands once its line at this place has ended: no line comes behind one that fails the
-- partition
abbrev pub place_behind : List Line → (at : ℕ) → Line → ℕ
place_behind lines at line = if fails line.verb then length lines else at + 1

-- no line of a script is left
abbrev pub IsOver : Script → Type 0
IsOver script = length script.lines.now ≤ script.at

abbrev pub is_over : Script → Bool
is_over script = not (nat_lt script.at (length script.lines.now))
