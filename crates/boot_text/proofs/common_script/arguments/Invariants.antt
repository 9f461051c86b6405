use Rattle.std.proofs.Common.{◌≡◌, ◌-◌, drop}
use Rattle.boot_text.specs.CommonScript.{set_from, arguments_of}
use Rattle.boot_text.proofs.common_script.arguments.Given as goal

abbrev pub invariant-loop-index : goal.invariant-loop-index
invariant-loop-index l = set_from (l.index - 3) l.arguments (drop l.index l.words) ≡ arguments_of l.words
