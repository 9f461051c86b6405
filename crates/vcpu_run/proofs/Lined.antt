-- Scripts that are over.
use Rattle.std.proofs.Common.{◌≡◌, ◌&&◌, Bool, true, false, List, [], ◌∷◌, All, refl, arith}
use Rattle.std.specs.List.{list_all}
use Rattle.std.proofs.lemmas.Bool.Decides.{nat_tests}
use Rattle.std.proofs.lemmas.List.Elements.{All-nil, All-cons}
use Rattle.vcpu_run.specs.declared.script.Script.{Script}
use Rattle.vcpu_run.specs.Lines.{IsOver, is_over}

both_true : (a b : Bool) → (a && b) ≡ true → (a ≡ true) × (b ≡ true)
both_true true true e = (refl, refl)
both_true true false e = cc
both_true false b e = cc

over_is : (script : Script) → is_over script ≡ true → IsOver script
over_is script is = grind (arith, nat_tests)

pub over_from : (scripts : List Script) → list_all is_over scripts ≡ true → All IsOver scripts
over_from [] is = All-nil IsOver
over_from (script ∷ rest) is =
    let both = both_true (is_over script) (list_all is_over rest) is in
    All-cons IsOver script rest (over_is script both.0) (over_from rest both.1)
