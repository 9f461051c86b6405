-- What a character of a text is written as.
use Rattle.std.proofs.Common.{◌≡◌, ◌≢◌, ℕ, List, [], ◌∷◌, arith}
use Rattle.std.proofs.lemmas.Bool.Decides.{nat_tests}
use Rattle.vio_chart.specs.Picture.{escaped}

-- any other character stands for itself
pub escaped_other : (c : ℕ) → c ≢ 60 → c ≢ 62 → c ≢ 38 → escaped c ≡ c ∷ []
escaped_other c a b d = grind (arith, nat_tests)
