-- Some words, and what they ask for.
use Rattle.std.proofs.Common.{◌≡◌, [], ◌∷◌, Some, None, codes, refl}
use Rattle.clap.proofs.OnLiterals.{clap_on_literals}
use Rattle.paprvio.specs.declared.request.Request.TheVariants.{Run, Generate, Summarize}
use Rattle.paprvio.specs.Words.{asked}

-- the boot text is run, by one worker where no word says more
pub runs : asked (codes "run" ∷ []) ≡ Some (Run 1)
unfolding clap_on_literals
runs = refl

pub runs_by_four : asked (codes "run" ∷ codes "--workers=4" ∷ []) ≡ Some (Run 4)
unfolding clap_on_literals
runs_by_four = refl

pub generates : asked (codes "gen" ∷ codes "7" ∷ []) ≡ Some (Generate 7)
unfolding clap_on_literals
generates = refl

pub summarizes : asked (codes "summary" ∷ codes "7" ∷ []) ≡ Some (Summarize 7 1)
unfolding clap_on_literals
summarizes = refl

-- no words, a word twice, and too many workers are not accepted
pub no_words : asked [] ≡ None
unfolding clap_on_literals
no_words = refl

pub twice : asked (codes "run" ∷ codes "run" ∷ []) ≡ None
unfolding clap_on_literals
twice = refl

pub too_many : asked (codes "run" ∷ codes "--workers" ∷ codes "17" ∷ []) ≡ None
unfolding clap_on_literals
too_many = refl
