-- How often words were read in use, by what a hold was refused for.
use Rattle.std.specs.Prelude.{◌≡◌, ℕ}
use Rattle.vio_num.specs.Counts.{Rose}
use Rattle.tce_window.specs.declared.answers.HoldFault.{HoldFault}
use Rattle.tce_window.specs.declared.answers.HoldFault.TheVariants.{InUse}

abbrev pub CountsFault : HoldFault → ℕ → ℕ → Type 0
CountsFault (InUse page word) before after = Rose before after
CountsFault _ before after = after ≡ before
