-- New windows and a new link, as the turns of a server take them.
use Rattle.std.proofs.Common.{◌≡◌, ℕ, ◌+◌, ◌*◌, List, [], ◌∷◌, Option, Some, None, refl, ◌∙◌, ap}
use Rattle.vio_num.specs.declared.entry.Entry.{Entry}
use Rattle.vio_num.specs.Entry.{partner_freed}
use Rattle.tce_window.specs.Grant.{values_of}
use Rattle.tce_window.specs.PlainPort.{known_of}
use Rattle.tce_window.specs.Window.{WindowValue}

-- an entry into which nothing was put has its first value
first_value : (e : ℕ) → values_of [] e ≡ (4096 * e + 3) ∷ []
unfolding values_of
first_value e = refl

-- each entry of a window into which nothing was put has it
pub first_values : (window : WindowValue) → window.rows ≡ [] → (e : ℕ) → (known_of window).values e ≡ (4096 * e + 3) ∷ []
first_values window none e = ap (λ rows. values_of rows e) none ∙ first_value e

-- where no event is kept, none is another than this
pub none_kept : (kept : Option Entry) → kept ≡ None → (event : Entry) → kept ≡ Some event → event ≡ partner_freed
none_kept kept none event some = absurd (cc (none, some))
