-- What a search through the filters, and the removal of one, leave.
use Rattle.std.proofs.Common.{◌≡◌, List, ℕ, Some, subst}
use Rattle.std.specs.List.{Contains, slice_get}
use Rattle.std.proofs.lemmas.Option.{slice_get_within, get_or_from_slice_get}
use Rattle.std.proofs.lemmas.List.Elements.{Contains-get_or}

-- what is shown at a place is in the list
pub shown_is_contained : {X : Type 0} (xs : List X) (i : ℕ) (x : X) → slice_get xs i ≡ Some x → Contains xs x
shown_is_contained xs i x shown =
    subst (λ y. Contains xs y) (get_or_from_slice_get xs i x x shown) (Contains-get_or xs i x (slice_get_within xs i x shown))
