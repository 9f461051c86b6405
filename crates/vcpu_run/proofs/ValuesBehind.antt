-- Values of an entry: those behind the first, which were put there.
use Rattle.std.proofs.Common.{◌≡◌, ◌∙◌, ◌++◌, ℕ, List, [], ◌∷◌, None, IsSome, Contains, append-nil, append_assoc, drop, sym, ap, subst}
use Rattle.std.specs.List.{slice_get}
use Rattle.std.proofs.lemmas.List.Elements.{Contains-append_left, Contains-append_right}
use Rattle.vio_num.specs.Words.{Begins}

pub begins_self : (xs : List ℕ) → Begins xs xs
begins_self xs = ([], sym (append-nil xs))

pub begins_as : (old new : List ℕ) → new ≡ old → Begins old new
begins_as old new same = ([], same ∙ sym (append-nil old))

pub begins_then : (a b c : List ℕ) → Begins a b → Begins b c → Begins a c
begins_then a b c one two = (one.0 ++ two.0, two.1 ∙ ap (λ (front : List ℕ). front ++ two.0) one.1 ∙ append_assoc a one.0 two.0)

-- what was put is so still
pub behind_more : (old new : List ℕ) (value : ℕ) → Begins old new → Contains (drop 1 old) value → Contains (drop 1 new) value
behind_more [] new value begins has = Contains-append_left [] (drop 1 new) value has
behind_more (first ∷ rest) new value begins has =
    subst (λ (list : List ℕ). Contains (drop 1 list) value) (sym begins.1) (Contains-append_left rest begins.0 value has)

-- what is put behind those of an entry, which has its first
none_first : IsSome {T = ℕ} None → ⊥
none_first there = cc (there)

pub behind_put : (old new more : List ℕ) (value : ℕ) → IsSome (slice_get old 0) → new ≡ old ++ more → Contains more value → Contains (drop 1 new) value
behind_put [] new more value there is has = absurd (none_first there)
behind_put (first ∷ rest) new more value there is has =
    subst (λ (list : List ℕ). Contains (drop 1 list) value) (sym is) (Contains-append_right rest more value has)
