-- The versions that copies name of an entry, after a copy and as values are put.
use Rattle.std.proofs.Common.{◌≡◌, ◌∙◌, ◌<◌, ◌≤◌, ◌==◌, ◌&&◌, ℕ, ◌+◌, ◌++◌, Bool, true, false, cond, List, [], ◌∷◌, All, length, refl, sym, ap, subst, arith, append-nil}
use Rattle.std.proofs.lemmas.Bool.Decides.{nat_tests}
use Rattle.std.proofs.lemmas.Grind.{flat_map-append}
use Rattle.std.proofs.lemmas.List.Elements.{All-nil, All-cons, All-head, All-tail, All-append, All-weaker}
use Rattle.vio_num.specs.declared.names.UnitId.{UnitId}
use Rattle.tce_window.specs.declared.piece.Piece.{Piece}
use Rattle.tce_window.specs.Pieces.{IsLast}
use Rattle.rdma_copy.specs.declared.copy.CopyRecord.{CopyRecord}
use Rattle.block_server.specs.Makers.{NeverFalls, VersionsAreInOrder, is_piece_of, same_unit, versions_in, versions_of, versions_on}

-- the last version, as often as it is named
last_falls : (count : ℕ) (versions : List ℕ) → All (λ v. v + 1 ≡ count) versions → NeverFalls versions
last_falls count [] last = tt
last_falls count (v ∷ versions) last =
    let here : v + 1 ≡ count = All-head (λ w. w + 1 ≡ count) v versions last in (
      All-weaker (λ w. w + 1 ≡ count) (λ w. v ≤ w) (λ w e. omega (arith, e, here)) versions (All-tail (λ w. w + 1 ≡ count) v versions last),
      last_falls count versions (All-tail (λ w. w + 1 ≡ count) v versions last),
    )

falls_more : (count : ℕ) (old new : List ℕ) → NeverFalls old → All (λ v. v < count) old → All (λ v. v + 1 ≡ count) new → NeverFalls (old ++ new)
falls_more count [] new falls there last = last_falls count new last
falls_more count (v ∷ old) new falls there last =
    let here : v < count = All-head (λ w. w < count) v old there in (
      All-append (λ w. v ≤ w) old new falls.0 (All-weaker (λ w. w + 1 ≡ count) (λ w. v ≤ w) (λ w e. omega (arith, e, here)) new last),
      falls_more count old new falls.1 (All-tail (λ w. w < count) v old there) last,
    )

-- the last version is named behind others
pub order_more : (count : ℕ) (old new : List ℕ) → VersionsAreInOrder count old → All (λ v. v + 1 ≡ count) new → VersionsAreInOrder count (old ++ new)
order_more count old new is last = record {
  rising = falls_more count old new is.rising is.there last;
  there = All-append (λ v. v < count) old new is.there (All-weaker (λ v. v + 1 ≡ count) (λ v. v < count) (λ v e. omega (arith, e)) new last);
}

-- more values were put
pub order_grown : (count count' : ℕ) (versions : List ℕ) → count ≤ count' → VersionsAreInOrder count versions → VersionsAreInOrder count' versions
order_grown count count' versions more is = record {
  rising = is.rising;
  there = All-weaker (λ v. v < count) (λ v. v < count') (λ v less. omega (arith, less, more)) versions is.there;
}

both_true : (a b : Bool) → (a && b) ≡ true → b ≡ true
both_true true b e = e
both_true false b e = cc

-- pieces that name the last versions, and pieces of another unit's window
pub versions_last : (values : ℕ → List ℕ) (unit : UnitId) (entry : ℕ) (pieces : List Piece) → All (IsLast values) pieces
    → All (λ v. v + 1 ≡ length (values entry)) (versions_in unit entry pieces)
versions_last values unit entry [] last = All-nil (λ v. v + 1 ≡ length (values entry))
versions_last values unit entry (piece ∷ pieces) last =
    by (is_piece_of unit entry piece) refl (versions_last values unit entry pieces (All-tail (IsLast values) piece pieces last))
  where
    here : IsLast values piece
    here = All-head (IsLast values) piece pieces last

    by : (b : Bool) → is_piece_of unit entry piece ≡ b → All (λ v. v + 1 ≡ length (values entry)) (versions_in unit entry pieces)
        → All (λ v. v + 1 ≡ length (values entry)) (cond b (piece.version ∷ versions_in unit entry pieces) (versions_in unit entry pieces))
    by true is rest =
        let test : (piece.entry == entry) ≡ true = both_true (same_unit piece.unit unit) (piece.entry == entry) is in
        let same : piece.entry ≡ entry = grind (arith, nat_tests, test) in
        All-cons (λ v. v + 1 ≡ length (values entry)) piece.version (versions_in unit entry pieces) (sym here ∙ ap (λ e. length (values e)) same) rest
    by false is rest = rest

pub versions_none : (unit other : UnitId) (entry : ℕ) (pieces : List Piece) → same_unit other unit ≡ false → All (λ piece. piece.unit ≡ other) pieces
    → versions_in unit entry pieces ≡ []
versions_none unit other entry [] apart own = refl
versions_none unit other entry (piece ∷ pieces) apart own =
    ap (λ t. cond (t && (piece.entry == entry)) (piece.version ∷ versions_in unit entry pieces) (versions_in unit entry pieces))
    (ap (λ u. same_unit u unit) (All-head (λ p. p.unit ≡ other) piece pieces own) ∙ apart)
    ∙ versions_none unit other entry pieces apart (All-tail (λ p. p.unit ≡ other) piece pieces own)

-- one copy more
pub versions_push : (unit : UnitId) (entry : ℕ) (copies : List CopyRecord) (copy : CopyRecord)
    → versions_on unit entry (copies ++ copy ∷ []) ≡ versions_on unit entry copies ++ versions_of unit entry copy
versions_push unit entry copies copy =
    flat_map-append (versions_of unit entry) copies (copy ∷ [])
    ∙ ap (λ more. versions_on unit entry copies ++ more) (append-nil (versions_of unit entry copy))

-- A copy names last versions of this unit's window, or none.
pub order_copied : (values : ℕ → List ℕ) (unit : UnitId) (entry : ℕ) (copies : List CopyRecord) (copy : CopyRecord)
    → All (λ v. v + 1 ≡ length (values entry)) (versions_in unit entry copy.from.items) → All (λ v. v + 1 ≡ length (values entry)) (versions_in unit entry copy.to.items)
    → VersionsAreInOrder (length (values entry)) (versions_on unit entry copies) → VersionsAreInOrder (length (values entry)) (versions_on unit entry (copies ++ copy ∷ []))
order_copied values unit entry copies copy from to is =
    subst (VersionsAreInOrder (length (values entry))) (sym (versions_push unit entry copies copy))
    (order_more (length (values entry)) (versions_on unit entry copies) (versions_of unit entry copy) is
    (All-append (λ v. v + 1 ≡ length (values entry)) (versions_in unit entry copy.from.items) (versions_in unit entry copy.to.items) from to))

pub none_last : (count : ℕ) (versions : List ℕ) → versions ≡ [] → All (λ v. v + 1 ≡ count) versions
none_last count versions none = subst (All (λ v. v + 1 ≡ count)) (sym none) (All-nil (λ v. v + 1 ≡ count))
