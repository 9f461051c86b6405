-- The copies of a gathered trace name each stroke that another unit laid in a server unit's or a client's region, and none twice; and the
-- versions that they name of an entry do not fall.
use Rattle.std.proofs.Common.{◌≡◌, ◌≢◌, ◌∙◌, ◌⊎◌, inl, inr, ℕ, suc, ◌<◌, ◌||◌, Bool, true, false, cond, List, [], ◌∷◌, ◌++◌, Some, filter, map, slice_get, refl, sym, ap, ap₂, subst, arith, append-nil}
use Rattle.std.proofs.lemmas.Grind.{flat_map-append}
use Rattle.std.specs.List.{flat_map}
use Rattle.vio_num.specs.declared.names.UnitId.{UnitId}
use Rattle.tce_window.specs.PlainPort.{known_of}
use Rattle.tce_window.specs.declared.piece.Piece.{Piece}
use Rattle.rdma_copy.specs.declared.copy.CopyRecord.{CopyRecord}
use Rattle.block_server.specs.Makers.{NeverFalls, Rises, is_piece_of, is_piece_on, named_on, places_in, versions_in, versions_of, versions_on}
use Rattle.vio_trace.specs.declared.window_rows.CopyRow.{CopyRow}
use Rattle.vcpu_run.specs.declared.pair.Pair.{Pair}
use Rattle.vcpu_run.specs.CopyRows.{copies_by, copy_row, piece_row, same_unit}
use Rattle.vcpu_run.specs.Gathered.{copies_of}
use Rattle.vcpu_run.specs.Named.{HasNames, HasWindow, NamesNone}
use Rattle.vcpu_run.specs.Pairs.{AreOfOneHome, IsCopyOf}
use Rattle.vcpu_run.specs.StrokeMakers.{places_shown, versions_shown}
use Rattle.vcpu_run.proofs.Following.{each_from_all}
use Rattle.vcpu_run.proofs.Naming.{copy_none, one_unit}
use Rattle.vcpu_run.proofs.PairNames.{IsBy}
use Rattle.lan_script.proofs.Order.{Each, Ordered, each_weaker}
use Rattle.vcpu_run.proofs.Parts.{IsIn, each_in}
use Rattle.vcpu_run.proofs.Sole.{same_refl}

-- a piece's row names what the piece does
shown_places : (unit : UnitId) (page : ℕ) (pieces : List Piece) → places_shown unit page (map piece_row pieces) ≡ places_in unit page pieces
shown_places unit page [] = refl
shown_places unit page (piece ∷ pieces) =
    ap (λ rest. cond (is_piece_on unit page piece) (piece.at ∷ rest) rest) (shown_places unit page pieces)

-- the places that rows of copies name
abbrev pub places_of : UnitId → (page : ℕ) → CopyRow → List ℕ
places_of unit page row = places_shown unit page row.to

not_same : (a b : UnitId) → same_unit a b ≡ false → a ≢ b
not_same a b other e = not_both (same_unit a b) (subst (λ u. same_unit a u ≡ true) e (same_refl a)) other
  where
    not_both : (b : Bool) → b ≡ true → b ≡ false → ⊥
    not_both b is other = cc

-- the versions that rows of copies name
shown_versions : (unit : UnitId) (entry : ℕ) (pieces : List Piece) → versions_shown unit entry (map piece_row pieces) ≡ versions_in unit entry pieces
shown_versions unit entry [] = refl
shown_versions unit entry (piece ∷ pieces) =
    ap (λ rest. cond (is_piece_of unit entry piece) (piece.version ∷ rest) rest) (shown_versions unit entry pieces)

abbrev pub entries_of : UnitId → (entry : ℕ) → CopyRow → List ℕ
entries_of unit entry row = versions_shown unit entry row.from ++ versions_shown unit entry row.to

-- What a copy names of a unit's window, and its row just so; nothing, where it leaves the window alone.
pub record Shows (unit : UnitId) (names : CopyRecord → List ℕ) (shown : CopyRow → List ℕ) : Type 0 where
  pub same : (copy : CopyRecord) → shown (copy_row copy) ≡ names copy
  pub none : (copy : CopyRecord) → NamesNone unit copy → names copy ≡ []

pub shows_places : (unit : UnitId) (page : ℕ) → Shows unit (λ copy. places_in unit page copy.to.items) (places_of unit page)
shows_places unit page = record { same = λ copy. shown_places unit page copy.to.items; none = λ copy none. none.0 page }

shows_versions : (unit : UnitId) (entry : ℕ) → Shows unit (versions_of unit entry) (entries_of unit entry)
shows_versions unit entry = record {
  same = λ copy. ap₂ (λ read wrote. read ++ wrote) (shown_versions unit entry copy.from.items) (shown_versions unit entry copy.to.items);
  none = λ copy none. none.1 entry;
}

-- where only a server's copies name any, its rows name them all
pub rows_name : (server : UnitId) (names : CopyRecord → List ℕ) (shown : CopyRow → List ℕ) (copies : List CopyRecord) → ((copy : CopyRecord) → shown (copy_row copy) ≡ names copy)
    → Each (λ copy. copy.name.who ≢ server → names copy ≡ []) copies → flat_map shown (copies_by server copies) ≡ flat_map names copies
rows_name server names shown [] same none = refl
rows_name server names shown (copy ∷ copies) same none = at (same_unit copy.name.who server) refl (rows_name server names shown copies same none.1)
  where
    at : (b : Bool) → same_unit copy.name.who server ≡ b → flat_map shown (copies_by server copies) ≡ flat_map names copies
        → flat_map shown (map copy_row (cond b (copy ∷ filter (λ c. same_unit c.name.who server) copies) (filter (λ c. same_unit c.name.who server) copies)))
        ≡ names copy ++ flat_map names copies
    at true is rest = ap₂ (λ xs ys. xs ++ ys) (same copy) rest
    at false is rest = rest ∙ ap (λ xs. xs ++ flat_map names copies) (sym (none.0 (not_same copy.name.who server is)))

-- where its copies name none, its rows name none
rows_none : (server : UnitId) (names : CopyRecord → List ℕ) (shown : CopyRow → List ℕ) (copies : List CopyRecord) → ((copy : CopyRecord) → shown (copy_row copy) ≡ names copy)
    → Each (λ copy. copy.name.who ≡ server → names copy ≡ []) copies → flat_map shown (copies_by server copies) ≡ []
rows_none server names shown [] same none = refl
rows_none server names shown (copy ∷ copies) same none = at (same_unit copy.name.who server) refl (rows_none server names shown copies same none.1)
  where
    at : (b : Bool) → same_unit copy.name.who server ≡ b → flat_map shown (copies_by server copies) ≡ []
        → flat_map shown (map copy_row (cond b (copy ∷ filter (λ c. same_unit c.name.who server) copies) (filter (λ c. same_unit c.name.who server) copies))) ≡ []
    at true is rest = ap₂ (λ xs ys. xs ++ ys) (same copy ∙ none.0 (one_unit copy.name.who server is)) rest
    at false is rest = rest

flat_flat : {X Y Z : Type 0} (g : Y → List Z) (f : X → List Y) (xs : List X) → flat_map g (flat_map f xs) ≡ flat_map (λ x. flat_map g (f x)) xs
flat_flat g f [] = refl
flat_flat g f (x ∷ xs) = flat_map-append g (f x) (flat_map f xs) ∙ ap (λ rest. flat_map g (f x) ++ rest) (flat_flat g f xs)

-- of lists of which at most one is not empty, that one is the whole
abbrev OneBlock : {X Y : Type 0} → (X → List Y) → (X → Bool) → List X → Type 0
OneBlock {X} f hits xs = (Each (λ x. hits x ≡ false) xs × (flat_map f xs ≡ [])) ⊎ ((x : X) × IsIn x xs × (hits x ≡ true) × (flat_map f xs ≡ f x))

no_block : {X Y : Type 0} (f : X → List Y) (xs : List X) → Each (λ x. f x ≡ []) xs → flat_map f xs ≡ []
no_block f [] none = refl
no_block f (x ∷ xs) none = ap₂ (λ a b. a ++ b) none.0 (no_block f xs none.1)

each_both : {X : Type 0} (P Q R : X → Type 0) → ((x : X) → P x → Q x → R x) → (xs : List X) → Each P xs → Each Q xs → Each R xs
each_both P Q R step [] p q = tt
each_both P Q R step (x ∷ xs) p q = (step x p.0 q.0, each_both P Q R step xs p.1 q.1)

one_block : {X Y : Type 0} (f : X → List Y) (hits : X → Bool) (xs : List X) → Each (λ x. hits x ≡ false → f x ≡ []) xs
    → Ordered (λ a b. hits a ≡ true → hits b ≡ false) xs → OneBlock f hits xs
one_block f hits [] none apart = inl (tt, refl)
one_block {X} f hits (x ∷ xs) none apart = at (hits x) refl (one_block f hits xs none.1 apart.1)
  where
    at : (b : Bool) → hits x ≡ b → OneBlock f hits xs → OneBlock f hits (x ∷ xs)
    at true is rest =
        let behind : Each (λ y. f y ≡ []) xs =
        each_both (λ y. hits y ≡ false → f y ≡ []) (λ y. hits x ≡ true → hits y ≡ false) (λ y. f y ≡ []) (λ y empty other. empty (other is)) xs none.1 apart.0 in
        inr (x, inl refl, is, ap (λ others. f x ++ others) (no_block f xs behind) ∙ append-nil (f x))
    at false is (inl rest) = inl ((is, rest.0), ap₂ (λ a b. a ++ b) (none.0 is) rest.1)
    at false is (inr rest) = inr (rest.0, inr rest.1, rest.2, ap (λ first. first ++ flat_map f xs) (none.0 is) ∙ rest.3)

pub each_there : {X : Type 0} (P : X → Type 0) (xs : List X) → ((k : ℕ) (x : X) → slice_get xs k ≡ Some x → P x) → Each P xs
each_there P [] h = tt
each_there P (x ∷ xs) h = (h 0 x refl, each_there P xs (λ k y e. h (suc k) y e))

pub ordered_there : {X : Type 0} (R : X → X → Type 0) (xs : List X) → ((j k : ℕ) (a b : X) → j < k → slice_get xs j ≡ Some a → slice_get xs k ≡ Some b → R a b) → Ordered R xs
ordered_there R [] h = tt
ordered_there R (x ∷ xs) h = (
  each_there (R x) xs (λ k b at. h 0 (suc k) x b (omega arith) refl at),
  ordered_there R xs (λ j k a b less at_j at_k. h (suc j) (suc k) a b (omega (arith, less)) at_j at_k),
)

-- whether a window of the pair is this unit's
abbrev pub hits_pair : UnitId → Pair → Bool
hits_pair unit pair = same_unit pair.own.unit unit || same_unit pair.window.unit unit

has_from : (unit : UnitId) (pair : Pair) → hits_pair unit pair ≡ true → HasWindow unit pair
has_from unit pair is = at (same_unit pair.own.unit unit) refl is
  where
    at : (b : Bool) → same_unit pair.own.unit unit ≡ b → (b || same_unit pair.window.unit unit) ≡ true → HasWindow unit pair
    at true own is = inl (one_unit pair.own.unit unit own)
    at false own is = inr (one_unit pair.window.unit unit is)

pub hits_from : (unit : UnitId) (pair : Pair) → HasWindow unit pair → hits_pair unit pair ≡ true
hits_from unit pair (inl e) = ap (λ b. b || same_unit pair.window.unit unit) (subst (λ u. same_unit pair.own.unit u ≡ true) e (same_refl pair.own.unit))
hits_from unit pair (inr e) = at (same_unit pair.own.unit unit)
  where
    at : (b : Bool) → (b || same_unit pair.window.unit unit) ≡ true
    at true = refl
    at false = subst (λ u. same_unit pair.window.unit u ≡ true) e (same_refl pair.window.unit)

miss_own : (a b : Bool) → (a || b) ≡ false → a ≡ false
miss_own true b e = cc
miss_own false b e = refl

miss_client : (a b : Bool) → (a || b) ≡ false → b ≡ false
miss_client true b e = cc
miss_client false b e = e

-- the rows of copies name what the copies name, if a window of a pair is the unit's, and else nothing
abbrev pub NamesTold : List CopyRecord → List Pair → UnitId → (names : CopyRecord → List ℕ) → (shown : CopyRow → List ℕ) → Type 0
NamesTold copies pairs unit names shown =
    (Each (λ pair. hits_pair unit pair ≡ false) pairs × (flat_map shown (flat_map (copies_of copies) pairs) ≡ []))
    ⊎ ((pair : Pair) × IsIn pair pairs × (hits_pair unit pair ≡ true) × (flat_map shown (flat_map (copies_of copies) pairs) ≡ flat_map names copies))

names_told : (copies : List CopyRecord) (pairs : List Pair) → AreOfOneHome copies pairs → (unit : UnitId) (names : CopyRecord → List ℕ) (shown : CopyRow → List ℕ)
    → Shows unit names shown → NamesTold copies pairs unit names shown
names_told copies pairs are unit names shown shows = by (one_block of (hits_pair unit) pairs misses apart)
  where
    of : Pair → List ℕ
    of pair = flat_map shown (copies_of copies pair)

    whole : flat_map shown (flat_map (copies_of copies) pairs) ≡ flat_map of pairs
    whole = flat_flat shown (copies_of copies) pairs

    misses : Each (λ pair. hits_pair unit pair ≡ false → of pair ≡ []) pairs
    misses = each_there (λ pair. hits_pair unit pair ≡ false → of pair ≡ []) pairs
        (λ k pair e miss. rows_none pair.server names shown copies shows.same
        (each_weaker (IsCopyOf pair) (λ copy. copy.name.who ≡ pair.server → names copy ≡ [])
        (λ copy own who. shows.none copy (copy_none (known_of pair.own) (known_of pair.window) copy unit (own who)
        (not_same pair.own.unit unit (miss_own (same_unit pair.own.unit unit) (same_unit pair.window.unit unit) miss))
        (not_same pair.window.unit unit (miss_client (same_unit pair.own.unit unit) (same_unit pair.window.unit unit) miss))))
        copies (each_from_all (IsCopyOf pair) copies (are.pairs_are k pair e).copies)))

    either : (b : Bool) → ((b ≡ true) → ⊥) → b ≡ false
    either true never = absurd (never refl)
    either false never = refl

    apart : Ordered (λ a b. hits_pair unit a ≡ true → hits_pair unit b ≡ false) pairs
    apart = ordered_there (λ a b. hits_pair unit a ≡ true → hits_pair unit b ≡ false) pairs
        (λ j k a b less at_j at_k hit. either (hits_pair unit b)
        (λ hit'. let same : j ≡ k = are.apart j k a b unit at_j at_k (has_from unit a hit) (has_from unit b hit') in omega (arith, less, same)))

    own : Each (λ pair. hits_pair unit pair ≡ true → of pair ≡ flat_map names copies) pairs
    own = each_there (λ pair. hits_pair unit pair ≡ true → of pair ≡ flat_map names copies) pairs
        (λ k pair e hit. rows_name pair.server names shown copies shows.same
        (each_weaker (IsBy pair) (λ copy. copy.name.who ≢ pair.server → names copy ≡ [])
        (λ copy none other. shows.none copy (none other unit (has_from unit pair hit)))
        copies (each_from_all (IsBy pair) copies (are.pairs_are k pair e).names.foreign)))

    by : OneBlock of (hits_pair unit) pairs → NamesTold copies pairs unit names shown
    by (inl none) = inl (none.0, whole ∙ none.1)
    by (inr one) = inr (one.0, one.1, one.2, whole ∙ (one.3 ∙ each_in (λ pair. hits_pair unit pair ≡ true → of pair ≡ flat_map names copies) one.0 pairs one.1 own one.2))

-- what is so of a unit's window of each pair, by what the copies name, is so of it by their rows
told_of : (P : List ℕ → Type 0) → P [] → (copies : List CopyRecord) (pairs : List Pair) → AreOfOneHome copies pairs → (unit : UnitId) (names : CopyRecord → List ℕ) (shown : CopyRow → List ℕ)
    → Shows unit names shown → ((pair : Pair) → HasNames pair copies → HasWindow unit pair → P (flat_map names copies)) → P (flat_map shown (flat_map (copies_of copies) pairs))
told_of P empty copies pairs are unit names shown shows own = by (names_told copies pairs are unit names shown shows)
  where
    all : Each (λ pair. HasNames pair copies) pairs
    all = each_there (λ pair. HasNames pair copies) pairs (λ k pair e. (are.pairs_are k pair e).names)

    by : NamesTold copies pairs unit names shown → P (flat_map shown (flat_map (copies_of copies) pairs))
    by (inl none) = subst P (sym none.1) empty
    by (inr one) = subst P (sym one.3) (own one.0 (each_in (λ pair. HasNames pair copies) one.0 pairs one.1 all) (has_from unit one.0 one.2))

-- no stroke is named twice
pub named_once : (copies : List CopyRecord) (pairs : List Pair) → AreOfOneHome copies pairs → (unit : UnitId) (page : ℕ)
    → Rises (flat_map (places_of unit page) (flat_map (copies_of copies) pairs))
named_once copies pairs are unit page =
    told_of Rises tt copies pairs are unit (λ copy. places_in unit page copy.to.items) (places_of unit page) (shows_places unit page) rising
  where
    rising : (pair : Pair) → HasNames pair copies → HasWindow unit pair → Rises (named_on unit page copies)
    rising pair names (inl e) = subst (λ u. Rises (named_on u page copies)) e (names.own.rising page)
    rising pair names (inr e) = subst (λ u. Rises (named_on u page copies)) e (names.client.rising page)

-- no version is below one that was named before
pub versions_once : (copies : List CopyRecord) (pairs : List Pair) → AreOfOneHome copies pairs → (unit : UnitId) (entry : ℕ)
    → NeverFalls (flat_map (entries_of unit entry) (flat_map (copies_of copies) pairs))
versions_once copies pairs are unit entry =
    told_of NeverFalls tt copies pairs are unit (versions_of unit entry) (entries_of unit entry) (shows_versions unit entry) rising
  where
    rising : (pair : Pair) → HasNames pair copies → HasWindow unit pair → NeverFalls (versions_on unit entry copies)
    rising pair names (inl e) = subst (λ u. NeverFalls (versions_on u entry copies)) e (names.own.versions entry).rising
    rising pair names (inr e) = subst (λ u. NeverFalls (versions_on u entry copies)) e (names.client.versions entry).rising

-- in a window of a pair the rows name what the copies do
pub named_there : (copies : List CopyRecord) (pairs : List Pair) → AreOfOneHome copies pairs → (unit : UnitId) (page : ℕ) (pair : Pair) → IsIn pair pairs → HasWindow unit pair
    → flat_map (places_of unit page) (flat_map (copies_of copies) pairs) ≡ named_on unit page copies
named_there copies pairs are unit page pair inside has =
    by (names_told copies pairs are unit (λ copy. places_in unit page copy.to.items) (places_of unit page) (shows_places unit page))
  where
    not_both : (b : Bool) → b ≡ true → b ≡ false → ⊥
    not_both b is other = cc

    by : NamesTold copies pairs unit (λ copy. places_in unit page copy.to.items) (places_of unit page)
        → flat_map (places_of unit page) (flat_map (copies_of copies) pairs) ≡ named_on unit page copies
    by (inl none) = absurd (not_both (hits_pair unit pair) (hits_from unit pair has) (each_in (λ pair. hits_pair unit pair ≡ false) pair pairs inside none.0))
    by (inr one) = one.3
