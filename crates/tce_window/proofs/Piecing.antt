-- The pieces of a range, one after another.
use Rattle.std.proofs.Common.{◌≡◌, ℕ, zero, suc, ◌+◌, ◌-◌, ◌*◌, ◌/◌, ◌%◌, ◌<◌, ◌≤◌, ◌==◌, ◌||◌, Bool, true, false, List, [], ◌∷◌, ◌++◌, Option, Some, None, IsSome, All, get_or, length, rules, refl, sym, ◌∙◌, ap, subst, ◌⊎◌, inl, inr, min, ⊎_elim, arith}
use Rattle.std.proofs.lemmas.Bool.{cases_lt, eq-eqb}
use Rattle.std.proofs.lemmas.List.Elements.{All-nil, All-cons}
use Rattle.page_slots.specs.Stroke.{StrokeValue}
use Rattle.std.proofs.lemmas.List.{append_assoc}
use Rattle.vio_num.specs.declared.names.UnitId.{UnitId}
use Rattle.tce_window.specs.declared.piece.Piece.{Piece}
use Rattle.tce_window.specs.declared.answers.Right.{Right}
use Rattle.tce_window.specs.declared.answers.HoldFault.{HoldFault}
use Rattle.tce_window.specs.declared.answers.HoldFault.TheVariants.{Past, NotGranted, InUse}
use Rattle.tce_window.specs.Pieces.{IsPieceAt, Touches, MayUse, AreUsable, IsRefused, IsRefusedAt, IsOfEntry, HasStrokes, on_page}

-- the first bad entry lies where the pieces so far end
pub refused_at : (fault : HoldFault) (values : ℕ → List ℕ) (right : Right) (n ioba len done : ℕ) → done < len
    → ((entry : ℕ) → entry ≡ (ioba + done) / 4096 → AreUsable values right n (ioba / 4096) entry)
    → IsRefusedAt values right n ((ioba + done) / 4096) fault
    → IsRefused values right n ioba len fault
refused_at (Past entry) values right n ioba len done less before m =
    (omega (arith, m.0), omega (arith, m.0, less), m.1, before entry m.0)
refused_at (NotGranted entry version tce) values right n ioba len done less before m =
    (omega (arith, m.0), omega (arith, m.0, less), m.1, m.2, before entry m.0)
refused_at (InUse page word) values right n ioba len done less before m = absurd m

pub of_entry : (fault : HoldFault) (values : ℕ → List ℕ) (right : Right) (n at : ℕ) → IsRefusedAt values right n at fault → IsOfEntry fault
of_entry (Past entry) values right n at m = tt
of_entry (NotGranted entry version tce) values right n at m = tt
of_entry (InUse page word) values right n at m = m

-- a piece more
pub touches_more : (unit : UnitId) (ioba len done : ℕ) (pieces rest : List Piece) (piece : Piece) → done < len
    → IsPieceAt unit (ioba + done) (ioba + done + (len - done)) piece
    → ((more : List Piece) → Touches unit (ioba + done) (ioba + len) more → Touches unit ioba (ioba + len) (pieces ++ more))
    → Touches unit (ioba + (done + piece.len)) (ioba + len) rest
    → Touches unit ioba (ioba + len) (pieces ++ piece ∷ [] ++ rest)
touches_more unit ioba len done pieces rest piece less is_piece before after =
    let end : ioba + done + (len - done) ≡ ioba + len = omega (arith, less) in
    let next : ioba + (done + piece.len) ≡ ioba + done + piece.len = omega arith in
    let here : IsPieceAt unit (ioba + done) (ioba + len) piece = subst (λ to. IsPieceAt unit (ioba + done) to piece) end is_piece in
    let further : Touches unit (ioba + done + piece.len) (ioba + len) rest = subst (λ from. Touches unit from (ioba + len) rest) next after in
    subst (Touches unit ioba (ioba + len)) (sym (append_assoc pieces (piece ∷ []) rest))
    (before (piece ∷ rest) (omega (arith, less), here, further))

-- an entry more
pub usable_more : (values : ℕ → List ℕ) (right : Right) (n ioba done k : ℕ)
    → (0 < done → (e : ℕ) → ioba / 4096 ≤ e → e * 4096 < ioba + done → (e < n) × MayUse values right e)
    → (ioba + done) / 4096 < n → MayUse values right ((ioba + done) / 4096) → k ≤ 4096 - (ioba + done) % 4096
    → (e : ℕ) → ioba / 4096 ≤ e → e * 4096 < ioba + (done + k) → (e < n) × MayUse values right e
usable_more values right n ioba done k before inside usable within e low high =
    ⊎_elim
    (λ less. before (omega (arith, low, less)) e low (omega (arith, less)))
    (λ more.
    let same : (ioba + done) / 4096 ≡ e = omega (arith, more, high, within) in
    subst (λ q. (q < n) × MayUse values right q) same (inside, usable))
    (cases_lt e ((ioba + done) / 4096))

-- the length of a piece, of which so many bytes of the range are left
pub record piece_bytes (from left len : ℕ) : Type 0 where
  pub some : 1 ≤ len
  pub within : len ≤ left
  pub entry : len ≤ 4096 - from % 4096
  pub whole : (len ≡ left) ⊎ (len ≡ 4096 - from % 4096)

min_cases : (a b : ℕ) → ((a ≤ b) ⊎ (b ≤ a)) → (min a b ≡ a) ⊎ (min a b ≡ b)
min_cases a b (inl h) = inl (omega (arith, h))
min_cases a b (inr h) = inr (omega (arith, h))

pub piece_len : (unit : UnitId) (from left : ℕ) (piece : Piece) → IsPieceAt unit from (from + left) piece → 1 ≤ left → piece_bytes from left piece.len
piece_len unit from left piece here some =
    let e : from + left - from ≡ left = omega arith in
    let len : piece.len ≡ min left (4096 - from % 4096) = here.len ∙ ap (λ k. min k (4096 - from % 4096)) e in
    record {
      some = omega (arith, len, some);
      within = omega (arith, len);
      entry = omega (arith, len);
      whole = rw len (min_cases left (4096 - from % 4096) (⊎_elim (λ h. inl (omega (arith, h))) (λ h. inr h) (cases_lt left (4096 - from % 4096))));
    }

-- a piece that does not end the range ends its entry
pub bytes_aligned : (ioba done len k k' : ℕ) → k' ≡ k → piece_bytes (ioba + done) (len - done) k → done + k' < len → (ioba + (done + k')) % 4096 ≡ 0
bytes_aligned ioba done len k k' same bytes more =
    ⊎_elim (λ e. absurd (omega (arith, same, e, more))) (λ e. omega (arith, same, e)) bytes.whole

-- a piece lies inside a page
pub touched_inside : (unit : UnitId) (from to : ℕ) (pieces : List Piece) → Touches unit from to pieces → All (λ piece. piece.offset + piece.len ≤ 4096) pieces
touched_inside unit from to [] h = All-nil (λ piece. piece.offset + piece.len ≤ 4096)
touched_inside unit from to (piece ∷ pieces) h =
    All-cons (λ piece. piece.offset + piece.len ≤ 4096) piece pieces
    (omega (arith, h.1.offset, h.1.len)) (touched_inside unit (from + piece.len) to pieces h.2)

or_right : (a b : Bool) → b ≡ true → (a || b) ≡ true
or_right true b h = refl
or_right false b h = h

-- a piece lies on its page
pub own_page : (pieces : List Piece) (k : ℕ) (d : Piece) → k < length pieces → on_page pieces ((get_or pieces k d).page) ≡ true
own_page [] k d h = absurd (omega (arith, h))
own_page (piece ∷ pieces) zero d h = rw (eq-eqb piece.page piece.page refl) refl
own_page (piece ∷ pieces) (suc k) d h = or_right (piece.page == (get_or pieces k d).page) (on_page pieces ((get_or pieces k d).page)) (own_page pieces k d (omega (arith, h)))

pub there_of : (piece : Piece) (strokes : Option (List StrokeValue)) → HasStrokes piece strokes → IsSome strokes
there_of piece (Some strokes) h = search rules
there_of piece None h = absurd h
