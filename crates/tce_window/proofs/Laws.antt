-- Laws of the pieces of a range, and of what is read and written through them, for those who stand above this crate.
use Rattle.std.proofs.Common.{◌≡◌, ℕ, ◌+◌, ◌/◌, ◌≤◌, ◌==◌, ◌<◌, Bool, true, false, List, [], ◌∷◌, ◌++◌, Option, Some, None, IsSome, option_map, option_and_then, length, get_or, map, take, drop, flat_map, All, slice_get, if◌then◌else◌, arith, refl, sym, ◌∙◌, ap, ap₂, subst, append_assoc, append-nil, le_refl, length-append, length-drop, length-take-le, take-append-drop, eq-eqb, eqb-true}
use Rattle.std.proofs.lemmas.List.{take_all}
use Rattle.std.proofs.lemmas.List.Elements.{All-nil, All-cons, All-head, All-tail, All-weaker}
use Rattle.vio_num.specs.declared.names.UnitId.{UnitId}
use Rattle.tce_window.specs.declared.piece.Piece.{Piece}
use Rattle.tce_window.specs.declared.answers.Right.{Right}
use Rattle.tce_window.specs.declared.answers.Right.TheVariants.{Read, Write}
use Rattle.page_slots.specs.Stroke.{StrokeValue}
use Rattle.page_slots.specs.declared.stroke.StrokeName.{StrokeName}
use Rattle.page_slots.specs.Page.{left_by}
use Rattle.tce_window.specs.declared.held_pages.HeldPage.{HeldPage}
use Rattle.tce_window.specs.Held.{held_strokes, held_len, page_bytes, joined}
pub use Rattle.tce_window.proofs.Values.{by_number}
use Rattle.tce_window.specs.Pieces.{IsPieceAt, Touches, IsGranted, IsLast, HasStrokes, LieFrom}
use Rattle.tce_window.specs.Moved.{piece_strokes, strokes_on, stroke_count, numbered, unplaced, left_at, read_bytes, stroke_of, IsNamed, bytes_of, AreApart, IsReadFrom, IsWrittenTo}
use Rattle.tce_window.proofs.Piecing.{there_of}
pub use Rattle.tce_window.proofs.Gathering.{on_ok_map}
pub use Rattle.tce_window.proofs.Growing.{not_none}
pub use Rattle.tce_window.proofs.Holding.{page_within}
pub use Rattle.tce_window.proofs.Pages.{get-set_other, get-set_same}
pub use Rattle.tce_window.proofs.Piecing.{bytes_aligned, of_entry, own_page, piece_bytes, piece_len, refused_at, touches_more, usable_more}
pub use Rattle.tce_window.proofs.Putting.{entry_address, good_here, good_next, rows_next, values_told}
pub use Rattle.tce_window.proofs.Reading.{touched_len}
pub use Rattle.tce_window.proofs.Values.{values_of-none, values_of-other, values_of-own}

-- the counts behind a stroke on this piece's page
abbrev pub counted : (ℕ → ℕ) → Piece → ℕ → ℕ
counted count piece p = if piece.page == p then count p + 1 else count p

pub numbered_kept : (count : ℕ → ℕ) (pieces : List Piece) → map unplaced (numbered count pieces) ≡ map unplaced pieces
numbered_kept count [] = refl
numbered_kept count (piece ∷ pieces) = ap (λ more. unplaced piece ∷ more) (numbered_kept (counted count piece) pieces)

-- of lists whose pieces differ in their places alone
same_head : (new old : Piece) (news olds : List Piece) → map unplaced (new ∷ news) ≡ map unplaced (old ∷ olds) → unplaced new ≡ unplaced old
same_head new old news olds e = cc (e)

same_tail : (new old : Piece) (news olds : List Piece) → map unplaced (new ∷ news) ≡ map unplaced (old ∷ olds) → map unplaced news ≡ map unplaced olds
same_tail new old news olds e = cc (e)

pub kept_length : (new old : List Piece) → map unplaced new ≡ map unplaced old → length new ≡ length old
kept_length [] [] e = refl
kept_length [] (o ∷ old) e = absurd (cc (e))
kept_length (n ∷ new) [] e = absurd (cc (e))
kept_length (n ∷ new) (o ∷ old) e = omega (arith, kept_length new old (same_tail n o new old e))

pub kept_len : (new old : List Piece) → map unplaced new ≡ map unplaced old → held_len new ≡ held_len old
kept_len [] [] e = refl
kept_len [] (o ∷ old) e = absurd (cc (e))
kept_len (n ∷ new) [] e = absurd (cc (e))
kept_len (n ∷ new) (o ∷ old) e =
    let len : n.len ≡ o.len = ap (λ piece. piece.len) (same_head n o new old e) in
    omega (arith, len, kept_len new old (same_tail n o new old e))

-- a fact of each piece in which its place does not stand
pub kept_all : (P : Piece → Type 0) → ((a b : Piece) → unplaced a ≡ unplaced b → P b → P a)
    → (new old : List Piece) → map unplaced new ≡ map unplaced old → All P old → All P new
kept_all P same [] old e all = All-nil P
kept_all P same (n ∷ new) [] e all = absurd (cc (e))
kept_all P same (n ∷ new) (o ∷ old) e all =
    All-cons P n new (same n o (same_head n o new old e) (All-head P o old all))
    (kept_all P same new old (same_tail n o new old e) (All-tail P o old all))

pub kept_touches : (unit : UnitId) (from to : ℕ) (new old : List Piece) → map unplaced new ≡ map unplaced old
    → Touches unit from to old → Touches unit from to new
kept_touches unit from to [] [] e h = h
kept_touches unit from to [] (o ∷ old) e h = absurd (cc (e))
kept_touches unit from to (n ∷ new) [] e h = absurd (cc (e))
kept_touches unit from to (n ∷ new) (o ∷ old) e h =
    let one : unplaced n ≡ unplaced o = same_head n o new old e in
    let here : IsPieceAt unit from to n = record {
      unit_is = ap (λ piece. piece.unit) one ∙ h.1.unit_is;
      entry = ap (λ piece. piece.entry) one ∙ h.1.entry;
      offset = ap (λ piece. piece.offset) one ∙ h.1.offset;
      len = ap (λ piece. piece.len) one ∙ h.1.len;
    } in
    let next : from + o.len ≡ from + n.len = ap (λ piece. from + piece.len) (sym one) in
    (h.0, here, kept_touches unit (from + n.len) to new old (same_tail n o new old e) (subst (λ k. Touches unit k to old) next h.2))

pub kept_granted : (values : ℕ → List ℕ) (right : Right) (new old : List Piece) → map unplaced new ≡ map unplaced old
    → All (IsGranted values right) old → All (IsGranted values right) new
kept_granted values right =
    kept_all (IsGranted values right)
    (λ a b e h. record {
      value = h.value;
      shown = ap (λ piece. slice_get (values piece.entry) piece.version) e ∙ h.shown;
      granted = h.granted;
      page = ap (λ piece. piece.page) e ∙ h.page;
    })

pub kept_last : (values : ℕ → List ℕ) (new old : List Piece) → map unplaced new ≡ map unplaced old
    → All (IsLast values) old → All (IsLast values) new
kept_last values =
    kept_all (IsLast values)
    (λ a b e h. ap (λ piece. length (values piece.entry)) e ∙ h ∙ ap (λ piece. piece.version + 1) (sym e))

-- of numbered pieces
pub numbered_length : (count : ℕ → ℕ) (pieces : List Piece) → length (numbered count pieces) ≡ length pieces
numbered_length count pieces = kept_length (numbered count pieces) pieces (numbered_kept count pieces)

pub numbered_len : (count : ℕ → ℕ) (pieces : List Piece) → held_len (numbered count pieces) ≡ held_len pieces
numbered_len count pieces = kept_len (numbered count pieces) pieces (numbered_kept count pieces)

pub numbered_touches : (count : ℕ → ℕ) (unit : UnitId) (from to : ℕ) (pieces : List Piece)
    → Touches unit from to pieces → Touches unit from to (numbered count pieces)
numbered_touches count unit from to pieces =
    kept_touches unit from to (numbered count pieces) pieces (numbered_kept count pieces)

pub numbered_granted : (count : ℕ → ℕ) (values : ℕ → List ℕ) (right : Right) (pieces : List Piece)
    → All (IsGranted values right) pieces → All (IsGranted values right) (numbered count pieces)
numbered_granted count values right pieces =
    kept_granted values right (numbered count pieces) pieces (numbered_kept count pieces)

pub numbered_last : (count : ℕ → ℕ) (values : ℕ → List ℕ) (pieces : List Piece)
    → All (IsLast values) pieces → All (IsLast values) (numbered count pieces)
numbered_last count values pieces =
    kept_last values (numbered count pieces) pieces (numbered_kept count pieces)

-- a piece that is read has the bytes that its page had when it was taken
piece_read : (now held : Option (List StrokeValue)) (piece : Piece) → HasStrokes piece held → (IsSome held → now ≡ held)
    → take piece.len (drop piece.offset (left_at now piece.at)) ≡ take piece.len (drop piece.offset (page_bytes held))
piece_read now None piece h e = absurd h
piece_read now (Some strokes) piece h e =
    ap (λ x. take piece.len (drop piece.offset (left_at x piece.at))) (e (there_of piece (Some strokes) h))
    ∙ ap (λ n. take piece.len (drop piece.offset (left_by (take n strokes)))) h
    ∙ ap (λ xs. take piece.len (drop piece.offset (left_by xs))) (take_all (length strokes) strokes (omega arith))

pub held_pieces_are_read : (pages : List (Option HeldPage)) (pieces : List Piece) (strokes : ℕ → Option (List StrokeValue))
    → All (λ piece. HasStrokes piece (held_strokes pages piece.page)) pieces
    → ((p : ℕ) → IsSome (held_strokes pages p) → strokes p ≡ held_strokes pages p)
    → flat_map (read_bytes strokes) pieces ≡ joined pages pieces
held_pieces_are_read pages [] strokes there same = refl
held_pieces_are_read pages (piece ∷ pieces) strokes there same =
    let P : Piece → Type 0 = λ other. HasStrokes other (held_strokes pages other.page) in
    ap₂ (λ front rest. front ++ rest)
    (piece_read (strokes piece.page) (held_strokes pages piece.page) piece (All-head P piece pieces there) (same piece.page))
    (held_pieces_are_read pages pieces strokes (All-tail P piece pieces there) same)

-- of a range that is touched
pub touched_some : (unit : UnitId) (from to : ℕ) (pieces : List Piece) → Touches unit from to pieces → All (λ piece. 1 ≤ piece.len) pieces
touched_some unit from to [] h = All-nil (λ piece. 1 ≤ piece.len)
touched_some unit from to (piece ∷ pieces) h =
    All-cons (λ piece. 1 ≤ piece.len) piece pieces (omega (arith, h.0, h.1.len)) (touched_some unit (from + piece.len) to pieces h.2)

pub touched_unit : (unit : UnitId) (from to : ℕ) (pieces : List Piece) → Touches unit from to pieces → All (λ piece. piece.unit ≡ unit) pieces
touched_unit unit from to [] h = All-nil (λ piece. piece.unit ≡ unit)
touched_unit unit from to (piece ∷ pieces) h =
    All-cons (λ piece. piece.unit ≡ unit) piece pieces h.1.unit_is (touched_unit unit (from + piece.len) to pieces h.2)

-- a piece that does not end the range ends its entry
pub touched_lie : (unit : UnitId) (from to : ℕ) (pieces : List Piece) → Touches unit from to pieces → LieFrom (from / 4096) pieces
touched_lie unit from to [] h = tt
touched_lie unit from to (piece ∷ []) h = (h.1.entry, tt)
touched_lie unit from to (piece ∷ next ∷ pieces) h =
    let entry : (from + piece.len) / 4096 ≡ from / 4096 + 1 = omega (arith, h.0, h.1.len, h.2.0) in
    (h.1.entry, subst (λ e. LieFrom e (next ∷ pieces)) entry (touched_lie unit (from + piece.len) to (next ∷ pieces) h.2))

pub kept_lie : (entry : ℕ) (new old : List Piece) → map unplaced new ≡ map unplaced old → LieFrom entry old → LieFrom entry new
kept_lie entry [] old e h = tt
kept_lie entry (n ∷ new) [] e h = absurd (cc (e))
kept_lie entry (n ∷ new) (o ∷ old) e h =
    (ap (λ piece. piece.entry) (same_head n o new old e) ∙ h.0, kept_lie (entry + 1) new old (same_tail n o new old e) h.1)

pub kept_unit : (unit : UnitId) (new old : List Piece) → map unplaced new ≡ map unplaced old
    → All (λ piece. piece.unit ≡ unit) old → All (λ piece. piece.unit ≡ unit) new
kept_unit unit = kept_all (λ piece. piece.unit ≡ unit) (λ a b e h. ap (λ piece. piece.unit) e ∙ h)

-- the pages behind a stroke on this piece's page
abbrev pub struck : (ℕ → Option (List StrokeValue)) → Piece → StrokeValue → ℕ → Option (List StrokeValue)
struck old piece stroke p = option_map (λ s. s ++ (if piece.page == p then stroke ∷ [] else [])) (old p)

-- what is known of pages on which the strokes of these pieces are laid
pub record Laid (name : StrokeName) (bytes : List ℕ) (pieces : List Piece) (old new : ℕ → Option (List StrokeValue)) (count : ℕ → ℕ) : Type 0 where
  pub long : length bytes ≡ held_len pieces
  pub there : All (λ piece. IsSome (old piece.page)) pieces
  pub laid : (p : ℕ) → new p ≡ option_map (λ s. s ++ strokes_on p pieces (piece_strokes name bytes pieces)) (old p)
  pub counts : (p : ℕ) → count p ≡ stroke_count (old p)

abbrev pub first_stroke : StrokeName → List ℕ → Piece → StrokeValue
first_stroke name bytes piece = record { name = name; offset = piece.offset; bytes = take piece.len bytes }

struck_there : (here : Bool) (old : Option (List StrokeValue)) (stroke : StrokeValue) → IsSome old
    → IsSome (option_map (λ s. s ++ (if here then stroke ∷ [] else [])) old)
struck_there here (Some s) stroke h = refl
struck_there here None stroke h = absurd (cc (h))

-- the first stroke, and then the others
struck_laid : (here : Bool) (old : Option (List StrokeValue)) (stroke : StrokeValue) (more : List StrokeValue)
    → option_map (λ s. s ++ (if here then stroke ∷ more else more)) old
    ≡ option_map (λ s. s ++ more) (option_map (λ s. s ++ (if here then stroke ∷ [] else [])) old)
struck_laid here None stroke more = refl
struck_laid true (Some s) stroke more = ap Some (sym (append_assoc s (stroke ∷ []) more))
struck_laid false (Some s) stroke more = ap (λ t. Some (t ++ more)) (sym (append-nil s))

struck_count : (here : Bool) (old : Option (List StrokeValue)) (stroke : StrokeValue) (n : ℕ) → (here ≡ true → IsSome old) → n ≡ stroke_count old
    → (if here then n + 1 else n) ≡ stroke_count (option_map (λ s. s ++ (if here then stroke ∷ [] else [])) old)
struck_count true None stroke n there e = absurd (cc (there refl))
struck_count false None stroke n there e = e
struck_count true (Some s) stroke n there e = omega (arith, e, length-append s (stroke ∷ []))
struck_count false (Some s) stroke n there e = omega (arith, e, length-append s [])

on_same : (old : ℕ → Option (List StrokeValue)) (a b : ℕ) → IsSome (old a) → (a == b) ≡ true → IsSome (old b)
on_same old a b there same = subst (λ p. IsSome (old p)) (eqb-true a b same) there

laid_more : (name : StrokeName) (bytes : List ℕ) (piece : Piece) (pieces : List Piece) (old new : ℕ → Option (List StrokeValue)) (count : ℕ → ℕ)
    → Laid name bytes (piece ∷ pieces) old new count
    → Laid name (drop piece.len bytes) pieces (struck old piece (first_stroke name bytes piece)) new (counted count piece)
laid_more name bytes piece pieces old new count h =
    let stroke : StrokeValue = first_stroke name bytes piece in
    let P : Piece → Type 0 = λ other. IsSome (old other.page) in
    record {
      long = omega (arith, h.long, length-drop piece.len bytes);
      there = All-weaker P (λ other. IsSome (struck old piece stroke other.page))
          (λ other there. struck_there (piece.page == other.page) (old other.page) stroke there) pieces (All-tail P piece pieces h.there);
      laid = λ p. h.laid p ∙ struck_laid (piece.page == p) (old p) stroke (strokes_on p pieces (piece_strokes name (drop piece.len bytes) pieces));
      counts = λ p. struck_count (piece.page == p) (old p) stroke (count p) (on_same old piece.page p (All-head P piece pieces h.there)) (h.counts p);
    }

-- the stroke behind a list, with others behind it
found_behind : (strokes : List StrokeValue) (stroke : StrokeValue) (more : List StrokeValue) → slice_get (strokes ++ stroke ∷ more) (length strokes) ≡ Some stroke
found_behind [] stroke more = refl
found_behind (s ∷ strokes) stroke more = found_behind strokes stroke more

found_at : (here : Bool) (old new : Option (List StrokeValue)) (stroke : StrokeValue) (more : List StrokeValue) (n : ℕ) → here ≡ true → IsSome old
    → n ≡ stroke_count old → new ≡ option_map (λ s. s ++ (if here then stroke ∷ more else more)) old → option_and_then (λ s. slice_get s n) new ≡ Some stroke
found_at false old new stroke more n is_here there at laid = absurd (cc (is_here))
found_at true None new stroke more n is_here there at laid = absurd (cc (there))
found_at true (Some s) new stroke more n is_here there at laid =
    ap (option_and_then (λ t. slice_get t n)) laid ∙ ap (slice_get (s ++ stroke ∷ more)) at ∙ found_behind s stroke more

-- the first piece names the first stroke
pub laid_first : (name : StrokeName) (bytes : List ℕ) (piece : Piece) (pieces : List Piece) (old new : ℕ → Option (List StrokeValue)) (count : ℕ → ℕ)
    → Laid name bytes (piece ∷ pieces) old new count
    → stroke_of new (record piece { at = count piece.page }) ≡ Some (first_stroke name bytes piece)
laid_first name bytes piece pieces old new count h =
    found_at (piece.page == piece.page) (old piece.page) (new piece.page) (first_stroke name bytes piece)
    (strokes_on piece.page pieces (piece_strokes name (drop piece.len bytes) pieces)) (count piece.page)
    (eq-eqb piece.page piece.page refl) (All-head (λ other. IsSome (old other.page)) piece pieces h.there) (h.counts piece.page) (h.laid piece.page)

pub laid_named : (name : StrokeName) (bytes : List ℕ) (pieces : List Piece) (old new : ℕ → Option (List StrokeValue)) (count : ℕ → ℕ)
    → Laid name bytes pieces old new count → All (λ piece. IsNamed name piece (stroke_of new piece)) (numbered count pieces)
laid_named name bytes [] old new count h = All-nil (λ piece. IsNamed name piece (stroke_of new piece))
laid_named name bytes (piece ∷ pieces) old new count h =
    let placed : Piece = record piece { at = count piece.page } in
    let within : piece.len ≤ length bytes = omega (arith, h.long) in
    All-cons (λ other. IsNamed name other (stroke_of new other)) placed (numbered (counted count piece) pieces)
    (subst (IsNamed name placed) (sym (laid_first name bytes piece pieces old new count h)) (refl, refl, length-take-le piece.len bytes within))
    (laid_named name (drop piece.len bytes) pieces (struck old piece (first_stroke name bytes piece)) new (counted count piece)
    (laid_more name bytes piece pieces old new count h))

no_bytes : (bytes : List ℕ) → length bytes ≡ 0 → [] ≡ bytes
no_bytes [] e = refl
no_bytes (b ∷ bytes) e = absurd (omega (arith, e))

pub laid_join : (name : StrokeName) (bytes : List ℕ) (pieces : List Piece) (old new : ℕ → Option (List StrokeValue)) (count : ℕ → ℕ)
    → Laid name bytes pieces old new count → flat_map (λ piece. bytes_of (stroke_of new piece)) (numbered count pieces) ≡ bytes
laid_join name bytes [] old new count h = no_bytes bytes h.long
laid_join name bytes (piece ∷ pieces) old new count h =
    ap₂ (λ front rest. bytes_of front ++ rest) (laid_first name bytes piece pieces old new count h)
    (laid_join name (drop piece.len bytes) pieces (struck old piece (first_stroke name bytes piece)) new (counted count piece)
    (laid_more name bytes piece pieces old new count h))
    ∙ take-append-drop piece.len bytes

-- a place is behind all that its page had
raised : (here : Bool) (n floor : ℕ) → floor ≤ n → floor ≤ (if here then n + 1 else n)
raised true n floor h = omega (arith, h)
raised false n floor h = h

pub numbered_above : (floor count : ℕ → ℕ) (pieces : List Piece) → ((p : ℕ) → floor p ≤ count p) → All (λ piece. floor piece.page ≤ piece.at) (numbered count pieces)
numbered_above floor count [] above = All-nil (λ piece. floor piece.page ≤ piece.at)
numbered_above floor count (piece ∷ pieces) above =
    All-cons (λ other. floor other.page ≤ other.at) (record piece { at = count piece.page }) (numbered (counted count piece) pieces) (above piece.page)
    (numbered_above floor (counted count piece) pieces (λ p. raised (piece.page == p) (count p) (floor p) (above p)))

pub numbered_behind : (count : ℕ → ℕ) (pieces : List Piece) → All (λ piece. count piece.page ≤ piece.at) (numbered count pieces)
numbered_behind count pieces = numbered_above count count pieces (λ p. le_refl (count p))

later_stroke : (here : Bool) (n m at : ℕ) → here ≡ true → n ≡ m → (if here then n + 1 else n) ≤ at → m < at
later_stroke true n m at is_here same h = omega (arith, same, h)
later_stroke false n m at is_here same h = absurd (cc (is_here))

pub numbered_apart : (count : ℕ → ℕ) (pieces : List Piece) → AreApart (numbered count pieces)
numbered_apart count [] = tt
numbered_apart count (piece ∷ pieces) = (
  All-weaker (λ other. counted count piece other.page ≤ other.at) (λ other. other.page ≡ piece.page → count piece.page < other.at)
      (λ other above same. later_stroke (piece.page == other.page) (count other.page) (count piece.page) other.at (eq-eqb piece.page other.page (sym same)) (ap count same) above)
      (numbered (counted count piece) pieces) (numbered_behind (counted count piece) pieces),
  numbered_apart (counted count piece) pieces,
)

-- from the clauses of a write
pub written_pieces_are_strokes : (name : StrokeName) (bytes : List ℕ) (pieces : List Piece) (old new : ℕ → Option (List StrokeValue))
    → length bytes ≡ held_len pieces → All (λ piece. IsSome (old piece.page)) pieces
    → ((p : ℕ) → new p ≡ option_map (λ s. s ++ strokes_on p pieces (piece_strokes name bytes pieces)) (old p))
    → All (λ piece. IsNamed name piece (stroke_of new piece)) (numbered (λ p. stroke_count (old p)) pieces)
written_pieces_are_strokes name bytes pieces old new long there laid =
    laid_named name bytes pieces old new (λ p. stroke_count (old p)) (record { long = long; there = there; laid = laid; counts = λ p. refl })

pub written_join : (name : StrokeName) (bytes : List ℕ) (pieces : List Piece) (old new : ℕ → Option (List StrokeValue))
    → length bytes ≡ held_len pieces → All (λ piece. IsSome (old piece.page)) pieces
    → ((p : ℕ) → new p ≡ option_map (λ s. s ++ strokes_on p pieces (piece_strokes name bytes pieces)) (old p))
    → flat_map (λ piece. bytes_of (stroke_of new piece)) (numbered (λ p. stroke_count (old p)) pieces) ≡ bytes
written_join name bytes pieces old new long there laid =
    laid_join name bytes pieces old new (λ p. stroke_count (old p)) (record { long = long; there = there; laid = laid; counts = λ p. refl })

-- the whole of what is read, and of what is written, through the pieces of a range
all_reached : (pages : List (Option HeldPage)) (strokes : ℕ → Option (List StrokeValue)) (pieces : List Piece)
    → All (λ piece. HasStrokes piece (held_strokes pages piece.page)) pieces
    → ((p : ℕ) → IsSome (held_strokes pages p) → strokes p ≡ held_strokes pages p)
    → All (λ piece. piece.at ≤ stroke_count (strokes piece.page)) pieces
all_reached pages strokes pieces there same = λ k d lt.
    let piece = get_or pieces k d in
    reach piece (held_strokes pages piece.page) (strokes piece.page) (there k d lt) (same piece.page)
  where
    reach : (piece : Piece) (held now : Option (List StrokeValue)) → HasStrokes piece held → (IsSome held → now ≡ held) → piece.at ≤ stroke_count now
    reach piece (Some strokes) now has same = let e : now ≡ Some strokes = same refl in rw e (omega (arith, has))
    reach piece None now has same = absurd has

pub read_from : (unit : UnitId) (values : ℕ → List ℕ) (strokes : ℕ → Option (List StrokeValue)) (at : ℕ) (pages : List (Option HeldPage)) (pieces : List Piece) (bytes : List ℕ)
    → Touches unit at (at + length bytes) pieces → All (IsGranted values Read) pieces
    → All (λ piece. HasStrokes piece (held_strokes pages piece.page)) pieces
    → ((p : ℕ) → IsSome (held_strokes pages p) → strokes p ≡ held_strokes pages p)
    → bytes ≡ joined pages pieces → IsReadFrom unit values strokes at pieces bytes
read_from unit values strokes at pages pieces bytes touched granted there same is_read =
    record { touched = touched; granted = granted; reached = all_reached pages strokes pieces there same; join = held_pieces_are_read pages pieces strokes there same ∙ sym is_read }

pub written_to : (unit : UnitId) (values : ℕ → List ℕ) (at : ℕ) (name : StrokeName) (bytes : List ℕ) (pieces placed : List Piece) (old new : ℕ → Option (List StrokeValue))
    → Touches unit at (at + length bytes) pieces → All (IsGranted values Write) pieces
    → All (λ piece. IsSome (old piece.page)) pieces
    → ((p : ℕ) → new p ≡ option_map (λ s. s ++ strokes_on p pieces (piece_strokes name bytes pieces)) (old p))
    → placed ≡ numbered (λ p. stroke_count (old p)) pieces → IsWrittenTo unit values new at name placed bytes
written_to unit values at name bytes pieces placed old new touched granted there laid is_placed =
    let count : ℕ → ℕ = λ p. stroke_count (old p) in
    let long : length bytes ≡ held_len pieces = omega (arith, touched_len unit at (at + length bytes) pieces touched) in
    subst (λ list. IsWrittenTo unit values new at name list bytes) (sym is_placed)
    (record {
      touched = numbered_touches count unit at (at + length bytes) pieces touched;
      granted = numbered_granted count values Write pieces granted;
      named = written_pieces_are_strokes name bytes pieces old new long there laid;
      apart = numbered_apart count pieces;
      join = written_join name bytes pieces old new long there laid;
    })
