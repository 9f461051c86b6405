-- A lawful copy stays lawful: what is learned later of its windows comes behind what was known. And what a range
-- that was held, written through and given back leaves on its pages (`Written`).
use Rattle.std.proofs.Common.{◌≡◌, ℕ, ◌≤◌, List, [], ◌∷◌, ◌++◌, Bool, true, false, Option, Some, None, length, take, drop, flat_map, All, slice_get, option_and_then, refl, sym, ◌∙◌, ap, ap₂, subst, arith, append-nil, append_assoc, length-append}
use Rattle.std.proofs.lemmas.List.{get_or_append_left, take-append-le}
use Rattle.std.proofs.lemmas.List.Elements.{All-head, All-tail, All-weaker}
use Rattle.std.proofs.lemmas.Option.{slice_get_within, slice_get-get_or, get_or_from_slice_get}
use Rattle.page_slots.specs.Stroke.{StrokeValue}
use Rattle.page_slots.specs.Page.{left_by}
use Rattle.page_slots.specs.declared.stroke.StrokeName.{StrokeName}
use Rattle.vio_num.specs.declared.names.UnitId.{UnitId}
use Rattle.tce_window.specs.declared.piece.Piece.{Piece}
use Rattle.tce_window.specs.declared.answers.Right.{Right}
use Rattle.tce_window.specs.Pieces.{IsGranted}
use Rattle.vio_num.specs.Words.{Begins}
use Rattle.tce_window.specs.Port.{Later, Grows}
use Rattle.tce_window.specs.Moved.{IsReadFrom, IsWrittenTo, IsNamed, bytes_of, left_at, read_bytes, stroke_count, stroke_of}
pub use Rattle.rdma_copy.proofs.Holding.{behind, Written, held_back, laid_on, places_laid, strokes_back, written_back}
use Rattle.rdma_copy.specs.declared.copy.CopyRecord.{CopyRecord}
use Rattle.rdma_copy.specs.Copy.{Side, IsLawful, SideGrows}

-- an element of a list is that of each list that begins with it
slice_more : {X : Type 0} (xs rest : List X) (i : ℕ) (x : X) → slice_get xs i ≡ Some x → slice_get (xs ++ rest) i ≡ Some x
slice_more xs rest i x e =
    let less = slice_get_within xs i x e in
    slice_get-get_or (xs ++ rest) i x (omega (arith, less, length-append xs rest))
    ∙ ap Some (get_or_append_left xs rest x i less ∙ get_or_from_slice_get xs i x x e)

still_granted : (old new : ℕ → List ℕ) (right : Right) (pieces : List Piece) → ((e : ℕ) → Begins (old e) (new e))
    → All (IsGranted old right) pieces → All (IsGranted new right) pieces
still_granted old new right pieces more =
    All-weaker (IsGranted old right) (IsGranted new right)
    (λ piece h. record {
      value = h.value;
      shown = ap (λ xs. slice_get xs piece.version) (more piece.entry).1 ∙ slice_more (old piece.entry) (more piece.entry).0 piece.version h.value h.shown;
      granted = h.granted;
      page = h.page;
    })
    pieces

-- a page has no fewer strokes
no_fewer : (old new : Option (List StrokeValue)) → Grows true old new → stroke_count old ≤ stroke_count new
no_fewer (Some old) (Some new) h = omega (arith, ap length h.1, length-append old h.0)
no_fewer (Some old) None h = absurd h
no_fewer None new h = omega arith

-- its first strokes left the bytes that they left
still_left : (at : ℕ) (old new : Option (List StrokeValue)) → Grows true old new → at ≤ stroke_count old → left_at new at ≡ left_at old at
still_left at (Some old) (Some new) h reached =
    ap (λ s. left_by (take at s)) h.1 ∙ ap left_by (take-append-le at old h.0 reached)
still_left at (Some old) None h reached = absurd h
still_left at None (Some new) h reached = absurd h
still_left at None None h reached = refl

still_read : (old new : ℕ → Option (List StrokeValue)) (pieces : List Piece) → ((p : ℕ) → Grows true (old p) (new p))
    → All (λ piece. piece.at ≤ stroke_count (old piece.page)) pieces
    → flat_map (read_bytes new) pieces ≡ flat_map (read_bytes old) pieces
still_read old new [] more reached = refl
still_read old new (piece ∷ pieces) more reached =
    let P : Piece → Type 0 = λ other. other.at ≤ stroke_count (old other.page) in
    ap₂ (λ left rest. take piece.len (drop piece.offset left) ++ rest)
    (still_left piece.at (old piece.page) (new piece.page) (more piece.page) (All-head P piece pieces reached))
    (still_read old new pieces more (All-tail P piece pieces reached))

-- a stroke that a piece names is there
is_named : (name : StrokeName) (piece : Piece) (found : Option StrokeValue) → IsNamed name piece found → (stroke : StrokeValue) × (found ≡ Some stroke)
is_named name piece (Some stroke) h = (stroke, refl)
is_named name piece None h = absurd h

-- and stays the one at its place
still_there : (name : StrokeName) (piece : Piece) (old new : Option (List StrokeValue)) → Grows true old new
    → IsNamed name piece (option_and_then (λ s. slice_get s piece.at) old)
    → option_and_then (λ s. slice_get s piece.at) new ≡ option_and_then (λ s. slice_get s piece.at) old
still_there name piece (Some old) (Some new) h named =
    let found = is_named name piece (slice_get old piece.at) named in
    ap (λ s. slice_get s piece.at) h.1 ∙ slice_more old h.0 piece.at found.0 found.1 ∙ sym found.1
still_there name piece (Some old) None h named = absurd h
still_there name piece None new h named = absurd named

still_written : (name : StrokeName) (old new : ℕ → Option (List StrokeValue)) (pieces : List Piece) → ((p : ℕ) → Grows true (old p) (new p))
    → All (λ piece. IsNamed name piece (stroke_of old piece)) pieces
    → flat_map (λ piece. bytes_of (stroke_of new piece)) pieces ≡ flat_map (λ piece. bytes_of (stroke_of old piece)) pieces
still_written name old new [] more named = refl
still_written name old new (piece ∷ pieces) more named =
    let P : Piece → Type 0 = λ other. IsNamed name other (stroke_of old other) in
    ap₂ (λ found rest. bytes_of found ++ rest)
    (still_there name piece (old piece.page) (new piece.page) (more piece.page) (All-head P piece pieces named))
    (still_written name old new pieces more (All-tail P piece pieces named))

-- what was read is read as the lists grow
pub read_stays : (unit : UnitId) (at : ℕ) (pieces : List Piece) (bytes : List ℕ) (values values' : ℕ → List ℕ) (strokes strokes' : ℕ → Option (List StrokeValue))
    → ((e : ℕ) → Begins (values e) (values' e)) → ((p : ℕ) → Grows true (strokes p) (strokes' p))
    → IsReadFrom unit values strokes at pieces bytes → IsReadFrom unit values' strokes' at pieces bytes
read_stays unit at pieces bytes values values' strokes strokes' put laid h = record {
  touched = h.touched;
  granted = still_granted values values' _ pieces put h.granted;
  reached = All-weaker (λ piece. piece.at ≤ stroke_count (strokes piece.page)) (λ piece. piece.at ≤ stroke_count (strokes' piece.page))
      (λ piece reached. omega (arith, reached, no_fewer (strokes piece.page) (strokes' piece.page) (laid piece.page))) pieces h.reached;
  join = still_read strokes strokes' pieces laid h.reached ∙ h.join;
}

-- and what was written is written
pub written_stays : (unit : UnitId) (at : ℕ) (name : StrokeName) (pieces : List Piece) (bytes : List ℕ) (values values' : ℕ → List ℕ) (strokes strokes' : ℕ → Option (List StrokeValue))
    → ((e : ℕ) → Begins (values e) (values' e)) → ((p : ℕ) → Grows true (strokes p) (strokes' p))
    → IsWrittenTo unit values strokes at name pieces bytes → IsWrittenTo unit values' strokes' at name pieces bytes
written_stays unit at name pieces bytes values values' strokes strokes' put laid h = record {
  touched = h.touched;
  granted = still_granted values values' _ pieces put h.granted;
  named = All-weaker (λ piece. IsNamed name piece (stroke_of strokes piece)) (λ piece. IsNamed name piece (stroke_of strokes' piece))
      (λ piece named. subst (IsNamed name piece) (sym (still_there name piece (strokes piece.page) (strokes' piece.page) (laid piece.page) named)) named) pieces h.named;
  apart = h.apart;
  join = still_written name strokes strokes' pieces laid h.named ∙ h.join;
}

-- A lawful copy stays lawful as the lists of values and of strokes grow on both sides.
pub lawful_stays : (copy : CopyRecord) (source source' : Side) (from : ℕ) (target target' : Side) (to : ℕ)
    → SideGrows source source' → SideGrows target target'
    → IsLawful copy source from target to → IsLawful copy source' from target' to
lawful_stays copy source source' from target target' to read written h = record {
  bytes = h.bytes;
  len = h.len;
  read = subst (λ unit. IsReadFrom unit source'.values source'.strokes from copy.from.items h.bytes) (sym read.unit)
      (read_stays source.unit from copy.from.items h.bytes source.values source'.values source.strokes source'.strokes read.values read.strokes h.read);
  written = subst (λ unit. IsWrittenTo unit target'.values target'.strokes to copy.name copy.to.items h.bytes) (sym written.unit)
      (written_stays target.unit to copy.name copy.to.items h.bytes target.values target'.values target.strokes target'.strokes written.values written.strokes h.written);
}

-- Nothing is later than it is, and what is later than what is later is later.
pub side_same : (known : Side) → SideGrows known known
side_same known = record {
  unit = refl;
  values = λ e. ([], sym (append-nil (known.values e)));
  strokes = λ p. same (known.strokes p);
}
  where
    same : (strokes : Option (List StrokeValue)) → Grows true strokes strokes
    same (Some strokes) = ([], sym (append-nil strokes))
    same None = tt

begins_on : {X : Type 0} (old mid new : List X) → Begins old mid → Begins mid new → Begins old new
begins_on old mid new first next =
    (first.0 ++ next.0, next.1 ∙ ap (λ front. front ++ next.0) first.1 ∙ append_assoc old first.0 next.0)

grows_on : (old mid new : Option (List StrokeValue)) → Grows true old mid → Grows true mid new → Grows true old new
grows_on (Some old) (Some mid) (Some new) first next = begins_on old mid new first next
grows_on (Some old) (Some mid) None first next = absurd next
grows_on (Some old) None new first next = absurd first
grows_on None (Some mid) new first next = absurd first
grows_on None None (Some new) first next = absurd next
grows_on None None None first next = tt

pub side_on : (old mid new : Side) → SideGrows old mid → SideGrows mid new → SideGrows old new
side_on old mid new first next = record {
  unit = next.unit ∙ first.unit;
  values = λ e. begins_on (old.values e) (mid.values e) (new.values e) (first.values e) (next.values e);
  strokes = λ p. grows_on (old.strokes p) (mid.strokes p) (new.strokes p) (first.strokes p) (next.strokes p);
}

-- What a port answers of its values and its strokes is so whether others have a hand in the window or not.
pub later_begins : {X : Type 0} (is_shared : Bool) (old new : List X) → Later is_shared old new → Begins old new
later_begins true old new h = h
later_begins false old new h = ([], h ∙ sym (append-nil old))

pub learns_grows : (is_shared : Bool) (old new : Option (List StrokeValue)) → Grows is_shared old new → Grows true old new
learns_grows is_shared (Some old) (Some new) h = later_begins is_shared old new h
learns_grows is_shared (Some old) None h = absurd h
learns_grows is_shared None (Some new) h = absurd h
learns_grows is_shared None None h = tt

-- What is as it was is later than it was.
pub same_later : {X : Type 0} (is_shared : Bool) (list : List X) → Later is_shared list list
same_later true list = ([], sym (append-nil list))
same_later false list = refl

pub same_grows : (is_shared : Bool) (strokes : Option (List StrokeValue)) → Grows is_shared strokes strokes
same_grows is_shared (Some strokes) = same_later is_shared strokes
same_grows is_shared None = tt
