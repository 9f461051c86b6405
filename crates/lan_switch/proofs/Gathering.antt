-- What is read through held ranges, and how it stays read.
use Rattle.std.proofs.Common.{◌≡◌, ℕ, ◌+◌, ◌≤◌, Bool, true, false, List, [], ◌∷◌, ◌++◌, Option, Some, None, All, add-one, zero, suc, ◌<◌, drop, get_or, slice_get, take, length, length-append, append-nil, append_assoc, arith, refl, sym, ◌∙◌, ap, subst}
use Rattle.std.proofs.lemmas.List.Elements.{All-weaker}
use Rattle.page_slots.specs.Stroke.{StrokeValue}
use Rattle.tce_window.specs.declared.piece.Piece.{Piece}
use Rattle.tce_window.specs.Moved.{stroke_count, IsReadFrom}
use Rattle.tce_window.specs.declared.answers.HoldFault.{HoldFault}
use Rattle.tce_window.specs.declared.answers.Right.TheVariants.{Read}
use Rattle.tce_window.specs.Pieces.{HasStrokes, IsLast, IsRefused}
use Rattle.vio_num.specs.Words.{Begins}
use Rattle.tce_window.specs.Port.{Grows, Later, TakenOver}
use Rattle.tce_window.specs.PortState.{PortPlace, PortState}
use Rattle.rdma_copy.proofs.Laws.{later_begins, learns_grows, read_stays, same_grows, same_later}
use Rattle.lan_buffers.specs.Buffer.{buffer_address, buffer_len}
use Rattle.lan_switch.specs.Source.{AreRead, OnlyReadThrough, Reads, RefusesRead, parts_len}

begins_length : {X : Type 0} (front whole : List X) → Begins front whole → length front ≤ length whole
begins_length front whole (rest, is) = omega (arith, ap (λ l. length l) is, length-append front rest)

pub later_length : {X : Type 0} (is_shared : Bool) (old new : List X) → Later is_shared old new → length old ≤ length new
later_length is_shared old new later = begins_length old new (later_begins is_shared old new later)

grown_count : (is_shared : Bool) (old new : Option (List StrokeValue)) → Grows is_shared old new → stroke_count old ≤ stroke_count new
grown_count is_shared (Some old) (Some new) grown = later_length is_shared old new grown
grown_count is_shared (Some old) None grown = absurd grown
grown_count is_shared None new grown = omega arith

-- a piece of a held range names every stroke that was known of its page
pub all_known : (is_shared : Bool) (piece : Piece) (old held mid : Option (List StrokeValue)) → HasStrokes piece held → TakenOver is_shared old held mid
    → stroke_count old ≤ piece.at
all_known is_shared piece old (Some strokes) mid has taken = omega (arith, has, grown_count is_shared old (Some strokes) taken.0)
all_known is_shared piece old None mid has taken = absurd has

-- and no earlier value than the last one known
pub last_known : (is_shared : Bool) (piece : Piece) (old new : ℕ → List ℕ) → ((e : ℕ) → Later is_shared (old e) (new e)) → IsLast new piece
    → length (old piece.entry) ≤ piece.version + 1
last_known is_shared piece old new later last = omega (arith, last, later_length is_shared (old piece.entry) (new piece.entry) (later piece.entry))

-- what is later than what is later
later_on : {X : Type 0} (is_shared : Bool) (a b c : List X) → Later is_shared a b → Later is_shared b c → Later is_shared a c
later_on true a b c first next = (first.0 ++ next.0, next.1 ∙ ap (λ front. front ++ next.0) first.1 ∙ append_assoc a first.0 next.0)
later_on false a b c first next = next ∙ first

grows_on : (is_shared : Bool) (a b c : Option (List StrokeValue)) → Grows is_shared a b → Grows is_shared b c → Grows is_shared a c
grows_on is_shared (Some a) (Some b) (Some c) first next = later_on is_shared a b c first next
grows_on is_shared (Some a) (Some b) None first next = absurd next
grows_on is_shared (Some a) None c first next = absurd first
grows_on is_shared None (Some b) c first next = absurd first
grows_on is_shared None None (Some c) first next = absurd next
grows_on is_shared None None None first next = tt

pub through_on : (is_shared : Bool) (a b c : PortState) → OnlyReadThrough is_shared a b → OnlyReadThrough is_shared b c → OnlyReadThrough is_shared a c
through_on is_shared a b c first next = record {
  free = next.free;
  rest = record {
    place = next.rest.place ∙ first.rest.place;
    values = λ e. later_on is_shared (a.values e) (b.values e) (c.values e) (first.rest.values e) (next.rest.values e);
    in_use = omega (arith, first.rest.in_use, next.rest.in_use);
  };
  none = record {
    strokes = λ p. grows_on is_shared (a.strokes p) (b.strokes p) (c.strokes p) (first.none.strokes p) (next.none.strokes p);
    laid = λ shared p. next.none.laid shared p ∙ first.none.laid shared p;
  };
}

pub through_same : (is_shared : Bool) (a : PortState) → a.held_count ≡ 0 → OnlyReadThrough is_shared a a
through_same is_shared a free = record {
  free = free;
  rest = record { place = refl; values = λ e. same_later is_shared (a.values e); in_use = omega arith };
  none = record { strokes = λ p. same_grows is_shared (a.strokes p); laid = λ shared p. refl };
}

-- bytes that were read are read as the window is read through again
still_reads : (is_shared : Bool) (old mid new : PortState) (at : ℕ) (pieces : List Piece) (bytes : List ℕ) → OnlyReadThrough is_shared mid new
    → Reads old mid at pieces bytes → Reads old new at pieces bytes
still_reads is_shared old mid new at pieces bytes through h = record {
  read = read_stays old.place.unit at pieces bytes mid.values new.values mid.strokes new.strokes
      (λ e. later_begins is_shared (mid.values e) (new.values e) (through.rest.values e))
      (λ p. learns_grows is_shared (mid.strokes p) (new.strokes p) (through.none.strokes p)) h.read;
  all = h.all;
  last = h.last;
}

-- and what was read later was read since
pub reads_since : (is_shared : Bool) (old mid new : PortState) (at : ℕ) (pieces : List Piece) (bytes : List ℕ) → OnlyReadThrough is_shared old mid
    → Reads mid new at pieces bytes → Reads old new at pieces bytes
reads_since is_shared old mid new at pieces bytes through h = record {
  read = subst (λ (place : PortPlace). IsReadFrom place.unit new.values new.strokes at pieces bytes) through.rest.place h.read;
  all = All-weaker (λ piece. stroke_count (mid.strokes piece.page) ≤ piece.at) (λ piece. stroke_count (old.strokes piece.page) ≤ piece.at)
      (λ piece known. omega (arith, known, grown_count is_shared (old.strokes piece.page) (mid.strokes piece.page) (through.none.strokes piece.page))) pieces h.all;
  last = All-weaker (λ piece. length (mid.values piece.entry) ≤ piece.version + 1) (λ piece. length (old.values piece.entry) ≤ piece.version + 1)
      (λ piece known. omega (arith, known, later_length is_shared (old.values piece.entry) (mid.values piece.entry) (through.rest.values piece.entry))) pieces h.last;
}

pub still_read : (is_shared : Bool) (old mid new : PortState) (parts : List ℕ) (pieces : List Piece) (bytes : List ℕ) → OnlyReadThrough is_shared mid new
    → AreRead old mid parts pieces bytes → AreRead old new parts pieces bytes
still_read is_shared old mid new [] pieces bytes through h = h
still_read is_shared old mid new (part ∷ parts) pieces bytes through (ps, qs, is, bs, cs, js, long, here, later) = (
  ps,
  qs,
  is,
  bs,
  cs,
  js,
  long,
  still_reads is_shared old mid new (buffer_address part) ps bs through here,
  still_read is_shared old mid new parts qs cs through later,
)

-- one part more was read
pub read_next : (old new : PortState) (parts : List ℕ) (part : ℕ) (pieces more : List Piece) (bytes next : List ℕ) → AreRead old new parts pieces bytes
    → length next ≡ buffer_len part → Reads old new (buffer_address part) more next
    → AreRead old new (parts ++ part ∷ []) (pieces ++ more) (bytes ++ next)
read_next old new [] part pieces more bytes next h long reads = (
  more,
  [],
  ap (λ l. l ++ more) h.0 ∙ sym (append-nil more),
  next,
  [],
  ap (λ l. l ++ next) h.1 ∙ sym (append-nil next),
  long,
  reads,
  (refl, refl),
)
read_next old new (first ∷ parts) part pieces more bytes next (ps, qs, is, bs, cs, js, own, here, later) long reads = (
  ps,
  qs ++ more,
  ap (λ l. l ++ more) is ∙ append_assoc ps qs more,
  bs,
  cs ++ next,
  ap (λ l. l ++ next) js ∙ append_assoc bs cs next,
  own,
  here,
  read_next old new parts part qs more cs next later long reads,
)

-- the parts up to one more
take_suc : (xs : List ℕ) (i d : ℕ) → i < length xs → take (suc i) xs ≡ take i xs ++ get_or xs i d ∷ []
take_suc [] i d less = absurd (omega (arith, less))
take_suc (x ∷ xs) zero d less = refl
take_suc (x ∷ xs) (suc i) d less = ap (λ l. x ∷ l) (take_suc xs i d (omega (arith, less)))

pub take_next : (xs : List ℕ) (i d : ℕ) → i < length xs → take (i + 1) xs ≡ take i xs ++ get_or xs i d ∷ []
take_next xs i d less = rw add-one (take_suc xs i d less)

parts_suc : (xs : List ℕ) (i d : ℕ) → i < length xs → parts_len (drop i xs) ≡ buffer_len (get_or xs i d) + parts_len (drop (suc i) xs)
parts_suc [] i d less = absurd (omega (arith, less))
parts_suc (x ∷ xs) zero d less = refl
parts_suc (x ∷ xs) (suc i) d less = parts_suc xs i d (omega (arith, less))

pub parts_from : (xs : List ℕ) (i d : ℕ) → i < length xs → parts_len (drop i xs) ≡ buffer_len (get_or xs i d) + parts_len (drop (i + 1) xs)
parts_from xs i d less = rw add-one (parts_suc xs i d less)

pub gets : (xs : List ℕ) (i d : ℕ) → i < length xs → slice_get xs i ≡ Some (get_or xs i d)
gets [] i d less = absurd (omega (arith, less))
gets (x ∷ xs) zero d less = refl
gets (x ∷ xs) (suc i) d less = gets xs i d (omega (arith, less))

-- a range that was refused later was refused since
pub refused_since : (is_shared : Bool) (Found : ℕ → ℕ → Type 0) (old mid new : PortState) (at len : ℕ) (fault : HoldFault) → OnlyReadThrough is_shared old mid
    → RefusesRead is_shared Found mid new at len fault → RefusesRead is_shared Found old new at len fault
refused_since is_shared Found old mid new at len fault through h = record {
  some = h.some;
  cause = subst (λ (place : PortPlace). IsRefused new.values Read place.size at len fault) through.rest.place h.cause;
  shared = h.shared;
  found = h.found;
}
