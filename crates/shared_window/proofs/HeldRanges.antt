-- A range that is held: what its holder knows of the window before and after.
use Rattle.std.proofs.Common.{◌≡◌, ℕ, suc, ◌+◌, ◌*◌, ◌/◌, ◌<◌, ◌≤◌, ◌==◌, ◌&&◌, ◌||◌, not, nat_le, nat_lt, if◌then◌else◌, Bool, true, false, true≢false, All, List, [], ◌∷◌, ◌++◌, map, filter, Option, Some, None, IsSome, is_some, length, get_or, refl, sym, ap, ◌∙◌, subst, ⊎_elim, arith}
use Rattle.std.specs.Borrow.{GName}
use Rattle.std.proofs.lemmas.Bool.Decides.{leb_tells}
use Rattle.std.proofs.lemmas.List.Elements.{All-map, filter-append}
use Rattle.std.proofs.lemmas.List.{length-map, map-append}
use Rattle.vio_num.specs.declared.names.UnitId.{UnitId}
use Rattle.vio_num.specs.Words.{Begins}
use Rattle.page_slots.specs.Page.{PageValue}
use Rattle.page_slots.specs.Stroke.{StrokeValue}
use Rattle.page_slots.specs.Seats.{PageSeatValue, saw, holds}
use Rattle.tce_window.specs.declared.answers.Right.{Right}
use Rattle.tce_window.specs.declared.answers.TceRow.{TceRow}
use Rattle.tce_window.specs.declared.held_pages.HeldPage.{HeldPage}
use Rattle.tce_window.specs.declared.piece.Piece.{Piece}
use Rattle.tce_window.specs.Grant.{values_of}
use Rattle.tce_window.specs.Held.{held_strokes}
use Rattle.tce_window.specs.Moved.{unplaced, stroke_count}
use Rattle.tce_window.specs.Pieces.{on_page, HasStrokes, Touches, LieFrom, IsUsable}
use Rattle.tce_window.specs.Port.{Grows, TakenOver}
use Rattle.tce_window.specs.PortState.{Holds, OnlyHolds}
use Rattle.tce_window.specs.Window.{strokes_at}
use Rattle.tce_window.proofs.Laws.{page_within, own_page, touched_len, kept_length, kept_len, kept_all, kept_touches, kept_granted, kept_last, touched_lie, touched_some}
use Rattle.shared_window.specs.Hand.{TakesPages, BeginsIn}
use Rattle.shared_window.specs.Pinning.{PinsRange}
use Rattle.shared_window.specs.Ranges.{HoldsRange}
use Rattle.shared_window.specs.SharedWindow.{SharedWindowValue, WindowSeatValue, strokes_known, taken_with, port_of, IsSeatAt, AreOut, IsOutWith}
use Rattle.shared_window.proofs.Taking.{begins_self, some_when}

-- pieces without their places lie where they lie
pub on_unplaced : (pieces : List Piece) (p : ℕ) → on_page (map unplaced pieces) p ≡ on_page pieces p
on_unplaced [] p = refl
on_unplaced (piece ∷ pieces) p = ap (λ b. piece.page == p || b) (on_unplaced pieces p)

pub on_same : (new old : List Piece) → map unplaced new ≡ map unplaced old → (p : ℕ) → on_page new p ≡ on_page old p
on_same new old same p = sym (on_unplaced new p) ∙ (ap (λ l. on_page l p) same ∙ on_unplaced old p)

pub lie_unplaced : (e : ℕ) (pieces : List Piece) → LieFrom e pieces → LieFrom e (map unplaced pieces)
lie_unplaced e [] h = h
lie_unplaced e (piece ∷ pieces) h = (h.0, lie_unplaced (e + 1) pieces h.1)

-- what is known of a page, by whether the seat holds it
module _ (n : ℕ) (seat : PageSeatValue) (p : ℕ) where
  inside_is : p < n → nat_lt p n ≡ true
  inside_is less = ⊎_elim (λ (t : (nat_le (suc p) n ≡ true) × (suc p ≤ n)). t.0) (λ (t : (nat_le (suc p) n ≡ false) × (n < suc p)). absurd (omega (arith, less, t.1))) (leb_tells (suc p) n)

  outside_is : n ≤ p → nat_lt p n ≡ false
  outside_is more = ⊎_elim (λ (t : (nat_le (suc p) n ≡ true) × (suc p ≤ n)). absurd (omega (arith, more, t.1))) (λ (t : (nat_le (suc p) n ≡ false) × (n < suc p)). t.0) (leb_tells (suc p) n)

  pub known_free : p < n → holds seat p ≡ false → strokes_known n seat p ≡ Some (saw seat p)
  known_free less free = ap (λ (b : Bool × Bool). if b.0 && not b.1 then Some (saw seat p) else None) (λ i. (inside_is less i, free i))

  and_no : (b : Bool) → (b && false) ≡ false
  and_no true = refl
  and_no false = refl

  pub known_held : holds seat p ≡ true → strokes_known n seat p ≡ None
  known_held held = ap (λ (b : Bool). if nat_lt p n && not b then Some (saw seat p) else None) held ∙ ap (λ (b : Bool). if b then Some (saw seat p) else None) (and_no (nat_lt p n))

  pub known_past : n ≤ p → strokes_known n seat p ≡ None
  known_past more = ap (λ (b : Bool). if b && not (holds seat p) then Some (saw seat p) else None) (outside_is more)

  pub taken_held : holds seat p ≡ true → taken_with seat p ≡ length (saw seat p)
  taken_held held = ap (λ (b : Bool). if b then length (saw seat p) else 0) held

  pub taken_free : holds seat p ≡ false → taken_with seat p ≡ 0
  taken_free free = ap (λ (b : Bool). if b then length (saw seat p) else 0) free

pub grows_none : (x y : Option (List StrokeValue)) → x ≡ None → y ≡ None → Grows true x y
grows_none x y a b = subst (λ (z : Option (List StrokeValue) × Option (List StrokeValue)). Grows true z.0 z.1) (λ i. (sym a i, sym b i)) tt

pub grows_some : (x y : Option (List StrokeValue)) (s t : List StrokeValue) → x ≡ Some s → y ≡ Some t → Begins s t → Grows true x y
grows_some x y s t a b h = subst (λ (z : Option (List StrokeValue) × Option (List StrokeValue)). Grows true z.0 z.1) (λ i. (sym a i, sym b i)) h

-- a seat that holds what it held, and saw more
pub knows_more : (n : ℕ) (old new : PageSeatValue) (p : ℕ) → holds new p ≡ holds old p → Begins (saw old p) (saw new p) → Grows true (strokes_known n old p) (strokes_known n new p)
knows_more n old new p same more = by_held (holds old p) refl
  where
    by_held : (b : Bool) → holds old p ≡ b → Grows true (strokes_known n old p) (strokes_known n new p)
    by_held true held = grows_none (strokes_known n old p) (strokes_known n new p) (known_held n old p held) (known_held n new p (same ∙ held))
    by_held false free = ⊎_elim
        (λ (t : (nat_le (suc p) n ≡ true) × (suc p ≤ n)). grows_some (strokes_known n old p) (strokes_known n new p) (saw old p) (saw new p) (known_free n old p (omega (arith, t.1)) free) (known_free n new p (omega (arith, t.1)) (same ∙ free)) more)
        (λ (t : (nat_le (suc p) n ≡ false) × (n < suc p)). grows_none (strokes_known n old p) (strokes_known n new p) (known_past n old p (omega (arith, t.1))) (known_past n new p (omega (arith, t.1))))
        (leb_tells (suc p) n)

-- a list of rows that goes on has the values that it had, and maybe more
pub values_more : (rows rest : List TceRow) (e : ℕ) → values_of (rows ++ rest) e ≡ values_of rows e ++ map (λ row. row.value) (filter (λ row. row.entry == e) rest)
unfolding values_of
values_more rows rest e = ap (λ l. (4096 * e + 3) ∷ map (λ (row : TceRow). row.value) l) (filter-append (λ (row : TceRow). row.entry == e) rows rest)
    ∙ ap (λ l. (4096 * e + 3) ∷ l) (map-append (λ (row : TceRow). row.value) (filter (λ (row : TceRow). row.entry == e) rows) (filter (λ (row : TceRow). row.entry == e) rest))

pub values_begin : (rows rows' : List TceRow) (e : ℕ) → Begins rows rows' → Begins (values_of rows e) (values_of rows' e)
values_begin rows rows' e (rest, is) = (map (λ row. row.value) (filter (λ row. row.entry == e) rest), ap (λ l. values_of l e) is ∙ values_more rows rest e)

-- what a hold leaves of a seat at a window
pub record Taken (w : SharedWindowValue) (old new : WindowSeatValue) (ioba len : ℕ) (right : Right) (pieces placed : List Piece) (region : List (Option PageValue)) (pages : List (Option HeldPage)) : Type 0 where
  pub at : IsSeatAt w old
  pub free : old.entries.held_count ≡ 0
  pub size : w.entries.count ≡ w.pages.count
  pub pin : PinsRange w.unit w.entries.count right ioba len old.entries pieces new.entries
  pub take : TakesPages w.pages old.pages (on_page pieces) new.pages region
  pub strokes : All (λ piece. HasStrokes piece (strokes_at region piece.page)) placed
  pub same : map unplaced placed ≡ map unplaced pieces
  pub held : (p : ℕ) → held_strokes pages p ≡ (if on_page placed p then strokes_at region p else None)
  pub left : (p : ℕ) → strokes_at new.region p ≡ (if on_page placed p then None else strokes_at region p)
  pub left_size : length new.region ≡ length region
  pub in_use : new.in_use ≡ old.in_use

-- the same of what calls tell of slices of these lists
pub taken_of : (w : SharedWindowValue) (old new : WindowSeatValue) (ioba len : ℕ) (right : Right) (pieces placed front back : List Piece) (region : List (Option PageValue)) (pages : List (Option HeldPage)) (w' : SharedWindowValue) (old' : WindowSeatValue)
    → w ≡ w' → old ≡ old' → front ≡ pieces → back ≡ placed → IsSeatAt w' old' → old'.entries.held_count ≡ 0 → w.entries.count ≡ w.pages.count
    → PinsRange w.unit w.entries.count right ioba len old.entries pieces new.entries → TakesPages w.pages old.pages (on_page front) new.pages region
    → All (λ piece. HasStrokes piece (strokes_at region piece.page)) placed → map unplaced placed ≡ map unplaced pieces
    → ((p : ℕ) → held_strokes pages p ≡ (if on_page back p then strokes_at region p else None)) → ((p : ℕ) → strokes_at new.region p ≡ (if on_page back p then None else strokes_at region p))
    → length new.region ≡ length region → new.in_use ≡ old.in_use → Taken w old new ioba len right pieces placed region pages
taken_of w old new ioba len right pieces placed front back region pages w' old' ws olds fronts backs at free size pin take strokes same held left left_size in_use = record {
  at = subst (λ (z : SharedWindowValue × WindowSeatValue). IsSeatAt z.0 z.1) (λ i. (sym ws i, sym olds i)) at;
  free = subst (λ (s : WindowSeatValue). s.entries.held_count ≡ 0) (sym olds) free;
  size = size;
  pin = pin;
  take = subst (λ l. TakesPages w.pages old.pages (on_page l) new.pages region) fronts take;
  strokes = strokes;
  same = same;
  held = λ p. held p ∙ ap (λ l. if on_page l p then strokes_at region p else None) backs;
  left = λ p. left p ∙ ap (λ l. if on_page l p then None else strokes_at region p) backs;
  left_size = left_size;
  in_use = in_use;
}

both_none : (b c : Bool) (s : List StrokeValue) (x : Option (List StrokeValue)) → c ≡ b → x ≡ (if b then Some s else None) → (if c then None else x) ≡ None
both_none b true s x e is = refl
both_none true false s x e is = absurd (true≢false (sym e))
both_none false false s x e is = is

both_some : (b c : Bool) (s : List StrokeValue) (x : Option (List StrokeValue)) → c ≡ b → x ≡ (if b then Some s else None) → (if c then x else None) ≡ (if b then Some s else None)
both_some true true s x e is = is
both_some b false s x e is = ap (λ (d : Bool). if d then Some s else None) e
both_some false true s x e is = absurd (true≢false e)

there_of : (piece : Piece) (strokes : Option (List StrokeValue)) → HasStrokes piece strokes → IsSome strokes
there_of piece (Some s) h = refl
there_of piece None h = absurd h

module _ (w : SharedWindowValue) (old new : WindowSeatValue) (ioba len : ℕ) (right : Right) (pieces placed : List Piece) (region : List (Option PageValue)) (pages : List (Option HeldPage)) (t : Taken w old new ioba len right pieces placed region pages) where
  none_held : (p : ℕ) → holds old.pages p ≡ false
  none_held = t.at.free t.free

  -- the pages in hand, by the pieces
  in_hand : (p : ℕ) → held_strokes pages p ≡ (if on_page pieces p then Some (saw new.pages p) else None)
  in_hand p = t.held p ∙ both_some (on_page pieces p) (on_page placed p) (saw new.pages p) (strokes_at region p) (on_same placed pieces t.same p) (t.take.here p)

  held_now : (p : ℕ) → holds new.pages p ≡ on_page pieces p
  held_now p = t.take.held p ∙ by (on_page pieces p) (holds old.pages p) (none_held p)
    where
      by : (b h : Bool) → h ≡ false → (if b then true else h) ≡ b
      by true h e = refl
      by false h e = e

  pages_on : (p : ℕ) → is_some (held_strokes pages p) ≡ on_page pieces p
  pages_on p = ap is_some (in_hand p) ∙ some_when (on_page pieces p) (saw new.pages p)

  pages_in : All (λ piece. piece.page < w.pages.count) pieces
  pages_in = subst (λ n. All (λ piece. piece.page < n) pieces) t.size t.pin.pages

  inside_hand : (p : ℕ) → on_page pieces p ≡ true → p < w.pages.count
  inside_hand p on = page_within w.pages.count pieces p pages_in on

  taken_over : (p : ℕ) → TakenOver true (strokes_known w.pages.count old.pages p) (held_strokes pages p) (strokes_known w.pages.count new.pages p)
  taken_over p = by_on (on_page pieces p) refl
    where
      over : (before held after : Option (List StrokeValue)) (s : List StrokeValue) → held ≡ Some s → Grows true before (Some s) → after ≡ None → TakenOver true before held after
      over before (Some h) after s is grown none = (subst (λ k. Grows true before k) (sym is) grown, none)
      over before None after s is grown none = absurd (true≢false (sym (ap is_some is)))

      under : (before held after : Option (List StrokeValue)) → held ≡ None → Grows true before after → TakenOver true before held after
      under before None after is grown = grown
      under before (Some h) after is grown = absurd (true≢false (ap is_some is))

      by_on : (b : Bool) → on_page pieces p ≡ b → TakenOver true (strokes_known w.pages.count old.pages p) (held_strokes pages p) (strokes_known w.pages.count new.pages p)
      by_on true on = over (strokes_known w.pages.count old.pages p) (held_strokes pages p) (strokes_known w.pages.count new.pages p) (saw new.pages p) (in_hand p ∙ ap (λ (b : Bool). if b then Some (saw new.pages p) else None) on)
          (grows_some (strokes_known w.pages.count old.pages p) (Some (saw new.pages p)) (saw old.pages p) (saw new.pages p) (known_free w.pages.count old.pages p (inside_hand p on) (none_held p)) refl (t.take.seen p))
          (known_held w.pages.count new.pages p (held_now p ∙ on))
      by_on false on = under (strokes_known w.pages.count old.pages p) (held_strokes pages p) (strokes_known w.pages.count new.pages p) (in_hand p ∙ ap (λ (b : Bool). if b then Some (saw new.pages p) else None) on)
          (knows_more w.pages.count old.pages new.pages p ((held_now p ∙ on) ∙ sym (none_held p)) (t.take.seen p))

  on_own : (k : ℕ) (d : Piece) → k < length placed → on_page placed (get_or placed k d).page ≡ true
  on_own k d less = own_page placed k d less

  pub to_holds : (ls : List GName) → Holds true (port_of ls w old) ioba len right (port_of ls w new) (record { right = right; pieces = placed; pages = pages })
  to_holds ls = let whole = touched_len w.unit ioba (ioba + len) pieces t.pin.touched in let long = kept_len placed pieces t.same in record {
    right_is = refl;
    touched = kept_touches w.unit ioba (ioba + len) placed pieces t.same t.pin.touched;
    bytes = omega (arith, whole, long);
    granted = kept_granted (values_of new.entries.rows) right placed pieces t.same t.pin.granted;
    last = kept_last (values_of new.entries.rows) placed pieces t.same t.pin.last;
    usable = subst (λ n. IsUsable (values_of new.entries.rows) right n ioba len) t.size t.pin.usable;
    strokes = λ k d less. subst (HasStrokes (get_or placed k d)) (sym (t.held (get_or placed k d).page ∙ ap (λ (b : Bool). if b then strokes_at region (get_or placed k d).page else None) (on_own k d less))) (t.strokes k d less);
    taken = taken_over;
    pages = λ p. pages_on p ∙ sym (on_same placed pieces t.same p);
    count = t.pin.pins.count_is ∙ sym (kept_length placed pieces t.same);
    from = t.pin.pins.from t.pin.some;
    inside = kept_all (λ piece. piece.page < w.pages.count) (λ a b e h. subst (λ p. p < w.pages.count) (sym (ap (λ q. q.page) e)) h) placed pieces t.same pages_in;
    counted = λ _ p there. by_on p (on_page pieces p) refl there;
  }
    where
      by_on : (p : ℕ) (b : Bool) → on_page pieces p ≡ b → IsSome (held_strokes pages p) → taken_with new.pages p ≡ stroke_count (held_strokes pages p)
      by_on p true on there = taken_held w.pages.count new.pages p (held_now p ∙ on) ∙ sym (ap stroke_count (in_hand p ∙ ap (λ (b : Bool). if b then Some (saw new.pages p) else None) on))
      by_on p false on there = absurd (true≢false (sym there ∙ (pages_on p ∙ on)))

  pub to_out : IsOutWith w new (record { right = right; pieces = placed; pages = pages })
  to_out = record {
    pieces = subst (AreOut w new) (sym t.same) record {
      lie = subst (λ e. LieFrom e (map unplaced pieces)) (sym (t.pin.pins.from t.pin.some)) (lie_unplaced (ioba / 4096) pieces (touched_lie w.unit ioba (ioba + len) pieces t.pin.touched));
      count = t.pin.pins.count_is ∙ sym (length-map pieces unplaced);
      on = λ p. held_now p ∙ sym (on_unplaced pieces p);
      inside = All-map (λ piece. piece.page < w.pages.count) unplaced pieces pages_in;
    };
    pages = λ p. pages_on p ∙ sym (held_now p);
    more = λ p. subst (BeginsIn (saw new.pages p)) (sym (in_hand p)) (begins_when (on_page pieces p) (saw new.pages p));
  }
    where
      begins_when : (b : Bool) (s : List StrokeValue) → BeginsIn s (if b then Some s else None)
      begins_when true s = begins_self s
      begins_when false s = tt

  pub to_at : IsSeatAt w new
  to_at = let inside = t.pin.inside in let count = t.pin.pins.count_is in let from = t.pin.pins.from t.pin.some in let size = t.size in let some = t.pin.some in record {
    pages = t.take.ours;
    entries = t.pin.pins.table ∙ t.at.entries;
    empty = record { size = t.left_size ∙ t.take.size; away = λ p. t.left p ∙ both_none (on_page pieces p) (on_page placed p) (saw new.pages p) (strokes_at region p) (on_same placed pieces t.same p) (t.take.here p) };
    inside = λ p held. inside_hand p (sym (held_now p) ∙ held);
    within = λ _. omega (arith, inside, count, from, size);
    free = λ none. absurd (omega (arith, none, count, some));
  }

  pub to_learned : (ls : List GName) → OnlyHolds true (port_of ls w old) (port_of ls w new)
  to_learned ls = record { place = refl; values = λ e. values_begin old.entries.rows new.entries.rows e t.pin.pins.known; in_use = let same = t.in_use in omega (arith, same) }

  pub to_range : HoldsRange w old ioba len right new (record { right = right; pieces = placed; pages = pages })
  to_range = record { holds = to_holds; out = to_out; laid = λ ls _ p. t.take.laid p; rest = to_learned; in_use = t.in_use }

-- each piece has a byte, and its page is in the region
pub some_bytes : (unit : UnitId) (from to : ℕ) (pieces placed : List Piece) → Touches unit from to pieces → map unplaced placed ≡ map unplaced pieces → All (λ piece. 1 ≤ piece.len) placed
some_bytes unit from to pieces placed touched same = kept_all (λ piece. 1 ≤ piece.len) (λ a b e h. subst (λ n. 1 ≤ n) (sym (ap (λ q. q.len) e)) h) placed pieces same (touched_some unit from to pieces touched)

pub pages_below : (n : ℕ) (pieces placed : List Piece) → map unplaced placed ≡ map unplaced pieces → All (λ piece. piece.page < n) pieces → All (λ piece. piece.page < n) placed
pages_below n pieces placed same = kept_all (λ piece. piece.page < n) (λ a b e h. subst (λ p. p < n) (sym (ap (λ q. q.page) e)) h) placed pieces same
