-- What is known of a page and of an entry after a range was held, and given back.
use Rattle.std.proofs.Common.{◌≡◌, ℕ, ◌+◌, ◌-◌, ◌≤◌, ◌==◌, ◌||◌, Bool, true, false, List, [], ◌∷◌, ◌++◌, Option, Some, None, IsSome, is_some, option_map, option_and_then, length, get_or, take, drop, flat_map, All, slice_get, cond, rules, refl, sym, ◌∙◌, ap, ap₂, subst, arith, append-nil, length-append}
use Rattle.std.proofs.lemmas.List.Elements.{All-head, All-tail, All-weaker}
use Rattle.vio_num.specs.declared.names.UnitId.{UnitId}
use Rattle.page_slots.specs.Stroke.{StrokeValue}
use Rattle.page_slots.specs.declared.stroke.StrokeName.{StrokeName}
use Rattle.tce_window.specs.declared.piece.Piece.{Piece}
use Rattle.tce_window.specs.Held.{either}
use Rattle.tce_window.specs.declared.answers.Right.TheVariants.{Write}
use Rattle.tce_window.specs.Pieces.{on_page, HasStrokes, IsGranted, Touches}
use Rattle.tce_window.specs.Port.{Grows, TakenOver}
use Rattle.page_slots.specs.Seats.{places_from}
use Rattle.tce_window.specs.Moved.{piece_strokes, strokes_on, places_on, stroke_count, numbered, stroke_of, IsNamed, bytes_of, IsLaid, IsWrittenTo}
use Rattle.std.proofs.lemmas.Bool.{eq-eqb, ne_eqb}
use Rattle.tce_window.proofs.Laws.{by_number, counted, kept_all, numbered_kept, numbered_behind, written_to}

-- a page that was held and given back with the strokes that it had
pub page_back : (is_shared : Bool) (old held mid new : Option (List StrokeValue)) → TakenOver is_shared old held mid → new ≡ either mid held → Grows is_shared old new
page_back is_shared old (Some held) mid new taken e = subst (Grows is_shared old) (sym (e ∙ ap (λ m. either m (Some held)) taken.1)) taken.0
page_back is_shared old None mid new taken e = subst (Grows is_shared old) (sym (e ∙ either-none mid)) taken
  where
    either-none : (m : Option (List StrokeValue)) → either m None ≡ m
    either-none (Some strokes) = refl
    either-none None = refl

-- it is then the page that was held
pub held_back : (is_shared : Bool) (old held mid other : Option (List StrokeValue)) → TakenOver is_shared old held mid → IsSome held → either mid other ≡ other
held_back is_shared old (Some held) mid other taken there = ap (λ m. either m other) taken.1
held_back is_shared old None mid other taken there = absurd (cc (there))

-- where no piece lies no stroke is laid
none_first : (here rest : Bool) (stroke : StrokeValue) (more : List StrokeValue) → (here || rest) ≡ false → (rest ≡ false → more ≡ []) → cond here (stroke ∷ more) more ≡ []
none_first true rest stroke more e none = absurd (cc (e))
none_first false rest stroke more e none = none e

pub none_laid : (p : ℕ) (pieces : List Piece) (strokes : List StrokeValue) → on_page pieces p ≡ false → strokes_on p pieces strokes ≡ []
none_laid p [] strokes e = refl
none_laid p (piece ∷ pieces) [] e = refl
none_laid p (piece ∷ pieces) (stroke ∷ strokes) e =
    none_first (piece.page == p) (on_page pieces p) stroke (strokes_on p pieces strokes) e (none_laid p pieces strokes)

-- pieces that were numbered write the strokes that they wrote before
pub numbered_strokes : (name : StrokeName) (bytes : List ℕ) (count : ℕ → ℕ) (pieces : List Piece) → piece_strokes name bytes (numbered count pieces) ≡ piece_strokes name bytes pieces
numbered_strokes name bytes count [] = refl
numbered_strokes name bytes count (piece ∷ pieces) =
    let stroke : StrokeValue = record { name = name; offset = piece.offset; bytes = take piece.len bytes } in
    ap (λ more. stroke ∷ more) (numbered_strokes name (drop piece.len bytes) (counted count piece) pieces)

pub numbered_on : (p : ℕ) (count : ℕ → ℕ) (pieces : List Piece) (strokes : List StrokeValue) → strokes_on p (numbered count pieces) strokes ≡ strokes_on p pieces strokes
numbered_on p count [] strokes = refl
numbered_on p count (piece ∷ pieces) [] = refl
numbered_on p count (piece ∷ pieces) (stroke ∷ strokes) =
    ap (λ more. cond (piece.page == p) (stroke ∷ more) more) (numbered_on p (counted count piece) pieces strokes)

-- what a page has once the strokes of a write were laid on it and it was given back
page_laid : (is_shared : Bool) (old held mid after new : Option (List StrokeValue)) (more : List StrokeValue) → TakenOver is_shared old held mid
    → (is_some held ≡ false → more ≡ []) → after ≡ option_map (λ s. s ++ more) held → new ≡ either mid after
    → new ≡ option_map (λ s. s ++ more) (either mid held)
page_laid is_shared old (Some held) mid after new more taken none laid e =
    e ∙ ap (either mid) laid ∙ ap (λ m. either m (Some (held ++ more))) taken.1
    ∙ sym (ap (λ m. option_map (λ s. s ++ more) (either m (Some held))) taken.1)
page_laid is_shared old None mid after new more taken none laid e = e ∙ ap (either mid) laid ∙ nothing mid (none refl)
  where
    nothing : (m : Option (List StrokeValue)) → more ≡ [] → either m None ≡ option_map (λ s. s ++ more) (either m None)
    nothing None nil = refl
    nothing (Some s) nil = ap Some (sym (ap (λ m. s ++ m) nil ∙ append-nil s))

-- a page of a piece that is read has strokes
has_some : (piece : Piece) (strokes : Option (List StrokeValue)) → HasStrokes piece strokes → IsSome strokes
has_some piece (Some strokes) h = search rules
has_some piece None h = absurd h

-- pieces of pages that are back as they were held have the strokes that they had
pub strokes_back : (pieces : List Piece) (held new : ℕ → Option (List StrokeValue)) → ((p : ℕ) → IsSome (held p) → new p ≡ held p)
    → All (λ piece. HasStrokes piece (held piece.page)) pieces → All (λ piece. HasStrokes piece (new piece.page)) pieces
strokes_back pieces held new same =
    All-weaker (λ piece. HasStrokes piece (held piece.page)) (λ piece. HasStrokes piece (new piece.page))
    (λ piece h. subst (HasStrokes piece) (sym (same piece.page (has_some piece (held piece.page) h))) h) pieces

-- a range that was taken, written through and given back, and what its pages were meanwhile
pub record Written (is_shared : Bool) (name : StrokeName) (bytes : List ℕ) (pieces : List Piece) (old held mid after new : ℕ → Option (List StrokeValue)) : Type 0 where
  pub taken : (p : ℕ) → TakenOver is_shared (old p) (held p) (mid p)
  pub on : (p : ℕ) → is_some (held p) ≡ on_page pieces p
  pub there : All (λ piece. HasStrokes piece (held piece.page)) pieces
  pub laid : (p : ℕ) → after p ≡ option_map (λ s. s ++ strokes_on p pieces (piece_strokes name bytes pieces)) (held p)
  pub back : (p : ℕ) → new p ≡ either (mid p) (after p)

-- the places behind what the pages had
abbrev pub behind : (ℕ → Option (List StrokeValue)) → List Piece → List Piece
behind held pieces = numbered (λ p. stroke_count (held p)) pieces

all_there : (pieces : List Piece) (held : ℕ → Option (List StrokeValue)) → All (λ piece. HasStrokes piece (held piece.page)) pieces → All (λ piece. IsSome (held piece.page)) pieces
all_there pieces held =
    All-weaker (λ piece. HasStrokes piece (held piece.page)) (λ piece. IsSome (held piece.page))
    (λ piece h. has_some piece (held piece.page) h) pieces

placed_there : (pieces : List Piece) (held : ℕ → Option (List StrokeValue)) → All (λ piece. HasStrokes piece (held piece.page)) pieces
    → All (λ piece. IsSome (held piece.page)) (behind held pieces)
placed_there pieces held there =
    kept_all (λ piece. IsSome (held piece.page)) (λ a b e h. subst (λ page. IsSome (held page)) (sym (ap (λ piece. piece.page) e)) h)
    (behind held pieces) pieces (numbered_kept (λ p. stroke_count (held p)) pieces) (all_there pieces held there)

-- each place is behind what its page had when the strokes were laid
placed_behind : (pieces : List Piece) (held before : ℕ → Option (List StrokeValue)) (p : ℕ) → All (λ piece. HasStrokes piece (held piece.page)) pieces
    → ((q : ℕ) → IsSome (held q) → before q ≡ held q)
    → All (λ piece. piece.page ≡ p → stroke_count (before p) ≤ piece.at) (behind held pieces)
placed_behind pieces held before p there same = λ k d less here.
    let placed : Piece = get_or (behind held pieces) k d in
    let at : stroke_count (held placed.page) ≤ placed.at = numbered_behind (λ q. stroke_count (held q)) pieces k d less in
    let some : IsSome (held placed.page) = placed_there pieces held there k d less in
    subst (λ q. stroke_count (before q) ≤ placed.at) here
    (subst (λ m. stroke_count m ≤ placed.at) (sym (same placed.page some)) at)

pub laid_on : (is_shared : Bool) (name : StrokeName) (bytes : List ℕ) (pieces : List Piece) (old held mid after new : ℕ → Option (List StrokeValue))
    → Written is_shared name bytes pieces old held mid after new
    → (p : ℕ) → IsLaid is_shared p (behind held pieces) (piece_strokes name bytes (behind held pieces)) (old p) (new p)
laid_on is_shared name bytes pieces old held mid after new h p =
    let count : ℕ → ℕ = λ q. stroke_count (held q) in
    let before : ℕ → Option (List StrokeValue) = λ q. either (mid q) (held q) in
    let strokes : List StrokeValue = piece_strokes name bytes pieces in
    let laid : new p ≡ option_map (λ s. s ++ strokes_on p pieces strokes) (before p) =
    page_laid is_shared (old p) (held p) (mid p) (after p) (new p) (strokes_on p pieces strokes) (h.taken p)
    (λ none. none_laid p pieces strokes (sym (h.on p) ∙ none)) (h.laid p) (h.back p) in
    let same : strokes_on p pieces strokes ≡ strokes_on p (behind held pieces) (piece_strokes name bytes (behind held pieces)) =
    sym (ap (strokes_on p (behind held pieces)) (numbered_strokes name bytes count pieces) ∙ numbered_on p count pieces strokes) in
    record {
      before = before p;
      grown = page_back is_shared (old p) (held p) (mid p) (before p) (h.taken p) refl;
      laid = laid ∙ ap (λ more. option_map (λ s. s ++ more) (before p)) same;
      behind = placed_behind pieces held before p h.there (λ q some. held_back is_shared (old q) (held q) (mid q) (held q) (h.taken q) some);
    }

-- what is written over pieces is told by the strokes of their own pages
same_join : (old new : ℕ → Option (List StrokeValue)) (pieces : List Piece) → All (λ piece. new piece.page ≡ old piece.page) pieces
    → flat_map (λ piece. bytes_of (stroke_of new piece)) pieces ≡ flat_map (λ piece. bytes_of (stroke_of old piece)) pieces
same_join old new [] same = refl
same_join old new (piece ∷ pieces) same =
    let P : Piece → Type 0 = λ other. new other.page ≡ old other.page in
    ap₂ (λ front rest. bytes_of (option_and_then (λ s. slice_get s piece.at) front) ++ rest) (All-head P piece pieces same)
    (same_join old new pieces (All-tail P piece pieces same))

pub same_written : (unit : UnitId) (values : ℕ → List ℕ) (old new : ℕ → Option (List StrokeValue)) (at : ℕ) (name : StrokeName) (pieces : List Piece) (bytes : List ℕ)
    → All (λ piece. new piece.page ≡ old piece.page) pieces
    → IsWrittenTo unit values old at name pieces bytes → IsWrittenTo unit values new at name pieces bytes
same_written unit values old new at name pieces bytes same h = record {
  touched = h.touched;
  granted = h.granted;
  named = λ k d less.
      let piece : Piece = get_or pieces k d in
      subst (λ s. IsNamed name piece (option_and_then (λ strokes. slice_get strokes piece.at) s)) (sym (same k d less)) (h.named k d less);
  apart = h.apart;
  join = same_join old new pieces same ∙ h.join;
}

pub written_back : (is_shared : Bool) (unit : UnitId) (values : ℕ → List ℕ) (at : ℕ) (name : StrokeName) (bytes : List ℕ) (pieces : List Piece) (old held mid after new : ℕ → Option (List StrokeValue))
    → Written is_shared name bytes pieces old held mid after new
    → Touches unit at (at + length bytes) pieces → All (IsGranted values Write) pieces
    → IsWrittenTo unit values new at name (behind held pieces) bytes
written_back is_shared unit values at name bytes pieces old held mid after new h touched granted =
    let same : All (λ piece. new piece.page ≡ after piece.page) (behind held pieces) = λ k d less.
    let q : ℕ = (get_or (behind held pieces) k d).page in
    h.back q ∙ held_back is_shared (old q) (held q) (mid q) (after q) (h.taken q) (placed_there pieces held h.there k d less) in
    same_written unit values after new at name (behind held pieces) bytes same
    (written_to unit values at name bytes pieces (behind held pieces) held after touched granted (all_there pieces held h.there) h.laid refl)

-- the places that pieces were given on page p are those behind what it had, one for each stroke laid there
pub places_numbered : (p : ℕ) (name : StrokeName) (bytes : List ℕ) (count : ℕ → ℕ) (pieces : List Piece)
    → places_on p (numbered count pieces) ≡ places_from (count p) (length (strokes_on p pieces (piece_strokes name bytes pieces)))
places_numbered p name bytes count [] = refl
places_numbered p name bytes count (piece ∷ pieces) =
    let rest = places_numbered p name (drop piece.len bytes) (counted count piece) pieces in
    by_number piece.page p
    (places_on p (numbered count (piece ∷ pieces)) ≡ places_from (count p) (length (strokes_on p (piece ∷ pieces) (piece_strokes name bytes (piece ∷ pieces)))))
    (λ same. rw (eq-eqb piece.page p same) (ap₂ (λ at more. at ∷ more) (ap count same) (rw (eq-eqb piece.page p same) at rest)))
    (λ other. rw (ne_eqb piece.page p other) (rw (ne_eqb piece.page p other) at rest))

-- the places behind what a page had as it was taken
since_laid : (held after : Option (List StrokeValue)) (taken : ℕ) (more : List StrokeValue)
    → (IsSome held → taken ≡ stroke_count held) → (is_some held ≡ false → more ≡ []) → after ≡ option_map (λ s. s ++ more) held
    → places_from taken (stroke_count after - taken) ≡ places_from (stroke_count held) (length more)
since_laid (Some s) after taken more counts none laid =
    let had : taken ≡ length s = counts (search rules) in
    let has : stroke_count after ≡ length s + length more = ap stroke_count laid ∙ length-append s more in
    ap₂ places_from had (omega (arith, had, has))
since_laid None after taken more counts none laid =
    let has : stroke_count after ≡ 0 = ap stroke_count laid in
    let left : stroke_count after - taken ≡ 0 = omega (arith, has) in
    ap (places_from taken) left ∙ sym (ap (λ list. places_from 0 (length list)) (none refl))

since_none : (held : Option (List StrokeValue)) (after : Option (List StrokeValue)) (taken : ℕ) → (IsSome held → taken ≡ stroke_count held) → after ≡ held
    → places_from taken (stroke_count after - taken) ≡ []
since_none (Some s) after taken counts same =
    let had : taken ≡ length s = counts (search rules) in
    let has : stroke_count after ≡ length s = ap stroke_count same in
    let left : stroke_count after - taken ≡ 0 = omega (arith, had, has) in
    ap (places_from taken) left
since_none None after taken counts same =
    let has : stroke_count after ≡ 0 = ap stroke_count same in
    let left : stroke_count after - taken ≡ 0 = omega (arith, has) in
    ap (places_from taken) left

-- a range that was taken and given back as it was: its port laid nothing
pub nothing_since : (p : ℕ) (held after : ℕ → Option (List StrokeValue)) (taken : ℕ → ℕ) (old mid new : List ℕ)
    → (IsSome (held p) → taken p ≡ stroke_count (held p)) → after p ≡ held p → mid ≡ old
    → new ≡ mid ++ places_from (taken p) (stroke_count (after p) - taken p) → new ≡ old
nothing_since p held after taken old mid new counts same first next =
    next ∙ ap (λ more. mid ++ more) (since_none (held p) (after p) (taken p) counts same) ∙ append-nil mid ∙ first

-- a range that was taken, written through and given back: its port laid the strokes of its pieces
pub places_laid : (is_shared : Bool) (name : StrokeName) (bytes : List ℕ) (pieces : List Piece) (old held mid after new : ℕ → Option (List StrokeValue))
    → Written is_shared name bytes pieces old held mid after new
    → (p : ℕ) (taken : ℕ → ℕ) (before between behind_ : List ℕ) → (IsSome (held p) → taken p ≡ stroke_count (held p)) → between ≡ before
    → behind_ ≡ between ++ places_from (taken p) (stroke_count (after p) - taken p) → behind_ ≡ before ++ places_on p (behind held pieces)
places_laid is_shared name bytes pieces old held mid after new h p taken before between behind_ counts first next =
    next
    ∙ ap₂ (λ front more. front ++ more) first
    (since_laid (held p) (after p) (taken p) (strokes_on p pieces (piece_strokes name bytes pieces)) counts
    (λ none. none_laid p pieces (piece_strokes name bytes pieces) (sym (h.on p) ∙ none)) (h.laid p)
    ∙ sym (places_numbered p name bytes (λ q. stroke_count (held q)) pieces))
