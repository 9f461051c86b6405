-- What each kind of step on a turn word tells the seat that makes it, from any state that meets the rule.
use Rattle.std.proofs.Common.{◌≡◌, ℕ, eq-eqb, ne_eqb, ◌+◌, ◌-◌, ◌<◌, Bool, true, false, true≢false, List, [], ◌∷◌, ◌++◌, length, get_or, set, sym, refl, ap, ◌∙◌, subst, inl, inr, ⊎_elim, arith, length-set, length-append, lt_of_not-le, set-set, get_or-set_same, get_or-set_other, bit_or, bit_and}
use Rattle.std.specs.Prelude.{Option, None, Some}
use Rattle.std.specs.List.{All}
use Rattle.std.proofs.lemmas.List.Elements.{All-weaker}
use mathlib.Core.Logic.{dite}
use mathlib.Core.Option.{some, none}
use native.Mathlib.Decide.{dec_le}
use lib.ListN.{get_elem?}
use lib.Seq.{set-get_or}
use Rattle.atomic_table.specs.Table.{step, keeps, takes, gives, chain, put_back, rest, Allows}
use Rattle.atomic_table.proofs.Lists.{set_again, set_here, set_else}
use Rattle.page_slots.specs.Page.{PageValue}
use Rattle.page_slots.specs.Stroke.{StrokeValue}
use Rattle.vio_num.specs.Words.{Begins}
use Rattle.page_slots.specs.Seats.{places_from}
use Rattle.page_slots.specs.PageRule.{PageNow, seen_of, held_of, laid_of, carries, laid_by, IsSeat, InTurn}
use Rattle.page_slots.specs.PageSteps.{out_with, reading, taking, giving, turned, reached, returned}
use Rattle.page_slots.specs.declared.view.PageView.{PageView}
use Rattle.page_slots.proofs.PageKeeps.{Table, begins_self, begins_on, there_inside, held_stays, SameAt, knows_same, moved}
use Rattle.page_slots.proofs.Places.{later, later_from, later_below, laid_more, laid_same}

-- the view of a seat with no slot out
abbrev pub bare : PageView → PageView
bare v = record v { carried = None }

abbrev slot_or : Option ℕ → ℕ
slot_or None = 0
slot_or (Some k) = k

pub some_none : (k : ℕ) → None ≡ Some k → ⊥
some_none k e = true≢false (sym (ap (λ c. carries c k) e ∙ eq-eqb k k refl))

not_true : (b : Bool) → (b ≡ true → ⊥) → b ≡ false
not_true true h = absurd (h refl)
not_true false h = refl

one_zero : (x : ℕ) → x ≡ 1 → x ≡ 0 → ⊥
one_zero x a b = omega (arith, a, b)

pub none_left : (c : Option ℕ) → rest (out_with c) ≡ []
none_left None = refl
none_left (Some k) = refl

all_same : (v w : PageView) → w.seen ≡ v.seen → w.told ≡ v.told → w.laid ≡ v.laid → w.held ≡ v.held → w.carried ≡ v.carried → w.share ≡ v.share → (i : ℕ) → SameAt v w i
all_same v w a b c d e f i = record { seen = ap (λ l. get_or l i []) a; told = b; laid = ap (λ l. get_or l i []) c; held = ap (λ l. get_or l i false) d; carried = λ h. ap (λ z. carries z i) (sym e) ∙ h; share = f }

module _ (n seats id : ℕ) (v : PageView) (shared : 0 < v.share) where
  -- the slot that is out goes home, empty as it is
  pub lays_down : (s : Table) (r : InTurn n seats s) → get_elem? s.views id ≡ some v → (c : Option ℕ) → v.carried ≡ c
      → InTurn n seats record { words = s.words; homes = put_back s.homes (out_with c); views = set s.views id (bare v) }
  lays_down s r at None e = let same : v ≡ bare v = λ i. record v { carried = e i } in
      subst (λ vs. InTurn n seats record { words = s.words; homes = s.homes; views = vs }) (sym (set_again s.views id (bare v) (at ∙ ap some same))) r
  lays_down s r at (Some c) e = let size = r.each_size id v at shared in let mine = size.carried c e in let k = r.each_seat id v at c mine.0 in let h = k.holds mine.1 in
      moved n seats s r c id v (bare v) s.words (set s.homes c (some None)) (r.now c) record {
        inside = mine.0;
        at = at;
        words = r.words;
        homes = length-set s.homes c (some None) ∙ r.homes;
        other_words = λ i o. refl;
        other_homes = λ i o. set_else s.homes c i (some None) o;
        stands = record { bit = (r.each_page c mine.0).bit; stands = λ z. absurd (one_zero (get_or s.words c 0) h.taken z) };
        share = refl;
        size = λ _. record { seen = size.seen; held = size.held; laid = size.laid; carried = λ k none. absurd (some_none k none) };
        holder = λ one. held_stays s.views id v (bare v) c at (λ t. t) (r.now c).holder (r.holders c mine.0 one);
        authors = r.authors c mine.0;
        own = record {
          seen = k.seen;
          told = k.told;
          laid = k.laid;
          holds = λ _. record {
            holder_is = h.holder_is;
            taken = h.taken;
            all_seen = h.all_seen;
            empty = λ _. set_here s.homes c (some None) (subst (λ y. c < y) (sym r.homes) mine.0);
            shared = shared;
          };
        };
        own_others = λ i o. record { seen = refl; told = refl; laid = refl; held = refl; carried = λ _. ap (λ z. carries z i) e ∙ ne_eqb c i (λ q. o (sym q)); share = refl };
        others = λ j d o q. record { seen = q.seen; told = q.told; laid = q.laid; holds = λ t. absurd (o (sym (q.holds t).holder_is ∙ h.holder_is)) };
      }

  -- the seat reads a word
  pub reads_word : (s : Table) (r : InTurn n seats s) (k word : ℕ) → k < n → get_elem? s.views id ≡ some v → InTurn n seats record { words = s.words; homes = s.homes; views = set s.views id (reading v word) }
  reads_word s r k word inside at = let same = all_same v (reading v word) refl refl refl refl refl refl in let size = r.each_size id v at in
      moved n seats s r k id v (reading v word) s.words s.homes (r.now k) record {
        inside = inside;
        at = at;
        words = r.words;
        homes = r.homes;
        other_words = λ i o. refl;
        other_homes = λ i o. refl;
        stands = r.each_page k inside;
        share = refl;
        size = λ some. let z = size some in record { seen = z.seen; held = z.held; laid = z.laid; carried = z.carried };
        holder = λ one. held_stays s.views id v (reading v word) k at (λ t. t) (r.now k).holder (r.holders k inside one);
        authors = r.authors k inside;
        own = knows_same id v (reading v word) k (get_or s.words k 0) (get_elem? s.homes k) (r.now k) (same k) (r.each_seat id v at k inside);
        own_others = λ i o. same i;
        others = λ j d o q. q;
      }

  -- a state in which the slot that was out is home
  module _ (s : Table) (r : InTurn n seats s) (at : get_elem? s.views id ≡ some (bare v)) (k : ℕ) (inside : k < n) where
    within : (l : ℕ) → l ≡ n → k < l
    within l e = subst (λ y. k < y) (sym e) inside

    -- the page, whose turn is free, goes into the hand of the seat
    takes_page : (p : PageValue) → get_or s.words k 0 ≡ 0 → p.strokes ≡ (r.now k).history
        → InTurn n seats record { words = set s.words k 1; homes = set s.homes k none; views = set s.views id (taking v k p.strokes) }
    takes_page p free same = let w : PageView = taking v k p.strokes in let old = r.each_seat id (bare v) at k inside in let size = r.each_size id (bare v) at shared in
        let here : get_or (set s.words k 1) k 0 ≡ 1 = get_or-set_same s.words k 1 0 (within (length s.words) r.words) in
        let sw : seen_of w k ≡ (r.now k).history = get_or-set_same v.seen k p.strokes [] (within (length v.seen) size.seen) ∙ same in
        moved n seats s r k id (bare v) w (set s.words k 1) (set s.homes k none) (record { history = (r.now k).history; holder = id; author = (r.now k).author }) record {
          inside = inside;
          at = at;
          words = length-set s.words k 1 ∙ r.words;
          homes = length-set s.homes k none ∙ r.homes;
          other_words = λ i o. get_or-set_other s.words k i 1 0 o;
          other_homes = λ i o. set_else s.homes k i none o;
          stands = record { bit = inr here; stands = λ z. absurd (one_zero (get_or (set s.words k 1) k 0) here z) };
          share = refl;
          size = λ _. record {
            seen = length-set v.seen k p.strokes ∙ size.seen;
            held = length-set v.held k true ∙ size.held;
            laid = size.laid;
            carried = λ c e. subst (λ y. (y < n) × (held_of w y ≡ true)) (ap slot_or e) (inside, get_or-set_same v.held k true false (within (length v.held) size.held));
          };
          holder = λ _. (w, set_here s.views id w (there_inside s.views id (bare v) at), get_or-set_same v.held k true false (within (length v.held) size.held));
          authors = r.authors k inside;
          own = record {
            seen = subst (λ l. Begins l (r.now k).history) (sym sw) (begins_self (r.now k).history);
            told = old.told;
            laid = old.laid;
            holds = λ _. record { holder_is = refl; taken = here; all_seen = sw; empty = λ e. absurd (true≢false (sym (eq-eqb k k refl) ∙ e)); shared = shared };
          };
          own_others = λ i o. record { seen = get_or-set_other v.seen k i p.strokes [] o; told = refl; laid = refl; held = get_or-set_other v.held k i true false o; carried = λ _. refl; share = refl };
          others = λ j d o q. record { seen = q.seen; told = q.told; laid = q.laid; holds = λ t. absurd (one_zero (get_or s.words k 0) (q.holds t).taken free) };
        }

    -- the empty slot of a page in hand goes out again
    reaches_slot : held_of v k ≡ true → InTurn n seats record { words = s.words; homes = set s.homes k none; views = set s.views id (record v { carried = Some k }) }
    reaches_slot holding = let w : PageView = record v { carried = Some k } in let old = r.each_seat id (bare v) at k inside in let size = r.each_size id (bare v) at shared in let h = old.holds holding in
        moved n seats s r k id (bare v) w s.words (set s.homes k none) (r.now k) record {
          inside = inside;
          at = at;
          words = r.words;
          homes = length-set s.homes k none ∙ r.homes;
          other_words = λ i o. refl;
          other_homes = λ i o. set_else s.homes k i none o;
          stands = record { bit = (r.each_page k inside).bit; stands = λ z. absurd (one_zero (get_or s.words k 0) h.taken z) };
          share = refl;
          size = λ _. record { seen = size.seen; held = size.held; laid = size.laid; carried = λ c e. subst (λ y. (y < n) × (held_of w y ≡ true)) (ap slot_or e) (inside, holding) };
          holder = λ one. held_stays s.views id (bare v) w k at (λ t. t) (r.now k).holder (r.holders k inside one);
          authors = r.authors k inside;
          own = record {
            seen = old.seen;
            told = old.told;
            laid = old.laid;
            holds = λ _. record { holder_is = h.holder_is; taken = h.taken; all_seen = h.all_seen; empty = λ e. absurd (true≢false (sym (eq-eqb k k refl) ∙ e)); shared = shared };
          };
          own_others = λ i o. record { seen = refl; told = refl; laid = refl; held = refl; carried = λ _. refl; share = refl };
          others = λ j d o q. record { seen = q.seen; told = q.told; laid = q.laid; holds = λ t. absurd (o (sym (q.holds t).holder_is ∙ h.holder_is)) };
        }

  -- the page in the slot that is out goes home, with more strokes, and its turn is free
  module _ (s : Table) (r : InTurn n seats s) (at : get_elem? s.views id ≡ some v) (k : ℕ) (inside : k < n) where
    at_home : (l : ℕ) → l ≡ n → k < l
    at_home l e = subst (λ y. k < y) (sym e) inside

    gives_page : (p : PageValue) → v.carried ≡ Some k → held_of v k ≡ true → Begins (seen_of v k) p.strokes
        → InTurn n seats record { words = set s.words k 0; homes = set s.homes k (some (Some p)); views = set s.views id (giving v k p.strokes) }
    gives_page p out holding more = let w : PageView = giving v k p.strokes in let xs : List StrokeValue = p.strokes in let old = r.each_seat id v at k inside in
        let size = r.each_size id v at shared in let h = old.holds holding in let was : PageNow = r.now k in let m : ℕ = length was.history in let front : ℕ = length (seen_of v k) in let d : ℕ = length xs - front in
        let front_is : front ≡ m = ap length h.all_seen in let counted : length xs ≡ front + length more.0 = ap length more.1 ∙ length-append (seen_of v k) more.0 in let long : length xs ≡ m + d = omega arith in
        let grows : Begins was.history xs = subst (λ l. Begins l xs) h.all_seen more in let author : ℕ → ℕ = later was.author m id in
        let here : get_or (set s.words k 0) k 0 ≡ 0 = get_or-set_same s.words k 0 0 (at_home (length s.words) r.words) in
        let slot : get_elem? (set s.homes k (some (Some p))) k ≡ some (some (Some p)) = set_here s.homes k (some (Some p)) (at_home (length s.homes) r.homes) in
        let sw : seen_of w k ≡ xs = get_or-set_same v.seen k xs [] (at_home (length v.seen) size.seen) in
        let hw : held_of w k ≡ false = get_or-set_same v.held k false false (at_home (length v.held) size.held) in
        let more_told : (l : List (List (List StrokeValue))) → All (λ seen. Begins (get_or seen k []) was.history) l → All (λ seen. Begins (get_or seen k []) xs) l
        = λ l. All-weaker (λ seen. Begins (get_or seen k []) was.history) (λ seen. Begins (get_or seen k []) xs) (λ seen b. begins_on (get_or seen k []) was.history xs b grows) l in
        moved n seats s r k id v w (set s.words k 0) (set s.homes k (some (Some p))) (record { history = xs; holder = was.holder; author = author }) record {
          inside = inside;
          at = at;
          words = length-set s.words k 0 ∙ r.words;
          homes = length-set s.homes k (some (Some p)) ∙ r.homes;
          other_words = λ i o. get_or-set_other s.words k i 0 0 o;
          other_homes = λ i o. set_else s.homes k i (some (Some p)) o;
          stands = record { bit = inl here; stands = λ _. (p, slot, refl) };
          share = refl;
          size = λ _. record {
            seen = length-set v.seen k xs ∙ size.seen;
            held = length-set v.held k false ∙ size.held;
            laid = length-set v.laid k (laid_of v k ++ places_from front d) ∙ size.laid;
            carried = λ c none. absurd (some_none c none);
          };
          holder = λ one. absurd (one_zero (get_or (set s.words k 0) k 0) one here);
          authors = λ i below. dite (dec_le m i)
              (λ le. subst (IsSeat s.views) (sym (later_from was.author m id i le)) (v, at, shared))
              (λ not. let less : i < m = lt_of_not-le not in subst (IsSeat s.views) (sym (later_below was.author m id i less)) (r.authors k inside i less));
          own = record {
            seen = subst (λ l. Begins l xs) (sym sw) (begins_self xs);
            told = more_told v.told old.told;
            laid = get_or-set_same v.laid k (laid_of v k ++ places_from front d) [] (at_home (length v.laid) size.laid)
                ∙ ((λ i. old.laid i ++ places_from (front_is i) d) ∙ (sym (laid_more id was.author m d) ∙ ap (λ l. laid_by id author 0 l) (sym long)));
            holds = λ t. absurd (true≢false (sym t ∙ hw));
          };
          own_others = λ i o. record {
            seen = get_or-set_other v.seen k i xs [] o;
            told = refl;
            laid = get_or-set_other v.laid k i (laid_of v k ++ places_from front d) [] o;
            held = get_or-set_other v.held k i false false o;
            carried = λ _. ap (λ z. carries z i) out ∙ ne_eqb k i (λ q. o (sym q));
            share = refl;
          };
          others = λ j b o q. record {
            seen = begins_on (seen_of b k) was.history xs q.seen grows;
            told = more_told b.told q.told;
            laid = q.laid ∙ (sym (laid_same id was.author m d j o) ∙ ap (λ l. laid_by j author 0 l) (sym long));
            holds = λ t. absurd (o (sym (q.holds t).holder_is ∙ h.holder_is));
          };
        }

  pub turns : (slots k : ℕ) → k < n → Allows (InTurn n seats) slots id (v, out_with v.carried) k (λ x. bit_or x 1) (turned (step slots k 1 0 none) (v, out_with v.carried))
  turns slots k inside s r _ at _ = ⊎_elim
      (λ (free : get_or s.words k 0 ≡ 0). let s1 : Table = record { words = s.words; homes = put_back s.homes (out_with v.carried); views = set s.views id (bare v) } in
      let r1 : InTurn n seats s1 = lays_down s r at v.carried refl in let at1 = set_here s.views id (bare v) (there_inside s.views id v at) in let old = r1.each_seat id (bare v) at1 k inside in
      let p = (r1.each_page k inside).stands free in let w : PageView = taking v k p.0.strokes in let kept = takes_page s1 r1 at1 k inside p.0 free p.2 in (
        w,
        chain gives (takes k (Some p.0)),
        (tt, p.1),
        subst (λ (q : ℕ × List PageView). InTurn n seats record { words = set s.words k (bit_or q.0 1); homes = set s1.homes k none; views = q.1 }) (λ i. (sym free i, set-set s.views id (bare v) w i)) kept,
        inr (
          free,
          record {
            page = p.0;
            begins = subst (Begins (seen_of v k)) (sym p.2) old.seen;
            none_held = not_true (held_of v k) (λ t. one_zero (get_or s.words k 0) (old.holds t).taken free);
            after = λ i. (w, (k, Some p.0) ∷ none_left v.carried i);
          },
        ),
      ))
      (λ (one : get_or s.words k 0 ≡ 1). let back : set s.words k 1 ≡ s.words = ap (set s.words k) (sym one) ∙ set-get_or s.words k 0 in (
        reading v 1,
        keeps,
        tt,
        subst (λ ws. InTurn n seats record { words = ws; homes = s.homes; views = set s.views id (reading v 1) }) (sym (ap (λ z. set s.words k (bit_or z 1)) one ∙ back)) (reads_word s r k 1 inside at),
        inl (one, refl),
      ))
      (r.each_page k inside).bit

  pub reaches : (slots k : ℕ) → k < n → held_of v k ≡ true → Allows (InTurn n seats) slots id (v, out_with v.carried) k (λ x. x) (reached (step slots k 0 0 none) (v, out_with v.carried))
  reaches slots k inside holding s r _ at _ = let s1 : Table = record { words = s.words; homes = put_back s.homes (out_with v.carried); views = set s.views id (bare v) } in
      let r1 : InTurn n seats s1 = lays_down s r at v.carried refl in let at1 = set_here s.views id (bare v) (there_inside s.views id v at) in
      let w : PageView = record v { carried = Some k } in (
        w,
        chain gives (takes k None),
        (tt, ((r1.each_seat id (bare v) at1 k inside).holds holding).empty refl),
        subst (λ (q : List ℕ × List PageView). InTurn n seats record { words = q.0; homes = set s1.homes k none; views = q.1 }) (λ i. (sym (set-get_or s.words k 0) i, set-set s.views id (bare v) w i))
            (reaches_slot s1 r1 at1 k inside holding),
        λ i. (w, (k, None) ∷ none_left v.carried i),
      )

  pub returns_turn : (slots k : ℕ) (p : PageValue) → k < n → v.carried ≡ Some k → held_of v k ≡ true → Begins (seen_of v k) p.strokes
      → Allows (InTurn n seats) slots id (v, (k, Some p) ∷ []) k (λ x. bit_and x 18446744073709551614) (returned (step slots k 18446744073709551614 0 none) (v, (k, Some p) ∷ []))
  returns_turn slots k p inside out holding more s r _ at _ = let one : get_or s.words k 0 ≡ 1 = ((r.each_seat id v at k inside).holds holding).taken in (
    giving v k p.strokes,
    gives,
    tt,
    subst (λ z. InTurn n seats record { words = set s.words k (bit_and z 18446744073709551614); homes = set s.homes k (some (Some p)); views = set s.views id (giving v k p.strokes) }) (sym one)
        (gives_page s r at k inside p out holding more),
    refl,
  )
