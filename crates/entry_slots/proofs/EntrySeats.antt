-- How seats at entries part and join, how the rule begins, and what it says of the last seat.
use Rattle.std.proofs.Common.{◌≡◌, ◌≢◌, ℕ, zero, suc, ◌+◌, ◌*◌, ◌/◌, ◌%◌, ◌<◌, ◌≤◌, ◌⊎◌, Bool, true, true≢false, not, List, [], ◌∷◌, ◌++◌, length, get_or, set, sym, refl, ap, ◌∙◌, subst, inl, inr, ⊎_elim, arith, length-append, append_assoc, map, ne_eqb, if◌then◌else◌, slice_get}
use Rattle.std.specs.List.{All}
use Rattle.std.proofs.lemmas.List.Elements.{All-append, All-cons}
use mathlib.Core.Option.{some, some-injective, some-ne-none}
use Rattle.std.proofs.Math.Seq.{get_or-append_seam}
use Rattle.std.proofs.Math.ListN.{get_or-map}
use Rattle.std.proofs.lemmas.List.{length-map}
use lib.ListN.{get_elem?}
use Rattle.atomic_table.specs.Table.{Splits, Joins, opening}
use Rattle.atomic_table.proofs.Lists.{at_set, set_else}
use Rattle.vio_num.specs.Words.{Begins}
use Rattle.tce_window.specs.Grant.{has_right}
use Rattle.entry_slots.specs.EntryRule.{pins_at, pins_on, KnowsEntries, InEntries, HasSize, all_shares, opened}
use Rattle.entry_slots.specs.Words.{code_of, entry_word}
use Rattle.entry_slots.specs.EntryCuts.{remaining, another, with_seat, spent, AreFirst}
use Rattle.entry_slots.specs.Entries.{EntrySeatValue}
use Rattle.tce_window.specs.declared.answers.TceRow.{TceRow}
use Rattle.entry_slots.specs.declared.view.EntriesKey.{EntriesKey}
use Rattle.entry_slots.specs.declared.view.EntryView.{EntryView}
use Rattle.entry_slots.proofs.EntryPins.{pins_tell, pins_once, pins_set, shares_set}
use Rattle.entry_slots.proofs.EntryKeeps.{Table, seats_stay, shows_same}
use Rattle.entry_slots.proofs.EntryAllows.{begins_self}
use Rattle.tce_window.proofs.Laws.{values_of-none}

-- a list with one more at its end
at_snoc : {A : Type 0} (l : List A) (a b : A) (j : ℕ) → get_elem? (l ++ a ∷ []) j ≡ some b → (get_elem? l j ≡ some b) ⊎ ((j ≡ length l) × (a ≡ b))
at_snoc [] a b zero e = inr (refl, some-injective a b e)
at_snoc [] a b (suc j) e = absurd (some-ne-none b (sym e))
at_snoc (x ∷ xs) a b zero e = inl e
at_snoc (x ∷ xs) a b (suc j) e = ⊎_elim (λ t. inl t) (λ t. inr (ap suc t.0, t.1)) (at_snoc xs a b j e)

shares_snoc : (vs : List EntryView) (w : EntryView) → all_shares (vs ++ w ∷ []) ≡ all_shares vs + w.share
shares_snoc [] w = omega arith
shares_snoc (v ∷ vs) w = let more = shares_snoc vs w in omega (arith, more)

pins_snoc : (e : ℕ) (vs : List EntryView) (w : EntryView) → pins_on e (vs ++ w ∷ []) ≡ pins_on e vs + pins_at w e
pins_snoc e [] w = let a : ℕ = pins_at w e in let goal : a + 0 ≡ 0 + a = omega arith in goal
pins_snoc e (v ∷ vs) w = let a : ℕ = pins_at v e in let b : ℕ = pins_at w e in let m : ℕ = pins_on e (vs ++ w ∷ []) in let k : ℕ = pins_on e vs in
    let more : m ≡ k + b = pins_snoc e vs w in let goal : a + m ≡ (a + k) + b = omega (arith, more) in goal

-- a seat that holds nothing has no pins
pub no_pins : (v : EntryView) (e : ℕ) → v.held_count ≡ 0 → pins_at v e ≡ 0
no_pins v e none = ⊎_elim (λ t. let low = t.1.0 in let high = t.1.1 in absurd (omega (arith, low, high, none))) (λ t. t.0) (pins_tell v e)

one_zero : (x : ℕ) → x ≡ 1 → x ≡ 0 → ⊥
one_zero x a b = omega (arith, a, b)

-- one seat becomes two
apart_from : (L : ℕ → EntryView → Type 0) (vs : List EntryView) (id : ℕ) (left right : EntryView) → L id left → L (length (set vs id left)) right
    → ((j : ℕ) (v : EntryView) → j ≢ id → get_elem? vs j ≡ some v → L j v) → (j : ℕ) (v : EntryView) → get_elem? (set vs id left ++ right ∷ []) j ≡ some v → L j v
apart_from L vs id left right a b on j v e = ⊎_elim (λ t. seats_stay L vs id left a on j v t)
    (λ (t : (j ≡ length (set vs id left)) × (right ≡ v)). subst (λ (z : ℕ × EntryView). L z.0 z.1) (λ i. (sym t.0 i, t.1 i)) b) (at_snoc (set vs id left) right v j e)

-- two seats become one
made_one : (L : ℕ → EntryView → Type 0) (vs : List EntryView) (id other : ℕ) (both gone : EntryView) → L id both → L other gone
    → ((j : ℕ) (v : EntryView) → j ≢ id → j ≢ other → get_elem? vs j ≡ some v → L j v) → (j : ℕ) (v : EntryView) → get_elem? (set (set vs id both) other gone) j ≡ some v → L j v
made_one L vs id other both gone a b on = seats_stay L (set vs id both) other gone b
    (λ j d o at. ⊎_elim (λ (t : (j ≡ id) × (both ≡ d)). subst (λ (z : ℕ × EntryView). L z.0 z.1) (λ i. (sym t.0 i, t.1 i)) a) (λ (t : (j ≢ id) × (get_elem? vs j ≡ some d)). on j d t.0 o t.1) (at_set vs id j both d at))

was_there : (vs : List EntryView) (id other : ℕ) (both w : EntryView) → ¬ (other ≡ id) → get_elem? (set vs id both) other ≡ some w → get_elem? vs other ≡ some w
was_there vs id other both w not e = sym (set_else vs id other both not) ∙ e

module _ (n seats : ℕ) where
  -- a seat that stands for several parts from one of them
  pub parts : (id : ℕ) (v : EntryView) → 2 ≤ v.share → Splits (InEntries n seats) id v (remaining v) (another v)
  parts id v several s r at = let left : EntryView = remaining v in let right : EntryView = another v in let vs : List EntryView = set s.views id left in
      let old = r.each_seat id v at in let sum = shares_set s.views id v left at in let total = shares_snoc vs right in let all = r.shares in record {
        rows = r.rows;
        owner = r.owner;
        words = r.words;
        few = r.few;
        shares = omega (arith, sum, total, all, several);
        each_word = λ e l. shows_same r.rows r.rows e (pins_on e s.views) (pins_on e (vs ++ right ∷ [])) (get_or s.words e 0) refl
            (let one = pins_set e s.views id v left at in let a : ℕ = pins_at v e in let p : ℕ = pins_on e s.views in let q : ℕ = pins_on e vs in let one' : q + a ≡ p + a = one in
            let none : pins_at right e ≡ 0 = no_pins right e refl in let b : ℕ = pins_at right e in let m : ℕ = pins_on e (vs ++ right ∷ []) in let two : m ≡ q + b = pins_snoc e vs right in let none' : b ≡ 0 = none in
            let goal : m ≡ p = omega (arith, one', two, none') in goal)
            (r.each_word e l);
        each_seat = apart_from (KnowsEntries r.rows r.owner) s.views id left right
            (record { owner_is = old.owner_is; known = old.known; told = old.told; pins = λ e. let once = pins_once v e in omega (arith, once, several); kept = old.kept })
            (record {
              owner_is = λ t. absurd (true≢false (sym t));
              known = old.known;
              told = λ i d none. absurd (omega (arith, none));
              pins = λ e. let none = no_pins right e refl in omega (arith, none);
              kept = λ e one. absurd (one_zero (pins_at right e) one (no_pins right e refl));
            })
            (λ j d _ there. r.each_seat j d there);
        pages = r.pages;
        sizes = apart_from (λ _ d. HasSize n d) s.views id left right (λ _. r.sizes id v at (omega (arith, several))) (λ _. r.sizes id v at (omega (arith, several))) (λ j d _ there. r.sizes j d there);
      }

  -- a seat that holds nothing is joined to another
  pub joins : (id : ℕ) (v : EntryView) (other : ℕ) (w : EntryView) → w.held_count ≡ 0 → 0 < v.share → Joins (InEntries n seats) id v other w (with_seat v w) spent
  joins id v other w empty some_share s r at not there_now = let both : EntryView = with_seat v w in let ws : List EntryView = set s.views id both in let vs : List EntryView = set ws other spent in
      let there : get_elem? s.views other ≡ some w = was_there s.views id other both w not there_now in let old = r.each_seat id v at in let old' = r.each_seat other w there in
      let one = shares_set s.views id v both at in let two = shares_set ws other w spent there_now in let all = r.shares in record {
        rows = r.rows;
        owner = r.owner;
        words = r.words;
        few = r.few;
        shares = omega (arith, one, two, all);
        each_word = λ e l. shows_same r.rows r.rows e (pins_on e s.views) (pins_on e vs) (get_or s.words e 0) refl
            (let first = pins_set e s.views id v both at in let second = pins_set e ws other w spent there_now in let a : ℕ = pins_at v e in let b : ℕ = pins_at w e in let c : ℕ = pins_at spent e in
            let p : ℕ = pins_on e s.views in let q : ℕ = pins_on e ws in let m : ℕ = pins_on e vs in let first' : q + a ≡ p + a = first in let second' : m + b ≡ q + c = second in
            let none : b ≡ 0 = no_pins w e empty in let none' : c ≡ 0 = no_pins spent e refl in let goal : m ≡ p = omega (arith, first', second', none, none') in goal)
            (r.each_word e l);
        each_seat = made_one (KnowsEntries r.rows r.owner) s.views id other both spent
            (record {
              owner_is = old.owner_is;
              known = old.known;
              told = All-cons (λ known. Begins known r.rows) w.rows (w.told ++ v.told) old'.known (All-append (λ known. Begins known r.rows) w.told v.told old'.told old.told);
              pins = λ e. let mine = old.pins e in omega (arith, mine);
              kept = old.kept;
            })
            (record {
              owner_is = λ t. absurd (true≢false (sym t));
              known = (r.rows, refl);
              told = λ i d none. absurd (omega (arith, none));
              pins = λ e. let none = no_pins spent e refl in omega (arith, none);
              kept = λ e t. absurd (one_zero (pins_at spent e) t (no_pins spent e refl));
            })
            (λ j d _ _ was. r.each_seat j d was);
        pages = r.pages;
        sizes = made_one (λ _ d. HasSize n d) s.views id other both spent (λ _. r.sizes id v at some_share) (λ none. absurd (omega (arith, none))) (λ j d _ _ was. r.sizes j d was);
      }

  abbrev key : EntriesKey
  key = record { entries = n; seats = seats }

  first_seat : (j : ℕ) (v : EntryView) → get_elem? (opened key ∷ []) j ≡ some v → KnowsEntries [] 0 j v
  first_seat zero v e = subst (KnowsEntries [] 0 0) (some-injective (opened key) v e) record {
    owner_is = λ _. (refl, refl);
    known = begins_self [];
    told = λ i d none. absurd (omega (arith, none));
    pins = λ i. let none = no_pins (opened key) i refl in omega (arith, none);
    kept = λ i one. absurd (one_zero (pins_at (opened key) i) one (no_pins (opened key) i refl));
  }
  first_seat (suc j) v e = absurd (some-ne-none v (sym e))

  first_size : (j : ℕ) (v : EntryView) → get_elem? (opened key ∷ []) j ≡ some v → HasSize n v
  first_size zero v e = subst (HasSize n) (some-injective (opened key) v e) (λ _. refl)
  first_size (suc j) v e = absurd (some-ne-none v (sym e))

  right_there : (e : ℕ) → has_right (4096 * e + 3) ≡ true
  right_there e = ap not (ne_eqb ((4096 * e + 3) % 4) 0 (λ z. absurd (omega (arith, z))))

  code_is : (e : ℕ) → code_of (4096 * e + 3) ≡ 4 * e + 3
  code_is e = ap (λ (b : Bool). if b then (4096 * e + 3) / 4096 * 4 + (4096 * e + 3) % 4 else 0) (right_there e) ∙ omega arith

  -- the rule holds of entries as at the start and one seat
  pub opens : (words : List ℕ) → AreFirst n words → n ≤ 256 → seats < 131072 → InEntries n seats (opening words [] (opened key))
  opens words first most few = record {
    rows = [];
    owner = 0;
    words = first.count;
    few = few;
    shares = omega arith;
    each_word = λ e l. let none : pins_at (opened key) e ≡ 0 = no_pins (opened key) e refl in let a : ℕ = pins_at (opened key) e in let none' : a ≡ 0 = none in let sum : a + 0 ≡ 0 = omega (arith, none') in record {
      version = 0;
      value = 4096 * e + 3;
      current = record { shown = ap (λ (l : List ℕ). slice_get l 0) (values_of-none e); last = ap length (values_of-none e) };
      small = let is = code_is e in omega (arith, is, l, most);
      few = omega arith;
      word_is = first.each e l ∙ ap (λ x. entry_word x (code_of (4096 * e + 3)) 0) (sym sum);
    };
    each_seat = first_seat;
    pages = λ k d none. absurd (omega (arith, none));
    sizes = first_size;
  }

-- what the owner's seat knows in the end: all that any seat joined to it knew is a front of it
pub ends : (n seats id : ℕ) (v : EntryView) (s : Table) → InEntries n seats s → get_elem? s.views id ≡ some v → v.owns ≡ true → All (λ known. Begins known v.rows) v.told
ends n seats id v s r at owner = let known = r.each_seat id v at in subst (λ rows. All (λ known. Begins known rows) v.told) (sym (known.owner_is owner).1) known.told

-- what is so of all is so of the one that is taken off
module _ {A : Type 0} (P : A → Type 0) where
  all_at : (front : List A) (w : A) (back : List A) → All P (front ++ w ∷ back) → P w
  all_at front w back h = let long = length-append front (w ∷ back) in subst P (get_or-append_seam front w back w) (h (length front) w (omega (arith, long)))

  pub cut_off : (all items rest : List A) (w : A) (back : List A) → all ≡ items ++ back → items ≡ rest ++ w ∷ [] → all ≡ rest ++ w ∷ back
  cut_off all items rest w back e f = e ∙ (ap (λ l. l ++ back) f ∙ append_assoc rest (w ∷ []) back)

  pub member : (all items rest : List A) (w : A) (back : List A) → all ≡ items ++ back → items ≡ rest ++ w ∷ [] → All P all → P w
  member all items rest w back e f h = all_at rest w back (subst (All P) (cut_off all items rest w back e f) h)

-- what each guest knew, where all were joined to the owner's seat
pub all_fronts : (guests : List EntrySeatValue) (rows : List TceRow) → All (λ known. Begins known rows) (map (λ seat. seat.rows) guests) → All (λ seat. Begins seat.rows rows) guests
all_fronts guests rows h k d less = subst (λ known. Begins known rows) (get_or-map (λ (seat : EntrySeatValue). seat.rows) guests k d) (h k d.rows (subst (λ m. k < m) (sym (length-map guests (λ (seat : EntrySeatValue). seat.rows))) less))
