-- What each kind of step on an entry's word tells the seat that makes it, from any state that meets the rule.
use Rattle.std.proofs.Common.{◌≡◌, ◌≢◌, ℕ, ◌+◌, ◌/◌, ◌%◌, ◌-◌, ◌<◌, ◌≤◌, true, IsTrue, List, [], ◌∷◌, ◌++◌, length, get_or, set, sym, refl, ap, ◌∙◌, subst, inl, inr, arith, ⊎_elim, eqb, eq-eqb, ne_eqb, append-nil, length-append, Some, slice_get}
use Rattle.std.specs.List.{All}
use Rattle.std.proofs.lemmas.List.Elements.{All-weaker, All-push}
use Rattle.std.proofs.lemmas.Option.{slice_get_read}
use Rattle.std.proofs.Math.Seq.{get_or-append_seam}
use mathlib.Core.List.{append_assoc}
use mathlib.Core.Logic.{dite}
use mathlib.Core.Option.{some, none}
use native.Mathlib.Decide.{ℕ_discrete}
use lib.ListN.{get_elem?}
use lib.Seq.{set-get_or}
use prog.Atomic.{either}
use Rattle.atomic_table.specs.Table.{step, keeps, Allows}
use Rattle.vio_num.specs.Words.{Begins}
use Rattle.tce_window.specs.Grant.{values_of, has_right, IsCurrent}
use Rattle.entry_slots.specs.Words.{code_of, entry_word, pins_in, code_in, version_in}
use Rattle.entry_slots.specs.EntryRule.{pins_at, pins_on, Shows, KnowsEntries, InEntries, ArePages, all_shares}
use Rattle.entry_slots.specs.EntrySteps.{reading, pinning, unpinning, putting, pinned, unpinned, exchanged, IsWordOf}
use Rattle.tce_window.specs.declared.answers.TceRow.{TceRow}
use Rattle.entry_slots.specs.declared.view.EntryView.{EntryView}
use Rattle.entry_slots.proofs.EntryPins.{pins_set, pins_few, shares_set, own_pins, pins_once, pins_tell, Continues, pinning_here, pinning_else, unpinning_here, unpinning_else}
use Rattle.entry_slots.proofs.EntryKeeps.{Table, seats_stay, all_pins, moved}
use Rattle.tce_window.proofs.Laws.{values_of-own, values_of-other}
use Rattle.entry_slots.proofs.EntryWords.{shown_pins, shown_code, shown_version, one_more, one_less}

pub begins_self : {A : Type 0} (xs : List A) → Begins xs xs
begins_self xs = ([], sym (append-nil xs))

pub begins_on : {A : Type 0} (xs ys zs : List A) → Begins xs ys → Begins ys zs → Begins xs zs
begins_on xs ys zs a b = (a.0 ++ b.0, b.1 ∙ (ap (λ l. l ++ b.0) a.1 ∙ append_assoc xs a.0 b.0))

-- what was told stays a front
more_told : (row : TceRow) (rows : List TceRow) (l : List (List TceRow)) → All (λ known. Begins known rows) l → All (λ known. Begins known (rows ++ row ∷ [])) l
more_told row rows l = All-weaker (λ known. Begins known rows) (λ known. Begins known (rows ++ row ∷ [])) (λ known b. begins_on known rows (rows ++ row ∷ []) b (row ∷ [], refl)) l

-- the last of a list that grew by one
pushed_is_last : (xs : List ℕ) (x n : ℕ) → length xs ≡ n → slice_get (xs ++ x ∷ []) n ≡ Some x
pushed_is_last xs x n e =
    subst (λ k. slice_get (xs ++ x ∷ []) k ≡ Some x) e
    (slice_get_read (xs ++ x ∷ []) (length (xs ++ x ∷ [])) (length xs) x refl (omega (arith, length-append xs (x ∷ []))) (sym (get_or-append_seam xs x [] x)))

-- what a word shows is so of all that know the same values of its entry
same_word : (rows rows' : List TceRow) (e word : ℕ) → values_of rows' e ≡ values_of rows e → IsWordOf rows e word → IsWordOf rows' e word
same_word rows rows' e word same is = record {
  value = is.value;
  current = record { shown = ap (λ l. slice_get l (version_in word)) same ∙ is.current.shown; last = ap length same ∙ is.current.last };
  code = is.code;
  few = is.few;
}

-- the rule's word of an entry is the word of its last value
word_shows : (rows : List TceRow) (e pins word : ℕ) → pins < 131072 → Shows rows e pins word → IsWordOf rows e word
word_shows rows e pins word few sh =
    let version_is : version_in word ≡ sh.version = ap version_in sh.word_is ∙ shown_version pins (code_of sh.value) sh.version few sh.small in record {
      value = sh.value;
      current = subst (λ x. IsCurrent (values_of rows) e x sh.value) (sym version_is) sh.current;
      code = ap code_in sh.word_is ∙ shown_code pins (code_of sh.value) sh.version few sh.small;
      few = subst (λ x. x < 2147483648) (sym version_is) sh.few;
    }

module _ (n seats id : ℕ) (v : EntryView) where
  -- all pins on an entry, after this seat's view is w
  later_pins : (s : Table) (r : InEntries n seats s) (w : EntryView) → get_elem? s.views id ≡ some v → w.share ≡ v.share → ((i : ℕ) → pins_at w i ≤ w.share) → (e : ℕ) → pins_on e (set s.views id w) ≤ seats
  later_pins s r w at same few e = let vs : List EntryView = set s.views id w in let each = seats_stay (λ _ d. pins_at d e ≤ d.share) s.views id w (few e) (λ j d _ there. (r.each_seat j d there).pins e) in
      let sum = shares_set s.views id v w at in let all = r.shares in let total : all_shares vs ≡ seats = omega (arith, sum, all, same) in subst (λ m. pins_on e vs ≤ m) total (pins_few e vs each)

  -- entry e is pinned
  module _ (e : ℕ) (inside : e < n) (shared : 0 < v.share) (on : Continues v e) where
    pub pins_it : (slots : ℕ) (out : List (ℕ × TceRow)) → Allows (InEntries n seats) slots id (v, out) e (λ x. (x + 1) % 18446744073709551616) (pinned (step slots e 1 0 none) (v, out))
    pins_it slots out s r _ at small = let word : ℕ = get_or s.words e 0 in let rows : List TceRow = r.rows in let w : EntryView = pinning v e word rows in let old = r.each_seat id v at in let sh = r.each_word e inside in
        let c : ℕ = code_of sh.value in let p : ℕ = pins_on e s.views in let vs : List EntryView = set s.views id w in
        let here = pinning_here v e word rows on in let sum = pins_set e s.views id v w at in
        let p' : ℕ = pins_on e vs in let a : ℕ = pins_at v e in let b : ℕ = pins_at w e in let a0 : a ≡ 0 = here.0 in let b1 : b ≡ 1 = here.1 in let sum' : p' + a ≡ p + b = sum in let more : p' ≡ p + 1 = omega (arith, sum', a0, b1) in
        let small_pins : (i : ℕ) → pins_at w i ≤ w.share = λ i. let once = pins_once w i in omega (arith, once, shared) in
        let own : KnowsEntries rows r.owner id w = record {
          owner_is = λ t. ((old.owner_is t).0, refl);
          known = begins_self rows;
          told = old.told;
          pins = small_pins;
          kept = λ i _. refl;
        } in
        let all : p' ≤ seats = later_pins s r w at refl small_pins e in
        let few' : p + 1 < 131072 = let few = r.few in omega (arith, few, all, more) in let few : p < 131072 = omega (arith, few') in
        let word_is : word ≡ entry_word p c sh.version = sh.word_is in
        let small' : entry_word p c sh.version < 18446744073709551616 = subst (λ x. x < 18446744073709551616) word_is small in
        let next : (word + 1) % 18446744073709551616 ≡ entry_word p' c sh.version = ap (λ x. (x + 1) % 18446744073709551616) word_is ∙ (one_more p c sh.version few few' small' ∙ ap (λ x. entry_word x c sh.version) (sym more)) in (
          w,
          keeps,
          tt,
          moved n seats s r e id v w ((word + 1) % 18446744073709551616) rows record {
            inside = inside;
            at = at;
            share = refl;
            size = refl;
            pages = r.pages;
            other_pins = pinning_else v e word rows on;
            other_values = λ i o. refl;
            shows = record { version = sh.version; value = sh.value; current = sh.current; small = sh.small; few = sh.few; word_is = next };
            own = own;
            others = λ j d _ there. r.each_seat j d there;
          },
          record {
            rows = rows;
            begins = old.known;
            same = old.kept;
            own = λ t. sym (old.owner_is t).1;
            shows = word_shows rows e p word few sh;
            pages = subst (λ k. ArePages k rows) (sym (r.sizes id v at shared)) r.pages;
            after = refl;
          },
        )

  -- the first entry that the seat holds is released
  module _ (inside : v.held_from < n) (some_held : 0 < v.held_count) where
    pub unpins_it : (slots : ℕ) (out : List (ℕ × TceRow))
        → Allows (InEntries n seats) slots id (v, out) v.held_from (λ x. (x + (18446744073709551616 - 1)) % 18446744073709551616) (unpinned (step slots v.held_from 1 0 none) (v, out))
    unpins_it slots out s r _ at small = let e : ℕ = v.held_from in let word : ℕ = get_or s.words e 0 in let rows : List TceRow = r.rows in let w : EntryView = unpinning v word in let old = r.each_seat id v at in let sh = r.each_word e inside in
        let c : ℕ = code_of sh.value in let p : ℕ = pins_on e s.views in let vs : List EntryView = set s.views id w in
        let here = unpinning_here v word some_held in let sum = pins_set e s.views id v w at in
        let p' : ℕ = pins_on e vs in let a : ℕ = pins_at v e in let b : ℕ = pins_at w e in let a1 : a ≡ 1 = here.0 in let b0 : b ≡ 0 = here.1 in let sum' : p' + a ≡ p + b = sum in let less : p ≡ p' + 1 = omega (arith, sum', a1, b0) in
        let all : p ≤ seats = all_pins n seats s r e in let few : p < 131072 = let few = r.few in omega (arith, few, all) in
        let word_is : word ≡ entry_word p c sh.version = sh.word_is in
        let small' : entry_word p c sh.version < 18446744073709551616 = subst (λ x. x < 18446744073709551616) word_is small in
        let next : (word + (18446744073709551616 - 1)) % 18446744073709551616 ≡ entry_word p' c sh.version = ap (λ x. (x + (18446744073709551616 - 1)) % 18446744073709551616) word_is ∙ one_less p c sh.version few p' less small' in
        let had : (i : ℕ) → pins_at w i ≡ 1 → pins_at v i ≡ 1 = λ i one. dite (ℕ_discrete i e)
        (λ is. let none : pins_at w i ≡ 0 = ap (pins_at w) is ∙ b0 in absurd (omega (arith, one, none)))
        (λ o. sym (unpinning_else v word some_held i o) ∙ one) in (
          w,
          keeps,
          tt,
          moved n seats s r e id v w ((word + (18446744073709551616 - 1)) % 18446744073709551616) rows record {
            inside = inside;
            at = at;
            share = refl;
            size = refl;
            pages = r.pages;
            other_pins = unpinning_else v word some_held;
            other_values = λ i o. refl;
            shows = record { version = sh.version; value = sh.value; current = sh.current; small = sh.small; few = sh.few; word_is = next };
            own = record {
              owner_is = old.owner_is;
              known = old.known;
              told = old.told;
              pins = λ i. let once = pins_once w i in let mine = old.pins e in let some_share : 0 < v.share = omega (arith, mine, a1) in omega (arith, once, some_share);
              kept = λ i one. old.kept i (had i one);
            };
            others = λ j d _ there. r.each_seat j d there;
          },
          record { shows = same_word rows v.rows e word (sym (old.kept e a1)) (word_shows rows e p word few sh); after = refl },
        )

  -- a value is to be put into entry e, in place of this value of this version, if it has no pins
  module _ (e version value : ℕ) (row : TceRow) (inside : e < n) (owner : v.owns ≡ true) (entry : row.entry ≡ e) (next : version + 1 ≡ row.version)
      (fits : code_of value < 1024) (code : code_of row.value < 1024) (room : version + 1 < 2147483648) (page : IsTrue (has_right row.value) → row.value / 4096 < n) where
    abbrev before : ℕ
    before = entry_word 0 (code_of value) version

    abbrev after : ℕ
    after = entry_word 0 (code_of row.value) (version + 1)

    module _ (s : Table) (r : InEntries n seats s) (at : get_elem? s.views id ≡ some v) where
      -- the pins on the entry are few
      pins_fit : pins_on e s.views < 131072
      pins_fit = let few = r.few in let all = all_pins n seats s r e in omega (arith, few, all)

      -- what the word shows, as the owner knows it
      shown : IsWordOf v.rows e (get_or s.words e 0)
      shown = let known = (r.each_seat id v at).owner_is owner in
          same_word r.rows v.rows e (get_or s.words e 0) (ap (λ rows. values_of rows e) known.1) (word_shows r.rows e (pins_on e s.views) (get_or s.words e 0) pins_fit (r.each_word e inside))

      -- the word that is replaced shows the version before, and no pin
      last_is : get_or s.words e 0 ≡ before → length (values_of v.rows e) ≡ version + 1
      last_is hit = shown.current.last ∙ ap (λ x. x + 1) (ap version_in hit ∙ shown_version 0 (code_of value) version (omega arith) fits)

      none_on : get_or s.words e 0 ≡ before → pins_on e s.views ≡ 0
      none_on hit = let sh = r.each_word e inside in
          sym (shown_pins (pins_on e s.views) (code_of sh.value) sh.version pins_fit) ∙ (ap pins_in (sym sh.word_is ∙ hit) ∙ shown_pins 0 (code_of value) version (omega arith))

      -- so this seat does not hold the entry
      not_mine : get_or s.words e 0 ≡ before → ¬ ((v.held_from ≤ e) × (e < v.held_from + v.held_count))
      not_mine hit mine = let p : ℕ = pins_on e s.views in let a : ℕ = pins_at v e in
          let none : p ≡ 0 = none_on hit in let own : a ≤ p = own_pins e s.views id v at in
          ⊎_elim (λ t. let one : a ≡ 1 = t.0 in omega (arith, none, own, one)) (λ t. let low = mine.0 in let high = mine.1 in ⊎_elim (λ b. omega (arith, low, b)) (λ b. omega (arith, high, b)) t.1) (pins_tell v e)

      -- the word has no pins: the value is put
      puts : get_or s.words e 0 ≡ before → InEntries n seats record { words = set s.words e after; homes = s.homes; views = set s.views id (putting v row) }
      puts hit = let w : EntryView = putting v row in let old = r.each_seat id v at in let known = old.owner_is owner in let rows' : List TceRow = r.rows ++ row ∷ [] in let p : ℕ = pins_on e s.views in let vs : List EntryView = set s.views id w in
          let now : length (values_of r.rows e) ≡ version + 1 = ap (λ rows. length (values_of rows e)) (sym known.1) ∙ last_is hit in
          let none : p ≡ 0 = none_on hit in
          let own_is : v.rows ++ row ∷ [] ≡ rows' = ap (λ l. l ++ row ∷ []) known.1 in
          let here : values_of rows' e ≡ values_of r.rows e ++ row.value ∷ [] = subst (λ i. values_of rows' i ≡ values_of r.rows i ++ row.value ∷ []) entry (values_of-own r.rows row) in
          let other : (i : ℕ) → i ≢ e → values_of rows' i ≡ values_of r.rows i = λ i o. values_of-other r.rows row i (λ is. o (sym is ∙ entry)) in
          let same : p ≡ pins_on e vs = let sum = pins_set e s.views id v w at in let a : ℕ = pins_at v e in let q : ℕ = pins_on e vs in let sum' : q + a ≡ p + a = sum in omega (arith, sum') in
          moved n seats s r e id v w after rows' record {
            inside = inside;
            at = at;
            share = refl;
            size = refl;
            pages = All-push (λ other. IsTrue (has_right other.value) → other.value / 4096 < n) r.rows row r.pages page;
            other_pins = λ i o. refl;
            other_values = other;
            shows = record {
              version = version + 1;
              value = row.value;
              current = record {
                shown = ap (λ l. slice_get l (version + 1)) here ∙ pushed_is_last (values_of r.rows e) row.value (version + 1) now;
                last = ap length here ∙ (length-append (values_of r.rows e) (row.value ∷ []) ∙ ap (λ x. x + 1) now);
              };
              small = code;
              few = room;
              word_is = ap (λ x. entry_word x (code_of row.value) (version + 1)) (sym none ∙ same);
            };
            own = record {
              owner_is = λ t. ((old.owner_is t).0, own_is);
              known = subst (λ l. Begins l rows') (sym own_is) (begins_self rows');
              told = more_told row r.rows v.told old.told;
              pins = old.pins;
              kept = λ i _. ap (λ l. values_of l i) (sym own_is);
            };
            others = λ j d o there. let k = r.each_seat j d there in record {
              owner_is = λ t. absurd (o ((k.owner_is t).0 ∙ sym known.0));
              known = begins_on d.rows r.rows rows' k.known (row ∷ [], refl);
              told = more_told row r.rows d.told k.told;
              pins = k.pins;
              kept = λ i one. other i (λ is. let mine = own_pins e s.views j d there in let one' : pins_at d e ≡ 1 = ap (pins_at d) (sym is) ∙ one in omega (arith, mine, one', none)) ∙ k.kept i one;
            };
          }

      -- the word is another: nothing changes but what the seat read
      reads : (word : ℕ) → InEntries n seats record { words = s.words; homes = s.homes; views = set s.views id (reading v word) }
      reads word = let w : EntryView = reading v word in let old = r.each_seat id v at in let p : ℕ = pins_on e s.views in let vs : List EntryView = set s.views id w in let sh = r.each_word e inside in
          let same : pins_on e vs ≡ p = let sum = pins_set e s.views id v w at in let a : ℕ = pins_at v e in let q : ℕ = pins_on e vs in let sum' : q + a ≡ p + a = sum in omega (arith, sum') in
          subst (λ ws. InEntries n seats record { words = ws; homes = s.homes; views = vs }) (set-get_or s.words e 0) (moved n seats s r e id v w (get_or s.words e 0) r.rows record {
            inside = inside;
            at = at;
            share = refl;
            size = refl;
            pages = r.pages;
            other_pins = λ i o. refl;
            other_values = λ i o. refl;
            shows = record { version = sh.version; value = sh.value; current = sh.current; small = sh.small; few = sh.few; word_is = sh.word_is ∙ ap (λ x. entry_word x (code_of sh.value) sh.version) (sym same) };
            own = record { owner_is = old.owner_is; known = old.known; told = old.told; pins = old.pins; kept = old.kept };
            others = λ j d _ there. r.each_seat j d there;
          })

    pub puts_it : (slots : ℕ) (out : List (ℕ × TceRow)) → Allows (InEntries n seats) slots id (v, out) e (λ x. either (eqb x before) after x) (exchanged (step slots e before after (some row)) (v, out))
    puts_it slots out s r _ at small = let word : ℕ = get_or s.words e 0 in dite (ℕ_discrete word before)
        (λ hit. (
          putting v row,
          keeps,
          tt,
          subst (λ b. InEntries n seats record { words = set s.words e (either b after word); homes = s.homes; views = set s.views id (putting v row) }) (sym (eq-eqb word before hit)) (puts s r at hit),
          inl (hit, (row, refl, record { version = sym next ∙ sym (last_is s r at hit); free = not_mine s r at hit; after = refl })),
        ))
        (λ miss. (
          reading v word,
          keeps,
          tt,
          subst (λ b. InEntries n seats record { words = set s.words e (either b after word); homes = s.homes; views = set s.views id (reading v word) }) (sym (ne_eqb word before miss))
              (subst (λ ws. InEntries n seats record { words = ws; homes = s.homes; views = set s.views id (reading v word) }) (sym (set-get_or s.words e 0)) (reads s r at word)),
          inr (miss, record { shows = shown s r at; after = refl }),
        ))
