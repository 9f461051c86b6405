-- A step on one entry keeps the rule: what it leaves of that entry, and what the seats know of it and of others.
use Rattle.std.proofs.Common.{◌≡◌, ◌≢◌, ℕ, ◌+◌, ◌<◌, ◌≤◌, List, length, get_or, set, sym, ap, ◌∙◌, subst, ⊎_elim, arith, length-set, get_or-set_same, get_or-set_other, slice_get}
use mathlib.Core.Logic.{dite}
use mathlib.Core.Option.{some}
use native.Mathlib.Decide.{ℕ_discrete}
use lib.ListN.{get_elem?}
use Rattle.atomic_table.specs.Table.{State}
use Rattle.atomic_table.proofs.Lists.{at_set}
use Rattle.tce_window.specs.Grant.{values_of}
use Rattle.entry_slots.specs.EntryRule.{pins_at, pins_on, Shows, KnowsEntries, InEntries, ArePages, HasSize}
use Rattle.tce_window.specs.declared.answers.TceRow.{TceRow}
use Rattle.entry_slots.specs.declared.view.EntryView.{EntryView}
use Rattle.entry_slots.proofs.EntryPins.{pins_set, pins_few, shares_set}

abbrev pub Table : Type 0
Table = State TceRow EntryView

-- one seat's view changes
pub seats_stay : (K : ℕ → EntryView → Type 0) (vs : List EntryView) (me : ℕ) (w : EntryView) → K me w → ((j : ℕ) (d : EntryView) → j ≢ me → get_elem? vs j ≡ some d → K j d)
    → (j : ℕ) (d : EntryView) → get_elem? (set vs me w) j ≡ some d → K j d
seats_stay K vs me w own others j d e = ⊎_elim (λ (t : (j ≡ me) × (w ≡ d)). subst (λ (x : ℕ × EntryView). K x.0 x.1) (λ i. (sym t.0 i, t.1 i)) own)
    (λ (t : (j ≢ me) × (get_elem? vs j ≡ some d)). others j d t.0 t.1) (at_set vs me j w d e)

-- a word shows the same where the entry has the same values and pins
pub shows_same : (rows rows' : List TceRow) (e pins pins' word : ℕ) → values_of rows' e ≡ values_of rows e → pins' ≡ pins → Shows rows e pins word → Shows rows' e pins' word
shows_same rows rows' e pins pins' word same more sh = let last = sh.current in subst (λ p. Shows rows' e p word) (sym more) record {
  version = sh.version;
  value = sh.value;
  current = record { shown = ap (λ l. slice_get l sh.version) same ∙ last.shown; last = ap length same ∙ last.last };
  small = sh.small;
  few = sh.few;
  word_is = sh.word_is;
}

module _ (n seats : ℕ) where
  -- all pins on an entry are at most the seats
  pub all_pins : (s : Table) (r : InEntries n seats s) (e : ℕ) → pins_on e s.views ≤ seats
  all_pins s r e = subst (λ m. pins_on e s.views ≤ m) r.shares (pins_few e s.views (λ j v at. (r.each_seat j v at).pins e))

  -- What a step of the seat id on the entry e leaves: the values put, the word z and the view w.
  pub record Moves (s : Table) (r : InEntries n seats s) (e id : ℕ) (v w : EntryView) (z : ℕ) (rows : List TceRow) : Type 0 where
    pub inside : e < n
    pub at : get_elem? s.views id ≡ some v
    pub share : w.share ≡ v.share
    pub size : w.entries ≡ v.entries
    pub pages : ArePages n rows
    pub other_pins : (i : ℕ) → i ≢ e → pins_at w i ≡ pins_at v i
    pub other_values : (i : ℕ) → i ≢ e → values_of rows i ≡ values_of r.rows i
    pub shows : Shows rows e (pins_on e (set s.views id w)) z
    pub own : KnowsEntries rows r.owner id w
    pub others : (j : ℕ) (d : EntryView) → j ≢ id → get_elem? s.views j ≡ some d → KnowsEntries rows r.owner j d

  here : (s : Table) (r : InEntries n seats s) (e z : ℕ) → e < n → get_or (set s.words e z) e 0 ≡ z
  here s r e z inside = get_or-set_same s.words e z 0 (subst (λ l. e < l) (sym r.words) inside)

  pub moved : (s : Table) (r : InEntries n seats s) (e id : ℕ) (v w : EntryView) (z : ℕ) (rows : List TceRow) → Moves s r e id v w z rows
      → InEntries n seats record { words = set s.words e z; homes = s.homes; views = set s.views id w }
  moved s r e id v w z rows m = let vs : List EntryView = set s.views id w in
      let same_sum : (i : ℕ) → i ≢ e → pins_on i vs ≡ pins_on i s.views = λ i o. let sum = pins_set i s.views id v w m.at in let same = m.other_pins i o in
      let a : ℕ = pins_on i vs in let b : ℕ = pins_on i s.views in let p : ℕ = pins_at v i in let q : ℕ = pins_at w i in let sum' : a + p ≡ b + q = sum in let same' : q ≡ p = same in let goal : a ≡ b = omega (arith, sum', same') in goal in record {
        rows = rows;
        owner = r.owner;
        words = length-set s.words e z ∙ r.words;
        few = r.few;
        shares = let sum = shares_set s.views id v w m.at in let same = m.share in let all = r.shares in omega (arith, sum, same, all);
        each_word = λ i l. dite (ℕ_discrete i e)
            (λ is. subst (λ y. Shows rows y (pins_on y vs) (get_or (set s.words e z) y 0)) (sym is) (subst (Shows rows e (pins_on e vs)) (sym (here s r e z m.inside)) m.shows))
            (λ o. subst (Shows rows i (pins_on i vs)) (sym (get_or-set_other s.words e i z 0 o)) (shows_same r.rows rows i (pins_on i s.views) (pins_on i vs) (get_or s.words i 0) (m.other_values i o) (same_sum i o) (r.each_word i l)));
        each_seat = seats_stay (KnowsEntries rows r.owner) s.views id w m.own m.others;
        pages = m.pages;
        sizes = seats_stay (λ _ d. HasSize n d) s.views id w (λ some_share. m.size ∙ r.sizes id v m.at (subst (λ k. 0 < k) m.share some_share)) (λ j d _ there. r.sizes j d there);
      }
