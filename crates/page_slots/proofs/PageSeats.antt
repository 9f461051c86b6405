-- How seats part and join, how the rule begins, and what it says of the last seat.
use Rattle.std.proofs.Common.{◌≡◌, ◌≢◌, ℕ, zero, suc, ◌+◌, ◌-◌, ◌<◌, ◌≤◌, ◌⊎◌, false, true≢false, List, [], ◌∷◌, ◌++◌, length, get_or, set, replicate, sym, refl, ap, ◌∙◌, subst, inl, inr, ⊎_elim, arith, length-set}
use Rattle.std.proofs.lemmas.List.{length-replicate}
use Rattle.std.proofs.lemmas.List.Elements.{All-append, All-cons}
use mathlib.Core.Logic.{dite}
use mathlib.Core.Option.{some, some-injective, some-ne-none}
use native.Mathlib.Decide.{ℕ_discrete}
use lib.ListN.{get_elem?}
use Rattle.atomic_table.specs.Table.{Splits, Joins}
use Rattle.atomic_table.proofs.Lists.{at_set, set_else, at_longer}
use Rattle.page_slots.specs.Stroke.{StrokeValue}
use Rattle.vio_num.specs.Words.{Begins}
use Rattle.page_slots.specs.Seats.{joined}
use Rattle.page_slots.specs.PageRule.{PageNow, held_of, KnowsPage, IsSized, IsSeat, IsHeld, all_shares, InTurn}
use Rattle.page_slots.specs.PageCuts.{remaining, another, joined_all, with_seat, spent}
use Rattle.page_slots.specs.declared.view.PageView.{PageView}
use Rattle.page_slots.proofs.PageAllows.{some_none}
use Rattle.page_slots.proofs.PageKeeps.{seats_stay, shares_set, there_inside, seat_stays, held_stays}
use Rattle.page_slots.proofs.Places.{renamed, renamed_same, renamed_other, laid_by-none, laid_joined, laid_renamed}

-- a list with one more at its end
at_snoc : {A : Type 0} (l : List A) (a b : A) (j : ℕ) → get_elem? (l ++ a ∷ []) j ≡ some b → (get_elem? l j ≡ some b) ⊎ ((j ≡ length l) × (a ≡ b))
at_snoc [] a b zero e = inr (refl, some-injective a b e)
at_snoc [] a b (suc j) e = absurd (some-ne-none b (sym e))
at_snoc (x ∷ xs) a b zero e = inl e
at_snoc (x ∷ xs) a b (suc j) e = ⊎_elim (λ t. inl t) (λ t. inr (ap suc t.0, t.1)) (at_snoc xs a b j e)

shares_snoc : (vs : List PageView) (w : PageView) → all_shares (vs ++ w ∷ []) ≡ all_shares vs + w.share
shares_snoc [] w = omega arith
shares_snoc (v ∷ vs) w = let more = shares_snoc vs w in omega (arith, more)

pub falses : (m k : ℕ) → get_or (replicate m false) k false ≡ false
falses zero k = refl
falses (suc m) zero = refl
falses (suc m) (suc k) = falses m k

pub nothings : {A : Type 0} (m k : ℕ) → get_or (replicate {A = List A} m []) k [] ≡ []
nothings zero k = refl
nothings (suc m) zero = refl
nothings (suc m) (suc k) = nothings m k

-- one seat becomes two
apart_from : (L : ℕ → PageView → Type 0) (vs : List PageView) (id : ℕ) (left right : PageView) → L id left → L (length (set vs id left)) right
    → ((j : ℕ) (v : PageView) → j ≢ id → get_elem? vs j ≡ some v → L j v) → (j : ℕ) (v : PageView) → get_elem? (set vs id left ++ right ∷ []) j ≡ some v → L j v
apart_from L vs id left right a b on j v e = ⊎_elim (λ t. seats_stay L vs id left a on j v t)
    (λ (t : (j ≡ length (set vs id left)) × (right ≡ v)). subst (λ (z : ℕ × PageView). L z.0 z.1) (λ i. (sym t.0 i, t.1 i)) b) (at_snoc (set vs id left) right v j e)

-- two seats become one
made_one : (L : ℕ → PageView → Type 0) (vs : List PageView) (id other : ℕ) (both gone : PageView) → L id both → L other gone
    → ((j : ℕ) (v : PageView) → j ≢ id → j ≢ other → get_elem? vs j ≡ some v → L j v) → (j : ℕ) (v : PageView) → get_elem? (set (set vs id both) other gone) j ≡ some v → L j v
made_one L vs id other both gone a b on = seats_stay L (set vs id both) other gone b
    (λ j d o at. ⊎_elim (λ (t : (j ≡ id) × (both ≡ d)). subst (λ (z : ℕ × PageView). L z.0 z.1) (λ i. (sym t.0 i, t.1 i)) a) (λ (t : (j ≢ id) × (get_elem? vs j ≡ some d)). on j d t.0 o t.1) (at_set vs id j both d at))

was_there : (vs : List PageView) (id other : ℕ) (both w : PageView) → ¬ (other ≡ id) → get_elem? (set vs id both) other ≡ some w → get_elem? vs other ≡ some w
was_there vs id other both w not e = sym (set_else vs id other both not) ∙ e

-- a page is not in the hand of a seat that holds none
not_held : (vs : List PageView) (other : ℕ) (w : PageView) (k j : ℕ) → get_elem? vs other ≡ some w → held_of w k ≡ false → IsHeld vs k j → j ≢ other
not_held vs other w k j there none h e = let w_is : w ≡ h.0 = some-injective w h.0 (sym there ∙ (ap (get_elem? vs) (sym e) ∙ h.1)) in true≢false (sym h.2 ∙ (ap (λ (z : PageView). held_of z k) (sym w_is) ∙ none))

pub length-joined_all : (l m : List (List ℕ)) → length l ≡ length m → length (joined_all l m) ≡ length m
length-joined_all [] m e = refl
length-joined_all (a ∷ l) [] e = e
length-joined_all (a ∷ l) (b ∷ m) e = ap suc (length-joined_all l m (omega (arith, e)))

pub joined_at : (l m : List (List ℕ)) (k : ℕ) → length l ≡ length m → get_or (joined_all l m) k [] ≡ joined (get_or l k []) (get_or m k [])
joined_at [] m k e = refl
joined_at (a ∷ l) [] k e = absurd (omega (arith, e))
joined_at (a ∷ l) (b ∷ m) zero e = refl
joined_at (a ∷ l) (b ∷ m) (suc k) e = joined_at l m k (omega (arith, e))

module _ (n seats : ℕ) where
  -- a seat that stands for several parts from one of them
  pub parts : (id : ℕ) (v : PageView) → 2 ≤ v.share → Splits (InTurn n seats) id v (remaining v) (another v)
  parts id v several s r at = let left : PageView = remaining v in let right : PageView = another v in let vs : List PageView = set s.views id left in
      let size = r.each_size id v at (omega (arith, several)) in let sum = shares_set s.views id v left at in let total = shares_snoc vs right in let all = r.shares in let some_left : 0 < v.share - 1 = omega (arith, several) in record {
        now = r.now;
        words = r.words;
        homes = r.homes;
        shares = omega arith;
        each_page = r.each_page;
        holders = λ k l one. let h = held_stays s.views id v left k at (λ t. t) (r.now k).holder (r.holders k l one) in (h.0, at_longer vs (right ∷ []) (r.now k).holder h.0 h.1, h.2);
        authors = λ k l i below. let h = seat_stays s.views id v left at (λ _. some_left) ((r.now k).author i) (r.authors k l i below) in (h.0, at_longer vs (right ∷ []) ((r.now k).author i) h.0 h.1, h.2);
        each_size = apart_from (λ _ d. 0 < d.share → IsSized n d) s.views id left right
            (λ _. record { seen = size.seen; held = size.held; laid = size.laid; carried = size.carried })
            (λ _. record { seen = size.seen; held = length-replicate (length v.held) false ∙ size.held; laid = length-replicate (length v.laid) [] ∙ size.laid; carried = λ k none. absurd (some_none k none) })
            (λ j d _ there. r.each_size j d there);
        each_seat = apart_from (λ j d. (k : ℕ) → k < n → KnowsPage j d k (get_or s.words k 0) (get_elem? s.homes k) (r.now k)) s.views id left right
            (λ k l. let old = r.each_seat id v at k l in record {
              seen = old.seen;
              told = old.told;
              laid = old.laid;
              holds = λ t. let h = old.holds t in record { holder_is = h.holder_is; taken = h.taken; all_seen = h.all_seen; empty = h.empty; shared = some_left };
            })
            (λ k l. let old = r.each_seat id v at k l in record {
              seen = old.seen;
              told = λ i d none. absurd (omega (arith, none));
              laid = nothings (length v.laid) k ∙ sym (laid_by-none (length vs) (r.now k).author 0 (length (r.now k).history)
                  (λ i _ below e. let is = r.authors k l i (omega (arith, below)) in let inside = there_inside s.views ((r.now k).author i) is.0 is.1 in let same = length-set s.views id left in absurd (omega (arith, e, inside, same))));
              holds = λ t. absurd (true≢false (sym t ∙ falses (length v.held) k));
            })
            (λ j d _ there. r.each_seat j d there);
      }

  -- a seat with an empty hand is joined to another
  module _ (id : ℕ) (v : PageView) (other : ℕ) (w : PageView) where
    -- what is so of a page then: what the other seat laid is said to be laid by this one
    abbrev under_one : PageNow → PageNow
    under_one page = record { history = page.history; holder = page.holder; author = renamed page.author id other }

    pub joins : 0 < v.share → 0 < w.share → ((k : ℕ) → k < n → held_of w k ≡ false) → Joins (InTurn n seats) id v other w (with_seat v w) spent
    joins some_v some_w empty s r at not there_now = let both : PageView = with_seat v w in let ws : List PageView = set s.views id both in let vs : List PageView = set ws other spent in
        let there : get_elem? s.views other ≡ some w = was_there s.views id other both w not there_now in let size = r.each_size id v at some_v in let size' = r.each_size other w there some_w in
        let one = shares_set s.views id v both at in let two = shares_set ws other w spent there_now in let all = r.shares in let long : length w.laid ≡ length v.laid = size'.laid ∙ sym size.laid in
        let seat_on : (j : ℕ) → j ≢ other → IsSeat s.views j → IsSeat vs j = λ j o is. let h = seat_stays s.views id v both at (λ _. omega (arith, some_v)) j is in (h.0, set_else ws other j spent o ∙ h.1, h.2) in
        let id_on : IsSeat vs id = seat_on id (λ e. not (sym e)) (v, at, some_v) in
        let K : ℕ → PageView → Type 0 = λ j d. (k : ℕ) → k < n → KnowsPage j d k (get_or s.words k 0) (get_elem? s.homes k) (under_one (r.now k)) in record {
          now = λ k. under_one (r.now k);
          words = r.words;
          homes = r.homes;
          shares = omega arith;
          each_page = λ k l. let p = r.each_page k l in record { bit = p.bit; stands = p.stands };
          holders = λ k l is_one. let old = r.holders k l is_one in let h = held_stays s.views id v both k at (λ t. t) (r.now k).holder old in
              (h.0, set_else ws other (r.now k).holder spent (not_held s.views other w k (r.now k).holder there (empty k l) old) ∙ h.1, h.2);
          authors = λ k l i below. let a : ℕ → ℕ = (r.now k).author in dite (ℕ_discrete (a i) other)
              (λ e. subst (IsSeat vs) (sym (renamed_same a id other i e)) id_on)
              (λ o. subst (IsSeat vs) (sym (renamed_other a id other i o)) (seat_on (a i) o (r.authors k l i below)));
          each_size = made_one (λ _ d. 0 < d.share → IsSized n d) s.views id other both spent
              (λ _. record { seen = size.seen; held = size.held; laid = length-joined_all w.laid v.laid long ∙ size.laid; carried = size.carried })
              (λ none. absurd (omega (arith, none)))
              (λ j d _ _ was. r.each_size j d was);
          each_seat = made_one K s.views id other both spent
              (λ k l. let old = r.each_seat id v at k l in let old' = r.each_seat other w there k l in let P : List (List StrokeValue) → Type 0 = λ seen. Begins (get_or seen k []) (r.now k).history in record {
                seen = old.seen;
                told = All-cons P w.seen (w.told ++ v.told) old'.seen (All-append P w.told v.told old'.told old.told);
                laid = joined_at w.laid v.laid k long ∙ ((λ i. joined (old'.laid i) (old.laid i)) ∙ laid_joined id other (r.now k).author 0 (length (r.now k).history) (λ e. not (sym e)));
                holds = λ t. let h = old.holds t in record { holder_is = h.holder_is; taken = h.taken; all_seen = h.all_seen; empty = h.empty; shared = omega (arith, some_v) };
              })
              (λ k l. record {
                seen = ((r.now k).history, refl);
                told = λ i d none. absurd (omega (arith, none));
                laid = sym (laid_by-none other (renamed (r.now k).author id other) 0 (length (r.now k).history) (λ i _ _ e. dite (ℕ_discrete ((r.now k).author i) other)
                    (λ is. not (sym e ∙ renamed_same (r.now k).author id other i is))
                    (λ o. o (sym (renamed_other (r.now k).author id other i o) ∙ e))));
                holds = λ t. absurd (true≢false (sym t));
              })
              (λ j d o o' was k l. let old = r.each_seat j d was k l in record {
                seen = old.seen;
                told = old.told;
                laid = old.laid ∙ sym (laid_renamed j id other (r.now k).author 0 (length (r.now k).history) o o');
                holds = λ t. let h = old.holds t in record { holder_is = h.holder_is; taken = h.taken; all_seen = h.all_seen; empty = h.empty; shared = h.shared };
              });
        }
