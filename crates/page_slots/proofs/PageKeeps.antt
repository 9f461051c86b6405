-- A step on one page keeps the rule: what it leaves of that page, and what the seats know of it and of others.
use Rattle.std.proofs.Common.{◌≡◌, ◌≢◌, ℕ, zero, suc, ◌+◌, ◌<◌, true, false, List, [], ◌∷◌, ◌++◌, length, get_or, set, sym, refl, ap, ◌∙◌, subst, ⊎_elim, arith}
use Rattle.std.specs.List.{All}
use mathlib.Core.List.{append-nil, append_assoc}
use mathlib.Core.Logic.{dite}
use mathlib.Core.Option.{some, some-injective, some-ne-none}
use mathlib.Core.Option as home
use native.Mathlib.Decide.{ℕ_discrete}
use lib.ListN.{get_elem?}
use Rattle.atomic_table.specs.Table.{State}
use Rattle.atomic_table.proofs.Lists.{at_set, set_here, set_else}
use Rattle.vio_num.specs.Words.{Begins}
use Rattle.page_slots.specs.PageRule.{Slot, PageNow, seen_of, held_of, laid_of, carries, Stands, KnowsPage, IsSized, IsSeat, IsHeld, all_shares, InTurn}
use Rattle.page_slots.specs.declared.view.PageView.{PageView}

abbrev pub Table : Type 0
Table = State Slot PageView

pub begins_self : {A : Type 0} (xs : List A) → Begins xs xs
begins_self xs = ([], sym (append-nil xs))

pub begins_on : {A : Type 0} (xs ys zs : List A) → Begins xs ys → Begins ys zs → Begins xs zs
begins_on xs ys zs a b = (a.0 ++ b.0, b.1 ∙ (ap (λ l. l ++ b.0) a.1 ∙ append_assoc xs a.0 b.0))

-- the function f, but x at k
abbrev pub but : {A : Type 0} → (ℕ → A) → ℕ → A → ℕ → A
but f k x i = elim (ℕ_discrete i k) [ yes _ ↦ x | no _ ↦ f i ]

pub but_same : {A : Type 0} (f : ℕ → A) (k : ℕ) (x : A) → but f k x k ≡ x
but_same f k x = elim (ℕ_discrete k k) as (λ d. elim d [ yes _ ↦ x | no _ ↦ f k ] ≡ x) [ yes _ ↦ refl | no d ↦ absurd (d refl) ]

pub but_other : {A : Type 0} (f : ℕ → A) (k i : ℕ) (x : A) → i ≢ k → but f k x i ≡ f i
but_other f k i x o = elim (ℕ_discrete i k) as (λ d. elim d [ yes _ ↦ x | no _ ↦ f i ] ≡ f i) [ yes e ↦ absurd (o e) | no _ ↦ refl ]

-- one seat's view changes
pub seats_stay : (K : ℕ → PageView → Type 0) (vs : List PageView) (me : ℕ) (w : PageView) → K me w → ((j : ℕ) (d : PageView) → j ≢ me → get_elem? vs j ≡ some d → K j d)
    → (j : ℕ) (d : PageView) → get_elem? (set vs me w) j ≡ some d → K j d
seats_stay K vs me w own others j d e = ⊎_elim (λ (t : (j ≡ me) × (w ≡ d)). subst (λ (x : ℕ × PageView). K x.0 x.1) (λ i. (sym t.0 i, t.1 i)) own)
    (λ (t : (j ≢ me) × (get_elem? vs j ≡ some d)). others j d t.0 t.1) (at_set vs me j w d e)

-- the sum of all shares after one view changes
pub shares_set : (vs : List PageView) (i : ℕ) (v w : PageView) → get_elem? vs i ≡ some v → all_shares (set vs i w) + v.share ≡ all_shares vs + w.share
shares_set [] i v w e = absurd (some-ne-none v (sym e))
shares_set (x ∷ xs) zero v w e = let is : x.share ≡ v.share = ap (λ (z : PageView). z.share) (some-injective x v e) in omega arith
shares_set (x ∷ xs) (suc i) v w e = let more = shares_set xs i v w e in omega arith

pub there_inside : (vs : List PageView) (i : ℕ) (v : PageView) → get_elem? vs i ≡ some v → i < length vs
there_inside [] i v e = absurd (some-ne-none v (sym e))
there_inside (x ∷ xs) zero v e = omega arith
there_inside (x ∷ xs) (suc i) v e = let more = there_inside xs i v e in omega arith

-- a seat stays one where the view of one changes that stands for some seat before and after
pub seat_stays : (vs : List PageView) (id : ℕ) (v w : PageView) → get_elem? vs id ≡ some v → (0 < v.share → 0 < w.share) → (j : ℕ) → IsSeat vs j → IsSeat (set vs id w) j
seat_stays vs id v w at same j is = dite (ℕ_discrete j id)
    (λ e. let v_is : v ≡ is.0 = some-injective v is.0 (sym at ∙ (ap (get_elem? vs) (sym e) ∙ is.1)) in
    (w, ap (get_elem? (set vs id w)) e ∙ set_here vs id w (there_inside vs id v at), same (subst (λ n. 0 < n) (sym (ap (λ (z : PageView). z.share) v_is)) is.2)))
    (λ o. (is.0, set_else vs id j w o ∙ is.1, is.2))

-- a page stays in its hand where the view of one seat changes that holds it after where it did before
pub held_stays : (vs : List PageView) (id : ℕ) (v w : PageView) (k : ℕ) → get_elem? vs id ≡ some v → (held_of v k ≡ true → held_of w k ≡ true) → (j : ℕ) → IsHeld vs k j → IsHeld (set vs id w) k j
held_stays vs id v w k at same j is = dite (ℕ_discrete j id)
    (λ e. let v_is : v ≡ is.0 = some-injective v is.0 (sym at ∙ (ap (get_elem? vs) (sym e) ∙ is.1)) in
    (w, ap (get_elem? (set vs id w)) e ∙ set_here vs id w (there_inside vs id v at), same (ap (λ (z : PageView). held_of z k) v_is ∙ is.2)))
    (λ o. (is.0, set_else vs id j w o ∙ is.1, is.2))

-- The view w says of the page i what v says, and carries the page's slot where v does, or does not.
pub record SameAt (v w : PageView) (i : ℕ) : Type 0 where
  pub seen : seen_of w i ≡ seen_of v i
  pub told : w.told ≡ v.told
  pub laid : laid_of w i ≡ laid_of v i
  pub held : held_of w i ≡ held_of v i
  pub carried : carries w.carried i ≡ false → carries v.carried i ≡ false
  pub share : w.share ≡ v.share

pub knows_same : (j : ℕ) (v w : PageView) (i word : ℕ) (h : home.Option (home.Option Slot)) (p : PageNow) → SameAt v w i → KnowsPage j v i word h p → KnowsPage j w i word h p
knows_same j v w i word h p e k = record {
  seen = subst (λ l. Begins l p.history) (sym e.seen) k.seen;
  told = subst (λ l. All (λ seen. Begins (get_or seen i []) p.history) l) (sym e.told) k.told;
  laid = e.laid ∙ k.laid;
  holds = λ t. let u = k.holds (sym e.held ∙ t) in record {
    holder_is = u.holder_is;
    taken = u.taken;
    all_seen = e.seen ∙ u.all_seen;
    empty = λ c. u.empty (e.carried c);
    shared = subst (λ n. 0 < n) (sym e.share) u.shared;
  };
}

module _ (n seats : ℕ) where
  -- What a step of the seat id on the page k leaves: the words ws, the slots hs, the page p and the view w.
  pub record Moves (s : Table) (r : InTurn n seats s) (k id : ℕ) (v w : PageView) (ws : List ℕ) (hs : List (home.Option Slot)) (p : PageNow) : Type 0 where
    pub inside : k < n
    pub at : get_elem? s.views id ≡ some v
    pub words : length ws ≡ n
    pub homes : length hs ≡ n
    pub other_words : (i : ℕ) → i ≢ k → get_or ws i 0 ≡ get_or s.words i 0
    pub other_homes : (i : ℕ) → i ≢ k → get_elem? hs i ≡ get_elem? s.homes i
    pub stands : Stands (get_or ws k 0) (get_elem? hs k) p
    pub share : w.share ≡ v.share
    pub size : 0 < v.share → IsSized n w
    pub authors : (i : ℕ) → i < length p.history → IsSeat s.views (p.author i)
    pub holder : get_or ws k 0 ≡ 1 → IsHeld (set s.views id w) k p.holder
    pub own : KnowsPage id w k (get_or ws k 0) (get_elem? hs k) p
    pub own_others : (i : ℕ) → i ≢ k → SameAt v w i
    pub others : (j : ℕ) (d : PageView) → j ≢ id → KnowsPage j d k (get_or s.words k 0) (get_elem? s.homes k) (r.now k) → KnowsPage j d k (get_or ws k 0) (get_elem? hs k) p

  pub moved : (s : Table) (r : InTurn n seats s) (k id : ℕ) (v w : PageView) (ws : List ℕ) (hs : List (home.Option Slot)) (p : PageNow) → Moves s r k id v w ws hs p
      → InTurn n seats record { words = ws; homes = hs; views = set s.views id w }
  moved s r k id v w ws hs p m = let now : ℕ → PageNow = but r.now k p in let is : now k ≡ p = but_same r.now k p in
      let at_other : (P : ℕ → home.Option (home.Option Slot) → PageNow → Type 0) (i : ℕ) → i ≢ k → P (get_or s.words i 0) (get_elem? s.homes i) (r.now i) → P (get_or ws i 0) (get_elem? hs i) (now i)
      = λ P i o h. subst (λ (z : ℕ × home.Option (home.Option Slot) × PageNow). P z.0 z.1 z.2) (λ x. (sym (m.other_words i o) x, sym (m.other_homes i o) x, sym (but_other r.now k i p o) x)) h in record {
        now = now;
        words = m.words;
        homes = m.homes;
        shares = let sum = shares_set s.views id v w m.at in let same = m.share in let all = r.shares in omega arith;
        each_page = λ i l. dite (ℕ_discrete i k)
            (λ e. subst (λ y. Stands (get_or ws y 0) (get_elem? hs y) (now y)) (sym e) (subst (Stands (get_or ws k 0) (get_elem? hs k)) (sym is) m.stands))
            (λ o. at_other (λ word h q. Stands word h q) i o (r.each_page i l));
        holders = λ i l one. dite (ℕ_discrete i k)
            (λ e. subst (λ y. IsHeld (set s.views id w) y (now y).holder) (sym e) (subst (λ (q : PageNow). IsHeld (set s.views id w) k q.holder) (sym is) (m.holder (ap (λ y. get_or ws y 0) (sym e) ∙ one))))
            (λ o. subst (λ (q : PageNow). IsHeld (set s.views id w) i q.holder) (sym (but_other r.now k i p o))
            (held_stays s.views id v w i m.at (λ t. (m.own_others i o).held ∙ t) (r.now i).holder (r.holders i l (sym (m.other_words i o) ∙ one))));
        authors = λ i l x below. seat_stays s.views id v w m.at (subst (λ y. 0 < y) (sym m.share)) ((now i).author x) (dite (ℕ_discrete i k)
            (λ e. subst (λ (q : PageNow). x < length q.history → IsSeat s.views (q.author x)) (sym (ap now e ∙ is)) (m.authors x) below)
            (λ o. subst (λ (q : PageNow). x < length q.history → IsSeat s.views (q.author x)) (sym (but_other r.now k i p o)) (r.authors i l x) below));
        each_size = seats_stay (λ _ d. 0 < d.share → IsSized n d) s.views id w (λ some. m.size (subst (λ y. 0 < y) m.share some)) (λ j d _ there. r.each_size j d there);
        each_seat = seats_stay (λ j d. (i : ℕ) → i < n → KnowsPage j d i (get_or ws i 0) (get_elem? hs i) (now i)) s.views id w
            (λ i l. dite (ℕ_discrete i k)
            (λ e. subst (λ y. KnowsPage id w y (get_or ws y 0) (get_elem? hs y) (now y)) (sym e) (subst (KnowsPage id w k (get_or ws k 0) (get_elem? hs k)) (sym is) m.own))
            (λ o. at_other (λ word h q. KnowsPage id w i word h q) i o (knows_same id v w i (get_or s.words i 0) (get_elem? s.homes i) (r.now i) (m.own_others i o) (r.each_seat id v m.at i l))))
            (λ j d other there i l. dite (ℕ_discrete i k)
            (λ e. subst (λ y. KnowsPage j d y (get_or ws y 0) (get_elem? hs y) (now y)) (sym e) (subst (KnowsPage j d k (get_or ws k 0) (get_elem? hs k)) (sym is) (m.others j d other (r.each_seat j d there k m.inside))))
            (λ o. at_other (λ word h q. KnowsPage j d i word h q) i o (r.each_seat j d there i l)));
      }
