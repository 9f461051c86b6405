-- How the rule of shared pages begins, and what it says where all seats are one.
use Rattle.std.proofs.Common.{◌≡◌, ◌≢◌, ℕ, zero, suc, ◌+◌, ◌<◌, ◌≤◌, false, true≢false, List, [], ◌∷◌, length, map, get_or, replicate, sym, refl, ap, ◌∙◌, subst, inl, ⊎_elim, arith}
use Rattle.std.specs.Prelude.{Some}
use Rattle.std.specs.List.{All}
use Rattle.std.proofs.lemmas.List.{get_or-replicate, length-map, length-replicate}
use mathlib.Core.List.{append-nil}
use mathlib.Core.Logic.{dite}
use mathlib.Core.Option.{some, some-injective, some-ne-none}
use native.Mathlib.Decide.{ℕ_discrete}
use lib.ListN.{get_elem?}
use Rattle.atomic_table.specs.Table.{opening}
use Rattle.atomic_table.proofs.Lists.{at_map}
use Rattle.page_slots.specs.Page.{PageValue}
use Rattle.page_slots.specs.Stroke.{StrokeValue}
use Rattle.vio_num.specs.Words.{Begins}
use Rattle.page_slots.specs.Seats.{places_from}
use Rattle.page_slots.specs.PageRule.{seen_of, held_of, laid_of, opened, blank_page, blank_slots, KnowsPage, IsSized, IsSeat, all_shares, InTurn}
use Rattle.page_slots.specs.declared.view.PageView.{PageView}
use Rattle.page_slots.specs.declared.view.PagesKey.{PagesKey}
use Rattle.page_slots.proofs.PageAllows.{some_none}
use Rattle.page_slots.proofs.PageKeeps.{Table}
use Rattle.page_slots.proofs.PageSeats.{falses, nothings}
use Rattle.page_slots.proofs.Places.{laid_by-all}

abbrev zeros : ℕ → List ℕ
zeros n = replicate n 0

at_replicate : {A : Type 0} (n k : ℕ) (a : A) → k < n → get_elem? (replicate n a) k ≡ some a
at_replicate zero k a h = absurd (omega (arith, h))
at_replicate (suc n) zero a h = refl
at_replicate (suc n) (suc k) a h = at_replicate n k a (omega (arith, h))

module _ (n seats : ℕ) where
  abbrev key : PagesKey
  key = record { pages = n; seats = seats }

  pub sized_first : IsSized n (opened key)
  sized_first = record { seen = length-replicate n []; held = length-replicate n false; laid = length-replicate n []; carried = λ k e. absurd (some_none k e) }

  first_size : (j : ℕ) (v : PageView) → get_elem? (opened key ∷ []) j ≡ some v → 0 < v.share → IsSized n v
  first_size zero v e _ = subst (IsSized n) (some-injective (opened key) v e) sized_first
  first_size (suc j) v e _ = absurd (some-ne-none v (sym e))

  first_seat : (j : ℕ) (v : PageView) → get_elem? (opened key ∷ []) j ≡ some v → (k word : ℕ) (h : _) → KnowsPage j v k word h record { history = []; holder = 0; author = λ _. 0 }
  first_seat zero v e k word h = subst (λ z. KnowsPage 0 z k word h record { history = []; holder = 0; author = λ _. 0 }) (some-injective (opened key) v e) record {
    seen = ([], sym (nothings n k) ∙ sym (append-nil (get_or (replicate {A = List StrokeValue} n []) k [])));
    told = λ i d none. absurd (omega (arith, none));
    laid = nothings n k;
    holds = λ t. absurd (true≢false (sym t ∙ falses n k));
  }
  first_seat (suc j) v e k word h = absurd (some-ne-none v (sym e))

  -- the rule holds of pages of zeros and one seat
  pub opens : InTurn n seats (opening (zeros n) (blank_slots n) (opened key))
  opens = record {
    now = λ _. record { history = []; holder = 0; author = λ _. 0 };
    words = length-replicate n 0;
    homes = length-map (blank_slots n) some ∙ length-replicate n (Some blank_page);
    shares = omega arith;
    each_page = λ k l. record { bit = inl (get_or-replicate n k 0 0 l); stands = λ _. (blank_page, at_map some (blank_slots n) k (Some blank_page) (at_replicate n k (Some blank_page) l), refl) };
    holders = λ k l one. let none : get_or (zeros n) k 0 ≡ 0 = get_or-replicate n k 0 0 l in absurd (omega (arith, one, none));
    authors = λ k l i none. absurd (omega (arith, none));
    each_size = first_size;
    each_seat = λ j v e k l. first_seat j v e k (get_or (zeros n) k 0) (get_elem? (map some (blank_slots n)) k);
  }

own_share : (vs : List PageView) (i : ℕ) (v : PageView) → get_elem? vs i ≡ some v → v.share ≤ all_shares vs
own_share [] i v e = absurd (some-ne-none v (sym e))
own_share (x ∷ xs) zero v e = let is : x.share ≡ v.share = ap (λ (z : PageView). z.share) (some-injective x v e) in omega (arith, is)
own_share (x ∷ xs) (suc i) v e = let more = own_share xs i v e in omega (arith, more)

two_shares : (vs : List PageView) (i j : ℕ) (v w : PageView) → j ≢ i → get_elem? vs i ≡ some v → get_elem? vs j ≡ some w → v.share + w.share ≤ all_shares vs
two_shares [] i j v w o e f = absurd (some-ne-none v (sym e))
two_shares (x ∷ xs) zero zero v w o e f = absurd (o refl)
two_shares (x ∷ xs) zero (suc j) v w o e f = let is : x.share ≡ v.share = ap (λ (z : PageView). z.share) (some-injective x v e) in let more = own_share xs j w f in omega (arith, is, more)
two_shares (x ∷ xs) (suc i) zero v w o e f = let is : x.share ≡ w.share = ap (λ (z : PageView). z.share) (some-injective x w f) in let more = own_share xs i v e in omega (arith, is, more)
two_shares (x ∷ xs) (suc i) (suc j) v w o e f = let more = two_shares xs i j v w (λ is. o (ap suc is)) e f in omega (arith, more)

-- What is so of the page k in the end, where the seat that stands for all has this view.
pub record EndsAs (v : PageView) (k : ℕ) (page : PageValue) : Type 0 where
  pub seen : Begins (seen_of v k) page.strokes
  pub told : All (λ seen. Begins (get_or seen k []) page.strokes) v.told
  pub laid : laid_of v k ≡ places_from 0 (length page.strokes)

module _ (n seats id : ℕ) (v : PageView) (s : Table) (r : InTurn n seats s) (at : get_elem? s.views id ≡ some v) (all : v.share ≡ seats) where
  sole : (j : ℕ) → IsSeat s.views j → j ≡ id
  sole j is = dite (ℕ_discrete j id) (λ e. e) (λ o. let both = two_shares s.views id j v is.0 o at is.1 in let some_share = is.2 in let total = r.shares in absurd (omega (arith, both, some_share, total, all)))

  module _ (k : ℕ) (inside : k < n) (empty : held_of v k ≡ false) where
    turn_free : get_or s.words k 0 ≡ 0
    turn_free = ⊎_elim (λ e. e)
        (λ one. let h = r.holders k inside one in let j : ℕ = (r.now k).holder in let is : j ≡ id = sole j (h.0, h.1, ((r.each_seat j h.0 h.1 k inside).holds h.2).shared) in
        let same : v ≡ h.0 = some-injective v h.0 (sym at ∙ (ap (get_elem? s.views) (sym is) ∙ h.1)) in absurd (true≢false (sym h.2 ∙ (ap (λ (z : PageView). held_of z k) (sym same) ∙ empty))))
        (r.each_page k inside).bit

    -- the page stands in its slot, with all that all seats laid
    pub ends : (page : PageValue) × (get_elem? s.homes k ≡ some (some (Some page))) × EndsAs v k page
    ends = let p = (r.each_page k inside).stands turn_free in let known = r.each_seat id v at k inside in let xs : List StrokeValue = (r.now k).history in (
      p.0,
      p.1,
      subst (λ l. EndsAs v k (record p.0 { strokes = l })) (sym p.2)
          (record { seen = known.seen; told = known.told; laid = known.laid ∙ laid_by-all id (r.now k).author 0 (length xs) (λ i _ below. sole ((r.now k).author i) (r.authors k inside i (omega (arith, below)))) }),
    )
