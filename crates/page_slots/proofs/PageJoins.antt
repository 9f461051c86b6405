-- All seats at shared pages become one, each joined in turn.
use Rattle.std.proofs.Common.{◌≡◌, ℕ, ◌<◌, false, true≢false, List, [], ◌∷◌, ◌++◌, length, map, get_or, sym, refl, ap, ◌∙◌, subst, arith, length-append}
use Rattle.std.specs.Prelude.{Option, None, Some}
use Rattle.std.specs.List.{All}
use Rattle.std.proofs.Math.Seq.{get_or-append_seam}
use Rattle.std.proofs.lemmas.List.{length-map}
use mathlib.Core.List.{append_assoc}
use Rattle.atomic_table.specs.declared.shared.Seat.{Seat}
use Rattle.page_slots.specs.Seats.{PagesValue, PageSeatValue, laid_on, joined, together}
use Rattle.page_slots.specs.PageRule.{Slot, held_of, laid_of, IsSized}
use Rattle.page_slots.specs.PageCuts.{with_seat}
use Rattle.page_slots.specs.PageClosing.{StandsForAll}
use Rattle.page_slots.specs.PageSteps.{Seated, out_with}
use Rattle.page_slots.specs.declared.view.PageView.{PageView}
use Rattle.page_slots.proofs.PageSeats.{length-joined_all, joined_at}

-- what is so of all is so of the one that is taken off
module _ {A : Type 0} (P : A → Type 0) where
  pub all_at : (front : List A) (w : A) (back : List A) → All P (front ++ w ∷ back) → P w
  all_at front w back h = let long = length-append front (w ∷ back) in subst P (get_or-append_seam front w back w) (h (length front) w (omega (arith, long)))

  pub cut_off : (all items rest : List A) (w : A) (back : List A) → all ≡ items ++ back → items ≡ rest ++ w ∷ [] → all ≡ rest ++ w ∷ back
  cut_off all items rest w back e f = e ∙ (ap (λ l. l ++ back) f ∙ append_assoc rest (w ∷ []) back)

  pub member : (all items rest : List A) (w : A) (back : List A) → all ≡ items ++ back → items ≡ rest ++ w ∷ [] → All P all → P w
  member all items rest w back e f h = all_at rest w back (subst (All P) (cut_off all items rest w back e f) h)

-- a seat whose hand is empty has no slot out
no_slot : (n : ℕ) (v : PageView) → IsSized n v → ((k : ℕ) → k < n → held_of v k ≡ false) → (c : Option ℕ) → v.carried ≡ c → out_with c ≡ []
no_slot n v size empty None e = refl
no_slot n v size empty (Some k) e = let held = size.carried k e in absurd (true≢false (sym held.1 ∙ empty k held.0))

pub none_out : (n : ℕ) (me : Seated) → me.1 ≡ out_with me.0.carried → IsSized n me.0 → ((k : ℕ) → k < n → held_of me.0 k ≡ false) → me.1 ≡ []
none_out n me out size empty = out ∙ no_slot n me.0 size empty me.0.carried refl

together_cons : (x : List ℕ) (l : List (List ℕ)) → 0 < length l → together (x ∷ l) ≡ joined x (together l)
together_cons x [] h = absurd (omega (arith, h))
together_cons x (y ∷ l) h = refl

-- What the view w of one seat at the pages, with an empty hand, has of its value.
pub record IsOne (n : ℕ) (other : PageSeatValue) (w : PageView) : Type 0 where
  pub share : w.share ≡ 1
  pub told : w.told ≡ []
  pub seen : w.seen ≡ other.seen
  pub laid : w.laid ≡ other.laid
  pub size : length w.laid ≡ n

-- the first seat stands for itself
pub stands_for_one : (pages : PagesValue) (other : PageSeatValue) (seat : Seat Slot PageView) → seat.table_id ≡ pages.id → IsOne seat.table_id.slots other seat.me.0 → ((k : ℕ) → k < pages.count → held_of seat.me.0 k ≡ false)
    → StandsForAll pages (other ∷ []) seat
stands_for_one pages other seat table one empty = record {
  table_is = table;
  share = one.share;
  some_share = omega arith;
  none_held = empty;
  size = one.size;
  seen = (λ i. sym one.seen i ∷ []) ∙ ap (λ t. t ++ seat.me.0.seen ∷ []) (sym one.told);
  laid = λ k. ap (λ l. get_or l k []) one.laid;
}

-- one more seat is joined
pub stands_for_more : (pages : PagesValue) (back : List PageSeatValue) (seat seat' : Seat Slot PageView) (other : PageSeatValue) (w : PageView) → StandsForAll pages back seat → seat'.table_id ≡ seat.table_id
    → seat'.me ≡ (with_seat seat.me.0 w, seat.me.1) → IsOne seat.table_id.slots other w → StandsForAll pages (other ∷ back) seat'
stands_for_more pages back seat seat' other w st table e one = let v : PageView = seat.me.0 in let long : length w.laid ≡ length v.laid = one.size ∙ sym st.size in
    let one_share = one.share in let all = st.share in record {
      table_is = table ∙ st.table_is;
      share = ap (λ (m : Seated). m.0.share) e ∙ omega (arith, one_share, all);
      some_share = omega arith;
      none_held = λ k l. ap (λ (m : Seated). held_of m.0 k) e ∙ st.none_held k l;
      size = ap (λ (m : Seated). length m.0.laid) e ∙ (length-joined_all w.laid v.laid long ∙ (st.size ∙ ap (λ z. z.slots) (sym table)));
      seen = (λ i. sym one.seen i ∷ st.seen i) ∙ (ap (λ t. (w.seen ∷ (t ++ v.told)) ++ v.seen ∷ []) (sym one.told) ∙ ap (λ (m : Seated). m.0.told ++ m.0.seen ∷ []) (sym e));
      laid = λ k. let places : List (List ℕ) = map (λ seat. laid_on seat k) back in let counted = length-map back (λ seat. laid_on seat k) in let some_share = st.some_share in
          ap (λ (m : Seated). laid_of m.0 k) e ∙ (joined_at w.laid v.laid k long ∙ ((λ i. joined (get_or (one.laid i) k []) (st.laid k i)) ∙ sym (together_cons (laid_on other k) places (omega (arith, counted, some_share)))));
    }
