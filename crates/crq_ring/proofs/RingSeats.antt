-- Seats that come and go: the rule stays where a view is cut in two, and where one takes in another.
use Rattle.std.proofs.Common.{◌≡◌, ℕ, ◌+◌, ◌*◌, ◌%◌, ◌<◌, ◌≤◌, ◌≢◌, ◌⊎◌, zero, suc, Bool, true, false, List, [], ◌∷◌, ◌++◌, length, get_or, set, sym, refl, ap, ◌∙◌, subst, inl, inr, ⊎_elim, arith, replicate, length-set, get_or-set_same, get_or-set_other, le_refl}
use Rattle.std.proofs.Math.Nat.{mod-lt}
use Rattle.std.proofs.lemmas.List.{get_or-replicate, length-replicate}
use Rattle.atomic_table.proofs.Lists.{at_set, set_else}
use mathlib.Core.Option.{some, some-injective, some-ne-none}
use lib.ListN.{get_elem?}
use Rattle.atomic_table.specs.Table.{opening, Splits, Joins}
use Rattle.crq_ring.specs.declared.view.RingKey.{RingKey}
use Rattle.crq_ring.specs.declared.view.RingView.{RingView}
use Rattle.crq_ring.specs.declared.view.Role.{Role}
use Rattle.crq_ring.specs.declared.view.Role.TheVariants.{Both, Sender, Receiver, Front, Room, Spent}
use Rattle.crq_ring.specs.Control.{control_word, IsEnded}
use Rattle.vio_num.specs.Words.{Begins}
use Rattle.crq_ring.specs.RingCuts.{sender_part, receiver_part, front_of, room_of, told_by, rejoined, spent}
use Rattle.crq_ring.specs.RingRule.{first_session, opened, Moment, Shows, SenderKnows, ReceiverKnows, BothKnow, KnowsAs, Knows, InOrder}
use Rattle.crq_ring.specs.RingSteps.{Seated}
use Rattle.crq_ring.specs.Sessions.{of_session}
use Rattle.crq_ring.specs.Window.{words_of, control_at, Window}
use Rattle.crq_ring.proofs.Fronts.{begins_self}
use Rattle.crq_ring.proofs.RingKeeps.{Table, seats_stay}
use Rattle.crq_ring.proofs.Sessions.{of_session-nil}
use Rattle.crq_ring.proofs.Windows.{no_entries}

-- a list with one more at its end
at_snoc : {A : Type 0} (l : List A) (a b : A) (j : ℕ) → get_elem? (l ++ a ∷ []) j ≡ some b → (get_elem? l j ≡ some b) ⊎ ((j ≡ length l) × (a ≡ b))
at_snoc [] a b zero e = inr (refl, some-injective a b e)
at_snoc [] a b (suc j) e = absurd (some-ne-none b (sym e))
at_snoc (x ∷ xs) a b zero e = inl e
at_snoc (x ∷ xs) a b (suc j) e = ⊎_elim (λ t. inl t) (λ t. inr (ap suc t.0, t.1)) (at_snoc xs a b j e)

-- what a seat that is neither end knows names no end
neither : (n : ℕ) (now : Moment) (p g : ℕ) (ws : List ℕ) (j : ℕ) (v : RingView) → j ≢ now.putter → j ≢ now.getter → (r : Role) → KnowsAs n now ws j r v → KnowsAs n (record now { putter = p; getter = g }) ws j r v
neither n now p g ws j v a b Both k = absurd (a k.putter_is)
neither n now p g ws j v a b Sender k = absurd (a k.seat)
neither n now p g ws j v a b Receiver k = absurd (b k.seat)
neither n now p g ws j v a b Front k = k
neither n now p g ws j v a b Room k = k
neither n now p g ws j v a b Spent k = k

-- one seat becomes two
apart_from : (K L : ℕ → RingView → Type 0) (vs : List RingView) (id : ℕ) (left right : RingView) → ((j : ℕ) (v : RingView) → get_elem? vs j ≡ some v → K j v) → L id left → L (length (set vs id left)) right
    → ((j : ℕ) (v : RingView) → j ≢ id → K j v → L j v) → (j : ℕ) (v : RingView) → get_elem? (set vs id left ++ right ∷ []) j ≡ some v → L j v
apart_from K L vs id left right old a b on j v e = ⊎_elim (λ t. seats_stay L vs id left a (λ i d o at. on i d o (old i d at)) j v t)
    (λ (t : (j ≡ length (set vs id left)) × (right ≡ v)). subst (λ (z : ℕ × RingView). L z.0 z.1) (λ i. (sym t.0 i, t.1 i)) b) (at_snoc (set vs id left) right v j e)

-- two seats become one
made_one : (K L : ℕ → RingView → Type 0) (vs : List RingView) (id other : ℕ) (both gone : RingView) → ((j : ℕ) (v : RingView) → get_elem? vs j ≡ some v → K j v) → L id both → L other gone
    → ((j : ℕ) (v : RingView) → j ≢ id → j ≢ other → K j v → L j v) → (j : ℕ) (v : RingView) → get_elem? (set (set vs id both) other gone) j ≡ some v → L j v
made_one K L vs id other both gone old a b on = seats_stay L (set vs id both) other gone b
    (λ j d o at. ⊎_elim (λ (t : (j ≡ id) × (both ≡ d)). subst (λ (z : ℕ × RingView). L z.0 z.1) (λ i. (sym t.0 i, t.1 i)) a) (λ (t : (j ≢ id) × (get_elem? vs j ≡ some d)). on j d t.0 o (old j d t.1)) (at_set vs id j both d at))

was_there : (vs : List RingView) (id other : ℕ) (both w : RingView) → ¬ (other ≡ id) → get_elem? (set vs id both) other ≡ some w → get_elem? vs other ≡ some w
was_there vs id other both w not e = sym (set_else vs id other both not) ∙ e

module _ (n : ℕ) where
  -- the words show the same where other seats are the ends
  pub reseat : (ws : List ℕ) (now : Moment) (p g : ℕ) → Shows n ws now → Shows n ws (record now { putter = p; getter = g })
  reseat ws now p g h = record {
    some_slots = h.some_slots;
    wide = h.wide;
    control = h.control;
    within = h.within;
    handed = h.handed;
    room = h.room;
    none_sent = h.none_sent;
    none_taken = h.none_taken;
    slots = h.slots;
    zeros = h.zeros;
  }

  as_role : (s : Table) (r : InOrder n s) (j : ℕ) (v : RingView) (role : Role) → get_elem? s.views j ≡ some v → v.role ≡ role → KnowsAs n r.now s.words j role v
  as_role s r j v role at is = subst (λ ρ. KnowsAs n r.now s.words j ρ v) is (r.each_seat j v at)

  -- the first seat becomes the two ends
  pub parts : (id : ℕ) (v : RingView) → v.role ≡ Both → Splits (InOrder n) id v (sender_part v) (receiver_part v)
  parts id v is s r at = let k : BothKnow n r.now s.words id v = as_role s r id v Both at is in
      let g : ℕ = length (set s.views id (sender_part v)) in let b : Moment = record r.now { putter = id; getter = g } in record {
        now = b;
        words_show = reseat s.words r.now id g r.words_show;
        each_seat = apart_from (Knows n r.now s.words) (Knows n b s.words) s.views id (sender_part v) (receiver_part v) r.each_seat
            record {
              seat = refl;
              own = k.own;
              other = subst (λ l. Begins l r.now.taken) (sym k.other) (begins_self r.now.taken);
              told_own = (r.now.sent, refl);
              told_other = (r.now.taken, refl);
              inside = k.inside;
              session = omega (arith, k.session);
              shown = omega (arith, k.session);
              present = λ _. k.session;
              low = k.low;
            }
            record {
              seat = refl;
              own = k.other;
              other = subst (λ l. Begins l r.now.sent) (sym k.own) (begins_self r.now.sent);
              told_own = (r.now.taken, refl);
              told_other = (r.now.sent, refl);
              is_open = k.is_open;
              session = k.session;
              swept = k.swept;
              ended = λ q _. ap (of_session q) k.own;
            }
            (λ j d o old. neither n r.now id g s.words j d (λ e. o (e ∙ sym k.putter_is)) (λ e. o (e ∙ sym k.getter_is)) d.role old);
      }

  -- an end makes a note
  pub fronts : (id : ℕ) (v : RingView) → v.role ≡ Sender → Splits (InOrder n) id v v (front_of v)
  fronts id v is s r at = let k : SenderKnows n r.now s.words id v = as_role s r id v Sender at is in let K = Knows n r.now s.words in record {
    now = r.now;
    words_show = r.words_show;
    each_seat = apart_from K K s.views id v (front_of v) r.each_seat (r.each_seat id v at) (subst (λ l. Begins l r.now.sent) (sym k.own) (begins_self r.now.sent), k.other) (λ j d o old. old);
  }

  pub rooms : (id : ℕ) (v : RingView) → v.role ≡ Receiver → Splits (InOrder n) id v v (room_of v)
  rooms id v is s r at = let k : ReceiverKnows n r.now s.words id v = as_role s r id v Receiver at is in let K = Knows n r.now s.words in record {
    now = r.now;
    words_show = r.words_show;
    each_seat = apart_from K K s.views id v (room_of v) r.each_seat (r.each_seat id v at) (subst (λ l. Begins l r.now.taken) (sym k.own) (begins_self r.now.taken), k.other) (λ j d o old. old);
  }

  -- an end takes in a note
  pub learns : (id : ℕ) (v : RingView) (other : ℕ) (w : RingView) → v.role ≡ Receiver → w.role ≡ Front → Joins (InOrder n) id v other w (told_by v w) spent
  learns id v other w is is' s r at not there = let k : ReceiverKnows n r.now s.words id v = as_role s r id v Receiver at is in
      let f : Begins w.own r.now.sent × Begins w.other r.now.taken = as_role s r other w Front (was_there s.views id other (told_by v w) w not there) is' in
      let K = Knows n r.now s.words in record {
        now = r.now;
        words_show = r.words_show;
        each_seat = made_one K K s.views id other (told_by v w) spent r.each_seat (subst (λ ρ. KnowsAs n r.now s.words id ρ (told_by v w)) (sym is) record {
          seat = k.seat;
          own = k.own;
          other = k.other;
          told_own = f.1;
          told_other = f.0;
          is_open = k.is_open;
          session = k.session;
          swept = k.swept;
          ended = k.ended;
        }) tt (λ j d _ _ old. old);
      }

  pub knows_room : (id : ℕ) (v : RingView) (other : ℕ) (w : RingView) → v.role ≡ Sender → w.role ≡ Room → Joins (InOrder n) id v other w (told_by v w) spent
  knows_room id v other w is is' s r at not there = let k : SenderKnows n r.now s.words id v = as_role s r id v Sender at is in
      let f : Begins w.own r.now.taken × Begins w.other r.now.sent = as_role s r other w Room (was_there s.views id other (told_by v w) w not there) is' in
      let K = Knows n r.now s.words in record {
        now = r.now;
        words_show = r.words_show;
        each_seat = made_one K K s.views id other (told_by v w) spent r.each_seat (subst (λ ρ. KnowsAs n r.now s.words id ρ (told_by v w)) (sym is) record {
          seat = k.seat;
          own = k.own;
          other = k.other;
          told_own = f.1;
          told_other = f.0;
          inside = k.inside;
          session = k.session;
          shown = k.shown;
          present = k.present;
          low = k.low;
        }) tt (λ j d _ _ old. old);
      }

  -- the two ends become one
  pub rejoins : (id : ℕ) (v : RingView) (other : ℕ) (w : RingView) → v.role ≡ Sender → w.role ≡ Receiver → Joins (InOrder n) id v other w (rejoined v w) spent
  rejoins id v other w is is' s r at not there = let k : SenderKnows n r.now s.words id v = as_role s r id v Sender at is in
      let f : ReceiverKnows n r.now s.words other w = as_role s r other w Receiver (was_there s.views id other (rejoined v w) w not there) is' in
      let b : Moment = record r.now { putter = id; getter = id } in record {
        now = b;
        words_show = reseat s.words r.now id id r.words_show;
        each_seat = made_one (Knows n r.now s.words) (Knows n b s.words) s.views id other (rejoined v w) spent r.each_seat record {
          putter_is = refl;
          getter_is = refl;
          own = k.own;
          other = f.own;
          inside = k.inside;
          is_open = f.is_open;
          session = f.session;
          shown = k.session;
          swept = f.swept;
          low = k.low;
          ended = f.ended;
        } tt (λ j d o o' old. neither n r.now id id s.words j d (λ e. o (e ∙ sym k.seat)) (λ e. o' (e ∙ sym f.seat)) d.role old);
      }

-- the words of a new ring
abbrev pub first_word : Bool → ℕ
first_word begun = control_word (first_session begun) begun begun

abbrev pub first_words : ℕ → Bool → List ℕ
first_words n begun = set (replicate (words_of n) 0) (control_at n) (first_word begun)

abbrev first_moment : RingKey → Moment
first_moment key = record { session = first_session key.begun; is_open = key.begun; inside = key.begun; sent = []; taken = []; swept = key.slots; putter = 0; getter = 0 }

pub first_few : (begun : Bool) → first_session begun ≤ 1
first_few true = omega arith
first_few false = omega arith

module _ (n : ℕ) (some_slots : 0 < n) where
  zero_there : (begun : Bool) (i : ℕ) → i < 2 * n → get_or (first_words n begun) i 0 ≡ 0
  zero_there begun i below = get_or-set_other (replicate (2 * n + 16) 0) (2 * n + 8) i (first_word begun) 0 (λ e. absurd (omega (arith, e, below))) ∙ get_or-replicate (2 * n + 16) i 0 0 (omega (arith, below))

  control_there : (begun : Bool) → get_or (first_words n begun) (control_at n) 0 ≡ first_word begun
  control_there begun = let zeros : List ℕ = replicate (2 * n + 16) 0 in let long : length zeros ≡ 2 * n + 16 = length-replicate (2 * n + 16) 0 in
      get_or-set_same zeros (2 * n + 8) (first_word begun) 0 (omega (arith, long))

  first_shows : (begun : Bool) → Shows n (first_words n begun) (first_moment record { slots = n; begun = begun })
  first_shows begun = record {
    some_slots = some_slots;
    wide = length-set (replicate (2 * n + 16) 0) (2 * n + 8) (first_word begun) ∙ length-replicate (2 * n + 16) 0;
    control = control_there begun;
    within = λ e. e;
    handed = λ q. begins_self (of_session q []);
    room = λ q. omega arith;
    none_sent = λ q _. of_session-nil q;
    none_taken = λ q _. of_session-nil q;
    slots = λ _. subst (λ l. Window n (first_words n begun) l l) (sym (of_session-nil (first_session begun))) (no_entries n (first_words n begun) some_slots (λ k inside. zero_there begun (2 * k) (omega (arith, inside))));
    zeros = λ _ k _ inside. zero_there begun (2 * k) (omega (arith, inside));
  }

  first_seat : (begun : Bool) (j : ℕ) (v : RingView) → get_elem? (opened record { slots = n; begun = begun } ∷ []) j ≡ some v
      → Knows n (first_moment record { slots = n; begun = begun }) (first_words n begun) j v
  first_seat begun zero v e = subst (λ z. Knows n (first_moment record { slots = n; begun = begun }) (first_words n begun) 0 z)
      (some-injective (opened record { slots = n; begun = begun }) v e) record {
        putter_is = refl;
        getter_is = refl;
        own = refl;
        other = refl;
        inside = refl;
        is_open = refl;
        session = refl;
        shown = le_refl (first_session begun);
        swept = refl;
        low = λ _. let m : ℕ = length (of_session (first_session begun) []) in let x : ℕ = m % n in let inside : x < n = mod-lt m some_slots in zero_there begun (2 * x + 1) (omega (arith, inside));
        ended = λ q _. refl;
      }
  first_seat begun (suc j) v e = absurd (some-ne-none v (sym e))

  -- the rule holds of the first words and one seat
  pub opens : (begun : Bool) → InOrder n (opening (first_words n begun) [] (opened record { slots = n; begun = begun }))
  opens begun = record { now = first_moment record { slots = n; begun = begun }; words_show = first_shows begun; each_seat = first_seat begun }

pub parts_first : (k id : ℕ) (key : RingKey) (me : Seated) (xs : List (ℕ × Unit {0})) → me ≡ (opened key, xs) → Splits (InOrder k) id me.0 (sender_part me.0) (receiver_part me.0)
parts_first k id key me xs e = parts k id me.0 (ap (λ (m : Seated). m.0.role) e)

-- what the last state says of the two ends
pub record LastSays (n : ℕ) (v w : RingView) : Type 0 where
  pub handed : (q : ℕ) → Begins (of_session q w.own) (of_session q v.own)
  pub room : (q : ℕ) → length (of_session q v.own) ≤ length (of_session q w.own) + n
  pub entered : v.session ≤ w.session
  pub ended : (q : ℕ) → IsEnded w.session w.is_open q → of_session q w.other ≡ of_session q v.own

pub last_says : (n id : ℕ) (v w : RingView) (s : Table) → InOrder n s → get_elem? s.views id ≡ some (rejoined v w) → LastSays n v w
last_says n id v w s r at = let k : BothKnow n r.now s.words id (rejoined v w) = r.each_seat id (rejoined v w) at in record {
  handed = λ q. subst (λ (z : List _ × List _). Begins (of_session q z.1) (of_session q z.0)) (λ i. (sym k.own i, sym k.other i)) (r.words_show.handed q);
  room = λ q. subst (λ (z : List _ × List _). length (of_session q z.0) ≤ length (of_session q z.1) + n) (λ i. (sym k.own i, sym k.other i)) (r.words_show.room q);
  entered = omega (arith, k.shown, k.session);
  ended = λ q e. k.ended q e ∙ ap (of_session q) (sym k.own);
}
