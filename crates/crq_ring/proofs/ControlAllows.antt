-- What each kind of step on the control word tells the end that makes it, from any state that meets the rule.
use Rattle.std.proofs.Common.{◌≡◌, ◌≢◌, ℕ, eqb, ◌+◌, ◌*◌, ◌/◌, ◌%◌, ◌<◌, ◌≤◌, true, false, true≢false, List, length, get_or, set, sym, refl, ap, ◌∙◌, subst, inl, inr, ⊎_elim, arith, bit_and, le_refl}
use mathlib.Core.Option.{some, none}
use lib.ListN.{get_elem?}
use prog.Atomic.{either}
use Rattle.atomic_table.specs.Table.{Act, step, keeps, stepped, carried_after, Valid, Allows}
use Rattle.atomic_table.proofs.Lists.{exchanged}
use Rattle.crq_ring.specs.declared.view.RingView.{RingView}
use Rattle.crq_ring.specs.declared.view.Role.{Role}
use Rattle.crq_ring.specs.declared.view.Role.TheVariants.{Sender, Receiver}
use Rattle.crq_ring.specs.Control.{control_word}
use Rattle.vio_num.specs.Words.{Begins}
use Rattle.crq_ring.specs.RingRule.{Moment, Shows, SenderKnows, ReceiverKnows, KnowsAs, Knows, InOrder}
use Rattle.crq_ring.specs.RingSteps.{Seated, OnlyReads, showed, entered, went_out, began, closed, zeroed}
use Rattle.crq_ring.specs.Sessions.{of_session}
use Rattle.crq_ring.specs.Window.{control_at, low_at}
use Rattle.crq_ring.proofs.ControlWords.{word_of, outside_word, inside_word, open_word, other_word, sender_word, no_sender, none_inside, cleared_is}
use Rattle.crq_ring.proofs.Fronts.{begins_self}
use Rattle.crq_ring.proofs.Moments.{put_in, not_both, bit_shown, shut_shown, zero_shown, begin_shown}
use Rattle.crq_ring.proofs.RingAllows.{knows_as}
use Rattle.crq_ring.proofs.RingKeeps.{Table, unmoved, sender_moves, receiver_moves}

-- a seat in this role at a table of n slots
pub record Sits (n : ℕ) (role : Role) (me : Seated) : Type 0 where
  pub role_is : me.0.role ≡ role
  pub slots : me.0.slots ≡ n

-- What is known of the words that a sender saw: it saw none of a session before its own, and the last one is
-- of this session.
pub record Saw (word : ℕ) (me : Seated) : Type 0 where
  pub open_bits : word % 8 ≡ 1
  pub shown : me.0.shown ≡ word / 8
  pub least : me.0.session ≤ word / 8

seen_place : (me : Seated) (shown word : ℕ) → OnlyReads me word (record me.0 { shown = shown; reads = me.0.reads + 1; word = word }, me.1)
seen_place me shown word = record {
  keeps = record { role = refl; slots = refl; carried = refl; inside = refl; is_open = refl; session = refl; swept = refl };
  own = refl;
  other = refl;
  reads = record { count = refl; word_is = refl };
}

module _ (n slots id : ℕ) (me : Seated) where
  abbrev Outcome : Table → ℕ → (Seated → Type 0) → Type 0
  Outcome s z then = (w : RingView) × (a : Act (Unit {0})) × Valid s.homes me.1 a × InOrder n (stepped s (control_at n) z id me.1 w a) × then (w, carried_after me.1 a)

  -- what the sender knows after it read a word
  sender_saw : (s : Table) (r : InOrder n s) (k : SenderKnows n r.now s.words id me.0) → me.0.role ≡ Sender → (shown word : ℕ) → shown ≤ r.now.session
      → Knows n r.now s.words id (record me.0 { shown = shown; reads = me.0.reads + 1; word = word })
  sender_saw s r k is shown word within = subst (λ ρ. KnowsAs n r.now s.words id ρ (record me.0 { shown = shown; reads = me.0.reads + 1; word = word })) (sym is) record {
    seat = k.seat;
    own = k.own;
    other = k.other;
    told_own = k.told_own;
    told_other = k.told_other;
    inside = k.inside;
    session = k.session;
    shown = within;
    present = k.present;
    low = k.low;
  }

  pub shows : Sits n Sender me → Allows (InOrder n) slots id me (control_at n) (λ x. x) (showed (step slots (control_at n) 0 0 none) me)
  shows sits s r _ at _ = let v : RingView = me.0 in let k : SenderKnows n r.now s.words id v = knows_as n s r id v at Sender sits.role_is in
      let q : ℕ = r.now.session in let c : ℕ = control_at n in let found : ℕ = get_or s.words c 0 in let word : found ≡ control_word q r.now.is_open r.now.inside = r.words_show.control in
      let parts = word_of q r.now.is_open r.now.inside in let session : found / 8 ≡ q = ap (λ z. z / 8) word ∙ parts.0 in (
        record v { shown = found / 8; reads = v.reads + 1; word = found },
        keeps,
        tt,
        unmoved n s r c id me.1 (record v { shown = found / 8; reads = v.reads + 1; word = found }) (sender_saw s r k sits.role_is (found / 8) found (omega (arith, session))),
        record {
          only = seen_place me (found / 8) found;
          shown = refl;
          least = subst (λ z. v.session ≤ z) (sym session) k.session;
          inside = λ on. let going = sym k.inside ∙ on in
              word ∙ (inside_word q r.now.is_open r.now.inside going r.words_show.within ∙ ap (λ z. control_word z true true) (sym (k.present going)));
          outside = λ off. subst (λ z. z % 8 < 2) (sym word) (outside_word q r.now.is_open r.now.inside (sym k.inside ∙ off));
        },
      )

  enters_at : (word : ℕ) → Sits n Sender me → me.0.inside ≡ false → Saw word me → (s : Table) (r : InOrder n s) → get_elem? s.views id ≡ some me.0 → get_or s.words (control_at n) 0 ≡ word
      → Outcome s (word + 2) (entered (step slots (control_at n) word (word + 2) none) me (get_or s.words (control_at n) 0))
  enters_at word sits off saw s r at hit = let v : RingView = me.0 in let k : SenderKnows n r.now s.words id v = knows_as n s r id v at Sender sits.role_is in
      let q : ℕ = r.now.session in let c : ℕ = control_at n in let found : ℕ = get_or s.words c 0 in
      let here = open_word q word r.now.is_open r.now.inside (sym r.words_show.control ∙ hit) (sym k.inside ∙ off) saw.open_bits in
      let next : control_word q true true ≡ word + 2 = (let is : word ≡ 8 * q + 0 + 1 = here.1 in omega (arith, is)) in
      let b : Moment = record r.now { inside = true } in let ws : List ℕ = set s.words c (word + 2) in
      let w : RingView = record v { inside = true; session = q; other = r.now.taken; low = get_or ws (low_at n (length (put_in b))) 0; reads = v.reads + 1; word = found } in
      let session : q ≡ found / 8 = (let is : word ≡ 8 * q + 0 + 1 = here.1 in let e : found ≡ word = hit in omega (arith, is, e)) in (
        w,
        keeps,
        tt,
        sender_moves n s r b c (word + 2) id me.1 w k.seat
            record { session = refl; is_open = refl; taken = refl; swept = refl; putter = refl; getter = refl; sent = begins_self r.now.sent; ended = λ p e. refl }
            (subst (λ z. Shows n (set s.words c z) b) next (bit_shown n s.words r.now r.words_show true here.0))
            (subst (λ ρ. KnowsAs n b ws id ρ w) (sym sits.role_is) record {
              seat = k.seat;
              own = k.own;
              other = begins_self r.now.taken;
              told_own = k.told_own;
              told_other = k.told_other;
              inside = refl;
              session = le_refl q;
              shown = k.shown;
              present = λ _. refl;
              low = λ _. refl;
            }),
        record {
          hit = λ _. record {
            role = refl;
            slots = refl;
            carried = refl;
            inside = refl;
            session = session;
            own = refl;
            other = k.other;
            front = subst (λ l. Begins (of_session q r.now.taken) (of_session q l)) (sym k.own) (r.words_show.handed q);
            reads = record { count = refl; word_is = refl };
          };
          miss = λ not. absurd (not hit);
        },
      )

  turns_back : (word : ℕ) → Sits n Sender me → me.0.inside ≡ false → Saw word me → (s : Table) (r : InOrder n s) → get_elem? s.views id ≡ some me.0 → get_or s.words (control_at n) 0 ≢ word
      → Outcome s (get_or s.words (control_at n) 0) (entered (step slots (control_at n) word (word + 2) none) me (get_or s.words (control_at n) 0))
  turns_back word sits off saw s r at miss = let v : RingView = me.0 in let k : SenderKnows n r.now s.words id v = knows_as n s r id v at Sender sits.role_is in
      let q : ℕ = r.now.session in let c : ℕ = control_at n in let found : ℕ = get_or s.words c 0 in let w : RingView = record v { shown = v.shown; reads = v.reads + 1; word = found } in
      let other = other_word q word found r.now.is_open r.now.inside (sym k.inside ∙ off) saw.open_bits (subst (λ z. z ≤ q) saw.shown k.shown) (sym r.words_show.control) miss in (
        w,
        keeps,
        tt,
        unmoved n s r c id me.1 w (sender_saw s r k sits.role_is v.shown found k.shown),
        record {
          hit = λ e. absurd (miss e);
          miss = λ _. record {
            only = seen_place me v.shown found;
            shows = ⊎_elim (λ e. inl e) (λ later. inr (let least : v.session ≤ word / 8 = saw.least in omega (arith, least, later))) other;
          };
        },
      )

  pub enters : (word : ℕ) → Sits n Sender me → me.0.inside ≡ false → Saw word me
      → Allows (InOrder n) slots id me (control_at n) (λ x. either (eqb x word) (word + 2) x) (entered (step slots (control_at n) word (word + 2) none) me)
  enters word sits off saw s r _ at _ = let found : ℕ = get_or s.words (control_at n) 0 in
      exchanged found word (word + 2) (λ z. Outcome s z (entered (step slots (control_at n) word (word + 2) none) me found)) (enters_at word sits off saw s r at) (turns_back word sits off saw s r at)

  pub leaves : Sits n Sender me → me.0.inside ≡ true → Allows (InOrder n) slots id me (control_at n) (λ x. bit_and x 18446744073709551613) (went_out (step slots (control_at n) 18446744073709551613 0 none) me)
  leaves sits on s r _ at small = let v : RingView = me.0 in let k : SenderKnows n r.now s.words id v = knows_as n s r id v at Sender sits.role_is in
      let q : ℕ = r.now.session in let c : ℕ = control_at n in let found : ℕ = get_or s.words c 0 in let going = sym k.inside ∙ on in
      let word : found ≡ 8 * q + 3 = (let is : found ≡ 8 * q + 2 + 1 = r.words_show.control ∙ inside_word q r.now.is_open r.now.inside going r.words_show.within in omega (arith, is)) in
      let small' : found < 18446744073709551616 = small in
      let z : ℕ = bit_and found 18446744073709551613 in
      let is_z : control_word q true false ≡ z = sym (ap (λ y. bit_and y 18446744073709551613) word ∙ (cleared_is q (omega (arith, word, small')) ∙ (let e : 8 * q + 1 ≡ 8 * q + 0 + 1 = omega arith in e))) in
      let b : Moment = record r.now { inside = false } in let w : RingView = record v { inside = false } in (
        w,
        keeps,
        tt,
        sender_moves n s r b c z id me.1 w k.seat
            record { session = refl; is_open = refl; taken = refl; swept = refl; putter = refl; getter = refl; sent = begins_self r.now.sent; ended = λ p e. refl }
            (subst (λ y. Shows n (set s.words c y) b) is_z (bit_shown n s.words r.now r.words_show false (r.words_show.within going)))
            (subst (λ ρ. KnowsAs n b (set s.words c z) id ρ w) (sym sits.role_is) record {
              seat = k.seat;
              own = k.own;
              other = k.other;
              told_own = k.told_own;
              told_other = k.told_other;
              inside = refl;
              session = k.session;
              shown = k.shown;
              present = λ e. absurd (true≢false (sym e));
              low = λ e. absurd (true≢false (sym e));
            }),
        record { role = refl; slots = refl; carried = refl; inside = refl; session = refl; own = refl; other = refl; reads = record { count = refl; word_is = refl } },
      )

  receiver : Sits n Receiver me → (s : Table) (r : InOrder n s) → get_elem? s.views id ≡ some me.0 → ReceiverKnows n r.now s.words id me.0
  receiver sits s r at = knows_as n s r id me.0 at Receiver sits.role_is

  begins_at : (word : ℕ) → word ≡ control_word me.0.session false false → Sits n Receiver me → me.0.is_open ≡ false → n ≤ me.0.swept → (s : Table) (r : InOrder n s) → get_elem? s.views id ≡ some me.0
      → Outcome s (control_word (me.0.session + 1) true false) (began (step slots (control_at n) word (control_word (me.0.session + 1) true false) none) me (get_or s.words (control_at n) 0))
  begins_at word word_is sits shut swept s r at = let v : RingView = me.0 in let k = receiver sits s r at in let q : ℕ = r.now.session in let c : ℕ = control_at n in
      let z : ℕ = control_word (v.session + 1) true false in let found : ℕ = get_or s.words c 0 in let closed_now : r.now.is_open ≡ false = sym k.is_open ∙ shut in
      let out : r.now.inside ≡ false = none_inside r.now.is_open r.now.inside closed_now r.words_show.within in
      let here : found ≡ control_word v.session false false = r.words_show.control ∙ (λ i. control_word (sym k.session i) (closed_now i) (out i)) in
      let b : Moment = record r.now { session = q + 1; is_open = true } in let ws : List ℕ = set s.words c z in
      let w : RingView = record v { is_open = true; session = q + 1; other = r.now.sent; reads = v.reads + 1; word = found } in (
        w,
        keeps,
        tt,
        receiver_moves n s r b c z id me.1 w k.seat record {
          sent = refl;
          inside = refl;
          putter = refl;
          getter = refl;
          taken = begins_self r.now.taken;
          session = omega arith;
          present = λ on. absurd (not_both r.now.inside on out);
          low = λ on. absurd (not_both r.now.inside on out);
        } (subst (λ y. Shows n (set s.words c (control_word (y + 1) true false)) b) (sym k.session) (begin_shown n s.words r.now r.words_show closed_now out (subst (λ y. n ≤ y) k.swept swept)))
            (subst (λ ρ. KnowsAs n b ws id ρ w) (sym sits.role_is) record {
              seat = k.seat;
              own = k.own;
              other = begins_self r.now.sent;
              told_own = k.told_own;
              told_other = k.told_other;
              is_open = refl;
              session = refl;
              swept = k.swept;
              ended = λ p e. refl;
            }),
        record {
          found = here;
          role = refl;
          slots = refl;
          carried = refl;
          is_open = refl;
          session = ap (λ y. y + 1) (sym k.session);
          own = refl;
          other = k.other;
          ended = λ p e. sym (k.ended p e);
          none_put = r.words_show.none_sent (q + 1) (omega arith);
          none_taken = ap (of_session (q + 1)) k.own ∙ r.words_show.none_taken (q + 1) (omega arith);
          reads = record { count = refl; word_is = refl };
        },
      )

  -- a closed queue has this word, so the exchange is made
  pub begins : (word : ℕ) → word ≡ control_word me.0.session false false → Sits n Receiver me → me.0.is_open ≡ false → n ≤ me.0.swept
      → Allows (InOrder n) slots id me (control_at n) (λ x. either (eqb x word) (control_word (me.0.session + 1) true false) x)
      (began (step slots (control_at n) word (control_word (me.0.session + 1) true false) none) me)
  begins word word_is sits shut swept s r _ at _ = let found : ℕ = get_or s.words (control_at n) 0 in let z : ℕ = control_word (me.0.session + 1) true false in
      let k = receiver sits s r at in let closed_now : r.now.is_open ≡ false = sym k.is_open ∙ shut in
      let here : found ≡ word = r.words_show.control ∙ ((λ i. control_word (sym k.session i) (closed_now i) (none_inside r.now.is_open r.now.inside closed_now r.words_show.within i)) ∙ sym word_is) in
      exchanged found word z (λ y. Outcome s y (began (step slots (control_at n) word z none) me found)) (λ _. begins_at word word_is sits shut swept s r at) (λ not. absurd (not here))

  shuts_at : Sits n Receiver me → me.0.is_open ≡ true → (s : Table) (r : InOrder n s) → get_elem? s.views id ≡ some me.0 → get_or s.words (control_at n) 0 ≡ control_word me.0.session true false
      → Outcome s (control_word me.0.session false false)
      (closed (step slots (control_at n) (control_word me.0.session true false) (control_word me.0.session false false) none) me (get_or s.words (control_at n) 0))
  shuts_at sits opened s r at hit = let v : RingView = me.0 in let k = receiver sits s r at in let q : ℕ = r.now.session in let c : ℕ = control_at n in
      let z : ℕ = control_word v.session false false in let found : ℕ = get_or s.words c 0 in
      let out : r.now.inside ≡ false = no_sender q r.now.is_open r.now.inside (sym k.is_open ∙ opened) (sym r.words_show.control ∙ (hit ∙ ap (λ y. control_word y true false) k.session)) in
      let b : Moment = record r.now { is_open = false; swept = 0 } in let ws : List ℕ = set s.words c z in
      let w : RingView = record v { is_open = false; swept = 0; other = r.now.sent; reads = v.reads + 1; word = found } in (
        w,
        keeps,
        tt,
        receiver_moves n s r b c z id me.1 w k.seat record {
          sent = refl;
          inside = refl;
          putter = refl;
          getter = refl;
          taken = begins_self r.now.taken;
          session = le_refl q;
          present = λ _. refl;
          low = λ on. absurd (not_both r.now.inside on out);
        } (subst (λ y. Shows n (set s.words c (control_word y false false)) b) (sym k.session) (shut_shown n s.words r.now r.words_show out))
            (subst (λ ρ. KnowsAs n b ws id ρ w) (sym sits.role_is) record {
              seat = k.seat;
              own = k.own;
              other = begins_self r.now.sent;
              told_own = k.told_own;
              told_other = k.told_other;
              is_open = refl;
              session = k.session;
              swept = refl;
              ended = λ p e. refl;
            }),
        record {
          hit = λ _. record {
            role = refl;
            slots = refl;
            carried = refl;
            is_open = refl;
            session = refl;
            swept = refl;
            own = refl;
            other = k.other;
            ended = λ p e. sym (k.ended p e);
            front = subst (λ l. Begins (of_session v.session l) (of_session v.session r.now.sent)) (sym k.own) (r.words_show.handed v.session);
            reads = record { count = refl; word_is = refl };
          };
          miss = λ not. absurd (not hit);
        },
      )

  finds_sender : Sits n Receiver me → me.0.is_open ≡ true → (s : Table) (r : InOrder n s) → get_elem? s.views id ≡ some me.0 → get_or s.words (control_at n) 0 ≢ control_word me.0.session true false
      → Outcome s (get_or s.words (control_at n) 0)
      (closed (step slots (control_at n) (control_word me.0.session true false) (control_word me.0.session false false) none) me (get_or s.words (control_at n) 0))
  finds_sender sits opened s r at miss = let v : RingView = me.0 in let k = receiver sits s r at in let q : ℕ = r.now.session in let c : ℕ = control_at n in
      let found : ℕ = get_or s.words c 0 in let w : RingView = record v { shown = v.shown; reads = v.reads + 1; word = found } in
      let word = sender_word q found r.now.is_open r.now.inside (sym k.is_open ∙ opened) (sym r.words_show.control) (λ is. miss (is ∙ ap (λ y. control_word y true false) (sym k.session))) in (
        w,
        keeps,
        tt,
        unmoved n s r c id me.1 w (subst (λ ρ. KnowsAs n r.now s.words id ρ w) (sym sits.role_is) record {
          seat = k.seat;
          own = k.own;
          other = k.other;
          told_own = k.told_own;
          told_other = k.told_other;
          is_open = k.is_open;
          session = k.session;
          swept = k.swept;
          ended = k.ended;
        }),
        record {
          hit = λ e. absurd (miss e);
          miss = λ _. record { only = seen_place me v.shown found; found = word ∙ ap (λ y. control_word y true true) (sym k.session) };
        },
      )

  pub shuts : Sits n Receiver me → me.0.is_open ≡ true
      → Allows (InOrder n) slots id me (control_at n) (λ x. either (eqb x (control_word me.0.session true false)) (control_word me.0.session false false) x)
      (closed (step slots (control_at n) (control_word me.0.session true false) (control_word me.0.session false false) none) me)
  shuts sits opened s r _ at _ = let found : ℕ = get_or s.words (control_at n) 0 in let was : ℕ = control_word me.0.session true false in let z : ℕ = control_word me.0.session false false in
      exchanged found was z (λ y. Outcome s y (closed (step slots (control_at n) was z none) me found)) (shuts_at sits opened s r at) (finds_sender sits opened s r at)

  pub zeroes : Sits n Receiver me → me.0.is_open ≡ false → me.0.swept < n → Allows (InOrder n) slots id me (2 * me.0.swept) (λ _. 0) (λ _. zeroed (step slots (2 * me.0.swept) 0 0 none) me 0)
  zeroes sits shut more s r _ at _ = let v : RingView = me.0 in let k = receiver sits s r at in let closed_now : r.now.is_open ≡ false = sym k.is_open ∙ shut in
      let out : r.now.inside ≡ false = none_inside r.now.is_open r.now.inside closed_now r.words_show.within in
      let b : Moment = record r.now { swept = r.now.swept + 1 } in let w : RingView = record v { swept = v.swept + 1 } in
      let kept = receiver_moves n s r b (2 * r.now.swept) 0 id me.1 w k.seat record {
        sent = refl;
        inside = refl;
        putter = refl;
        getter = refl;
        taken = begins_self r.now.taken;
        session = le_refl r.now.session;
        present = λ _. refl;
        low = λ on. absurd (not_both r.now.inside on out);
      } (zero_shown n s.words r.now r.words_show closed_now (subst (λ y. y < n) k.swept more)) (subst (λ ρ. KnowsAs n b (set s.words (2 * r.now.swept) 0) id ρ w) (sym sits.role_is) record {
        seat = k.seat;
        own = k.own;
        other = k.other;
        told_own = k.told_own;
        told_other = k.told_other;
        is_open = k.is_open;
        session = k.session;
        swept = ap (λ y. y + 1) k.swept;
        ended = k.ended;
      }) in (
        w,
        keeps,
        tt,
        subst (λ y. InOrder n (stepped s (2 * y) 0 id me.1 w keeps)) (sym k.swept) kept,
        record {
          role = refl;
          slots = refl;
          carried = refl;
          is_open = refl;
          session = refl;
          swept = refl;
          own = refl;
          other = refl;
          reads = record { count = refl; word_is = refl };
        },
      )
