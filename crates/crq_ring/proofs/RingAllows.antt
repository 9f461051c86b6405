-- What each kind of step on a slot tells the end that makes it, from any state that meets the rule.
use Rattle.std.proofs.Common.{◌≡◌, ℕ, ◌+◌, ◌-◌, ◌*◌, ◌%◌, ◌<◌, ◌≤◌, Bool, true, false, List, [], ◌∷◌, ◌++◌, length, get_or, set, sym, refl, ap, ◌∙◌, subst, arith, get_or-set_same, get_or-set_other, lt_of_not-le, le_refl}
use Rattle.std.proofs.Math.Nat.{mod-lt, add-mod_right}
use Rattle.std.proofs.Math.ListN.{get_or-append}
use mathlib.Core.Option.{some, none}
use native.Mathlib.Decide.{dec_le}
use lib.ListN.{get_elem?}
use Rattle.atomic_table.specs.Table.{step, keeps, stepped, Allows}
use Rattle.vio_num.specs.declared.entry.Entry.{Entry}
use Rattle.crq_ring.specs.declared.rows.PipeRow.{PipeRow}
use Rattle.crq_ring.specs.declared.view.RingView.{RingView}
use Rattle.crq_ring.specs.declared.view.Role.{Role}
use Rattle.crq_ring.specs.declared.view.Role.TheVariants.{Sender, Receiver}
use Rattle.crq_ring.specs.Control.{IsEnded}
use Rattle.vio_num.specs.Words.{Begins}
use Rattle.crq_ring.specs.RingRule.{Moment, SenderKnows, ReceiverKnows, KnowsAs, Knows, InOrder}
use Rattle.crq_ring.specs.RingSteps.{Seated, own_now, other_now, seated_row, Keeps, probed, staged, sent, looked, read, cleared, heard_room, heard_front}
use Rattle.crq_ring.specs.Sessions.{of_session}
use Rattle.crq_ring.specs.Window.{high_at, low_at, entry_of, entry_at, IsFull, IsVacant, Window}
use Rattle.crq_ring.proofs.Fronts.{blank, begins_self, begins_all, begins_on, begins_less, begins_of}
use Rattle.crq_ring.proofs.Moments.{put_in, taken_in, row_in, more_put, more_taken, low_shown, put_shown, take_shown}
use Rattle.crq_ring.proofs.RingKeeps.{Table, unmoved, sender_moves, receiver_moves}
use Rattle.crq_ring.proofs.Sessions.{of_session-pass}

-- a sender that is inside, and a receiver whose queue is open, at a table of n slots
pub record Inside (n : ℕ) (me : Seated) : Type 0 where
  pub role : me.0.role ≡ Sender
  pub slots : me.0.slots ≡ n
  pub inside : me.0.inside ≡ true

pub record Opened (n : ℕ) (me : Seated) : Type 0 where
  pub role : me.0.role ≡ Receiver
  pub slots : me.0.slots ≡ n
  pub is_open : me.0.is_open ≡ true

zero_vacant : ¬ (IsFull 0)
zero_vacant h = omega arith

pub not_full : (high : ℕ) → IsVacant high → IsFull high → ⊥
not_full high a b = omega arith

-- a session that is not over has not ended
pub not_ended : (session q : ℕ) (is_open : Bool) → is_open ≡ true → IsEnded session is_open q → session ≡ q → ⊥
not_ended session q true o e is = absurd (omega (arith, e, is))
not_ended session q false o e is = absurd (grind (arith, o))

-- the view of an end that learns all that the other did, after so many words of which this is the last
abbrev pub learnt : RingView → List PipeRow → ℕ → ℕ → RingView
learnt v other reads word = record v { other = other; reads = reads; word = word }

module _ (n : ℕ) (s : Table) (r : InOrder n s) (id : ℕ) (v : RingView) (at : get_elem? s.views id ≡ some v) where
  pub knows_as : (role : Role) → v.role ≡ role → KnowsAs n r.now s.words id role v
  knows_as role is = subst (λ ρ. KnowsAs n r.now s.words id ρ v) is (r.each_seat id v at)

  -- what an end knows once it learns all that the other did
  pub sender_learns : (reads word : ℕ) → v.role ≡ Sender → Knows n r.now s.words id (learnt v r.now.taken reads word)
  sender_learns reads word is = let k : SenderKnows n r.now s.words id v = knows_as Sender is in
      subst (λ ρ. KnowsAs n r.now s.words id ρ (learnt v r.now.taken reads word)) (sym is) record {
        seat = k.seat;
        own = k.own;
        other = begins_self r.now.taken;
        told_own = k.told_own;
        told_other = k.told_other;
        inside = k.inside;
        session = k.session;
        shown = k.shown;
        present = k.present;
        low = k.low;
      }

  pub receiver_learns : (reads word : ℕ) → v.role ≡ Receiver → Knows n r.now s.words id (learnt v r.now.sent reads word)
  receiver_learns reads word is = let k : ReceiverKnows n r.now s.words id v = knows_as Receiver is in
      subst (λ ρ. KnowsAs n r.now s.words id ρ (learnt v r.now.sent reads word)) (sym is) record {
        seat = k.seat;
        own = k.own;
        other = begins_self r.now.sent;
        told_own = k.told_own;
        told_other = k.told_other;
        is_open = k.is_open;
        session = k.session;
        swept = k.swept;
        ended = λ q e. refl;
      }

-- a view that differs in what is known, told and read alone
pub same_place : (me : Seated) (own other : List PipeRow) (low reads word : ℕ) → Keeps me (record me.0 { own = own; other = other; low = low; reads = reads; word = word }, me.1)
same_place me own other low reads word = record { role = refl; slots = refl; carried = refl; inside = refl; is_open = refl; session = refl; swept = refl }

module _ (n slots id : ℕ) (me : Seated) where
  -- the lists of the sender's session, where it is inside
  module _ (s : Table) (r : InOrder n s) (at : get_elem? s.views id ≡ some me.0) (sits : Inside n me) where
    sender : SenderKnows n r.now s.words id me.0
    sender = knows_as n s r id me.0 at Sender sits.role

    goes_on : r.now.inside ≡ true
    goes_on = sym sender.inside ∙ sits.inside

    opened_now : r.now.is_open ≡ true
    opened_now = r.words_show.within goes_on

    session_is : me.0.session ≡ r.now.session
    session_is = sender.present goes_on

    own_is : own_now me ≡ put_in r.now
    own_is = λ i. of_session (session_is i) (sender.own i)

    taken_is : of_session me.0.session r.now.taken ≡ taken_in r.now
    taken_is = ap (λ q. of_session q r.now.taken) session_is

    window : Window n s.words (own_now me) (of_session me.0.session r.now.taken)
    window = subst (λ (l : List Entry × List Entry). Window n s.words l.0 l.1) (λ i. (sym own_is i, sym taken_is i)) (r.words_show.slots opened_now)

    known_less : length (other_now me) ≤ length (of_session me.0.session r.now.taken)
    known_less = begins_less (other_now me) (of_session me.0.session r.now.taken) (begins_of me.0.session me.0.other r.now.taken sender.other)

  pub probes : Inside n me → Allows (InOrder n) slots id me (high_at n (length (own_now me))) (λ x. x) (probed (step slots (high_at n (length (own_now me))) 0 0 none) me)
  probes sits s r _ at _ = let v : RingView = me.0 in let k = sender s r at sits in let win = window s r at sits in
      let xs : List Entry = own_now me in let ts : List Entry = of_session v.session r.now.taken in let m : ℕ = length xs in let t : ℕ = length ts in
      let i : ℕ = high_at n m in let found : ℕ = get_or s.words i 0 in let w : RingView = learnt v r.now.taken (v.reads + 1) found in
      let slots_are : v.slots ≡ n = sits.slots in let some_slots : 0 < n = r.words_show.some_slots in let room : m ≤ t + n = win.room in
      let learns = unmoved n s r i id me.1 w (sender_learns n s r id v at (v.reads + 1) found sits.role) in let place = same_place me v.own r.now.taken v.low (v.reads + 1) found in
      elim (dec_le (t + n) m) [
        | yes full ↦ let round : m % n ≡ t % n = (let e : m ≡ t + n = omega arith in ap (λ z. z % n) e ∙ add-mod_right t n) in let back : t ≡ m - n = omega arith in
            let is : found ≡ (entry_at xs (m - n)).high = ap (λ z. get_or s.words (2 * z) 0) round ∙ ((win.full t (omega arith) (omega arith)).high ∙ ap (λ z. (entry_at xs z).high) back) in (
              w,
              keeps,
              tt,
              learns,
              record {
                keeps = place;
                own = refl;
                other = k.other;
                front = win.handed;
                vacant = λ not. absurd (not_full found not (subst IsFull (sym is) (win.marked (m - n) (omega arith))));
                full = λ _. omega arith;
                held = λ _. is ∙ ap (λ z. (entry_at xs (m - z)).high) (sym sits.slots);
                reads = record { count = refl; word_is = refl };
              },
            )
        | no not ↦ let l : m < t + n = lt_of_not-le not in let is : found ≡ 0 = win.vacant m (le_refl m) l in (
          w,
          keeps,
          tt,
          learns,
          record {
            keeps = place;
            own = refl;
            other = k.other;
            front = win.handed;
            vacant = λ _. omega arith;
            full = λ h. absurd (zero_vacant (subst IsFull is h));
            held = λ h. absurd (zero_vacant (subst IsFull is h));
            reads = record { count = refl; word_is = refl };
          },
        )
      ]

  -- the sender knows that its next slot is empty
  pub stages_low : (low : ℕ) → Inside n me → length (own_now me) < length (other_now me) + n
      → Allows (InOrder n) slots id me (low_at n (length (own_now me))) (λ _. low) (λ _. staged (step slots (low_at n (length (own_now me))) low 0 none) me low)
  stages_low low sits vacant s r _ at _ = let v : RingView = me.0 in let k = sender s r at sits in let on = goes_on s r at sits in
      let w : RingView = record v { low = low } in let same : own_now me ≡ put_in r.now = own_is s r at sits in let m : ℕ = length (put_in r.now) in let t : ℕ = length (taken_in r.now) in
      let long : length (own_now me) ≡ m = ap length same in let known : length (other_now me) ≤ t = subst (λ (l : List Entry). length (other_now me) ≤ length l) (taken_is s r at sits) (known_less s r at sits) in
      let x : ℕ = m % n in let inside : x < n = mod-lt m r.words_show.some_slots in let wide : length s.words ≡ 2 * n + 16 = r.words_show.wide in let room : m < t + n = omega arith in
      let there : get_or (set s.words (2 * x + 1) low) (2 * x + 1) 0 ≡ low = get_or-set_same s.words (2 * x + 1) low 0 (omega arith) in
      let kept = sender_moves n s r r.now (2 * x + 1) low id me.1 w k.seat
      record { session = refl; is_open = refl; taken = refl; swept = refl; putter = refl; getter = refl; sent = begins_self r.now.sent; ended = λ q e. refl }
      (low_shown n s.words r.now r.words_show low (opened_now s r at sits) room)
      (subst (λ ρ. KnowsAs n r.now (set s.words (2 * x + 1) low) id ρ w) (sym sits.role) record {
        seat = k.seat;
        own = k.own;
        other = k.other;
        told_own = k.told_own;
        told_other = k.told_other;
        inside = k.inside;
        session = k.session;
        shown = k.shown;
        present = k.present;
        low = λ _. there;
      }) in (
        w,
        keeps,
        tt,
        subst (λ z. InOrder n (stepped s (2 * (z % n) + 1) low id me.1 w keeps)) (sym long) kept,
        record { keeps = same_place me v.own v.other low v.reads v.word; own = refl; other = refl; staged = refl; reads = record { count = refl; word_is = refl } },
      )

  pub sends_high : (high : ℕ) → Inside n me → length (own_now me) < length (other_now me) + n → IsFull high
      → Allows (InOrder n) slots id me (high_at n (length (own_now me))) (λ _. high) (λ _. sent (step slots (high_at n (length (own_now me))) high 0 none) me high)
  sends_high high sits vacant marked s r _ at _ = let v : RingView = me.0 in let k = sender s r at sits in let on = goes_on s r at sits in let opened = opened_now s r at sits in
      let e : Entry = entry_of high v.low in let b : Moment = more_put r.now e in let same : own_now me ≡ put_in r.now = own_is s r at sits in
      let m : ℕ = length (put_in r.now) in let t : ℕ = length (taken_in r.now) in let long : length (own_now me) ≡ m = ap length same in
      let known : length (other_now me) ≤ t = subst (λ (l : List Entry). length (other_now me) ≤ length l) (taken_is s r at sits) (known_less s r at sits) in
      let x : ℕ = m % n in let ws : List ℕ = set s.words (2 * x) high in let room : m < t + n = omega arith in
      let w : RingView = record v { own = v.own ++ seated_row me e ∷ []; low = get_or ws (low_at n (length (put_in b))) 0 } in
      let kept = sender_moves n s r b (2 * x) high id me.1 w k.seat record {
        session = refl;
        is_open = refl;
        taken = refl;
        swept = refl;
        putter = refl;
        getter = refl;
        sent = (row_in r.now e ∷ [], refl);
        ended = λ q over. of_session-pass q (row_in r.now e) r.now.sent (not_ended r.now.session q r.now.is_open opened over);
      } (put_shown n s.words r.now r.words_show e opened room marked (k.low on)) (subst (λ ρ. KnowsAs n b ws id ρ w) (sym sits.role) record {
        seat = k.seat;
        own = λ i. k.own i ++ record { session = session_is s r at sits i; entry = e } ∷ [];
        other = k.other;
        told_own = begins_on v.told_own r.now.sent b.sent k.told_own (row_in r.now e ∷ [], refl);
        told_other = k.told_other;
        inside = k.inside;
        session = k.session;
        shown = k.shown;
        present = k.present;
        low = λ _. refl;
      }) in (
        w,
        keeps,
        tt,
        subst (λ z. InOrder n (stepped s (2 * (z % n)) high id me.1 w keeps)) (sym long) kept,
        record { keeps = same_place me w.own v.other w.low v.reads v.word; own = refl; other = refl; reads = record { count = refl; word_is = refl } },
      )

  -- the lists of the receiver's session, where its queue is open
  module _ (s : Table) (r : InOrder n s) (at : get_elem? s.views id ≡ some me.0) (sits : Opened n me) where
    receiver : ReceiverKnows n r.now s.words id me.0
    receiver = knows_as n s r id me.0 at Receiver sits.role

    is_opened : r.now.is_open ≡ true
    is_opened = sym receiver.is_open ∙ sits.is_open

    took_is : own_now me ≡ taken_in r.now
    took_is = λ i. of_session (receiver.session i) (receiver.own i)

    put_is : of_session me.0.session r.now.sent ≡ put_in r.now
    put_is = ap (λ q. of_session q r.now.sent) receiver.session

    opened_window : Window n s.words (of_session me.0.session r.now.sent) (own_now me)
    opened_window = subst (λ (l : List Entry × List Entry). Window n s.words l.0 l.1) (λ i. (sym put_is i, sym took_is i)) (r.words_show.slots is_opened)

    heard_front_of : Begins (other_now me) (of_session me.0.session r.now.sent)
    heard_front_of = begins_of me.0.session me.0.other r.now.sent receiver.other

  pub looks : Opened n me → Allows (InOrder n) slots id me (high_at n (length (own_now me))) (λ x. x) (looked (step slots (high_at n (length (own_now me))) 0 0 none) me)
  looks sits s r _ at _ = let v : RingView = me.0 in let k = receiver s r at sits in let win = opened_window s r at sits in
      let xs : List Entry = own_now me in let ss : List Entry = of_session v.session r.now.sent in let m : ℕ = length xs in let c : ℕ = length ss in
      let i : ℕ = high_at n m in let found : ℕ = get_or s.words i 0 in let w : RingView = learnt v r.now.sent (v.reads + 1) found in let some_slots : 0 < n = r.words_show.some_slots in
      let learns = unmoved n s r i id me.1 w (receiver_learns n s r id v at (v.reads + 1) found sits.role) in let place = same_place me v.own r.now.sent v.low (v.reads + 1) found in
      elim (dec_le c m) [
        | yes none_left ↦ let is : found ≡ 0 = win.vacant m none_left (omega arith) in (
          w,
          keeps,
          tt,
          learns,
          record {
            keeps = place;
            own = refl;
            other = k.other;
            ended = λ q e. sym (k.ended q e);
            front = win.handed;
            vacant = λ _. begins_all xs ss win.handed none_left;
            full = λ h. absurd (zero_vacant (subst IsFull is h));
            found = λ h. absurd (zero_vacant (subst IsFull is h));
            reads = record { count = refl; word_is = refl };
          },
        )
        | no not ↦ let l : m < c = lt_of_not-le not in let is : found ≡ (entry_at ss m).high = (win.full m (le_refl m) l).high in (
          w,
          keeps,
          tt,
          learns,
          record {
            keeps = place;
            own = refl;
            other = k.other;
            ended = λ q e. sym (k.ended q e);
            front = win.handed;
            vacant = λ empty. absurd (not_full found empty (subst IsFull (sym is) (win.marked m l)));
            full = λ _. l;
            found = λ _. is;
            reads = record { count = refl; word_is = refl };
          },
        )
      ]

  -- the receiver knows that an entry lies in its next slot
  pub reads_low : Opened n me → length (own_now me) < length (other_now me) → Allows (InOrder n) slots id me (low_at n (length (own_now me))) (λ x. x) (read (step slots (low_at n (length (own_now me))) 0 0 none) me)
  reads_low sits more s r _ at _ = let v : RingView = me.0 in let win = opened_window s r at sits in let front = heard_front_of s r at sits in
      let m : ℕ = length (own_now me) in let ss : List Entry = of_session v.session r.now.sent in let known : length (other_now me) ≤ length ss = begins_less (other_now me) ss front in
      let there : entry_at ss m ≡ entry_at (other_now me) m = ap (λ l. entry_at l m) front.1 ∙ get_or-append (other_now me) front.0 blank m more in
      (v, keeps, tt, unmoved n s r (low_at n m) id me.1 v (r.each_seat id v at), record { same = refl; found = (win.full m (le_refl m) (omega arith)).low ∙ ap (λ (z : Entry). z.low) there })

  pub clears_high : Opened n me → length (own_now me) < length (other_now me) → Allows (InOrder n) slots id me (high_at n (length (own_now me))) (λ _. 0) (λ _. cleared (step slots (high_at n (length (own_now me))) 0 0 none) me 0)
  clears_high sits more s r _ at _ = let v : RingView = me.0 in let k = receiver s r at sits in let opened = is_opened s r at sits in let front = heard_front_of s r at sits in
      let m : ℕ = length (own_now me) in let ss : List Entry = of_session v.session r.now.sent in let t : ℕ = length (taken_in r.now) in
      let long : t ≡ m = ap length (sym (took_is s r at sits)) in let all : length ss ≡ length (put_in r.now) = ap length (put_is s r at sits) in
      let known : length (other_now me) ≤ length ss = begins_less (other_now me) ss front in let e' : Entry = entry_at (put_in r.now) t in let b : Moment = more_taken r.now e' in
      let there : entry_at (other_now me) m ≡ e' = sym (get_or-append (other_now me) front.0 blank m more) ∙ (ap (λ l. entry_at l m) (sym front.1) ∙ (λ i. entry_at (put_is s r at sits i) (sym long i))) in
      let e : Entry = entry_at (other_now me) m in let w : RingView = record v { own = v.own ++ seated_row me e ∷ [] } in let x : ℕ = t % n in
      let inside : x < n = mod-lt t r.words_show.some_slots in
      let kept = receiver_moves n s r b (2 * x) 0 id me.1 w k.seat record {
        sent = refl;
        inside = refl;
        putter = refl;
        getter = refl;
        taken = (row_in r.now e' ∷ [], refl);
        session = le_refl r.now.session;
        present = λ _. refl;
        low = λ _. let z : ℕ = length (put_in r.now) % n in get_or-set_other s.words (2 * x) (2 * z + 1) 0 0 (λ is. omega arith);
      } (take_shown n s.words r.now r.words_show opened (omega arith)) (subst (λ ρ. KnowsAs n b (set s.words (2 * x) 0) id ρ w) (sym sits.role) record {
        seat = k.seat;
        own = λ i. k.own i ++ record { session = k.session i; entry = there i } ∷ [];
        other = k.other;
        told_own = begins_on v.told_own r.now.taken b.taken k.told_own (row_in r.now e' ∷ [], refl);
        told_other = k.told_other;
        is_open = k.is_open;
        session = k.session;
        swept = k.swept;
        ended = k.ended;
      }) in (
        w,
        keeps,
        tt,
        subst (λ z. InOrder n (stepped s (2 * (z % n)) 0 id me.1 w keeps)) long kept,
        record { keeps = same_place me w.own v.other v.low v.reads v.word; own = refl; other = refl; reads = record { count = refl; word_is = refl } },
      )

  -- an end's load of any word, here the first, after it was handed a note
  pub hears_room : me.0.role ≡ Sender → Allows (InOrder n) slots id me 0 (λ x. x) (heard_room (step slots 0 0 0 none) me)
  hears_room is s r _ at _ = let v : RingView = me.0 in let k : SenderKnows n r.now s.words id v = knows_as n s r id v at Sender is in
      let w : RingView = learnt v r.now.taken v.reads v.word in let q : ℕ = v.session in (
        w,
        keeps,
        tt,
        unmoved n s r 0 id me.1 w (sender_learns n s r id v at v.reads v.word is),
        (
          record {
            keeps = same_place me v.own r.now.taken v.low v.reads v.word;
            own = refl;
            other = k.other;
            told_own = subst (λ l. Begins v.told_own l) (sym k.own) k.told_own;
            told_other = k.told_other;
            reads = record { count = refl; word_is = refl };
          },
          subst (λ l. Begins (of_session q r.now.taken) (of_session q l)) (sym k.own) (r.words_show.handed q),
        ),
      )

  pub hears_front : me.0.role ≡ Receiver → Allows (InOrder n) slots id me 0 (λ x. x) (heard_front (step slots 0 0 0 none) me)
  hears_front is s r _ at _ = let v : RingView = me.0 in let k : ReceiverKnows n r.now s.words id v = knows_as n s r id v at Receiver is in
      let w : RingView = learnt v r.now.sent v.reads v.word in let q : ℕ = v.session in (
        w,
        keeps,
        tt,
        unmoved n s r 0 id me.1 w (receiver_learns n s r id v at v.reads v.word is),
        (
          record {
            keeps = same_place me v.own r.now.sent v.low v.reads v.word;
            own = refl;
            other = k.other;
            told_own = subst (λ l. Begins v.told_own l) (sym k.own) k.told_own;
            told_other = k.told_other;
            reads = record { count = refl; word_is = refl };
          },
          subst (λ l. Begins (of_session q l) (of_session q r.now.sent)) (sym k.own) (r.words_show.handed q),
          λ p e. sym (k.ended p e),
        ),
      )
