-- What a step on a ring's words leaves of what they show.
use Rattle.std.proofs.Common.{◌≡◌, ℕ, ◌+◌, ◌*◌, ◌%◌, ◌<◌, ◌≤◌, Bool, true, false, true≢false, List, [], ◌∷◌, ◌++◌, length, get_or, set, sym, refl, ap, ◌∙◌, subst, arith, length-set, get_or-set_same}
use Rattle.std.proofs.Math.Nat.{mod-lt}
use mathlib.Core.Logic.{dite}
use native.Mathlib.Decide.{ℕ_discrete}
use Rattle.vio_num.specs.declared.entry.Entry.{Entry}
use Rattle.crq_ring.specs.declared.rows.PipeRow.{PipeRow}
use Rattle.crq_ring.specs.Control.{control_word}
use Rattle.vio_num.specs.Words.{Begins}
use Rattle.crq_ring.specs.RingRule.{Moment, Shows}
use Rattle.crq_ring.specs.Sessions.{of_session}
use Rattle.crq_ring.specs.Window.{control_at, high_at, low_at, entry_at, IsFull, Window}
use Rattle.crq_ring.proofs.Sessions.{of_session-push, of_session-pass}
use Rattle.crq_ring.proofs.Windows.{high_high, control_high, high_control, low_control, control_stored, low_stored, high_stored, high_cleared, no_entries}

-- what was put, and taken, in the last session
abbrev pub put_in : Moment → List Entry
put_in a = of_session a.session a.sent

abbrev pub taken_in : Moment → List Entry
taken_in a = of_session a.session a.taken

abbrev pub row_in : Moment → Entry → PipeRow
row_in a e = record { session = a.session; entry = e }

-- the moment after one more entry was put, or taken
abbrev pub more_put : Moment → Entry → Moment
more_put a e = record a { sent = a.sent ++ row_in a e ∷ [] }

abbrev pub more_taken : Moment → Entry → Moment
more_taken a e = record a { taken = a.taken ++ row_in a e ∷ [] }

pub not_both : (b : Bool) → b ≡ true → b ≡ false → ⊥
not_both b t f = true≢false (sym t ∙ f)

module _ (n : ℕ) (ws : List ℕ) (a : Moment) (h : Shows n ws a) where
  -- the sender writes the low half of its next slot
  pub low_shown : (low : ℕ) → a.is_open ≡ true → length (put_in a) < length (taken_in a) + n → Shows n (set ws (low_at n (length (put_in a))) low) a
  low_shown low opened vacant = let x : ℕ = length (put_in a) % n in record {
    some_slots = h.some_slots;
    wide = length-set ws (2 * x + 1) low ∙ h.wide;
    control = low_control n ws x low (mod-lt (length (put_in a)) h.some_slots) ∙ h.control;
    within = h.within;
    handed = h.handed;
    room = h.room;
    none_sent = h.none_sent;
    none_taken = h.none_taken;
    slots = λ o. low_stored n ws (put_in a) (taken_in a) h.some_slots (h.slots o) low vacant;
    zeros = λ shut. absurd (not_both a.is_open opened shut);
  }

  -- the sender writes the high half: one more entry is put
  pub put_shown : (e : Entry) → a.is_open ≡ true → length (put_in a) < length (taken_in a) + n → IsFull e.high → get_or ws (low_at n (length (put_in a))) 0 ≡ e.low
      → Shows n (set ws (high_at n (length (put_in a))) e.high) (more_put a e)
  put_shown e opened vacant marked low = let q : ℕ = a.session in let x : ℕ = length (put_in a) % n in let more : List PipeRow = a.sent ++ row_in a e ∷ [] in
      let now : of_session q more ≡ put_in a ++ e ∷ [] = of_session-push (row_in a e) a.sent in
      let win : Window n (set ws (2 * x) e.high) (put_in a ++ e ∷ []) (taken_in a) = high_stored n ws (put_in a) (taken_in a) h.some_slots (h.slots opened) e h.wide vacant marked low in record {
        some_slots = h.some_slots;
        wide = length-set ws (2 * x) e.high ∙ h.wide;
        control = high_control n ws x e.high (mod-lt (length (put_in a)) h.some_slots) ∙ h.control;
        within = h.within;
        handed = λ p. dite (ℕ_discrete q p)
            (λ is. subst (λ z. Begins (of_session z a.taken) (of_session z more)) is (subst (λ l. Begins (taken_in a) l) (sym now) win.handed))
            (λ not. subst (λ l. Begins (of_session p a.taken) l) (sym (of_session-pass p (row_in a e) a.sent not)) (h.handed p));
        room = λ p. dite (ℕ_discrete q p)
            (λ is. subst (λ z. length (of_session z more) ≤ length (of_session z a.taken) + n) is (subst (λ (l : List Entry). length l ≤ length (taken_in a) + n) (sym now) win.room))
            (λ not. subst (λ (l : List Entry). length l ≤ length (of_session p a.taken) + n) (sym (of_session-pass p (row_in a e) a.sent not)) (h.room p));
        none_sent = λ p later. of_session-pass p (row_in a e) a.sent (λ is. absurd (omega (arith, is, later))) ∙ h.none_sent p later;
        none_taken = h.none_taken;
        slots = λ _. subst (λ l. Window n (set ws (2 * x) e.high) l (taken_in a)) (sym now) win;
        zeros = λ shut. absurd (not_both a.is_open opened shut);
      }

  -- the receiver clears the high half: one more entry is taken
  pub take_shown : a.is_open ≡ true → length (taken_in a) < length (put_in a)
      → Shows n (set ws (high_at n (length (taken_in a))) 0) (more_taken a (entry_at (put_in a) (length (taken_in a))))
  take_shown opened held = let q : ℕ = a.session in let x : ℕ = length (taken_in a) % n in let e : Entry = entry_at (put_in a) (length (taken_in a)) in let more : List PipeRow = a.taken ++ row_in a e ∷ [] in
      let now : of_session q more ≡ taken_in a ++ e ∷ [] = of_session-push (row_in a e) a.taken in
      let win : Window n (set ws (2 * x) 0) (put_in a) (taken_in a ++ e ∷ []) = high_cleared n ws (put_in a) (taken_in a) h.some_slots (h.slots opened) h.wide held in record {
        some_slots = h.some_slots;
        wide = length-set ws (2 * x) 0 ∙ h.wide;
        control = high_control n ws x 0 (mod-lt (length (taken_in a)) h.some_slots) ∙ h.control;
        within = h.within;
        handed = λ p. dite (ℕ_discrete q p)
            (λ is. subst (λ z. Begins (of_session z more) (of_session z a.sent)) is (subst (λ l. Begins l (put_in a)) (sym now) win.handed))
            (λ not. subst (λ l. Begins l (of_session p a.sent)) (sym (of_session-pass p (row_in a e) a.taken not)) (h.handed p));
        room = λ p. dite (ℕ_discrete q p)
            (λ is. subst (λ z. length (of_session z a.sent) ≤ length (of_session z more) + n) is (subst (λ (l : List Entry). length (put_in a) ≤ length l + n) (sym now) win.room))
            (λ not. subst (λ (l : List Entry). length (of_session p a.sent) ≤ length l + n) (sym (of_session-pass p (row_in a e) a.taken not)) (h.room p));
        none_sent = h.none_sent;
        none_taken = λ p later. of_session-pass p (row_in a e) a.taken (λ is. absurd (omega (arith, is, later))) ∙ h.none_taken p later;
        slots = λ _. subst (λ l. Window n (set ws (2 * x) 0) (put_in a) l) (sym now) win;
        zeros = λ shut. absurd (not_both a.is_open opened shut);
      }

  control_here : (z : ℕ) → get_or (set ws (control_at n) z) (control_at n) 0 ≡ z
  control_here z = let total : length ws ≡ 2 * n + 16 = h.wide in get_or-set_same ws (2 * n + 8) z 0 (omega arith)

  -- the sender's bit of the control word is set, or cleared
  pub bit_shown : (inside : Bool) → a.is_open ≡ true → Shows n (set ws (control_at n) (control_word a.session true inside)) (record a { inside = inside })
  bit_shown inside opened = let z : ℕ = control_word a.session true inside in record {
    some_slots = h.some_slots;
    wide = length-set ws (2 * n + 8) z ∙ h.wide;
    control = control_here z ∙ ap (λ b. control_word a.session b inside) (sym opened);
    within = λ _. opened;
    handed = h.handed;
    room = h.room;
    none_sent = h.none_sent;
    none_taken = h.none_taken;
    slots = λ o. control_stored n ws (put_in a) (taken_in a) h.some_slots (h.slots o) z;
    zeros = λ shut. absurd (not_both a.is_open opened shut);
  }

  -- the queue is closed
  pub shut_shown : a.inside ≡ false → Shows n (set ws (control_at n) (control_word a.session false false)) (record a { is_open = false; swept = 0 })
  shut_shown out = let z : ℕ = control_word a.session false false in record {
    some_slots = h.some_slots;
    wide = length-set ws (2 * n + 8) z ∙ h.wide;
    control = control_here z ∙ ap (λ b. control_word a.session false b) (sym out);
    within = λ on. absurd (not_both a.inside on out);
    handed = h.handed;
    room = h.room;
    none_sent = h.none_sent;
    none_taken = h.none_taken;
    slots = λ o. absurd (true≢false (sym o));
    zeros = λ _ k none. absurd (omega (arith, none));
  }

  -- one more slot of the closed queue is zeroed
  pub zero_shown : a.is_open ≡ false → a.swept < n → Shows n (set ws (2 * a.swept) 0) (record a { swept = a.swept + 1 })
  zero_shown shut more = let total : length ws ≡ 2 * n + 16 = h.wide in record {
    some_slots = h.some_slots;
    wide = length-set ws (2 * a.swept) 0 ∙ h.wide;
    control = high_control n ws a.swept 0 more ∙ h.control;
    within = h.within;
    handed = h.handed;
    room = h.room;
    none_sent = h.none_sent;
    none_taken = h.none_taken;
    slots = λ o. absurd (not_both a.is_open o shut);
    zeros = λ _ k below inside. dite (ℕ_discrete k a.swept)
        (λ is. subst (λ i. get_or (set ws (2 * a.swept) 0) (2 * i) 0 ≡ 0) (sym is) (get_or-set_same ws (2 * a.swept) 0 0 (omega (arith, more))))
        (λ not. high_high ws a.swept k 0 not ∙ h.zeros shut k (omega (arith, below, not)) inside);
  }

  -- the next session begins, over slots that were all zeroed
  pub begin_shown : a.is_open ≡ false → a.inside ≡ false → n ≤ a.swept
      → Shows n (set ws (control_at n) (control_word (a.session + 1) true false)) (record a { session = a.session + 1; is_open = true })
  begin_shown shut out swept = let z : ℕ = control_word (a.session + 1) true false in record {
    some_slots = h.some_slots;
    wide = length-set ws (2 * n + 8) z ∙ h.wide;
    control = control_here z ∙ ap (λ b. control_word (a.session + 1) true b) (sym out);
    within = λ _. refl;
    handed = h.handed;
    room = h.room;
    none_sent = λ p later. h.none_sent p (omega (arith, later));
    none_taken = λ p later. h.none_taken p (omega (arith, later));
    slots = λ _. subst (λ (l : List Entry × List Entry). Window n (set ws (2 * n + 8) z) l.0 l.1)
        (λ i. (sym (h.none_sent (a.session + 1) (omega arith)) i, sym (h.none_taken (a.session + 1) (omega arith)) i))
        (no_entries n (set ws (2 * n + 8) z) h.some_slots (λ k inside. control_high n ws k z inside ∙ h.zeros shut k (omega (arith, swept, inside)) inside));
    zeros = λ o. absurd (true≢false o);
  }
