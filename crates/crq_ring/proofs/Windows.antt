-- What a store leaves of the slots of a session.
use Rattle.std.proofs.Common.{◌≡◌, ℕ, ◌+◌, ◌*◌, ◌%◌, ◌<◌, ◌≤◌, ◌≢◌, List, [], ◌∷◌, ◌++◌, length, get_or, set, sym, refl, ap, ◌∙◌, subst, arith, get_or-set_other, get_or-set_same}
use Rattle.std.proofs.Math.Nat.{mod-lt, add-mod_right}
use Rattle.std.proofs.Math.ListN.{get_or-append}
use Rattle.std.proofs.lemmas.List.{get_or_push, length-append}
use mathlib.Core.Logic.{dite}
use native.Mathlib.Decide.{ℕ_discrete}
use Rattle.atomic_table.proofs.Lists.{one_turn}
use Rattle.vio_num.specs.declared.entry.Entry.{Entry}
use Rattle.crq_ring.specs.Window.{words_of, control_at, high_at, low_at, entry_at, IsFull, Lies, Window}
use Rattle.crq_ring.proofs.Fronts.{blank, begins_self, begins_on, begins_less, begins_more}

-- two entries less than n apart have slots of their own
pub apart : (n a b : ℕ) → a < b → b < a + n → a % n ≢ b % n
apart n a b less near e = let same = one_turn a b n (omega arith) near e in omega arith

-- what one word of a slot is after a store at another
module _ (ws : List ℕ) (x y z : ℕ) where
  pub high_high : y ≢ x → get_or (set ws (2 * x) z) (2 * y) 0 ≡ get_or ws (2 * y) 0
  high_high d = get_or-set_other ws (2 * x) (2 * y) z 0 (λ e. d (omega arith))

  pub high_low : get_or (set ws (2 * x) z) (2 * y + 1) 0 ≡ get_or ws (2 * y + 1) 0
  high_low = get_or-set_other ws (2 * x) (2 * y + 1) z 0 (λ e. omega arith)

  pub low_high : get_or (set ws (2 * x + 1) z) (2 * y) 0 ≡ get_or ws (2 * y) 0
  low_high = get_or-set_other ws (2 * x + 1) (2 * y) z 0 (λ e. omega arith)

  pub low_low : y ≢ x → get_or (set ws (2 * x + 1) z) (2 * y + 1) 0 ≡ get_or ws (2 * y + 1) 0
  low_low d = get_or-set_other ws (2 * x + 1) (2 * y + 1) z 0 (λ e. d (omega arith))

-- the control word is no word of a slot
module _ (n : ℕ) (ws : List ℕ) (x z : ℕ) (inside : x < n) where
  pub control_high : get_or (set ws (control_at n) z) (2 * x) 0 ≡ get_or ws (2 * x) 0
  control_high = get_or-set_other ws (2 * n + 8) (2 * x) z 0 (λ e. omega arith)

  pub control_low : get_or (set ws (control_at n) z) (2 * x + 1) 0 ≡ get_or ws (2 * x + 1) 0
  control_low = get_or-set_other ws (2 * n + 8) (2 * x + 1) z 0 (λ e. omega arith)

  pub high_control : get_or (set ws (2 * x) z) (control_at n) 0 ≡ get_or ws (control_at n) 0
  high_control = get_or-set_other ws (2 * x) (2 * n + 8) z 0 (λ e. omega arith)

  pub low_control : get_or (set ws (2 * x + 1) z) (control_at n) 0 ≡ get_or ws (control_at n) 0
  low_control = get_or-set_other ws (2 * x + 1) (2 * n + 8) z 0 (λ e. omega arith)

module _ (n : ℕ) (ws : List ℕ) (sent taken : List Entry) (some_slots : 0 < n) (w : Window n ws sent taken) where
  pub control_stored : (z : ℕ) → Window n (set ws (control_at n) z) sent taken
  control_stored z = record {
    handed = w.handed;
    room = w.room;
    marked = w.marked;
    full = λ k a b. let old = w.full k a b in record {
      high = control_high n ws (k % n) z (mod-lt k some_slots) ∙ old.high;
      low = control_low n ws (k % n) z (mod-lt k some_slots) ∙ old.low;
    };
    vacant = λ k a b. control_high n ws (k % n) z (mod-lt k some_slots) ∙ w.vacant k a b;
  }

  pub low_stored : (z : ℕ) → length sent < length taken + n → Window n (set ws (low_at n (length sent)) z) sent taken
  low_stored z vacant = let m : ℕ = length sent in let x : ℕ = m % n in record {
    handed = w.handed;
    room = w.room;
    marked = w.marked;
    full = λ k a b. let old = w.full k a b in let y : ℕ = k % n in record { high = low_high ws x y z ∙ old.high; low = low_low ws x y z (apart n k m b (omega arith)) ∙ old.low };
    vacant = λ k a b. low_high ws x (k % n) z ∙ w.vacant k a b;
  }

  pub high_stored : (e : Entry) → length ws ≡ words_of n → length sent < length taken + n → IsFull e.high → get_or ws (low_at n (length sent)) 0 ≡ e.low
      → Window n (set ws (high_at n (length sent)) e.high) (sent ++ e ∷ []) taken
  high_stored e wide vacant marked low = let m : ℕ = length sent in let t : ℕ = length taken in let x : ℕ = m % n in let more : List Entry = sent ++ e ∷ [] in
      let long : length more ≡ m + 1 = length-append sent (e ∷ []) in let below : t ≤ m = begins_less taken sent w.handed in let inside : x < n = mod-lt m some_slots in
      let there : entry_at more m ≡ e = get_or_push sent e blank m refl in let total : length ws ≡ 2 * n + 16 = wide in record {
        handed = begins_on taken sent more w.handed (e ∷ [], refl);
        room = omega arith;
        marked = λ k a. dite (ℕ_discrete k m) (λ is. subst (λ (z : Entry). IsFull z.high) (sym (ap (entry_at more) is ∙ there)) marked)
            (λ not. let l : k < m = omega arith in subst (λ (z : Entry). IsFull z.high) (sym (get_or-append sent (e ∷ []) blank k l)) (w.marked k l));
        full = λ k a b. let y : ℕ = k % n in dite (ℕ_discrete k m)
            (λ is. subst (Lies n more (set ws (2 * x) e.high)) (sym is) record {
              high = get_or-set_same ws (2 * x) e.high 0 (omega arith) ∙ ap (λ (z : Entry). z.high) (sym there);
              low = high_low ws x x e.high ∙ (low ∙ ap (λ (z : Entry). z.low) (sym there));
            })
            (λ not. let l : k < m = omega arith in let old = w.full k a l in let same : entry_at more k ≡ entry_at sent k = get_or-append sent (e ∷ []) blank k l in record {
              high = high_high ws x y e.high (apart n k m l (omega arith)) ∙ (old.high ∙ ap (λ (z : Entry). z.high) (sym same));
              low = high_low ws x y e.high ∙ (old.low ∙ ap (λ (z : Entry). z.low) (sym same));
            });
        vacant = λ k a b. let other = apart n m k (omega arith) (omega arith) in high_high ws x (k % n) e.high (λ is. other (sym is)) ∙ w.vacant k (omega arith) b;
      }

  pub high_cleared : length ws ≡ words_of n → length taken < length sent → Window n (set ws (high_at n (length taken)) 0) sent (taken ++ entry_at sent (length taken) ∷ [])
  high_cleared wide held = let m : ℕ = length sent in let t : ℕ = length taken in let x : ℕ = t % n in let e : Entry = entry_at sent t in let more : List Entry = taken ++ e ∷ [] in
      let long : length more ≡ t + 1 = length-append taken (e ∷ []) in let room : m ≤ t + n = w.room in let inside : x < n = mod-lt t some_slots in let total : length ws ≡ 2 * n + 16 = wide in record {
        handed = begins_more taken sent w.handed.0 w.handed.1 held;
        room = omega arith;
        marked = w.marked;
        full = λ k a b. let old = w.full k (omega arith) b in let other = apart n t k (omega arith) (omega arith) in record {
          high = high_high ws x (k % n) 0 (λ is. other (sym is)) ∙ old.high;
          low = high_low ws x (k % n) 0 ∙ old.low;
        };
        vacant = λ k a b. dite (ℕ_discrete k (t + n))
            (λ is. let same : k % n ≡ x = ap (λ i. i % n) is ∙ add-mod_right t n in subst (λ i. get_or (set ws (2 * x) 0) (2 * i) 0 ≡ 0) (sym same) (get_or-set_same ws (2 * x) 0 0 (omega arith)))
            (λ not. let other = apart n t k (omega arith) (omega arith) in high_high ws x (k % n) 0 (λ is. other (sym is)) ∙ w.vacant k a (omega arith));
      }

-- a new session, over slots that were all zeroed
pub no_entries : (n : ℕ) (ws : List ℕ) → 0 < n → ((k : ℕ) → k < n → get_or ws (2 * k) 0 ≡ 0) → Window n ws [] []
no_entries n ws some_slots zeros = record {
  handed = begins_self [];
  room = omega arith;
  marked = λ k a. absurd (omega arith);
  full = λ k a b. absurd (omega arith);
  vacant = λ k a b. zeros (k % n) (mod-lt k some_slots);
}
