-- What a control word says by its parts.
use Rattle.std.proofs.Common.{◌≡◌, ◌≢◌, ℕ, zero, suc, ◌+◌, ◌*◌, ◌/◌, ◌%◌, ◌<◌, ◌≤◌, ◌⊎◌, Bool, true, false, true≢false, sym, refl, ap, ◌∙◌, inl, inr, arith, bit_and, w64}
use Rattle.std.proofs.lemmas.Nat.Bits.{same_from_bits_below, bit_at_lowest, bit_at-suc, bit_at_clear_same, bit_at_clear_other}
use Rattle.std.proofs.lemmas.Nat.{and_le_l}
use Rattle.std.specs.Int.{bit_at}
use Rattle.crq_ring.specs.Control.{control_word}
use Rattle.crq_ring.proofs.Moments.{not_both}

-- its session, and that it has no bit but the low two besides
pub word_of : (q : ℕ) (o i : Bool) → (control_word q o i / 8 ≡ q) × (control_word q o i % 8 < 4)
word_of q true true = (omega arith, omega arith)
word_of q true false = (omega arith, omega arith)
word_of q false true = (omega arith, omega arith)
word_of q false false = (omega arith, omega arith)

pub outside_word : (q : ℕ) (o i : Bool) → i ≡ false → control_word q o i % 8 < 2
outside_word q true false e = omega arith
outside_word q false false e = omega arith
outside_word q true true e = absurd (true≢false e)
outside_word q false true e = absurd (true≢false e)

pub inside_word : (q : ℕ) (o i : Bool) → i ≡ true → (i ≡ true → o ≡ true) → control_word q o i ≡ control_word q true true
inside_word q true true e w = refl
inside_word q false true e w = absurd (true≢false (sym (w refl)))
inside_word q o false e w = absurd (true≢false (sym e))

-- an open word without a sender is of an open session
pub open_word : (q word : ℕ) (o i : Bool) → control_word q o i ≡ word → i ≡ false → word % 8 ≡ 1 → (o ≡ true) × (word ≡ control_word q true false)
open_word q word true false e f m = (refl, sym e)
open_word q word false false e f m = absurd (omega (arith, e, m))
open_word q word o true e f m = absurd (true≢false f)

-- another word than an open one without a sender: it is not open, or of a later session
pub other_word : (q seen word : ℕ) (o i : Bool) → i ≡ false → seen % 8 ≡ 1 → seen / 8 ≤ q → control_word q o i ≡ word → word ≢ seen → (word % 2 ≡ 0) ⊎ (seen / 8 < word / 8)
other_word q seen word true false f m least e not = inr (later q seen word m least e not)
  where
    later : (q seen word : ℕ) → seen % 8 ≡ 1 → seen / 8 ≤ q → 8 * q + 0 + 1 ≡ word → word ≢ seen → seen / 8 < word / 8
    later q seen word m least e not = let differ : q ≢ seen / 8 = (λ is. not (omega (arith, e, m, is))) in omega (arith, m, least, e, differ)
other_word q seen word false false f m least e not = inl (omega (arith, e))
other_word q seen word o true f m least e not = absurd (true≢false f)

-- the receiver's open word: another one shows a sender inside
pub sender_word : (q word : ℕ) (o i : Bool) → o ≡ true → control_word q o i ≡ word → word ≢ control_word q true false → word ≡ control_word q true true
sender_word q word true true o e not = sym e
sender_word q word true false o e not = absurd (not (sym e))
sender_word q word false i o e not = absurd (true≢false (sym o))

pub no_sender : (q : ℕ) (o i : Bool) → o ≡ true → control_word q o i ≡ control_word q true false → i ≡ false
no_sender q true false o e = refl
no_sender q true true o e = absurd (omega (arith, e))
no_sender q false i o e = absurd (true≢false (sym o))

pub none_inside : (o i : Bool) → o ≡ false → (i ≡ true → o ≡ true) → i ≡ false
none_inside o false f w = refl
none_inside o true f w = absurd (not_both o (w refl) f)

-- clearing the sender's bit
cleared_bits : (q i : ℕ) → i < 64 → bit_at (bit_and (8 * q + 3) 18446744073709551613) i ≡ bit_at (8 * q + 1) i
cleared_bits q zero l = bit_at_clear_other w64 (8 * q + 3) 1 (omega arith) 0 (omega arith) (λ e. omega arith) ∙ (bit_at_lowest (8 * q + 3) ∙ ((let a : (8 * q + 3) % 2 ≡ (8 * q + 1) % 2 = omega arith in a) ∙ sym (bit_at_lowest (8 * q + 1))))
cleared_bits q (suc zero) l = bit_at_clear_same w64 (8 * q + 3) 1 (omega arith) ∙ sym (bit_at-suc (8 * q + 1) 0 ∙ (bit_at_lowest ((8 * q + 1) / 2) ∙ (let a : ((8 * q + 1) / 2) % 2 ≡ 0 = omega arith in a)))
cleared_bits q (suc (suc i)) l = let halves : (8 * q + 3) / 2 / 2 ≡ (8 * q + 1) / 2 / 2 = omega arith in bit_at_clear_other w64 (8 * q + 3) 1 (omega arith) (suc (suc i)) l (λ e. omega arith)
    ∙ (bit_at-suc (8 * q + 3) (suc i) ∙ (bit_at-suc ((8 * q + 3) / 2) i ∙ (ap (λ y. bit_at y i) halves ∙ sym (bit_at-suc (8 * q + 1) (suc i) ∙ bit_at-suc ((8 * q + 1) / 2) i))))

pub cleared_is : (q : ℕ) → 8 * q + 3 < 18446744073709551616 → bit_and (8 * q + 3) 18446744073709551613 ≡ 8 * q + 1
cleared_is q l = same_from_bits_below 64 _ _ (let a : bit_and (8 * q + 3) 18446744073709551613 ≤ 8 * q + 3 = and_le_l (8 * q + 3) 18446744073709551613 in omega arith) (omega arith) (cleared_bits q)
