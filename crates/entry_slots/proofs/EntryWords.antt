-- What an entry's word shows, and what a pin more or less makes of it.
use Rattle.std.proofs.Common.{◌≡◌, ℕ, zero, suc, ◌+◌, ◌-◌, ◌*◌, ◌/◌, ◌%◌, ◌<◌, ◌≤◌, Bool, true, false, IsTrue, if◌then◌else◌, refl, ap, ◌∙◌, inl, inr, arith}
use Rattle.std.proofs.Math.Nat.{mod-eq_of_lt}
use mathlib.Core.Logic.{dite}
use native.Mathlib.Decide.{ℕ_discrete}
use Rattle.tce_window.specs.Grant.{has_right, told}
use Rattle.entry_slots.specs.Words.{code_of, HasRoom, entry_word, pins_in, code_in, version_in, told_in, IsOther}

module _ (pins code version : ℕ) (few : pins < 131072) where
  pub shown_pins : pins_in (entry_word pins code version) ≡ pins
  shown_pins = let k : ℕ = code + 1024 * version in let goal : (pins + 131072 * k) % 131072 ≡ pins = omega (arith, few) in goal

  pub shown_code : code < 1024 → code_in (entry_word pins code version) ≡ code
  shown_code small = let k : ℕ = code + 1024 * version in let up : (pins + 131072 * k) / 131072 ≡ k = omega (arith, few) in
      let goal : (pins + 131072 * k) / 131072 % 1024 ≡ code = omega (arith, up, small) in goal

  pub shown_version : code < 1024 → version_in (entry_word pins code version) ≡ version
  shown_version small = let k : ℕ = code + 1024 * version in let up : (pins + 131072 * k) / 131072 ≡ k = omega (arith, few) in
      let goal : (pins + 131072 * k) / 131072 / 1024 ≡ version = omega (arith, up, small) in goal

  -- one pin more
  pub one_more : pins + 1 < 131072 → entry_word pins code version < 18446744073709551616 → (entry_word pins code version + 1) % 18446744073709551616 ≡ entry_word (pins + 1) code version
  one_more room small = let k : ℕ = code + 1024 * version in let small' : pins + 131072 * k < 18446744073709551616 = small in let fits : pins + 131072 * k + 1 < 18446744073709551616 = omega (arith, room, small') in
      let same : (pins + 131072 * k + 1) % 18446744073709551616 ≡ pins + 131072 * k + 1 = mod-eq_of_lt fits in let goal : (pins + 131072 * k + 1) % 18446744073709551616 ≡ (pins + 1) + 131072 * k = omega (arith, same) in goal

  -- one pin less
  pub one_less : (less : ℕ) → pins ≡ less + 1 → entry_word pins code version < 18446744073709551616 → (entry_word pins code version + (18446744073709551616 - 1)) % 18446744073709551616 ≡ entry_word less code version
  one_less less is small = let k : ℕ = code + 1024 * version in let small' : pins + 131072 * k < 18446744073709551616 = small in
      let goal : (pins + 131072 * k + (18446744073709551616 - 1)) % 18446744073709551616 ≡ less + 131072 * k = omega (arith, is, small') in goal

-- a code of a page and rights, or 0, is that of one value as it is told
code_fits : (b : Bool) (tce : ℕ) → (IsTrue b → tce / 4096 < 256) → (if b then tce / 4096 * 4 + tce % 4 else 0) < 1024
code_fits false tce room = omega arith
code_fits true tce room = let page = room refl in omega (arith, page)

pub fits : (tce : ℕ) → HasRoom tce → code_of tce < 1024
fits tce room = code_fits (has_right tce) tce room

told_by : (b : Bool) (code tce : ℕ) → code ≡ (if b then tce / 4096 * 4 + tce % 4 else 0) → code / 4 * 4096 + code % 4 ≡ (if b then tce / 4096 * 4096 + tce % 4 else 0)
told_by false code tce is = omega (arith, is)
told_by true code tce is = omega (arith, is)

pub told_shown : (word tce : ℕ) → code_in word ≡ code_of tce → told_in word ≡ told tce
told_shown word tce is = told_by (has_right tce) (code_in word) tce is

code_by : (b : Bool) (code tce : ℕ) → code / 4 * 4096 + code % 4 ≡ (if b then tce / 4096 * 4096 + tce % 4 else 0) → code ≡ (if b then tce / 4096 * 4 + tce % 4 else 0)
code_by false code tce is = omega (arith, is)
code_by true code tce is = omega (arith, is)

some_of : (p : ℕ) → ¬ (p ≡ 0) → 1 ≤ p
some_of zero h = absurd (h refl)
some_of (suc p) h = omega arith

-- a word is made of its parts
made_of : (word : ℕ) → word ≡ entry_word (pins_in word) (code_in word) (version_in word)
made_of word = let k : ℕ = word / 131072 in let low : word ≡ word % 131072 + 131072 * k = omega arith in let high : k ≡ k % 1024 + 1024 * (k / 1024) = omega arith in
    low ∙ ap (λ m. word % 131072 + 131072 * m) high

-- a word that is not that of this value of this version without pins
pub other_word : (word version tce : ℕ) → ¬ (word ≡ entry_word 0 (code_of tce) version) → IsOther version (told tce) word
other_word word version tce miss = dite (ℕ_discrete (pins_in word) 0)
    (λ none. dite (ℕ_discrete (version_in word) version)
    (λ same. dite (ℕ_discrete (told_in word) (told tce))
    (λ is. absurd (miss (made_of word ∙ (λ i. entry_word (none i) (code_by (has_right tce) (code_in word) tce is i) (same i)))))
    (λ other. inr (inr other)))
    (λ other. inr (inl other)))
    (λ some. inl (some_of (pins_in word) some))
