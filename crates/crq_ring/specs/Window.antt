-- The slots of one session: which entries lie in them, and which are empty.
use Rattle.std.specs.Prelude.{◌≡◌, ℕ, ◌+◌, ◌*◌, ◌%◌, ◌^◌, ◌<◌, ◌≤◌, List, length, slice_index, slice_index_or}
use Rattle.vio_num.specs.declared.entry.Entry.{Entry}
use Rattle.vio_num.specs.Words.{Begins}

-- A slot is two words. Behind the slots lie 8 words that no slot uses, then the control word, then 7 more,
-- so that slots of two rings never lie in one cache line of 8 words, nor a slot in the control word's.
abbrev pub words_of : ℕ → ℕ
words_of n = 2 * n + 16

abbrev pub control_at : ℕ → ℕ
control_at n = 2 * n + 8

-- the two halves of the slot of the entry number k
abbrev pub high_at : ℕ → ℕ → ℕ
high_at n k = 2 * (k % n)

abbrev pub low_at : ℕ → ℕ → ℕ
low_at n k = 2 * (k % n) + 1

abbrev pub entry_of : ℕ → ℕ → Entry
entry_of high low = record { high = high; low = low }

abbrev pub entry_at : List Entry → ℕ → Entry
entry_at entries k = slice_index_or entries k (entry_of 0 0)

-- the first byte of a high half is not 0, or is
abbrev pub IsFull : ℕ → Type 0
IsFull high = 2 ^ 56 ≤ high

abbrev pub IsVacant : ℕ → Type 0
IsVacant high = high < 2 ^ 56

-- The entry number k of those put lies in its slot.
pub record Lies (n : ℕ) (sent : List Entry) (words : List ℕ) (k : ℕ) : Type 0 where
  pub high : slice_index words (high_at n k) ≡ (entry_at sent k).high
  pub low : slice_index words (low_at n k) ≡ (entry_at sent k).low

-- What was taken in a session is a front of what was put in it, and at most n entries are between. Each of
-- these lies in its slot, and each other slot is empty.
pub record Window (n : ℕ) (words : List ℕ) (sent taken : List Entry) : Type 0 where
  pub handed : Begins taken sent
  pub room : length sent ≤ length taken + n
  pub marked : (k : ℕ) → k < length sent → IsFull (entry_at sent k).high
  pub full : (k : ℕ) → length taken ≤ k → k < length sent → Lies n sent words k
  pub vacant : (k : ℕ) → length sent ≤ k → k < length taken + n → slice_index words (high_at n k) ≡ 0
