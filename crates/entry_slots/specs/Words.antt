-- The word of an entry: the number of its pins, what its last value grants, and that value's version.
use Rattle.std.specs.Prelude.{◌≡◌, ℕ, ◌+◌, ◌*◌, ◌/◌, ◌%◌, ◌<◌, ◌≤◌, ◌⊎◌, if◌then◌else◌, IsTrue}
use Rattle.vio_num.specs.declared.TheConstants.{PAGE_BYTES}
use Rattle.tce_window.specs.Grant.{has_right}

-- what a word says of a value: its page and its rights, or 0 where it has no right
abbrev pub code_of : ℕ → ℕ
code_of tce = if has_right tce then tce / PAGE_BYTES * 4 + tce % 4 else 0

-- a page that the value grants is one that a word has room for
abbrev pub HasRoom : ℕ → Type 0
HasRoom tce = IsTrue (has_right tce) → tce / PAGE_BYTES < 256

-- the word of an entry with so many pins, whose value has this code and this version
abbrev pub entry_word : (pins code version : ℕ) → ℕ
entry_word pins code version = pins + 131072 * (code + 1024 * version)

-- the pins, the code and the version that a word shows
abbrev pub pins_in : ℕ → ℕ
pins_in word = word % 131072

abbrev pub code_in : ℕ → ℕ
code_in word = word / 131072 % 1024

abbrev pub version_in : ℕ → ℕ
version_in word = word / 131072 / 1024

-- the value that a word shows, as a refusal tells it: its page and its rights alone, or 0 where it has none
abbrev pub told_in : ℕ → ℕ
told_in word = code_in word / 4 * PAGE_BYTES + code_in word % 4

-- The word shows pins, or another version, or another value.
abbrev pub IsOther : (version told word : ℕ) → Type 0
IsOther version told word = (1 ≤ pins_in word) ⊎ (¬ (version_in word ≡ version) ⊎ ¬ (told_in word ≡ told))
