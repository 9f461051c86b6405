-- What a caller knows of lists and words that others write, too: how a list was found, and which word an answer rests on.
use Rattle.std.specs.Prelude.{◌≡◌, ℕ, ◌<◌, List, ◌++◌}

-- the first list is a front of the second
abbrev pub Begins : {A : Type 0} → List A → List A → Type 0
Begins {A} front whole = (rest : List A) × (whole ≡ front ++ rest)

-- How many words were read on which an answer may rest, and the last of them.
pub record WordRead : Type 0 where
  pub count : ℕ
  pub word : ℕ

-- This word was read in the call, and none after it.
pub record ReadsWord (old new : WordRead) (word : ℕ) : Type 0 where
  pub read : old.count < new.count
  pub word_is : new.word ≡ word
