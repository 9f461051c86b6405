-- Texts that have a line in common: where a line is bad, each text that has the lines up to it is refused.
use Rattle.std.specs.Prelude.{ℕ, ◌≡◌, ◌<◌, ◌≤◌, ◌+◌, ◌++◌, ◌==◌, List, [], ◌∷◌, flat_map, length, if◌then◌else◌}
use Rattle.vio_trace.specs.declared.read.TraceFault.{TraceFault}
use Rattle.vio_trace.specs.declared.read.TraceFault.TheVariants as trace_faults
use Rattle.vio_trace.specs.declared.unread.Fault.{Fault}
use Rattle.vio_trace.specs.declared.unread.Fault.TheVariants as faults
use Rattle.vio_trace.specs.Form.{IsTextOf}
use Rattle.vio_trace.specs.declared.rows.Trace.{Trace}
use Rattle.vio_trace.specs.Reading.{FollowsLast, IsLine}
use Rattle.vio_trace.specs.Sections.{OnlySection, section}

-- how many lines end in the bytes
abbrev pub line_ends : List ℕ → ℕ
line_ends [] = 0
line_ends (c ∷ cs) = if c == 10 then 1 + line_ends cs else line_ends cs

-- the other bytes have the same lines as these, the one at which so many bytes are left among them
pub record SharesLine (left : ℕ) (bytes other : List ℕ) : Type 0 where
  pub front : List ℕ
  pub rest : List ℕ
  pub theirs : List ℕ
  pub bytes_are : bytes ≡ (front ++ 10 ∷ []) ++ rest
  pub other_is : other ≡ (front ++ 10 ∷ []) ++ theirs
  pub past : length rest < left

-- both begin with the same line
pub record SameFirst (bytes other : List ℕ) : Type 0 where
  pub first : List ℕ
  pub rest : List ℕ
  pub theirs : List ℕ
  pub is : IsLine first
  pub bytes_are : bytes ≡ first ++ rest
  pub other_is : other ≡ first ++ theirs

-- the other bytes have the same lines as these, up to the end of the line of this number, counted from 1
pub record SharesLines (line : ℕ) (bytes other : List ℕ) : Type 0 where
  pub front : List ℕ
  pub rest : List ℕ
  pub theirs : List ℕ
  pub bytes_are : bytes ≡ (front ++ 10 ∷ []) ++ rest
  pub other_is : other ≡ (front ++ 10 ∷ []) ++ theirs
  pub lines : line_ends (front ++ 10 ∷ []) ≡ line

-- no trace's text has the lines of these bytes up to the one that is named
abbrev pub NoneHasLines : List ℕ → TraceFault → Type 0
NoneHasLines bytes (trace_faults.Bad line) = (trace : Trace) (text : List ℕ) → SharesLines line bytes text → ¬ (IsTextOf trace text)
NoneHasLines bytes trace_faults.NoMemory = Unit {0}

-- what holds of the place of a bad line
abbrev pub WhereBadAt : Fault → (ℕ → Type 0) → Type 0
WhereBadAt (faults.Bad left) Holds = Holds left
WhereBadAt faults.NoMemory Holds = Unit {0}

-- the bad line lies in the bytes, and no bytes that share it are so
abbrev pub NoneShares : (List ℕ → Type 0) → List ℕ → ℕ → Type 0
NoneShares Is bytes left = (left ≤ length bytes) × ((other : List ℕ) → SharesLine left bytes other → Is other)

-- the rows whose lines begin with the same first line stand behind the same rows, and what may stand behind a row is told by its
-- first line
pub record KeepsLines {Row : Type 0} (text : Row → List ℕ) (in_range : Row → Type 0) (before : Row → Row → Type 0)
    (follows : Row → List ℕ → Type 0) : Type 0 where
  pub lined : (row : Row) (bytes other : List ℕ) → SameFirst bytes other → follows row bytes → follows row other
  pub keys : (past a b : Row) (xs ys : List ℕ) → in_range a → in_range b → SameFirst (text a ++ xs) (text b ++ ys)
      → before past b → before past a

-- the row has the words of the bytes' first line: which section the line is of, and behind which rows a row with it stands
pub record FirstTells {Row : Type 0} (text : Row → List ℕ) (in_range : Row → Type 0) (before : Row → Row → Type 0) (kind : ℕ)
    (bytes : List ℕ) (row : Row) : Type 0 where
  pub of : (other : List ℕ) → SameFirst bytes other → section other ≡ kind
  pub keys : (past b : Row) (other more : List ℕ) → SameFirst bytes other → in_range b → other ≡ text b ++ more
      → before past b → before past row
  pub back : (past b : Row) (other more : List ℕ) → SameFirst bytes other → in_range b → other ≡ text b ++ more
      → before past row → before past b

-- no row that the bytes' first line begins may stand behind the last of these
abbrev pub NoneFollows : {Row : Type 0} → (Row → List ℕ) → (Row → Type 0) → (Row → Row → Type 0) → List Row → List ℕ → Type 0
NoneFollows {Row} text in_range before rows bytes = (other more : List ℕ) (row : Row) → SameFirst bytes other → in_range row
    → other ≡ text row ++ more → ¬ (FollowsLast before rows row)

-- the bytes' first line is one of the section
abbrev pub IsOfSection : ℕ → List ℕ → Type 0
IsOfSection kind bytes = (other : List ℕ) → SameFirst bytes other → section other ≡ kind

-- behind these rows, all that begins with the first line of the rest is a whole section with these rows
abbrev pub OnlyShared : {Row : Type 0} → (Row → List ℕ) → (Row → Type 0) → (Row → Type 0) → (Row → Row → Type 0) → ℕ
    → List Row → List ℕ → Type 0
OnlyShared {Row} text in_range named before kind rows rest = (other theirs : List ℕ) → other ≡ flat_map text rows ++ theirs
    → SameFirst rest theirs → OnlySection text in_range named before kind rows theirs other
