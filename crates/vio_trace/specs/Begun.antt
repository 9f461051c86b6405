-- Bytes whose front begins the text of some value: where a line is bad, the lines before it do.
use Rattle.std.specs.Prelude.{ℕ, ◌≡◌, ◌≤◌, ◌+◌, ◌++◌, List, All, flat_map, length}
use Rattle.vio_trace.specs.declared.read.TraceFault.{TraceFault}
use Rattle.vio_trace.specs.declared.read.TraceFault.TheVariants as trace_faults
use Rattle.vio_trace.specs.declared.rows.Trace.{Trace}
use Rattle.vio_trace.specs.Form.{Ascend, IsTextOf}
use Rattle.vio_trace.specs.Reading.{FollowsLast}
use Rattle.vio_trace.specs.Shared.{SameFirst, line_ends}

-- the bytes before the place at which so many are left begin the text of a value that fits
pub record BeginsSome {A : Type 0} (text : A → List ℕ) (fits : A → Type 0) (bytes : List ℕ) (left : ℕ) : Type 0 where
  pub front : List ℕ
  pub rest : List ℕ
  pub more : List ℕ
  pub value : A
  pub is : fits value
  pub bytes_are : bytes ≡ front ++ rest
  pub past : length rest ≡ left
  pub text_is : text value ≡ front ++ more

-- rows that fit, at most so many
pub record AreFew {A : Type 0} (fits : A → Type 0) (count : ℕ) (rows : List A) : Type 0 where
  pub each : All fits rows
  pub few : length rows ≤ count

-- the bytes before the place begin the texts of at most so many rows
abbrev pub BeginsFew : {A : Type 0} → (A → List ℕ) → (A → Type 0) → ℕ → List ℕ → ℕ → Type 0
BeginsFew text fits count bytes left = BeginsSome (flat_map text) (AreFew fits count) bytes left

-- the bytes before the place begin the text of a row that has their first line
pub record BeginsOne {Row : Type 0} (text : Row → List ℕ) (in_range named : Row → Type 0) (bytes : List ℕ) (left : ℕ) : Type 0 where
  pub some : BeginsSome text in_range bytes left
  pub name : named some.value
  pub first : SameFirst bytes (text some.value)

-- a place behind the first line is one before which the bytes begin the text of a row
abbrev pub BeginsRow : {Row : Type 0} → (Row → List ℕ) → (Row → Type 0) → (Row → Type 0) → List ℕ → ℕ → Type 0
BeginsRow text in_range named bytes left = ¬ (left ≡ length bytes) → BeginsOne text in_range named bytes left

-- the rows of a section
pub record AreRows {Row : Type 0} (in_range named : Row → Type 0) (before : Row → Row → Type 0) (rows : List Row) : Type 0 where
  pub range : All in_range rows
  pub names : All named rows
  pub order : Ascend before rows

-- the bytes before the place begin the texts of the rows of a section
abbrev pub BeginsRows : {Row : Type 0} → (Row → List ℕ) → (Row → Type 0) → (Row → Type 0) → (Row → Row → Type 0) → List ℕ → ℕ → Type 0
BeginsRows text in_range named before bytes left = BeginsSome (flat_map text) (AreRows in_range named before) bytes left

-- each row that the bytes' first line begins may stand behind the last of these
abbrev pub EachFollows : {Row : Type 0} → (Row → List ℕ) → (Row → Type 0) → (Row → Row → Type 0) → List Row → List ℕ → Type 0
EachFollows {Row} text in_range before rows bytes = (other more : List ℕ) (row : Row) → SameFirst bytes other → in_range row
    → other ≡ text row ++ more → FollowsLast before rows row

-- a front of the bytes in which all lines before this one end, counted from 1, begins the text of a trace
pub record BeginsTrace (line : ℕ) (bytes : List ℕ) : Type 0 where
  pub front : List ℕ
  pub rest : List ℕ
  pub more : List ℕ
  pub trace : Trace
  pub bytes_are : bytes ≡ front ++ rest
  pub lines : line_ends front + 1 ≡ line
  pub text_is : IsTextOf trace (front ++ more)

-- the lines of the bytes before the one that is named begin the text of a trace
abbrev pub BegunBefore : List ℕ → TraceFault → Type 0
BegunBefore bytes (trace_faults.Bad line) = BeginsTrace line bytes
BegunBefore bytes trace_faults.NoMemory = Unit {0}
