-- The data-in of a command that was answered.
use Rattle.std.specs.Prelude.{◌≡◌, ◌⊎◌, ℕ, ◌+◌, ◌-◌, ◌*◌, ◌<◌, ◌≤◌, ◌==◌, nat_le, Bool, All, List, [], Option, Some, None, IfSome, MatchBool, bit_and, length, min, take, drop, slice_index_or, if◌then◌else◌}
use Rattle.vio_num.specs.declared.TheConstants.{PAGE_BYTES}
use Rattle.vio_num.specs.Counts.{Rose}
use Rattle.page_slots.specs.declared.stroke.StrokeName.{StrokeName}
use Rattle.srp_iu.specs.declared.response.TheConstants.{RSPVALID, DIUNDER}
use Rattle.tce_window.specs.PortState.{PortState, FindsInUse, FindsStale, OnlyReads, Reads}
use Rattle.tce_window.specs.Region.{first_page, end_page}
use Rattle.tce_window.specs.Named.{AreFresh}
use Rattle.srp_desc.specs.declared.pieces.TheConstants.{MAX_DATA_LEN}
use Rattle.vscsi_client.specs.declared.answers.DataFault.{DataFault}
use Rattle.vscsi_client.specs.declared.answers.DataFault.TheVariants.{Unknown, Stale, InUse, NoMemory}
use Rattle.vscsi_client.specs.declared.TheConstants.{PART_BYTES}
use Rattle.vscsi_client.specs.declared.row.DataIn.{DataIn}
use Rattle.vscsi_client.specs.declared.row.Row.{Row}
use Rattle.vscsi_client.specs.declared.row.Row.TheVariants as rows
use Rattle.vscsi_client.specs.declared.op.Dir.TheVariants.{In}
use Rattle.vscsi_client.specs.State.{ClientState}

pub record DataRange : Type 0 where
  pub at : ℕ
  pub len : ℕ

-- how much of so many bytes was transferred: all after a response code, else less the residual of an underflow
abbrev pub transferred : ℕ → DataIn → ℕ
transferred len said =
    if bit_and said.flags RSPVALID == 0 then (if bit_and said.flags DIUNDER == 0 then len else len - said.in_residual) else len

-- where the data of a row lie, if it is of a command with data-in that was answered
abbrev pub data_of_row : Row → Option DataRange
data_of_row (rows.Command In at len (Some said)) = Some (record { at = at; len = transferred len said })
data_of_row _ = None

abbrev pub data_range : ClientState → ℕ → Option DataRange
data_range s tag = if nat_le 1 tag then data_of_row (slice_index_or s.rows (tag - 1) rows.Login) else None

-- data-in lie in a region of so many pages, and are not more than a command may have
abbrev pub FitsRow : ℕ → Row → Type 0
FitsRow pages (rows.Command In at len said) = (at + len ≤ PAGE_BYTES * pages) × (len ≤ MAX_DATA_LEN)
FitsRow pages _ = Unit {0}

abbrev pub FitRows : ℕ → ClientState → Type 0
FitRows pages s = (pages ≤ 256) × All (FitsRow pages) s.rows

-- the name of the strokes that the server lays under a tag
abbrev pub name_of : ClientState → (tag : ℕ) → StrokeName
name_of s tag = record { who = s.server; mark = tag }

-- these bytes were read from a range, and are those that the last strokes of this name left there
pub record ReadsNamed (name : StrokeName) (at len : ℕ) (own : PortState) (bytes : List ℕ) : Type 0 where
  pub long : length bytes ≡ len
  pub fresh : AreFresh name at len own.strokes (first_page at) (end_page at len)
  pub read : Reads own at bytes

-- the two parts of a range of more than 65,536 bytes, which are read one after the other
pub record ReadsBoth (name : StrokeName) (shared : Bool) (range : DataRange) (old new : PortState) (bytes : List ℕ) : Type 0 where
  pub middle : PortState
  pub first : ReadsNamed name range.at PART_BYTES middle (take PART_BYTES bytes)
  pub second : ReadsNamed name (range.at + PART_BYTES) (range.len - PART_BYTES) new (drop PART_BYTES bytes)
  pub before : OnlyReads shared old middle
  pub after : OnlyReads shared middle new

-- the data of a range: none of an empty one, without a look; those of a short one at once
abbrev pub GivesData : (name : StrokeName) → (shared : Bool) → DataRange → PortState → PortState → List ℕ → Type 0
GivesData name shared range old new bytes =
    MatchBool (range.len == 0) ((bytes ≡ []) × (new ≡ old))
    (MatchBool (nat_le range.len PART_BYTES) (ReadsNamed name range.at range.len new bytes) (ReadsBoth name shared range old new bytes))

-- why a part was not read: a page of it was stale, or in use
abbrev pub WhyNotPart : (name : StrokeName) → (shared : Bool) → (at len : ℕ) → PortState → PortState → DataFault → Type 0
WhyNotPart name shared at len old new (Stale page) = (found : Option StrokeName) × FindsStale name new at len page found
WhyNotPart name shared at len old new (InUse page word) = FindsInUse shared old at len page × Rose old.in_use new.in_use
WhyNotPart name shared at len old new _ = ⊥

-- the first part was not read, or the second, once the first had been
pub record NotSecond (name : StrokeName) (shared : Bool) (range : DataRange) (old new : PortState) (fault : DataFault) : Type 0 where
  pub long : PART_BYTES < range.len
  pub middle : PortState
  pub before : OnlyReads shared old middle
  pub fresh : AreFresh name range.at PART_BYTES middle.strokes (first_page range.at) (end_page range.at PART_BYTES)
  pub why_not : WhyNotPart name shared (range.at + PART_BYTES) (range.len - PART_BYTES) middle new fault

abbrev pub WhyNotRead : (name : StrokeName) → (shared : Bool) → DataRange → PortState → PortState → DataFault → Type 0
WhyNotRead name shared range old new fault =
    WhyNotPart name shared range.at (min range.len PART_BYTES) old new fault ⊎ NotSecond name shared range old new fault

-- why data are not given
abbrev pub WhyNoData : (name : StrokeName) → (shared : Bool) → Option DataRange → PortState → PortState → DataFault → Type 0
WhyNoData name shared range old new Unknown = range ≡ None
WhyNoData name shared range old new NoMemory = new ≡ old
WhyNoData name shared range old new fault = IfSome range (λ r. WhyNotRead name shared r old new fault)
