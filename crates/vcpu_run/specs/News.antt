-- What a run shows of what its client's window told a server unit: the copies between the two windows, byte by byte, and what the
-- client's denied (SRP, "Virtual SCSI"; LoPAR, "H_COPY_RDMA").
use Rattle.std.specs.Prelude.{◌≡◌, ℕ, ◌/◌, ◌<◌, ◌≤◌, true, false, List, Some, length, slice_get}
use Rattle.vio_num.specs.declared.names.UnitId.{UnitId}
use Rattle.page_slots.specs.declared.stroke.StrokeName.{StrokeName}
use Rattle.tce_window.specs.Grant.{grants, told}
use Rattle.tce_window.specs.Moved.{IsReadFrom, IsWrittenTo}
use Rattle.tce_window.specs.Pieces.{end_entry}
use Rattle.tce_window.specs.declared.answers.HoldFault.{HoldFault}
use Rattle.tce_window.specs.declared.answers.HoldFault.TheVariants.{InUse, NotGranted, Past}
use Rattle.tce_window.specs.declared.answers.Right.{Right}
use Rattle.rdma_copy.specs.Copy.{Side}
use Rattle.rdma_copy.specs.declared.copy.CopyRecord.{CopyRecord}
use Rattle.block_server.specs.Causes.{Hearing}
use Rattle.block_server.specs.Causes.News.{delivered, denied, fetched, nth_delivered, nth_fetched}
use Rattle.block_server.specs.Moves.{data_copies}

-- COPIES -----------------------------------------------------------------------------------------

-- The copy moved these bytes, under this name, from this address of one window to that one of another.
pub record MovesBytes (source target : Side) (name : StrokeName) (from to : ℕ) (bytes : List ℕ) (copy : CopyRecord) : Type 0 where
  pub name_is : copy.name ≡ name
  pub len_is : copy.len ≡ length bytes
  pub read : IsReadFrom source.unit source.values source.strokes from copy.from.items bytes
  pub written : IsWrittenTo target.unit target.values target.strokes to name copy.to.items bytes

-- One of the copies that are listed did so.
pub record HasMoved (Listed : CopyRecord → Type 0) (source target : Side) (name : StrokeName) (from to : ℕ) (bytes : List ℕ) : Type 0 where
  pub copy : CopyRecord
  pub listed : Listed copy
  pub moves : MovesBytes source target name from to bytes copy

-- The copy has this number among those of the unit's tables and data.
abbrev pub IsNth : UnitId → List CopyRecord → ℕ → CopyRecord → Type 0
IsNth unit copies number copy = slice_get (data_copies unit copies) number ≡ Some copy

-- DENIALS ----------------------------------------------------------------------------------------

-- Entry e has had a value that grants the right.
pub record HasGranted (values : ℕ → List ℕ) (right : Right) (e : ℕ) : Type 0 where
  pub version : ℕ
  pub value : ℕ
  pub shown : slice_get (values e) version ≡ Some value
  pub granted : grants right value ≡ true

-- It has had, as this version, a value that lacks the right, which is told so.
pub record HasLacked (values : ℕ → List ℕ) (right : Right) (e version tce : ℕ) : Type 0 where
  pub value : ℕ
  pub shown : slice_get (values e) version ≡ Some value
  pub lacked : grants right value ≡ false
  pub told_is : tce ≡ told value

-- Each entry of a window of n, from `first` to before `entry`, has had a value that grants the right.
abbrev pub HaveGranted : (values : ℕ → List ℕ) → Right → (n first entry : ℕ) → Type 0
HaveGranted values right n first entry = (e : ℕ) → first ≤ e → e < entry → (e < n) × HasGranted values right e

-- The range touches the entry, and each entry of it before that has granted the right.
pub record IsReached (values : ℕ → List ℕ) (right : Right) (n address len entry : ℕ) : Type 0 where
  pub from : address / 4096 ≤ entry
  pub to : entry < end_entry address len
  pub before : HaveGranted values right n (address / 4096) entry

-- A window of n entries denied a range, for the first entry of it that is past the window, or lacked the right.
abbrev pub HasDenied : (values : ℕ → List ℕ) → Right → (n address len : ℕ) → HoldFault → Type 0
HasDenied values right n address len (Past entry) = IsReached values right n address len entry × (n ≤ entry)
HasDenied values right n address len (NotGranted entry version tce) =
    IsReached values right n address len entry × (entry < n) × HasLacked values right entry version tce
HasDenied values right n address len (InUse page word) = ⊥

-- NEWS -------------------------------------------------------------------------------------------

-- what is shown of its own window, of its client's with so many pages, of the copies that are listed, and of those of tables and data by
-- their numbers
abbrev pub hearing : (Listed : CopyRecord → Type 0) → (Nth : ℕ → CopyRecord → Type 0) → (own client : Side) → (pages : ℕ) → Hearing
hearing Listed Nth own client pages (denied right address len fault) = HasDenied client.values right pages address len fault
hearing Listed Nth own client pages (fetched address at bytes) =
    HasMoved Listed client own (record { who = own.unit; mark = 0 }) address at bytes
hearing Listed Nth own client pages (delivered at address mark bytes) =
    HasMoved Listed own client (record { who = own.unit; mark = mark }) at address bytes
hearing Listed Nth own client pages (nth_fetched number address at bytes) =
    HasMoved (Nth number) client own (record { who = own.unit; mark = 0 }) address at bytes
hearing Listed Nth own client pages (nth_delivered number at address mark bytes) =
    HasMoved (Nth number) own client (record { who = own.unit; mark = mark }) at address bytes
