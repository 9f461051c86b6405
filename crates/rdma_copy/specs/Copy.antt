-- Copies between two windows (LoPAR, "H_COPY_RDMA"): all bytes move, or none.
use Rattle.std.specs.Prelude.{◌≡◌, ℕ, List, Option, length, true}
use Rattle.vio_num.specs.declared.names.UnitId.{UnitId}
use Rattle.page_slots.specs.Stroke.{StrokeValue}
use Rattle.tce_window.specs.Moved.{IsReadFrom, IsWrittenTo}
use Rattle.vio_num.specs.Words.{Begins}
use Rattle.tce_window.specs.Port.{Grows}
use Rattle.rdma_copy.specs.declared.copy.CopyRecord.{CopyRecord}

-- what is known of one side of a copy: whose window it is, the values of its entries, and the strokes of its
-- pages
pub record Side : Type 0 where
  pub unit : UnitId
  pub values : ℕ → List ℕ
  pub strokes : ℕ → Option (List StrokeValue)

abbrev pub side : UnitId → (ℕ → List ℕ) → (ℕ → Option (List StrokeValue)) → Side
side unit values strokes = record { unit = unit; values = values; strokes = strokes }

-- what is known of a side later: it is the same unit's, each entry may have more values behind those known,
-- and each page more strokes
pub record SideGrows (old new : Side) : Type 0 where
  pub unit : new.unit ≡ old.unit
  pub values : (e : ℕ) → Begins (old.values e) (new.values e)
  pub strokes : (p : ℕ) → Grows true (old.strokes p) (new.strokes p)

-- a lawful copy: the bytes that its `from` pieces read, granted for reading, are those that its `to` pieces
-- write, granted for writing, each one stroke with the copier's name; both touch consecutive addresses
pub record IsLawful (copy : CopyRecord) (source : Side) (from : ℕ) (target : Side) (to : ℕ) : Type 0 where
  pub bytes : List ℕ
  pub len : length bytes ≡ copy.len
  pub read : IsReadFrom source.unit source.values source.strokes from copy.from.items bytes
  pub written : IsWrittenTo target.unit target.values target.strokes to copy.name copy.to.items bytes
