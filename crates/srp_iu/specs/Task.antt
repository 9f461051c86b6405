-- Task management requests (SRP, "SRP_TSK_MGMT request").
use Rattle.std.specs.Prelude.{◌≡◌, ◌≤◌, ℕ, List, length, slice_index}
use Rattle.srp_iu.specs.declared.task.TskMgmt.{TskMgmt}
use Rattle.srp_iu.specs.Layout.{field, part, zeros}

-- these bytes are this request; bytes 1 to 7, 16 to 19, 28, 29, 31 and 40 to 47 are reserved
pub record SpellsTskMgmt (bytes : List ℕ) (t : TskMgmt) : Type 0 where
  pub kind : slice_index bytes 0 ≡ 0x01
  pub full : 48 ≤ length bytes
  pub tag : t.tag ≡ field 8 8 bytes
  pub lun : t.lun ≡ field 20 8 bytes
  pub function : t.function ≡ slice_index bytes 30
  pub task : t.task ≡ field 32 8 bytes

-- the reserved bytes are zero and nothing follows
pub record CanonTskMgmt (bytes : List ℕ) (t : TskMgmt) : Type 0 where
  pub spells : SpellsTskMgmt bytes t
  pub exact : length bytes ≡ 48
  pub from_1 : part 1 7 bytes ≡ zeros 7
  pub from_16 : part 16 4 bytes ≡ zeros 4
  pub from_28 : part 28 2 bytes ≡ zeros 2
  pub at_31 : slice_index bytes 31 ≡ 0
  pub from_40 : part 40 8 bytes ≡ zeros 8
