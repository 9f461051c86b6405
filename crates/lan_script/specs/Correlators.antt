-- The correlators of the buffers of a port, where each is the address of its own buffer.
use Rattle.std.specs.Prelude.{◌≡◌, ℕ, All, List, length}
use Rattle.byteorder.specs.Endian.{big_number}
use Rattle.vio_num.specs.declared.names.UnitId.{UnitId}
use Rattle.vio_trace.specs.declared.lan_rows.PostRow.{PostRow}
use Rattle.lan_buffers.specs.Buffer.{buffer_address}
use Rattle.lan_script.specs.Invariant.{posts_at}
use Rattle.lan_script.specs.Replayed.{Shows}
use Rattle.lan_script.specs.Units.{LanValue}

-- the correlator of a post is the address of its buffer
abbrev pub CarriesAddress : PostRow → Type 0
CarriesAddress row = row.correlator ≡ buffer_address row.descriptor

-- the same of each post of a unit's port
abbrev pub CarryAddresses : LanValue → UnitId → Type 0
CarryAddresses lan unit = All CarriesAddress (posts_at lan.stations unit)

-- and what keeps that
abbrev pub KeepsAddresses : UnitId → (old new : LanValue) → Type 0
KeepsAddresses unit old new = CarryAddresses old unit → CarryAddresses new unit

-- The region of the unit shows, at the address of a buffer, that address in 8 bytes.
pub record ShowsAddress (lan : LanValue) (unit : UnitId) (descriptor : ℕ) : Type 0 where
  pub bytes : List ℕ
  pub long : length bytes ≡ 8
  pub number : big_number 8 bytes ≡ buffer_address descriptor
  pub shown : Shows lan.places unit (buffer_address descriptor) bytes
