-- Memory descriptors and data buffers (SRP, "Data buffer descriptor formats").
use Rattle.std.specs.Prelude.{◌≡◌, ◌+◌, ◌*◌, ◌++◌, ◌==◌, ℕ, zero, suc, [], ◌∷◌, List, length, drop, if◌then◌else◌}
use Rattle.std.specs.List.{flat_map}
use Rattle.byteorder.specs.Endian.{big_bytes}
use Rattle.arrayvec.specs.ArrayVec.{ArrayVec}
use Rattle.srp_iu.specs.declared.buffer.Desc.{Desc}
use Rattle.srp_iu.specs.declared.buffer.Buffer.{Buffer}
use Rattle.srp_iu.specs.declared.buffer.Buffer.TheVariants.{Absent, Direct, Indirect}
use Rattle.srp_iu.specs.Layout.{field}

-- the descriptor that the first 16 bytes are
abbrev pub desc_of : List ℕ → Desc
desc_of bytes = record { address = field 0 8 bytes; key = field 8 4 bytes; len = field 12 4 bytes }

-- the n descriptors that stand one behind the other
abbrev pub descs_of : ℕ → List ℕ → List Desc
descs_of zero bytes = []
descs_of (suc n) bytes = desc_of bytes ∷ descs_of n (drop 16 bytes)

-- the bytes that a buffer of this format takes; the count is that of the descriptors behind an
-- indirect buffer's table descriptor and total length, and counts there alone
abbrev pub buffer_len : (format count : ℕ) → ℕ
buffer_len format count =
    if format == 0 then 0
    else if format == 1 then 16
    else 20 + 16 * count

-- these bytes begin with this buffer of format 1
pub record SpellsDirect (format : ℕ) (bytes : List ℕ) (desc : Desc) : Type 0 where
  pub direct : format ≡ 1
  pub named : desc ≡ desc_of bytes

-- these bytes begin with this buffer of format 2
pub record SpellsIndirect (format count : ℕ) (bytes : List ℕ) (table : Desc) (total : ℕ) (list : ArrayVec Desc) : Type 0 where
  pub indirect : format ≡ 2
  pub at_table : table ≡ desc_of bytes
  pub in_all : total ≡ field 16 4 bytes
  pub listed : list.items ≡ descs_of count (drop 20 bytes)

-- these bytes begin with this buffer
abbrev pub SpellsBuffer : (format count : ℕ) → List ℕ → Buffer → Type 0
SpellsBuffer format count bytes Absent = format ≡ 0
SpellsBuffer format count bytes (Direct desc) = SpellsDirect format bytes desc
SpellsBuffer format count bytes (Indirect table total list) = SpellsIndirect format count bytes table total list

-- the format of a buffer
abbrev pub format_of : Buffer → ℕ
format_of Absent = 0
format_of (Direct desc) = 1
format_of (Indirect table total list) = 2

-- the count byte of a buffer, as it is written
abbrev pub count_of : Buffer → ℕ
count_of Absent = 0
count_of (Direct desc) = 0
count_of (Indirect table total list) = length list.items

-- the bytes that a buffer takes
abbrev pub written_len : Buffer → ℕ
written_len Absent = 0
written_len (Direct desc) = 16
written_len (Indirect table total list) = 20 + 16 * length list.items

-- the bytes of a descriptor
abbrev pub desc_bytes : Desc → List ℕ
desc_bytes desc = big_bytes 8 desc.address ++ big_bytes 4 desc.key ++ big_bytes 4 desc.len

-- the bytes of a buffer
abbrev pub buffer_bytes : Buffer → List ℕ
buffer_bytes Absent = []
buffer_bytes (Direct desc) = desc_bytes desc
buffer_bytes (Indirect table total list) =
    desc_bytes table ++ big_bytes 4 total ++ flat_map desc_bytes list.items
