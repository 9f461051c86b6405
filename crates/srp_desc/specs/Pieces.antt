-- The pieces of data that a command's buffer names (SRP, "Data buffer descriptor formats").
use Rattle.std.specs.Prelude.{◌≡◌, ◌≤◌, ◌<◌, ◌*◌, ◌/◌, ◌%◌, ◌==◌, ◌||◌, ℕ, Bool, List, [], ◌∷◌, length, nat_lt, sum_by, Option, Some, None, if◌then◌else◌}
use Rattle.arrayvec.specs.ArrayVec.{ArrayVec}
use Rattle.srp_iu.specs.Buffer.{descs_of}
use Rattle.srp_iu.specs.declared.buffer.Desc.{Desc}
use Rattle.srp_iu.specs.declared.buffer.Buffer.{Buffer}
use Rattle.srp_iu.specs.declared.buffer.Buffer.TheVariants.{Absent, Direct, Indirect}
use Rattle.srp_desc.specs.declared.pieces.TheConstants.{MAX_DATA_LEN, MAX_TABLE_LEN}
use Rattle.srp_desc.specs.declared.pieces.DescFault.{DescFault}
use Rattle.srp_desc.specs.declared.pieces.DescFault.TheVariants.{Count, Total, Large}
use Rattle.srp_desc.specs.declared.pieces.Pieces.{Pieces}
use Rattle.srp_desc.specs.declared.pieces.Pieces.TheVariants.{Whole, Fetch}

-- what a buffer names: these pieces in this order, or nothing, for this reason
pub data Named : Type 0 where
  named : List Desc → Named
  refused : DescFault → Named

-- the bytes of data that pieces name
abbrev pub sum_of : List Desc → ℕ
sum_of pieces = sum_by (λ (desc : Desc). desc.len) pieces

-- the descriptors that stand in bytes
abbrev pub descs_in : List ℕ → List Desc
descs_in bytes = descs_of (length bytes / 16) bytes

-- a table of this length has not 1 to 256 descriptors, or fewer than stand in the buffer itself
abbrev pub is_count_bad : (table : Desc) → (list : ArrayVec Desc) → Bool
is_count_bad table list =
    (table.len == 0)
    || nat_lt MAX_TABLE_LEN table.len
    || nat_lt 0 (table.len % 16)
    || nat_lt table.len (16 * length list.items)

-- pieces that are to be so many bytes in all
abbrev pub summing_to : ℕ → List Desc → Named
summing_to total list =
    if sum_of list == total then named list
    else refused (Total total (sum_of list))

-- an indirect buffer's own list is its whole table
abbrev pub is_complete : (table : Desc) → (list : ArrayVec Desc) → Bool
is_complete table list = (16 * length list.items) == table.len

-- what a buffer names. The bytes are those of its table, and count where its own list is not the
-- whole table. A buffer that is refused is refused for the first reason that stands: the length of
-- its table, its total length, and the sum of its pieces.
abbrev pub pieces : Buffer → (bytes : List ℕ) → Named
pieces Absent bytes = named []
pieces (Direct desc) bytes =
    if nat_lt MAX_DATA_LEN desc.len then refused (Large desc.len)
    else named (desc ∷ [])
pieces (Indirect table total list) bytes =
    if is_count_bad table list then refused Count
    else if nat_lt MAX_DATA_LEN total then refused (Large total)
    else summing_to total (if is_complete table list then list.items else descs_in bytes)

-- why pieces are refused; none where they are named
abbrev pub fault_in : Named → Option DescFault
fault_in (named list) = None
fault_in (refused fault) = Some fault

-- why a buffer is refused by itself, before its table is fetched; none where it is not
abbrev pub refusal : Buffer → Option DescFault
refusal Absent = None
refusal (Direct desc) = if nat_lt MAX_DATA_LEN desc.len then Some (Large desc.len) else None
refusal (Indirect table total list) =
    if is_count_bad table list then Some Count
    else if nat_lt MAX_DATA_LEN total then Some (Large total)
    else if is_complete table list then fault_in (summing_to total list.items)
    else None

-- the pieces that are named; none where they are refused
abbrev pub piece_list : Named → List Desc
piece_list (named list) = list
piece_list (refused fault) = []

-- the table of this buffer is to be fetched: the buffer names a table of this place and length, and
-- has only the front of it
pub record IsToFetch (buffer : Buffer) (table : Desc) (total : ℕ) : Type 0 where
  pub list : ArrayVec Desc
  pub indirect : buffer ≡ Indirect table total list
  pub front : 16 * length list.items < table.len
  pub some : 16 ≤ table.len
  pub few : table.len ≤ MAX_TABLE_LEN
  pub evenly : table.len % 16 ≡ 0
  pub small : total ≤ MAX_DATA_LEN

-- what is given of a buffer before its table is fetched
abbrev pub IsGiven : Buffer → Pieces → Type 0
IsGiven buffer (Whole list) = (bytes : List ℕ) → pieces buffer bytes ≡ named list.now
IsGiven buffer (Fetch table total) = IsToFetch buffer table total

-- the pieces that are given; none where their table is to be fetched
abbrev pub given_in : Pieces → List Desc
given_in (Whole list) = list.now
given_in (Fetch table total) = []

-- the table that is to be fetched; none where the pieces are given
abbrev pub tables_in : Pieces → List Desc
tables_in (Whole list) = []
tables_in (Fetch table total) = table ∷ []

-- the bytes of data in all that a buffer says it names
abbrev pub total_of : Buffer → ℕ
total_of Absent = 0
total_of (Direct desc) = desc.len
total_of (Indirect table total list) = total
