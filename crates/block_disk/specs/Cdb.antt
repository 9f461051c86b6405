-- Command descriptor blocks (SPC, "The command descriptor block"; SBC, "Commands for direct access block
-- devices"): which command a CDB of sixteen bytes is, and which the disk refuses before it looks at a block.
use Rattle.std.specs.Prelude.{ℕ, ◌+◌, ◌*◌, ◌%◌, ◌^◌, ◌==◌, ◌||◌, not, nat_lt, Bool, false, if◌then◌else◌, Option, None, Some, List, drop, slice_index}
use Rattle.byteorder.specs.Endian.{big_number}
use Rattle.block_disk.specs.Sense.{invalid_opcode, invalid_field, no_such_unit}
use Rattle.block_disk.specs.declared.command.DiskOp.{DiskOp}
use Rattle.block_disk.specs.declared.command.DiskOp.TheVariants.{Ready, Inquiry, Capacity10, Capacity16, Luns, Read, Write, Sync}

-- the number in these bytes of a CDB
abbrev pub field : ℕ → ℕ → List ℕ → ℕ
field at bytes cdb = big_number bytes (drop at cdb)

-- the first block of READ(6) and WRITE(6): 21 bits
abbrev pub short_address : List ℕ → ℕ
short_address cdb = slice_index cdb 1 % 32 * 2 ^ 16 + field 2 2 cdb

-- the number of blocks of READ(6) and WRITE(6), where 0 stands for 256
abbrev pub short_length : List ℕ → ℕ
short_length cdb = if slice_index cdb 4 == 0 then 256 else slice_index cdb 4

-- the command of a CDB that names a range of blocks: READ, WRITE and SYNCHRONIZE CACHE in their lengths
unfoldable pub range_command : List ℕ → Option DiskOp
range_command cdb =
    let code = slice_index cdb 0 in
    if code == 0x08 then Some (Read (short_address cdb) (short_length cdb))
    else if code == 0x0A then Some (Write (short_address cdb) (short_length cdb))
    else if code == 0x28 then Some (Read (field 2 4 cdb) (field 7 2 cdb))
    else if code == 0x2A then Some (Write (field 2 4 cdb) (field 7 2 cdb))
    else if code == 0x35 then Some (Sync (field 2 4 cdb) (field 7 2 cdb))
    else if code == 0x88 then Some (Read (field 2 8 cdb) (field 10 4 cdb))
    else if code == 0x8A then Some (Write (field 2 8 cdb) (field 10 4 cdb))
    else None

-- the command of a CDB, where the disk knows its operation code
unfoldable pub command_of : List ℕ → Option DiskOp
command_of cdb =
    let code = slice_index cdb 0 in
    if code == 0x00 then Some Ready
    else if code == 0x12 then Some (Inquiry (field 3 2 cdb))
    else if code == 0x25 then Some Capacity10
    else if code == 0x9E then Some (Capacity16 (field 10 4 cdb))
    else if code == 0xA0 then Some (Luns (field 6 4 cdb))
    else range_command cdb

-- INQUIRY with vital product data or a page asked for, or a SERVICE ACTION IN(16) that is not READ CAPACITY(16)
unfoldable pub is_bad_field : List ℕ → Bool
is_bad_field cdb =
    if slice_index cdb 0 == 0x12 then nat_lt 0 (slice_index cdb 1 % 2) || nat_lt 0 (slice_index cdb 2)
    else if slice_index cdb 0 == 0x9E then not (slice_index cdb 1 % 32 == 0x10)
    else false

-- a read or a write of more than 256 blocks
unfoldable pub is_too_long : DiskOp → Bool
is_too_long (Read lba blocks) = nat_lt 256 blocks
is_too_long (Write lba blocks) = nat_lt 256 blocks
is_too_long _ = false

-- the logical units of the disk: one disk under three numbers
unfoldable pub is_disk_unit : ℕ → Bool
is_disk_unit lun = (lun == 0) || (lun == 0x8000000000000000) || (lun == 0x8100000000000000)

-- INQUIRY and REPORT LUNS are answered at every logical unit
unfoldable pub is_answered : ℕ → List ℕ → Bool
is_answered lun cdb = is_disk_unit lun || (slice_index cdb 0 == 0x12) || (slice_index cdb 0 == 0xA0)

-- why a CDB is refused though the disk is asked, if it is
abbrev pub refusal_of : List ℕ → Option DiskOp → Option (List ℕ)
refusal_of cdb None = Some invalid_opcode
refusal_of cdb (Some op) = if is_bad_field cdb then Some invalid_field else if is_too_long op then Some invalid_field else None

-- why a CDB is refused as such: the first cause in the order logical unit, operation code, fields, number of blocks
unfoldable pub refusal : ℕ → List ℕ → Option (List ℕ)
refusal lun cdb = if is_answered lun cdb then refusal_of cdb (command_of cdb) else Some no_such_unit
