-- The command that a line sends.
use Rattle.std.specs.Prelude.{◌≡◌, ℕ, ◌-◌, ◌*◌, ◌++◌, Bool, true, false, List, ◌∷◌, Option, None, length, replicate}
use Rattle.byteorder.specs.Endian.{big_bytes}
use Rattle.boot_text.specs.declared.verb.Verb.{Verb}
use Rattle.boot_text.specs.declared.verb.Verb.TheVariants as verbs
use Rattle.vscsi_client.specs.declared.op.Dir.{Dir}
use Rattle.vscsi_client.specs.declared.op.Dir.TheVariants as dirs
use Rattle.vscsi_client.specs.declared.op.Op.{Op}

-- A command with its data there, in this direction, in so many pieces, and with their table there, if it has one.
pub record HasData (dir : Dir) (at len pieces : ℕ) (table : Option ℕ) (op : Op) : Type 0 where
  pub dir_is : op.dir ≡ dir
  pub at_is : op.at ≡ at
  pub len_is : op.len ≡ len
  pub pieces_is : op.pieces ≡ pieces
  pub table_is : op.table ≡ table

-- A command without data.
pub record HasNoData (op : Op) : Type 0 where
  pub dir_is : op.dir ≡ dirs.Neither
  pub table_is : op.table ≡ None

-- the command of a line that sends one: 512 bytes a block, or as many as it says
abbrev pub IsOpOf : Verb → Op → Type 0
IsOpOf verbs.Tur op = HasNoData op
IsOpOf (verbs.Read lba blocks at pieces table) op = HasData dirs.In at (512 * blocks) pieces table op
IsOpOf (verbs.Write lba blocks at pieces table) op = HasData dirs.Out at (512 * blocks) pieces table op
IsOpOf (verbs.Command cdb) op = HasNoData op
IsOpOf (verbs.CommandIn cdb at len pieces table) op = HasData dirs.In at len pieces table op
IsOpOf (verbs.CommandOut cdb at len pieces table) op = HasData dirs.Out at len pieces table op
IsOpOf _ op = ⊥

-- whether a line reads or writes blocks, and whether it gives the descriptor block of a command with data
abbrev pub moves_blocks : Verb → Bool
moves_blocks (verbs.Read lba blocks at pieces table) = true
moves_blocks (verbs.Write lba blocks at pieces table) = true
moves_blocks _ = false

abbrev pub gives_data : Verb → Bool
gives_data (verbs.CommandIn cdb at len pieces table) = true
gives_data (verbs.CommandOut cdb at len pieces table) = true
gives_data _ = false

-- a command descriptor block of ten bytes for blocks from a logical block address on, with zeros behind it up to 16 bytes (SBC,
-- "READ (10) command", "WRITE (10) command")
abbrev pub block_cdb : (code lba blocks : ℕ) → List ℕ
block_cdb code lba blocks = code ∷ 0 ∷ (big_bytes 4 lba ++ 0 ∷ (big_bytes 2 blocks ++ replicate 7 0))

-- the bytes that a line gives, with zeros behind them up to 16
abbrev pub padded_cdb : List ℕ → List ℕ
padded_cdb bytes = bytes ++ replicate (16 - length bytes) 0

-- the command descriptor block of a line: of TEST UNIT READY, all is zero (SPC)
abbrev pub cdb_of : Verb → List ℕ
cdb_of (verbs.Read lba blocks at pieces table) = block_cdb 0x28 lba blocks
cdb_of (verbs.Write lba blocks at pieces table) = block_cdb 0x2A lba blocks
cdb_of (verbs.Command cdb) = padded_cdb cdb
cdb_of (verbs.CommandIn cdb at len pieces table) = padded_cdb cdb
cdb_of (verbs.CommandOut cdb at len pieces table) = padded_cdb cdb
cdb_of _ = replicate 16 0
