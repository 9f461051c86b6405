-- Commands (SRP, "SRP_CMD request").
use Rattle.std.specs.Prelude.{◌≡◌, ◌≤◌, ◌<◌, ◌+◌, ◌*◌, ◌/◌, ◌%◌, ℕ, List, length, slice_index, drop}
use Rattle.srp_iu.specs.declared.command.Cmd.{Cmd}
use Rattle.srp_iu.specs.Layout.{field, part, zeros}
use Rattle.srp_iu.specs.Buffer.{SpellsBuffer, buffer_len, count_of, written_len}

-- the number of additional CDB bytes: byte 31 with its two low bits cleared
abbrev pub more_len : List ℕ → ℕ
more_len bytes = slice_index bytes 31 / 4 * 4

-- the format of the data-out buffer, the high half of byte 5
abbrev pub out_format : List ℕ → ℕ
out_format bytes = slice_index bytes 5 / 16

-- the format of the data-in buffer, the low half of byte 5
abbrev pub in_format : List ℕ → ℕ
in_format bytes = slice_index bytes 5 % 16

-- the place of the data-out buffer
abbrev pub out_at : List ℕ → ℕ
out_at bytes = 48 + more_len bytes

-- the place of the data-in buffer, behind the data-out buffer
abbrev pub in_at : List ℕ → ℕ
in_at bytes = out_at bytes + buffer_len (out_format bytes) (slice_index bytes 6)

-- the length of the whole command
abbrev pub cmd_len : List ℕ → ℕ
cmd_len bytes = in_at bytes + buffer_len (in_format bytes) (slice_index bytes 7)

-- these bytes are this command; bytes 1 to 4, 16 to 19, 28, 30, the high five bits of byte 29 and the
-- low two of byte 31 are reserved
pub record SpellsCmd (bytes : List ℕ) (c : Cmd) : Type 0 where
  pub kind : slice_index bytes 0 ≡ 0x02
  pub full : cmd_len bytes ≤ length bytes
  pub tag : c.tag ≡ field 8 8 bytes
  pub lun : c.lun ≡ field 20 8 bytes
  pub attribute : c.attribute ≡ slice_index bytes 29 % 8
  pub cdb : c.cdb ≡ part 32 16 bytes
  pub more : c.more.items ≡ part 48 (more_len bytes) bytes
  pub out : SpellsBuffer (out_format bytes) (slice_index bytes 6) (drop (out_at bytes) bytes) c.out
  pub inn : SpellsBuffer (in_format bytes) (slice_index bytes 7) (drop (in_at bytes) bytes) c.inn

-- the reserved bytes are zero, so is the count of a buffer that is not indirect, and nothing follows
pub record CanonCmd (bytes : List ℕ) (c : Cmd) : Type 0 where
  pub spells : SpellsCmd bytes c
  pub exact : length bytes ≡ 48 + length c.more.items + written_len c.out + written_len c.inn
  pub from_1 : part 1 4 bytes ≡ zeros 4
  pub out_count : slice_index bytes 6 ≡ count_of c.out
  pub in_count : slice_index bytes 7 ≡ count_of c.inn
  pub from_16 : part 16 4 bytes ≡ zeros 4
  pub at_28 : slice_index bytes 28 ≡ 0
  pub at_29 : slice_index bytes 29 ≡ c.attribute
  pub at_30 : slice_index bytes 30 ≡ 0
  pub at_31 : slice_index bytes 31 ≡ length c.more.items

-- what can be written: an attribute of three bits, additional bytes in fours, and 256 bytes in all
pub record FitsCmd (c : Cmd) : Type 0 where
  pub attribute : c.attribute < 8
  pub fours : length c.more.items % 4 ≡ 0
  pub fits : 48 + length c.more.items + written_len c.out + written_len c.inn ≤ 256
