-- Which bytes are refused, and why.
use Rattle.std.specs.Prelude.{◌==◌, ◌+◌, ◌&&◌, ◌||◌, ℕ, Bool, List, length, slice_index, nat_lt, Option, Some, None, if◌then◌else◌}
use Rattle.srp_iu.specs.declared.unit.IuFault.{IuFault}
use Rattle.srp_iu.specs.declared.unit.IuFault.TheVariants.{Short, UnknownType, BadFormat, Long}
use Rattle.srp_iu.specs.Command.{out_format, in_format, cmd_len}
use Rattle.srp_iu.specs.Response.{response_len, sense_len}

-- the length of the part that each unit of a type has; 0 for a byte that is no type
abbrev pub fixed_len : ℕ → ℕ
fixed_len kind =
    if kind == 0x00 then 64
    else if kind == 0x01 then 48
    else if kind == 0x02 then 48
    else if kind == 0x03 then 16
    else if kind == 0x41 then 16
    else if kind == 0x80 then 16
    else if kind == 0x81 then 16
    else if kind == 0xC0 then 52
    else if kind == 0xC1 then 36
    else if kind == 0xC2 then 32
    else 0

-- the length of the whole unit, whose fixed part is there
abbrev pub full_len : List ℕ → ℕ
full_len bytes =
    if slice_index bytes 0 == 0x02 then cmd_len bytes
    else if slice_index bytes 0 == 0xC1 then 36 + response_len bytes + sense_len bytes
    else fixed_len (slice_index bytes 0)

-- a command with a buffer format above 2
abbrev pub has_bad_format : List ℕ → Bool
has_bad_format bytes =
    slice_index bytes 0 == 0x02 && (nat_lt 2 (out_format bytes) || nat_lt 2 (in_format bytes))

-- why bytes are no unit, the first reason that stands; none where they are one
abbrev pub fault_of : List ℕ → Option IuFault
fault_of bytes =
    if nat_lt 256 (length bytes) then Some Long
    else if length bytes == 0 then Some (Short 1)
    else if fixed_len (slice_index bytes 0) == 0 then Some (UnknownType (slice_index bytes 0))
    else if nat_lt (length bytes) (fixed_len (slice_index bytes 0)) then Some (Short (fixed_len (slice_index bytes 0)))
    else if has_bad_format bytes then Some (BadFormat (slice_index bytes 5))
    else if nat_lt (length bytes) (full_len bytes) then Some (Short (full_len bytes))
    else None
