-- Sense data in fixed format (SPC, "Fixed format sense data"): what a check condition says.
use Rattle.std.specs.Prelude.{ℕ, List, [], ◌∷◌, slice_index}

-- A cause is a sense key, an additional sense code and its qualifier.

-- ILLEGAL REQUEST, INVALID COMMAND OPERATION CODE
abbrev pub invalid_opcode : List ℕ
invalid_opcode = 0x5 ∷ 0x20 ∷ 0x00 ∷ []

-- ILLEGAL REQUEST, LOGICAL BLOCK ADDRESS OUT OF RANGE
abbrev pub out_of_range : List ℕ
out_of_range = 0x5 ∷ 0x21 ∷ 0x00 ∷ []

-- ILLEGAL REQUEST, INVALID FIELD IN CDB
abbrev pub invalid_field : List ℕ
invalid_field = 0x5 ∷ 0x24 ∷ 0x00 ∷ []

-- ILLEGAL REQUEST, LOGICAL UNIT NOT SUPPORTED
abbrev pub no_such_unit : List ℕ
no_such_unit = 0x5 ∷ 0x25 ∷ 0x00 ∷ []

-- MEDIUM ERROR, UNRECOVERED READ ERROR
abbrev pub read_error : List ℕ
read_error = 0x3 ∷ 0x11 ∷ 0x00 ∷ []

-- MEDIUM ERROR, WRITE ERROR
abbrev pub write_error : List ℕ
write_error = 0x3 ∷ 0x0C ∷ 0x00 ∷ []

-- the eighteen bytes of a current error: the key in byte 2, ten bytes behind byte 7, code and qualifier in bytes 12 and 13
abbrev pub sense_data : List ℕ → List ℕ
sense_data cause =
    0x70 ∷ 0 ∷ slice_index cause 0 ∷ 0 ∷ 0 ∷ 0 ∷ 0 ∷ 10 ∷ 0 ∷ 0 ∷ 0 ∷ 0 ∷ slice_index cause 1 ∷ slice_index cause 2 ∷ 0 ∷ 0 ∷ 0 ∷ 0 ∷ []
