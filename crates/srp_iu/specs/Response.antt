-- Responses (SRP, "SRP_RSP response").
use Rattle.std.specs.Prelude.{◌≡◌, ◌≤◌, ◌+◌, ◌==◌, ℕ, [], ◌∷◌, List, length, slice_index, bit_and, if◌then◌else◌}
use Rattle.srp_iu.specs.declared.response.Rsp.{Rsp}
use Rattle.srp_iu.specs.declared.response.TheConstants.{RSPVALID, SNSVALID}
use Rattle.srp_iu.specs.declared.response_code.ResponseCode.{ResponseCode}
use Rattle.srp_iu.specs.declared.response_code.ResponseCode.TheVariants.{Complete, FieldsInvalid, NotSupported}
use Rattle.srp_iu.specs.Layout.{field, part, zeros}

-- the length of a list: what its field says where its flag is on, else 0
abbrev pub list_len : (flags flag said : ℕ) → ℕ
list_len flags flag said = if bit_and flags flag == 0 then 0 else said

-- the length of the response data, which their flag announces
abbrev pub response_len : List ℕ → ℕ
response_len bytes = list_len (slice_index bytes 18) RSPVALID (field 32 4 bytes)

-- the length of the sense data, which their flag announces
abbrev pub sense_len : List ℕ → ℕ
sense_len bytes = list_len (slice_index bytes 18) SNSVALID (field 28 4 bytes)

-- these bytes are this response; bytes 1 to 3, 16 and 17 are reserved
pub record SpellsRsp (bytes : List ℕ) (r : Rsp) : Type 0 where
  pub kind : slice_index bytes 0 ≡ 0xC1
  pub full : 36 + response_len bytes + sense_len bytes ≤ length bytes
  pub delta : r.delta ≡ field 4 4 bytes
  pub tag : r.tag ≡ field 8 8 bytes
  pub flags : r.flags ≡ slice_index bytes 18
  pub status : r.status ≡ slice_index bytes 19
  pub out_residual : r.out_residual ≡ field 20 4 bytes
  pub in_residual : r.in_residual ≡ field 24 4 bytes
  pub response : r.response.items ≡ part 36 (response_len bytes) bytes
  pub sense : r.sense.items ≡ part (36 + response_len bytes) (sense_len bytes) bytes

-- the reserved bytes are zero, so is the length of a list whose flag is off, and nothing follows
pub record CanonRsp (bytes : List ℕ) (r : Rsp) : Type 0 where
  pub spells : SpellsRsp bytes r
  pub exact : length bytes ≡ 36 + length r.response.items + length r.sense.items
  pub from_1 : part 1 3 bytes ≡ zeros 3
  pub from_16 : part 16 2 bytes ≡ zeros 2
  pub sense_said : field 28 4 bytes ≡ length r.sense.items
  pub response_said : field 32 4 bytes ≡ length r.response.items

-- what can be written: the flags announce each list that is not empty, and the whole fits 256 bytes
pub record FitsRsp (r : Rsp) : Type 0 where
  pub fits : 36 + length r.response.items + length r.sense.items ≤ 256
  pub no_response : bit_and r.flags RSPVALID ≡ 0 → r.response.items ≡ []
  pub no_sense : bit_and r.flags SNSVALID ≡ 0 → r.sense.items ≡ []

-- the number of a response code
abbrev pub response_code : ResponseCode → ℕ
response_code Complete = 0x00
response_code FieldsInvalid = 0x02
response_code NotSupported = 0x04

-- the response data that carry a code
abbrev pub response_data : ResponseCode → List ℕ
response_data code = 0 ∷ 0 ∷ 0 ∷ response_code code ∷ []
