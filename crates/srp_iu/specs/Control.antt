-- The units of 16 bytes: logouts (SRP, "SRP_I_LOGOUT request" and "SRP_T_LOGOUT request") and credits
-- ("SRP_CRED_REQ request" and "SRP_CRED_RSP response").
use Rattle.std.specs.Prelude.{◌≡◌, ◌≤◌, ℕ, List, length, slice_index}
use Rattle.srp_iu.specs.Layout.{field, part, zeros}

-- these bytes are a unit of this type that has a tag alone; bytes 1 to 7 are reserved
pub record SpellsTag (bytes : List ℕ) (type tag : ℕ) : Type 0 where
  pub kind : slice_index bytes 0 ≡ type
  pub full : 16 ≤ length bytes
  pub tagged : tag ≡ field 8 8 bytes

-- the reserved bytes are zero and nothing follows
pub record CanonTag (bytes : List ℕ) (type tag : ℕ) : Type 0 where
  pub spells : SpellsTag bytes type tag
  pub exact : length bytes ≡ 16
  pub from_1 : part 1 7 bytes ≡ zeros 7

-- these bytes are a unit of this type that has a number in bytes 4 to 7, a reason or a request limit
-- delta, and a tag; bytes 1 to 3 are reserved
pub record SpellsNumber (bytes : List ℕ) (type number tag : ℕ) : Type 0 where
  pub kind : slice_index bytes 0 ≡ type
  pub full : 16 ≤ length bytes
  pub numbered : number ≡ field 4 4 bytes
  pub tagged : tag ≡ field 8 8 bytes

-- the reserved bytes are zero and nothing follows
pub record CanonNumber (bytes : List ℕ) (type number tag : ℕ) : Type 0 where
  pub spells : SpellsNumber bytes type number tag
  pub exact : length bytes ≡ 16
  pub from_1 : part 1 3 bytes ≡ zeros 3
