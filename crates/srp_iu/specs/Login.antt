-- The three units of a login (SRP, "SRP_LOGIN_REQ request", "SRP_LOGIN_RSP response" and
-- "SRP_LOGIN_REJ response").
use Rattle.std.specs.Prelude.{◌≡◌, ◌≤◌, ℕ, List, length, slice_index}
use Rattle.srp_iu.specs.declared.login.LoginReq.{LoginReq}
use Rattle.srp_iu.specs.declared.login.LoginRsp.{LoginRsp}
use Rattle.srp_iu.specs.declared.login.LoginRej.{LoginRej}
use Rattle.srp_iu.specs.Layout.{field, part, zeros}

-- these bytes are this login request; bytes 1 to 7, 20 to 23 and 27 to 31 are reserved
pub record SpellsLoginReq (bytes : List ℕ) (r : LoginReq) : Type 0 where
  pub kind : slice_index bytes 0 ≡ 0x00
  pub full : 64 ≤ length bytes
  pub tag : r.tag ≡ field 8 8 bytes
  pub iu_len : r.iu_len ≡ field 16 4 bytes
  pub formats : r.formats ≡ field 24 2 bytes
  pub flags : r.flags ≡ slice_index bytes 26
  pub initiator : r.initiator ≡ part 32 16 bytes
  pub target : r.target ≡ part 48 16 bytes

-- the reserved bytes are zero and nothing follows
pub record CanonLoginReq (bytes : List ℕ) (r : LoginReq) : Type 0 where
  pub spells : SpellsLoginReq bytes r
  pub exact : length bytes ≡ 64
  pub from_1 : part 1 7 bytes ≡ zeros 7
  pub from_20 : part 20 4 bytes ≡ zeros 4
  pub from_27 : part 27 5 bytes ≡ zeros 5

-- these bytes are this login response; bytes 1 to 3 and 27 to 51 are reserved
pub record SpellsLoginRsp (bytes : List ℕ) (r : LoginRsp) : Type 0 where
  pub kind : slice_index bytes 0 ≡ 0xC0
  pub full : 52 ≤ length bytes
  pub delta : r.delta ≡ field 4 4 bytes
  pub tag : r.tag ≡ field 8 8 bytes
  pub max_in : r.max_in ≡ field 16 4 bytes
  pub max_out : r.max_out ≡ field 20 4 bytes
  pub formats : r.formats ≡ field 24 2 bytes
  pub flags : r.flags ≡ slice_index bytes 26

-- the reserved bytes are zero and nothing follows
pub record CanonLoginRsp (bytes : List ℕ) (r : LoginRsp) : Type 0 where
  pub spells : SpellsLoginRsp bytes r
  pub exact : length bytes ≡ 52
  pub from_1 : part 1 3 bytes ≡ zeros 3
  pub from_27 : part 27 25 bytes ≡ zeros 25

-- these bytes are this login rejection; bytes 1 to 3, 16 to 23 and 26 to 31 are reserved
pub record SpellsLoginRej (bytes : List ℕ) (r : LoginRej) : Type 0 where
  pub kind : slice_index bytes 0 ≡ 0xC2
  pub full : 32 ≤ length bytes
  pub reason : r.reason ≡ field 4 4 bytes
  pub tag : r.tag ≡ field 8 8 bytes
  pub formats : r.formats ≡ field 24 2 bytes

-- the reserved bytes are zero and nothing follows
pub record CanonLoginRej (bytes : List ℕ) (r : LoginRej) : Type 0 where
  pub spells : SpellsLoginRej bytes r
  pub exact : length bytes ≡ 32
  pub from_1 : part 1 3 bytes ≡ zeros 3
  pub from_16 : part 16 8 bytes ≡ zeros 8
  pub from_26 : part 26 6 bytes ≡ zeros 6
