-- The grammar of information units (SRP, "Information units"): a relation between bytes and units, by
-- the type in byte 0. A type is 0x00 to 0x03 or 0x41 from an initiator, 0x80, 0x81 or 0xC0 to 0xC2
-- from a target.
use Rattle.std.specs.Prelude.{◌≤◌, ℕ, List, length, ⊤}
use Rattle.srp_iu.specs.declared.unit.Iu.{Iu}
use Rattle.srp_iu.specs.declared.unit.Iu.TheVariants as units
use Rattle.srp_iu.specs.Login.{SpellsLoginReq, CanonLoginReq, SpellsLoginRsp, CanonLoginRsp, SpellsLoginRej, CanonLoginRej}
use Rattle.srp_iu.specs.Task.{SpellsTskMgmt, CanonTskMgmt}
use Rattle.srp_iu.specs.Command.{SpellsCmd, CanonCmd, FitsCmd}
use Rattle.srp_iu.specs.Response.{SpellsRsp, CanonRsp, FitsRsp}
use Rattle.srp_iu.specs.Control.{SpellsTag, CanonTag, SpellsNumber, CanonNumber}

-- the layout of each type
abbrev pub SpellsUnit : List ℕ → Iu → Type 0
SpellsUnit bytes (units.LoginReq r) = SpellsLoginReq bytes r
SpellsUnit bytes (units.TskMgmt t) = SpellsTskMgmt bytes t
SpellsUnit bytes (units.Cmd c) = SpellsCmd bytes c
SpellsUnit bytes (units.ILogout tag) = SpellsTag bytes 0x03 tag
SpellsUnit bytes (units.CredRsp tag) = SpellsTag bytes 0x41 tag
SpellsUnit bytes (units.TLogout reason tag) = SpellsNumber bytes 0x80 reason tag
SpellsUnit bytes (units.CredReq delta tag) = SpellsNumber bytes 0x81 delta tag
SpellsUnit bytes (units.LoginRsp r) = SpellsLoginRsp bytes r
SpellsUnit bytes (units.Rsp r) = SpellsRsp bytes r
SpellsUnit bytes (units.LoginRej r) = SpellsLoginRej bytes r

-- These bytes, at most 256, are this unit. Reserved bytes and bytes behind the unit may be anything.
pub record Spells (bytes : List ℕ) (iu : Iu) : Type 0 where
  pub within : length bytes ≤ 256
  pub unit : SpellsUnit bytes iu

-- the canonical bytes of each type
abbrev pub CanonUnit : List ℕ → Iu → Type 0
CanonUnit bytes (units.LoginReq r) = CanonLoginReq bytes r
CanonUnit bytes (units.TskMgmt t) = CanonTskMgmt bytes t
CanonUnit bytes (units.Cmd c) = CanonCmd bytes c
CanonUnit bytes (units.ILogout tag) = CanonTag bytes 0x03 tag
CanonUnit bytes (units.CredRsp tag) = CanonTag bytes 0x41 tag
CanonUnit bytes (units.TLogout reason tag) = CanonNumber bytes 0x80 reason tag
CanonUnit bytes (units.CredReq delta tag) = CanonNumber bytes 0x81 delta tag
CanonUnit bytes (units.LoginRsp r) = CanonLoginRsp bytes r
CanonUnit bytes (units.Rsp r) = CanonRsp bytes r
CanonUnit bytes (units.LoginRej r) = CanonLoginRej bytes r

-- These bytes are the canonical ones of this unit: reserved bytes are zero and nothing follows.
pub record Canon (bytes : List ℕ) (iu : Iu) : Type 0 where
  pub within : length bytes ≤ 256
  pub unit : CanonUnit bytes iu

-- The unit has bytes. All but commands and responses have them whatever their fields are.
abbrev pub IsWritable : Iu → Type 0
IsWritable (units.LoginReq r) = ⊤
IsWritable (units.TskMgmt t) = ⊤
IsWritable (units.Cmd c) = FitsCmd c
IsWritable (units.ILogout tag) = ⊤
IsWritable (units.CredRsp tag) = ⊤
IsWritable (units.TLogout reason tag) = ⊤
IsWritable (units.CredReq delta tag) = ⊤
IsWritable (units.LoginRsp r) = ⊤
IsWritable (units.Rsp r) = FitsRsp r
IsWritable (units.LoginRej r) = ⊤
