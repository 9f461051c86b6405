-- What becomes of each SRP entry that a server unit took (SRP, "Flow control").
use Rattle.std.specs.Prelude.{◌⊎◌, ◌≡◌, ◌==◌, ◌&&◌, ◌<◌, ◌≤◌, ℕ, Bool, false, ⊤, List, length, map, filter, slice_index}
use Rattle.std.specs.List.{Contains}
use Rattle.srp_iu.specs.declared.unit.Iu.{Iu}
use Rattle.srp_iu.specs.declared.unit.Iu.TheVariants as units
use Rattle.vio_num.specs.declared.history.Grant.{Grant}
use Rattle.vio_num.specs.declared.history.Grant.TheVariants.{Granted, Lapsed}
use Rattle.vio_num.specs.declared.names.UnitId.{UnitId}
use Rattle.block_server.specs.Makers.{same_unit}
use Rattle.block_server.specs.Receipts.{Receipt}

-- What became of an SRP entry that was taken: it ended its session; its unit is none that asks; it asked for a login; it
-- asked to end this login; or it is a command or a task under this login.
pub data Fate : Type 0 where
  ends_it : Fate
  ignored : Fate
  asks_login : Fate
  asks_logout : ℕ → Fate
  asked : ℕ → Fate

pub record Judged : Type 0 where
  pub receipt : Receipt
  pub fate : Fate

-- the login under which it is a command or a task, and 0 where it is none
abbrev pub login_of : Fate → ℕ
login_of (asked n) = n
login_of fate = 0

-- The login was granted in this session, to an entry before this one.
pub record HasGrant (unit : UnitId) (grants : List Grant) (session login number : ℕ) : Type 0 where
  pub at : ℕ
  pub credits : ℕ
  pub listed : Contains grants (Granted unit session login at credits)
  pub earlier : at < number

-- An information unit that is a command or a task, or bytes that have the type and the tag of one.
pub record Asks (bytes : List ℕ) : Type 0 where
  pub type_is : (slice_index bytes 0 ≡ 0x01) ⊎ (slice_index bytes 0 ≡ 0x02)
  pub tagged : 16 ≤ length bytes

-- An information unit that is none of those that a server acts on.
abbrev pub IsIgnored : Iu → Type 0
IsIgnored (units.LoginReq request) = ⊥
IsIgnored (units.ILogout tag) = ⊥
IsIgnored (units.TskMgmt task) = ⊥
IsIgnored (units.Cmd command) = ⊥
IsIgnored iu = ⊤

-- whether a line ends this login
abbrev pub ends : (unit : UnitId) → (login : ℕ) → Grant → Bool
ends unit n (Granted of session login number credits) = false
ends unit n (Lapsed of session login cause outstanding granted) = same_unit of unit && (login == n)

-- a request by its place and its bytes
pub record Key : Type 0 where
  pub session : ℕ
  pub number : ℕ
  pub bytes : List ℕ

abbrev pub receipt_key : Receipt → Key
receipt_key r = record { session = r.session; number = r.number; bytes = r.bytes }

-- the requests that were accepted under a login, in their order
abbrev pub accepted : (login : ℕ) → List Judged → List Key
accepted login judged = map (λ j. receipt_key j.receipt) (filter (λ j. login_of j.fate == login) judged)
