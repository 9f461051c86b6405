-- The end of a login, and when one is granted (SRP, "SRP_LOGIN_REQ request").
use Rattle.std.specs.Prelude.{◌≡◌, ◌<◌, ◌≤◌, ℕ, List, false, [], ◌∷◌, ◌++◌, None, bit_and}
use Rattle.vio_num.specs.declared.history.Grant.TheVariants.{Lapsed}
use Rattle.vio_num.specs.declared.history.Lapse.{Lapse}
use Rattle.srp_iu.specs.declared.login.LoginReq.{LoginReq}
use Rattle.srp_iu.specs.declared.login.TheConstants.{BUFFER_FORMATS, FORMATS_UNSUPPORTED, LENGTH_TOO_LARGE, MULTICHANNEL_UNSUPPORTED, UNABLE_TO_ESTABLISH_CHANNEL}
use Rattle.srp_iu.specs.declared.unit.TheConstants.{MAX_IU_LEN}
use Rattle.block_server.specs.Responses.{RejectsLogin}
use Rattle.block_server.specs.declared.records.Records.{Records}
use Rattle.block_server.specs.declared.unit.Unit.{Unit}

-- The login of a unit ended for this cause: none is on, nothing is pending, waits or is kept, and one line more says so.
pub record EndsLogin (unit unit' : Unit) (records records' : Records) (session : ℕ) (cause : Lapse) (outstanding granted : ℕ) : Type 0 where
  pub off : unit'.logins.current ≡ 0
  pub closed : unit'.logins.taking ≡ false
  pub pending : unit'.pending.items ≡ []
  pub waiting : unit'.waiting ≡ None
  pub kept : unit'.line.kept ≡ None
  pub as_many : unit'.logins.granted ≡ unit.logins.granted
  pub line : records'.grants.items ≡ records.grants.items ++ Lapsed unit.id session unit.logins.current cause outstanding granted ∷ []

-- A login may be granted for what its request asks, while this one is on (0: none).
pub record IsGrantable (current : ℕ) (request : LoginReq) : Type 0 where
  pub none_on : current ≡ 0
  pub length : request.iu_len ≤ MAX_IU_LEN
  pub channels : bit_and request.flags 0x03 ≡ 0
  pub formats : 0 < bit_and request.formats BUFFER_FORMATS

-- The reason for which a login is rejected while this one is on: the first cause that stands.
pub record IsRejectedFor (current : ℕ) (request : LoginReq) (reason : ℕ) : Type 0 where
  pub on : 0 < current → reason ≡ UNABLE_TO_ESTABLISH_CHANNEL
  pub length : current ≡ 0 → MAX_IU_LEN < request.iu_len → reason ≡ LENGTH_TOO_LARGE
  pub channels : current ≡ 0 → request.iu_len ≤ MAX_IU_LEN → 0 < bit_and request.flags 0x03 → reason ≡ MULTICHANNEL_UNSUPPORTED
  pub formats : current ≡ 0 → request.iu_len ≤ MAX_IU_LEN → bit_and request.flags 0x03 ≡ 0 → bit_and request.formats BUFFER_FORMATS ≡ 0 → reason ≡ FORMATS_UNSUPPORTED

-- The bytes are the answer that rejects it.
pub record IsRejection (current : ℕ) (request : LoginReq) (bytes : List ℕ) : Type 0 where
  pub reason : ℕ
  pub why : IsRejectedFor current request reason
  pub bytes_are : RejectsLogin bytes request.tag reason
