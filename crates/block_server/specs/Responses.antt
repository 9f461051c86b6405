-- The information units with which a unit answers (SRP, "SRP_RSP response", "SRP_LOGIN_RSP response", "SRP_LOGIN_REJ
-- response").
use Rattle.std.specs.Prelude.{◌≡◌, ◌==◌, ◌||◌, ℕ, List, [], ◌∷◌, Option, Some, None, if◌then◌else◌}
use Rattle.srp_iu.specs.declared.unit.Iu.TheVariants as units
use Rattle.srp_iu.specs.declared.unit.TheConstants.{MAX_IU_LEN}
use Rattle.srp_iu.specs.declared.login.LoginRsp.{LoginRsp}
use Rattle.srp_iu.specs.declared.login.LoginRej.{LoginRej}
use Rattle.srp_iu.specs.declared.login.TheConstants.{BUFFER_FORMATS}
use Rattle.srp_iu.specs.declared.task.TskMgmt.{TskMgmt}
use Rattle.srp_iu.specs.declared.response.Rsp.{Rsp}
use Rattle.srp_iu.specs.declared.response.TheConstants.{RSPVALID, SNSVALID}
use Rattle.srp_iu.specs.declared.response_code.ResponseCode.{ResponseCode}
use Rattle.srp_iu.specs.declared.response_code.ResponseCode.TheVariants.{Complete, FieldsInvalid, NotSupported}
use Rattle.srp_iu.specs.Grammar.{Canon}
use Rattle.srp_iu.specs.Residual.{HasResiduals, in_residual, out_residual}
use Rattle.srp_iu.specs.declared.residual.Residual.TheVariants.{Exact}
use Rattle.srp_iu.specs.Response.{response_data}
use Rattle.block_disk.specs.Cdb.{is_disk_unit}
use Rattle.block_disk.specs.declared.reply.ScsiReply.{ScsiReply}

-- the response that grants a login
abbrev pub login_response : (tag credits : ℕ) → LoginRsp
login_response tag credits = record { delta = credits; tag = tag; max_in = MAX_IU_LEN; max_out = MAX_IU_LEN; formats = BUFFER_FORMATS; flags = 0 }

-- the rejection of a login
abbrev pub login_rejection : (tag reason : ℕ) → LoginRej
login_rejection tag reason = record { reason = reason; tag = tag; formats = BUFFER_FORMATS }

-- The bytes are the canonical ones of a response that grants a login, or of a rejection.
abbrev pub GrantsLogin : List ℕ → (tag credits : ℕ) → Type 0
GrantsLogin bytes tag credits = Canon bytes (units.LoginRsp (login_response tag credits))

abbrev pub RejectsLogin : List ℕ → (tag reason : ℕ) → Type 0
RejectsLogin bytes tag reason = Canon bytes (units.LoginRej (login_rejection tag reason))

-- the sense data of a disk step
abbrev pub sense_of : Option (List ℕ) → List ℕ
sense_of None = []
sense_of (Some sense) = sense

-- the flag that announces them
abbrev pub sense_flag : Option (List ℕ) → ℕ
sense_flag None = 0
sense_flag (Some sense) = SNSVALID

-- The response says a disk step's status, its sense data and its residuals, where `offered` bytes of data-out came with
-- the command and its data-in buffer has room for `expected`.
pub record HasStatus (tag offered expected : ℕ) (reply : ScsiReply) (r : Rsp) : Type 0 where
  pub delta : r.delta ≡ 1
  pub tag_is : r.tag ≡ tag
  pub status : r.status ≡ reply.status
  pub sense : r.sense.items ≡ sense_of reply.sense
  pub no_response : r.response.items ≡ []
  pub residuals : HasResiduals (out_residual offered reply.out_used reply.out_short) (in_residual expected reply.in_len) (sense_flag reply.sense) r

-- The response says a response code, and nothing else.
pub record HasCode (tag : ℕ) (code : ResponseCode) (r : Rsp) : Type 0 where
  pub delta : r.delta ≡ 1
  pub tag_is : r.tag ≡ tag
  pub status : r.status ≡ 0
  pub no_sense : r.sense.items ≡ []
  pub response : r.response.items ≡ response_data code
  pub residuals : HasResiduals Exact Exact RSPVALID r

-- The bytes of an answer, if it has any, are the canonical ones of a response.
abbrev pub Answers : List ℕ → (Rsp → Type 0) → Type 0
Answers [] P = Unit {0}
Answers (byte ∷ bytes) P = (r : Rsp) × Canon (byte ∷ bytes) (units.Rsp r) × P r

-- the code that a task management request is answered with: no function finds a task to manage, since a request is
-- answered before the next one is served
abbrev pub task_code : TskMgmt → ResponseCode
task_code task =
    if is_disk_unit task.lun then (if (task.function == 0x01) || ((task.function == 0x02) || (task.function == 0x08)) then Complete else NotSupported)
    else FieldsInvalid
