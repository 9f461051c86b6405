-- Residuals of a command's data (SRP, "SRP_RSP response", residual counts).
use Rattle.std.specs.Prelude.{◌≡◌, ◌+◌, ◌-◌, ℕ, nat_lt, if◌then◌else◌}
use Rattle.srp_iu.specs.declared.residual.Residual.{Residual}
use Rattle.srp_iu.specs.declared.residual.Residual.TheVariants.{Exact, Under, Over}
use Rattle.srp_iu.specs.declared.response.Rsp.{Rsp}
use Rattle.srp_iu.specs.declared.response.TheConstants.{DIOVER, DIUNDER, DOOVER, DOUNDER}

-- data-in: the buffer has room for `expected` bytes, and the device gave `given`
abbrev pub in_residual : (expected given : ℕ) → Residual
in_residual expected given =
    if nat_lt given expected then Under (expected - given)
    else if nat_lt expected given then Over (given - expected)
    else Exact

-- data-out: the buffer has `offered` bytes, and the device used `used` of them, or lacked `lacking` more
abbrev pub out_residual : (offered used lacking : ℕ) → Residual
out_residual offered used lacking =
    if nat_lt 0 lacking then Over lacking
    else if nat_lt used offered then Under (offered - used)
    else Exact

-- the residual count
abbrev pub residual_count : Residual → ℕ
residual_count Exact = 0
residual_count (Under count) = count
residual_count (Over count) = count

-- the flag of data-in
abbrev pub in_flag : Residual → ℕ
in_flag Exact = 0
in_flag (Under count) = DIUNDER
in_flag (Over count) = DIOVER

-- the flag of data-out
abbrev pub out_flag : Residual → ℕ
out_flag Exact = 0
out_flag (Under count) = DOUNDER
out_flag (Over count) = DOOVER

-- The response has these residuals, and beside their flags those of its lists alone: RSPVALID, SNSVALID, or none.
pub record HasResiduals (out inn : Residual) (lists : ℕ) (r : Rsp) : Type 0 where
  pub flags : r.flags ≡ lists + out_flag out + in_flag inn
  pub out_count : r.out_residual ≡ residual_count out
  pub in_count : r.in_residual ≡ residual_count inn
