-- How many requests the logins grant that a server grants in the turns of a run.
use Rattle.std.specs.Prelude.{ℕ, All, List, Option, IfSome}
use Rattle.vio_num.specs.declared.history.Grant.{Grant}
use Rattle.vio_trace.specs.declared.rows.Trace.{Trace}
use Rattle.block_server.specs.Receipts.{GrantsMany}
use Rattle.block_server.specs.Units.{GrantEach}
use Rattle.block_server.specs.declared.unit.Unit.{Unit}

-- Where each login of a server granted so many, each does so still.
abbrev pub KeepsGrants : (units units' : List Unit) (lines lines' : List Grant) → Type 0
KeepsGrants units units' lines lines' = (granted : ℕ) → GrantEach granted units lines → GrantEach granted units' lines'

-- Then the lines of the trace say so, too, if there is one.
abbrev pub TellsGrants : List Unit → List Grant → Option Trace → Type 0
TellsGrants units lines result = IfSome result (λ trace. (granted : ℕ) → GrantEach granted units lines → All (GrantsMany granted) trace.grants)
