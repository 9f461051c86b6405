-- That the data of each row lie in the region has one proof at most.
use Rattle.std.specs.Prelude.{ℕ}
use Rattle.std.proofs.Props.{props}
use Rattle.vscsi_client.specs.declared.op.Dir.TheVariants.{Neither, In, Out}
use Rattle.vscsi_client.specs.declared.row.Row.{Row}
use Rattle.vscsi_client.specs.declared.row.Row.TheVariants as rows
use Rattle.vscsi_client.specs.State.{ClientState}
use Rattle.vscsi_client.specs.Transferred.{FitsRow, FitRows}

FitsRow-prop : (pages : ℕ) (row : Row) → IsProp (FitsRow pages row)
FitsRow-prop pages (rows.Command In at len said) = Prim.hlevel props
FitsRow-prop pages (rows.Command Out at len said) = Prim.hlevel props
FitsRow-prop pages (rows.Command Neither at len said) = Prim.hlevel props
FitsRow-prop pages rows.Login = Prim.hlevel props
FitsRow-prop pages rows.Logout = Prim.hlevel props
FitsRow-prop pages rows.Task = Prim.hlevel props

pub FitRows-prop : (pages : ℕ) (s : ClientState) → IsProp (FitRows pages s)
FitRows-prop pages s = Prim.hlevel (props, FitsRow-prop)
