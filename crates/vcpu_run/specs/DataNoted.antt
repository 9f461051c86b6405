-- What a client knows of the data of its commands, an answer that it noted says.
use Rattle.std.specs.Prelude.{◌≡◌, IfSome}
use Rattle.vio_num.specs.declared.names.UnitId.{UnitId}
use Rattle.vcpu_run.specs.declared.driver.Driver.{Driver}
use Rattle.vcpu_run.specs.declared.pair.Pair.{Pair}
use Rattle.vcpu_run.specs.DataKept.{AreAsked, AreNoted}

-- A client of this server unit asked nothing under tag 0, and noted an answer of each tag of which it has data.
pub record HasNoted (server : UnitId) (driver : Driver) : Type 0 where
  pub asked : AreAsked driver.client.outgoing
  pub noted : AreNoted driver.client.rows driver.answers.items
  pub of_server : driver.client.server ≡ server

abbrev pub PairNoted : Pair → Type 0
PairNoted pair = IfSome pair.driver (HasNoted pair.server)
