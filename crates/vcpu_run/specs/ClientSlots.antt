-- Which slots of its region the requests of a client have.
use Rattle.std.specs.Prelude.{◌<◌, All}
use Rattle.vscsi_client.specs.State.{ClientState, IsStageWithin}
use Rattle.vscsi_client.specs.declared.TheConstants.{SLOTS}
use Rattle.vscsi_client.specs.declared.outgoing.Outgoing.{Outgoing}

-- Each request that is outstanding has one of the 200 slots, and a login that is under way one of them or the place behind them.
pub record HoldsSlots (s : ClientState) : Type 0 where
  pub requests : All (λ (o : Outgoing). o.slot < SLOTS) s.outgoing
  pub stage : IsStageWithin s.login
