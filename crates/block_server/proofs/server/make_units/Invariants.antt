use Rattle.std.proofs.Common.{◌≡◌, List}
use Rattle.vio_num.specs.declared.history.Served.{Served}
use Rattle.std.specs.Vec.{vec_len}
use Rattle.block_server.specs.Cargo.{AreIdle}
use Rattle.block_server.specs.Ready.{AreDown}
use Rattle.block_server.specs.Judges.{AreUnused}
use Rattle.block_server.specs.Owed.{OweNone}
use Rattle.block_server.specs.Receipts.{AwaitNone}
use Rattle.block_server.specs.Refusals.{ExplainNone}
use Rattle.block_server.specs.Serving.{Terms}
use Rattle.block_server.specs.Talk.{AreNewUnits}
use Rattle.block_server.specs.Units.{AreGranting, AreServing}
use Rattle.block_server.proofs.server.make_units.Given as goal

abbrev pub invariant-loop-unit : goal.invariant-loop-unit
invariant-loop-unit l = record {
  count : vec_len l.units ≡ l.unit;
  grants : AreGranting l.grant l.units.items;
  down : AreDown l.units.items;
  none : AwaitNone l.units.items;
  unused : AreUnused l.units.items;
  unanswered : OweNone l.units.items;
  idle : AreIdle l.units.items;
  unrefused : ExplainNone l.units.items;
  made : AreNewUnits l.units.items;
  serving : (terms : Terms) → (rows : List Served) → AreServing terms l.partition l.units.items rows;
}
