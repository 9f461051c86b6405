use Rattle.std.proofs.Common.{◌≡◌}
use Rattle.arrayvec.specs.ArrayVec.{array_vec_len}
use Rattle.vscsi_client.specs.Units.{pieces}
use Rattle.vscsi_client.proofs.op.Op.pieces.Given as goal

abbrev pub invariant-loop-i : goal.invariant-loop-i
invariant-loop-i l = record {
  items : l.list.items ≡ pieces l.self l.i;
  few : array_vec_len l.list ≡ l.i;
}
