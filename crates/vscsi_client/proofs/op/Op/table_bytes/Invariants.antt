use Rattle.std.proofs.Common.{◌≡◌, ◌*◌, length}
use Rattle.vscsi_client.specs.Units.{table_bytes}
use Rattle.vscsi_client.proofs.op.Op.table_bytes.Given as goal

abbrev pub invariant-loop-i : goal.invariant-loop-i
invariant-loop-i l = record {
  bytes : l.bytes.items ≡ table_bytes l.self l.i;
  long : length l.bytes.items ≡ 16 * l.i;
}
