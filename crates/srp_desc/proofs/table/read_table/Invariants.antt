use Rattle.std.proofs.Common.{◌≡◌, length}
use Rattle.srp_iu.specs.Buffer.{descs_of}
use Rattle.srp_desc.proofs.table.read_table.Given as goal

abbrev pub invariant-loop-n : goal.invariant-loop-n
invariant-loop-n l = record {
  listed : l.list.items ≡ descs_of l.n l.bytes;
  counted : length l.list.items ≡ l.n;
}
