use Rattle.std.proofs.Common.{◌≡◌, ◌≤◌, vec_len, vec_capacity}
use Rattle.unit_region.specs.Pattern.{pattern}
use Rattle.unit_region.proofs.region.fill.Given as goal

abbrev pub invariant-loop-i : goal.invariant-loop-i
invariant-loop-i g l = record {
  long : vec_len l.bytes ≡ l.i;
  filled : l.bytes.items ≡ pattern l.seed l.i;
  room : l.len ≤ vec_capacity l.bytes;
}
