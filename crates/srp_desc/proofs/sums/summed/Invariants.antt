use Rattle.std.proofs.Common.{◌≡◌, ◌≤◌, ◌*◌, take}
use Rattle.srp_desc.specs.Pieces.{sum_of}
use Rattle.srp_desc.proofs.sums.summed.Given as goal

abbrev pub invariant-loop-desc : goal.invariant-loop-desc
invariant-loop-desc l = record {
  summed : l.sum ≡ sum_of (take l.desc-index l.list);
  small : l.sum ≤ 4294967295 * l.desc-index;
}
