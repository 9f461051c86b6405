use Rattle.std.proofs.Common.{◌≡◌, ℕ, [], Some, length}
use Rattle.std.specs.List.{slice_get}
use Rattle.vcpu_run.specs.declared.pair.Pair.{Pair}
use Rattle.vcpu_run.specs.Agreed.{AreAllOut}
use Rattle.vcpu_run.specs.Answered.{AreAnswered}
use Rattle.vcpu_run.specs.Links.{AreClosed}
use Rattle.vcpu_run.specs.Machines.{IsPlanned}
use Rattle.vcpu_run.specs.Pairs.{ArePairs}
use Rattle.vcpu_run.specs.PlainPairs.{OpenPlainly}
use Rattle.vcpu_run.specs.Received.{AreNew}
use Rattle.vcpu_run.proofs.making.make_pairs.Given as goal

abbrev pub invariant-loop-place : goal.invariant-loop-place
invariant-loop-place l = record {
  count : length l.pairs.items ≡ l.place;
  are : ArePairs l.home [] l.pairs.items;
  planned : (k : ℕ) (pair : Pair) → slice_get l.pairs.items k ≡ Some pair → IsPlanned l.partitions k pair;
  out : AreAllOut l.pairs.items;
  answered : AreAnswered [] l.pairs.items;
  closed : AreClosed l.pairs.items;
  fresh : AreNew l.pairs.items;
  opens : OpenPlainly l.pairs.items;
}
