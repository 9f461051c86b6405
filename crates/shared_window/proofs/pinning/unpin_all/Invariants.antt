use Rattle.shared_window.specs.Pinning.{Releases}
use Rattle.shared_window.proofs.pinning.unpin_all.Given as goal

abbrev pub invariant-loop-k : goal.invariant-loop-k
invariant-loop-k l = Releases l.fn.seat l.k l.seat
