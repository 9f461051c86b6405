use Rattle.std.proofs.Common.{◌≡◌, ◌≤◌, false}
use Rattle.crq_session.specs.LinkSeats.{IsSeatOf}
use Rattle.queue_tests.proofs.session.threads.come_and_go.Given as goal

abbrev pub invariant-loop-k : goal.invariant-loop-k
invariant-loop-k l = record {
  ours : IsSeatOf l.link l.seat;
  outside : l.seat.send.inside ≡ false;
  first : l.seat.first ≡ l.fn.seat.first;
  freed : l.freed ≤ l.n;
}
