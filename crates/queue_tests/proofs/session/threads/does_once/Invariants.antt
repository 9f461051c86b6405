use Rattle.std.proofs.Common.{◌≡◌, false}
use Rattle.crq_session.specs.LinkSeats.{IsSeatOf}
use Rattle.queue_tests.proofs.session.threads.does_once.Given as goal

abbrev pub invariant-loop : goal.invariant-loop
invariant-loop l = record {
  ours : IsSeatOf l.link l.seat;
  outside : l.seat.send.inside ≡ false;
  first : l.seat.first ≡ l.fn.seat.first;
}
