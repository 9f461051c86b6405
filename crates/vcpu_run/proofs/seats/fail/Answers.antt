use Rattle.std.proofs.Common.{◌∙◌, Some, ap, arith, refl, slice_index_or, sym, true}
use Rattle.vcpu_run.specs.declared.unit_seat.Seat.TheVariants as places
use Rattle.vcpu_run.proofs.CalmTurns.{shut_none, shut_then}
use Rattle.vcpu_run.proofs.ClientsLay.{none_lay_on, none_lay_same}
use Rattle.vcpu_run.proofs.ValuesKept.{values_then}
use Rattle.vcpu_run.proofs.Agreeing.{all_on, all_same}
use Rattle.vcpu_run.proofs.Elsewhere.{else_none, else_on, else_within}
use Rattle.vcpu_run.proofs.Driving.{driven_on, driven_same, seat_of, still_clients}
use Rattle.vcpu_run.proofs.PortTurns.{apart_on, beside_apart, idle_same, silent_on, silent_same}
use Rattle.vcpu_run.proofs.GivesAll.{all_give_on, all_give_same}
use Rattle.vcpu_run.proofs.FailedPorts.{closed_all, closed_before, closed_next}
use Rattle.vcpu_run.proofs.FailedShut.{shut_all, shut_before, shut_next}
use Rattle.vcpu_run.proofs.LoginsTold.{true_false}
use Rattle.vcpu_run.proofs.PlainSeats.{all_fail_on, all_fail_same}
use Rattle.vcpu_run.specs.ActsAt.{FailsOnce}
use Rattle.vcpu_run.proofs.ActsPairs.{all_lead_on, all_lead_same}
use Rattle.vcpu_run.proofs.seats.fail.Goals as goal

pub fail_at-requires-clause-client : goal.fail_at-requires-clause-client
fail_at-requires-clause-client c = λ k at.
    c.loop-k.invariant.clients c.loop-k.k k (seat_of c.args.seats.now c.loop-k.k c.loop-k-test.true ∙ ap Some at)

pub fail_at-requires-clause-port : goal.fail_at-requires-clause-port
fail_at-requires-clause-port c = λ at.
    c.loop-k.invariant.ports c.loop-k.k (seat_of c.args.seats.now c.loop-k.k c.loop-k-test.true ∙ ap Some at)

pub returns-in_err-fail_at-clause-driven : goal.returns-in_err-fail_at-clause-driven
returns-in_err-fail_at-clause-driven c = driven_on c.args.pairs.now c.loop-k.pairs c.fail_at.new.pairs c.loop-k.invariant.driven c.fail_at.ensures.driven

pub returns-then-not-branch-clause-driven : goal.returns-then-not-branch-clause-driven
returns-then-not-branch-clause-driven c = driven_on c.args.pairs.now c.loop-k.pairs c.fail_at.new.pairs c.loop-k.invariant.driven c.fail_at.ensures.driven

pub loop-k-preserved : goal.loop-k-preserved
loop-k-preserved c = record {
  acts = all_lead_on FailsOnce c.args.pairs.now c.loop-k.pairs c.fail_at.new.pairs c.loop-k.invariant.driven c.loop-k.invariant.acts c.in_ok-fail_at.ensures.acts;
  driven = driven_on c.args.pairs.now c.loop-k.pairs c.fail_at.new.pairs c.loop-k.invariant.driven c.fail_at.ensures.driven;
  gives = all_give_on c.args.pairs.now c.loop-k.pairs c.fail_at.new.pairs c.loop-k.invariant.gives c.in_ok-fail_at.ensures.gives;
  fails = all_fail_on c.args.pairs.now c.loop-k.pairs c.fail_at.new.pairs c.loop-k.invariant.driven c.loop-k.invariant.fails c.in_ok-fail_at.ensures.plainly;
  values = values_then c.args.pairs.now c.loop-k.pairs c.fail_at.new.pairs c.loop-k.invariant.values c.fail_at.ensures.values;
  lays = none_lay_on c.args.pairs.now c.loop-k.pairs c.fail_at.new.pairs c.loop-k.invariant.lays c.fail_at.ensures.lays;
  shut = shut_then c.args.pairs.now c.loop-k.pairs c.fail_at.new.pairs c.loop-k.invariant.shut c.fail_at.ensures.shut;
  down = shut_next c.args.seats.now c.loop-k.k (slice_index_or c.args.seats.now c.loop-k.k places.Server) c.loop-k.pairs c.fail_at.new.pairs
      (seat_of c.args.seats.now c.loop-k.k c.loop-k-test.true) c.fail_at.ensures.others (c.in_ok-fail_at.ensures.down (grind arith)) c.loop-k.invariant.down;
  closes = closed_next c.args.partition c.args.seats.now c.loop-k.k (slice_index_or c.args.seats.now c.loop-k.k places.Server) c.loop-k.lan c.fail_at.new.lan
      (seat_of c.args.seats.now c.loop-k.k c.loop-k-test.true) c.fail_at.ensures.beside (c.in_ok-fail_at.ensures.closes (grind arith)) c.loop-k.invariant.closes;
  others = else_on c.args.seats.now c.args.pairs.now c.loop-k.pairs c.fail_at.new.pairs c.loop-k.invariant.others
      (else_within c.args.seats.now c.loop-k.k (slice_index_or c.args.seats.now c.loop-k.k places.Server) c.loop-k.pairs c.fail_at.new.pairs
      (seat_of c.args.seats.now c.loop-k.k c.loop-k-test.true) c.fail_at.ensures.others);
  credit = (all_on c.args.pairs.now c.loop-k.pairs c.fail_at.new.pairs c.loop-k.invariant.credit c.fail_at.ensures.credit);
  clients = still_clients c.args.seats.now c.loop-k.pairs c.fail_at.new.pairs c.fail_at.ensures.driven c.loop-k.invariant.clients;
  ports = rw c.fail_at.ensures.lan c.loop-k.invariant.ports;
  lan = c.fail_at.ensures.lan ∙ c.loop-k.invariant.lan;
  idle = silent_on c.args.lan.now c.loop-k.lan c.fail_at.new.lan c.loop-k.invariant.idle c.fail_at.ensures.idle;
  apart = apart_on c.args.partition c.args.lan.now c.loop-k.lan c.fail_at.new.lan c.loop-k.invariant.apart
      (beside_apart c.args.partition c.loop-k.k c.loop-k.lan c.fail_at.new.lan c.fail_at.ensures.beside);
}

pub returns-in_err-fail_at-clause-credit : goal.returns-in_err-fail_at-clause-credit
returns-in_err-fail_at-clause-credit c = (all_on c.args.pairs.now c.loop-k.pairs c.fail_at.new.pairs c.loop-k.invariant.credit c.fail_at.ensures.credit)

pub returns-then-not-branch-clause-credit : goal.returns-then-not-branch-clause-credit
returns-then-not-branch-clause-credit c = (all_on c.args.pairs.now c.loop-k.pairs c.fail_at.new.pairs c.loop-k.invariant.credit c.fail_at.ensures.credit)

pub returns-in_err-fail_at-clause-idle : goal.returns-in_err-fail_at-clause-idle
returns-in_err-fail_at-clause-idle c = silent_on c.args.lan.now c.loop-k.lan c.fail_at.new.lan c.loop-k.invariant.idle c.fail_at.ensures.idle

pub returns-then-not-branch-clause-idle : goal.returns-then-not-branch-clause-idle
returns-then-not-branch-clause-idle c = silent_on c.args.lan.now c.loop-k.lan c.fail_at.new.lan c.loop-k.invariant.idle c.fail_at.ensures.idle

pub returns-in_err-fail_at-clause-others : goal.returns-in_err-fail_at-clause-others
returns-in_err-fail_at-clause-others c =
    else_on c.args.seats.now c.args.pairs.now c.loop-k.pairs c.fail_at.new.pairs c.loop-k.invariant.others
    (else_within c.args.seats.now c.loop-k.k (slice_index_or c.args.seats.now c.loop-k.k places.Server) c.loop-k.pairs c.fail_at.new.pairs
    (seat_of c.args.seats.now c.loop-k.k c.loop-k-test.true) c.fail_at.ensures.others)

pub returns-then-not-branch-clause-others : goal.returns-then-not-branch-clause-others
returns-then-not-branch-clause-others c =
    else_on c.args.seats.now c.args.pairs.now c.loop-k.pairs c.fail_at.new.pairs c.loop-k.invariant.others
    (else_within c.args.seats.now c.loop-k.k (slice_index_or c.args.seats.now c.loop-k.k places.Server) c.loop-k.pairs c.fail_at.new.pairs
    (seat_of c.args.seats.now c.loop-k.k c.loop-k-test.true) c.fail_at.ensures.others)

pub returns-in_err-fail_at-clause-apart : goal.returns-in_err-fail_at-clause-apart
returns-in_err-fail_at-clause-apart c =
    apart_on c.args.partition c.args.lan.now c.loop-k.lan c.fail_at.new.lan c.loop-k.invariant.apart
    (beside_apart c.args.partition c.loop-k.k c.loop-k.lan c.fail_at.new.lan c.fail_at.ensures.beside)

pub returns-then-not-branch-clause-apart : goal.returns-then-not-branch-clause-apart
returns-then-not-branch-clause-apart c =
    apart_on c.args.partition c.args.lan.now c.loop-k.lan c.fail_at.new.lan c.loop-k.invariant.apart
    (beside_apart c.args.partition c.loop-k.k c.loop-k.lan c.fail_at.new.lan c.fail_at.ensures.beside)

pub returns-then-not-branch-clause-gives : goal.returns-then-not-branch-clause-gives
returns-then-not-branch-clause-gives c =
    all_give_on c.args.pairs.now c.loop-k.pairs c.fail_at.new.pairs c.loop-k.invariant.gives c.in_ok-fail_at.ensures.gives

pub returns-in_err-fail_at-clause-values : goal.returns-in_err-fail_at-clause-values
returns-in_err-fail_at-clause-values c = values_then c.args.pairs.now c.loop-k.pairs c.fail_at.new.pairs c.loop-k.invariant.values c.fail_at.ensures.values

pub returns-then-not-branch-clause-values : goal.returns-then-not-branch-clause-values
returns-then-not-branch-clause-values c = values_then c.args.pairs.now c.loop-k.pairs c.fail_at.new.pairs c.loop-k.invariant.values c.fail_at.ensures.values

pub returns-in_err-fail_at-clause-shut : goal.returns-in_err-fail_at-clause-shut
returns-in_err-fail_at-clause-shut c = shut_then c.args.pairs.now c.loop-k.pairs c.fail_at.new.pairs c.loop-k.invariant.shut c.fail_at.ensures.shut

pub returns-then-not-branch-clause-shut : goal.returns-then-not-branch-clause-shut
returns-then-not-branch-clause-shut c = shut_then c.args.pairs.now c.loop-k.pairs c.fail_at.new.pairs c.loop-k.invariant.shut c.fail_at.ensures.shut

pub returns-in_err-fail_at-clause-lays : goal.returns-in_err-fail_at-clause-lays
returns-in_err-fail_at-clause-lays c = none_lay_on c.args.pairs.now c.loop-k.pairs c.fail_at.new.pairs c.loop-k.invariant.lays c.fail_at.ensures.lays

pub returns-then-not-branch-clause-lays : goal.returns-then-not-branch-clause-lays
returns-then-not-branch-clause-lays c = none_lay_on c.args.pairs.now c.loop-k.pairs c.fail_at.new.pairs c.loop-k.invariant.lays c.fail_at.ensures.lays

pub loop-k-init : goal.loop-k-init
loop-k-init c = record {
  acts = all_lead_same FailsOnce c.args.pairs.now;
  driven = driven_same c.args.pairs.now;
  gives = all_give_same c.args.pairs.now;
  fails = all_fail_same c.args.pairs.now;
  values = λ k. refl;
  lays = none_lay_same c.args.pairs.now;
  shut = shut_none c.args.pairs.now;
  down = shut_before c.args.seats.now c.args.pairs.now;
  closes = closed_before c.args.partition c.args.seats.now c.args.lan.now;
  others = else_none c.args.seats.now c.args.pairs.now;
  credit = all_same c.args.pairs.now;
  clients = c.requires.clients;
  ports = c.requires.ports;
  lan = refl;
  idle = silent_same c.args.lan.now;
  apart = λ unit _. idle_same c.args.lan.now unit;
}

pub returns-then-not-branch-clause-down : goal.returns-then-not-branch-clause-down
returns-then-not-branch-clause-down c = λ is. absurd (true_false true refl (sym is))

pub returns-clause-down : goal.returns-clause-down
returns-clause-down c = λ is. shut_all c.args.seats.now c.loop-k.k c.loop-k.pairs (omega (arith, c.loop-k-test.false)) c.loop-k.invariant.down

pub returns-then-not-branch-clause-closes : goal.returns-then-not-branch-clause-closes
returns-then-not-branch-clause-closes c = λ is. absurd (true_false true refl (sym is))

pub returns-clause-closes : goal.returns-clause-closes
returns-clause-closes c = λ is. closed_all c.args.partition c.args.seats.now c.loop-k.k c.loop-k.lan (omega (arith, c.loop-k-test.false)) c.loop-k.invariant.closes

pub returns-then-not-branch-clause-plainly : goal.returns-then-not-branch-clause-plainly
returns-then-not-branch-clause-plainly c =
    all_fail_on c.args.pairs.now c.loop-k.pairs c.fail_at.new.pairs c.loop-k.invariant.driven c.loop-k.invariant.fails c.in_ok-fail_at.ensures.plainly

pub returns-clause-plainly : goal.returns-clause-plainly
returns-clause-plainly c = c.loop-k.invariant.fails

pub returns-then-not-branch-clause-acts : goal.returns-then-not-branch-clause-acts
returns-then-not-branch-clause-acts c =
    all_lead_on FailsOnce c.args.pairs.now c.loop-k.pairs c.fail_at.new.pairs c.loop-k.invariant.driven c.loop-k.invariant.acts c.in_ok-fail_at.ensures.acts

pub returns-clause-acts : goal.returns-clause-acts
returns-clause-acts c = c.loop-k.invariant.acts
