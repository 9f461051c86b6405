use Rattle.std.proofs.lemmas.Option.{slice_get_within}
use Rattle.vcpu_run.specs.Links.{links_of}
use Rattle.vcpu_run.proofs.CalmTurns.{calm_none, calm_then}
use Rattle.vcpu_run.proofs.FailedShut.{stay_none, stay_then}
use Rattle.vcpu_run.proofs.ClientsLay.{none_lay_on, none_lay_same}
use Rattle.vcpu_run.proofs.ValuesKept.{values_then}
use Rattle.vcpu_run.proofs.Resting.{rests_next, rests_on, rests_same}
use Rattle.vcpu_run.proofs.Unfreed.{frees_on, frees_same}
use Rattle.std.proofs.Common.{arith, ◌∙◌, Some, ap, refl, slice_index_or}
use Rattle.vcpu_run.proofs.Driving.{driven_on, driven_same, seat_of, still_clients}
use Rattle.vcpu_run.proofs.Elsewhere.{else_none, else_on, else_within}
use Rattle.vcpu_run.specs.declared.unit_seat.Seat.TheVariants as places
use Rattle.vcpu_run.proofs.PortTurns.{apart_on, beside_apart, idle_same, one_takes, takes_on}
use Rattle.vcpu_run.proofs.PortTelling.{idle_takes}
use Rattle.vcpu_run.proofs.GivesAll.{all_give_on, all_give_same}
use Rattle.vcpu_run.proofs.PortsResting.{ports_same, taken_all, taken_next}
use Rattle.lan_script.proofs.Laws.{ports_on}
use Rattle.vcpu_run.proofs.Moving.{seats_none, seats_on}
use Rattle.vcpu_run.proofs.PlainSeats.{all_rest_on, all_rest_same}
use Rattle.vcpu_run.specs.Acts.{TakesRest}
use Rattle.vcpu_run.proofs.ActsPairs.{all_lead_on, all_lead_same}
use Rattle.vcpu_run.proofs.seats.take_rest.Goals as goal

pub take_rest_at-requires-clause-client : goal.take_rest_at-requires-clause-client
take_rest_at-requires-clause-client c = λ k at.
    c.loop-k.invariant.clients c.loop-k.k k (seat_of c.args.seats.now c.loop-k.k c.loop-k-test.true ∙ ap Some at)

pub take_rest_at-requires-clause-port : goal.take_rest_at-requires-clause-port
take_rest_at-requires-clause-port c = λ at.
    c.loop-k.invariant.ports c.loop-k.k (seat_of c.args.seats.now c.loop-k.k c.loop-k-test.true ∙ ap Some at)

pub returns-in_err-here-clause-driven : goal.returns-in_err-here-clause-driven
returns-in_err-here-clause-driven c = driven_on c.args.pairs.now c.loop-k.pairs c.take_rest_at.new.pairs c.loop-k.invariant.driven c.take_rest_at.ensures.driven

pub returns-in_err-here-clause-others : goal.returns-in_err-here-clause-others
returns-in_err-here-clause-others c =
    else_on c.args.seats.now c.args.pairs.now c.loop-k.pairs c.take_rest_at.new.pairs c.loop-k.invariant.others
    (else_within c.args.seats.now c.loop-k.k (slice_index_or c.args.seats.now c.loop-k.k places.Server) c.loop-k.pairs c.take_rest_at.new.pairs
    (seat_of c.args.seats.now c.loop-k.k c.loop-k-test.true) c.take_rest_at.ensures.others)

pub loop-k-preserved : goal.loop-k-preserved
loop-k-preserved c = record {
  moves = seats_on c.loop-k.moved c.in_ok-here.here c.either-moved.result c.args.partition c.loop-k.k c.args.pairs.now c.loop-k.pairs c.take_rest_at.new.pairs c.args.lan.now c.loop-k.lan c.take_rest_at.new.lan
      c.either-moved.ensures.some c.loop-k.invariant.driven c.take_rest_at.ensures.driven c.loop-k.invariant.takes
      (one_takes c.args.partition c.loop-k.k c.loop-k.lan c.take_rest_at.new.lan c.in_ok-here.ensures.takes c.in_ok-here.ensures.beside)
      c.loop-k.invariant.moves c.in_ok-here.ensures.moved;
  acts = all_lead_on TakesRest c.args.pairs.now c.loop-k.pairs c.take_rest_at.new.pairs c.loop-k.invariant.driven c.loop-k.invariant.acts c.in_ok-here.ensures.acts;
  driven = driven_on c.args.pairs.now c.loop-k.pairs c.take_rest_at.new.pairs c.loop-k.invariant.driven c.take_rest_at.ensures.driven;
  gives = all_give_on c.args.pairs.now c.loop-k.pairs c.take_rest_at.new.pairs c.loop-k.invariant.gives c.in_ok-here.ensures.gives;
  rests = all_rest_on c.args.pairs.now c.loop-k.pairs c.take_rest_at.new.pairs c.loop-k.invariant.driven c.loop-k.invariant.rests c.in_ok-here.ensures.plainly;
  values = values_then c.args.pairs.now c.loop-k.pairs c.take_rest_at.new.pairs c.loop-k.invariant.values c.take_rest_at.ensures.values;
  lays = none_lay_on c.args.pairs.now c.loop-k.pairs c.take_rest_at.new.pairs c.loop-k.invariant.lays c.take_rest_at.ensures.lays;
  calm = calm_then c.args.pairs.now c.loop-k.pairs c.take_rest_at.new.pairs c.loop-k.invariant.calm c.take_rest_at.ensures.calm;
  stay = stay_then c.args.pairs.now c.loop-k.pairs c.take_rest_at.new.pairs c.loop-k.invariant.stay c.take_rest_at.ensures.stays_shut;
  others = else_on c.args.seats.now c.args.pairs.now c.loop-k.pairs c.take_rest_at.new.pairs c.loop-k.invariant.others
      (else_within c.args.seats.now c.loop-k.k (slice_index_or c.args.seats.now c.loop-k.k places.Server) c.loop-k.pairs c.take_rest_at.new.pairs
      (seat_of c.args.seats.now c.loop-k.k c.loop-k-test.true) c.take_rest_at.ensures.others);
  clients = still_clients c.args.seats.now c.loop-k.pairs c.take_rest_at.new.pairs c.take_rest_at.ensures.driven c.loop-k.invariant.clients;
  ports = rw c.take_rest_at.ensures.lan c.loop-k.invariant.ports;
  lan = c.take_rest_at.ensures.lan ∙ c.loop-k.invariant.lan;
  takes = takes_on c.args.partition c.args.lan.now c.loop-k.lan c.take_rest_at.new.lan c.loop-k.invariant.takes
      (one_takes c.args.partition c.loop-k.k c.loop-k.lan c.take_rest_at.new.lan c.in_ok-here.ensures.takes c.in_ok-here.ensures.beside);
  apart = apart_on c.args.partition c.args.lan.now c.loop-k.lan c.take_rest_at.new.lan c.loop-k.invariant.apart
      (beside_apart c.args.partition c.loop-k.k c.loop-k.lan c.take_rest_at.new.lan c.in_ok-here.ensures.beside);
  stays = frees_on _ c.args.pairs.now c.loop-k.pairs c.take_rest_at.new.pairs c.loop-k.invariant.stays c.take_rest_at.ensures.stays;
  still = λ is.
      ports_on c.args.lan.now c.loop-k.lan c.take_rest_at.new.lan (c.loop-k.invariant.still (c.either-moved.ensures.one is))
      (c.in_ok-here.ensures.ports (c.either-moved.ensures.other is)).still;
  taken = λ is.
      taken_next c.args.partition c.loop-k.k _ c.args.seats.now c.loop-k.lan c.take_rest_at.new.lan (seat_of c.args.seats.now c.loop-k.k c.loop-k-test.true)
      (c.in_ok-here.ensures.ports (c.either-moved.ensures.other is)) (c.loop-k.invariant.taken (c.either-moved.ensures.one is));
  rest = λ is.
      rests_on c.args.pairs.now c.loop-k.pairs c.take_rest_at.new.pairs (c.loop-k.invariant.rest (c.either-moved.ensures.one is)) (c.in_ok-here.ensures.still (c.either-moved.ensures.other is));
  wait = λ is.
      rests_next c.args.seats.now c.loop-k.k _ (links_of c.loop-k.pairs) (links_of c.take_rest_at.new.pairs) (seat_of c.args.seats.now c.loop-k.k c.loop-k-test.true)
      (c.in_ok-here.ensures.still (c.either-moved.ensures.other is)).still (c.loop-k.invariant.wait (c.either-moved.ensures.one is)) (c.in_ok-here.ensures.waits (c.either-moved.ensures.other is));
}

pub returns-clause-quiet : goal.returns-clause-quiet
returns-clause-quiet c = λ is. record {
  rest = c.loop-k.invariant.rest is;
  wait = λ u k found.
      let less = slice_get_within c.args.seats.now u (places.Client k) found in
      c.loop-k.invariant.wait is u k (omega (arith, less, c.loop-k-test.false)) found;
}

pub loop-k-init : goal.loop-k-init
loop-k-init c = record {
  moves = seats_none c.args.partition c.args.pairs.now c.args.lan.now;
  acts = all_lead_same TakesRest c.args.pairs.now;
  driven = driven_same c.args.pairs.now;
  gives = all_give_same c.args.pairs.now;
  rests = all_rest_same c.args.pairs.now;
  values = λ k. refl;
  lays = none_lay_same c.args.pairs.now;
  calm = calm_none c.args.pairs.now;
  stay = stay_none c.args.pairs.now;
  others = else_none c.args.seats.now c.args.pairs.now;
  clients = c.requires.clients;
  ports = c.requires.ports;
  lan = refl;
  takes = λ u. idle_takes c.args.lan.now c.args.lan.now _ (idle_same c.args.lan.now _);
  apart = λ unit _. idle_same c.args.lan.now unit;
  stays = frees_same _ c.args.pairs.now;
  still = λ is. ports_same c.args.lan.now;
  taken = λ is u below sat. absurd (omega (arith, below));
  rest = λ is. rests_same c.args.pairs.now;
  wait = λ is u k less found. absurd (omega (arith, less));
}

pub returns-in_err-here-clause-stays : goal.returns-in_err-here-clause-stays
returns-in_err-here-clause-stays c = frees_on _ c.args.pairs.now c.loop-k.pairs c.take_rest_at.new.pairs c.loop-k.invariant.stays c.take_rest_at.ensures.stays

pub returns-clause-ports : goal.returns-clause-ports
returns-clause-ports c = λ is.
    taken_all c.args.partition c.loop-k.k c.args.seats.now c.args.lan.now c.loop-k.lan (omega (arith, c.loop-k-test.false)) (c.loop-k.invariant.still is)
    (c.loop-k.invariant.taken is)

pub returns-in_err-here-clause-values : goal.returns-in_err-here-clause-values
returns-in_err-here-clause-values c = values_then c.args.pairs.now c.loop-k.pairs c.take_rest_at.new.pairs c.loop-k.invariant.values c.take_rest_at.ensures.values

pub returns-in_err-here-clause-calm : goal.returns-in_err-here-clause-calm
returns-in_err-here-clause-calm c = calm_then c.args.pairs.now c.loop-k.pairs c.take_rest_at.new.pairs c.loop-k.invariant.calm c.take_rest_at.ensures.calm

pub returns-in_err-here-clause-lays : goal.returns-in_err-here-clause-lays
returns-in_err-here-clause-lays c = none_lay_on c.args.pairs.now c.loop-k.pairs c.take_rest_at.new.pairs c.loop-k.invariant.lays c.take_rest_at.ensures.lays

pub returns-in_err-here-clause-stays_shut : goal.returns-in_err-here-clause-stays_shut
returns-in_err-here-clause-stays_shut c = stay_then c.args.pairs.now c.loop-k.pairs c.take_rest_at.new.pairs c.loop-k.invariant.stay c.take_rest_at.ensures.stays_shut
