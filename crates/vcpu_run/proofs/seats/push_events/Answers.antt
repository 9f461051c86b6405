use Rattle.std.proofs.Common.{◌∙◌, Some, ap, arith, refl, slice_index_or}
use Rattle.std.proofs.lemmas.Option.{slice_get_within}
use Rattle.vcpu_run.specs.declared.unit_seat.Seat.TheVariants as sits
use Rattle.vcpu_run.proofs.Resting.{events_next, rests_on, rests_same}
use Rattle.vcpu_run.proofs.Unfreed.{frees_on, frees_same}
use Rattle.vcpu_run.proofs.Elsewhere.{else_none, else_on, else_within}
use Rattle.vcpu_run.proofs.ClientsTold.{clients_on, clients_same}
use Rattle.vcpu_run.proofs.Driving.{driven_on, driven_same, seat_of, seat_within, still_clients}
use Rattle.vcpu_run.proofs.Moving.{events_on, events_same}
use Rattle.vcpu_run.proofs.PlainSeats.{all_talk_on, all_talk_same}
use Rattle.vcpu_run.specs.ActsAt.{PushesEvent}
use Rattle.vcpu_run.proofs.ActsPairs.{all_lead_on, all_lead_same}
use Rattle.vcpu_run.proofs.seats.push_events.Goals as goal

pub push_event_at-requires : goal.push_event_at-requires
push_event_at-requires c = λ k at.
    seat_within _ c.loop-k.pairs k
    (c.loop-k.invariant.clients c.loop-k.k k (seat_of c.args.seats.now c.loop-k.k c.loop-k-test.true ∙ ap Some at))

pub returns-in_err-here-clause-driven : goal.returns-in_err-here-clause-driven
returns-in_err-here-clause-driven c = driven_on c.args.pairs.now c.loop-k.pairs c.push_event_at.new.pairs c.loop-k.invariant.driven c.push_event_at.ensures.driven

pub loop-k-preserved : goal.loop-k-preserved
loop-k-preserved c = record {
  moves = events_on c.loop-k.moved c.in_ok-here.here c.either-moved.result c.args.pairs.now c.loop-k.pairs c.push_event_at.new.pairs c.either-moved.ensures.some
      c.loop-k.invariant.driven c.push_event_at.ensures.driven c.loop-k.invariant.moves c.in_ok-here.ensures.moved;
  acts = all_lead_on PushesEvent c.args.pairs.now c.loop-k.pairs c.push_event_at.new.pairs c.loop-k.invariant.driven c.loop-k.invariant.acts c.in_ok-here.ensures.acts;
  driven = driven_on c.args.pairs.now c.loop-k.pairs c.push_event_at.new.pairs c.loop-k.invariant.driven c.push_event_at.ensures.driven;
  others = else_on c.args.seats.now c.args.pairs.now c.loop-k.pairs c.push_event_at.new.pairs c.loop-k.invariant.others
      (else_within c.args.seats.now c.loop-k.k (slice_index_or c.args.seats.now c.loop-k.k sits.Server) c.loop-k.pairs c.push_event_at.new.pairs
      (seat_of c.args.seats.now c.loop-k.k c.loop-k-test.true) c.push_event_at.ensures.others);
  drivers = (λ k. c.push_event_at.ensures.drivers k ∙ c.loop-k.invariant.drivers k);
  talks = all_talk_on c.args.pairs.now c.loop-k.pairs c.push_event_at.new.pairs c.loop-k.invariant.driven c.loop-k.invariant.talks c.in_ok-here.ensures.plainly;
  same = clients_on c.args.pairs.now c.loop-k.pairs c.push_event_at.new.pairs c.loop-k.invariant.same c.push_event_at.ensures.clients;
  clients = still_clients c.args.seats.now c.loop-k.pairs c.push_event_at.new.pairs c.push_event_at.ensures.driven c.loop-k.invariant.clients;
  stays = frees_on _ c.args.pairs.now c.loop-k.pairs c.push_event_at.new.pairs c.loop-k.invariant.stays c.push_event_at.ensures.stays;
  rest = λ is.
      rests_on c.args.pairs.now c.loop-k.pairs c.push_event_at.new.pairs (c.loop-k.invariant.rest (c.either-moved.ensures.one is)) (c.in_ok-here.ensures.quiet (c.either-moved.ensures.other is));
  wait = λ is.
      events_next c.args.seats.now c.loop-k.k _ c.loop-k.pairs c.push_event_at.new.pairs (seat_of c.args.seats.now c.loop-k.k c.loop-k-test.true)
      (c.in_ok-here.ensures.quiet (c.either-moved.ensures.other is)) (c.loop-k.invariant.wait (c.either-moved.ensures.one is)) (c.in_ok-here.ensures.waits (c.either-moved.ensures.other is));
}

pub returns-in_err-here-clause-drivers : goal.returns-in_err-here-clause-drivers
returns-in_err-here-clause-drivers c = (λ k. c.push_event_at.ensures.drivers k ∙ c.loop-k.invariant.drivers k)

pub loop-k-init : goal.loop-k-init
loop-k-init c = record {
  moves = events_same c.args.pairs.now;
  acts = all_lead_same PushesEvent c.args.pairs.now;
  driven = driven_same c.args.pairs.now;
  others = else_none c.args.seats.now c.args.pairs.now;
  drivers = λ k. refl;
  talks = all_talk_same c.args.pairs.now;
  same = clients_same c.args.pairs.now;
  clients = c.requires;
  stays = frees_same _ c.args.pairs.now;
  rest = λ is. rests_same c.args.pairs.now;
  wait = λ is u k less found. absurd (omega (arith, less));
}

pub returns-in_err-here-clause-stays : goal.returns-in_err-here-clause-stays
returns-in_err-here-clause-stays c = frees_on _ c.args.pairs.now c.loop-k.pairs c.push_event_at.new.pairs c.loop-k.invariant.stays c.push_event_at.ensures.stays

pub returns-clause-waits : goal.returns-clause-waits
returns-clause-waits c = λ is u k found.
    let less = slice_get_within c.args.seats.now u (sits.Client k) found in
    c.loop-k.invariant.wait is u k (omega (arith, less, c.loop-k-test.false)) found

pub returns-in_err-here-clause-clients : goal.returns-in_err-here-clause-clients
returns-in_err-here-clause-clients c = clients_on c.args.pairs.now c.loop-k.pairs c.push_event_at.new.pairs c.loop-k.invariant.same c.push_event_at.ensures.clients

pub returns-in_err-here-clause-others : goal.returns-in_err-here-clause-others
returns-in_err-here-clause-others c =
    else_on c.args.seats.now c.args.pairs.now c.loop-k.pairs c.push_event_at.new.pairs c.loop-k.invariant.others
    (else_within c.args.seats.now c.loop-k.k (slice_index_or c.args.seats.now c.loop-k.k sits.Server) c.loop-k.pairs c.push_event_at.new.pairs
    (seat_of c.args.seats.now c.loop-k.k c.loop-k-test.true) c.push_event_at.ensures.others)
