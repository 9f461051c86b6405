use Rattle.std.proofs.Common.{List, subst}
use Rattle.vcpu_run.proofs.ActsScripts.{goes_stays}
use Rattle.vcpu_run.proofs.CallRecords.{calls_served}
use Rattle.vcpu_run.proofs.ClientRecords.{logs_served}
use Rattle.vcpu_run.proofs.Crediting.{credited_same}
use Rattle.vcpu_run.proofs.Driving.{clients_of, driven_on, still_drivers}
use Rattle.vcpu_run.specs.Agreed.{SameElse}
use Rattle.vcpu_run.specs.declared.unit_seat.Seat.{Seat}
use Rattle.vcpu_run.proofs.Elsewhere.{else_on}
use Rattle.vcpu_run.proofs.ScriptsTold.{clients_told}
use Rattle.vcpu_run.proofs.Keeping.{driven_stay}
use Rattle.vcpu_run.proofs.Logging.{script_stays}
use Rattle.vcpu_run.specs.Links.{EventsWait}
use Rattle.vcpu_run.proofs.Held.{still_held, turned_held}
use Rattle.vcpu_run.proofs.Resting.{events_rest, rests_on}
use Rattle.vcpu_run.proofs.PlainTurning.{pushes_plainly, pushes_quietly}
use Rattle.vcpu_run.proofs.script.Script.turn.Goals as goal

pub push_events-requires : goal.push_events-requires
push_events-requires c = rw c.deref.ensures.value (clients_of c.args.self.now.partition c.args.self.now.seats.items c.args.pairs.now c.requires.script.seats c.requires.pairs)

pub returns-in_err-pushed-clause-script : goal.returns-in_err-pushed-clause-script
returns-in_err-pushed-clause-script c = script_stays c.args.pairs.now c.push_events.new.pairs c.args.self.now c.push_events.ensures.driven c.requires.script

pub go_on-requires-clause-script : goal.go_on-requires-clause-script
go_on-requires-clause-script c = script_stays c.args.pairs.now c.push_events.new.pairs c.args.self.now c.push_events.ensures.driven c.requires.script

pub go_on-requires-clause-pairs : goal.go_on-requires-clause-pairs
go_on-requires-clause-pairs c = still_drivers c.args.pairs.now c.push_events.new.pairs c.push_events.ensures.driven c.requires.pairs

pub returns-in_err-moved-clause-driven : goal.returns-in_err-moved-clause-driven
returns-in_err-moved-clause-driven c = driven_on c.args.pairs.now c.push_events.new.pairs c.go_on.new.pairs c.push_events.ensures.driven c.go_on.ensures.driven

pub returns-clause-driven : goal.returns-clause-driven
returns-clause-driven c = driven_on c.args.pairs.now c.push_events.new.pairs c.go_on.new.pairs c.push_events.ensures.driven c.go_on.ensures.driven

pub returns-in_err-pushed-clause-others : goal.returns-in_err-pushed-clause-others
returns-in_err-pushed-clause-others c = subst (λ (seats : List Seat). SameElse seats c.args.pairs.now c.push_events.new.pairs) c.deref.ensures.value c.push_events.ensures.others

pub returns-in_err-moved-clause-others : goal.returns-in_err-moved-clause-others
returns-in_err-moved-clause-others c =
    else_on c.args.self.now.seats.items c.args.pairs.now c.push_events.new.pairs c.go_on.new.pairs
    (subst (λ (seats : List Seat). SameElse seats c.args.pairs.now c.push_events.new.pairs) c.deref.ensures.value c.push_events.ensures.others) c.go_on.ensures.others

pub returns-clause-others : goal.returns-clause-others
returns-clause-others c =
    else_on c.args.self.now.seats.items c.args.pairs.now c.push_events.new.pairs c.go_on.new.pairs
    (subst (λ (seats : List Seat). SameElse seats c.args.pairs.now c.push_events.new.pairs) c.deref.ensures.value c.push_events.ensures.others) c.go_on.ensures.others

pub returns-clause-unfreed : goal.returns-clause-unfreed
returns-clause-unfreed c = λ keep.
    c.in_ok-moved.ensures.unfreed (turned_held c.args.pairs.now c.push_events.new.pairs c.args.self.now c.push_events.ensures.stays keep)

pub returns-clause-quiet : goal.returns-clause-quiet
returns-clause-quiet c = λ is over.
    let rest = c.in_ok-moved.ensures.quiet (c.either.ensures.other is) over in
    let wait : EventsWait c.args.self.now.seats.items c.push_events.new.pairs = rw (← c.deref.ensures.value) (c.in_ok-pushed.ensures.waits (c.either.ensures.one is)) in
    record {
      seats_rest = record {
        rest = rests_on c.args.pairs.now c.push_events.new.pairs c.go_on.new.pairs (c.in_ok-pushed.ensures.quiet (c.either.ensures.one is)) rest.rest;
        wait = rest.wait;
      };
      events = events_rest c.args.self.now.seats.items c.push_events.new.pairs c.go_on.new.pairs rest.rest wait;
    }

pub returns-clause-credited : goal.returns-clause-credited
returns-clause-credited c = λ is.
    c.in_ok-moved.ensures.credited (credited_same c.args.pairs.now c.push_events.new.pairs c.args.self.now c.push_events.ensures.drivers is)

pub returns-clause-said : goal.returns-clause-said
returns-clause-said c = λ no is.
    c.in_ok-moved.ensures.said no (clients_told c.args.pairs.now c.push_events.new.pairs c.args.self.now c.push_events.ensures.clients is)

pub returns-clause-out : goal.returns-clause-out
returns-clause-out c = λ is no told.
    c.in_ok-moved.ensures.out (c.either.ensures.other is) no (clients_told c.args.pairs.now c.push_events.new.pairs c.args.self.now c.push_events.ensures.clients told)

pub returns-clause-opened : goal.returns-clause-opened
returns-clause-opened c = λ is.
    let rest = c.in_ok-pushed.ensures.quiet (c.either.ensures.one is) in
    still_held c.args.pairs.now c.push_events.new.pairs c.go_on.new.pairs c.go_on.new.self rest.still (c.in_ok-moved.ensures.opened (c.either.ensures.other is))

pub returns-clause-ports : goal.returns-clause-ports
returns-clause-ports c = λ is over. c.in_ok-moved.ensures.ports (c.either.ensures.other is) over

pub returns-clause-logged : goal.returns-clause-logged
returns-clause-logged c = λ copies made is.
    c.in_ok-moved.ensures.logged copies made (record {
      strokes = logs_served copies c.args.pairs.now c.push_events.new.pairs c.args.self.now (driven_stay c.args.pairs.now c.push_events.new.pairs c.push_events.ensures.driven)
          c.push_events.ensures.clients is.strokes;
      calls = calls_served c.args.pairs.now c.push_events.new.pairs c.args.self.now (driven_stay c.args.pairs.now c.push_events.new.pairs c.push_events.ensures.driven)
          c.push_events.ensures.clients is.calls;
    })

pub returns-clause-plainly : goal.returns-clause-plainly
returns-clause-plainly c =
    pushes_plainly c.args.pairs.now c.push_events.new.pairs c.go_on.new.pairs c.args.self.now c.go_on.new.self c.requires.script.seats c.push_events.ensures.driven c.push_events.ensures.clients
    c.in_ok-pushed.ensures.plainly c.in_ok-moved.ensures.plainly

pub returns-clause-quiets : goal.returns-clause-quiets
returns-clause-quiets c = λ is.
    pushes_quietly c.args.pairs.now c.push_events.new.pairs c.go_on.new.pairs c.args.self.now c.go_on.new.self c.requires.script.seats c.push_events.ensures.driven c.push_events.ensures.clients
    c.in_ok-pushed.ensures.plainly (c.in_ok-moved.ensures.quiets (c.either.ensures.other is))

pub returns-clause-acts : goal.returns-clause-acts
returns-clause-acts c = record {
  pairs = c.push_events.new.pairs;
  pushes = c.in_ok-pushed.ensures.acts;
  driven = c.push_events.ensures.driven;
  clients = c.push_events.ensures.clients;
  talks_on = c.in_ok-pushed.ensures.plainly;
  leads = c.go_on.ensures.driven;
  went = c.in_ok-moved.moved;
  goes = c.in_ok-moved.ensures.acts;
  quiet = λ is. c.either.ensures.other is;
  rests = λ is. c.in_ok-pushed.ensures.quiet (c.either.ensures.one is);
  stays = λ is. goes_stays c.in_ok-moved.moved c.push_events.new.pairs c.go_on.new.pairs c.args.self.now c.go_on.new.self c.in_ok-moved.ensures.acts (c.either.ensures.other is);
}
