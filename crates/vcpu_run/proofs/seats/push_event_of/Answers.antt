use Rattle.vcpu_run.specs.Links.{EventWaits}
use Rattle.vcpu_run.proofs.ClientsLay.{own_kept}
use Rattle.vcpu_run.proofs.Resting.{events_set, ok_more, rests_set}
use Rattle.vcpu_run.proofs.Unfreed.{frees_set}
use Rattle.std.proofs.lemmas.Option.{slice_get-get_or}
use Rattle.std.proofs.Common.{ap, length}
use Rattle.tce_window.specs.PlainPort.{known_of}
use Rattle.vcpu_run.proofs.ClientsTold.{clients_set}
use Rattle.vcpu_run.proofs.Agreeing.{set_beside, set_same}
use Rattle.vcpu_run.proofs.Driving.{driven_set}
use Rattle.vcpu_run.proofs.LinesShown.{drives_sees}
use Rattle.vcpu_run.proofs.DropsKept.{drives_more}
use Rattle.vcpu_run.proofs.PlainSeats.{all_talk_ok}
use Rattle.vcpu_run.specs.ActsAt.{PushesEvent}
use Rattle.vcpu_run.proofs.ActsPairs.{all_lead_ok}
use Rattle.vcpu_run.proofs.Moving.{event_set}
use Rattle.vcpu_run.proofs.seats.push_event_of.Goals as goal

pub returns-clause-driven : goal.returns-clause-driven
returns-clause-driven c = driven_set c.args.pairs.now c.args.pair _ c.push_event.new.pair (slice_get-get_or c.args.pairs.now c.args.pair _ c.requires) c.push_event.ensures.drives

pub returns-clause-drivers : goal.returns-clause-drivers
returns-clause-drivers c = set_same c.args.pairs.now c.args.pair _ c.push_event.new.pair (slice_get-get_or c.args.pairs.now c.args.pair _ c.requires) c.push_event.ensures.driver

pub returns-clause-stays : goal.returns-clause-stays
returns-clause-stays c = frees_set _ c.args.pairs.now c.args.pair _ c.push_event.new.pair (slice_get-get_or c.args.pairs.now c.args.pair _ c.requires) (λ always. c.push_event.ensures.stays)

pub returns-clause-quiet : goal.returns-clause-quiet
returns-clause-quiet c =
    ok_more c.push_event.result _ _
    (λ moved rests is. rests_set c.args.pairs.now c.args.pair _ c.push_event.new.pair (slice_get-get_or c.args.pairs.now c.args.pair _ c.requires) (rests is))
    c.push_event.ensures.quiet

pub returns-clause-waits : goal.returns-clause-waits
returns-clause-waits c =
    ok_more c.push_event.result _ _ (λ moved wait is. events_set EventWaits c.args.pairs.now c.args.pair c.push_event.new.pair c.requires (wait is))
    c.push_event.ensures.waits

pub returns-clause-clients : goal.returns-clause-clients
returns-clause-clients c =
    clients_set c.args.pairs.now c.args.pair _ c.push_event.new.pair (slice_get-get_or c.args.pairs.now c.args.pair _ c.requires)
    (record {
      driver = c.push_event.ensures.driver;
      pages = ap (λ w. length w.pages) c.push_event.ensures.window;
      queue = c.push_event.ensures.queue;
      taken = c.push_event.ensures.taken;
      unit = ap (λ w. w.unit) c.push_event.ensures.window;
      sees = drives_sees _ c.push_event.new.pair c.push_event.ensures.drives;
      own = own_kept _ _ c.push_event.ensures.window;
      server = c.push_event.ensures.drives.server;
      values = ap (λ w. (known_of w).values) c.push_event.ensures.window;
      puts = drives_more _ c.push_event.new.pair c.push_event.ensures.drives;
      calm = c.push_event.ensures.calm;
    })

pub returns-clause-others : goal.returns-clause-others
returns-clause-others c = set_beside c.args.pairs.now c.args.pair c.push_event.new.pair

pub returns-clause-plainly : goal.returns-clause-plainly
returns-clause-plainly c =
    all_talk_ok c.push_event.result c.args.pairs.now c.args.pair _ c.push_event.new.pair (slice_get-get_or c.args.pairs.now c.args.pair _ c.requires) c.push_event.ensures.plainly

pub returns-clause-acts : goal.returns-clause-acts
returns-clause-acts c =
    all_lead_ok PushesEvent c.push_event.result c.args.pairs.now c.args.pair _ c.push_event.new.pair (slice_get-get_or c.args.pairs.now c.args.pair _ c.requires) c.push_event.ensures.acts

pub returns-clause-moved : goal.returns-clause-moved
returns-clause-moved c =
    event_set c.push_event.result c.args.pairs.now c.args.pair _ c.push_event.new.pair (slice_get-get_or c.args.pairs.now c.args.pair _ c.requires) c.push_event.ensures.moved
