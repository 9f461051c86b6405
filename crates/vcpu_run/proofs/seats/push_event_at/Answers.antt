use Rattle.std.proofs.Common.{◌≡◌, ◌∙◌, ◌∷◌, [], ℕ, IfSome, Some, ap, slice_get, subst, sym}
use Rattle.vcpu_run.specs.declared.unit_seat.Seat.TheVariants as sits
use Rattle.vcpu_run.specs.Links.{EventWaits}
use Rattle.vcpu_run.proofs.Resting.{ok_more}
use Rattle.vcpu_run.proofs.ClientsTold.{clients_same}
use Rattle.vcpu_run.proofs.Driving.{driven_same}
use Rattle.vcpu_run.proofs.Elsewhere.{else_one}
use Rattle.vcpu_run.proofs.PlainSeats.{all_talk_same}
use Rattle.vcpu_run.specs.ActsAt.{PushesEvent}
use Rattle.vcpu_run.proofs.ActsPairs.{all_lead_same}
use Rattle.vcpu_run.proofs.Moving.{events_same}
use Rattle.vcpu_run.proofs.seats.push_event_at.Goals as goal

pub push_event_of-requires : goal.push_event_of-requires
push_event_of-requires c = c.requires c.in-Client.pair c.in-Client.is

pub returns-in-Server-clause-driven : goal.returns-in-Server-clause-driven
returns-in-Server-clause-driven c = driven_same c.args.pairs.now

pub returns-in-Client-clause-waits : goal.returns-in-Client-clause-waits
returns-in-Client-clause-waits c =
    ok_more c.push_event_of.result _ _
    (λ moved wait is k at. subst (λ (n : ℕ). IfSome (slice_get c.push_event_of.new.pairs n) EventWaits) (client_here c.in-Client.pair k (sym c.in-Client.is ∙ at)) (wait is))
    c.push_event_of.ensures.waits
  where
    client_here : (j k : ℕ) → sits.Client j ≡ sits.Client k → j ≡ k
    client_here j k e = cc

pub returns-in-Server-clause-clients : goal.returns-in-Server-clause-clients
returns-in-Server-clause-clients c = clients_same c.args.pairs.now

pub returns-in-Client-clause-others : goal.returns-in-Client-clause-others
returns-in-Client-clause-others c =
    else_one (c.args.seat ∷ []) 0 c.in-Client.pair c.args.pairs.now c.push_event_of.new.pairs (ap Some c.in-Client.is) c.push_event_of.ensures.others

pub returns-in-Server-clause-plainly : goal.returns-in-Server-clause-plainly
returns-in-Server-clause-plainly c = all_talk_same c.args.pairs.now

pub returns-in-Server-clause-acts : goal.returns-in-Server-clause-acts
returns-in-Server-clause-acts c = all_lead_same PushesEvent c.args.pairs.now

pub returns-in-Server-clause-moved : goal.returns-in-Server-clause-moved
returns-in-Server-clause-moved c = events_same c.args.pairs.now
