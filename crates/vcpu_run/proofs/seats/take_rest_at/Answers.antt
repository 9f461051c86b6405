use Rattle.vcpu_run.specs.declared.unit_seat.Seat.TheVariants as sits
use Rattle.vcpu_run.specs.Links.{ClientWaits, links_of}
use Rattle.vcpu_run.proofs.Resting.{ok_more}
use Rattle.std.proofs.Common.{◌∷◌, [], Some, ap, subst, IsSomeAnd, slice_get, ℕ, sym, ◌∙◌, ◌≡◌}
use Rattle.vcpu_run.proofs.Driving.{seat_within}
use Rattle.vcpu_run.proofs.Elsewhere.{else_one}
use Rattle.vcpu_run.proofs.PortTelling.{idle_takes}
use Rattle.vcpu_run.proofs.PortTurns.{idle_same, port_rest, rest_beside}
use Rattle.vcpu_run.proofs.Crediting.{on_ok}
use Rattle.vcpu_run.proofs.GivesAll.{all_give_same}
use Rattle.vcpu_run.proofs.PortsResting.{ok_any, seat_none, seat_port}
use Rattle.vcpu_run.proofs.CalmTurns.{calm_none}
use Rattle.vcpu_run.proofs.FailedShut.{stay_none}
use Rattle.vcpu_run.proofs.ClientsLay.{none_lay_same}
use Rattle.vcpu_run.proofs.PlainSeats.{all_rest_same}
use Rattle.vcpu_run.specs.Acts.{TakesRest}
use Rattle.vcpu_run.proofs.ActsPairs.{all_lead_same}
use Rattle.vcpu_run.proofs.Moving.{client_handles, port_handles, server_handles}
use Rattle.vcpu_run.proofs.seats.take_rest_at.Goals as goal

pub take_rest_of-requires-clause-there : goal.take_rest_of-requires-clause-there
take_rest_of-requires-clause-there c = seat_within _ c.args.pairs.now c.in-Client.pair (c.requires.client c.in-Client.pair c.in-Client.is)

pub take_rest_of-requires-clause-client : goal.take_rest_of-requires-clause-client
take_rest_of-requires-clause-client c = c.requires.client c.in-Client.pair c.in-Client.is

pub returns-in-Client-clause-others : goal.returns-in-Client-clause-others
returns-in-Client-clause-others c =
    else_one (c.args.seat ∷ []) 0 c.in-Client.pair c.args.pairs.now c.take_rest_of.new.pairs (ap Some c.in-Client.is) c.take_rest_of.ensures.others

pub returns-in-Client-clause-waits : goal.returns-in-Client-clause-waits
returns-in-Client-clause-waits c =
    ok_more c.take_rest_of.result _ _
    (λ moved wait is k at. subst (λ (n : ℕ). IsSomeAnd (slice_get (links_of c.take_rest_of.new.pairs) n) ClientWaits) (client_here c.in-Client.pair k (sym c.in-Client.is ∙ at)) (wait is))
    c.take_rest_of.ensures.waits
  where
    client_here : (j k : ℕ) → sits.Client j ≡ sits.Client k → j ≡ k
    client_here j k e = cc

pub returns-in-Client-clause-takes : goal.returns-in-Client-clause-takes
returns-in-Client-clause-takes c =
    on_ok c.take_rest_of.result _ (idle_takes c.args.lan.now c.args.lan.now c.args.unit (idle_same c.args.lan.now c.args.unit))

pub returns-in-Port-clause-takes : goal.returns-in-Port-clause-takes
returns-in-Port-clause-takes c = port_rest c.args.unit c.take_rest.result c.args.lan.now c.take_rest.new.self c.take_rest.ensures.seats c.take_rest.ensures.frames c.take_rest.ensures.counts
    c.take_rest.ensures.replays c.take_rest.ensures.places

pub returns-in-Port-clause-beside : goal.returns-in-Port-clause-beside
returns-in-Port-clause-beside c = rest_beside c.args.unit c.take_rest.result c.args.lan.now c.take_rest.new.self c.take_rest.ensures.seats c.take_rest.ensures.frames c.take_rest.ensures.counts
    c.take_rest.ensures.replays c.take_rest.ensures.places

pub returns-in-Port-clause-gives : goal.returns-in-Port-clause-gives
returns-in-Port-clause-gives c = on_ok c.take_rest.result _ (all_give_same c.args.pairs.now)

pub returns-in-Server-clause-gives : goal.returns-in-Server-clause-gives
returns-in-Server-clause-gives c = all_give_same c.args.pairs.now

pub returns-in-Client-clause-ports : goal.returns-in-Client-clause-ports
returns-in-Client-clause-ports c =
    ok_any c.take_rest_of.result _ (λ moved is. seat_none c.args.unit c.args.seat c.args.lan.now (λ e. cc (c.in-Client.is, e)))

pub returns-in-Port-clause-ports : goal.returns-in-Port-clause-ports
returns-in-Port-clause-ports c =
    ok_more c.take_rest.result _ _ (λ moved found is. seat_port c.args.unit c.args.seat c.args.lan.now c.take_rest.new.self (found is)) c.take_rest.ensures.nothing

pub returns-in-Server-clause-ports : goal.returns-in-Server-clause-ports
returns-in-Server-clause-ports c = λ is. seat_none c.args.unit c.args.seat c.args.lan.now (λ e. cc (c.in-Server.is, e))

pub returns-in-Port-clause-calm : goal.returns-in-Port-clause-calm
returns-in-Port-clause-calm c = calm_none c.args.pairs.now

pub returns-in-Server-clause-calm : goal.returns-in-Server-clause-calm
returns-in-Server-clause-calm c = calm_none c.args.pairs.now

pub returns-in-Port-clause-lays : goal.returns-in-Port-clause-lays
returns-in-Port-clause-lays c = none_lay_same c.args.pairs.now

pub returns-in-Server-clause-lays : goal.returns-in-Server-clause-lays
returns-in-Server-clause-lays c = none_lay_same c.args.pairs.now

pub returns-in-Port-clause-stays_shut : goal.returns-in-Port-clause-stays_shut
returns-in-Port-clause-stays_shut c = stay_none c.args.pairs.now

pub returns-in-Server-clause-stays_shut : goal.returns-in-Server-clause-stays_shut
returns-in-Server-clause-stays_shut c = stay_none c.args.pairs.now

pub returns-in-Port-clause-plainly : goal.returns-in-Port-clause-plainly
returns-in-Port-clause-plainly c = on_ok c.take_rest.result _ (all_rest_same c.args.pairs.now)

pub returns-in-Server-clause-plainly : goal.returns-in-Server-clause-plainly
returns-in-Server-clause-plainly c = all_rest_same c.args.pairs.now

pub returns-in-Server-clause-acts : goal.returns-in-Server-clause-acts
returns-in-Server-clause-acts c = all_lead_same TakesRest c.args.pairs.now

pub returns-in-Port-clause-acts : goal.returns-in-Port-clause-acts
returns-in-Port-clause-acts c = on_ok c.take_rest.result _ (all_lead_same TakesRest c.args.pairs.now)

pub returns-in-Client-clause-moved : goal.returns-in-Client-clause-moved
returns-in-Client-clause-moved c = client_handles c.take_rest_of.result c.args.unit c.args.pairs.now c.take_rest_of.new.pairs c.args.lan.now c.take_rest_of.ensures.moved

pub returns-in-Port-clause-moved : goal.returns-in-Port-clause-moved
returns-in-Port-clause-moved c = port_handles c.take_rest.result c.args.unit c.args.pairs.now c.args.lan.now c.take_rest.new.self c.take_rest.ensures.moved

pub returns-in-Server-clause-moved : goal.returns-in-Server-clause-moved
returns-in-Server-clause-moved c = server_handles c.args.unit c.args.pairs.now c.args.lan.now
