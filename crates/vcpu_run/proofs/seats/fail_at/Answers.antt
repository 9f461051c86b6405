use Rattle.std.proofs.Common.{rules, ◌≡◌, ◌∙◌, ◌∷◌, [], ℕ, Some, ap, slice_get, subst, sym}
use Rattle.vcpu_run.proofs.Driving.{seat_within}
use Rattle.vcpu_run.proofs.Crediting.{on_ok}
use Rattle.vcpu_run.proofs.Elsewhere.{else_one}
use Rattle.vcpu_run.proofs.FailedPorts.{closes_silent}
use Rattle.vcpu_run.proofs.PortTurns.{idle_same, silent_same}
use Rattle.vcpu_run.proofs.GivesAll.{all_give_same}
use Rattle.vcpu_run.proofs.CalmTurns.{shut_none}
use Rattle.vcpu_run.proofs.ClientsLay.{none_lay_same}
use Rattle.vcpu_run.specs.declared.unit_seat.Seat.TheVariants as sits
use Rattle.vcpu_run.specs.FailedShut.{opens_if}
use Rattle.vcpu_run.proofs.PlainSeats.{all_fail_same}
use Rattle.vcpu_run.proofs.PortsResting.{ok_any}
use Rattle.vcpu_run.proofs.Resting.{ok_more}
use Rattle.vcpu_run.specs.ActsAt.{FailsOnce}
use Rattle.vcpu_run.proofs.ActsPairs.{all_lead_same}
use Rattle.vcpu_run.proofs.seats.fail_at.Goals as goal

pub fail_of-requires-clause-there : goal.fail_of-requires-clause-there
fail_of-requires-clause-there c = seat_within _ c.args.pairs.now c.in-Client.pair (c.requires.client c.in-Client.pair c.in-Client.is)

pub fail_of-requires-clause-client : goal.fail_of-requires-clause-client
fail_of-requires-clause-client c = c.requires.client c.in-Client.pair c.in-Client.is

pub returns-in-Port-clause-idle : goal.returns-in-Port-clause-idle
returns-in-Port-clause-idle c = search (rules, closes_silent c.args.unit c.args.lan.now, silent_same)

pub returns-in-Client-clause-others : goal.returns-in-Client-clause-others
returns-in-Client-clause-others c = else_one (c.args.seat ∷ []) 0 c.in-Client.pair c.args.pairs.now c.fail_of.new.pairs (ap Some c.in-Client.is) c.fail_of.ensures.others

pub returns-in-Client-clause-beside : goal.returns-in-Client-clause-beside
returns-in-Client-clause-beside c = λ unit _. idle_same c.args.lan.now unit

pub returns-in-Server-clause-beside : goal.returns-in-Server-clause-beside
returns-in-Server-clause-beside c = λ unit _. idle_same c.args.lan.now unit

pub returns-in-Server-clause-gives : goal.returns-in-Server-clause-gives
returns-in-Server-clause-gives c = all_give_same c.args.pairs.now

pub returns-in-Port-clause-shut : goal.returns-in-Port-clause-shut
returns-in-Port-clause-shut c = shut_none c.args.pairs.now

pub returns-in-Server-clause-shut : goal.returns-in-Server-clause-shut
returns-in-Server-clause-shut c = shut_none c.args.pairs.now

pub returns-in-Port-clause-lays : goal.returns-in-Port-clause-lays
returns-in-Port-clause-lays c = none_lay_same c.args.pairs.now

pub returns-in-Server-clause-lays : goal.returns-in-Server-clause-lays
returns-in-Server-clause-lays c = none_lay_same c.args.pairs.now

pub returns-in-Client-clause-down : goal.returns-in-Client-clause-down
returns-in-Client-clause-down c =
    ok_more c.fail_of.result _ _
    (λ done off is k at. subst (λ (n : ℕ). opens_if (slice_get c.fail_of.new.pairs n) ≡ 0) (client_here c.in-Client.pair k (sym c.in-Client.is ∙ at)) (off is))
    c.fail_of.ensures.down
  where
    client_here : (j k : ℕ) → sits.Client j ≡ sits.Client k → j ≡ k
    client_here j k e = cc

pub returns-in-Server-clause-down : goal.returns-in-Server-clause-down
returns-in-Server-clause-down c = λ is k at. absurd (cc (c.in-Server.is, at))

pub returns-in-Client-clause-closes : goal.returns-in-Client-clause-closes
returns-in-Client-clause-closes c = ok_any c.fail_of.result _ (λ done is at. absurd (cc (c.in-Client.is, at)))

pub returns-in-Server-clause-closes : goal.returns-in-Server-clause-closes
returns-in-Server-clause-closes c = λ is at. absurd (cc (c.in-Server.is, at))

pub returns-in-Port-clause-plainly : goal.returns-in-Port-clause-plainly
returns-in-Port-clause-plainly c = on_ok c.fail.result _ (all_fail_same c.args.pairs.now)

pub returns-in-Server-clause-plainly : goal.returns-in-Server-clause-plainly
returns-in-Server-clause-plainly c = all_fail_same c.args.pairs.now

pub returns-in-Server-clause-acts : goal.returns-in-Server-clause-acts
returns-in-Server-clause-acts c = all_lead_same FailsOnce c.args.pairs.now

pub returns-in-Port-clause-acts : goal.returns-in-Port-clause-acts
returns-in-Port-clause-acts c = on_ok c.fail.result _ (all_lead_same FailsOnce c.args.pairs.now)
