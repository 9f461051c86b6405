use Rattle.std.proofs.Common.{◌≡◌, ◌∙◌, Some, ap, refl, slice_get, subst, sym}
use Rattle.vcpu_run.specs.declared.unit_seat.Seat.TheVariants as places
use Rattle.vcpu_run.specs.Agreed.{StepsSeat}
use Rattle.vcpu_run.specs.Credited.{taken_in}
use Rattle.vcpu_run.specs.Suited.{suits}
use Rattle.vcpu_run.specs.Telling.{SeatOut, SeatTold}
use Rattle.vcpu_run.specs.ClientMoments.{SeatStepped}
use Rattle.vcpu_run.specs.Holding.{SeatOpen}
use Rattle.vcpu_run.proofs.Driving.{client_is, driven_same, no_port, seat_within, some_there}
use Rattle.vcpu_run.proofs.Unfreed.{frees_line, frees_same}
use Rattle.vcpu_run.proofs.PortTurns.{client_told, idle_same, port_apart, port_told}
use Rattle.vcpu_run.proofs.ClientsLay.{line_lays, line_lays_none, none_lay_same}
use Rattle.vcpu_run.proofs.Crediting.{on_ok}
use Rattle.vcpu_run.proofs.Elsewhere.{else_none, else_one}
use Rattle.vcpu_run.specs.PortWords.{done_in}
use Rattle.vcpu_run.proofs.PlainSeats.{line_plainly, port_plainly}
use Rattle.vcpu_run.proofs.ActsPairs.{client_acts, port_acts}
use Rattle.vcpu_run.proofs.seats.step_own.Goals as goal

pub seat_at-requires : goal.seat_at-requires
seat_at-requires c = seat_within (suits c.args.line.now.verb) c.args.seats.now c.args.line.now.unit c.requires.suited

pub step_at-requires-clause-there : goal.step_at-requires-clause-there
step_at-requires-clause-there c =
    let here : slice_get c.args.seats.now c.args.line.now.unit ≡ Some (places.Client c.in-Client.pair) = c.seat_at.ensures ∙ ap Some c.in-Client.is in
    seat_within _ c.args.pairs.now c.in-Client.pair (c.requires.clients c.args.line.now.unit c.in-Client.pair here)

pub step_at-requires-clause-client : goal.step_at-requires-clause-client
step_at-requires-clause-client c =
    let here : slice_get c.args.seats.now c.args.line.now.unit ≡ Some (places.Client c.in-Client.pair) = c.seat_at.ensures ∙ ap Some c.in-Client.is in
    c.requires.clients c.args.line.now.unit c.in-Client.pair here

pub step_at-requires-clause-verb : goal.step_at-requires-clause-verb
step_at-requires-clause-verb c =
    let here : slice_get c.args.seats.now c.args.line.now.unit ≡ Some (places.Client c.in-Client.pair) = c.seat_at.ensures ∙ ap Some c.in-Client.is in
    record {
      client = some_there (suits c.args.line.now.verb) (slice_get c.args.seats.now c.args.line.now.unit) (places.Client c.in-Client.pair) here c.requires.suited;
      no_call = c.requires.no_call;
      one = c.requires.verb.one;
      ranged = c.requires.verb.ranged;
    }

pub step-requires-clause-there : goal.step-requires-clause-there
step-requires-clause-there c = c.requires.ports c.args.line.now.unit (c.seat_at.ensures ∙ ap Some c.in-Port.is)

pub step-requires-clause-verb : goal.step-requires-clause-verb
step-requires-clause-verb c =
    let here : slice_get c.args.seats.now c.args.line.now.unit ≡ Some places.Port = c.seat_at.ensures ∙ ap Some c.in-Port.is in
    record {
      port = some_there (suits c.args.line.now.verb) (slice_get c.args.seats.now c.args.line.now.unit) places.Port here c.requires.suited;
      no_call = c.requires.no_call;
      one = c.requires.verb.one;
      ranged = c.requires.verb.ranged;
    }

pub unreachable-requires : goal.unreachable-requires
unreachable-requires c =
    some_there (suits c.args.line.now.verb) (slice_get c.args.seats.now c.args.line.now.unit) places.Server (c.seat_at.ensures ∙ ap Some c.in-Server.is) c.requires.suited

pub returns-in-Client-clause-credit : goal.returns-in-Client-clause-credit
returns-in-Client-clause-credit c =
    let here : slice_get c.args.seats.now c.args.line.now.unit ≡ Some (places.Client c.in-Client.pair) = c.seat_at.ensures ∙ ap Some c.in-Client.is in
    record {
      client = λ k at.
          subst (λ n. StepsSeat n c.args.line.now.verb (taken_in c.args.progress.now) (taken_in c.step_at.new.progress) c.args.pairs.now c.step_at.new.pairs c.step_at.result)
          (client_is c.in-Client.pair k (sym here ∙ at)) c.step_at.ensures.credit;
      port = λ at. absurd (no_port c.in-Client.pair (sym here ∙ at));
    }

pub returns-in-Port-clause-driven : goal.returns-in-Port-clause-driven
returns-in-Port-clause-driven c = driven_same c.args.pairs.now

pub returns-in-Port-clause-credit : goal.returns-in-Port-clause-credit
returns-in-Port-clause-credit c =
    let here : slice_get c.args.seats.now c.args.line.now.unit ≡ Some places.Port = c.seat_at.ensures ∙ ap Some c.in-Port.is in
    record {
      client = λ k at. absurd (no_port k (sym at ∙ here));
      port = λ at. (λ k. refl, c.step.ensures.credit);
    }

pub returns-in-Client-clause-stays : goal.returns-in-Client-clause-stays
returns-in-Client-clause-stays c =
    frees_line c.args.seats.now c.args.line.now c.in-Client.pair c.args.pairs.now c.step_at.new.pairs (c.seat_at.ensures ∙ ap Some c.in-Client.is) c.step_at.ensures.stays

pub returns-in-Port-clause-stays : goal.returns-in-Port-clause-stays
returns-in-Port-clause-stays c = frees_same _ c.args.pairs.now

pub returns-in-Client-clause-told : goal.returns-in-Client-clause-told
returns-in-Client-clause-told c =
    client_told c.args.partition c.in-Client.pair c.args.seats.now c.args.line.now (done_in c.args.progress.now) (done_in c.step_at.new.progress) c.args.lan.now c.step_at.result
    (c.seat_at.ensures ∙ ap Some c.in-Client.is)

pub returns-in-Client-clause-apart : goal.returns-in-Client-clause-apart
returns-in-Client-clause-apart c = on_ok c.step_at.result _ (λ unit _. idle_same c.args.lan.now unit)

pub returns-in-Port-clause-told : goal.returns-in-Port-clause-told
returns-in-Port-clause-told c =
    port_told c.args.partition c.args.seats.now c.args.line.now (done_in c.args.progress.now) (done_in c.step.new.progress) c.args.lan.now c.step.new.lan c.step.result
    c.step.ensures.told c.step.ensures.replays c.step.ensures.fits c.step.ensures.bytes c.step.ensures.puts c.step.ensures.shows c.step.ensures.marks c.step.ensures.writes c.step.ensures.beside

pub returns-in-Port-clause-apart : goal.returns-in-Port-clause-apart
returns-in-Port-clause-apart c = port_apart c.args.partition c.args.line.now.unit c.args.lan.now c.step.new.lan c.step.result c.step.ensures.beside

pub returns-in-Client-clause-said : goal.returns-in-Client-clause-said
returns-in-Client-clause-said c =
    let here : slice_get c.args.seats.now c.args.line.now.unit ≡ Some (places.Client c.in-Client.pair) = c.seat_at.ensures ∙ ap Some c.in-Client.is in
    record {
      client = λ k at.
          subst (λ n. SeatTold n c.args.line.now c.args.progress.now c.step_at.new.progress c.args.pairs.now c.step_at.new.pairs c.step_at.result)
          (client_is c.in-Client.pair k (sym here ∙ at)) c.step_at.ensures.said;
      port = λ at. absurd (no_port c.in-Client.pair (sym here ∙ at));
    }

pub returns-in-Port-clause-said : goal.returns-in-Port-clause-said
returns-in-Port-clause-said c =
    let here : slice_get c.args.seats.now c.args.line.now.unit ≡ Some places.Port = c.seat_at.ensures ∙ ap Some c.in-Port.is in
    record {
      client = λ k at. absurd (no_port k (sym at ∙ here));
      port = λ at. refl;
    }

pub returns-in-Client-clause-out : goal.returns-in-Client-clause-out
returns-in-Client-clause-out c = λ k at.
    let here : slice_get c.args.seats.now c.args.line.now.unit ≡ Some (places.Client c.in-Client.pair) = c.seat_at.ensures ∙ ap Some c.in-Client.is in
    subst (λ n. SeatOut n c.args.line.now.verb c.args.progress.now c.step_at.new.progress c.args.pairs.now c.step_at.new.pairs c.step_at.result)
    (client_is c.in-Client.pair k (sym here ∙ at)) c.step_at.ensures.out

pub returns-in-Port-clause-out : goal.returns-in-Port-clause-out
returns-in-Port-clause-out c = λ k at.
    let here : slice_get c.args.seats.now c.args.line.now.unit ≡ Some places.Port = c.seat_at.ensures ∙ ap Some c.in-Port.is in
    absurd (no_port k (sym at ∙ here))

pub returns-in-Client-clause-registered : goal.returns-in-Client-clause-registered
returns-in-Client-clause-registered c = λ k at.
    let here : slice_get c.args.seats.now c.args.line.now.unit ≡ Some (places.Client c.in-Client.pair) = c.seat_at.ensures ∙ ap Some c.in-Client.is in
    subst (λ n. SeatOpen n c.args.line.now.verb c.step_at.new.progress c.args.pairs.now c.step_at.new.pairs c.step_at.result)
    (client_is c.in-Client.pair k (sym here ∙ at)) c.step_at.ensures.registered

pub returns-in-Port-clause-registered : goal.returns-in-Port-clause-registered
returns-in-Port-clause-registered c = λ k at.
    let here : slice_get c.args.seats.now c.args.line.now.unit ≡ Some places.Port = c.seat_at.ensures ∙ ap Some c.in-Port.is in
    absurd (no_port k (sym at ∙ here))

pub returns-in-Client-clause-others : goal.returns-in-Client-clause-others
returns-in-Client-clause-others c =
    else_one c.args.seats.now c.args.line.now.unit c.in-Client.pair c.args.pairs.now c.step_at.new.pairs (c.seat_at.ensures ∙ ap Some c.in-Client.is) c.step_at.ensures.said.beside

pub returns-in-Port-clause-others : goal.returns-in-Port-clause-others
returns-in-Port-clause-others c = else_none c.args.seats.now c.args.pairs.now

pub returns-in-Client-clause-lays : goal.returns-in-Client-clause-lays
returns-in-Client-clause-lays c =
    line_lays c.args.seats.now c.args.line.now c.in-Client.pair c.args.pairs.now c.step_at.new.pairs (c.seat_at.ensures ∙ ap Some c.in-Client.is) c.step_at.ensures.lays

pub returns-in-Port-clause-lays : goal.returns-in-Port-clause-lays
returns-in-Port-clause-lays c = line_lays_none c.args.seats.now c.args.line.now c.args.pairs.now c.args.pairs.now (none_lay_same c.args.pairs.now)

pub returns-in-Client-clause-region : goal.returns-in-Client-clause-region
returns-in-Client-clause-region c = λ k at.
    let here : slice_get c.args.seats.now c.args.line.now.unit ≡ Some (places.Client c.in-Client.pair) = c.seat_at.ensures ∙ ap Some c.in-Client.is in
    subst (λ n. SeatStepped n c.args.line.now c.args.pairs.now c.step_at.new.pairs c.step_at.result) (client_is c.in-Client.pair k (sym here ∙ at)) c.step_at.ensures.region

pub returns-in-Port-clause-region : goal.returns-in-Port-clause-region
returns-in-Port-clause-region c = λ k at.
    let here : slice_get c.args.seats.now c.args.line.now.unit ≡ Some places.Port = c.seat_at.ensures ∙ ap Some c.in-Port.is in
    absurd (no_port k (sym at ∙ here))

pub returns-in-Client-clause-plainly : goal.returns-in-Client-clause-plainly
returns-in-Client-clause-plainly c =
    line_plainly c.args.seats.now c.args.line.now c.args.progress.now c.step_at.new.progress c.step_at.result c.in-Client.pair c.args.pairs.now c.step_at.new.pairs
    (c.seat_at.ensures ∙ ap Some c.in-Client.is) c.step_at.ensures.plainly

pub returns-in-Port-clause-plainly : goal.returns-in-Port-clause-plainly
returns-in-Port-clause-plainly c =
    port_plainly c.args.seats.now c.args.line.now c.args.progress.now c.step.new.progress c.step.result c.args.pairs.now c.args.pairs.now (c.seat_at.ensures ∙ ap Some c.in-Port.is)

pub returns-in-Client-clause-acts : goal.returns-in-Client-clause-acts
returns-in-Client-clause-acts c =
    client_acts c.args.seats.now c.args.line.now c.args.progress.now c.step_at.new.progress c.step_at.result c.in-Client.pair c.args.pairs.now c.step_at.new.pairs
    (c.seat_at.ensures ∙ ap Some c.in-Client.is) c.step_at.ensures.acts

pub returns-in-Port-clause-acts : goal.returns-in-Port-clause-acts
returns-in-Port-clause-acts c =
    port_acts c.args.seats.now c.args.line.now c.args.progress.now c.step.new.progress c.step.result c.args.pairs.now (c.seat_at.ensures ∙ ap Some c.in-Port.is)
