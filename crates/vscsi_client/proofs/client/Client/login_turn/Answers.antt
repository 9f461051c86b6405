use Rattle.std.proofs.Common.{◌∙◌, [], ◌∷◌, refl, ap, arith}
use Rattle.crq_session.specs.EndState.{EndPlace}
use Rattle.vscsi_client.specs.Ports.{ports}
use Rattle.vscsi_client.specs.Turned.{site, RanOut, Registered}
use Rattle.vscsi_client.proofs.Same.{lays_none}
use Rattle.vscsi_client.proofs.Frames.{opened_by, opened_none, turns_after, turns_opened}
use Rattle.vscsi_client.proofs.Runs.{hands}
use Rattle.vscsi_client.proofs.Parts.{turned_after, not_busy, none_busy, now_registered, if_open}
use Rattle.vscsi_client.proofs.client.Client.login_turn.Goals as goal

pub returns-in-Err-clause-turned : goal.returns-in-Err-clause-turned
returns-in-Err-clause-turned g c = record {
  steps = RanOut ∷ [];
  runs = (
    site c.args.self.now (ports g.C.CrqEnd.is_shared (g.C.CrqEnd.state c.args.crq.now) g.O.WindowPort.is_shared (g.O.WindowPort.state c.args.own.now)),
    refl,
    record {
      crq = c.in-Err.ensures.none;
      own = lays_none g.O.WindowPort.is_shared (g.O.WindowPort.state c.args.own.now);
      client = c.in-Err.ensures.same;
    },
    hands _ _ _ _ _ _ _ _,
  );
  ends = record { rest = []; is = refl; going = refl };
}

pub returns-in-Err-clause-crq_rest : goal.returns-in-Err-clause-crq_rest
returns-in-Err-clause-crq_rest g c = turns_opened _ _ _ (opened_none _ _ _ c.in-Err.ensures.none c.register.ensures.rest)

pub returns-in-Busy-clause-crq_rest : goal.returns-in-Busy-clause-crq_rest
returns-in-Busy-clause-crq_rest g c =
    turns_opened _ _ _ (opened_by _ _ _ _ _ c.in-Ok.answer c.in-Ok.ensures.registers c.register.ensures.rest)

pub returns-in-Busy-clause-turned : goal.returns-in-Busy-clause-turned
returns-in-Busy-clause-turned g c = record {
  steps = Registered c.in-Ok.answer ∷ [];
  runs = (
    site c.args.self.now (ports g.C.CrqEnd.is_shared (g.C.CrqEnd.state c.args.crq.now) g.O.WindowPort.is_shared (g.O.WindowPort.state c.args.own.now)),
    refl,
    (c.in-Ok.ensures.registers, refl),
    hands _ _ _ _ _ _ _ _,
  );
  ends = (
    omega arith,
    record { rest = []; is = ap (λ a. Registered a ∷ []) c.in-Busy.is; going = refl },
    record { answer = c.in-Ok.answer; later = []; is = refl; order = tt },
  );
}

pub turn_registered-requires-clause-registered : goal.turn_registered-requires-clause-registered
turn_registered-requires-clause-registered g c = now_registered _ _ _ _ _ c.in-Ok.answer c.in_default.not-Busy c.in-Ok.ensures.registers

pub returns-in_default : goal.returns-in_default
returns-in_default g c =
    let a = site c.args.self.now (ports g.C.CrqEnd.is_shared (g.C.CrqEnd.state c.args.crq.now) g.O.WindowPort.is_shared (g.O.WindowPort.state c.args.own.now)) in
    let r = site c.register.new.self (ports g.C.CrqEnd.is_shared (g.C.CrqEnd.state c.register.new.crq) g.O.WindowPort.is_shared (g.O.WindowPort.state c.args.own.now)) in
    let b = site c.turn_registered.new.self (ports g.C.CrqEnd.is_shared (g.C.CrqEnd.state c.turn_registered.new.crq) g.O.WindowPort.is_shared (g.O.WindowPort.state c.turn_registered.new.own)) in
    let none = none_busy c.in-Ok.answer (not_busy c.in-Ok.answer c.in_default.not-Busy) in
    record {
      turned = turned_after c.args.line a r b (g.C.CrqEnd.state c.args.crq.now).place.own_slots (g.C.CrqEnd.state c.register.new.crq).place.own_slots
          c.turn_registered.result c.in-Ok.answer
          (a, refl, (c.in-Ok.ensures.registers, refl), hands _ _ _ _ _ _ _ _) none
          (ap (λ (p : EndPlace). p.own_slots) c.register.ensures.rest.place) c.turn_registered.ensures.turned;
      crq_rest = turns_after _ _ _ _ (opened_by _ _ _ _ _ c.in-Ok.answer c.in-Ok.ensures.registers c.register.ensures.rest) c.turn_registered.ensures.crq_rest;
      registered = if_open c.turn_registered.result (g.C.CrqEnd.state c.turn_registered.new.crq).registered
          (c.turn_registered.ensures.crq_rest.registered ∙ now_registered _ _ _ _ _ c.in-Ok.answer c.in_default.not-Busy c.in-Ok.ensures.registers);
      own_rest = c.turn_registered.ensures.own_rest;
    }
