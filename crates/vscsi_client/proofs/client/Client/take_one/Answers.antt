use Rattle.std.proofs.Common.{[], ◌∷◌, refl}
use Rattle.vscsi_client.specs.Ports.{ports}
use Rattle.vscsi_client.specs.Turned.{site, Took, Looked, RanOut}
use Rattle.vscsi_client.proofs.Same.{lays_none}
use Rattle.vscsi_client.proofs.Runs.{hands, looks_from, same_window, held_by, took_true}
use Rattle.vscsi_client.proofs.client.Client.take_one.Goals as goal

pub returns-in-Err-clause-did : goal.returns-in-Err-clause-did
returns-in-Err-clause-did g c = λ line. record {
  steps = RanOut ∷ [];
  runs = (
    site c.args.self.now (ports g.C.CrqEnd.is_shared (g.C.CrqEnd.state c.args.crq.now) g.O.WindowPort.is_shared (g.O.WindowPort.state c.args.own.now)),
    refl,
    record { crq = c.in-Err.ensures.none; own = lays_none g.O.WindowPort.is_shared (g.O.WindowPort.state c.args.own.now); client = c.in-Err.ensures.same },
    hands _ _ _ _ _ _ _ _,
  );
  ends = record { rest = []; is = refl; going = refl };
}

pub returns-in-Err-look-clause-did : goal.returns-in-Err-look-clause-did
returns-in-Err-look-clause-did g c = λ line.
    let a = site c.args.self.now (ports g.C.CrqEnd.is_shared (g.C.CrqEnd.state c.args.crq.now) g.O.WindowPort.is_shared (g.O.WindowPort.state c.args.own.now)) in
    let m = site c.take_next.new.self (ports g.C.CrqEnd.is_shared (g.C.CrqEnd.state c.take_next.new.crq) g.O.WindowPort.is_shared (g.O.WindowPort.state c.args.own.now)) in
    let took = took_true _ _ _ _ _ _ c.in-Ok-true.field-0-test c.in-Ok-true.ensures.took in
    record {
      steps = RanOut ∷ Took ∷ [];
      runs = (
        m,
        (a, refl, (took, refl), hands _ _ _ _ _ _ _ _),
        record {
          crq = record { place = refl; last_session = refl; registered = refl; kept = refl; sent = refl; drops = refl; taken = refl; counts = refl };
          own = same_window g.O.WindowPort.is_shared (g.O.WindowPort.state c.args.own.now) (g.O.WindowPort.state c.look.new.own) c.in-Err-look.ensures.err.1;
          client = c.in-Err-look.ensures.err.0;
        },
        hands _ _ _ _ _ _ _ _,
      );
      ends = record { rest = Took ∷ []; is = refl; going = refl };
    }

pub returns-in-Ok-clause-did : goal.returns-in-Ok-clause-did
returns-in-Ok-clause-did g c = λ line.
    let a = site c.args.self.now (ports g.C.CrqEnd.is_shared (g.C.CrqEnd.state c.args.crq.now) g.O.WindowPort.is_shared (g.O.WindowPort.state c.args.own.now)) in
    let m = site c.take_next.new.self (ports g.C.CrqEnd.is_shared (g.C.CrqEnd.state c.take_next.new.crq) g.O.WindowPort.is_shared (g.O.WindowPort.state c.args.own.now)) in
    let took = took_true _ _ _ _ _ _ c.in-Ok-true.field-0-test c.in-Ok-true.ensures.took in
    record {
      steps = Looked c.in-Ok.found ∷ Took ∷ [];
      runs = (
        m,
        (a, refl, (took, refl), hands _ _ _ _ _ _ _ _),
        (
          looks_from g.O.WindowPort.is_shared c.take_next.new.self c.look.new.self (g.O.WindowPort.state c.args.own.now) (g.O.WindowPort.state c.look.new.own) c.in-Ok.found
              took.entry (held_by c.args.self.now c.take_next.new.self took.entry took.client) c.in-Ok.ensures.looks c.look.ensures.rest,
          refl,
        ),
        hands _ _ _ _ _ _ _ _,
      );
      ends = refl;
    }
