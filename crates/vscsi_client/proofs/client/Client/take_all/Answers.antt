use Rattle.std.proofs.Common.{◌∙◌, [], ◌∷◌, refl, sym, ap, arith}
use Rattle.vscsi_client.specs.declared.turning.Next.{Next}
use Rattle.vscsi_client.specs.Ports.{ports}
use Rattle.vscsi_client.specs.State.{ClientState}
use Rattle.vscsi_client.specs.Turned.{site, Looked, RanOut}
use Rattle.vscsi_client.specs.TurnParts.{TookAll}
use Rattle.vscsi_client.proofs.Frames.{keeps_same, writes_reads}
use Rattle.vscsi_client.proofs.Runs.{hands, same_end, same_window, looks_some, some_held, did_after, parts_none, parts_looked_on}
use Rattle.vscsi_client.proofs.Parts.{looked_ends, looked_none, held_none, took_front}
use Rattle.vscsi_client.proofs.client.Client.take_all.Goals as goal

pub returns-in-Err-clause-did : goal.returns-in-Err-clause-did
returns-in-Err-clause-did g c = λ line. record {
  steps = RanOut ∷ [];
  runs = (
    site c.args.self.now (ports g.C.CrqEnd.is_shared (g.C.CrqEnd.state c.args.crq.now) g.O.WindowPort.is_shared (g.O.WindowPort.state c.args.own.now)),
    refl,
    record {
      crq = same_end (g.C.CrqEnd.state c.args.crq.now);
      own = same_window g.O.WindowPort.is_shared (g.O.WindowPort.state c.args.own.now) (g.O.WindowPort.state c.look.new.own) c.in-Err.ensures.err.1;
      client = c.in-Err.ensures.err.0;
    },
    hands _ _ _ _ _ _ _ _,
  );
  ends = record { rest = []; is = refl; going = refl };
}

pub returns-in-GoOn-clause-did : goal.returns-in-GoOn-clause-did
returns-in-GoOn-clause-did g c = λ line.
    let on = sym c.next_after.ensures ∙ c.in-GoOn.is in
    let none = looked_none c.in-Ok.found [] on refl in
    let a = site c.args.self.now (ports g.C.CrqEnd.is_shared (g.C.CrqEnd.state c.args.crq.now) g.O.WindowPort.is_shared (g.O.WindowPort.state c.args.own.now)) in
    let m = site c.look.new.self (ports g.C.CrqEnd.is_shared (g.C.CrqEnd.state c.args.crq.now) g.O.WindowPort.is_shared (g.O.WindowPort.state c.look.new.own)) in
    let b = site c.take_more-in-GoOn.new.self (ports g.C.CrqEnd.is_shared (g.C.CrqEnd.state c.take_more-in-GoOn.new.crq) g.O.WindowPort.is_shared (g.O.WindowPort.state c.take_more-in-GoOn.new.own)) in
    let slots = (g.C.CrqEnd.state c.args.crq.now).place.own_slots in
    did_after Next line a m b (TookAll slots b) (TookAll slots b) c.take_more-in-GoOn.result (Looked c.in-Ok.found ∷ []) (
      a,
      refl,
      (
        looks_some g.O.WindowPort.is_shared c.args.self.now c.look.new.self (g.O.WindowPort.state c.args.own.now) (g.O.WindowPort.state c.look.new.own) c.in-Ok.found
            c.args.self.now.held refl (some_held c.args.self.now.held _ (sym (ap (λ (s : ClientState). s.held) c.self.view_is) ∙ c.in-Some.is)) c.in-Ok.ensures.looks c.look.ensures.rest,
        refl,
      ),
      hands _ _ _ _ _ _ _ _,
    )
    none (took_front slots b (Looked c.in-Ok.found ∷ []) refl none (parts_looked_on c.in-Ok.found [] (held_none c.in-Ok.found on) (parts_none 1))) (c.take_more-in-GoOn.ensures.did line)

pub returns-in_default : goal.returns-in_default
returns-in_default g c = record {
  did = λ line.
      let a = site c.args.self.now (ports g.C.CrqEnd.is_shared (g.C.CrqEnd.state c.args.crq.now) g.O.WindowPort.is_shared (g.O.WindowPort.state c.args.own.now)) in
      let m = site c.look.new.self (ports g.C.CrqEnd.is_shared (g.C.CrqEnd.state c.args.crq.now) g.O.WindowPort.is_shared (g.O.WindowPort.state c.look.new.own)) in
      record {
        steps = Looked c.in-Ok.found ∷ [];
        runs = (
          a,
          refl,
          (
            looks_some g.O.WindowPort.is_shared c.args.self.now c.look.new.self (g.O.WindowPort.state c.args.own.now) (g.O.WindowPort.state c.look.new.own) c.in-Ok.found
                c.args.self.now.held refl (some_held c.args.self.now.held _ (sym (ap (λ (s : ClientState). s.held) c.self.view_is) ∙ c.in-Some.is)) c.in-Ok.ensures.looks c.look.ensures.rest,
            refl,
          ),
          hands _ _ _ _ _ _ _ _,
        );
        ends = looked_ends line (g.C.CrqEnd.state c.args.crq.now).place.own_slots m c.in-Ok.found c.next_after.result [] c.next_after.ensures c.in_default.not-GoOn refl (omega arith) (parts_none 1);
      };
  crq_rest = keeps_same _ (g.C.CrqEnd.state c.args.crq.now);
  own_rest = writes_reads _ _ _ c.look.ensures.rest;
}
