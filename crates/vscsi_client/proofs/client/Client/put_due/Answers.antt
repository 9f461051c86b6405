use Rattle.std.proofs.Common.{◌≡◌, ◌∙◌, ◌≤◌, false, [], ◌∷◌, refl, sym, subst}
use Rattle.tce_window.specs.PortState.{PortPlace}
use Rattle.vscsi_client.specs.State.{ClientState}
use Rattle.vscsi_client.specs.Ports.{ports}
use Rattle.vscsi_client.specs.Turned.{site, RanOut, begins}
use Rattle.vscsi_client.specs.TurnParts.{PutOne, Went}
use Rattle.vscsi_client.proofs.Same.{lays_none}
use Rattle.vscsi_client.proofs.Frames.{keeps_same, keeps_trans, writes_same, writes_trans}
use Rattle.vscsi_client.proofs.Runs.{hands, same_end}
use Rattle.vscsi_client.proofs.Parts.{err_after, begun_once, begun_went, one_more, one_held, ok_true, ok_false}
use Rattle.vscsi_client.proofs.client.Client.put_due.Goals as goal

pub returns-in-Err-clause-did : goal.returns-in-Err-clause-did
returns-in-Err-clause-did g c = record {
  steps = RanOut ∷ [];
  runs = (
    site c.args.self.now (ports g.C.CrqEnd.is_shared (g.C.CrqEnd.state c.args.crq.now) g.O.WindowPort.is_shared (g.O.WindowPort.state c.args.own.now)),
    refl,
    record {
      crq = same_end (g.C.CrqEnd.state c.args.crq.now);
      own = lays_none g.O.WindowPort.is_shared (g.O.WindowPort.state c.args.own.now);
      client = c.in-Err.ensures.err;
    },
    hands _ _ _ _ _ _ _ _,
  );
  ends = record { rest = []; is = refl; going = refl };
}

pub loop-due-init : goal.loop-due-init
loop-due-init g c =
    let p = ports g.C.CrqEnd.is_shared (g.C.CrqEnd.state c.args.crq.now) g.O.WindowPort.is_shared (g.O.WindowPort.state c.args.own.now) in
    let is = c.in-Ok.ensures.ok in
    record {
      begun = subst (λ (s : ClientState). begins s ≡ false) (sym is) (begun_once c.args.self.now);
      held = c.begin.ensures.held;
      pages = c.requires.pages;
      went = subst (λ (s : ClientState). Went c.args.line 2 (site c.args.self.now p) (site s p) 0) (sym is)
          (begun_went c.args.line g.C.CrqEnd.is_shared g.O.WindowPort.is_shared c.args.self.now (g.C.CrqEnd.state c.args.crq.now) (g.O.WindowPort.state c.args.own.now));
      crq = keeps_same _ (g.C.CrqEnd.state c.args.crq.now);
      own = writes_same (g.O.WindowPort.state c.args.own.now);
    }

pub returns-in-Err-put_one-clause-did : goal.returns-in-Err-put_one-clause-did
returns-in-Err-put_one-clause-did g c =
    let went = c.loop-due.invariant.went in
    err_after _ _ c.args.line _ _ _ (PutOne c.loop-due.self c.put_one.new.self) _ c.put_one.result _ _ went.steps c.in-Err-put_one.is went.runs went.going c.put_one.ensures.did

pub loop-due-preserved : goal.loop-due-preserved
loop-due-preserved g c =
    let is = ok_true c.put_one.result c.in-Ok-true.field-0 c.in-Ok-true.is c.in-Ok-true.field-0-test in
    let more = one_more c.args.line _ _ _ c.loop-due.self c.put_one.new.self c.put_one.result is c.loop-due.invariant.went c.put_one.ensures.did in
    record {
      begun = more.1;
      held = c.put_one.ensures.held ∙ c.loop-due.invariant.held;
      pages = subst (λ (p : PortPlace). 14 ≤ p.size) (sym c.put_one.ensures.own_rest.place) c.loop-due.invariant.pages;
      went = more.0;
      crq = keeps_trans _ _ _ _ c.loop-due.invariant.crq c.put_one.ensures.crq_rest;
      own = writes_trans _ _ _ c.loop-due.invariant.own c.put_one.ensures.own_rest;
    }

pub loop-due-smaller : goal.loop-due-smaller
loop-due-smaller g c =
    let is = ok_true c.put_one.result c.in-Ok-true.field-0 c.in-Ok-true.is c.in-Ok-true.field-0-test in
    let more = one_more c.args.line _ _ _ c.loop-due.self c.put_one.new.self c.put_one.result is c.loop-due.invariant.went c.put_one.ensures.did in more.2

pub returns-in-Ok-false-clause-did : goal.returns-in-Ok-false-clause-did
returns-in-Ok-false-clause-did g c =
    let is = ok_false c.put_one.result c.in-Ok-false.field-0 c.in-Ok-false.is c.in-Ok-false.field-0-test in
    one_held c.args.line _ _ _ c.loop-due.self c.put_one.new.self c.put_one.result is c.loop-due.invariant.went c.put_one.ensures.did
