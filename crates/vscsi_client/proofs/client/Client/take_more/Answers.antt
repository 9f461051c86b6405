use Rattle.std.proofs.Common.{◌∙◌, ◌≤◌, Ok, sym, ap, subst, arith}
use Rattle.tce_window.specs.PortState.{PortPlace}
use Rattle.vscsi_client.specs.TurnParts.{TookOne}
use Rattle.vscsi_client.proofs.Frames.{keeps_takes, keeps_trans, writes_reads, writes_trans}
use Rattle.vscsi_client.proofs.Parts.{err_after, none_after, ended_after, went_on, all_taken, held_none, held_after}
use Rattle.vscsi_client.proofs.client.Client.take_more.Goals as goal

pub returns-in-Err-clause-did : goal.returns-in-Err-clause-did
returns-in-Err-clause-did g c = λ line.
    let went = c.loop-taken.invariant.went line in
    err_after _ _ line _ _ _ TookOne _ c.take_one.result _ _ went.steps c.in-Err.is went.runs went.going (c.take_one.ensures.did line)

pub returns-in-Err-clause-crq_rest : goal.returns-in-Err-clause-crq_rest
returns-in-Err-clause-crq_rest g c =
    keeps_trans _ _ _ _ c.loop-taken.invariant.crq (keeps_takes _ _ _ c.take_one.ensures.crq_rest)

pub returns-in-Err-clause-own_rest : goal.returns-in-Err-clause-own_rest
returns-in-Err-clause-own_rest g c =
    writes_trans _ _ _ c.loop-taken.invariant.own (writes_reads _ _ _ c.take_one.ensures.own_rest)

pub returns-in-Ok-None-clause-did : goal.returns-in-Ok-None-clause-did
returns-in-Ok-None-clause-did g c = λ line.
    let slots = c.slots-taken-end.ensures.slots in
    let most = c.loop-taken-test.true in
    none_after line _ _ _ _ _ c.take_one.result (c.in-Ok-None.is ∙ ap Ok c.in-Ok-None.field-0-is) (omega (arith, most, slots)) c.loop-taken.invariant.held (c.loop-taken.invariant.went line) (c.take_one.ensures.did line)

pub returns-in-Ok-None-clause-crq_rest : goal.returns-in-Ok-None-clause-crq_rest
returns-in-Ok-None-clause-crq_rest g c =
    keeps_trans _ _ _ _ c.loop-taken.invariant.crq (keeps_takes _ _ _ c.take_one.ensures.crq_rest)

pub returns-in-Ok-None-clause-own_rest : goal.returns-in-Ok-None-clause-own_rest
returns-in-Ok-None-clause-own_rest g c =
    writes_trans _ _ _ c.loop-taken.invariant.own (writes_reads _ _ _ c.take_one.ensures.own_rest)

pub returns-in_default : goal.returns-in_default
returns-in_default g c =
    let slots = c.slots-taken-end.ensures.slots in
    let less = c.loop-taken-test.true in
    record {
      did = λ line. ended_after line _ _ _ _ _ c.in-Ok-Some.found c.next_after.result c.take_one.result (c.in-Ok-Some.is ∙ ap Ok c.in-Ok-Some.field-0-is)
          (omega (arith, less, slots)) c.next_after.ensures c.in_default.not-GoOn (c.loop-taken.invariant.went line) (c.take_one.ensures.did line);
      crq_rest = keeps_trans _ _ _ _ c.loop-taken.invariant.crq (keeps_takes _ _ _ c.take_one.ensures.crq_rest);
      own_rest = writes_trans _ _ _ c.loop-taken.invariant.own (writes_reads _ _ _ c.take_one.ensures.own_rest);
    }

pub returns-clause-did : goal.returns-clause-did
returns-clause-did g c = λ line.
    let slots = c.slots-taken-end.ensures.slots in
    let least = c.loop-taken-test.false in
    let most = c.loop-taken.auto._taken-end in
    all_taken line _ _ _ _ (omega (arith, slots, least, most)) c.loop-taken.invariant.held (c.loop-taken.invariant.went line)

pub loop-taken-preserved : goal.loop-taken-preserved
loop-taken-preserved g c =
    let on = sym c.next_after.ensures ∙ c.in-GoOn.is in
    record {
      held = held_after c.take_one.new.self c.in-Ok-Some.found c.take_one.result (c.in-Ok-Some.is ∙ ap Ok c.in-Ok-Some.field-0-is) (held_none c.in-Ok-Some.found on) c.take_one.ensures.held;
      pages = subst (λ (p : PortPlace). 14 ≤ p.size) (sym c.take_one.ensures.own_rest.place) c.loop-taken.invariant.pages;
      went = λ line. went_on line _ _ _ _ c.in-Ok-Some.found c.take_one.result (c.in-Ok-Some.is ∙ ap Ok c.in-Ok-Some.field-0-is) on (c.loop-taken.invariant.went line) (c.take_one.ensures.did line);
      crq = keeps_trans _ _ _ _ c.loop-taken.invariant.crq (keeps_takes _ _ _ c.take_one.ensures.crq_rest);
      own = writes_trans _ _ _ c.loop-taken.invariant.own (writes_reads _ _ _ c.take_one.ensures.own_rest);
    }
