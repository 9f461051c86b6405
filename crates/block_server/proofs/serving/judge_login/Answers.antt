use Rattle.std.proofs.Common.{◌≡◌, ℕ, List, refl, rules, subst}
use Rattle.block_server.specs.declared.service.Outcome.TheVariants.{Granted, Rejected}
use Rattle.block_server.proofs.Serves.{once_judged}
use Rattle.block_server.proofs.Offering.{may_first}
use Rattle.block_server.proofs.Quieting.{on_ok}
use Rattle.block_server.specs.Responses.{GrantsLogin, RejectsLogin}
use Rattle.block_server.specs.Ends.{IsRejectedFor}
use Rattle.block_server.proofs.Booking.{login_set}
use Rattle.std.proofs.Common.{sym, ◌∙◌}
use Rattle.block_server.proofs.Sendings.{set_unloaded}
use Rattle.std.proofs.Common.{subst, sym}
use Rattle.block_server.specs.Ends.{IsGrantable}
use Rattle.block_server.specs.Talk.{SuitsStage}
use Rattle.block_server.proofs.Servicing.{some_apart}
use Rattle.block_server.specs.declared.request.Order.TheVariants as orders
use Rattle.block_server.proofs.Quieting.{on_ok}
use Rattle.block_server.proofs.Standing.{answer_set}
use Rattle.block_server.specs.Granting.{login_state}
use Rattle.block_server.proofs.serving.judge_login.Goals as goal

pub returns-in-Some-clause-once : goal.returns-in-Some-clause-once
returns-in-Some-clause-once c = λ id front rest number order q records disk serving.
    let same : c.deref.result.now ≡ c.login_rejected.result.items = search (rules, c.deref.ensures) in
    once_judged _ _ _ _ Rejected c.set_answer.result refl refl refl refl (λ P. tt) c.set_answer.ensures.stage c.set_answer.ensures.err c.set_answer.ensures.same (λ i. record { outs = (c.set_answer.ensures.out i).list.items; inns = (c.set_answer.ensures.inn i).list.items; given = (c.set_answer.ensures.given i).items }) disk
    (on_ok c.set_answer.result _ _ (λ bytes. record {
      front = front;
      rest = rest;
      parts = refl;
      asked = c.args.login.now;
      asks = order;
      rejects = record {
        reason = c.in-Some.reason;
        why = subst (λ (n : ℕ). IsRejectedFor n c.args.login.now c.in-Some.reason) c.current.ensures c.in-Some.ensures.why;
        bytes_are = subst (λ (list : List ℕ). RejectsLogin list c.args.login.now.tag c.in-Some.reason) (sym (bytes ∙ same)) c.login_rejected.ensures.canonical;
      };
    }) c.set_answer.ensures.answer) serving

pub returns-in-None-clause-once : goal.returns-in-None-clause-once
returns-in-None-clause-once c = λ id front rest number order q records disk serving.
    let same : c.deref-in-None.result.now ≡ c.login_granted.result.items = search (rules, c.deref-in-None.ensures) in
    once_judged _ _ _ _ (Granted c.args.number) c.set_answer-in-None.result refl refl refl refl (λ P. tt)
    c.set_answer-in-None.ensures.stage c.set_answer-in-None.ensures.err c.set_answer-in-None.ensures.same (λ i. record { outs = (c.set_answer-in-None.ensures.out i).list.items; inns = (c.set_answer-in-None.ensures.inn i).list.items; given = (c.set_answer-in-None.ensures.given i).items }) disk
    (on_ok c.set_answer-in-None.result _ _ (λ bytes. record {
      front = front;
      rest = rest;
      parts = refl;
      number_is = number;
      asked = c.args.login.now;
      asks = order;
      may = may_first _ _ (c.login_refusal.ensures.none c.in-None.is);
      grants = subst (λ (z : List ℕ × ℕ). GrantsLogin z.0 c.args.login.now.tag z.1) (λ i. ((sym (bytes ∙ same)) i, c.credits.ensures i)) c.login_granted.ensures.canonical;
    }) c.set_answer-in-None.ensures.answer) serving

pub returns-in-Some-clause-books : goal.returns-in-Some-clause-books
returns-in-Some-clause-books c = λ books front rest rows parts asks number current none before.
    login_set books _ _ rows front rest Rejected c.set_answer.result parts asks before none c.set_answer.ensures.stage c.set_answer.ensures.err refl
    (record { front = front; rest = rest; parts = parts; asks = asks })

pub returns-in-None-clause-books : goal.returns-in-None-clause-books
returns-in-None-clause-books c = λ books front rest rows parts asks number current none before.
    login_set books _ _ rows front rest (Granted c.args.number) c.set_answer-in-None.result parts asks before none c.set_answer-in-None.ensures.stage c.set_answer-in-None.ensures.err refl
    (record { front = front; rest = rest; parts = parts; asks = asks; number_is = number; none_on = current ∙ sym c.current.ensures ∙ (c.login_refusal.ensures.none c.in-None.is).none_on })

pub returns-in-Some-clause-cargo : goal.returns-in-Some-clause-cargo
returns-in-Some-clause-cargo c = λ id shown rows before.
    set_unloaded id c.args.service.now c.set_answer.new.self shown rows Rejected c.set_answer.result c.set_answer.ensures.stage c.set_answer.ensures.err
    c.set_answer.ensures.out c.set_answer.ensures.inn c.set_answer.ensures.given before

pub returns-in-None-clause-cargo : goal.returns-in-None-clause-cargo
returns-in-None-clause-cargo c = λ id shown rows before.
    set_unloaded id c.args.service.now c.set_answer-in-None.new.self shown rows (Granted c.args.number) c.set_answer-in-None.result c.set_answer-in-None.ensures.stage
    c.set_answer-in-None.ensures.err c.set_answer-in-None.ensures.out c.set_answer-in-None.ensures.inn c.set_answer-in-None.ensures.given before

pub returns-in-Some-clause-suits : goal.returns-in-Some-clause-suits
returns-in-Some-clause-suits c = on_ok c.set_answer.result _ _ (λ is. subst (SuitsStage c.args.logins.now.current (orders.Login c.args.login.now)) (sym is) (λ may. some_apart c.login_refusal.result _ c.in-Some.is (c.login_refusal.ensures.some (subst (λ (n : ℕ). IsGrantable n c.args.login.now) (sym c.current.ensures) may)))) c.set_answer.ensures.stage

pub returns-in-None-clause-suits : goal.returns-in-None-clause-suits
returns-in-None-clause-suits c = on_ok c.set_answer-in-None.result _ _ (λ is. subst (SuitsStage c.args.logins.now.current (orders.Login c.args.login.now)) (sym is) (subst (λ (n : ℕ). IsGrantable n c.args.login.now) c.current.ensures (c.login_refusal.ensures.none c.in-None.is))) c.set_answer-in-None.ensures.stage

pub returns-in-Some-clause-made : goal.returns-in-Some-clause-made
returns-in-Some-clause-made c = λ request order.
    let same : c.deref.result.now ≡ c.login_rejected.result.items = search (rules, c.deref.ensures) in
    answer_set (login_state c.args.logins.now) request Rejected _ _ c.deref.result.now c.set_answer.result c.set_answer.ensures.stage c.set_answer.ensures.answer (
      c.args.login.now,
      order,
      record {
        reason = c.in-Some.reason;
        why = subst (λ (n : ℕ). IsRejectedFor n c.args.login.now c.in-Some.reason) c.current.ensures c.in-Some.ensures.why;
        bytes_are = subst (λ (list : List ℕ). RejectsLogin list c.args.login.now.tag c.in-Some.reason) (sym same) c.login_rejected.ensures.canonical;
      },
    )

pub returns-in-None-clause-made : goal.returns-in-None-clause-made
returns-in-None-clause-made c = λ request order.
    let same : c.deref-in-None.result.now ≡ c.login_granted.result.items = search (rules, c.deref-in-None.ensures) in
    answer_set (login_state c.args.logins.now) request (Granted c.args.number) _ _ c.deref-in-None.result.now c.set_answer-in-None.result c.set_answer-in-None.ensures.stage
    c.set_answer-in-None.ensures.answer
    (c.args.login.now, order, subst (λ (z : List ℕ × ℕ). GrantsLogin z.0 c.args.login.now.tag z.1) (λ i. (sym same i, c.credits.ensures i)) c.login_granted.ensures.canonical)
