use Rattle.std.proofs.Common.{rules, ◌+◌, length, ◌≡◌, ◌∙◌, None, subst, sym, ap, refl, inr}
use Rattle.std.proofs.lemmas.Result.{err_from_is_err_and}
use Rattle.srp_iu.specs.declared.unit.Iu.TheVariants as units
use Rattle.vscsi_client.specs.Units.{task_request}
use Rattle.vscsi_client.specs.Ports.{ports}
use Rattle.vscsi_client.specs.State.{ClientState, tags_of, next_tag}
use Rattle.vscsi_client.specs.Sending.{PutsNoUnit}
use Rattle.vscsi_client.proofs.Allowing.{credit_left}
use Rattle.vscsi_client.proofs.client.Client.task.Goals as goal

pub returns-in_err-slot-clause-why : goal.returns-in_err-slot-clause-why
returns-in_err-slot-clause-why g c = λ none.
    let s : ClientState = c.args.self.now in
    let rows_are : c.reserve-2.new.self.items ≡ s.rows = c.reserve-2.ensures.items ∙ ap (λ (s : ClientState). s.rows) c.self.view_is in
    let long : c.len.result ≡ length s.rows = c.len.ensures ∙ (search rules ∙ ap length rows_are) in
    let tag : c.len.result + 1 ≡ next_tag s = ap (λ n. n + 1) long in
    let before = ports g.C.CrqEnd.is_shared (g.C.CrqEnd.state c.reserve.new.self) g.O.WindowPort.is_shared (g.O.WindowPort.state c.args.own.now) in
    let after = ports g.C.CrqEnd.is_shared (g.C.CrqEnd.state c.put_request.new.crq) g.O.WindowPort.is_shared (g.O.WindowPort.state c.put_request.new.own) in
    let p = err_from_is_err_and c.from_residual-in_err-slot.result c.from_residual-in_err-slot.ensures.1 in rw (p.1, p.2)
    (inr (record {
      before = before;
      ready = record { crq_shared = refl; own_shared = refl; crq = c.reserve.ensures.rest; own = refl };
      why_not = subst (λ n. PutsNoUnit c.args.line s (units.TskMgmt (task_request c.args.function c.args.tag n)) before after c.in_err-slot.field-0.0) tag
          (subst (λ (t : ClientState). PutsNoUnit c.args.line t (units.TskMgmt (task_request c.args.function c.args.tag (c.len.result + 1))) before after c.in_err-slot.field-0.0)
          c.self.view_is c.in_err-slot.ensures.why);
    }))

pub note-requires-clause-credit : goal.note-requires-clause-credit
note-requires-clause-credit g c =
    let s : ClientState = c.args.self.now in
    credit_left s None c.self.inside.credits (sym c.credit_refusal.ensures.why ∙ c.in_default.is)
    (ap (λ (s : ClientState). s.granted) c.self.view_is)
    (c.self.invariant.requests.tags ∙ ap (λ (s : ClientState). tags_of s.outgoing) c.self.view_is)
