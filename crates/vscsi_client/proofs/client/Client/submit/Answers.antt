use Rattle.std.proofs.Common.{rules, ◌+◌, length, ◌≡◌, ◌∙◌, None, Option, subst, sym, ap, refl, inl, inr, ◌∷◌, ◌++◌, []}
use Rattle.std.proofs.lemmas.Result.{err_from_is_err_and}
use Rattle.srp_iu.specs.declared.unit.Iu.TheVariants as units
use Rattle.vscsi_client.specs.declared.table.Table.{Table}
use Rattle.vscsi_client.specs.Units.{IsCommand}
use Rattle.vscsi_client.specs.Ports.{ports, LaysAll}
use Rattle.vscsi_client.specs.Spans.{op_in_range, first_sharing}
use Rattle.vscsi_client.specs.State.{ClientState, tags_of, next_tag}
use Rattle.vscsi_client.specs.Sending.{command_refusal, table_writes_at, PutsUnit, PutsNoUnit}
use Rattle.vscsi_client.proofs.Same.{lays_none, reserves_none}
use Rattle.vscsi_client.proofs.Allowing.{not_range, credit_left}
use Rattle.vscsi_client.proofs.Views.{rows_is, tabled_is, command_is}
use Rattle.vscsi_client.proofs.client.Client.submit.Goals as goal

pub returns-in_err-reserve-clause-why : goal.returns-in_err-reserve-clause-why
returns-in_err-reserve-clause-why g c = λ none.
    let p = err_from_is_err_and c.from_residual.result c.from_residual.ensures.1 in rw (p.1, p.2)
    (inl (record {
      why_not = lays_none g.O.WindowPort.is_shared (g.O.WindowPort.state c.args.own.now);
      sent = reserves_none (g.C.CrqEnd.state c.args.crq.now) (g.C.CrqEnd.state c.reserve.new.self) c.reserve.ensures.rest;
      client = refl;
    }))

pub returns-in_err-reserve-2-clause-why : goal.returns-in_err-reserve-2-clause-why
returns-in_err-reserve-2-clause-why g c = λ none.
    let p = err_from_is_err_and c.from_residual-in_err-reserve-2.result c.from_residual-in_err-reserve-2.ensures.1 in rw (p.1, p.2)
    (inl (record {
      why_not = lays_none g.O.WindowPort.is_shared (g.O.WindowPort.state c.args.own.now);
      sent = reserves_none (g.C.CrqEnd.state c.args.crq.now) (g.C.CrqEnd.state c.reserve.new.self) c.reserve.ensures.rest;
      client = rows_is _ c.args.self.now _ c.self.view_is c.reserve-2.ensures.items;
    }))

pub returns-in-Err-clause-why : goal.returns-in-Err-clause-why
returns-in-Err-clause-why g c = λ none.
    let s : ClientState = c.args.self.now in
    let rows_are : c.reserve-2.new.self.items ≡ s.rows = c.reserve-2.ensures.items ∙ ap (λ (s : ClientState). s.rows) c.self.view_is in
    let long : c.len.result ≡ length s.rows = c.len.ensures ∙ (search rules ∙ ap length rows_are) in
    inr (record {
      command = c.command.result;
      is_command = subst (λ n. IsCommand n c.args.op.now c.command.result) (ap (λ n. n + 1) long) c.command.ensures.is;
      before = ports g.C.CrqEnd.is_shared (g.C.CrqEnd.state c.reserve.new.self) g.O.WindowPort.is_shared (g.O.WindowPort.state c.write_table.new.own);
      ready = record {
        crq_shared = refl;
        own_shared = refl;
        crq = c.reserve.ensures.rest;
        own = subst (λ (t : Option Table). LaysAll g.O.WindowPort.is_shared c.args.line (table_writes_at c.args.line c.args.op.now t c.args.op.now.table)
            (g.O.WindowPort.state c.args.own.now) (g.O.WindowPort.state c.write_table.new.own))
            (ap (λ (s : ClientState). s.tabled) c.self.view_is) c.in_ok-write_table.ensures.laid;
      };
      why_not = subst (λ (s : ClientState). PutsNoUnit c.args.line s (units.Cmd c.command.result)
          (ports g.C.CrqEnd.is_shared (g.C.CrqEnd.state c.reserve.new.self) g.O.WindowPort.is_shared (g.O.WindowPort.state c.write_table.new.own))
          (ports g.C.CrqEnd.is_shared (g.C.CrqEnd.state c.put_request.new.crq) g.O.WindowPort.is_shared (g.O.WindowPort.state c.put_request.new.own)) c.in-Err.why)
          c.self.view_is c.in-Err.ensures.why;
      client = tabled_is _ s _ _ _ c.in-Err.why c.args.line c.args.op.now c.self.view_is c.reserve-2.ensures.items
          c.tabled_after-self-inside.ensures c.in_ok-write_table.ensures.tabled;
    })

pub note-requires-clause-credit : goal.note-requires-clause-credit
note-requires-clause-credit g c =
    let s : ClientState = c.args.self.now in
    let allowed : command_refusal c.pages.result s c.args.op.now ≡ None = sym c.command_refusal.ensures.why ∙ c.in_default.is in
    credit_left s (first_sharing c.args.op.now s.outgoing) c.self.inside.credits
    (not_range (op_in_range c.pages.result c.args.op.now) _ allowed).1
    (ap (λ (s : ClientState). s.granted) c.self.view_is)
    (c.self.invariant.requests.tags ∙ ap (λ (s : ClientState). tags_of s.outgoing) c.self.view_is)

pub returns-clause-sent : goal.returns-clause-sent
returns-clause-sent g c =
    let s : ClientState = c.args.self.now in
    let rows_are : c.reserve-2.new.self.items ≡ s.rows = c.reserve-2.ensures.items ∙ ap (λ (s : ClientState). s.rows) c.self.view_is in
    let long : c.len.result ≡ length s.rows = c.len.ensures ∙ (search rules ∙ ap length rows_are) in
    let tag : c.len.result + 1 ≡ next_tag s = ap (λ n. n + 1) long in
    let own_tag : c.len.result + 1 ≡ length c.self.inside.rows.items + 1 = tag ∙ sym (ap (λ (s : ClientState). next_tag s) c.self.view_is) in
    record {
      allowed = ap (λ n. command_refusal n s c.args.op.now) (sym c.pages.ensures.pages) ∙ (sym c.command_refusal.ensures.why ∙ c.in_default.is);
      tag_is = tag;
      command = c.command.result;
      is_command = subst (λ n. IsCommand n c.args.op.now c.command.result) tag c.command.ensures.is;
      before = ports g.C.CrqEnd.is_shared (g.C.CrqEnd.state c.reserve.new.self) g.O.WindowPort.is_shared (g.O.WindowPort.state c.write_table.new.own);
      ready = record {
        crq_shared = refl;
        own_shared = refl;
        crq = c.reserve.ensures.rest;
        own = subst (λ (t : Option Table). LaysAll g.O.WindowPort.is_shared c.args.line (table_writes_at c.args.line c.args.op.now t c.args.op.now.table)
            (g.O.WindowPort.state c.args.own.now) (g.O.WindowPort.state c.write_table.new.own))
            (ap (λ (s : ClientState). s.tabled) c.self.view_is) c.in_ok-write_table.ensures.laid;
      };
      slot = c.in-Ok.slot;
      put = subst (λ (s : ClientState). PutsUnit c.args.line s (units.Cmd c.command.result)
          (ports g.C.CrqEnd.is_shared (g.C.CrqEnd.state c.reserve.new.self) g.O.WindowPort.is_shared (g.O.WindowPort.state c.write_table.new.own))
          (ports g.C.CrqEnd.is_shared (g.C.CrqEnd.state c.put_request.new.crq) g.O.WindowPort.is_shared (g.O.WindowPort.state c.put_request.new.own)) c.in-Ok.slot)
          c.self.view_is c.in-Ok.ensures.put;
      client = command_is _ s _ _ _ _ _ c.args.op.now (c.len.result + 1) c.in-Ok.slot c.self.view_is own_tag
          c.note.ensures.granted c.note.ensures.outgoing c.of-request.ensures (c.note.ensures.rows ∙ ap (λ rs. rs ++ c.row.result ∷ []) c.reserve-2.ensures.items) c.row.ensures;
    }
