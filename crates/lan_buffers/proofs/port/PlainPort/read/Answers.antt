use Rattle.std.proofs.Common.{◌≡◌, ◌==◌, length, filter, slice_get, Some, sym, ◌∙◌, ap, subst}
use Rattle.lan_buffers.specs.declared.rows.PostRow.{PostRow}
use Rattle.lan_buffers.specs.declared.rows.DeliverRow.{DeliverRow}
use Rattle.lan_buffers.specs.Port.{PortValue, now, last_session}
use Rattle.lan_buffers.specs.Calls.{IsTold}
use Rattle.lan_buffers.proofs.Keeping.{kept_harvest, entry_told}
use Rattle.lan_buffers.proofs.port.PlainPort.read.Goals as goal

pub invariant_of-self : goal.invariant_of-self
invariant_of-self c =
    let last : c.session-session.result ≡ length c.self.inside.drop_counts.items = c.session-session.ensures.session ∙ ap (λ (v : PortValue). last_session v) (sym c.self.view_is) in
    let told = subst (λ (v : PortValue). IsTold (now v) c.args.number c.args.told) (sym c.self.view_is) c.requires.told in
    let number = subst (λ (v : PortValue). c.args.number ≡ length (now v).harvests) (sym c.self.view_is) c.requires.number in
    let posts = filter (λ (row : PostRow). row.session == length c.self.inside.drop_counts.items) c.self.inside.posts.items in
    let rows = filter (λ (row : DeliverRow). row.session == length c.self.inside.drop_counts.items) c.self.inside.deliveries.items in
    rw c.push_reserved.ensures.items (record {
      kept = kept_harvest _ _ _ _ _ _ _ _ _ _ told.row c.self.invariant.kept last (subst (λ n. slice_get rows n ≡ Some told.row) number told.made)
          (entry_told _ _ _ posts told.row _ _ _ _ _ number c.toggle_of.ensures c.high.ensures told.blank_is told.len_is told.correlator_is);
      begun = c.self.invariant.begun;
    })
