use Rattle.std.proofs.Common.{◌≡◌, ◌<◌, ◌==◌, List, length, filter, sym, ◌∙◌, ap, subst, All}
use Rattle.lan_buffers.specs.declared.rows.PostRow.{PostRow}
use Rattle.lan_buffers.specs.declared.rows.DeliverRow.{DeliverRow}
use Rattle.lan_buffers.specs.Port.{PortValue, now}
use Rattle.std.proofs.Common.{drop}
use Rattle.lan_buffers.proofs.port.PlainPort.deliveries_now.Goals as goal

pub returns-clause-named : goal.returns-clause-named
returns-clause-named c =
    let same : filter (λ (row : DeliverRow). row.session == length c.self.inside.drop_counts.items) c.self.inside.deliveries.items ≡ c.rows_from.result.now =
    c.self.invariant.kept.rows_at.present ∙ sym (ap (λ (l : List DeliverRow). drop c.self.inside.deliveries_from l) c.deref.ensures.value) ∙ sym c.rows_from.ensures in
    subst (λ (v : PortValue). All (λ (row : DeliverRow). row.post < length (now v).posts) c.rows_from.result.now) c.self.view_is
    (subst (λ (l : List DeliverRow). All (λ (row : DeliverRow). row.post < length (filter (λ (post : PostRow). post.session == length c.self.inside.drop_counts.items) c.self.inside.posts.items)) l) same
    (c.self.invariant.kept.sessions (length c.self.inside.drop_counts.items)).named)
