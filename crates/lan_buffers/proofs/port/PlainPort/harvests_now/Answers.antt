use Rattle.std.proofs.Common.{◌≡◌, ◌≤◌, ◌==◌, List, length, filter, sym, ◌∙◌, ap, subst}
use Rattle.lan_buffers.specs.declared.rows.DeliverRow.{DeliverRow}
use Rattle.lan_buffers.specs.declared.rows.HarvestRow.{HarvestRow}
use Rattle.lan_buffers.specs.Port.{PortValue, now}
use Rattle.std.proofs.Common.{drop}
use Rattle.lan_buffers.proofs.Lawful.{reads_within}
use Rattle.lan_buffers.proofs.port.PlainPort.harvests_now.Goals as goal

pub returns-clause-few : goal.returns-clause-few
returns-clause-few c =
    let same : filter (λ (row : HarvestRow). row.session == length c.self.inside.drop_counts.items) c.self.inside.harvests.items ≡ c.rows_from.result.now =
    c.self.invariant.kept.reads_at.present ∙ sym (ap (λ (l : List HarvestRow). drop c.self.inside.harvests_from l) c.deref.ensures.value) ∙ sym c.rows_from.ensures in
    subst (λ (v : PortValue). length c.rows_from.result.now ≤ length (now v).deliveries) c.self.view_is
    (subst (λ (l : List HarvestRow). length l ≤ length (filter (λ (row : DeliverRow). row.session == length c.self.inside.drop_counts.items) c.self.inside.deliveries.items)) same
    (reads_within _ _ (c.self.invariant.kept.sessions (length c.self.inside.drop_counts.items))))
