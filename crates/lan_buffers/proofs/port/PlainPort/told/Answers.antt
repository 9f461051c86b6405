use Rattle.std.proofs.Common.{◌≡◌, ◌<◌, List, length, slice_get, Some, sym, ◌∙◌, ap, subst}
use Rattle.lan_buffers.specs.declared.rows.PostRow.{PostRow}
use Rattle.lan_buffers.specs.declared.rows.DeliverRow.{DeliverRow}
use Rattle.lan_buffers.specs.Port.{now}
use Rattle.lan_buffers.specs.Port.{correlator_of}
use Rattle.lan_buffers.proofs.Lawful.{shown_has}
use Rattle.lan_buffers.proofs.port.PlainPort.told.Goals as goal

pub of-requires : goal.of-requires
of-requires c = subst (λ (l : List PostRow). c.in-Some.row.now.post < length l) (sym c.posts_now.ensures)
    (shown_has (λ (row : DeliverRow). row.post < length (now c.args.self.now).posts) c.deliveries_now.result.now c.args.number c.in-Some.row.now c.deliveries_now.ensures.named c.in-Some.ensures.found)

pub returns-in-Some-clause-found : goal.returns-in-Some-clause-found
returns-in-Some-clause-found c = record {
  row = c.in-Some.row.now;
  made = subst (λ (l : List DeliverRow). slice_get l c.args.number ≡ Some c.in-Some.row.now) c.deliveries_now.ensures.rows c.in-Some.ensures.found;
  blank_is = c.of.ensures.blank;
  len_is = c.of.ensures.len;
  correlator_is = c.of.ensures.correlator ∙ ap (λ (l : List PostRow). correlator_of (slice_get l c.in-Some.row.now.post)) c.posts_now.ensures;
}
