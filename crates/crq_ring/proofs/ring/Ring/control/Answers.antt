use Rattle.std.proofs.Common.{◌≡◌, ◌+◌, ◌*◌, ap, sym, ◌∙◌}
use Rattle.crq_ring.specs.declared.view.Role.TheVariants.{Sender}
use Rattle.crq_ring.proofs.ControlActs.{sits_at, control_inside, shows_control}
use Rattle.crq_ring.proofs.ring.Ring.control.Goals as goal

pub load-requires : goal.load-requires
load-requires c =
    let ring = c.self.inside in
    let send = c.send.inside in
    let table : send.seat.table_id ≡ ring.table.shared.table_id = ap (λ v. v.ring) c.send.view_is ∙ c.requires.ours ∙ sym (ap (λ v. v.id) c.self.view_is) in
    let words = ap (λ z. z.words) table ∙ c.self.invariant.words in
    let at = c.control_at.ensures ∙ ap (λ v. 2 * v.slots + 8) (sym c.self.view_is) in (
      table,
      control_inside ring.slots _ _ at c.self.invariant.words,
      shows_control ring.table.shared.key.slots ring.slots _ _ _ send.seat.me c.self.invariant.key at (sits_at Sender send.seat send.next send.session send.sent_from send.sent.items ring.slots c.send.invariant.ours words),
    )
