use Rattle.std.proofs.Common.{◌≡◌, ◌+◌, ◌*◌, ap, sym, ◌∙◌, arith}
use Rattle.crq_ring.specs.declared.view.Role.TheVariants.{Receiver}
use Rattle.crq_ring.proofs.ControlActs.{sits_at, control_inside, begins_control}
use Rattle.crq_ring.proofs.ring.Ring.begin.Goals as goal

pub compare_exchange-requires : goal.compare_exchange-requires
compare_exchange-requires c =
    let ring = c.self.inside in
    let recv = c.recv.inside in
    let end = c.recv.invariant.ours in
    let table : recv.seat.table_id ≡ ring.table.shared.table_id = ap (λ v. v.ring) c.recv.view_is ∙ c.requires.ours ∙ sym (ap (λ v. v.id) c.self.view_is) in
    let words = ap (λ z. z.words) table ∙ c.self.invariant.words in
    let at = c.control_at-at.ensures ∙ ap (λ v. 2 * v.slots + 8) (sym c.self.view_is) in
    let shut = ap (λ v. v.is_open) c.recv.view_is ∙ c.requires.closed in
    let sits = sits_at Receiver recv.seat recv.next recv.session recv.taken_from recv.taken.items ring.slots end words in (
      table,
      control_inside ring.slots _ _ at c.self.invariant.words,
      begins_control ring.table.shared.key.slots ring.slots _ _ _ recv.seat.me c.self.invariant.key at _ _ (omega (arith, end.session_is)) (omega (arith, end.session_is)) sits
          (sym c.recv.invariant.session.open_is ∙ shut) (omega (arith, c.recv.invariant.session.zeroed shut, sits.slots)),
    )
