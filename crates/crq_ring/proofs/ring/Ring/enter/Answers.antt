use Rattle.std.proofs.Common.{◌≡◌, ◌+◌, ◌*◌, ◌/◌, ◌<◌, ◌≤◌, ℕ, length, ap, sym, ◌∙◌, subst, arith}
use Rattle.crq_ring.specs.declared.view.Role.TheVariants.{Sender}
use Rattle.crq_ring.specs.EndsKept.{IsEnd}
use Rattle.crq_ring.specs.Kept.{KeepsDrops}
use Rattle.crq_ring.specs.RingSteps.{Seated}
use Rattle.crq_ring.proofs.ControlActs.{sits_at, control_inside, shows_control, enters_control}
use Rattle.crq_ring.proofs.RingActs.{later_end}
use Rattle.crq_ring.proofs.RingRows.{drops_later}
use Rattle.crq_ring.proofs.ring.Ring.enter.Goals as goal

pub load-control-requires : goal.load-control-requires
load-control-requires c =
    let ring = c.self.inside in
    let send = c.send.inside in
    let table : send.seat.table_id ≡ ring.table.shared.table_id = ap (λ v. v.ring) c.send.view_is ∙ c.requires.ours ∙ sym (ap (λ v. v.id) c.self.view_is) in
    let words = ap (λ z. z.words) table ∙ c.self.invariant.words in
    let at = c.control_at-at.ensures ∙ ap (λ v. 2 * v.slots + 8) (sym c.self.view_is) in (
      table,
      control_inside ring.slots _ _ at c.self.invariant.words,
      shows_control ring.table.shared.key.slots ring.slots _ _ _ send.seat.me c.self.invariant.key at (sits_at Sender send.seat send.next send.session send.sent_from send.sent.items ring.slots c.send.invariant.ours words),
    )

pub compare_exchange-found-requires : goal.compare_exchange-found-requires
compare_exchange-found-requires c =
    let ring = c.self.inside in
    let send = c.send.inside in
    let me1 : Seated = c.load-control.new.seat.me in
    let told = c.load-control.ensures.2 in
    let table : send.seat.table_id ≡ ring.table.shared.table_id = ap (λ v. v.ring) c.send.view_is ∙ c.requires.ours ∙ sym (ap (λ v. v.id) c.self.view_is) in
    let words = ap (λ z. z.words) table ∙ c.self.invariant.words in
    let at = c.control_at-at.ensures ∙ ap (λ v. 2 * v.slots + 8) (sym c.self.view_is) in
    let sits = sits_at Sender send.seat send.next send.session send.sent_from send.sent.items ring.slots c.send.invariant.ours words in
    let off = ap (λ v. v.inside) c.send.view_is ∙ c.requires.outside in
    let low = told.outside off in (
      c.load-control.ensures.0 ∙ table,
      control_inside ring.slots _ _ at c.self.invariant.words,
      enters_control ring.table.shared.key.slots ring.slots _ _ _ me1 c.self.invariant.key at c.load-control.result
          record { role_is = told.only.keeps.role ∙ sits.role_is; slots = told.only.keeps.slots ∙ sits.slots }
          (told.only.keeps.inside ∙ off)
          record { open_bits = omega (arith, low, c.if-control-eq0.false); shown = told.shown; least = subst (λ z. z ≤ c.load-control.result / 8) (sym told.only.keeps.session) told.least },
    )

pub invariant_of-send-then-session-send : goal.invariant_of-send-then-session-send
invariant_of-send-then-session-send c =
    let ring = c.self.inside in
    let send = c.send.inside in
    let me : Seated = send.seat.me in
    let me2 : Seated = c.compare_exchange-found.new.seat.me in
    let shown = c.load-control.ensures.2 in
    let went = c.compare_exchange-found.ensures.2.hit c.if-found-control.false in
    let table : send.seat.table_id ≡ ring.table.shared.table_id = ap (λ v. v.ring) c.send.view_is ∙ c.requires.ours ∙ sym (ap (λ v. v.id) c.self.view_is) in
    let words = ap (λ z. z.words) table ∙ c.self.invariant.words in
    let end = c.send.invariant.ours in
    let q : ℕ = c.load-control.result / 8 in
    let is : q ≡ me2.0.session = sym (went.session ∙ ap (λ z. z / 8) c.if-found-control.false) in
    let same_place : me2.0.slots ≡ me.0.slots = went.slots ∙ shown.only.keeps.slots in
    let least : me.0.session ≤ q = shown.least in
    let later : send.session < q = omega (arith, end.session_is, least, c.if-session-send.true) in
    let long : length send.sent.items ≡ c.len-send-inside.result = omega (arith, c.len-send-inside.ensures) in
    record {
      ours = subst (λ k. IsEnd Sender c.compare_exchange-found.new.seat 0 q k send.sent.items) long
          (later_end Sender send.seat send.next send.session send.sent_from send.sent.items ring.slots end words c.compare_exchange-found.new.seat q
          (c.compare_exchange-found.ensures.0 ∙ c.load-control.ensures.0) (went.role ∙ shown.only.keeps.role) same_place (went.carried ∙ shown.only.keeps.carried) (went.own ∙ shown.only.own) is later);
      dropping = subst (λ n. KeepsDrops send.sent.items send.drops.items q n) (sym same_place)
          (drops_later send.sent.items send.drops.items send.session q me.0.slots (omega (arith, later)) c.send.invariant.dropping);
    }
