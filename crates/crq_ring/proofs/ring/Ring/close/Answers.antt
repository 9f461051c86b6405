use Rattle.std.proofs.Common.{◌≡◌, ℕ, ◌<◌, ◌≤◌, Bool, List, length, sym, ap, ◌∙◌, subst, arith}
use mathlib.Core.Option.{some}
use Rattle.vio_num.specs.Queue.{Handed}
use Rattle.crq_ring.specs.declared.rows.PipeRow.{PipeRow}
use Rattle.crq_ring.specs.declared.view.Role.TheVariants.{Sender}
use Rattle.crq_ring.specs.Control.{IsEnded}
use Rattle.crq_ring.specs.Kept.{Present, HandsOver, KeepsDrops}
use Rattle.crq_ring.specs.RingSteps.{Seated}
use Rattle.crq_ring.specs.Sessions.{of_session}
use Rattle.crq_ring.proofs.RingActs.{some_words, slots_is}
use Rattle.crq_ring.proofs.RingRows.{hands_over, handed_at, drops_later}
use Rattle.crq_ring.proofs.RingSeats.{rejoins, last_says}
use Rattle.crq_ring.proofs.Sessions.{Present-later}
use Rattle.crq_ring.proofs.ring.Ring.close.Goals as goal
use Rattle.crq_ring.proofs.ring.Ring.close.Goals.{then-entered-session, else-entered-session}

pub join_seat-requires : goal.join_seat-requires
join_seat-requires c =
    let ring = c.self.inside in
    let id = sym (ap (λ v. v.id) c.self.view_is) in (
      ap (λ v. v.ring) c.send.view_is ∙ c.requires.ours.0 ∙ id,
      ap (λ v. v.ring) c.recv.view_is ∙ c.requires.ours.1 ∙ id,
      c.recv.invariant.ours.carries_none,
      some_words _ _ c.self.invariant.words,
      rejoins ring.table.shared.key.slots c.send.inside.seat.id c.send.inside.seat.me.0 c.recv.inside.seat.id c.recv.inside.seat.me.0 c.send.invariant.ours.role_is c.recv.invariant.ours.role_is,
    )

pub free-requires : goal.free-requires
free-requires c = λ k l. let none : k < 0 = subst (λ (z : ℕ). k < z) (c.close_with.ensures.counts.1 ∙ c.self.invariant.no_homes) l in absurd (omega arith)

pub invariant_of-result : goal.invariant_of-result
invariant_of-result c =
    let ring = c.self.inside in
    let send = c.send.inside in
    let recv = c.recv.inside in
    let last = c.close_with.ensures.values.2 in
    let says = last_says ring.table.shared.key.slots _ send.seat.me.0 recv.seat.me.0 last.0 last.1.0 (last.1.1 ∙ ap (λ (m : Seated). some m.0) c.join_seat.ensures.2) in
    let end = c.send.invariant.ours in
    let took = c.recv.invariant.ours in
    let table : send.seat.table_id ≡ ring.table.shared.table_id = ap (λ v. v.ring) c.send.view_is ∙ c.requires.ours.0 ∙ sym (ap (λ v. v.id) c.self.view_is) in
    let slots = slots_is Sender send.seat send.next send.session send.sent_from send.sent.items ring.slots end (ap (λ z. z.words) table ∙ c.self.invariant.words) in
    let entered : send.session ≤ recv.session = omega (arith, end.session_is, took.session_is, says.entered) in
    record {
      sized = (c.self.invariant.some_slots, c.self.invariant.few_slots);
      counted = c.recv.invariant.counted;
      hands_over = subst (λ (z : List PipeRow × List PipeRow × ℕ). HandsOver z.0 z.1 z.2) (λ i. (sym end.rows_are i, sym took.rows_are i, c.self.invariant.key i))
          (hands_over ring.table.shared.key.slots send.seat.me.0 recv.seat.me.0 says);
      sending = elim c.if-entered-session.branch [
        | then-entered-session w ↦ subst (λ (z : ℕ × ℕ). Present z.0 z.1 send.sent.items) (λ i. (w.if-entered-session.true i, sym w.sent_from-is i)) end.present
        | else-entered-session w ↦ let long : length send.sent.items ≡ c.if-entered-session.sent_from = omega (arith, w.len-sent_from.ensures, w.sent_from-is) in
            subst (λ k. Present recv.session k send.sent.items) long (Present-later send.session recv.session send.sent_from send.sent.items (omega (arith, entered, w.if-entered-session.false)) end.present)
      ];
      taking = took.present;
      dropping = subst (λ n. KeepsDrops send.sent.items send.drops.items recv.session n) slots (drops_later send.sent.items send.drops.items send.session recv.session send.seat.me.0.slots entered c.send.invariant.dropping);
    }

pub returns : goal.returns
returns c =
    let ring = c.self.inside in
    let send = c.send.inside in
    let recv = c.recv.inside in
    let last = c.close_with.ensures.values.2 in
    let says = last_says ring.table.shared.key.slots _ send.seat.me.0 recv.seat.me.0 last.0 last.1.0 (last.1.1 ∙ ap (λ (m : Seated). some m.0) c.join_seat.ensures.2) in
    let end = c.send.invariant.ours in
    let took = c.recv.invariant.ours in
    let sent : send.seat.me.0.own ≡ c.args.send.sent = sym end.rows_are ∙ ap (λ v. v.sent) c.send.view_is in
    let taken : recv.seat.me.0.own ≡ c.args.recv.taken = sym took.rows_are ∙ ap (λ v. v.taken) c.recv.view_is in
    record {
      slots = ap (λ v. v.slots) c.self.view_is;
      session = ap (λ v. v.session) c.recv.view_is;
      sent = ap (λ v. v.sent) c.send.view_is;
      taken = ap (λ v. v.taken) c.recv.view_is;
      drops = ap (λ v. v.drops) c.send.view_is;
      counts = λ i. record { full = (c.send.view_is i).full; empty = (c.recv.view_is i).empty };
      room = λ i. record { puts = (c.send.view_is i).spare; polls = (c.recv.view_is i).spare; renewals = (c.recv.view_is i).renewals };
      handed = λ q. subst (λ (z : List PipeRow × List PipeRow × ℕ). Handed (of_session q z.0) (of_session q z.1) z.2) (λ i. (sent i, taken i, (c.self.invariant.key ∙ ap (λ v. v.slots) c.self.view_is) i))
          (handed_at ring.table.shared.key.slots send.seat.me.0 recv.seat.me.0 says q);
      ended = λ q over. ap (of_session q) (sym sent)
          ∙ (sym (says.ended q (subst (λ (z : ℕ × Bool). IsEnded z.0 z.1 q) (λ i. ((sym (ap (λ v. v.session) c.recv.view_is) ∙ took.session_is) i, (sym (ap (λ v. v.is_open) c.recv.view_is) ∙ c.recv.invariant.session.open_is) i)) over))
          ∙ ap (λ v. of_session q v.heard) c.recv.view_is);
    }
