-- What callers of this crate's types use.
use Rattle.std.proofs.Common.{◌≡◌, ℕ, ◌+◌, ◌*◌, ◌<◌, ◌≤◌, true, false, length, drop, slice_index, sym, ◌∙◌, ap, subst, arith, le_refl}
use mathlib.Core.Option.{some}
use lib.ListN.{get_elem?}
use Rattle.atomic_table.specs.Seated.{TableId}
use Rattle.vio_num.specs.Queue.{Handed}
use Rattle.crq_ring.specs.declared.view.RingView.{RingView}
use Rattle.crq_ring.specs.declared.view.Role.TheVariants.{Sender, Receiver}
use Rattle.crq_ring.specs.declared.shared.SharedPipe.{SharedPipe}
use Rattle.crq_ring.specs.Control.{IsEnded}
use Rattle.crq_ring.specs.Port.{PortPlace}
use Rattle.crq_ring.specs.RingRule.{SenderKnows, ReceiverKnows, InOrder}
use Rattle.crq_ring.specs.Sessions.{of_session}
use Rattle.crq_ring.specs.SharedPipe.{place_of}
use Rattle.crq_ring.specs.Window.{high_at, Window}
use Rattle.crq_ring.proofs.ControlWords.{none_inside}
use Rattle.crq_ring.proofs.Fronts.{begins_less, begins_of}
use Rattle.crq_ring.proofs.RingAllows.{knows_as}
use Rattle.crq_ring.proofs.RingKeeps.{Table}
use Rattle.crq_ring.proofs.RingRows.{Handed-lists}

-- the queue law holds of what was put and taken in each session at every moment
pub queue_law : (n : ℕ) (s : Table) (r : InOrder n s) (q : ℕ) → Handed (of_session q r.now.sent) (of_session q r.now.taken) n
queue_law n s r q = Handed-lists (of_session q r.now.sent) (of_session q r.now.taken) n (r.words_show.handed q) (r.words_show.room q)

module _ (n : ℕ) (s : Table) (r : InOrder n s) (id : ℕ) (v : RingView) (at : get_elem? s.views id ≡ some v) where
  -- a sender that is inside and knows of room finds its next slot empty at every moment, as between its probe
  -- and its store
  pub next_is_empty : v.role ≡ Sender → v.inside ≡ true → length (of_session v.session v.own) < length (of_session v.session v.other) + n
      → slice_index s.words (high_at n (length (of_session v.session v.own))) ≡ 0
  next_is_empty is inside room =
      let k : SenderKnows n r.now s.words id v = knows_as n s r id v at Sender is in
      let on = sym k.inside ∙ inside in
      let win : Window n s.words (of_session r.now.session r.now.sent) (of_session r.now.session r.now.taken) = r.words_show.slots (r.words_show.within on) in
      let same : of_session v.session v.own ≡ of_session r.now.session r.now.sent = (λ i. of_session (k.present on i) (k.own i)) in
      let long : length (of_session v.session v.own) ≡ length (of_session r.now.session r.now.sent) = ap length same in
      let known : length (of_session v.session v.other) ≤ length (of_session r.now.session r.now.taken) =
      subst (λ q. length (of_session v.session v.other) ≤ length (of_session q r.now.taken)) (k.present on)
      (begins_less (of_session v.session v.other) (of_session v.session r.now.taken) (begins_of v.session v.other r.now.taken k.other)) in
      subst (λ (m : ℕ). slice_index s.words (high_at n m) ≡ 0) (sym long) (win.vacant (length (of_session r.now.session r.now.sent)) (le_refl _) (omega arith))

  -- while the receiver's queue is closed no sender is inside
  pub no_sender_inside : v.role ≡ Receiver → v.is_open ≡ false → (j : ℕ) (w : RingView) → get_elem? s.views j ≡ some w → w.role ≡ Sender → w.inside ≡ false
  no_sender_inside is shut j w there is_sender =
      let k : ReceiverKnows n r.now s.words id v = knows_as n s r id v at Receiver is in
      let f : SenderKnows n r.now s.words j w = knows_as n s r j w there Sender is_sender in
      f.inside ∙ none_inside r.now.is_open r.now.inside (sym k.is_open ∙ shut) r.words_show.within

  -- and each slot that it zeroed stays so
  pub closed_is_empty : v.role ≡ Receiver → v.is_open ≡ false → (k : ℕ) → k < v.swept → k < n → slice_index s.words (2 * k) ≡ 0
  closed_is_empty is shut k below inside =
      let f : ReceiverKnows n r.now s.words id v = knows_as n s r id v at Receiver is in
      r.words_show.zeros (sym f.is_open ∙ shut) k (subst (λ z. k < z) f.swept below) inside

  -- of a session that has ended the receiver knows all that was ever put in it
  pub ended_is_known : v.role ≡ Receiver → (q : ℕ) → IsEnded v.session v.is_open q → of_session q r.now.sent ≡ of_session q v.other
  ended_is_known is q over =
      let k : ReceiverKnows n r.now s.words id v = knows_as n s r id v at Receiver is in
      sym (k.ended q over)

-- the ring of a shared pipe in this place
abbrev pub ring_at : PortPlace → TableId
ring_at place = record {
  words = slice_index place.lenders 2;
  slots = slice_index place.lenders 3;
  views_name = slice_index place.lenders 4;
  atom = slice_index place.lenders 5;
  block = slice_index place.lenders 6;
  offset = slice_index place.lenders 7;
  slot_names = drop 8 place.lenders;
}

-- calls that keep a shared pipe's place leave its ends with their ring
pub sender_stays : (pipe : SharedPipe) (place : PortPlace) → place_of pipe ≡ place → pipe.send.now.ring ≡ ring_at place
sender_stays pipe place e = pipe.sends ∙ ap ring_at e

pub receiver_stays : (pipe : SharedPipe) (place : PortPlace) → place_of pipe ≡ place → pipe.recv.now.ring ≡ ring_at place
receiver_stays pipe place e = pipe.receives ∙ ap ring_at e
