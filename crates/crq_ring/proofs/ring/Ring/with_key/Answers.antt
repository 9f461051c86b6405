use Rattle.std.proofs.Common.{rules, ◌≡◌, ℕ, ◌≤◌, List, [], sym, ap, ◌∙◌, subst, arith}
use Rattle.atomic_table.specs.Table.{opening}
use Rattle.crq_ring.specs.declared.rows.PipeRow.{PipeRow}
use Rattle.crq_ring.specs.declared.rows.DropRow.{DropRow}
use Rattle.crq_ring.specs.declared.view.RingKey.{RingKey}
use Rattle.crq_ring.specs.declared.view.Role.TheVariants.{Sender, Receiver}
use Rattle.crq_ring.specs.Kept.{KeepsDrops}
use Rattle.crq_ring.specs.RingCuts.{sender_part, receiver_part}
use Rattle.crq_ring.specs.RingSteps.{Seated}
use Rattle.crq_ring.specs.Window.{words_of}
use Rattle.crq_ring.specs.RingRule.{first_session, opened, InOrder}
use Rattle.crq_ring.proofs.Dropping.{Drops-none}
use Rattle.crq_ring.proofs.RingActs.{new_end}
use Rattle.crq_ring.proofs.RingSeats.{first_words, first_few, opens, parts_first}
use Rattle.crq_ring.proofs.ring.Ring.with_key.Goals as goal

pub of_words-requires : goal.of_words-requires
of_words-requires c =
    let n : ℕ = c.args.slots in
    let words : c.as_slice.result.now ≡ first_words n c.args.begun = search rules in
    subst (λ (ws : List ℕ). InOrder n (opening ws [] (opened record { slots = n; begun = c.args.begun }))) (sym words) (opens n (let some : 1 ≤ n = c.requires.0 in omega arith) c.args.begun)

pub split_seat-other-requires : goal.split_seat-other-requires
split_seat-other-requires c = (
  search rules,
  search rules,
  parts_first c.in_ok-table.table.shared.key.slots c.in_ok-table.seat.id (record { slots = c.args.slots; begun = c.args.begun }) c.in_ok-table.seat.me [] (search rules),
)

pub invariant_of-result-2 : goal.invariant_of-result-2
invariant_of-result-2 c =
    let n : ℕ = c.args.slots in
    let key : RingKey = record { slots = n; begun = c.args.begun } in
    let seat = c.split_seat-other.new.seat in
    let me : seat.me ≡ (sender_part (opened key), []) = search rules in
    let words : seat.table_id.words ≡ words_of n = search rules in
    let none : c.new.result.items ≡ [] = search rules in
    let no_drops : c.new-2.result.items ≡ [] = search rules in
    record {
      ours = new_end Sender seat n _ _ (ap (λ (m : Seated). m.0.role) me) (ap (λ (m : Seated). m.0.slots) me) c.requires.0 c.requires.1 words (ap (λ (m : Seated). m.0.own) me)
          (c.session_of-session.ensures ∙ sym (ap (λ (m : Seated). m.0.session) me)) (ap (λ (m : Seated). m.1) me) none;
      dropping = subst (λ (z : List PipeRow × List DropRow). KeepsDrops z.0 z.1 c.session_of-session.result seat.me.0.slots) (λ i. (sym none i, sym no_drops i)) (Drops-none c.session_of-session.result seat.me.0.slots);
    }

pub invariant_of-result-3 : goal.invariant_of-result-3
invariant_of-result-3 c =
    let n : ℕ = c.args.slots in
    let key : RingKey = record { slots = n; begun = c.args.begun } in
    let seat = c.split_seat-other.result in
    let me : seat.me ≡ (receiver_part (opened key), []) = search rules in
    let words : seat.table_id.words ≡ words_of n = search rules in
    let none : c.new-3.result.items ≡ [] = search rules in
    let session = c.session_of-session.ensures in
    record {
      ours = new_end Receiver seat n _ _ (ap (λ (m : Seated). m.0.role) me) (ap (λ (m : Seated). m.0.slots) me) c.requires.0 c.requires.1 words (ap (λ (m : Seated). m.0.own) me)
          (session ∙ sym (ap (λ (m : Seated). m.0.session) me)) (ap (λ (m : Seated). m.1) me) none;
      session = record {
        open_is = sym (ap (λ (m : Seated). m.0.is_open) me);
        zeroed = λ _. ap (λ (m : Seated). m.0.swept) me ∙ sym (ap (λ (m : Seated). m.0.slots) me);
        begun = λ e. subst (λ q. 1 ≤ q) (sym (session ∙ ap first_session e)) (omega arith);
      };
      counted = let few = first_few c.args.begun in omega (arith, session, few);
    }
