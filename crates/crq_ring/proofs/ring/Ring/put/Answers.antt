use Rattle.std.proofs.Common.{◌^◌, ◌-◌, ◌<◌, ◌≤◌, AllPairs, ◌≡◌, ℕ, List, [], ◌∷◌, ◌++◌, length, sym, refl, ◌∙◌, ap, subst, arith}
use Rattle.vio_num.specs.Counts.{Rose}
use Rattle.crq_ring.specs.declared.rows.PipeRow.{PipeRow}
use Rattle.crq_ring.specs.declared.rows.DropRow.{DropRow}
use Rattle.crq_ring.specs.declared.view.Role.TheVariants.{Sender}
use Rattle.crq_ring.specs.Kept.{KeepsDrops}
use Rattle.crq_ring.specs.RingSteps.{Seated, own_now, other_now}
use Rattle.crq_ring.specs.Sessions.{recorded, Precedes}
use Rattle.crq_ring.proofs.Dropping.{Drops-put}
use Rattle.crq_ring.proofs.RingActs.{probe_next, stage_next, send_next, slot_inside, slots_is, stands_inside, stays_inside, same_end, longer_end, vacant_after, vacant_still, alike, own_stays, other_stays}
use Rattle.crq_ring.proofs.RingPasses.{put_steps}
use Rattle.crq_ring.proofs.RingRows.{now_is, number_now, drops_recorded, lapped}
use Rattle.crq_ring.proofs.RingValues.{SendShows, found_full, put_done, keeps_sending}
use Rattle.crq_ring.proofs.ring.Ring.put.Goals as goal

pub load-held-requires : goal.load-held-requires
load-held-requires c =
    let ring = c.self.inside in
    let send = c.send.inside in
    let table : send.seat.table_id ≡ ring.table.shared.table_id = ap (λ v. v.ring) c.send.view_is ∙ c.requires.ours ∙ sym (ap (λ v. v.id) c.self.view_is) in
    let words = ap (λ z. z.words) table ∙ c.self.invariant.words in
    let end = c.send.invariant.ours in (
      table,
      (slot_inside Sender send.seat send.next send.session send.sent_from send.sent.items ring.slots end words _ c.self.invariant.words).0,
      probe_next ring.table.shared.key.slots ring.slots send.next _ _ send.seat.me
          (stands_inside send.seat send.next send.session send.sent_from send.sent.items ring.slots ring.table.shared.key.slots end words c.self.invariant.key (ap (λ v. v.inside) c.send.view_is ∙ c.requires.inside)),
    )

pub invariant_of-send : goal.invariant_of-send
invariant_of-send c =
    let ring = c.self.inside in
    let send = c.send.inside in
    let me : Seated = send.seat.me in
    let told = c.load-held.ensures.2 in
    let end = c.send.invariant.ours in
    let full = c.if-held-ge-FIRST_BYTE.true in
    let k : ℕ = c.len.result - send.sent_from in
    let number = number_now Sender send.seat send.next send.session send.sent_from send.sent.items end k (omega (arith, c.len.ensures)) in
    let lawful = lapped (own_now me) me.0.slots (length (other_now c.load-held.new.seat.me)) k c.load-held.result end.some_slots number (told.full full) (told.held full) in
    let table : send.seat.table_id ≡ ring.table.shared.table_id = ap (λ v. v.ring) c.send.view_is ∙ c.requires.ours ∙ sym (ap (λ v. v.id) c.self.view_is) in
    record {
      ours = same_end Sender send.seat send.next send.session send.sent_from send.sent.items ring.slots end (ap (λ z. z.words) table ∙ c.self.invariant.words) c.load-held.new.seat c.load-held.ensures.0
          (alike me c.load-held.new.seat.me told.keeps told.own);
      dropping = subst (λ (z : ℕ × List DropRow). KeepsDrops send.sent.items z.1 send.session z.0) (λ i. (sym told.keeps.slots i, sym c.add_record.ensures.items i))
          (drops_recorded send.sent.items (own_now me) send.drops.items send.session me.0.slots k c.load-held.result (now_is Sender send.seat send.next send.session send.sent_from send.sent.items end) number
          c.send.invariant.dropping lawful (subst (λ ds. AllPairs Precedes ds) c.add_record.ensures.items c.add_record.ensures.in_order));
    }

pub returns-then-held-ge-FIRST_BYTE-clause-dropped : goal.returns-then-held-ge-FIRST_BYTE-clause-dropped
returns-then-held-ge-FIRST_BYTE-clause-dropped c =
    let ring = c.self.inside in
    let send = c.send.inside in
    let me : Seated = send.seat.me in
    let me1 : Seated = c.load-held.new.seat.me in
    let told = c.load-held.ensures.2 in
    let end = c.send.invariant.ours in
    let full = c.if-held-ge-FIRST_BYTE.true in
    let k : ℕ = c.len.result - send.sent_from in
    let number = number_now Sender send.seat send.next send.session send.sent_from send.sent.items end k (omega (arith, c.len.ensures)) in
    let table : send.seat.table_id ≡ ring.table.shared.table_id = ap (λ v. v.ring) c.send.view_is ∙ c.requires.ours ∙ sym (ap (λ v. v.id) c.self.view_is) in
    let slots = slots_is Sender send.seat send.next send.session send.sent_from send.sent.items ring.slots end (ap (λ z. z.words) table ∙ c.self.invariant.words) in
    let was : SendShows c.args.send.now me = subst (λ v. SendShows v me) c.send.view_is record { session = end.session_is; inside = refl; sent = end.rows_are; known = refl; last = refl } in
    let is : SendShows _ me1 = record { session = end.session_is ∙ sym told.keeps.session; inside = refl; sent = end.rows_are ∙ sym told.own; known = refl; last = refl } in
    let shown = ap (λ v. v.slots) c.self.view_is in
    found_full c.args.send.now _ me me1 was is c.args.self.now.slots k c.load-held.result told full (slots ∙ shown) (subst (λ z. 0 < z) shown c.self.invariant.some_slots) number
    (ap (λ v. v.sent) c.send.view_is)
    (subst (λ v. c.add_record.new.drops.items ≡ recorded v.drops (record { session = v.session; number = k; held = c.load-held.result })) c.send.view_is c.add_record.ensures.items)
    (subst (λ v. Rose v.full c.saturating_add-send-inside.result) c.send.view_is (omega (arith, c.saturating_add-send-inside.ensures)))

pub store-requires : goal.store-requires
store-requires c =
    let ring = c.self.inside in
    let send = c.send.inside in
    let me : Seated = send.seat.me in
    let me1 : Seated = c.load-held.new.seat.me in
    let told = c.load-held.ensures.2 in
    let table : send.seat.table_id ≡ ring.table.shared.table_id = ap (λ v. v.ring) c.send.view_is ∙ c.requires.ours ∙ sym (ap (λ v. v.id) c.self.view_is) in
    let words = ap (λ z. z.words) table ∙ c.self.invariant.words in
    let end = c.send.invariant.ours in
    let key = ring.table.shared.key.slots in
    let st = stands_inside send.seat send.next send.session send.sent_from send.sent.items ring.slots key end words c.self.invariant.key (ap (λ v. v.inside) c.send.view_is ∙ c.requires.inside) in (
      c.load-held.ensures.0 ∙ table,
      (slot_inside Sender send.seat send.next send.session send.sent_from send.sent.items ring.slots end words _ c.self.invariant.words).1,
      stage_next key ring.slots send.next _ _ me1 c.args.entry.low (stays_inside key ring.slots send.next me me1 st told.keeps told.own)
          (vacant_after ring.slots me me1 st.sits.slots (own_stays me me1 told.keeps.session told.own) (told.vacant c.if-held-ge-FIRST_BYTE.false)),
    )

pub store-requires-2 : goal.store-requires-2
store-requires-2 c =
    let ring = c.self.inside in
    let send = c.send.inside in
    let me : Seated = send.seat.me in
    let me1 : Seated = c.load-held.new.seat.me in
    let me2 : Seated = c.store.new.seat.me in
    let told = c.load-held.ensures.2 in
    let told2 = c.store.ensures.2 in
    let table : send.seat.table_id ≡ ring.table.shared.table_id = ap (λ v. v.ring) c.send.view_is ∙ c.requires.ours ∙ sym (ap (λ v. v.id) c.self.view_is) in
    let words = ap (λ z. z.words) table ∙ c.self.invariant.words in
    let end = c.send.invariant.ours in
    let key = ring.table.shared.key.slots in
    let st = stands_inside send.seat send.next send.session send.sent_from send.sent.items ring.slots key end words c.self.invariant.key (ap (λ v. v.inside) c.send.view_is ∙ c.requires.inside) in
    let st1 = stays_inside key ring.slots send.next me me1 st told.keeps told.own in
    let used : 2 ^ 63 ≤ c.args.entry.high = c.requires.used in (
      c.store.ensures.0 ∙ (c.load-held.ensures.0 ∙ table),
      (slot_inside Sender send.seat send.next send.session send.sent_from send.sent.items ring.slots end words _ c.self.invariant.words).0,
      send_next key ring.slots send.next _ _ me2 c.args.entry.high (stays_inside key ring.slots send.next me1 me2 st1 told2.keeps told2.own)
          (vacant_still ring.slots me1 me2 (own_stays me1 me2 told2.keeps.session told2.own) (other_stays me1 me2 told2.keeps.session told2.other)
          (vacant_after ring.slots me me1 st.sits.slots (own_stays me me1 told.keeps.session told.own) (told.vacant c.if-held-ge-FIRST_BYTE.false))) (omega arith),
    )

pub invariant_of-send-2 : goal.invariant_of-send-2
invariant_of-send-2 c =
    let ring = c.self.inside in
    let send = c.send.inside in
    let me : Seated = send.seat.me in
    let table : send.seat.table_id ≡ ring.table.shared.table_id = ap (λ v. v.ring) c.send.view_is ∙ c.requires.ours ∙ sym (ap (λ v. v.id) c.self.view_is) in
    let words = ap (λ z. z.words) table ∙ c.self.invariant.words in
    let end = c.send.invariant.ours in
    let done = put_steps ring.slots me c.load-held.new.seat.me c.store.new.seat.me c.store-2.new.seat.me c.load-held.result c.args.entry
    (slots_is Sender send.seat send.next send.session send.sent_from send.sent.items ring.slots end words) c.if-held-ge-FIRST_BYTE.false c.load-held.ensures.2 c.store.ensures.2 c.store-2.ensures.2 in
    let row : PipeRow = record { session = send.session; entry = c.args.entry } in
    record {
      ours = longer_end Sender send.seat send.next send.session send.sent_from send.sent.items ring.slots end words c.store-2.new.seat c.args.entry _ _ (c.store-2.ensures.0 ∙ (c.store.ensures.0 ∙ c.load-held.ensures.0))
          done.keeps done.own c.push_reserved.ensures.items c.slot_after-send-inside.ensures;
      dropping = subst (λ (z : ℕ × List PipeRow). KeepsDrops z.1 send.drops.items send.session z.0) (λ i. (sym done.keeps.slots i, sym c.push_reserved.ensures.items i))
          (Drops-put send.sent.items send.drops.items send.session me.0.slots row c.send.invariant.dropping);
    }

pub returns-clause-done : goal.returns-clause-done
returns-clause-done c =
    let ring = c.self.inside in
    let send = c.send.inside in
    let me : Seated = send.seat.me in
    let me3 : Seated = c.store-2.new.seat.me in
    let table : send.seat.table_id ≡ ring.table.shared.table_id = ap (λ v. v.ring) c.send.view_is ∙ c.requires.ours ∙ sym (ap (λ v. v.id) c.self.view_is) in
    let words = ap (λ z. z.words) table ∙ c.self.invariant.words in
    let end = c.send.invariant.ours in
    let k : ℕ = c.len.result - send.sent_from in
    let number = number_now Sender send.seat send.next send.session send.sent_from send.sent.items end k (omega (arith, c.len.ensures)) in
    let done = put_steps c.args.self.now.slots me c.load-held.new.seat.me c.store.new.seat.me me3 c.load-held.result c.args.entry
    (slots_is Sender send.seat send.next send.session send.sent_from send.sent.items ring.slots end words ∙ ap (λ v. v.slots) c.self.view_is) c.if-held-ge-FIRST_BYTE.false c.load-held.ensures.2 c.store.ensures.2 c.store-2.ensures.2 in
    let was : SendShows c.args.send.now me = subst (λ v. SendShows v me) c.send.view_is record { session = end.session_is; inside = refl; sent = end.rows_are; known = refl; last = refl } in
    let pushed = c.push_reserved.ensures.items ∙ ((λ i. end.rows_are i ++ record { session = end.session_is i; entry = c.args.entry } ∷ []) ∙ sym done.own) in
    let is : SendShows _ me3 = record { session = end.session_is ∙ sym done.keeps.session; inside = refl; sent = pushed; known = refl; last = refl } in
    put_done c.args.send.now _ me me3 was is c.args.self.now.slots k c.args.entry done number (ap (λ v. v.drops) c.send.view_is) (ap (λ v. v.full) c.send.view_is)

pub returns-clause-rest : goal.returns-clause-rest
returns-clause-rest c =
    let ring = c.self.inside in
    let send = c.send.inside in
    let me : Seated = send.seat.me in
    let me3 : Seated = c.store-2.new.seat.me in
    let table : send.seat.table_id ≡ ring.table.shared.table_id = ap (λ v. v.ring) c.send.view_is ∙ c.requires.ours ∙ sym (ap (λ v. v.id) c.self.view_is) in
    let words = ap (λ z. z.words) table ∙ c.self.invariant.words in
    let end = c.send.invariant.ours in
    let done = put_steps ring.slots me c.load-held.new.seat.me c.store.new.seat.me me3 c.load-held.result c.args.entry
    (slots_is Sender send.seat send.next send.session send.sent_from send.sent.items ring.slots end words) c.if-held-ge-FIRST_BYTE.false c.load-held.ensures.2 c.store.ensures.2 c.store-2.ensures.2 in
    let was : SendShows c.args.send.now me = subst (λ v. SendShows v me) c.send.view_is record { session = end.session_is; inside = refl; sent = end.rows_are; known = refl; last = refl } in
    let pushed = c.push_reserved.ensures.items ∙ ((λ i. end.rows_are i ++ record { session = end.session_is i; entry = c.args.entry } ∷ []) ∙ sym done.own) in
    let is : SendShows _ me3 = record { session = end.session_is ∙ sym done.keeps.session; inside = refl; sent = pushed; known = refl; last = refl } in
    keeps_sending c.args.send.now _ me me3 was is ((c.store-2.ensures.0 ∙ (c.store.ensures.0 ∙ c.load-held.ensures.0)) ∙ ap (λ v. v.ring) c.send.view_is)
    (let same = ap (λ v. v.full) c.send.view_is in omega (arith, same)) done.counted done.keeps done.other done.front
