use Rattle.std.proofs.Common.{◌≡◌, ◌-◌, ◌<◌, ℕ, [], ◌∷◌, ◌++◌, length, sym, refl, ◌∙◌, ap, subst, arith}
use Rattle.vio_num.specs.Counts.{Rose}
use Rattle.crq_ring.specs.declared.view.Role.TheVariants.{Receiver}
use Rattle.crq_ring.specs.RingSteps.{Seated, own_now, other_now}
use Rattle.crq_ring.specs.Window.{entry_of}
use Rattle.crq_ring.proofs.RingActs.{Stands, look_next, read_next, clear_next, slot_inside, stands_opened, stays_opened, longer_end, held_after, own_stays}
use Rattle.crq_ring.proofs.RingAllows.{Opened}
use Rattle.crq_ring.proofs.RingPasses.{poll_steps}
use Rattle.crq_ring.proofs.RingRows.{number_now}
use Rattle.crq_ring.proofs.RingValues.{RecvShows, found_none, taken_next, keeps_receiving}
use Rattle.crq_ring.proofs.ring.Ring.poll.Goals as goal

pub load-high-requires : goal.load-high-requires
load-high-requires c =
    let ring = c.self.inside in
    let recv = c.recv.inside in
    let end = c.recv.invariant.ours in
    let table : recv.seat.table_id ≡ ring.table.shared.table_id = ap (λ v. v.ring) c.recv.view_is ∙ c.requires.ours ∙ sym (ap (λ v. v.id) c.self.view_is) in
    let words = ap (λ z. z.words) table ∙ c.self.invariant.words in
    let key = ring.table.shared.key.slots in
    let opened = sym c.recv.invariant.session.open_is ∙ (ap (λ v. v.is_open) c.recv.view_is ∙ c.requires.is_open) in (
      table,
      (slot_inside Receiver recv.seat recv.next recv.session recv.taken_from recv.taken.items ring.slots end words _ c.self.invariant.words).0,
      look_next key ring.slots recv.next _ _ recv.seat.me (stands_opened recv.seat recv.next recv.session recv.taken_from recv.taken.items ring.slots key end words c.self.invariant.key opened),
    )

pub returns-then-high-lt-FIRST_BYTE-clause-empty : goal.returns-then-high-lt-FIRST_BYTE-clause-empty
returns-then-high-lt-FIRST_BYTE-clause-empty c =
    let recv = c.recv.inside in
    let end = c.recv.invariant.ours in
    let me : Seated = recv.seat.me in
    let me1 : Seated = c.load-high.new.seat.me in
    let told = c.load-high.ensures.2 in
    let k : ℕ = c.len.result - recv.taken_from in
    let number = number_now Receiver recv.seat recv.next recv.session recv.taken_from recv.taken.items end k (omega (arith, c.len.ensures)) in
    let was : RecvShows c.args.recv.now me = subst (λ v. RecvShows v me) c.recv.view_is
    record { session = end.session_is; is_open = c.recv.invariant.session.open_is; taken = end.rows_are; heard = refl; last = refl } in
    let is : RecvShows _ me1 = record {
      session = end.session_is ∙ sym told.keeps.session;
      is_open = c.recv.invariant.session.open_is ∙ sym told.keeps.is_open;
      taken = end.rows_are ∙ sym told.own;
      heard = refl;
      last = refl;
    } in
    found_none c.args.recv.now _ me me1 was is k c.load-high.result told c.if-high-lt-FIRST_BYTE.true number (ap (λ v. v.taken) c.recv.view_is)
    (subst (λ v. Rose v.empty c.saturating_add-recv-inside.result) c.recv.view_is (omega (arith, c.saturating_add-recv-inside.ensures)))

pub load-low-requires : goal.load-low-requires
load-low-requires c =
    let ring = c.self.inside in
    let recv = c.recv.inside in
    let end = c.recv.invariant.ours in
    let me : Seated = recv.seat.me in
    let me1 : Seated = c.load-high.new.seat.me in
    let told = c.load-high.ensures.2 in
    let table : recv.seat.table_id ≡ ring.table.shared.table_id = ap (λ v. v.ring) c.recv.view_is ∙ c.requires.ours ∙ sym (ap (λ v. v.id) c.self.view_is) in
    let words = ap (λ z. z.words) table ∙ c.self.invariant.words in
    let key = ring.table.shared.key.slots in
    let opened = sym c.recv.invariant.session.open_is ∙ (ap (λ v. v.is_open) c.recv.view_is ∙ c.requires.is_open) in
    let st = stands_opened recv.seat recv.next recv.session recv.taken_from recv.taken.items ring.slots key end words c.self.invariant.key opened in (
      c.load-high.ensures.0 ∙ table,
      (slot_inside Receiver recv.seat recv.next recv.session recv.taken_from recv.taken.items ring.slots end words _ c.self.invariant.words).1,
      read_next key ring.slots recv.next _ _ me1 (stays_opened key ring.slots recv.next me me1 st told.keeps told.own)
          (held_after me me1 (own_stays me me1 told.keeps.session told.own) (told.full c.if-high-lt-FIRST_BYTE.false)),
    )

pub store-requires : goal.store-requires
store-requires c =
    let ring = c.self.inside in
    let recv = c.recv.inside in
    let end = c.recv.invariant.ours in
    let me : Seated = recv.seat.me in
    let me1 : Seated = c.load-high.new.seat.me in
    let told = c.load-high.ensures.2 in
    let same = sym c.load-low.ensures.2.same in
    let table : recv.seat.table_id ≡ ring.table.shared.table_id = ap (λ v. v.ring) c.recv.view_is ∙ c.requires.ours ∙ sym (ap (λ v. v.id) c.self.view_is) in
    let words = ap (λ z. z.words) table ∙ c.self.invariant.words in
    let key = ring.table.shared.key.slots in
    let opened = sym c.recv.invariant.session.open_is ∙ (ap (λ v. v.is_open) c.recv.view_is ∙ c.requires.is_open) in
    let st = stays_opened key ring.slots recv.next me me1
    (stands_opened recv.seat recv.next recv.session recv.taken_from recv.taken.items ring.slots key end words c.self.invariant.key opened) told.keeps told.own in (
      c.load-low.ensures.0 ∙ (c.load-high.ensures.0 ∙ table),
      (slot_inside Receiver recv.seat recv.next recv.session recv.taken_from recv.taken.items ring.slots end words _ c.self.invariant.words).0,
      clear_next key ring.slots recv.next _ _ c.load-low.new.seat.me (subst (Stands Opened key ring.slots recv.next) same st)
          (subst (λ (m : Seated). length (own_now m) < length (other_now m)) same (held_after me me1 (own_stays me me1 told.keeps.session told.own) (told.full c.if-high-lt-FIRST_BYTE.false))),
    )

pub invariant_of-recv-2 : goal.invariant_of-recv-2
invariant_of-recv-2 c =
    let ring = c.self.inside in
    let recv = c.recv.inside in
    let end = c.recv.invariant.ours in
    let table : recv.seat.table_id ≡ ring.table.shared.table_id = ap (λ v. v.ring) c.recv.view_is ∙ c.requires.ours ∙ sym (ap (λ v. v.id) c.self.view_is) in
    let words = ap (λ z. z.words) table ∙ c.self.invariant.words in
    let done = poll_steps recv.seat.me c.load-high.new.seat.me c.load-low.new.seat.me c.store.new.seat.me c.load-high.result c.load-low.result c.if-high-lt-FIRST_BYTE.false c.load-high.ensures.2 c.load-low.ensures.2 c.store.ensures.2 in
    record {
      ours = longer_end Receiver recv.seat recv.next recv.session recv.taken_from recv.taken.items ring.slots end words c.store.new.seat _ _ _ (c.store.ensures.0 ∙ (c.load-low.ensures.0 ∙ c.load-high.ensures.0))
          done.keeps done.own c.push_reserved.ensures.items c.slot_after-recv-inside.ensures;
      session = record {
        open_is = c.recv.invariant.session.open_is ∙ sym done.keeps.is_open;
        zeroed = λ shut. done.keeps.swept ∙ (c.recv.invariant.session.zeroed shut ∙ sym done.keeps.slots);
        begun = c.recv.invariant.session.begun;
      };
      counted = c.recv.invariant.counted;
    }

pub returns-clause-got : goal.returns-clause-got
returns-clause-got c =
    let recv = c.recv.inside in
    let end = c.recv.invariant.ours in
    let me : Seated = recv.seat.me in
    let me3 : Seated = c.store.new.seat.me in
    let k : ℕ = c.len.result - recv.taken_from in
    let number = number_now Receiver recv.seat recv.next recv.session recv.taken_from recv.taken.items end k (omega (arith, c.len.ensures)) in
    let done = poll_steps me c.load-high.new.seat.me c.load-low.new.seat.me me3 c.load-high.result c.load-low.result c.if-high-lt-FIRST_BYTE.false c.load-high.ensures.2 c.load-low.ensures.2 c.store.ensures.2 in
    let was : RecvShows c.args.recv.now me = subst (λ v. RecvShows v me) c.recv.view_is
    record { session = end.session_is; is_open = c.recv.invariant.session.open_is; taken = end.rows_are; heard = refl; last = refl } in
    let is : RecvShows _ me3 = record {
      session = end.session_is ∙ sym done.keeps.session;
      is_open = c.recv.invariant.session.open_is ∙ sym done.keeps.is_open;
      taken = c.push_reserved.ensures.items ∙ ((λ i. end.rows_are i ++ record { session = end.session_is i; entry = entry_of c.load-high.result c.load-low.result } ∷ []) ∙ sym done.own);
      heard = refl;
      last = refl;
    } in
    taken_next c.args.recv.now _ me me3 was is k _ done number (ap (λ v. v.empty) c.recv.view_is)

pub returns-clause-rest : goal.returns-clause-rest
returns-clause-rest c =
    let recv = c.recv.inside in
    let end = c.recv.invariant.ours in
    let me : Seated = recv.seat.me in
    let me3 : Seated = c.store.new.seat.me in
    let done = poll_steps me c.load-high.new.seat.me c.load-low.new.seat.me me3 c.load-high.result c.load-low.result c.if-high-lt-FIRST_BYTE.false c.load-high.ensures.2 c.load-low.ensures.2 c.store.ensures.2 in
    let was : RecvShows c.args.recv.now me = subst (λ v. RecvShows v me) c.recv.view_is
    record { session = end.session_is; is_open = c.recv.invariant.session.open_is; taken = end.rows_are; heard = refl; last = refl } in
    let is : RecvShows _ me3 = record {
      session = end.session_is ∙ sym done.keeps.session;
      is_open = c.recv.invariant.session.open_is ∙ sym done.keeps.is_open;
      taken = c.push_reserved.ensures.items ∙ ((λ i. end.rows_are i ++ record { session = end.session_is i; entry = entry_of c.load-high.result c.load-low.result } ∷ []) ∙ sym done.own);
      heard = refl;
      last = refl;
    } in
    keeps_receiving c.args.recv.now _ me me3 was is (c.store.ensures.0 ∙ (c.load-low.ensures.0 ∙ (c.load-high.ensures.0 ∙ ap (λ v. v.ring) c.recv.view_is)))
    (let same = ap (λ v. v.empty) c.recv.view_is in omega (arith, same)) (ap (λ v. v.renewals) c.recv.view_is) done.keeps done.other done.front done.ended
