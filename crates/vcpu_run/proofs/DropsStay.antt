-- The records of drops stay over the calls of an end, and a put that found its slot full has one.
use Rattle.std.proofs.Common.{◌≡◌, ◌∙◌, ◌⊎◌, inl, inr, ℕ, zero, suc, ◌<◌, ◌==◌, ◌&&◌, Bool, true, false, List, [], ◌∷◌, Contains, get_or, length, refl, sym, ap, subst, arith, eqb-true, if◌then◌else◌}
use Rattle.vio_num.specs.Queue.{LawfulDrop}
use Rattle.vio_num.specs.declared.entry.Entry.{Entry}
use Rattle.crq_ring.specs.Sessions.{of_session, recorded, same_number}
use Rattle.crq_ring.specs.declared.rows.DropRow.{DropRow}
use Rattle.crq_ring.specs.declared.rows.PipeRow.{PipeRow}
use Rattle.crq_session.specs.Answered.{FindsFull, Puts, SendsNone}
use Rattle.crq_session.specs.EndState.{EndPlace, EndState, OnlyReserves}
use Rattle.vcpu_run.specs.DropsShown.{IsFullBy}
use Rattle.vcpu_run.specs.DropsStay.{DropsStay}

pub stay_same : (a b : List DropRow) → b ≡ a → DropsStay a b
stay_same a b same row there = subst (λ (rows : List DropRow). Contains rows row) (sym same) there

pub stay_on : (a b c : List DropRow) → DropsStay a b → DropsStay b c → DropsStay a c
stay_on a b c first next row there = next row (first row there)

-- rows by the first of them, and the others
drop_first : (row : DropRow) (rest : List DropRow) → Contains (row ∷ rest) row
drop_first row rest = (zero, omega arith, refl)

drop_behind : (first row : DropRow) (rest : List DropRow) → Contains rest row → Contains (first ∷ rest) row
drop_behind first row rest h = (suc h.0, omega (arith, h.1), h.2)

pub drop_in : (first row : DropRow) (rest : List DropRow) → Contains (first ∷ rest) row → (first ≡ row) ⊎ Contains rest row
drop_in first row rest h = at h.0 h.1 h.2
  where
    at : (k : ℕ) → k < length (first ∷ rest) → get_or (first ∷ rest) k row ≡ row → (first ≡ row) ⊎ Contains rest row
    at zero within is = inl is
    at (suc k) within is = inr (k, omega (arith, within), is)

-- a record more, where its number has none
pub stay_recorded : (rows : List DropRow) (last : DropRow) → DropsStay rows (recorded rows last)
unfolding recorded
stay_recorded [] last row there = absurd (omega (arith, there.1))
stay_recorded (first ∷ rest) last row there = at (same_number first last) (by (stay_recorded rest last row) (drop_in first row rest there))
  where
    at : (b : Bool) → Contains (first ∷ recorded rest last) row → Contains (if b then first ∷ rest else first ∷ recorded rest last) row
    at true h = there
    at false h = h

    by : (Contains rest row → Contains (recorded rest last) row) → (first ≡ row) ⊎ Contains rest row → Contains (first ∷ recorded rest last) row
    by more (inl e) = subst (λ (r : DropRow). Contains (first ∷ recorded rest last) r) e (drop_first first (recorded rest last))
    by more (inr h) = drop_behind first row (recorded rest last) (more h)

-- A record of this one's number stands among these.
record HasNumber (rows : List DropRow) (last : DropRow) : Type 0 where
  pub row : DropRow
  pub there : Contains rows row
  pub session_is : row.session ≡ last.session
  pub number_is : row.number ≡ last.number

both_true : (a b : Bool) → (a && b) ≡ true → (a ≡ true) × (b ≡ true)
both_true true b is = (refl, is)
both_true false b is = absurd (cc (is))

recorded_has : (rows : List DropRow) (last : DropRow) → HasNumber (recorded rows last) last
unfolding recorded
recorded_has [] last = record { row = last; there = drop_first last []; session_is = refl; number_is = refl }
recorded_has (first ∷ rest) last = at (same_number first last) refl (recorded_has rest last)
  where
    at : (b : Bool) → same_number first last ≡ b → HasNumber (recorded rest last) last → HasNumber (if b then first ∷ rest else first ∷ recorded rest last) last
    at true same h =
        let parts = both_true (first.session == last.session) (first.number == last.number) same in
        record { row = first; there = drop_first first rest; session_is = eqb-true first.session last.session parts.0; number_is = eqb-true first.number last.number parts.1 }
    at false same h = record { row = h.row; there = drop_behind first h.row (recorded rest last) h.there; session_is = h.session_is; number_is = h.number_is }

-- what an answer to a send leaves of them
pub stay_full : (shared : Bool) (a b : EndState) (number held : ℕ) → FindsFull shared a b number held → DropsStay a.drops b.drops
stay_full shared a b number held full =
    subst (DropsStay a.drops) (sym full.drops) (stay_recorded a.drops (record { session = b.counts.partner_session; number = number; held = held }))

pub stay_none : (a b : EndState) → SendsNone a b → DropsStay a.drops b.drops
stay_none a b none = stay_same a.drops b.drops none.drops

pub stay_puts : (shared : Bool) (a b : EndState) (entry : Entry) → Puts shared a entry b → DropsStay a.drops b.drops
stay_puts shared a b entry puts = stay_same a.drops b.drops puts.drops

pub stay_ready : (a b : EndState) → OnlyReserves a b → DropsStay a.drops b.drops
stay_ready a b ready = stay_same a.drops b.drops ready.drops

-- an entry that found its slot full, once room was made
pub found_full : (shared : Bool) (old before new : EndState) (number held : ℕ) → OnlyReserves old before → new.place ≡ old.place → FindsFull shared before new number held
    → IsFullBy shared new number held
found_full shared old before new number held room place full =
    let last : DropRow = record { session = new.counts.partner_session; number = number; held = held } in
    let has : HasNumber (recorded before.drops last) last = recorded_has before.drops last in
    let same : before.place ≡ new.place = room.place ∙ sym place in
    record {
      drop = record {
        row = has.row;
        there = subst (λ (rows : List DropRow). Contains rows has.row) (sym full.drops) has.there;
        session_is = has.session_is;
        number_is = has.number_is;
        lawful = subst (λ (rows : List PipeRow). LawfulDrop (of_session new.counts.partner_session rows) new.place.partner_slots number held) (sym full.sent)
            (subst (λ (p : EndPlace). LawfulDrop (of_session new.counts.partner_session before.sent) p.partner_slots number held) same full.lawful);
      };
      partner = λ alone. ap (λ (p : EndPlace). p.partner_registered) (sym same) ∙ full.partner alone;
    }
