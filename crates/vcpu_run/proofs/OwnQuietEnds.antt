-- The ends of a pair's link where nothing is done: the server unit's queue has room, nothing was put into it, and nothing was taken from the client's.
use Rattle.std.proofs.Common.{◌≡◌, ◌∙◌, ℕ, ◌+◌, ◌≤◌, ◌++◌, Bool, true, false, List, [], ◌∷◌, append-nil, append_assoc, arith, length, length-append, length-drop, refl, sym, ap, ap₂, subst}
use Rattle.vio_num.specs.declared.entry.Entry.{Entry}
use Rattle.crq_ring.specs.Sessions.{of_session}
use Rattle.crq_ring.specs.declared.rows.PipeRow.{PipeRow}
use Rattle.crq_session.specs.Answered.{FindsFull, partner_took, received_now, sent_now, taken_now}
use Rattle.crq_session.specs.EndState.{EndPlace, EndState, OnlyReserves, OnlySends, OnlyTakes}
use Rattle.block_server.specs.Doings.{Doing, rows_to}
use Rattle.block_server.specs.Talk.{to_come}
use Rattle.vscsi_client.specs.Ports.{Ports}
use Rattle.vcpu_run.specs.OwnActs.{RestsAt}
use Rattle.vcpu_run.specs.OwnQuiets.{HasNoWork}

-- ---- what a client puts finds room

-- All that this end put in its partner's session was taken, and the partner's queue has slots.
pub record HasRoom (end : EndState) : Type 0 where
  pub taken : length (sent_now end end.counts.partner_session) ≡ length (partner_took end end.counts.partner_session)
  pub slots : 1 ≤ end.place.partner_slots

pub room_on : (old new : EndState) → new.place ≡ old.place → new.counts.partner_session ≡ old.counts.partner_session → new.sent ≡ old.sent → HasRoom old → HasRoom new
room_on old new place session sent is = record {
  taken = ap₂ (λ (q : ℕ) (rows : List PipeRow). length (of_session q rows)) session sent ∙ is.taken
      ∙ sym (ap₂ (λ (q : ℕ) (rows : List PipeRow). length (of_session q rows)) session (ap (λ (p : EndPlace). p.partner_taken) place));
  slots = subst (λ (n : ℕ). 1 ≤ n) (sym (ap (λ (p : EndPlace). p.partner_slots) place)) is.slots;
}

-- so no slot is full
pub room_full : (room new : EndState) (number held : ℕ) → new.place ≡ room.place → HasRoom new → FindsFull false room new number held → ⊥
room_full room new number held place is full = omega (
  arith,
  full.full_slot refl,
  ap (λ (rows : List PipeRow). length (of_session new.counts.partner_session rows)) full.sent,
  ap (λ (p : EndPlace). length (of_session new.counts.partner_session p.partner_taken)) place,
  ap (λ (p : EndPlace). p.partner_slots) place,
  is.taken,
  is.slots,
)

-- ---- nothing was put

no_rows : (session : ℕ) (entries : List Entry) (old new : List PipeRow) → new ≡ old ++ rows_to session entries → length new ≤ length old → entries ≡ []
no_rows session [] old new is less = refl
no_rows session (entry ∷ entries) old new is less =
    absurd (omega (arith, less, ap (λ (rows : List PipeRow). length rows) is, length-append old (rows_to session (entry ∷ entries))))

pub none_put : (d left : Doing) (old new : Ports) → (rests : RestsAt d left old new) → length new.crq.sent ≤ length old.crq.sent → rests.entries ≡ []
none_put d left old new rests less = no_rows old.crq.counts.partner_session rests.entries old.crq.sent new.crq.sent rests.put less

-- so what was put is as before
pub put_same : (d left : Doing) (old new : Ports) → (rests : RestsAt d left old new) → rests.entries ≡ [] → new.crq.sent ≡ old.crq.sent
put_same d left old new rests none = rests.put ∙ ap (λ (entries : List Entry). old.crq.sent ++ rows_to old.crq.counts.partner_session entries) none ∙ append-nil old.crq.sent

pub room_rests : (d left : Doing) (old new : Ports) → (rests : RestsAt d left old new) → rests.entries ≡ [] → HasRoom old.crq → HasRoom new.crq
room_rests d left old new rests none is = room_on old.crq new.crq rests.place rests.session (put_same d left old new rests none) is

-- and the unit has no more to do
pub work_rests : (d left : Doing) (old new : Ports) → (rests : RestsAt d left old new) → rests.entries ≡ [] → HasNoWork d → HasNoWork left
work_rests d left old new rests none is = record {
  going = ap (λ (e : Doing). e.ended) rests.is ∙ is.going;
  coming = ap (λ (e : Doing). e.coming) rests.is ∙ ap₂ (λ (xs ys : List Entry). xs ++ ys) is.coming none;
  pending = ap (λ (e : Doing). e.pending) rests.is ∙ is.pending;
  kept = ap (λ (e : Doing). e.kept) rests.is ∙ is.kept;
}

-- ---- what was taken

-- A queue that was registered is, in its session; more may have been taken.
pub record TookOn (old new : EndState) : Type 0 where
  pub place : new.place ≡ old.place
  pub stays : old.registered ≡ true → (new.registered ≡ true) × (new.last_session ≡ old.last_session)
  pub more : List PipeRow
  pub taken : new.taken ≡ old.taken ++ more

pub took_same : (old new : EndState) → new.place ≡ old.place → new.registered ≡ old.registered → new.last_session ≡ old.last_session → new.taken ≡ old.taken → TookOn old new
took_same old new place registered session taken = record {
  place = place;
  stays = λ there. (registered ∙ there, session);
  more = [];
  taken = taken ∙ sym (append-nil old.taken);
}

pub took_here : (end : EndState) → TookOn end end
took_here end = took_same end end refl refl refl refl

pub took_reserves : (old new : EndState) → OnlyReserves old new → TookOn old new
took_reserves old new ready = took_same old new ready.place ready.registered ready.last_session ready.taken

pub took_sends : (shared : Bool) (old new : EndState) → OnlySends shared old new → TookOn old new
took_sends shared old new only = took_same old new only.place only.registered only.last_session only.taken

pub took_more : (shared : Bool) (old new : EndState) (more : List PipeRow) → OnlyTakes shared old new → new.taken ≡ old.taken ++ more → TookOn old new
took_more shared old new more only taken = record { place = only.place; stays = λ there. (only.registered ∙ there, only.last_session); more = more; taken = taken }

pub took_then : (a b c : EndState) → TookOn a b → TookOn b c → TookOn a c
took_then a b c first next = record {
  place = next.place ∙ first.place;
  stays = λ there. let at = first.stays there in let then_at = next.stays at.0 in (then_at.0, then_at.1 ∙ at.1);
  more = first.more ++ next.more;
  taken = next.taken ∙ ap (λ (rows : List PipeRow). rows ++ next.more) first.taken ∙ append_assoc a.taken first.more next.more;
}

-- A full queue of which all was taken has more taken.
pub full_took : (old new : EndState) → TookOn old new → old.registered ≡ true → length (received_now old) ≡ length (taken_now old) + old.place.own_slots → 1 ≤ old.place.own_slots
    → to_come new ≡ [] → length new.taken ≤ length old.taken → ⊥
full_took old new took there full slots none less = by took.more took.taken
  where
    session : new.last_session ≡ old.last_session
    session = (took.stays there).1

    received : received_now new ≡ received_now old
    received = ap₂ (λ (q : ℕ) (rows : List PipeRow). of_session q rows) session (ap (λ (p : EndPlace). p.received) took.place)

    by : (more : List PipeRow) → new.taken ≡ old.taken ++ more → ⊥
    by [] taken =
        let same : taken_now new ≡ taken_now old = ap₂ (λ (q : ℕ) (rows : List PipeRow). of_session q rows) session (taken ∙ append-nil old.taken) in
        omega (
          arith,
          full,
          slots,
          ap (λ (list : List Entry). length list) none,
          length-drop (length (taken_now new)) (received_now new),
          ap (λ (list : List Entry). length list) received,
          ap (λ (list : List Entry). length list) same,
        )
    by (row ∷ more) taken = omega (arith, less, ap (λ (rows : List PipeRow). length rows) taken, length-append old.taken (row ∷ more))
