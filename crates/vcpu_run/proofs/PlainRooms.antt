-- Where all that came to a server unit was taken, a plain client's entry finds its partner's queue registered, and a slot free.
use Rattle.std.proofs.Common.{◌≡◌, ◌∙◌, ℕ, true, false, true≢false, List, [], length, length-drop, refl, sym, ap, ap₂, arith}
use Rattle.vio_num.specs.declared.entry.Entry.{Entry}
use Rattle.crq_ring.specs.Sessions.{of_session}
use Rattle.crq_ring.specs.declared.rows.PipeRow.{PipeRow}
use Rattle.crq_session.specs.Answered.{FindsFull, MeetsClosed, Sends, partner_took, received_now, sent_now, taken_now}
use Rattle.crq_session.specs.EndState.{EndPlace, EndState}
use Rattle.crq_session.specs.declared.answers.SendAnswer.{SendAnswer}
use Rattle.crq_session.specs.declared.answers.SendAnswer.TheVariants as send
use Rattle.block_server.specs.Talk.{to_come}
use Rattle.vscsi_client.specs.Turned.{SentAs}
use Rattle.vcpu_run.specs.PlainTalk.{Between, IsCalm, ServerStays, TookNoMore}
use Rattle.vcpu_run.proofs.PlainSays.{none_said}

-- all that came was taken
all_taken : (end : EndState) → TookNoMore end → to_come end ≡ [] → length (received_now end) ≡ length (taken_now end)
all_taken end took none = omega (arith, took, length-drop (length (taken_now end)) (received_now end), ap (λ (list : List Entry). length list) none)

-- the partner's queue is registered
pub not_closed : (granted : ℕ) (at : Between) (room new : EndState) → IsCalm granted at [] → room.place ≡ at.own.place → MeetsClosed false room new → ⊥
not_closed granted at room new calm place meets =
    true≢false (sym calm.registered ∙ sym calm.ends.own_sees.partner ∙ sym (ap (λ (p : EndPlace). p.partner_registered) place) ∙ meets.partner refl)

-- and has a free slot
pub not_full : (granted : ℕ) (at at' : Between) (room : EndState) (number held : ℕ) → IsCalm granted at [] → room.sent ≡ at.own.sent → room.place ≡ at.own.place → ServerStays at at'
    → FindsFull false room at'.own number held → ⊥
not_full granted at at' room number held calm same place stays full =
    let q : at'.own.counts.partner_session ≡ at.server.last_session = stays.ends.own_sees.session ∙ stays.session in
    let sent : length (sent_now room at'.own.counts.partner_session) ≡ length (received_now at.server) =
    ap₂ (λ (session : ℕ) (rows : List PipeRow). length (of_session session rows)) q (same ∙ sym calm.ends.own_sees.received) in
    let took : length (partner_took room at'.own.counts.partner_session) ≡ length (taken_now at.server) =
    ap₂ (λ (session : ℕ) (rows : List PipeRow). length (of_session session rows)) q
    (ap (λ (p : EndPlace). p.partner_taken) place ∙ calm.ends.own_sees.taken) in
    let slots : room.place.partner_slots ≡ at.server.place.own_slots = ap (λ (p : EndPlace). p.partner_slots) place ∙ calm.ends.own_sees.slots in
    omega (
      arith,
      full.full_slot refl,
      sent,
      took,
      slots,
      calm.server_slots,
      all_taken at.server calm.ends.server_took (none_said at.window (to_come at.server) calm.said),
    )

-- so an entry that is sent is put
pub put_success : (granted : ℕ) (at at' : Between) (room : EndState) (entry : Entry) (answer : SendAnswer) → IsCalm granted at [] → room.sent ≡ at.own.sent → room.place ≡ at.own.place
    → room.registered ≡ true → ServerStays at at' → SentAs false room entry at'.own answer → (number : ℕ) × (answer ≡ send.Success number) × Sends false room entry at'.own number
put_success granted at at' room entry (send.Success number) calm same place there stays sent = (number, refl, sent)
put_success granted at at' room entry (send.Closed control) calm same place there stays sent = absurd (not_closed granted at room at'.own calm place sent.closed.meets)
put_success granted at at' room entry (send.Dropped number held) calm same place there stays sent =
    absurd (not_full granted at at' room number held calm same place stays sent)
put_success granted at at' room entry send.NotRegistered calm same place there stays sent = absurd (true≢false (sym there ∙ sent.0))
put_success granted at at' room entry send.Parameter calm same place there stays sent = absurd sent
