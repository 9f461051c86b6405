-- Where the entry of an answer is discarded, the client's queue was found closed; and what is known of the sends of a turn is known of
-- each of its parts.
use Rattle.std.proofs.Common.{◌≡◌, ◌≢◌, ◌≤◌, ◌∙◌, ◌||◌, ℕ, Bool, true, false, refl, sym, ap, arith}
use Rattle.crq_session.specs.Answered.{MeetsClosed, TurnsBack}
use Rattle.crq_session.specs.Answers.{IfClosed, OnNotSent}
use Rattle.crq_session.specs.EndState.{EndPlace, EndState, OnlySends}
use Rattle.crq_session.specs.declared.answers.SendAnswer.{SendAnswer}
use Rattle.crq_session.specs.declared.answers.SendAnswer.TheVariants as sending
use Rattle.crq_session.specs.declared.handshake.Handshake.{Handshake}
use Rattle.crq_session.specs.declared.handshake.Handshake.TheVariants.{Down}
use Rattle.vio_num.specs.Counts.{Rose}
use Rattle.block_server.specs.Advances.{Advances}
use Rattle.block_server.specs.Dealt.{KnowsSends}
use Rattle.block_server.specs.Ready.{Agrees}
use Rattle.block_server.specs.Receipts.{is_down, is_ended}
use Rattle.block_server.specs.SiteState.{SiteState}
use Rattle.block_server.specs.declared.line.Line.{Line}

-- a count that rose among others that do not fall
rose_within : (a b c d : ℕ) → a ≤ b → Rose b c → c ≤ d → Rose a d
rose_within a b c d low rose high = omega (arith, low, rose, high)

-- The client's queue was found closed within these states.
closed_within : (shared : Bool) (a b c d : SiteState) → Advances a b → Advances c d → MeetsClosed shared b.queue c.queue → MeetsClosed shared a.queue d.queue
closed_within shared a b c d before behind is = record {
  closed = rose_within a.queue.counts.closed b.queue.counts.closed c.queue.counts.closed d.queue.counts.closed before.closed is.closed behind.closed;
  partner = λ alone. sym (ap (λ (place : EndPlace). place.partner_registered) before.queue_place) ∙ is.partner alone;
}

-- What is known of the sends between two states is known between states within.
pub known_within : (shared : Bool) (handshake handshake' : Handshake) (a b c d : SiteState) (closed : ℕ → Bool) → Advances a b → Advances c d
    → (Agrees handshake a.queue → Agrees handshake' b.queue) → KnowsSends (Agrees handshake a.queue) shared a.queue d.queue closed
    → KnowsSends (Agrees handshake' b.queue) shared b.queue c.queue closed
known_within shared handshake handshake' a b c d closed before behind agrees is = λ session low open_is.
    let knows = is session (later session c.queue.last_session d.queue.last_session low behind.session) open_is in
    (agrees knows.0, λ found. knows.1 (closed_within shared a b c d before behind found))
  where
    later : (a b c : ℕ) → a ≤ b → b ≤ c → a ≤ c
    later a b c low high = omega (arith, low, high)

-- while the session goes on the unit takes its queue for registered
going_on : (line : Line) → is_ended line ≡ false → line.handshake ≢ Down
going_on line going down = by line.closing (sym (ap (λ (h : Handshake). line.closing || is_down h) down) ∙ going)
  where
    by : (b : Bool) → (b || true) ≡ false → ⊥
    by true same = cc (same)
    by false same = cc (same)

-- The entry was discarded.
pub discarded_closed : (shared : Bool) (line : Line) (answer : SendAnswer) (old new : EndState) (closed : ℕ → Bool) → ((number : ℕ) → answer ≡ sending.Success number → ⊥)
    → ((number held : ℕ) → answer ≡ sending.Dropped number held → ⊥) → IfClosed answer (TurnsBack shared old new) → OnNotSent answer (old.registered ≡ false) → OnlySends shared old new
    → KnowsSends (Agrees line.handshake old) shared old new closed → is_ended line ≡ false → closed old.last_session ≡ true
discarded_closed shared line answer old new closed sent dropped back off rest knows going = at (closed old.last_session) refl
  where
    same : (a b : ℕ) → b ≡ a → a ≤ b
    same a b e = omega (arith, e)

    both : (line.handshake ≢ Down → old.registered ≡ true) → old.registered ≡ false → ⊥
    both on none = cc (on (going_on line going), none)

    discarded : (answer : SendAnswer) → ((number : ℕ) → answer ≡ sending.Success number → ⊥) → ((number held : ℕ) → answer ≡ sending.Dropped number held → ⊥)
        → IfClosed answer (TurnsBack shared old new) → OnNotSent answer (old.registered ≡ false) → Agrees line.handshake old → ¬ MeetsClosed shared old new → ⊥
    discarded (sending.Success number) sent dropped back off agrees found = sent number refl
    discarded (sending.Dropped number held) sent dropped back off agrees found = dropped number held refl
    discarded (sending.Closed word) sent dropped back off agrees found = found back.closed.meets
    discarded sending.Parameter sent dropped back off agrees found = both agrees.on off
    discarded sending.NotRegistered sent dropped back off agrees found = both agrees.on off

    at : (b : Bool) → closed old.last_session ≡ b → closed old.last_session ≡ true
    at true is = is
    at false is =
        let known = knows old.last_session (same old.last_session new.last_session rest.last_session) is in
        absurd (discarded answer sent dropped back off known.0 known.1)
