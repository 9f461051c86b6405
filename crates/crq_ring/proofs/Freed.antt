-- What a caller may rely on once a session has ended: no sender puts anything in it any more.
use Rattle.std.proofs.Common.{◌≡◌, ℕ, ◌+◌, Bool, true, false, sym, refl, ap, ◌∙◌, subst, arith, le_refl}
use Rattle.crq_ring.specs.Control.{IsEnded}
use Rattle.vio_num.specs.Words.{Begins}
use Rattle.crq_ring.specs.Ends.{RingValue, SendValue, RecvValue, FrontValue, heard_now}
use Rattle.crq_ring.specs.Later.{IsLater}
use Rattle.crq_ring.specs.Pipe.{PipeValue}
use Rattle.crq_ring.specs.Ring.{KeepsReceiving, Learns, Closes}
use Rattle.crq_ring.specs.RingSessions.{BeginsSession, EndsSession, FindsSender}
use Rattle.crq_ring.specs.Sessions.{of_session}
use Rattle.crq_ring.proofs.Fronts.{begins_self, begins_on, begins_of}

-- a session that had ended before has ended in the next one, and where this one is closed
ended_before : (session q : ℕ) (is_open : Bool) → IsEnded session is_open q → IsEnded session false q
ended_before session q true h = omega (arith, h)
ended_before session q false h = h

ended_next : (session q : ℕ) (is_open : Bool) → IsEnded session is_open q → IsEnded (session + 1) true q
ended_next session q true h = omega (arith, h)
ended_next session q false h = omega (arith, h)

ended_at : (session session' q : ℕ) (is_open is_open' : Bool) → session' ≡ session → is_open' ≡ is_open → IsEnded session is_open q → IsEnded session' is_open' q
ended_at session session' q is_open is_open' e f h = subst (λ (z : ℕ × Bool). IsEnded z.0 z.1 q) (λ i. (sym e i, sym f i)) h

-- each call leaves a later end
pub later_self : (recv : RecvValue) → IsLater recv recv
later_self recv = record { ring = refl; heard = begins_self recv.heard; stays = λ q h. h; ended = λ q h. refl }

pub later_on : (a b c : RecvValue) → IsLater a b → IsLater b c → IsLater a c
later_on a b c x y = record {
  ring = y.ring ∙ x.ring;
  heard = begins_on a.heard b.heard c.heard x.heard y.heard;
  stays = λ q h. y.stays q (x.stays q h);
  ended = λ q h. y.ended q (x.stays q h) ∙ x.ended q h;
}

-- a poll, and learning of a front
pub later_kept : (old new : RecvValue) → KeepsReceiving old new → IsLater old new
later_kept old new k = record {
  ring = k.knows.ring;
  heard = k.knows.heard;
  stays = λ q h. ended_at old.session new.session q old.is_open new.is_open k.session k.is_open h;
  ended = k.knows.ended;
}

pub later_begun : (old new : RecvValue) (number : ℕ) → BeginsSession old number new → IsLater old new
later_begun old new number b = record {
  ring = b.knows.ring;
  heard = b.knows.heard;
  stays = λ q h. ended_at (old.session + 1) new.session q true new.is_open (b.session ∙ b.number_is) b.is_open (ended_next old.session q old.is_open h);
  ended = b.knows.ended;
}

pub later_ended : (old new : RecvValue) → EndsSession old new → IsLater old new
later_ended old new e = record {
  ring = e.knows.ring;
  heard = e.knows.heard;
  stays = λ q h. ended_at old.session new.session q false new.is_open e.session e.is_open (ended_before old.session q old.is_open h);
  ended = e.knows.ended;
}

pub later_busy : (old new : RecvValue) (word : ℕ) → FindsSender old word new → IsLater old new
later_busy old new word f = subst (λ v. IsLater old v) (sym f.rest) record { ring = refl; heard = begins_self old.heard; stays = λ q h. h; ended = λ q h. refl }

-- the session that an end has ended
has_ended : (old new : RecvValue) → EndsSession old new → IsEnded new.session new.is_open new.session
has_ended old new e = subst (λ b. IsEnded new.session b new.session) (sym e.is_open) (le_refl new.session)

-- After an end no sender puts anything in the session: whatever calls come then, all that was ever put in it,
-- as the pipe has it where the ring closes, is what the receiver knew when it ended.
pub no_sender_after_free : (ring : RingValue) (send : SendValue) (old new last : RecvValue) (pipe : PipeValue) → EndsSession old new → IsLater new last → Closes ring send last pipe
    → of_session new.session pipe.sent ≡ heard_now new
no_sender_after_free ring send old new last pipe e later closes =
    ap (of_session new.session) closes.sent ∙ (closes.ended new.session (later.stays new.session (has_ended old new e)) ∙ later.ended new.session (has_ended old new e))

-- and no front that the receiver learns then names another entry of it
pub front_after_free : (old new last learnt : RecvValue) (front : FrontValue) → EndsSession old new → IsLater new last → Learns last front learnt → IsLater last learnt
    → Begins (of_session new.session front.sent) (heard_now new)
front_after_free old new last learnt front e later learns again =
    let same = later_on new last learnt later again in
    subst (λ l. Begins (of_session new.session front.sent) l) (same.ended new.session (has_ended old new e)) (begins_of new.session front.sent learnt.heard learns.sent)
