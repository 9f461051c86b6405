-- That a server unit whose client is gone received an event that says so, or nothing in its session (LoPAR, "Transport Events").
use Rattle.std.specs.Prelude.{◌≡◌, true, false, [], None, filter, length}
use Rattle.crq_session.specs.Answered.{received_now}
use Rattle.crq_session.specs.EndState.{EndState}
use Rattle.block_server.specs.Closings.{is_event}
use Rattle.vcpu_run.specs.Announces.{KeepsEvent}

-- Neither was an event received in the session, nor does the partner keep one.
pub record HeardNoEvent (end : EndState) : Type 0 where
  pub kept : end.place.partner_kept ≡ None
  pub none : filter is_event (received_now end) ≡ []

-- What the partner keeps is an event; and while its queue is not registered the own queue, which is, received nothing in its session,
-- or an event, or the partner keeps one.
pub record IsToldOfGone (end : EndState) : Type 0 where
  pub says : KeepsEvent end.place.partner_kept
  pub gone : end.registered ≡ true → end.place.partner_registered ≡ false → HeardNoEvent end → length (received_now end) ≡ 0

-- The own queue is registered, and an event was received in its session, or the partner keeps one; what that keeps is one.
pub record HearsEvent (end : EndState) : Type 0 where
  pub registered : end.registered ≡ true
  pub says : KeepsEvent end.place.partner_kept
  pub heard : ¬ HeardNoEvent end
