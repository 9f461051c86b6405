-- Which responses the queue of a pair's client got between turns, by the rows of its server unit (SRP, "SRP_RSP response").
use Rattle.std.specs.Prelude.{◌≡◌, ◌<◌, ◌≤◌, ℕ, false, true, All, List, Some, length, slice_get}
use Rattle.vio_num.specs.declared.history.Served.{Served}
use Rattle.crq_ring.specs.declared.rows.PipeRow.{PipeRow}
use Rattle.crq_session.specs.Answered.{received_now, taken_now}
use Rattle.crq_session.specs.EndState.{EndState}
use Rattle.crq_session.specs.PlainState.{side_of}
use Rattle.block_server.specs.Answering.{answers_of, responses}
use Rattle.vcpu_run.specs.declared.pair.Pair.{Pair}

-- each row is of a session, which count from 1
abbrev pub AreBegun : List PipeRow → Type 0
AreBegun rows = All (λ row. 1 ≤ row.session) rows

-- What was taken in the session is a front of what was received in it.
pub record IsBehind (end : EndState) : Type 0 where
  pub low : length (taken_now end) ≤ length (received_now end)
  pub same : (k : ℕ) → k < length (taken_now end) → slice_get (received_now end) k ≡ slice_get (taken_now end) k

-- Rows were put into the partner's queue in sessions alone, and taken from the own; and the partner's is in one where it is
-- registered.
pub record PutsInSessions (end : EndState) : Type 0 where
  pub begun : AreBegun end.sent
  pub took : AreBegun end.taken
  pub registered : end.place.partner_registered ≡ true → 1 ≤ end.counts.partner_session

-- The responses that were put into the client's queue are those of the unit's answered rows, one each, in their order; and all
-- entries were put there in sessions.
pub record IsAnswered (history : List Served) (pair : Pair) : Type 0 where
  pub answers : ∥ responses (side_of pair.link false).queue.sent ≡ answers_of pair.server history ∥₁
  pub begun : AreBegun (side_of pair.link false).queue.sent

abbrev pub AreAnswered : List Served → List Pair → Type 0
AreAnswered history pairs = (k : ℕ) (pair : Pair) → slice_get pairs k ≡ Some pair → IsAnswered history pair
