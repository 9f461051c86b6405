-- Where a client's record says that a request met a closed queue, a session of its server unit's queue is over.
use Rattle.std.specs.Prelude.{◌≡◌, ◌≢◌, ◌⊎◌, ℕ, ◌<◌, ◌≤◌, Bool, true, false, List, [], IfSome, MatchBool, None, Result, Ok, Some, ⊤}
use Rattle.std.specs.List.{slice_get}
use Rattle.vio_num.specs.declared.memory.NoMemory.{NoMemory}
use Rattle.vio_num.specs.declared.names.UnitId.{UnitId}
use Rattle.crq_session.specs.EndState.{EndState}
use Rattle.crq_session.specs.PlainState.{end_of, side_of}
use Rattle.crq_session.specs.declared.link.PlainLink.{PlainLink}
use Rattle.block_server.specs.Receipts.{EndedFor}
use Rattle.boot_text.specs.declared.plan.Line.{Line}
use Rattle.boot_text.specs.declared.verb.Verb.{Verb}
use Rattle.vio_trace.specs.declared.outcome.Outcome.{Outcome}
use Rattle.vio_trace.specs.declared.outcome.Outcome.TheVariants as outcomes
use Rattle.vio_trace.specs.declared.rows.LogRow.{LogRow}
use Rattle.vio_trace.specs.declared.rows.Trace.{Trace}
use Rattle.unit_region.specs.declared.step.Step.{Step}
use Rattle.unit_region.specs.declared.step.Step.TheVariants as steps
use Rattle.vscsi_client.specs.State.{ClientState}
use Rattle.vcpu_run.specs.declared.pair.Pair.{Pair}
use Rattle.vcpu_run.specs.LinesShow.{requests}
use Rattle.vcpu_run.specs.Reached.{HasBegun}

-- The server unit's queue, which was in a session, is not registered, or is in a later one: the first is over.
pub record HadEnd (link : PlainLink) : Type 0 where
  pub begun : 1 ≤ (side_of link true).queue.session
  pub over : (side_of link true).registered ≡ true → 1 < (side_of link true).queue.session

-- What a turn leaves of a link at the server unit's side: no session is undone, nothing that was put is gone, and a queue that is
-- registered was so before, or is in a later session.
pub record StaysServed (old new : PlainLink) : Type 0 where
  pub begun : HasBegun (end_of [] old true) → HasBegun (end_of [] new true)
  pub puts : (side_of new false).queue.sent ≡ [] → (side_of old false).queue.sent ≡ []
  pub session : (side_of old true).queue.session ≤ (side_of new true).queue.session
  pub opens : (side_of new true).registered ≡ true
      → ((side_of old true).registered ≡ true) ⊎ ((side_of old true).queue.session < (side_of new true).queue.session)

-- A login is on, and the own queue or the partner's is not registered, as an end sees it; the partner's, where nobody else has a hand in it.
pub record MeetsShut (shared : Bool) (s : ClientState) (old new : EndState) : Type 0 where
  pub login : s.granted ≢ None
  pub queue : (old.registered ≡ false) ⊎ (shared ≡ false → new.place.partner_registered ≡ false)

-- the same at a pair where a client sits
pub record PairMeetsShut (s : ClientState) (old new : PlainLink) : Type 0 where
  pub login : s.granted ≢ None
  pub queue : ((side_of old false).registered ≡ false) ⊎ ((side_of new true).registered ≡ false)

-- P, where a request says that it met a closed queue
abbrev pub IfShut : (P : Type 0) → Outcome → Type 0
IfShut P outcomes.Closed = P
IfShut P _ = ⊤

abbrev pub SaysShut : (P : Type 0) → Verb → Outcome → Type 0
SaysShut P verb outcome = MatchBool (requests verb) (IfShut P outcome) ⊤

-- the same of a step of a line
abbrev pub StepShut : (P : Type 0) → Verb → Result Step NoMemory → Type 0
StepShut P verb (Ok (steps.Ends outcome)) = SaysShut P verb outcome
StepShut P verb _ = ⊤

-- the same at the pair where its client sits
abbrev pub PairShut : Verb → (old new : Pair) → Result Step NoMemory → Type 0
PairShut verb old new result = IfSome old.driver (λ d. StepShut (PairMeetsShut d.client old.link new.link) verb result)

-- the same of each line of a unit that has a record: the records are those of the first lines, in their order
abbrev pub LinesShut : (P : Type 0) → (unit : ℕ) → List Line → List LogRow → Type 0
LinesShut P unit lines rows = (i : ℕ) (line : Line) (row : LogRow) → slice_get lines i ≡ Some line → slice_get rows i ≡ Some row
    → line.unit ≡ unit → SaysShut P line.verb row.outcome

-- Where a request of a client says that it met a closed queue, a line says that a session of its server unit ended, and for which cause.
abbrev pub AreShutTold : Trace → (client server : UnitId) → List Line → List LogRow → Type 0
AreShutTold trace client server lines rows = LinesShut (∥ ((session : ℕ) × EndedFor server session trace.grants) ∥₁) client.unit lines rows
