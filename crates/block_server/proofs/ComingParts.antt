-- What single calls of a turn's parts did that no later part undoes.
use Rattle.std.proofs.Common.{◌≡◌, ◌≢◌, ◌⊎◌, inl, inr, ◌+◌, ◌<◌, ◌≤◌, ◌++◌, ℕ, suc, Bool, true, false, List, [], ◌∷◌, Option, Some, None, length, drop, refl, sym, ◌∙◌, ap, arith, length-append}
use Rattle.std.proofs.Math.Nat.{eq-or-lt_of_le}
use Rattle.crq_ring.specs.declared.rows.PipeRow.{PipeRow}
use Rattle.crq_session.specs.declared.answers.RegAnswer.{RegAnswer}
use Rattle.crq_session.specs.declared.answers.RegAnswer.TheVariants as registering
use Rattle.crq_session.specs.Answered.{HoldsUp}
use Rattle.crq_session.specs.Answers.{IfHeldUp, OnNotRegistered}
use Rattle.crq_session.specs.EndState.{EndState, OnlyRegisters, OnlyReserves}
use Rattle.vio_num.specs.Words.{Begins}
use Rattle.block_server.specs.Advances.{Advances}
use Rattle.block_server.specs.SiteState.{SiteState}
use Rattle.block_server.specs.Stage.{how_far, is_entry}
use Rattle.block_server.specs.Steps.{ComesOn, DidNothing, FellOr, OtherStage, how_many, one_if, work_of}
use Rattle.block_server.specs.Turns.{IsStill, UnderWay, under_way}
use Rattle.block_server.specs.declared.request.Arrival.{Arrival}
use Rattle.block_server.specs.declared.request.Request.{Request}
use Rattle.block_server.specs.declared.service.Outcome.{Outcome}
use Rattle.block_server.specs.declared.service.Stage.{Stage}
use Rattle.block_server.specs.declared.service.Stage.TheVariants.{Start, OutTable, InTable, DataOut, Given, DataIn, Answer, Entry}
use Rattle.block_server.specs.declared.unit.Unit.{Unit}
use Rattle.block_server.proofs.Quieting.{still_reserves}

-- a longer list
one_longer : (old new : List PipeRow) (row : PipeRow) → new ≡ old ++ row ∷ [] → length new ≡ length old + 1
one_longer old new row put = ap length put ∙ length-append old (row ∷ [])

no_shorter : (old new : List PipeRow) → Begins old new → length old ≤ length new
no_shorter old new (rest, is) = omega (arith, ap length is ∙ length-append old rest)

-- Calls only add to what was done.
pub work_later : (old new : SiteState) → Advances old new → work_of old.queue ≤ work_of new.queue
work_later old new advances =
    sums _ _ _ _ _ _ (no_shorter old.queue.taken new.queue.taken advances.taken)
    (no_shorter old.queue.sent new.queue.sent (advances.put.more, advances.put.put)) advances.session
  where
    sums : (a a' b b' s s' : ℕ) → a ≤ a' → b ≤ b' → s ≤ s' → a + (b + s) ≤ a' + (b' + s')
    sums a a' b b' s s' first second third = omega (arith, first, second, third)

pub work_same : (old new : EndState) → IsStill old new → work_of new ≡ work_of old
work_same old new still = λ i. length (still.taken i) + (length (still.sent i) + still.session i)

-- An entry was put, and nothing else was done.
pub work_put : (old new : EndState) (row : PipeRow) → new.taken ≡ old.taken → new.sent ≡ old.sent ++ row ∷ [] → new.last_session ≡ old.last_session → work_of old < work_of new
work_put old new row taken sent session =
    sums _ _ _ _ _ _ (ap length taken) (one_longer old.sent new.sent row sent) session
  where
    sums : (a a' b b' s s' : ℕ) → a' ≡ a → b' ≡ b + 1 → s' ≡ s → a + (b + s) < a' + (b' + s')
    sums a a' b b' s s' first second third = omega (arith, first, second, third)

-- An entry was taken.
pub work_taken : (old new : EndState) (row : PipeRow) → new.taken ≡ old.taken ++ row ∷ [] → new.sent ≡ old.sent → new.last_session ≡ old.last_session → work_of old < work_of new
work_taken old new row taken sent session =
    sums _ _ _ _ _ _ (one_longer old.taken new.taken row taken) (ap length sent) session
  where
    sums : (a a' b b' s s' : ℕ) → a' ≡ a + 1 → b' ≡ b → s' ≡ s → a + (b + s) < a' + (b' + s')
    sums a a' b b' s s' first second third = omega (arith, first, second, third)

-- A session was begun.
pub work_begun : (old new : SiteState) → Advances old new → new.queue.last_session ≡ old.queue.last_session + 1 → work_of old.queue < work_of new.queue
work_begun old new advances begun =
    sums _ _ _ _ _ _ (no_shorter old.queue.taken new.queue.taken advances.taken)
    (no_shorter old.queue.sent new.queue.sent (advances.put.more, advances.put.put)) begun
  where
    sums : (a a' b b' s s' : ℕ) → a ≤ a' → b ≤ b' → s' ≡ s + 1 → a + (b + s) < a' + (b' + s')
    sums a a' b b' s s' first second third = omega (arith, first, second, third)

pub less_later : (a b c : ℕ) → a < b → b ≤ c → a < c
less_later a b c less more = omega (arith, less, more)

-- What comes of a part, in whatever way the oldest request may come on in it.
module _ (Comes : ℕ × ℕ → ℕ × ℕ → Type 0) (u v : Unit) (old new : EndState) where
  -- Nothing was done.
  pub comes_none : IsStill old new → under_way v ≡ under_way u → v.moved ≡ u.moved → ComesOn Comes u v old new
  comes_none still same moved =
      inr (
        work_same old new still,
        inr (
          ap one_if still.registered,
          inr (
            ap (λ (way : UnderWay). how_many way.waiting) same,
            inr (ap (λ (way : UnderWay). length way.pending) same, inr (record { moved = moved; still = still; same = same })),
          ),
        ),
      )

  -- The queue was freed, and nothing less was done than before.
  pub comes_freed : work_of old ≤ work_of new → old.registered ≡ true → new.registered ≡ false → ComesOn Comes u v old new
  comes_freed more on off = by _ _ more
    where
      fell : one_if new.registered < one_if old.registered
      fell = ends _ _ (ap one_if on) (ap one_if off)
        where
          ends : (a b : ℕ) → a ≡ 1 → b ≡ 0 → b < a
          ends a b one none = omega (arith, one, none)

      by : (a b : ℕ) → a ≤ b → (a < b) ⊎ ((b ≡ a) × FellOr (one_if old.registered) (one_if new.registered)
          (FellOr (how_many u.waiting) (how_many v.waiting)
          (FellOr (length u.pending.items) (length v.pending.items)
          (Comes (how_far u.service.stage) (how_far v.service.stage) ⊎ DidNothing u v old new))))
      by a b most = at (eq-or-lt_of_le most)
        where
          at : (a ≡ b) ⊎ (a < b) → (a < b) ⊎ ((b ≡ a) × FellOr (one_if old.registered) (one_if new.registered)
              (FellOr (how_many u.waiting) (how_many v.waiting)
              (FellOr (length u.pending.items) (length v.pending.items)
              (Comes (how_far u.service.stage) (how_far v.service.stage) ⊎ DidNothing u v old new))))
          at (inl same) = inr (sym same, inl fell)
          at (inr less) = inl less

  -- The information unit that was waited for was fetched, or its session ended.
  pub comes_fetched : IsStill old new → (arrival : Arrival) → u.waiting ≡ Some arrival → v.waiting ≡ None → ComesOn Comes u v old new
  comes_fetched still arrival waits none =
      inr (work_same old new still, inr (ap one_if still.registered, inl (ends _ _ (ap how_many waits) (ap how_many none))))
    where
      ends : (a b : ℕ) → a ≡ 1 → b ≡ 0 → b < a
      ends a b one nothing = omega (arith, one, nothing)

  -- The oldest request was taken off.
  pub comes_finished : IsStill old new → v.waiting ≡ u.waiting → (front : Request) (rest : List Request) → u.pending.items ≡ front ∷ rest
      → v.pending.items ≡ drop 1 u.pending.items → ComesOn Comes u v old new
  comes_finished still waiting front rest pending dropped =
      inr (
        work_same old new still,
        inr (
          ap one_if still.registered,
          inr (
            ap how_many waiting,
            inl (ends _ _ (length rest) (ap length pending) (ap length (dropped ∙ ap (drop 1) pending))),
          ),
        ),
      )
    where
      ends : (a b n : ℕ) → a ≡ suc n → b ≡ n → b < a
      ends a b n more same = omega (arith, more, same)

  -- The session ended, and with it what was pending.
  pub comes_ended : IsStill old new → (front : Request) (rest : List Request) → u.pending.items ≡ front ∷ rest → v.waiting ≡ None → v.pending.items ≡ []
      → ComesOn Comes u v old new
  comes_ended still front rest pending none empty =
      inr (work_same old new still, inr (ap one_if still.registered, by u.waiting refl))
    where
      fewer : length v.pending.items < length u.pending.items
      fewer = ends _ _ (length rest) (ap length pending) (ap length empty)
        where
          ends : (a b n : ℕ) → a ≡ suc n → b ≡ 0 → b < a
          ends a b n more same = omega (arith, more, same)

      less : (a b : ℕ) → a ≡ 1 → b ≡ 0 → b < a
      less a b one nothing = omega (arith, one, nothing)

      by : (waiting : Option Arrival) → u.waiting ≡ waiting → FellOr (how_many u.waiting) (how_many v.waiting)
          (FellOr (length u.pending.items) (length v.pending.items)
          (Comes (how_far u.service.stage) (how_far v.service.stage) ⊎ DidNothing u v old new))
      by None is = inr (ap how_many (none ∙ sym is), inl fewer)
      by (Some arrival) is = inl (less _ _ (ap how_many is) (ap how_many none))

  -- The oldest request came on, and nothing else was done.
  pub comes_stage : IsStill old new → v.waiting ≡ u.waiting → v.pending.items ≡ u.pending.items → Comes (how_far u.service.stage) (how_far v.service.stage)
      → ComesOn Comes u v old new
  comes_stage still waiting pending came =
      inr (work_same old new still, inr (ap one_if still.registered, inr (ap how_many waiting, inr (ap length pending, inl came))))

-- The information unit that was waited for was fetched, or it was not, and nothing was done.
pub comes_received : (Comes : ℕ × ℕ → ℕ × ℕ → Type 0) (u w v : Unit) (old new : EndState) → IsStill old new → (arrival : Arrival) → u.waiting ≡ Some arrival
    → under_way w ≡ under_way u → w.moved ≡ u.moved → (v.waiting ≡ None) ⊎ (v ≡ w) → ComesOn Comes u v old new
comes_received Comes u w v old new still arrival waits way moved (inl none) = comes_fetched Comes u v old new still arrival waits none
comes_received Comes u w v old new still arrival waits way moved (inr same) =
    comes_none Comes u v old new still (ap (λ (unit : Unit). under_way unit) same ∙ way) (ap (λ (unit : Unit). unit.moved) same ∙ moved)

-- Where something was noted as done, something differs.
pub comes_apart : (u v : Unit) (old new : EndState) → ComesOn OtherStage u v old new → u.moved ≡ false → v.moved ≡ true
    → IsStill old new × (under_way v ≡ under_way u) → ⊥
comes_apart u v old new (inl more) was is quiet = apart _ _ more (work_same old new quiet.0)
  where
    apart : (a b : ℕ) → a < b → b ≡ a → ⊥
    apart a b less same = absurd (omega (arith, less, same))
comes_apart u v old new (inr (work, inl freed)) was is quiet = apart _ _ freed (ap one_if quiet.0.registered)
  where
    apart : (a b : ℕ) → b < a → b ≡ a → ⊥
    apart a b less same = absurd (omega (arith, less, same))
comes_apart u v old new (inr (work, inr (on, inl fetched))) was is quiet = apart _ _ fetched (ap (λ (way : UnderWay). how_many way.waiting) quiet.1)
  where
    apart : (a b : ℕ) → b < a → b ≡ a → ⊥
    apart a b less same = absurd (omega (arith, less, same))
comes_apart u v old new (inr (work, inr (on, inr (waiting, inl fewer)))) was is quiet = apart _ _ fewer (ap (λ (way : UnderWay). length way.pending) quiet.1)
  where
    apart : (a b : ℕ) → b < a → b ≡ a → ⊥
    apart a b less same = absurd (omega (arith, less, same))
comes_apart u v old new (inr (work, inr (on, inr (waiting, inr (pending, inl other))))) was is quiet = other (ap (λ (way : UnderWay). way.stage) quiet.1)
comes_apart u v old new (inr (work, inr (on, inr (waiting, inr (pending, inr none))))) was is quiet = cc (none.moved, was, is)

-- a stage from which only the entry is to be put
pub at_entry : (stage : Stage) → how_far stage ≡ (7, 0) → is_entry stage ≡ true
at_entry (Entry outcome) is = refl
at_entry Start is = absurd (omega (arith, ap (λ (far : ℕ × ℕ). far.0) is))
at_entry OutTable is = absurd (omega (arith, ap (λ (far : ℕ × ℕ). far.0) is))
at_entry InTable is = absurd (omega (arith, ap (λ (far : ℕ × ℕ). far.0) is))
at_entry (DataOut cursor) is = absurd (omega (arith, ap (λ (far : ℕ × ℕ). far.0) is))
at_entry (Given row reply) is = absurd (omega (arith, ap (λ (far : ℕ × ℕ). far.0) is))
at_entry (DataIn row reply cursor) is = absurd (omega (arith, ap (λ (far : ℕ × ℕ). far.0) is))
at_entry (Answer outcome) is = absurd (omega (arith, ap (λ (far : ℕ × ℕ). far.0) is))

-- An answer that is to be copied is not yet one whose entry is to be put.
pub not_entry : (stage : Stage) (outcome : Outcome) → stage ≡ Answer outcome → how_far stage ≢ (7, 0)
not_entry stage outcome answer entry = apart (how_far stage).0 (ap (λ (at : Stage). (how_far at).0) answer) (ap (λ (far : ℕ × ℕ). far.0) entry)
  where
    apart : (n : ℕ) → n ≡ 6 → n ≡ 7 → ⊥
    apart n six seven = absurd (omega (arith, six, seven))

-- The queue was not registered.
pub register_still : (shared : Bool) (old new : EndState) (answer : RegAnswer) → (answer ≡ registering.Success → ⊥)
    → ((control : ℕ) → answer ≡ registering.Closed control → ⊥) → IfHeldUp answer (HoldsUp shared old new)
    → OnNotRegistered answer (OnlyReserves old new) → OnlyRegisters shared old new → IsStill old new
register_still shared old new registering.Success success closed held refused rest = absurd (success refl)
register_still shared old new (registering.Closed control) success closed held refused rest = absurd (closed control refl)
register_still shared old new (registering.Busy number word) success closed held refused rest = record {
  taken = rest.taken;
  sent = held.kept.full.sent;
  registered = held.still ∙ sym held.unregistered;
  session = held.session;
}
register_still shared old new registering.Parameter success closed held refused rest = still_reserves old new refused
register_still shared old new registering.Resource success closed held refused rest = still_reserves old new refused
