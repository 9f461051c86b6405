-- How far the service of the oldest request came in a part of a turn.
use Rattle.std.proofs.Common.{◌≡◌, ◌≢◌, ◌⊎◌, inl, inr, ℕ, Bool, true, false, refl, sym, ◌∙◌, ap}
use Rattle.crq_session.specs.EndState.{EndState}
use Rattle.block_server.specs.Stage.{how_far, is_answered, is_before_step, is_entry}
use Rattle.block_server.specs.Steps.{BeforeEntry, ComesOn, NoStage, OtherStage}
use Rattle.block_server.specs.Turns.{IsStill, UnderWay, under_way}
use Rattle.block_server.specs.declared.service.Stage.{Stage}
use Rattle.block_server.specs.declared.service.Stage.TheVariants.{Start, OutTable, InTable, DataOut, Given, DataIn, Answer, Entry}
use Rattle.block_server.specs.declared.unit.Unit.{Unit}
use Rattle.block_server.proofs.Coming.{comes_then}
use Rattle.block_server.proofs.ComingParts.{at_entry, comes_none, comes_stage}
use Rattle.block_server.proofs.Quieting.{still_same}

-- A stage before the disk step, or before the answer, is not that in which the entry is to be put.
pub before_entry : (stage : Stage) → is_before_step stage ≡ true → is_entry stage ≡ true → ⊥
before_entry Start before is = cc (is)
before_entry OutTable before is = cc (is)
before_entry InTable before is = cc (is)
before_entry (DataOut cursor) before is = cc (is)
before_entry (Given row reply) before is = cc (is)
before_entry (DataIn row reply cursor) before is = cc (is)
before_entry (Answer outcome) before is = cc (is)
before_entry (Entry outcome) before is = cc (before)

pub unanswered_entry : (stage : Stage) → is_answered stage ≡ false → is_entry stage ≡ true → ⊥
unanswered_entry Start before is = cc (is)
unanswered_entry OutTable before is = cc (is)
unanswered_entry InTable before is = cc (is)
unanswered_entry (DataOut cursor) before is = cc (is)
unanswered_entry (Given row reply) before is = cc (is)
unanswered_entry (DataIn row reply cursor) before is = cc (is)
unanswered_entry (Answer outcome) before is = cc (is)
unanswered_entry (Entry outcome) before is = cc (before)

pub other_entry : (stage other : Stage) → stage ≡ other → is_entry other ≡ false → is_entry stage ≡ true → ⊥
other_entry stage other same none is = apart (is_entry stage) (ap is_entry same ∙ none) is
  where
    apart : (b : Bool) → b ≡ false → b ≡ true → ⊥
    apart b no_entry entry = cc (no_entry, entry)

-- Parts that leave a stage as it is in which the entry is to be put.
pub entry_on : (a b c : Stage) → (is_entry a ≡ true → b ≡ a) → (is_entry b ≡ true → c ≡ b) → is_entry a ≡ true → c ≡ a
entry_on a b c first next is = next (ap is_entry (first is) ∙ is) ∙ first is

-- What the oldest request asks was done as far as it goes, and it was noted whether it came on.
pub comes_noted : (u w v : Unit) (old new : EndState) → IsStill old new → under_way v ≡ under_way w → w.waiting ≡ u.waiting → w.pending.items ≡ u.pending.items
    → w.moved ≡ u.moved → (is_entry u.service.stage ≡ true → w.service.stage ≡ u.service.stage) → (before : ℕ × ℕ) → before ≡ how_far u.service.stage
    → ((v.moved ≡ w.moved) × (how_far w.service.stage ≡ before)) ⊎ (how_far w.service.stage ≢ before) → ComesOn BeforeEntry u v old new
comes_noted u w v old new still way waiting pending moved stays before at (inl noted) =
    comes_none BeforeEntry u v old new still
    (way ∙ (λ i. record { waiting = waiting i; pending = pending i; stage = (noted.1 ∙ at) i })) (noted.0 ∙ moved)
comes_noted u w v old new still way waiting pending moved stays before at (inr other) =
    comes_stage BeforeEntry u v old new still (ap (λ (under : UnderWay). under.waiting) way ∙ waiting) (ap (λ (under : UnderWay). under.pending) way ∙ pending) (
      λ entry. other (ap how_far (stays (at_entry u.service.stage entry)) ∙ sym at),
      λ same. other (sym (ap (λ (under : UnderWay). under.stage) way) ∙ same ∙ sym at),
    )

-- where the oldest request may have come on besides
pub comes_any : (u v : Unit) (old new : EndState) → ComesOn NoStage u v old new → ComesOn OtherStage u v old new
comes_any u v old new comes = comes_then u v v old new new comes (comes_none OtherStage v v new new (still_same new) refl refl)
