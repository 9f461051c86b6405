-- Parts of a turn, one after the other: what one did that no later one undoes.
use Rattle.std.proofs.Common.{◌≡◌, ◌⊎◌, inl, inr, ℕ, length, sym, ◌∙◌, ap, subst, arith}
use Rattle.crq_session.specs.EndState.{EndState}
use Rattle.block_server.specs.Stage.{how_far}
use Rattle.block_server.specs.Steps.{BeforeEntry, ComesOn, DidNothing, FellOr, NoStage, OtherStage, RoseOr, ToEntry, how_many, one_if, work_of}
use Rattle.block_server.specs.Turns.{UnderWay, under_way}
use Rattle.block_server.specs.declared.unit.Unit.{Unit}
use Rattle.block_server.proofs.Quieting.{still_on}

rose_on : (a b c : ℕ) (P Q R : Type 0) → (P → Q → R) → RoseOr a b P → RoseOr b c Q → RoseOr a c R
rose_on a b c P Q R both (inl up) (inl more) = inl (omega (arith, up, more))
rose_on a b c P Q R both (inl up) (inr (same, q)) = inl (omega (arith, up, same))
rose_on a b c P Q R both (inr (same, p)) (inl up) = inl (omega (arith, up, same))
rose_on a b c P Q R both (inr (same, p)) (inr (still, q)) = inr (still ∙ same, both p q)

fell_on : (a b c : ℕ) (P Q R : Type 0) → (P → Q → R) → FellOr a b P → FellOr b c Q → FellOr a c R
fell_on a b c P Q R both (inl down) (inl more) = inl (omega (arith, down, more))
fell_on a b c P Q R both (inl down) (inr (same, q)) = inl (omega (arith, down, same))
fell_on a b c P Q R both (inr (same, p)) (inl down) = inl (omega (arith, down, same))
fell_on a b c P Q R both (inr (same, p)) (inr (still, q)) = inr (still ∙ same, both p q)

stage_same : (u v : Unit) → under_way v ≡ under_way u → how_far v.service.stage ≡ how_far u.service.stage
stage_same u v same = ap (λ (way : UnderWay). way.stage) same

-- Parts of a turn in which the oldest request comes on in these two ways, and in both in a third.
module _ (Q R T : ℕ × ℕ → ℕ × ℕ → Type 0) (both : (a b c : ℕ × ℕ) → Q a b → R b c → T a c)
    (first : (a b : ℕ × ℕ) → Q a b → T a b) (last : (a b : ℕ × ℕ) → R a b → T a b) where
  stages_on : (u v w : Unit) (old mid new : EndState)
      → Q (how_far u.service.stage) (how_far v.service.stage) ⊎ DidNothing u v old mid
      → R (how_far v.service.stage) (how_far w.service.stage) ⊎ DidNothing v w mid new
      → T (how_far u.service.stage) (how_far w.service.stage) ⊎ DidNothing u w old new
  stages_on u v w old mid new (inl q) (inl r) = inl (both _ _ _ q r)
  stages_on u v w old mid new (inl q) (inr none) =
      inl (subst (λ (b : ℕ × ℕ). T (how_far u.service.stage) b) (sym (stage_same v w none.same)) (first _ _ q))
  stages_on u v w old mid new (inr none) (inl r) =
      inl (subst (λ (a : ℕ × ℕ). T a (how_far w.service.stage)) (stage_same u v none.same) (last _ _ r))
  stages_on u v w old mid new (inr none) (inr nothing) = inr (record {
    moved = nothing.moved ∙ none.moved;
    still = still_on old mid new none.still nothing.still;
    same = nothing.same ∙ none.same;
  })

  pub comes_by : (u v w : Unit) (old mid new : EndState) → ComesOn Q u v old mid → ComesOn R v w mid new → ComesOn T u w old new
  comes_by u v w old mid new =
      rose_on (work_of old) (work_of mid) (work_of new) _ _ _
      (fell_on (one_if old.registered) (one_if mid.registered) (one_if new.registered) _ _ _
      (fell_on (how_many u.waiting) (how_many v.waiting) (how_many w.waiting) _ _ _
      (fell_on (length u.pending.items) (length v.pending.items) (length w.pending.items) _ _ _
      (stages_on u v w old mid new))))

pub comes_on : (u v w : Unit) (old mid new : EndState) → ComesOn NoStage u v old mid → ComesOn NoStage v w mid new → ComesOn NoStage u w old new
comes_on u v w old mid new =
    comes_by NoStage NoStage NoStage (λ a b c none any. none) (λ a b none. none) (λ a b none. none) u v w old mid new

-- behind parts that bring the oldest request to no stage
pub comes_then : (u v w : Unit) (old mid new : EndState) → ComesOn NoStage u v old mid → ComesOn OtherStage v w mid new → ComesOn OtherStage u w old new
comes_then u v w old mid new =
    comes_by NoStage OtherStage OtherStage (λ a b c none any. absurd none) (λ a b none. absurd none) (λ a b other. other) u v w old mid new

-- an answer that was copied, and behind it the entry that was put, or kept
pub comes_put : (u v w : Unit) (old mid new : EndState) → ComesOn ToEntry u v old mid → ComesOn NoStage v w mid new → ComesOn ToEntry u w old new
comes_put u v w old mid new =
    comes_by ToEntry NoStage ToEntry (λ a b c to none. absurd none) (λ a b to. to) (λ a b none. absurd none) u v w old mid new

pub comes_first : (u v w : Unit) (old mid new : EndState) → ComesOn NoStage u v old mid → ComesOn ToEntry v w mid new → ComesOn ToEntry u w old new
comes_first u v w old mid new =
    comes_by NoStage ToEntry ToEntry (λ a b c none to. absurd none) (λ a b none. absurd none) (λ a b to. to) u v w old mid new

-- what the oldest request asks was done, and behind it its answer was copied
pub comes_served : (u v w : Unit) (old mid new : EndState) → ComesOn BeforeEntry u v old mid → ComesOn ToEntry v w mid new → ComesOn OtherStage u w old new
comes_served u v w old mid new =
    comes_by BeforeEntry ToEntry OtherStage
    (λ a b c before to same. before.0 (sym same ∙ to.1)) (λ a b before. before.1) (λ a b to same. to.0 (sym same ∙ to.1)) u v w old mid new
