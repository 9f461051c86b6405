-- What is said of each answer to a frame that is written to a buffer.
use Rattle.std.specs.Prelude.{◌≡◌, ℕ, Bool, List}
use Rattle.vio_num.specs.Counts.{Rose}
use Rattle.tce_window.specs.PortState.{PortState, LaysNone, OnlyHolds}
use Rattle.tce_window.specs.declared.piece.Piece.{Piece}
use Rattle.tce_window.specs.declared.answers.HoldFault.{HoldFault}
use Rattle.lan_buffers.specs.declared.fill.Fill.{Fill}
use Rattle.lan_buffers.specs.declared.fill.Fill.TheVariants.{Written, InUse, Refused}

-- P of the pieces, where the frame was written
abbrev pub IfWritten : Fill → (List Piece → Type 0) → Type 0
IfWritten (Written to) P = P to.items
IfWritten _ P = Unit {0}

-- P of the fault, where its bytes could not be held
abbrev pub IfRefused : Fill → (HoldFault → Type 0) → Type 0
IfRefused (Refused fault) P = P fault
IfRefused _ P = Unit {0}

-- P of the page and the word that were found in use
abbrev pub IfInUse : Fill → (ℕ → ℕ → Type 0) → Type 0
IfInUse (InUse page word) P = P page word
IfInUse _ P = Unit {0}

-- P, where no byte was written
abbrev pub OnKept : Fill → Type 0 → Type 0
OnKept (Written to) P = Unit {0}
OnKept _ P = P

-- P, where the frame was written
abbrev pub OnRoom : Fill → Type 0 → Type 0
OnRoom (Written to) P = P
OnRoom _ P = Unit {0}

-- the window's count of words read in use rose where the answer says so, and else stands still
abbrev pub CountsFill : Fill → ℕ → ℕ → Type 0
CountsFill (InUse page word) before after = Rose before after
CountsFill _ before after = after ≡ before

-- What is left of the window: nothing is held, only what is known of it and which strokes the port laid
-- may have changed, and where no byte was written it laid none.
pub record LeavesFilled (is_shared : Bool) (answer : Fill) (old new : PortState) : Type 0 where
  pub free : new.held_count ≡ 0
  pub rest : OnlyHolds is_shared old new
  pub kept : OnKept answer (LaysNone is_shared old new)
  pub counts : CountsFill answer old.in_use new.in_use
