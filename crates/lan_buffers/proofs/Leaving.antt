-- What a frame leaves where it did nothing to the window, and what of the port stays.
use Rattle.std.proofs.Common.{◌≡◌, ℕ, ◌⊎◌, Bool, refl, le_refl, inl, inr}
use Rattle.page_slots.specs.declared.stroke.StrokeName.{StrokeName}
use Rattle.tce_window.specs.PortState.{PortState, LaysNone, OnlyHolds}
use Rattle.rdma_copy.proofs.Laws.{same_later, same_grows}
use Rattle.lan_buffers.specs.declared.answers.Deliver.{Deliver}
use Rattle.lan_buffers.specs.declared.answers.Deliver.TheVariants.{NoSize, NoBuffer}
use Rattle.lan_buffers.specs.Answers.{LeavesWindow}
use Rattle.lan_buffers.specs.Calls.{OnlyDelivers, TakesBlank}
use Rattle.lan_buffers.specs.Port.{PortValue}

only_held : (is_shared : Bool) (window : PortState) → OnlyHolds is_shared window window
only_held is_shared window = record {
  place = refl;
  values = λ e. same_later is_shared (window.values e);
  in_use = le_refl window.in_use;
}

none_laid : (is_shared : Bool) (window : PortState) → LaysNone is_shared window window
none_laid is_shared window =
    record { strokes = λ p. same_grows is_shared (window.strokes p); laid = λ _ p. refl }

-- a dropped frame leaves the window alone
pub window_alone : (is_shared : Bool) (answer : Deliver) (window : PortState) → window.held_count ≡ 0
    → (answer ≡ NoSize) ⊎ (answer ≡ NoBuffer) → LeavesWindow is_shared answer window window
window_alone is_shared answer window free (inl e) =
    rw e (record { free = free; rest = only_held is_shared window; kept = none_laid is_shared window; counts = refl })
window_alone is_shared answer window free (inr e) =
    rw e (record { free = free; rest = only_held is_shared window; kept = none_laid is_shared window; counts = refl })

-- all but deliveries and counts is as it was
pub only_blank : (old new : PortValue) (post : ℕ) (name : StrokeName) → TakesBlank old post name new → OnlyDelivers old new
only_blank old new post name blank = record { rest = rw blank.rest refl }

pub only_same : (old new : PortValue) → new ≡ old → OnlyDelivers old new
only_same old new e = record { rest = rw e refl }
