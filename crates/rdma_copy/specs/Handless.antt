-- A range of which no page is in hand.
use Rattle.std.specs.Prelude.{ℕ, true, List, Option, Some, None}
use Rattle.page_slots.specs.Stroke.{StrokeValue}
use Rattle.tce_window.specs.Held.{HeldValue, held_strokes}
use Rattle.tce_window.specs.Moved.{Follows}
use Rattle.tce_window.specs.Port.{Grows}

abbrev pub IsAbsent : Option (List StrokeValue) → Type 0
IsAbsent (Some strokes) = ⊥
IsAbsent None = Unit {0}

abbrev pub HasNoPage : HeldValue → Type 0
HasNoPage held = (p : ℕ) → IsAbsent (held_strokes held.pages p)

absent_still : (old new : Option (List StrokeValue)) → Grows true old new → IsAbsent old → IsAbsent new
absent_still (Some old) new grown none = absurd none
absent_still None (Some new) grown none = absurd grown
absent_still None None grown none = tt

-- a write adds none
pub no_page_still : (old new : HeldValue) → Follows old new → HasNoPage old → HasNoPage new
no_page_still old new follows none = λ p. absent_still (held_strokes old.pages p) (held_strokes new.pages p) (follows.pages p) (none p)
