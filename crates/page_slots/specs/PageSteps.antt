-- What each kind of step on a page's turn word tells the seat that makes it.
use Rattle.std.specs.Prelude.{◌≡◌, ℕ, ◌+◌, ◌-◌, ◌⊎◌, true, false, List, [], ◌∷◌, ◌++◌, length, slice_set, Option, None, Some}
use Rattle.atomic_table.specs.Table.{Me, Step}
use Rattle.page_slots.specs.Page.{PageValue}
use Rattle.page_slots.specs.Stroke.{StrokeValue}
use Rattle.vio_num.specs.Words.{Begins}
use Rattle.page_slots.specs.Seats.{places_from}
use Rattle.page_slots.specs.PageRule.{Slot, seen_of, held_of, laid_of}
use Rattle.page_slots.specs.declared.view.PageView.{PageView}

abbrev pub Seated : Type 0
Seated = Me Slot PageView

-- the slots that are out with a seat between two calls: none, or an empty one
abbrev pub out_with : Option ℕ → List (ℕ × Slot)
out_with None = []
out_with (Some k) = (k, None) ∷ []

-- the strokes of the page in the slot that is out
abbrev pub strokes_out : List (ℕ × Slot) → List StrokeValue
strokes_out [] = []
strokes_out ((k, None) ∷ more) = []
strokes_out ((k, Some page) ∷ more) = page.strokes

-- the seat read this word, on which an answer may rest
abbrev pub reading : PageView → ℕ → PageView
reading v word = record v { reads = v.reads + 1; word = word }

-- the page k is in its hand, with these strokes
abbrev pub taking : PageView → ℕ → List StrokeValue → PageView
taking v k strokes = record v { carried = Some k; seen = slice_set v.seen k strokes; held = slice_set v.held k true; reads = v.reads + 1; word = 0 }

-- the page k, with these strokes, is no longer in its hand: those behind the ones that it had seen it laid
abbrev pub giving : PageView → ℕ → List StrokeValue → PageView
giving v k strokes = record v {
  carried = None;
  seen = slice_set v.seen k strokes;
  held = slice_set v.held k false;
  laid = slice_set v.laid k (laid_of v k ++ places_from (length (seen_of v k)) (length strokes - length (seen_of v k)));
}

-- The turn was free: the page is in this hand, and begins with all that the seat had seen of it.
pub record TakesTurn (k : ℕ) (m m' : Seated) : Type 0 where
  pub page : PageValue
  pub begins : Begins (seen_of m.0 k) page.strokes
  pub none_held : held_of m.0 k ≡ false
  pub after : m' ≡ (taking m.0 k page.strokes, (k, Some page) ∷ [])

-- The setting of bit 0 of a turn word.
abbrev pub turned : Step Slot → Seated → ℕ → Seated → Type 0
turned st m word m' =
    ((word ≡ 1) × (m' ≡ (reading m.0 1, m.1))) ⊎ ((word ≡ 0) × TakesTurn st.word m m')

-- The load of the turn word of a page in hand, at which its empty slot is taken out again.
abbrev pub reached : Step Slot → Seated → ℕ → Seated → Type 0
reached st m word m' = m' ≡ (record m.0 { carried = Some st.word }, (st.word, None) ∷ [])

-- The clearing of bit 0 of a turn word, at which the page in the slot that is out goes home.
abbrev pub returned : Step Slot → Seated → ℕ → Seated → Type 0
returned st m word m' = m' ≡ (giving m.0 st.word (strokes_out m.1), [])
