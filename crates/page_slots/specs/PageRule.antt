-- The rule of a table of pages: what its turn words, its slots and what its seats know have to meet, at every
-- moment.
use Rattle.std.specs.Prelude.{◌≡◌, ℕ, zero, suc, ◌+◌, ◌<◌, ◌⊎◌, ◌==◌, if◌then◌else◌, Bool, true, false, List, [], ◌∷◌, length, slice_index, slice_index_or, replicate, Option, None, Some}
use Rattle.std.specs.List.{All}
use mathlib.Core.Option.{some}
use mathlib.Core.Option as home
use lib.ListN.{get_elem?}
use Rattle.atomic_table.specs.Seated.{TableId}
use Rattle.atomic_table.specs.Table.{State}
use Rattle.atomic_table.specs.declared.shared.Seat.{Seat}
use Rattle.page_slots.specs.Page.{PageValue}
use Rattle.page_slots.specs.Stroke.{StrokeValue}
use Rattle.vio_num.specs.Words.{Begins}
use Rattle.page_slots.specs.declared.view.PageView.{PageView}
use Rattle.page_slots.specs.declared.view.PagesKey.{PagesKey}

-- a slot has a page in it, or none
abbrev pub Slot : Type 0
Slot = Option PageValue

-- What is so of one page at a moment.
pub record PageNow : Type 0 where
  -- every stroke on it, wherever it is
  pub history : List StrokeValue
  -- the seat in whose hand it is, where its turn is taken
  pub holder : ℕ
  -- the seat that laid the stroke at each place
  pub author : ℕ → ℕ

abbrev pub seen_of : PageView → ℕ → List StrokeValue
seen_of v k = slice_index_or v.seen k []

abbrev pub held_of : PageView → ℕ → Bool
held_of v k = slice_index_or v.held k false

abbrev pub laid_of : PageView → ℕ → List ℕ
laid_of v k = slice_index_or v.laid k []

-- whether the slot k is the one that is out
abbrev pub carries : Option ℕ → ℕ → Bool
carries None k = false
carries (Some slot) k = slot == k

-- of so many places from the first on, those whose author is the seat j
abbrev pub laid_by : (j : ℕ) (author : ℕ → ℕ) (first count : ℕ) → List ℕ
laid_by j author first zero = []
laid_by j author first (suc count) =
    if author first == j then first ∷ laid_by j author (first + 1) count else laid_by j author (first + 1) count

-- The turn word of a page is 0 or 1. Where it is 0 the page stands in its slot.
pub record Stands (word : ℕ) (home : home.Option (home.Option Slot)) (page : PageNow) : Type 0 where
  pub bit : (word ≡ 0) ⊎ (word ≡ 1)
  pub stands : word ≡ 0 → (value : PageValue) × (home ≡ some (some (Some value))) × (value.strokes ≡ page.history)

module _ (j : ℕ) (v : PageView) (k word : ℕ) (home : home.Option (home.Option Slot)) (page : PageNow) where
  -- What is so where the page k is in the hand of the seat j: its turn is taken, the seat has seen all its
  -- strokes, and its slot is empty, and at home unless the seat carries it.
  pub record Holds : Type 0 where
    pub holder_is : page.holder ≡ j
    pub taken : word ≡ 1
    pub all_seen : seen_of v k ≡ page.history
    pub empty : carries v.carried k ≡ false → home ≡ some (some None)
    pub shared : 0 < v.share

  -- What the seat j knows of the page k: some first strokes of it, and the places of all those that it laid.
  pub record KnowsPage : Type 0 where
    pub seen : Begins (seen_of v k) page.history
    pub told : All (λ seen. Begins (slice_index_or seen k []) page.history) v.told
    pub laid : laid_of v k ≡ laid_by j page.author 0 (length page.history)
    pub holds : held_of v k ≡ true → Holds

-- the view is of n pages, and the slot that is out is that of a page in its hand
pub record IsSized (n : ℕ) (v : PageView) : Type 0 where
  pub seen : length v.seen ≡ n
  pub held : length v.held ≡ n
  pub laid : length v.laid ≡ n
  pub carried : (k : ℕ) → v.carried ≡ Some k → (k < n) × (held_of v k ≡ true)

abbrev pub all_shares : List PageView → ℕ
all_shares [] = 0
all_shares (v ∷ vs) = v.share + all_shares vs

-- the seat j was opened, and was not joined to another
abbrev pub IsSeat : List PageView → ℕ → Type 0
IsSeat views j = (v : PageView) × (get_elem? views j ≡ some v) × (0 < v.share)

-- the page k is in the hand of the seat j
abbrev pub IsHeld : List PageView → ℕ → ℕ → Type 0
IsHeld views k j = (v : PageView) × (get_elem? views j ≡ some v) × (held_of v k ≡ true)

-- Each page stands in its slot or is in one hand, and what each seat knows is so.
pub record InTurn (n seats : ℕ) (s : State Slot PageView) : Type 0 where
  pub now : ℕ → PageNow
  pub words : length s.words ≡ n
  pub homes : length s.homes ≡ n
  pub shares : all_shares s.views ≡ seats
  pub each_page : (k : ℕ) → k < n → Stands (slice_index s.words k) (get_elem? s.homes k) (now k)
  pub holders : (k : ℕ) → k < n → slice_index s.words k ≡ 1 → IsHeld s.views k (now k).holder
  pub authors : (k : ℕ) → k < n → (i : ℕ) → i < length (now k).history → IsSeat s.views ((now k).author i)
  pub each_size : (j : ℕ) (v : PageView) → get_elem? s.views j ≡ some v → 0 < v.share → IsSized n v
  pub each_seat : (j : ℕ) (v : PageView) → get_elem? s.views j ≡ some v → (k : ℕ) → k < n
      → KnowsPage j v k (slice_index s.words k) (get_elem? s.homes k) (now k)

abbrev pub key_holds : PagesKey → State Slot PageView → Type 0
key_holds key = InTurn key.pages key.seats

-- the first seat, which stands for all that are to be opened
abbrev pub opened : PagesKey → PageView
opened key = record {
  share = key.seats;
  carried = None;
  seen = replicate key.pages [];
  held = replicate key.pages false;
  laid = replicate key.pages [];
  told = [];
  reads = 0;
  word = 0;
}

-- a page of zeros, and so many slots with one each
abbrev pub blank_page : PageValue
blank_page = record { strokes = []; spare = 0 }

abbrev pub blank_slots : ℕ → List Slot
blank_slots n = replicate n (Some blank_page)

-- A seat at a table of n pages that stands for so many that are to be opened, with no step behind it.
pub record IsUnused (table : TableId) (n share : ℕ) (seat : Seat Slot PageView) : Type 0 where
  pub table_is : seat.table_id ≡ table
  pub me : seat.me ≡ (opened (record { pages = n; seats = share }), [])
