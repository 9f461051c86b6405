-- What contracts see of shared pages and of a seat at them.
use Rattle.std.specs.Prelude.{ℕ, zero, suc, ◌+◌, if◌then◌else◌, nat_lt, slice_index_or, Bool, false, List, [], ◌∷◌}
use Rattle.atomic_table.specs.Seated.{TableId}
use Rattle.vio_num.specs.Words.{WordRead}
use Rattle.page_slots.specs.Stroke.{StrokeValue}

pub record PagesValue : Type 0 where
  -- which pages they are, how many, and how many seats were opened at them
  pub id : TableId
  pub count : ℕ
  pub seats : ℕ

pub record PageSeatValue : Type 0 where
  -- the pages that it is a seat at
  pub pages : TableId
  -- the strokes of each page that it has seen, whether it is in its hand, and the places of those that it laid
  pub seen : List (List StrokeValue)
  pub held : List Bool
  pub laid : List (List ℕ)
  pub last : WordRead

-- the same of the page k
abbrev pub saw : PageSeatValue → ℕ → List StrokeValue
saw seat k = slice_index_or seat.seen k []

abbrev pub holds : PageSeatValue → ℕ → Bool
holds seat k = slice_index_or seat.held k false

abbrev pub laid_on : PageSeatValue → ℕ → List ℕ
laid_on seat k = slice_index_or seat.laid k []

-- so many places, from the first on
abbrev pub places_from : (first count : ℕ) → List ℕ
places_from first zero = []
places_from first (suc count) = first ∷ places_from (first + 1) count

-- places in rising order with one more among them
abbrev pub with_place : ℕ → List ℕ → List ℕ
with_place place [] = place ∷ []
with_place place (other ∷ places) = if nat_lt place other then place ∷ other ∷ places else other ∷ with_place place places

-- the places of two seats in one rising order
abbrev pub joined : List ℕ → List ℕ → List ℕ
joined [] places = places
joined (place ∷ more) places = with_place place (joined more places)

-- the places of all these seats in one rising order
abbrev pub together : List (List ℕ) → List ℕ
together [] = []
together (places ∷ []) = places
together (places ∷ other ∷ more) = joined places (together (other ∷ more))
