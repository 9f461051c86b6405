-- What the calls of shared pages leave of a seat.
use Rattle.std.specs.Prelude.{◌≡◌, ℕ, ◌-◌, ◌%◌, ◌<◌, ◌==◌, if◌then◌else◌, true, false, List, [], ◌++◌, length, map, slice_index_or}
use Rattle.std.specs.List.{All}
use Rattle.page_slots.specs.Page.{PageValue}
use Rattle.page_slots.specs.Stroke.{StrokeValue}
use Rattle.page_slots.specs.declared.pages.Take.{Take}
use Rattle.page_slots.specs.declared.pages.Take.TheVariants.{Taken, InUse}
use Rattle.vio_num.specs.Words.{Begins, ReadsWord}
use Rattle.page_slots.specs.Seats.{PagesValue, PageSeatValue, saw, holds, laid_on, places_from, together}

-- A new seat, which has seen nothing, holds nothing and laid nothing.
pub record IsFresh (pages : PagesValue) (seat : PageSeatValue) : Type 0 where
  pub ours : seat.pages ≡ pages.id
  pub seen : (k : ℕ) → saw seat k ≡ []
  pub held : (k : ℕ) → holds seat k ≡ false
  pub laid : (k : ℕ) → laid_on seat k ≡ []
  pub count : seat.last.count ≡ 0

-- New pages, so many of them, with so many seats.
pub record OpensPages (count seats : ℕ) (pages : PagesValue) (list : List PageSeatValue) : Type 0 where
  pub count_is : pages.count ≡ count
  pub seats_is : pages.seats ≡ seats
  pub all_seats : length list ≡ seats
  pub fresh : All (IsFresh pages) list

-- The page was in no hand and is in this one. It begins with all that the seat had seen of it.
pub record TakesPage (old : PageSeatValue) (k : ℕ) (page : PageValue) (new : PageSeatValue) : Type 0 where
  pub begins : Begins (saw old k) page.strokes
  pub none_held : holds old k ≡ false
  pub seen : (j : ℕ) → saw new j ≡ (if j == k then page.strokes else saw old j)
  pub held : (j : ℕ) → holds new j ≡ (if j == k then true else holds old j)
  pub read : ReadsWord old.last new.last 0

-- The turn word, which was read, shows the page taken: its bit 0 is on. Nothing else changed.
pub record FindsTaken (old : PageSeatValue) (word : ℕ) (new : PageSeatValue) : Type 0 where
  pub bit : word % 2 ≡ 1
  pub read : ReadsWord old.last new.last word
  pub rest : new ≡ record old { last = new.last }

abbrev pub IfTaken : Take → (PageValue → Type 0) → Type 0
IfTaken (Taken page) P = P page
IfTaken (InUse word) P = Unit {0}

abbrev pub IfInUse : Take → (ℕ → Type 0) → Type 0
IfInUse (Taken page) P = Unit {0}
IfInUse (InUse word) P = P word

-- A take changed nothing of the seat but what it has seen, what it holds and the word that it read.
pub record OnlyTakesTurn (old new : PageSeatValue) : Type 0 where
  pub pages : new.pages ≡ old.pages
  pub laid : (j : ℕ) → laid_on new j ≡ laid_on old j

-- The page, with these strokes, is in the hand no longer. The seat laid those behind the ones that it had seen.
pub record GivesPage (old : PageSeatValue) (k : ℕ) (strokes : List StrokeValue) (new : PageSeatValue) : Type 0 where
  pub seen : (j : ℕ) → saw new j ≡ (if j == k then strokes else saw old j)
  pub held : (j : ℕ) → holds new j ≡ (if j == k then false else holds old j)
  pub laid : (j : ℕ) → laid_on new j ≡ (if j == k
      then laid_on old k ++ places_from (length (saw old k)) (length strokes - length (saw old k))
      else laid_on old j)
  pub rest : new ≡ record old { seen = new.seen; held = new.held; laid = new.laid }

-- A seat at these pages with an empty hand.
pub record IsIdle (pages : PagesValue) (seat : PageSeatValue) : Type 0 where
  pub ours : seat.pages ≡ pages.id
  pub none_held : (k : ℕ) → k < pages.count → holds seat k ≡ false

-- All seats at these pages, with empty hands.
pub record AreAll (pages : PagesValue) (seats : List PageSeatValue) : Type 0 where
  pub count : length seats ≡ pages.seats
  pub ours : All (λ seat. seat.pages ≡ pages.id) seats
  pub none_held : All (λ seat. (k : ℕ) → k < pages.count → holds seat k ≡ false) seats

-- The page k in the end: it begins with all that each seat had seen, and each of its strokes was laid by one
-- of them.
pub record IsOfSeats (seats : List PageSeatValue) (k : ℕ) (strokes : List StrokeValue) : Type 0 where
  pub seen : All (λ seat. Begins (saw seat k) strokes) seats
  pub laid : together (map (λ seat. laid_on seat k) seats) ≡ places_from 0 (length strokes)

pub record ClosesPages (pages : PagesValue) (seats : List PageSeatValue) (list : List PageValue) : Type 0 where
  pub count : length list ≡ pages.count
  pub each : (k : ℕ) → k < pages.count → IsOfSeats seats k (slice_index_or (map (λ page. page.strokes) list) k [])
