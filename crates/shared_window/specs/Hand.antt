-- Pages of a shared window in the hand of a seat: they stand in a region of its own while it has them.
use Rattle.std.specs.Prelude.{◌≡◌, ℕ, ◌-◌, ◌%◌, ◌<◌, ◌≤◌, ◌==◌, ◌&&◌, nat_lt, if◌then◌else◌, Bool, true, false, List, ◌++◌, Option, Some, None, IsSome, length}
use Rattle.vio_num.specs.Words.{Begins, ReadsWord}
use Rattle.page_slots.specs.Page.{PageValue, AreWithinPage}
use Rattle.page_slots.specs.Stroke.{StrokeValue}
use Rattle.page_slots.specs.Seats.{PagesValue, PageSeatValue, saw, holds, laid_on, places_from}
use Rattle.page_slots.specs.Turns.{GivesPage}
use Rattle.tce_window.specs.declared.piece.Piece.{Piece}
use Rattle.tce_window.specs.Moved.{stroke_count}
use Rattle.tce_window.specs.Pieces.{on_page}
use Rattle.tce_window.specs.Window.{strokes_at}
use Rattle.shared_window.specs.declared.hand.FoundInUse.{FoundInUse}

-- the page has these strokes and maybe more, or it is not there
abbrev pub BeginsIn : List StrokeValue → Option (List StrokeValue) → Type 0
BeginsIn front (Some strokes) = Begins front strokes
BeginsIn front None = Unit {0}

-- each stroke that the seat saw lies within its page
abbrev pub SawWithin : PageSeatValue → Type 0
SawWithin seat = (p : ℕ) → AreWithinPage (saw seat p)

-- whether one of the pieces lies on page p, which is below this number
abbrev pub is_below : List Piece → (to p : ℕ) → Bool
is_below pieces to p = on_page pieces p && nat_lt p to

-- the first page, from this number on, that is below another and on which one of the pieces lies
pub record IsFirstOn (pieces : List Piece) (from to page : ℕ) : Type 0 where
  pub from_on : from ≤ page
  pub there : is_below pieces to page ≡ true
  pub before : (q : ℕ) → from ≤ q → q < page → is_below pieces to q ≡ false

-- this is that page, or there is none
abbrev pub IsNextOn : List Piece → ℕ → ℕ → Option ℕ → Type 0
IsNextOn pieces from to (Some page) = IsFirstOn pieces from to page
IsNextOn pieces from to None = (p : ℕ) → from ≤ p → is_below pieces to p ≡ false

-- A region, as long as the pages are many, with no page in it.
pub record IsEmptyFor (pages : PagesValue) (region : List (Option PageValue)) : Type 0 where
  pub size : length region ≡ pages.count
  pub away : (p : ℕ) → strokes_at region p ≡ None

-- Of the wanted pages each is in the region, with all that the seat now knows of it. None was in its hand before, and of
-- no other page anything was learnt.
pub record TakesPages (pages : PagesValue) (old : PageSeatValue) (is_wanted : ℕ → Bool) (new : PageSeatValue) (region : List (Option PageValue)) : Type 0 where
  pub ours : new.pages ≡ pages.id
  pub size : length region ≡ pages.count
  pub here : (p : ℕ) → strokes_at region p ≡ (if is_wanted p then Some (saw new p) else None)
  pub held : (p : ℕ) → holds new p ≡ (if is_wanted p then true else holds old p)
  pub free : (p : ℕ) → is_wanted p ≡ true → holds old p ≡ false
  pub seen : (p : ℕ) → Begins (saw old p) (saw new p)
  pub others : (p : ℕ) → is_wanted p ≡ false → saw new p ≡ saw old p
  pub laid : (p : ℕ) → laid_on new p ≡ laid_on old p
  pub count : old.last.count ≤ new.last.count

-- A wanted page is in use, by this word, the last one that was read. The hand is as before, and of what it has nothing
-- was learnt.
pub record FindsOneInUse (pages : PagesValue) (old : PageSeatValue) (pieces : List Piece) (found : FoundInUse) (new : PageSeatValue) (region : List (Option PageValue)) : Type 0 where
  pub empty : IsEmptyFor pages region
  pub ours : new.pages ≡ pages.id
  pub on : on_page pieces found.page ≡ true
  pub bit : found.word % 2 ≡ 1
  pub read : ReadsWord old.last new.last found.word
  pub held : (p : ℕ) → holds new p ≡ holds old p
  pub seen : (p : ℕ) → Begins (saw old p) (saw new p)
  pub others : (p : ℕ) → holds old p ≡ true → saw new p ≡ saw old p
  pub laid : (p : ℕ) → laid_on new p ≡ laid_on old p

-- what a seat knows of a page once it was given back, if it was in the region
abbrev pub given : Option (List StrokeValue) → List StrokeValue → List StrokeValue
given (Some strokes) seen = strokes
given None seen = seen

-- whether a seat holds a page still, if those in the region were given back
abbrev pub released : Option (List StrokeValue) → Bool → Bool
released (Some strokes) held = false
released None held = held

-- the places of the strokes that a page has behind those that the seat had seen
abbrev pub places_behind : List StrokeValue → Option (List StrokeValue) → List ℕ
places_behind seen strokes = places_from (length seen) (stroke_count strokes - length seen)

-- A page, and a hand in which it is not.
pub record IsOnePage (pages : PagesValue) (seat : PageSeatValue) (region : List (Option PageValue)) (number : ℕ) : Type 0 where
  pub ours : seat.pages ≡ pages.id
  pub size : length region ≡ pages.count
  pub inside : number < pages.count
  pub away : strokes_at region number ≡ None

-- The page is in the hand too, with all that the seat now knows of it.
pub record TakesOne (old : PageSeatValue) (before : List (Option PageValue)) (number : ℕ) (new : PageSeatValue) (after : List (Option PageValue)) : Type 0 where
  pub here : (p : ℕ) → strokes_at after p ≡ (if number == p then Some (saw new number) else strokes_at before p)
  pub size : length after ≡ length before
  pub free : holds old number ≡ false
  pub held : (p : ℕ) → holds new p ≡ (if p == number then true else holds old p)
  pub begins : Begins (saw old number) (saw new number)
  pub others : (p : ℕ) → (p == number) ≡ false → saw new p ≡ saw old p
  pub laid : (p : ℕ) → laid_on new p ≡ laid_on old p
  pub pages : new.pages ≡ old.pages
  pub count : old.last.count ≤ new.last.count

-- The page is in use, by this word, the last one that was read.
pub record FindsOne (old : PageSeatValue) (number : ℕ) (found : FoundInUse) (new : PageSeatValue) : Type 0 where
  pub page : found.page ≡ number
  pub bit : found.word % 2 ≡ 1
  pub read : ReadsWord old.last new.last found.word
  pub rest : new ≡ record old { last = new.last }

-- The page is in the hand no longer. The seat laid the strokes behind those that it had seen.
pub record GivesOne (old : PageSeatValue) (before : List (Option PageValue)) (number : ℕ) (new : PageSeatValue) (after : List (Option PageValue)) : Type 0 where
  pub strokes : List StrokeValue
  pub page : strokes_at before number ≡ Some strokes
  pub away : (p : ℕ) → strokes_at after p ≡ (if number == p then None else strokes_at before p)
  pub size : length after ≡ length before
  pub gives : GivesPage old number strokes new

-- The pages that the region has are in the hand of the seat, each with all that it had seen.
pub record HasInHand (pages : PagesValue) (seat : PageSeatValue) (region : List (Option PageValue)) : Type 0 where
  pub ours : seat.pages ≡ pages.id
  pub size : length region ≡ pages.count
  pub held : (p : ℕ) → IsSome (strokes_at region p) → holds seat p ≡ true
  pub more : (p : ℕ) → BeginsIn (saw seat p) (strokes_at region p)

-- The pages with these strokes are back in their slots. The seat laid those behind the ones that it had seen.
pub record GivesHand (old : PageSeatValue) (hand : ℕ → Option (List StrokeValue)) (new : PageSeatValue) : Type 0 where
  pub seen : (p : ℕ) → saw new p ≡ given (hand p) (saw old p)
  pub held : (p : ℕ) → holds new p ≡ released (hand p) (holds old p)
  pub laid : (p : ℕ) → laid_on new p ≡ laid_on old p ++ places_behind (saw old p) (hand p)
  pub pages : new.pages ≡ old.pages
  pub last : new.last ≡ old.last

-- The pages below `from` were given back of a hand that had these; the others are still in it.
pub record GivesUpTo (old : PageSeatValue) (hand : ℕ → Option (List StrokeValue)) (from : ℕ) (new : PageSeatValue) (left : ℕ → Option (List StrokeValue)) : Type 0 where
  pub seen : (p : ℕ) → p < from → saw new p ≡ given (hand p) (saw old p)
  pub held : (p : ℕ) → p < from → holds new p ≡ released (hand p) (holds old p)
  pub laid : (p : ℕ) → p < from → laid_on new p ≡ laid_on old p ++ places_behind (saw old p) (hand p)
  pub away : (p : ℕ) → p < from → left p ≡ None
  pub there : (p : ℕ) → from ≤ p → left p ≡ hand p
  pub seen_left : (p : ℕ) → from ≤ p → saw new p ≡ saw old p
  pub held_left : (p : ℕ) → from ≤ p → holds new p ≡ holds old p
  pub laid_left : (p : ℕ) → from ≤ p → laid_on new p ≡ laid_on old p
  pub pages : new.pages ≡ old.pages
  pub last : new.last ≡ old.last
