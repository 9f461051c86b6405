-- How what one seat knows is cut in two, and what two know is made one.
use Rattle.std.specs.Prelude.{◌+◌, ◌-◌, ℕ, List, [], ◌∷◌, ◌++◌, length, replicate, false, None}
use Rattle.page_slots.specs.Seats.{joined}
use Rattle.page_slots.specs.declared.view.PageView.{PageView}

-- a seat without one of the seats that it stands for, and that seat, which has laid nothing
abbrev pub remaining : PageView → PageView
remaining v = record v { share = v.share - 1 }

abbrev pub another : PageView → PageView
another v = record v {
  share = 1;
  carried = None;
  held = replicate (length v.held) false;
  laid = replicate (length v.laid) [];
  told = [];
}

-- the places of two seats, page by page
abbrev pub joined_all : List (List ℕ) → List (List ℕ) → List (List ℕ)
joined_all [] more = more
joined_all (a ∷ rest) [] = a ∷ rest
joined_all (a ∷ rest) (b ∷ more) = joined a b ∷ joined_all rest more

-- a seat to which another is joined
abbrev pub with_seat : PageView → PageView → PageView
with_seat v w = record v { share = v.share + w.share; laid = joined_all w.laid v.laid; told = w.seen ∷ (w.told ++ v.told) }

abbrev pub spent : PageView
spent = record { share = 0; carried = None; seen = []; held = []; laid = []; told = []; reads = 0; word = 0 }
