-- What one name wrote last on a page.
use Rattle.std.specs.Prelude.{◌≡◌, ℕ, ◌+◌, ◌-◌, ◌*◌, ◌<◌, ◌≤◌, ◌==◌, ◌&&◌, nat_le, nat_lt, Bool, true, false, List, [], ◌∷◌, ◌++◌, Option, Some, None, length, fold, min, if◌then◌else◌}
use Rattle.std.specs.List.{list_any}
use Rattle.vio_num.specs.declared.TheConstants.{PAGE_BYTES}
use Rattle.page_slots.specs.Stroke.{StrokeValue}
use Rattle.page_slots.specs.declared.stroke.StrokeName.{StrokeName}

abbrev pub same_name : StrokeName → StrokeName → Bool
same_name a b = a.who.partition == b.who.partition && (a.who.unit == b.who.unit && a.mark == b.mark)

-- the strokes of this name behind the last one of another name
abbrev pub last_run : StrokeName → List StrokeValue → List StrokeValue
last_run name strokes =
    fold (λ run stroke. if same_name stroke.name name then run ++ stroke ∷ [] else []) [] strokes

-- the last name on the page that is another one
abbrev pub last_other : StrokeName → List StrokeValue → Option StrokeName
last_other name strokes =
    fold (λ found stroke. if same_name stroke.name name then found else Some stroke.name) None strokes

-- whether the stroke covers place k of its page
abbrev pub covers : ℕ → StrokeValue → Bool
covers k stroke = nat_le stroke.offset k && nat_lt k (stroke.offset + length stroke.bytes)

-- the last strokes of this name cover the places from here to there, or leave one uncovered
abbrev pub IsCovered : List StrokeValue → ℕ → ℕ → Type 0
IsCovered run from to = (k : ℕ) → from ≤ k → k < to → list_any (covers k) run ≡ true

abbrev pub IsUncovered : List StrokeValue → ℕ → ℕ → Type 0
IsUncovered run from to = (k : ℕ) × (from ≤ k) × (k < to) × (list_any (covers k) run ≡ false)

-- on a page with these strokes the last ones are of this name and cover the places from here to there
abbrev pub IsFresh : StrokeName → ℕ → ℕ → Option (List StrokeValue) → Type 0
IsFresh name from to (Some strokes) = IsCovered (last_run name strokes) from to
IsFresh name from to None = ⊥

-- they do not, and the last stroke of another name has this one, if there is one
abbrev pub IsStale : StrokeName → ℕ → ℕ → Option StrokeName → Option (List StrokeValue) → Type 0
IsStale name from to found (Some strokes) =
    IsUncovered (last_run name strokes) from to × (found ≡ last_other name strokes)
IsStale name from to found None = ⊥

-- the places of page p in a range of addresses, from the first to behind the last
abbrev pub from_place : ℕ → ℕ → ℕ
from_place at p = at - PAGE_BYTES * p

abbrev pub to_place : ℕ → ℕ → ℕ → ℕ
to_place at len p = min (at + len - PAGE_BYTES * p) PAGE_BYTES

-- so it is on each of these pages, for the places of a range of addresses
abbrev pub AreFresh : StrokeName → ℕ → ℕ → (ℕ → Option (List StrokeValue)) → ℕ → ℕ → Type 0
AreFresh name at len strokes first end =
    (p : ℕ) → first ≤ p → p < end → IsFresh name (from_place at p) (to_place at len p) (strokes p)

-- the first of these pages on which it is not so, and the last other name there
pub record IsFirstStale (name : StrokeName) (at len : ℕ) (strokes : ℕ → Option (List StrokeValue)) (first end page : ℕ) (found : Option StrokeName) : Type 0 where
  pub from : first ≤ page
  pub below : page < end
  pub stale : IsStale name (from_place at page) (to_place at len page) found (strokes page)
  pub before : AreFresh name at len strokes first page
