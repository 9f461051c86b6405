-- Fronts of a page's strokes, behind which none of a unit's own bears a mark that is not so.
use Rattle.std.proofs.Common.{◌≡◌, ◌∙◌, ◌++◌, ◌⊎◌, inl, inr, ℕ, true, Contains, IsSome, List, [], Option, Some, None, append-nil, append_assoc, sym, ap, subst}
use Rattle.std.proofs.lemmas.List.Elements.{All-append, All-contains, All-nil, All-weaker, Contains-append_cases}
use Rattle.vio_num.specs.declared.names.UnitId.{UnitId}
use Rattle.page_slots.specs.Stroke.{StrokeValue}
use Rattle.tce_window.specs.Port.{Grows}
use Rattle.unit_region.specs.RegionLines.{AreRead, IsFront, IsFrontOn, IsFrontWith, IsOn, region_once, region_seen}
use Rattle.unit_region.proofs.RegionTold.{front_of}

pub front_self : (unit : UnitId) (allowed : ℕ → Type 0) (strokes : List StrokeValue) → IsFrontWith unit allowed strokes strokes
front_self unit allowed strokes = record { rest = []; is = sym (append-nil strokes); later = All-nil (λ (stroke : StrokeValue). stroke.name.who ≡ unit → allowed stroke.name.mark) }

pub front_then : (unit : UnitId) (allowed : ℕ → Type 0) (a b c : List StrokeValue) → IsFrontWith unit allowed a b → IsFrontWith unit allowed b c
    → IsFrontWith unit allowed a c
front_then unit allowed a b c x y = record {
  rest = x.rest ++ y.rest;
  is = y.is ∙ ap (λ (front : List StrokeValue). front ++ y.rest) x.is ∙ append_assoc a x.rest y.rest;
  later = All-append (λ (stroke : StrokeValue). stroke.name.who ≡ unit → allowed stroke.name.mark) x.rest y.rest x.later y.later;
}

-- a mark that is so is so in another way, too
pub front_as : (unit : UnitId) (allowed wider : ℕ → Type 0) (a b : List StrokeValue) → ((mark : ℕ) → allowed mark → wider mark)
    → IsFrontWith unit allowed a b → IsFrontWith unit wider a b
front_as unit allowed wider a b more x = record {
  rest = x.rest;
  is = x.is;
  later = All-weaker (λ (stroke : StrokeValue). stroke.name.who ≡ unit → allowed stroke.name.mark)
      (λ (stroke : StrokeValue). stroke.name.who ≡ unit → wider stroke.name.mark) (λ stroke h own. more stroke.name.mark (h own)) x.rest x.later;
}

-- ---- the same of pages

pub on_self : (unit : UnitId) (allowed : ℕ → Type 0) (page : Option (List StrokeValue)) → IsFrontOn unit allowed page page
on_self unit allowed (Some strokes) = front_self unit allowed strokes
on_self unit allowed None = tt

pub on_then : (unit : UnitId) (allowed : ℕ → Type 0) (a b c : Option (List StrokeValue)) → IsFrontOn unit allowed a b → IsFrontOn unit allowed b c
    → IsFrontOn unit allowed a c
on_then unit allowed (Some a) (Some b) (Some c) x y = front_then unit allowed a b c x y
on_then unit allowed (Some a) (Some b) None x y = absurd y
on_then unit allowed (Some a) None c x y = absurd x
on_then unit allowed None (Some b) c x y = absurd x
on_then unit allowed None None (Some c) x y = absurd y
on_then unit allowed None None None x y = tt

pub on_as : (unit : UnitId) (allowed wider : ℕ → Type 0) (a b : Option (List StrokeValue)) → ((mark : ℕ) → allowed mark → wider mark)
    → IsFrontOn unit allowed a b → IsFrontOn unit wider a b
on_as unit allowed wider (Some a) (Some b) more x = front_as unit allowed wider a b more x
on_as unit allowed wider (Some a) None more x = absurd x
on_as unit allowed wider None (Some b) more x = absurd x
on_as unit allowed wider None None more x = tt

-- what is there of a page's front
pub on_front : (unit : UnitId) (allowed : ℕ → Type 0) (a b : Option (List StrokeValue)) → IsSome a → IsFrontOn unit allowed a b → IsFront a b
on_front unit allowed (Some a) (Some b) there x = (x.rest, x.is)
on_front unit allowed (Some a) None there x = absurd x
on_front unit allowed None b there x = absurd (cc (there))

pub on_grows : (unit : UnitId) (allowed : ℕ → Type 0) (a b : Option (List StrokeValue)) → IsFrontOn unit allowed a b → Grows true a b
on_grows unit allowed (Some a) (Some b) x = (x.rest, x.is)
on_grows unit allowed (Some a) None x = absurd x
on_grows unit allowed None (Some b) x = absurd x
on_grows unit allowed None None x = tt

-- what is read now is what was read once
pub once_read : (strokes : ℕ → Option (List StrokeValue)) (at : ℕ) (bytes : List ℕ) → AreRead (region_seen strokes) at bytes → AreRead (region_once strokes) at bytes
once_read strokes at bytes is = record {
  fronts = is.fronts;
  there = λ page here. let exact = is.there page here in subst (IsFront (is.fronts page)) exact.0 (front_of (is.fronts page) exact.1);
  read = is.read;
}

-- a stroke of the unit's own is one of the front, or its mark is so
pub on_cases : (unit : UnitId) (allowed : ℕ → Type 0) (a b : Option (List StrokeValue)) (stroke : StrokeValue) → IsFrontOn unit allowed a b → IsOn stroke b
    → stroke.name.who ≡ unit → IsOn stroke a ⊎ allowed stroke.name.mark
on_cases unit allowed (Some a) (Some b) stroke x on own = by (Contains-append_cases a x.rest stroke (subst (λ (list : List StrokeValue). Contains list stroke) x.is on))
  where
    by : Contains a stroke ⊎ Contains x.rest stroke → Contains a stroke ⊎ allowed stroke.name.mark
    by (inl front) = inl front
    by (inr rest) = inr (All-contains (λ (s : StrokeValue). s.name.who ≡ unit → allowed s.name.mark) x.rest stroke x.later rest own)
on_cases unit allowed (Some a) None stroke x on own = absurd x
on_cases unit allowed None (Some b) stroke x on own = absurd x
on_cases unit allowed None None stroke x on own = absurd on
