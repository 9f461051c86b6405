-- What the owner and a guest of a window know of it, and how that grows.
use Rattle.std.specs.Prelude.{◌≡◌, ℕ, ◌+◌, ◌<◌, ◌≤◌, Bool, true, false, List, Option, Some, None, Result, Err, length}
use Rattle.vio_num.specs.Counts.{Rose}
use Rattle.vio_num.specs.Words.{Begins}
use Rattle.page_slots.specs.Stroke.{StrokeValue}
use Rattle.page_slots.specs.declared.stroke.StrokeName.{StrokeName}
use Rattle.tce_window.specs.declared.answers.TceAnswer.{TceAnswer}
use Rattle.tce_window.specs.declared.answers.TceAnswer.TheVariants.{Busy}
use Rattle.tce_window.specs.declared.answers.OwnFault.{OwnFault}
use Rattle.tce_window.specs.declared.answers.OwnFault.TheVariants.{InUse as OwnInUse}
use Rattle.tce_window.specs.declared.answers.NamedFault.{NamedFault}
use Rattle.tce_window.specs.declared.answers.NamedFault.TheVariants.{InUse as NamedInUse}
use Rattle.tce_window.specs.declared.answers.HoldFault.{HoldFault}
use Rattle.tce_window.specs.declared.answers.HoldFault.TheVariants.{InUse as HeldInUse}
use Rattle.tce_window.specs.Region.{written}

-- a list as it is found later: with more behind where the window is shared, and else as it was
abbrev pub Later : {X : Type 0} → (is_shared : Bool) → List X → List X → Type 0
Later {X} true old new = Begins old new
Later {X} false old new = new ≡ old

-- what is known of a page later, where this port laid nothing on it; a page that the port holds is told by
-- what holds it
abbrev pub Grows : (is_shared : Bool) → Option (List StrokeValue) → Option (List StrokeValue) → Type 0
Grows is_shared (Some old) (Some new) = Later is_shared old new
Grows is_shared None None = Unit {0}
Grows is_shared _ _ = ⊥

-- a page that is held has the strokes that were known of it, and those laid since
abbrev pub TakenOver : (is_shared : Bool) → Option (List StrokeValue) → Option (List StrokeValue) → Option (List StrokeValue) → Type 0
TakenOver is_shared old (Some held) new = Grows is_shared old (Some held) × (new ≡ None)
TakenOver is_shared old None new = Grows is_shared old new

-- a write lays its strokes on what the page then has
pub record IsWritten (is_shared : Bool) (name : StrokeName) (at : ℕ) (bytes : List ℕ) (p : ℕ) (old new : Option (List StrokeValue)) : Type 0 where
  pub before : Option (List StrokeValue)
  pub grown : Grows is_shared old before
  pub laid : new ≡ written name at bytes p before

-- the count of words read in use: it rose where the answer says so, and else stands still
abbrev pub CountsPut : TceAnswer → ℕ → ℕ → Type 0
CountsPut (Busy entry pins done) before after = Rose before after
CountsPut _ before after = after ≡ before

abbrev pub CountsOwn : {T : Type 0} → Result T OwnFault → ℕ → ℕ → Type 0
CountsOwn (Err (OwnInUse page word)) before after = Rose before after
CountsOwn _ before after = after ≡ before

abbrev pub CountsNamed : {T : Type 0} → Result T NamedFault → ℕ → ℕ → Type 0
CountsNamed (Err (NamedInUse page word)) before after = Rose before after
CountsNamed _ before after = after ≡ before

abbrev pub CountsHold : {T : Type 0} → Result T HoldFault → ℕ → ℕ → Type 0
CountsHold (Err (HeldInUse page word)) before after = Rose before after
CountsHold _ before after = after ≡ before

-- a refusal that names a page in use names what the port found: that page, and that word of it
abbrev pub NamesFound : (ℕ → ℕ → Type 0) → HoldFault → Type 0
NamesFound found (HeldInUse page word) = found page word
NamesFound found _ = Unit {0}

-- of a list that is put from this entry on, the value at `done` met an entry with pins
pub record IsBusy (first : ℕ) (list : List ℕ) (entry pins done : ℕ) : Type 0 where
  pub place : entry ≡ first + done
  pub below : done < length list
  pub pinned : 1 ≤ pins
