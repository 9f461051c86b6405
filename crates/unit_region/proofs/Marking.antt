-- Which strokes lines and calls in a unit's own region lay.
use Rattle.std.proofs.Common.{◌≡◌, ◌∙◌, cond, ℕ, Bool, true, false, All, List, [], ◌∷◌, Option, Some, None, Result, Ok, Err, IfOk, OnOk, OnErr, append-nil, length, refl, sym, ap, subst}
use Rattle.std.proofs.lemmas.List.Elements.{All-cons, All-nil}
use Rattle.vio_num.specs.declared.hypervisor.Moved.{Moved}
use Rattle.vio_num.specs.declared.memory.NoMemory.{NoMemory}
use Rattle.vio_num.specs.declared.names.UnitId.{UnitId}
use Rattle.page_slots.specs.Stroke.{StrokeValue}
use Rattle.page_slots.specs.declared.stroke.StrokeName.{StrokeName}
use Rattle.tce_window.specs.declared.answers.OwnFault.{OwnFault}
use Rattle.tce_window.specs.Port.{Grows, IsWritten}
use Rattle.tce_window.specs.PortState.{LaysNone, OnlyPuts, OnlyReads, PortState, Writes}
use Rattle.tce_window.specs.Region.{stroke_on, touches}
use Rattle.tce_window.specs.Strokes.{with_strokes}
use Rattle.vio_trace.specs.declared.outcome.Outcome.{Outcome}
use Rattle.vio_trace.specs.declared.outcome.Outcome.TheVariants as outcomes
use Rattle.unit_region.specs.Marks.{LaysJust, LaysNoStroke, LaysUnder, has_done, result_wrote, placed_stroke, wrote_on}
use Rattle.unit_region.specs.RegionLines.{IsFrontOn, Placed}
use Rattle.unit_region.specs.declared.step.Step.{Step}
use Rattle.unit_region.specs.declared.step.Step.TheVariants as steps
use Rattle.unit_region.proofs.Fronts.{on_self}

-- nothing was laid on a page
same_page : (old new : Option (List StrokeValue)) → Grows false old new → new ≡ old
same_page (Some old) (Some new) grown = ap Some grown
same_page (Some old) None grown = absurd grown
same_page None (Some new) grown = absurd grown
same_page None None grown = refl

pub learns_none : (shared : Bool) (old new : PortState) → ((p : ℕ) → Grows shared (old.strokes p) (new.strokes p)) → LaysNoStroke shared old new
learns_none shared old new learns e p =
    same_page (old.strokes p) (new.strokes p) (subst (λ b. Grows b (old.strokes p) (new.strokes p)) e (learns p))

pub puts_none : (shared : Bool) (old mid new : PortState) → mid ≡ old → OnlyPuts mid new → LaysNoStroke shared old new
puts_none shared old mid new same rest e p =
    ap (λ (s : ℕ → Option (List StrokeValue)). s p) rest.strokes ∙ ap (λ (port : PortState). port.strokes p) same

pub reads_none : (shared : Bool) (old new : PortState) → OnlyReads shared old new → LaysNoStroke shared old new
reads_none shared old new rest = learns_none shared old new rest.strokes

pub none_then : (shared : Bool) (old mid new : PortState) → LaysNoStroke shared old mid → LaysNoStroke shared mid new → LaysNoStroke shared old new
none_then shared old mid new first next e p = next e p ∙ first e p

pub none_under : (shared : Bool) (mark : ℕ) (old new : PortState) → LaysNoStroke shared old new → LaysUnder shared mark old new
none_under shared mark old new none e p =
    subst (IsFrontOn old.place.unit (λ m. m ≡ mark) (old.strokes p)) (sym (none e p)) (on_self old.place.unit (λ m. m ≡ mark) (old.strokes p))

-- ---- what was laid

pub with_none : (page : Option (List StrokeValue)) → with_strokes page [] ≡ page
with_none (Some strokes) = ap Some (append-nil strokes)
with_none None = refl

none_just : (page now : Option (List StrokeValue)) → now ≡ page → now ≡ with_strokes page []
none_just page now same = same ∙ sym (with_none page)

-- strokes of a unit behind those of a page
pub with_front : (unit : UnitId) (allowed : ℕ → Type 0) (page : Option (List StrokeValue)) (more : List StrokeValue)
    → All (λ stroke. stroke.name.who ≡ unit → allowed stroke.name.mark) more → IsFrontOn unit allowed page (with_strokes page more)
with_front unit allowed (Some strokes) more all = record { rest = more; is = refl; later = all }
with_front unit allowed None more all = tt

stroke_marked : (unit : UnitId) (mark : ℕ) (placed : Placed) (page : ℕ) → All (λ stroke. stroke.name.who ≡ unit → stroke.name.mark ≡ mark) (placed_stroke unit mark placed page)
stroke_marked unit mark placed page = by (touches placed.at (length placed.bytes) page)
  where
    name : StrokeName
    name = record { who = unit; mark = mark }

    by : (b : Bool) → All (λ stroke. stroke.name.who ≡ unit → stroke.name.mark ≡ mark) (cond b (stroke_on name placed.at placed.bytes page ∷ []) [])
    by true =
        All-cons (λ (stroke : StrokeValue). stroke.name.who ≡ unit → stroke.name.mark ≡ mark) (stroke_on name placed.at placed.bytes page) [] (λ own. refl)
        (All-nil (λ (stroke : StrokeValue). stroke.name.who ≡ unit → stroke.name.mark ≡ mark))
    by false = All-nil (λ (stroke : StrokeValue). stroke.name.who ≡ unit → stroke.name.mark ≡ mark)

pub line_marked : (unit : UnitId) (mark : ℕ) (placed : Option Placed) (outcome : Outcome) (page : ℕ)
    → All (λ stroke. stroke.name.who ≡ unit → stroke.name.mark ≡ mark) (wrote_on unit mark placed outcome page)
line_marked unit mark None outcome page = All-nil (λ (stroke : StrokeValue). stroke.name.who ≡ unit → stroke.name.mark ≡ mark)
line_marked unit mark (Some placed) outcome page = by (has_done outcome)
  where
    by : (b : Bool) → All (λ stroke. stroke.name.who ≡ unit → stroke.name.mark ≡ mark) (cond b (placed_stroke unit mark placed page) [])
    by true = stroke_marked unit mark placed page
    by false = All-nil (λ (stroke : StrokeValue). stroke.name.who ≡ unit → stroke.name.mark ≡ mark)

result_marked : (unit : UnitId) (mark : ℕ) (placed : Option Placed) (result : Result Step NoMemory) (page : ℕ)
    → All (λ stroke. stroke.name.who ≡ unit → stroke.name.mark ≡ mark) (result_wrote unit mark placed result page)
result_marked unit mark placed (Ok (steps.Ends outcome)) page = line_marked unit mark placed outcome page
result_marked unit mark placed (Ok (steps.Waits did)) page = All-nil (λ (stroke : StrokeValue). stroke.name.who ≡ unit → stroke.name.mark ≡ mark)
result_marked unit mark placed (Err memory) page = All-nil (λ (stroke : StrokeValue). stroke.name.who ≡ unit → stroke.name.mark ≡ mark)

pub just_under : (shared : Bool) (old new : PortState) (mark : ℕ) (placed : Option Placed) (result : Result Step NoMemory) → LaysJust shared old new mark placed result
    → LaysUnder shared mark old new
just_under shared old new mark placed result just e p =
    subst (IsFrontOn old.place.unit (λ m. m ≡ mark) (old.strokes p)) (sym (just e p))
    (with_front old.place.unit (λ m. m ≡ mark) (old.strokes p) (result_wrote old.place.unit mark placed result p) (result_marked old.place.unit mark placed result p))

-- under the number of the line, as what its verb writes
pub just_by : (shared : Bool) (old new : PortState) (mark number : ℕ) (placed by_verb : Option Placed) (result : Result Step NoMemory) → mark ≡ number → placed ≡ by_verb
    → LaysJust shared old new mark placed result → IfOk result (λ step. LaysJust shared old new number by_verb (Ok step))
just_by shared old new mark number placed by_verb result same is just =
    at result
    (subst (λ (n : ℕ). LaysJust shared old new n by_verb result) same (subst (λ (o : Option Placed). LaysJust shared old new mark o result) is just))
  where
    at : (r : Result Step NoMemory) → LaysJust shared old new number by_verb r → IfOk r (λ step. LaysJust shared old new number by_verb (Ok step))
    at (Ok step) h = h
    at (Err memory) h = tt

-- a line that writes nothing
pub just_read : (shared : Bool) (old new : PortState) (mark : ℕ) (result : Result Step NoMemory) → LaysNoStroke shared old new → LaysJust shared old new mark None result
just_read shared old new mark result none e p = by result
  where
    by : (r : Result Step NoMemory) → new.strokes p ≡ with_strokes (old.strokes p) (result_wrote old.place.unit mark None r p)
    by (Ok (steps.Ends outcome)) = none_just (old.strokes p) (new.strokes p) (none e p)
    by (Ok (steps.Waits did)) = none_just (old.strokes p) (new.strokes p) (none e p)
    by (Err memory) = none_just (old.strokes p) (new.strokes p) (none e p)

-- the answers of a write
page_wrote : (name : StrokeName) (at : ℕ) (bytes : List ℕ) (p : ℕ) (old new : Option (List StrokeValue)) → IsWritten false name at bytes p old new
    → new ≡ with_strokes old (cond (touches at (length bytes) p) (stroke_on name at bytes p ∷ []) [])
page_wrote name at bytes p old new is =
    is.laid ∙ by (touches at (length bytes) p) ∙ ap (λ page. with_strokes page (cond (touches at (length bytes) p) (stroke_on name at bytes p ∷ []) [])) (same_page old is.before is.grown)
  where
    by : (b : Bool) → cond b (with_strokes is.before (stroke_on name at bytes p ∷ [])) is.before ≡ with_strokes is.before (cond b (stroke_on name at bytes p ∷ []) [])
    by true = refl
    by false = sym (with_none is.before)

pub just_written : (shared : Bool) (old new : PortState) (at : ℕ) (bytes : List ℕ) (mark : ℕ) → Writes shared old at bytes mark new
    → LaysJust shared old new mark (Some (record { at = at; bytes = bytes })) (Ok (steps.Ends outcomes.Done))
just_written shared old new at bytes mark wrote e p =
    page_wrote (record { who = old.place.unit; mark = mark }) at bytes p (old.strokes p) (new.strokes p)
    (subst (λ b. IsWritten b (record { who = old.place.unit; mark = mark }) at bytes p (old.strokes p) (new.strokes p)) e (wrote.strokes p))

pub just_range : (shared : Bool) (old new : PortState) (mark : ℕ) (placed : Placed) → LaysNone shared old new
    → LaysJust shared old new mark (Some placed) (Ok (steps.Ends outcomes.Range))
just_range shared old new mark placed none e p = none_just (old.strokes p) (new.strokes p) (learns_none shared old new none.strokes e p)

pub just_waits : (shared : Bool) (old new : PortState) (mark : ℕ) (placed : Placed) (did : Moved) → LaysNone shared old new
    → LaysJust shared old new mark (Some placed) (Ok (steps.Waits did))
just_waits shared old new mark placed did none e p = none_just (old.strokes p) (new.strokes p) (learns_none shared old new none.strokes e p)

pub just_memory : (shared : Bool) (old new : PortState) (mark : ℕ) (placed : Placed) (memory : NoMemory) → LaysNone shared old new
    → LaysJust shared old new mark (Some placed) (Err memory)
just_memory shared old new mark placed memory none e p = none_just (old.strokes p) (new.strokes p) (learns_none shared old new none.strokes e p)

-- one into a region that is the port's alone
pub write_under : (shared : Bool) (old new : PortState) (at : ℕ) (bytes : List ℕ) (mark : ℕ) (result : Result (Unit {0}) OwnFault)
    → OnOk result (Writes shared old at bytes mark new) → OnErr result (LaysNone shared old new) → LaysUnder shared mark old new
write_under shared old new at bytes mark (Ok done) wrote none =
    just_under shared old new mark (Some (record { at = at; bytes = bytes })) (Ok (steps.Ends outcomes.Done)) (just_written shared old new at bytes mark wrote)
write_under shared old new at bytes mark (Err fault) wrote none = none_under shared mark old new (learns_none shared old new none.strokes)
