-- What lines in a unit's own region say of it, and what there is once they said that bytes were written, or showed some.
use Rattle.std.specs.Prelude.{◌≡◌, ℕ, ◌+◌, ◌*◌, ◌<◌, ◌++◌, All, Bool, true, false, List, IfSome, IsSome, Option, Some, None, length, slice_index, ⊤, if◌then◌else◌}
use Rattle.std.specs.List.{Contains}
use Rattle.vio_num.specs.Words.{Begins}
use Rattle.vio_num.specs.declared.hypervisor.Hrc.{Hrc}
use Rattle.vio_num.specs.declared.hypervisor.Hrc.TheVariants as codes
use Rattle.vio_num.specs.declared.names.UnitId.{UnitId}
use Rattle.page_slots.specs.Stroke.{StrokeValue}
use Rattle.tce_window.specs.Puts.{takes}
use Rattle.tce_window.specs.Region.{in_region, region_byte, stroke_on, touches}
use Rattle.boot_text.specs.declared.verb.Verb.{Verb}
use Rattle.boot_text.specs.declared.verb.Verb.TheVariants as verbs
use Rattle.vio_trace.specs.declared.outcome.Outcome.{Outcome}
use Rattle.vio_trace.specs.declared.outcome.Outcome.TheVariants as outcomes
use Rattle.unit_region.specs.Answers.{tce_of}
use Rattle.unit_region.specs.Pattern.{pattern}
use Rattle.unit_region.specs.declared.step.Step.{Step}
use Rattle.unit_region.specs.declared.step.Step.TheVariants as steps

-- a stroke lies on a page that is in its place
abbrev pub IsOn : StrokeValue → Option (List StrokeValue) → Type 0
IsOn stroke (Some strokes) = Contains strokes stroke
IsOn stroke None = ⊥

-- these strokes are a front of a page's
abbrev pub IsFront : Option (List StrokeValue) → Option (List StrokeValue) → Type 0
IsFront (Some front) (Some strokes) = Begins front strokes
IsFront _ _ = ⊥

-- A page's strokes are these and others behind them, of which the mark of each of this unit's is so.
pub record IsFrontWith (unit : UnitId) (allowed : ℕ → Type 0) (front strokes : List StrokeValue) : Type 0 where
  pub rest : List StrokeValue
  pub is : strokes ≡ front ++ rest
  pub later : All (λ stroke. stroke.name.who ≡ unit → allowed stroke.name.mark) rest

-- the same of a page that is in its place; one that is away stays so
abbrev pub IsFrontOn : UnitId → (allowed : ℕ → Type 0) → (front strokes : Option (List StrokeValue)) → Type 0
IsFrontOn unit allowed (Some front) (Some strokes) = IsFrontWith unit allowed front strokes
IsFrontOn unit allowed None None = ⊤
IsFrontOn unit allowed _ _ = ⊥

-- What there is of a region: the strokes on its pages, and with which lists of strokes a page is read.
pub record RegionSeen : Type 1 where
  pub stroke_at : (page : ℕ) → StrokeValue → Type 0
  pub front_at : (page : ℕ) → Option (List StrokeValue) → Type 0

-- what there is of one whose pages have these strokes: a page is read with all that it has
abbrev pub region_seen : (ℕ → Option (List StrokeValue)) → RegionSeen
region_seen strokes = record { stroke_at = λ page stroke. IsOn stroke (strokes page); front_at = λ page front. (front ≡ strokes page) × IsSome front }

-- what there was at some time of one whose pages have these strokes now: a page was read with a front of them
abbrev pub region_once : (ℕ → Option (List StrokeValue)) → RegionSeen
region_once strokes = record { stroke_at = λ page stroke. IsOn stroke (strokes page); front_at = λ page front. IsFront front (strokes page) }

-- these bytes were written at an address, under a mark: one stroke on each page that they touch
abbrev pub AreWritten : RegionSeen → (unit : UnitId) → (mark at : ℕ) → List ℕ → Type 0
AreWritten region unit mark at bytes = (page : ℕ) → touches at (length bytes) page ≡ true
    → region.stroke_at page (stroke_on (record { who = unit; mark = mark }) at bytes page)

-- These bytes were read at an address: they are what the pages gave, each with a list of strokes with which it is read.
pub record AreRead (region : RegionSeen) (at : ℕ) (bytes : List ℕ) : Type 0 where
  pub fronts : ℕ → Option (List StrokeValue)
  pub there : (page : ℕ) → touches at (length bytes) page ≡ true → region.front_at page (fronts page)
  pub read : (k : ℕ) → k < length bytes → slice_index bytes k ≡ region_byte fronts (at + k)

abbrev pub IsWrittenIf : Outcome → Type 0 → Type 0
IsWrittenIf outcomes.Done P = P
IsWrittenIf _ P = ⊤

abbrev pub IsReadIf : RegionSeen → (at : ℕ) → Outcome → Type 0
IsReadIf region at (outcomes.Bytes shown) = AreRead region at shown
IsReadIf region at _ = ⊤

-- bytes, and an address at which they are to lie
pub record Placed : Type 0 where
  pub at : ℕ
  pub bytes : List ℕ

-- what a line writes into its own region
abbrev pub written_by : Verb → Option Placed
written_by (verbs.Fill at len seed) = Some (record { at = at; bytes = pattern seed len })
written_by (verbs.Poke at bytes) = Some (record { at = at; bytes = bytes })
written_by _ = None

-- where a line reads its own region
abbrev pub read_by : Verb → Option ℕ
read_by (verbs.Peek at len) = Some at
read_by _ = None

-- what there is of a line in its own region, by what it writes and where it reads
abbrev pub RegionShows : RegionSeen → UnitId → (mark : ℕ) → Option Placed → Option ℕ → Outcome → Type 0
RegionShows region unit mark placed at outcome =
    IfSome placed (λ placed. IsWrittenIf outcome (AreWritten region unit mark placed.at placed.bytes)) × IfSome at (λ at. IsReadIf region at outcome)

-- A line that writes says whether its bytes lie in the region; one that shows some shows just as many.
abbrev pub IsWritten : (lies : Bool) → Outcome → Type 0
IsWritten lies outcome = outcome ≡ (if lies then outcomes.Done else outcomes.Range)

abbrev pub IsShown : (lies : Bool) → (len : ℕ) → Outcome → Type 0
IsShown true len (outcomes.Bytes shown) = length shown ≡ len
IsShown false len outcomes.Range = ⊤
IsShown _ len _ = ⊥

-- what a line says that puts a value into an entry of the unit's window, which takes it or does not
abbrev pub code_if : (takes : Bool) → Hrc
code_if true = codes.Success
code_if false = codes.Parameter

-- what a line says of a region of so many pages, if it is one in its own region
abbrev pub RegionSays : (pages : ℕ) → Verb → Outcome → Type 0
RegionSays pages (verbs.Fill at len seed) outcome = IsWritten (in_region pages at len) outcome
RegionSays pages (verbs.Poke at bytes) outcome = IsWritten (in_region pages at (length bytes)) outcome
RegionSays pages (verbs.Peek at len) outcome = IsShown (in_region pages at len) len outcome
RegionSays pages (verbs.Tce entry page readable writable) outcome =
    outcome ≡ outcomes.Code (code_if (takes pages (4096 * entry) (tce_of page readable writable)))
RegionSays pages verb outcome = ⊤

-- A line of a unit that ended so says what is so of its region, and there is what it says.
pub record IsTold (region : RegionSeen) (pages : ℕ) (unit : UnitId) (mark : ℕ) (verb : Verb) (outcome : Outcome) : Type 0 where
  pub says : RegionSays pages verb outcome
  pub shows : RegionShows region unit mark (written_by verb) (read_by verb) outcome

abbrev pub StepTold : RegionSeen → (pages : ℕ) → UnitId → (mark : ℕ) → Verb → Step → Type 0
StepTold region pages unit mark verb (steps.Ends outcome) = IsTold region pages unit mark verb outcome
StepTold region pages unit mark verb (steps.Waits did) = ⊤
