-- Of which lines the strokes are that LAN units laid in their own regions, as steps of lines go on.
use Rattle.std.proofs.Common.{◌≡◌, ◌⊎◌, inl, inr, ◌∙◌, ℕ, zero, suc, ◌++◌, ◌==◌, Bool, true, false, true≢false, List, [], ◌∷◌, Some, length, refl, sym, ap, subst, arith}
use Rattle.std.specs.List.{slice_get}
use Rattle.std.proofs.lemmas.Bool.Decides.{nat_tests}
use Rattle.vio_num.specs.declared.hypervisor.Moved.{Moved}
use Rattle.vio_num.specs.declared.names.UnitId.{UnitId}
use Rattle.boot_text.specs.declared.plan.Line.{Line}
use Rattle.page_slots.specs.Stroke.{StrokeValue}
use Rattle.unit_region.specs.RegionLines.{IsFrontOn, IsOn}
use Rattle.unit_region.proofs.Laws.{on_as, on_cases, on_self, with_none}
use Rattle.unit_region.specs.declared.step.Step.{Step}
use Rattle.unit_region.specs.declared.step.Step.TheVariants as steps
use Rattle.vio_trace.specs.declared.rows.LogRow.{LogRow}
use Rattle.lan_script.specs.Regions.{strokes_at}
use Rattle.lan_script.specs.Seats.{is_in_region}
use Rattle.lan_script.specs.Units.{LanValue}
use Rattle.vcpu_run.specs.declared.script.Script.{Script}
use Rattle.vcpu_run.specs.declared.unit_seat.Seat.TheVariants as sits
use Rattle.vcpu_run.specs.PortCalls.{EndsEntries}
use Rattle.vcpu_run.specs.PortRegions.{IsCurrent, IsLogged, KeepsLogged, LaysLogged, RegionKept, StepWrites}
use Rattle.vcpu_run.specs.PortSteps.{AllSilent, AllTake, AreFresh, RisesIf, TellsStep}
use Rattle.vcpu_run.specs.PortWords.{TellsLogged, done_in}
use Rattle.vcpu_run.specs.Ports.{unit_of}
use Rattle.vcpu_run.specs.Suited.{is_call}
use Rattle.vcpu_run.proofs.Driving.{some_is}

-- ---- records

pub get_front : {X : Type 0} (xs more : List X) (i : ℕ) (x : X) → slice_get xs i ≡ Some x → slice_get (xs ++ more) i ≡ Some x
get_front [] more i x e = absurd (cc (e))
get_front (first ∷ xs) more zero x e = e
get_front (first ∷ xs) more (suc i) x e = get_front xs more i x e

pub get_last : {X : Type 0} (xs : List X) (x : X) → slice_get (xs ++ x ∷ []) (length xs) ≡ Some x
get_last [] x = refl
get_last (first ∷ xs) x = get_last xs x

pub logged_more : (unit : UnitId) (lines : List Line) (rows : List LogRow) (row : LogRow) (mark : ℕ) → IsLogged unit lines rows mark
    → IsLogged unit lines (rows ++ row ∷ []) mark
logged_more unit lines rows row mark is = record {
  place = is.place;
  line = is.line;
  row = is.row;
  there = is.there;
  has_row = get_front rows (row ∷ []) is.place is.row is.has_row;
  own = is.own;
  number = is.number;
}

pub logged_last : (unit : UnitId) (lines : List Line) (rows : List LogRow) (line : Line) (row : LogRow) (mark : ℕ) → slice_get lines (length rows) ≡ Some line
    → line.unit ≡ unit.unit → line.number ≡ mark → IsLogged unit lines (rows ++ row ∷ []) mark
logged_last unit lines rows line row mark there own number = record {
  place = length rows;
  line = line;
  row = row;
  there = there;
  has_row = get_last rows row;
  own = own;
  number = number;
}

-- ---- a unit

-- no stroke is gone, and each that it laid in its own region bears the number of this line of its own, which is not one in the region while
-- it goes on
pub record LaidBy (unit : UnitId) (line : Line) (ends : Bool) (old new : LanValue) : Type 0 where
  pub front : (page : ℕ) → IsFrontOn unit (λ m. m ≡ line.number) (strokes_at old unit page) (strokes_at new unit page)
  pub own : (page : ℕ) → IsFrontOn unit (λ m. (line.unit ≡ unit.unit) × (ends ≡ false → is_in_region line.verb ≡ false)) (strokes_at old unit page) (strokes_at new unit page)

pub none_laid : (unit : UnitId) (line : Line) (ends : Bool) (old new : LanValue) → RegionKept unit old new → LaidBy unit line ends old new
none_laid unit line ends old new kept = record {
  front = λ page. on_as unit (λ m. ⊥) (λ m. m ≡ line.number) (strokes_at old unit page) (strokes_at new unit page) (λ m never. absurd never) (kept.own page);
  own = λ page. on_as unit (λ m. ⊥) (λ m. (line.unit ≡ unit.unit) × (ends ≡ false → is_in_region line.verb ≡ false))
      (strokes_at old unit page) (strokes_at new unit page) (λ m never. absurd never) (kept.own page);
}

-- whether a step ends its line
abbrev pub ends_line : Step → Bool
ends_line (steps.Ends outcome) = true
ends_line (steps.Waits did) = false

own_laid : (unit : UnitId) (line : Line) (old new : LanValue) (step : Step) → line.unit ≡ unit.unit → LaysLogged unit line.number old new → StepWrites unit line old new step
    → LaidBy unit line (ends_line step) old new
own_laid unit line old new (steps.Ends outcome) own lays writes = record {
  front = lays;
  own = λ page. on_as unit (λ m. m ≡ line.number) (λ m. (line.unit ≡ unit.unit) × (true ≡ false → is_in_region line.verb ≡ false))
      (strokes_at old unit page) (strokes_at new unit page) (λ m is. (own, λ e. absurd (true≢false e))) (lays page);
}
own_laid unit line old new (steps.Waits did) own lays writes = record { front = lays; own = λ page. by page (is_in_region line.verb) refl }
  where
    Here : ℕ → Type 0
    Here m = (line.unit ≡ unit.unit) × (false ≡ false → is_in_region line.verb ≡ false)

    by : (page : ℕ) (b : Bool) → is_in_region line.verb ≡ b → IsFrontOn unit Here (strokes_at old unit page) (strokes_at new unit page)
    by page false e =
        on_as unit (λ m. m ≡ line.number) Here (strokes_at old unit page) (strokes_at new unit page) (λ m is. (own, λ same. e)) (lays page)
    by page true e =
        subst (IsFrontOn unit Here (strokes_at old unit page)) (sym (writes e page ∙ with_none (strokes_at old unit page))) (on_self unit Here (strokes_at old unit page))

step_laid : (own : Bool) (unit : UnitId) (line : Line) (done done' : ℕ) (old new : LanValue) (step : Step)
    → (own ≡ true → (line.unit ≡ unit.unit) × LaysLogged unit line.number old new × StepWrites unit line old new step)
    → RisesIf own unit line.verb done done' old new step → LaidBy unit line (ends_line step) old new
step_laid true unit line done done' old new step mine rises = let m = mine refl in own_laid unit line old new step m.0 m.1 m.2
step_laid false unit line done done' old new step mine rises = none_laid unit line (ends_line step) old new rises.still.regions

keeps_still : (lines : List Line) (rows : List LogRow) (at : ℕ) (old new : LanValue) (unit : UnitId) → RegionKept unit old new → KeepsLogged lines rows at old unit
    → KeepsLogged lines rows at new unit
keeps_still lines rows at old new unit kept tells page stroke on mine =
    by (on_cases unit (λ m. ⊥) (strokes_at old unit page) (strokes_at new unit page) stroke (kept.own page) on mine)
  where
    by : IsOn stroke (strokes_at old unit page) ⊎ ⊥ → IsLogged unit lines rows stroke.name.mark ⊎ IsCurrent unit lines at stroke.name.mark
    by (inl was) = tells page stroke was mine
    by (inr never) = absurd never

-- a stroke that was there before, or is of the line
abbrev IsOfLine : UnitId → Line → (ends : Bool) → (old : LanValue) → (page : ℕ) → StrokeValue → Type 0
IsOfLine unit line ends old page stroke =
    IsOn stroke (strokes_at old unit page) ⊎ ((line.unit ≡ unit.unit) × (line.number ≡ stroke.name.mark) × (ends ≡ false → is_in_region line.verb ≡ false))

pub of_line : (unit : UnitId) (line : Line) (ends : Bool) (old new : LanValue) → LaidBy unit line ends old new → (page : ℕ) (stroke : StrokeValue)
    → IsOn stroke (strokes_at new unit page) → stroke.name.who ≡ unit → IsOfLine unit line ends old page stroke
of_line unit line ends old new laid page stroke on mine =
    both (on_cases unit (λ m. m ≡ line.number) (strokes_at old unit page) (strokes_at new unit page) stroke (laid.front page) on mine)
    (on_cases unit (λ m. (line.unit ≡ unit.unit) × (ends ≡ false → is_in_region line.verb ≡ false)) (strokes_at old unit page) (strokes_at new unit page) stroke
    (laid.own page) on mine)
  where
    both : IsOn stroke (strokes_at old unit page) ⊎ (stroke.name.mark ≡ line.number)
        → IsOn stroke (strokes_at old unit page) ⊎ ((line.unit ≡ unit.unit) × (ends ≡ false → is_in_region line.verb ≡ false)) → IsOfLine unit line ends old page stroke
    both (inl was) any = inl was
    both (inr is) (inl was) = inl was
    both (inr is) (inr own) = inr (own.0, sym is, own.1)

keeps_wait : (lines : List Line) (rows : List LogRow) (at : ℕ) (line : Line) (old new : LanValue) (unit : UnitId) → slice_get lines at ≡ Some line
    → LaidBy unit line false old new → KeepsLogged lines rows at old unit → KeepsLogged lines rows at new unit
keeps_wait lines rows at line old new unit found laid tells page stroke on mine = by (of_line unit line false old new laid page stroke on mine)
  where
    by : IsOfLine unit line false old page stroke → IsLogged unit lines rows stroke.name.mark ⊎ IsCurrent unit lines at stroke.name.mark
    by (inl was) = tells page stroke was mine
    by (inr is) = inr (record { line = line; there = found; own = is.0; number = is.1; apart = is.2 refl })

pub ends_logged : (lines : List Line) (rows : List LogRow) (at : ℕ) (line : Line) (row : LogRow) (ends : Bool) (old new : LanValue) (unit : UnitId)
    → slice_get lines at ≡ Some line → length rows ≡ at → LaidBy unit line ends old new → KeepsLogged lines rows at old unit
    → (page : ℕ) (stroke : StrokeValue) → IsOn stroke (strokes_at new unit page) → stroke.name.who ≡ unit → IsLogged unit lines (rows ++ row ∷ []) stroke.name.mark
ends_logged lines rows at line row ends old new unit found reached laid tells page stroke on mine = by (of_line unit line ends old new laid page stroke on mine)
  where
    there : slice_get lines (length rows) ≡ Some line
    there = ap (λ n. slice_get lines n) reached ∙ found

    current : IsCurrent unit lines at stroke.name.mark → IsLogged unit lines (rows ++ row ∷ []) stroke.name.mark
    current is =
        let same : is.line ≡ line = some_is is.line line (sym is.there ∙ found) in
        logged_last unit lines rows line row stroke.name.mark there (sym (ap (λ (l : Line). l.unit) same) ∙ is.own) (sym (ap (λ (l : Line). l.number) same) ∙ is.number)

    before : IsLogged unit lines rows stroke.name.mark ⊎ IsCurrent unit lines at stroke.name.mark → IsLogged unit lines (rows ++ row ∷ []) stroke.name.mark
    before (inl is) = logged_more unit lines rows row stroke.name.mark is
    before (inr is) = current is

    by : IsOfLine unit line ends old page stroke → IsLogged unit lines (rows ++ row ∷ []) stroke.name.mark
    by (inl was) = before (tells page stroke was mine)
    by (inr is) = logged_last unit lines rows line row stroke.name.mark there is.0 is.1

keeps_end : (lines : List Line) (rows : List LogRow) (at at' : ℕ) (line : Line) (row : LogRow) (ends : Bool) (old new : LanValue) (unit : UnitId)
    → slice_get lines at ≡ Some line → length rows ≡ at → LaidBy unit line ends old new → KeepsLogged lines rows at old unit
    → KeepsLogged lines (rows ++ row ∷ []) at' new unit
keeps_end lines rows at at' line row ends old new unit found reached laid tells page stroke on mine =
    inl (ends_logged lines rows at line row ends old new unit found reached laid tells page stroke on mine)

-- ---- scripts

own_line : (a b : ℕ) → (a == b) ≡ true → a ≡ b
own_line a b e = grind (arith, nat_tests, e)

pub tells_laid : (lan lan' : LanValue) (script : Script) (line : Line) (done done' : ℕ) (step : Step) (unit : ℕ) → slice_get script.seats.items unit ≡ Some sits.Port
    → TellsStep script.partition script.seats.items line done done' lan lan' step → LaidBy (unit_of script.partition unit) line (ends_line step) lan lan'
tells_laid lan lan' script line done done' step unit sat tells =
    step_laid (line.unit == unit) (unit_of script.partition unit) line done done' lan lan' step
    (λ e. (own_line line.unit unit e, tells.marks unit sat (own_line line.unit unit e), tells.writes unit sat (own_line line.unit unit e))) (tells.rises unit sat)

pub logged_wait : (lan lan' : LanValue) (script script' : Script) (line : Line) (moved : Moved) → slice_get script.lines.now script.at ≡ Some line
    → script' ≡ record script { progress = script'.progress } → (is_call line.verb ≡ true → ⊥)
    → (is_call line.verb ≡ false → TellsStep script.partition script.seats.items line (done_in script.progress) (done_in script'.progress) lan lan' (steps.Waits moved))
    → TellsLogged lan script → TellsLogged lan' script'
logged_wait lan lan' script script' line moved found same no_call step tells = subst (λ (s : Script). TellsLogged lan' s) (sym same) each
  where
    by : (b : Bool) → (b ≡ true → ⊥)
        → (b ≡ false → TellsStep script.partition script.seats.items line (done_in script.progress) (done_in script'.progress) lan lan' (steps.Waits moved))
        → (unit : ℕ) → slice_get script.seats.items unit ≡ Some sits.Port → LaidBy (unit_of script.partition unit) line false lan lan'
    by true none h unit sat = absurd (none refl)
    by false none h unit sat = tells_laid lan lan' script line (done_in script.progress) (done_in script'.progress) (steps.Waits moved) unit sat (h refl)

    each : TellsLogged lan' (record script { progress = script'.progress })
    each unit sat =
        keeps_wait script.lines.now script.logs.items script.at line lan lan' (unit_of script.partition unit) found (by (is_call line.verb) no_call step unit sat) (tells unit sat)

logged_end : (lan lan' : LanValue) (script ended : Script) (line : Line) (row : LogRow) → slice_get script.lines.now script.at ≡ Some line
    → length script.logs.items ≡ script.at → ended.partition ≡ script.partition → ended.lines ≡ script.lines → ended.seats ≡ script.seats
    → ended.logs.items ≡ script.logs.items ++ row ∷ []
    → ((unit : ℕ) → slice_get script.seats.items unit ≡ Some sits.Port → LaidBy (unit_of script.partition unit) line true lan lan')
    → TellsLogged lan script → TellsLogged lan' ended
logged_end lan lan' script ended line row found reached partition lines seats logs laid tells unit sat =
    subst (λ (p : ℕ). KeepsLogged ended.lines.now ended.logs.items ended.at lan' (unit_of p unit)) (sym partition)
    (subst (λ ls. KeepsLogged ls.now ended.logs.items ended.at lan' u) (sym lines)
    (subst (λ (rows : List LogRow). KeepsLogged script.lines.now rows ended.at lan' u) (sym logs)
    (keeps_end script.lines.now script.logs.items script.at ended.at line row true lan lan' u found reached (laid unit sat') (tells unit sat'))))
  where
    u : UnitId
    u = unit_of script.partition unit

    sat' : slice_get script.seats.items unit ≡ Some sits.Port
    sat' = ap (λ ss. slice_get ss.items unit) (sym seats) ∙ sat

pub logged_step : (lan lan' : LanValue) (script ended : Script) (line : Line) (row : LogRow) (done' : ℕ) → slice_get script.lines.now script.at ≡ Some line
    → length script.logs.items ≡ script.at → ended.partition ≡ script.partition → ended.lines ≡ script.lines → ended.seats ≡ script.seats
    → ended.logs.items ≡ script.logs.items ++ row ∷ []
    → (is_call line.verb ≡ true → EndsEntries script.partition (slice_get script.seats.items) line.verb lan lan' (steps.Ends row.outcome))
    → (is_call line.verb ≡ false → TellsStep script.partition script.seats.items line (done_in script.progress) done' lan lan' (steps.Ends row.outcome))
    → TellsLogged lan script → TellsLogged lan' ended
logged_step lan lan' script ended line row done' found reached partition lines seats logs call step =
    logged_end lan lan' script ended line row found reached partition lines seats logs (by (is_call line.verb) call step)
  where
    by : (b : Bool) → (b ≡ true → EndsEntries script.partition (slice_get script.seats.items) line.verb lan lan' (steps.Ends row.outcome))
        → (b ≡ false → TellsStep script.partition script.seats.items line (done_in script.progress) done' lan lan' (steps.Ends row.outcome))
        → (unit : ℕ) → slice_get script.seats.items unit ≡ Some sits.Port → LaidBy (unit_of script.partition unit) line true lan lan'
    by true h k unit sat = none_laid (unit_of script.partition unit) line true lan lan' ((h refl).all.regions (unit_of script.partition unit))
    by false h k unit sat = tells_laid lan lan' script line (done_in script.progress) done' (steps.Ends row.outcome) unit sat (k refl)

pub logged_quiet : (lan lan' : LanValue) (script ended : Script) (line : Line) (row : LogRow) → slice_get script.lines.now script.at ≡ Some line
    → length script.logs.items ≡ script.at → ended.partition ≡ script.partition → ended.lines ≡ script.lines → ended.seats ≡ script.seats
    → ended.logs.items ≡ script.logs.items ++ row ∷ [] → AllSilent lan lan' → TellsLogged lan script → TellsLogged lan' ended
logged_quiet lan lan' script ended line row found reached partition lines seats logs silent =
    logged_end lan lan' script ended line row found reached partition lines seats logs
    (λ unit sat. none_laid (unit_of script.partition unit) line true lan lan' (silent (unit_of script.partition unit)).regions)

pub logged_rest : (lan lan' : LanValue) (script : Script) → AllTake script.partition lan lan' → TellsLogged lan script → TellsLogged lan' script
logged_rest lan lan' script takes tells unit sat =
    keeps_still script.lines.now script.logs.items script.at lan lan' (unit_of script.partition unit) (takes unit).still.regions (tells unit sat)

pub logged_silent : (lan lan' : LanValue) (script : Script) → AllSilent lan lan' → TellsLogged lan script → TellsLogged lan' script
logged_silent lan lan' script silent tells unit sat =
    keeps_still script.lines.now script.logs.items script.at lan lan' (unit_of script.partition unit) (silent (unit_of script.partition unit)).regions (tells unit sat)

-- a script before its first line
pub logged_fresh : (lan : LanValue) (script : Script) → AreFresh lan → TellsLogged lan script
logged_fresh lan script fresh unit sat page stroke on mine = absurd ((fresh (unit_of script.partition unit)).5 page stroke on)
