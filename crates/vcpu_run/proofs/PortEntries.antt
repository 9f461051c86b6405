-- What the records of raw calls say of the entries of LAN units' windows, as steps of lines go on.
use Rattle.std.proofs.Common.{◌≡◌, ◌⊎◌, inl, inr, ◌∙◌, ℕ, ◌<◌, ◌≤◌, ◌++◌, ◌==◌, Bool, true, false, List, [], ◌∷◌, Option, Some, length, option_map, refl, sym, ap, subst}
use Rattle.std.specs.List.{slice_get}
use Rattle.vio_num.specs.Words.{Begins}
use Rattle.vio_num.specs.declared.hypervisor.Moved.{Moved}
use Rattle.vio_num.specs.declared.names.UnitId.{UnitId}
use Rattle.boot_text.specs.declared.plan.Line.{Line}
use Rattle.boot_text.specs.declared.verb.Verb.{Verb}
use Rattle.boot_text.specs.declared.verb.Verb.TheVariants as verbs
use Rattle.hcall_table.specs.Rows.{further}
use Rattle.page_slots.specs.Stroke.{StrokeValue}
use Rattle.unit_region.specs.RegionLines.{IsFrontOn, IsOn}
use Rattle.unit_region.specs.LinePuts.{StepPuts, put_by}
use Rattle.unit_region.specs.declared.step.Step.{Step}
use Rattle.unit_region.specs.declared.step.Step.TheVariants as steps
use Rattle.vio_trace.specs.declared.outcome.Outcome.{Outcome}
use Rattle.vio_trace.specs.declared.rows.LogRow.{LogRow}
use Rattle.lan_script.specs.Entries.{values_at}
use Rattle.lan_script.specs.Regions.{strokes_at}
use Rattle.lan_script.specs.Seats.{seat_at}
use Rattle.lan_script.specs.Units.{LanValue}
use Rattle.lan_script.specs.Values.{KeepsValues}
use Rattle.lan_script.specs.declared.seat.PortSeat.{PortSeat}
use Rattle.vcpu_run.specs.declared.script.Script.{Script}
use Rattle.vcpu_run.specs.declared.unit_seat.Seat.{Seat}
use Rattle.vcpu_run.specs.declared.unit_seat.Seat.TheVariants as sits
use Rattle.vcpu_run.specs.CallsAnswered.{UnitSeen, port_seen, port_then}
use Rattle.vcpu_run.specs.PortCalls.{EndsEntries, EntriesSaid, EntrySaid, TellsEntries}
use Rattle.vcpu_run.specs.PortRegions.{AreInTurn, RegionKept}
use Rattle.vcpu_run.specs.Ports.{unit_of}
use Rattle.vcpu_run.specs.PortSteps.{AllSilent, AllTake, RisesIf, TellsStep}
use Rattle.vcpu_run.specs.PortWords.{TellsLogged, done_in}
use Rattle.vcpu_run.specs.Suited.{is_call}
use Rattle.vcpu_run.proofs.CallsGrow.{UnitGrows, unit_more}
use Rattle.vcpu_run.proofs.LinesShown.{begins_has, no_row, row_at}
use Rattle.vcpu_run.proofs.MomentsThen.{then_more, then_now}
use Rattle.vcpu_run.proofs.PortLines.{before_turn, grown_by, grown_still, has_place, logged_most, rises_seats}
use Rattle.vcpu_run.proofs.PortLogged.{ends_logged, none_laid, tells_laid}
use Rattle.vcpu_run.proofs.ValuesBehind.{begins_as, behind_more}

-- ---- what there was of a unit is there

-- the window of a LAN unit has as many pages, and its entries the values that they had; a stroke of its own in the region is of no line up
-- to this one
window_grows : (lan lan' : LanValue) (unit : UnitId) (number : ℕ) → lan'.seats ≡ lan.seats
    → ((entry : ℕ) → Begins (values_at lan unit entry) (values_at lan' unit entry))
    → ((page : ℕ) → IsFrontOn unit (λ mark. number < mark) (strokes_at lan unit page) (strokes_at lan' unit page))
    → UnitGrows (port_then number lan unit) (port_then number lan' unit)
window_grows lan lan' unit number seats all fronts = record {
  pages = ap (λ (ss : List PortSeat). option_map (λ (seat : PortSeat). seat.pages) (seat_at ss unit)) seats;
  values = λ entry value is. begins_has (values_at lan unit entry) (values_at lan' unit entry) value (all entry) is;
  puts = λ entry value is. behind_more (values_at lan unit entry) (values_at lan' unit entry) value (all entry) is;
  fronts = λ page front is. then_more unit number front (strokes_at lan unit page) (strokes_at lan' unit page) (fronts page) is;
  held = λ never. never;
  entries = λ entry is. is;
}

-- what laid nothing of the unit's own
still_grows : (lan lan' : LanValue) (unit : UnitId) (number : ℕ) → lan'.seats ≡ lan.seats → KeepsValues unit lan.places lan'.places → RegionKept unit lan lan'
    → UnitGrows (port_then number lan unit) (port_then number lan' unit)
still_grows lan lan' unit number seats same kept =
    window_grows lan lan' unit number seats (λ entry. begins_as (values_at lan unit entry) (values_at lan' unit entry) (same entry)) (λ page. grown_still unit lan lan' kept number page)

-- a step of a line puts values behind those that were there
step_begins : (verb : Verb) (step : Step) (old new : ℕ → List ℕ) → StepPuts verb step old new → (entry : ℕ) → Begins (old entry) (new entry)
step_begins verb (steps.Ends outcome) old new puts entry = (put_by entry verb outcome, puts entry)
step_begins verb (steps.Waits did) old new puts entry = begins_as (old entry) (new entry) (puts entry)

rises_begin : (own : Bool) (unit : UnitId) (verb : Verb) (done done' : ℕ) (lan lan' : LanValue) (step : Step) → RisesIf own unit verb done done' lan lan' step
    → (entry : ℕ) → Begins (values_at lan unit entry) (values_at lan' unit entry)
rises_begin true unit verb done done' lan lan' step h = step_begins verb step (values_at lan unit) (values_at lan' unit) h.4
rises_begin false unit verb done done' lan lan' step h = λ entry. begins_as (values_at lan unit entry) (values_at lan' unit entry) (h.still.values entry)

-- each LAN unit of a partition, as each line that has a record ended
abbrev pub GrowAt : (partition : ℕ) → (ℕ → Option Seat) → List Line → List LogRow → (lan lan' : LanValue) → Type 0
GrowAt partition seat lines rows lan lan' = (unit : ℕ) → seat unit ≡ Some sits.Port → (i : ℕ) (line : Line) (row : LogRow) → slice_get lines i ≡ Some line → slice_get rows i ≡ Some row
    → UnitGrows (port_then line.number lan (unit_of partition unit)) (port_then line.number lan' (unit_of partition unit))

-- ---- what is said stays so

entry_more : (partition : ℕ) (seat : ℕ → Option Seat) (a b : UnitId → UnitSeen)
    → ((unit : ℕ) → seat unit ≡ Some sits.Port → UnitGrows (a (unit_of partition unit)) (b (unit_of partition unit))) → (verb : Verb) (outcome : Outcome)
    → EntrySaid partition seat a verb outcome → EntrySaid partition seat b verb outcome
entry_more partition seat a b grow (verbs.Hcall number args) outcome is = λ row unit e of_window at sat.
    unit_more (a (unit_of partition unit)) (b (unit_of partition unit)) (grow unit sat) row (further row args) outcome (is row unit e of_window at sat)
entry_more partition seat a b grow verb outcome is = tt

pub entries_more : (partition : ℕ) (seat : ℕ → Option Seat) (lan lan' : LanValue) (lines : List Line) (rows : List LogRow) → GrowAt partition seat lines rows lan lan'
    → EntriesSaid partition seat lan lines rows → EntriesSaid partition seat lan' lines rows
entries_more partition seat lan lan' lines rows grow said i line row there at =
    entry_more partition seat (port_then line.number lan) (port_then line.number lan') (λ unit sat. grow unit sat i line row there at) line.verb row.outcome (said i line row there at)

-- a line that makes no call
entry_none : (partition : ℕ) (seat : ℕ → Option Seat) (seen : UnitId → UnitSeen) (verb : Verb) (outcome : Outcome) → is_call verb ≡ false → EntrySaid partition seat seen verb outcome
entry_none partition seat seen (verbs.Hcall number args) outcome none = absurd (cc (none))
entry_none partition seat seen verb outcome none = tt

-- one record more
some_is : {X : Type 0} (x y : X) → Some x ≡ Some y → x ≡ y
some_is x y e = cc (e)

entries_one : (partition : ℕ) (seat : ℕ → Option Seat) (lan : LanValue) (lines : List Line) (records : List LogRow) (line : Line) (row : LogRow)
    → slice_get lines (length records) ≡ Some line → EntriesSaid partition seat lan lines records → EntrySaid partition seat (port_then line.number lan) line.verb row.outcome
    → EntriesSaid partition seat lan lines (records ++ row ∷ [])
entries_one partition seat lan lines records line row found said last i l r there at = by (row_at records row r i at)
  where
    by : (slice_get records i ≡ Some r) ⊎ ((i ≡ length records) × (r ≡ row)) → EntrySaid partition seat (port_then l.number lan) l.verb r.outcome
    by (inl h) = said i l r there h
    by (inr h) =
        let same : l ≡ line = some_is l line (sym there ∙ (ap (slice_get lines) h.0 ∙ found)) in
        subst (λ (x : LogRow). EntrySaid partition seat (port_then l.number lan) l.verb x.outcome) (sym h.1)
        (subst (λ (x : Line). EntrySaid partition seat (port_then x.number lan) x.verb row.outcome) (sym same) last)

-- ---- scripts

-- what did nothing at any LAN unit but what leaves its values, and laid nothing of its own
entries_still : (lan lan' : LanValue) (script : Script)
    → ((unit : ℕ) → (lan'.seats ≡ lan.seats) × KeepsValues (unit_of script.partition unit) lan.places lan'.places × RegionKept (unit_of script.partition unit) lan lan')
    → TellsEntries lan script → TellsEntries lan' script
entries_still lan lan' script still tells turn =
    entries_more script.partition (slice_get script.seats.items) lan lan' script.lines.now script.logs.items
    (λ unit sat i line row there has. let s = still unit in still_grows lan lan' (unit_of script.partition unit) line.number s.0 s.1 s.2) (tells turn)

pub entries_wait : (lan lan' : LanValue) (script script' : Script) (line : Line) (moved : Moved) → slice_get script.lines.now script.at ≡ Some line
    → script' ≡ record script { progress = script'.progress } → (is_call line.verb ≡ true → ⊥)
    → (is_call line.verb ≡ false → TellsStep script.partition script.seats.items line (done_in script.progress) (done_in script'.progress) lan lan' (steps.Waits moved))
    → TellsEntries lan script → TellsEntries lan' script'
entries_wait lan lan' script script' line moved found same no_call step tells =
    subst (λ (s : Script). TellsEntries lan' s) (sym same) (by (is_call line.verb) no_call step)
  where
    by : (b : Bool) → (b ≡ true → ⊥)
        → (b ≡ false → TellsStep script.partition script.seats.items line (done_in script.progress) (done_in script'.progress) lan lan' (steps.Waits moved))
        → TellsEntries lan' (record script { progress = script'.progress })
    by true none h turn = absurd (none refl)
    by false none h turn =
        entries_more script.partition (slice_get script.seats.items) lan lan' script.lines.now script.logs.items
        (λ unit sat i l r there has.
        let id : UnitId = unit_of script.partition unit in
        let rises = (h refl).rises unit sat in
        window_grows lan lan' id l.number
        (rises_seats (line.unit == unit) id line.verb (done_in script.progress) (done_in script'.progress) lan lan' (steps.Waits moved) rises)
        (rises_begin (line.unit == unit) id line.verb (done_in script.progress) (done_in script'.progress) lan lan' (steps.Waits moved) rises)
        (grown_by script.lines.now script.logs.items script.at line false id lan lan' turn found (turn.reached (has_place script.lines.now script.at line found))
        (tells_laid lan lan' script line (done_in script.progress) (done_in script'.progress) (steps.Waits moved) unit sat (h refl)) i l r there has))
        (tells turn)

-- What the end of a line leaves of the entries, and says of them.
record EndsLine (script : Script) (line : Line) (row : LogRow) (lan lan' : LanValue) : Type 0 where
  grow : GrowAt script.partition (slice_get script.seats.items) script.lines.now script.logs.items lan lan'
  said : EntrySaid script.partition (slice_get script.seats.items) (port_then line.number lan') line.verb row.outcome

entries_end : (lan lan' : LanValue) (script ended : Script) (line : Line) (row : LogRow) → slice_get script.lines.now script.at ≡ Some line
    → length script.logs.items ≡ script.at → ended.partition ≡ script.partition → ended.lines ≡ script.lines → ended.seats ≡ script.seats
    → ended.logs.items ≡ script.logs.items ++ row ∷ []
    → (AreInTurn script.lines.now script.logs.items script.at → EndsLine script line row lan lan') → TellsEntries lan script → TellsEntries lan' ended
entries_end lan lan' script ended line row found reached partition lines seats logs ends tells turn =
    subst (λ (p : ℕ). EntriesSaid p (slice_get ended.seats.items) lan' ended.lines.now ended.logs.items) (sym partition)
    (subst (λ ss. EntriesSaid script.partition (slice_get ss.items) lan' ended.lines.now ended.logs.items) (sym seats)
    (subst (λ ls. EntriesSaid script.partition (slice_get script.seats.items) lan' ls.now ended.logs.items) (sym lines)
    (subst (λ (rows : List LogRow). EntriesSaid script.partition (slice_get script.seats.items) lan' script.lines.now rows) (sym logs)
    (entries_one script.partition (slice_get script.seats.items) lan' script.lines.now script.logs.items line row
    (ap (λ n. slice_get script.lines.now n) reached ∙ found)
    (entries_more script.partition (slice_get script.seats.items) lan lan' script.lines.now script.logs.items (ends was).grow (tells was)) (ends was).said))))
  where
    was : AreInTurn script.lines.now script.logs.items script.at
    was = before_turn script ended line found reached lines turn

-- a line that makes no call
no_call_ends : (lan lan' : LanValue) (script : Script) (line : Line) (row : LogRow) (done' : ℕ) → slice_get script.lines.now script.at ≡ Some line
    → length script.logs.items ≡ script.at → AreInTurn script.lines.now script.logs.items script.at → is_call line.verb ≡ false
    → TellsStep script.partition script.seats.items line (done_in script.progress) done' lan lan' (steps.Ends row.outcome) → EndsLine script line row lan lan'
no_call_ends lan lan' script line row done' found reached turn none step = record {
  grow = λ unit sat i l r there has.
      let id : UnitId = unit_of script.partition unit in
      let rises = step.rises unit sat in
      window_grows lan lan' id l.number
      (rises_seats (line.unit == unit) id line.verb (done_in script.progress) done' lan lan' (steps.Ends row.outcome) rises)
      (rises_begin (line.unit == unit) id line.verb (done_in script.progress) done' lan lan' (steps.Ends row.outcome) rises)
      (grown_by script.lines.now script.logs.items script.at line true id lan lan' turn found reached
      (tells_laid lan lan' script line (done_in script.progress) done' (steps.Ends row.outcome) unit sat step) i l r there has);
  said = entry_none script.partition (slice_get script.seats.items) (port_then line.number lan') line.verb row.outcome none;
}

-- one that makes one: what there is now is what there was as it ended
call_ends : (lan lan' : LanValue) (script : Script) (line : Line) (row : LogRow) → slice_get script.lines.now script.at ≡ Some line
    → length script.logs.items ≡ script.at → AreInTurn script.lines.now script.logs.items script.at → lan'.seats ≡ lan.seats
    → EndsEntries script.partition (slice_get script.seats.items) line.verb lan lan' (steps.Ends row.outcome) → TellsLogged lan script → EndsLine script line row lan lan'
call_ends lan lan' script line row found reached turn ports call logged = record {
  grow = λ unit sat i l r there has.
      let id : UnitId = unit_of script.partition unit in
      window_grows lan lan' id l.number ports (call.all.values id) (λ page. grown_still id lan lan' (call.all.regions id) l.number page);
  said = entry_more script.partition (slice_get script.seats.items) (port_seen lan') (port_then line.number lan') (λ unit sat. now unit sat) line.verb row.outcome call.said;
}
  where
    earlier : (unit : ℕ) → slice_get script.seats.items unit ≡ Some sits.Port → (page : ℕ) (stroke : StrokeValue) → IsOn stroke (strokes_at lan' (unit_of script.partition unit) page)
        → stroke.name.who ≡ unit_of script.partition unit → stroke.name.mark ≤ line.number
    earlier unit sat page stroke on mine =
        let id : UnitId = unit_of script.partition unit in
        logged_most script.lines.now script.logs.items row script.at line id stroke.name.mark turn found reached
        (ends_logged script.lines.now script.logs.items script.at line row true lan lan' id found reached (none_laid id line true lan lan' (call.all.regions id)) (logged unit sat)
        page stroke on mine)

    now : (unit : ℕ) → slice_get script.seats.items unit ≡ Some sits.Port
        → UnitGrows (port_seen lan' (unit_of script.partition unit)) (port_then line.number lan' (unit_of script.partition unit))
    now unit sat = record {
      pages = refl;
      values = λ entry value is. is;
      puts = λ entry value is. is;
      fronts = λ page front is. then_now (unit_of script.partition unit) line.number front (strokes_at lan' (unit_of script.partition unit) page) (earlier unit sat page) is;
      held = λ never. never;
      entries = λ entry is. is;
    }

pub entries_step : (lan lan' : LanValue) (script ended : Script) (line : Line) (row : LogRow) (done' : ℕ) → slice_get script.lines.now script.at ≡ Some line
    → length script.logs.items ≡ script.at → ended.partition ≡ script.partition → ended.lines ≡ script.lines → ended.seats ≡ script.seats
    → ended.logs.items ≡ script.logs.items ++ row ∷ [] → lan'.seats ≡ lan.seats
    → (is_call line.verb ≡ true → EndsEntries script.partition (slice_get script.seats.items) line.verb lan lan' (steps.Ends row.outcome))
    → (is_call line.verb ≡ false → TellsStep script.partition script.seats.items line (done_in script.progress) done' lan lan' (steps.Ends row.outcome))
    → TellsLogged lan script → TellsEntries lan script → TellsEntries lan' ended
entries_step lan lan' script ended line row done' found reached partition lines seats logs ports call step logged =
    entries_end lan lan' script ended line row found reached partition lines seats logs (λ turn. by turn (is_call line.verb) refl call step)
  where
    by : AreInTurn script.lines.now script.logs.items script.at → (b : Bool) → is_call line.verb ≡ b
        → (b ≡ true → EndsEntries script.partition (slice_get script.seats.items) line.verb lan lan' (steps.Ends row.outcome))
        → (b ≡ false → TellsStep script.partition script.seats.items line (done_in script.progress) done' lan lan' (steps.Ends row.outcome))
        → EndsLine script line row lan lan'
    by turn true e h k = call_ends lan lan' script line row found reached turn ports (h refl) logged
    by turn false e h k = no_call_ends lan lan' script line row done' found reached turn e (k refl)

-- a line that makes no call, and changed none
pub entries_quiet : (lan lan' : LanValue) (script ended : Script) (line : Line) (row : LogRow) → slice_get script.lines.now script.at ≡ Some line
    → length script.logs.items ≡ script.at → ended.partition ≡ script.partition → ended.lines ≡ script.lines → ended.seats ≡ script.seats
    → ended.logs.items ≡ script.logs.items ++ row ∷ [] → is_call line.verb ≡ false → AllSilent lan lan' → TellsEntries lan script → TellsEntries lan' ended
entries_quiet lan lan' script ended line row found reached partition lines seats logs none silent =
    entries_end lan lan' script ended line row found reached partition lines seats logs (λ turn.
    record {
      grow = λ unit sat i l r there has.
          let s = silent (unit_of script.partition unit) in
          still_grows lan lan' (unit_of script.partition unit) l.number s.seats s.values s.regions;
      said = entry_none script.partition (slice_get script.seats.items) (port_then line.number lan') line.verb row.outcome none;
    })

pub entries_rest : (lan lan' : LanValue) (script : Script) → AllTake script.partition lan lan' → TellsEntries lan script → TellsEntries lan' script
entries_rest lan lan' script takes =
    entries_still lan lan' script (λ unit. let still = (takes unit).still in (still.seats, still.values, still.regions))

pub entries_silent : (lan lan' : LanValue) (script : Script) → AllSilent lan lan' → TellsEntries lan script → TellsEntries lan' script
entries_silent lan lan' script silent =
    entries_still lan lan' script (λ unit. let s = silent (unit_of script.partition unit) in (s.seats, s.values, s.regions))

-- a script before its first line
pub entries_fresh : (lan : LanValue) (script : Script) → script.logs.items ≡ [] → TellsEntries lan script
entries_fresh lan script logs turn i line row there at = absurd (no_row row (ap (λ rows. slice_get rows i) (sym logs) ∙ at))
