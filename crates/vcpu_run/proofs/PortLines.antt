-- What the lines of LAN units say of their own regions, as steps of lines go on.
use Rattle.std.specs.Prelude.{⊤}
use Rattle.std.proofs.Common.{◌≡◌, ◌⊎◌, inl, inr, ◌∙◌, ℕ, zero, suc, ◌<◌, ◌≤◌, ◌++◌, ◌==◌, nat_lt, cond, Bool, true, false, true≢false, IfSome, List, [], ◌∷◌, Option, Some, None, length, length-append, refl, sym, ap, subst, arith}
use Rattle.std.specs.List.{AllPairs, slice_get}
use Rattle.std.proofs.lemmas.Bool.Decides.{nat_tests}
use Rattle.vio_num.specs.declared.hypervisor.Moved.{Moved}
use Rattle.vio_num.specs.declared.names.UnitId.{UnitId}
use Rattle.boot_text.specs.declared.plan.Line.{Line}
use Rattle.boot_text.specs.declared.verb.Verb.{Verb}
use Rattle.boot_text.specs.declared.verb.Verb.TheVariants as verbs
use Rattle.page_slots.specs.Stroke.{StrokeValue}
use Rattle.tce_window.specs.Port.{Grows}
use Rattle.unit_region.specs.RegionLines.{IsFrontOn, IsOn, IsTold, RegionSeen, read_by, region_seen, written_by}
use Rattle.unit_region.proofs.Laws.{on_as, on_grows, on_self, on_then}
use Rattle.unit_region.specs.declared.step.Step.{Step}
use Rattle.unit_region.specs.declared.step.Step.TheVariants as steps
use Rattle.vio_trace.specs.declared.outcome.Outcome.{Outcome}
use Rattle.vio_trace.specs.declared.rows.LogRow.{LogRow}
use Rattle.lan_script.specs.Regions.{strokes_at}
use Rattle.lan_script.specs.Seats.{is_in_region, seat_at}
use Rattle.lan_script.specs.Units.{LanValue}
use Rattle.lan_script.specs.declared.seat.PortSeat.{PortSeat}
use Rattle.lan_script.proofs.Laws.{not_told}
use Rattle.lan_script.proofs.Order.{Each, Ordered}
use Rattle.vcpu_run.specs.declared.script.Script.{Script}
use Rattle.vcpu_run.specs.declared.unit_seat.Seat.TheVariants as sits
use Rattle.vcpu_run.specs.LinesShow.{Seen, Sees}
use Rattle.vcpu_run.specs.PortCalls.{EndsEntries}
use Rattle.vcpu_run.specs.Moments.{AreInTurn, IsMoment, IsWrittenLast, LinesTold}
use Rattle.vcpu_run.specs.PortRegions.{IsCurrent, IsLogged, KeepsLogged, KeepsTold, RegionKept, StepShown, StepWrites}
use Rattle.vcpu_run.specs.PortSteps.{AllSilent, AllTake, RisesIf, TellsStep}
use Rattle.vcpu_run.specs.PortWords.{TellsLogged, TellsRegions, done_in}
use Rattle.vcpu_run.specs.Ports.{unit_of}
use Rattle.vcpu_run.specs.Suited.{is_call}
use Rattle.vcpu_run.specs.Works.{fails}
use Rattle.vcpu_run.proofs.LinesShown.{no_row, region_more, row_at}
use Rattle.vcpu_run.proofs.Driving.{some_is}
use Rattle.vcpu_run.proofs.Following.{ordered_from}
use Rattle.vcpu_run.proofs.PortLogged.{LaidBy, ends_logged, none_laid, tells_laid}

-- ---- what there was of a region is there

-- a region, as what there is of a unit
abbrev pub seen_as : RegionSeen → Seen
seen_as region = record { stroke_at = region.stroke_at; front_at = region.front_at; value_at = λ entry value. ⊤; entry_put = λ entry. ⊤ }

-- the same strokes
pub region_same : (old new : ℕ → Option (List StrokeValue)) → ((page : ℕ) → new page ≡ old page) → Sees (seen_as (region_seen old)) (seen_as (region_seen new))
region_same old new same = record {
  strokes = λ page stroke is. subst (IsOn stroke) (sym (same page)) is;
  fronts = λ page front is. (is.0 ∙ sym (same page), is.1);
  values = λ entry value is. is;
  entries = λ entry is. is;
}

pub told_sees : (a b : RegionSeen) (pages : ℕ) (unit : UnitId) (mark : ℕ) (verb : Verb) (outcome : Outcome) → Sees (seen_as a) (seen_as b)
    → IsTold a pages unit mark verb outcome → IsTold b pages unit mark verb outcome
told_sees a b pages unit mark verb outcome sees is = record {
  says = is.says;
  shows = region_more (seen_as a) (seen_as b) sees unit mark (written_by verb) (read_by verb) outcome is.shows;
}

-- ---- moments

-- of a page that has more strokes, where those of the unit's own bear later numbers
unfoldable pub moments_grown : (strokes strokes' : ℕ → Option (List StrokeValue)) (pages : ℕ) (who : UnitId) (lines : List Line) (rows : List LogRow)
    → ((i : ℕ) (line : Line) (row : LogRow) → slice_get lines i ≡ Some line → slice_get rows i ≡ Some row → (page : ℕ)
    → IsFrontOn who (λ mark. line.number < mark) (strokes page) (strokes' page))
    → LinesTold strokes pages who lines rows → LinesTold strokes' pages who lines rows
moments_grown strokes strokes' pages who lines rows more told = record {
  had = told.had;
  moments = λ i line row there at page.
      let moment = told.moments i line row there at page in
      record {
        earlier = moment.earlier;
        later = on_then who (λ mark. line.number < mark) (told.had i page) (strokes page) (strokes' page) moment.later (more i line row there at page);
      };
  rises = told.rises;
  told = told.told;
  wrote = told.wrote;
}

-- the same strokes
unfoldable pub moments_same : (strokes strokes' : ℕ → Option (List StrokeValue)) (pages : ℕ) (who : UnitId) (lines : List Line) (rows : List LogRow)
    → ((page : ℕ) → strokes' page ≡ strokes page) → LinesTold strokes pages who lines rows → LinesTold strokes' pages who lines rows
moments_same strokes strokes' pages who lines rows same =
    moments_grown strokes strokes' pages who lines rows (λ i line row there at page.
    subst (IsFrontOn who (λ mark. line.number < mark) (strokes page)) (sym (same page)) (on_self who (λ mark. line.number < mark) (strokes page)))

-- places of records
pub has_place : {X : Type 0} (xs : List X) (i : ℕ) (x : X) → slice_get xs i ≡ Some x → i < length xs
has_place [] i x e = absurd (cc (e))
has_place (first ∷ xs) zero x e = omega arith
has_place (first ∷ xs) (suc i) x e = let h = has_place xs i x e in omega (arith, h)

pub below_it : (i n : ℕ) → i < n → nat_lt i n ≡ true
below_it i n less = grind (arith, nat_tests, less)

pub not_below : (i n : ℕ) → i ≡ n → nat_lt i n ≡ false
not_below i n same = grind (arith, nat_tests, same)

-- ---- one record more

-- What a line that ended so leaves of a region, and says of it.
pub record EndsTold (strokes : ℕ → Option (List StrokeValue)) (pages : ℕ) (who : UnitId) (line : Line) (row : LogRow) : Type 0 where
  pub earlier : (page : ℕ) (stroke : StrokeValue) → IsOn stroke (strokes page) → stroke.name.who ≡ who → stroke.name.mark ≤ line.number
  pub told : line.unit ≡ who.unit → IsTold (region_seen strokes) pages who line.number line.verb row.outcome
  pub wrote : line.unit ≡ who.unit → is_in_region line.verb ≡ true → (page : ℕ) → IsWrittenLast who line.number (written_by line.verb) row.outcome page (strokes page)

-- before the first record
pub lines_fresh : (strokes : ℕ → Option (List StrokeValue)) (pages : ℕ) (who : UnitId) (lines : List Line) → LinesTold strokes pages who lines []
lines_fresh strokes pages who lines = record {
  had = λ place page. None;
  moments = λ i line row there has page. absurd (no_row row has);
  rises = λ i j line row there has before inside page. absurd (no_row row has);
  told = λ i line row there has own. absurd (no_row row has);
  wrote = λ i line row there has own here page. absurd (no_row row has);
}

unfoldable pub lines_one : (strokes : ℕ → Option (List StrokeValue)) (pages : ℕ) (who : UnitId) (lines : List Line) (rows : List LogRow) (line : Line) (row : LogRow)
    → slice_get lines (length rows) ≡ Some line → LinesTold strokes pages who lines rows → EndsTold strokes pages who line row
    → LinesTold strokes pages who lines (rows ++ row ∷ [])
lines_one strokes pages who lines rows line row found told last = record {
  had = had;
  moments = λ i l r there at page. moment i l r there page (row_at rows row r i at);
  rises = λ i j l r there at before inside page. rise i j l r there page before inside (row_at rows row r i at);
  told = λ i l r there at own. say i l r there own (row_at rows row r i at);
  wrote = λ i l r there at own here page. write i l r there own here page (row_at rows row r i at);
}
  where
    had : (place page : ℕ) → Option (List StrokeValue)
    had place page = cond (nat_lt place (length rows)) (told.had place page) (strokes page)

    was : (i : ℕ) (r : LogRow) → slice_get rows i ≡ Some r → (page : ℕ) → told.had i page ≡ had i page
    was i r at page = ap (λ b. cond b (told.had i page) (strokes page)) (sym (below_it i (length rows) (has_place rows i r at)))

    now : (i : ℕ) → i ≡ length rows → (page : ℕ) → strokes page ≡ had i page
    now i e page = ap (λ b. cond b (told.had i page) (strokes page)) (sym (not_below i (length rows) e))

    same : (i : ℕ) (l : Line) → slice_get lines i ≡ Some l → i ≡ length rows → line ≡ l
    same i l there e = sym (some_is l line (sym there ∙ (ap (slice_get lines) e ∙ found)))

    moment : (i : ℕ) (l : Line) (r : LogRow) → slice_get lines i ≡ Some l → (page : ℕ) → (slice_get rows i ≡ Some r) ⊎ ((i ≡ length rows) × (r ≡ row))
        → IsMoment who l.number (had i page) (strokes page)
    moment i l r there page (inl at) = subst (λ o. IsMoment who l.number o (strokes page)) (was i r at page) (told.moments i l r there at page)
    moment i l r there page (inr at) =
        subst (λ o. IsMoment who l.number o (strokes page)) (now i at.0 page)
        (subst (λ (x : Line). IsMoment who x.number (strokes page) (strokes page)) (same i l there at.0)
        (record { earlier = last.earlier page; later = on_self who (λ mark. line.number < mark) (strokes page) }))

    grown : (i : ℕ) (l : Line) (r : LogRow) → slice_get lines i ≡ Some l → (page : ℕ) → slice_get rows i ≡ Some r → Grows true (told.had i page) (strokes page)
    grown i l r there page at = on_grows who (λ mark. l.number < mark) (told.had i page) (strokes page) (told.moments i l r there at page).later

    old_rise : (i j : ℕ) (l : Line) (r : LogRow) → slice_get lines i ≡ Some l → (page : ℕ) → i ≤ j → slice_get rows i ≡ Some r → (b : Bool)
        → nat_lt j (length rows) ≡ b → Grows true (told.had i page) (cond b (told.had j page) (strokes page))
    old_rise i j l r there page before at true e = told.rises i j l r there at before (grind (arith, nat_tests, e)) page
    old_rise i j l r there page before at false e = grown i l r there page at

    rise : (i j : ℕ) (l : Line) (r : LogRow) → slice_get lines i ≡ Some l → (page : ℕ) → i ≤ j → j < length (rows ++ row ∷ [])
        → (slice_get rows i ≡ Some r) ⊎ ((i ≡ length rows) × (r ≡ row)) → Grows true (had i page) (had j page)
    rise i j l r there page before inside (inl at) =
        subst (λ o. Grows true o (had j page)) (was i r at page) (old_rise i j l r there page before at (nat_lt j (length rows)) refl)
    rise i j l r there page before inside (inr at) =
        let j_is : j ≡ length rows = omega (arith, before, inside, at.0, length-append rows (row ∷ [])) in
        subst (λ o. Grows true o (had j page)) (now i at.0 page)
        (subst (Grows true (strokes page)) (now j j_is page)
        (on_grows who (λ mark. ⊥) (strokes page) (strokes page) (on_self who (λ mark. ⊥) (strokes page))))

    at_moment : (i : ℕ) (l : Line) (outcome : Outcome) (from : ℕ → Option (List StrokeValue)) → ((page : ℕ) → from page ≡ had i page)
        → IsTold (region_seen from) pages who l.number l.verb outcome → IsTold (region_seen (had i)) pages who l.number l.verb outcome
    at_moment i l outcome from e h =
        told_sees (region_seen from) (region_seen (had i)) pages who l.number l.verb outcome (region_same from (had i) (λ page. sym (e page))) h

    say : (i : ℕ) (l : Line) (r : LogRow) → slice_get lines i ≡ Some l → l.unit ≡ who.unit → (slice_get rows i ≡ Some r) ⊎ ((i ≡ length rows) × (r ≡ row))
        → IsTold (region_seen (had i)) pages who l.number l.verb r.outcome
    say i l r there own (inl at) = at_moment i l r.outcome (told.had i) (was i r at) (told.told i l r there at own)
    say i l r there own (inr at) =
        subst (λ (x : LogRow). IsTold (region_seen (had i)) pages who l.number l.verb x.outcome) (sym at.1)
        (at_moment i l row.outcome strokes (now i at.0)
        (subst (λ (x : Line). IsTold (region_seen strokes) pages who x.number x.verb row.outcome) (same i l there at.0)
        (last.told (ap (λ (x : Line). x.unit) (same i l there at.0) ∙ own))))

    write : (i : ℕ) (l : Line) (r : LogRow) → slice_get lines i ≡ Some l → l.unit ≡ who.unit → is_in_region l.verb ≡ true → (page : ℕ)
        → (slice_get rows i ≡ Some r) ⊎ ((i ≡ length rows) × (r ≡ row)) → IsWrittenLast who l.number (written_by l.verb) r.outcome page (had i page)
    write i l r there own here page (inl at) =
        subst (IsWrittenLast who l.number (written_by l.verb) r.outcome page) (was i r at page) (told.wrote i l r there at own here page)
    write i l r there own here page (inr at) =
        subst (λ (x : LogRow). IsWrittenLast who l.number (written_by l.verb) x.outcome page (had i page)) (sym at.1)
        (subst (IsWrittenLast who l.number (written_by l.verb) row.outcome page) (now i at.0 page)
        (subst (λ (x : Line). IsWrittenLast who x.number (written_by x.verb) row.outcome page (strokes page)) (same i l there at.0)
        (last.wrote (ap (λ (x : Line). x.unit) (same i l there at.0) ∙ own) (ap (λ (x : Line). is_in_region x.verb) (same i l there at.0) ∙ here) page)))

-- ---- steps

pub waits_shown : (unit : UnitId) (line : Line) (lan : LanValue) (moved : Moved) → StepShown unit line lan (steps.Waits moved)
waits_shown unit line lan moved = at (seat_at lan.seats unit)
  where
    at : (o : Option PortSeat) → IfSome o (λ seat. ⊤)
    at None = tt
    at (Some seat) = tt

-- a line that is not in its unit's region
pub apart_shown : (unit : UnitId) (line : Line) (lan : LanValue) (outcome : Outcome) → is_in_region line.verb ≡ false → StepShown unit line lan (steps.Ends outcome)
apart_shown unit line lan outcome isnt = at (seat_at lan.seats unit)
  where
    at : (o : Option PortSeat) → IfSome o (λ seat. IsTold (region_seen (strokes_at lan unit)) seat.pages unit line.number line.verb outcome)
    at None = tt
    at (Some seat) = not_told (region_seen (strokes_at lan unit)) seat.pages unit line.number line.verb outcome isnt

pub call_apart : (verb : Verb) → is_call verb ≡ true → is_in_region verb ≡ false
call_apart (verbs.Hcall number args) is = refl
call_apart verb is = absurd (cc (is))

pub fails_apart : (verb : Verb) → fails verb ≡ true → is_in_region verb ≡ false
fails_apart verbs.Fail is = refl
fails_apart verb is = absurd (cc (is))

-- ---- scripts

-- lines before another bear earlier numbers
later_line : (before : Line → Line → Type 0) (lines : List Line) (j : ℕ) (a b : Line) → Each (before a) lines → slice_get lines j ≡ Some b → before a b
later_line before [] j a b all e = absurd (cc (e))
later_line before (line ∷ lines) zero a b all e = subst (before a) (some_is line b e) all.0
later_line before (line ∷ lines) (suc j) a b all e = later_line before lines j a b all.1 e

in_turn : (before : Line → Line → Type 0) (lines : List Line) (i j : ℕ) (a b : Line) → Ordered before lines → slice_get lines i ≡ Some a → slice_get lines j ≡ Some b
    → i < j → before a b
in_turn before [] i j a b order at to less = absurd (cc (at))
in_turn before (line ∷ lines) zero zero a b order at to less = absurd (omega (arith, less))
in_turn before (line ∷ lines) zero (suc j) a b order at to less = subst (λ x. before x b) (some_is line a at) (later_line before lines j line b order.0 to)
in_turn before (line ∷ lines) (suc i) zero a b order at to less = absurd (omega (arith, less))
in_turn before (line ∷ lines) (suc i) (suc j) a b order at to less = in_turn before lines i j a b order.1 at to (omega (arith, less))

pub numbers_rise : (lines : List Line) (rows : List LogRow) (at i j : ℕ) (a b : Line) → AreInTurn lines rows at → slice_get lines i ≡ Some a → slice_get lines j ≡ Some b → i < j
    → a.number < b.number
numbers_rise lines rows at i j a b turn here there less =
    in_turn (λ (x y : Line). x.number < y.number) lines i j a b (ordered_from (λ (x y : Line). x.number < y.number) lines turn.in_order) here there less

-- of a step at the current line
pub grown_by : (lines : List Line) (rows : List LogRow) (at : ℕ) (line : Line) (ends : Bool) (unit : UnitId) (lan lan' : LanValue) → AreInTurn lines rows at
    → slice_get lines at ≡ Some line → length rows ≡ at → LaidBy unit line ends lan lan'
    → (i : ℕ) (l : Line) (r : LogRow) → slice_get lines i ≡ Some l → slice_get rows i ≡ Some r → (page : ℕ)
    → IsFrontOn unit (λ mark. l.number < mark) (strokes_at lan unit page) (strokes_at lan' unit page)
grown_by lines rows at line ends unit lan lan' turn found reached laid i l r there has page =
    let less = numbers_rise lines rows at i at l line turn there found (let h = has_place rows i r has in omega (arith, h, reached)) in
    on_as unit (λ m. m ≡ line.number) (λ mark. l.number < mark) (strokes_at lan unit page) (strokes_at lan' unit page)
    (λ m is. omega (arith, less, is)) (laid.front page)

-- of what laid nothing of the unit's own
pub grown_still : (unit : UnitId) (lan lan' : LanValue) → RegionKept unit lan lan' → (number page : ℕ)
    → IsFrontOn unit (λ mark. number < mark) (strokes_at lan unit page) (strokes_at lan' unit page)
grown_still unit lan lan' kept number page =
    on_as unit (λ m. ⊥) (λ mark. number < mark) (strokes_at lan unit page) (strokes_at lan' unit page) (λ m never. absurd never) (kept.own page)

-- the same of a LAN unit
keeps_more : (lines : List Line) (rows : List LogRow) (lan lan' : LanValue) (unit : UnitId) → lan'.seats ≡ lan.seats
    → ((i : ℕ) (l : Line) (r : LogRow) → slice_get lines i ≡ Some l → slice_get rows i ≡ Some r → (page : ℕ)
    → IsFrontOn unit (λ mark. l.number < mark) (strokes_at lan unit page) (strokes_at lan' unit page))
    → KeepsTold lines rows lan unit → KeepsTold lines rows lan' unit
keeps_more lines rows lan lan' unit seats more told =
    subst (λ (ss : List PortSeat). IfSome (seat_at ss unit) (λ seat. LinesTold (strokes_at lan' unit) seat.pages unit lines rows)) (sym seats)
    (at (seat_at lan.seats unit) told)
  where
    at : (o : Option PortSeat) → IfSome o (λ seat. LinesTold (strokes_at lan unit) seat.pages unit lines rows)
        → IfSome o (λ seat. LinesTold (strokes_at lan' unit) seat.pages unit lines rows)
    at None told = tt
    at (Some seat) told = moments_grown (strokes_at lan unit) (strokes_at lan' unit) seat.pages unit lines rows more told

-- What the end of a line leaves of a unit's region, and says of it.
record EndsRegion (unit : UnitId) (line : Line) (row : LogRow) (lan lan' : LanValue) : Type 0 where
  seats : lan'.seats ≡ lan.seats
  laid : LaidBy unit line true lan lan'
  said : line.unit ≡ unit.unit → StepShown unit line lan' (steps.Ends row.outcome)
  writes : line.unit ≡ unit.unit → StepWrites unit line lan lan' (steps.Ends row.outcome)

-- a stroke of a line that has a record bears no later number than that of the last
pub logged_most : (lines : List Line) (rows : List LogRow) (row : LogRow) (at : ℕ) (line : Line) (unit : UnitId) (mark : ℕ) → AreInTurn lines rows at
    → slice_get lines at ≡ Some line → length rows ≡ at → IsLogged unit lines (rows ++ row ∷ []) mark → mark ≤ line.number
logged_most lines rows row at line unit mark turn found reached is = by (row_at rows row is.row is.place is.has_row)
  where
    by : (slice_get rows is.place ≡ Some is.row) ⊎ ((is.place ≡ length rows) × (is.row ≡ row)) → mark ≤ line.number
    by (inl h) =
        let less = numbers_rise lines rows at is.place at is.line line turn is.there found (let k = has_place rows is.place is.row h in omega (arith, k, reached)) in
        omega (arith, less, is.number)
    by (inr h) =
        let same : is.line ≡ line = some_is is.line line (sym is.there ∙ (ap (slice_get lines) (h.0 ∙ reached) ∙ found)) in
        omega (arith, ap (λ (l : Line). l.number) same, is.number)

pub logged_less : (lines : List Line) (rows : List LogRow) (at : ℕ) (line : Line) (unit : UnitId) (mark : ℕ) → AreInTurn lines rows at
    → slice_get lines at ≡ Some line → length rows ≡ at → IsLogged unit lines rows mark → mark < line.number
logged_less lines rows at line unit mark turn found reached is =
    let less = numbers_rise lines rows at is.place at is.line line turn is.there found (let k = has_place rows is.place is.row is.has_row in omega (arith, k, reached)) in
    omega (arith, less, is.number)

-- the last line
keeps_one : (lines : List Line) (rows : List LogRow) (at : ℕ) (line : Line) (row : LogRow) (lan lan' : LanValue) (unit : UnitId) → AreInTurn lines rows at
    → slice_get lines at ≡ Some line → length rows ≡ at → EndsRegion unit line row lan lan' → KeepsLogged lines rows at lan unit → KeepsTold lines rows lan unit
    → KeepsTold lines (rows ++ row ∷ []) lan' unit
keeps_one lines rows at line row lan lan' unit turn found reached ends logged told = by (seat_at lan'.seats unit) ends.said grown
  where
    grown : KeepsTold lines rows lan' unit
    grown = keeps_more lines rows lan lan' unit ends.seats (grown_by lines rows at line true unit lan lan' turn found reached ends.laid) told

    now_logged : (page : ℕ) (stroke : StrokeValue) → IsOn stroke (strokes_at lan' unit page) → stroke.name.who ≡ unit → stroke.name.mark ≤ line.number
    now_logged page stroke on mine =
        logged_most lines rows row at line unit stroke.name.mark turn found reached
        (ends_logged lines rows at line row true lan lan' unit found reached ends.laid logged page stroke on mine)

    no_current : (mark : ℕ) → is_in_region line.verb ≡ true → IsLogged unit lines rows mark ⊎ IsCurrent unit lines at mark → mark < line.number
    no_current mark here (inl is) = logged_less lines rows at line unit mark turn found reached is
    no_current mark here (inr is) =
        let same : is.line ≡ line = some_is is.line line (sym is.there ∙ found) in
        absurd (true≢false (sym here ∙ sym (ap (λ (l : Line). is_in_region l.verb) same) ∙ is.apart))

    by : (o : Option PortSeat)
        → (line.unit ≡ unit.unit → IfSome o (λ seat. IsTold (region_seen (strokes_at lan' unit)) seat.pages unit line.number line.verb row.outcome))
        → IfSome o (λ seat. LinesTold (strokes_at lan' unit) seat.pages unit lines rows)
        → IfSome o (λ seat. LinesTold (strokes_at lan' unit) seat.pages unit lines (rows ++ row ∷ []))
    by None said told = tt
    by (Some seat) said told =
        lines_one (strokes_at lan' unit) seat.pages unit lines rows line row (ap (λ n. slice_get lines n) reached ∙ found) told
        (record {
          earlier = now_logged;
          told = said;
          wrote = λ own here page. record {
            before = strokes_at lan unit page;
            is = ends.writes own here page;
            earlier = λ stroke on mine. no_current stroke.name.mark here (logged page stroke on mine);
          };
        })

pub rises_seats : (own : Bool) (unit : UnitId) (verb : Verb) (done done' : ℕ) (lan lan' : LanValue) (step : Step) → RisesIf own unit verb done done' lan lan' step
    → lan'.seats ≡ lan.seats
rises_seats true unit verb done done' lan lan' step h = h.1.seats
rises_seats false unit verb done done' lan lan' step h = h.still.seats

-- what laid nothing of any unit's own
regions_still : (lan lan' : LanValue) (script : Script) → ((unit : ℕ) → (lan'.seats ≡ lan.seats) × RegionKept (unit_of script.partition unit) lan lan')
    → TellsRegions lan script → TellsRegions lan' script
regions_still lan lan' script kept tells turn unit sat =
    let k = kept unit in
    keeps_more script.lines.now script.logs.items lan lan' (unit_of script.partition unit) k.0
    (λ i l r there has page. grown_still (unit_of script.partition unit) lan lan' k.1 l.number page) (tells turn unit sat)

pub regions_wait : (lan lan' : LanValue) (script script' : Script) (line : Line) (moved : Moved) → slice_get script.lines.now script.at ≡ Some line
    → script' ≡ record script { progress = script'.progress } → (is_call line.verb ≡ true → ⊥)
    → (is_call line.verb ≡ false → TellsStep script.partition script.seats.items line (done_in script.progress) (done_in script'.progress) lan lan' (steps.Waits moved))
    → TellsRegions lan script → TellsRegions lan' script'
regions_wait lan lan' script script' line moved found same no_call step tells =
    subst (λ (s : Script). TellsRegions lan' s) (sym same) (by (is_call line.verb) no_call step)
  where
    reached : AreInTurn script.lines.now script.logs.items script.at → length script.logs.items ≡ script.at
    reached turn = turn.reached (has_place script.lines.now script.at line found)

    by : (b : Bool) → (b ≡ true → ⊥)
        → (b ≡ false → TellsStep script.partition script.seats.items line (done_in script.progress) (done_in script'.progress) lan lan' (steps.Waits moved))
        → TellsRegions lan' (record script { progress = script'.progress })
    by true none h turn unit sat = absurd (none refl)
    by false none h turn unit sat =
        keeps_more script.lines.now script.logs.items lan lan' (unit_of script.partition unit)
        (rises_seats (line.unit == unit) (unit_of script.partition unit) line.verb (done_in script.progress) (done_in script'.progress) lan lan' (steps.Waits moved)
        ((h refl).rises unit sat))
        (grown_by script.lines.now script.logs.items script.at line false (unit_of script.partition unit) lan lan' turn found (reached turn)
        (tells_laid lan lan' script line (done_in script.progress) (done_in script'.progress) (steps.Waits moved) unit sat (h refl)))
        (tells turn unit sat)

-- the turn of a script whose line ended is that of the script before
pub before_turn : (script ended : Script) (line : Line) → slice_get script.lines.now script.at ≡ Some line → length script.logs.items ≡ script.at → ended.lines ≡ script.lines
    → AreInTurn ended.lines.now ended.logs.items ended.at → AreInTurn script.lines.now script.logs.items script.at
before_turn script ended line found reached lines turn = record {
  in_order = subst (λ ls. AllPairs (λ (a b : Line). a.number < b.number) ls.now) lines turn.in_order;
  reached = λ less. reached;
}

regions_end : (lan lan' : LanValue) (script ended : Script) (line : Line) (row : LogRow) → slice_get script.lines.now script.at ≡ Some line
    → length script.logs.items ≡ script.at → ended.partition ≡ script.partition → ended.lines ≡ script.lines → ended.seats ≡ script.seats
    → ended.logs.items ≡ script.logs.items ++ row ∷ []
    → ((unit : ℕ) → slice_get script.seats.items unit ≡ Some sits.Port → EndsRegion (unit_of script.partition unit) line row lan lan')
    → TellsLogged lan script → TellsRegions lan script → TellsRegions lan' ended
regions_end lan lan' script ended line row found reached partition lines seats logs ends logged tells turn unit sat =
    subst (λ (p : ℕ). KeepsTold ended.lines.now ended.logs.items lan' (unit_of p unit)) (sym partition)
    (subst (λ ls. KeepsTold ls.now ended.logs.items lan' u) (sym lines)
    (subst (λ (rows : List LogRow). KeepsTold script.lines.now rows lan' u) (sym logs)
    (keeps_one script.lines.now script.logs.items script.at line row lan lan' u was found reached (ends unit sat') (logged unit sat') (tells was unit sat'))))
  where
    u : UnitId
    u = unit_of script.partition unit

    was : AreInTurn script.lines.now script.logs.items script.at
    was = before_turn script ended line found reached lines turn

    sat' : slice_get script.seats.items unit ≡ Some sits.Port
    sat' = ap (λ ss. slice_get ss.items unit) (sym seats) ∙ sat

-- a line that is not in its unit's region, and laid nothing of any unit's own
ends_apart : (unit : UnitId) (line : Line) (row : LogRow) (lan lan' : LanValue) → lan'.seats ≡ lan.seats → RegionKept unit lan lan' → is_in_region line.verb ≡ false
    → EndsRegion unit line row lan lan'
ends_apart unit line row lan lan' seats kept isnt = record {
  seats = seats;
  laid = none_laid unit line true lan lan' kept;
  said = λ own. apart_shown unit line lan' row.outcome isnt;
  writes = λ own here. absurd (true≢false (sym here ∙ isnt));
}

pub regions_step : (lan lan' : LanValue) (script ended : Script) (line : Line) (row : LogRow) (done' : ℕ) → slice_get script.lines.now script.at ≡ Some line
    → length script.logs.items ≡ script.at → ended.partition ≡ script.partition → ended.lines ≡ script.lines → ended.seats ≡ script.seats
    → ended.logs.items ≡ script.logs.items ++ row ∷ [] → lan'.seats ≡ lan.seats
    → (is_call line.verb ≡ true → EndsEntries script.partition (slice_get script.seats.items) line.verb lan lan' (steps.Ends row.outcome))
    → (is_call line.verb ≡ false → TellsStep script.partition script.seats.items line (done_in script.progress) done' lan lan' (steps.Ends row.outcome))
    → TellsLogged lan script → TellsRegions lan script → TellsRegions lan' ended
regions_step lan lan' script ended line row done' found reached partition lines seats logs ports call step =
    regions_end lan lan' script ended line row found reached partition lines seats logs (by (is_call line.verb) refl call step)
  where
    by : (b : Bool) → is_call line.verb ≡ b → (b ≡ true → EndsEntries script.partition (slice_get script.seats.items) line.verb lan lan' (steps.Ends row.outcome))
        → (b ≡ false → TellsStep script.partition script.seats.items line (done_in script.progress) done' lan lan' (steps.Ends row.outcome))
        → (unit : ℕ) → slice_get script.seats.items unit ≡ Some sits.Port → EndsRegion (unit_of script.partition unit) line row lan lan'
    by true e h k unit sat =
        ends_apart (unit_of script.partition unit) line row lan lan' ports ((h refl).all.regions (unit_of script.partition unit)) (call_apart line.verb e)
    by false e h k unit sat = record {
      seats = rises_seats (line.unit == unit) (unit_of script.partition unit) line.verb (done_in script.progress) done' lan lan' (steps.Ends row.outcome)
          ((k refl).rises unit sat);
      laid = tells_laid lan lan' script line (done_in script.progress) done' (steps.Ends row.outcome) unit sat (k refl);
      said = λ own. (k refl).shows unit sat own;
      writes = λ own. (k refl).writes unit sat own;
    }

pub regions_quiet : (lan lan' : LanValue) (script ended : Script) (line : Line) (row : LogRow) → slice_get script.lines.now script.at ≡ Some line
    → length script.logs.items ≡ script.at → ended.partition ≡ script.partition → ended.lines ≡ script.lines → ended.seats ≡ script.seats
    → ended.logs.items ≡ script.logs.items ++ row ∷ [] → is_in_region line.verb ≡ false → AllSilent lan lan' → TellsLogged lan script → TellsRegions lan script
    → TellsRegions lan' ended
regions_quiet lan lan' script ended line row found reached partition lines seats logs isnt silent =
    regions_end lan lan' script ended line row found reached partition lines seats logs (λ unit sat.
    let s = silent (unit_of script.partition unit) in
    ends_apart (unit_of script.partition unit) line row lan lan' s.seats s.regions isnt)

pub regions_rest : (lan lan' : LanValue) (script : Script) → AllTake script.partition lan lan' → TellsRegions lan script → TellsRegions lan' script
regions_rest lan lan' script takes = regions_still lan lan' script (λ unit. ((takes unit).still.seats, (takes unit).still.regions))

pub regions_silent : (lan lan' : LanValue) (script : Script) → AllSilent lan lan' → TellsRegions lan script → TellsRegions lan' script
regions_silent lan lan' script silent =
    regions_still lan lan' script (λ unit. ((silent (unit_of script.partition unit)).seats, (silent (unit_of script.partition unit)).regions))

-- a script before its first line
pub regions_fresh : (lan : LanValue) (script : Script) → script.logs.items ≡ [] → TellsRegions lan script
regions_fresh lan script logs turn unit sat = at (seat_at lan.seats u)
  where
    u : UnitId
    u = unit_of script.partition unit

    none : (i : ℕ) (row : LogRow) → slice_get script.logs.items i ≡ Some row → ⊥
    none i row has = no_row row (ap (λ rows. slice_get rows i) (sym logs) ∙ has)

    at : (o : Option PortSeat) → IfSome o (λ seat. LinesTold (strokes_at lan u) seat.pages u script.lines.now script.logs.items)
    at None = tt
    at (Some seat) = record {
      had = λ place page. None;
      moments = λ i line row there has page. absurd (none i row has);
      rises = λ i j line row there has before inside page. absurd (none i row has);
      told = λ i line row there has own. absurd (none i row has);
      wrote = λ i line row there has own here page. absurd (none i row has);
    }
