-- What turns leave of the records of clients: the strokes that these laid in their own regions, and what their lines said of them.
use Rattle.std.proofs.Common.{◌≡◌, ◌∙◌, ◌⊎◌, inl, inr, ℕ, ◌<◌, ◌≤◌, ◌++◌, Bool, true, false, Err, List, [], ◌∷◌, Option, Some, None, IfOk, IfSome, IsSome, IsSomeAnd, Ok, Result, length, slice_get, slice_set, refl, sym, ap, subst, arith}
use Rattle.std.proofs.lemmas.Option.{slice_get_within}
use Rattle.vio_num.specs.declared.hypervisor.Moved.{Moved}
use Rattle.vio_num.specs.declared.memory.NoMemory.{NoMemory}
use Rattle.vio_num.specs.declared.names.UnitId.{UnitId}
use Rattle.boot_text.specs.declared.plan.Line.{Line}
use Rattle.boot_text.specs.declared.verb.Verb.{Verb}
use Rattle.boot_text.specs.declared.verb.Verb.TheVariants as verbs
use Rattle.tce_window.specs.PortState.{PortState}
use Rattle.page_slots.specs.Stroke.{StrokeValue}
use Rattle.tce_window.specs.PlainPort.{known_of}
use Rattle.tce_window.specs.Window.{strokes_at}
use Rattle.tce_window.specs.Strokes.{with_strokes}
use Rattle.unit_region.specs.Marks.{LaysJust, wrote_on}
use Rattle.unit_region.specs.RegionLines.{IsFrontOn, IsOn, IsTold, StepTold, region_seen, written_by}
use Rattle.unit_region.specs.declared.step.Step.{Step}
use Rattle.unit_region.specs.declared.step.Step.TheVariants as steps
use Rattle.unit_region.proofs.Laws.{on_as, on_cases, with_none}
use Rattle.vio_trace.specs.declared.rows.LogRow.{LogRow}
use Rattle.vscsi_client.specs.Transferred.{DataRange}
use Rattle.lan_script.specs.Seats.{is_in_region}
use Rattle.lan_script.proofs.Laws.{not_told}
use Rattle.vcpu_run.specs.declared.driver.Driver.{Driver}
use Rattle.vcpu_run.specs.declared.pair.Pair.{Pair}
use Rattle.vcpu_run.specs.declared.script.Progress.{Progress}
use Rattle.vcpu_run.specs.declared.script.Script.{Script}
use Rattle.vcpu_run.specs.declared.unit_seat.Seat.{Seat}
use Rattle.vcpu_run.specs.declared.unit_seat.Seat.TheVariants as sits
use Rattle.vcpu_run.specs.ClientMoments.{LineStepped, PairStepped, RegionStepped, SeatStepped, StepsInRegion}
use Rattle.vcpu_run.specs.ClientStrokes.{AreBare, KeepsOwn, LineLays, LogsStrokes, NoneLay, PairLays, PairLaysNone, PairRecords}
use Rattle.vio_trace.specs.declared.window_rows.CopyRow.{CopyRow}
use Rattle.vcpu_run.specs.StrokeMakers.{named_rows}
use Rattle.vcpu_run.specs.CopiesCounted.{AllMadeBy, AreMadeBy, named_by}
use Rattle.vcpu_run.specs.Agreed.{OnDrivers}
use Rattle.vcpu_run.specs.DataNoted.{HasNoted, PairNoted}
use Rattle.vcpu_run.specs.NotedOn.{AllKeepNoted, KeepsNoted}
use Rattle.vcpu_run.specs.LinesRead.{AreKept, AskedOf, ClientLines, IsAskedBefore, IsLineRead, LineRead, PairRead, asked_by}
use Rattle.vcpu_run.specs.Moments.{AreInTurn}
use Rattle.vcpu_run.specs.PortRegions.{IsCurrent, IsLogged}
use Rattle.vcpu_run.specs.Ports.{unit_of}
use Rattle.vcpu_run.specs.Scripts.{AreSeats}
use Rattle.vcpu_run.specs.Works.{sends}
use Rattle.vcpu_run.specs.ScriptTold.{SameClient, SameClients}
use Rattle.vcpu_run.proofs.ClientsLay.{line_lays_none}
use Rattle.vcpu_run.proofs.Crediting.{one_seat}
use Rattle.vcpu_run.proofs.Driving.{get_set_same, some_is}
use Rattle.vcpu_run.proofs.LinesRead.{client_counted, client_fresh, client_grown, client_one, read_fewer}
use Rattle.vcpu_run.specs.Machines.{AllStay}
use Rattle.vcpu_run.proofs.DataNoted.{asked_kept, keep_clients, pair_kept_none, pair_kept_on, pair_kept_one, pair_noted_on, server_of}
use Rattle.vcpu_run.proofs.CopiesCounted.{counted_more, made_all}
use Rattle.vcpu_run.proofs.PortLines.{has_place, logged_less, logged_most, numbers_rise}
use Rattle.vcpu_run.proofs.PortLogged.{logged_last, logged_more}

both_ways : (b : Bool) → b ≡ true → b ≡ false → ⊥
both_ways b is other = cc

-- ---- a step

pub in_region_stepped : (shared : Bool) (line : Line) (old new : PortState) (result : Result Step NoMemory)
    → IfOk result (λ step. LaysJust shared old new line.number (written_by line.verb) (Ok step))
    → IfOk result (StepTold (region_seen new.strokes) old.place.size old.place.unit line.number line.verb) → RegionStepped shared line old new result
in_region_stepped shared line old new (Ok step) lays tells region = record { lays = lays; tells = tells }
in_region_stepped shared line old new (Err memory) lays tells region = tt

pub not_in_region : (shared : Bool) (line : Line) (old new : PortState) (result : Result Step NoMemory) → is_in_region line.verb ≡ false
    → RegionStepped shared line old new result
not_in_region shared line old new result apart region = absurd (both_ways (is_in_region line.verb) region apart)

-- a line that sends a command is none in the region
pub sends_apart : (verb : Verb) → sends verb ≡ true → is_in_region verb ≡ false
sends_apart verbs.Login is = refl
sends_apart verbs.Reset is = refl
sends_apart verbs.Logout is = refl
sends_apart verbs.Tur is = refl
sends_apart (verbs.Read lba blocks at pieces table) is = refl
sends_apart (verbs.Write lba blocks at pieces table) is = refl
sends_apart (verbs.Command cdb) is = refl
sends_apart (verbs.CommandIn cdb at len pieces table) is = refl
sends_apart (verbs.CommandOut cdb at len pieces table) is = refl
sends_apart (verbs.Task function of) is = refl
sends_apart (verbs.Take count) is = refl
sends_apart (verbs.Data of) is = refl
sends_apart verbs.Open is = refl
sends_apart verbs.Close is = refl
sends_apart (verbs.Post at len count) is = refl
sends_apart (verbs.Send to len seed at) is = refl
sends_apart (verbs.ChangeMac own) is = refl
sends_apart (verbs.Multicast control group) is = refl
sends_apart (verbs.Fill at len seed) is = absurd (cc (is))
sends_apart (verbs.Poke at bytes) is = absurd (cc (is))
sends_apart (verbs.Peek at len) is = absurd (cc (is))
sends_apart (verbs.Tce entry page readable writable) is = absurd (cc (is))
sends_apart (verbs.Hcall number arguments) is = refl
sends_apart verbs.Fail is = refl

pub seat_stepped : (line : Line) (result : Result Step NoMemory) (pairs : List Pair) (i : ℕ) (old new : Pair) → slice_get pairs i ≡ Some old → PairStepped line old new result
    → SeatStepped i line pairs (slice_set pairs i new) result
seat_stepped line result pairs i old new there step before after b a =
    let first : before ≡ old = some_is before old (sym b ∙ there) in
    let next : after ≡ new = some_is after new (sym a ∙ get_set_same pairs i new (slice_get_within pairs i old there)) in
    subst (λ (x : Pair). PairStepped line x after result) (sym first) (subst (λ (x : Pair). PairStepped line old x result) (sym next) step)

-- a line that is not one in the region
pub line_apart : (seats : List Seat) (line : Line) (old new : List Pair) (result : Result Step NoMemory) → is_in_region line.verb ≡ false → LineStepped seats line old new result
line_apart seats line old new result apart k sits before after was is region = absurd (both_ways (is_in_region line.verb) region apart)

-- a page of a client's region, where its own strokes are behind what it had
abbrev pub Gains : UnitId → (allowed : ℕ → Type 0) → (old new : Pair) → Type 0
Gains unit allowed old new = (page : ℕ) → IsFrontOn unit allowed (strokes_at old.window.pages page) (strokes_at new.window.pages page)

lays_gains : (may : Type 0) (mark : ℕ) (unit : UnitId) (old new : Pair) → old.window.unit ≡ unit → PairLays may mark old new → Gains unit (λ m. may × (m ≡ mark)) old new
lays_gains may mark unit old new named lays page =
    subst (λ (id : UnitId). IsFrontOn id (λ m. may × (m ≡ mark)) (strokes_at old.window.pages page) (strokes_at new.window.pages page)) named (lays.strokes page)

keeps_gains : (unit : UnitId) (old new : Pair) → old.window.unit ≡ unit → KeepsOwn old new → Gains unit (λ m. ⊥) old new
keeps_gains unit old new named keeps page =
    subst (λ (id : UnitId). IsFrontOn id (λ m. ⊥) (strokes_at old.window.pages page) (strokes_at new.window.pages page)) named (keeps page)

-- what was told is so of a region with more strokes, which are of no earlier line
more_told : (copies : List CopyRow) (lines : List Line) (rows : List LogRow) (unit : UnitId) (allowed : ℕ → Type 0) (old new : Pair) → new.server ≡ old.server
    → length new.window.pages ≡ length old.window.pages
    → ((i : ℕ) (l : Line) (r : LogRow) → slice_get lines i ≡ Some l → slice_get rows i ≡ Some r → (m : ℕ) → allowed m → l.number < m) → Gains unit allowed old new
    → ClientLines old.server (strokes_at old.window.pages) (length old.window.pages) unit lines rows (length copies) (named_by unit copies)
    → ClientLines new.server (strokes_at new.window.pages) (length new.window.pages) unit lines rows (length copies) (named_by unit copies)
more_told copies lines rows unit allowed old new server size later gains told =
    subst (λ (u : UnitId). ClientLines u (strokes_at new.window.pages) (length new.window.pages) unit lines rows (length copies) (named_by unit copies)) (sym server)
    (subst (λ n. ClientLines old.server (strokes_at new.window.pages) n unit lines rows (length copies) (named_by unit copies)) (sym size)
    (client_grown old.server (strokes_at old.window.pages) (strokes_at new.window.pages) (length old.window.pages) unit lines rows (length copies) (named_by unit copies)
    (λ i l r there has page.
    on_as unit allowed (λ m. l.number < m) (strokes_at old.window.pages page) (strokes_at new.window.pages page) (later i l r there has) (gains page)) told))

-- nothing of the unit's own was laid
records_still : (copies : List CopyRow) (lines : List Line) (rows : List LogRow) (at : ℕ) (unit : UnitId) (old new : Pair) → new.server ≡ old.server
    → OnDrivers old.driver new.driver KeepsNoted → length new.window.pages ≡ length old.window.pages → Gains unit (λ m. ⊥) old new → PairRecords copies lines rows at unit old → PairRecords copies lines rows at unit new
records_still copies lines rows at unit old new server keeps size gains is = record {
  noted = pair_noted_on old new server keeps is.noted;
  kept = pair_kept_on unit.unit lines rows old new keeps is.noted is.kept;
  logged = λ page stroke on own. by page stroke own (on_cases unit (λ m. ⊥) (strokes_at old.window.pages page) (strokes_at new.window.pages page) stroke (gains page) on own);
  told = more_told copies lines rows unit (λ m. ⊥) old new server size (λ i l r there has m never. absurd never) gains is.told;
}
  where
    by : (page : ℕ) (stroke : StrokeValue) → stroke.name.who ≡ unit → IsOn stroke (strokes_at old.window.pages page) ⊎ ⊥
        → IsLogged unit lines rows stroke.name.mark ⊎ IsCurrent unit lines at stroke.name.mark
    by page stroke own (inl was) = is.logged page stroke was own
    by page stroke own (inr never) = absurd never

-- ---- the clients of a script

pub logs_bare : (copies : ℕ → List CopyRow) (pairs : List Pair) (script : Script) → script.logs.items ≡ [] → AreBare pairs → ((k : ℕ) (pair : Pair) → slice_get pairs k ≡ Some pair → PairNoted pair) → LogsStrokes copies pairs script
logs_bare copies pairs script none bare noted unit k pair here there named = record {
  noted = noted k pair there;
  kept = pair_kept_none unit script.lines.now script.logs.items pair none;
  logged = λ page stroke on own. absurd (bare k pair there page stroke on);
  told = subst (λ (rows : List LogRow). ClientLines pair.server (strokes_at pair.window.pages) (length pair.window.pages) (unit_of script.partition unit) script.lines.now rows
      (length (copies k)) (named_by (unit_of script.partition unit) (copies k))) (sym none)
      (client_fresh pair.server (strokes_at pair.window.pages) (length pair.window.pages) (unit_of script.partition unit) script.lines.now (length (copies k))
      (named_by (unit_of script.partition unit) (copies k)));
}

pub logs_else : (copies : ℕ → List CopyRow) (old new : List Pair) (script : Script)
    → ((unit k : ℕ) → slice_get script.seats.items unit ≡ Some (sits.Client k) → slice_get new k ≡ slice_get old k)
    → LogsStrokes copies old script → LogsStrokes copies new script
logs_else copies old new script same is unit k pair here there = is unit k pair here (sym (same unit k here) ∙ there)

pub logs_still : (copies : ℕ → List CopyRow) (old new : List Pair) (script : Script) → AllStay old new → AllKeepNoted old new → NoneLay old new
    → LogsStrokes copies old script → LogsStrokes copies new script
logs_still copies old new script stay keep lays is unit k after here there named = by (slice_get old k) refl (lays k after there)
  where
    id : UnitId
    id = unit_of script.partition unit

    by : (o : Option Pair) → slice_get old k ≡ o → IsSomeAnd o (λ before. PairLaysNone before after)
        → PairRecords (copies k) script.lines.now script.logs.items script.at id after
    by None e h = absurd h
    by (Some before) e h =
        let was : before.window.unit ≡ id = sym h.unit ∙ named in
        records_still (copies k) script.lines.now script.logs.items script.at id before after (server_of old new stay k before after e there) (keep k before after e there) h.pages
        (λ page.
        on_as id (λ m. ⊥ × (m ≡ 0)) (λ m. ⊥) (strokes_at before.window.pages page) (strokes_at after.window.pages page) (λ m never. never.0) (lays_gains ⊥ 0 id before after was h page))
        (is unit k before here e was)

pub logs_served : (copies : ℕ → List CopyRow) (old new : List Pair) (script : Script) → AllStay old new → SameClients old new → LogsStrokes copies old script
    → LogsStrokes copies new script
logs_served copies old new script stay same is unit k after here there named = by (slice_get old k) refl (same k after there)
  where
    id : UnitId
    id = unit_of script.partition unit

    by : (o : Option Pair) → slice_get old k ≡ o → IsSomeAnd o (λ before. SameClient before after)
        → PairRecords (copies k) script.lines.now script.logs.items script.at id after
    by None e h = absurd h
    by (Some before) e h =
        let was : before.window.unit ≡ id = sym h.unit ∙ named in
        records_still (copies k) script.lines.now script.logs.items script.at id before after (server_of old new stay k before after e there)
        (keep_clients old new same k before after e there) h.pages (keeps_gains id before after was h.own) (is unit k before here e was)

-- the unit of the current line sits where the client does
line_unit : (old : List Pair) (script : Script) (line : Line) (unit k : ℕ) → AreSeats script.partition script.seats.items old
    → slice_get script.seats.items unit ≡ Some (sits.Client k) → slice_get script.seats.items line.unit ≡ Some (sits.Client k) → line.unit ≡ unit
line_unit old script line unit k are here there = one_seat script.partition line.unit unit k script.seats.items old are there here

-- a line in the region that waits laid nothing
waited : (line : Line) (did : Moved) (page : ℕ) (before after : Pair) → StepsInRegion false line (known_of before.window) (known_of after.window) (steps.Waits did)
    → strokes_at after.window.pages page ≡ strokes_at before.window.pages page
waited line did page before after step = step.lays refl page ∙ with_none (strokes_at before.window.pages page)

pub logs_waits : (copies : ℕ → List CopyRow) (old new : List Pair) (script : Script) (progress : Progress) (line : Line) (did : Moved) → slice_get script.lines.now script.at ≡ Some line
    → AreInTurn script.lines.now script.logs.items script.at → length script.logs.items ≡ script.at → AreSeats script.partition script.seats.items old
    → AllStay old new → AllKeepNoted old new → LineLays script.seats.items line old new → LineStepped script.seats.items line old new (Ok (steps.Waits did)) → LogsStrokes copies old script
    → LogsStrokes copies new (record script { progress = progress })
logs_waits copies old new script progress line did found turn reached are stay keep lays steps is unit k after here there named = by (slice_get old k) refl (lays k after there)
  where
    id : UnitId
    id = unit_of script.partition unit

    Mine : Type 0
    Mine = slice_get script.seats.items line.unit ≡ Some (sits.Client k)

    later : (i : ℕ) (l : Line) (r : LogRow) → slice_get script.lines.now i ≡ Some l → slice_get script.logs.items i ≡ Some r → (m : ℕ) → Mine × (m ≡ line.number) → l.number < m
    later i l r at has m mine =
        let place = has_place script.logs.items i r has in
        let less = numbers_rise script.lines.now script.logs.items script.at i script.at l line turn at found (omega (arith, place, reached)) in
        omega (arith, less, mine.1)

    by : (o : Option Pair) → slice_get old k ≡ o → IsSomeAnd o (λ before. PairLays Mine line.number before after)
        → PairRecords (copies k) script.lines.now script.logs.items script.at id after
    by None e h = absurd h
    by (Some before) e h = record {
      noted = pair_noted_on before after (server_of old new stay k before after e there) (keep k before after e there) before_is.noted;
      kept = pair_kept_on unit script.lines.now script.logs.items before after (keep k before after e there) before_is.noted before_is.kept;
      logged = λ page stroke on own. at page stroke own on (on_cases id (λ m. Mine × (m ≡ line.number)) (strokes_at before.window.pages page) (strokes_at after.window.pages page) stroke (gains page) on own);
      told = more_told (copies k) script.lines.now script.logs.items id (λ m. Mine × (m ≡ line.number)) before after (server_of old new stay k before after e there) h.pages later gains before_is.told;
    }
      where
        was : before.window.unit ≡ id
        was = sym h.unit ∙ named

        gains : (page : ℕ) → IsFrontOn id (λ m. Mine × (m ≡ line.number)) (strokes_at before.window.pages page) (strokes_at after.window.pages page)
        gains = lays_gains Mine line.number id before after was h

        before_is : PairRecords (copies k) script.lines.now script.logs.items script.at id before
        before_is = is unit k before here e was

        apart : (page : ℕ) (stroke : StrokeValue) → Mine × (stroke.name.mark ≡ line.number) → stroke.name.who ≡ id → IsOn stroke (strokes_at after.window.pages page)
            → (b : Bool) → is_in_region line.verb ≡ b → IsLogged id script.lines.now script.logs.items stroke.name.mark ⊎ IsCurrent id script.lines.now script.at stroke.name.mark
        apart page stroke mine own on true region =
            before_is.logged page stroke (subst (IsOn stroke) (waited line did page before after (steps k mine.0 before after e there region)) on) own
        apart page stroke mine own on false region =
            inr (record { line = line; there = found; own = line_unit old script line unit k are here mine.0; number = sym mine.1; apart = region })

        at : (page : ℕ) (stroke : StrokeValue) → stroke.name.who ≡ id → IsOn stroke (strokes_at after.window.pages page)
            → IsOn stroke (strokes_at before.window.pages page) ⊎ (Mine × (stroke.name.mark ≡ line.number))
            → IsLogged id script.lines.now script.logs.items stroke.name.mark ⊎ IsCurrent id script.lines.now script.at stroke.name.mark
        at page stroke own on (inl there) = before_is.logged page stroke there own
        at page stroke own on (inr mine) = apart page stroke mine own on (is_in_region line.verb) refl

some_driver : (P : Driver → Type 0) (o : Option Driver) → IsSomeAnd o P → IsSome o
some_driver P None is = absurd is
some_driver P (Some driver) is = refl

some_both : (P : Driver → Type 0) (o : Option Driver) → IsSome o → IfSome o P → IsSomeAnd o P
some_both P None some is = absurd (cc (some))
some_both P (Some driver) some is = is

-- where a command with data-in is to lie that an earlier line sent, its client keeps
kept_where : (unit : ℕ) (lines : List Line) (rows : List LogRow) (row : LogRow) (i tag : ℕ) (whole : DataRange) (o : Option Driver) → i ≤ length rows → IsSome o
    → IfSome o (λ driver. AreKept unit lines rows driver.client.rows) → IsAskedBefore unit lines (rows ++ row ∷ []) i tag whole → asked_by o tag whole
kept_where unit lines rows row i tag whole None few some kept is = absurd (cc (some))
kept_where unit lines rows row i tag whole (Some driver) few some kept is = asked_kept unit lines rows row driver.client.rows i tag whole few kept is

-- the current line ended
pub logs_ends : (copies : ℕ → List CopyRow) (old new : List Pair) (script ended : Script) (line : Line) (row : LogRow) → slice_get script.lines.now script.at ≡ Some line
    → AreInTurn script.lines.now script.logs.items script.at → length script.logs.items ≡ script.at → AreSeats script.partition script.seats.items old
    → AllStay old new → AllKeepNoted old new → LineLays script.seats.items line old new → LineStepped script.seats.items line old new (Ok (steps.Ends row.outcome))
    → LineRead script.seats.items line old new row.outcome → AllMadeBy copies new
    → ended.partition ≡ script.partition → ended.lines ≡ script.lines → ended.seats ≡ script.seats → ended.logs.items ≡ script.logs.items ++ row ∷ []
    → LogsStrokes copies old script → LogsStrokes copies new ended
logs_ends copies old new script ended line row found turn reached are stay keep lays stepped answered made partition lines seats logs is unit k after here' there named' =
    subst (λ (p : ℕ). PairRecords (copies k) ended.lines.now ended.logs.items ended.at (unit_of p unit) after) (sym partition)
    (subst (λ ls. PairRecords (copies k) ls.now ended.logs.items ended.at id after) (sym lines)
    (subst (λ (rows : List LogRow). PairRecords (copies k) script.lines.now rows ended.at id after) (sym logs) (by (slice_get old k) refl (lays k after there))))
  where
    id : UnitId
    id = unit_of script.partition unit

    named : after.window.unit ≡ id
    named = named' ∙ ap (λ p. unit_of p unit) partition

    here : slice_get script.seats.items unit ≡ Some (sits.Client k)
    here = ap (λ ss. slice_get ss.items unit) (sym seats) ∙ here'

    next : slice_get script.lines.now (length script.logs.items) ≡ Some line
    next = ap (λ n. slice_get script.lines.now n) reached ∙ found

    Mine : Type 0
    Mine = slice_get script.seats.items line.unit ≡ Some (sits.Client k)

    later : (i : ℕ) (l : Line) (r : LogRow) → slice_get script.lines.now i ≡ Some l → slice_get script.logs.items i ≡ Some r → (m : ℕ) → Mine × (m ≡ line.number) → l.number < m
    later i l r at has m mine =
        let place = has_place script.logs.items i r has in
        let less = numbers_rise script.lines.now script.logs.items script.at i script.at l line turn at found (omega (arith, place, reached)) in
        omega (arith, less, mine.1)

    logged : (mark : ℕ) → IsLogged id script.lines.now script.logs.items mark ⊎ IsCurrent id script.lines.now script.at mark
        → IsLogged id script.lines.now (script.logs.items ++ row ∷ []) mark
    logged mark (inl was) = logged_more id script.lines.now script.logs.items row mark was
    logged mark (inr current) =
        let same : current.line ≡ line = some_is current.line line (sym current.there ∙ found) in
        logged_last id script.lines.now script.logs.items line row mark next (sym (ap (λ (l : Line). l.unit) same) ∙ current.own)
        (sym (ap (λ (l : Line). l.number) same) ∙ current.number)

    before_it : (mark : ℕ) → is_in_region line.verb ≡ true → IsLogged id script.lines.now script.logs.items mark ⊎ IsCurrent id script.lines.now script.at mark → mark < line.number
    before_it mark region (inl was) = logged_less script.lines.now script.logs.items script.at line id mark turn found reached was
    before_it mark region (inr current) =
        let same : current.line ≡ line = some_is current.line line (sym current.there ∙ found) in
        absurd (both_ways (is_in_region line.verb) region (sym (ap (λ (l : Line). is_in_region l.verb) same) ∙ current.apart))

    by : (o : Option Pair) → slice_get old k ≡ o → IsSomeAnd o (λ before. PairLays Mine line.number before after)
        → PairRecords (copies k) script.lines.now (script.logs.items ++ row ∷ []) ended.at id after
    by None e h = absurd h
    by (Some before) e h = record {
      noted = pair_noted_on before after (server_of old new stay k before after e there) (keep k before after e there) before_is.noted;
      kept = pair_kept_one unit script.lines.now script.logs.items line row after next
          (pair_kept_on unit script.lines.now script.logs.items before after (keep k before after e there) before_is.noted before_is.kept) (λ own. (read own).keeps);
      logged = λ page stroke on own. inl (now page stroke on own);
      told = client_one after.server (strokes_at after.window.pages) (length after.window.pages) id script.lines.now script.logs.items line row (length (copies k)) (named_by id (copies k)) next
          (more_told (copies k) script.lines.now script.logs.items id (λ m. Mine × (m ≡ line.number)) before after (server_of old new stay k before after e there) h.pages later gains before_is.told)
          (record {
            earlier = λ page stroke on own. logged_most script.lines.now script.logs.items row script.at line id stroke.name.mark turn found reached (now page stroke on own);
            told = λ own. says own (is_in_region line.verb) refl;
            wrote = λ own region page. record {
              before = strokes_at before.window.pages page;
              is = subst (λ (u : UnitId). strokes_at after.window.pages page ≡ with_strokes (strokes_at before.window.pages page) (wrote_on u line.number (written_by line.verb) row.outcome page)) was
                  ((step own region).lays refl page);
              earlier = λ stroke on mine. before_it stroke.name.mark region (before_is.logged page stroke on mine);
            };
          })
          (λ own.
          subst (λ (u : UnitId). IsLineRead u (strokes_at after.window.pages) asked line.verb row.outcome) (sym (server_of old new stay k before after e there))
          (read_fewer before.server (strokes_at after.window.pages) (asked_by before.driver) asked line.verb row.outcome kept_of (read own).reads))
          (made_all id (strokes_at after.window.pages) (copies k)
          (subst (λ (u : UnitId). AreMadeBy u (strokes_at after.window.pages) (λ page. named_rows u page (copies k))) named (made k after there)));
    }
      where
        was : before.window.unit ≡ id
        was = sym h.unit ∙ named

        gains : (page : ℕ) → IsFrontOn id (λ m. Mine × (m ≡ line.number)) (strokes_at before.window.pages page) (strokes_at after.window.pages page)
        gains = lays_gains Mine line.number id before after was h

        before_is : PairRecords (copies k) script.lines.now script.logs.items script.at id before
        before_is = is unit k before here e was

        has_driver : (pair : Pair) → slice_get old k ≡ Some pair → IsSome pair.driver
        has_driver pair at =
            some_driver (λ driver. driver.unit ≡ record { partition = script.partition; unit = unit }) pair.driver
            (subst (λ (o : Option Pair). IsSomeAnd o (λ (p : Pair). IsSomeAnd p.driver (λ driver. driver.unit ≡ record { partition = script.partition; unit = unit }))) at (are unit k here))

        read : line.unit ≡ unit → PairRead line before after row.outcome
        read own =
            answered k before after (ap (λ n. slice_get script.seats.items n) own ∙ here) e there (some_both (HasNoted before.server) before.driver (has_driver before e) before_is.noted)

        asked : AskedOf
        asked = IsAskedBefore unit script.lines.now (script.logs.items ++ row ∷ []) (length script.logs.items)

        kept_of : (tag : ℕ) (whole : DataRange) → asked tag whole → asked_by before.driver tag whole
        kept_of tag whole is =
            kept_where unit script.lines.now script.logs.items row (length script.logs.items) tag whole before.driver (omega arith) (has_driver before e) before_is.kept is

        step : line.unit ≡ unit → is_in_region line.verb ≡ true → StepsInRegion false line (known_of before.window) (known_of after.window) (steps.Ends row.outcome)
        step own region = stepped k (ap (λ n. slice_get script.seats.items n) own ∙ here) before after e there region

        now : (page : ℕ) (stroke : StrokeValue) → IsOn stroke (strokes_at after.window.pages page) → stroke.name.who ≡ id
            → IsLogged id script.lines.now (script.logs.items ++ row ∷ []) stroke.name.mark
        now page stroke on own = at (on_cases id (λ m. Mine × (m ≡ line.number)) (strokes_at before.window.pages page) (strokes_at after.window.pages page) stroke (gains page) on own)
          where
            at : IsOn stroke (strokes_at before.window.pages page) ⊎ (Mine × (stroke.name.mark ≡ line.number)) → IsLogged id script.lines.now (script.logs.items ++ row ∷ []) stroke.name.mark
            at (inl had) = logged stroke.name.mark (before_is.logged page stroke had own)
            at (inr mine) = logged_last id script.lines.now script.logs.items line row stroke.name.mark next (line_unit old script line unit k are here mine.0) (sym mine.1)

        says : line.unit ≡ unit → (b : Bool) → is_in_region line.verb ≡ b → IsTold (region_seen (strokes_at after.window.pages)) (length after.window.pages) id line.number line.verb row.outcome
        says own true region =
            subst (λ n. IsTold (region_seen (strokes_at after.window.pages)) n id line.number line.verb row.outcome) (sym h.pages)
            (subst (λ (u : UnitId). IsTold (region_seen (strokes_at after.window.pages)) (length before.window.pages) u line.number line.verb row.outcome) was (step own region).tells)
        says own false region = not_told (region_seen (strokes_at after.window.pages)) (length after.window.pages) id line.number line.verb row.outcome region

-- the same of a line that lays none, and is not one in the region
pub logs_ends_none : (copies : ℕ → List CopyRow) (old new : List Pair) (script ended : Script) (line : Line) (row : LogRow) → slice_get script.lines.now script.at ≡ Some line
    → AreInTurn script.lines.now script.logs.items script.at → length script.logs.items ≡ script.at → AreSeats script.partition script.seats.items old
    → AllStay old new → AllKeepNoted old new → NoneLay old new → is_in_region line.verb ≡ false → LineRead script.seats.items line old new row.outcome → AllMadeBy copies new
    → ended.partition ≡ script.partition → ended.lines ≡ script.lines → ended.seats ≡ script.seats → ended.logs.items ≡ script.logs.items ++ row ∷ []
    → LogsStrokes copies old script → LogsStrokes copies new ended
logs_ends_none copies old new script ended line row found turn reached are stay keep lays apart answered made =
    logs_ends copies old new script ended line row found turn reached are stay keep (line_lays_none script.seats.items line old new lays)
    (line_apart script.seats.items line old new (Ok (steps.Ends row.outcome)) apart) answered made

-- more copies were made
pub logs_copied : (copies copies' : ℕ → List CopyRow) (pairs : List Pair) (script : Script) → ((k : ℕ) → (more : List CopyRow) × (copies' k ≡ copies k ++ more))
    → LogsStrokes copies pairs script → LogsStrokes copies' pairs script
logs_copied copies copies' pairs script grow is unit k pair here there named =
    let was = is unit k pair here there named in
    let id : UnitId = unit_of script.partition unit in
    let more = grow k in
    subst (λ (list : List CopyRow). PairRecords list script.lines.now script.logs.items script.at id pair) (sym more.1)
    (record {
      logged = was.logged;
      noted = was.noted;
      kept = was.kept;
      told = client_counted pair.server (strokes_at pair.window.pages) (length pair.window.pages) id script.lines.now script.logs.items (length (copies k)) (length (copies k ++ more.0))
          (named_by id (copies k)) (named_by id (copies k ++ more.0)) (λ had. counted_more id had script.logs.items (copies k) more.0) was.told;
    })
