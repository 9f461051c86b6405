-- The frames and deliveries of a gathered trace carry what they say, in the windows that the trace shows.
use Rattle.std.proofs.Common.{◌≡◌, ◌∙◌, ℕ, suc, ◌+◌, ◌==◌, nat_lt, arith, Bool, true, false, All, List, [], ◌∷◌, Option, Some, None, IsSome, IsSomeAnd, IfSome, filter, length, map, slice_get, if◌then◌else◌, refl, sym, ap, subst}
use Rattle.std.proofs.lemmas.Option.{slice_get_past}
use Rattle.vio_num.specs.declared.history.Grant.{Grant}
use Rattle.vio_num.specs.declared.history.Served.{Served}
use Rattle.vio_num.specs.declared.names.Mac.{Mac}
use Rattle.vio_num.specs.declared.names.UnitId.{UnitId}
use Rattle.page_slots.specs.Stroke.{StrokeValue}
use Rattle.rdma_copy.specs.Copies.{side_of}
use Rattle.rdma_copy.specs.Copy.{Side, SideGrows}
use Rattle.rdma_copy.specs.declared.copy.CopyRecord.{CopyRecord}
use Rattle.tce_window.specs.PlainPort.{known_of}
use Rattle.tce_window.specs.Window.{AllThere, WindowValue, strokes_at, strokes_in}
use Rattle.boot_text.specs.Sound.{unit_at, unit_in}
use Rattle.boot_text.specs.declared.plan.Partition.{Partition}
use Rattle.boot_text.specs.declared.plan.UnitPlan.{UnitPlan}
use Rattle.boot_text.specs.declared.plan.UnitPlan.TheVariants as units
use Rattle.lan_script.proofs.Laws.{Shows, carried_shown, window_side}
use Rattle.lan_script.specs.Carried.{FramesAreCarried}
use Rattle.lan_script.specs.Invariant.{side_in}
use Rattle.lan_script.specs.Seats.{seat_at}
use Rattle.lan_script.specs.Units.{LanValue, window_at as port_window_at}
use Rattle.lan_script.specs.declared.rows.LanRows.{LanRows}
use Rattle.lan_script.specs.declared.seat.PortSeat.{PortSeat}
use Rattle.vio_trace.specs.declared.rows.Trace.{Trace}
use Rattle.vio_trace.specs.declared.window_rows.StrokeRow.{StrokeRow}
use Rattle.vcpu_run.specs.CopyRows.{same_unit}
use Rattle.vcpu_run.specs.Gathered.{FitsPort, HasLawfulWindow, IsLawfulWindow, IsWindowOf, marks_at, port_window, rows_if, trace_of, window_at}
use Rattle.vcpu_run.specs.Machines.{AreScripts, IsOfPlan}
use Rattle.vcpu_run.specs.Pairs.{AreOfOneHome}
use Rattle.vcpu_run.specs.Ports.{port_of, ports_from, ports_in, ports_of, unit_of}
use Rattle.vcpu_run.specs.RunLaw.{PortsKeepLaw}
use Rattle.vcpu_run.specs.Shown.{pages_at, stroke_value, strokes_on, window_shown}
use Rattle.vcpu_run.specs.Units.{seats_of, unit_seat}
use Rattle.vcpu_run.specs.Windows.{rows_on, strokes_in_rows}
use Rattle.vcpu_run.specs.declared.pair.Pair.{Pair}
use Rattle.vcpu_run.specs.declared.script.Script.{Script}
use Rattle.vcpu_run.specs.declared.unit_seat.Seat.TheVariants as sits
use Rattle.vcpu_run.specs.declared.unit_seat.UnitSeat.{UnitSeat}
use Rattle.vcpu_run.proofs.Copied.{marks_told, names_apart, windows_shown}
use Rattle.vcpu_run.proofs.Following.{each_from_all}
use Rattle.vcpu_run.proofs.Freed.{LawfulRows, ports_are}
use Rattle.vcpu_run.proofs.Naming.{one_unit}
use Rattle.lan_script.proofs.Order.{Each, each_append}
use Rattle.vcpu_run.proofs.Parts.{IsIn, each_in, filter_both, found}
use Rattle.vcpu_run.proofs.Placing.{seats_ordered}
use Rattle.vcpu_run.proofs.Seated.{IsSeated, IsSeatedAt, all_seated, planned_in}
use Rattle.vcpu_run.proofs.Showing.{is_less, is_past, page_shown, strokes_said}
use Rattle.vcpu_run.proofs.Sole.{same_refl}

-- the strokes that rows show of a page are its strokes
page_said : (unit : UnitId) (page : ℕ) (strokes : Option (List StrokeValue)) (rows : List StrokeRow) → IsSome strokes → rows ≡ rows_on unit page strokes
    → Some (map stroke_value rows) ≡ strokes
page_said unit page None rows some e = absurd (cc (some))
page_said unit page (Some strokes) rows some e = ap Some (ap (map stroke_value) e ∙ strokes_said unit page 0 strokes)

page_same : (unit : UnitId) (window : WindowValue) (size page : ℕ) (rows : List StrokeRow) → size ≡ length window.pages → AllThere window.pages
    → rows ≡ rows_on unit page (strokes_at window.pages page)
    → (if nat_lt page size then Some (map stroke_value rows) else None) ≡ strokes_at window.pages page
page_same unit window size page rows size_is there e = at (nat_lt page size) refl
  where
    at : (b : Bool) → nat_lt page size ≡ b → (if b then Some (map stroke_value rows) else None) ≡ strokes_at window.pages page
    at true is = page_said unit page (strokes_at window.pages page) rows (there page (omega (arith, is_less page size is, size_is))) e
    at false is = sym (ap strokes_in (slice_get_past window.pages page (omega (arith, is_past page size is, size_is))))

-- the strokes that a trace shows of a unit's page are those of its window
pub seat_strokes : (pairs : List Pair) (scripts : List Script) (lan : LanValue) (rows : LanRows) (history : List Served) (grants : List Grant) (copies : List CopyRecord) (partitions : List Partition)
    → AreOfOneHome copies pairs → AreScripts pairs lan.seats scripts → All (HasLawfulWindow pairs lan) (seats_of scripts) → IsOfPlan partitions pairs scripts lan.seats
    → (seat : UnitSeat) (window : WindowValue) → IsIn seat (seats_of scripts) → window_at pairs lan seat ≡ Some window → (page : ℕ)
    → (window_shown partitions (trace_of pairs scripts lan rows history grants copies) seat.unit).strokes page ≡ strokes_at window.pages page
seat_strokes pairs scripts lan rows history grants copies partitions are are' windows plan seat window inside e page =
    let trace = trace_of pairs scripts lan rows history grants copies in
    let seats = seats_of scripts in
    let lawful = each_from_all (HasLawfulWindow pairs lan) seats windows in
    let seated = all_seated partitions pairs scripts lan copies are are' plan lawful in
    let is_seated : IsSeatedAt partitions seat.unit window = subst (λ slot. IfSome slot (IsSeatedAt partitions seat.unit)) e (each_in (IsSeated partitions pairs lan) seat seats inside seated) in
    let has : HasLawfulWindow pairs lan seat = each_in (HasLawfulWindow pairs lan) seat seats inside lawful in
    let law : IsLawfulWindow window = subst (λ slot. IfSome slot IsLawfulWindow) e has.lawful in
    let hits : UnitSeat → Bool = λ other. same_unit other.unit seat.unit in
    let laid : StrokeRow → Bool = λ row. same_unit row.unit seat.unit in
    let own_marks : filter laid trace.strokes ≡ strokes_in_rows seat.unit window =
    found laid hits (marks_at pairs lan) seat (same_refl seat.unit) seats inside (marks_told pairs lan seat.unit seats)
    (names_apart seat.unit seats (seats_ordered pairs lan.seats scripts are'))
    ∙ ap (rows_if (strokes_in_rows seat.unit)) e in
    page_same seat.unit window (pages_at partitions seat.unit) page (strokes_on trace seat.unit page) is_seated.size (law.there is_seated.free)
    (filter_both laid (λ row. row.page == page) trace.strokes ∙ ap (filter (λ row. row.page == page)) own_marks ∙ page_shown seat.unit window page)

-- A port of the plan.
pub record IsPlannedPort (partitions : List Partition) (unit : UnitId) : Type 0 where
  pub mac : Mac
  pub pages : ℕ
  pub slots : ℕ
  pub planned : unit_at partitions unit ≡ Some (units.Lan mac pages slots)

one_planned : (partitions : List Partition) (id : UnitId) (unit : UnitPlan) → unit_at partitions id ≡ Some unit
    → Each (λ (seat : PortSeat). IsPlannedPort partitions seat.unit) (port_of id unit)
one_planned partitions id (units.Server queue) e = tt
one_planned partitions id (units.Client server pages queue) e = tt
one_planned partitions id (units.Lan mac pages slots) e = (record { mac = mac; pages = pages; slots = slots; planned = e }, tt)

units_planned : (partitions : List Partition) (p u : ℕ) (own : List UnitPlan)
    → ((j : ℕ) (x : UnitPlan) → slice_get own j ≡ Some x → unit_at partitions (unit_of p (u + j)) ≡ Some x)
    → Each (λ (seat : PortSeat). IsPlannedPort partitions seat.unit) (ports_in p u own)
units_planned partitions p u [] find = tt
units_planned partitions p u (first ∷ others) find =
    each_append (λ (seat : PortSeat). IsPlannedPort partitions seat.unit) (port_of (unit_of p u) first) (ports_in p (u + 1) others)
    (one_planned partitions (unit_of p u) first (subst (λ k. unit_at partitions (unit_of p k) ≡ Some first) (none u) (find 0 first refl)))
    (units_planned partitions p (u + 1) others (λ j x e. subst (λ k. unit_at partitions (unit_of p k) ≡ Some x) (next u j) (find (suc j) x e)))
  where
    none : (k : ℕ) → k + 0 ≡ k
    none k = omega arith

    next : (k j : ℕ) → k + suc j ≡ k + 1 + j
    next k j = omega arith

all_planned : (partitions : List Partition) (n : ℕ) (others : List Partition)
    → ((i : ℕ) (x : Partition) → slice_get others i ≡ Some x → slice_get partitions (n + i) ≡ Some x)
    → Each (λ (seat : PortSeat). IsPlannedPort partitions seat.unit) (ports_from n others)
all_planned partitions n [] find = tt
all_planned partitions n (first ∷ others) find =
    each_append (λ (seat : PortSeat). IsPlannedPort partitions seat.unit) (ports_in n 0 first.units) (ports_from (n + 1) others)
    (units_planned partitions n 0 first.units
    (λ j x e. ap (λ o. unit_in o (0 + j)) (subst (λ k. slice_get partitions k ≡ Some first) (none n) (find 0 first refl))
    ∙ subst (λ k. slice_get first.units k ≡ Some x) (same j) e))
    (all_planned partitions (n + 1) others (λ i x e. subst (λ k. slice_get partitions k ≡ Some x) (next n i) (find (suc i) x e)))
  where
    none : (k : ℕ) → k + 0 ≡ k
    none k = omega arith

    same : (k : ℕ) → k ≡ 0 + k
    same k = omega arith

    next : (k j : ℕ) → k + suc j ≡ k + 1 + j
    next k j = omega arith

-- what is so of each seat is so of the one that is found
at_seat : (P : UnitId → Type 0) (unit : UnitId) (seats : List PortSeat) → Each (λ (seat : PortSeat). P seat.unit) seats → IsSome (seat_at seats unit) → P unit
at_seat P unit [] all there = absurd (cc (there))
at_seat P unit (seat ∷ seats) all there = by (same_unit seat.unit unit) refl there (λ h. at_seat P unit seats all.1 h)
  where
    by : (b : Bool) → same_unit seat.unit unit ≡ b → IsSome (if b then Some seat else seat_at seats unit) → (IsSome (seat_at seats unit) → P unit) → P unit
    by true is h rest = subst P (one_unit seat.unit unit is) all.0
    by false is h rest = rest h

pub port_planned : (partitions : List Partition) (unit : UnitId) → IsSome (seat_at (ports_of partitions) unit) → IsPlannedPort partitions unit
port_planned partitions unit there =
    at_seat (IsPlannedPort partitions) unit (ports_of partitions)
    (all_planned partitions 0 partitions (λ i x e. subst (λ k. slice_get partitions k ≡ Some x) (same i) e)) there
  where
    same : (k : ℕ) → k ≡ 0 + k
    same k = omega arith

-- The window of a port's unit.
pub record HasPortWindow (pairs : List Pair) (lan : LanValue) (unit : UnitId) : Type 0 where
  pub window : WindowValue
  pub is : port_window_at lan unit ≡ Some window
  pub at : port_window (seat_at lan.seats unit) lan unit ≡ Some window

pub port_window_there : (pairs : List Pair) (lan : LanValue) (unit : UnitId) → FitsPort lan unit sits.Port → IsSome (seat_at lan.seats unit)
    → HasPortWindow pairs lan unit
port_window_there pairs lan unit fits there = by (seat_at lan.seats unit) refl fits there
  where
    by : (o : Option PortSeat) → seat_at lan.seats unit ≡ o → IfSome o (λ seat. IsSomeAnd (port_window_at lan unit) (IsWindowOf unit seat)) → IsSome o
        → HasPortWindow pairs lan unit
    by None e f h = absurd (cc (h))
    by (Some seat) e f h = in_place (port_window_at lan unit) refl f
      where
        in_place : (w : Option WindowValue) → port_window_at lan unit ≡ w → IsSomeAnd w (IsWindowOf unit seat) → HasPortWindow pairs lan unit
        in_place None g k = absurd k
        in_place (Some window) g k = record { window = window; is = g; at = ap (λ o. port_window o lan unit) e ∙ g }

-- The windows of LAN units as a trace shows them have what they had, and on each page the same strokes.
pub port_shows : (pairs : List Pair) (scripts : List Script) (lan : LanValue) (rows : LanRows) (history : List Served) (grants : List Grant) (copies : List CopyRecord)
    (partitions : List Partition) → AreOfOneHome copies pairs → AreScripts pairs lan.seats scripts → All (HasLawfulWindow pairs lan) (seats_of scripts)
    → IsOfPlan partitions pairs scripts lan.seats → (unit : UnitId) → IsSome (seat_at lan.seats unit)
    → Shows (side_in lan.places unit) (window_shown partitions (trace_of pairs scripts lan rows history grants copies) unit)
port_shows pairs scripts lan rows history grants copies partitions are are' windows plan unit there =
    let trace : Trace = trace_of pairs scripts lan rows history grants copies in
    let planned = port_planned partitions unit (subst (λ (seats : List PortSeat). IsSome (seat_at seats unit)) plan.ports_are there) in
    let seat : UnitSeat = unit_seat unit.partition unit.unit sits.Port in
    let inside : IsIn seat (seats_of scripts) =
    planned_in partitions pairs scripts lan.seats unit (units.Lan planned.mac planned.pages planned.slots) are' plan planned.planned in
    let has : HasLawfulWindow pairs lan seat =
    each_in (HasLawfulWindow pairs lan) seat (seats_of scripts) inside (each_from_all (HasLawfulWindow pairs lan) (seats_of scripts) windows) in
    let w = port_window_there pairs lan unit has.fits there in
    let grows : SideGrows (side_of (known_of w.window)) (window_shown partitions trace unit) =
    windows_shown pairs scripts lan rows history grants copies partitions are are' windows plan seat w.window inside w.at in
    subst (λ (s : Side). Shows s (window_shown partitions trace unit)) (sym (window_side lan unit w.window w.is)) (record {
      grows = record { unit = refl; values = grows.values; strokes = grows.strokes };
      same = seat_strokes pairs scripts lan rows history grants copies partitions are are' windows plan seat w.window inside w.at;
    })

-- The port law of a gathered trace.
pub ports_keep : (pairs : List Pair) (scripts : List Script) (lan : LanValue) (rows : LanRows) (history : List Served) (grants : List Grant) (copies : List CopyRecord) (partitions : List Partition)
    → AreOfOneHome copies pairs → AreScripts pairs lan.seats scripts → All (HasLawfulWindow pairs lan) (seats_of scripts) → IsOfPlan partitions pairs scripts lan.seats
    → LawfulRows lan rows → PortsKeepLaw partitions (trace_of pairs scripts lan rows history grants copies)
ports_keep pairs scripts lan rows history grants copies partitions are are' windows plan keeps = record {
  lawful = ports_are lan rows partitions keeps plan.ports_are;
  carried = subst (λ (seats : List PortSeat). FramesAreCarried seats (window_shown partitions trace) rows.frames.items rows.posts.items rows.delivers.items) plan.ports_are
      (carried_shown lan.seats (side_in lan.places) (window_shown partitions trace) rows.frames.items rows.posts.items rows.delivers.items shown
      keeps.0.own_frames keeps.0.own_deliveries keeps.1);
}
  where
    trace : Trace
    trace = trace_of pairs scripts lan rows history grants copies

    shown : (unit : UnitId) → IsSome (seat_at lan.seats unit) → Shows (side_in lan.places unit) (window_shown partitions trace unit)
    shown unit there = port_shows pairs scripts lan rows history grants copies partitions are are' windows plan unit there
