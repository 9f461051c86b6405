-- The records of a gathered trace say of raw calls what they may.
use Rattle.std.proofs.Common.{◌≡◌, ◌≤◌, ◌∙◌, ℕ, ◌==◌, true, All, List, [], Option, Some, None, IfSome, IsSome, IsSomeAnd, filter, Contains, drop, length, option_map, slice_get, refl, sym, ap, ap₂, subst, arith}
use Rattle.std.specs.List.{flat_map}
use Rattle.std.proofs.lemmas.Option.{slice_get-map, slice_get_past}
use Rattle.std.proofs.lemmas.Bool.Decides.{nat_tests}
use Rattle.vio_num.specs.declared.history.Grant.{Grant}
use Rattle.vio_num.specs.declared.history.Served.{Served}
use Rattle.rdma_copy.specs.declared.copy.CopyRecord.{CopyRecord}
use Rattle.hcall_table.specs.Named.{Place, unit_of as unit_asked}
use Rattle.hcall_table.specs.Rows.{further, row_of}
use Rattle.hcall_table.specs.declared.hcall.Hcall.{Hcall}
use Rattle.hcall_table.specs.declared.kind.UnitKind.{UnitKind}
use Rattle.tce_window.specs.PlainPort.{known_of}
use Rattle.tce_window.specs.Window.{strokes_at}
use Rattle.lan_script.specs.Seats.{seat_at}
use Rattle.lan_script.specs.Units.{LanValue}
use Rattle.lan_script.specs.declared.rows.LanRows.{LanRows}
use Rattle.boot_text.specs.Sound.{unit_at, unit_in}
use Rattle.boot_text.specs.declared.plan.Line.{Line}
use Rattle.boot_text.specs.declared.plan.Partition.{Partition}
use Rattle.boot_text.specs.declared.plan.UnitPlan.{UnitPlan}
use Rattle.boot_text.specs.declared.plan.UnitPlan.TheVariants as units
use Rattle.vio_num.specs.declared.hypervisor.Hrc.TheVariants as codes
use Rattle.vio_num.specs.declared.names.Mac.{Mac}
use Rattle.vio_num.specs.declared.names.UnitId.{UnitId}
use Rattle.boot_text.specs.declared.verb.Verb.{Verb}
use Rattle.boot_text.specs.declared.verb.Verb.TheVariants as verbs
use Rattle.vio_trace.specs.declared.outcome.Outcome.{Outcome}
use Rattle.vio_trace.specs.declared.outcome.Outcome.TheVariants as outcomes
use Rattle.vio_trace.specs.declared.rows.LogRow.{LogRow}
use Rattle.vio_trace.specs.declared.rows.Trace.{Trace}
use Rattle.vcpu_run.specs.CopiesCounted.{copies_at}
use Rattle.vcpu_run.specs.declared.driver.Driver.{Driver}
use Rattle.vcpu_run.specs.declared.pair.Pair.{Pair}
use Rattle.vcpu_run.specs.declared.script.Script.{Script}
use Rattle.vcpu_run.specs.declared.unit_seat.Seat.{Seat}
use Rattle.vcpu_run.specs.declared.unit_seat.Seat.TheVariants as sits
use Rattle.vcpu_run.specs.declared.unit_seat.UnitSeat.{UnitSeat}
use Rattle.vcpu_run.specs.Agreed.{AreCredited}
use Rattle.vcpu_run.specs.CallsAnswered.{IsUnitSaid, no_client, port_then, unit_then}
use Rattle.vcpu_run.specs.CallsSaid.{CallsSaid, IsCallSaid, IsSaidOf, UnitsSeen, seen_from, seen_then}
use Rattle.vcpu_run.specs.CallsShown.{CallsAreSaid, kind_planned, place_in, unit_shown, units_shown}
use Rattle.vcpu_run.specs.Gathered.{HasLawfulQueue, HasLawfulWindow, logs_of, trace_of, window_at}
use Rattle.vcpu_run.specs.LinesShow.{Sees, seen_at}
use Rattle.vcpu_run.specs.Machines.{AreScripts, IsOfPlan, IsScriptFor, seat_of}
use Rattle.vcpu_run.specs.Pairs.{AreOfOneHome}
use Rattle.vcpu_run.specs.PortCalls.{EntriesSaid, EntrySaid}
use Rattle.vcpu_run.specs.PortWords.{PortsTell}
use Rattle.vcpu_run.specs.PortRegions.{strokes_shown}
use Rattle.vcpu_run.specs.Ports.{unit_of}
use Rattle.vcpu_run.specs.RawCalls.{kind_of, pair_of}
use Rattle.vcpu_run.specs.Refusals.{seen_in}
use Rattle.vcpu_run.specs.ScriptLogs.{AreOfClients}
use Rattle.vcpu_run.specs.Settled.{script_in, script_of}
use Rattle.vcpu_run.specs.Shown.{pages_at, pages_if, values_shown}
use Rattle.vcpu_run.specs.Units.{seats_of, unit_seat}
use Rattle.vcpu_run.proofs.Copied.{values_are as window_values}
use Rattle.vcpu_run.proofs.CallsGrow.{UnitGrows, unit_more, unit_still}
use Rattle.vcpu_run.proofs.FramesCarried.{seat_strokes}
use Rattle.vcpu_run.proofs.Listed.{held, held_is}
use Rattle.vcpu_run.proofs.MomentsThen.{HadThen, then_same}
use Rattle.vcpu_run.proofs.Parts.{IsIn, found, in_slice}
use Rattle.vcpu_run.proofs.Placing.{partitions_are}
use Rattle.vcpu_run.proofs.PortShown.{port_shown, said_port}
use Rattle.vcpu_run.proofs.RecordLaws.{lines_in, none_past, partitions_apart, rows_told}
use Rattle.vcpu_run.proofs.RefusalsTold.{client_pages, trace_sees, window_is}
use Rattle.vcpu_run.proofs.Seated.{planned_in}

-- what a unit is by its plan, and by where it sits
kind_same : (o : Option UnitPlan) → kind_of (option_map seat_of o) ≡ option_map kind_planned o
kind_same None = refl
kind_same (Some (units.Server queue)) = refl
kind_same (Some (units.Client server pages queue)) = refl
kind_same (Some (units.Lan mac pages slots)) = refl

kind_in : (slot : Option Partition) (script : Script) (unit : ℕ) → IsSomeAnd slot (λ partition. IsScriptFor partition script)
    → kind_of (slice_get script.seats.items unit) ≡ option_map kind_planned (unit_in slot unit)
kind_in None script unit is = absurd is
kind_in (Some partition) script unit is =
    ap (λ (seats : List Seat). kind_of (slice_get seats unit)) is.seats
    ∙ (ap kind_of (slice_get-map seat_of partition.units unit) ∙ kind_same (slice_get partition.units unit))

place_planned : (partitions : List Partition) (p : ℕ) (script : Script) → script.partition ≡ p → IsSomeAnd (slice_get partitions p) (λ partition. IsScriptFor partition script)
    → place_in partitions p ≡ (seen_from script.partition script.seats.items []).place
place_planned partitions p script here is =
    let kinds : (λ (unit : ℕ). option_map kind_planned (unit_in (slice_get partitions p) unit)) ≡ (λ (unit : ℕ). kind_of (slice_get script.seats.items unit)) =
    λ i unit. sym (kind_in (slice_get partitions p) script unit is) i in
    let make : ℕ → (ℕ → Option UnitKind) → Place = λ n kind. record { partition = n; kind = kind } in
    ap₂ make (sym here) kinds

-- where a unit sits, by its plan
seat_planned : (slot : Option Partition) (script : Script) (unit : ℕ) → IsSomeAnd slot (λ partition. IsScriptFor partition script)
    → slice_get script.seats.items unit ≡ option_map seat_of (unit_in slot unit)
seat_planned None script unit is = absurd is
seat_planned (Some partition) script unit is =
    ap (λ (seats : List Seat). slice_get seats unit) is.seats ∙ slice_get-map seat_of partition.units unit

-- what there was of a client is shown by the trace
client_shown : (trace : Trace) (number : ℕ) (client server : UnitId) (pages queue : ℕ) (pair : Pair) (driver : Driver) → pair.driver ≡ Some driver → length pair.window.pages ≡ pages
    → pair.window.unit ≡ client → ((page : ℕ) → strokes_shown trace pages client page ≡ strokes_at pair.window.pages page) → pair.window.held_count ≡ 0
    → ((entry : ℕ) → values_shown trace client entry ≡ (known_of pair.window).values entry) → Sees (seen_at pair) (seen_in trace client server)
    → UnitGrows (unit_then number (Some pair)) (unit_shown trace number client (Some (units.Client server pages queue)))
client_shown trace number client server pages queue pair driver has size named same free values sees = record {
  pages = sym (ap (option_map (λ (driver : Driver). length pair.window.pages)) has ∙ ap Some size);
  values = sees.values;
  puts = λ entry value is. subst (λ (list : List ℕ). Contains (drop 1 list) value) (sym (values entry)) is;
  fronts = λ page front is.
      then_same client number front (strokes_at pair.window.pages page) (strokes_shown trace pages client page) (same page)
      (subst (λ (id : UnitId). HadThen id number front (strokes_at pair.window.pages page)) named is);
  held = λ some. some free;
  entries = sees.entries;
}

unit_planned : (pairs : List Pair) (trace : Trace) (number : ℕ) (id : UnitId) (planned : Option UnitPlan) (o : Option UnitPlan) (seat : Option Seat) → o ≡ planned → seat ≡ option_map seat_of planned
    → ((mac : Mac) (pages slots : ℕ) → planned ≡ Some (units.Lan mac pages slots) → ⊥)
    → ((server : UnitId) (pages queue : ℕ) → planned ≡ Some (units.Client server pages queue)
    → UnitGrows (unit_then number (slice_get pairs server.unit)) (unit_shown trace number id (Some (units.Client server pages queue))))
    → UnitGrows (unit_then number (pair_of pairs seat)) (unit_shown trace number id o)
unit_planned pairs trace number id planned o seat is sits_at no_port client =
    subst (λ (s : Option Seat). UnitGrows (unit_then number (pair_of pairs s)) (unit_shown trace number id o)) (sym sits_at)
    (subst (λ (q : Option UnitPlan). UnitGrows (unit_then number (pair_of pairs (option_map seat_of planned))) (unit_shown trace number id q)) (sym is) (at planned no_port client))
  where
    at : (q : Option UnitPlan) → ((mac : Mac) (pages slots : ℕ) → q ≡ Some (units.Lan mac pages slots) → ⊥) → ((server : UnitId) (pages queue : ℕ) → q ≡ Some (units.Client server pages queue)
        → UnitGrows (unit_then number (slice_get pairs server.unit)) (unit_shown trace number id (Some (units.Client server pages queue))))
        → UnitGrows (unit_then number (pair_of pairs (option_map seat_of q))) (unit_shown trace number id q)
    at None none f = unit_still no_client
    at (Some (units.Server queue)) none f = unit_still no_client
    at (Some (units.Client server pages queue)) none f = f server pages queue refl
    at (Some (units.Lan mac pages slots)) none f = absurd (none mac pages slots refl)

-- what is said over some units is said over others, where it is so of the unit that a call names
call_shown : (a b : UnitsSeen) (number : ℕ) (args : List ℕ) (outcome : Outcome) → b.place ≡ a.place
    → ((row : Hcall) (unit : ℕ) → row_of number ≡ Some row → unit_asked a.place row args ≡ Some unit
    → IsUnitSaid (a.of_unit unit) row (further row args) outcome → IsUnitSaid (b.of_unit unit) row (further row args) outcome)
    → IsCallSaid a number args outcome → IsCallSaid b number args outcome
call_shown a b number args outcome same each is = record {
  row = is.row;
  elsewhere = subst (λ (place : Place). IfSome (row_of number) (λ row. unit_asked place row args ≡ None → outcome ≡ outcomes.Code codes.Parameter)) (sym same) is.elsewhere;
  here = at (row_of number) refl is.here;
}
  where
    there : (row : Hcall) → row_of number ≡ Some row → (o : Option ℕ) → unit_asked a.place row args ≡ o
        → IfSome o (λ unit. IsUnitSaid (a.of_unit unit) row (further row args) outcome) → IfSome o (λ unit. IsUnitSaid (b.of_unit unit) row (further row args) outcome)
    there row e None f h = tt
    there row e (Some unit) f h = each row unit e f h

    at : (o : Option Hcall) → row_of number ≡ o
        → IfSome o (λ row. IfSome (unit_asked a.place row args) (λ unit. IsUnitSaid (a.of_unit unit) row (further row args) outcome))
        → IfSome o (λ row. IfSome (unit_asked b.place row args) (λ unit. IsUnitSaid (b.of_unit unit) row (further row args) outcome))
    at None e h = tt
    at (Some row) e h =
        subst (λ (place : Place). IfSome (unit_asked place row args) (λ unit. IsUnitSaid (b.of_unit unit) row (further row args) outcome)) (sym same)
        (there row e (unit_asked a.place row args) refl h)

no_line : (line : Line) → None ≡ Some line → ⊥
no_line line e = cc

pub calls_are : (pairs : List Pair) (scripts : List Script) (lan : LanValue) (lan_rows : LanRows) (history : List Served) (grants : List Grant) (copies : List CopyRecord) (partitions : List Partition)
    → AreOfOneHome copies pairs → AreScripts pairs lan.seats scripts → All (HasLawfulQueue pairs) (seats_of scripts) → All (HasLawfulWindow pairs lan) (seats_of scripts)
    → IsOfPlan partitions pairs scripts lan.seats → AreCredited (copies_at copies pairs) pairs scripts → PortsTell lan scripts
    → CallsAreSaid partitions (trace_of pairs scripts lan lan_rows history grants copies)
calls_are pairs scripts lan lan_rows history grants copies partitions home are lawful windows of_plan credited tells p = at (slice_get scripts p) refl
  where
    trace : Trace
    trace = trace_of pairs scripts lan lan_rows history grants copies

    rows : List LogRow
    rows = filter (λ (row : LogRow). row.partition == p) (flat_map logs_of scripts)

    client : (number : ℕ) (script : Script) (unit : ℕ) (server : UnitId) (pages queue : ℕ) → slice_get scripts p ≡ Some script → slice_get script.seats.items unit ≡ Some (sits.Client server.unit)
        → unit_at partitions (unit_of p unit) ≡ Some (units.Client server pages queue)
        → UnitGrows (unit_then number (slice_get pairs server.unit)) (unit_shown trace number (unit_of p unit) (Some (units.Client server pages queue)))
    client number script unit server pages queue there seat planned =
        let own_script = are p script there in
        let here : script.partition ≡ p = own_script.number in
        let id : UnitId = unit_of p unit in
        let has : Pair → Type 0 = λ pair. IsSomeAnd pair.driver (λ driver. driver.unit ≡ unit_of script.partition unit) in
        let pair = held has (slice_get pairs server.unit) (own_script.script_is.seats unit server.unit seat) in
        let driver = held (λ (driver : Driver). driver.unit ≡ unit_of script.partition unit) pair.0.driver pair.2 in
        let own : IsSomeAnd pair.0.driver (λ driver. driver.unit ≡ id) = subst (λ n. IsSomeAnd pair.0.driver (λ driver. driver.unit ≡ unit_of n unit)) here pair.2 in
        let size : pages_at partitions id ≡ length pair.0.window.pages =
        client_pages partitions server.unit id pair.0 (of_plan.pairs_are.each server.unit pair.0 pair.1) own in
        let shown : pages_at partitions id ≡ pages = ap pages_if planned in
        let seated : UnitSeat = unit_seat id.partition id.unit (sits.Client server.unit) in
        let inside : IsIn seated (seats_of scripts) = planned_in partitions pairs scripts lan.seats id (units.Client server pages queue) are of_plan planned in
        let window : window_at pairs lan seated ≡ Some pair.0.window = ap (option_map (λ (pair : Pair). pair.window)) pair.1 in
        let same : (page : ℕ) → strokes_shown trace (pages_at partitions id) id page ≡ strokes_at pair.0.window.pages page =
        seat_strokes pairs scripts lan lan_rows history grants copies partitions home are windows of_plan seated pair.0.window inside window in
        subst (λ (slot : Option Pair). UnitGrows (unit_then number slot) (unit_shown trace number id (Some (units.Client server pages queue)))) (sym pair.1)
        (client_shown trace number id server pages queue pair.0 driver.0 driver.1 (sym size ∙ shown)
        (window_is pair.0.window pair.0.driver id (home.pairs_are server.unit pair.0 pair.1).driver own)
        (λ page. subst (λ n. strokes_shown trace n id page ≡ strokes_at pair.0.window.pages page) shown (same page)) (home.pairs_are server.unit pair.0 pair.1).ready.client_free
        (window_values pairs scripts lan lan_rows history grants copies are windows seated pair.0.window inside window)
        (trace_sees partitions pairs scripts lan lan_rows history grants copies id server pair.0 home are lawful windows of_plan (pages, queue, planned) pair.1))

    -- the clients' windows are theirs
    clients_are : (script : Script) → slice_get scripts p ≡ Some script → AreOfClients pairs script
    clients_are script here unit k pair seat there =
        window_is pair.window pair.driver (unit_of script.partition unit) (home.pairs_are k pair there).driver
        (held_is (λ (pair : Pair). IsSomeAnd pair.driver (λ driver. driver.unit ≡ unit_of script.partition unit)) (slice_get pairs k) pair there
        ((are p script here).script_is.seats unit k seat))

    other_said : (number : ℕ) (script : Script) → slice_get scripts p ≡ Some script → IsSomeAnd (slice_get partitions p) (λ partition. IsScriptFor partition script)
        → (row : Hcall) (unit : ℕ) (args : List ℕ) (outcome : Outcome) → ((mac : Mac) (pages slots : ℕ) → unit_at partitions (unit_of p unit) ≡ Some (units.Lan mac pages slots) → ⊥)
        → IsUnitSaid ((seen_then number script.partition script.seats.items pairs).of_unit unit) row (further row args) outcome
        → IsUnitSaid ((units_shown partitions trace p number).of_unit unit) row (further row args) outcome
    other_said number script here for_it row unit args outcome no_port is =
        let seat = seat_planned (slice_get partitions p) script unit for_it in
        unit_more ((seen_then number script.partition script.seats.items pairs).of_unit unit) ((units_shown partitions trace p number).of_unit unit)
        (unit_planned pairs trace number (unit_of p unit) (unit_at partitions (unit_of p unit)) (unit_at partitions (unit_of p unit)) (slice_get script.seats.items unit) refl seat no_port
        (λ server pages queue planned. client number script unit server pages queue here (seat ∙ ap (option_map seat_of) planned) planned))
        row (further row args) outcome is

    -- what a record says at a unit
    unit_said : (script : Script) → slice_get scripts p ≡ Some script → IsSomeAnd (slice_get partitions p) (λ partition. IsScriptFor partition script)
        → (mark number : ℕ) (args : List ℕ) (outcome : Outcome)
        → EntrySaid script.partition (slice_get script.seats.items) (port_then mark lan) (verbs.Hcall number args) outcome → (row : Hcall) (unit : ℕ) → row_of number ≡ Some row
        → unit_asked (seen_then mark script.partition script.seats.items pairs).place row args ≡ Some unit → (o : Option UnitPlan) → unit_at partitions (unit_of p unit) ≡ o
        → IsUnitSaid ((seen_then mark script.partition script.seats.items pairs).of_unit unit) row (further row args) outcome
        → IsUnitSaid ((units_shown partitions trace p mark).of_unit unit) row (further row args) outcome
    unit_said script here for_it mark number args outcome entry row unit e asked (Some (units.Lan mac pages slots)) f is =
        let own = are p script here in
        let id : UnitId = unit_of p unit in
        let sat : slice_get script.seats.items unit ≡ Some sits.Port = seat_planned (slice_get partitions p) script unit for_it ∙ ap (option_map seat_of) f in
        let named : unit_of script.partition unit ≡ id = ap (λ n. unit_of n unit) own.number in
        let there : IsSome (seat_at lan.seats id) = subst (λ (u : UnitId). IsSome (seat_at lan.seats u)) named (own.has_ports.have unit sat) in
        let grows : UnitGrows (port_then mark lan id) (unit_shown trace mark id (Some (units.Lan mac pages slots))) =
        port_shown pairs scripts lan lan_rows history grants copies partitions home are windows of_plan mark id mac pages slots f there in
        subst (λ (q : Option UnitPlan). IsUnitSaid (unit_shown trace mark id q) row (further row args) outcome) (sym f)
        (said_port (seen_then mark script.partition script.seats.items pairs).place ((seen_then mark script.partition script.seats.items pairs).of_unit unit)
        (unit_shown trace mark id (Some (units.Lan mac pages slots))) row args unit outcome (ap kind_of sat) asked
        (λ of_window. unit_more (port_then mark lan id) (unit_shown trace mark id (Some (units.Lan mac pages slots))) grows row (further row args) outcome
        (subst (λ (u : UnitId). IsUnitSaid (port_then mark lan u) row (further row args) outcome) named (entry row unit e of_window asked sat))) is)
    unit_said script here for_it mark number args outcome entry row unit e asked None f is =
        other_said mark script here for_it row unit args outcome (λ mac pages slots g. absurd (cc (f, g))) is
    unit_said script here for_it mark number args outcome entry row unit e asked (Some (units.Server queue)) f is =
        other_said mark script here for_it row unit args outcome (λ mac pages slots g. absurd (cc (f, g))) is
    unit_said script here for_it mark number args outcome entry row unit e asked (Some (units.Client server pages queue)) f is =
        other_said mark script here for_it row unit args outcome (λ mac pages slots g. absurd (cc (f, g))) is

    said : (script : Script) → slice_get scripts p ≡ Some script → IsSomeAnd (slice_get partitions p) (λ partition. IsScriptFor partition script)
        → (mark : ℕ) (verb : Verb) (outcome : Outcome) → EntrySaid script.partition (slice_get script.seats.items) (port_then mark lan) verb outcome
        → IsSaidOf (seen_then mark script.partition script.seats.items pairs) verb outcome → IsSaidOf (units_shown partitions trace p mark) verb outcome
    said script here for_it mark (verbs.Hcall number args) outcome entry is =
        call_shown (seen_then mark script.partition script.seats.items pairs) (units_shown partitions trace p mark) number args outcome
        (place_planned partitions p script (are p script here).number for_it)
        (λ row unit e asked. unit_said script here for_it mark number args outcome entry row unit e asked (unit_at partitions (unit_of p unit)) refl) is
    said script here for_it mark verb outcome entry is = tt

    at : (slot : Option Script) → slice_get scripts p ≡ slot → CallsSaid (units_shown partitions trace p) (script_of partitions p) rows
    at None e =
        let past : length scripts ≤ p = none_past scripts p e in
        let none : slice_get partitions p ≡ None = slice_get_past partitions p (omega (arith, past, of_plan.scripts_are.count)) in
        λ i line row there shown. absurd (no_line line (sym (ap (λ slot. slice_get (script_in slot) i) none) ∙ there))
    at (Some script) e =
        let own = are p script e in
        let here : script.partition ≡ p = own.number in
        let for_it = of_plan.scripts_are.each p script e in
        let hit : (script.partition == p) ≡ true = grind (arith, nat_tests, here) in
        let only : rows ≡ script.logs.items =
        found (λ (row : LogRow). row.partition == p) (λ (script : Script). script.partition == p) logs_of script hit scripts (in_slice scripts p script e)
        (rows_told pairs lan.seats scripts p are) (partitions_apart p 0 scripts (partitions_are pairs lan.seats scripts are)) in
        let lines : script_of partitions p ≡ script.lines.now = lines_in (slice_get partitions p) script for_it in
        let calls : CallsSaid (λ mark. seen_then mark script.partition script.seats.items pairs) (script_of partitions p) rows =
        subst (λ (list : List Line). CallsSaid (λ mark. seen_then mark script.partition script.seats.items pairs) list rows) (sym lines)
        (subst (λ (list : List LogRow). CallsSaid (λ mark. seen_then mark script.partition script.seats.items pairs) script.lines.now list) (sym only) ((credited p script e).1.calls (clients_are script e))) in
        let entries : EntriesSaid script.partition (slice_get script.seats.items) lan (script_of partitions p) rows =
        subst (λ (list : List Line). EntriesSaid script.partition (slice_get script.seats.items) lan list rows) (sym lines)
        (subst (λ (list : List LogRow). EntriesSaid script.partition (slice_get script.seats.items) lan script.lines.now list) (sym only)
        ((tells p script e).entries (record { in_order = own.script_is.in_order; reached = own.script_is.logs.reached }))) in
        λ i line row there shown. said script e for_it line.number line.verb row.outcome (entries i line row there shown) (calls i line row there shown)
