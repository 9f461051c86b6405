-- Each stroke that a gathered trace shows as laid by a client in its own region bears the number of one of its lines that have a record.
use Rattle.std.proofs.Common.{◌≡◌, ◌∙◌, ◌<◌, ◌==◌, ℕ, All, Contains, List, None, Some, IsSomeAnd, filter, length, map, slice_get, sym, ap, subst}
use Rattle.std.specs.List.{flat_map}
use Rattle.std.specs.Option.{option_map}
use Rattle.std.proofs.lemmas.Option.{slice_get_past}
use Rattle.vio_num.specs.declared.history.Grant.{Grant}
use Rattle.vio_num.specs.declared.history.Served.{Served}
use Rattle.vio_num.specs.declared.names.UnitId.{UnitId}
use Rattle.rdma_copy.specs.declared.copy.CopyRecord.{CopyRecord}
use Rattle.page_slots.specs.Stroke.{StrokeValue}
use Rattle.tce_window.specs.Window.{strokes_at}
use Rattle.lan_script.specs.Units.{LanValue}
use Rattle.lan_script.specs.declared.rows.LanRows.{LanRows}
use Rattle.boot_text.specs.declared.plan.Line.{Line}
use Rattle.boot_text.specs.declared.plan.Partition.{Partition}
use Rattle.boot_text.specs.declared.plan.UnitPlan.TheVariants as units
use Rattle.vio_trace.specs.declared.rows.LogRow.{LogRow}
use Rattle.vio_trace.specs.declared.window_rows.CopyRow.{CopyRow}
use Rattle.vcpu_run.specs.declared.pair.Pair.{Pair}
use Rattle.vcpu_run.specs.declared.script.Script.{Script}
use Rattle.vcpu_run.specs.declared.unit_seat.Seat.TheVariants as sits
use Rattle.vcpu_run.specs.declared.unit_seat.UnitSeat.{UnitSeat}
use Rattle.vcpu_run.specs.Agreed.{AreCredited}
use Rattle.vcpu_run.specs.ClientStrokes.{ClientsAreLogged, PairRecords}
use Rattle.vcpu_run.specs.Gathered.{HasLawfulWindow, logs_of, trace_of, window_at}
use Rattle.vcpu_run.specs.Lines.{IsOver}
use Rattle.vcpu_run.specs.Machines.{AreScripts, IsOfPlan}
use Rattle.vcpu_run.specs.Pairs.{AreOfOneHome}
use Rattle.vcpu_run.specs.Ports.{unit_of}
use Rattle.vcpu_run.specs.CopiesCounted.{copies_at, copies_in, named_by}
use Rattle.vcpu_run.specs.CopyRows.{copies_by}
use Rattle.vcpu_run.specs.Intake.{copies_shown}
use Rattle.vcpu_run.specs.LinesRead.{ClientLines}
use Rattle.vcpu_run.proofs.Fetching.{copies_are_by}
use Rattle.vcpu_run.specs.PortRegions.{IsLogged, strokes_shown}
use Rattle.vcpu_run.specs.Settled.{script_of}
use Rattle.vcpu_run.specs.Shown.{pages_at, stroke_value, strokes_on}
use Rattle.vcpu_run.specs.Units.{seats_of, unit_seat}
use Rattle.vcpu_run.proofs.Driving.{some_is}
use Rattle.vcpu_run.proofs.Following.{each_from_all}
use Rattle.vcpu_run.proofs.FramesCarried.{seat_strokes}
use Rattle.vcpu_run.proofs.Listed.{held}
use Rattle.vcpu_run.proofs.LinesRead.{client_same}
use Rattle.vcpu_run.proofs.Parts.{IsIn, each_in, in_slice}
use Rattle.vcpu_run.proofs.PortsTold.{no_current, on_page}
use Rattle.vcpu_run.proofs.RecordLaws.{lines_in}
use Rattle.vcpu_run.proofs.RefusalsTold.{client_pages, own_records, window_is}
use Rattle.vcpu_run.proofs.Seated.{planned_in}
use Rattle.vcpu_run.proofs.Settling.{script_at}

pub clients_logged : (pairs : List Pair) (scripts : List Script) (lan : LanValue) (rows : LanRows) (history : List Served) (grants : List Grant) (copies : List CopyRecord)
    (partitions : List Partition) → AreOfOneHome copies pairs → AreScripts pairs lan.seats scripts → All (HasLawfulWindow pairs lan) (seats_of scripts)
    → IsOfPlan partitions pairs scripts lan.seats → All IsOver scripts → AreCredited (copies_at copies pairs) pairs scripts
    → ClientsAreLogged partitions (trace_of pairs scripts lan rows history grants copies)
clients_logged pairs scripts lan rows history grants copies partitions home are windows of_plan over credited client server is =
    let p = client.partition in
    let trace = trace_of pairs scripts lan rows history grants copies in
    let at = script_at partitions pairs scripts lan.seats client (units.Client server is.0 is.1) of_plan is.2 in
    let script = at.0 in
    let own = are p script at.1 in
    let id : UnitId = unit_of script.partition client.unit in
    let named : id ≡ client = ap (λ n. unit_of n client.unit) own.number in
    let lines : script_of partitions p ≡ script.lines.now = lines_in (slice_get partitions p) script (of_plan.scripts_are.each p script at.1) in
    let has : Pair → Type 0 = λ pair. IsSomeAnd pair.driver (λ driver. driver.unit ≡ id) in
    let pair = held has (slice_get pairs server.unit) (own.script_is.seats client.unit server.unit at.2) in
    let pages : pages_at partitions id ≡ length pair.0.window.pages =
    client_pages partitions server.unit id pair.0 (of_plan.pairs_are.each server.unit pair.0 pair.1) pair.2 in
    let who : pair.0.window.unit ≡ id = window_is pair.0.window pair.0.driver id (home.pairs_are server.unit pair.0 pair.1).driver pair.2 in
    let seat : UnitSeat = unit_seat client.partition client.unit (sits.Client server.unit) in
    let inside : IsIn seat (seats_of scripts) = planned_in partitions pairs scripts lan.seats client (units.Client server is.0 is.1) are of_plan is.2 in
    let window : window_at pairs lan seat ≡ Some pair.0.window = ap (option_map (λ (pair : Pair). pair.window)) pair.1 in
    let same : (page : ℕ) → strokes_shown trace (pages_at partitions client) client page ≡ strokes_at pair.0.window.pages page =
    seat_strokes pairs scripts lan rows history grants copies partitions home are windows of_plan seat pair.0.window inside window in
    let left : slice_get script.lines.now script.at ≡ None =
    slice_get_past script.lines.now script.at (each_in IsOver script scripts (in_slice scripts p script at.1) (each_from_all IsOver scripts over)) in
    let records : PairRecords (copies_at copies pairs server.unit) script.lines.now script.logs.items script.at id pair.0 = (credited p script at.1).1.strokes client.unit server.unit pair.0 at.2 pair.1 who in
    let logged : (page : ℕ) → page < pages_at partitions client → (stroke : StrokeValue) → Contains (map stroke_value (strokes_on trace client page)) stroke
    → stroke.name.who ≡ client → IsLogged id script.lines.now script.logs.items stroke.name.mark =
    λ page less stroke shown mine.
    no_current id script.lines.now script.logs.items script.at stroke.name.mark left
    (records.logged page stroke
    (on_page (pages_at partitions client) page stroke (map stroke_value (strokes_on trace client page)) (strokes_at pair.0.window.pages page) less (same page) shown)
    (mine ∙ sym named)) in
    let served = held (λ (pair : Pair). pair.server ≡ server) (slice_get pairs server.unit) (of_plan.pairs_are.servers server (of_plan.sound.served client server is)) in
    let by : pair.0.server ≡ server = ap (λ (x : Pair). x.server) (some_is pair.0 served.0 (sym pair.1 ∙ served.1)) ∙ served.2 in
    let rows : copies_shown trace server ≡ copies_at copies pairs server.unit =
    copies_are_by partitions copies pairs server server.unit pair.0 of_plan.pairs_are pair.1 by ∙ (ap (λ u. copies_by u copies) (sym by) ∙ sym (ap (copies_in copies) pair.1)) in
    let of : (unit : UnitId) (pages : ℕ) (lines : List Line) (logs : List LogRow) (made : List CopyRow) → Type 0 =
    λ unit pages lines logs made. ClientLines server (strokes_shown trace (pages_at partitions client) client) pages unit lines logs (length made) (named_by unit made) in
    let told : of client (pages_at partitions client) script.lines.now script.logs.items (copies_shown trace server) =
    subst (of client (pages_at partitions client) script.lines.now script.logs.items) (sym rows)
    (subst (λ (unit : UnitId). of unit (pages_at partitions unit) script.lines.now script.logs.items (copies_at copies pairs server.unit)) named
    (subst (λ n. of id n script.lines.now script.logs.items (copies_at copies pairs server.unit)) (sym pages)
    (subst (λ (u : UnitId). ClientLines u (strokes_shown trace (pages_at partitions client) client) (length pair.0.window.pages) id script.lines.now script.logs.items
    (length (copies_at copies pairs server.unit)) (named_by id (copies_at copies pairs server.unit))) by
    (client_same pair.0.server (strokes_at pair.0.window.pages) (strokes_shown trace (pages_at partitions client) client) (length pair.0.window.pages) id script.lines.now script.logs.items
    (length (copies_at copies pairs server.unit)) (named_by id (copies_at copies pairs server.unit)) same records.told)))) in
    record {
      logged = λ page less stroke shown mine.
          subst (λ (ls : List Line). IsLogged client ls (filter (λ (row : LogRow). row.partition == p) (flat_map logs_of scripts)) stroke.name.mark) (sym lines)
          (subst (λ (list : List LogRow). IsLogged client script.lines.now list stroke.name.mark) (sym (own_records pairs scripts lan p script are at.1))
          (subst (λ (unit : UnitId). IsLogged unit script.lines.now script.logs.items stroke.name.mark) named (logged page less stroke shown mine)));
      told = subst (λ (ls : List Line). of client (pages_at partitions client) ls (filter (λ (row : LogRow). row.partition == p) (flat_map logs_of scripts)) (copies_shown trace server)) (sym lines)
          (subst (λ (list : List LogRow). of client (pages_at partitions client) script.lines.now list (copies_shown trace server)) (sym (own_records pairs scripts lan p script are at.1)) told);
    }
