-- Each stroke row of a gathered trace that another unit laid is named by its copies.
use Rattle.std.proofs.Common.{◌≡◌, ◌∙◌, inl, inr, ℕ, zero, suc, ◌+◌, List, [], ◌∷◌, Option, Some, None, IfSome, IsSomeAnd, length, option_map, slice_get, refl, sym, ap, subst, arith}
use Rattle.std.specs.List.{Contains}
use Rattle.vio_num.specs.declared.history.Grant.{Grant}
use Rattle.vio_num.specs.declared.history.Served.{Served}
use Rattle.vio_num.specs.declared.names.UnitId.{UnitId}
use Rattle.page_slots.specs.Stroke.{StrokeValue}
use Rattle.tce_window.specs.PlainPort.{known_of}
use Rattle.tce_window.specs.Window.{WindowValue, strokes_at}
use Rattle.rdma_copy.specs.Copies.{side_of as side_at}
use Rattle.rdma_copy.specs.declared.copy.CopyRecord.{CopyRecord}
use Rattle.block_server.specs.Makers.{named_on, stroke_in, AreNamed}
use Rattle.boot_text.specs.Sound.{unit_in}
use Rattle.boot_text.specs.declared.plan.Partition.{Partition}
use Rattle.lan_script.specs.Units.{LanValue}
use Rattle.lan_script.specs.declared.rows.LanRows.{LanRows}
use Rattle.vio_trace.specs.declared.rows.Trace.{Trace}
use Rattle.vio_trace.specs.declared.window_rows.StrokeRow.{StrokeRow}
use Rattle.vcpu_run.specs.declared.driver.Driver.{Driver}
use Rattle.vcpu_run.specs.declared.pair.Pair.{Pair}
use Rattle.vcpu_run.specs.declared.script.Script.{Script}
use Rattle.vcpu_run.specs.declared.unit_seat.Seat.{Seat}
use Rattle.vcpu_run.specs.declared.unit_seat.Seat.TheVariants as sits
use Rattle.vcpu_run.specs.Gathered.{marks_at, rows_if, trace_of, window_at}
use Rattle.vcpu_run.specs.Machines.{AreScripts, IsOfPlan}
use Rattle.vcpu_run.specs.Numbered.{numbered}
use Rattle.vcpu_run.specs.Pairs.{AreOfOneHome, IsDriver}
use Rattle.vcpu_run.specs.Ports.{unit_of}
use Rattle.vcpu_run.specs.StrokeMakers.{named_in, IsForeign, IsPort, StrokesAreMade}
use Rattle.vcpu_run.specs.Units.{seats_of, unit_seat}
use Rattle.vcpu_run.specs.Windows.{rows_from, rows_on, stroke_row, strokes_in_rows}
use Rattle.vcpu_run.proofs.Listed.{held}
use Rattle.vcpu_run.proofs.Makers.{named_once, named_there}
use Rattle.lan_script.proofs.Order.{Each, each_append, each_flat}
use Rattle.vcpu_run.proofs.Parts.{in_slice}
use Rattle.vcpu_run.proofs.Seated.{planned_unit, port_plan, server_pair}
use Rattle.vcpu_run.proofs.Sole.{all_from_each, each_seat}

each_numbered : {X Row : Type 0} (P : Row → Type 0) (make : ℕ → X → Row) (n : ℕ) (xs : List X) → ((i : ℕ) (x : X) → slice_get xs i ≡ Some x → P (make (n + i) x))
    → Each P (numbered make n xs)
each_numbered P make n [] h = tt
each_numbered {X} P make n (x ∷ xs) h =
    let first : n + 0 ≡ n = omega arith in (
      subst (λ k. P (make k x)) first (h 0 x refl),
      each_numbered P make (n + 1) xs (λ i y e. let more : n + suc i ≡ (n + 1) + i = omega arith in subst (λ k. P (make k y)) more (h (suc i) y e)),
    )

-- the strokes of a window, where what is so of each place is so of its row
on_page : (P : StrokeRow → Type 0) (unit : UnitId) (page : ℕ) (slot : Option (List StrokeValue))
    → ((place : ℕ) (stroke : StrokeValue) → stroke_in slot place ≡ Some stroke → P (stroke_row unit page place stroke)) → Each P (rows_on unit page slot)
on_page P unit page None h = tt
on_page P unit page (Some strokes) h =
    each_numbered P (stroke_row unit page) 0 strokes
    (λ i stroke e. let same : i ≡ 0 + i = omega arith in subst (λ k. P (stroke_row unit page k stroke)) same (h i stroke e))

on_pages : (P : StrokeRow → Type 0) (unit : UnitId) (strokes : ℕ → Option (List StrokeValue))
    → ((page place : ℕ) (stroke : StrokeValue) → stroke_in (strokes page) place ≡ Some stroke → P (stroke_row unit page place stroke))
    → (n q : ℕ) → Each P (rows_from unit strokes q n)
on_pages P unit strokes h zero q = tt
on_pages P unit strokes h (suc n) q =
    each_append P (rows_on unit q (strokes q)) (rows_from unit strokes (q + 1) n) (on_page P unit q (strokes q) (h q)) (on_pages P unit strokes h n (q + 1))

-- a row is named, if another unit laid its stroke in a server unit's or a client's region
abbrev IsNamedRow : List Partition → Trace → StrokeRow → Type 0
IsNamedRow partitions trace row = IsForeign partitions row → Contains (named_in trace row.unit row.page) row.place

abbrev AreNamedIn : List Partition → Trace → UnitId → Option WindowValue → Type 0
AreNamedIn partitions trace unit slot = Each (IsNamedRow partitions trace) (rows_if (strokes_in_rows unit) slot)

window_named : (partitions : List Partition) (trace : Trace) (unit : UnitId) (window : WindowValue) (copies : List CopyRecord) → AreNamed (side_at (known_of window)) copies
    → window.unit ≡ unit → ((page : ℕ) → named_in trace unit page ≡ named_on unit page copies) → AreNamedIn partitions trace unit (Some window)
window_named partitions trace unit window copies names own same =
    on_pages (IsNamedRow partitions trace) unit (strokes_at window.pages)
    (λ page place stroke at foreign.
    subst (λ places. Contains places place) (sym (same page))
    (subst (λ u. Contains (named_on u page copies) place) own
    (names.others page place stroke at (λ e. foreign.other (e ∙ own)))))
    (length window.pages) 0

-- in the region of a LAN port none is asked for
port_named : (partitions : List Partition) (trace : Trace) (unit : UnitId) (slot : Option WindowValue) → IsPort partitions unit → AreNamedIn partitions trace unit slot
port_named partitions trace unit None port = tt
port_named partitions trace unit (Some window) port =
    on_pages (IsNamedRow partitions trace) unit (strokes_at window.pages) (λ page place stroke at foreign. absurd (foreign.no_port port)) (length window.pages) 0

client_is : (id : UnitId) (window : WindowValue) (driver : Option Driver) → IfSome driver (IsDriver window) → IsSomeAnd driver (λ driver. driver.unit ≡ id) → window.unit ≡ id
client_is id window None is h = absurd h
client_is id window (Some driver) is h = is.unit ∙ h

pub strokes_made : (partitions : List Partition) (pairs : List Pair) (scripts : List Script) (lan : LanValue) (rows : LanRows) (history : List Served) (grants : List Grant) (copies : List CopyRecord)
    → AreOfOneHome copies pairs → AreScripts pairs lan.seats scripts → IsOfPlan partitions pairs scripts lan.seats
    → StrokesAreMade partitions (trace_of pairs scripts lan rows history grants copies)
strokes_made partitions pairs scripts lan rows history grants copies are are' plan = record {
  once = λ unit page. named_once copies pairs are unit page;
  made = all_from_each (IsNamedRow partitions trace) trace.strokes
      (each_flat (IsNamedRow partitions trace) (marks_at pairs lan) (seats_of scripts) (each_seat (λ seat. AreNamedIn partitions trace seat.unit (window_at pairs lan seat)) scripts by));
}
  where
    trace : Trace
    trace = trace_of pairs scripts lan rows history grants copies

    own_named : (k : ℕ) (pair : Pair) (unit : UnitId) → slice_get pairs k ≡ Some pair → pair.own.unit ≡ unit → AreNamedIn partitions trace unit (Some pair.own)
    own_named k pair unit at own =
        window_named partitions trace unit pair.own copies (are.pairs_are k pair at).names.own own
        (λ page. named_there copies pairs are unit page pair (in_slice pairs k pair at) (inl own))

    client_named : (k : ℕ) (pair : Pair) (unit : UnitId) → slice_get pairs k ≡ Some pair → pair.window.unit ≡ unit → AreNamedIn partitions trace unit (Some pair.window)
    client_named k pair unit at own =
        window_named partitions trace unit pair.window copies (are.pairs_are k pair at).names.client own
        (λ page. named_there copies pairs are unit page pair (in_slice pairs k pair at) (inr own))

    by : (i : ℕ) (script : Script) (u : ℕ) (seat : Seat) → slice_get scripts i ≡ Some script → slice_get script.seats.items u ≡ Some seat
        → AreNamedIn partitions trace (unit_of script.partition u) (window_at pairs lan (unit_seat script.partition u seat))
    by i script u sits.Server e e' =
        let id : UnitId = unit_of script.partition u in
        let pair = server_pair partitions pairs scripts lan.seats i u script are' plan e e' in
        subst (λ slot. AreNamedIn partitions trace id (option_map (λ (pair : Pair). pair.own) slot)) (sym pair.1)
        (own_named u pair.0 id pair.1 ((are.pairs_are u pair.0 pair.1).own_unit ∙ pair.2))
    by i script u (sits.Client k) e e' =
        let id : UnitId = unit_of script.partition u in
        let pair = held (λ (pair : Pair). IsSomeAnd pair.driver (λ driver. driver.unit ≡ id)) (slice_get pairs k) ((are' i script e).script_is.seats u k e') in
        subst (λ slot. AreNamedIn partitions trace id (option_map (λ (pair : Pair). pair.window) slot)) (sym pair.1)
        (client_named k pair.0 id pair.1 (client_is id pair.0.window pair.0.driver (are.pairs_are k pair.0 pair.1).driver pair.2))
    by i script u sits.Port e e' =
        let id : UnitId = unit_of script.partition u in
        let unit = planned_unit partitions pairs scripts lan.seats i u script sits.Port are' plan e e' in
        let is = port_plan unit.1 unit.4 in
        port_named partitions trace id (window_at pairs lan (unit_seat script.partition u sits.Port))
        (is.0, is.1, is.2, ap (λ slot. unit_in slot u) unit.2 ∙ (unit.3 ∙ ap Some is.3))
