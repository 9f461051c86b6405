-- The trace of a machine's parts is in order.
use Rattle.std.proofs.Common.{◌≡◌, inl, inr, ℕ, ◌+◌, ◌<◌, ◌≤◌, Bool, true, false, cond, List, [], ◌∷◌, ◌++◌, All, Option, Some, None, IfSome, filter, length, map, slice_get, refl, sym, ◌∙◌, ap, subst, arith, suc}
use Rattle.std.specs.List.{flat_map}
use Rattle.std.proofs.lemmas.Bool.Decides.{nat_tests}
use Rattle.vio_num.specs.declared.names.UnitId.{UnitId}
use Rattle.vio_num.specs.declared.history.Grant.{Grant}
use Rattle.vio_num.specs.declared.history.Served.{Served}
use Rattle.tce_window.specs.Window.{strokes_at}
use Rattle.rdma_copy.specs.declared.copy.CopyRecord.{CopyRecord}
use Rattle.boot_text.specs.declared.plan.Line.{Line}
use Rattle.lan_script.specs.PortLaw.{AreOrdered}
use Rattle.lan_script.specs.Units.{LanValue}
use Rattle.lan_script.specs.declared.rows.LanRows.{LanRows}
use Rattle.lan_script.specs.declared.seat.PortSeat.{PortSeat}
use Rattle.vio_trace.specs.Form.{AnswerBefore, CopyBefore, IsInOrder, LogBefore, QueueBefore, StrokeBefore, TceValueBefore, UnitBefore}
use Rattle.vio_trace.specs.declared.rows.AnswerRow.{AnswerRow}
use Rattle.vio_trace.specs.declared.rows.LogRow.{LogRow}
use Rattle.vio_trace.specs.declared.rows.QueueRow.{QueueRow}
use Rattle.vio_trace.specs.declared.window_rows.CopyRow.{CopyRow}
use Rattle.vio_trace.specs.declared.window_rows.StrokeRow.{StrokeRow}
use Rattle.vio_trace.specs.declared.window_rows.TceValueRow.{TceValueRow}
use Rattle.vcpu_run.specs.declared.driver.Driver.{Driver}
use Rattle.vcpu_run.specs.declared.pair.Pair.{Pair}
use Rattle.vcpu_run.specs.declared.script.Script.{Script}
use Rattle.vcpu_run.specs.declared.unit_seat.UnitSeat.{UnitSeat}
use Rattle.vcpu_run.specs.CopyRows.{copies_by, copy_row, same_unit}
use Rattle.vcpu_run.specs.Gathered.{answer_by, answers_at, copies_of, driver_of, logs_of, marks_at, queue_at, rows_if, sessions_at, trace_of, values_at, window_at, HasLawfulWindow, IsLawfulWindow}
use Rattle.vcpu_run.specs.Machines.{AreScripts}
use Rattle.vcpu_run.specs.Sessions.{session_rows}
use Rattle.vcpu_run.specs.Windows.{strokes_in_rows, values_in_rows}
use Rattle.vcpu_run.specs.Pairs.{ArePairs, AreOfOneHome}
use Rattle.vcpu_run.specs.Scripts.{IsScript}
use Rattle.vcpu_run.specs.Units.{seats_of}
use Rattle.vcpu_run.proofs.Blocks.{alone, pages_named, pages_ordered, sessions_named, sessions_ordered, values_named, values_ordered, IsOfWindow, IsOnPage}
use Rattle.vcpu_run.proofs.Following.{each_from_all, ordered_from}
use Rattle.lan_script.proofs.Order.{Each, Ordered, ascends, each_weaker, ordered_flat}
use Rattle.vcpu_run.proofs.Placing.{ArePartitions, SeatBefore, first_partition, pairs_ordered, partitions_are, partitions_behind, seats_ordered}

-- what is so of each element, and what is so of the rows of a part that may be there
pub each_of : {X : Type 0} (P : X → Type 0) (xs : List X) → ((x : X) → P x) → Each P xs
each_of P [] h = tt
each_of P (x ∷ xs) h = (h x, each_of P xs h)

pub each_if : {Part Row : Type 0} (P : Row → Type 0) (rows : Part → List Row) (slot : Option Part) → ((part : Part) → Each P (rows part)) → Each P (rows_if rows slot)
each_if P rows None h = tt
each_if P rows (Some part) h = h part

ordered_if : {Part Row : Type 0} (before : Row → Row → Type 0) (rows : Part → List Row) (slot : Option Part)
    → ((part : Part) → slot ≡ Some part → Ordered before (rows part)) → Ordered before (rows_if rows slot)
ordered_if before rows None h = tt
ordered_if before rows (Some part) h = h part refl

-- the rows of a unit bear its name
pub sessions_own : (pairs : List Pair) (seat : UnitSeat) → Each (λ (row : QueueRow). row.unit ≡ seat.unit) (sessions_at pairs seat)
sessions_own pairs seat =
    each_if (λ (row : QueueRow). row.unit ≡ seat.unit) (session_rows seat.unit) (queue_at pairs seat)
    (λ pipe. each_weaker (λ (row : QueueRow). (row.unit ≡ seat.unit) × (1 ≤ row.session)) (λ (row : QueueRow). row.unit ≡ seat.unit) (λ row h. h.0)
    (session_rows seat.unit pipe) (sessions_named seat.unit pipe 1 pipe.session))

pub marks_own : (pairs : List Pair) (lan : LanValue) (seat : UnitSeat) → Each (λ (row : StrokeRow). row.unit ≡ seat.unit) (marks_at pairs lan seat)
marks_own pairs lan seat =
    each_if (λ (row : StrokeRow). row.unit ≡ seat.unit) (strokes_in_rows seat.unit) (window_at pairs lan seat)
    (λ window. each_weaker (IsOnPage seat.unit 0) (λ (row : StrokeRow). row.unit ≡ seat.unit) (λ row h. h.0)
    (strokes_in_rows seat.unit window) (pages_named seat.unit (strokes_at window.pages) 0 (length window.pages)))

pub values_own : (pairs : List Pair) (lan : LanValue) (seat : UnitSeat) → Each (λ (row : TceValueRow). row.unit ≡ seat.unit) (values_at pairs lan seat)
values_own pairs lan seat =
    each_if (λ (row : TceValueRow). row.unit ≡ seat.unit) (values_in_rows seat.unit) (window_at pairs lan seat)
    (λ window. each_weaker (IsOfWindow seat.unit 0) (λ (row : TceValueRow). row.unit ≡ seat.unit) (λ row h. h.0)
    (values_in_rows seat.unit window) (values_named seat.unit window.rows 0 (length window.pages)))

queues_in_order : (pairs : List Pair) (seats : List UnitSeat) → Ordered SeatBefore seats → Ordered QueueBefore (flat_map (sessions_at pairs) seats)
queues_in_order pairs seats order =
    ordered_flat (λ (seat : UnitSeat). seat.unit) (λ (row : QueueRow). row.unit) QueueBefore (λ a b h. inl h) (sessions_at pairs) seats
    (each_of (λ seat. Each (λ row. row.unit ≡ seat.unit) (sessions_at pairs seat)) seats (sessions_own pairs))
    (each_of (λ seat. Ordered QueueBefore (sessions_at pairs seat)) seats
    (λ seat. ordered_if QueueBefore (session_rows seat.unit) (queue_at pairs seat) (λ pipe e. sessions_ordered seat.unit pipe 1 pipe.session)))
    order

strokes_in_order : (pairs : List Pair) (lan : LanValue) (seats : List UnitSeat) → Ordered SeatBefore seats → Ordered StrokeBefore (flat_map (marks_at pairs lan) seats)
strokes_in_order pairs lan seats order =
    ordered_flat (λ (seat : UnitSeat). seat.unit) (λ (row : StrokeRow). row.unit) StrokeBefore (λ a b h. inl h) (marks_at pairs lan) seats
    (each_of (λ seat. Each (λ row. row.unit ≡ seat.unit) (marks_at pairs lan seat)) seats (marks_own pairs lan))
    (each_of (λ seat. Ordered StrokeBefore (marks_at pairs lan seat)) seats
    (λ seat. ordered_if StrokeBefore (strokes_in_rows seat.unit) (window_at pairs lan seat)
    (λ window e. pages_ordered seat.unit (strokes_at window.pages) 0 (length window.pages))))
    order

values_in_order : (pairs : List Pair) (lan : LanValue) (seats : List UnitSeat) → Each (HasLawfulWindow pairs lan) seats → Ordered SeatBefore seats
    → Ordered TceValueBefore (flat_map (values_at pairs lan) seats)
values_in_order pairs lan seats lawful order =
    ordered_flat (λ (seat : UnitSeat). seat.unit) (λ (row : TceValueRow). row.unit) TceValueBefore (λ a b h. inl h) (values_at pairs lan) seats
    (each_of (λ seat. Each (λ row. row.unit ≡ seat.unit) (values_at pairs lan seat)) seats (values_own pairs lan))
    (each_weaker (HasLawfulWindow pairs lan) (λ seat. Ordered TceValueBefore (values_at pairs lan seat))
    (λ seat h. ordered_if TceValueBefore (values_in_rows seat.unit) (window_at pairs lan seat)
    (λ window e. let law : IsLawfulWindow window = subst (λ slot. IfSome slot IsLawfulWindow) e h.lawful in
    values_ordered seat.unit (length window.pages) window.rows law.numbered 0 (length window.pages)))
    seats lawful)
    order

-- answers, by client

each_map : {X Row : Type 0} (P : Row → Type 0) (f : X → Row) (xs : List X) → ((x : X) → P (f x)) → Each P (map f xs)
each_map P f [] h = tt
each_map P f (x ∷ xs) h = (h x, each_map P f xs h)

answers_own : (pairs : List Pair) (seat : UnitSeat) → Each (λ (row : AnswerRow). row.unit ≡ seat.unit) (answers_at pairs seat)
answers_own pairs seat =
    each_if (λ (row : AnswerRow). row.unit ≡ seat.unit) (λ (driver : Driver). map (answer_by seat.unit) driver.answers.items) (driver_of pairs seat)
    (λ driver. each_map (λ (row : AnswerRow). row.unit ≡ seat.unit) (answer_by seat.unit) driver.answers.items (λ row. refl))

answers_in_order : (pairs : List Pair) (seats : List UnitSeat) → Ordered SeatBefore seats → Ordered AnswerBefore (flat_map (answers_at pairs) seats)
answers_in_order pairs seats order =
    ordered_flat (λ (seat : UnitSeat). seat.unit) (λ (row : AnswerRow). row.unit) AnswerBefore (λ a b h. inl h) (answers_at pairs) seats
    (each_of (λ seat. Each (λ row. row.unit ≡ seat.unit) (answers_at pairs seat)) seats (answers_own pairs))
    (each_of (λ seat. Ordered AnswerBefore (answers_at pairs seat)) seats
    (λ seat. alone (λ (row : AnswerRow). row.unit) seat.unit AnswerBefore (λ a b e. inr e) (answers_at pairs seat) (answers_own pairs seat)))
    order

-- copies, by server unit

same_name : (a b : UnitId) → same_unit a b ≡ true → a ≡ b
same_name a b is = grind (arith, nat_tests)

pub copies_named : (unit : UnitId) (copies : List CopyRecord) → Each (λ row. row.unit ≡ unit) (copies_by unit copies)
copies_named unit [] = tt
copies_named unit (copy ∷ copies) = at (same_unit copy.name.who unit) refl (copies_named unit copies)
  where
    at : (b : Bool) → same_unit copy.name.who unit ≡ b → Each (λ (row : CopyRow). row.unit ≡ unit) (copies_by unit copies)
        → Each (λ (row : CopyRow). row.unit ≡ unit) (map copy_row (cond b (copy ∷ filter (λ c. same_unit c.name.who unit) copies) (filter (λ c. same_unit c.name.who unit) copies)))
    at true is rest = (same_name copy.name.who unit is, rest)
    at false is rest = rest

copies_in_order : (home : ℕ) (copies : List CopyRecord) (pairs : List Pair) → ArePairs home copies pairs → Ordered CopyBefore (flat_map (copies_of copies) pairs)
copies_in_order home copies pairs are =
    ordered_flat (λ (pair : Pair). pair.server) (λ (row : CopyRow). row.unit) CopyBefore (λ a b h. inl h) (copies_of copies) pairs
    (each_of (λ pair. Each (λ row. row.unit ≡ pair.server) (copies_of copies pair)) pairs (λ pair. copies_named pair.server copies))
    (each_of (λ pair. Ordered CopyBefore (copies_of copies pair)) pairs
    (λ pair. alone (λ (row : CopyRow). row.unit) pair.server CopyBefore (λ a b e. inr e) (copies_of copies pair) (copies_named pair.server copies)))
    (pairs_ordered home copies pairs are)

-- records, by partition

abbrev named_by : ℕ → UnitId
named_by partition = record { partition = partition; unit = 0 }

front_ordered : {X : Type 0} (before : X → X → Type 0) (xs rest : List X) → Ordered before (xs ++ rest) → Ordered before xs
front_ordered before [] rest order = tt
front_ordered {X} before (x ∷ xs) rest order = (front xs order.0, front_ordered before xs rest order.1)
  where
    front : (ys : List X) → Each (before x) (ys ++ rest) → Each (before x) ys
    front [] all = tt
    front (y ∷ ys) all = (all.0, front ys all.1)

map_each : {X Y : Type 0} (P : Y → Type 0) (f : X → Y) (xs : List X) → Each P (map f xs) → Each (λ x. P (f x)) xs
map_each P f [] all = tt
map_each P f (x ∷ xs) all = (all.0, map_each P f xs all.1)

each_map_of : {X Y : Type 0} (P : Y → Type 0) (f : X → Y) (xs : List X) → Each (λ x. P (f x)) xs → Each P (map f xs)
each_map_of P f [] all = tt
each_map_of P f (x ∷ xs) all = (all.0, each_map_of P f xs all.1)

map_ordered : {X Y : Type 0} (before : Y → Y → Type 0) (f : X → Y) (xs : List X) → Ordered (λ a b. before (f a) (f b)) xs → Ordered before (map f xs)
map_ordered before f [] order = tt
map_ordered before f (x ∷ xs) order = (each_map_of (before (f x)) f xs order.0, map_ordered before f xs order.1)

logs_by_line : (p : ℕ) (logs : List LogRow) → Each (λ row. row.partition ≡ p) logs → Ordered (λ a b. a < b) (map (λ row. row.line) logs) → Ordered LogBefore logs
logs_by_line p [] named order = tt
logs_by_line p (row ∷ logs) named order =
    (before logs named.1 (map_each (λ n. row.line < n) (λ (other : LogRow). other.line) logs order.0), logs_by_line p logs named.1 order.1)
  where
    before : (others : List LogRow) → Each (λ other. other.partition ≡ p) others → Each (λ other. row.line < other.line) others → Each (LogBefore row) others
    before [] same less = tt
    before (other ∷ others) same less = (inr (named.0 ∙ sym same.0, less.0), before others same.1 less.1)

script_logged : (pairs : List Pair) (script : Script) → IsScript pairs script → Ordered LogBefore (logs_of script)
script_logged pairs script is =
    logs_by_line script.partition script.logs.items (each_from_all (λ row. row.partition ≡ script.partition) script.logs.items is.logs.own)
    (front_ordered (λ a b. a < b) (map (λ row. row.line) script.logs.items) is.logs.numbers.0
    (subst (Ordered (λ a b. a < b)) is.logs.numbers.1
    (map_ordered (λ a b. a < b) (λ (line : Line). line.number) script.lines.now (ordered_from (λ a b. a.number < b.number) script.lines.now is.in_order))))

pub each_script : {P : Script → Type 0} (scripts : List Script) → ((i : ℕ) (script : Script) → slice_get scripts i ≡ Some script → P script) → Each P scripts
each_script [] h = tt
each_script (script ∷ scripts) h = (h 0 script refl, each_script scripts (λ i other e. h (suc i) other e))

scripts_above : (n : ℕ) (scripts : List Script) → ArePartitions n scripts → Each (λ script. n ≤ script.partition) scripts
scripts_above n scripts are = each_script scripts (λ i script e. omega (arith, are i script e))

scripts_named : (n : ℕ) (scripts : List Script) → ArePartitions n scripts → Ordered (λ a b. UnitBefore (named_by a.partition) (named_by b.partition)) scripts
scripts_named n [] are = tt
scripts_named n (script ∷ scripts) are =
    let p = first_partition n script scripts are in (
      each_weaker (λ (other : Script). n + 1 ≤ other.partition) (λ (other : Script). UnitBefore (named_by script.partition) (named_by other.partition)) (λ other h. inl (omega (arith, p, h)))
          scripts (scripts_above (n + 1) scripts (partitions_behind n script scripts are)),
      scripts_named (n + 1) scripts (partitions_behind n script scripts are),
    )

apart_by_partition : (a b : LogRow) → UnitBefore (named_by a.partition) (named_by b.partition) → LogBefore a b
apart_by_partition a b (inl less) = inl less
apart_by_partition a b (inr h) = absurd (omega (arith, h.1))

logs_in_order : (pairs : List Pair) (ports : List PortSeat) (scripts : List Script) → AreScripts pairs ports scripts → Ordered LogBefore (flat_map logs_of scripts)
logs_in_order pairs ports scripts are =
    ordered_flat (λ (script : Script). named_by script.partition) (λ (row : LogRow). named_by row.partition) LogBefore apart_by_partition logs_of scripts
    (each_script scripts (λ i script e. each_weaker (λ (row : LogRow). row.partition ≡ script.partition) (λ (row : LogRow). named_by row.partition ≡ named_by script.partition) (λ row h. ap named_by h)
    (logs_of script) (each_from_all (λ row. row.partition ≡ script.partition) script.logs.items (are i script e).script_is.logs.own)))
    (each_script scripts (λ i script e. script_logged pairs script (are i script e).script_is))
    (scripts_named 0 scripts (partitions_are pairs ports scripts are))

pub order_is : (pairs : List Pair) (scripts : List Script) (lan : LanValue) (rows : LanRows) (history : List Served) (grants : List Grant) (copies : List CopyRecord)
    → AreOfOneHome copies pairs → AreScripts pairs lan.seats scripts → AreOrdered rows → All (HasLawfulWindow pairs lan) (seats_of scripts)
    → IsInOrder (trace_of pairs scripts lan rows history grants copies)
order_is pairs scripts lan rows history grants copies are are' ordered lawful =
    let seats = seats_of scripts in
    let order = seats_ordered pairs lan.seats scripts are' in
    record {
      logs = ascends LogBefore _ (logs_in_order pairs lan.seats scripts are');
      queues = ascends QueueBefore _ (queues_in_order pairs seats order);
      answers = ascends AnswerBefore _ (answers_in_order pairs seats order);
      frames = ordered.frames;
      offers = ordered.offers;
      ports = ordered.ports;
      posts = ordered.posts;
      delivers = ordered.delivers;
      harvests = ordered.harvests;
      tces = ascends TceValueBefore _ (values_in_order pairs lan seats (each_from_all (HasLawfulWindow pairs lan) seats lawful) order);
      copies = ascends CopyBefore _ (copies_in_order are.home copies pairs are.pairs_are);
      strokes = ascends StrokeBefore _ (strokes_in_order pairs lan seats order);
    }
