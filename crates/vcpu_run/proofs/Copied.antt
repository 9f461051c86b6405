-- The copies and windows of a gathered trace keep the copy law.
use Rattle.std.proofs.Common.{◌≡◌, ◌∙◌, ◌⊎◌, inl, inr, ℕ, ◌+◌, ◌*◌, ◌==◌, ◌&&◌, ◌<◌, ◌≤◌, nat_lt, Bool, true, false, cond, List, [], ◌∷◌, All, Option, Some, None, IfSome, filter, length, map, option_map, slice_get, refl, sym, ap, subst, arith, zero, suc}
use Rattle.std.specs.List.{flat_map}
use Rattle.std.proofs.lemmas.Bool.Decides.{nat_tests}
use Rattle.vio_num.specs.declared.history.Grant.{Grant}
use Rattle.vio_num.specs.declared.history.Served.{Served}
use Rattle.vio_num.specs.declared.names.UnitId.{UnitId}
use Rattle.page_slots.specs.Page.{AreWithinPage}
use Rattle.page_slots.specs.Stroke.{StrokeValue}
use Rattle.rdma_copy.specs.Copies.{side_of}
use Rattle.rdma_copy.specs.Copy.{IsLawful, Side, SideGrows}
use Rattle.rdma_copy.specs.declared.copy.CopyRecord.{CopyRecord}
use Rattle.rdma_copy.proofs.Laws.{lawful_stays}
use Rattle.tce_window.specs.PlainPort.{known_of}
use Rattle.tce_window.specs.Strokes.{AllWithin, IsWithin}
use Rattle.tce_window.specs.Window.{WindowValue, strokes_at}
use Rattle.tce_window.specs.declared.answers.TceRow.{TceRow}
use Rattle.block_server.specs.Advances.{IsOwnCopy}
use Rattle.boot_text.specs.Sound.{unit_at, IsClientOf, IsServer}
use Rattle.boot_text.specs.declared.plan.Partition.{Partition}
use Rattle.boot_text.specs.declared.plan.UnitPlan.TheVariants as units
use Rattle.lan_script.specs.Units.{LanValue}
use Rattle.lan_script.specs.declared.rows.LanRows.{LanRows}
use Rattle.vio_trace.specs.declared.rows.Trace.{Trace}
use Rattle.vio_trace.specs.declared.window_rows.CopyRow.{CopyRow}
use Rattle.vio_trace.specs.declared.window_rows.StrokeRow.{StrokeRow}
use Rattle.vio_trace.specs.declared.window_rows.TceValueRow.{TceValueRow}
use Rattle.vcpu_run.specs.declared.pair.Pair.{Pair}
use Rattle.vcpu_run.specs.declared.script.Script.{Script}
use Rattle.vcpu_run.specs.declared.unit_seat.Seat.TheVariants as sits
use Rattle.vcpu_run.specs.declared.unit_seat.UnitSeat.{UnitSeat}
use Rattle.vcpu_run.specs.CopyRows.{copies_by, copy_row, same_unit}
use Rattle.vcpu_run.specs.Gathered.{copies_of, marks_at, rows_if, trace_of, values_at, window_at, HasLawfulWindow, IsLawfulWindow}
use Rattle.vcpu_run.specs.Machines.{AreScripts, IsOfPlan}
use Rattle.vcpu_run.specs.Numbered.{numbered}
use Rattle.vcpu_run.specs.Pairs.{AreOfOneHome, IsCopyOf}
use Rattle.vcpu_run.specs.RunLaw.{ArePlaced, AreVersions, CopiesAreLawful, IsBetween, IsLawfulCopy, LiesInRegion}
use Rattle.vcpu_run.specs.Units.{seats_of, unit_seat}
use Rattle.vcpu_run.specs.Shown.{pages_at, puts_into, strokes_on, values_shown, window_shown}
use Rattle.vcpu_run.specs.Windows.{rows_from, rows_of_entry, rows_on, stroke_row, strokes_in_rows, values_from, values_in_rows}
use Rattle.vcpu_run.proofs.Blocks.{entry_named, first_versions, strokes_placed, IsOfEntry}
use Rattle.vcpu_run.proofs.Following.{each_from_all}
use Rattle.vcpu_run.proofs.Makers.{versions_once}
use Rattle.vcpu_run.proofs.Marked.{strokes_made}
use Rattle.lan_script.proofs.Order.{Each, Ordered, each_append, each_flat, each_weaker}
use Rattle.vcpu_run.proofs.Ordering.{each_of, marks_own, values_own}
use Rattle.vcpu_run.proofs.Parts.{IsIn, Told, each_in, filter_both, found}
use Rattle.vcpu_run.proofs.Placing.{SeatBefore, seats_ordered}
use Rattle.vcpu_run.proofs.Seated.{IsSeated, IsSeatedAt, all_seated, planned_in}
use Rattle.vcpu_run.proofs.Showing.{entry_shown, is_less, is_past, none_past, page_shown, shown_grows, values_said}
use Rattle.vcpu_run.proofs.Sole.{all_from_each, apart_names, ordered_weaker, same_refl, sole}

each_two : {X : Type 0} (P Q R : X → Type 0) → ((x : X) → P x → Q x → R x) → (xs : List X) → Each P xs → Each Q xs → Each R xs
each_two P Q R step [] p q = tt
each_two P Q R step (x ∷ xs) p q = (step x p.0 q.0, each_two P Q R step xs p.1 q.1)

-- strokes lie in the region

lies_on : (partitions : List Partition) (unit : UnitId) (page n : ℕ) (strokes : List StrokeValue) → page < pages_at partitions unit → AreWithinPage strokes
    → Each (LiesInRegion partitions) (numbered (stroke_row unit page) n strokes)
lies_on partitions unit page n [] less within = tt
lies_on partitions unit page n (stroke ∷ strokes) less within =
    (record { page = less; inside = within.0 }, lies_on partitions unit page (n + 1) strokes less within.1)

page_lies : (partitions : List Partition) (unit : UnitId) (page : ℕ) (strokes : Option (List StrokeValue)) → page < pages_at partitions unit → IsWithin strokes
    → Each (LiesInRegion partitions) (rows_on unit page strokes)
page_lies partitions unit page None less within = tt
page_lies partitions unit page (Some strokes) less within = lies_on partitions unit page 0 strokes less within

pages_lie : (partitions : List Partition) (unit : UnitId) (strokes : ℕ → Option (List StrokeValue)) → AllWithin strokes
    → (n q : ℕ) → q + n ≤ pages_at partitions unit → Each (LiesInRegion partitions) (rows_from unit strokes q n)
pages_lie partitions unit strokes within zero q most = tt
pages_lie partitions unit strokes within (suc n) q most =
    each_append (LiesInRegion partitions) (rows_on unit q (strokes q)) (rows_from unit strokes (q + 1) n)
    (page_lies partitions unit q (strokes q) (omega (arith, most)) (within q))
    (pages_lie partitions unit strokes within n (q + 1) (omega (arith, most)))

marks_lie : (partitions : List Partition) (unit : UnitId) (slot : Option WindowValue) → IfSome slot (IsSeatedAt partitions unit) → IfSome slot IsLawfulWindow
    → Each (LiesInRegion partitions) (rows_if (strokes_in_rows unit) slot)
marks_lie partitions unit None seated lawful = tt
marks_lie partitions unit (Some window) seated lawful =
    pages_lie partitions unit (strokes_at window.pages) lawful.within (length window.pages) 0 (omega (arith, seated.size))

-- and values are put into entries of it

abbrev LiesInWindow : List Partition → TceValueRow → Type 0
LiesInWindow partitions row = row.entry < pages_at partitions row.unit

entries_lie : (partitions : List Partition) (unit : UnitId) (rows : List TceRow) → (n q : ℕ) → q + n ≤ pages_at partitions unit
    → Each (LiesInWindow partitions) (values_from unit rows q n)
entries_lie partitions unit rows zero q most = tt
entries_lie partitions unit rows (suc n) q most =
    each_append (LiesInWindow partitions) (rows_of_entry unit rows q) (values_from unit rows (q + 1) n)
    (each_weaker (IsOfEntry unit q) (LiesInWindow partitions)
    (λ row h. subst (λ u. row.entry < pages_at partitions u) (sym h.0) (omega (arith, most, h.1)))
    (rows_of_entry unit rows q) (entry_named unit q rows))
    (entries_lie partitions unit rows n (q + 1) (omega (arith, most)))

values_lie : (partitions : List Partition) (unit : UnitId) (slot : Option WindowValue) → IfSome slot (IsSeatedAt partitions unit)
    → Each (LiesInWindow partitions) (rows_if (values_in_rows unit) slot)
values_lie partitions unit None seated = tt
values_lie partitions unit (Some window) seated =
    entries_lie partitions unit window.rows (length window.pages) 0 (omega (arith, seated.size))

-- a unit's rows are those of one seat

pub marks_told : (pairs : List Pair) (lan : LanValue) (unit : UnitId) (seats : List UnitSeat)
    → Told (λ (row : StrokeRow). same_unit row.unit unit) (λ (seat : UnitSeat). same_unit seat.unit unit) (marks_at pairs lan) seats
marks_told pairs lan unit seats =
    each_of (λ seat. Each (λ (row : StrokeRow). same_unit row.unit unit ≡ same_unit seat.unit unit) (marks_at pairs lan seat)) seats
    (λ seat. each_weaker (λ (row : StrokeRow). row.unit ≡ seat.unit) (λ (row : StrokeRow). same_unit row.unit unit ≡ same_unit seat.unit unit)
    (λ row h. ap (λ u. same_unit u unit) h) (marks_at pairs lan seat) (marks_own pairs lan seat))

pub values_told : (pairs : List Pair) (lan : LanValue) (unit : UnitId) (seats : List UnitSeat)
    → Told (λ (row : TceValueRow). same_unit row.unit unit) (λ (seat : UnitSeat). same_unit seat.unit unit) (values_at pairs lan) seats
values_told pairs lan unit seats =
    each_of (λ seat. Each (λ (row : TceValueRow). same_unit row.unit unit ≡ same_unit seat.unit unit) (values_at pairs lan seat)) seats
    (λ seat. each_weaker (λ (row : TceValueRow). row.unit ≡ seat.unit) (λ (row : TceValueRow). same_unit row.unit unit ≡ same_unit seat.unit unit)
    (λ row h. ap (λ u. same_unit u unit) h) (values_at pairs lan seat) (values_own pairs lan seat))

pub names_apart : (unit : UnitId) (seats : List UnitSeat) → Ordered SeatBefore seats
    → Ordered (λ a b. same_unit a.unit unit ≡ true → same_unit b.unit unit ≡ false) seats
names_apart unit seats order =
    ordered_weaker SeatBefore (λ a b. same_unit a.unit unit ≡ true → same_unit b.unit unit ≡ false)
    (λ a b before is. apart_names a.unit b.unit unit before is) seats order

-- places and versions

on_placed : (unit : UnitId) (page : ℕ) (strokes : Option (List StrokeValue)) → ArePlaced 0 (rows_on unit page strokes)
on_placed unit page None = tt
on_placed unit page (Some strokes) = strokes_placed unit page 0 strokes

marks_placed : (unit : UnitId) (page : ℕ) (slot : Option WindowValue) → ArePlaced 0 (filter (λ (row : StrokeRow). row.page == page) (rows_if (strokes_in_rows unit) slot))
marks_placed unit page None = tt
marks_placed unit page (Some window) = subst (ArePlaced 0) (sym (page_shown unit window page)) (on_placed unit page (strokes_at window.pages page))

all_placed : (pairs : List Pair) (lan : LanValue) (seats : List UnitSeat) → Ordered SeatBefore seats → (unit : UnitId) (page : ℕ)
    → ArePlaced 0 (filter (λ (row : StrokeRow). same_unit row.unit unit && row.page == page) (flat_map (marks_at pairs lan) seats))
all_placed pairs lan seats order unit page =
    let test : StrokeRow → Bool = λ row. same_unit row.unit unit in
    let on : StrokeRow → Bool = λ row. row.page == page in
    let hits : UnitSeat → Bool = λ seat. same_unit seat.unit unit in
    subst (ArePlaced 0) (sym (filter_both test on (flat_map (marks_at pairs lan) seats)))
    (sole test hits (λ rows. ArePlaced 0 (filter on rows)) (marks_at pairs lan) tt seats (marks_told pairs lan unit seats)
    (each_of (λ seat. hits seat ≡ true → ArePlaced 0 (filter on (marks_at pairs lan seat))) seats (λ seat is. marks_placed seat.unit page (window_at pairs lan seat)))
    (names_apart unit seats order))

values_versioned : (unit : UnitId) (e : ℕ) (slot : Option WindowValue) → IfSome slot IsLawfulWindow
    → AreVersions 1 (filter (λ (row : TceValueRow). row.entry == e) (rows_if (values_in_rows unit) slot))
values_versioned unit e None lawful = tt
values_versioned unit e (Some window) lawful =
    subst (AreVersions 1) (sym (entry_shown unit window e lawful.numbered)) (first_versions unit e (length window.pages) window.rows lawful.numbered)

all_versioned : (pairs : List Pair) (lan : LanValue) (seats : List UnitSeat) → Ordered SeatBefore seats → Each (HasLawfulWindow pairs lan) seats → (unit : UnitId) (e : ℕ)
    → AreVersions 1 (filter (λ (row : TceValueRow). same_unit row.unit unit && row.entry == e) (flat_map (values_at pairs lan) seats))
all_versioned pairs lan seats order lawful unit e =
    let test : TceValueRow → Bool = λ row. same_unit row.unit unit in
    let on : TceValueRow → Bool = λ row. row.entry == e in
    let hits : UnitSeat → Bool = λ seat. same_unit seat.unit unit in
    subst (AreVersions 1) (sym (filter_both test on (flat_map (values_at pairs lan) seats)))
    (sole test hits (λ rows. AreVersions 1 (filter on rows)) (values_at pairs lan) tt seats (values_told pairs lan unit seats)
    (each_weaker (HasLawfulWindow pairs lan) (λ seat. hits seat ≡ true → AreVersions 1 (filter on (values_at pairs lan seat)))
    (λ seat h is. values_versioned seat.unit e (window_at pairs lan seat) h.lawful) seats lawful)
    (names_apart unit seats order))

-- nothing is put into a server unit's window

one_name : (a b : UnitId) → same_unit a b ≡ true → a ≡ b
one_name a b is = grind (arith, nat_tests)

below_or_past : (a b : ℕ) (P : Type 0) → (a < b → P) → (b ≤ a → P) → P
below_or_past a b P below past = at (nat_lt a b) refl
  where
    at : (t : Bool) → nat_lt a b ≡ t → P
    at true is = below (is_less a b is)
    at false is = past (is_past a b is)

none_put : (partitions : List Partition) (unit : UnitId) (e : ℕ) (slot : Option WindowValue) → IfSome slot (IsSeatedAt partitions unit) → IfSome slot IsLawfulWindow
    → IsServer partitions unit → filter (λ (row : TceValueRow). row.entry == e) (rows_if (values_in_rows unit) slot) ≡ []
none_put partitions unit e None seated lawful server = refl
none_put partitions unit e (Some window) seated lawful server =
    let none = seated.no_puts server in
    entry_shown unit window e lawful.numbered
    ∙ below_or_past e 34 (rows_of_entry unit window.rows e ≡ []) (λ below. none.1 e below)
    (λ past. none_past unit (length window.pages) e window.rows lawful.numbered (omega (arith, past, none.0, seated.size)))

no_server_puts : (partitions : List Partition) (pairs : List Pair) (lan : LanValue) (seats : List UnitSeat) → Ordered SeatBefore seats → Each (IsSeated partitions pairs lan) seats
    → Each (HasLawfulWindow pairs lan) seats → (unit : UnitId) (e : ℕ) → IsServer partitions unit
    → filter (λ (row : TceValueRow). same_unit row.unit unit && row.entry == e) (flat_map (values_at pairs lan) seats) ≡ []
no_server_puts partitions pairs lan seats order seated lawful unit e server =
    let test : TceValueRow → Bool = λ row. same_unit row.unit unit in
    let on : TceValueRow → Bool = λ row. row.entry == e in
    let hits : UnitSeat → Bool = λ seat. same_unit seat.unit unit in
    filter_both test on (flat_map (values_at pairs lan) seats)
    ∙ sole test hits (λ rows. filter on rows ≡ []) (values_at pairs lan) refl seats (values_told pairs lan unit seats)
    (each_two (IsSeated partitions pairs lan) (HasLawfulWindow pairs lan) (λ seat. hits seat ≡ true → filter on (values_at pairs lan seat) ≡ [])
    (λ seat h h' is. none_put partitions seat.unit e (window_at pairs lan seat) h h'.lawful (subst (IsServer partitions) (sym (one_name seat.unit unit is)) server)) seats seated lawful)
    (names_apart unit seats order)

-- what is shown of a unit's window

seat_shown : (partitions : List Partition) (pairs : List Pair) (scripts : List Script) (lan : LanValue) (rows : LanRows) (history : List Served) (grants : List Grant) (copies : List CopyRecord)
    → Ordered SeatBefore (seats_of scripts) → Each (IsSeated partitions pairs lan) (seats_of scripts) → Each (HasLawfulWindow pairs lan) (seats_of scripts)
    → (seat : UnitSeat) (window : WindowValue) → IsIn seat (seats_of scripts) → window_at pairs lan seat ≡ Some window
    → SideGrows (side_of (known_of window)) (window_shown partitions (trace_of pairs scripts lan rows history grants copies) seat.unit)
seat_shown partitions pairs scripts lan rows history grants copies order seated lawful seat window inside e =
    let trace = trace_of pairs scripts lan rows history grants copies in
    let seats = seats_of scripts in
    let sits : IsSeatedAt partitions seat.unit window = subst (λ slot. IfSome slot (IsSeatedAt partitions seat.unit)) e (each_in (IsSeated partitions pairs lan) seat seats inside seated) in
    let has : HasLawfulWindow pairs lan seat = each_in (HasLawfulWindow pairs lan) seat seats inside lawful in
    let law : IsLawfulWindow window = subst (λ slot. IfSome slot IsLawfulWindow) e has.lawful in
    let hits : UnitSeat → Bool = λ other. same_unit other.unit seat.unit in
    let put : TceValueRow → Bool = λ row. same_unit row.unit seat.unit in
    let laid : StrokeRow → Bool = λ row. same_unit row.unit seat.unit in
    let own_values : filter put trace.tces ≡ values_in_rows seat.unit window =
    found put hits (values_at pairs lan) seat (same_refl seat.unit) seats inside (values_told pairs lan seat.unit seats) (names_apart seat.unit seats order)
    ∙ ap (rows_if (values_in_rows seat.unit)) e in
    let own_marks : filter laid trace.strokes ≡ strokes_in_rows seat.unit window =
    found laid hits (marks_at pairs lan) seat (same_refl seat.unit) seats inside (marks_told pairs lan seat.unit seats) (names_apart seat.unit seats order)
    ∙ ap (rows_if (strokes_in_rows seat.unit)) e in
    shown_grows seat.unit window (pages_at partitions seat.unit) (puts_into trace seat.unit) (strokes_on trace seat.unit)
    sits.unit_is sits.size (law.there sits.free)
    (λ entry. filter_both put (λ row. row.entry == entry) trace.tces ∙ ap (filter (λ row. row.entry == entry)) own_values ∙ entry_shown seat.unit window entry law.numbered)
    (λ page. filter_both laid (λ row. row.page == page) trace.strokes ∙ ap (filter (λ row. row.page == page)) own_marks ∙ page_shown seat.unit window page)

-- the values that are shown of a window's entries are those that it has
seat_values : (pairs : List Pair) (scripts : List Script) (lan : LanValue) (rows : LanRows) (history : List Served) (grants : List Grant) (copies : List CopyRecord)
    → Ordered SeatBefore (seats_of scripts) → Each (HasLawfulWindow pairs lan) (seats_of scripts)
    → (seat : UnitSeat) (window : WindowValue) → IsIn seat (seats_of scripts) → window_at pairs lan seat ≡ Some window
    → (entry : ℕ) → values_shown (trace_of pairs scripts lan rows history grants copies) seat.unit entry ≡ (known_of window).values entry
seat_values pairs scripts lan rows history grants copies order lawful seat window inside e entry =
    let trace = trace_of pairs scripts lan rows history grants copies in
    let seats = seats_of scripts in
    let has : HasLawfulWindow pairs lan seat = each_in (HasLawfulWindow pairs lan) seat seats inside lawful in
    let law : IsLawfulWindow window = subst (λ slot. IfSome slot IsLawfulWindow) e has.lawful in
    let hits : UnitSeat → Bool = λ other. same_unit other.unit seat.unit in
    let put : TceValueRow → Bool = λ row. same_unit row.unit seat.unit in
    let own_values : filter put trace.tces ≡ values_in_rows seat.unit window =
    found put hits (values_at pairs lan) seat (same_refl seat.unit) seats inside (values_told pairs lan seat.unit seats) (names_apart seat.unit seats order)
    ∙ ap (rows_if (values_in_rows seat.unit)) e in
    ap (λ list. (4096 * entry + 3) ∷ map (λ row. row.value) list)
    (filter_both put (λ row. row.entry == entry) trace.tces ∙ ap (filter (λ row. row.entry == entry)) own_values ∙ entry_shown seat.unit window entry law.numbered)
    ∙ values_said seat.unit window.rows entry

pub values_are : (pairs : List Pair) (scripts : List Script) (lan : LanValue) (rows : LanRows) (history : List Served) (grants : List Grant) (copies : List CopyRecord)
    → AreScripts pairs lan.seats scripts → All (HasLawfulWindow pairs lan) (seats_of scripts)
    → (seat : UnitSeat) (window : WindowValue) → IsIn seat (seats_of scripts) → window_at pairs lan seat ≡ Some window
    → (entry : ℕ) → values_shown (trace_of pairs scripts lan rows history grants copies) seat.unit entry ≡ (known_of window).values entry
values_are pairs scripts lan rows history grants copies are windows =
    seat_values pairs scripts lan rows history grants copies (seats_ordered pairs lan.seats scripts are) (each_from_all (HasLawfulWindow pairs lan) (seats_of scripts) windows)

pub windows_shown : (pairs : List Pair) (scripts : List Script) (lan : LanValue) (rows : LanRows) (history : List Served) (grants : List Grant) (copies : List CopyRecord) (partitions : List Partition)
    → AreOfOneHome copies pairs → AreScripts pairs lan.seats scripts → All (HasLawfulWindow pairs lan) (seats_of scripts) → IsOfPlan partitions pairs scripts lan.seats
    → (seat : UnitSeat) (window : WindowValue) → IsIn seat (seats_of scripts) → window_at pairs lan seat ≡ Some window
    → SideGrows (side_of (known_of window)) (window_shown partitions (trace_of pairs scripts lan rows history grants copies) seat.unit)
windows_shown pairs scripts lan rows history grants copies partitions are are' windows plan =
    let seats = seats_of scripts in
    let lawful = each_from_all (HasLawfulWindow pairs lan) seats windows in
    seat_shown partitions pairs scripts lan rows history grants copies (seats_ordered pairs lan.seats scripts are') (all_seated partitions pairs scripts lan copies are are' plan lawful) lawful

-- each copy is lawful

still_lawful : (copy : CopyRecord) (client client' own own' : Side) (from to : ℕ) → SideGrows client client' → SideGrows own own'
    → (IsLawful copy client from own to ⊎ IsLawful copy own from client to) → (IsLawful copy client' from own' to ⊎ IsLawful copy own' from client' to)
still_lawful copy client client' own own' from to client_grows own_grows (inl h) = inl (lawful_stays copy client client' from own own' to client_grows own_grows h)
still_lawful copy client client' own own' from to client_grows own_grows (inr h) = inr (lawful_stays copy own own' from client client' to own_grows client_grows h)

pub copies_each : (P : CopyRow → Type 0) (Q : CopyRecord → Type 0) (unit : UnitId) → ((copy : CopyRecord) → Q copy → copy.name.who ≡ unit → P (copy_row copy))
    → (copies : List CopyRecord) → Each Q copies → Each P (copies_by unit copies)
copies_each P Q unit step [] all = tt
copies_each P Q unit step (copy ∷ copies) all = at (same_unit copy.name.who unit) refl (copies_each P Q unit step copies all.1)
  where
    at : (b : Bool) → same_unit copy.name.who unit ≡ b → Each P (copies_by unit copies)
        → Each P (map copy_row (cond b (copy ∷ filter (λ c. same_unit c.name.who unit) copies) (filter (λ c. same_unit c.name.who unit) copies)))
    at true is rest = (step copy all.0 (one_name copy.name.who unit is), rest)
    at false is rest = rest

each_pair : (P : Pair → Type 0) (pairs : List Pair) → ((k : ℕ) (pair : Pair) → slice_get pairs k ≡ Some pair → P pair) → Each P pairs
each_pair P [] h = tt
each_pair P (pair ∷ pairs) h = (h 0 pair refl, each_pair P pairs (λ k other e. h (suc k) other e))

all_copies : (partitions : List Partition) (pairs : List Pair) (scripts : List Script) (lan : LanValue) (rows : LanRows) (history : List Served) (grants : List Grant) (copies : List CopyRecord)
    → AreOfOneHome copies pairs → AreScripts pairs lan.seats scripts → IsOfPlan partitions pairs scripts lan.seats
    → ((seat : UnitSeat) (window : WindowValue) → IsIn seat (seats_of scripts) → window_at pairs lan seat ≡ Some window
    → SideGrows (side_of (known_of window)) (window_shown partitions (trace_of pairs scripts lan rows history grants copies) seat.unit))
    → Each (IsLawfulCopy partitions (trace_of pairs scripts lan rows history grants copies)) (flat_map (copies_of copies) pairs)
all_copies partitions pairs scripts lan rows history grants copies are are' plan shown =
    each_flat (IsLawfulCopy partitions trace) (copies_of copies) pairs
    (each_pair (λ pair. Each (IsLawfulCopy partitions trace) (copies_of copies pair)) pairs
    (λ k pair e. copies_each (IsLawfulCopy partitions trace) (IsCopyOf pair) pair.server (lawful_copy k pair e)
    copies (each_from_all (IsCopyOf pair) copies (are.pairs_are k pair e).copies)))
  where
    trace : Trace
    trace = trace_of pairs scripts lan rows history grants copies

    between : (k : ℕ) (pair : Pair) → slice_get pairs k ≡ Some pair → (copy : CopyRecord) → IsOwnCopy (known_of pair.own) (known_of pair.window) copy
        → (client : UnitId) → IsClientOf partitions client pair.server → IsBetween partitions trace copy pair.server client
    between k pair e copy own client is_client =
        let planned = plan.pairs_are.each k pair e in
        let there : slice_get pairs pair.server.unit ≡ Some pair = ap (slice_get pairs) planned.number ∙ e in (
          own.from,
          own.to,
          still_lawful copy (side_of (known_of pair.window)) (window_shown partitions trace client) (side_of (known_of pair.own)) (window_shown partitions trace pair.server) own.from own.to
              (shown (unit_seat client.partition client.unit (sits.Client pair.server.unit)) pair.window
              (planned_in partitions pairs scripts lan.seats client (units.Client pair.server is_client.0 is_client.1) are' plan is_client.2) (ap (option_map (λ (pair : Pair). pair.window)) there))
              (shown (unit_seat pair.server.partition pair.server.unit sits.Server) pair.own
              (planned_in partitions pairs scripts lan.seats pair.server (units.Server planned.pages) are' plan planned.planned) (ap (option_map (λ (pair : Pair). pair.own)) there))
              own.lawful,
        )

    lawful_copy : (k : ℕ) (pair : Pair) → slice_get pairs k ≡ Some pair → (copy : CopyRecord) → IsCopyOf pair copy → copy.name.who ≡ pair.server
        → IsLawfulCopy partitions trace (copy_row copy)
    lawful_copy k pair e copy own who =
        let planned = plan.pairs_are.each k pair e in
        record {
          copy = copy;
          shown = refl;
          by = (planned.pages, ap (unit_at partitions) who ∙ planned.planned);
          lawful = subst (λ unit. (client : UnitId) → IsClientOf partitions client unit → IsBetween partitions trace copy unit client) (sym who) (between k pair e copy (own who));
        }

pub copies_are : (pairs : List Pair) (scripts : List Script) (lan : LanValue) (rows : LanRows) (history : List Served) (grants : List Grant) (copies : List CopyRecord) (partitions : List Partition)
    → AreOfOneHome copies pairs → AreScripts pairs lan.seats scripts → All (HasLawfulWindow pairs lan) (seats_of scripts) → IsOfPlan partitions pairs scripts lan.seats
    → CopiesAreLawful partitions (trace_of pairs scripts lan rows history grants copies)
copies_are pairs scripts lan rows history grants copies partitions are are' windows plan =
    let trace = trace_of pairs scripts lan rows history grants copies in
    let seats = seats_of scripts in
    let order = seats_ordered pairs lan.seats scripts are' in
    let lawful = each_from_all (HasLawfulWindow pairs lan) seats windows in
    let seated = all_seated partitions pairs scripts lan copies are are' plan lawful in
    record {
      each = all_from_each (IsLawfulCopy partitions trace) trace.copies
          (all_copies partitions pairs scripts lan rows history grants copies are are' plan (windows_shown pairs scripts lan rows history grants copies partitions are are' windows plan));
      strokes = all_from_each (LiesInRegion partitions) trace.strokes
          (each_flat (LiesInRegion partitions) (marks_at pairs lan) seats
          (each_two (IsSeated partitions pairs lan) (HasLawfulWindow pairs lan) (λ seat. Each (LiesInRegion partitions) (marks_at pairs lan seat))
          (λ seat h h'. marks_lie partitions seat.unit (window_at pairs lan seat) h h'.lawful) seats seated lawful));
      places = all_placed pairs lan seats order;
      versions = all_versioned pairs lan seats order lawful;
      windows = all_from_each (LiesInWindow partitions) trace.tces
          (each_flat (LiesInWindow partitions) (values_at pairs lan) seats
          (each_weaker (IsSeated partitions pairs lan) (λ seat. Each (LiesInWindow partitions) (values_at pairs lan seat))
          (λ seat h. values_lie partitions seat.unit (window_at pairs lan seat) h) seats seated));
      no_server = no_server_puts partitions pairs lan seats order seated lawful;
      made = strokes_made partitions pairs scripts lan rows history grants copies are are' plan;
      rising = versions_once copies pairs are;
    }
