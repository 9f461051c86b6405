-- A gathered trace shows the intake of each server unit, its receipts over the sessions, the copies and the windows of the trace,
-- and what became of each.
use Rattle.std.proofs.Common.{◌≡◌, ◌∙◌, ℕ, ◌+◌, ◌==◌, ◌&&◌, ◌<◌, ◌≤◌, Bool, true, false, cond, List, [], ◌∷◌, ◌++◌, All, Option, Some, None, Result, Ok, Err, IfSome, MatchOption, OnOk, filter, inl, length, map, option_map, slice_get, refl, sym, ap, ap₂, subst, arith, append-nil, zero, suc}
use Rattle.std.specs.List.{flat_map}
use Rattle.std.proofs.Math.Logic.{∥∥₁_map}
use Rattle.std.proofs.lemmas.Bool.{eq-eqb, ne_eqb}
use Rattle.vio_num.specs.Entry.{iu_address, iu_length}
use Rattle.vio_num.specs.declared.entry.Entry.{Entry}
use Rattle.vio_num.specs.declared.history.Grant.{Grant}
use Rattle.vio_num.specs.declared.history.Served.{Served}
use Rattle.vio_num.specs.declared.names.UnitId.{UnitId}
use Rattle.crq_ring.specs.Pipe.{PipeValue, IsLawfulPipe}
use Rattle.crq_ring.specs.Sessions.{of_session}
use Rattle.crq_ring.specs.declared.rows.PipeRow.{PipeRow}
use Rattle.crq_session.specs.PlainState.{end_of, side_of}
use Rattle.tce_window.specs.Moved.{IsReadFrom, IsWrittenTo}
use Rattle.tce_window.specs.PlainPort.{known_of}
use Rattle.tce_window.specs.PortState.{PortState}
use Rattle.tce_window.specs.declared.piece.Piece.{Piece}
use Rattle.rdma_copy.proofs.Laws.{read_stays, written_stays}
use Rattle.rdma_copy.specs.Copies.{side_of as side_at}
use Rattle.rdma_copy.specs.Copy.{Side, SideGrows}
use Rattle.rdma_copy.specs.declared.copy.CopyRecord.{CopyRecord}
use Rattle.block_server.proofs.BookLaws.{served_at_rest}
use Rattle.block_server.specs.Books.{books_seen}
use Rattle.block_server.specs.Closings.{HasCauses}
use Rattle.block_server.specs.Judged.{AreKept, HasLimit, IsWorkDone, Judged, RowKey, keys_of, row_numbers}
use Rattle.block_server.specs.Makers.{same_unit as same_name}
use Rattle.block_server.specs.Numbers.{NameLogins, Rise, granted_numbers}
use Rattle.block_server.specs.Ready.{HasNothing}
use Rattle.block_server.specs.Moves.{Fetches, begin_on, is_intake}
use Rattle.block_server.specs.Receipts.{EndedFor, Intake, IsIntake, IsReceived, Receipt, row_of, srp_rows, waiting_rows}
use Rattle.block_server.specs.declared.request.Arrival.{Arrival}
use Rattle.block_server.specs.declared.unit.Unit.{Unit}
use Rattle.boot_text.specs.declared.plan.Partition.{Partition}
use Rattle.boot_text.specs.declared.plan.UnitPlan.TheVariants as units
use Rattle.lan_script.specs.Units.{LanValue}
use Rattle.lan_script.specs.declared.rows.LanRows.{LanRows}
use Rattle.vio_trace.specs.declared.rows.QueueRow.{QueueRow}
use Rattle.vio_trace.specs.declared.rows.Trace.{Trace}
use Rattle.vio_trace.specs.declared.window_rows.CopyRow.{CopyRow}
use Rattle.vcpu_run.specs.declared.pair.Pair.{Pair}
use Rattle.vcpu_run.specs.declared.script.Script.{Script}
use Rattle.vcpu_run.specs.declared.unit_seat.Seat.TheVariants as sits
use Rattle.vcpu_run.specs.declared.unit_seat.UnitSeat.{UnitSeat}
use Rattle.vcpu_run.specs.Answered.{AreBegun}
use Rattle.vcpu_run.specs.CopyRows.{copies_by, copy_row, piece_row, same_unit}
use Rattle.vcpu_run.specs.Gathered.{HasLawfulQueue, HasLawfulWindow, copies_of, queue_at, rows_if, sessions_at, trace_of}
use Rattle.vcpu_run.specs.Intake.{EntriesAreFetched, IsFetched, IsReceiptShown, IsTakenIn, begins_on, entries_taken, fetches_shown, rows_taken, taken_in_session}
use Rattle.vcpu_run.specs.Machines.{ArePlanned, AreScripts, IsOfPlan}
use Rattle.vcpu_run.specs.Pairs.{AreOfOneHome}
use Rattle.vcpu_run.specs.Received.{AreAtRest}
use Rattle.vcpu_run.specs.Requests.{IsServedIn, RequestsAreServed}
use Rattle.vcpu_run.specs.Sessions.{entries_of, session_row, session_rows, sessions_from}
use Rattle.vcpu_run.specs.Shown.{sessions_of, window_shown}
use Rattle.vcpu_run.specs.Units.{seats_of, unit_seat}
use Rattle.vcpu_run.proofs.Blocks.{sessions_count}
use Rattle.vcpu_run.proofs.Copied.{copies_each, names_apart, windows_shown}
use Rattle.vcpu_run.proofs.Following.{each_from_all, ordered_from}
use Rattle.vcpu_run.proofs.InSessions.{all_flat, flat, none_before, rows_again}
use Rattle.vcpu_run.proofs.Listed.{held}
use Rattle.vcpu_run.proofs.Makers.{each_there, ordered_there}
use Rattle.vcpu_run.proofs.Naming.{one_unit}
use Rattle.lan_script.proofs.Order.{Each, Ordered, each_weaker}
use Rattle.vcpu_run.proofs.Parts.{AreBlocks, IsIn, Told, each_in, found, in_slice, only_block}
use Rattle.vcpu_run.proofs.Placing.{seats_ordered}
use Rattle.vcpu_run.proofs.QueueLaws.{entries_are, sessions_told}
use Rattle.vcpu_run.proofs.Receiving.{intake_at}
use Rattle.vcpu_run.proofs.Seated.{planned_in}
use Rattle.vcpu_run.proofs.Settling.{emptied}
use Rattle.vcpu_run.proofs.Sole.{all_from_each, same_refl}

-- both are so where there is a result
pub ok_pair : {T E : Type 0} (r : Result T E) (A B : Type 0) → OnOk r A → OnOk r B → OnOk r (A × B)
ok_pair (Ok x) A B a b = (a, b)
ok_pair (Err e) A B a b = tt

-- what was taken, over the sessions
flat_is : (unit : UnitId) (pipe : PipeValue) (q n : ℕ) → flat_map rows_taken (sessions_from unit pipe q n) ≡ flat q n pipe.taken
flat_is unit pipe q zero = refl
flat_is unit pipe q (suc n) = ap₂ (λ (a b : List PipeRow). a ++ b) (rows_again q pipe.taken) (flat_is unit pipe (q + 1) n)

pub all_taken : (unit : UnitId) (pipe : PipeValue) → IsLawfulPipe pipe → AreBegun pipe.taken → flat_map rows_taken (session_rows unit pipe) ≡ pipe.taken
all_taken unit pipe laws begun =
    flat_is unit pipe 1 pipe.session
    ∙ all_flat pipe.session pipe.taken (ordered_from (λ (a b : PipeRow). a.session ≤ b.session) pipe.taken laws.taken.in_order)
    (each_from_all (λ (row : PipeRow). 1 ≤ row.session) pipe.taken begun) (each_from_all (λ (row : PipeRow). row.session ≤ pipe.session) pipe.taken laws.taken.none_later)

-- one session
one_session : (unit : UnitId) (pipe : PipeValue) (q : ℕ) → 1 ≤ q → q ≤ pipe.session
    → flat_map (λ (row : QueueRow). row.taken) (filter (λ (row : QueueRow). row.session == q) (session_rows unit pipe)) ≡ entries_of q pipe.taken
one_session unit pipe q some within =
    ap (flat_map (λ (row : QueueRow). row.taken))
    (only_block (λ (row : QueueRow). row.session == q) (λ k. session_row unit pipe k ∷ []) (sessions_from unit pipe) q blocks pipe.session 1 some (λ past. absurd (omega (arith, past, within))))
    ∙ append-nil (entries_of q pipe.taken)
  where
    blocks : AreBlocks (λ (row : QueueRow). row.session == q) (λ k. session_row unit pipe k ∷ []) (sessions_from unit pipe) q
    blocks = record {
      end = λ k. refl;
      next = λ k n. refl;
      own = (eq-eqb q q refl, tt);
      other = λ k apart. (ne_eqb k q apart, tt);
    }

nothing_there : {X : Type 0} (number : ℕ) (x : X) → slice_get [] number ≡ Some x → ⊥
nothing_there number x e = cc

-- an entry that was taken was taken in a session
is_begun : (rows : List PipeRow) (q number : ℕ) (entry : Entry) → AreBegun rows → slice_get (entries_of q rows) number ≡ Some entry → 1 ≤ q
is_begun rows (suc q) number entry begun there = omega arith
is_begun rows zero number entry begun there =
    let none : entries_of 0 rows ≡ [] = ap (map (λ (row : PipeRow). row.entry)) (none_before 0 rows (each_weaker (λ (row : PipeRow). 1 ≤ row.session) (λ (row : PipeRow). 0 < row.session)
    (λ row h. omega (arith, h)) rows (each_from_all (λ (row : PipeRow). 1 ≤ row.session) rows begun))) in
    absurd (nothing_there number entry (ap (λ (entries : List Entry). slice_get entries number) (sym none) ∙ there))

-- the copies that a trace shows of a server unit
pub pieces_begin : (unit : UnitId) (page : ℕ) (pieces : List Piece) → begins_on unit page (map piece_row pieces) ≡ begin_on unit page pieces
pieces_begin unit page [] = refl
pieces_begin unit page (piece ∷ pieces) = refl

rows_fetch : (unit : UnitId) (copies : List CopyRecord) → filter (λ (row : CopyRow). begins_on unit 0 row.to) (copies_by unit copies) ≡ map copy_row (filter (is_intake unit) copies)
rows_fetch unit [] = refl
rows_fetch unit (copy ∷ copies) = by (same_unit copy.name.who unit) (rows_fetch unit copies)
  where
    test : CopyRow → Bool
    test row = begins_on unit 0 row.to

    own : List CopyRecord
    own = filter (λ (c : CopyRecord). same_unit c.name.who unit) copies

    begin : (b : Bool) → begin_on unit 0 copy.to.items ≡ b → filter test (map copy_row own) ≡ map copy_row (filter (is_intake unit) copies)
        → cond b (copy_row copy ∷ filter test (map copy_row own)) (filter test (map copy_row own)) ≡ map copy_row (cond b (copy ∷ filter (is_intake unit) copies) (filter (is_intake unit) copies))
    begin true is rest = ap (λ (rows : List CopyRow). copy_row copy ∷ rows) rest
    begin false is rest = rest

    by : (b : Bool) → filter test (copies_by unit copies) ≡ map copy_row (filter (is_intake unit) copies)
        → filter test (map copy_row (cond b (copy ∷ own) own))
        ≡ map copy_row (cond (b && begin_on unit 0 copy.to.items) (copy ∷ filter (is_intake unit) copies) (filter (is_intake unit) copies))
    by true rest =
        ap (λ t. cond t (copy_row copy ∷ filter test (map copy_row own)) (filter test (map copy_row own))) (pieces_begin unit 0 copy.to.items)
        ∙ begin (begin_on unit 0 copy.to.items) refl rest
    by false rest = rest

copies_told : (unit : UnitId) (copies : List CopyRecord) (pairs : List Pair)
    → Told (λ (row : CopyRow). same_unit row.unit unit) (λ (pair : Pair). same_unit pair.server unit) (copies_of copies) pairs
copies_told unit copies pairs =
    each_there (λ (pair : Pair). Each (λ (row : CopyRow). same_unit row.unit unit ≡ same_unit pair.server unit) (copies_of copies pair)) pairs
    (λ k pair there. copies_each (λ (row : CopyRow). same_unit row.unit unit ≡ same_unit pair.server unit) (λ (copy : CopyRecord). copy.name.who ≡ copy.name.who) pair.server
    (λ copy itself who. ap (λ u. same_unit u unit) who) copies (any copies))
  where
    any : (copies : List CopyRecord) → Each (λ (copy : CopyRecord). copy.name.who ≡ copy.name.who) copies
    any [] = tt
    any (copy ∷ copies) = (refl, any copies)

servers_apart : (partitions : List Partition) (pairs : List Pair) (unit : UnitId) → ArePlanned partitions pairs
    → Ordered (λ (a b : Pair). same_unit a.server unit ≡ true → same_unit b.server unit ≡ false) pairs
servers_apart partitions pairs unit planned =
    ordered_there (λ (a b : Pair). same_unit a.server unit ≡ true → same_unit b.server unit ≡ false) pairs
    (λ j k a b less at_j at_k hit. either (same_unit b.server unit)
    (λ hit'.
    let first : a.server.unit ≡ j = (planned.each j a at_j).number in
    let next : b.server.unit ≡ k = (planned.each k b at_k).number in
    let same : a.server.unit ≡ b.server.unit = ap (λ (u : UnitId). u.unit) (one_unit a.server unit hit ∙ sym (one_unit b.server unit hit')) in
    omega (arith, less, first, next, same)))
  where
    either : (b : Bool) → ((b ≡ true) → ⊥) → b ≡ false
    either true never = absurd (never refl)
    either false never = refl

pub copies_are_by : (partitions : List Partition) (copies : List CopyRecord) (pairs : List Pair) (unit : UnitId) (k : ℕ) (pair : Pair) → ArePlanned partitions pairs
    → slice_get pairs k ≡ Some pair → pair.server ≡ unit → filter (λ (row : CopyRow). same_unit row.unit unit) (flat_map (copies_of copies) pairs) ≡ copies_by unit copies
copies_are_by partitions copies pairs unit k pair planned there is =
    found (λ (row : CopyRow). same_unit row.unit unit) (λ (other : Pair). same_unit other.server unit) (copies_of copies) pair
    (ap (λ u. same_unit u unit) is ∙ same_refl unit) pairs (in_slice pairs k pair there) (copies_told unit copies pairs) (servers_apart partitions pairs unit planned)
    ∙ ap (λ u. copies_by u copies) is

-- a copy that fetched an information unit, over the windows as they are shown
is_fetched : (own client : PortState) (own' client' : Side) (entry : Entry) (bytes : List ℕ) (copy : CopyRecord) → SideGrows (side_at own) own' → SideGrows (side_at client) client'
    → Fetches own client (iu_address entry) 0 (iu_length entry) bytes copy → IsFetched own' client' entry bytes copy
is_fetched own client own' client' entry bytes copy own_grows client_grows is = record {
  name_is = is.name_is ∙ ap (λ (unit : UnitId). record { who = unit; mark = 0 }) (sym own_grows.unit);
  len_is = is.len_is;
  read = subst (λ unit. IsReadFrom unit client'.values client'.strokes (iu_address entry) copy.from.items bytes) (sym client_grows.unit)
      (read_stays client.place.unit (iu_address entry) copy.from.items bytes client.values client'.values client.strokes client'.strokes client_grows.values client_grows.strokes is.read);
  written = subst (λ unit. IsWrittenTo unit own'.values own'.strokes 0 copy.name copy.to.items bytes) (sym own_grows.unit)
      (written_stays own.place.unit 0 copy.name copy.to.items bytes own.values own'.values own.strokes own'.strokes own_grows.values own_grows.strokes is.written);
}

is_shown : (partitions : List Partition) (trace : Trace) (server client : UnitId) (intake : Intake) (pipe : PipeValue) (receipt : Receipt)
    → intake.queue.taken ≡ pipe.taken → AreBegun pipe.taken → receipt.session ≤ pipe.session
    → sessions_of trace server ≡ session_rows server pipe → intake.own.place.unit ≡ server → intake.grants ≡ trace.grants
    → SideGrows (side_at intake.own) (window_shown partitions trace server) → SideGrows (side_at intake.client) (window_shown partitions trace client)
    → IsReceived intake receipt → IsReceiptShown partitions trace server client receipt
is_shown partitions trace server client intake pipe receipt taken begun within sessions unit lines own_grows client_grows is = record {
  there = ap (λ (entries : List Entry). slice_get entries receipt.number) shown ∙ stands;
  fetched = at receipt.copy is.fetched;
  long = is.long;
}
  where
    stands : slice_get (entries_of receipt.session pipe.taken) receipt.number ≡ Some receipt.entry
    stands =
        ap (λ (entries : List Entry). slice_get entries receipt.number) (sym (entries_are receipt.session pipe.taken))
        ∙ (ap (λ (rows : List PipeRow). slice_get (of_session receipt.session rows) receipt.number) (sym taken) ∙ is.there)

    shown : taken_in_session trace server receipt.session ≡ entries_of receipt.session pipe.taken
    shown =
        ap (λ (rows : List QueueRow). flat_map (λ (row : QueueRow). row.taken) (filter (λ (row : QueueRow). row.session == receipt.session) rows)) sessions
        ∙ one_session server pipe receipt.session (is_begun pipe.taken receipt.session receipt.number receipt.entry begun stands) within

    at : (o : Option CopyRecord)
        → MatchOption o (EndedFor intake.own.place.unit receipt.session intake.grants) (Fetches intake.own intake.client (iu_address receipt.entry) 0 (iu_length receipt.entry) receipt.bytes)
        → MatchOption o (EndedFor server receipt.session trace.grants) (IsFetched (window_shown partitions trace server) (window_shown partitions trace client) receipt.entry receipt.bytes)
    at None ended = subst (λ u. EndedFor u receipt.session trace.grants) unit (subst (EndedFor intake.own.place.unit receipt.session) lines ended)
    at (Some copy) fetched =
        is_fetched intake.own intake.client (window_shown partitions trace server) (window_shown partitions trace client) receipt.entry receipt.bytes copy own_grows client_grows fetched

-- each of the receipts, of sessions up to the last
each_shown : (P Q R : Receipt → Type 0) → ((receipt : Receipt) → P receipt → Q receipt → R receipt) → (receipts : List Receipt) → Each P receipts → Each Q receipts → Each R receipts
each_shown P Q R step [] p q = tt
each_shown P Q R step (receipt ∷ receipts) p q = (step receipt p.0 q.0, each_shown P Q R step receipts p.1 q.1)

taken_in_at : (partitions : List Partition) (trace : Trace) (server client : UnitId) (u : Unit) (pair : Pair) (copies : List CopyRecord) (receipts : List Receipt)
    → IsLawfulPipe (side_of pair.link true).queue → AreBegun (side_of pair.link true).queue.taken → u.waiting ≡ None
    → sessions_of trace server ≡ session_rows server (side_of pair.link true).queue
    → fetches_shown trace server ≡ map copy_row (filter (is_intake server) copies) → pair.own.unit ≡ server
    → SideGrows (side_at (known_of pair.own)) (window_shown partitions trace server) → SideGrows (side_at (known_of pair.window)) (window_shown partitions trace client)
    → IsIntake (intake_at u (known_of pair.own) (known_of pair.window) (end_of [] pair.link true) copies trace.grants) receipts
    → (taken : IsTakenIn partitions trace server client) × (taken.receipts ≡ receipts)
taken_in_at partitions trace server client u pair copies receipts laws begun none sessions shown unit own_grows client_grows is =
    let pipe : PipeValue = (side_of pair.link true).queue in
    let intake : Intake = intake_at u (known_of pair.own) (known_of pair.window) (end_of [] pair.link true) copies trace.grants in (
      record {
        receipts = receipts;
        entries = sym (append-nil (map row_of receipts))
            ∙ (ap (λ (o : Option Arrival). map row_of receipts ++ waiting_rows pipe.session o) (sym none)
            ∙ (is.entries ∙ ap srp_rows (sym (ap (flat_map rows_taken) sessions ∙ all_taken server pipe laws begun))));
        copies = ap (map copy_row) (is.copies_are ∙ ap (λ (id : UnitId). filter (is_intake id) copies) unit) ∙ sym shown;
        each = all_from_each (IsReceiptShown partitions trace server client) receipts
            (each_shown (IsReceived intake) (λ (receipt : Receipt). receipt.session ≤ pipe.session) (IsReceiptShown partitions trace server client)
            (λ receipt got most. is_shown partitions trace server client intake pipe receipt refl begun most sessions unit refl own_grows client_grows got)
            receipts (each_from_all (IsReceived intake) receipts is.each) (each_from_all (λ (receipt : Receipt). receipt.session ≤ pipe.session) receipts is.begun));
        last = is.last;
      },
      refl,
    )

-- what became of each entry, as the trace shows it
served_in_at : (partitions : List Partition) (trace : Trace) (server client : UnitId) (id : UnitId) (judged : List Judged) (taken : IsTakenIn partitions trace server client)
    → map (λ (j : Judged). j.receipt) judged ≡ taken.receipts → id ≡ server → IsWorkDone id trace.serves trace.grants judged
    → All (λ (row : RowKey). same_name row.unit id ≡ true → 1 ≤ row.login) (keys_of trace.serves)
    → HasCauses id (entries_taken trace server) judged trace.grants → All (HasLimit id (keys_of trace.serves) judged) trace.grants
    → NameLogins id [] trace.grants → ((session : ℕ) → Rise (granted_numbers id session trace.grants)) → ((session : ℕ) → Rise (row_numbers id session (keys_of trace.serves)))
    → ((session : ℕ) → 1 ≤ session → session < length (sessions_of trace server) → EndedFor id session trace.grants)
    → IsServedIn partitions trace server client
served_in_at partitions trace server client id judged taken receipts name done under causes limits numbers rising rows closed = record {
  judged = judged;
  taken = taken;
  receipts = receipts;
  done = subst (λ (name : UnitId). IsWorkDone name trace.serves trace.grants judged) name done;
  under = subst (λ (name : UnitId). All (λ (row : RowKey). same_name row.unit name ≡ true → 1 ≤ row.login) (keys_of trace.serves)) name under;
  causes = subst (λ (name : UnitId). HasCauses name (entries_taken trace server) judged trace.grants) name causes;
  limits = subst (λ (name : UnitId). All (HasLimit name (keys_of trace.serves) judged) trace.grants) name limits;
  numbers = subst (λ (name : UnitId). NameLogins name [] trace.grants) name numbers;
  rising = subst (λ (name : UnitId). (session : ℕ) → Rise (granted_numbers name session trace.grants)) name rising;
  rows = subst (λ (name : UnitId). (session : ℕ) → Rise (row_numbers name session (keys_of trace.serves))) name rows;
  closed = λ session some below. subst (λ (name : UnitId). EndedFor name session trace.grants) name (closed session some below);
}

pub requests_are_served : (pairs : List Pair) (scripts : List Script) (lan : LanValue) (rows : LanRows) (history : List Served) (grants : List Grant) (copies : List CopyRecord) (partitions : List Partition)
    → AreOfOneHome copies pairs → AreScripts pairs lan.seats scripts → All (HasLawfulQueue pairs) (seats_of scripts) → All (HasLawfulWindow pairs lan) (seats_of scripts)
    → IsOfPlan partitions pairs scripts lan.seats → AreAtRest copies grants history pairs scripts
    → RequestsAreServed partitions (trace_of pairs scripts lan rows history grants copies)
requests_are_served pairs scripts lan rows history grants copies partitions home are lawful windows plan rests server client serves drives =
    let there = held (λ (pair : Pair). pair.server ≡ server) (slice_get pairs server.unit) (plan.pairs_are.servers server serves) in
    let pair : Pair = there.0 in
    let pipe : PipeValue = (side_of pair.link true).queue in
    let seats = seats_of scripts in
    let seat : UnitSeat = unit_seat server.partition server.unit sits.Server in
    let inside : IsIn seat seats = planned_in partitions pairs scripts lan.seats server (units.Server serves.0) are plan serves.1 in
    let seat' : UnitSeat = unit_seat client.partition client.unit (sits.Client server.unit) in
    let inside' : IsIn seat' seats = planned_in partitions pairs scripts lan.seats client (units.Client server drives.0 drives.1) are plan drives.2 in
    let queue : queue_at pairs seat ≡ Some pipe = ap (option_map (λ (pair : Pair). (side_of pair.link true).queue)) there.1 in
    let laws : IsLawfulPipe pipe =
    subst (λ slot. IfSome slot IsLawfulPipe) queue (each_in (HasLawfulQueue pairs) seat seats inside (each_from_all (HasLawfulQueue pairs) seats lawful)) in
    let trace = trace_of pairs scripts lan rows history grants copies in
    let sessions : sessions_of trace server ≡ session_rows server pipe =
    found (λ (row : QueueRow). same_unit row.unit server) (λ (other : UnitSeat). same_unit other.unit server) (sessions_at pairs) seat (same_refl server) seats inside
    (sessions_told pairs server seats) (names_apart server seats (seats_ordered pairs lan.seats scripts are))
    ∙ ap (rows_if (session_rows server)) queue in
    let shown : fetches_shown trace server ≡ map copy_row (filter (is_intake server) copies) =
    ap (filter (λ (row : CopyRow). begins_on server 0 row.to)) (copies_are_by partitions copies pairs server server.unit pair plan.pairs_are there.1 there.2)
    ∙ rows_fetch server copies in
    let own : pair.own.unit ≡ server = (home.pairs_are server.unit pair there.1).own_unit ∙ there.2 in
    let own_grows = windows_shown pairs scripts lan rows history grants copies partitions home are windows plan seat pair.own inside (ap (option_map (λ (pair : Pair). pair.own)) there.1) in
    let client_grows = windows_shown pairs scripts lan rows history grants copies partitions home are windows plan seat' pair.window inside' (ap (option_map (λ (pair : Pair). pair.window)) there.1) in
    let none = (emptied rests.units pairs scripts lan.seats partitions server pair are lawful plan rests.idle serves there.1 there.2).1 in
    let u = held HasNothing (slice_get rests.units server.unit) none in
    let received = rests.received server.unit pair there.1 in
    ∥∥₁_map received.judged
    (λ has.
    let receipts = map (λ (j : Judged). j.receipt) has.0 in
    let taken = taken_in_at partitions trace server client u.0 pair copies receipts laws received.begun u.2.waiting sessions shown own own_grows client_grows
    (subst (λ (o : Option Unit). IfSome o (λ unit. IsIntake (intake_at unit (known_of pair.own) (known_of pair.window) (end_of [] pair.link true) copies grants) receipts)) u.1 has.1.received) in
    let kept : AreKept (books_seen u.0 pair.own.unit (end_of [] pair.link true) history grants) has.0 =
    subst (λ (o : Option Unit). IfSome o (λ unit. AreKept (books_seen unit pair.own.unit (end_of [] pair.link true) history grants) has.0)) u.1 has.1.kept in
    served_in_at partitions trace server client pair.own.unit has.0 taken.0 (sym taken.1) own
    (served_at_rest rests.units server.unit u.0 pair.own.unit (end_of [] pair.link true) history grants has.0 u.1 u.2.pending has.1.kept) kept.under
    (subst (λ (rows : List PipeRow). HasCauses pair.own.unit rows has.0 trace.grants)
    (sym (ap (flat_map rows_taken) sessions ∙ all_taken server pipe laws received.begun)) kept.lines.causes) kept.counted.limits kept.numbers.each kept.rising.each kept.rows.each
    (λ session some below. kept.lines.closed session some (inl (subst (λ (n : ℕ). session < n) (ap length sessions ∙ sessions_count server pipe 1 pipe.session) below))))

pub entries_are_fetched : (partitions : List Partition) (trace : Trace) → RequestsAreServed partitions trace → EntriesAreFetched partitions trace
entries_are_fetched partitions trace served server client serves drives = ∥∥₁_map (served server client serves drives) (λ is. is.taken)
