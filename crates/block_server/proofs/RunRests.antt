-- The runs of a unit's rows: before the first turn, over a turn of another unit, and where nothing is to be copied.
use Rattle.std.proofs.Common.{◌≡◌, ◌≢◌, inl, inr, ◌++◌, ◌&&◌, ℕ, suc, Bool, true, false, cond, not, All, List, [], ◌∷◌, Option, Some, None, IfSome, length, slice_get, append-nil, refl, sym, ◌∙◌, ap, subst, arith}
use Rattle.std.proofs.lemmas.List.Elements.{All-head, All-tail, filter-append}
use Rattle.std.proofs.lemmas.Option.{IfSome_then}
use Rattle.vio_num.specs.declared.history.Served.{Served}
use Rattle.vio_num.specs.declared.names.UnitId.{UnitId}
use Rattle.srp_iu.specs.declared.buffer.Desc.{Desc}
use Rattle.tce_window.specs.PortState.{PortState}
use Rattle.rdma_copy.specs.declared.copy.CopyRecord.{CopyRecord}
use Rattle.block_server.specs.Answering.{OnlyRowsOf, StaysRow}
use Rattle.block_server.specs.Cargo.{AreIdle, Cargo, HasCargo, HasRuns, IsAccounted, IsRunning, IsUnderWay, Load, Pages, Sight, bytes_seen, cargo, cargo_at, first_command, is_loaded, load_at, pages_in, rows_of, sight, unanswered}
use Rattle.block_server.specs.Cargo.Load.{fetching, given, none, sending, tabled}
use Rattle.block_server.specs.Causes.{Hearing, Told, told_to}
use Rattle.block_server.specs.Makers.{same_unit}
use Rattle.block_server.specs.Moves.{begin_on, data_copies, data_count, is_data}
use Rattle.block_server.specs.Runs.{HaveRuns, IsRun, own_rows}
use Rattle.block_server.specs.declared.records.Records.{Records}
use Rattle.block_server.specs.declared.unit.Unit.{Unit}
use Rattle.block_server.proofs.Agreeing.{if_at, some_at}
use Rattle.block_server.proofs.CargoLaws.{hand_elsewhere, unasked}
use Rattle.block_server.proofs.Cargoes.{cargo_is, cargo_none, to_none}
use Rattle.block_server.proofs.NamedWindows.{unit_other}

-- ROWS OF ANOTHER UNIT ---------------------------------------------------------------------------

other_row : (id : UnitId) (row : Served) (rest : List Served) → row.unit ≢ id → cond (same_unit row.unit id) (unanswered row ∷ rest) rest ≡ rest
other_row id row rest apart = ap (λ t. cond t (unanswered row ∷ rest) rest) (unit_other row.unit id apart)

none_own : (id other : UnitId) (rows : List Served) → id ≢ other → All (λ (row : Served). row.unit ≡ other) rows → own_rows id (rows_of rows) ≡ []
none_own id other [] apart all = refl
none_own id other (row ∷ rows) apart all =
    other_row id row (own_rows id (rows_of rows)) (λ is. apart (sym is ∙ All-head (λ (r : Served). r.unit ≡ other) row rows all))
    ∙ none_own id other rows apart (All-tail (λ (r : Served). r.unit ≡ other) row rows all)

-- a row of the other unit before and now, or the same row
own_cons : (id other : UnitId) (row new : Served) (rest rest' : List Served) → id ≢ other → StaysRow other row new → rest' ≡ rest
    → cond (same_unit new.unit id) (unanswered new ∷ rest') rest' ≡ cond (same_unit row.unit id) (unanswered row ∷ rest) rest
own_cons id other row new rest rest' apart (inl same) rests = λ i. cond (same_unit (same i).unit id) (unanswered (same i) ∷ rests i) (rests i)
own_cons id other row new rest rest' apart (inr both) rests =
    other_row id new rest' (λ is. apart (sym is ∙ both.is)) ∙ rests ∙ sym (other_row id row rest (λ is. apart (sym is ∙ both.was)))

own_same : (id other : UnitId) (h h' : List Served) → id ≢ other → OnlyRowsOf other h h' → own_rows id (rows_of h') ≡ own_rows id (rows_of h)
own_same id other [] h' apart only = none_own id other h' apart only
own_same id other (first ∷ h) [] apart only = absurd only
own_same id other (first ∷ h) (new ∷ h') apart only =
    own_cons id other first new (own_rows id (rows_of h)) (own_rows id (rows_of h')) apart only.0 (own_same id other h h' apart only.1)

-- The row has its place still, and the unit's rows before and behind it are the same.
record IsSplit (id : UnitId) (rows front : List Served) (row : Served) (behind : List Served) : Type 0 where
  front' : List Served
  behind' : List Served
  rows_are : rows ≡ front' ++ row ∷ behind'
  long : length front' ≡ length front
  before : own_rows id front' ≡ own_rows id front
  after : own_rows id behind' ≡ own_rows id behind

split_elsewhere : (id other : UnitId) (h h' front : List Served) (row : Served) (behind : List Served) → id ≢ other → OnlyRowsOf other h h' → row.unit ≡ id
    → rows_of h ≡ front ++ row ∷ behind → IsSplit id (rows_of h') front row behind
split_elsewhere id other [] h' [] row behind apart only own is = absurd (cc (is))
split_elsewhere id other [] h' (x ∷ front) row behind apart only own is = absurd (cc (is))
split_elsewhere id other (first ∷ h) [] front row behind apart only own is = absurd only
split_elsewhere id other (first ∷ h) (new ∷ h') [] row behind apart only own is = by only.0
  where
    head : unanswered first ≡ row
    head = cc (is)

    rest : rows_of h ≡ behind
    rest = cc (is)

    by : StaysRow other first new → IsSplit id (rows_of (new ∷ h')) [] row behind
    by (inl same) = record {
      front' = [];
      behind' = rows_of h';
      rows_are = ap (λ (r : Served). unanswered r ∷ rows_of h') same ∙ ap (λ (r : Served). r ∷ rows_of h') head;
      long = refl;
      before = refl;
      after = own_same id other h h' apart only.1 ∙ ap (own_rows id) rest;
    }
    by (inr both) = absurd (apart (sym own ∙ ap (λ (r : Served). r.unit) (sym head) ∙ both.was))
split_elsewhere id other (first ∷ h) (new ∷ h') (x ∷ front) row behind apart only own is =
    let head : unanswered first ≡ x = cc (is) in
    let rest : rows_of h ≡ front ++ row ∷ behind = cc (is) in
    let next = split_elsewhere id other h h' front row behind apart only.1 own rest in
    record {
      front' = unanswered new ∷ next.front';
      behind' = next.behind';
      rows_are = ap (λ (rows : List Served). unanswered new ∷ rows) next.rows_are;
      long = ap suc next.long;
      before = own_cons id other first new (own_rows id front) (own_rows id next.front') apart only.0 next.before
          ∙ ap (λ (r : Served). cond (same_unit r.unit id) (r ∷ own_rows id front) (own_rows id front)) head;
      after = next.after;
    }

-- ---- what is under way

run_elsewhere : (Hears : Hearing) (id other : UnitId) (shown : Pages) (load : Load) (h h' : List Served) (place : ℕ) (inns : List Desc) (bytes : List ℕ) (sent : ℕ) → id ≢ other → OnlyRowsOf other h h'
    → IsRunning Hears (cargo id shown load (rows_of h)) place inns bytes sent → IsRunning Hears (cargo id shown load (rows_of h')) place inns bytes sent
run_elsewhere Hears id other shown load h h' place inns bytes sent apart only is =
    let split = split_elsewhere id other h h' is.front is.row is.behind apart only is.unit_is is.rows_are in
    record {
      front = split.front';
      row = is.row;
      behind = split.behind';
      rows_are = split.rows_are;
      place_is = is.place_is ∙ sym split.long;
      unit_is = is.unit_is;
      inn_is = is.inn_is;
      last = split.after ∙ is.last;
      reached = is.reached;
      runs = subst (λ (rows : List Served). HaveRuns Hears rows 0 is.reached) (sym split.before) is.runs;
      first = is.first;
      after = is.after;
      run = is.run;
    }

under_elsewhere : (Hears : Hearing) (id other : UnitId) (shown : Pages) (load l : Load) (h h' : List Served) → id ≢ other → OnlyRowsOf other h h'
    → IsUnderWay Hears (cargo id shown load (rows_of h)) l → IsUnderWay Hears (cargo id shown load (rows_of h')) l
under_elsewhere Hears id other shown load none h h' apart only is =
    subst (λ (rows : List Served). HaveRuns Hears rows 0 shown.count) (sym (own_same id other h h' apart only)) is
under_elsewhere Hears id other shown load (tabled command outs) h h' apart only is = record {
  reached = is.reached;
  runs = subst (λ (rows : List Served). HaveRuns Hears rows 0 is.reached) (sym (own_same id other h h' apart only)) is.runs;
  now = is.now;
}
under_elsewhere Hears id other shown load (fetching command cursor outs inns) h h' apart only is = record {
  reached = is.reached;
  runs = subst (λ (rows : List Served). HaveRuns Hears rows 0 is.reached) (sym (own_same id other h h' apart only)) is.runs;
  now = is.now;
}
under_elsewhere Hears id other shown load (given place inns bytes) h h' apart only is = run_elsewhere Hears id other shown load h h' place inns bytes 0 apart only is
under_elsewhere Hears id other shown load (sending place cursor inns bytes) h h' apart only is =
    run_elsewhere Hears id other shown load h h' place inns bytes cursor.done apart only is

unasked_cargo : (told : Told → Bool) (hand : Cargo) → IsAccounted told true hand → IsAccounted told false hand
unasked_cargo told hand is = record { rows = is.rows; outs = is.outs; load = is.load; runs = λ never. absurd (cc (never)) }

runs_hand : (told : Told → Bool) (id other : UnitId) (shown : Pages) (load : Load) (h h' : List Served) → id ≢ other → OnlyRowsOf other h h'
    → IsAccounted told true (cargo id shown load (rows_of h)) → IsAccounted told true (cargo id shown load (rows_of h'))
runs_hand told id other shown load h h' apart only hand =
    let rest = hand_elsewhere told id other shown load h h' apart only (unasked_cargo told (cargo id shown load (rows_of h)) hand) in
    record {
      rows = rest.rows;
      outs = rest.outs;
      load = rest.load;
      runs = λ asked. under_elsewhere (told_to told id) id other shown load load h h' apart only (hand.runs asked);
    }

-- LAWS -------------------------------------------------------------------------------------------

-- Copies that other units made are none of a unit's tables and data.
pub others_none : (unit : UnitId) (old more : List CopyRecord) → All (λ copy. copy.name.who ≢ unit) more → data_copies unit (old ++ more) ≡ data_copies unit old
others_none unit old more others = filter-append (is_data unit) old more ∙ (ap (λ rest. data_copies unit old ++ rest) (none more others) ∙ append-nil (data_copies unit old))
  where
    none : (copies : List CopyRecord) → All (λ copy. copy.name.who ≢ unit) copies → data_copies unit copies ≡ []
    none [] all = refl
    none (copy ∷ copies) all =
        ap (λ t. cond (t && (not (begin_on unit 0 copy.to.items) && not (begin_on unit 0 copy.from.items))) (copy ∷ data_copies unit copies) (data_copies unit copies))
        (unit_other copy.name.who unit (All-head (λ (c : CopyRecord). c.name.who ≢ unit) copy copies all))
        ∙ none copies (All-tail (λ (c : CopyRecord). c.name.who ≢ unit) copy copies all)

-- Of the own window what its data's pages show counts, and of the copies how many are of tables and data.
pub runs_seen : (told : Told → Bool) (units : List Unit) (n : ℕ) (own : PortState) (copies copies' : List CopyRecord) (records : Records)
    → data_copies own.place.unit copies' ≡ data_copies own.place.unit copies → HasRuns told units n own copies records → HasRuns told units n own copies' records
unfolding pages_in
runs_seen told units n own copies copies' records same has =
    subst (λ (pages : Pages). IfSome (slice_get units n) (λ u. IsAccounted told true (cargo_at u.id u.service (sight (first_command u.pending.items) pages) records.history.items)))
    (λ i. record { bytes = (pages_in own copies).bytes; count = length (sym same i) }) has

-- Runs are asked for beside what is so of the data in hand.
pub cargo_of_runs : (told : Told → Bool) (units : List Unit) (n : ℕ) (own : PortState) (copies : List CopyRecord) (records : Records)
    → HasRuns told units n own copies records → HasCargo told units n own records
unfolding pages_in
cargo_of_runs told units n own copies records has =
    IfSome_then (slice_get units n) has (λ u is.
    unasked told u.id u.service (sight (first_command u.pending.items) (pages_in own copies)) (bytes_seen own) records.history.items refl
    (unasked_cargo told (cargo_at u.id u.service (sight (first_command u.pending.items) (pages_in own copies)) records.history.items) is))

-- No unit has anything to be copied, and there is no row.
pub runs_unused : (told : Told → Bool) (units : List Unit) (n : ℕ) (own : PortState) (copies : List CopyRecord) (records : Records) → AreIdle units → records.history.items ≡ []
    → HasRuns told units n own copies records
runs_unused told units n own copies records idle empty =
    IfSome_then (slice_get units n) (idle n) (λ u before.
    subst (IsAccounted told true)
    (sym (cargo_none u.id u.service (sight (first_command u.pending.items) (pages_in own copies)) records.history.items before
    ∙ ap (λ (h : List Served). cargo u.id (pages_in own copies) none (rows_of h)) empty))
    (start u.id (pages_in own copies)))
  where
    start : (id : UnitId) (shown : Pages) → IsAccounted told true (cargo id shown none [])
    start id shown = record {
      rows = λ place row there own. absurd (no_row place row there);
      outs = λ place row there own. absurd (no_row place row there);
      load = tt;
      runs = λ so. omega arith;
    }
      where
        no_row : (place : ℕ) (row : Served) → slice_get {X = Served} [] place ≡ Some row → ⊥
        no_row place row there = cc (there)

-- A turn of another unit leaves a unit's runs as they are.
pub runs_elsewhere : (told : Told → Bool) (units units' : List Unit) (n : ℕ) (own : PortState) (copies copies' : List CopyRecord) (records records' : Records) (other : UnitId)
    → slice_get units' n ≡ slice_get units n → data_copies own.place.unit copies' ≡ data_copies own.place.unit copies
    → ((u : Unit) → slice_get units n ≡ Some u → u.id ≢ other) → OnlyRowsOf other records.history.items records'.history.items
    → HasRuns told units n own copies records → HasRuns told units' n own copies' records'
runs_elsewhere told units units' n own copies copies' records records' other same counted apart only has =
    at (slice_get units n) refl (runs_seen told units n own copies copies' records counted has)
  where
    step : (u : Unit) → slice_get units n ≡ Some u → IsAccounted told true (cargo_at u.id u.service (sight (first_command u.pending.items) (pages_in own copies')) records.history.items)
        → IsAccounted told true (cargo_at u.id u.service (sight (first_command u.pending.items) (pages_in own copies')) records'.history.items)
    step u there hand =
        let seen : Sight = sight (first_command u.pending.items) (pages_in own copies') in
        let load : Load = load_at seen.command u.service.stage u.service.out.list.items u.service.inn.list.items u.service.given.items in
        subst (IsAccounted told true) (sym (cargo_is u.id u.service seen records'.history.items load refl))
        (runs_hand told u.id other (pages_in own copies') load records.history.items records'.history.items (apart u there) only
        (subst (IsAccounted told true) (cargo_is u.id u.service seen records.history.items load refl) hand))

    at : (found : Option Unit) → slice_get units n ≡ found
        → IfSome found (λ u. IsAccounted told true (cargo_at u.id u.service (sight (first_command u.pending.items) (pages_in own copies')) records.history.items))
        → HasRuns told units' n own copies' records'
    at (Some u) there hand =
        if_at (slice_get units' n) u (λ v. IsAccounted told true (cargo_at v.id v.service (sight (first_command v.pending.items) (pages_in own copies')) records'.history.items)) (same ∙ there) (step u there hand)
    at None there hand =
        subst (λ (o : Option Unit). IfSome o (λ u. IsAccounted told true (cargo_at u.id u.service (sight (first_command u.pending.items) (pages_in own copies')) records'.history.items))) (sym (same ∙ there)) tt

-- a row's answer is no matter of its run
run_answered : (Hears : Hearing) (row : Served) (first next : ℕ) → IsRun Hears (unanswered row) first next → IsRun Hears row first next
run_answered Hears row first next (inl is) = inl (record { next_is = is.next_is; out_is = is.out_is; inn_is = is.inn_is })
run_answered Hears row first next (inr is) = inr (record {
  inns = is.inns;
  wanted = is.wanted;
  run = record {
    command = is.run.command;
    spells = is.run.spells;
    outs = is.run.outs;
    out_named = is.run.out_named;
    in_named = is.run.in_named;
    out_parts = is.run.out_parts;
    brought = is.run.brought;
    out_all = is.run.out_all;
    out_is = is.run.out_is;
    in_parts = is.run.in_parts;
    sent_all = is.run.sent_all;
    few = is.run.few;
    in_is = is.run.in_is;
    next_is = is.run.next_is;
  };
})

runs_answered : (Hears : Hearing) (id : UnitId) (rows : List Served) (from to : ℕ) → HaveRuns Hears (own_rows id (rows_of rows)) from to → HaveRuns Hears (own_rows id rows) from to
runs_answered Hears id [] from to is = is
runs_answered Hears id (row ∷ rows) from to is = by (same_unit row.unit id) (λ next rest. runs_answered Hears id rows next to rest) is
  where
    by : (t : Bool) → ((next : ℕ) → HaveRuns Hears (own_rows id (rows_of rows)) next to → HaveRuns Hears (own_rows id rows) next to)
        → HaveRuns Hears (cond t (unanswered row ∷ own_rows id (rows_of rows)) (own_rows id (rows_of rows))) from to
        → HaveRuns Hears (cond t (row ∷ own_rows id rows) (own_rows id rows)) from to
    by true on has = record {
      first = has.first;
      after = has.after;
      next = has.next;
      run = run_answered Hears row has.first has.next has.run;
      behind = on has.next has.behind;
    }
    by false on has = on from has

-- Where nothing is to be delivered, the rows of the unit have their runs among all copies of its tables and data.
pub runs_at_rest : (told : Told → Bool) (units : List Unit) (n : ℕ) (own : PortState) (copies : List CopyRecord) (records : Records) (u : Unit) → slice_get units n ≡ Some u
    → is_loaded u.service.stage ≡ false → HasRuns told units n own copies records
    → HaveRuns (told_to told u.id) (own_rows u.id records.history.items) 0 (data_count own.place.unit copies)
unfolding pages_in
runs_at_rest told units n own copies records u there rest has =
    runs_answered (told_to told u.id) u.id records.history.items 0 (data_count own.place.unit copies)
    ((to_none u.id u.service (sight (first_command u.pending.items) (pages_in own copies)) (pages_in own copies) records.history.items (omega arith) rest told true
    (some_at (slice_get units n) u (λ u. IsAccounted told true (cargo_at u.id u.service (sight (first_command u.pending.items) (pages_in own copies)) records.history.items)) there has)).runs refl)
