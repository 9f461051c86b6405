-- The law of the copies behind a run's rows and its logins, and of the denials behind its refusals: what was told is what the trace shows.
use Rattle.std.proofs.Common.{◌≡◌, ◌∙◌, ℕ, ◌<◌, Bool, true, false, All, List, [], Option, Some, IfSome, length, map, option_map, slice_get, slice_index_or, refl, sym, ap, subst}
use Rattle.std.specs.List.{flat_map}
use Rattle.std.proofs.Math.Logic.{∥∥₁_map, ∥∥₁_map₂}
use Rattle.std.proofs.lemmas.List.{length-map}
use Rattle.std.proofs.lemmas.List.Elements.{All-same}
use Rattle.std.proofs.lemmas.Option.{slice_get-get_or, slice_get_within}
use Rattle.vio_num.specs.declared.history.Grant.{Grant}
use Rattle.vio_num.specs.declared.history.Served.{Served}
use Rattle.vio_num.specs.declared.names.UnitId.{UnitId}
use Rattle.crq_ring.specs.Pipe.{PipeValue, IsLawfulPipe}
use Rattle.crq_ring.specs.declared.rows.PipeRow.{PipeRow}
use Rattle.crq_session.specs.PlainState.{end_of, side_of}
use Rattle.tce_window.specs.PlainPort.{known_of}
use Rattle.rdma_copy.specs.declared.copy.CopyRecord.{CopyRecord}
use Rattle.block_server.proofs.CargoLaws.{delivered_at_rest, fetched_of_rows}
use Rattle.block_server.specs.Books.{books_seen}
use Rattle.block_server.proofs.RunRests.{cargo_of_runs, runs_at_rest}
use Rattle.block_server.specs.Cargo.{HasCargo, is_loaded}
use Rattle.block_server.specs.Causes.{Hearing, Includes, Told, told_to}
use Rattle.block_server.specs.Judged.{AreKept, IsAtStage, Judged}
use Rattle.block_server.specs.Moves.{data_copies, data_count}
use Rattle.block_server.specs.Ready.{HasNothing}
use Rattle.block_server.specs.Refusals.{AreExplained, IsExplained, basis_seen}
use Rattle.block_server.specs.Runs.{HaveRuns, own_rows}
use Rattle.block_server.specs.Written.{IsAnswerWritten}
use Rattle.block_server.specs.declared.records.Records.{Records}
use Rattle.block_server.specs.declared.request.Request.{Request}
use Rattle.block_server.specs.declared.service.Stage.{Stage}
use Rattle.block_server.specs.declared.service.Stage.TheVariants as stages
use Rattle.block_server.specs.declared.unit.Unit.{Unit}
use Rattle.boot_text.specs.Sound.{IsClientOf, IsServer}
use Rattle.boot_text.specs.declared.plan.Partition.{Partition}
use Rattle.boot_text.specs.declared.plan.UnitPlan.TheVariants as units
use Rattle.lan_script.specs.Units.{LanValue}
use Rattle.lan_script.specs.declared.rows.LanRows.{LanRows}
use Rattle.vio_trace.specs.declared.rows.QueueRow.{QueueRow}
use Rattle.vio_trace.specs.declared.rows.Trace.{Trace}
use Rattle.vcpu_run.specs.declared.pair.Pair.{Pair}
use Rattle.vcpu_run.specs.declared.script.Script.{Script}
use Rattle.vcpu_run.specs.declared.unit_seat.Seat.TheVariants as sits
use Rattle.vcpu_run.specs.declared.unit_seat.UnitSeat.{UnitSeat}
use Rattle.vcpu_run.specs.CopyRows.{copy_row, same_unit}
use Rattle.vcpu_run.specs.Gathered.{HasLawfulQueue, HasLawfulWindow, queue_at, rows_if, sessions_at, trace_of}
use Rattle.vcpu_run.specs.Heard.{AllGoBy, UnitGoesBy}
use Rattle.vcpu_run.specs.Intake.{entries_taken, rows_taken}
use Rattle.vcpu_run.specs.Machines.{AreScripts, IsOfPlan, server_id}
use Rattle.vcpu_run.specs.Pairs.{AreOfOneHome}
use Rattle.vcpu_run.specs.Received.{AreAtRest}
use Rattle.vcpu_run.specs.RowsCopied.{AreCopied, IsCopied, LinesAreExplained, RowsAreCopied, data_shown, shown_to}
use Rattle.vcpu_run.specs.Sessions.{session_rows}
use Rattle.vcpu_run.specs.Shown.{sessions_of}
use Rattle.vcpu_run.specs.Units.{seats_of, unit_seat}
use Rattle.vcpu_run.proofs.Copied.{names_apart}
use Rattle.vcpu_run.proofs.DataRows.{data_are}
use Rattle.vcpu_run.proofs.Fetching.{all_taken}
use Rattle.vcpu_run.proofs.Following.{each_from_all}
use Rattle.vcpu_run.proofs.Listed.{held, some_is}
use Rattle.vcpu_run.proofs.Parts.{IsIn, each_in, found}
use Rattle.vcpu_run.proofs.Placing.{seats_ordered}
use Rattle.vcpu_run.proofs.QueueLaws.{sessions_told}
use Rattle.vcpu_run.proofs.RunsMore.{runs_heard}
use Rattle.vcpu_run.proofs.RowCopies.{copied_more, all_explained_more, written_each}
use Rattle.vcpu_run.proofs.Seated.{planned_in}
use Rattle.vcpu_run.proofs.Settling.{emptied}
use Rattle.vcpu_run.proofs.Sole.{same_refl}
use Rattle.vcpu_run.proofs.ToldAll.{shown_all}

-- AT REST ----------------------------------------------------------------------------------------

-- where nothing is pending nothing is to be copied
not_loaded : (current : ℕ) (pending : List Request) (stage : Stage) → pending ≡ [] → IsAtStage current pending stage → is_loaded stage ≡ false
not_loaded current pending stages.Start none is = refl
not_loaded current pending stages.OutTable none is = refl
not_loaded current pending stages.InTable none is = refl
not_loaded current pending (stages.DataOut cursor) none is = refl
not_loaded current pending (stages.Given row reply) none is = absurd (cc (none, is.parts))
not_loaded current pending (stages.DataIn row reply cursor) none is = absurd (cc (none, is.parts))
not_loaded current pending (stages.Answer outcome) none is = refl
not_loaded current pending (stages.Entry outcome) none is = refl

-- each row of the unit, by its place
each_copied : (size : ℕ) (told : Told → Bool) (More : Hearing) (server : UnitId) (rows : List Served) → Includes (told_to told server) More → All (IsAnswerWritten size told) rows
    → ((place : ℕ) (row : Served) → slice_get rows place ≡ Some row → row.unit ≡ server → IsCopied More row) → All (λ row. row.unit ≡ server → IsCopied More row) rows
each_copied size told More server rows more written each k d less own = each k (slice_index_or rows k d) (slice_get-get_or rows k d less) own

-- the lines of the unit
explained_of : (told : Told → Bool) (unit : UnitId) (taken : List PipeRow) (u : Unit) (grants : List Grant) (pair : Pair) → (side_of pair.link true).queue.taken ≡ taken
    → AreExplained told unit [] (basis_seen u (end_of [] pair.link true) grants) → All (IsExplained (told_to told unit) unit taken) grants
explained_of told unit taken u grants pair same is =
    subst (λ (rows : List PipeRow). All (IsExplained (told_to told unit) unit rows) grants) same
    (All-same (IsExplained (told_to told unit) unit (side_of pair.link true).queue.taken) grants is.more is.lines is.each)

-- what is so of the rows and the lines of one unit
pub record AreShown (partitions : List Partition) (trace : Trace) (server client : UnitId) : Type 0 where
  pub copied : AreCopied (shown_to partitions trace server client) trace server
  pub explained : All (IsExplained (shown_to partitions trace server client) server (entries_taken trace server)) trace.grants

-- by what was told
shown_by : (told : Told → Bool) (partitions : List Partition) (trace : Trace) (server client : UnitId) (size partition : ℕ) (servers : List Unit) (records : Records) (copies : List CopyRecord) (u : Unit) (pair : Pair) (judged : List Judged)
    → slice_get servers server.unit ≡ Some u → u.pending.items ≡ [] → server ≡ server_id partition server.unit → pair.own.unit ≡ server
    → AreKept (books_seen u pair.own.unit (end_of [] pair.link true) trace.serves trace.grants) judged → records.history.items ≡ trace.serves → records.grants.items ≡ trace.grants
    → (side_of pair.link true).queue.taken ≡ entries_taken trace server → Includes (told_to told server) (shown_to partitions trace server client)
    → data_shown trace server ≡ map copy_row (data_copies server copies)
    → AllGoBy told size partition servers records → UnitGoesBy told servers records copies server.unit pair → AreShown partitions trace server client
shown_by told partitions trace server client size partition servers records copies u pair judged there none name own kept rows lines taken shows numbered all is = record {
  copied = record {
    each = subst (λ (history : List Served). All (λ row. row.unit ≡ server → IsCopied (shown_to partitions trace server client) row) history) rows
        (each_copied size told (shown_to partitions trace server client) server records.history.items shows written
        (λ place row found mine. copied_more size told (shown_to partitions trace server client) server row shows mine (at_place written place row found)
        (fetched_of_rows told servers server.unit (known_of pair.own) records u there cargo place row found (mine ∙ id))
        (delivered_at_rest told servers server.unit (known_of pair.own) records u there idle cargo place row found (mine ∙ id))));
    runs = runs_heard (told_to told server) (shown_to partitions trace server client) shows (own_rows server trace.serves) 0 (length (data_shown trace server))
        (subst (λ (z : UnitId × List Served × ℕ). HaveRuns (told_to told z.0) (own_rows z.0 z.1) 0 z.2) (λ i. (sym id i, rows i, sym counted i))
        (runs_at_rest told servers server.unit (known_of pair.own) copies records u there idle is.cargo));
  };
  explained = all_explained_more (told_to told server) (shown_to partitions trace server client) shows server (entries_taken trace server) trace.grants
      (subst (λ (grants : List Grant). All (IsExplained (told_to told server) server (entries_taken trace server)) grants) lines
      (explained_of told server (entries_taken trace server) u records.grants.items pair taken
      (subst (λ (o : Option Unit). IfSome o (λ unit. AreExplained told server [] (basis_seen unit (end_of [] pair.link true) records.grants.items))) there
      (subst (λ (unit : UnitId). IfSome (slice_get servers server.unit) (λ u. AreExplained told unit [] (basis_seen u (end_of [] pair.link true) records.grants.items))) own is.explained))));
}
  where
    id : server ≡ u.id
    id = name ∙ sym (all.order server.unit u there).id

    cargo : HasCargo told servers server.unit (known_of pair.own) records
    cargo = cargo_of_runs told servers server.unit (known_of pair.own) copies records is.cargo

    counted : length (data_shown trace server) ≡ data_count pair.own.unit copies
    counted = ap length numbered ∙ length-map (data_copies server copies) copy_row ∙ ap (λ (unit : UnitId). data_count unit copies) (sym own)

    idle : is_loaded u.service.stage ≡ false
    idle = not_loaded u.logins.current u.pending.items u.service.stage none kept.stage

    written : All (IsAnswerWritten size told) records.history.items
    written = written_each size told records.history.items all.written

    at_place : All (IsAnswerWritten size told) records.history.items → (place : ℕ) (row : Served) → slice_get records.history.items place ≡ Some row → IsAnswerWritten size told row
    at_place each place row found =
        subst (IsAnswerWritten size told) (some_is (slice_index_or records.history.items place row) row (sym (slice_get-get_or records.history.items place row within) ∙ found)) (each place row within)
      where
        within : place < length records.history.items
        within = slice_get_within records.history.items place row found

pub rows_are_shown : (pairs : List Pair) (scripts : List Script) (lan : LanValue) (rows : LanRows) (history : List Served) (grants : List Grant) (copies : List CopyRecord) (partitions : List Partition)
    → AreOfOneHome copies pairs → AreScripts pairs lan.seats scripts → All (HasLawfulQueue pairs) (seats_of scripts) → All (HasLawfulWindow pairs lan) (seats_of scripts)
    → IsOfPlan partitions pairs scripts lan.seats → AreAtRest copies grants history pairs scripts
    → (server client : UnitId) → IsServer partitions server → IsClientOf partitions client server → ∥ AreShown partitions (trace_of pairs scripts lan rows history grants copies) server client ∥₁
rows_are_shown pairs scripts lan rows history grants copies partitions home are lawful windows plan rests server client serves drives =
    let trace = trace_of pairs scripts lan rows history grants copies in
    let there = held (λ (pair : Pair). pair.server ≡ server) (slice_get pairs server.unit) (plan.pairs_are.servers server serves) in
    let pair : Pair = there.0 in
    let pipe : PipeValue = (side_of pair.link true).queue in
    let seats = seats_of scripts in
    let seat : UnitSeat = unit_seat server.partition server.unit sits.Server in
    let inside : IsIn seat seats = planned_in partitions pairs scripts lan.seats server (units.Server serves.0) are plan serves.1 in
    let queue : queue_at pairs seat ≡ Some pipe = ap (option_map (λ (pair : Pair). (side_of pair.link true).queue)) there.1 in
    let laws : IsLawfulPipe pipe =
    subst (λ slot. IfSome slot IsLawfulPipe) queue (each_in (HasLawfulQueue pairs) seat seats inside (each_from_all (HasLawfulQueue pairs) seats lawful)) in
    let sessions : sessions_of trace server ≡ session_rows server pipe =
    found (λ (row : QueueRow). same_unit row.unit server) (λ (other : UnitSeat). same_unit other.unit server) (sessions_at pairs) seat (same_refl server) seats inside
    (sessions_told pairs server seats) (names_apart server seats (seats_ordered pairs lan.seats scripts are))
    ∙ ap (rows_if (session_rows server)) queue in
    let own : pair.own.unit ≡ server = (home.pairs_are server.unit pair there.1).own_unit ∙ there.2 in
    let none = (emptied rests.units pairs scripts lan.seats partitions server pair are lawful plan rests.idle serves there.1 there.2).1 in
    let u = held HasNothing (slice_get rests.units server.unit) none in
    let received = rests.received server.unit pair there.1 in
    let shown = shown_all pairs scripts lan rows history grants copies partitions home are windows plan in
    ∥∥₁_map₂ received.judged (rests.heard.each shown.told shown.all server.unit pair there.1)
    (λ has is.
    let kept : AreKept (books_seen u.0 pair.own.unit (end_of [] pair.link true) history grants) has.0 =
    subst (λ (o : Option Unit). IfSome o (λ unit. AreKept (books_seen unit pair.own.unit (end_of [] pair.link true) history grants) has.0)) u.1 has.1.kept in
    shown_by shown.told partitions trace server client rests.size rests.partition rests.units rests.records copies u.0 pair has.0 u.1 u.2.pending (sym own ∙ rests.names server.unit pair there.1) own
    kept rests.rows_are rests.lines_are (sym (ap (flat_map rows_taken) sessions ∙ all_taken server pipe laws received.begun)) (shown.only server client serves drives)
    (data_are partitions copies pairs server server.unit pair plan.pairs_are there.1 there.2) (rests.heard.all shown.told shown.all) is)

pub rows_are_copied : (partitions : List Partition) (trace : Trace)
    → ((server client : UnitId) → IsServer partitions server → IsClientOf partitions client server → ∥ AreShown partitions trace server client ∥₁) → RowsAreCopied partitions trace
rows_are_copied partitions trace shown server client serves drives = ∥∥₁_map (shown server client serves drives) (λ is. is.copied)

pub lines_are_explained : (partitions : List Partition) (trace : Trace)
    → ((server client : UnitId) → IsServer partitions server → IsClientOf partitions client server → ∥ AreShown partitions trace server client ∥₁) → LinesAreExplained partitions trace
lines_are_explained partitions trace shown server client serves drives = ∥∥₁_map (shown server client serves drives) (λ is. is.explained)
