-- A gathered trace shows the answers to requests to log in that each client's queue got, and that none of these was dropped.
use Rattle.std.proofs.Common.{◌≡◌, ◌∙◌, ℕ, Bool, true, false, All, List, [], Option, Some, None, IfSome, filter, length, option_map, slice_get, sym, ap, subst}
use Rattle.std.specs.List.{flat_map}
use Rattle.std.proofs.Math.Logic.{∥∥₁_map}
use Rattle.vio_num.specs.declared.entry.Entry.{Entry}
use Rattle.vio_num.specs.declared.history.Grant.{Grant}
use Rattle.vio_num.specs.declared.history.Served.{Served}
use Rattle.vio_num.specs.declared.names.UnitId.{UnitId}
use Rattle.crq_ring.specs.Pipe.{PipeValue, IsLawfulPipe}
use Rattle.crq_ring.specs.declared.rows.PipeRow.{PipeRow}
use Rattle.crq_session.specs.Answered.{received_now, taken_now}
use Rattle.crq_session.specs.PlainState.{end_of, side_of}
use Rattle.crq_session.specs.declared.link.PlainLink.{PlainLink}
use Rattle.rdma_copy.specs.declared.copy.CopyRecord.{CopyRecord}
use Rattle.block_server.specs.Causes.{Hearing, Includes, Told, told_to}
use Rattle.block_server.specs.Closings.{is_event}
use Rattle.block_server.specs.Dealt.{TookNoEvent}
use Rattle.block_server.specs.LoginAnswers.{is_login_answer, login_answers}
use Rattle.block_server.specs.Ready.{HasNothing}
use Rattle.block_server.specs.declared.records.Records.{Records}
use Rattle.block_server.specs.declared.unit.Unit.{Unit}
use Rattle.boot_text.specs.Sound.{IsClientOf, IsServer}
use Rattle.boot_text.specs.declared.plan.Partition.{Partition}
use Rattle.boot_text.specs.declared.plan.UnitPlan.TheVariants as units
use Rattle.lan_script.specs.Units.{LanValue}
use Rattle.lan_script.specs.declared.rows.LanRows.{LanRows}
use Rattle.vio_trace.specs.declared.rows.QueueRow.{QueueRow}
use Rattle.vio_trace.specs.declared.rows.Trace.{Trace}
use Rattle.vcpu_run.specs.declared.pair.Pair.{Pair}
use Rattle.vcpu_run.specs.declared.script.Script.{Script}
use Rattle.vcpu_run.specs.declared.unit_seat.Seat.TheVariants as sits
use Rattle.vcpu_run.specs.declared.unit_seat.UnitSeat.{UnitSeat}
use Rattle.vcpu_run.specs.Answered.{AreAnswered}
use Rattle.vcpu_run.specs.CopyRows.{same_unit}
use Rattle.vcpu_run.specs.Gathered.{HasLawfulQueue, HasLawfulWindow, queue_at, rows_if, sessions_at, trace_of}
use Rattle.vcpu_run.specs.Gone.{HearsEvent}
use Rattle.vcpu_run.specs.Heard.{UnitGoesBy}
use Rattle.vcpu_run.specs.Intake.{entries_taken, rows_taken}
use Rattle.vcpu_run.specs.Links.{EventWaits}
use Rattle.vcpu_run.specs.LoginsSent.{AreLoginsDealt, LoginsAreAnswered, LoginsAreSent, logins_to}
use Rattle.vcpu_run.specs.Machines.{AreScripts, IsOfPlan}
use Rattle.vcpu_run.specs.Pairs.{AreOfOneHome}
use Rattle.vcpu_run.specs.Received.{AreAtRest}
use Rattle.vcpu_run.specs.RowsCopied.{shown_to}
use Rattle.vcpu_run.specs.Sessions.{session_rows}
use Rattle.vcpu_run.specs.Shown.{sessions_of}
use Rattle.vcpu_run.specs.Units.{seats_of, unit_seat}
use Rattle.vcpu_run.proofs.Blocks.{sessions_count}
use Rattle.vcpu_run.proofs.Copied.{names_apart}
use Rattle.vcpu_run.proofs.Fetching.{all_taken}
use Rattle.vcpu_run.proofs.GivenAnswers.{keeps_none}
use Rattle.vcpu_run.proofs.Following.{each_from_all}
use Rattle.vcpu_run.proofs.Listed.{held}
use Rattle.vcpu_run.proofs.LoginsPut.{order_at_rest}
use Rattle.vcpu_run.proofs.Parts.{IsIn, each_in, found}
use Rattle.vcpu_run.proofs.Placing.{seats_ordered}
use Rattle.vcpu_run.proofs.QueueLaws.{sessions_told}
use Rattle.vcpu_run.proofs.Seated.{planned_in}
use Rattle.vcpu_run.proofs.SentTo.{sent_shown}
use Rattle.vcpu_run.proofs.Settling.{client_waits, emptied}
use Rattle.vcpu_run.proofs.Sole.{same_refl}
use Rattle.vcpu_run.proofs.ToldAll.{shown_all}

-- what is so of the answers to one unit's requests to log in
abbrev pub AreLoginsShown : List Partition → Trace → (server client : UnitId) → Type 0
AreLoginsShown partitions trace server client =
    AreLoginsDealt (shown_to partitions trace server client) server (length (sessions_of trace server)) (entries_taken trace server) (logins_to trace client) trace.grants

-- an event that was heard was taken, where all was taken and the client keeps none
heard_taken : (link : PlainLink) → received_now (end_of [] link true) ≡ taken_now (end_of [] link true) → (side_of link false).kept ≡ None → HearsEvent (end_of [] link true)
    → TookNoEvent (side_of link true).queue.session (side_of link true).queue.taken → ⊥
heard_taken link all kept hears none = hears.heard (record { kept = kept; none = ap (filter is_event) all ∙ none })

-- by what was told
logins_by : (told : Told → Bool) (partitions : List Partition) (trace : Trace) (server client : UnitId) (servers : List Unit) (records : Records) (copies : List CopyRecord) (u : Unit) (pair : Pair)
    → slice_get servers server.unit ≡ Some u → HasNothing u → pair.own.unit ≡ server → received_now (end_of [] pair.link true) ≡ taken_now (end_of [] pair.link true)
    → (side_of pair.link false).kept ≡ None → records.grants.items ≡ trace.grants
    → (side_of pair.link true).queue.taken ≡ entries_taken trace server → (side_of pair.link true).queue.session ≡ length (sessions_of trace server)
    → login_answers (side_of pair.link false).queue.sent ≡ logins_to trace client → Includes (told_to told server) (shown_to partitions trace server client)
    → UnitGoesBy told servers records copies server.unit pair → AreLoginsShown partitions trace server client
logins_by told partitions trace server client servers records copies u pair there none own all kept lines taken sessions sent shows is =
    subst (λ (z : UnitId × ℕ × List PipeRow × List Entry × List Grant). AreLoginsDealt Shown z.0 z.1 z.2 z.3 z.4) (λ i. (own i, sessions i, taken i, sent i, lines i))
    (order_at_rest told Shown servers server.unit u pair.own.unit (side_of pair.link true).queue.session (side_of pair.link true).queue.taken (login_answers (side_of pair.link false).queue.sent)
    records.grants.items (HearsEvent (end_of [] pair.link true)) (subst (λ (unit : UnitId). Includes (told_to told unit) Shown) (sym own) shows) there none (heard_taken pair.link all kept) is.logins)
  where
    Shown : Hearing
    Shown = shown_to partitions trace server client

pub logins_are_shown : (pairs : List Pair) (scripts : List Script) (lan : LanValue) (rows : LanRows) (history : List Served) (grants : List Grant) (copies : List CopyRecord) (partitions : List Partition)
    → AreOfOneHome copies pairs → AreScripts pairs lan.seats scripts → All (HasLawfulQueue pairs) (seats_of scripts) → All (HasLawfulWindow pairs lan) (seats_of scripts)
    → IsOfPlan partitions pairs scripts lan.seats → AreAnswered history pairs → AreAtRest copies grants history pairs scripts
    → (server client : UnitId) → IsServer partitions server → IsClientOf partitions client server → ∥ AreLoginsShown partitions (trace_of pairs scripts lan rows history grants copies) server client ∥₁
logins_are_shown pairs scripts lan rows history grants copies partitions home are lawful windows plan answered rests server client serves drives =
    let trace = trace_of pairs scripts lan rows history grants copies in
    let there = held (λ (pair : Pair). pair.server ≡ server) (slice_get pairs server.unit) (plan.pairs_are.servers server serves) in
    let pair : Pair = there.0 in
    let pipe : PipeValue = (side_of pair.link true).queue in
    let seats = seats_of scripts in
    let seat : UnitSeat = unit_seat server.partition server.unit sits.Server in
    let inside : IsIn seat seats = planned_in partitions pairs scripts lan.seats server (units.Server serves.0) are plan serves.1 in
    let queue : queue_at pairs seat ≡ Some pipe = ap (option_map (λ (pair : Pair). (side_of pair.link true).queue)) there.1 in
    let laws : IsLawfulPipe pipe =
    subst (λ slot. IfSome slot IsLawfulPipe) queue (each_in (HasLawfulQueue pairs) seat seats inside (each_from_all (HasLawfulQueue pairs) seats lawful)) in
    let sessions : sessions_of trace server ≡ session_rows server pipe =
    found (λ (row : QueueRow). same_unit row.unit server) (λ (other : UnitSeat). same_unit other.unit server) (sessions_at pairs) seat (same_refl server) seats inside
    (sessions_told pairs server seats) (names_apart server seats (seats_ordered pairs lan.seats scripts are))
    ∙ ap (rows_if (session_rows server)) queue in
    let own : pair.own.unit ≡ server = (home.pairs_are server.unit pair there.1).own_unit ∙ there.2 in
    let rest = emptied rests.units pairs scripts lan.seats partitions server pair are lawful plan rests.idle serves there.1 there.2 in
    let u = held HasNothing (slice_get rests.units server.unit) rest.1 in
    let event : EventWaits pair =
    subst (λ (o : Option Pair). IfSome o EventWaits) there.1 (client_waits rests.units pairs scripts lan.seats partitions client server plan rests.idle serves drives).1 in
    let received = rests.received server.unit pair there.1 in
    let shown = shown_all pairs scripts lan rows history grants copies partitions home are windows plan in
    let sent = sent_shown pairs scripts lan rows history grants copies partitions are lawful plan server client drives pair there.1 (answered server.unit pair there.1).begun in
    ∥∥₁_map (rests.heard.each shown.told shown.all server.unit pair there.1)
    (λ is.
    logins_by shown.told partitions trace server client rests.units rests.records copies u.0 pair u.1 u.2 own rest.0.taken (keeps_none pair laws.some_slots rest.0 event) rests.lines_are
    (sym (ap (flat_map rows_taken) sessions ∙ all_taken server pipe laws received.begun))
    (sym (ap length sessions ∙ sessions_count server pipe 1 pipe.session))
    (sym (ap (filter is_login_answer) sent)) (shown.only server client serves drives) is)

pub logins_are_sent : (partitions : List Partition) (trace : Trace)
    → ((server client : UnitId) → IsServer partitions server → IsClientOf partitions client server → ∥ AreLoginsShown partitions trace server client ∥₁) → LoginsAreSent partitions trace
logins_are_sent partitions trace shown server client serves drives = ∥∥₁_map (shown server client serves drives) (λ is. is.sent)

pub logins_are_answered : (partitions : List Partition) (trace : Trace)
    → ((server client : UnitId) → IsServer partitions server → IsClientOf partitions client server → ∥ AreLoginsShown partitions trace server client ∥₁) → LoginsAreAnswered partitions trace
logins_are_answered partitions trace shown = shown
