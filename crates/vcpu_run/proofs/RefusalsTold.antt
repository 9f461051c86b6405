-- The refusals of which a gathered trace tells have their causes.
use Rattle.std.proofs.Common.{◌≡◌, ◌∙◌, ℕ, ◌+◌, ◌≤◌, ◌==◌, true, false, List, MatchOption, Option, Some, None, IsSomeAnd, filter, length, slice_get, sym, ap, subst, arith, All, Contains, IfSome, map, option_map}
use Rattle.std.specs.List.{flat_map}
use Rattle.std.proofs.lemmas.Bool.Decides.{nat_tests}
use Rattle.vio_num.specs.declared.history.Grant.{Grant}
use Rattle.vio_num.specs.declared.history.Served.{Served}
use Rattle.vio_num.specs.declared.names.UnitId.{UnitId}
use Rattle.rdma_copy.specs.declared.copy.CopyRecord.{CopyRecord}
use Rattle.lan_script.specs.Units.{LanValue}
use Rattle.lan_script.specs.declared.rows.LanRows.{LanRows}
use Rattle.boot_text.specs.declared.plan.Line.{Line}
use Rattle.boot_text.specs.Sound.{IsClientOf, IsServer, unit_at}
use Rattle.boot_text.specs.declared.plan.Partition.{Partition}
use Rattle.boot_text.specs.declared.plan.UnitPlan.TheVariants as units
use Rattle.vio_trace.specs.declared.rows.LogRow.{LogRow}
use Rattle.vcpu_run.specs.declared.driver.Driver.{Driver}
use Rattle.vcpu_run.specs.declared.pair.Pair.{Pair}
use Rattle.vcpu_run.specs.declared.script.Script.{Script}
use Rattle.vcpu_run.specs.AnswersTaken.{AreAnswersTaken, answers_to}
use Rattle.vcpu_run.specs.DataTold.{AreDataTold}
use Rattle.vcpu_run.specs.Credited.{ended_by}
use Rattle.vcpu_run.specs.Gathered.{HasLawfulQueue, HasLawfulWindow, logs_of, queue_at, rows_if, sessions_at, trace_of, window_at}
use Rattle.vcpu_run.specs.Machines.{AreScripts, HasNoClient, IsOfPlan, IsPlanned, IsPlannedClient}
use Rattle.vcpu_run.specs.Ports.{unit_of}
use Rattle.vcpu_run.specs.PortWords.{HasNoCall}
use Rattle.vcpu_run.specs.ValuesPut.{AreValuesTold}
use Rattle.vcpu_run.specs.Refusals.{HasCausesTold, RefusalsAreTold, seen_in}
use Rattle.vcpu_run.specs.Scripts.{are_servers}
use Rattle.vcpu_run.specs.ScriptTold.{AreTold, IsScriptTold}
use Rattle.vcpu_run.specs.Settled.{script_of}
use Rattle.vcpu_run.specs.Shown.{pages_at, pages_if, sessions_of, stroke_value, strokes_on, window_shown, values_shown}
use Rattle.vcpu_run.proofs.DropsKept.{drop_shown, lines_full_more}
use Rattle.vcpu_run.proofs.AnswersFound.{IsClientGiven, client_takes}
use Rattle.vcpu_run.proofs.Driving.{some_is}
use Rattle.vcpu_run.proofs.Listed.{held}
use Rattle.vcpu_run.proofs.Parts.{IsIn, each_in, found, in_slice}
use Rattle.vcpu_run.proofs.Placing.{partitions_are, seats_ordered}
use Rattle.vcpu_run.proofs.RecordLaws.{lines_in, partitions_apart, rows_told}
use Rattle.vcpu_run.proofs.Settling.{no_servers, script_at}
use Rattle.crq_ring.specs.Pipe.{IsLawfulPipe, PipeValue}
use Rattle.crq_session.specs.PlainState.{side_of}
use Rattle.tce_window.specs.PlainPort.{known_of}
use Rattle.tce_window.specs.Window.{WindowValue, strokes_at}
use Rattle.rdma_copy.specs.Copies.{side_of as side_at}
use Rattle.rdma_copy.specs.Copy.{SideGrows}
use Rattle.vio_trace.specs.declared.rows.QueueRow.{QueueRow}
use Rattle.vcpu_run.specs.declared.unit_seat.Seat.TheVariants as sits
use Rattle.vcpu_run.specs.declared.unit_seat.UnitSeat.{UnitSeat}
use Rattle.vcpu_run.specs.CopyRows.{same_unit}
use Rattle.block_server.specs.Ready.{HasNothing}
use Rattle.block_server.specs.Receipts.{EndedFor}
use Rattle.vcpu_run.specs.Received.{AreAtRest}
use Rattle.vcpu_run.specs.ShutShown.{AreShutTold, HadEnd}
use Rattle.vcpu_run.proofs.Settling.{client_waits, emptied}
use Rattle.vcpu_run.proofs.FailedAtRest.{fails_at_rest}
use Rattle.vcpu_run.proofs.GivenAnswers.{keeps_none}
use Rattle.vcpu_run.proofs.ShutAtRest.{shut_at_rest}
use Rattle.vcpu_run.proofs.ShutKept.{lines_shut_more}
use Rattle.vcpu_run.specs.DropsShown.{AreDropsTold, IsFullAt, drops_to}
use Rattle.vcpu_run.specs.LinesShow.{LinesShow, Sees, seen_at}
use Rattle.vcpu_run.specs.Pairs.{AreOfOneHome, IsDriver}
use Rattle.vcpu_run.specs.AnswersSent.{sent_to}
use Rattle.vcpu_run.specs.SentOrder.{AreSentIn, entries_put}
use Rattle.vcpu_run.specs.Sessions.{session_rows}
use Rattle.vio_trace.specs.declared.rows.Trace.{Trace}
use Rattle.vio_num.specs.declared.entry.Entry.{Entry}
use Rattle.vcpu_run.specs.EventsHeard.{events_among}
use Rattle.vcpu_run.specs.FailedShut.{AreFailedTold}
use Rattle.vcpu_run.specs.Links.{EventWaits}
use Rattle.vcpu_run.specs.FewEvents.{EventsAreFew, resets_told, times_failing}
use Rattle.vcpu_run.specs.Lines.{IsOver}
use Rattle.vcpu_run.proofs.FewEvents.{few_put}
use Rattle.vcpu_run.proofs.OrderSent.{order_seen}
use Rattle.vcpu_run.proofs.SentTo.{begun_sent}
use Rattle.vcpu_run.specs.Units.{seats_of, unit_seat}
use Rattle.vcpu_run.proofs.Copied.{names_apart, values_are, windows_shown}
use Rattle.vcpu_run.proofs.Following.{each_from_all}
use Rattle.vcpu_run.proofs.LinesShown.{begins_has, front_shown, lines_more, put_shown, stroke_shown}
use Rattle.vcpu_run.proofs.QueueLaws.{sessions_told}
use Rattle.vcpu_run.proofs.Seated.{planned_in}
use Rattle.vcpu_run.proofs.Sole.{same_refl}

-- the window at which a client's driver sits has the pages of the plan
pub client_pages : (partitions : List Partition) (k : ℕ) (id : UnitId) (pair : Pair) → IsPlanned partitions k pair → IsSomeAnd pair.driver (λ driver. driver.unit ≡ id)
    → pages_at partitions id ≡ length pair.window.pages
client_pages partitions k id pair is has = at pair.driver is.client has
  where
    at : (slot : Option Driver) → MatchOption slot (HasNoClient partitions pair.server) (IsPlannedClient partitions pair) → IsSomeAnd slot (λ driver. driver.unit ≡ id)
        → pages_at partitions id ≡ length pair.window.pages
    at None plan h = absurd h
    at (Some driver) plan h = ap (λ (unit : UnitId). pages_if (unit_at partitions unit)) (sym h) ∙ (ap pages_if plan.planned ∙ sym plan.region)

-- the records of a script's partition are its own
pub own_records : (pairs : List Pair) (scripts : List Script) (lan : LanValue) (p : ℕ) (script : Script) → AreScripts pairs lan.seats scripts → slice_get scripts p ≡ Some script
    → filter (λ (row : LogRow). row.partition == p) (flat_map logs_of scripts) ≡ script.logs.items
own_records pairs scripts lan p script are e =
    let here : script.partition ≡ p = (are p script e).number in
    let hit : (script.partition == p) ≡ true = grind (arith, nat_tests, here) in
    found (λ (row : LogRow). row.partition == p) (λ (script : Script). script.partition == p) logs_of script hit scripts (in_slice scripts p script e)
    (rows_told pairs lan.seats scripts p are) (partitions_apart p 0 scripts (partitions_are pairs lan.seats scripts are))

-- a client's window is that of its driver's unit
pub window_is : (window : WindowValue) (slot : Option Driver) (id : UnitId) → IfSome slot (IsDriver window) → IsSomeAnd slot (λ driver. driver.unit ≡ id) → window.unit ≡ id
window_is window None id is has = absurd has
window_is window (Some driver) id is has = is.unit ∙ has

-- the sessions of a server unit's queue, as the trace shows them
record ShowsSessions (trace : Trace) (server : UnitId) (pipe : PipeValue) : Type 0 where
  pub laws : IsLawfulPipe pipe
  pub sessions : sessions_of trace server ≡ session_rows server pipe

server_sessions : (partitions : List Partition) (pairs : List Pair) (scripts : List Script) (lan : LanValue) (rows : LanRows) (history : List Served) (grants : List Grant) (copies : List CopyRecord)
    (client server : UnitId) (pair : Pair) → AreScripts pairs lan.seats scripts → All (HasLawfulQueue pairs) (seats_of scripts) → IsOfPlan partitions pairs scripts lan.seats
    → IsClientOf partitions client server → slice_get pairs server.unit ≡ Some pair
    → ShowsSessions (trace_of pairs scripts lan rows history grants copies) server (side_of pair.link true).queue
server_sessions partitions pairs scripts lan rows history grants copies client server pair are lawful plan is there =
    let pipe : PipeValue = (side_of pair.link true).queue in
    let seats = seats_of scripts in
    let serves : IsServer partitions server = plan.sound.served client server is in
    let seat : UnitSeat = unit_seat server.partition server.unit sits.Server in
    let inside : IsIn seat seats = planned_in partitions pairs scripts lan.seats server (units.Server serves.0) are plan serves.1 in
    let queue : queue_at pairs seat ≡ Some pipe = ap (option_map (λ (pair : Pair). (side_of pair.link true).queue)) there in
    record {
      laws = subst (λ slot. IfSome slot IsLawfulPipe) queue (each_in (HasLawfulQueue pairs) seat seats inside (each_from_all (HasLawfulQueue pairs) seats lawful));
      sessions = found (λ (row : QueueRow). same_unit row.unit server) (λ (other : UnitSeat). same_unit other.unit server) (sessions_at pairs) seat (same_refl server) seats inside
          (sessions_told pairs server seats) (names_apart server seats (seats_ordered pairs lan.seats scripts are))
          ∙ ap (rows_if (session_rows server)) queue;
    }

-- what was put into it in sessions
entries_shown : (partitions : List Partition) (pairs : List Pair) (scripts : List Script) (lan : LanValue) (rows : LanRows) (history : List Served) (grants : List Grant) (copies : List CopyRecord)
    (client server : UnitId) (pair : Pair) → AreScripts pairs lan.seats scripts → All (HasLawfulQueue pairs) (seats_of scripts) → IsOfPlan partitions pairs scripts lan.seats
    → IsClientOf partitions client server → slice_get pairs server.unit ≡ Some pair
    → sent_to (trace_of pairs scripts lan rows history grants copies) server ≡ entries_put pair
entries_shown partitions pairs scripts lan rows history grants copies client server pair are lawful plan is there =
    let shows = server_sessions partitions pairs scripts lan rows history grants copies client server pair are lawful plan is there in
    ap (flat_map (λ (row : QueueRow). row.sent)) shows.sessions ∙ begun_sent server (side_of pair.link true).queue shows.laws

-- what there is at a client's pair is shown by the trace
pub trace_sees : (partitions : List Partition) (pairs : List Pair) (scripts : List Script) (lan : LanValue) (rows : LanRows) (history : List Served) (grants : List Grant) (copies : List CopyRecord)
    (client server : UnitId) (pair : Pair) → AreOfOneHome copies pairs → AreScripts pairs lan.seats scripts → All (HasLawfulQueue pairs) (seats_of scripts)
    → All (HasLawfulWindow pairs lan) (seats_of scripts) → IsOfPlan partitions pairs scripts lan.seats → IsClientOf partitions client server → slice_get pairs server.unit ≡ Some pair
    → Sees (seen_at pair) (seen_in (trace_of pairs scripts lan rows history grants copies) client server)
trace_sees partitions pairs scripts lan rows history grants copies client server pair home are lawful windows plan is there =
    let trace = trace_of pairs scripts lan rows history grants copies in
    let pipe : PipeValue = (side_of pair.link true).queue in
    let seats = seats_of scripts in
    let shows = server_sessions partitions pairs scripts lan rows history grants copies client server pair are lawful plan is there in
    let own : UnitSeat = unit_seat client.partition client.unit (sits.Client server.unit) in
    let own_inside : IsIn own seats = planned_in partitions pairs scripts lan.seats client (units.Client server is.0 is.1) are plan is.2 in
    let window : window_at pairs lan own ≡ Some pair.window = ap (option_map (λ (pair : Pair). pair.window)) there in
    let grows : SideGrows (side_at (known_of pair.window)) (window_shown partitions trace client) =
    windows_shown pairs scripts lan rows history grants copies partitions home are windows plan own pair.window own_inside window in
    record {
      strokes = λ page stroke on.
          stroke_shown (pages_at partitions client) page stroke (strokes_at pair.window.pages page) (map stroke_value (strokes_on trace client page)) (grows.strokes page) on;
      fronts = λ page front is.
          front_shown (pages_at partitions client) page front (strokes_at pair.window.pages page) (map stroke_value (strokes_on trace client page)) (grows.strokes page) is;
      values = λ entry value is. begins_has ((known_of pair.window).values entry) (values_shown trace client entry) value (grows.values entry) is;
      entries = λ entry put. subst (λ (sessions : List QueueRow). Contains (flat_map (λ row. row.sent) sessions) entry) (sym shows.sessions) (put_shown server pipe entry shows.laws.sent put);
    }

pub refusals_are : (pairs : List Pair) (scripts : List Script) (lan : LanValue) (lan_rows : LanRows) (history : List Served) (grants : List Grant) (copies : List CopyRecord) (partitions : List Partition)
    → AreOfOneHome copies pairs → AreScripts pairs lan.seats scripts → All (HasLawfulQueue pairs) (seats_of scripts) → All (HasLawfulWindow pairs lan) (seats_of scripts)
    → IsOfPlan partitions pairs scripts lan.seats → All IsOver scripts → AreTold pairs scripts → AreAtRest copies grants history pairs scripts
    → RefusalsAreTold partitions (trace_of pairs scripts lan lan_rows history grants copies)
refusals_are pairs scripts lan lan_rows history grants copies partitions home are lawful windows of_plan over told rests client server is none =
    let p = client.partition in
    let at = script_at partitions pairs scripts lan.seats client (units.Client server is.0 is.1) of_plan is.2 in
    let script = at.0 in
    let own = are p script at.1 in
    let lines : script_of partitions p ≡ script.lines.now = lines_in (slice_get partitions p) script (of_plan.scripts_are.each p script at.1) in
    let other : are_servers script.seats.items ≡ false =
    no_servers partitions pairs scripts lan.seats server p script of_plan (of_plan.sound.served client server is) at.1 (of_plan.sound.earlier client server is) in
    let has : Pair → Type 0 = λ pair. IsSomeAnd pair.driver (λ driver. driver.unit ≡ unit_of script.partition client.unit) in
    let pair = held has (slice_get pairs server.unit) (own.script_is.seats client.unit server.unit at.2) in
    let size : pages_at partitions (unit_of script.partition client.unit) ≡ length pair.0.window.pages =
    client_pages partitions server.unit (unit_of script.partition client.unit) pair.0 (of_plan.pairs_are.each server.unit pair.0 pair.1) pair.2 in
    let pages : pages_at partitions client ≡ length pair.0.window.pages = ap (λ n. pages_at partitions (unit_of n client.unit)) (sym own.number) ∙ size in
    let trace = trace_of pairs scripts lan lan_rows history grants copies in
    let script_is : IsScriptTold pairs script = told p script at.1 (record { others = other; no_call = subst HasNoCall lines none }) in
    let law : HasCausesTold (length pair.0.window.pages) (ended_by client.unit script.lines.now script.logs.items) = script_is.law client.unit server.unit pair.0 at.2 pair.1 in
    let who : pair.0.window.unit ≡ client = window_is pair.0.window pair.0.driver (unit_of script.partition client.unit) (home.pairs_are server.unit pair.0 pair.1).driver pair.2 ∙ ap (λ n. unit_of n client.unit) own.number in
    let sees : Sees (seen_at pair.0) (seen_in trace client server) =
    trace_sees partitions pairs scripts lan lan_rows history grants copies client server pair.0 home are lawful windows of_plan is pair.1 in
    let show : LinesShow (seen_in trace client server) client client.unit script.lines.now script.logs.items =
    subst (λ (unit : UnitId). LinesShow (seen_in trace client server) unit client.unit script.lines.now script.logs.items) who
    (lines_more (seen_at pair.0) (seen_in trace client server) pair.0.window.unit client.unit script.lines.now script.logs.items sees
    (script_is.shown client.unit server.unit pair.0 at.2 pair.1).show) in
    let order : AreSentIn (seen_in trace client server) client client.unit script.lines.now script.logs.items (sent_to trace server) =
    subst (λ (unit : UnitId). AreSentIn (seen_in trace client server) unit client.unit script.lines.now script.logs.items (sent_to trace server)) who
    (subst (AreSentIn (seen_in trace client server) pair.0.window.unit client.unit script.lines.now script.logs.items)
    (sym (entries_shown partitions pairs scripts lan lan_rows history grants copies client server pair.0 are lawful of_plan is pair.1))
    (order_seen (seen_at pair.0) (seen_in trace client server) pair.0.window.unit client.unit script.lines.now script.logs.items (entries_put pair.0) sees
    (script_is.shown client.unit server.unit pair.0 at.2 pair.1).order)) in
    let pipe = server_sessions partitions pairs scripts lan lan_rows history grants copies client server pair.0 are lawful of_plan is pair.1 in
    let drops : AreDropsTold trace client server script.lines.now script.logs.items =
    lines_full_more (IsFullAt pair.0) (λ number held. Contains (drops_to trace server) (record { number = number; held = held })) client.unit script.lines.now script.logs.items
    (λ number held full. subst (λ (rows : List QueueRow). Contains (flat_map (λ (row : QueueRow). row.drops) rows) (record { number = number; held = held })) (sym pipe.sessions)
    (drop_shown server pair.0 number held pipe.laws full))
    (script_is.shown client.unit server.unit pair.0 at.2 pair.1).drops in
    let few : EventsAreFew trace server script.lines.now (ended_by client.unit script.lines.now script.logs.items) =
    subst (λ (entries : List Entry). events_among entries ≤ resets_told (ended_by client.unit script.lines.now script.logs.items) + times_failing script.lines.now)
    (sym (entries_shown partitions pairs scripts lan lan_rows history grants copies client server pair.0 are lawful of_plan is pair.1))
    (few_put script client.unit pair.0 (each_in IsOver script scripts (in_slice scripts p script at.1) (each_from_all IsOver scripts over)) (script_is.few client.unit server.unit pair.0 at.2 pair.1)) in
    let own_seat : UnitSeat = unit_seat client.partition client.unit (sits.Client server.unit) in
    let own_inside : IsIn own_seat (seats_of scripts) = planned_in partitions pairs scripts lan.seats client (units.Client server is.0 is.1) are of_plan is.2 in
    let window : window_at pairs lan own_seat ≡ Some pair.0.window = ap (option_map (λ (pair : Pair). pair.window)) pair.1 in
    let put : AreValuesTold trace client (ended_by client.unit script.lines.now script.logs.items) =
    λ e. values_are pairs scripts lan lan_rows history grants copies are windows own_seat pair.0.window own_inside window e ∙ script_is.put client.unit server.unit pair.0 at.2 pair.1 e in
    let there = held (λ (pair : Pair). pair.server ≡ server) (slice_get pairs server.unit) (of_plan.pairs_are.servers server (of_plan.sound.served client server is)) in
    let same : pair.0.server ≡ server = ap (λ (x : Pair). x.server) (some_is pair.0 there.0 (sym pair.1 ∙ there.1)) ∙ there.2 in
    let empty = emptied rests.units pairs scripts lan.seats partitions server pair.0 are lawful of_plan rests.idle (of_plan.sound.served client server is) pair.1 same in
    let u = held HasNothing (slice_get rests.units server.unit) empty.1 in
    let shut : AreShutTold trace client server script.lines.now script.logs.items =
    lines_shut_more (HadEnd pair.0.link) (∥ ((session : ℕ) × EndedFor server session trace.grants) ∥₁) client.unit script.lines.now script.logs.items
    (shut_at_rest rests.units copies grants history server.unit pair.0 server u.0 u.1 empty.0.registered ((home.pairs_are server.unit pair.0 pair.1).own_unit ∙ same)
    (rests.received server.unit pair.0 pair.1)) (script_is.shown client.unit server.unit pair.0 at.2 pair.1).shut in
    let failed : AreFailedTold trace server script.lines.now script.logs.items =
    fails_at_rest rests.units copies grants history pairs pair.0 server script client.unit at.2 pair.1 u.0 u.1 empty.0
    (keeps_none pair.0 pipe.laws.some_slots empty.0
    (subst (λ (o : Option Pair). IfSome o EventWaits) pair.1 (client_waits rests.units pairs scripts lan.seats partitions client server of_plan rests.idle (of_plan.sound.served client server is) is).1))
    ((home.pairs_are server.unit pair.0 pair.1).own_unit ∙ same) (rests.received server.unit pair.0 pair.1) script_is.down in
    let given : IsClientGiven trace client server (ended_by client.unit script.lines.now script.logs.items) =
    client_takes partitions pairs scripts lan lan_rows history grants copies client server (ended_by client.unit script.lines.now script.logs.items) pair.0
    (λ driver. driver.unit ≡ unit_of script.partition client.unit) are lawful of_plan is pair.1 pair.2 (home.pairs_are server.unit pair.0 pair.1).driver (script_is.taken.kept client.unit server.unit pair.0 at.2 pair.1) sees same in
    record {
      causes = subst (λ n. HasCausesTold n (ended_by client.unit (script_of partitions p) (filter (λ (row : LogRow). row.partition == p) (flat_map logs_of scripts)))) (sym pages)
          (subst (λ (ls : List Line). HasCausesTold (length pair.0.window.pages) (ended_by client.unit ls (filter (λ (row : LogRow). row.partition == p) (flat_map logs_of scripts)))) (sym lines)
          (subst (λ (rows : List LogRow). HasCausesTold (length pair.0.window.pages) (ended_by client.unit script.lines.now rows)) (sym (own_records pairs scripts lan p script are at.1)) law));
      shown = subst (λ (ls : List Line). LinesShow (seen_in trace client server) client client.unit ls (filter (λ (row : LogRow). row.partition == p) (flat_map logs_of scripts))) (sym lines)
          (subst (λ (rows : List LogRow). LinesShow (seen_in trace client server) client client.unit script.lines.now rows) (sym (own_records pairs scripts lan p script are at.1)) show);
      order = subst (λ (ls : List Line). AreSentIn (seen_in trace client server) client client.unit ls (filter (λ (row : LogRow). row.partition == p) (flat_map logs_of scripts)) (sent_to trace server)) (sym lines)
          (subst (λ (rows : List LogRow). AreSentIn (seen_in trace client server) client client.unit script.lines.now rows (sent_to trace server)) (sym (own_records pairs scripts lan p script are at.1)) order);
      few = subst (λ (ls : List Line). EventsAreFew trace server ls (ended_by client.unit ls (filter (λ (row : LogRow). row.partition == p) (flat_map logs_of scripts)))) (sym lines)
          (subst (λ (rows : List LogRow). EventsAreFew trace server script.lines.now (ended_by client.unit script.lines.now rows)) (sym (own_records pairs scripts lan p script are at.1)) few);
      drops = subst (λ (ls : List Line). AreDropsTold trace client server ls (filter (λ (row : LogRow). row.partition == p) (flat_map logs_of scripts))) (sym lines)
          (subst (λ (rows : List LogRow). AreDropsTold trace client server script.lines.now rows) (sym (own_records pairs scripts lan p script are at.1)) drops);
      shut = subst (λ (ls : List Line). AreShutTold trace client server ls (filter (λ (row : LogRow). row.partition == p) (flat_map logs_of scripts))) (sym lines)
          (subst (λ (rows : List LogRow). AreShutTold trace client server script.lines.now rows) (sym (own_records pairs scripts lan p script are at.1)) shut);
      failed = subst (λ (ls : List Line). AreFailedTold trace server ls (filter (λ (row : LogRow). row.partition == p) (flat_map logs_of scripts))) (sym lines)
          (subst (λ (rows : List LogRow). AreFailedTold trace server script.lines.now rows) (sym (own_records pairs scripts lan p script are at.1)) failed);
      put = subst (λ (ls : List Line). AreValuesTold trace client (ended_by client.unit ls (filter (λ (row : LogRow). row.partition == p) (flat_map logs_of scripts)))) (sym lines)
          (subst (λ (rows : List LogRow). AreValuesTold trace client (ended_by client.unit script.lines.now rows)) (sym (own_records pairs scripts lan p script are at.1)) put);
      takes = subst (λ (ls : List Line). AreAnswersTaken trace client (ended_by client.unit ls (filter (λ (row : LogRow). row.partition == p) (flat_map logs_of scripts)))) (sym lines)
          (subst (λ (rows : List LogRow). AreAnswersTaken trace client (ended_by client.unit script.lines.now rows)) (sym (own_records pairs scripts lan p script are at.1)) given.takes);
      reads = subst (λ (ls : List Line). AreDataTold (seen_in trace client server) server (ended_by client.unit ls (filter (λ (row : LogRow). row.partition == p) (flat_map logs_of scripts))) (answers_to trace client)) (sym lines)
          (subst (λ (rows : List LogRow). AreDataTold (seen_in trace client server) server (ended_by client.unit script.lines.now rows) (answers_to trace client)) (sym (own_records pairs scripts lan p script are at.1)) given.reads);
      read = given.read;
    }
