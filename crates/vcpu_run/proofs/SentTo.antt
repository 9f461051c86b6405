-- What a gathered trace shows as sent to a client's queue is all that was put there; so its responses are those of its pair.
use Rattle.std.proofs.Common.{◌≡◌, ◌∙◌, ℕ, ◌+◌, ◌≤◌, false, List, ◌++◌, All, Some, IfSome, filter, map, option_map, slice_get, refl, sym, ap, ap₂, subst, zero, suc}
use Rattle.std.specs.List.{flat_map}
use Rattle.std.proofs.Math.Logic.{∥∥₁_elim}
use mathlib.Core.HLevel.{Discrete, hedberg}
use mathlib.Core.List.{List-discrete}
use native.Mathlib.Decide.{ℕ_discrete}
use Rattle.std.proofs.lemmas.List.{map-append}
use Rattle.vio_num.specs.declared.entry.Entry.{Entry}
use Rattle.vio_num.specs.declared.history.Grant.{Grant}
use Rattle.vio_num.specs.declared.history.Served.{Served}
use Rattle.vio_num.specs.declared.names.UnitId.{UnitId}
use Rattle.crq_ring.specs.Pipe.{PipeValue, IsLawfulPipe}
use Rattle.crq_ring.specs.declared.rows.PipeRow.{PipeRow}
use Rattle.crq_session.specs.PlainState.{side_of}
use Rattle.rdma_copy.specs.declared.copy.CopyRecord.{CopyRecord}
use Rattle.block_server.specs.Answering.{answers_of}
use Rattle.block_server.specs.Entries.{is_response}
use Rattle.boot_text.specs.Sound.{IsClientOf}
use Rattle.boot_text.specs.declared.plan.Partition.{Partition}
use Rattle.boot_text.specs.declared.plan.UnitPlan.TheVariants as units
use Rattle.lan_script.specs.Units.{LanValue}
use Rattle.lan_script.specs.declared.rows.LanRows.{LanRows}
use Rattle.vio_trace.specs.declared.rows.QueueRow.{QueueRow}
use Rattle.vcpu_run.specs.declared.pair.Pair.{Pair}
use Rattle.vcpu_run.specs.declared.script.Script.{Script}
use Rattle.vcpu_run.specs.declared.unit_seat.Seat.TheVariants as sits
use Rattle.vcpu_run.specs.declared.unit_seat.UnitSeat.{UnitSeat}
use Rattle.vcpu_run.specs.Answered.{AreAnswered, AreBegun}
use Rattle.vcpu_run.specs.AnswersSent.{AnswersAreSent, sent_to}
use Rattle.vcpu_run.specs.CopyRows.{same_unit}
use Rattle.vcpu_run.specs.Gathered.{HasLawfulQueue, queue_at, rows_if, sessions_at, trace_of}
use Rattle.vcpu_run.specs.Machines.{AreScripts, IsOfPlan}
use Rattle.vcpu_run.specs.SentOrder.{entries_begun}
use Rattle.vcpu_run.specs.Sessions.{entries_of, session_rows, sessions_from}
use Rattle.vcpu_run.specs.Shown.{sessions_of}
use Rattle.vcpu_run.specs.Units.{seats_of, unit_seat}
use Rattle.vcpu_run.proofs.Copied.{names_apart}
use Rattle.vcpu_run.proofs.Following.{each_from_all, ordered_from}
use Rattle.vcpu_run.proofs.InSessions.{begun_flat, all_flat, flat, in_session}
use Rattle.vcpu_run.proofs.Listed.{held}
use Rattle.vcpu_run.proofs.Parts.{IsIn, each_in, found}
use Rattle.vcpu_run.proofs.Placing.{seats_ordered}
use Rattle.vcpu_run.proofs.QueueLaws.{sessions_told}
use Rattle.vcpu_run.proofs.Seated.{planned_in}
use Rattle.vcpu_run.proofs.Sole.{same_refl}

-- entries are told apart, and so an equation of lists of them has one proof
same_entries : (a b : Entry) → a.high ≡ b.high → a.low ≡ b.low → a ≡ b
same_entries a b high low = ap₂ made high low
  where
    made : ℕ → ℕ → Entry
    made h l = record { high = h; low = l }

entry_discrete : Discrete Entry
entry_discrete a b = at (ℕ_discrete a.high b.high) (ℕ_discrete a.low b.low)
  where
    at : Dec (a.high ≡ b.high) → Dec (a.low ≡ b.low) → Dec (a ≡ b)
    at (yes high) (yes low) = yes (same_entries a b high low)
    at (no apart) low = no (λ e. apart (ap (λ (x : Entry). x.high) e))
    at (yes high) (no apart) = no (λ e. apart (ap (λ (x : Entry). x.low) e))

entries_set : IsSet (List Entry)
entries_set = hedberg (List-discrete entry_discrete)

flat_is : (unit : UnitId) (pipe : PipeValue) (q n : ℕ) → flat_map (λ (row : QueueRow). row.sent) (sessions_from unit pipe q n) ≡ map (λ row. row.entry) (flat q n pipe.sent)
flat_is unit pipe q zero = refl
flat_is unit pipe q (suc n) =
    ap (λ (rest : List Entry). entries_of q pipe.sent ++ rest) (flat_is unit pipe (q + 1) n)
    ∙ sym (map-append (λ (row : PipeRow). row.entry) (in_session q pipe.sent) (flat (q + 1) n pipe.sent))

-- the sessions of a lawful pipe have all that was put
all_sent : (unit : UnitId) (pipe : PipeValue) → IsLawfulPipe pipe → AreBegun pipe.sent → flat_map (λ (row : QueueRow). row.sent) (session_rows unit pipe) ≡ map (λ row. row.entry) pipe.sent
all_sent unit pipe laws begun =
    flat_is unit pipe 1 pipe.session
    ∙ ap (map (λ (row : PipeRow). row.entry)) (all_flat pipe.session pipe.sent (ordered_from (λ (a b : PipeRow). a.session ≤ b.session) pipe.sent laws.sent.in_order)
    (each_from_all (λ (row : PipeRow). 1 ≤ row.session) pipe.sent begun) (each_from_all (λ (row : PipeRow). row.session ≤ pipe.session) pipe.sent laws.sent.none_later))

-- or all of it that was put in a session
pub begun_sent : (unit : UnitId) (pipe : PipeValue) → IsLawfulPipe pipe → flat_map (λ (row : QueueRow). row.sent) (session_rows unit pipe) ≡ entries_begun pipe.sent
begun_sent unit pipe laws =
    flat_is unit pipe 1 pipe.session
    ∙ ap (map (λ (row : PipeRow). row.entry)) (begun_flat pipe.session pipe.sent (ordered_from (λ (a b : PipeRow). a.session ≤ b.session) pipe.sent laws.sent.in_order)
    (each_from_all (λ (row : PipeRow). row.session ≤ pipe.session) pipe.sent laws.sent.none_later))

-- what a client's queue was sent, as the trace shows it
pub sent_shown : (pairs : List Pair) (scripts : List Script) (lan : LanValue) (rows : LanRows) (history : List Served) (grants : List Grant) (copies : List CopyRecord) (partitions : List Partition)
    → AreScripts pairs lan.seats scripts → All (HasLawfulQueue pairs) (seats_of scripts) → IsOfPlan partitions pairs scripts lan.seats
    → (server client : UnitId) → IsClientOf partitions client server → (pair : Pair) → slice_get pairs server.unit ≡ Some pair → AreBegun (side_of pair.link false).queue.sent
    → sent_to (trace_of pairs scripts lan rows history grants copies) client ≡ map (λ row. row.entry) (side_of pair.link false).queue.sent
sent_shown pairs scripts lan rows history grants copies partitions are lawful of_plan server client drives pair there begun =
    let pipe : PipeValue = (side_of pair.link false).queue in
    let seats = seats_of scripts in
    let seat : UnitSeat = unit_seat client.partition client.unit (sits.Client server.unit) in
    let inside : IsIn seat seats = planned_in partitions pairs scripts lan.seats client (units.Client server drives.0 drives.1) are of_plan drives.2 in
    let queue : queue_at pairs seat ≡ Some pipe = ap (option_map (λ (pair : Pair). (side_of pair.link false).queue)) there in
    let laws : IsLawfulPipe pipe =
    subst (λ slot. IfSome slot IsLawfulPipe) queue (each_in (HasLawfulQueue pairs) seat seats inside (each_from_all (HasLawfulQueue pairs) seats lawful)) in
    let trace = trace_of pairs scripts lan rows history grants copies in
    let sessions : sessions_of trace client ≡ session_rows client pipe =
    found (λ (row : QueueRow). same_unit row.unit client) (λ (other : UnitSeat). same_unit other.unit client) (sessions_at pairs) seat (same_refl client) seats inside
    (sessions_told pairs client seats) (names_apart client seats (seats_ordered pairs lan.seats scripts are))
    ∙ ap (rows_if (session_rows client)) queue in
    ap (flat_map (λ (row : QueueRow). row.sent)) sessions ∙ all_sent client pipe laws begun

pub answers_are : (pairs : List Pair) (scripts : List Script) (lan : LanValue) (rows : LanRows) (history : List Served) (grants : List Grant) (copies : List CopyRecord) (partitions : List Partition)
    → AreScripts pairs lan.seats scripts → All (HasLawfulQueue pairs) (seats_of scripts) → IsOfPlan partitions pairs scripts lan.seats → AreAnswered history pairs
    → AnswersAreSent partitions (trace_of pairs scripts lan rows history grants copies)
answers_are pairs scripts lan rows history grants copies partitions are lawful of_plan answered server client serves drives =
    let there = held (λ (pair : Pair). pair.server ≡ server) (slice_get pairs server.unit) (of_plan.pairs_are.servers server serves) in
    let pair : Pair = there.0 in
    let is = answered server.unit pair there.1 in
    let sent = sent_shown pairs scripts lan rows history grants copies partitions are lawful of_plan server client drives pair there.1 is.begun in
    ∥∥₁_elim is.answers (entries_set _ _) (λ e. ap (filter is_response) sent ∙ (e ∙ ap (λ u. answers_of u history) there.2))
