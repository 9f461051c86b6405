-- The answers of a client, as a gathered trace shows them with the entries that it took.
use Rattle.std.proofs.Common.{◌≡◌, ◌∙◌, false, All, List, Option, Some, None, IfSome, IsSomeAnd, slice_get, map, refl, ap, subst}
use Rattle.std.specs.List.{flat_map}
use Rattle.std.specs.Option.{option_map}
use Rattle.vio_num.specs.declared.history.Grant.{Grant}
use Rattle.vio_num.specs.declared.history.Served.{Served}
use Rattle.vio_num.specs.declared.names.UnitId.{UnitId}
use Rattle.crq_ring.specs.Pipe.{IsLawfulPipe, PipeValue}
use Rattle.crq_session.specs.PlainState.{side_of}
use Rattle.rdma_copy.specs.declared.copy.CopyRecord.{CopyRecord}
use Rattle.lan_script.specs.Units.{LanValue}
use Rattle.lan_script.specs.declared.rows.LanRows.{LanRows}
use Rattle.boot_text.specs.declared.plan.Partition.{Partition}
use Rattle.boot_text.specs.declared.plan.UnitPlan.TheVariants as units
use Rattle.boot_text.specs.Sound.{IsClientOf}
use Rattle.vio_trace.specs.declared.rows.AnswerRow.{AnswerRow}
use Rattle.vio_trace.specs.declared.rows.QueueRow.{QueueRow}
use Rattle.vio_trace.specs.declared.rows.Trace.{Trace}
use Rattle.vcpu_run.specs.declared.driver.Driver.{Driver}
use Rattle.vcpu_run.specs.declared.pair.Pair.{Pair}
use Rattle.vcpu_run.specs.declared.script.Script.{Script}
use Rattle.vcpu_run.specs.declared.unit_seat.Seat.TheVariants as sits
use Rattle.vcpu_run.specs.declared.unit_seat.UnitSeat.{UnitSeat}
use Rattle.vcpu_run.specs.Agreed.{driver_in}
use Rattle.vcpu_run.specs.Answered.{AreBegun}
use Rattle.vcpu_run.specs.AnswersSeen.{AreResponsesRead}
use Rattle.vcpu_run.specs.Pairs.{IsDriver}
use Rattle.vcpu_run.specs.AnswersTaken.{AreAnswersTaken, answers_to}
use Rattle.vcpu_run.specs.CopyRows.{same_unit}
use Rattle.vcpu_run.specs.Credited.{Ended}
use Rattle.vcpu_run.specs.Gathered.{HasLawfulQueue, answer_by, answers_at, queue_at, rows_if, sessions_at, trace_of}
use Rattle.vcpu_run.specs.Intake.{entries_taken, rows_taken}
use Rattle.vcpu_run.specs.Machines.{AreScripts, IsOfPlan}
use Rattle.vcpu_run.specs.Sessions.{session_rows}
use Rattle.vcpu_run.specs.Shown.{sessions_of}
use Rattle.vcpu_run.specs.TakenScripts.{IsTaken, PairTaken}
use Rattle.vcpu_run.specs.Units.{seats_of, unit_seat}
use Rattle.vcpu_run.specs.DataTold.{AreDataTold}
use Rattle.vcpu_run.specs.LinesShow.{Sees, seen_at}
use Rattle.vcpu_run.specs.Refusals.{seen_in}
use Rattle.vcpu_run.proofs.AnswersShown.{answers_shown, answers_told, data_shown, responses_shown}
use Rattle.vcpu_run.proofs.Copied.{names_apart}
use Rattle.vcpu_run.proofs.Fetching.{all_taken}
use Rattle.vcpu_run.proofs.Following.{each_from_all}
use Rattle.vcpu_run.proofs.Parts.{IsIn, each_in, found}
use Rattle.vcpu_run.proofs.Placing.{seats_ordered}
use Rattle.vcpu_run.proofs.QueueLaws.{sessions_told}
use Rattle.vcpu_run.proofs.Seated.{planned_in}
use Rattle.vcpu_run.proofs.Sole.{same_refl}

-- What the lines of a client say of the answers that it took, and of the data of their commands, is so.
pub record IsClientGiven (trace : Trace) (client server : UnitId) (own : List Ended) : Type 0 where
  pub takes : AreAnswersTaken trace client own
  pub reads : AreDataTold (seen_in trace client server) server own (answers_to trace client)
  pub read : AreResponsesRead (seen_in trace client server).front_at (answers_to trace client)

-- the answers of a client are those that its driver noted
pub client_answers : (partitions : List Partition) (pairs : List Pair) (scripts : List Script) (lan : LanValue) (rows : LanRows) (history : List Served) (grants : List Grant) (copies : List CopyRecord)
    (client server : UnitId) (pair : Pair) (driver : Driver) → AreScripts pairs lan.seats scripts → IsOfPlan partitions pairs scripts lan.seats → IsClientOf partitions client server
    → slice_get pairs server.unit ≡ Some pair → pair.driver ≡ Some driver
    → answers_to (trace_of pairs scripts lan rows history grants copies) client ≡ map (answer_by client) driver.answers.items
client_answers partitions pairs scripts lan rows history grants copies client server pair driver are plan is there slot =
    let seat : UnitSeat = unit_seat client.partition client.unit (sits.Client server.unit) in
    let inside : IsIn seat (seats_of scripts) = planned_in partitions pairs scripts lan.seats client (units.Client server is.0 is.1) are plan is.2 in
    found (λ (row : AnswerRow). same_unit row.unit client) (λ (other : UnitSeat). same_unit other.unit client) (answers_at pairs) seat (same_refl client) (seats_of scripts) inside
    (answers_told pairs client (seats_of scripts)) (names_apart client (seats_of scripts) (seats_ordered pairs lan.seats scripts are))
    ∙ ap (rows_if (λ (d : Driver). map (answer_by client) d.answers.items)) (ap driver_in there ∙ slot)

-- and what it took is what its queue gave
pub client_entries : (partitions : List Partition) (pairs : List Pair) (scripts : List Script) (lan : LanValue) (rows : LanRows) (history : List Served) (grants : List Grant) (copies : List CopyRecord)
    (client server : UnitId) (pair : Pair) → AreScripts pairs lan.seats scripts → IsOfPlan partitions pairs scripts lan.seats → IsClientOf partitions client server
    → slice_get pairs server.unit ≡ Some pair → IsLawfulPipe (side_of pair.link false).queue → AreBegun (side_of pair.link false).queue.taken
    → entries_taken (trace_of pairs scripts lan rows history grants copies) client ≡ (side_of pair.link false).queue.taken
client_entries partitions pairs scripts lan rows history grants copies client server pair are plan is there laws begun =
    let seat : UnitSeat = unit_seat client.partition client.unit (sits.Client server.unit) in
    let inside : IsIn seat (seats_of scripts) = planned_in partitions pairs scripts lan.seats client (units.Client server is.0 is.1) are plan is.2 in
    let pipe : PipeValue = (side_of pair.link false).queue in
    let sessions : sessions_of (trace_of pairs scripts lan rows history grants copies) client ≡ session_rows client pipe =
    found (λ (row : QueueRow). same_unit row.unit client) (λ (other : UnitSeat). same_unit other.unit client) (sessions_at pairs) seat (same_refl client) (seats_of scripts) inside
    (sessions_told pairs client (seats_of scripts)) (names_apart client (seats_of scripts) (seats_ordered pairs lan.seats scripts are))
    ∙ ap (rows_if (session_rows client)) (ap (option_map (λ (pair : Pair). (side_of pair.link false).queue)) there) in
    ap (flat_map rows_taken) sessions ∙ all_taken client pipe laws begun

pub client_takes : (partitions : List Partition) (pairs : List Pair) (scripts : List Script) (lan : LanValue) (rows : LanRows) (history : List Served) (grants : List Grant) (copies : List CopyRecord)
    (client server : UnitId) (own : List Ended) (pair : Pair) (P : Driver → Type 0) → AreScripts pairs lan.seats scripts → All (HasLawfulQueue pairs) (seats_of scripts)
    → IsOfPlan partitions pairs scripts lan.seats → IsClientOf partitions client server → slice_get pairs server.unit ≡ Some pair → IsSomeAnd pair.driver P → IfSome pair.driver (IsDriver pair.window) → PairTaken own pair
    → Sees (seen_at pair) (seen_in (trace_of pairs scripts lan rows history grants copies) client server) → pair.server ≡ server
    → IsClientGiven (trace_of pairs scripts lan rows history grants copies) client server own
client_takes partitions pairs scripts lan rows history grants copies client server own pair P are lawful plan is there has driven taken sees same = at pair.driver refl has driven taken
  where
    trace : Trace
    trace = trace_of pairs scripts lan rows history grants copies

    seat : UnitSeat
    seat = unit_seat client.partition client.unit (sits.Client server.unit)

    inside : IsIn seat (seats_of scripts)
    inside = planned_in partitions pairs scripts lan.seats client (units.Client server is.0 is.1) are plan is.2

    pipe : PipeValue
    pipe = (side_of pair.link false).queue

    queue : queue_at pairs seat ≡ Some pipe
    queue = ap (option_map (λ (pair : Pair). (side_of pair.link false).queue)) there

    laws : IsLawfulPipe pipe
    laws = subst (λ slot. IfSome slot IsLawfulPipe) queue (each_in (HasLawfulQueue pairs) seat (seats_of scripts) inside (each_from_all (HasLawfulQueue pairs) (seats_of scripts) lawful))

    sessions : sessions_of trace client ≡ session_rows client pipe
    sessions =
        found (λ (row : QueueRow). same_unit row.unit client) (λ (other : UnitSeat). same_unit other.unit client) (sessions_at pairs) seat (same_refl client) (seats_of scripts) inside
        (sessions_told pairs client (seats_of scripts)) (names_apart client (seats_of scripts) (seats_ordered pairs lan.seats scripts are))
        ∙ ap (rows_if (session_rows client)) queue

    answers : (driver : Driver) → pair.driver ≡ Some driver → answers_to trace client ≡ map (answer_by client) driver.answers.items
    answers driver slot = client_answers partitions pairs scripts lan rows history grants copies client server pair driver are plan is there slot

    at : (o : Option Driver) → pair.driver ≡ o → IsSomeAnd o P → IfSome o (IsDriver pair.window) → IfSome o (IsTaken own pair) → IsClientGiven trace client server own
    at None slot has driven is = absurd has
    at (Some driver) slot has driven is = record {
      takes = answers_shown trace client own pair driver (answers driver slot) (ap (flat_map rows_taken) sessions ∙ all_taken client pipe laws is.given.begun) is;
      reads = data_shown trace client server own pair driver (answers driver slot) sees same is;
      read = responses_shown trace client server pair driver (answers driver slot) sees driven.answers;
    }
