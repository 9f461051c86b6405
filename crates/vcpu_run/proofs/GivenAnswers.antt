-- Each row of a gathered trace of idle units has its answer, or is cut off.
use Rattle.std.proofs.Common.{◌≡◌, ◌∙◌, inl, inr, ◌≤◌, true, false, All, List, [], Option, Some, None, IfSome, length, slice_get, option_map, ap, subst, arith}
use Rattle.std.proofs.Math.Logic.{∥∥₁_map}
use Rattle.vio_num.specs.declared.history.Grant.{Grant}
use Rattle.vio_num.specs.declared.history.Served.{Served}
use Rattle.vio_num.specs.declared.names.UnitId.{UnitId}
use Rattle.crq_ring.specs.Pipe.{PipeValue, IsLawfulPipe}
use Rattle.crq_session.specs.PlainState.{end_of, side_of}
use Rattle.rdma_copy.specs.declared.copy.CopyRecord.{CopyRecord}
use Rattle.block_server.specs.Owed.{IsGiven}
use Rattle.block_server.specs.Ready.{HasNothing}
use Rattle.block_server.proofs.OwedLaws.{answers_at_rest}
use Rattle.boot_text.specs.declared.plan.Partition.{Partition}
use Rattle.boot_text.specs.declared.plan.UnitPlan.TheVariants as units
use Rattle.lan_script.specs.Units.{LanValue}
use Rattle.lan_script.specs.declared.rows.LanRows.{LanRows}
use Rattle.vcpu_run.specs.declared.pair.Pair.{Pair}
use Rattle.vcpu_run.specs.declared.script.Script.{Script}
use Rattle.vcpu_run.specs.declared.unit_seat.Seat.TheVariants as sits
use Rattle.vcpu_run.specs.declared.unit_seat.UnitSeat.{UnitSeat}
use Rattle.vcpu_run.specs.AnswersSent.{AnswersAreGiven}
use Rattle.vcpu_run.specs.Gathered.{HasLawfulQueue, queue_at, trace_of}
use Rattle.vcpu_run.specs.Links.{EventWaits, IsEmptied, link_state}
use Rattle.vcpu_run.specs.Machines.{AreScripts, IsOfPlan}
use Rattle.vcpu_run.specs.Pairs.{AreOfOneHome}
use Rattle.vcpu_run.specs.Received.{AreAtRest}
use Rattle.vcpu_run.specs.Units.{seats_of, unit_seat}
use Rattle.vcpu_run.proofs.Following.{each_from_all}
use Rattle.vcpu_run.proofs.Listed.{held}
use Rattle.vcpu_run.proofs.Losing.{none_ahead}
use Rattle.vcpu_run.proofs.Parts.{IsIn, each_in}
use Rattle.vcpu_run.proofs.Seated.{planned_in}
use Rattle.vcpu_run.proofs.Settling.{client_waits, emptied}

-- a client keeps no event where its server unit's queue is empty
pub keeps_none : (pair : Pair) → 1 ≤ (side_of pair.link true).queue.slots → IsEmptied (link_state pair.link).server → EventWaits pair → (side_of pair.link false).kept ≡ None
keeps_none pair some empty waits = elim waits as (λ _. (side_of pair.link false).kept ≡ None) [
  | inl none ↦ none
  | inr full ↦
      let long = ap length empty.taken in
      let whole = full.full in
      absurd (omega (arith, some, long, whole))
]

pub answers_are_given : (pairs : List Pair) (scripts : List Script) (lan : LanValue) (rows : LanRows) (history : List Served) (grants : List Grant) (copies : List CopyRecord) (partitions : List Partition)
    → AreOfOneHome copies pairs → AreScripts pairs lan.seats scripts → All (HasLawfulQueue pairs) (seats_of scripts)
    → IsOfPlan partitions pairs scripts lan.seats → AreAtRest copies grants history pairs scripts
    → AnswersAreGiven partitions (trace_of pairs scripts lan rows history grants copies)
answers_are_given pairs scripts lan rows history grants copies partitions home are lawful plan rests server client serves drives =
    let there = held (λ (pair : Pair). pair.server ≡ server) (slice_get pairs server.unit) (plan.pairs_are.servers server serves) in
    let pair : Pair = there.0 in
    let pipe : PipeValue = (side_of pair.link true).queue in
    let seats = seats_of scripts in
    let seat : UnitSeat = unit_seat server.partition server.unit sits.Server in
    let inside : IsIn seat seats = planned_in partitions pairs scripts lan.seats server (units.Server serves.0) are plan serves.1 in
    let queue : queue_at pairs seat ≡ Some pipe = ap (option_map (λ (pair : Pair). (side_of pair.link true).queue)) there.1 in
    let laws : IsLawfulPipe pipe =
    subst (λ slot. IfSome slot IsLawfulPipe) queue (each_in (HasLawfulQueue pairs) seat seats inside (each_from_all (HasLawfulQueue pairs) seats lawful)) in
    let own : pair.own.unit ≡ server = (home.pairs_are server.unit pair there.1).own_unit ∙ there.2 in
    let rest = emptied rests.units pairs scripts lan.seats partitions server pair are lawful plan rests.idle serves there.1 there.2 in
    let u = held HasNothing (slice_get rests.units server.unit) rest.1 in
    let event : EventWaits pair =
    subst (λ (o : Option Pair). IfSome o EventWaits) there.1 (client_waits rests.units pairs scripts lan.seats partitions client server plan rests.idle serves drives).1 in
    let none = none_ahead [] pair.link rest.0.taken (keeps_none pair laws.some_slots rest.0 event) in
    ∥∥₁_map (rests.received server.unit pair there.1).answers
    (λ owed.
    subst (λ (id : UnitId). All (IsGiven id grants) history) own
    (answers_at_rest rests.units server.unit u.0 pair.own.unit (end_of [] pair.link true) history grants u.1 u.2.pending none owed))
