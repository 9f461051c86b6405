-- The queues of a gathered trace are lawful: each session is one of a lawful pipe, with the slots of the plan.
use Rattle.std.proofs.Common.{◌≡◌, ◌∙◌, ℕ, ◌+◌, ◌==◌, ◌<◌, Bool, true, false, cond, List, [], ◌∷◌, All, Option, Some, None, IfSome, IsSomeAnd, MatchOption, filter, map, option_map, slice_get, refl, sym, ap, subst, arith, zero, suc}
use Rattle.std.specs.List.{flat_map}
use Rattle.std.proofs.lemmas.Bool.Decides.{nat_tests}
use Rattle.vio_num.specs.Queue.{Handed, LawfulDrop}
use Rattle.vio_num.specs.declared.names.UnitId.{UnitId}
use Rattle.vio_num.specs.declared.history.Grant.{Grant}
use Rattle.vio_num.specs.declared.history.Served.{Served}
use Rattle.crq_ring.specs.Pipe.{PipeValue, IsLawfulPipe}
use Rattle.crq_ring.specs.Sessions.{of_session, Precedes}
use Rattle.crq_ring.specs.declared.rows.DropRow.{DropRow}
use Rattle.crq_ring.specs.declared.rows.PipeRow.{PipeRow}
use Rattle.crq_session.specs.PlainState.{side_of}
use Rattle.rdma_copy.specs.declared.copy.CopyRecord.{CopyRecord}
use Rattle.boot_text.specs.Sound.{unit_at}
use Rattle.boot_text.specs.declared.plan.Partition.{Partition}
use Rattle.boot_text.specs.declared.plan.UnitPlan.{UnitPlan}
use Rattle.boot_text.specs.declared.plan.UnitPlan.TheVariants as units
use Rattle.lan_script.specs.Units.{LanValue}
use Rattle.lan_script.specs.declared.rows.LanRows.{LanRows}
use Rattle.lan_script.specs.declared.seat.PortSeat.{PortSeat}
use Rattle.vio_trace.specs.declared.rows.QueueRow.{QueueRow}
use Rattle.vio_trace.specs.declared.rows.DropRow.{DropRow as TraceDrop}
use Rattle.vcpu_run.specs.declared.driver.Driver.{Driver}
use Rattle.vcpu_run.specs.declared.pair.Pair.{Pair}
use Rattle.vcpu_run.specs.declared.script.Script.{Script}
use Rattle.vcpu_run.specs.declared.unit_seat.Seat.{Seat}
use Rattle.vcpu_run.specs.declared.unit_seat.Seat.TheVariants as sits
use Rattle.vcpu_run.specs.declared.unit_seat.UnitSeat.{UnitSeat}
use Rattle.vcpu_run.specs.CopyRows.{same_unit}
use Rattle.vcpu_run.specs.Gathered.{queue_at, queue_by, rows_if, sessions_at, trace_of, HasLawfulQueue}
use Rattle.vcpu_run.specs.Machines.{AreScripts, HasNoClient, IsOfPlan, IsPlanned, IsPlannedClient}
use Rattle.vcpu_run.specs.Ports.{unit_of}
use Rattle.vcpu_run.specs.RunLaw.{AreCounted, HasSlots, IsLawfulSession, QueuesAreLawful}
use Rattle.vcpu_run.specs.Units.{seats_of}
use Rattle.vcpu_run.specs.Sessions.{drops_of, entries_of, session_row, session_rows, sessions_from, shown_drop}
use Rattle.vcpu_run.proofs.Blocks.{sessions_counted}
use Rattle.vcpu_run.proofs.Copied.{names_apart}
use Rattle.vcpu_run.proofs.Following.{each_from_all, ordered_from}
use Rattle.vcpu_run.proofs.Listed.{held}
use Rattle.lan_script.proofs.Order.{Each, Ordered, each_flat, each_weaker}
use Rattle.vcpu_run.proofs.Parts.{Told}
use Rattle.vcpu_run.proofs.Seated.{server_pair}
use Rattle.vcpu_run.proofs.Ordering.{each_of, sessions_own}
use Rattle.vcpu_run.proofs.Placing.{seats_ordered}
use Rattle.vcpu_run.proofs.Sole.{all_from_each, each_seat, pairs_from_ordered, sole}

pub entries_are : (q : ℕ) (rows : List PipeRow) → of_session q rows ≡ entries_of q rows
unfolding of_session
entries_are q rows = refl

same_session : (a q : ℕ) → (a == q) ≡ true → a ≡ q
same_session a q is = grind (arith, nat_tests)

drops_lawful : (q slots : ℕ) (sent : List PipeRow) (drops : List DropRow) → Each (λ row. LawfulDrop (of_session row.session sent) slots row.number row.held) drops
    → Each (λ drop. LawfulDrop (entries_of q sent) slots drop.number drop.held) (drops_of q drops)
drops_lawful q slots sent [] all = tt
drops_lawful q slots sent (row ∷ drops) all = at (row.session == q) refl (drops_lawful q slots sent drops all.1)
  where
    at : (b : Bool) → (row.session == q) ≡ b → Each (λ (drop : TraceDrop). LawfulDrop (entries_of q sent) slots drop.number drop.held) (drops_of q drops)
        → Each (λ (drop : TraceDrop). LawfulDrop (entries_of q sent) slots drop.number drop.held) (map shown_drop (cond b (row ∷ filter (λ r. r.session == q) drops) (filter (λ r. r.session == q) drops)))
    at true is rest = (
      subst (λ entries. LawfulDrop entries slots row.number row.held) (entries_are q sent)
          (subst (λ k. LawfulDrop (of_session k sent) slots row.number row.held) (same_session row.session q is) all.0),
      rest,
    )
    at false is rest = rest

drops_behind : (q : ℕ) (row : DropRow) (drops : List DropRow) → row.session ≡ q → Each (Precedes row) drops → Each (λ drop. row.number < drop.number) (drops_of q drops)
drops_behind q row [] own all = tt
drops_behind q row (other ∷ drops) own all = at (other.session == q) refl (drops_behind q row drops own all.1)
  where
    at : (b : Bool) → (other.session == q) ≡ b → Each (λ (drop : TraceDrop). row.number < drop.number) (drops_of q drops)
        → Each (λ (drop : TraceDrop). row.number < drop.number) (map shown_drop (cond b (other ∷ filter (λ r. r.session == q) drops) (filter (λ r. r.session == q) drops)))
    at true is rest = (all.0.1 (own ∙ sym (same_session other.session q is)), rest)
    at false is rest = rest

drops_once : (q : ℕ) (drops : List DropRow) → Ordered Precedes drops → Ordered (λ a b. a.number < b.number) (drops_of q drops)
drops_once q [] order = tt
drops_once q (row ∷ drops) order = at (row.session == q) refl (drops_once q drops order.1)
  where
    at : (b : Bool) → (row.session == q) ≡ b → Ordered (λ (a b : TraceDrop). a.number < b.number) (drops_of q drops)
        → Ordered (λ (a b : TraceDrop). a.number < b.number) (map shown_drop (cond b (row ∷ filter (λ r. r.session == q) drops) (filter (λ r. r.session == q) drops)))
    at true is rest = (drops_behind q row drops (same_session row.session q is) order.0, rest)
    at false is rest = rest

-- what the plan has of a unit: its queue has the plan's slots
pub record HasUnit (partitions : List Partition) (unit : UnitId) (pipe : PipeValue) : Type 0 where
  pub planned : UnitPlan
  pub unit_is : unit_at partitions unit ≡ Some planned
  pub slots : HasSlots pipe.slots planned

session_lawful : (partitions : List Partition) (unit : UnitId) (pipe : PipeValue) (q : ℕ) → HasUnit partitions unit pipe → IsLawfulPipe pipe
    → IsLawfulSession partitions (session_row unit pipe q)
session_lawful partitions unit pipe q has laws = record {
  planned = has.planned;
  unit = has.unit_is;
  slots = has.slots;
  handed = subst (λ sent. Handed sent (entries_of q pipe.taken) pipe.slots) (entries_are q pipe.sent)
      (subst (λ taken. Handed (of_session q pipe.sent) taken pipe.slots) (entries_are q pipe.taken) (laws.handed q));
  drops = all_from_each (λ (drop : TraceDrop). LawfulDrop (entries_of q pipe.sent) pipe.slots drop.number drop.held) (drops_of q pipe.drops)
      (drops_lawful q pipe.slots pipe.sent pipe.drops (each_from_all (λ (row : DropRow). LawfulDrop (of_session row.session pipe.sent) pipe.slots row.number row.held) pipe.drops laws.dropped.lawful));
  once = pairs_from_ordered (λ (a b : TraceDrop). a.number < b.number) (drops_of q pipe.drops) (drops_once q pipe.drops (ordered_from Precedes pipe.drops laws.dropped.in_order));
}

sessions_lawful : (partitions : List Partition) (unit : UnitId) (pipe : PipeValue) (q n : ℕ) → HasUnit partitions unit pipe → IsLawfulPipe pipe
    → Each (IsLawfulSession partitions) (sessions_from unit pipe q n)
sessions_lawful partitions unit pipe q zero has laws = tt
sessions_lawful partitions unit pipe q (suc n) has laws = (session_lawful partitions unit pipe q has laws, sessions_lawful partitions unit pipe (q + 1) n has laws)

-- each unit is that of the plan
server_has : (partitions : List Partition) (k : ℕ) (pair : Pair) (id : UnitId) → IsPlanned partitions k pair → pair.server ≡ id
    → HasUnit partitions id (side_of pair.link true).queue
server_has partitions k pair id planned same = record {
  planned = units.Server planned.pages;
  unit_is = ap (unit_at partitions) (sym same) ∙ planned.planned;
  slots = planned.slots;
}

client_has : (partitions : List Partition) (id : UnitId) (pair : Pair) (driver : Option Driver) → IsSomeAnd driver (λ d. d.unit ≡ id)
    → MatchOption driver (HasNoClient partitions pair.server) (IsPlannedClient partitions pair) → HasUnit partitions id (side_of pair.link false).queue
client_has partitions id pair None sits planned = absurd sits
client_has partitions id pair (Some driver) sits planned = record {
  planned = units.Client pair.server planned.pages planned.queue;
  unit_is = ap (unit_at partitions) (sym sits) ∙ planned.planned;
  slots = planned.slots;
}

unit_has : (partitions : List Partition) (pairs : List Pair) (scripts : List Script) (ports : List PortSeat) (i u : ℕ) (script : Script) (seat : Seat)
    → AreScripts pairs ports scripts → IsOfPlan partitions pairs scripts ports → slice_get scripts i ≡ Some script → slice_get script.seats.items u ≡ Some seat
    → IfSome (queue_by pairs (unit_of script.partition u) seat) (HasUnit partitions (unit_of script.partition u))
unit_has partitions pairs scripts ports i u script sits.Server are plan e e' =
    let id : UnitId = unit_of script.partition u in
    let pair = server_pair partitions pairs scripts ports i u script are plan e e' in
    subst (λ slot. IfSome (option_map (λ (pair : Pair). (side_of pair.link true).queue) slot) (HasUnit partitions id)) (sym pair.1)
    (server_has partitions u pair.0 id (plan.pairs_are.each u pair.0 pair.1) pair.2)
unit_has partitions pairs scripts ports i u script (sits.Client k) are plan e e' =
    let id : UnitId = unit_of script.partition u in
    let pair = held (λ (pair : Pair). IsSomeAnd pair.driver (λ driver. driver.unit ≡ id)) (slice_get pairs k) ((are i script e).script_is.seats u k e') in
    subst (λ slot. IfSome (option_map (λ (pair : Pair). (side_of pair.link false).queue) slot) (HasUnit partitions id)) (sym pair.1)
    (client_has partitions id pair.0 pair.0.driver pair.2 (plan.pairs_are.each k pair.0 pair.1).client)
unit_has partitions pairs scripts ports i u script sits.Port are plan e e' = tt

pub units_planned : (pairs : List Pair) (scripts : List Script) (ports : List PortSeat) (partitions : List Partition) → AreScripts pairs ports scripts → IsOfPlan partitions pairs scripts ports
    → Each (λ (seat : UnitSeat). IfSome (queue_at pairs seat) (HasUnit partitions seat.unit)) (seats_of scripts)
units_planned pairs scripts ports partitions are of_plan =
    each_seat (λ (seat : UnitSeat). IfSome (queue_at pairs seat) (HasUnit partitions seat.unit)) scripts
    (λ i script u seat e e'. unit_has partitions pairs scripts ports i u script seat are of_plan e e')

queue_lawful : (partitions : List Partition) (unit : UnitId) (slot : Option PipeValue) → IfSome slot (HasUnit partitions unit) → IfSome slot IsLawfulPipe
    → Each (IsLawfulSession partitions) (rows_if (session_rows unit) slot)
queue_lawful partitions unit None has laws = tt
queue_lawful partitions unit (Some pipe) has laws = sessions_lawful partitions unit pipe 1 pipe.session has laws

both_hold : (partitions : List Partition) (pairs : List Pair) (seats : List UnitSeat) → Each (λ (seat : UnitSeat). IfSome (queue_at pairs seat) (HasUnit partitions seat.unit)) seats → Each (HasLawfulQueue pairs) seats
    → Each (λ seat. Each (IsLawfulSession partitions) (sessions_at pairs seat)) seats
both_hold partitions pairs [] has laws = tt
both_hold partitions pairs (seat ∷ seats) has laws = (queue_lawful partitions seat.unit (queue_at pairs seat) has.0 laws.0, both_hold partitions pairs seats has.1 laws.1)

counted_if : (unit : UnitId) (slot : Option PipeValue) → AreCounted 1 (rows_if (session_rows unit) slot)
counted_if unit None = tt
counted_if unit (Some pipe) = sessions_counted unit pipe 1 pipe.session

pub sessions_told : (pairs : List Pair) (unit : UnitId) (seats : List UnitSeat) → Told (λ (row : QueueRow). same_unit row.unit unit) (λ (seat : UnitSeat). same_unit seat.unit unit) (sessions_at pairs) seats
sessions_told pairs unit seats =
    each_of (λ seat. Each (λ (row : QueueRow). same_unit row.unit unit ≡ same_unit seat.unit unit) (sessions_at pairs seat)) seats
    (λ seat. each_weaker (λ (row : QueueRow). row.unit ≡ seat.unit) (λ (row : QueueRow). same_unit row.unit unit ≡ same_unit seat.unit unit)
    (λ row h. ap (λ u. same_unit u unit) h) (sessions_at pairs seat) (sessions_own pairs seat))

pub queues_are : (pairs : List Pair) (scripts : List Script) (lan : LanValue) (rows : LanRows) (history : List Served) (grants : List Grant) (copies : List CopyRecord) (partitions : List Partition)
    → AreScripts pairs lan.seats scripts → All (HasLawfulQueue pairs) (seats_of scripts) → IsOfPlan partitions pairs scripts lan.seats
    → QueuesAreLawful partitions (trace_of pairs scripts lan rows history grants copies)
queues_are pairs scripts lan rows history grants copies partitions are lawful of_plan = record {
  each = all_from_each (IsLawfulSession partitions) (flat_map (sessions_at pairs) (seats_of scripts))
      (each_flat (IsLawfulSession partitions) (sessions_at pairs) (seats_of scripts)
      (both_hold partitions pairs (seats_of scripts) (units_planned pairs scripts lan.seats partitions are of_plan) (each_from_all (HasLawfulQueue pairs) (seats_of scripts) lawful)));
  counted = λ unit.
      sole (λ (row : QueueRow). same_unit row.unit unit) (λ (seat : UnitSeat). same_unit seat.unit unit) (AreCounted 1) (sessions_at pairs) tt (seats_of scripts)
      (sessions_told pairs unit (seats_of scripts))
      (each_of (λ seat. same_unit seat.unit unit ≡ true → AreCounted 1 (sessions_at pairs seat)) (seats_of scripts) (λ seat is. counted_if seat.unit (queue_at pairs seat)))
      (names_apart unit (seats_of scripts) (seats_ordered pairs lan.seats scripts are));
}
