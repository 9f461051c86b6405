-- The pairs and the scripts that were made of a plan are a machine of it.
use Rattle.std.proofs.Common.{◌≡◌, ℕ, ◌*◌, ◌<◌, ◌≤◌, nat_lt, Bool, true, false, List, [], All, Option, Some, None, Result, Ok, Err, IfOk, IsSome, IsSomeAnd, MatchOption, length, map, option_map, refl, sym, ◌∙◌, ap, subst, arith}
use Rattle.std.specs.List.{slice_get}
use Rattle.std.proofs.lemmas.List.{length-map}
use Rattle.std.proofs.lemmas.Option.{slice_get_within, slice_get-map}
use Rattle.vio_num.specs.declared.memory.NoMemory.{NoMemory}
use Rattle.vio_num.specs.declared.names.UnitId.{UnitId}
use Rattle.crq_session.specs.PlainState.{side_of}
use Rattle.crq_session.specs.declared.TheConstants.{PAGE_SLOTS}
use Rattle.boot_text.specs.SoFar.{suits as may_do}
use Rattle.boot_text.specs.Sound.{AreSound, IsClientOf, IsSoundLine, unit_at, unit_in}
use Rattle.boot_text.specs.declared.plan.Line.{Line}
use Rattle.boot_text.specs.declared.plan.Partition.{Partition}
use Rattle.boot_text.specs.declared.plan.TheConstants.{MOST_UNITS}
use Rattle.boot_text.specs.declared.plan.UnitPlan.{UnitPlan}
use Rattle.boot_text.specs.declared.plan.UnitPlan.TheVariants as kinds
use Rattle.boot_text.specs.declared.verb.Verb.{Verb}
use Rattle.lan_script.specs.Seats.{seat_at}
use Rattle.vcpu_run.specs.declared.driver.Driver.{Driver}
use Rattle.vcpu_run.specs.declared.pair.ClientSeat.{ClientSeat}
use Rattle.vcpu_run.specs.declared.pair.Pair.{Pair}
use Rattle.vcpu_run.specs.declared.script.Script.{Script}
use Rattle.vcpu_run.specs.declared.unit_seat.Seat.{Seat}
use Rattle.vcpu_run.specs.declared.unit_seat.Seat.TheVariants as sits
use Rattle.vcpu_run.specs.Machines.{ArePlanned, AreScripts, AreScriptsOf, HasNoClient, HasSeat, IsNumbered, IsPlanned, IsPlannedClient, IsScriptFor, SitsAt, home_of, seat_of}
use Rattle.vcpu_run.specs.Making.{AreMade, IsMade, IsSeatOf}
use Rattle.vcpu_run.specs.Pairs.{ArePairs, IsPair}
use Rattle.vcpu_run.specs.Ports.{IsPortOf, ports_of, unit_of}
use Rattle.vcpu_run.specs.Scripts.{AreSeats, IsSeat}
use Rattle.vcpu_run.specs.Suited.{IsLineAt, suits}
use Rattle.vcpu_run.proofs.Homes.{all_at, all_from, at_home, no_home, partition_at, unit_below}
use Rattle.vcpu_run.proofs.Listed.{held, held_then, is_held, mapped, there_is}
use Rattle.vcpu_run.proofs.PortsFound.{port, port_found}
use Rattle.vcpu_run.proofs.Seated.{client_plan, port_plan}
use Rattle.vcpu_run.proofs.Showing.{is_less, is_past}

-- The pair that was opened is one of the plan.

client_planned : (partitions : List Partition) (server : UnitId) (seat : ClientSeat) (pair : Pair) (slot : Option Driver) → pair.server ≡ server → IsSeatOf partitions server seat
    → SitsAt seat pair → IsSomeAnd slot (λ driver. driver.unit ≡ seat.unit) → MatchOption slot (HasNoClient partitions pair.server) (IsPlannedClient partitions pair)
client_planned partitions server seat pair None same of_server sits h = absurd h
client_planned partitions server seat pair (Some driver) same of_server sits h = record {
  pages = seat.pages;
  queue = seat.queue;
  planned = ap (unit_at partitions) h ∙ (of_server ∙ ap (λ (u : UnitId). Some (kinds.Client u seat.pages seat.queue)) (sym same));
  slots = sits.slots;
  region = sits.pages;
}

seat_planned : (partitions : List Partition) (server : UnitId) (client : Option ClientSeat) (pair : Pair) → pair.server ≡ server
    → MatchOption client ((id : UnitId) → IsClientOf partitions id server → ⊥) (IsSeatOf partitions server) → HasSeat client pair
    → MatchOption pair.driver (HasNoClient partitions pair.server) (IsPlannedClient partitions pair)
seat_planned partitions server None pair same none alone =
    subst (λ slot. MatchOption slot (HasNoClient partitions pair.server) (IsPlannedClient partitions pair)) (sym alone)
    (subst (HasNoClient partitions) (sym same) none)
seat_planned partitions server (Some seat) pair same of_server sits = client_planned partitions server seat pair pair.driver same of_server sits sits.driver

pair_planned : (partitions : List Partition) (server : UnitId) (queue : ℕ) (client : Option ClientSeat) (pair : Pair) → unit_at partitions server ≡ Some (kinds.Server queue)
    → MatchOption client ((id : UnitId) → IsClientOf partitions id server → ⊥) (IsSeatOf partitions server) → IsPair server.partition [] server.unit pair
    → (side_of pair.link true).queue.slots ≡ PAGE_SLOTS * queue → HasSeat client pair → IsPlanned partitions server.unit pair
pair_planned partitions server queue client pair named found is slots sits =
    let same : pair.server ≡ server = is.server in
    record {
      number = ap (λ (u : UnitId). u.unit) same;
      pages = queue;
      planned = ap (unit_at partitions) same ∙ named;
      slots = slots;
      client = seat_planned partitions server client pair same found sits;
    }

pub opened_planned : (partitions : List Partition) (server : UnitId) (queue : ℕ) (client : Option ClientSeat) (r : Result Pair NoMemory)
    → unit_at partitions server ≡ Some (kinds.Server queue) → MatchOption client ((id : UnitId) → IsClientOf partitions id server → ⊥) (IsSeatOf partitions server)
    → IfOk r (IsPair server.partition [] server.unit) → IfOk r (λ pair. (side_of pair.link true).queue.slots ≡ PAGE_SLOTS * queue) → IfOk r (HasSeat client)
    → IfOk r (IsPlanned partitions server.unit)
opened_planned partitions server queue client (Ok pair) named found is slots sits = pair_planned partitions server queue client pair named found is slots sits
opened_planned partitions server queue client (Err none) named found is slots sits = tt

-- All pairs are those of the server units.

pub planned_all : (partitions : List Partition) (home : Partition) (pairs : List Pair) → AreSound partitions → slice_get partitions (home_of partitions) ≡ Some home
    → length pairs ≡ length home.units → ArePairs (home_of partitions) [] pairs → ((k : ℕ) (pair : Pair) → slice_get pairs k ≡ Some pair → IsPlanned partitions k pair)
    → ArePlanned partitions pairs
planned_all partitions home pairs sound found count are planned = record {
  servers = λ server is.
      let there = at_home partitions server sound is in
      let own : slice_get partitions server.partition ≡ Some home = ap (slice_get partitions) there.2 ∙ found in
      let unit : slice_get home.units server.unit ≡ Some (kinds.Server is.0) = ap (λ slot. unit_in slot server.unit) (sym own) ∙ is.1 in
      let within : server.unit < length home.units = slice_get_within home.units server.unit (kinds.Server is.0) unit in
      let pair = there_is pairs server.unit (omega (arith, within, count)) in
      is_held (λ (pair : Pair). pair.server ≡ server) (slice_get pairs server.unit) pair.0 pair.1
      ((are server.unit pair.0 pair.1).server ∙ ap (λ p. unit_of p server.unit) (sym there.2));
  each = planned;
}

none_there : {X : Type 0} {P : Type 0} (k : ℕ) (x : X) → slice_get [] k ≡ Some x → P
none_there k x e = absurd (nothing k x e)
  where
    nothing : {X : Type 0} (k : ℕ) (x : X) → slice_get [] k ≡ Some x → ⊥
    nothing k x e = cc

pub planned_none : (partitions : List Partition) → AreSound partitions → slice_get partitions (home_of partitions) ≡ None → ArePlanned partitions []
planned_none partitions sound none = record {
  servers = λ server is. absurd (no_home partitions server sound none is);
  each = λ k pair e. none_there k pair e;
}

-- there are at most 8 pairs
pub few_pairs : (partitions : List Partition) (pairs : List Pair) → AreSound partitions → ArePlanned partitions pairs → length pairs ≤ 8
few_pairs partitions pairs sound planned = at (nat_lt 8 (length pairs)) refl
  where
    ninth : 8 < length pairs → ⊥
    ninth more =
        let pair = there_is pairs 8 more in
        let is = planned.each 8 pair.0 pair.1 in
        let below : pair.0.server.unit < 8 = unit_below partitions pair.0.server (kinds.Server is.pages) sound is.planned in
        omega (arith, below, is.number)

    at : (b : Bool) → nat_lt 8 (length pairs) ≡ b → length pairs ≤ 8
    at true more = absurd (ninth (is_less 8 (length pairs) more))
    at false past = is_past 8 (length pairs) past

-- The lines of a partition are those of its units.

line_suits : (verb : Verb) (slot : Option UnitPlan) → may_do verb slot ≡ true → IsSomeAnd (option_map seat_of slot) (suits verb)
line_suits verb None e = cc
line_suits verb (Some (kinds.Server queue)) e = cc
line_suits verb (Some (kinds.Client server pages queue)) e = e
line_suits verb (Some (kinds.Lan mac pages slots)) e = e

line_at : (units : List UnitPlan) (seats : List Seat) (line : Line) → seats ≡ map seat_of units → IsSoundLine units line → IsLineAt seats line
line_at units seats line same sound = record {
  suited = subst (λ slot. IsSomeAnd slot (suits line.verb)) (sym (ap (λ (list : List Seat). slice_get list line.unit) same ∙ slice_get-map seat_of units line.unit))
      (line_suits line.verb (slice_get units line.unit) sound.suited);
  ranged = sound.ranged;
}

pub lines_at : (units : List UnitPlan) (seats : List Seat) (lines : List Line) → seats ≡ map seat_of units → All (IsSoundLine units) lines → All (IsLineAt seats) lines
lines_at units seats lines same sound =
    all_from (IsLineAt seats) lines (λ k line e. line_at units seats line same (all_at (IsSoundLine units) lines k line sound e))

-- Each unit of a script sits where the plan has it.

-- the driver of the pair of a client's server unit is the client's
driver_is : (partitions : List Partition) (id server : UnitId) (pair : Pair) (driver : Option Driver) → AreSound partitions → IsClientOf partitions id server → pair.server ≡ server
    → MatchOption driver (HasNoClient partitions pair.server) (IsPlannedClient partitions pair) → IsSomeAnd driver (λ driver. driver.unit ≡ id)
driver_is partitions id server pair None sound client same none = absurd (none id (subst (IsClientOf partitions id) (sym same) client))
driver_is partitions id server pair (Some driver) sound client same is =
    sound.own driver.unit id pair.server (is.pages, is.queue, is.planned) (subst (IsClientOf partitions id) (sym same) client)

pub client_sits : (partitions : List Partition) (pairs : List Pair) (id server : UnitId) → AreSound partitions → ArePlanned partitions pairs → IsClientOf partitions id server
    → IsSomeAnd (slice_get pairs server.unit) (λ (pair : Pair). IsSomeAnd pair.driver (λ driver. driver.unit ≡ id))
client_sits partitions pairs id server sound planned client =
    let pair = held (λ (pair : Pair). pair.server ≡ server) (slice_get pairs server.unit) (planned.servers server (sound.served id server client)) in
    is_held (λ (pair : Pair). IsSomeAnd pair.driver (λ driver. driver.unit ≡ id)) (slice_get pairs server.unit) pair.0 pair.1
    (driver_is partitions id server pair.0 pair.0.driver sound client pair.2 (planned.each server.unit pair.0 pair.1).client)

seats_are : (partitions : List Partition) (pairs : List Pair) (p : ℕ) (partition : Partition) (script : Script) → AreSound partitions → ArePlanned partitions pairs
    → slice_get partitions p ≡ Some partition → IsScriptFor partition script → AreSeats p script.seats.items pairs
seats_are partitions pairs p partition script sound planned found for_it u k at =
    let unit = mapped seat_of partition.units u (sits.Client k) (ap (λ (list : List Seat). slice_get list u) (sym for_it.seats) ∙ at) in
    let is = client_plan unit.0 k unit.2 in
    let client : IsClientOf partitions (unit_of p u) is.0 = (is.1, is.2, ap (λ slot. unit_in slot u) found ∙ (unit.1 ∙ ap Some is.3)) in
    subst (λ n. IsSeat p u n pairs) is.4 (client_sits partitions pairs (unit_of p u) is.0 sound planned client)

is_some_of : {X : Type 0} (slot : Option X) (x : X) → slot ≡ Some x → IsSome slot
is_some_of None x e = cc
is_some_of (Some y) x e = refl

ports_are : (partitions : List Partition) (p : ℕ) (partition : Partition) (script : Script) → slice_get partitions p ≡ Some partition → IsScriptFor partition script
    → (u : ℕ) → slice_get script.seats.items u ≡ Some sits.Port → IsPortOf (ports_of partitions) (unit_of p u)
ports_are partitions p partition script found for_it u at =
    let unit = mapped seat_of partition.units u sits.Port (ap (λ (list : List Seat). slice_get list u) (sym for_it.seats) ∙ at) in
    let is = port_plan unit.0 unit.2 in
    is_some_of (seat_at (ports_of partitions) (unit_of p u)) (port (unit_of p u) is.0 is.1 is.2)
    (port_found partitions p u partition is.0 is.1 is.2 found (unit.1 ∙ ap Some is.3))

numbered : (partitions : List Partition) (pairs : List Pair) (i : ℕ) (partition : Partition) (script : Script) → AreSound partitions
    → ArePlanned partitions pairs → slice_get partitions i ≡ Some partition → IsMade partition i script
    → IsNumbered pairs (ports_of partitions) i script
numbered partitions pairs i partition script sound planned found made =
    let few : length partition.units ≤ MOST_UNITS = (partition_at partitions i partition sound found).few in
    let count : length script.seats.items ≡ length partition.units = ap length made.for_it.seats ∙ length-map partition.units seat_of in
    record {
      number = made.number_is;
      few = omega arith;
      script_is = made.whole pairs (seats_are partitions pairs i partition script sound planned found made.for_it);
      has_ports = record {
        few = omega arith;
        have = λ u at. subst (λ p. IsPortOf (ports_of partitions) (unit_of p u)) (sym made.number_is) (ports_are partitions i partition script found made.for_it u at);
      };
    }

pub scripts_made : (partitions : List Partition) (pairs : List Pair) (scripts : List Script) → AreSound partitions
    → ArePlanned partitions pairs → AreMade partitions scripts → AreScripts pairs (ports_of partitions) scripts
scripts_made partitions pairs scripts sound planned made i script at =
    let partition = held (λ partition. IsMade partition i script) (slice_get partitions i) (made.each i script at) in
    numbered partitions pairs i partition.0 script sound planned partition.1 partition.2

pub scripts_of_plan : (partitions : List Partition) (scripts : List Script) → AreMade partitions scripts → AreScriptsOf partitions scripts
scripts_of_plan partitions scripts made = record {
  count = made.count;
  each = λ i script at. held_then (λ partition. IsMade partition i script) (λ partition. IsScriptFor partition script) (slice_get partitions i)
      (λ partition is. is.for_it) (made.each i script at);
}
