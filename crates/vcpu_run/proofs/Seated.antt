-- Each unit of a machine is one of the plan: its window is its own, of the plan's size.
use Rattle.std.proofs.Common.{◌≡◌, ◌∙◌, ℕ, ◌+◌, ◌*◌, ◌==◌, ◌<◌, List, [], ◌∷◌, Option, Some, None, IfSome, IsSomeAnd, filter, length, map, slice_get, option_map, refl, sym, ap, subst, arith}
use Rattle.std.proofs.lemmas.Option.{MatchOption-at_some, slice_get-map, slice_get_within}
use Rattle.vio_num.specs.declared.names.Mac.{Mac}
use Rattle.vio_num.specs.declared.names.UnitId.{UnitId}
use Rattle.rdma_copy.specs.declared.copy.CopyRecord.{CopyRecord}
use Rattle.tce_window.specs.Grant.{values_of}
use Rattle.tce_window.specs.Window.{WindowValue}
use Rattle.tce_window.specs.declared.answers.TceRow.{TceRow}
use Rattle.boot_text.specs.Sound.{unit_at, unit_in, IsServer}
use Rattle.boot_text.specs.declared.plan.Partition.{Partition}
use Rattle.boot_text.specs.declared.plan.UnitPlan.{UnitPlan}
use Rattle.boot_text.specs.declared.plan.UnitPlan.TheVariants as units
use Rattle.lan_script.specs.Seats.{seat_at}
use Rattle.lan_script.specs.Units.{LanValue, window_at as port_window_at}
use Rattle.lan_script.specs.declared.seat.PortSeat.{PortSeat}
use Rattle.vcpu_run.specs.declared.driver.Driver.{Driver}
use Rattle.vcpu_run.specs.declared.pair.Pair.{Pair}
use Rattle.vcpu_run.specs.declared.script.Script.{Script}
use Rattle.vcpu_run.specs.declared.unit_seat.Seat.{Seat}
use Rattle.vcpu_run.specs.declared.unit_seat.Seat.TheVariants as sits
use Rattle.vcpu_run.specs.declared.unit_seat.UnitSeat.{UnitSeat}
use Rattle.vcpu_run.specs.Gathered.{FitsPort, port_window, window_at, HasLawfulWindow, IsWindowOf}
use Rattle.vcpu_run.specs.Machines.{seat_of, AreScripts, HasNoClient, IsOfPlan, IsPlanned, IsPlannedClient, IsScriptFor}
use Rattle.vcpu_run.specs.Pairs.{AreOfOneHome, IsDriver, IsPair}
use Rattle.vcpu_run.specs.Ports.{unit_of}
use Rattle.vcpu_run.specs.Shown.{pages_at, pages_if}
use Rattle.vcpu_run.specs.Units.{seats_by, seats_of, unit_seat}
use Rattle.vcpu_run.specs.Windows.{rows_of_entry, value_row}
use Rattle.vcpu_run.proofs.Homes.{unit_found}
use Rattle.vcpu_run.proofs.Listed.{held, held_is, if_held, mapped, there_is}
use Rattle.lan_script.proofs.Order.{Each}
use Rattle.vcpu_run.proofs.Parts.{IsIn, each_in, in_flat, in_numbered, in_slice}
use Rattle.vcpu_run.proofs.PortsFound.{port, port_found}
use Rattle.vcpu_run.proofs.Sole.{each_seat}

-- a unit's window
pub record IsSeatedAt (partitions : List Partition) (unit : UnitId) (window : WindowValue) : Type 0 where
  pub unit_is : window.unit ≡ unit
  pub size : pages_at partitions unit ≡ length window.pages
  pub free : window.held_count ≡ 0
  pub no_puts : IsServer partitions unit → (pages_at partitions unit ≡ 34)
      × ((e : ℕ) → e < 34 → rows_of_entry unit window.rows e ≡ [])

abbrev pub IsSeated : List Partition → List Pair → LanValue → UnitSeat → Type 0
IsSeated partitions pairs lan seat = IfSome (window_at pairs lan seat) (IsSeatedAt partitions seat.unit)

-- nothing was put where an entry has its first value alone
none_mapped : (unit : UnitId) (x : ℕ) (xs : List TceRow) → x ∷ map (λ row. row.value) xs ≡ x ∷ [] → map (value_row unit) xs ≡ []
none_mapped unit x [] e = refl
none_mapped unit x (y ∷ ys) e = absurd (cc)

first_alone : (unit : UnitId) (rows : List TceRow) (e : ℕ) → values_of rows e ≡ (4096 * e + 3) ∷ [] → rows_of_entry unit rows e ≡ []
unfolding values_of
first_alone unit rows e alone = none_mapped unit (4096 * e + 3) (filter (λ row. row.entry == e) rows) alone

-- of a server unit, of a client, and of a port

server_seated : (partitions : List Partition) (home : ℕ) (copies : List CopyRecord) (k : ℕ) (pair : Pair) → IsPair home copies k pair → IsPlanned partitions k pair
    → IsSeatedAt partitions pair.server pair.own
server_seated partitions home copies k pair is planned =
    let size : pages_at partitions pair.server ≡ 34 = ap pages_if planned.planned in
    record {
      unit_is = is.own_unit;
      size = size ∙ sym is.ready.size;
      free = is.ready.own_free;
      no_puts = λ _. (size, λ e less. first_alone pair.server pair.own.rows e (is.ready.first e less));
    }

not_client : (partitions : List Partition) (id server : UnitId) (pages queue slots : ℕ) → unit_at partitions id ≡ Some (units.Client server pages queue)
    → unit_at partitions id ≡ Some (units.Server slots) → ⊥
not_client partitions id server pages queue slots client other = cc

not_port : (partitions : List Partition) (id : UnitId) (mac : Mac) (pages own slots : ℕ) → unit_at partitions id ≡ Some (units.Lan mac pages own)
    → unit_at partitions id ≡ Some (units.Server slots) → ⊥
not_port partitions id mac pages own slots lan other = cc

client_seated : (partitions : List Partition) (home : ℕ) (copies : List CopyRecord) (k : ℕ) (id : UnitId) (pair : Pair) → IsPair home copies k pair → IsPlanned partitions k pair
    → (slot : Option Driver) → pair.driver ≡ slot → IsSomeAnd slot (λ driver. driver.unit ≡ id) → IsSeatedAt partitions id pair.window
client_seated partitions home copies k id pair is planned None driven h = absurd h
client_seated partitions home copies k id pair is planned (Some driver) driven h =
    let client : IsPlannedClient partitions pair driver = MatchOption-at_some (HasNoClient partitions pair.server) (IsPlannedClient partitions pair) driver driven planned.client in
    let drives : IsDriver pair.window driver = subst (λ slot. IfSome slot (IsDriver pair.window)) driven is.driver in
    let named : unit_at partitions id ≡ Some (units.Client pair.server client.pages client.queue) = ap (unit_at partitions) (sym h) ∙ client.planned in
    record {
      unit_is = drives.unit ∙ h;
      size = ap pages_if named ∙ sym client.region;
      free = is.ready.client_free;
      no_puts = λ server. absurd (not_client partitions id pair.server client.pages client.queue server.0 named server.1);
    }

port_seated : (partitions : List Partition) (id : UnitId) (mac : Mac) (pages slots : ℕ) (window : WindowValue) → unit_at partitions id ≡ Some (units.Lan mac pages slots)
    → IsWindowOf id (port id mac pages slots) window → IsSeatedAt partitions id window
port_seated partitions id mac pages slots window named is = record {
  unit_is = is.unit_is;
  size = ap pages_if named ∙ sym is.pages;
  free = is.free;
  no_puts = λ server. absurd (not_port partitions id mac pages slots server.0 named server.1);
}

-- a unit's place is that of one of the plan
pub planned_unit : (partitions : List Partition) (pairs : List Pair) (scripts : List Script) (ports : List PortSeat) (i u : ℕ) (script : Script) (seat : Seat)
    → AreScripts pairs ports scripts → IsOfPlan partitions pairs scripts ports → slice_get scripts i ≡ Some script → slice_get script.seats.items u ≡ Some seat
    → (partition : Partition) × (plan : UnitPlan) × (slice_get partitions script.partition ≡ Some partition) × (slice_get partition.units u ≡ Some plan) × (seat_of plan ≡ seat)
planned_unit partitions pairs scripts ports i u script seat are plan e e' =
    let there = held (λ partition. IsScriptFor partition script) (slice_get partitions i) (plan.scripts_are.each i script e) in
    let unit = mapped seat_of there.0.units u seat (ap (λ (seats : List Seat). slice_get seats u) (sym there.2.seats) ∙ e') in
    (there.0, unit.0, ap (slice_get partitions) (are i script e).number ∙ there.1, unit.1, unit.2)

pub server_plan : (plan : UnitPlan) → seat_of plan ≡ sits.Server → (queue : ℕ) × (plan ≡ units.Server queue)
server_plan (units.Server queue) e = (queue, refl)
server_plan (units.Client server pages queue) e = cc
server_plan (units.Lan mac pages slots) e = cc

same_client : (a b : ℕ) → sits.Client a ≡ sits.Client b → a ≡ b
same_client a b e = cc

pub client_plan : (plan : UnitPlan) (k : ℕ) → seat_of plan ≡ sits.Client k
    → (server : UnitId) × (pages : ℕ) × (queue : ℕ) × (plan ≡ units.Client server pages queue) × (server.unit ≡ k)
client_plan (units.Client server pages queue) k e = (server, pages, queue, refl, same_client server.unit k e)
client_plan (units.Server queue) k e = cc
client_plan (units.Lan mac pages slots) k e = cc

pub port_plan : (plan : UnitPlan) → seat_of plan ≡ sits.Port → (mac : Mac) × (pages : ℕ) × (slots : ℕ) × (plan ≡ units.Lan mac pages slots)
port_plan (units.Lan mac pages slots) e = (mac, pages, slots, refl)
port_plan (units.Server queue) e = cc
port_plan (units.Client server pages queue) e = cc

-- a server unit's place is that of its pair
pub server_pair : (partitions : List Partition) (pairs : List Pair) (scripts : List Script) (ports : List PortSeat) (i u : ℕ) (script : Script)
    → AreScripts pairs ports scripts → IsOfPlan partitions pairs scripts ports → slice_get scripts i ≡ Some script → slice_get script.seats.items u ≡ Some sits.Server
    → (pair : Pair) × (slice_get pairs u ≡ Some pair) × (pair.server ≡ unit_of script.partition u)
server_pair partitions pairs scripts ports i u script are plan e e' =
    let id : UnitId = unit_of script.partition u in
    let unit = planned_unit partitions pairs scripts ports i u script sits.Server are plan e e' in
    let is = server_plan unit.1 unit.4 in
    let serves : IsServer partitions id = (is.0, ap (λ slot. unit_in slot u) unit.2 ∙ (unit.3 ∙ ap Some is.1)) in
    held (λ (pair : Pair). pair.server ≡ id) (slice_get pairs u) (plan.pairs_are.servers id serves)

unit_seated : (partitions : List Partition) (pairs : List Pair) (scripts : List Script) (lan : LanValue) (copies : List CopyRecord) (i u : ℕ) (script : Script) (seat : Seat)
    → AreOfOneHome copies pairs → AreScripts pairs lan.seats scripts → IsOfPlan partitions pairs scripts lan.seats
    → slice_get scripts i ≡ Some script → slice_get script.seats.items u ≡ Some seat → FitsPort lan (unit_of script.partition u) seat
    → IsSeated partitions pairs lan (unit_seat script.partition u seat)
unit_seated partitions pairs scripts lan copies i u script sits.Server are are' plan e e' fits =
    let id : UnitId = unit_of script.partition u in
    let pair = server_pair partitions pairs scripts lan.seats i u script are' plan e e' in
    subst (λ slot. IfSome (option_map (λ (pair : Pair). pair.own) slot) (IsSeatedAt partitions id)) (sym pair.1)
    (subst (λ unit. IsSeatedAt partitions unit pair.0.own) pair.2
    (server_seated partitions are.home copies u pair.0 (are.pairs_are u pair.0 pair.1) (plan.pairs_are.each u pair.0 pair.1)))
unit_seated partitions pairs scripts lan copies i u script (sits.Client k) are are' plan e e' fits =
    let id : UnitId = unit_of script.partition u in
    let pair = held (λ (pair : Pair). IsSomeAnd pair.driver (λ driver. driver.unit ≡ id)) (slice_get pairs k) ((are' i script e).script_is.seats u k e') in
    subst (λ slot. IfSome (option_map (λ (pair : Pair). pair.window) slot) (IsSeatedAt partitions id)) (sym pair.1)
    (client_seated partitions are.home copies k id pair.0 (are.pairs_are k pair.0 pair.1) (plan.pairs_are.each k pair.0 pair.1) pair.0.driver refl pair.2)
unit_seated partitions pairs scripts lan copies i u script sits.Port are are' plan e e' fits =
    let id : UnitId = unit_of script.partition u in
    let unit = planned_unit partitions pairs scripts lan.seats i u script sits.Port are' plan e e' in
    let is = port_plan unit.1 unit.4 in
    let named : unit_at partitions id ≡ Some (units.Lan is.0 is.1 is.2) = ap (λ slot. unit_in slot u) unit.2 ∙ (unit.3 ∙ ap Some is.3) in
    let own : PortSeat = port id is.0 is.1 is.2 in
    let found : seat_at lan.seats id ≡ Some own =
    ap (λ (seats : List PortSeat). seat_at seats id) plan.ports_are ∙ port_found partitions script.partition u unit.0 is.0 is.1 is.2 unit.2 (unit.3 ∙ ap Some is.3) in
    let window : IsSomeAnd (port_window_at lan id) (IsWindowOf id own) =
    subst (λ slot. IfSome slot (λ (seat : PortSeat). IsSomeAnd (port_window_at lan id) (IsWindowOf id seat))) found fits in
    subst (λ slot. IfSome (port_window slot lan id) (IsSeatedAt partitions id)) (sym found)
    (if_held (IsWindowOf id own) (IsSeatedAt partitions id) (port_window_at lan id)
    (λ window is_own. port_seated partitions id is.0 is.1 is.2 window named is_own) window)

-- a place in a script is among those of all units
pub seat_in : (scripts : List Script) (i u : ℕ) (script : Script) (seat : Seat) → slice_get scripts i ≡ Some script → slice_get script.seats.items u ≡ Some seat
    → IsIn (unit_seat script.partition u seat) (seats_of scripts)
seat_in scripts i u script seat e e' =
    let same : 0 + u ≡ u = omega arith in
    in_flat seats_by script (unit_seat script.partition u seat) scripts (in_slice scripts i script e)
    (subst (λ n. IsIn (unit_seat script.partition n seat) (seats_by script)) same (in_numbered (unit_seat script.partition) 0 u script.seats.items seat e'))

-- and so is each unit of the plan
pub planned_in : (partitions : List Partition) (pairs : List Pair) (scripts : List Script) (ports : List PortSeat) (id : UnitId) (unit : UnitPlan)
    → AreScripts pairs ports scripts → IsOfPlan partitions pairs scripts ports → unit_at partitions id ≡ Some unit
    → IsIn (unit_seat id.partition id.unit (seat_of unit)) (seats_of scripts)
planned_in partitions pairs scripts ports id unit are plan named =
    let there = unit_found (slice_get partitions id.partition) id.unit unit named in
    let within : id.partition < length partitions = slice_get_within partitions id.partition there.0 there.1 in
    let script = there_is scripts id.partition (omega (arith, within, plan.scripts_are.count)) in
    let for_it : IsScriptFor there.0 script.0 =
    held_is (λ partition. IsScriptFor partition script.0) (slice_get partitions id.partition) there.0 there.1 (plan.scripts_are.each id.partition script.0 script.1) in
    let seat : slice_get script.0.seats.items id.unit ≡ Some (seat_of unit) =
    ap (λ (seats : List Seat). slice_get seats id.unit) for_it.seats ∙ (slice_get-map seat_of there.0.units id.unit ∙ ap (option_map seat_of) there.2) in
    subst (λ p. IsIn (unit_seat p id.unit (seat_of unit)) (seats_of scripts)) (are id.partition script.0 script.1).number
    (seat_in scripts id.partition id.unit script.0 (seat_of unit) script.1 seat)

pub all_seated : (partitions : List Partition) (pairs : List Pair) (scripts : List Script) (lan : LanValue) (copies : List CopyRecord)
    → AreOfOneHome copies pairs → AreScripts pairs lan.seats scripts → IsOfPlan partitions pairs scripts lan.seats
    → Each (HasLawfulWindow pairs lan) (seats_of scripts) → Each (IsSeated partitions pairs lan) (seats_of scripts)
all_seated partitions pairs scripts lan copies are are' plan lawful =
    each_seat (IsSeated partitions pairs lan) scripts
    (λ i script u seat e e'.
    let law : HasLawfulWindow pairs lan (unit_seat script.partition u seat) =
    each_in (HasLawfulWindow pairs lan) (unit_seat script.partition u seat) (seats_of scripts) (seat_in scripts i u script seat e e') lawful in
    unit_seated partitions pairs scripts lan copies i u script seat are are' plan e e' law.fits)
