-- The units of a machine stand in the order of their names, and so do its pairs.
use Rattle.std.proofs.Common.{◌≡◌, inl, inr, ℕ, ◌+◌, ◌≤◌, List, [], ◌∷◌, Some, slice_get, refl, sym, ◌∙◌, ap, subst, arith, suc}
use Rattle.std.specs.List.{flat_map}
use Rattle.vio_num.specs.declared.names.UnitId.{UnitId}
use Rattle.rdma_copy.specs.declared.copy.CopyRecord.{CopyRecord}
use Rattle.vio_trace.specs.Form.{UnitBefore}
use Rattle.lan_script.specs.declared.seat.PortSeat.{PortSeat}
use Rattle.vcpu_run.specs.declared.pair.Pair.{Pair}
use Rattle.vcpu_run.specs.declared.script.Script.{Script}
use Rattle.vcpu_run.specs.declared.unit_seat.Seat.{Seat}
use Rattle.vcpu_run.specs.declared.unit_seat.UnitSeat.{UnitSeat}
use Rattle.vcpu_run.specs.Machines.{AreScripts}
use Rattle.vcpu_run.specs.Numbered.{numbered}
use Rattle.vcpu_run.specs.Pairs.{ArePairs}
use Rattle.vcpu_run.specs.Ports.{unit_of}
use Rattle.vcpu_run.specs.Units.{seats_by, seats_of, unit_seat}
use Rattle.lan_script.proofs.Order.{Each, Ordered, each_append, each_weaker, ordered_append}

abbrev pub SeatBefore : UnitSeat → UnitSeat → Type 0
SeatBefore a b = UnitBefore a.unit b.unit

-- the units of partition p from unit n on
pub record IsFrom (p n : ℕ) (unit : UnitId) : Type 0 where
  pub partition : unit.partition ≡ p
  pub unit_from : n ≤ unit.unit

further : (p n : ℕ) (unit : UnitId) → IsFrom p (n + 1) unit → IsFrom p n unit
further p n unit h = record { partition = h.partition; unit_from = omega (arith, h.unit_from) }

stands_before : (p n : ℕ) (unit : UnitId) (other : UnitId) → unit ≡ unit_of p n → IsFrom p (n + 1) other → UnitBefore unit other
stands_before p n unit other e h =
    subst (λ u. UnitBefore u other) (sym e) (inr (sym h.partition, omega (arith, h.unit_from)))

-- pairs of the server units of a partition from unit n on
abbrev pub AreServers : (home n : ℕ) → List Pair → Type 0
AreServers home n pairs = (k : ℕ) (pair : Pair) → slice_get pairs k ≡ Some pair → pair.server ≡ unit_of home (n + k)

servers_behind : (home n : ℕ) (first : Pair) (pairs : List Pair) → AreServers home n (first ∷ pairs) → AreServers home (n + 1) pairs
servers_behind home n first pairs are k pair e =
    let more : n + suc k ≡ (n + 1) + k = omega arith in
    are (suc k) pair e ∙ ap (unit_of home) more

first_server : (home n : ℕ) (first : Pair) (pairs : List Pair) → AreServers home n (first ∷ pairs) → first.server ≡ unit_of home n
first_server home n first pairs are =
    let e : n + 0 ≡ n = omega arith in are 0 first refl ∙ ap (unit_of home) e

is_first : (home n : ℕ) (unit : UnitId) → unit ≡ unit_of home n → IsFrom home n unit
is_first home n unit e = subst (IsFrom home n) (sym e) (record { partition = refl; unit_from = omega arith })

servers_from : (home n : ℕ) (pairs : List Pair) → AreServers home n pairs → Each (λ (pair : Pair). IsFrom home n pair.server) pairs
servers_from home n [] are = tt
servers_from home n (pair ∷ pairs) are = (
  is_first home n pair.server (first_server home n pair pairs are),
  each_weaker (λ (other : Pair). IsFrom home (n + 1) other.server) (λ (other : Pair). IsFrom home n other.server) (λ other h. further home n other.server h)
      pairs (servers_from home (n + 1) pairs (servers_behind home n pair pairs are)),
)

servers_ordered : (home n : ℕ) (pairs : List Pair) → AreServers home n pairs → Ordered (λ (a b : Pair). UnitBefore a.server b.server) pairs
servers_ordered home n [] are = tt
servers_ordered home n (pair ∷ pairs) are = (
  each_weaker (λ (other : Pair). IsFrom home (n + 1) other.server) (λ (other : Pair). UnitBefore pair.server other.server)
      (λ other h. stands_before home n pair.server other.server (first_server home n pair pairs are) h)
      pairs (servers_from home (n + 1) pairs (servers_behind home n pair pairs are)),
  servers_ordered home (n + 1) pairs (servers_behind home n pair pairs are),
)

servers_are : (home : ℕ) (copies : List CopyRecord) (pairs : List Pair) → ArePairs home copies pairs → AreServers home 0 pairs
servers_are home copies pairs are k pair e =
    let same : k ≡ 0 + k = omega arith in (are k pair e).server ∙ ap (unit_of home) same

-- the pairs of a partition's server units
pub pairs_ordered : (home : ℕ) (copies : List CopyRecord) (pairs : List Pair) → ArePairs home copies pairs
    → Ordered (λ (a b : Pair). UnitBefore a.server b.server) pairs
pairs_ordered home copies pairs are = servers_ordered home 0 pairs (servers_are home copies pairs are)

-- the units of one partition
pub units_from : (p n : ℕ) (seats : List Seat) → Each (λ (unit : UnitSeat). IsFrom p n unit.unit) (numbered (unit_seat p) n seats)
units_from p n [] = tt
units_from p n (seat ∷ seats) = (
  record { partition = refl; unit_from = omega arith },
  each_weaker (λ (unit : UnitSeat). IsFrom p (n + 1) unit.unit) (λ (unit : UnitSeat). IsFrom p n unit.unit) (λ unit h. further p n unit.unit h)
      (numbered (unit_seat p) (n + 1) seats) (units_from p (n + 1) seats),
)

pub units_ordered : (p n : ℕ) (seats : List Seat) → Ordered SeatBefore (numbered (unit_seat p) n seats)
units_ordered p n [] = tt
units_ordered p n (seat ∷ seats) = (
  each_weaker (λ (unit : UnitSeat). IsFrom p (n + 1) unit.unit) (SeatBefore (unit_seat p n seat))
      (λ unit h. stands_before p n (unit_of p n) unit.unit refl h)
      (numbered (unit_seat p) (n + 1) seats) (units_from p (n + 1) seats),
  units_ordered p (n + 1) seats,
)

-- scripts of the partitions from partition n on
abbrev pub ArePartitions : ℕ → List Script → Type 0
ArePartitions n scripts = (i : ℕ) (script : Script) → slice_get scripts i ≡ Some script → script.partition ≡ n + i

pub partitions_behind : (n : ℕ) (first : Script) (scripts : List Script) → ArePartitions n (first ∷ scripts) → ArePartitions (n + 1) scripts
partitions_behind n first scripts are i script e = let more : n + suc i ≡ (n + 1) + i = omega arith in are (suc i) script e ∙ more

pub first_partition : (n : ℕ) (first : Script) (scripts : List Script) → ArePartitions n (first ∷ scripts) → first.partition ≡ n
first_partition n first scripts are = let e : n + 0 ≡ n = omega arith in are 0 first refl ∙ e

pub scripts_from : (n : ℕ) (scripts : List Script) → ArePartitions n scripts → Each (λ (unit : UnitSeat). n ≤ unit.unit.partition) (flat_map seats_by scripts)
scripts_from n [] are = tt
scripts_from n (script ∷ scripts) are =
    let p = first_partition n script scripts are in
    each_append (λ (unit : UnitSeat). n ≤ unit.unit.partition) (seats_by script) (flat_map seats_by scripts)
    (each_weaker (λ (unit : UnitSeat). IsFrom script.partition 0 unit.unit) (λ (unit : UnitSeat). n ≤ unit.unit.partition) (λ unit h. omega (arith, h.partition, p))
    (seats_by script) (units_from script.partition 0 script.seats.items))
    (each_weaker (λ (unit : UnitSeat). n + 1 ≤ unit.unit.partition) (λ (unit : UnitSeat). n ≤ unit.unit.partition) (λ unit h. omega (arith, h))
    (flat_map seats_by scripts) (scripts_from (n + 1) scripts (partitions_behind n script scripts are)))

pub scripts_ordered : (n : ℕ) (scripts : List Script) → ArePartitions n scripts → Ordered SeatBefore (flat_map seats_by scripts)
scripts_ordered n [] are = tt
scripts_ordered n (script ∷ scripts) are =
    let p = first_partition n script scripts are in
    let later = scripts_from (n + 1) scripts (partitions_behind n script scripts are) in
    ordered_append SeatBefore (seats_by script) (flat_map seats_by scripts)
    (units_ordered script.partition 0 script.seats.items) (scripts_ordered (n + 1) scripts (partitions_behind n script scripts are))
    (each_weaker (λ (unit : UnitSeat). IsFrom script.partition 0 unit.unit) (λ (unit : UnitSeat). Each (SeatBefore unit) (flat_map seats_by scripts))
    (λ unit h. each_weaker (λ (other : UnitSeat). n + 1 ≤ other.unit.partition) (SeatBefore unit) (λ other m. inl (omega (arith, h.partition, p, m))) (flat_map seats_by scripts) later)
    (seats_by script) (units_from script.partition 0 script.seats.items))

pub partitions_are : (pairs : List Pair) (ports : List PortSeat) (scripts : List Script) → AreScripts pairs ports scripts → ArePartitions 0 scripts
partitions_are pairs ports scripts are i script e = let same : i ≡ 0 + i = omega arith in (are i script e).number ∙ same

-- all of them
pub seats_ordered : (pairs : List Pair) (ports : List PortSeat) (scripts : List Script) → AreScripts pairs ports scripts → Ordered SeatBefore (seats_of scripts)
seats_ordered pairs ports scripts are = scripts_ordered 0 scripts (partitions_are pairs ports scripts are)
