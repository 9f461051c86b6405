-- The LAN ports of a plan: each is found by its name, they stand in the order of their names, and there are few.
use Rattle.std.proofs.Common.{◌≡◌, ◌∙◌, ℕ, zero, suc, ◌+◌, ◌<◌, ◌≤◌, true, false, cond, List, [], ◌∷◌, ◌++◌, Some, length, slice_get, refl, sym, ap, subst, arith, append_assoc, append-nil, get_or, length-append, take}
use Rattle.std.specs.List.{sum_by}
use Rattle.std.proofs.Math.Seq.{take-suc}
use Rattle.std.proofs.lemmas.Bool.Decides.{nat_tests}
use Rattle.std.proofs.lemmas.List.{length-take}
use Rattle.std.proofs.lemmas.List.Sums.{sum_by-cons}
use Rattle.vio_num.specs.declared.names.Mac.{Mac}
use Rattle.vio_num.specs.declared.names.UnitId.{UnitId}
use Rattle.boot_text.specs.SoFar.{is_port, ports_in as port_count}
use Rattle.boot_text.specs.Sound.{AreSound}
use Rattle.boot_text.specs.declared.plan.Partition.{Partition}
use Rattle.boot_text.specs.declared.plan.TheConstants.{MOST_PORTS}
use Rattle.boot_text.specs.declared.plan.UnitPlan.{UnitPlan}
use Rattle.boot_text.specs.declared.plan.UnitPlan.TheVariants as kinds
use Rattle.lan_script.specs.Seats.{seat_at}
use Rattle.lan_switch.specs.Switch.{same_unit}
use Rattle.lan_script.specs.declared.seat.PortSeat.{PortSeat}
use Rattle.vcpu_run.specs.Ports.{port_of, ports_from, ports_in, ports_of, unit_of}

-- a unit as a port
abbrev pub port : UnitId → Mac → (pages slots : ℕ) → PortSeat
port unit mac pages slots = record { unit = unit; mac = mac; pages = pages; slots = slots }

some_is : {X : Type 0} (x y : X) → Some x ≡ Some y → x ≡ y
some_is x y e = cc

-- whether one unit's name is another's
same_name : (p u : ℕ) → same_unit (unit_of p u) (unit_of p u) ≡ true
same_name p u = grind (arith, nat_tests)

other_unit : (p n u : ℕ) → n < u → same_unit (unit_of p n) (unit_of p u) ≡ false
other_unit p n u less = grind (arith, nat_tests)

other_partition : (p q n u : ℕ) → p < q → same_unit (unit_of p n) (unit_of q u) ≡ false
other_partition p q n u less = grind (arith, nat_tests)

-- a seat of another unit is passed
passed : (seat : PortSeat) (seats : List PortSeat) (unit : UnitId) → same_unit seat.unit unit ≡ false → seat_at (seat ∷ seats) unit ≡ seat_at seats unit
passed seat seats unit e = ap (λ b. cond b (Some seat) (seat_at seats unit)) e

one_passed : (id : UnitId) (unit : UnitPlan) (rest : List PortSeat) (other : UnitId) → same_unit id other ≡ false
    → seat_at (port_of id unit ++ rest) other ≡ seat_at rest other
one_passed id (kinds.Server queue) rest other e = refl
one_passed id (kinds.Client server pages queue) rest other e = refl
one_passed id (kinds.Lan mac pages slots) rest other e = passed (port id mac pages slots) rest other e

-- the ports of an earlier partition are passed
all_passed : (p q n u : ℕ) (units : List UnitPlan) (rest : List PortSeat) → p < q → seat_at (ports_in p n units ++ rest) (unit_of q u) ≡ seat_at rest (unit_of q u)
all_passed p q n u [] rest less = refl
all_passed p q n u (first ∷ units) rest less =
    ap (λ seats. seat_at seats (unit_of q u)) (append_assoc (port_of (unit_of p n) first) (ports_in p (n + 1) units) rest)
    ∙ (one_passed (unit_of p n) first (ports_in p (n + 1) units ++ rest) (unit_of q u) (other_partition p q n u less)
    ∙ all_passed p q (n + 1) u units rest less)

-- a port of the partition is found
found_in : (p n i : ℕ) (units : List UnitPlan) (rest : List PortSeat) (mac : Mac) (pages slots : ℕ) → slice_get units i ≡ Some (kinds.Lan mac pages slots)
    → seat_at (ports_in p n units ++ rest) (unit_of p (n + i)) ≡ Some (port (unit_of p (n + i)) mac pages slots)
found_in p n i [] rest mac pages slots e = cc
found_in p n zero (first ∷ units) rest mac pages slots e =
    let same : n ≡ n + 0 = omega arith in
    let head : seat_at (ports_in p n (kinds.Lan mac pages slots ∷ units) ++ rest) (unit_of p n) ≡ Some (port (unit_of p n) mac pages slots) =
    ap (λ b. cond b (Some (port (unit_of p n) mac pages slots)) (seat_at (ports_in p (n + 1) units ++ rest) (unit_of p n))) (same_name p n) in
    subst (λ k. seat_at (ports_in p n (first ∷ units) ++ rest) (unit_of p k) ≡ Some (port (unit_of p k) mac pages slots)) same
    (subst (λ (unit : UnitPlan). seat_at (ports_in p n (unit ∷ units) ++ rest) (unit_of p n) ≡ Some (port (unit_of p n) mac pages slots))
    (sym (some_is first (kinds.Lan mac pages slots) e)) head)
found_in p n (suc i) (first ∷ units) rest mac pages slots e =
    let next : (n + 1) + i ≡ n + suc i = omega arith in
    ap (λ seats. seat_at seats (unit_of p (n + suc i))) (append_assoc (port_of (unit_of p n) first) (ports_in p (n + 1) units) rest)
    ∙ (one_passed (unit_of p n) first (ports_in p (n + 1) units ++ rest) (unit_of p (n + suc i)) (other_unit p n (n + suc i) (omega arith))
    ∙ subst (λ k. seat_at (ports_in p (n + 1) units ++ rest) (unit_of p k) ≡ Some (port (unit_of p k) mac pages slots)) next
    (found_in p (n + 1) i units rest mac pages slots e))

found_from : (n i u : ℕ) (partitions : List Partition) (partition : Partition) (mac : Mac) (pages slots : ℕ) → slice_get partitions i ≡ Some partition
    → slice_get partition.units u ≡ Some (kinds.Lan mac pages slots)
    → seat_at (ports_from n partitions) (unit_of (n + i) u) ≡ Some (port (unit_of (n + i) u) mac pages slots)
found_from n i u [] partition mac pages slots e e' = cc
found_from n zero u (first ∷ others) partition mac pages slots e e' =
    let same : n ≡ n + 0 = omega arith in
    let none : 0 + u ≡ u = omega arith in
    let here : slice_get first.units u ≡ Some (kinds.Lan mac pages slots) = ap (λ (p : Partition). slice_get p.units u) (some_is first partition e) ∙ e' in
    subst (λ k. seat_at (ports_from n (first ∷ others)) (unit_of k u) ≡ Some (port (unit_of k u) mac pages slots)) same
    (subst (λ k. seat_at (ports_from n (first ∷ others)) (unit_of n k) ≡ Some (port (unit_of n k) mac pages slots)) none
    (found_in n 0 u first.units (ports_from (n + 1) others) mac pages slots here))
found_from n (suc i) u (first ∷ others) partition mac pages slots e e' =
    let next : (n + 1) + i ≡ n + suc i = omega arith in
    all_passed n (n + suc i) 0 u first.units (ports_from (n + 1) others) (omega arith)
    ∙ subst (λ k. seat_at (ports_from (n + 1) others) (unit_of k u) ≡ Some (port (unit_of k u) mac pages slots)) next
    (found_from (n + 1) i u others partition mac pages slots e e')

-- a port of the plan is found by its name, with the plan's sizes
pub port_found : (partitions : List Partition) (p u : ℕ) (partition : Partition) (mac : Mac) (pages slots : ℕ) → slice_get partitions p ≡ Some partition
    → slice_get partition.units u ≡ Some (kinds.Lan mac pages slots) → seat_at (ports_of partitions) (unit_of p u) ≡ Some (port (unit_of p u) mac pages slots)
port_found partitions p u partition mac pages slots e e' =
    let none : 0 + p ≡ p = omega arith in
    subst (λ k. seat_at (ports_from 0 partitions) (unit_of k u) ≡ Some (port (unit_of k u) mac pages slots)) none
    (found_from 0 p u partitions partition mac pages slots e e')

-- there are as many as the plan says

count_one : (id : UnitId) (unit : UnitPlan) → length (port_of id unit) ≡ cond (is_port unit) 1 0
count_one id (kinds.Server queue) = refl
count_one id (kinds.Client server pages queue) = refl
count_one id (kinds.Lan mac pages slots) = refl

count_in : (p n : ℕ) (units : List UnitPlan) → length (ports_in p n units) ≡ port_count units
count_in p n [] = refl
count_in p n (first ∷ units) =
    let more = length-append (port_of (unit_of p n) first) (ports_in p (n + 1) units) in
    let sum : port_count (first ∷ units) ≡ cond (is_port first) 1 0 + port_count units = sum_by-cons (λ (x : UnitPlan). cond (is_port x) 1 0) first units in
    more ∙ (ap (λ k. k + length (ports_in p (n + 1) units)) (count_one (unit_of p n) first)
    ∙ (ap (λ k. cond (is_port first) 1 0 + k) (count_in p (n + 1) units) ∙ sym sum))

count_from : (n : ℕ) (partitions : List Partition) → length (ports_from n partitions) ≡ sum_by (λ (partition : Partition). port_count partition.units) partitions
count_from n [] = refl
count_from n (first ∷ others) =
    length-append (ports_in n 0 first.units) (ports_from (n + 1) others)
    ∙ (ap (λ k. k + length (ports_from (n + 1) others)) (count_in n 0 first.units)
    ∙ (ap (λ k. port_count first.units + k) (count_from (n + 1) others)
    ∙ sym (sum_by-cons (λ (partition : Partition). port_count partition.units) first others)))

pub ports_few : (partitions : List Partition) → AreSound partitions → length (ports_of partitions) ≤ 16
ports_few partitions sound =
    let count = count_from 0 partitions in
    let few : sum_by (λ (partition : Partition). port_count partition.units) partitions ≤ MOST_PORTS = sound.few_ports in
    omega (arith, count, few)

-- those of one unit, and of one partition, more

in_append : (p n : ℕ) (units more : List UnitPlan) → ports_in p n (units ++ more) ≡ ports_in p n units ++ ports_in p (n + length units) more
in_append p n [] more = let same : n ≡ n + 0 = omega arith in ap (λ k. ports_in p k more) same
in_append p n (first ∷ units) more =
    let next : (n + 1) + length units ≡ n + length (first ∷ units) = omega arith in
    ap (λ rest. port_of (unit_of p n) first ++ rest) (in_append p (n + 1) units more ∙ ap (λ k. ports_in p (n + 1) units ++ ports_in p k more) next)
    ∙ sym (append_assoc (port_of (unit_of p n) first) (ports_in p (n + 1) units) (ports_in p (n + length (first ∷ units)) more))

from_append : (n : ℕ) (partitions more : List Partition) → ports_from n (partitions ++ more) ≡ ports_from n partitions ++ ports_from (n + length partitions) more
from_append n [] more = let same : n ≡ n + 0 = omega arith in ap (λ k. ports_from k more) same
from_append n (first ∷ partitions) more =
    let next : (n + 1) + length partitions ≡ n + length (first ∷ partitions) = omega arith in
    ap (λ rest. ports_in n 0 first.units ++ rest) (from_append (n + 1) partitions more ∙ ap (λ k. ports_from (n + 1) partitions ++ ports_from k more) next)
    ∙ sym (append_assoc (ports_in n 0 first.units) (ports_from (n + 1) partitions) (ports_from (n + length (first ∷ partitions)) more))

one_more : {X : Type 0} (xs : List X) (i : ℕ) (x : X) → i < length xs → x ≡ get_or xs i x → take (i + 1) xs ≡ take i xs ++ x ∷ []
one_more xs i x less is =
    let next : suc i ≡ i + 1 = omega arith in
    subst (λ k. take k xs ≡ take i xs ++ x ∷ []) next (take-suc xs i x less ∙ ap (λ y. take i xs ++ y ∷ []) (sym is))

pub ports_step : (p : ℕ) (units : List UnitPlan) (i : ℕ) (unit : UnitPlan) → i < length units → unit ≡ get_or units i unit
    → ports_in p 0 (take (i + 1) units) ≡ ports_in p 0 (take i units) ++ port_of (unit_of p i) unit
ports_step p units i unit less is =
    let long : 0 + length (take i units) ≡ i = omega (arith, length-take i units, less) in
    ap (ports_in p 0) (one_more units i unit less is)
    ∙ (in_append p 0 (take i units) (unit ∷ []) ∙ ap (λ k. ports_in p 0 (take i units) ++ ports_in p k (unit ∷ [])) long
    ∙ ap (λ more. ports_in p 0 (take i units) ++ more) (append-nil (port_of (unit_of p i) unit)))

pub partition_step : (partitions : List Partition) (i : ℕ) (partition : Partition) (old new : List PortSeat) → i < length partitions → partition ≡ get_or partitions i partition
    → old ≡ ports_from 0 (take i partitions) → new ≡ old ++ ports_in i 0 partition.units → new ≡ ports_from 0 (take (i + 1) partitions)
partition_step partitions i partition old new less is was grown =
    let long : 0 + length (take i partitions) ≡ i = omega (arith, length-take i partitions, less) in
    let whole : ports_from 0 (take (i + 1) partitions) ≡ ports_from 0 (take i partitions) ++ ports_in i 0 partition.units =
    ap (ports_from 0) (one_more partitions i partition less is)
    ∙ (from_append 0 (take i partitions) (partition ∷ []) ∙ ap (λ k. ports_from 0 (take i partitions) ++ ports_from k (partition ∷ [])) long
    ∙ ap (λ more. ports_from 0 (take i partitions) ++ more) (append-nil (ports_in i 0 partition.units))) in
    grown ∙ (ap (λ rows. rows ++ ports_in i 0 partition.units) was ∙ sym whole)
