-- The LAN ports of a plan stand in the order of their names, and are of lawful sizes.
use Rattle.std.proofs.Common.{ℕ, ◌+◌, ◌*◌, ◌<◌, ◌≤◌, List, [], ◌∷◌, ◌++◌, All, length, map, sym, subst, arith}
use Rattle.std.proofs.lemmas.List.{map-append}
use Rattle.std.proofs.lemmas.List.Elements.{All-append, All-head, All-tail}
use Rattle.vio_num.specs.declared.names.UnitId.{UnitId}
use Rattle.boot_text.specs.Sound.{AreSound, IsSized, IsSoundPartition}
use Rattle.boot_text.specs.declared.plan.Partition.{Partition}
use Rattle.boot_text.specs.declared.plan.TheConstants.{MOST_UNITS}
use Rattle.boot_text.specs.declared.plan.UnitPlan.{UnitPlan}
use Rattle.boot_text.specs.declared.plan.UnitPlan.TheVariants as kinds
use Rattle.lan_script.specs.Seats.{IsSizedSeat}
use Rattle.lan_switch.specs.Calls.{IsOwnAddress}
use Rattle.lan_switch.specs.Switch.{AreAscending, order_of}
use Rattle.lan_script.specs.declared.seat.PortSeat.{PortSeat}
use Rattle.vcpu_run.specs.Ports.{ports_from, ports_in, ports_of, unit_of}
use Rattle.lan_script.proofs.Order.{Each, each_append, each_weaker}
use Rattle.vcpu_run.proofs.Sole.{all_from_each}

abbrev ids : List PortSeat → List UnitId
ids seats = map (λ (seat : PortSeat). seat.unit) seats

abbrev IsBetween : (least most : ℕ) → UnitId → Type 0
IsBetween least most unit = (least ≤ order_of unit) × (order_of unit < most)

wider : (a b c d : ℕ) (units : List UnitId) → c ≤ a → b ≤ d → Each (IsBetween a b) units → Each (IsBetween c d) units
wider a b c d units low high all = each_weaker (IsBetween a b) (IsBetween c d) (λ unit h. (omega (arith, low, h.0), omega (arith, high, h.1))) units all

in_between : (p n : ℕ) (units : List UnitPlan) → Each (IsBetween (p * 256 + n) (p * 256 + n + length units)) (ids (ports_in p n units))
in_between p n [] = tt
in_between p n (kinds.Server queue ∷ units) = wider _ _ _ _ (ids (ports_in p (n + 1) units)) (omega arith) (omega arith) (in_between p (n + 1) units)
in_between p n (kinds.Client server pages queue ∷ units) = wider _ _ _ _ (ids (ports_in p (n + 1) units)) (omega arith) (omega arith) (in_between p (n + 1) units)
in_between p n (kinds.Lan mac pages slots ∷ units) =
    ((omega arith, omega arith), wider _ _ _ _ (ids (ports_in p (n + 1) units)) (omega arith) (omega arith) (in_between p (n + 1) units))

in_ascends : (p n : ℕ) (units : List UnitPlan) → AreAscending (ids (ports_in p n units))
in_ascends p n [] = tt
in_ascends p n (kinds.Server queue ∷ units) = in_ascends p (n + 1) units
in_ascends p n (kinds.Client server pages queue ∷ units) = in_ascends p (n + 1) units
in_ascends p n (kinds.Lan mac pages slots ∷ units) = (
  all_from_each (λ (other : UnitId). order_of (unit_of p n) < order_of other) (ids (ports_in p (n + 1) units))
      (each_weaker (IsBetween (p * 256 + (n + 1)) (p * 256 + (n + 1) + length units)) (λ (other : UnitId). order_of (unit_of p n) < order_of other)
      (λ other h. omega (arith, h.0)) (ids (ports_in p (n + 1) units)) (in_between p (n + 1) units)),
  in_ascends p (n + 1) units,
)

ascends_append : (xs ys : List UnitId) → AreAscending xs → AreAscending ys → Each (λ x. Each (λ y. order_of x < order_of y) ys) xs → AreAscending (xs ++ ys)
ascends_append [] ys hx hy between = hy
ascends_append (x ∷ xs) ys hx hy between = (
  All-append (λ (y : UnitId). order_of x < order_of y) xs ys hx.0 (all_from_each (λ (y : UnitId). order_of x < order_of y) ys between.0),
  ascends_append xs ys hx.1 hy between.1,
)

from_above : (n : ℕ) (partitions : List Partition) → Each (λ (unit : UnitId). n * 256 ≤ order_of unit) (ids (ports_from n partitions))
from_above n [] = tt
from_above n (first ∷ others) =
    subst (Each (λ (unit : UnitId). n * 256 ≤ order_of unit)) (sym (map-append (λ (seat : PortSeat). seat.unit) (ports_in n 0 first.units) (ports_from (n + 1) others)))
    (each_append (λ (unit : UnitId). n * 256 ≤ order_of unit) (ids (ports_in n 0 first.units)) (ids (ports_from (n + 1) others))
    (each_weaker (IsBetween (n * 256 + 0) (n * 256 + 0 + length first.units)) (λ (unit : UnitId). n * 256 ≤ order_of unit) (λ unit h. omega (arith, h.0))
    (ids (ports_in n 0 first.units)) (in_between n 0 first.units))
    (each_weaker (λ (unit : UnitId). (n + 1) * 256 ≤ order_of unit) (λ (unit : UnitId). n * 256 ≤ order_of unit) (λ unit h. omega (arith, h))
    (ids (ports_from (n + 1) others)) (from_above (n + 1) others)))

from_ascends : (n : ℕ) (partitions : List Partition) → All IsSoundPartition partitions → AreAscending (ids (ports_from n partitions))
from_ascends n [] sound = tt
from_ascends n (first ∷ others) sound =
    let own = All-head IsSoundPartition first others sound in
    let few : length first.units ≤ MOST_UNITS = own.few in
    let later = ids (ports_from (n + 1) others) in
    subst AreAscending (sym (map-append (λ (seat : PortSeat). seat.unit) (ports_in n 0 first.units) (ports_from (n + 1) others)))
    (ascends_append (ids (ports_in n 0 first.units)) later (in_ascends n 0 first.units) (from_ascends (n + 1) others (All-tail IsSoundPartition first others sound))
    (each_weaker (IsBetween (n * 256 + 0) (n * 256 + 0 + length first.units)) (λ (x : UnitId). Each (λ (y : UnitId). order_of x < order_of y) later)
    (λ x h. each_weaker (λ (y : UnitId). (n + 1) * 256 ≤ order_of y) (λ (y : UnitId). order_of x < order_of y) (λ y m. omega (arith, h.1, m, few)) later (from_above (n + 1) others))
    (ids (ports_in n 0 first.units)) (in_between n 0 first.units)))

pub ports_ascend : (partitions : List Partition) → AreSound partitions → AreAscending (map (λ (seat : PortSeat). seat.unit) (ports_of partitions))
ports_ascend partitions sound = from_ascends 0 partitions sound.each

-- their sizes

in_sized : (p n : ℕ) (units : List UnitPlan) → All IsSized units → Each IsSizedSeat (ports_in p n units)
in_sized p n [] sized = tt
in_sized p n (kinds.Server queue ∷ units) sized = in_sized p (n + 1) units (All-tail IsSized (kinds.Server queue) units sized)
in_sized p n (kinds.Client server pages queue ∷ units) sized = in_sized p (n + 1) units (All-tail IsSized (kinds.Client server pages queue) units sized)
in_sized p n (kinds.Lan mac pages slots ∷ units) sized =
    let own : IsSized (kinds.Lan mac pages slots) = All-head IsSized (kinds.Lan mac pages slots) units sized in (
      (own.0, own.1),
      in_sized p (n + 1) units (All-tail IsSized (kinds.Lan mac pages slots) units sized),
    )

from_sized : (n : ℕ) (partitions : List Partition) → All IsSoundPartition partitions → Each IsSizedSeat (ports_from n partitions)
from_sized n [] sound = tt
from_sized n (first ∷ others) sound =
    each_append IsSizedSeat (ports_in n 0 first.units) (ports_from (n + 1) others)
    (in_sized n 0 first.units (All-head IsSoundPartition first others sound).sized)
    (from_sized (n + 1) others (All-tail IsSoundPartition first others sound))

pub ports_sized : (partitions : List Partition) → AreSound partitions → All IsSizedSeat (ports_of partitions)
ports_sized partitions sound = all_from_each IsSizedSeat (ports_of partitions) (from_sized 0 partitions sound.each)

-- their addresses

abbrev pub IsOwnSeat : PortSeat → Type 0
IsOwnSeat seat = IsOwnAddress seat.mac

in_own : (p n : ℕ) (units : List UnitPlan) → All IsSized units → Each IsOwnSeat (ports_in p n units)
in_own p n [] sized = tt
in_own p n (kinds.Server queue ∷ units) sized = in_own p (n + 1) units (All-tail IsSized (kinds.Server queue) units sized)
in_own p n (kinds.Client server pages queue ∷ units) sized = in_own p (n + 1) units (All-tail IsSized (kinds.Client server pages queue) units sized)
in_own p n (kinds.Lan mac pages slots ∷ units) sized =
    let own : IsSized (kinds.Lan mac pages slots) = All-head IsSized (kinds.Lan mac pages slots) units sized in (
      record { one = own.2.one; some = own.2.some },
      in_own p (n + 1) units (All-tail IsSized (kinds.Lan mac pages slots) units sized),
    )

from_own : (n : ℕ) (partitions : List Partition) → All IsSoundPartition partitions → Each IsOwnSeat (ports_from n partitions)
from_own n [] sound = tt
from_own n (first ∷ others) sound =
    each_append IsOwnSeat (ports_in n 0 first.units) (ports_from (n + 1) others)
    (in_own n 0 first.units (All-head IsSoundPartition first others sound).sized)
    (from_own (n + 1) others (All-tail IsSoundPartition first others sound))

pub ports_own : (partitions : List Partition) → AreSound partitions → All IsOwnSeat (ports_of partitions)
ports_own partitions sound = all_from_each IsOwnSeat (ports_of partitions) (from_own 0 partitions sound.each)
