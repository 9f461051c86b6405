-- Where the units of a plan stand: its server units in one partition.
use Rattle.std.proofs.Common.{◌≡◌, ℕ, zero, suc, ◌<◌, ◌≤◌, ◌||◌, Bool, true, false, cond, List, [], ◌∷◌, All, Option, Some, None, length, refl, sym, ◌∙◌, ap, subst, arith}
use Rattle.std.specs.List.{slice_get}
use Rattle.std.proofs.lemmas.Option.{slice_get_within, slice_get-get_or, get_or_from_slice_get}
use Rattle.vio_num.specs.declared.names.UnitId.{UnitId}
use Rattle.boot_text.specs.SoFar.{is_server, has_server}
use Rattle.boot_text.specs.Sound.{AreSound, IsServer, IsSoundPartition, unit_at, unit_in}
use Rattle.boot_text.specs.declared.plan.Partition.{Partition}
use Rattle.boot_text.specs.declared.plan.TheConstants.{MOST_UNITS}
use Rattle.boot_text.specs.declared.plan.UnitPlan.{UnitPlan}
use Rattle.boot_text.specs.declared.plan.UnitPlan.TheVariants as kinds
use Rattle.vcpu_run.specs.Machines.{home_of}
use Rattle.vcpu_run.specs.Ports.{unit_of}

-- what is so of all elements is so of one that is there
pub all_at : {X : Type 0} (P : X → Type 0) (xs : List X) (k : ℕ) (x : X) → All P xs → slice_get xs k ≡ Some x → P x
all_at P xs k x all found = subst P (get_or_from_slice_get xs k x x found) (all k x (slice_get_within xs k x found))

-- and what is so of each that is there is so of all
pub all_from : {X : Type 0} (P : X → Type 0) (xs : List X) → ((k : ℕ) (x : X) → slice_get xs k ≡ Some x → P x) → All P xs
all_from P xs each k d less = each k _ (slice_get-get_or xs k d less)

pub partition_at : (partitions : List Partition) (p : ℕ) (partition : Partition) → AreSound partitions → slice_get partitions p ≡ Some partition → IsSoundPartition partition
partition_at partitions p partition sound found = all_at IsSoundPartition partitions p partition sound.each found

-- a unit of a sound plan is of a lawful size, and has a number below 8
pub unit_found : (partition : Option Partition) (unit : ℕ) (plan : UnitPlan) → unit_in partition unit ≡ Some plan
    → (one : Partition) × (partition ≡ Some one) × (slice_get one.units unit ≡ Some plan)
unit_found (Some one) unit plan found = (one, refl, found)
unit_found None unit plan found = cc

pub unit_below : (partitions : List Partition) (id : UnitId) (plan : UnitPlan) → AreSound partitions → unit_at partitions id ≡ Some plan → id.unit < 8
unit_below partitions id plan sound found =
    let there = unit_found (slice_get partitions id.partition) id.unit plan found in
    let within : id.unit < length there.0.units = slice_get_within there.0.units id.unit plan there.2 in
    let few : length there.0.units ≤ MOST_UNITS = (partition_at partitions id.partition there.0 sound there.1).few in
    omega arith

server_is : (unit : UnitPlan) → is_server unit ≡ true → (queue : ℕ) × (unit ≡ kinds.Server queue)
server_is (kinds.Server queue) is = (queue, refl)
server_is (kinds.Client server pages queue) is = cc
server_is (kinds.Lan mac pages slots) is = cc

unit_there : (units : List UnitPlan) → 1 ≤ length units → (unit : UnitPlan) × (slice_get units 0 ≡ Some unit)
unit_there [] some = absurd (omega arith)
unit_there (unit ∷ rest) some = (unit, refl)

some_is : {X : Type 0} (x y : X) → Some x ≡ Some y → x ≡ y
some_is x y e = cc

-- units of which one is a server unit have one
has_one : (units : List UnitPlan) (u queue : ℕ) → slice_get units u ≡ Some (kinds.Server queue) → has_server units ≡ true
has_one [] u queue at = cc
has_one (first ∷ rest) zero queue at = let e : first ≡ kinds.Server queue = some_is first (kinds.Server queue) at in rw e refl
has_one (first ∷ rest) (suc u) queue at = either (is_server first) (has_one rest u queue at)
  where
    either : (b : Bool) → has_server rest ≡ true → (b || has_server rest) ≡ true
    either true e = refl
    either false e = e

-- where a partition has server units the first such is at its number
pub home_there : (partitions : List Partition) (p : ℕ) (partition : Partition) → slice_get partitions p ≡ Some partition → has_server partition.units ≡ true
    → (one : Partition) × (slice_get partitions (home_of partitions) ≡ Some one)
home_there [] p partition found has = cc
home_there (first ∷ others) zero partition found has =
    let e : has_server first.units ≡ true = ap (λ (one : Partition). has_server one.units) (some_is first partition found) ∙ has in
    (first, ap (λ b. slice_get (first ∷ others) (cond b zero (suc (home_of others)))) e)
home_there (first ∷ others) (suc p) partition found has = at (has_server first.units) (home_there others p partition found has)
  where
    at : (b : Bool) → (one : Partition) × (slice_get others (home_of others) ≡ Some one)
        → (one : Partition) × (slice_get (first ∷ others) (cond b zero (suc (home_of others))) ≡ Some one)
    at true there = (first, refl)
    at false there = there

-- and the partition at that number has server units, and no other ones
pub home_has : (partitions : List Partition) (home : Partition) → slice_get partitions (home_of partitions) ≡ Some home → has_server home.units ≡ true
home_has [] home found = cc
home_has (first ∷ others) home found = at (has_server first.units) refl (λ there. home_has others home there) found
  where
    at : (b : Bool) → has_server first.units ≡ b → (slice_get others (home_of others) ≡ Some home → has_server home.units ≡ true)
        → slice_get (first ∷ others) (cond b zero (suc (home_of others))) ≡ Some home → has_server home.units ≡ true
    at true is rest there = ap (λ (one : Partition). has_server one.units) (sym (some_is first home there)) ∙ is
    at false is rest there = rest there

pub home_serves : (partitions : List Partition) (home : Partition) → AreSound partitions → slice_get partitions (home_of partitions) ≡ Some home
    → All (λ unit. is_server unit ≡ true) home.units
home_serves partitions home sound found = (partition_at partitions (home_of partitions) home sound found).alone (home_has partitions home found)

-- a server unit is one of the partition at that number
pub at_home : (partitions : List Partition) (server : UnitId) → AreSound partitions → IsServer partitions server
    → (home : Partition) × (slice_get partitions (home_of partitions) ≡ Some home) × (server.partition ≡ home_of partitions)
at_home partitions server sound is =
    let there = unit_found (slice_get partitions server.partition) server.unit (kinds.Server is.0) is.1 in
    let home = home_there partitions server.partition there.0 there.1 (has_one there.0.units server.unit is.0 there.2) in
    let unit = unit_there home.0.units (partition_at partitions (home_of partitions) home.0 sound home.1).some in
    let first = server_is unit.0 (all_at (λ unit. is_server unit ≡ true) home.0.units 0 unit.0 (home_serves partitions home.0 sound home.1) unit.1) in (
      home.0,
      home.1,
      sound.one_home server (unit_of (home_of partitions) 0) is (first.0, ap (λ partition. unit_in partition 0) home.1 ∙ (unit.1 ∙ ap Some first.1)),
    )

-- where no partition is at that number there is no server unit
pub no_home : (partitions : List Partition) (server : UnitId) → AreSound partitions → slice_get partitions (home_of partitions) ≡ None → IsServer partitions server → ⊥
no_home partitions server sound none is = (let there = at_home partitions server sound is in nothing (slice_get partitions (home_of partitions)) there.0 none there.1)
  where
    nothing : (slot : Option Partition) (one : Partition) → slot ≡ None → slot ≡ Some one → ⊥
    nothing slot one e e' = cc

-- it is at most the number of partitions
pub home_within : (partitions : List Partition) → home_of partitions ≤ length partitions
home_within [] = omega arith
home_within (first ∷ others) = at (has_server first.units) (home_within others)
  where
    at : (b : Bool) → home_of others ≤ length others → cond b zero (suc (home_of others)) ≤ length (first ∷ others)
    at true less = omega arith
    at false less = omega (arith, less)
