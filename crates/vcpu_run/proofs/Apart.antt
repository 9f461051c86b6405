-- No window is at two pairs of a plan's server units.
use Rattle.std.proofs.Common.{◌≡◌, ◌∙◌, ◌⊎◌, inl, inr, ℕ, ◌+◌, ◌<◌, List, Option, Some, None, IfNone, IfSome, MatchOption, sym, ap, arith}
use Rattle.vio_num.specs.declared.names.UnitId.{UnitId}
use Rattle.rdma_copy.specs.declared.copy.CopyRecord.{CopyRecord}
use Rattle.boot_text.specs.Sound.{unit_at, AreSound}
use Rattle.boot_text.specs.declared.plan.Partition.{Partition}
use Rattle.boot_text.specs.declared.plan.UnitPlan.TheVariants as units
use Rattle.vcpu_run.specs.declared.driver.Driver.{Driver}
use Rattle.vcpu_run.specs.declared.pair.Pair.{Pair}
use Rattle.vcpu_run.specs.Machines.{ArePlanned, HasNoClient, IsPlanned, IsPlannedClient}
use Rattle.vcpu_run.specs.Named.{HasWindow, WindowsAreApart, absent_unit}
use Rattle.vcpu_run.specs.Pairs.{ArePairs, IsDriver, IsPair}
use Rattle.vcpu_run.proofs.Homes.{unit_below}

-- a pair's second window is a client's of its server unit, or of a unit that no plan has
abbrev IsOfClient : List Partition → Pair → Type 0
IsOfClient partitions pair = (pages : ℕ) × (queue : ℕ) × (unit_at partitions pair.window.unit ≡ Some (units.Client pair.server pages queue))

abbrev WindowIs : List Partition → Pair → Type 0
WindowIs partitions pair = IsOfClient partitions pair ⊎ (pair.window.unit ≡ absent_unit pair.server)

window_is : (partitions : List Partition) (pair : Pair) (driver : Option Driver) → IfSome driver (IsDriver pair.window)
    → IfNone driver (pair.window.unit ≡ absent_unit pair.server) → MatchOption driver (HasNoClient partitions pair.server) (IsPlannedClient partitions pair)
    → WindowIs partitions pair
window_is partitions pair None is absent planned = inr absent
window_is partitions pair (Some driver) is absent planned =
    inl (planned.pages, planned.queue, ap (unit_at partitions) is.unit ∙ planned.planned)

same_server : (a b : UnitId) (pages queue pages' queue' : ℕ) → Some (units.Client a pages queue) ≡ Some (units.Client b pages' queue') → a ≡ b
same_server a b pages queue pages' queue' e = cc

no_server : (partitions : List Partition) (id server : UnitId) (pages queue slots : ℕ) → unit_at partitions id ≡ Some (units.Client server pages queue)
    → unit_at partitions id ≡ Some (units.Server slots) → ⊥
no_server partitions id server pages queue slots client other = cc

-- a unit of the plan is none of those that no plan has
not_absent : (id server : UnitId) → id.unit < 8 → id ≡ absent_unit server → ⊥
not_absent id server below e = let same : id.unit ≡ 128 + server.unit = ap (λ (u : UnitId). u.unit) e in omega (arith, below, same)

-- a server unit's window is no client's
not_own : (partitions : List Partition) (j k : ℕ) (a b : Pair) → AreSound partitions → IsPlanned partitions j a → WindowIs partitions b → a.server ≡ b.window.unit → ⊥
not_own partitions j k a b sound planned (inl client) e =
    no_server partitions b.window.unit b.server client.0 client.1 planned.pages client.2 (ap (unit_at partitions) (sym e) ∙ planned.planned)
not_own partitions j k a b sound planned (inr absent) e =
    not_absent a.server b.server (unit_below partitions a.server (units.Server planned.pages) sound planned.planned) (e ∙ absent)

-- windows of clients of two server units are two
same_window : (partitions : List Partition) (a b : Pair) → AreSound partitions → WindowIs partitions a → WindowIs partitions b
    → a.window.unit ≡ b.window.unit → a.server.unit ≡ b.server.unit
same_window partitions a b sound (inl x) (inl y) e =
    ap (λ (u : UnitId). u.unit) (same_server a.server b.server x.0 x.1 y.0 y.1 (sym x.2 ∙ (ap (unit_at partitions) e ∙ y.2)))
same_window partitions a b sound (inl x) (inr absent) e =
    absurd (not_absent a.window.unit b.server (unit_below partitions a.window.unit (units.Client a.server x.0 x.1) sound x.2) (e ∙ absent))
same_window partitions a b sound (inr absent) (inl y) e =
    absurd (not_absent b.window.unit a.server (unit_below partitions b.window.unit (units.Client b.server y.0 y.1) sound y.2) (sym e ∙ absent))
same_window partitions a b sound (inr x) (inr y) e =
    let same : 128 + a.server.unit ≡ 128 + b.server.unit = ap (λ (u : UnitId). u.unit) (sym x ∙ (e ∙ y)) in omega (arith, same)

pub pairs_apart : (partitions : List Partition) (home : ℕ) (copies : List CopyRecord) (pairs : List Pair) → AreSound partitions → ArePlanned partitions pairs
    → ArePairs home copies pairs → WindowsAreApart pairs
pairs_apart partitions home copies pairs sound planned are j k a b unit at_j at_k has_a has_b = by has_a has_b
  where
    x : IsPair home copies j a
    x = are j a at_j

    y : IsPair home copies k b
    y = are k b at_k

    plan_x : IsPlanned partitions j a
    plan_x = planned.each j a at_j

    plan_y : IsPlanned partitions k b
    plan_y = planned.each k b at_k

    window_x : WindowIs partitions a
    window_x = window_is partitions a a.driver x.driver x.absent plan_x.client

    window_y : WindowIs partitions b
    window_y = window_is partitions b b.driver y.driver y.absent plan_y.client

    by : HasWindow unit a → HasWindow unit b → j ≡ k
    by (inl e) (inl f) = sym plan_x.number ∙ (ap (λ (u : UnitId). u.unit) (sym x.own_unit ∙ (e ∙ (sym f ∙ y.own_unit))) ∙ plan_y.number)
    by (inl e) (inr f) = absurd (not_own partitions j k a b sound plan_x window_y (sym x.own_unit ∙ (e ∙ sym f)))
    by (inr e) (inl f) = absurd (not_own partitions k j b a sound plan_y window_x (sym y.own_unit ∙ (f ∙ sym e)))
    by (inr e) (inr f) = sym plan_x.number ∙ (same_window partitions a b sound window_x window_y (e ∙ sym f) ∙ plan_y.number)
