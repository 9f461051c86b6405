-- What lasts of a machine over its rounds.
use Rattle.std.proofs.Common.{◌≡◌, ℕ, ◌≤◌, ◌++◌, List, Option, Some, None, MatchOption, length, take, drop, sym, ◌∙◌, ap, subst, arith, append-nil}
use Rattle.std.specs.List.{slice_get}
use Rattle.rdma_copy.specs.declared.copy.CopyRecord.{CopyRecord}
use Rattle.std.proofs.lemmas.List.{drop_all, take_all}
use Rattle.boot_text.specs.Sound.{unit_at}
use Rattle.boot_text.specs.declared.plan.Partition.{Partition}
use Rattle.boot_text.specs.declared.plan.UnitPlan.TheVariants as units
use Rattle.lan_script.specs.declared.seat.PortSeat.{PortSeat}
use Rattle.vio_num.specs.declared.names.UnitId.{UnitId}
use Rattle.vcpu_run.specs.declared.driver.Driver.{Driver}
use Rattle.vcpu_run.specs.declared.pair.Pair.{Pair}
use Rattle.vcpu_run.specs.declared.script.Script.{Script}
use Rattle.vcpu_run.specs.Machines.{AllRun, AllStay, ArePlanned, AreScriptsOf, HasNoClient, IsOfPlan, IsPlanned, IsPlannedClient, IsScriptFor, IsServing, KeepsDriver, Stays}
use Rattle.vcpu_run.specs.Pairs.{ArePairs}
use Rattle.vcpu_run.proofs.PairNames.{apart_stays}
use Rattle.vcpu_run.specs.Scripts.{OnlyRuns}
use Rattle.vcpu_run.proofs.Listed.{came_from, held, held_then}

-- the server's units keep their pairs over the turns of the clients
pub serving_stays : (partition count : ℕ) (copies : List CopyRecord) (old new : List Pair) → AllStay old new
    → ((home : ℕ) (copies : List CopyRecord) → ArePairs home copies old → ArePairs home copies new)
    → IsServing partition count copies old → IsServing partition count copies new
serving_stays partition count copies old new stay pairs is = record {
  apart = apart_stays old new stay is.apart;
  each = is.each ∙ sym stay.count;
  few = subst (λ n. n ≤ 8) (sym stay.count) is.few;
  pairs_are = pairs partition copies is.pairs_are;
}

client_stays : (partitions : List Partition) (old new : Pair) (before after : Option Driver) → Stays old new → KeepsDriver before after
    → MatchOption before (HasNoClient partitions old.server) (IsPlannedClient partitions old)
    → MatchOption after (HasNoClient partitions new.server) (IsPlannedClient partitions new)
client_stays partitions old new None None stays keeps is = subst (HasNoClient partitions) (sym stays.server) is
client_stays partitions old new None (Some after) stays keeps is = cc
client_stays partitions old new (Some before) None stays keeps is = absurd keeps
client_stays partitions old new (Some before) (Some after) stays keeps is = record {
  pages = is.pages;
  queue = is.queue;
  planned = ap (unit_at partitions) keeps ∙ (is.planned ∙ ap (λ (u : UnitId). Some (units.Client u is.pages is.queue)) (sym stays.server));
  slots = stays.client_slots ∙ is.slots;
  region = stays.pages ∙ is.region;
}

pair_stays : (partitions : List Partition) (k : ℕ) (old new : Pair) → Stays old new → IsPlanned partitions k old → IsPlanned partitions k new
pair_stays partitions k old new stays is = record {
  number = ap (λ (u : UnitId). u.unit) stays.server ∙ is.number;
  pages = is.pages;
  planned = ap (unit_at partitions) stays.server ∙ is.planned;
  slots = stays.server_slots ∙ is.slots;
  client = client_stays partitions old new old.driver new.driver stays stays.driver is.client;
}

planned_stay : (partitions : List Partition) (old new : List Pair) → AllStay old new → ArePlanned partitions old → ArePlanned partitions new
planned_stay partitions old new stay are = record {
  servers = λ server is.
      let pair = held (λ (pair : Pair). pair.server ≡ server) (slice_get old server.unit) (are.servers server is) in
      held_then (Stays pair.0) (λ (later : Pair). later.server ≡ server) (slice_get new server.unit)
      (λ later stays. stays.server ∙ pair.2) (stay.each server.unit pair.0 pair.1);
  each = λ k pair found.
      let from = came_from Stays old new stay.count stay.each k pair found in
      pair_stays partitions k from.0 pair from.2 (are.each k from.0 from.1);
}

script_runs : (partition : Partition) (old new : Script) → OnlyRuns old new → IsScriptFor partition old → IsScriptFor partition new
script_runs partition old new rest is = record { lines = rw rest.lines is.lines; seats = rw rest.seats is.seats }

scripts_run : (partitions : List Partition) (old new : List Script) → AllRun old new → AreScriptsOf partitions old → AreScriptsOf partitions new
scripts_run partitions old new run are = record {
  count = are.count ∙ sym run.count;
  each = λ i script found.
      let from = came_from OnlyRuns old new run.count run.each i script found in
      held_then (λ partition. IsScriptFor partition from.0) (λ partition. IsScriptFor partition script) (slice_get partitions i)
      (λ partition is. script_runs partition from.0 script from.2 is) (are.each i from.0 from.1);
}

-- A machine stays that of its plan.
pub plan_lasts : (partitions : List Partition) (pairs pairs' : List Pair) (scripts scripts' : List Script) (ports ports' : List PortSeat)
    → AllStay pairs pairs' → AllRun scripts scripts' → ports' ≡ ports
    → IsOfPlan partitions pairs scripts ports → IsOfPlan partitions pairs' scripts' ports'
plan_lasts partitions pairs pairs' scripts scripts' ports ports' stay run same is = record {
  pairs_are = planned_stay partitions pairs pairs' stay is.pairs_are;
  scripts_are = scripts_run partitions scripts scripts' run is.scripts_are;
  ports_are = same ∙ is.ports_are;
  sound = is.sound;
}

-- A list that was lent whole is what was written to it.
pub lent : {X : Type 0} (n : ℕ) (old new : List X) → n ≡ length old → length new ≡ length old → take n (new ++ drop (length new) old) ≡ new
lent n old new size same =
    ap (λ rest. take n (new ++ rest)) (drop_all (length new) old (omega arith))
    ∙ (ap (take n) (append-nil new) ∙ take_all n new (omega arith))
