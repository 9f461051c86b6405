-- At the end of a run: a client's script and its pair, and what the trace has of them.
use Rattle.std.proofs.Common.{◌≡◌, ◌∙◌, ℕ, ◌==◌, true, false, All, IfSome, List, Option, Some, None, filter, slice_get, sym, ap, subst}
use Rattle.std.specs.List.{flat_map}
use Rattle.std.specs.Option.{option_map}
use Rattle.vio_num.specs.declared.names.UnitId.{UnitId}
use Rattle.crq_ring.specs.Pipe.{IsLawfulPipe}
use Rattle.crq_session.specs.PlainState.{side_of}
use Rattle.boot_text.specs.Sound.{IsClientOf, IsServer}
use Rattle.boot_text.specs.declared.plan.Line.{Line}
use Rattle.boot_text.specs.declared.plan.Partition.{Partition}
use Rattle.boot_text.specs.declared.plan.UnitPlan.TheVariants as units
use Rattle.lan_script.specs.Units.{LanValue}
use Rattle.vio_trace.specs.declared.rows.LogRow.{LogRow}
use Rattle.vcpu_run.specs.Credited.{Ended, ended_by}
use Rattle.vcpu_run.specs.Gathered.{HasLawfulQueue, HasLawfulWindow, IsLawfulWindow, logs_of}
use Rattle.vcpu_run.specs.Machines.{AreScripts, IsOfPlan, server_id}
use Rattle.vcpu_run.specs.PlainRuns.{ComesBehind}
use Rattle.vcpu_run.specs.Ports.{unit_of}
use Rattle.vcpu_run.specs.Scripts.{are_servers}
use Rattle.vcpu_run.specs.Settled.{script_of}
use Rattle.vcpu_run.specs.TakenScripts.{IsTaken}
use Rattle.vcpu_run.specs.Units.{seats_of, unit_seat}
use Rattle.vcpu_run.specs.declared.driver.Driver.{Driver}
use Rattle.vcpu_run.specs.declared.pair.Pair.{Pair}
use Rattle.vcpu_run.specs.declared.script.Script.{Script}
use Rattle.vcpu_run.specs.declared.unit_seat.Seat.TheVariants as sits
use Rattle.vcpu_run.specs.declared.unit_seat.UnitSeat.{UnitSeat}
use Rattle.vcpu_run.proofs.Driving.{some_is}
use Rattle.vcpu_run.proofs.Following.{each_from_all}
use Rattle.vcpu_run.proofs.Listed.{held}
use Rattle.vcpu_run.proofs.Parts.{IsIn, each_in}
use Rattle.vcpu_run.proofs.RecordLaws.{lines_in}
use Rattle.vcpu_run.proofs.RefusalsTold.{own_records}
use Rattle.vcpu_run.proofs.Seated.{planned_in}
use Rattle.vcpu_run.proofs.Settling.{script_at, servers_home}

-- ---- the script

-- A client sits in the script of its partition, whose lines are the plan's.
pub record IsScriptOf (partitions : List Partition) (scripts : List Script) (client server : UnitId) : Type 0 where
  pub script : Script
  pub there : slice_get scripts client.partition ≡ Some script
  pub sits : slice_get script.seats.items client.unit ≡ Some (sits.Client server.unit)
  pub lines : script_of partitions client.partition ≡ script.lines.now

pub script_found : (partitions : List Partition) (pairs : List Pair) (scripts : List Script) (lan : LanValue) (client server : UnitId) → IsOfPlan partitions pairs scripts lan.seats
    → IsClientOf partitions client server → IsScriptOf partitions scripts client server
script_found partitions pairs scripts lan client server of_plan is =
    let at = script_at partitions pairs scripts lan.seats client (units.Client server is.0 is.1) of_plan is.2 in
    record {
      script = at.0;
      there = at.1;
      sits = at.2;
      lines = lines_in (slice_get partitions client.partition) at.0 (of_plan.scripts_are.each client.partition at.0 at.1);
    }

-- What is so of the lines of a unit by its script's lines and rows is so of them by the plan's and by the trace's.
pub script_tells : (P : List Ended → Type 0) (partitions : List Partition) (pairs : List Pair) (scripts : List Script) (lan : LanValue) (p u : ℕ) (script : Script) → AreScripts pairs lan.seats scripts
    → slice_get scripts p ≡ Some script → script_of partitions p ≡ script.lines.now → P (ended_by u script.lines.now script.logs.items)
    → P (ended_by u (script_of partitions p) (filter (λ row. row.partition == p) (flat_map logs_of scripts)))
script_tells P partitions pairs scripts lan p u script are there lines is =
    subst (λ (ls : List Line). P (ended_by u ls (filter (λ (row : LogRow). row.partition == p) (flat_map logs_of scripts)))) (sym lines)
    (subst (λ (rows : List LogRow). P (ended_by u script.lines.now rows)) (sym (own_records pairs scripts lan p script are there)) is)

-- ---- the pair

-- The server units are those of the partition that has them.
pub home_named : (partitions : List Partition) (pairs : List Pair) (scripts : List Script) (lan : LanValue) (client server : UnitId) (home i : ℕ) → IsOfPlan partitions pairs scripts lan.seats
    → IsClientOf partitions client server → ComesBehind home i scripts → server_id home server.unit ≡ server
home_named partitions pairs scripts lan client server home i of_plan is behind =
    let serves : IsServer partitions server = of_plan.sound.served client server is in
    let home_at = held (λ (s : Script). are_servers s.seats.items ≡ true) (slice_get scripts home) behind.servers in
    ap (λ n. unit_of n server.unit) (servers_home partitions pairs scripts lan.seats server home home_at.0 of_plan serves home_at.1 home_at.2)

-- A client's pair is its server unit's; and the laws of its queue and of its window.
pub record IsPairOf (server : UnitId) (pair : Pair) : Type 0 where
  pub same : pair.server ≡ server
  pub queue : IsLawfulPipe (side_of pair.link false).queue
  pub window : IsLawfulWindow pair.window

pub pair_laws : (partitions : List Partition) (pairs : List Pair) (scripts : List Script) (lan : LanValue) (client server : UnitId) (pair : Pair) → AreScripts pairs lan.seats scripts
    → All (HasLawfulQueue pairs) (seats_of scripts) → All (HasLawfulWindow pairs lan) (seats_of scripts) → IsOfPlan partitions pairs scripts lan.seats → IsClientOf partitions client server
    → slice_get pairs server.unit ≡ Some pair → IsPairOf server pair
pair_laws partitions pairs scripts lan client server pair are lawful windows of_plan is here =
    let there = held (λ (pair : Pair). pair.server ≡ server) (slice_get pairs server.unit) (of_plan.pairs_are.servers server (of_plan.sound.served client server is)) in
    let seat : UnitSeat = unit_seat client.partition client.unit (sits.Client server.unit) in
    let inside : IsIn seat (seats_of scripts) = planned_in partitions pairs scripts lan.seats client (units.Client server is.0 is.1) are of_plan is.2 in
    record {
      same = ap (λ (x : Pair). x.server) (some_is pair there.0 (sym here ∙ there.1)) ∙ there.2;
      queue = subst (λ slot. IfSome slot IsLawfulPipe) (ap (option_map (λ (pair : Pair). (side_of pair.link false).queue)) here)
          (each_in (HasLawfulQueue pairs) seat (seats_of scripts) inside (each_from_all (HasLawfulQueue pairs) (seats_of scripts) lawful));
      window = subst (λ slot. IfSome slot IsLawfulWindow) (ap (option_map (λ (pair : Pair). pair.window)) here)
          (each_in (HasLawfulWindow pairs lan) seat (seats_of scripts) inside (each_from_all (HasLawfulWindow pairs lan) (seats_of scripts) windows)).lawful;
    }

-- what is so of a pair's client
pub taken_at : (own : List Ended) (pair : Pair) (o : Option Driver) (driver : Driver) → o ≡ Some driver → IfSome o (IsTaken own pair) → IsTaken own pair driver
taken_at own pair None driver is taken = absurd (cc (is))
taken_at own pair (Some other) driver is taken = subst (IsTaken own pair) (some_is other driver is) taken
