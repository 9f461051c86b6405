use Rattle.vcpu_run.proofs.DataNoted.{none_noted}
use Rattle.vcpu_run.proofs.Waiting.{linked_closed}
use Rattle.std.proofs.Common.{◌≡◌, ◌≤◌, List, [], length, true, vec_len, sym, ◌∙◌, ap, subst, arith, rules}
use Rattle.rdma_copy.specs.declared.copy.CopyRecord.{CopyRecord}
use Rattle.boot_text.specs.declared.plan.TheConstants.{MOST_PARTITIONS}
use Rattle.lan_script.specs.declared.seat.PortSeat.{PortSeat}
use Rattle.vcpu_run.specs.Machines.{ArePlanned, AreScripts, IsOfPlan, home_of}
use Rattle.vcpu_run.specs.Answered.{AreAnswered}
use Rattle.vcpu_run.specs.Making.{AreMade}
use Rattle.vcpu_run.specs.Pairs.{ArePairs}
use Rattle.vcpu_run.specs.Ports.{ports_of}
use Rattle.vcpu_run.proofs.Apart.{pairs_apart}
use Rattle.vcpu_run.proofs.Booted.{few_pairs, scripts_made, scripts_of_plan}
use Rattle.vcpu_run.proofs.Elsewhere.{credits_made}
use Rattle.vcpu_run.proofs.Homes.{home_within}
use Rattle.vcpu_run.proofs.Receiving.{received_fresh}
use Rattle.vcpu_run.proofs.RoundsTold.{told_made}
use Rattle.vcpu_run.proofs.Held.{queues_fresh}
use Rattle.vcpu_run.proofs.PortTurns.{ports_made}
use Rattle.vcpu_run.proofs.HeardTurns.{heard_fresh}
use Rattle.vio_num.specs.declared.history.Grant.{Grant}
use Rattle.vio_num.specs.declared.history.Served.{Served}
use Rattle.vcpu_run.specs.PlainPairs.{books_of}
use Rattle.vcpu_run.specs.ClientRuns.{AreClients}
use Rattle.vcpu_run.proofs.OwnBooted.{boots_own}
use Rattle.vcpu_run.proofs.PlainBooted.{UnitsStart, boots_plainly, scripts_start}
use Rattle.vcpu_run.proofs.machine.Machine.boot.Goals as goal

pub overflow_cast-home : goal.overflow_cast-home
overflow_cast-home g c =
    let partitions = c.args.plan.now.partitions in
    let most : length partitions ≤ MOST_PARTITIONS = c.requires.sound.partitions.few in
    let home : c.home_of-home.result ≡ home_of partitions = c.home_of-home.ensures ∙ ap home_of c.as_slice-partitions.ensures in
    omega (arith, home, home_within partitions, most)

pub overflow_cast-len : goal.overflow_cast-len
overflow_cast-len g c =
    let pairs = c.in-Ok.pairs in
    let partitions = c.args.plan.now.partitions in
    let planned : ArePlanned partitions pairs.items = rw (← c.as_slice-partitions.ensures) c.in-Ok.ensures.planned in
    let few : length pairs.items ≤ 8 = few_pairs partitions pairs.items c.requires.sound.partitions planned in
    let same : vec_len pairs ≡ length pairs.items = search rules in
    omega (arith, c.len.ensures)

pub open-requires-clause-units : goal.open-requires-clause-units
open-requires-clause-units g c =
    let pairs = c.in-Ok.pairs in
    let partitions = c.args.plan.now.partitions in
    let planned : ArePlanned partitions pairs.items = rw (← c.as_slice-partitions.ensures) c.in-Ok.ensures.planned in
    let few : length pairs.items ≤ 8 = few_pairs partitions pairs.items c.requires.sound.partitions planned in
    let same : vec_len pairs ≡ length pairs.items = search rules in
    omega (arith, c.len.ensures)

pub returns-clause-machine : goal.returns-clause-machine
returns-clause-machine g c =
    let pairs = c.in-Ok.pairs in
    let scripts = c.in-Ok-make_scripts.scripts in
    let server = c.in_ok-server in
    let partitions = c.args.plan.now.partitions in
    let sound = c.requires.sound.partitions in
    let planned : ArePlanned partitions pairs.items = rw (← c.as_slice-partitions.ensures) c.in-Ok.ensures.planned in
    let made : AreMade partitions scripts.items = rw (← c.as_slice-partitions.ensures) c.in-Ok-make_scripts.ensures in
    let ports : c.in-Ok-open_lan.lan.seats ≡ ports_of partitions = rw (← c.as_slice-partitions.ensures) c.in-Ok-open_lan.ensures.seats in
    let same : vec_len pairs ≡ length pairs.items = search rules in
    record {
      serving = record {
        each = server.ensures.units ∙ (c.len.ensures ∙ same);
        few = few_pairs partitions pairs.items sound planned;
        pairs_are = subst (λ home. ArePairs home server.server.copies.items pairs.items) (sym server.ensures.partition)
            (subst (λ (copies : List CopyRecord). ArePairs c.home_of-home.result copies pairs.items) (sym server.ensures.copies) c.in-Ok.ensures.pairs);
        apart = pairs_apart partitions c.home_of-home.result [] pairs.items sound planned c.in-Ok.ensures.pairs;
      };
      scripts_are = subst (λ (seats : List PortSeat). AreScripts pairs.items seats scripts.items) (sym ports) (scripts_made partitions pairs.items scripts.items sound planned made);
    }

pub returns-clause-of_plan : goal.returns-clause-of_plan
returns-clause-of_plan g c =
    let scripts = c.in-Ok-make_scripts.scripts in
    let partitions = c.args.plan.now.partitions in
    let made : AreMade partitions scripts.items = rw (← c.as_slice-partitions.ensures) c.in-Ok-make_scripts.ensures in
    record {
      pairs_are = rw (← c.as_slice-partitions.ensures) c.in-Ok.ensures.planned;
      scripts_are = scripts_of_plan partitions scripts.items made;
      ports_are = rw (← c.as_slice-partitions.ensures) c.in-Ok-open_lan.ensures.seats;
      sound = c.requires.sound.partitions;
    }

pub returns-clause-ready : goal.returns-clause-ready
returns-clause-ready g c =
    let pairs = c.in-Ok.pairs.items in
    let scripts = c.in-Ok-make_scripts.scripts.items in
    let server = c.in_ok-server in
    let units = server.server.units.items in
    let partitions = c.args.plan.now.partitions in
    let fresh = c.in-Ok.ensures.fresh in
    let made : AreMade partitions scripts = rw (← c.as_slice-partitions.ensures) c.in-Ok-make_scripts.ensures in
    record {
      served = record {
        answered = subst (λ (rows : List Served). AreAnswered rows pairs) (sym server.ensures.history) c.in-Ok.ensures.answered;
        received = received_fresh units server.server.copies.items server.server.records.grants.items server.server.records.history.items pairs
            server.ensures.copies server.ensures.lines server.ensures.history server.ensures.none server.ensures.unused server.ensures.unanswered server.ensures.down c.in-Ok.ensures.closed fresh;
        heard = heard_fresh server.server.disk.count server.server.partition units server.server.records server.server.copies.items pairs
            server.ensures.history server.ensures.lines server.ensures.order server.ensures.idle server.ensures.unrefused server.ensures.unused fresh;
      };
      credited = credits_made _ partitions pairs scripts made c.in-Ok.ensures.out (λ k pair found. (fresh k pair found).bare)
          (λ k pair found. none_noted pair (fresh k pair found).untaken);
      said = told_made partitions pairs scripts made c.in-Ok.ensures.out (λ k pair found. (
        (fresh k pair found).untaken,
        (fresh k pair found).rows,
        (fresh k pair found).events,
        record { sent = λ zero. (fresh k pair found).sent; kept = λ zero. (fresh k pair found).event },
      ));
      told = ports_made c.in-Ok-open_lan.lan partitions scripts c.in-Ok-open_lan.ensures.fresh made;
      linked = linked_closed units pairs server.ensures.down c.in-Ok.ensures.closed;
      unfreed = queues_fresh pairs scripts c.in-Ok.ensures.closed;
    }

pub returns-clause-none : goal.returns-clause-none
returns-clause-none g c = c.in_ok-server.ensures.history

pub returns-clause-clients : goal.returns-clause-clients
returns-clause-clients g c =
    let pairs = c.in-Ok.pairs in
    let scripts = c.in-Ok-make_scripts.scripts in
    let server = c.in_ok-server in
    let grant = c.args.plan.now.grant in
    let list = server.server.units.items in
    let partitions = c.args.plan.now.partitions in
    let made : AreMade partitions scripts.items = rw (← c.as_slice-partitions.ensures) c.in-Ok-make_scripts.ensures in
    let of_plan : IsOfPlan partitions pairs.items scripts.items c.in-Ok-open_lan.lan.seats = record {
      pairs_are = rw (← c.as_slice-partitions.ensures) c.in-Ok.ensures.planned;
      scripts_are = scripts_of_plan partitions scripts.items made;
      ports_are = rw (← c.as_slice-partitions.ensures) c.in-Ok-open_lan.ensures.seats;
      sound = c.requires.sound.partitions;
    } in
    let home : server.server.partition ≡ home_of partitions = server.ensures.partition ∙ (c.home_of-home.ensures ∙ ap home_of c.as_slice-partitions.ensures) in
    let same : vec_len pairs ≡ length pairs.items = search rules in
    let size : vec_len server.server.units ≡ length list = search rules in
    let start : UnitsStart grant server.server.partition list = record {
      made = server.ensures.made;
      granting = server.ensures.grants.each;
      names = λ k unit found. (server.ensures.order (λ told. true) k unit found).id;
    } in
    let most : grant ≤ 200 = omega (arith, c.requires.sound.grant) in
    let starts = scripts_start partitions scripts.items made in
    let many = sym size ∙ (server.ensures.units ∙ (c.len.ensures ∙ same)) in
    subst (λ (lines : List Grant). AreClients grant server.server.partition (books_of list lines server.server.records.history.items) pairs.items scripts.items) (sym server.ensures.lines)
    (subst (λ (rows : List Served). AreClients grant server.server.partition (books_of list [] rows) pairs.items scripts.items) (sym server.ensures.history)
    (record {
      plain = boots_plainly grant server.server.partition partitions pairs.items scripts.items c.in-Ok-open_lan.lan.seats list home most of_plan starts c.in-Ok.ensures.opens many start;
      own = boots_own grant server.server.partition partitions pairs.items scripts.items c.in-Ok-open_lan.lan.seats list home most of_plan starts c.in-Ok.ensures.opens many start;
    }))
