use Rattle.vcpu_run.proofs.CalledPorts.{ports_still}
use Rattle.std.proofs.Common.{refl, rules}
use Rattle.vcpu_run.proofs.PortCalling.{queue_entries}
use Rattle.vcpu_run.proofs.RawCalling.{calls_same}
use Rattle.vcpu_run.proofs.partition_units.PartitionUnits.make_queue.Goals as goal

pub returns-in-Some-Client-clause-ports : goal.returns-in-Some-Client-clause-ports
returns-in-Some-Client-clause-ports c = ports_still c.args.self.now.partition c.args.unit c.call_at.result c.args.self.now.lan.now

pub returns-in-Some-Client-clause-entries : goal.returns-in-Some-Client-clause-entries
returns-in-Some-Client-clause-entries c = queue_entries c.args.self.now _ c.args.unit c.args.call _ c.call_at.result refl

pub returns-in-Some-Server-clause-made : goal.returns-in-Some-Server-clause-made
returns-in-Some-Server-clause-made c = calls_same c.args.self.now _ _ refl

pub returns-in-Some-Client-clause-made : goal.returns-in-Some-Client-clause-made
returns-in-Some-Client-clause-made c = record {
  units = record {
    lender = search rules;
    lan_lender = search rules;
    driven = c.call_at.ensures.driven;
    told = c.call_at.ensures.told;
    ports = search rules;
    stays = search rules;
    others = search rules;
    lays = c.call_at.ensures.lays;
  };
  apart = search rules;
}
