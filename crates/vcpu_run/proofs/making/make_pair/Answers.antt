-- The pair is one of the plan.
use Rattle.vcpu_run.proofs.Booted.{opened_planned}
use Rattle.vcpu_run.proofs.making.make_pair.Goals as goal

pub returns-clause-planned : goal.returns-clause-planned
returns-clause-planned c =
    opened_planned c.args.partitions.now c.args.server c.args.queue _ c.open.result c.requires.planned c.client_of-client.ensures c.open.ensures.pair c.open.ensures.slots c.open.ensures.client
