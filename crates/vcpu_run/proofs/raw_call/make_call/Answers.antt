use Rattle.std.proofs.Common.{length, rules}
use Rattle.vcpu_run.specs.RawCalls.{seat_by}
use Rattle.vcpu_run.proofs.CalledPorts.{ends_ports}
use Rattle.vcpu_run.proofs.PortCalling.{ends_entries}
use Rattle.vcpu_run.proofs.PortTurns.{apart_as}
use Rattle.vcpu_run.proofs.RawReturned.{ends_call}
use Rattle.vcpu_run.proofs.raw_call.make_call.Goals as goal

pub returns-clause-apart : goal.returns-clause-apart
returns-clause-apart c = apart_as c.args.partition c.args.lan.now _ _ (search rules) c.in_ok-returned.ensures.units.apart

pub returns-clause-ports : goal.returns-clause-ports
returns-clause-ports c =
    ends_ports c.args.partition c.args.raw.now.number c.args.raw.now.arguments c.args.lan.now _ _ c.in_ok-returned.returned c.outcome_of.result (search rules)
    c.outcome_of.ensures.exact c.in_ok-returned.ensures.ports

pub returns-clause-said : goal.returns-clause-said
returns-clause-said c =
    ends_call c.args.partition (seat_by c.args.partition c.args.seats.now (length c.args.pairs.now) c.args.lan.now.seats) c.call_units.new.units.pairs.now _
    c.args.raw.now.number c.args.raw.now.arguments c.in_ok-returned.returned c.outcome_of.result (search rules) c.outcome_of.ensures.exact
    c.in_ok-returned.ensures.function c.in_ok-returned.ensures.answer c.in_ok-returned.ensures.elsewhere c.in_ok-returned.ensures.here

pub returns-clause-entries : goal.returns-clause-entries
returns-clause-entries c =
    ends_entries c.args.partition (seat_by c.args.partition c.args.seats.now (length c.args.pairs.now) c.args.lan.now.seats) c.args.lan.now c.call_units.new.units.lan.now _
    c.args.raw.now.number c.args.raw.now.arguments c.in_ok-returned.returned c.outcome_of.result (search rules) c.outcome_of.ensures.exact
    c.in_ok-returned.ensures.all c.in_ok-returned.ensures.answer c.in_ok-returned.ensures.entries
