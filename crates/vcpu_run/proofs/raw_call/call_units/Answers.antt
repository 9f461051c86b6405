use Rattle.vcpu_run.proofs.CallsKept.{parameter_told}
use Rattle.vcpu_run.proofs.PortCalling.{units_all, units_return}
use Rattle.vcpu_run.proofs.RawCalling.{returned_at, units_called, units_ports}
use Rattle.vcpu_run.proofs.raw_call.call_units.Goals as goal

pub returns-clause-units : goal.returns-clause-units
returns-clause-units c = units_called c.args.units.now c.call.new.units c.args.number c.args.arguments.now _ c.call.ensures.function c.call.ensures.parameter c.call.ensures.made

pub returns-clause-ports : goal.returns-clause-ports
returns-clause-ports c = units_ports c.args.units.now c.call.new.units c.args.number c.args.arguments.now _ c.call.ensures.function c.call.ensures.parameter c.call.ensures.made

pub returns-clause-elsewhere : goal.returns-clause-elsewhere
returns-clause-elsewhere c = parameter_told c.args.units.now c.call.new.units c.args.number c.args.arguments.now _ c.call.ensures.parameter

pub returns-clause-here : goal.returns-clause-here
returns-clause-here c = returned_at c.args.units.now c.call.new.units c.args.number c.args.arguments.now _ c.call.ensures.made

pub returns-clause-all : goal.returns-clause-all
returns-clause-all c = units_all c.args.units.now c.call.new.units c.args.number c.args.arguments.now _ c.call.ensures.function c.call.ensures.parameter c.call.ensures.made

pub returns-clause-entries : goal.returns-clause-entries
returns-clause-entries c = units_return c.args.units.now c.call.new.units c.args.number c.args.arguments.now _ c.call.ensures.made
