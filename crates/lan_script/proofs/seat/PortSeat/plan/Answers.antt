use Rattle.std.proofs.Common.{arith}
use Rattle.lan_script.proofs.seat.PortSeat.plan.Goals as goal

pub returns-clause-named : goal.returns-clause-named
returns-clause-named c = omega (arith, c.number_of.ensures)
