use Rattle.std.proofs.Common.{◌≡◌, ◌++◌, OnOk, sym, subst}
use Rattle.lan_buffers.specs.Port.{IsLawfulPort, PortValue}
use Rattle.lan_script.specs.Rows.{port_rows}
use Rattle.lan_script.proofs.Cuts.{port_is}
use Rattle.lan_script.proofs.rows.put_sessions_of.Goals as goal

pub returns-clause-rows : goal.returns-clause-rows
returns-clause-rows c =
    subst (λ (p : PortValue). OnOk c.put_sessions.result (c.put_sessions.new.rows.items ≡ c.args.rows.now.items ++ port_rows c.args.seat.now.unit p))
    (sym (port_is c.args.switch.now c.args.seat.now c.port.result.now c.port.ensures)) c.put_sessions.ensures.rows

pub returns-clause-lawful : goal.returns-clause-lawful
returns-clause-lawful c =
    subst IsLawfulPort (sym (port_is c.args.switch.now c.args.seat.now c.port.result.now c.port.ensures)) c.put_sessions.ensures.lawful
