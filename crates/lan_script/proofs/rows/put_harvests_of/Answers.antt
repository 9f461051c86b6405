use Rattle.std.proofs.Common.{◌≡◌, ◌++◌, OnOk, sym, subst}
use Rattle.lan_buffers.specs.Port.{PortValue}
use Rattle.lan_script.specs.Rows.{harvest_rows}
use Rattle.lan_script.proofs.Cuts.{port_is}
use Rattle.lan_script.proofs.rows.put_harvests_of.Goals as goal

pub returns : goal.returns
returns c =
    subst (λ (p : PortValue). OnOk c.put_harvests.result (c.put_harvests.new.rows.items ≡ c.args.rows.now.items ++ harvest_rows c.args.seat.now.unit p))
    (sym (port_is c.args.switch.now c.args.seat.now c.port.result.now c.port.ensures)) c.put_harvests.ensures
