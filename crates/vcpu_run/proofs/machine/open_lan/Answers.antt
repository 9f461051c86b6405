-- The ports of a sound plan are few, in the order of their names, and of lawful sizes.
use Rattle.std.proofs.Common.{◌≡◌, ◌≤◌, ◌∙◌, All, List, length, map, sym, subst}
use Rattle.lan_script.specs.Seats.{IsSizedSeat}
use Rattle.lan_switch.specs.Switch.{AreAscending}
use Rattle.lan_script.specs.declared.seat.PortSeat.{PortSeat}
use Rattle.vcpu_run.specs.Ports.{ports_of}
use Rattle.vcpu_run.proofs.PortOrder.{ports_ascend, ports_sized}
use Rattle.vcpu_run.proofs.PortsFound.{ports_few}
use Rattle.vcpu_run.proofs.PortsFresh.{opened_ok}
use Rattle.vcpu_run.proofs.machine.open_lan.Goals as goal

pub open-requires-clause-few : goal.open-requires-clause-few
open-requires-clause-few c =
    let whole : c.deref.result.now ≡ ports_of c.args.partitions.now = c.deref.ensures.value ∙ c.in_ok-ports.ensures in
    subst (λ (seats : List PortSeat). length seats ≤ 16) (sym whole) (ports_few c.args.partitions.now c.requires.sound)

pub open-requires-clause-ascending : goal.open-requires-clause-ascending
open-requires-clause-ascending c =
    let whole : c.deref.result.now ≡ ports_of c.args.partitions.now = c.deref.ensures.value ∙ c.in_ok-ports.ensures in
    subst (λ (seats : List PortSeat). AreAscending (map (λ (seat : PortSeat). seat.unit) seats)) (sym whole) (ports_ascend c.args.partitions.now c.requires.sound)

pub open-requires-clause-sized : goal.open-requires-clause-sized
open-requires-clause-sized c =
    let whole : c.deref.result.now ≡ ports_of c.args.partitions.now = c.deref.ensures.value ∙ c.in_ok-ports.ensures in
    subst (λ (seats : List PortSeat). All IsSizedSeat seats) (sym whole) (ports_sized c.args.partitions.now c.requires.sound)

pub returns-clause-fresh : goal.returns-clause-fresh
returns-clause-fresh c = opened_ok c.open.result c.deref.result.now c.open.ensures.fresh
