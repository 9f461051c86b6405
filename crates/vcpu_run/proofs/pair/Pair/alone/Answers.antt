use Rattle.std.proofs.Common.{◌≡◌, ◌+◌, ◌*◌, None, ap, arith}
use Rattle.vio_num.specs.declared.names.UnitId.{UnitId}
use Rattle.tce_window.specs.Window.{WindowValue}
use Rattle.vcpu_run.proofs.Answering.{answered_new}
use Rattle.vcpu_run.proofs.Opened.{bare_new, pair_new}
use Rattle.vcpu_run.proofs.FewEvents.{no_events}
use Rattle.vcpu_run.proofs.pair.Pair.alone.Goals as goal

pub returns-clause-pair : goal.returns-clause-pair
returns-clause-pair c =
    let absent : UnitId = record { partition = c.args.server.partition; unit = 128 + c.args.server.unit } in
    pair_new c.args.server 1 (256 * c.args.queue) (256 * 1) absent c.in_ok-open_link.field-0 c.in_ok-open.field-0 c.in_ok-open-2.field-0 None
    c.in_ok-open.ensures c.in_ok-open-2.ensures
    (λ same. let e : 128 + c.args.server.unit ≡ c.args.server.unit = ap (λ (id : UnitId). id.unit) same in absurd (omega (arith, e)))
    c.in_ok-open_link.ensures tt (ap (λ (window : WindowValue). window.unit) c.in_ok-open-2.ensures)

pub returns-clause-answered : goal.returns-clause-answered
returns-clause-answered c = answered_new _ (256 * c.args.queue) (256 * 1) c.in_ok-open_link.ensures

pub returns-clause-fresh : goal.returns-clause-fresh
returns-clause-fresh c =
    let absent : UnitId = record { partition = c.args.server.partition; unit = 128 + c.args.server.unit } in
    let new = c.in_ok-open_link.ensures in
    record { session = new.first.queue.session; taken = new.first.queue.taken; sent = new.second.queue.sent; kept = new.second.kept; event = new.first.kept; untaken = tt; rows = ap (λ (window : WindowValue). window.rows) c.in_ok-open-2.ensures; bare = bare_new absent 1 c.in_ok-open-2.field-0 c.in_ok-open-2.ensures; events = no_events c.in_ok-open_link.field-0 new.first.queue.sent new.second.kept }
