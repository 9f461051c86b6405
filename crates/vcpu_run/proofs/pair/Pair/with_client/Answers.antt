use Rattle.std.proofs.Common.{◌*◌, Some, ap, arith}
use Rattle.vscsi_client.specs.State.{ClientState}
use Rattle.vcpu_run.proofs.Answering.{answered_new}
use Rattle.tce_window.specs.Window.{WindowValue}
use Rattle.vcpu_run.proofs.Opened.{bare_new, driver_new, pair_new, untaken_new}
use Rattle.vcpu_run.proofs.FewEvents.{no_events}
use Rattle.vcpu_run.specs.declared.pair.Pair.{Pair}
use Rattle.vcpu_run.proofs.PlainOpened.{opened_new}
use Rattle.vcpu_run.proofs.pair.Pair.with_client.Goals as goal

pub returns-clause-pair : goal.returns-clause-pair
returns-clause-pair c =
    let seat = c.args.seat in
    let driver = c.in_ok-open-3 in
    pair_new c.args.server seat.pages (256 * c.args.queue) (256 * seat.queue) seat.unit c.in_ok-open_link.field-0 c.in_ok-open.field-0 c.in_ok-open-2.field-0 (Some driver.field-0)
    c.in_ok-open.ensures c.in_ok-open-2.ensures c.requires.seat.apart c.in_ok-open_link.ensures
    (driver_new seat.unit c.args.server seat.pages c.in_ok-open-2.field-0 driver.field-0 c.in_ok-open-2.ensures driver.ensures.unit driver.ensures.answers driver.ensures.client
    (omega (arith, c.requires.seat.pages)) (omega (arith, c.requires.seat.pages))) tt

pub returns-clause-out : goal.returns-clause-out
returns-clause-out c = ap (λ (s : ClientState). s.granted) c.in_ok-open-3.ensures.client

pub returns-clause-answered : goal.returns-clause-answered
returns-clause-answered c = answered_new _ (256 * c.args.queue) (256 * c.args.seat.queue) c.in_ok-open_link.ensures

pub returns-clause-fresh : goal.returns-clause-fresh
returns-clause-fresh c =
    let driver = c.in_ok-open-3 in
    let new = c.in_ok-open_link.ensures in
    record {
      session = new.first.queue.session;
      taken = new.first.queue.taken;
      sent = new.second.queue.sent;
      kept = new.second.kept;
      event = new.first.kept;
      untaken = untaken_new c.args.seat.unit c.args.server (256 * c.args.queue) (256 * c.args.seat.queue) c.in_ok-open_link.field-0 driver.field-0 driver.ensures.answers driver.ensures.client new;
      rows = ap (λ (window : WindowValue). window.rows) c.in_ok-open-2.ensures;
      bare = bare_new c.args.seat.unit c.args.seat.pages c.in_ok-open-2.field-0 c.in_ok-open-2.ensures;
      events = no_events c.in_ok-open_link.field-0 new.first.queue.sent new.second.kept;
    }

pub returns-clause-opens : goal.returns-clause-opens
returns-clause-opens c =
    let seat = c.args.seat in
    let driver = c.in_ok-open-3 in
    let pair : Pair = record {
      server = c.args.server;
      link = c.in_ok-open_link.field-0;
      own = c.in_ok-open.field-0;
      window = c.in_ok-open-2.field-0;
      driver = Some driver.field-0;
    } in
    opened_new pair driver.field-0 seat.unit c.args.server seat.pages c.args.queue seat.queue c.in_ok-open_link.ensures (omega (arith, c.requires.queue)) (omega (arith, c.requires.seat.queue))
    c.in_ok-open-2.ensures (omega (arith, c.requires.seat.pages)) (omega (arith, c.requires.seat.pages)) driver.ensures.unit driver.ensures.client driver.ensures.answers
