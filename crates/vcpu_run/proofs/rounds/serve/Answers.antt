use Rattle.vcpu_run.proofs.Idling.{serves_all, serves_next}
use Rattle.std.proofs.Common.{arith}
use Rattle.block_server.specs.TurnStock.{stock_of}
use Rattle.vcpu_run.specs.Served.{books_in}
use Rattle.vcpu_run.proofs.Going.{goes_same, goes_then, spares_same, spares_then}
use Rattle.vcpu_run.proofs.OwnRounds.{served_own_all, served_own_next, served_own_none}
use Rattle.vcpu_run.proofs.PlainRounds.{idled_all, idled_next, idled_none, served_all, served_next, served_none}
use Rattle.vcpu_run.proofs.rounds.serve.Goals as goal

pub loop-unit-init : goal.loop-unit-init
loop-unit-init g c =
    let server = c.args.server.now in
    let pairs = c.args.pairs.now in
    record {
      serving = c.requires.serving;
      served = c.requires.served;
      goes = goes_same (stock_of server) pairs;
      spares = spares_same server.copies.items pairs;
      linked = λ are. are;
      wait = λ is are k link less found. absurd (omega (arith, less));
      plainly = served_none server.partition (books_in server) pairs;
      own = served_own_none server.partition (books_in server) pairs;
      idled = λ is. idled_none server.partition (books_in server) pairs;
    }

pub loop-unit-preserved : goal.loop-unit-preserved
loop-unit-preserved g c =
    let before = c.loop-unit.invariant in
    let after = c.serve_at.ensures in
    let first = c.args.server.now in
    let old = c.loop-unit.server in
    let new = c.serve_at.new.server in
    record {
      serving = after.serving;
      served = after.served;
      goes = goes_then (stock_of first) (stock_of old) (stock_of new) c.args.pairs.now c.loop-unit.pairs c.serve_at.new.pairs before.goes after.goes;
      spares = spares_then first.copies.items old.copies.items new.copies.items c.args.pairs.now c.loop-unit.pairs c.serve_at.new.pairs before.spares after.spares;
      linked = λ are. c.in_ok-turned.ensures.linked (before.linked are);
      wait = λ is are.
          serves_next c.loop-unit.pairs c.serve_at.new.pairs old.units.items new.units.items c.loop-unit.unit (λ k apart. (after.aside k apart).pair) (λ k apart. (after.aside k apart).unit)
          (c.in_ok-turned.ensures.waits (c.either-moved.ensures.other is) (before.linked are))
          (before.wait (c.either-moved.ensures.one is) are);
      plainly =
          served_next c.loop-unit.unit first.partition old.partition (books_in first) (books_in old) (books_in new)
          c.args.pairs.now c.loop-unit.pairs c.serve_at.new.pairs before.goes.lasts.partition before.plainly
          c.in_ok-turned.ensures.clients.plain (λ k apart. (after.aside k apart).books) (λ k apart. (after.aside k apart).pair);
      own =
          served_own_next c.loop-unit.unit first.partition old.partition (books_in first) (books_in old) (books_in new)
          c.args.pairs.now c.loop-unit.pairs c.serve_at.new.pairs before.goes.lasts.partition before.own
          c.in_ok-turned.ensures.clients.own (λ k apart. (after.aside k apart).books) (λ k apart. (after.aside k apart).pair);
      idled = λ is.
          idled_next c.loop-unit.unit first.partition old.partition (books_in first) (books_in old) (books_in new)
          c.args.pairs.now c.loop-unit.pairs before.goes.lasts.partition before.plainly (before.idled (c.either-moved.ensures.one is))
          (c.in_ok-turned.ensures.idles (c.either-moved.ensures.other is)) (λ k apart. (after.aside k apart).books);
    }

pub returns-clause-wait : goal.returns-clause-wait
returns-clause-wait g c = λ is are.
    let count = c.loop-unit.invariant.spares.stay.count in
    serves_all c.loop-unit.pairs c.loop-unit.server.units.items c.loop-unit.unit (omega (arith, count, c.loop-unit-test.false)) (c.loop-unit.invariant.wait is are)

pub returns-clause-clients : goal.returns-clause-clients
returns-clause-clients g c = λ k.
    let count = c.loop-unit.invariant.spares.stay.count in
    record {
      plain = served_all c.loop-unit.unit c.args.server.now.partition (books_in c.args.server.now) (books_in c.loop-unit.server)
          c.args.pairs.now c.loop-unit.pairs (omega (arith, count, c.loop-unit-test.false)) c.loop-unit.invariant.plainly k;
      own = served_own_all c.loop-unit.unit c.args.server.now.partition (books_in c.args.server.now) (books_in c.loop-unit.server)
          c.args.pairs.now c.loop-unit.pairs (omega (arith, count, c.loop-unit-test.false)) c.loop-unit.invariant.own k;
    }

pub returns-clause-idles : goal.returns-clause-idles
returns-clause-idles g c = λ is.
    let count = c.loop-unit.invariant.spares.stay.count in
    idled_all c.loop-unit.unit c.args.server.now.partition (books_in c.args.server.now) (books_in c.loop-unit.server)
    c.args.pairs.now (omega (arith, count, c.loop-unit-test.false)) (c.loop-unit.invariant.idled is)

pub returns-in_err-turned-clause-goes : goal.returns-in_err-turned-clause-goes
returns-in_err-turned-clause-goes g c =
    goes_then (stock_of c.args.server.now) (stock_of c.loop-unit.server) (stock_of c.serve_at.new.server)
    c.args.pairs.now c.loop-unit.pairs c.serve_at.new.pairs c.loop-unit.invariant.goes c.serve_at.ensures.goes

pub returns-in_err-turned-clause-spares : goal.returns-in_err-turned-clause-spares
returns-in_err-turned-clause-spares g c =
    spares_then c.args.server.now.copies.items c.loop-unit.server.copies.items c.serve_at.new.server.copies.items
    c.args.pairs.now c.loop-unit.pairs c.serve_at.new.pairs c.loop-unit.invariant.spares c.serve_at.ensures.spares
