use Rattle.vcpu_run.proofs.Idling.{idle_all, idle_next, idle_none}
use Rattle.std.proofs.Common.{◌≤◌, length, arith}
use Rattle.vcpu_run.specs.Rounds.{parts_at}
use Rattle.block_server.specs.TurnStock.{stock_of}
use Rattle.vcpu_run.specs.Served.{books_in}
use Rattle.vcpu_run.proofs.Going.{goes_same, goes_then, keeps_same, keeps_then, parts_same, parts_then}
use Rattle.vcpu_run.proofs.OpenRounds.{open_all, open_none}
use Rattle.vcpu_run.proofs.RoundsTold.{out_all, out_none}
use Rattle.vcpu_run.proofs.PortsResting.{ports_all, ports_next, ports_none}
use Rattle.vcpu_run.proofs.OwnQuietRounds.{own_quiet_none, round_quiet_own}
use Rattle.vcpu_run.proofs.OwnRuns.{round_own}
use Rattle.vcpu_run.proofs.PlainRuns.{quiet_none, round_plainly, round_quietly}
use Rattle.vcpu_run.proofs.rounds.round.Goals as goal

pub loop-number-init : goal.loop-number-init
loop-number-init g c =
    let server = c.args.server.now in
    let pairs = c.args.pairs.now in
    let scripts = c.args.scripts.now in
    let lan = c.args.lan.now in
    record {
      machine = c.requires.machine;
      served = c.requires.served;
      goes = goes_same (stock_of server) pairs;
      stays = parts_same pairs scripts lan;
      keeps = keeps_same (parts_at server pairs scripts lan);
      out = λ is told. out_none pairs scripts;
      unfreed = λ keep. keep;
      opened = λ is linked. open_none pairs scripts;
      idle = λ is are over. idle_none server.units.items pairs scripts;
      clients = λ granted are. are;
      quietly = λ is linked granted are. record {
        plain = quiet_none server.partition (books_in server) scripts;
        own = own_quiet_none server.partition server.units.items pairs scripts;
      };
      taken = λ is over. ports_none lan scripts;
    }

pub loop-number-preserved : goal.loop-number-preserved
loop-number-preserved g c =
    let before = c.loop-number.invariant in
    let after = c.turn_at.ensures in
    let quiet = c.in_ok-turned.ensures.quiet in
    let first = c.args.server.now in
    let old = c.loop-number.server in
    let new = c.turn_at.new.server in
    record {
      machine = after.machine;
      served = after.served;
      goes = goes_then (stock_of first) (stock_of old) (stock_of new) c.args.pairs.now c.loop-number.pairs c.turn_at.new.pairs before.goes after.goes;
      stays = parts_then c.args.pairs.now c.loop-number.pairs c.turn_at.new.pairs c.args.scripts.now c.loop-number.scripts c.turn_at.new.scripts
          c.args.lan.now c.loop-number.lan c.turn_at.new.lan before.stays after.stays;
      keeps = keeps_then (parts_at first c.args.pairs.now c.args.scripts.now c.args.lan.now) (parts_at old c.loop-number.pairs c.loop-number.scripts c.loop-number.lan)
          (parts_at new c.turn_at.new.pairs c.turn_at.new.scripts c.turn_at.new.lan) before.keeps c.in_ok-turned.ensures.keeps;
      out = λ is told. (quiet (c.either-moved.ensures.other is)).out (before.keeps.said told) (before.out (c.either-moved.ensures.one is) told);
      unfreed = λ keep. c.in_ok-turned.ensures.unfreed (before.unfreed keep);
      opened = λ is linked. (quiet (c.either-moved.ensures.other is)).opened (before.keeps.linked linked) (before.opened (c.either-moved.ensures.one is) linked);
      idle = λ is are.
          idle_next c.loop-number.number old.units.items new.units.items c.loop-number.pairs c.turn_at.new.pairs c.loop-number.scripts c.turn_at.new.scripts
          (omega (arith, before.stays.run.count, after.stays.run.count, c.loop-number-test.true)) after.elsewhere
          ((quiet (c.either-moved.ensures.other is)).idle (before.keeps.linked are)) (before.idle (c.either-moved.ensures.one is) are);
      clients = λ granted are. c.in_ok-turned.ensures.clients granted (before.clients granted are);
      quietly = λ is linked granted are.
          (quiet (c.either-moved.ensures.other is)).quietly (before.keeps.linked linked) granted (before.clients granted are)
          (before.quietly (c.either-moved.ensures.one is) linked granted are);
      taken = λ is.
          ports_next c.loop-number.number c.loop-number.lan c.turn_at.new.lan c.loop-number.scripts c.turn_at.new.scripts
          (omega (arith, before.stays.run.count, after.stays.run.count, c.loop-number-test.true)) after.elsewhere (quiet (c.either-moved.ensures.other is)).ports
          (before.taken (c.either-moved.ensures.one is));
    }

pub returns-in_err-turned-clause-goes : goal.returns-in_err-turned-clause-goes
returns-in_err-turned-clause-goes g c =
    goes_then (stock_of c.args.server.now) (stock_of c.loop-number.server) (stock_of c.turn_at.new.server)
    c.args.pairs.now c.loop-number.pairs c.turn_at.new.pairs c.loop-number.invariant.goes c.turn_at.ensures.goes

pub returns-in_err-turned-clause-stays : goal.returns-in_err-turned-clause-stays
returns-in_err-turned-clause-stays g c =
    parts_then c.args.pairs.now c.loop-number.pairs c.turn_at.new.pairs c.args.scripts.now c.loop-number.scripts c.turn_at.new.scripts
    c.args.lan.now c.loop-number.lan c.turn_at.new.lan c.loop-number.invariant.stays c.turn_at.ensures.stays

pub returns-clause-quiet : goal.returns-clause-quiet
returns-clause-quiet g c = λ is.
    let count = c.loop-number.invariant.stays.run.count in
    let all = c.loop-number.invariant in
    let server = c.loop-number.server in
    record {
      opened = λ linked. open_all c.loop-number.number c.loop-number.pairs c.loop-number.scripts (omega (arith, count, c.loop-number-test.false)) (all.opened is linked);
      out = λ told. out_all c.loop-number.number c.loop-number.pairs c.loop-number.scripts (omega (arith, count, c.loop-number-test.false)) (all.out is told);
      rests = record {
        idle = λ are. idle_all c.loop-number.number server.units.items c.loop-number.pairs c.loop-number.scripts (omega (arith, count, c.loop-number-test.false)) (all.idle is are);
        ports = ports_all c.loop-number.number c.loop-number.lan c.loop-number.scripts (omega (arith, count, c.loop-number-test.false)) (all.taken is);
      };
      quietly = λ linked granted are.
          let rest = all.quietly is linked granted are in
          record {
            plain = round_quietly server.partition c.loop-number.number (books_in server) c.loop-number.scripts (omega (arith, count, c.loop-number-test.false)) rest.plain;
            own = round_quiet_own server.partition c.loop-number.number server.units.items c.loop-number.pairs c.loop-number.scripts (omega (arith, count, c.loop-number-test.false)) rest.own;
          };
    }

pub returns-clause-clients : goal.returns-clause-clients
returns-clause-clients g c = λ granted are.
    let all = c.loop-number.invariant.clients granted are in
    let server = c.loop-number.server in
    let done : length c.loop-number.scripts ≤ c.loop-number.number = omega (arith, c.loop-number.invariant.stays.run.count, c.loop-number-test.false) in
    record {
      plain = round_plainly granted server.partition c.loop-number.number (books_in server) c.loop-number.pairs c.loop-number.scripts done all.plain;
      own = round_own granted server.partition c.loop-number.number (books_in server) c.loop-number.pairs c.loop-number.scripts done all.own;
    }
