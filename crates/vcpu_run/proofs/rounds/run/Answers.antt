use Rattle.vcpu_run.proofs.Idling.{over_all}
use Rattle.vcpu_run.specs.Rounds.{parts_at}
use Rattle.block_server.specs.TurnStock.{stock_of}
use Rattle.vcpu_run.proofs.Going.{goes_same, goes_then, keeps_same, keeps_then, parts_same, parts_then}
use Rattle.vcpu_run.proofs.rounds.run.Goals as goal

pub loop-round-init : goal.loop-round-init
loop-round-init g c =
    let server = c.args.server.now in
    let pairs = c.args.pairs.now in
    record {
      machine = c.requires.machine;
      served = c.requires.served;
      goes = goes_same (stock_of server) pairs;
      stays = parts_same pairs c.args.scripts.now c.args.lan.now;
      keeps = keeps_same (parts_at server pairs c.args.scripts.now c.args.lan.now);
      unfreed = λ linked keep. keep;
      clients = λ linked granted are. are;
    }

pub loop-round-preserved : goal.loop-round-preserved
loop-round-preserved g c =
    let before = c.loop-round.invariant in
    record {
      machine = c.step.ensures.machine;
      served = c.step.ensures.served;
      goes = goes_then (stock_of c.args.server.now) (stock_of c.loop-round.server) (stock_of c.step.new.server)
          c.args.pairs.now c.loop-round.pairs c.step.new.pairs c.loop-round.invariant.goes c.step.ensures.goes;
      stays = parts_then c.args.pairs.now c.loop-round.pairs c.step.new.pairs c.args.scripts.now c.loop-round.scripts c.step.new.scripts
          c.args.lan.now c.loop-round.lan c.step.new.lan c.loop-round.invariant.stays c.step.ensures.stays;
      keeps = keeps_then (parts_at c.args.server.now c.args.pairs.now c.args.scripts.now c.args.lan.now) (parts_at c.loop-round.server c.loop-round.pairs c.loop-round.scripts c.loop-round.lan)
          (parts_at c.step.new.server c.step.new.pairs c.step.new.scripts c.step.new.lan) c.loop-round.invariant.keeps c.in_ok-moved.ensures.keeps;
      unfreed = λ linked keep. c.in_ok-moved.ensures.unfreed (before.keeps.linked linked) (before.unfreed linked keep);
      clients = λ linked granted are. c.in_ok-moved.ensures.clients (before.keeps.linked linked) granted (before.clients linked granted are);
    }

pub returns-in_err-moved-clause-goes : goal.returns-in_err-moved-clause-goes
returns-in_err-moved-clause-goes g c =
    goes_then (stock_of c.args.server.now) (stock_of c.loop-round.server) (stock_of c.step.new.server)
    c.args.pairs.now c.loop-round.pairs c.step.new.pairs c.loop-round.invariant.goes c.step.ensures.goes

pub returns-in_err-moved-clause-stays : goal.returns-in_err-moved-clause-stays
returns-in_err-moved-clause-stays g c =
    parts_then c.args.pairs.now c.loop-round.pairs c.step.new.pairs c.args.scripts.now c.loop-round.scripts c.step.new.scripts
    c.args.lan.now c.loop-round.lan c.step.new.lan c.loop-round.invariant.stays c.step.ensures.stays

pub returns-then-is_end-clause-goes : goal.returns-then-is_end-clause-goes
returns-then-is_end-clause-goes g c =
    goes_then (stock_of c.args.server.now) (stock_of c.loop-round.server) (stock_of c.step.new.server)
    c.args.pairs.now c.loop-round.pairs c.step.new.pairs c.loop-round.invariant.goes c.step.ensures.goes

pub returns-then-is_end-clause-stays : goal.returns-then-is_end-clause-stays
returns-then-is_end-clause-stays g c =
    parts_then c.args.pairs.now c.loop-round.pairs c.step.new.pairs c.args.scripts.now c.loop-round.scripts c.step.new.scripts
    c.args.lan.now c.loop-round.lan c.step.new.lan c.loop-round.invariant.stays c.step.ensures.stays

pub returns-then-is_end-clause-keeps : goal.returns-then-is_end-clause-keeps
returns-then-is_end-clause-keeps g c =
    keeps_then (parts_at c.args.server.now c.args.pairs.now c.args.scripts.now c.args.lan.now) (parts_at c.loop-round.server c.loop-round.pairs c.loop-round.scripts c.loop-round.lan)
    (parts_at c.step.new.server c.step.new.pairs c.step.new.scripts c.step.new.lan) c.loop-round.invariant.keeps c.in_ok-moved.ensures.keeps

pub returns-then-is_end-clause-idle : goal.returns-then-is_end-clause-idle
returns-then-is_end-clause-idle g c = λ are.
    let linked = c.loop-round.invariant.keeps.linked are in
    let rests = c.in_ok-moved.ensures.rests (c.is_end.ensures.quiet c.if-is_end.true) in
    record {
      wait = rests.idle linked (over_all c.step.new.scripts (c.is_end.ensures.over c.if-is_end.true));
      shut = λ k pair found. (c.in_ok-moved.ensures.keeps.linked linked k pair found).shut;
    }

pub returns-then-is_end-clause-ports : goal.returns-then-is_end-clause-ports
returns-then-is_end-clause-ports g c =
    (c.in_ok-moved.ensures.rests (c.is_end.ensures.quiet c.if-is_end.true)).ports (over_all c.step.new.scripts (c.is_end.ensures.over c.if-is_end.true))

pub returns-then-is_end-clause-unfreed : goal.returns-then-is_end-clause-unfreed
returns-then-is_end-clause-unfreed g c = λ linked keep.
    c.in_ok-moved.ensures.unfreed (c.loop-round.invariant.keeps.linked linked) (c.loop-round.invariant.unfreed linked keep)

pub returns-then-is_end-clause-clients : goal.returns-then-is_end-clause-clients
returns-then-is_end-clause-clients g c = λ linked granted are.
    c.in_ok-moved.ensures.clients (c.loop-round.invariant.keeps.linked linked) granted (c.loop-round.invariant.clients linked granted are)
