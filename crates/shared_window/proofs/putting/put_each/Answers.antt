-- Each step puts the next value, or finds its entry with pins.
use Rattle.std.proofs.Common.{rules, ◌+◌, ◌<◌, length, get_or, arith}
use Rattle.tce_window.proofs.Laws.{good_here, good_next}
use Rattle.shared_window.specs.Putting.{PutsValue}
use Rattle.shared_window.proofs.PuttingValues.{table_stays, one_more}
use Rattle.shared_window.proofs.putting.put_each.Goals as goal

pub overflow_cast-entry : goal.overflow_cast-entry
overflow_cast-entry c =
    let here : c.loop-done.done < length c.args.list.now = search rules in
    let inside = (good_here c.args.entries.now.count c.args.first c.loop-done.done c.args.list.now here c.loop-done.invariant.good).0 in
    let few : c.args.entries.now.count < 65536 = search rules in
    omega (arith, inside, few)

pub loop-done-preserved : goal.loop-done-preserved
loop-done-preserved c =
    let here : c.loop-done.done < length c.args.list.now = search rules in
    let put : PutsValue c.loop-done.seat c.loop-done.table (c.args.first + c.loop-done.done) (get_or c.args.list.now c.loop-done.done 0) c.put_value.new.seat c.put_value.new.table = search rules in
    record {
      table = table_stays c.args.entries.now c.loop-done.seat c.put_value.new.seat c.loop-done.table c.put_value.new.table (c.args.first + c.loop-done.done) (get_or c.args.list.now c.loop-done.done 0) c.loop-done.invariant.table put;
      good = good_next c.args.entries.now.count c.args.first c.loop-done.done c.args.list.now here c.loop-done.invariant.good;
      puts = one_more c.args.seat.now c.loop-done.seat c.put_value.new.seat c.args.table.now c.loop-done.table c.args.first c.loop-done.done c.args.list.now here c.loop-done.invariant.puts c.put_value.new.table put;
    }
