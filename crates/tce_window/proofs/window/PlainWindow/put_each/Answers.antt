-- Each step puts the next value, or finds its entry held.
use Rattle.std.proofs.Common.{◌≡◌, ◌+◌, ◌<◌, ◌∙◌, length, sym, false, true, rules}
use Rattle.tce_window.specs.Window.{holds}
use Rattle.tce_window.proofs.Putting.{good_here, good_next, held_here, free_here, rows_next}
use Rattle.tce_window.proofs.window.PlainWindow.put_each.Goals as goal

pub is_held-requires : goal.is_held-requires
is_held-requires c =
    let here : c.loop-done.done < length c.args.list.now = search rules in
    let inside = (good_here (length c.args.self.now.pages) c.args.first c.loop-done.done c.args.list.now here c.loop-done.invariant.good).0 in
    rw c.loop-done.invariant.others inside

pub overflow_cast-result : goal.overflow_cast-result
overflow_cast-result c =
    let here : c.loop-done.done < length c.args.list.now = search rules in
    let inside : c.args.first + c.loop-done.done < length c.args.self.now.pages = (good_here (length c.args.self.now.pages) c.args.first c.loop-done.done c.args.list.now here c.loop-done.invariant.good).0 in
    search rules

pub returns-then-is_held-clause-answer : goal.returns-then-is_held-clause-answer
returns-then-is_held-clause-answer c =
    let here : c.loop-done.done < length c.args.list.now = search rules in
    let held : holds c.args.self.now (c.args.first + c.loop-done.done) ≡ true = search rules in
    sym (held_here (holds c.args.self.now) c.args.first c.loop-done.done c.args.list.now here held) ∙ c.loop-done.invariant.answer

pub loop-done-preserved : goal.loop-done-preserved
loop-done-preserved c =
    let here : c.loop-done.done < length c.args.list.now = search rules in
    let free : holds c.args.self.now (c.args.first + c.loop-done.done) ≡ false = search rules in
    record {
      good = good_next (length c.args.self.now.pages) c.args.first c.loop-done.done c.args.list.now here c.loop-done.invariant.good;
      answer = free_here (holds c.args.self.now) c.args.first c.loop-done.done c.args.list.now here free ∙ c.loop-done.invariant.answer;
      rows = c.put.ensures.rows ∙ rows_next c.args.self.now.rows c.self.inside.table.rows c.args.first c.loop-done.done c.args.list.now here (search rules);
      spare = search rules;
      others = search rules;
    }
