-- What stands before the run is no stroke, or one of another name.
use Rattle.std.proofs.Common.{◌≡◌, ◌-◌, ◌∙◌, rules, arith, ap, take, get_or, false}
use Rattle.tce_window.specs.Named.{same_name, last_run, last_other}
use Rattle.tce_window.proofs.Naming.{run_from, other_from, no_run, found_other, same_at}
use Rattle.tce_window.proofs.named.run_start.Goals as goal

pub returns-else-is_named-clause-run : goal.returns-else-is_named-clause-run
returns-else-is_named-clause-run c =
    let other : same_name ((get_or c.args.strokes.now (c.loop-start.start - 1) c.index-strokes-start.result).name) c.args.name ≡ false = search rules in
    run_from c.args.name c.args.strokes.now c.loop-start.start c.loop-start.invariant.named
    (no_run c.args.name c.args.strokes.now c.loop-start.start c.index-strokes-start.result (omega arith) c.loop-start.invariant.within other)

pub returns-else-is_named-clause-other : goal.returns-else-is_named-clause-other
returns-else-is_named-clause-other c d some =
    let here : same_name ((get_or c.args.strokes.now (c.loop-start.start - 1) c.index-strokes-start.result).name) c.args.name ≡ false = search rules in
    let other : same_name ((get_or c.args.strokes.now (c.loop-start.start - 1) d).name) c.args.name ≡ false =
    ap (λ stroke. same_name stroke.name c.args.name) (same_at c.args.strokes.now (c.loop-start.start - 1) d c.index-strokes-start.result (search rules)) ∙ here
    in
    other_from c.args.name c.args.strokes.now c.loop-start.start c.loop-start.invariant.named
    ∙ found_other c.args.name c.args.strokes.now c.loop-start.start d some c.loop-start.invariant.within other

pub returns-after-loop-start-clause-run : goal.returns-after-loop-start-clause-run
returns-after-loop-start-clause-run c =
    let none : c.loop-start.start ≡ 0 = search rules in
    run_from c.args.name c.args.strokes.now c.loop-start.start c.loop-start.invariant.named
    (ap (λ n. last_run c.args.name (take n c.args.strokes.now)) none)

pub returns-after-loop-start-clause-first : goal.returns-after-loop-start-clause-first
returns-after-loop-start-clause-first c none =
    other_from c.args.name c.args.strokes.now c.loop-start.start c.loop-start.invariant.named
    ∙ ap (λ n. last_other c.args.name (take n c.args.strokes.now)) none
