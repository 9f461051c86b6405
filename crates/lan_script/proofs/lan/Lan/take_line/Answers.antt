use Rattle.std.proofs.Common.{◌∙◌, ℕ, ap, arith, subst}
use Rattle.lan_script.specs.PortCounts.{CountsOn, counts}
use Rattle.lan_script.specs.Taking.{taken_on}
use Rattle.lan_script.specs.declared.taking.Taken.{Taken}
use Rattle.lan_script.proofs.CountsKept.{taken_more}
use Rattle.lan_script.proofs.Replaying.{same_on}
use Rattle.lan_script.proofs.lan.Lan.take_line.Goals.{in-Frame+else-done-count-2, in-Blank}
use Rattle.lan_script.proofs.lan.Lan.take_line.Goals as goal

pub returns-then-done-count-2-clause-counts : goal.returns-then-done-count-2-clause-counts
returns-then-done-count-2-clause-counts c =
    subst (λ (n : ℕ). CountsOn c.args.unit (counts 0 c.args.done) (counts 0 n) c.args.self.now c.take_one.new.self)
    (omega (arith, c.saturating_add-done.ensures, c.loop-entry.invariant.less, c.ranges.count.fits))
    (taken_more c.args.unit (counts 0 c.args.done) c.loop-entry.done 1 (taken_on c.in_ok-take_one.field-0) c.args.self.now c.loop-entry.self c.take_one.new.self
    c.loop-entry.invariant.counted c.in_ok-take_one.ensures.counts (ap (λ (t : Taken). taken_on t) c.in-Frame.is))

pub returns-in-Nothing-clause-counts : goal.returns-in-Nothing-clause-counts
returns-in-Nothing-clause-counts c =
    subst (λ (n : ℕ). CountsOn c.args.unit (counts 0 c.args.done) (counts 0 n) c.args.self.now c.take_one.new.self) (omega arith)
    (taken_more c.args.unit (counts 0 c.args.done) c.loop-entry.done 0 (taken_on c.in_ok-take_one.field-0) c.args.self.now c.loop-entry.self c.take_one.new.self
    c.loop-entry.invariant.counted c.in_ok-take_one.ensures.counts (ap (λ (t : Taken). taken_on t) c.in-Nothing.is))

pub loop-entry-preserved : goal.loop-entry-preserved
loop-entry-preserved c =
    elim c.match-branch-2.branch [
      | in-Frame+else-done-count-2 w ↦ record {
        seats = c.take_one.ensures.seats ∙ c.loop-entry.invariant.seats;
        frames = c.take_one.ensures.frames ∙ c.loop-entry.invariant.frames;
        replays = same_on c.args.self.now c.loop-entry.self c.take_one.new.self c.loop-entry.invariant.replays c.in_ok-take_one.ensures.replays;
        places = c.take_one.ensures.places ∙ c.loop-entry.invariant.places;
        counted = subst (λ (n : ℕ). CountsOn c.args.unit (counts 0 c.args.done) (counts 0 n) c.args.self.now c.take_one.new.self)
            (omega (arith, w.saturating_add-done.ensures, w.done-is, c.loop-entry.invariant.less, c.ranges.count.fits))
            (taken_more c.args.unit (counts 0 c.args.done) c.loop-entry.done 1 (taken_on c.in_ok-take_one.field-0) c.args.self.now c.loop-entry.self c.take_one.new.self
            c.loop-entry.invariant.counted c.in_ok-take_one.ensures.counts (ap (λ (t : Taken). taken_on t) w.in-Frame.is));
        less = omega (arith, w.if-done-count-2.false, w.done-is);
      }
      | in-Blank w ↦ record {
        seats = c.take_one.ensures.seats ∙ c.loop-entry.invariant.seats;
        frames = c.take_one.ensures.frames ∙ c.loop-entry.invariant.frames;
        replays = same_on c.args.self.now c.loop-entry.self c.take_one.new.self c.loop-entry.invariant.replays c.in_ok-take_one.ensures.replays;
        places = c.take_one.ensures.places ∙ c.loop-entry.invariant.places;
        counted = subst (λ (n : ℕ). CountsOn c.args.unit (counts 0 c.args.done) (counts 0 n) c.args.self.now c.take_one.new.self)
            (omega (arith, w.done-is))
            (taken_more c.args.unit (counts 0 c.args.done) c.loop-entry.done 0 (taken_on c.in_ok-take_one.field-0) c.args.self.now c.loop-entry.self c.take_one.new.self
            c.loop-entry.invariant.counted c.in_ok-take_one.ensures.counts (ap (λ (t : Taken). taken_on t) w.in-Blank.is));
        less = omega (arith, c.loop-entry.invariant.less, w.done-is);
      }
    ]
