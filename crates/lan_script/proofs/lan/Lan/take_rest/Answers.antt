use Rattle.std.proofs.Common.{◌∙◌, arith}
use Rattle.lan_script.proofs.CountsKept.{takes_on}
use Rattle.lan_script.proofs.Replaying.{same_on}
use Rattle.lan_script.proofs.Resting.{none_behind, not_quiet, reads_one}
use Rattle.lan_script.proofs.lan.Lan.take_rest.Goals as goal

pub loop-entry-preserved : goal.loop-entry-preserved
loop-entry-preserved c = record {
  seats = c.take_one.ensures.seats ∙ c.loop-entry.invariant.seats;
  frames = c.take_one.ensures.frames ∙ c.loop-entry.invariant.frames;
  replays = same_on c.args.self.now c.loop-entry.self c.take_one.new.self c.loop-entry.invariant.replays c.in_ok-take_one.ensures.replays;
  places = c.take_one.ensures.places ∙ c.loop-entry.invariant.places;
  taken = takes_on c.args.unit c.in_ok-take_one.field-0 c.args.self.now c.loop-entry.self c.take_one.new.self c.loop-entry.invariant.taken
      c.in_ok-take_one.ensures.counts;
  still = λ is. absurd (not_quiet is);
  grown = omega (arith, c.loop-entry.invariant.grown, c.in_ok-take_one.ensures.reads, reads_one _ c.in-Frame.is);
  more = λ is. omega (arith, c.loop-entry.invariant.grown, c.in_ok-take_one.ensures.reads, reads_one _ c.in-Frame.is);
  first = λ is. absurd (not_quiet is);
}

pub returns-in-Nothing-clause-nothing : goal.returns-in-Nothing-clause-nothing
returns-in-Nothing-clause-nothing c = λ is.
    none_behind c.args.unit c.in_ok-take_one.field-0 c.args.self.now c.loop-entry.self c.take_one.new.self (c.loop-entry.invariant.still is)
    (c.in_ok-take_one.ensures.nothing c.in-Nothing.is)

pub returns-clause-nothing : goal.returns-clause-nothing
returns-clause-nothing c = λ is.
    absurd (omega (arith, c.loop-entry.invariant.first is, c.loop-entry-test.false, c.slots-entry-end.ensures.least))

pub returns-in-Nothing-clause-counts : goal.returns-in-Nothing-clause-counts
returns-in-Nothing-clause-counts c =
    takes_on c.args.unit c.in_ok-take_one.field-0 c.args.self.now c.loop-entry.self c.take_one.new.self c.loop-entry.invariant.taken c.in_ok-take_one.ensures.counts
