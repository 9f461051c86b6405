use Rattle.std.proofs.Common.{refl, ◌≡◌, ◌∙◌, ◌+◌, suc, arith, min, sym, subst}
use Rattle.boot_text.specs.declared.verb.Verb.TheVariants as verbs
use Rattle.lan_script.specs.PortCounts.{CountsStep, counts}
use Rattle.lan_script.specs.declared.lines.PortStep.{PortStep}
use Rattle.lan_script.proofs.Buffering.{adds_ended, adds_more, adds_refused}
use Rattle.lan_script.proofs.Correlating.{then_carries}
use Rattle.lan_script.proofs.CountsKept.{posted_all, posted_more}
use Rattle.lan_script.specs.PortReplay.{IsBufferLen}
use Rattle.lan_script.specs.Replayed.{HasPosted, ReplaysOn}
use Rattle.lan_script.proofs.OwnMacs.{adds_settings}
use Rattle.lan_script.proofs.ReplayedLines.{add_allowed, post_refused, refused_counts}
use Rattle.lan_script.proofs.ReplayedFits.{next_fits}
use Rattle.vio_num.specs.declared.hypervisor.Hrc.TheVariants.{Success}
use Rattle.vio_trace.specs.declared.outcome.Outcome.TheVariants as outcomes
use Rattle.lan_script.specs.declared.lines.PortStep.TheVariants as steps
use Rattle.lan_script.proofs.ReplayedPosts.{posts_more}
use Rattle.lan_script.proofs.RegionsGrow.{regions_then}
use Rattle.lan_script.proofs.RegionMarks.{marks_then}
use Rattle.lan_script.specs.Regions.{IsLineMark}
use Rattle.lan_script.proofs.Forms.{post_form}
use Rattle.lan_script.proofs.lan.Lan.post_line.Goals as goal

pub loop-posted-preserved : goal.loop-posted-preserved
loop-posted-preserved c = record {
  seats = c.post_one.ensures.seats ∙ c.loop-posted.invariant.seats;
  frames = c.post_one.ensures.frames ∙ c.loop-posted.invariant.frames;
  replays = λ e.
      let more : suc c.loop-posted.posted ≡ c.loop-posted.posted + 1 = omega arith in
      subst (λ n. ReplaysOn c.args.unit (HasPosted c.args.len n) c.args.self.now c.post_one.new.self) more
      (posts_more c.args.unit c.args.len c.loop-posted.posted (IsBufferLen c.args.len) c.in_ok-code.code c.args.self.now c.loop-posted.self c.post_one.new.self
      c.in-Success.is (c.loop-posted.invariant.replays e) c.in_ok-code.ensures.replays);
  first = λ e none. absurd (add_allowed c.args.unit c.args.len c.loop-posted.posted c.in_ok-code.code c.args.self.now c.loop-posted.self c.post_one.new.self
      c.in-Success.is (c.loop-posted.invariant.replays e) c.in_ok-code.ensures.replays none);
  grants = λ all. c.in_ok-code.ensures.grants (c.loop-posted.invariant.grants all);
  settings = adds_settings c.args.unit c.args.len (IsBufferLen c.args.len) c.in_ok-code.code c.loop-posted.self c.post_one.new.self c.in_ok-code.ensures.replays
      ∙ c.loop-posted.invariant.settings;
  within = λ e. omega (arith, c.loop-posted-test.true);
  beside = λ other e. c.in_ok-code.ensures.replays.beside other e ∙ c.loop-posted.invariant.beside other e;
  values = λ v e. c.in_ok-code.ensures.values v e ∙ c.loop-posted.invariant.values v e;
  regions = regions_then c.args.self.now c.loop-posted.self c.post_one.new.self c.loop-posted.invariant.regions c.in_ok-code.ensures.regions;
  marks = marks_then (IsLineMark c.args.unit c.args.mark) c.args.self.now c.loop-posted.self c.post_one.new.self c.loop-posted.invariant.marks c.in_ok-code.ensures.marks;
  addresses = then_carries c.args.unit c.args.self.now c.loop-posted.self c.post_one.new.self c.loop-posted.invariant.values c.loop-posted.invariant.addresses
      c.in_ok-code.ensures.addresses;
  adds = adds_more c.args.unit c.args.at c.args.len c.args.done c.args.count c.loop-posted.posted c.buffer_at.result c.in_ok-code.code c.args.self.now
      c.loop-posted.self c.post_one.new.self c.in-Success.is c.loop-posted-test.true c.buffer_at.ensures.is c.in_ok-code.ensures.posts
      c.loop-posted.invariant.adds;
  counted = posted_more c.args.unit c.args.done c.args.count c.loop-posted.posted c.in_ok-code.code c.args.self.now c.loop-posted.self c.post_one.new.self
      c.in-Success.is c.loop-posted-test.true c.loop-posted.invariant.counted c.in_ok-code.ensures.counts;
}

pub returns-clause-counts : goal.returns-clause-counts
returns-clause-counts c =
    subst (λ (step : PortStep). CountsStep c.args.unit (verbs.Post c.args.at c.args.len c.args.count) c.args.done step c.args.self.now c.loop-posted.self)
    (sym c.ended-2.ensures.tells)
    (posted_all c.args.unit (counts (min c.args.done c.args.count) 0) c.args.count c.loop-posted.posted c.args.self.now c.loop-posted.self (omega arith)
    c.loop-posted.invariant.counted)

pub returns-clause-posts : goal.returns-clause-posts
returns-clause-posts c =
    adds_ended c.args.unit c.args.at c.args.len c.args.done c.args.count c.loop-posted.posted c.args.count Success c.ended-2.result c.args.self.now
    c.loop-posted.self c.ended-2.ensures.tells (omega arith) c.loop-posted.invariant.adds

pub returns-in_default : goal.returns-in_default
returns-in_default c =
    let same : c.in_ok-code.code ≡ c.in_default.code = cc (c.in_default.code-is) in
    let not : c.in_ok-code.code ≡ Success → ⊥ = λ e. c.in_default.not-Success (cc (e, same)) in
    let tells : c.ended.result ≡ steps.Ends (outcomes.Posted c.loop-posted.posted c.in_ok-code.code) =
    c.ended.ensures.tells in
    record {
      seats = c.post_one.ensures.seats ∙ c.loop-posted.invariant.seats;
      none = c.ended.ensures.none;
      frames = c.post_one.ensures.frames ∙ c.loop-posted.invariant.frames;
      counts = refused_counts c.args.unit (counts (min c.args.done c.args.count) 0) c.args.at c.args.len c.args.count c.loop-posted.posted c.in_ok-code.code
          c.ended.result c.args.self.now c.loop-posted.self c.post_one.new.self tells not c.loop-posted-test.true c.loop-posted.invariant.counted
          c.in_ok-code.ensures.counts;
      posts = adds_ended c.args.unit c.args.at c.args.len c.args.done c.args.count c.loop-posted.posted c.loop-posted.posted c.in_ok-code.code c.ended.result
          c.args.self.now c.post_one.new.self tells (omega (arith, c.loop-posted-test.true))
          (adds_refused c.args.unit _ _ c.in_ok-code.code c.args.self.now c.loop-posted.self c.post_one.new.self not c.in_ok-code.ensures.counts
          c.loop-posted.invariant.adds);
      told = c.ended.ensures.told;
      form = post_form c.args.at c.args.len c.args.count c.loop-posted.posted c.in_ok-code.code c.ended.result tells c.in_ok-code.ensures.code;
      macs = adds_settings c.args.unit c.args.len (IsBufferLen c.args.len) c.in_ok-code.code c.loop-posted.self c.post_one.new.self c.in_ok-code.ensures.replays
          ∙ c.loop-posted.invariant.settings;
      replays = λ e.
          post_refused c.args.unit c.args.at c.args.len c.args.count c.loop-posted.posted c.in_ok-code.code c.ended.result c.args.self.now c.loop-posted.self
          c.post_one.new.self tells not (c.loop-posted.invariant.first e) (c.loop-posted.invariant.replays e)
          c.in_ok-code.ensures.replays
          (λ seat is all. next_fits c.args.unit seat c.args.at c.args.len c.args.count c.loop-posted.posted c.in_ok-code.code c.buffer_at.result c.args.self.now
          c.loop-posted.self is all c.loop-posted.invariant.seats c.loop-posted.invariant.grants (c.loop-posted.invariant.replays e) c.loop-posted-test.true
          c.buffer_at.ensures.some c.in_ok-code.ensures.fits);
      beside = λ other f. c.in_ok-code.ensures.replays.beside other f ∙ c.loop-posted.invariant.beside other f;
      addresses = then_carries c.args.unit c.args.self.now c.loop-posted.self c.post_one.new.self c.loop-posted.invariant.values c.loop-posted.invariant.addresses
          c.in_ok-code.ensures.addresses;
      values = λ v e. c.in_ok-code.ensures.values v e ∙ c.loop-posted.invariant.values v e;
      regions = regions_then c.args.self.now c.loop-posted.self c.post_one.new.self c.loop-posted.invariant.regions c.in_ok-code.ensures.regions;
      marks = marks_then (IsLineMark c.args.unit c.args.mark) c.args.self.now c.loop-posted.self c.post_one.new.self c.loop-posted.invariant.marks c.in_ok-code.ensures.marks;
    }

pub returns-in-Busy-clause-values : goal.returns-in-Busy-clause-values
returns-in-Busy-clause-values c = λ v e. c.in_ok-code.ensures.values v e ∙ c.loop-posted.invariant.values v e

pub returns-in-Busy-clause-addresses : goal.returns-in-Busy-clause-addresses
returns-in-Busy-clause-addresses c =
    then_carries c.args.unit c.args.self.now c.loop-posted.self c.post_one.new.self c.loop-posted.invariant.values c.loop-posted.invariant.addresses
    c.in_ok-code.ensures.addresses

pub returns-in-Busy-clause-regions : goal.returns-in-Busy-clause-regions
returns-in-Busy-clause-regions c =
    regions_then c.args.self.now c.loop-posted.self c.post_one.new.self c.loop-posted.invariant.regions c.in_ok-code.ensures.regions

pub returns-in-Busy-clause-marks : goal.returns-in-Busy-clause-marks
returns-in-Busy-clause-marks c =
    marks_then (IsLineMark c.args.unit c.args.mark) c.args.self.now c.loop-posted.self c.post_one.new.self c.loop-posted.invariant.marks c.in_ok-code.ensures.marks

pub returns-clause-form : goal.returns-clause-form
returns-clause-form c = post_form c.args.at c.args.len c.args.count c.args.count Success c.ended-2.result c.ended-2.ensures.tells refl
