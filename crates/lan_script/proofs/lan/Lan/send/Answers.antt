use Rattle.lan_script.proofs.CountsKept.{same_then}
use Rattle.lan_script.proofs.ReplayedSends.{goes_kept, send_behind}
use Rattle.lan_script.proofs.ReplayedShown.{kept_shown}
use Rattle.lan_script.proofs.ReplayedValues.{kept_values}
use Rattle.lan_script.proofs.Telling.{sent_kept}
use Rattle.lan_script.proofs.RegionsGrow.{regions_kept}
use Rattle.lan_script.proofs.RegionMarks.{marks_kept}
use Rattle.lan_script.specs.Regions.{IsNoMark}
use Rattle.lan_script.proofs.lan.Lan.send.Goals as goal

pub returns-clause-counts : goal.returns-clause-counts
returns-clause-counts c = same_then c.keep.result c.args.self.now c.offer.new.self c.keep.new.self c.in_ok-made.ensures.counts c.keep.ensures.counts

pub returns-clause-sends : goal.returns-clause-sends
returns-clause-sends c =
    sent_kept c.args.unit c.in_ok-made.made c.keep.result c.args.self.now c.offer.new.self c.keep.new.self c.offer.ensures.seats c.offer.ensures.frames
    c.in_ok-made.ensures.targets c.in_ok-made.ensures.counts.grows c.keep.ensures.counts c.keep.ensures.keeps c.keep.ensures.code c.keep.ensures.number

pub returns-clause-replays : goal.returns-clause-replays
returns-clause-replays c =
    send_behind c.args.unit c.keep.result c.args.self.now c.offer.new.self c.keep.new.self c.in_ok-made.ensures.replays c.keep.ensures.replays

pub returns-clause-goes : goal.returns-clause-goes
returns-clause-goes c =
    goes_kept c.args.self.now c.args.unit c.args.parts.now c.in_ok-made.made c.keep.result c.in_ok-made.ensures.goes c.keep.ensures.code c.keep.ensures.number

pub returns-clause-values : goal.returns-clause-values
returns-clause-values c =
    kept_values c.args.self.now c.offer.new.self c.keep.new.self c.keep.result c.in_ok-made.ensures.values c.keep.ensures.places

pub returns-clause-shown : goal.returns-clause-shown
returns-clause-shown c =
    kept_shown c.args.unit c.args.parts.now c.in_ok-made.made c.keep.result c.args.self.now c.offer.new.self c.keep.new.self c.in_ok-made.ensures.replays
    c.in_ok-made.ensures.shown c.keep.ensures.number c.keep.ensures.adds

pub returns-clause-regions : goal.returns-clause-regions
returns-clause-regions c = regions_kept c.args.self.now c.offer.new.self c.keep.new.self c.keep.result c.in_ok-made.ensures.regions c.keep.ensures.places

pub returns-clause-marks : goal.returns-clause-marks
returns-clause-marks c =
    marks_kept IsNoMark c.args.self.now c.offer.new.self c.keep.new.self c.keep.result c.in_ok-made.ensures.marks c.keep.ensures.places
