use Rattle.std.proofs.Common.{ℕ, List, [], ◌∷◌, ◌∙◌, OnOk, arith, subst}
use Rattle.boot_text.specs.declared.verb.Verb.TheVariants as verbs
use Rattle.lan_script.specs.Replayed.{Shows}
use Rattle.lan_script.proofs.CountsKept.{same_on}
use Rattle.lan_script.proofs.OwnPages.{no_bytes_here, send_bytes}
use Rattle.lan_script.proofs.OwnMacs.{same_settings, sent_settings}
use Rattle.lan_script.proofs.ReplayedLines.{one_part, send_goes}
use Rattle.lan_script.proofs.Telling.{sends_said, sent_behind}
use Rattle.lan_script.proofs.RegionsGrow.{regions_then}
use Rattle.lan_script.proofs.RegionMarks.{marks_none, marks_then}
use Rattle.lan_script.specs.Regions.{IsLineMark}
use Rattle.lan_script.proofs.Forms.{send_form}
use Rattle.lan_script.proofs.SendRanges.{lies_inside}
use Rattle.lan_script.proofs.lan.Lan.send_line.Goals as goal

pub returns-clause-counts : goal.returns-clause-counts
returns-clause-counts c = same_on c.args.self.now c.write.new.self c.send.new.self c.write.ensures.counts c.in_ok-sent.ensures.counts

pub returns-clause-sends : goal.returns-clause-sends
returns-clause-sends c =
    sends_said c.args.unit c.in_ok-sent.sent.code c.in_ok-sent.sent.number c.said.result c.args.self.now c.send.new.self c.said.ensures.says
    (sent_behind c.args.unit c.in_ok-sent.sent.code c.in_ok-sent.sent.number c.args.self.now c.write.new.self c.send.new.self c.write.ensures.seats
    c.write.ensures.frames c.write.ensures.replays c.in_ok-sent.ensures.sends)

pub returns-clause-replays : goal.returns-clause-replays
returns-clause-replays c =
    send_goes c.args.unit c.args.to c.present-from.result c.args.len c.args.seed c.args.at c.in_ok-frame.frame.items (c.descriptor.result ∷ 0 ∷ 0 ∷ 0 ∷ 0 ∷ 0 ∷ []) c.in_ok-sent.sent.code c.in_ok-sent.sent.number
    c.said.result c.args.self.now c.write.new.self c.send.new.self (λ seat at. (c.has_range.ensures.range seat at).0 c.if-not-has_range.false)
    (one_part c.descriptor.result c.args.at c.args.len c.descriptor.ensures.valid c.descriptor.ensures.address c.descriptor.ensures.len c.requires.least
    c.requires.most) c.write.ensures.seats c.write.ensures.replays c.write.ensures.grants
    (record {
      few = omega arith;
      long = c.in_ok-frame.ensures.len;
      bytes_are = c.in_ok-frame.ensures.bytes;
      present = c.present-from.ensures.opened;
      shown = subst (λ (bytes : List ℕ). Shows c.write.new.self.places c.args.unit c.args.at bytes) c.deref.ensures.value
          (subst (λ r. OnOk r (Shows c.write.new.self.places c.args.unit c.args.at c.deref.result.now)) c.in-Ok.is c.write.ensures.shown);
    }) c.in_ok-sent.ensures.replays c.in_ok-sent.ensures.shown c.in_ok-sent.ensures.goes
    (record { sent = c.said.ensures.says; coded = c.said.ensures.coded })

pub returns-clause-bytes : goal.returns-clause-bytes
returns-clause-bytes c =
    send_bytes c.args.unit c.args.to c.present-from.result c.args.len c.args.seed c.args.at c.in_ok-frame.frame.items (c.descriptor.result ∷ 0 ∷ 0 ∷ 0 ∷ 0 ∷ 0 ∷ []) c.in_ok-sent.sent.code c.in_ok-sent.sent.number
    c.said.result c.args.self.now c.write.new.self c.send.new.self
    (one_part c.descriptor.result c.args.at c.args.len c.descriptor.ensures.valid c.descriptor.ensures.address c.descriptor.ensures.len c.requires.least
    c.requires.most) c.write.ensures.replays (c.write.ensures.values c.args.unit)
    (record {
      few = omega arith;
      long = c.in_ok-frame.ensures.len;
      bytes_are = c.in_ok-frame.ensures.bytes;
      present = c.present-from.ensures.opened;
      shown = subst (λ (bytes : List ℕ). Shows c.write.new.self.places c.args.unit c.args.at bytes) c.deref.ensures.value
          (subst (λ r. OnOk r (Shows c.write.new.self.places c.args.unit c.args.at c.deref.result.now)) c.in-Ok.is c.write.ensures.shown);
    }) c.in_ok-sent.ensures.shown c.in_ok-sent.ensures.goes (record { sent = c.said.ensures.says; coded = c.said.ensures.coded })

pub returns-in-Err-InUse-clause-bytes : goal.returns-in-Err-InUse-clause-bytes
returns-in-Err-InUse-clause-bytes c =
    no_bytes_here c.args.unit (verbs.Send c.args.to c.args.len c.args.seed c.args.at) c.waits.result c.args.self.now c.write.new.self c.waits.ensures.none

pub returns-clause-values : goal.returns-clause-values
returns-clause-values c = λ v e. c.in_ok-sent.ensures.values v e ∙ c.write.ensures.values v e

pub returns-clause-macs : goal.returns-clause-macs
returns-clause-macs c =
    sent_settings c.args.unit c.in_ok-sent.sent.code c.in_ok-sent.sent.number c.write.new.self c.send.new.self c.in_ok-sent.ensures.replays
    ∙ same_settings c.args.unit c.args.self.now c.write.new.self c.write.ensures.replays

pub returns-clause-regions : goal.returns-clause-regions
returns-clause-regions c = regions_then c.args.self.now c.write.new.self c.send.new.self c.write.ensures.regions c.in_ok-sent.ensures.regions

pub returns-clause-marks : goal.returns-clause-marks
returns-clause-marks c =
    marks_then (IsLineMark c.args.unit c.args.mark) c.args.self.now c.write.new.self c.send.new.self c.write.ensures.marks
    (marks_none (IsLineMark c.args.unit c.args.mark) c.write.new.self c.send.new.self c.in_ok-sent.ensures.marks)

pub returns-clause-ranges : goal.returns-clause-ranges
returns-clause-ranges c =
    lies_inside c.args.unit c.args.to c.args.len c.args.seed c.args.at c.said.result c.args.self.now.seats (omega (arith, c.requires.least)) (omega (arith, c.requires.most))
    (λ seat at. (c.has_range.ensures.range seat at).0 c.if-not-has_range.false) c.said.ensures.inside

pub returns-in-Err-InUse-clause-ranges : goal.returns-in-Err-InUse-clause-ranges
returns-in-Err-InUse-clause-ranges c =
    lies_inside c.args.unit c.args.to c.args.len c.args.seed c.args.at c.waits.result c.args.self.now.seats (omega (arith, c.requires.least)) (omega (arith, c.requires.most))
    (λ seat at. (c.has_range.ensures.range seat at).0 c.if-not-has_range.false) c.waits.ensures.inside

pub returns-clause-form : goal.returns-clause-form
returns-clause-form c = send_form c.args.to c.args.len c.args.seed c.args.at c.said.result (c.said.ensures.form c.in_ok-sent.ensures.code)
