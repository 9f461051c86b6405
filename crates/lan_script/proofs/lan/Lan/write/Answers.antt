use Rattle.std.proofs.Common.{ℕ, false, List, ap, length}
use Rattle.tce_window.specs.PlainPort.{known_of}
use Rattle.unit_region.proofs.Laws.{keeps_write, write_under}
use Rattle.lan_script.proofs.Lans.{lan_back, place_after, window_there}
use Rattle.lan_script.proofs.ReplayedRegion.{grants_back, not_in_use, not_range}
use Rattle.lan_script.proofs.ReplayedShown.{write_shown}
use Rattle.lan_script.proofs.ReplayedValues.{put_back}
use Rattle.lan_script.proofs.RegionsGrow.{regions_back}
use Rattle.lan_script.proofs.RegionMarks.{line_back}
use Rattle.lan_script.proofs.lan.Lan.write.Goals as goal

pub take-own-requires : goal.take-own-requires
take-own-requires c = window_there _ c.args.self.now c.args.unit c.self.view_is c.self.invariant c.requires.there

pub put-requires-clause-place : goal.put-requires-clause-place
put-requires-clause-place c =
    place_after c.args.unit c.self.inside.windows c.take-own.new.self c.take-own.result c.take-own.ensures.window c.take-own.ensures.rest

pub invariant_of-self : goal.invariant_of-self
invariant_of-self c =
    lan_back _ c.args.unit c.take-own.new.self c.put.new.self c.take-own.result c.write-answer.new.self c.self.invariant c.take-own.ensures.window
    c.take-own.ensures.unit c.take-own.ensures.rest c.put.ensures
    (keeps_write false (known_of c.take-own.result) (known_of c.write-answer.new.self) c.args.at c.args.bytes.now c.args.mark c.write-answer.result
    c.write-answer.ensures.ok c.write-answer.ensures.err c.write-answer.ensures.rest)

pub returns-clause-free : goal.returns-clause-free
returns-clause-free c = λ have.
    not_in_use _ c.args.self.now c.args.unit c.take-own.result c.args.at (length c.args.bytes.now) c.write-answer.result c.self.view_is c.take-own.ensures.window
    c.write-answer.ensures.in_use have

pub returns-clause-range : goal.returns-clause-range
returns-clause-range c = λ seat at.
    not_range _ c.args.self.now c.args.unit c.take-own.result c.args.at (length c.args.bytes.now) c.write-answer.result c.self.view_is c.self.invariant
    c.take-own.ensures.window c.write-answer.ensures.range seat at

pub returns-clause-grants : goal.returns-clause-grants
returns-clause-grants c = λ grants e.
    grants_back _ c.args.self.now c.args.unit c.take-own.new.self c.put.new.self c.take-own.result c.write-answer.new.self c.self.view_is c.take-own.ensures.window
    c.take-own.ensures.rest c.put.ensures
    (λ k. ap (λ (v : ℕ → List ℕ). v k) c.write-answer.ensures.rest.values) grants e

pub returns-clause-values : goal.returns-clause-values
returns-clause-values c =
    put_back _ c.args.self.now c.args.unit c.take-own.new.self c.put.new.self c.take-own.result c.write-answer.new.self c.self.view_is c.take-own.ensures.window
    c.take-own.ensures.rest c.put.ensures (λ k. ap (λ (v : ℕ → List ℕ). v k) c.write-answer.ensures.rest.values)

pub returns-clause-shown : goal.returns-clause-shown
returns-clause-shown c =
    write_shown c.self.inside.windows c.take-own.new.self c.put.new.self c.args.unit c.take-own.result c.write-answer.new.self c.args.at c.args.mark
    c.args.bytes.now c.write-answer.result c.take-own.ensures.window c.take-own.ensures.rest c.put.ensures c.write-answer.ensures.ok

pub returns-clause-regions : goal.returns-clause-regions
returns-clause-regions c =
    regions_back _ c.args.self.now c.args.unit c.take-own.new.self c.put.new.self c.take-own.result c.write-answer.new.self c.self.view_is c.take-own.ensures.window
    c.take-own.ensures.rest c.put.ensures
    (keeps_write false (known_of c.take-own.result) (known_of c.write-answer.new.self) c.args.at c.args.bytes.now c.args.mark c.write-answer.result
    c.write-answer.ensures.ok c.write-answer.ensures.err c.write-answer.ensures.rest)

pub returns-clause-marks : goal.returns-clause-marks
returns-clause-marks c =
    line_back _ c.args.self.now c.args.unit c.args.mark c.take-own.new.self c.put.new.self c.take-own.result c.write-answer.new.self c.self.view_is
    c.take-own.ensures.window c.take-own.ensures.unit c.take-own.ensures.rest c.put.ensures
    (write_under false (known_of c.take-own.result) (known_of c.write-answer.new.self) c.args.at c.args.bytes.now c.args.mark c.write-answer.result
    c.write-answer.ensures.ok c.write-answer.ensures.err)
