use Rattle.std.proofs.Common.{ℕ, List, ap}
use Rattle.lan_script.specs.Units.{LanValue}
use Rattle.lan_script.proofs.EntriesPut.{puts_back}
use Rattle.lan_script.proofs.Lans.{lan_back, place_after, window_there}
use Rattle.lan_script.proofs.ReplayedValues.{put_back, put_beside}
use Rattle.lan_script.proofs.OwnPages.{region_back}
use Rattle.lan_script.proofs.RegionsGrow.{regions_back, told_back}
use Rattle.lan_script.proofs.RegionMarks.{lays_back, line_back}
use Rattle.lan_script.proofs.Forms.{region_form}
use Rattle.lan_script.proofs.lan.Lan.step_in_region.Goals as goal

pub take-own-requires : goal.take-own-requires
take-own-requires c = window_there _ c.args.self.now c.args.unit c.self.view_is c.self.invariant c.requires.there

pub put-requires-clause-place : goal.put-requires-clause-place
put-requires-clause-place c =
    place_after c.args.unit c.self.inside.windows c.take-own.new.self c.take-own.result c.take-own.ensures.window c.take-own.ensures.rest

pub invariant_of-self : goal.invariant_of-self
invariant_of-self c =
    lan_back _ c.args.unit c.take-own.new.self c.put.new.self c.take-own.result c.step_in-step.new.own c.self.invariant c.take-own.ensures.window
    c.take-own.ensures.unit c.take-own.ensures.rest c.put.ensures c.step_in-step.ensures.window

pub invariant_of-self-2 : goal.invariant_of-self-2
invariant_of-self-2 c =
    lan_back _ c.args.unit c.take-own.new.self c.put.new.self c.take-own.result c.step_in-step.new.own c.self.invariant c.take-own.ensures.window
    c.take-own.ensures.unit c.take-own.ensures.rest c.put.ensures c.step_in-step.ensures.window

pub returns-clause-values : goal.returns-clause-values
returns-clause-values c = λ e.
    put_back _ c.args.self.now c.args.unit c.take-own.new.self c.put.new.self c.take-own.result c.step_in-step.new.own c.self.view_is c.take-own.ensures.window
    c.take-own.ensures.rest c.put.ensures (λ k. ap (λ (v : ℕ → List ℕ). v k) (c.step_in-step.ensures.values e))

pub returns-clause-others : goal.returns-clause-others
returns-clause-others c =
    put_beside _ c.args.self.now c.args.unit c.take-own.new.self c.put.new.self c.step_in-step.new.own c.self.view_is c.take-own.ensures.rest c.put.ensures

pub returns-in_err-step-clause-values : goal.returns-in_err-step-clause-values
returns-in_err-step-clause-values c = λ e.
    put_back _ c.args.self.now c.args.unit c.take-own.new.self c.put.new.self c.take-own.result c.step_in-step.new.own c.self.view_is c.take-own.ensures.window
    c.take-own.ensures.rest c.put.ensures (λ k. ap (λ (v : ℕ → List ℕ). v k) (c.step_in-step.ensures.values e))

pub returns-in_err-step-clause-others : goal.returns-in_err-step-clause-others
returns-in_err-step-clause-others c =
    put_beside _ c.args.self.now c.args.unit c.take-own.new.self c.put.new.self c.step_in-step.new.own c.self.view_is c.take-own.ensures.rest c.put.ensures

pub returns-clause-names : goal.returns-clause-names
returns-clause-names c = λ other.
    region_back c.args.line.now.verb c.in_ok-step.field-0 _ c.args.self.now c.args.unit c.take-own.new.self c.put.new.self c.take-own.result c.step_in-step.new.own
    c.self.view_is c.take-own.ensures.window c.take-own.ensures.rest c.put.ensures other c.step_in-step.ensures.values c.in_ok-step.ensures.puts

pub returns-clause-puts : goal.returns-clause-puts
returns-clause-puts c =
    puts_back c.args.line.now.verb c.in_ok-step.field-0 c.of.result _ c.args.self.now c.args.unit c.take-own.new.self c.put.new.self c.take-own.result c.step_in-step.new.own
    c.self.view_is c.take-own.ensures.window c.take-own.ensures.rest c.put.ensures c.step_in-step.ensures.values c.in_ok-step.ensures.puts c.of.ensures.same

pub returns-clause-regions : goal.returns-clause-regions
returns-clause-regions c =
    regions_back _ c.args.self.now c.args.unit c.take-own.new.self c.put.new.self c.take-own.result c.step_in-step.new.own c.self.view_is c.take-own.ensures.window
    c.take-own.ensures.rest c.put.ensures c.step_in-step.ensures.window

pub returns-in_err-step-clause-regions : goal.returns-in_err-step-clause-regions
returns-in_err-step-clause-regions c =
    regions_back _ c.args.self.now c.args.unit c.take-own.new.self c.put.new.self c.take-own.result c.step_in-step.new.own c.self.view_is c.take-own.ensures.window
    c.take-own.ensures.rest c.put.ensures c.step_in-step.ensures.window

pub returns-clause-shows : goal.returns-clause-shows
returns-clause-shows c =
    told_back _ c.args.self.now _ c.args.unit c.args.line.now.number c.args.line.now.verb c.in_ok-step.field-0 c.of.result c.take-own.new.self c.take-own.result
    c.step_in-step.new.own c.self.view_is c.self.invariant c.requires.there c.take-own.ensures.window c.take-own.ensures.unit c.take-own.ensures.rest c.put.ensures
    (ap (λ (l : LanValue). l.seats) c.self.view_is) c.in_ok-step.ensures.shows c.of.ensures.same

pub returns-clause-marks : goal.returns-clause-marks
returns-clause-marks c =
    line_back _ c.args.self.now c.args.unit c.args.line.now.number c.take-own.new.self c.put.new.self c.take-own.result c.step_in-step.new.own c.self.view_is
    c.take-own.ensures.window c.take-own.ensures.unit c.take-own.ensures.rest c.put.ensures c.step_in-step.ensures.marks

pub returns-in_err-step-clause-marks : goal.returns-in_err-step-clause-marks
returns-in_err-step-clause-marks c =
    line_back _ c.args.self.now c.args.unit c.args.line.now.number c.take-own.new.self c.put.new.self c.take-own.result c.step_in-step.new.own c.self.view_is
    c.take-own.ensures.window c.take-own.ensures.unit c.take-own.ensures.rest c.put.ensures c.step_in-step.ensures.marks

pub returns-clause-lays : goal.returns-clause-lays
returns-clause-lays c =
    lays_back _ c.args.self.now _ c.args.unit c.args.line.now.number c.args.line.now.verb c.in_ok-step.field-0 c.of.result c.take-own.new.self c.take-own.result
    c.step_in-step.new.own c.self.view_is c.take-own.ensures.window c.take-own.ensures.unit c.take-own.ensures.rest c.put.ensures
    c.in_ok-step.ensures.lays c.of.ensures.same

pub returns-clause-form : goal.returns-clause-form
returns-clause-form c = region_form c.args.line.now.verb c.of.result c.requires.region
