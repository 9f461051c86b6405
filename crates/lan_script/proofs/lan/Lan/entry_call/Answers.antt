use Rattle.lan_script.proofs.EntriesPut.{entry_back, grows_back}
use Rattle.lan_script.proofs.Lans.{lan_back, place_after, window_there}
use Rattle.lan_script.proofs.ReplayedValues.{put_beside}
use Rattle.lan_script.proofs.RegionsGrow.{regions_back}
use Rattle.lan_script.proofs.RegionMarks.{none_back}
use Rattle.lan_script.proofs.lan.Lan.entry_call.Goals as goal

pub take-own-requires : goal.take-own-requires
take-own-requires c = window_there _ c.args.self.now c.args.unit c.self.view_is c.self.invariant c.requires.there

pub put-requires-clause-place : goal.put-requires-clause-place
put-requires-clause-place c =
    place_after c.args.unit c.self.inside.windows c.take-own.new.self c.take-own.result c.take-own.ensures.window c.take-own.ensures.rest

pub invariant_of-self : goal.invariant_of-self
invariant_of-self c =
    lan_back _ c.args.unit c.take-own.new.self c.put.new.self c.take-own.result c.make-returned.new.own c.self.invariant c.take-own.ensures.window
    c.take-own.ensures.unit c.take-own.ensures.rest c.put.ensures c.make-returned.ensures.window

pub returns-clause-others : goal.returns-clause-others
returns-clause-others c =
    put_beside _ c.args.self.now c.args.unit c.take-own.new.self c.put.new.self c.make-returned.new.own c.self.view_is c.take-own.ensures.rest c.put.ensures

pub returns-clause-entry : goal.returns-clause-entry
returns-clause-entry c =
    entry_back _ c.args.self.now _ c.args.unit c.take-own.new.self c.take-own.result c.make-returned.new.own c.args.call c.make-returned.result c.self.view_is
    c.self.invariant c.requires.there c.take-own.ensures.window c.take-own.ensures.rest c.put.ensures c.make-returned.ensures.entry c.make-returned.ensures.busy

pub returns-clause-grows : goal.returns-clause-grows
returns-clause-grows c =
    grows_back _ c.args.self.now c.args.unit c.take-own.new.self c.put.new.self c.take-own.result c.make-returned.new.own c.self.view_is c.take-own.ensures.window
    c.take-own.ensures.rest c.put.ensures c.make-returned.ensures.window

pub returns-clause-regions : goal.returns-clause-regions
returns-clause-regions c =
    regions_back _ c.args.self.now c.args.unit c.take-own.new.self c.put.new.self c.take-own.result c.make-returned.new.own c.self.view_is c.take-own.ensures.window
    c.take-own.ensures.rest c.put.ensures c.make-returned.ensures.window

pub returns-clause-marks : goal.returns-clause-marks
returns-clause-marks c =
    none_back _ c.args.self.now c.args.unit c.take-own.new.self c.put.new.self c.take-own.result c.make-returned.new.own c.self.view_is c.take-own.ensures.window
    c.take-own.ensures.rest c.put.ensures c.make-returned.ensures.marks
