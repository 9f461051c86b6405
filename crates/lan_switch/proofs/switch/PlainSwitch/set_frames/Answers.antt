use Rattle.std.proofs.Common.{refl, sym}
use Rattle.lan_switch.proofs.Placing.{frames_here, frames_nowhere, shown_at, switch_set}
use Rattle.lan_switch.proofs.switch.PlainSwitch.set_frames.Goals as goal

pub invariant_of-self : goal.invariant_of-self
invariant_of-self c =
    switch_set c.self.inside.stations.items c.in-Some.place c.index_mut.result.now (record { port = c.index_mut.result.now.port; frames = c.args.frames })
    c.self.invariant
    (shown_at c.self.inside.stations.items c.args.self.now c.in-Some.place c.index_mut.result.now c.self.view_is c.in-Some.ensures.within c.index_mut.ensures.value)
    refl

pub returns-in-Some : goal.returns-in-Some
returns-in-Some c =
    frames_here c.args.unit c.args.frames c.self.inside.stations.items c.args.self.now c.in-Some.place c.index_mut.result.now c.self.view_is
    c.in-Some.ensures.found c.in-Some.ensures.within c.index_mut.ensures.value

pub returns-in_default : goal.returns-in_default
returns-in_default c = sym (frames_nowhere c.args.unit c.args.frames c.args.self.now c.in_default.ensures.none)
