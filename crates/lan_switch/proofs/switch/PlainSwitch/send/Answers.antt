use Rattle.std.proofs.Common.{arith, ◌≡◌, inr, subst}
use Rattle.lan_switch.specs.Sending.{AnswersFrame, LanWindows, LosesFrame, next_number, windows_of}
use Rattle.lan_switch.proofs.Answering.{frame_read}
use Rattle.lan_switch.proofs.Placing.{number_here}
use Rattle.lan_switch.proofs.Results.{err_weaker, ok_weaker}
use Rattle.lan_switch.proofs.switch.PlainSwitch.send.Goals as goal

pub returns-clause-sent : goal.returns-clause-sent
returns-clause-sent g c =
    let windows : LanWindows = windows_of g.M.PortMap.is_shared g.M.PortMap.state g.M.PortMap.found c.args.others.now c.pass_on.new.others in
    let source = frame_read c.args.self.now c.args.unit c.args.descriptors.now c.parts_of-parts.result.now c.in-Some.place
    (g.G.WindowPort.state c.args.window.now) (g.G.WindowPort.state c.read_parts.new.window) c.in-Ok.from.items c.read_parts.new.frame _ c.bytes_of.result
    c.in_ok-frame.frame.len c.parts_of-parts.ensures.parts c.in-Some.ensures.found c.in-Ok.ensures.read c.in-Ok.ensures.counts c.bytes_of.ensures
    (omega (arith, c.read_parts.ensures.long, c.as_mut_slice.ensures.len)) in
    let number : c.in-Some-checked_add.mark ≡ next_number c.args.self.now c.args.unit =
    omega (
      arith,
      c.in-Some-checked_add.ensures.0,
      c.in-Some-checked_add.ensures.1,
      number_here c.args.unit c.self.inside.stations.items c.args.self.now c.in-Some.place c.index.result.now c.self.view_is
          c.in-Some.ensures.found.place_is c.in-Some.ensures.found.within c.index.ensures,
    ) in
    ok_weaker c.pass_on.result _ _ (λ r h. inr (inr (record {
      pieces = c.in-Ok.from.items;
      frame = c.bytes_of.result;
      source = source;
      answered = subst (λ n. AnswersFrame c.args.self.now c.pass_on.new.self (record { who = c.args.unit; mark = n }) c.in-Ok.from.items c.bytes_of.result windows r) number h;
    }))) c.pass_on.ensures.answered

pub returns-clause-failed : goal.returns-clause-failed
returns-clause-failed g c =
    let windows : LanWindows = windows_of g.M.PortMap.is_shared g.M.PortMap.state g.M.PortMap.found c.args.others.now c.pass_on.new.others in
    let source = frame_read c.args.self.now c.args.unit c.args.descriptors.now c.parts_of-parts.result.now c.in-Some.place
    (g.G.WindowPort.state c.args.window.now) (g.G.WindowPort.state c.read_parts.new.window) c.in-Ok.from.items c.read_parts.new.frame _ c.bytes_of.result
    c.in_ok-frame.frame.len c.parts_of-parts.ensures.parts c.in-Some.ensures.found c.in-Ok.ensures.read c.in-Ok.ensures.counts c.bytes_of.ensures
    (omega (arith, c.read_parts.ensures.long, c.as_mut_slice.ensures.len)) in
    let number : c.in-Some-checked_add.mark ≡ next_number c.args.self.now c.args.unit =
    omega (
      arith,
      c.in-Some-checked_add.ensures.0,
      c.in-Some-checked_add.ensures.1,
      number_here c.args.unit c.self.inside.stations.items c.args.self.now c.in-Some.place c.index.result.now c.self.view_is
          c.in-Some.ensures.found.place_is c.in-Some.ensures.found.within c.index.ensures,
    ) in
    err_weaker c.pass_on.result _ _ (λ h. inr (record {
      pieces = c.in-Ok.from.items;
      frame = c.bytes_of.result;
      source = source;
      lost = subst (λ n. LosesFrame c.args.self.now c.pass_on.new.self (record { who = c.args.unit; mark = n }) c.bytes_of.result windows) number h;
    })) c.pass_on.ensures.failed
