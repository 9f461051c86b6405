use Rattle.std.proofs.Common.{[], ◌∷◌}
use Rattle.shared_window.proofs.Ports.{ok_holds, err_none, lays_nothing, only_holds}
use Rattle.shared_window.specs.SharedWindow.{window_names}
use Rattle.shared_window.proofs.guest.SharedGuestGuestPort.hold.Goals as goal

pub returns-clause-ok : goal.returns-clause-ok
returns-clause-ok c = ok_holds c.args.self.now.window.now c.args.self.now.guest.now c.hold.new.guest c.args.ioba c.args.len c.args.right (c.args.self.now.guest.ghost_name ∷ window_names c.args.self.now.window.now) c.hold.result c.hold.ensures.ok

pub returns-clause-err : goal.returns-clause-err
returns-clause-err c = err_none c.args.self.now.window.now c.args.self.now.guest.now c.hold.new.guest c.args.ioba c.args.len c.args.right (c.args.self.now.guest.ghost_name ∷ window_names c.args.self.now.window.now) c.hold.result c.hold.ensures.err

pub returns-clause-nothing : goal.returns-clause-nothing
returns-clause-nothing c = lays_nothing c.args.self.now.window.now c.args.self.now.guest.now c.hold.new.guest c.args.ioba c.args.len c.args.right [] c.hold.result c.hold.ensures.ok c.hold.ensures.err

pub returns-clause-rest : goal.returns-clause-rest
returns-clause-rest c = only_holds c.args.self.now.window.now c.args.self.now.guest.now c.hold.new.guest c.args.ioba c.args.len c.args.right (c.args.self.now.guest.ghost_name ∷ window_names c.args.self.now.window.now) c.hold.result c.hold.ensures.ok c.hold.ensures.err
