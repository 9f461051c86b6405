use Rattle.std.proofs.Common.{rules, ◌≡◌, ◌∷◌, List, length}
use Rattle.std.specs.Borrow.{GName}
use Rattle.shared_window.proofs.OwnerPorts.{read_ok, read_range, read_in_use, read_rest}
use Rattle.shared_window.specs.SharedWindow.{window_names}
use Rattle.shared_window.proofs.owner.SharedOwnerOwnerPort.read.Goals as goal

pub returns-clause-ok : goal.returns-clause-ok
returns-clause-ok c =
    let ls : List GName = c.args.self.now.owner.ghost_name ∷ window_names c.args.self.now.window.now in
    read_ok c.args.self.now.window.now c.args.self.now.owner.now.seat c.read.new.owner.seat c.args.at (length c.args.out.now) ls c.read.new.out c.read.result c.read.ensures.ok

pub returns-clause-range : goal.returns-clause-range
returns-clause-range c =
    let ls : List GName = c.args.self.now.owner.ghost_name ∷ window_names c.args.self.now.window.now in
    let size : length c.read.new.out ≡ length c.args.out.now = search rules in
    read_range c.args.self.now.window.now c.args.self.now.owner.now.seat c.read.new.owner.seat c.args.at (length c.args.out.now) ls c.read.new.out c.read.result size c.read.ensures.ok c.read.ensures.err

pub returns-clause-in_use : goal.returns-clause-in_use
returns-clause-in_use c =
    let ls : List GName = c.args.self.now.owner.ghost_name ∷ window_names c.args.self.now.window.now in
    read_in_use c.args.self.now.window.now c.args.self.now.owner.now.seat c.read.new.owner.seat c.args.at (length c.args.out.now) ls c.read.result c.read.ensures.err

pub returns-clause-rest : goal.returns-clause-rest
returns-clause-rest c =
    let ls : List GName = c.args.self.now.owner.ghost_name ∷ window_names c.args.self.now.window.now in
    read_rest c.args.self.now.window.now c.args.self.now.owner.now.seat c.read.new.owner.seat c.args.at (length c.args.out.now) ls c.read.new.out c.read.result c.read.ensures.ok c.read.ensures.err
