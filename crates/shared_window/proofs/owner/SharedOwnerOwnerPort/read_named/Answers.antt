use Rattle.std.proofs.Common.{rules, ◌≡◌, ◌∷◌, List, length}
use Rattle.std.specs.Borrow.{GName}
use Rattle.shared_window.proofs.OwnerPorts.{read_ok, named_range, named_in_use, named_stale, named_rest}
use Rattle.shared_window.specs.SharedWindow.{window_names}
use Rattle.shared_window.proofs.owner.SharedOwnerOwnerPort.read_named.Goals as goal

pub returns-clause-ok : goal.returns-clause-ok
returns-clause-ok c =
    let ls : List GName = c.args.self.now.owner.ghost_name ∷ window_names c.args.self.now.window.now in
    read_ok c.args.self.now.window.now c.args.self.now.owner.now.seat c.read_named.new.owner.seat c.args.at (length c.args.out.now) ls c.read_named.new.out c.read_named.result c.read_named.ensures.ok

pub returns-clause-range : goal.returns-clause-range
returns-clause-range c =
    let ls : List GName = c.args.self.now.owner.ghost_name ∷ window_names c.args.self.now.window.now in
    let size : length c.read_named.new.out ≡ length c.args.out.now = search rules in
    named_range c.args.self.now.window.now c.args.self.now.owner.now.seat c.read_named.new.owner.seat c.args.at (length c.args.out.now) ls c.args.name c.read_named.new.out c.read_named.result size c.read_named.ensures.ok c.read_named.ensures.err

pub returns-clause-in_use : goal.returns-clause-in_use
returns-clause-in_use c =
    let ls : List GName = c.args.self.now.owner.ghost_name ∷ window_names c.args.self.now.window.now in
    named_in_use c.args.self.now.window.now c.args.self.now.owner.now.seat c.read_named.new.owner.seat c.args.at (length c.args.out.now) ls c.args.name c.read_named.result c.read_named.ensures.err

pub returns-clause-stale : goal.returns-clause-stale
returns-clause-stale c =
    let ls : List GName = c.args.self.now.owner.ghost_name ∷ window_names c.args.self.now.window.now in
    named_stale c.args.self.now.window.now c.args.self.now.owner.now.seat c.read_named.new.owner.seat c.args.at (length c.args.out.now) ls c.args.name c.read_named.result c.read_named.ensures.err

pub returns-clause-rest : goal.returns-clause-rest
returns-clause-rest c =
    let ls : List GName = c.args.self.now.owner.ghost_name ∷ window_names c.args.self.now.window.now in
    named_rest c.args.self.now.window.now c.args.self.now.owner.now.seat c.read_named.new.owner.seat c.args.at (length c.args.out.now) ls c.args.name c.read_named.new.out c.read_named.result c.read_named.ensures.ok c.read_named.ensures.err
