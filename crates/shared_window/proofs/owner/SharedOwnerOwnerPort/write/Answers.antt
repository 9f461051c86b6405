use Rattle.std.proofs.Common.{◌∷◌, List, length, refl}
use Rattle.std.specs.Borrow.{GName}
use Rattle.shared_window.proofs.OwnerPorts.{write_ok, write_range, write_in_use, write_memory, write_none, write_rest}
use Rattle.shared_window.specs.SharedWindow.{window_names}
use Rattle.shared_window.proofs.owner.SharedOwnerOwnerPort.write.Goals as goal

pub returns-clause-ok : goal.returns-clause-ok
returns-clause-ok c =
    let ls : List GName = c.args.self.now.owner.ghost_name ∷ window_names c.args.self.now.window.now in
    write_ok c.args.self.now.window.now c.args.self.now.owner.now.seat c.write.new.owner.seat c.args.at (length c.args.bytes.now) ls c.args.bytes.now c.args.mark c.write.result c.write.ensures.ok

pub returns-clause-range : goal.returns-clause-range
returns-clause-range c =
    let ls : List GName = c.args.self.now.owner.ghost_name ∷ window_names c.args.self.now.window.now in
    write_range c.args.self.now.window.now c.args.self.now.owner.now.seat c.write.new.owner.seat c.args.at (length c.args.bytes.now) ls c.args.bytes.now c.args.mark c.write.result refl c.write.ensures.ok c.write.ensures.err

pub returns-clause-in_use : goal.returns-clause-in_use
returns-clause-in_use c =
    let ls : List GName = c.args.self.now.owner.ghost_name ∷ window_names c.args.self.now.window.now in
    write_in_use c.args.self.now.window.now c.args.self.now.owner.now.seat c.write.new.owner.seat c.args.at (length c.args.bytes.now) ls c.write.result c.write.ensures.err

pub returns-clause-memory : goal.returns-clause-memory
returns-clause-memory c =
    let ls : List GName = c.args.self.now.owner.ghost_name ∷ window_names c.args.self.now.window.now in
    write_memory c.args.self.now.window.now c.args.self.now.owner.now.seat c.write.new.owner.seat c.args.at (length c.args.bytes.now) ls c.write.result c.write.ensures.err

pub returns-clause-err : goal.returns-clause-err
returns-clause-err c =
    let ls : List GName = c.args.self.now.owner.ghost_name ∷ window_names c.args.self.now.window.now in
    write_none c.args.self.now.window.now c.args.self.now.owner.now.seat c.write.new.owner.seat c.args.at (length c.args.bytes.now) ls c.write.result c.write.ensures.err

pub returns-clause-rest : goal.returns-clause-rest
returns-clause-rest c =
    let ls : List GName = c.args.self.now.owner.ghost_name ∷ window_names c.args.self.now.window.now in
    write_rest c.args.self.now.window.now c.args.self.now.owner.now.seat c.write.new.owner.seat c.args.at (length c.args.bytes.now) ls c.args.bytes.now c.args.mark c.write.result c.write.ensures.ok c.write.ensures.err
