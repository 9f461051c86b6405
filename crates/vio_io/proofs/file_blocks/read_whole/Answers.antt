use Rattle.std.proofs.Common.{List, ℕ, arith, subst}
use Rattle.std.proofs.lemmas.List.{take_all}
use Rattle.vio_io.specs.Edge.{ReadsAt}
use Rattle.vio_io.proofs.file_blocks.read_whole.Goals as goal

pub returns-then-done-eq512-clause-read : goal.returns-then-done-eq512-clause-read
returns-then-done-eq512-clause-read g c =
    subst (λ (read : List ℕ). ReadsAt (g.F.PositionedFile.bytes c.args.file.now) c.args.at read) (take_all c.loop.done c.loop.out (omega arith)) c.loop.invariant.read
