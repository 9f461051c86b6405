use Rattle.std.proofs.Common.{ℕ, ◌+◌, ◌≤◌, take, drop, arith}
use Rattle.vio_io.specs.Edge.{WritesAt}
use Rattle.vio_io.proofs.Known.{at_settled}
use Rattle.vio_io.proofs.Places.{write-more}
use Rattle.vio_io.proofs.file_blocks.write_more.Goals as goal

pub returns-in-Some-Ok-clause-written : goal.returns-in-Some-Ok-clause-written
returns-in-Some-Ok-clause-written g c = λ before stood.
    let n = c.in-Some-Ok.n in
    let Writes : ℕ → Type 0 = λ n. WritesAt (c.args.at + c.args.done) (take n (drop c.args.done c.args.block.now)) (g.F.PositionedFile.bytes c.args.file.now) (g.F.PositionedFile.bytes c.write_part.new.file) in
    let part = at_settled _ _ n Writes c.in-Some-Ok.field-0-is c.in-Some-Ok.ensures.done c.in-Some-Ok.ensures.answered c.write_part.ensures.written in
    let room = at_settled _ _ n (λ n. c.args.done + n ≤ 512) c.in-Some-Ok.field-0-is c.in-Some-Ok.ensures.done c.in-Some-Ok.ensures.answered c.write_part.ensures.bound in
    write-more before _ _ c.args.at c.args.done n c.args.block.now (omega (arith, room, c.told-block)) stood part
