use Rattle.std.proofs.Common.{ℕ, ◌+◌, ◌≤◌, take, drop, arith}
use Rattle.vio_io.specs.Edge.{ReadsAt}
use Rattle.vio_io.proofs.Known.{at_settled}
use Rattle.vio_io.proofs.Places.{read-more}
use Rattle.vio_io.proofs.file_blocks.read_more.Goals as goal

pub returns-in-Some-Ok-clause-read : goal.returns-in-Some-Ok-clause-read
returns-in-Some-Ok-clause-read g c = λ before.
    let n = c.in-Some-Ok.n in
    let Reads : ℕ → Type 0 = λ n. ReadsAt (g.F.PositionedFile.bytes c.args.file.now) (c.args.at + c.args.done) (take n (drop c.args.done c.read_part.new.out)) in
    let part = at_settled _ _ n Reads c.in-Some-Ok.field-0-is c.in-Some-Ok.ensures.done c.in-Some-Ok.ensures.answered c.read_part.ensures.read in
    let room = at_settled _ _ n (λ n. c.args.done + n ≤ 512) c.in-Some-Ok.field-0-is c.in-Some-Ok.ensures.done c.in-Some-Ok.ensures.answered c.read_part.ensures.bound in
    read-more _ c.args.at c.args.done n c.args.out.now c.read_part.new.out (omega (arith, c.told-out)) (omega (arith, room, c.read_part.array_long)) c.read_part.ensures.front before part
