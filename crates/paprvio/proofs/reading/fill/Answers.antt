-- What was read so far, and behind it the piece that this call read.
use Rattle.std.proofs.Common.{◌≤◌, length, ◌∙◌, arith}
use Rattle.std.proofs.KnownBytes.{Consumes-trans}
use Rattle.paprvio.proofs.Pieces.{take-over, in_front}
use Rattle.paprvio.proofs.reading.fill.Goals as goal

pub loop-filled-preserved : goal.loop-filled-preserved
loop-filled-preserved g c =
    let in_buffer : c.loop-filled.filled ≤ length c.loop-filled.buffer = c.loop-filled.invariant.within in
    let in_piece : c.in-Ok.n ≤ length c.read.new.out = omega (arith, c.in-Ok.ensures.bound, c.read.auto.out) in
    record {
      within = in_front c.loop-filled.filled c.in-Ok.n _ c.loop-filled.buffer c.read.new.out in_buffer in_piece;
      read = rw (take-over c.loop-filled.filled c.in-Ok.n _ c.loop-filled.buffer c.read.new.out in_buffer in_piece)
          (Consumes-trans _ _ _ _ _ c.loop-filled.invariant.read c.in-Ok.ensures.bytes.0);
      same = c.in-Ok.ensures.same ∙ c.loop-filled.invariant.same;
    }
