use Rattle.std.proofs.Common.{◌≡◌}
use Rattle.vio_io.proofs.file_blocks.flush_whole.Given as goal

abbrev pub invariant-loop : goal.invariant-loop
invariant-loop g l = g.F.PositionedFile.bytes l.file ≡ g.F.PositionedFile.bytes l.fn.file
