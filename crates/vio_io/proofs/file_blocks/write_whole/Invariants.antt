use Rattle.std.proofs.Common.{◌≤◌, take}
use Rattle.vio_io.specs.Edge.{WritesAt}
use Rattle.vio_io.proofs.file_blocks.write_whole.Given as goal

abbrev pub invariant-loop : goal.invariant-loop
invariant-loop g l = record {
  within : l.done ≤ 512;
  written : WritesAt l.at (take l.done l.block) (g.F.PositionedFile.bytes l.fn.file) (g.F.PositionedFile.bytes l.file);
}
