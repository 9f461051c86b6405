use Rattle.std.proofs.Common.{◌≡◌, ◌≤◌, length, take}
use Rattle.vio_io.specs.Edge.{ReadsAt}
use Rattle.vio_io.proofs.file_blocks.read_whole.Given as goal

abbrev pub invariant-loop : goal.invariant-loop
invariant-loop g l = record {
  within : l.done ≤ 512;
  long : length l.out ≡ 512;
  bytes : g.F.PositionedFile.bytes l.file ≡ g.F.PositionedFile.bytes l.fn.file;
  read : ReadsAt (g.F.PositionedFile.bytes l.fn.file) l.at (take l.done l.out);
}
