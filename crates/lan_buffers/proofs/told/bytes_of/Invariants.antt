use Rattle.std.proofs.Common.{◌≡◌, ◌+◌, ◌*◌, ◌≤◌, drop}
use Rattle.tce_window.specs.Held.{held_len}
use Rattle.lan_buffers.proofs.told.bytes_of.Given as goal

abbrev pub invariant-loop-piece : goal.invariant-loop-piece
invariant-loop-piece l = record {
  sum : l.bytes + held_len (drop l.piece-index l.pieces) ≡ held_len l.pieces;
  bound : l.bytes ≤ l.piece-index * 65535;
}
