use Rattle.std.proofs.Common.{length, ◌-◌}
use Rattle.block_server.proofs.Placing.{IsAhead}
use Rattle.block_server.proofs.cursor.Cursor.next.Given as goal

abbrev pub decreases-loop-piece : goal.decreases-loop-piece
decreases-loop-piece l = length l.pieces - l.piece

abbrev pub invariant-loop-piece : goal.invariant-loop-piece
invariant-loop-piece l = record { ahead : IsAhead l.pieces l.limit l.self l.piece l.inside }
