use Rattle.std.proofs.Common.{take}
use Rattle.shared_window.proofs.Nearest.{IsNearest}
use Rattle.shared_window.proofs.hand.next_page.Given as goal

abbrev pub invariant-loop-piece : goal.invariant-loop-piece
invariant-loop-piece l = IsNearest (take l.piece-index l.pieces) l.from l.to l.nearest
