-- Those before the present one are in their ranges.
use Rattle.std.proofs.Common.{take, All}
use Rattle.vio_trace.specs.Form.{IsPieceRow}
use Rattle.vio_trace.proofs.fitting.pieces_fit.Given as goal

abbrev pub invariant-loop-piece : goal.invariant-loop-piece
invariant-loop-piece l = All IsPieceRow (take l.piece-index l.pieces)
