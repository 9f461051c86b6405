use Rattle.std.proofs.lemmas.List.Elements.{All-more}
use Rattle.vio_num.specs.declared.names.UnitId.{UnitId}
use Rattle.vio_trace.specs.declared.window_rows.PieceRow.{PieceRow}
use Rattle.vio_trace.specs.Form.{IsPieceRow}
use Rattle.vio_trace.proofs.fitting.pieces_fit.Goals as goal

pub loop-piece-preserved : goal.loop-piece-preserved
loop-piece-preserved c =
    let unit : UnitId = record { partition = 0; unit = 0 } in
    let none : PieceRow = record { unit = unit; entry = 0; version = 0; page = 0; offset = 0; len = 0; at = 0 } in
    All-more IsPieceRow _ _ none c.loop-piece-test.true c.loop-piece.invariant c.piece_fits.ensures
