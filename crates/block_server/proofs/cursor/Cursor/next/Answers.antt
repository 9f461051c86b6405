use Rattle.std.proofs.Common.{arith, get_or}
use Rattle.std.proofs.lemmas.Option.{slice_get-get_or}
use Rattle.block_server.proofs.Placing.{all_passed, lies_checked, none_found, lies_there, part_checked, part_there, passed, placed_behind}
use Rattle.block_server.proofs.cursor.Cursor.next.Goals as goal

pub returns-then-len-gt0-clause-there : goal.returns-then-len-gt0-clause-there
returns-then-len-gt0-clause-there c = λ placed.
    let there = slice_get-get_or c.args.pieces.now c.loop-piece.piece _ c.loop-piece-test.true in
    lies_checked c.args.pieces.now c.args.self.done _ c.loop-piece.inside c.from.result c.part_len-len.result c.checked_add.result c.from.ensures c.checked_add.ensures
    (lies_there c.args.pieces.now c.args.limit c.args.self c.loop-piece.piece c.loop-piece.inside c.part_len-len.result _ c.loop-piece.invariant.ahead there
    c.if-len-gt0.true (c.part_len-len.ensures.inside c.if-len-gt0.true) (c.part_len-len.ensures.done c.if-len-gt0.true) placed)

pub returns-then-len-gt0-clause-part : goal.returns-then-len-gt0-clause-part
returns-then-len-gt0-clause-part c = λ placed.
    let there = slice_get-get_or c.args.pieces.now c.loop-piece.piece _ c.loop-piece-test.true in
    part_checked c.args.pieces.now c.args.limit c.args.self.done _ c.loop-piece.inside c.from.result c.part_len-len.result c.checked_add.result c.from.ensures c.checked_add.ensures
    (part_there c.args.pieces.now c.args.limit c.args.self c.loop-piece.piece c.loop-piece.inside c.part_len-len.result _ c.loop-piece.invariant.ahead there
    c.if-len-gt0.true (c.part_len-len.ensures.inside c.if-len-gt0.true) (c.part_len-len.ensures.done c.if-len-gt0.true) placed c.part_len-len.ensures.value)

pub returns-then-len-gt0-clause-placed : goal.returns-then-len-gt0-clause-placed
returns-then-len-gt0-clause-placed c = λ placed.
    let there = slice_get-get_or c.args.pieces.now c.loop-piece.piece _ c.loop-piece-test.true in
    placed_behind c.args.pieces.now c.args.limit c.args.self c.loop-piece.piece c.loop-piece.inside c.part_len-len.result _ c.loop-piece.invariant.ahead there
    c.if-len-gt0.true (c.part_len-len.ensures.inside c.if-len-gt0.true) (c.part_len-len.ensures.done c.if-len-gt0.true) placed

pub returns-clause-all : goal.returns-clause-all
returns-clause-all c = λ placed none. all_passed c.args.pieces.now c.args.limit c.args.self c.loop-piece.piece c.loop-piece.inside c.loop-piece.invariant.ahead c.loop-piece-test.false placed

pub loop-piece-preserved : goal.loop-piece-preserved
loop-piece-preserved c = record {
  ahead = passed c.args.pieces.now c.args.limit c.args.self c.loop-piece.piece c.loop-piece.inside (get_or c.args.pieces.now c.loop-piece.piece _) c.loop-piece.invariant.ahead
      (slice_get-get_or c.args.pieces.now c.loop-piece.piece _ c.loop-piece-test.true) c.loop-piece-test.true
      (none_found c.part_len-len.result _ c.part_len-len.ensures.value (omega (arith, c.if-len-gt0.false)));
}
