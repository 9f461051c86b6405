use Rattle.std.proofs.Common.{[], ◌∷◌, decimal, refl}
use Rattle.vio_trace.specs.Text.{name}
use Rattle.vio_trace.proofs.Written.{line_written}
use Rattle.vio_trace.proofs.window_lines.put_piece_line.Goals as goal

pub returns : goal.returns
returns c =
    let row = c.args.piece in
    line_written c.put.result c.args.buffer.now.items _ _ c.args.word.now
    (name row.unit ∷ decimal row.entry ∷ decimal row.version ∷ decimal row.page ∷ decimal row.offset
    ∷ decimal row.len ∷ decimal row.at ∷ [])
    (rw (
      c.in_ok-put_number-5.ensures,
      c.in_ok-put_number-4.ensures,
      c.in_ok-put_number-3.ensures,
      c.in_ok-put_number-2.ensures,
      c.in_ok-put_number.ensures,
      c.in_ok-put_head.ensures,
      c.from.ensures,
      c.from-2.ensures,
      c.from-3.ensures,
      c.from-4.ensures,
      c.from-5.ensures,
      c.from-6.ensures,
    ) refl)
    c.put.ensures
