use Rattle.std.proofs.Common.{[], ◌∷◌, codes, decimal, refl}
use Rattle.vio_trace.specs.Text.{name, bytes}
use Rattle.vio_trace.proofs.Written.{line_written}
use Rattle.vio_trace.proofs.window_lines.StrokeRowLines.put.Goals as goal

pub returns : goal.returns
returns c =
    let row = c.args.self.now in
    line_written c.put.result c.args.buffer.now.items _ _ (codes "stroke")
    (name row.unit ∷ decimal row.page ∷ decimal row.place ∷ name row.writer ∷ decimal row.mark
    ∷ decimal row.offset ∷ bytes row.bytes ∷ [])
    (rw (
      c.in_ok-put_bytes.ensures,
      c.in_ok-put_number-3.ensures,
      c.in_ok-put_number-2.ensures,
      c.in_ok-put_name.ensures,
      c.in_ok-put_number.ensures,
      c.in_ok-put_head.ensures,
      c.from.ensures,
      c.from-2.ensures,
      c.from-3.ensures,
    ) refl)
    c.put.ensures
