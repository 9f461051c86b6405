use Rattle.std.proofs.Common.{[], ◌∷◌, codes, decimal, refl}
use Rattle.vio_trace.specs.Text.{name, digits}
use Rattle.vio_trace.proofs.Written.{line_written}
use Rattle.vio_trace.proofs.window_lines.TceValueRowLines.put.Goals as goal

pub returns : goal.returns
returns c =
    let row = c.args.self.now in
    line_written c.put.result c.args.buffer.now.items _ _ (codes "tce")
    (name row.unit ∷ decimal row.entry ∷ decimal row.version ∷ digits row.value ∷ [])
    (rw (
      c.in_ok-put_digits.ensures,
      c.in_ok-put_number.ensures,
      c.in_ok-put_head.ensures,
      c.from.ensures,
      c.from-2.ensures,
    ) refl)
    c.put.ensures
