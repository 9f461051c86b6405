use Rattle.std.proofs.Common.{[], ◌∷◌, codes, decimal, refl}
use Rattle.vio_trace.specs.Text.{name, bytes, number_or_none}
use Rattle.vio_trace.proofs.Written.{line_written}
use Rattle.vio_trace.proofs.lines.ServedLines.put.Goals as goal

pub returns : goal.returns
returns c =
    let row = c.args.self.now in
    line_written c.put.result c.args.buffer.now.items _ _ (codes "serve")
    (name row.unit ∷ decimal row.session ∷ decimal row.login ∷ decimal row.number
    ∷ bytes row.iu ∷ bytes row.out ∷ number_or_none row.fault ∷ bytes row.answer ∷ bytes row.inn ∷ [])
    (rw (
      c.in_ok-put_bytes-4.ensures,
      c.in_ok-put_bytes-3.ensures,
      c.in_ok-put_number_or_none.ensures,
      c.in_ok-put_bytes-2.ensures,
      c.in_ok-put_bytes.ensures,
      c.in_ok-put_number-2.ensures,
      c.in_ok-put_number.ensures,
      c.in_ok-put_head.ensures,
    ) refl)
    c.put.ensures
