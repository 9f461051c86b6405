use Rattle.std.proofs.Common.{[], ◌∷◌, codes, decimal, length, refl}
use Rattle.vio_trace.specs.Text.{name, filled}
use Rattle.vio_trace.proofs.Written.{line_written}
use Rattle.vio_trace.proofs.lan_lines.put_deliver_line.Goals as goal

pub returns : goal.returns
returns c =
    let row = c.args.row.now in
    line_written c.put.result c.args.buffer.now.items _ _ (codes "deliver")
    (name row.unit ∷ decimal row.session ∷ decimal row.post ∷ name row.sender ∷ decimal row.frame ∷ filled row.filled ∷ decimal (length row.to) ∷ [])
    (rw (
      c.in_ok-put_number-3.ensures,
      c.in_ok-put_filled.ensures,
      c.in_ok-put_number-2.ensures,
      c.in_ok-put_name.ensures,
      c.in_ok-put_number.ensures,
      c.in_ok-put_head.ensures,
      c.len.ensures,
    ) refl)
    c.put.ensures
