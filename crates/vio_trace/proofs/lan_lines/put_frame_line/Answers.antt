use Rattle.std.proofs.Common.{[], ◌∷◌, codes, decimal, length, refl}
use Rattle.vio_trace.specs.Text.{name, code, bytes}
use Rattle.vio_trace.proofs.Written.{line_written}
use Rattle.vio_trace.proofs.lan_lines.put_frame_line.Goals as goal

pub returns : goal.returns
returns c =
    let row = c.args.row.now in
    line_written c.put.result c.args.buffer.now.items _ _ (codes "frame")
    (name row.unit ∷ decimal row.number ∷ code row.code ∷ decimal (length row.from) ∷ bytes row.bytes ∷ [])
    (rw (
      c.in_ok-put_bytes.ensures,
      c.in_ok-put_number.ensures,
      c.in_ok-put_code.ensures,
      c.in_ok-put_head.ensures,
      c.len.ensures,
    ) refl)
    c.put.ensures
