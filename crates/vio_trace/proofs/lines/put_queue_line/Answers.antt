use Rattle.std.proofs.Common.{[], ◌∷◌, codes, decimal, length, refl}
use Rattle.vio_trace.specs.Text.{name}
use Rattle.vio_trace.proofs.Written.{line_written}
use Rattle.vio_trace.proofs.lines.put_queue_line.Goals as goal

pub returns : goal.returns
returns c =
    let row = c.args.row.now in
    line_written c.put.result c.args.buffer.now.items _ _ (codes "queue")
    (name row.unit ∷ decimal row.session ∷ decimal row.slots
    ∷ decimal (length row.sent) ∷ decimal (length row.taken) ∷ decimal (length row.drops) ∷ [])
    (rw (
      c.in_ok-put_number-4.ensures,
      c.in_ok-put_number-3.ensures,
      c.in_ok-put_number-2.ensures,
      c.in_ok-put_number.ensures,
      c.in_ok-put_head.ensures,
      c.from.ensures,
      c.len.ensures,
      c.len-2.ensures,
      c.len-3.ensures,
    ) refl)
    c.put.ensures
