use Rattle.std.proofs.Common.{[], ◌∷◌, codes, decimal, refl}
use Rattle.vio_trace.specs.Text.{name}
use Rattle.vio_trace.proofs.Written.{line_written}
use Rattle.vio_trace.proofs.lan_lines.PortRowLines.put.Goals as goal

pub returns : goal.returns
returns c =
    let row = c.args.self.now in
    line_written c.put.result c.args.buffer.now.items _ _ (codes "port")
    (name row.unit ∷ decimal row.session ∷ decimal row.slots ∷ decimal row.drops ∷ [])
    (rw (
      c.in_ok-put_number-2.ensures,
      c.in_ok-put_number.ensures,
      c.in_ok-put_head.ensures,
      c.from.ensures,
    ) refl)
    c.put.ensures
