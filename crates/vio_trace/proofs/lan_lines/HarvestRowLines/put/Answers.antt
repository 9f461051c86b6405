use Rattle.std.proofs.Common.{[], ◌∷◌, codes, decimal, refl}
use Rattle.vio_trace.specs.Text.{name, digits}
use Rattle.vio_trace.proofs.Written.{line_written}
use Rattle.vio_trace.proofs.lan_lines.HarvestRowLines.put.Goals as goal

pub returns : goal.returns
returns c =
    let row = c.args.self.now in
    line_written c.put.result c.args.buffer.now.items _ _ (codes "harvest")
    (name row.unit ∷ decimal row.session ∷ digits row.high ∷ digits row.low ∷ [])
    (rw (
      c.in_ok-put_digits-2.ensures,
      c.in_ok-put_digits.ensures,
      c.in_ok-put_head.ensures,
    ) refl)
    c.put.ensures
