use Rattle.std.proofs.Common.{[], ◌∷◌, codes, decimal, refl}
use Rattle.vio_trace.specs.Text.{name, offered}
use Rattle.vio_trace.proofs.Written.{line_written}
use Rattle.vio_trace.proofs.lan_lines.OfferRowLines.put.Goals as goal

pub returns : goal.returns
returns c =
    let row = c.args.self.now in
    line_written c.put.result c.args.buffer.now.items _ _ (codes "offer")
    (name row.unit ∷ decimal row.number ∷ name row.port ∷ offered row.offered ∷ [])
    (rw (
      c.in_ok-put_offered.ensures,
      c.in_ok-put_name.ensures,
      c.in_ok-put_head.ensures,
    ) refl)
    c.put.ensures
