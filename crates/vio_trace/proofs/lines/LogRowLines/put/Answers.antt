use Rattle.std.proofs.Common.{◌∷◌, codes, decimal, refl}
use Rattle.vio_trace.specs.Text.{outcome_words}
use Rattle.vio_trace.proofs.Written.{line_written}
use Rattle.vio_trace.proofs.lines.LogRowLines.put.Goals as goal

pub returns : goal.returns
returns c =
    let row = c.args.self.now in
    line_written c.put-2.result c.args.buffer.now.items _ _ (codes "log")
    (decimal row.partition ∷ decimal row.line ∷ outcome_words row.outcome)
    (rw (
      c.in_ok-put_outcome.ensures,
      c.in_ok-put_number-2.ensures,
      c.in_ok-put_number.ensures,
      c.in_ok-put.ensures,
      c.from.ensures,
      c.from-2.ensures,
    ) refl)
    c.put-2.ensures
