use Rattle.std.proofs.Common.{[], ◌∷◌, codes, decimal, refl}
use Rattle.vio_trace.specs.Text.{name, bytes}
use Rattle.vio_trace.proofs.Written.{line_written}
use Rattle.vio_trace.proofs.lines.AnswerRowLines.put.Goals as goal

pub returns : goal.returns
returns c =
    let row = c.args.self.now in
    line_written c.put.result c.args.buffer.now.items _ _ (codes "answer")
    (name row.unit ∷ decimal row.session ∷ decimal row.tag ∷ bytes row.answer ∷ [])
    (rw (c.in_ok-put_bytes.ensures, c.in_ok-put_number.ensures, c.in_ok-put_head.ensures) refl)
    c.put.ensures
