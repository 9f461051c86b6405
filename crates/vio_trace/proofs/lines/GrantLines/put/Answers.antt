use Rattle.std.proofs.Common.{[], ◌∷◌, codes, decimal, refl}
use Rattle.vio_trace.specs.Text.{name, cause}
use Rattle.vio_trace.proofs.Written.{line_written}
use Rattle.vio_trace.proofs.lines.GrantLines.put.Goals as goal
use Rattle.vio_trace.proofs.lines.GrantLines.put.Goals.{
  in-Granted+in_ok-put_head-in-Granted+in_ok-put_number-in-Granted+in_ok-put_number-in-Granted-2+in_ok-put_number-in-Granted-3 as granted,
  in-Lapsed+in_ok-put_head-in-Lapsed+in_ok-put_number-in-Lapsed+in_ok-put_cause-in-Lapsed+in_ok-put_number-in-Lapsed-2+in_ok-put_number-in-Lapsed-3 as lapsed,
}

pub returns : goal.returns
returns c =
    elim c.match-self.branch [
      | granted w ↦
          let g = w.in-Granted in
          rw g.is (line_written c.put.result c.args.buffer.now.items _ _ (codes "grant")
          (name g.unit ∷ decimal g.session ∷ decimal g.login ∷ decimal g.number ∷ decimal g.credits ∷ [])
          (rw (
            w.buffer-is,
            w.in_ok-put_number-in-Granted-3.ensures,
            w.in_ok-put_number-in-Granted-2.ensures,
            w.in_ok-put_number-in-Granted.ensures,
            w.in_ok-put_head-in-Granted.ensures,
            w.from.ensures,
          ) refl)
          c.put.ensures)
      | lapsed w ↦
          let l = w.in-Lapsed in
          rw l.is (line_written c.put.result c.args.buffer.now.items _ _ (codes "lapse")
          (name l.unit ∷ decimal l.session ∷ decimal l.login ∷ cause l.cause ∷ decimal l.outstanding ∷ decimal l.granted ∷ [])
          (rw (
            w.buffer-is,
            w.in_ok-put_number-in-Lapsed-3.ensures,
            w.in_ok-put_number-in-Lapsed-2.ensures,
            w.in_ok-put_cause-in-Lapsed.ensures,
            w.in_ok-put_number-in-Lapsed.ensures,
            w.in_ok-put_head-in-Lapsed.ensures,
            w.from-in-Lapsed.ensures,
            w.from-in-Lapsed-2.ensures,
          ) refl)
          c.put.ensures)
    ]
