use Rattle.std.proofs.Common.{◌≡◌, ◌∙◌, ap, sym, subst, slice_get, map, drop, Some}
use Rattle.crq_ring.specs.Pipe.{sent_now}
use Rattle.crq_ring.proofs.pipe.PlainPipe.entry_of.Goals as goal

pub returns : goal.returns
returns c =
    subst (λ value. slice_get (sent_now value) c.args.number ≡ Some c.entry_at.result) c.self.view_is (
    ap (λ xs. slice_get xs c.args.number) c.self.invariant.sending.entries
    ∙ ap (λ rows. slice_get (map (λ row. row.entry) (drop c.self.inside.sent_from rows)) c.args.number) (sym c.deref.ensures.value)
    ∙ c.entry_at.ensures)
