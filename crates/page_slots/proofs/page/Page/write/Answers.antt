use Rattle.std.proofs.Common.{◌≡◌, ◌∷◌, ◌++◌, ◌≤◌, [], sym, ◌∙◌, arith, ap}
use Rattle.page_slots.specs.Page.{left_by, overwritten}
use Rattle.page_slots.proofs.page.Page.write.Goals as goal
use Rattle.page_slots.proofs.Strokes.{left_by-push, within-push, whole}

pub invariant_of-self : goal.invariant_of-self
invariant_of-self c =
    let pushed : c.push.new.self.items ≡ c.self.inside.strokes.items ++ c.args.stroke ∷ [] = rw c.if-is_err.ensures.negation at c.push.ensures.items in
    let some : 1 ≤ c.self.inside.spare = rw (← c.self.view_is) at c.requires in
    let longer = rw c.if-is_err.ensures.negation at c.push.ensures.len in
    let put : c.put.new.bytes ≡ overwritten (left_by c.self.inside.strokes.items) c.args.stroke = rw (c.deref_mut.ensures.value, c.offset.ensures.offset, c.bytes.ensures.bytes, c.self.invariant.kept) at c.put.ensures in
    record {
      kept =
          whole _ c.put.new.bytes c.self.inside.bytes.items (grind arith) (grind arith)
          ∙ put ∙ sym (left_by-push c.self.inside.strokes.items c.args.stroke) ∙ ap left_by (sym pushed);
      size = c.self.invariant.size;
      room = omega (arith, longer, c.push.ensures.capacity);
      few = omega (arith, longer);
      within =
          rw pushed (within-push c.self.inside.strokes.items c.args.stroke c.self.invariant.within c.bytes.ensures.within);
    }

pub returns-clause-within : goal.returns-clause-within
returns-clause-within c =
    let pushed : c.push.new.self.items ≡ c.self.inside.strokes.items ++ c.args.stroke ∷ [] = rw c.if-is_err.ensures.negation at c.push.ensures.items in
    rw pushed (within-push c.self.inside.strokes.items c.args.stroke c.self.invariant.within c.bytes.ensures.within)
