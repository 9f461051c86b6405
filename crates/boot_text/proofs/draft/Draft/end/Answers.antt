-- The open partition becomes the last of those that have ended.
use Rattle.std.proofs.Common.{◌≡◌, [], refl}
use Rattle.boot_text.proofs.Adding.{end_added}
use Rattle.boot_text.proofs.draft.Draft.end.Goals as goal

pub invariant_of-self-2 : goal.invariant_of-self-2
invariant_of-self-2 c =
    let pushed = c.push_reserved.ensures.items in
    let kept = c.reserve.ensures.items in
    let units : c.from.result ≡ c.self.inside.units.items = rw c.from.ensures (rw c.replace-units.ensures.value refl) in
    let lines : c.from-2.result ≡ c.self.inside.lines.items = rw c.from-2.ensures (rw c.replace-lines.ensures.value refl) in
    let none : c.replace-units.new.dest.items ≡ [] = rw c.replace-units.ensures.after c.new.ensures.items in
    let none' : c.replace-lines.new.dest.items ≡ [] = rw c.replace-lines.ensures.after c.new-2.ensures.items in
    rw (pushed, kept, units, lines, none, none') (end_added _ _ _ _ c.self.invariant)
