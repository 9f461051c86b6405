use Rattle.std.proofs.Common.{ap, ◌∙◌, drop, arith}
use Rattle.std.proofs.lemmas.List.{take_rest}
use Rattle.vio_io.proofs.Pieces.{read_moves}
use Rattle.vio_io.proofs.sure_source.SureSourceSource.read.Goals as goal

pub returns-clause-bytes : goal.returns-clause-bytes
returns-clause-bytes c =
    let at = c.self.inside.at in
    let is_rest = take_rest c.deref.result.now at ∙ ap (drop at) c.deref.ensures.value in
    let moved = read_moves _ _ c.args.out.now _ at _ _ is_rest c.copy_front-n.ensures.count c.copy_front-n.ensures.copied c.self.invariant.1 in
    rw (← c.self.view_is) (moved.0, λ none room. moved.1 none (omega arith))
