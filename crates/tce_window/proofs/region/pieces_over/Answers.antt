-- The pieces lie over the whole range.
use Rattle.std.proofs.Common.{◌+◌, ◌≡◌, [], subst, append-nil, arith}
use Rattle.tce_window.specs.Laying.{LieOver}
use Rattle.tce_window.proofs.region.pieces_over.Goals as goal

pub returns : goal.returns
returns c =
    let whole : c.args.at + c.loop-done.done ≡ c.args.at + c.args.len = omega arith in
    subst (LieOver c.args.at (c.args.at + c.args.len)) (append-nil c.loop-done.pieces.items) (c.loop-done.invariant.over [] whole)
