-- The list that is put is `count` copies of the value.
use Rattle.std.proofs.Common.{◌≡◌, replicate, take, arith}
use Rattle.std.proofs.lemmas.List.{take-replicate}
use Rattle.shared_window.proofs.window.Window.stuff_tce.Goals as goal

pub returns-clause-puts : goal.returns-clause-puts
returns-clause-puts c =
    let copies : take c.args.count (replicate 512 c.args.tce) ≡ replicate c.args.count c.args.tce = take-replicate c.args.count 512 c.args.tce (omega arith) in
    rw copies at c.put_tce_indirect.ensures.puts
