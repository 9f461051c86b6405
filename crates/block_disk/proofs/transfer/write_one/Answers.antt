use Rattle.std.proofs.Common.{◌≡◌, ℕ, ◌+◌, ◌-◌, ◌*◌, OnOk, take, drop, subst, arith}
use Rattle.vio_io.specs.Image.{after_writes, with_block}
use Rattle.block_disk.proofs.transfer.write_one.Goals as goal

pub returns-clause-done : goal.returns-clause-done
returns-clause-done g c =
    let from = 512 * c.args.call in
    let whole : from + 512 - from ≡ 512 = omega arith in
    let Wrote : ℕ → Type 0 = λ count. OnOk c.write_from.result (g.B.Blocks.state c.write_from.new.disk ≡
    with_block c.args.at (take count (drop from c.args.data_out.now)) (after_writes 1 (g.B.Blocks.state c.args.disk.now))) in
    subst Wrote whole c.write_from.ensures.done
