use Rattle.std.proofs.Common.{◌≡◌, ℕ, ◌+◌, ◌-◌, ◌*◌, List, OnOk, IfSome, Some, take, drop, sym, subst, arith}
use Rattle.std.specs.Prelude.{slice_get}
use borrow.Rule.Slice.PartMut.{put_mid}
use Rattle.block_disk.proofs.Blocks.{part_of-put_mid}
use Rattle.block_disk.proofs.transfer.read_one.Goals as goal

pub returns-clause-block : goal.returns-clause-block
returns-clause-block g c =
    let from = 512 * c.args.call in
    let piece = c.read_into.new.piece in
    let placed : take 512 (drop from (put_mid from (from + 512 - from) c.args.data_in.now piece)) ≡ piece = part_of-put_mid from (from + 512 - from) c.args.data_in.now piece (omega arith) (omega arith) in
    let Read : List ℕ → Type 0 = λ block. OnOk c.read_into.result (IfSome (g.B.Blocks.state c.args.disk.now).blocks (λ all. slice_get all c.args.at ≡ Some block)) in
    subst Read (sym placed) c.read_into.ensures.block
