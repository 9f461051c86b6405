use Rattle.std.proofs.Common.{ℕ, ◌≡◌, ◌+◌, ◌*◌, List, IfSome, Some, take, drop, refl, ap, subst, Option}
use Rattle.std.specs.Prelude.{slice_get}
use Rattle.block_disk.proofs.Blocks.{given-more, reads-more}
use Rattle.block_disk.proofs.transfer.read_blocks.Goals as goal

pub loop-call-preserved : goal.loop-call-preserved
loop-call-preserved g c =
    let old = g.B.Blocks.state c.args.disk.now in
    let read = subst (λ (blocks : Option (List (List ℕ))). IfSome blocks (λ all. slice_get all (c.args.lba + c.loop-call.call) ≡ Some (take 512 (drop (512 * c.loop-call.call) c.read_one.new.data_in))))
    (ap (λ image. image.blocks) c.loop-call.invariant.state) c.in-Ok.ensures.block in
    record {
      state = reads-more old _ _ c.loop-call.call c.loop-call.invariant.state c.in-Ok.ensures.done;
      given = given-more old.blocks c.args.lba c.loop-call.call (c.loop-call.call + 1) c.loop-call.data_in c.read_one.new.data_in refl c.loop-call.invariant.given c.in-Ok.ensures.front read;
    }
