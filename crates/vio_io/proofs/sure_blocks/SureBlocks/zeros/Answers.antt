use Rattle.std.proofs.Common.{ℕ, List, replicate, sym, ◌∙◌, subst, ◌<◌}
use Rattle.std.proofs.lemmas.List.{same_lists, length-replicate}
use Rattle.vio_io.proofs.sure_blocks.SureBlocks.zeros.Goals as goal

pub returns-clause-blocks : goal.returns-clause-blocks
returns-clause-blocks c =
    c.new.ensures.blocks ∙ c.in_ok-blocks.ensures.items_if_clones_equal (λ block clone.
    let zeros : List ℕ = replicate 512 0 in
    same_lists block zeros (clone.long ∙ sym (length-replicate {A = ℕ} 512 0)) (λ k d inside. clone.at k d d (subst (λ n. k < n) clone.long inside)))
