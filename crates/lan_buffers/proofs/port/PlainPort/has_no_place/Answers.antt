use Rattle.std.proofs.Common.{arith, ◌≡◌, ℕ, List, length, sym, ◌∙◌, ap, inr, ⊎_elim}
use Rattle.lan_buffers.specs.declared.rows.PostRow.{PostRow}
use Rattle.lan_buffers.specs.declared.rows.HarvestRow.{HarvestRow}
use Rattle.lan_buffers.specs.Port.{PortValue, now}
use Rattle.lan_buffers.specs.Pools.{has_size, sizes_of}
use Rattle.lan_buffers.proofs.port.PlainPort.has_no_place.Goals as goal

pub returns-else-posts_now-harvests_now : goal.returns-else-posts_now-harvests_now
returns-else-posts_now-harvests_now c =
    let sizes = c.self.invariant.kept.pools_are.sizes in
    let posts : length c.posts_now.result.now ≡ length (now c.args.self.now).posts = ap (λ (l : List PostRow). length l) c.posts_now.ensures in
    let reads : length c.harvests_now.result.now ≡ length (now c.args.self.now).harvests = ap (λ (l : List HarvestRow). length l) c.harvests_now.ensures.rows in
    let slots : c.self.inside.slots ≡ c.args.self.now.slots = ap (λ (v : PortValue). v.slots) c.self.view_is in
    let is : c.self.inside.pools.sizes ≡ sizes_of (now c.args.self.now).posts = sizes ∙ ap (λ (v : PortValue). sizes_of (now v).posts) c.self.view_is in (
      λ t. inr (ap (λ (l : List ℕ). has_size c.args.len l) (sym is) ∙ (c.is_ninth.ensures.0 t).0, ap (λ (l : List ℕ). length l) (sym is) ∙ (c.is_ninth.ensures.0 t).1),
      λ full. ⊎_elim
          (λ e. absurd (c.if-posts_now-harvests_now.false (omega (arith, e, posts, reads, slots))))
          (λ ninth. c.is_ninth.ensures.1 (ap (λ (l : List ℕ). has_size c.args.len l) is ∙ ninth.0, ap (λ (l : List ℕ). length l) is ∙ ninth.1))
          full,
    )
