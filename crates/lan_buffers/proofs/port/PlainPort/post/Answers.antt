use Rattle.std.proofs.Common.{arith, ◌≡◌, ◌<◌, ◌≤◌, ◌+◌, ◌==◌, ℕ, List, length, filter, sym, ◌∙◌, ap, subst, inl, inr}
use Rattle.lan_buffers.specs.declared.rows.PostRow.{PostRow}
use Rattle.lan_buffers.specs.Buffer.{buffer_len}
use Rattle.lan_buffers.specs.Pools.{has_size}
use Rattle.lan_buffers.specs.Port.{PortValue, now, last_session}
use Rattle.lan_buffers.specs.Kept.{Adds}
use Rattle.lan_buffers.specs.Calls.{HasNoPlace, IsOpen}
use Rattle.lan_buffers.proofs.Keeping.{kept_post}
use Rattle.lan_buffers.proofs.port.PlainPort.post.Goals as goal

pub add-requires-clause-few : goal.add-requires-clause-few
add-requires-clause-few c = λ absent full.
    let sizes = c.self.invariant.kept.pools_are.sizes in
    subst (λ (v : PortValue). HasNoPlace v c.args.descriptor → ⊥) (sym c.self.view_is) c.requires.place
    (inr (
      ap (λ (l : List ℕ). has_size (buffer_len c.args.descriptor) l) (sym sizes) ∙ ap (λ n. has_size n c.self.inside.pools.sizes) (sym c.buffer_len.ensures.length) ∙ absent,
      ap (λ (l : List ℕ). length l) (sym sizes) ∙ full,
    ))

not_full : (posts reads slots : ℕ) → (posts ≡ reads + slots → ⊥) → posts ≤ reads + slots → posts < reads + slots
not_full posts reads slots full within = omega (arith, full, within)

pub invariant_of-self : goal.invariant_of-self
invariant_of-self c =
    let last : c.session-session.result ≡ length c.self.inside.drop_counts.items = c.session-session.ensures.session ∙ ap (λ (v : PortValue). last_session v) (sym c.self.view_is) in
    let kept = c.self.invariant.kept in
    let number : length c.posts_now.result.now ≡ length (filter (λ (row : PostRow). row.session == length c.self.inside.drop_counts.items) c.self.inside.posts.items) =
    ap (λ (l : List PostRow). length l) c.posts_now.ensures ∙ ap (λ (v : PortValue). length (now v).posts) (sym c.self.view_is) in
    let place = subst (λ (v : PortValue). HasNoPlace v c.args.descriptor → ⊥) (sym c.self.view_is) c.requires.place in
    rw c.push_reserved.ensures.items (record {
      kept = kept_post _ _ _ _ _ _ _ _ _ _ _ kept last (c.self.invariant.begun (subst (λ (v : PortValue). IsOpen v) (sym c.self.view_is) c.requires.opened))
          (not_full _ _ _ (λ e. place (inl e)) (kept.sessions (length c.self.inside.drop_counts.items)).within)
          (subst (λ n. Adds c.self.inside.pools (buffer_len c.args.descriptor) n c.add.new.self) number
          (subst (λ n. Adds c.self.inside.pools n (length c.posts_now.result.now) c.add.new.self) c.buffer_len.ensures.length c.add.ensures));
      begun = c.self.invariant.begun;
    })
