use Rattle.std.proofs.Common.{arith, ◌≡◌, ◌+◌, ◌==◌, [], ◌∷◌, ℕ, List, length, length-append, filter, Some, refl, sym, ◌∙◌, ap, subst}
use Rattle.lan_buffers.specs.declared.rows.PostRow.{PostRow}
use Rattle.lan_buffers.specs.declared.rows.DeliverRow.{DeliverRow}
use Rattle.lan_buffers.specs.declared.rows.HarvestRow.{HarvestRow}
use Rattle.lan_buffers.specs.Port.{Session}
use Rattle.lan_buffers.proofs.Keeping.{kept_begin, none_yet}
use Rattle.lan_buffers.proofs.port.PlainPort.begin.Goals as goal

pub invariant_of-self : goal.invariant_of-self
invariant_of-self c =
    let last : length c.self.inside.drop_counts.items + 1 ≡ length c.push_reserved.new.self.items = sym (ap (λ (l : List ℕ). length l) c.push_reserved.ensures.items ∙ length-append c.self.inside.drop_counts.items (0 ∷ [])) in
    let posts : length c.self.inside.posts.items ≡ c.len-self-inside.result = omega (arith, c.len-self-inside.ensures) in
    let rows : length c.self.inside.deliveries.items ≡ c.len-self-inside-2.result = omega (arith, c.len-self-inside-2.ensures) in
    let reads : length c.self.inside.harvests.items ≡ c.len-self-inside-3.result = omega (arith, c.len-self-inside-3.ensures) in
    rw (← last, ← posts, ← rows, ← reads) (record {
      kept = kept_begin _ _ _ _ _ _ _ _ _ _ c.self.invariant.kept c.clear.ensures.sizes;
      begun = λ _. omega arith;
    })

abbrev session_with : List PostRow → List DeliverRow → List HarvestRow → Session
session_with posts rows reads = record { posts = posts; deliveries = rows; harvests = reads }

no_session : (posts : List PostRow) (rows : List DeliverRow) (reads : List HarvestRow) → posts ≡ [] → rows ≡ [] → reads ≡ []
    → session_with posts rows reads ≡ session_with [] [] []
no_session posts rows reads p d h = rw (p, d, h) refl

pub returns-clause-begun : goal.returns-clause-begun
returns-clause-begun c = λ _.
    let last : length c.self.inside.drop_counts.items + 1 ≡ length c.push_reserved.new.self.items = sym (ap (λ (l : List ℕ). length l) c.push_reserved.ensures.items ∙ length-append c.self.inside.drop_counts.items (0 ∷ [])) in
    rw (← c.self.view_is) (record {
      opened = ap (λ s. Some s) c.first.ensures;
      counts = c.push_reserved.ensures.items;
      empty = no_session _ _ _
          (subst (λ n. filter (λ (row : PostRow). row.session == n) c.self.inside.posts.items ≡ []) last (none_yet _ _ _ _ c.self.invariant.kept.posts_at))
          (subst (λ n. filter (λ (row : DeliverRow). row.session == n) c.self.inside.deliveries.items ≡ []) last (none_yet _ _ _ _ c.self.invariant.kept.rows_at))
          (subst (λ n. filter (λ (row : HarvestRow). row.session == n) c.self.inside.harvests.items ≡ []) last (none_yet _ _ _ _ c.self.invariant.kept.reads_at));
      spare = omega (arith, c.clear.ensures.spare, c.push_reserved.ensures.len, c.push_reserved.ensures.capacity);
      rest = refl;
    })
