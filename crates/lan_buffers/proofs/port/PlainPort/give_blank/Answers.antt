use Rattle.std.proofs.Common.{◌≡◌, ◌≤◌, ℕ, List, length, slice_get, Some, sym, subst}
use Rattle.lan_buffers.specs.Port.{PortValue, now}
use Rattle.std.proofs.lemmas.Option.{slice_get_within}
use Rattle.lan_buffers.specs.Calls.{IsOpen, pool}
use Rattle.lan_buffers.proofs.Keeping.{kept_deliver}
use Rattle.lan_buffers.proofs.port.PlainPort.give_blank.Goals as goal

pub invariant_of-self : goal.invariant_of-self
invariant_of-self c = rw c.reserve.ensures.items (record { kept = c.self.invariant.kept; begun = c.self.invariant.begun })

pub invariant_of-self-2 : goal.invariant_of-self-2
invariant_of-self-2 c = rw c.reserve.ensures.items (record { kept = c.self.invariant.kept; begun = c.self.invariant.begun })

pub take_post-requires-clause-waits : goal.take_post-requires-clause-waits
take_post-requires-clause-waits c =
    let some = slice_get_within _ _ _ (subst (λ (v : PortValue). slice_get (pool c.args.size (now v)) 0 ≡ Some c.args.post) (sym c.self.view_is) c.requires.post) in
    subst (λ (l : List ℕ). 1 ≤ length l) (sym (c.self.invariant.kept.pools_are.waiting c.args.size)) some

pub invariant_of-self-3 : goal.invariant_of-self-3
invariant_of-self-3 c = rw (c.take_post.ensures.rows, c.reserve.ensures.items) (record {
  kept = kept_deliver _ _ _ _ _ _ _ _ _ _ c.args.size _ c.self.invariant.kept c.session.ensures.session
      (c.self.invariant.begun (subst (λ (v : PortValue). IsOpen v) (sym c.self.view_is) c.requires.opened))
      (subst (λ (v : PortValue). slice_get (pool c.args.size (now v)) 0 ≡ Some c.args.post) (sym c.self.view_is) c.requires.post) c.take_post.ensures.pools;
  begun = c.self.invariant.begun;
})
