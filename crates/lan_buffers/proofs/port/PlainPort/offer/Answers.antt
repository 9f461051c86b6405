use Rattle.std.proofs.Common.{◌≡◌, ◌≤◌, ℕ, List, length, slice_get, Some, false, refl, sym, ◌∙◌, ap, subst}
use Rattle.lan_buffers.specs.Port.{PortValue, now, last_session}
use Rattle.lan_buffers.specs.Calls.{IsOpen, pool, IsUngranted, IsPageInUse, FillsFrame}
use Rattle.lan_buffers.proofs.Keeping.{kept_deliver, chooses, oldest_within}
use Rattle.lan_buffers.proofs.Leaving.{only_blank, only_same}
use Rattle.lan_buffers.proofs.port.PlainPort.offer.Goals as goal

pub oldest-post-requires : goal.oldest-post-requires
oldest-post-requires g c =
    let some : 1 ≤ length (pool c.args.size (now c.args.self.now)) = c.requires.chosen.waits in
    subst (λ (l : List ℕ). 1 ≤ length l) (sym (c.self.invariant.kept.pools_are.waiting c.args.size))
    (subst (λ (v : PortValue). 1 ≤ length (pool c.args.size (now v))) (sym c.self.view_is) some)

pub frame_address-at-requires : goal.frame_address-at-requires
frame_address-at-requires g c =
    oldest_within (now c.args.self.now) c.args.size c.oldest-post.result
    (subst (λ (v : PortValue). slice_get (pool c.args.size (now v)) 0 ≡ Some c.oldest-post.result) c.self.view_is
    (subst (λ (l : List ℕ). slice_get l 0 ≡ Some c.oldest-post.result) (c.self.invariant.kept.pools_are.waiting c.args.size) c.oldest-post.ensures))

pub take_post-requires-clause-waits : goal.take_post-requires-clause-waits
take_post-requires-clause-waits g c =
    let some : 1 ≤ length (pool c.args.size (now c.args.self.now)) = c.requires.chosen.waits in
    subst (λ (l : List ℕ). 1 ≤ length l) (sym (c.self.invariant.kept.pools_are.waiting c.args.size))
    (subst (λ (v : PortValue). 1 ≤ length (pool c.args.size (now v))) (sym c.self.view_is) some)

pub invariant_of-self : goal.invariant_of-self
invariant_of-self g c = rw (c.take_post.ensures.rows, c.write_frame.ensures.rows) (record {
  kept = kept_deliver _ _ _ _ _ _ _ _ _ _ c.args.size _ c.self.invariant.kept
      (c.session-session.ensures.session ∙ ap (λ (v : PortValue). last_session v) (sym c.self.view_is))
      (c.self.invariant.begun (subst (λ (v : PortValue). IsOpen v) (sym c.self.view_is) c.requires.opened))
      (subst (λ (l : List ℕ). slice_get l 0 ≡ Some c.oldest-post.result) (c.self.invariant.kept.pools_are.waiting c.args.size) c.oldest-post.ensures)
      c.take_post.ensures.pools;
  begun = c.self.invariant.begun;
})

pub invariant_of-self-in-InUse : goal.invariant_of-self-in-InUse
invariant_of-self-in-InUse g c = rw (c.write_frame.ensures.rows) (record { kept = c.self.invariant.kept; begun = c.self.invariant.begun })

pub invariant_of-self-in-Refused : goal.invariant_of-self-in-Refused
invariant_of-self-in-Refused g c = rw (c.write_frame.ensures.rows) (record { kept = c.self.invariant.kept; begun = c.self.invariant.begun })

pub invariant_of-self-in-NoMemory : goal.invariant_of-self-in-NoMemory
invariant_of-self-in-NoMemory g c = rw (c.write_frame.ensures.rows) (record { kept = c.self.invariant.kept; begun = c.self.invariant.begun })

pub returns-in-Written-clause-found : goal.returns-in-Written-clause-found
returns-in-Written-clause-found g c =
    let oldest = subst (λ (v : PortValue). slice_get (pool c.args.size (now v)) 0 ≡ Some c.oldest-post.result) c.self.view_is
    (subst (λ (l : List ℕ). slice_get l 0 ≡ Some c.oldest-post.result) (c.self.invariant.kept.pools_are.waiting c.args.size) c.oldest-post.ensures) in
    record { opened = c.requires.opened; post = c.oldest-post.result; chosen = chooses _ _ c.args.size c.oldest-post.result c.requires.chosen oldest }

pub returns-in-Written-clause-done : goal.returns-in-Written-clause-done
returns-in-Written-clause-done g c =
    let oldest = subst (λ (v : PortValue). slice_get (pool c.args.size (now v)) 0 ≡ Some c.oldest-post.result) c.self.view_is
    (subst (λ (l : List ℕ). slice_get l 0 ≡ Some c.oldest-post.result) (c.self.invariant.kept.pools_are.waiting c.args.size) c.oldest-post.ensures) in
    record {
      chosen = chooses _ _ c.args.size c.oldest-post.result c.requires.chosen oldest;
      row = record { session = c.session-session.result; post = c.oldest-post.result; name = c.args.name; blank = false; to = c.in-Written.to };
      takes = record { session_is = c.session-session.ensures.session; post_is = refl; name_is = refl };
      filled = refl;
      written = subst (λ at. FillsFrame g.G.WindowPort.is_shared (g.G.WindowPort.state c.args.window.now) (g.G.WindowPort.state c.write_frame.new.window) at c.args.name c.args.frame.now c.in-Written.to.items)
          c.frame_address-at.ensures.address c.in-Written.ensures.written;
      rest = rw (← c.self.view_is, c.take_post.ensures.rows, c.write_frame.ensures.rows, c.take_post.ensures.pools.spare) refl;
    }

pub returns-in-InUse-clause-found : goal.returns-in-InUse-clause-found
returns-in-InUse-clause-found g c =
    let oldest = subst (λ (v : PortValue). slice_get (pool c.args.size (now v)) 0 ≡ Some c.oldest-post.result) c.self.view_is
    (subst (λ (l : List ℕ). slice_get l 0 ≡ Some c.oldest-post.result) (c.self.invariant.kept.pools_are.waiting c.args.size) c.oldest-post.ensures) in
    record { opened = c.requires.opened; post = c.oldest-post.result; chosen = chooses _ _ c.args.size c.oldest-post.result c.requires.chosen oldest }

pub returns-in-NoMemory-clause-found : goal.returns-in-NoMemory-clause-found
returns-in-NoMemory-clause-found g c =
    let oldest = subst (λ (v : PortValue). slice_get (pool c.args.size (now v)) 0 ≡ Some c.oldest-post.result) c.self.view_is
    (subst (λ (l : List ℕ). slice_get l 0 ≡ Some c.oldest-post.result) (c.self.invariant.kept.pools_are.waiting c.args.size) c.oldest-post.ensures) in
    record { opened = c.requires.opened; post = c.oldest-post.result; chosen = chooses _ _ c.args.size c.oldest-post.result c.requires.chosen oldest }

pub returns-in-InUse-clause-in_use : goal.returns-in-InUse-clause-in_use
returns-in-InUse-clause-in_use g c =
    let oldest = subst (λ (v : PortValue). slice_get (pool c.args.size (now v)) 0 ≡ Some c.oldest-post.result) c.self.view_is
    (subst (λ (l : List ℕ). slice_get l 0 ≡ Some c.oldest-post.result) (c.self.invariant.kept.pools_are.waiting c.args.size) c.oldest-post.ensures) in
    record {
      post = c.oldest-post.result;
      chosen = chooses _ _ c.args.size c.oldest-post.result c.requires.chosen oldest;
      in_use = subst (λ at. IsPageInUse g.G.WindowPort.is_shared (g.G.WindowPort.state c.args.window.now) (g.G.WindowPort.state c.write_frame.new.window) at (length c.args.frame.now) c.in-InUse.page
          (g.G.GuestPort.found c.write_frame.new.window c.in-InUse.page c.in-InUse.word)) c.frame_address-at.ensures.address c.in-InUse.ensures.in_use;
    }

pub returns-in-Ok : goal.returns-in-Ok
returns-in-Ok g c =
    let oldest = subst (λ (v : PortValue). slice_get (pool c.args.size (now v)) 0 ≡ Some c.oldest-post.result) c.self.view_is
    (subst (λ (l : List ℕ). slice_get l 0 ≡ Some c.oldest-post.result) (c.self.invariant.kept.pools_are.waiting c.args.size) c.oldest-post.ensures) in
    let chosen = chooses (now c.args.self.now) (length c.args.frame.now) c.args.size c.oldest-post.result c.requires.chosen oldest in
    record {
      found = record { opened = c.requires.opened; post = c.oldest-post.result; chosen = chosen };
      tried = tt;
      done = tt;
      ungranted = record {
        chosen = chosen;
        blank = rw (← c.self.view_is, ← c.write_frame.ensures.rows) (c.in-Ok.ensures.blank);
        cause = subst (λ at. IsUngranted (g.G.WindowPort.state c.args.window.now) (g.G.WindowPort.state c.write_frame.new.window) at (length c.args.frame.now) c.in-Refused.fault)
            c.frame_address-at.ensures.address c.in-Refused.ensures.refused;
      };
      in_use = tt;
      nothing = tt;
      rest = rw (← c.self.view_is, ← c.write_frame.ensures.rows) (only_blank _ _ _ _ c.in-Ok.ensures.blank);
      window = record {
        free = c.in-Refused.ensures.window.free;
        rest = c.in-Refused.ensures.window.rest;
        kept = c.in-Refused.ensures.window.kept;
        counts = c.in-Refused.ensures.window.counts;
      };
    }

pub returns-in-Err : goal.returns-in-Err
returns-in-Err g c =
    let oldest = subst (λ (v : PortValue). slice_get (pool c.args.size (now v)) 0 ≡ Some c.oldest-post.result) c.self.view_is
    (subst (λ (l : List ℕ). slice_get l 0 ≡ Some c.oldest-post.result) (c.self.invariant.kept.pools_are.waiting c.args.size) c.oldest-post.ensures) in
    let chosen = chooses (now c.args.self.now) (length c.args.frame.now) c.args.size c.oldest-post.result c.requires.chosen oldest in
    record {
      found = record { opened = c.requires.opened; post = c.oldest-post.result; chosen = chosen };
      tried = tt;
      done = tt;
      ungranted = tt;
      in_use = tt;
      nothing = rw (← c.self.view_is, ← c.write_frame.ensures.rows) (c.in-Err.ensures.nothing);
      rest = rw (← c.self.view_is, ← c.write_frame.ensures.rows) (only_same _ _ c.in-Err.ensures.nothing);
      window = record {
        free = c.in-Refused.ensures.window.free;
        rest = c.in-Refused.ensures.window.rest;
        kept = c.in-Refused.ensures.window.kept;
        counts = c.in-Refused.ensures.window.counts;
      };
    }
