use Rattle.std.proofs.Common.{arith, ◌≡◌, ◌<◌, ◌≤◌, ◌+◌, [], ℕ, List, length, sym, ◌∙◌, ap, subst, All}
use Rattle.lan_buffers.specs.Port.{PortValue, now}
use Rattle.lan_buffers.specs.declared.answers.Deliver.{Deliver}
use Rattle.lan_buffers.specs.Answers.{IsTried}
use Rattle.lan_buffers.specs.Kept.{waits}
use Rattle.lan_buffers.specs.Pools.{sizes_of}
use Rattle.lan_buffers.specs.Calls.{IsOpen, pool}
use Rattle.lan_buffers.proofs.Pooling.{waits_among, small_among}
use Rattle.lan_buffers.proofs.Leaving.{window_alone}
use Rattle.lan_buffers.proofs.port.PlainPort.deliver.Goals as goal

pub offer-requires-clause-chosen : goal.offer-requires-clause-chosen
offer-requires-clause-chosen g c = rw (← c.self.view_is) (record {
  fits = c.in-Some.ensures.found.0;
  smallest = λ other fits less. sym (c.self.invariant.kept.pools_are.waiting other) ∙ c.in-Some.ensures.least other fits less;
  waits = subst (λ (l : List ℕ). 1 ≤ length l) (c.self.invariant.kept.pools_are.waiting c.in-Some.size) (c.in-Some.ensures.found.1);
})

pub returns-in-Some-clause-no_size : goal.returns-in-Some-clause-no_size
returns-in-Some-clause-no_size g c = (
  λ e. absurd (subst (λ (r : Deliver). IsTried r) e c.offer.ensures.tried),
  λ finds.
      let sizes : c.self.inside.pools.sizes ≡ sizes_of (now c.args.self.now).posts = c.self.invariant.kept.pools_are.sizes ∙ ap (λ (v : PortValue). sizes_of (now v).posts) c.self.view_is in
      let small : All (λ size. size < 8 + length c.args.frame.now) c.self.inside.pools.sizes = subst (λ (l : List ℕ). All (λ size. size < 8 + length c.args.frame.now) l) (sym sizes) finds.small in
      let less = small_among (8 + length c.args.frame.now) c.in-Some.size c.self.inside.pools.sizes small (waits_among c.in-Some.size c.self.inside.pools.sizes c.self.inside.pools.queues (c.in-Some.ensures.found.1)) in
      absurd (omega (arith, less, c.in-Some.ensures.found.0)),
)

pub returns-in-Some-clause-no_buffer : goal.returns-in-Some-clause-no_buffer
returns-in-Some-clause-no_buffer g c = (
  λ e. absurd (subst (λ (r : Deliver). IsTried r) e c.offer.ensures.tried),
  λ finds.
      let none : pool c.in-Some.size (now c.args.self.now) ≡ [] = finds.taken c.in-Some.size c.in-Some.ensures.found.0 in
      let here : waits c.self.inside.pools c.in-Some.size ≡ [] = c.self.invariant.kept.pools_are.waiting c.in-Some.size ∙ ap (λ (v : PortValue). pool c.in-Some.size (now v)) c.self.view_is ∙ none in
      absurd (omega (arith, c.in-Some.ensures.found.1, ap (λ (l : List ℕ). length l) here)),
)

pub returns-in-None-clause-no_size : goal.returns-in-None-clause-no_size
returns-in-None-clause-no_size g c = (
  λ e. record { opened = subst (λ (v : PortValue). IsOpen v) c.self.view_is c.if-is_none.ensures; small = c.drop_frame.ensures.no_size.0 e },
  λ finds. c.drop_frame.ensures.no_size.1 finds.small,
)

pub returns-in-None-clause-no_buffer : goal.returns-in-None-clause-no_buffer
returns-in-None-clause-no_buffer g c = (
  λ e. record {
    opened = subst (λ (v : PortValue). IsOpen v) c.self.view_is c.if-is_none.ensures;
    large = c.drop_frame.ensures.no_buffer.0 e;
    taken = λ size fits. ap (λ (v : PortValue). pool size (now v)) (sym c.self.view_is) ∙ sym (c.self.invariant.kept.pools_are.waiting size) ∙ c.in-None.ensures.none size fits;
  },
  λ finds. c.drop_frame.ensures.no_buffer.1 finds.large,
)

pub returns-in-None-clause-window : goal.returns-in-None-clause-window
returns-in-None-clause-window g c =
    window_alone g.G.WindowPort.is_shared c.drop_frame.result (g.G.WindowPort.state c.args.window.now) c.requires.free
    c.drop_frame.ensures.answers
