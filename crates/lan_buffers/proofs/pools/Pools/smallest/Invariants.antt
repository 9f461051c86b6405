use Rattle.lan_buffers.specs.Kept.{IsLeastOf, waits}
use Rattle.lan_buffers.proofs.pools.Pools.smallest.Given as goal

abbrev pub invariant-loop-place : goal.invariant-loop-place
invariant-loop-place l = IsLeastOf l.need (waits l.self) l.self.sizes l.place l.best
