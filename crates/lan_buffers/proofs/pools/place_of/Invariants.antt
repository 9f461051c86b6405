use Rattle.std.proofs.Common.{◌≡◌, ◌+◌, drop}
use Rattle.lan_buffers.specs.Pools.{has_size}
use Rattle.lan_buffers.specs.Kept.{place_in}
use Rattle.lan_buffers.proofs.pools.place_of.Given as goal

abbrev pub invariant-loop-place : goal.invariant-loop-place
invariant-loop-place l = record {
  place : l.place + place_in l.size (drop l.place l.sizes) ≡ place_in l.size l.sizes;
  among : has_size l.size (drop l.place l.sizes) ≡ has_size l.size l.sizes;
}
