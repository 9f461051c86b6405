use Rattle.std.proofs.Common.{◌≡◌, ℕ, ◌<◌, take, get_or, Bool}
use Rattle.std.specs.List.{list_any}
use Rattle.tce_window.specs.Named.{covers}
use Rattle.tce_window.proofs.named.is_covered.Given as goal

abbrev pub invariant-loop-stroke : goal.invariant-loop-stroke
invariant-loop-stroke l = (k : ℕ) (d : Bool) → k < 4096 → get_or l.covered k d ≡ list_any (covers k) (take l.stroke-index l.run)
