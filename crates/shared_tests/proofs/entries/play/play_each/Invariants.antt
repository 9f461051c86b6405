use Rattle.std.proofs.Common.{◌≡◌, true}
use Rattle.entry_slots.specs.Entries.{HoldsRange}
use Rattle.shared_tests.proofs.entries.play.play_each.Given as goal

abbrev pub invariant-loop-k : goal.invariant-loop-k
invariant-loop-k l = record {
  owner : (l.owner.entries ≡ l.entries.id) × (l.owner.owns ≡ true);
  first : HoldsRange l.entries l.first.from l.first.count l.first.seat;
  second : HoldsRange l.entries l.second.from l.second.count l.second.seat;
}
