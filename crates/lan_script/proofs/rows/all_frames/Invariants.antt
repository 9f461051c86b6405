use Rattle.std.proofs.Common.{◌≡◌, ◌++◌}
use Rattle.std.specs.List.{flat_map}
use Rattle.lan_script.proofs.rows.all_frames.Given as goal

abbrev pub invariant-loop-own : goal.invariant-loop-own
invariant-loop-own l = record {
  steps : (goal.iterator-loop-own).can_next l.own-iterator;
  ends : (goal.iterator-loop-own).is_finite l.own-iterator;
  rows : l.all.items ++ flat_map (λ own. own.items) l.own-iterator.rest.items ≡ flat_map (λ own. own.items) l.fn.frames.items;
}
