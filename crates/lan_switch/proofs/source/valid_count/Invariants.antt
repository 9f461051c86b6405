use Rattle.std.proofs.Common.{◌≡◌, ◌++◌, drop, take}
use Rattle.lan_switch.specs.Source.{parts_of}
use Rattle.lan_switch.proofs.source.valid_count.Given as goal

abbrev pub invariant-loop-count : goal.invariant-loop-count
invariant-loop-count l = take l.count l.descriptors ++ parts_of (drop l.count l.descriptors) ≡ parts_of l.descriptors
