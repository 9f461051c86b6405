use Rattle.std.proofs.Common.{◌≡◌, ◌+◌, ◌*◌, ◌≤◌, drop}
use Rattle.lan_switch.specs.Source.{parts_len}
use Rattle.lan_switch.proofs.source.parts_len.Given as goal

abbrev pub invariant-loop-part : goal.invariant-loop-part
invariant-loop-part l = record {
  sum : l.len + parts_len (drop l.part-index l.parts) ≡ parts_len l.parts;
  few : l.len ≤ l.part-index * 16777216;
}
