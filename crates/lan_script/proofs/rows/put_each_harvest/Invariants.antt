use Rattle.std.proofs.Common.{◌≡◌, ◌++◌, map, take}
use Rattle.lan_script.specs.Rows.{harvest_row_of}
use Rattle.lan_script.proofs.rows.put_each_harvest.Given as goal

abbrev pub invariant-loop-row : goal.invariant-loop-row
invariant-loop-row l = l.rows.items ≡ l.initial.rows.items ++ map (harvest_row_of l.unit) (take l.row-index l.harvests)
