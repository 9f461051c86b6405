-- What is so of the records of entries that found their slot full, as a queue goes on.
use Rattle.std.specs.Prelude.{List}
use Rattle.std.specs.List.{Contains}
use Rattle.crq_ring.specs.declared.rows.DropRow.{DropRow}

-- each of them is there still
abbrev pub DropsStay : (old new : List DropRow) → Type 0
DropsStay old new = (row : DropRow) → Contains old row → Contains new row
