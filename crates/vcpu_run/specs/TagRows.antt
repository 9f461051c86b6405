-- What a client keeps under a tag: its row.
use Rattle.std.specs.Prelude.{ℕ, ◌-◌, nat_le, Bool, true, false, List, Some, slice_index_or, if◌then◌else◌}
use Rattle.vscsi_client.specs.declared.op.Dir.TheVariants as dirs
use Rattle.vscsi_client.specs.declared.row.Row.{Row}
use Rattle.vscsi_client.specs.declared.row.Row.TheVariants as rows

-- the row of a tag
abbrev pub row_at : List Row → ℕ → Row
row_at rs tag = if nat_le 1 tag then slice_index_or rs (tag - 1) rows.Login else rows.Login

-- whether it is of a command with data-in, and whether that was answered
abbrev pub is_inward : Row → Bool
is_inward (rows.Command dirs.In at len said) = true
is_inward _ = false

abbrev pub is_given : Row → Bool
is_given (rows.Command dirs.In at len (Some said)) = true
is_given _ = false
