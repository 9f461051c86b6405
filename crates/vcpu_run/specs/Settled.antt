-- A run that ends is settled: no entry is left in the queue of a server unit, nor in that of a client whose partition makes no raw call and
-- does not fail.
use Rattle.std.specs.Prelude.{◌≡◌, ℕ, List, [], ◌∷◌, Option, Some, None, ⊤, slice_get}
use Rattle.vio_num.specs.declared.names.UnitId.{UnitId}
use Rattle.boot_text.specs.Sound.{IsClientOf, IsServer}
use Rattle.boot_text.specs.declared.plan.Line.{Line}
use Rattle.boot_text.specs.declared.plan.Partition.{Partition}
use Rattle.vio_trace.specs.declared.rows.QueueRow.{QueueRow}
use Rattle.vio_trace.specs.declared.rows.Trace.{Trace}
use Rattle.vcpu_run.specs.Freeing.{NoneBreaks}
use Rattle.vcpu_run.specs.Shown.{sessions_of}

-- there is a session, and all that was put in the last one was taken, in order
abbrev pub LastIsTaken : List QueueRow → Type 0
LastIsTaken [] = ⊥
LastIsTaken (row ∷ []) = row.taken ≡ row.sent
LastIsTaken (row ∷ next ∷ rows) = LastIsTaken (next ∷ rows)

-- the queue of each server unit has a session, and the last one has handed over all its entries
abbrev pub ServersAreSettled : List Partition → Trace → Type 0
ServersAreSettled partitions trace = (server : UnitId) → IsServer partitions server → LastIsTaken (sessions_of trace server)

-- the same of the last session, if there is one
abbrev pub LastIsTakenIf : List QueueRow → Type 0
LastIsTakenIf [] = ⊤
LastIsTakenIf (row ∷ rows) = LastIsTaken (row ∷ rows)

-- the script of a partition
abbrev pub script_in : Option Partition → List Line
script_in None = []
script_in (Some partition) = partition.lines

abbrev pub script_of : List Partition → ℕ → List Line
script_of partitions p = script_in (slice_get partitions p)

-- the queue of each client unit has handed over all entries of its last session, if it has one, where no line of its partition makes
-- a raw call or fails it
abbrev pub ClientsAreSettled : List Partition → Trace → Type 0
ClientsAreSettled partitions trace = (client server : UnitId) → IsClientOf partitions client server
    → NoneBreaks (script_of partitions client.partition) → LastIsTakenIf (sessions_of trace client)
