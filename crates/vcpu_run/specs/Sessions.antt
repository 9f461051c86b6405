-- The rows of a queue's sessions.
use Rattle.std.specs.Prelude.{ℕ, ◌+◌, ◌==◌, zero, suc, List, [], ◌∷◌, map, filter}
use Rattle.vio_num.specs.declared.names.UnitId.{UnitId}
use Rattle.crq_ring.specs.Pipe.{PipeValue}
use Rattle.vio_num.specs.declared.entry.Entry.{Entry}
use Rattle.crq_ring.specs.declared.rows.PipeRow.{PipeRow}
use Rattle.crq_ring.specs.declared.rows.DropRow.{DropRow}
use Rattle.vio_trace.specs.declared.rows.QueueRow.{QueueRow}
use Rattle.vio_trace.specs.declared.rows.DropRow.{DropRow as TraceDrop}

-- the entries of session q
abbrev pub entries_of : ℕ → List PipeRow → List Entry
entries_of q rows = map (λ row. row.entry) (filter (λ row. row.session == q) rows)

-- what a trace shows of an entry that was dropped
abbrev pub shown_drop : DropRow → TraceDrop
shown_drop row = record { number = row.number; held = row.held }

-- the drops of session q
abbrev pub drops_of : ℕ → List DropRow → List TraceDrop
drops_of q rows = map shown_drop (filter (λ row. row.session == q) rows)

-- session q of a unit's queue
abbrev pub session_row : UnitId → PipeValue → ℕ → QueueRow
session_row unit pipe q = record {
  unit = unit;
  session = q;
  slots = pipe.slots;
  sent = entries_of q pipe.sent;
  taken = entries_of q pipe.taken;
  drops = drops_of q pipe.drops;
}

-- so many sessions from session q on
abbrev pub sessions_from : UnitId → PipeValue → (q n : ℕ) → List QueueRow
sessions_from unit pipe q zero = []
sessions_from unit pipe q (suc n) = session_row unit pipe q ∷ sessions_from unit pipe (q + 1) n

-- all sessions of a unit's queue
abbrev pub session_rows : UnitId → PipeValue → List QueueRow
session_rows unit pipe = sessions_from unit pipe 1 pipe.session
