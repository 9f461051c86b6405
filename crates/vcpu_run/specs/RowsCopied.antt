-- Of each row of a run, which copies moved its answer and its data; of each session that ended as refused, what the client's window
-- denied (SRP, "SRP_RSP response", "Data buffer descriptor formats"; LoPAR, "H_COPY_RDMA").
use Rattle.std.specs.Prelude.{◌≡◌, ◌⊎◌, ◌&&◌, All, List, [], Some, Contains, filter, length, not, slice_get}
use Rattle.vio_num.specs.declared.history.Served.{Served}
use Rattle.vio_num.specs.declared.names.UnitId.{UnitId}
use Rattle.block_server.specs.Carried.{HasDelivered, HasOutFetched}
use Rattle.block_server.specs.Causes.{Hearing}
use Rattle.block_server.specs.Refusals.{IsExplained}
use Rattle.block_server.specs.Runs.{HaveRuns, own_rows}
use Rattle.block_server.specs.Written.{IsWrittenOver}
use Rattle.boot_text.specs.Sound.{IsClientOf, IsServer}
use Rattle.boot_text.specs.declared.plan.Partition.{Partition}
use Rattle.vio_trace.specs.declared.rows.Trace.{Trace}
use Rattle.vio_trace.specs.declared.window_rows.CopyRow.{CopyRow}
use Rattle.vcpu_run.specs.CopyRows.{copy_row}
use Rattle.vcpu_run.specs.Intake.{begins_on, copies_shown, entries_taken}
use Rattle.vcpu_run.specs.News.{hearing}
use Rattle.vcpu_run.specs.Shown.{pages_at, window_shown}

-- the copies of a server unit that moved tables and data: neither to page 0 of its own window, nor from there
abbrev pub data_shown : Trace → UnitId → List CopyRow
data_shown trace unit = filter (λ row. not (begins_on unit 0 row.to) && not (begins_on unit 0 row.from)) (copies_shown trace unit)

-- what the trace shows that a server unit was told: by its rows of copies, by the strokes that these name, and by the values of its
-- client's window
abbrev pub shown_to : List Partition → Trace → (server client : UnitId) → Hearing
shown_to partitions trace server client =
    hearing (λ copy. Contains trace.copies (copy_row copy)) (λ number copy. slice_get (data_shown trace server) number ≡ Some (copy_row copy))
    (window_shown partitions trace server) (window_shown partitions trace client) (pages_at partitions client)

-- A copy wrote the row's answer over its request, copies brought all its data-out, and copies delivered all its data-in; what the
-- row does not have needs none.
pub record IsCopied (Hears : Hearing) (row : Served) : Type 0 where
  pub answer : (row.answer ≡ []) ⊎ IsWrittenOver Hears row.iu row.answer
  pub out : (row.out ≡ []) ⊎ HasOutFetched Hears row
  pub inn : (row.inn ≡ []) ⊎ HasDelivered Hears row

-- So it is of each row of a server unit; and the rows have their runs, one behind the other, among its copies of tables and data.
pub record AreCopied (Hears : Hearing) (trace : Trace) (server : UnitId) : Type 0 where
  pub each : All (λ row. row.unit ≡ server → IsCopied Hears row) trace.serves
  pub runs : HaveRuns Hears (own_rows server trace.serves) 0 (length (data_shown trace server))

-- So it is of each server unit that has a client.
abbrev pub RowsAreCopied : List Partition → Trace → Type 0
RowsAreCopied partitions trace =
    (server client : UnitId) → IsServer partitions server → IsClientOf partitions client server
    → ∥ AreCopied (shown_to partitions trace server client) trace server ∥₁

-- Each line of such a unit is explained: one that grants a login has the SRP entry of its number, whose information unit a copy
-- brought, and over which a copy wrote the response that grants it; and a session that ended as refused has an SRP entry whose
-- information unit the client's window denied to have read, or over which it denied to have an answer written.
abbrev pub LinesAreExplained : List Partition → Trace → Type 0
LinesAreExplained partitions trace =
    (server client : UnitId) → IsServer partitions server → IsClientOf partitions client server
    → ∥ All (IsExplained (shown_to partitions trace server client) server (entries_taken trace server)) trace.grants ∥₁
