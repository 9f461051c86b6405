-- Intake: each SRP entry that a server unit took has one copy that fetched its information unit, or ended its session (SRP,
-- "Virtual SCSI"; LoPAR, "H_COPY_RDMA").
use Rattle.std.specs.Prelude.{◌≡◌, ℕ, ◌==◌, ◌&&◌, All, Bool, false, List, [], ◌∷◌, Some, IfSome, MatchOption, filter, length, map}
use Rattle.std.specs.List.{AllPairs, filter_map, flat_map, slice_get}
use Rattle.vio_num.specs.Entry.{iu_address, iu_length}
use Rattle.vio_num.specs.declared.entry.Entry.{Entry}
use Rattle.vio_num.specs.declared.names.UnitId.{UnitId}
use Rattle.crq_ring.specs.declared.rows.PipeRow.{PipeRow}
use Rattle.tce_window.specs.Moved.{IsReadFrom, IsWrittenTo}
use Rattle.rdma_copy.specs.Copy.{Side}
use Rattle.rdma_copy.specs.declared.copy.CopyRecord.{CopyRecord}
use Rattle.block_server.specs.Receipts.{EndedFor, GoesOn, Receipt, copy_of, row_of, srp_rows}
use Rattle.boot_text.specs.Sound.{IsClientOf, IsServer}
use Rattle.boot_text.specs.declared.plan.Partition.{Partition}
use Rattle.vio_trace.specs.declared.rows.QueueRow.{QueueRow}
use Rattle.vio_trace.specs.declared.rows.Trace.{Trace}
use Rattle.vio_trace.specs.declared.window_rows.CopyRow.{CopyRow}
use Rattle.vio_trace.specs.declared.window_rows.PieceRow.{PieceRow}
use Rattle.vcpu_run.specs.CopyRows.{copy_row, same_unit}
use Rattle.vcpu_run.specs.Shown.{sessions_of, window_shown}

-- what was taken in a session, each entry with the session's number
abbrev pub rows_taken : QueueRow → List PipeRow
rows_taken row = map (λ entry. record { session = row.session; entry = entry }) row.taken

-- the entries that a unit took, over its sessions in order, and the SRP entries among them
abbrev pub entries_taken : Trace → UnitId → List PipeRow
entries_taken trace unit = flat_map rows_taken (sessions_of trace unit)

abbrev pub srp_taken : Trace → UnitId → List PipeRow
srp_taken trace unit = srp_rows (entries_taken trace unit)

-- what it took in session q
abbrev pub taken_in_session : Trace → UnitId → (q : ℕ) → List Entry
taken_in_session trace unit q = flat_map (λ row. row.taken) (filter (λ row. row.session == q) (sessions_of trace unit))

-- the copies of a unit
abbrev pub copies_shown : Trace → UnitId → List CopyRow
copies_shown trace unit = filter (λ row. same_unit row.unit unit) trace.copies

-- whether pieces begin on this page of the unit's window
abbrev pub begins_on : UnitId → (page : ℕ) → List PieceRow → Bool
begins_on unit page [] = false
begins_on unit page (piece ∷ pieces) = same_unit piece.unit unit && (piece.page == page)

-- the copies that fetched its information units: to page 0 of its own window
abbrev pub fetches_shown : Trace → UnitId → List CopyRow
fetches_shown trace unit = filter (λ row. begins_on unit 0 row.to) (copies_shown trace unit)

-- The copy moved these bytes, as many as the entry says, from the address that it names to the first of the own window, under mark 0.
pub record IsFetched (own client : Side) (entry : Entry) (bytes : List ℕ) (copy : CopyRecord) : Type 0 where
  pub name_is : copy.name ≡ record { who = own.unit; mark = 0 }
  pub len_is : copy.len ≡ iu_length entry
  pub read : IsReadFrom client.unit client.values client.strokes (iu_address entry) copy.from.items bytes
  pub written : IsWrittenTo own.unit own.values own.strokes 0 copy.name copy.to.items bytes

-- The entry stands at its number among those taken in its session. Its copy fetched its information unit, of the length that it
-- says; or it has none, and a line says for which cause its session ended.
pub record IsReceiptShown (partitions : List Partition) (trace : Trace) (server client : UnitId) (receipt : Receipt) : Type 0 where
  pub there : slice_get (taken_in_session trace server receipt.session) receipt.number ≡ Some receipt.entry
  pub fetched : MatchOption receipt.copy (EndedFor server receipt.session trace.grants)
      (IsFetched (window_shown partitions trace server) (window_shown partitions trace client) receipt.entry receipt.bytes)
  pub long : IfSome receipt.copy (λ _. length receipt.bytes ≡ iu_length receipt.entry)

-- There is one receipt for each SRP entry that the server unit took, in their order; its copies to page 0 are those of the
-- receipts, in their order; and behind a receipt without a copy there is none of its session.
pub record IsTakenIn (partitions : List Partition) (trace : Trace) (server client : UnitId) : Type 0 where
  pub receipts : List Receipt
  pub entries : map row_of receipts ≡ srp_taken trace server
  pub copies : map copy_row (filter_map copy_of receipts) ≡ fetches_shown trace server
  pub each : All (IsReceiptShown partitions trace server client) receipts
  pub last : AllPairs GoesOn receipts

-- of each server unit that has a client
abbrev pub EntriesAreFetched : List Partition → Trace → Type 0
EntriesAreFetched partitions trace =
    (server client : UnitId) → IsServer partitions server → IsClientOf partitions client server → ∥ IsTakenIn partitions trace server client ∥₁
