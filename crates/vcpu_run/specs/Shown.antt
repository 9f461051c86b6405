-- What a trace shows of one unit: its queue's sessions, and its window as a side of a copy.
use Rattle.std.specs.Prelude.{ℕ, ◌+◌, ◌*◌, ◌==◌, ◌&&◌, nat_lt, List, ◌∷◌, Option, Some, None, map, filter, if◌then◌else◌}
use Rattle.vio_num.specs.declared.names.UnitId.{UnitId}
use Rattle.page_slots.specs.Stroke.{StrokeValue}
use Rattle.rdma_copy.specs.Copy.{Side, side}
use Rattle.boot_text.specs.SoFar.{pages_of}
use Rattle.boot_text.specs.Sound.{unit_at}
use Rattle.boot_text.specs.declared.plan.Partition.{Partition}
use Rattle.boot_text.specs.declared.plan.UnitPlan.{UnitPlan}
use Rattle.vio_trace.specs.declared.rows.Trace.{Trace}
use Rattle.vio_trace.specs.declared.rows.QueueRow.{QueueRow}
use Rattle.vio_trace.specs.declared.rows.LogRow.{LogRow}
use Rattle.vio_trace.specs.declared.window_rows.StrokeRow.{StrokeRow}
use Rattle.vio_trace.specs.declared.window_rows.TceValueRow.{TceValueRow}
use Rattle.vcpu_run.specs.CopyRows.{same_unit}

-- the sessions of a unit's queue
abbrev pub sessions_of : Trace → UnitId → List QueueRow
sessions_of trace unit = filter (λ row. same_unit row.unit unit) trace.queues

-- the strokes on a page, and what each says
abbrev pub strokes_on : Trace → UnitId → ℕ → List StrokeRow
strokes_on trace unit page = filter (λ row. same_unit row.unit unit && row.page == page) trace.strokes

abbrev pub stroke_value : StrokeRow → StrokeValue
stroke_value row = record { name = record { who = row.writer; mark = row.mark }; offset = row.offset; bytes = row.bytes }

-- the values that were put into an entry
abbrev pub puts_into : Trace → UnitId → ℕ → List TceValueRow
puts_into trace unit e = filter (λ row. same_unit row.unit unit && row.entry == e) trace.tces

-- the values of an entry: at first the page of its own number, to be read and written
abbrev pub values_shown : Trace → UnitId → ℕ → List ℕ
values_shown trace unit e = (4096 * e + 3) ∷ map (λ row. row.value) (puts_into trace unit e)

-- the pages of a unit's region, by the plan
abbrev pub pages_if : Option UnitPlan → ℕ
pages_if None = 0
pages_if (Some planned) = pages_of planned

abbrev pub pages_at : List Partition → UnitId → ℕ
pages_at partitions unit = pages_if (unit_at partitions unit)

-- the window of a unit as a side of a copy
abbrev pub window_shown : List Partition → Trace → UnitId → Side
window_shown partitions trace unit = side unit (values_shown trace unit)
    (λ page. if nat_lt page (pages_at partitions unit) then Some (map stroke_value (strokes_on trace unit page)) else None)

-- the records of a partition
abbrev pub records_of : Trace → ℕ → List LogRow
records_of trace partition = filter (λ row. row.partition == partition) trace.logs
