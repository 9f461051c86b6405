use Rattle.std.proofs.Common.{rules, ℕ, codes, refl}
use Rattle.vio_num.specs.declared.names.UnitId.{UnitId}
use Rattle.vio_trace.specs.declared.read_heads.QueueHead.{QueueHead}
use Rattle.vio_trace.specs.declared.fields.Then.{Then}
use Rattle.vio_trace.specs.declared.fields.Last.{Last}
use Rattle.vio_trace.specs.Heads.{queue_head, IsQueueHead}
use Rattle.vio_trace.proofs.Parted.{line_refused}
use Rattle.vio_trace.proofs.read_heads.QueueHeadLine.read.Goals as goal

pub returns-in_default : goal.returns-in_default
returns-in_default c row h e = search (rules, e)

pub returns-in_err-fields : goal.returns-in_err-fields
returns-in_err-fields c =
    let parts : QueueHead → Then UnitId (Then ℕ (Then ℕ (Then ℕ (Then ℕ (Last ℕ))))) = λ row. record { word = row.unit; rest = record { word = row.session; rest = record { word = row.slots; rest = record { word = row.sent; rest = record { word = row.taken; rest = record { word = row.drops } } } } } } in
    let fact = line_refused (codes "queue ") _ _ queue_head IsQueueHead parts (λ row h. (h.unit, (h.session, (h.slots, (h.sent, (h.taken, h.drops)))))) (λ row. refl)
    c.args.line.now c.in-Some.rest.now (search rules) c.in_err-fields.field-0.0 c.in_err-fields.ensures in
    search (rules, fact)
