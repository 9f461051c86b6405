use Rattle.std.proofs.Common.{rules, ℕ, codes, refl}
use Rattle.vio_num.specs.declared.names.UnitId.{UnitId}
use Rattle.vio_trace.specs.declared.read_heads.DeliverHead.{DeliverHead}
use Rattle.vio_trace.specs.declared.lan_rows.Filled.{Filled}
use Rattle.vio_trace.specs.declared.fields.Then.{Then}
use Rattle.vio_trace.specs.declared.fields.Last.{Last}
use Rattle.vio_trace.specs.Heads.{deliver_head, IsDeliverHead}
use Rattle.vio_trace.proofs.Parted.{line_refused}
use Rattle.vio_trace.proofs.read_heads.DeliverHeadLine.read.Goals as goal

pub returns-in_default : goal.returns-in_default
returns-in_default c row h e = search (rules, e)

pub returns-in_err-fields : goal.returns-in_err-fields
returns-in_err-fields c =
    let parts : DeliverHead → Then UnitId (Then ℕ (Then ℕ (Then UnitId (Then ℕ (Then Filled (Last ℕ)))))) = λ row. record { word = row.unit; rest = record { word = row.session; rest = record { word = row.post; rest = record { word = row.sender; rest = record { word = row.frame; rest = record { word = row.filled; rest = record { word = row.to } } } } } } } in
    let fact = line_refused (codes "deliver ") _ _ deliver_head IsDeliverHead parts (λ row h. (h.unit, (h.session, (h.post, (h.sender, (h.frame, (tt, h.to))))))) (λ row. refl)
    c.args.line.now c.in-Some.rest.now (search rules) c.in_err-fields.field-0.0 c.in_err-fields.ensures in
    search (rules, fact)
