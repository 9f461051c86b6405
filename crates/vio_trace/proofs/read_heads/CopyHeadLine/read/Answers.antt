use Rattle.std.proofs.Common.{rules, ℕ, codes, refl}
use Rattle.vio_num.specs.declared.names.UnitId.{UnitId}
use Rattle.vio_trace.specs.declared.read_heads.CopyHead.{CopyHead}
use Rattle.vio_trace.specs.declared.fields.Then.{Then}
use Rattle.vio_trace.specs.declared.fields.Last.{Last}
use Rattle.vio_trace.specs.Heads.{copy_head, IsCopyHead}
use Rattle.vio_trace.proofs.Parted.{line_refused}
use Rattle.vio_trace.proofs.read_heads.CopyHeadLine.read.Goals as goal

pub returns-in_default : goal.returns-in_default
returns-in_default c row h e = search (rules, e)

pub returns-in_err-fields : goal.returns-in_err-fields
returns-in_err-fields c =
    let parts : CopyHead → Then UnitId (Then ℕ (Then ℕ (Then ℕ (Last ℕ)))) = λ row. record { word = row.unit; rest = record { word = row.mark; rest = record { word = row.len; rest = record { word = row.from; rest = record { word = row.to } } } } } in
    let fact = line_refused (codes "copy ") _ _ copy_head IsCopyHead parts (λ row h. (h.unit, (h.mark, (h.len, (h.from, h.to))))) (λ row. refl)
    c.args.line.now c.in-Some.rest.now (search rules) c.in_err-fields.field-0.0 c.in_err-fields.ensures in
    search (rules, fact)
