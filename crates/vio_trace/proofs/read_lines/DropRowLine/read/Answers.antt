use Rattle.std.proofs.Common.{rules, ℕ, codes, refl}
use Rattle.vio_trace.specs.declared.rows.DropRow.{DropRow}
use Rattle.vio_trace.specs.declared.fields.Then.{Then}
use Rattle.vio_trace.specs.declared.fields.Last.{Last}
use Rattle.vio_trace.specs.declared.read_kinds.Digits.{Digits}
use Rattle.vio_trace.specs.Form.{IsDropRow}
use Rattle.vio_trace.specs.Text.{drop_text}
use Rattle.vio_trace.proofs.Parted.{line_refused}
use Rattle.vio_trace.proofs.read_lines.DropRowLine.read.Goals as goal

pub returns-in_default : goal.returns-in_default
returns-in_default c row h e = search (rules, e)

pub returns-in_err-fields : goal.returns-in_err-fields
returns-in_err-fields c =
    let parts : DropRow → Then ℕ (Last Digits) = λ row. record { word = row.number; rest = record { word = record { value = row.held } } } in
    let fact = line_refused (codes "drop ") _ _ drop_text IsDropRow parts (λ row h. (h.number, h.held)) (λ row. refl)
    c.args.line.now c.in-Some.rest.now (search rules) c.in_err-fields.field-0.0 c.in_err-fields.ensures in
    search (rules, fact)
