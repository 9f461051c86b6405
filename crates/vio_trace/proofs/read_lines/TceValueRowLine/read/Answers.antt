use Rattle.std.proofs.Common.{rules, ℕ, codes, refl}
use Rattle.vio_num.specs.declared.names.UnitId.{UnitId}
use Rattle.vio_trace.specs.declared.window_rows.TceValueRow.{TceValueRow}
use Rattle.vio_trace.specs.declared.fields.Then.{Then}
use Rattle.vio_trace.specs.declared.fields.Last.{Last}
use Rattle.vio_trace.specs.declared.read_kinds.Digits.{Digits}
use Rattle.vio_trace.specs.Form.{IsTceValueRow}
use Rattle.vio_trace.specs.Text.{tce_text}
use Rattle.vio_trace.proofs.Parted.{line_refused}
use Rattle.vio_trace.proofs.read_lines.TceValueRowLine.read.Goals as goal

pub returns-in_default : goal.returns-in_default
returns-in_default c row h e = search (rules, e)

pub returns-in_err-fields : goal.returns-in_err-fields
returns-in_err-fields c =
    let parts : TceValueRow → Then UnitId (Then ℕ (Then ℕ (Last Digits))) = λ row. record { word = row.unit; rest = record { word = row.entry; rest = record { word = row.version; rest = record { word = record { value = row.value } } } } } in
    let fact = line_refused (codes "tce ") _ _ tce_text IsTceValueRow parts (λ row h. (h.unit, (h.entry, (h.version, h.value)))) (λ row. refl)
    c.args.line.now c.in-Some.rest.now (search rules) c.in_err-fields.field-0.0 c.in_err-fields.ensures in
    search (rules, fact)
