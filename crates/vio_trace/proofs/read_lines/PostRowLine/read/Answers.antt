use Rattle.std.proofs.Common.{rules, ℕ, codes, refl}
use Rattle.vio_num.specs.declared.names.UnitId.{UnitId}
use Rattle.vio_trace.specs.declared.lan_rows.PostRow.{PostRow}
use Rattle.vio_trace.specs.declared.fields.Then.{Then}
use Rattle.vio_trace.specs.declared.fields.Last.{Last}
use Rattle.vio_trace.specs.declared.read_kinds.Digits.{Digits}
use Rattle.vio_trace.specs.Form.{IsPostRow}
use Rattle.vio_trace.specs.Text.{post_text}
use Rattle.vio_trace.proofs.Parted.{line_refused}
use Rattle.vio_trace.proofs.read_lines.PostRowLine.read.Goals as goal

pub returns-in_default : goal.returns-in_default
returns-in_default c row h e = search (rules, e)

pub returns-in_err-fields : goal.returns-in_err-fields
returns-in_err-fields c =
    let parts : PostRow → Then UnitId (Then ℕ (Then ℕ (Then Digits (Last Digits)))) = λ row. record { word = row.unit; rest = record { word = row.session; rest = record { word = row.number; rest = record { word = record { value = row.descriptor }; rest = record { word = record { value = row.correlator } } } } } } in
    let fact = line_refused (codes "post ") _ _ post_text IsPostRow parts (λ row h. (h.unit, (h.session, (h.number, (h.descriptor, h.correlator))))) (λ row. refl)
    c.args.line.now c.in-Some.rest.now (search rules) c.in_err-fields.field-0.0 c.in_err-fields.ensures in
    search (rules, fact)
