use Rattle.std.proofs.Common.{rules, ℕ, codes, refl}
use Rattle.vio_num.specs.declared.names.UnitId.{UnitId}
use Rattle.vio_trace.specs.declared.lan_rows.PortRow.{PortRow}
use Rattle.vio_trace.specs.declared.fields.Then.{Then}
use Rattle.vio_trace.specs.declared.fields.Last.{Last}
use Rattle.vio_trace.specs.Form.{IsPortRow}
use Rattle.vio_trace.specs.Text.{port_text}
use Rattle.vio_trace.proofs.Parted.{line_refused}
use Rattle.vio_trace.proofs.read_lines.PortRowLine.read.Goals as goal

pub returns-in_default : goal.returns-in_default
returns-in_default c row h e = search (rules, e)

pub returns-in_err-fields : goal.returns-in_err-fields
returns-in_err-fields c =
    let parts : PortRow → Then UnitId (Then ℕ (Then ℕ (Last ℕ))) = λ row. record { word = row.unit; rest = record { word = row.session; rest = record { word = row.slots; rest = record { word = row.drops } } } } in
    let fact = line_refused (codes "port ") _ _ port_text IsPortRow parts (λ row h. (h.unit, (h.session, (h.slots, h.drops)))) (λ row. refl)
    c.args.line.now c.in-Some.rest.now (search rules) c.in_err-fields.field-0.0 c.in_err-fields.ensures in
    search (rules, fact)
