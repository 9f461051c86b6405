use Rattle.std.proofs.Common.{rules, ℕ, codes, refl}
use Rattle.vio_num.specs.declared.names.UnitId.{UnitId}
use Rattle.vio_trace.specs.declared.lan_rows.OfferRow.{OfferRow}
use Rattle.vio_trace.specs.declared.lan_rows.Offered.{Offered}
use Rattle.vio_trace.specs.declared.fields.Then.{Then}
use Rattle.vio_trace.specs.declared.fields.Last.{Last}
use Rattle.vio_trace.specs.Form.{IsOfferRow}
use Rattle.vio_trace.specs.Text.{offer_text}
use Rattle.vio_trace.proofs.Parted.{line_refused}
use Rattle.vio_trace.proofs.read_lines.OfferRowLine.read.Goals as goal

pub returns-in_default : goal.returns-in_default
returns-in_default c row h e = search (rules, e)

pub returns-in_err-fields : goal.returns-in_err-fields
returns-in_err-fields c =
    let parts : OfferRow → Then UnitId (Then ℕ (Then UnitId (Last Offered))) = λ row. record { word = row.unit; rest = record { word = row.number; rest = record { word = row.port; rest = record { word = row.offered } } } } in
    let fact = line_refused (codes "offer ") _ _ offer_text IsOfferRow parts (λ row h. (h.unit, (h.number, (h.port, tt)))) (λ row. refl)
    c.args.line.now c.in-Some.rest.now (search rules) c.in_err-fields.field-0.0 c.in_err-fields.ensures in
    search (rules, fact)
