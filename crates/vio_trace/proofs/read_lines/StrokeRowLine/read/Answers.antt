use Rattle.std.proofs.Common.{rules, ℕ, List, codes, refl}
use Rattle.vio_num.specs.declared.names.UnitId.{UnitId}
use Rattle.vio_trace.specs.declared.window_rows.StrokeRow.{StrokeRow}
use Rattle.vio_trace.specs.declared.fields.Then.{Then}
use Rattle.vio_trace.specs.declared.fields.Last.{Last}
use Rattle.vio_trace.specs.Form.{IsStrokeRow}
use Rattle.vio_trace.specs.Text.{stroke_text}
use Rattle.vio_trace.proofs.Parted.{line_refused}
use Rattle.vio_trace.proofs.read_lines.StrokeRowLine.read.Goals as goal

pub returns-in_default : goal.returns-in_default
returns-in_default c row h e = search (rules, e)

pub returns-in_err-fields : goal.returns-in_err-fields
returns-in_err-fields c =
    let parts : StrokeRow → Then UnitId (Then ℕ (Then ℕ (Then UnitId (Then ℕ (Then ℕ (Last (List ℕ))))))) = λ row. record { word = row.unit; rest = record { word = row.page; rest = record { word = row.place; rest = record { word = row.writer; rest = record { word = row.mark; rest = record { word = row.offset; rest = record { word = row.bytes } } } } } } } in
    let fact = line_refused (codes "stroke ") _ _ stroke_text IsStrokeRow parts (λ row h. (h.unit, (h.page, (h.place, (h.writer, (h.mark, (h.offset, h.bytes))))))) (λ row. refl)
    c.args.line.now c.in-Some.rest.now (search rules) c.in_err-fields.field-0.0 c.in_err-fields.ensures in
    search (rules, fact)
