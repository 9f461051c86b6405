use Rattle.std.proofs.Common.{rules, ℕ, codes, refl}
use Rattle.vio_num.specs.declared.names.UnitId.{UnitId}
use Rattle.vio_trace.specs.declared.window_rows.PieceRow.{PieceRow}
use Rattle.vio_trace.specs.declared.fields.Then.{Then}
use Rattle.vio_trace.specs.declared.fields.Last.{Last}
use Rattle.vio_trace.specs.Form.{IsPieceRow}
use Rattle.vio_trace.specs.Text.{piece_text}
use Rattle.vio_trace.proofs.Parted.{line_refused}
use Rattle.vio_trace.proofs.read_forms.ToLineLine.read.Goals as goal

pub returns-in_default : goal.returns-in_default
returns-in_default c row h e = search (rules, e)

pub returns-in_err-fields : goal.returns-in_err-fields
returns-in_err-fields c =
    let parts : PieceRow → Then UnitId (Then ℕ (Then ℕ (Then ℕ (Then ℕ (Then ℕ (Last ℕ)))))) = λ row. record { word = row.unit; rest = record { word = row.entry; rest = record { word = row.version; rest = record { word = row.page; rest = record { word = row.offset; rest = record { word = row.len; rest = record { word = row.at } } } } } } } in
    let fact = line_refused (codes "to ") _ _ (piece_text (codes "to")) IsPieceRow parts (λ row h. (h.unit, (h.entry, (h.version, (h.page, (h.offset, (h.len, h.at))))))) (λ row. refl)
    c.args.line.now c.in-Some.rest.now (search rules) c.in_err-fields.field-0.0 c.in_err-fields.ensures in
    search (rules, fact)
