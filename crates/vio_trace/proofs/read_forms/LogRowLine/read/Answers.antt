use Rattle.std.proofs.Common.{rules, ℕ, codes}
use Rattle.vio_trace.specs.declared.outcome.Outcome.{Outcome}
use Rattle.vio_trace.specs.declared.rows.LogRow.{LogRow}
use Rattle.vio_trace.specs.declared.fields.Then.{Then}
use Rattle.vio_trace.specs.Form.{IsLogRow}
use Rattle.vio_trace.specs.Text.{log_text}
use Rattle.vio_trace.proofs.Parted.{line_refused}
use Rattle.vio_trace.proofs.Recorded.{log_apart}
use Rattle.vio_trace.proofs.read_forms.LogRowLine.read.Goals as goal

pub returns-in_err-fields : goal.returns-in_err-fields
returns-in_err-fields c =
    let parts : LogRow → Then ℕ (Then ℕ Outcome) = λ row. record { word = row.partition; rest = record { word = row.line; rest = row.outcome } } in
    let fact = line_refused (codes "log ") _ _ log_text IsLogRow parts (λ row h. (h.partition, (h.line, h.outcome))) log_apart
    c.args.line.now c.in-Some.rest.now (search rules) c.in_err-fields.field-0.0 c.in_err-fields.ensures in
    search (rules, fact)
