use Rattle.std.proofs.Common.{rules, ℕ, List, Option, codes, refl}
use Rattle.vio_num.specs.declared.names.UnitId.{UnitId}
use Rattle.vio_num.specs.declared.history.Served.{Served}
use Rattle.vio_trace.specs.declared.fields.Then.{Then}
use Rattle.vio_trace.specs.declared.fields.Last.{Last}
use Rattle.vio_trace.specs.Form.{IsServeRow}
use Rattle.vio_trace.specs.Text.{serve_text}
use Rattle.vio_trace.proofs.Parted.{line_refused}
use Rattle.vio_trace.proofs.read_lines.ServedLine.read.Goals as goal

pub returns-in_default : goal.returns-in_default
returns-in_default c row h e = search (rules, e)

pub returns-in_err-fields : goal.returns-in_err-fields
returns-in_err-fields c =
    let parts : Served → Then UnitId (Then ℕ (Then ℕ (Then ℕ (Then (List ℕ) (Then (List ℕ) (Then (Option ℕ) (Then (List ℕ) (Last (List ℕ))))))))) = λ row. record { word = row.unit; rest = record { word = row.session; rest = record { word = row.login; rest = record { word = row.number; rest = record { word = row.iu; rest = record { word = row.out; rest = record { word = row.fault; rest = record { word = row.answer; rest = record { word = row.inn } } } } } } } } } in
    let fact = line_refused (codes "serve ") _ _ serve_text IsServeRow parts (λ row h. (h.unit, (h.session, (h.login, (h.number, (h.iu, (h.out, (h.fault, (h.answer, h.inn))))))))) (λ row. refl)
    c.args.line.now c.in-Some.rest.now (search rules) c.in_err-fields.field-0.0 c.in_err-fields.ensures in
    search (rules, fact)
