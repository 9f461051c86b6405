use Rattle.std.proofs.Common.{rules, codes, refl}
use Rattle.vio_num.specs.declared.entry.Entry.{Entry}
use Rattle.vio_trace.specs.declared.fields.Then.{Then}
use Rattle.vio_trace.specs.declared.fields.Last.{Last}
use Rattle.vio_trace.specs.declared.read_kinds.Digits.{Digits}
use Rattle.vio_trace.specs.Form.{IsEntry}
use Rattle.vio_trace.specs.Text.{entry_text}
use Rattle.vio_trace.proofs.Parted.{line_refused}
use Rattle.vio_trace.proofs.read_forms.SentLineLine.read.Goals as goal

pub returns-in_default : goal.returns-in_default
returns-in_default c row h e = search (rules, e)

pub returns-in_err-fields : goal.returns-in_err-fields
returns-in_err-fields c =
    let parts : Entry → Then Digits (Last Digits) = λ row. record { word = record { value = row.high }; rest = record { word = record { value = row.low } } } in
    let fact = line_refused (codes "sent ") _ _ (entry_text (codes "sent")) IsEntry parts (λ row h. (h.high, h.low)) (λ row. refl)
    c.args.line.now c.in-Some.rest.now (search rules) c.in_err-fields.field-0.0 c.in_err-fields.ensures in
    search (rules, fact)
