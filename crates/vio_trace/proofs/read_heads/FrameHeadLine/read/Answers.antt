use Rattle.std.proofs.Common.{rules, ℕ, List, codes, refl}
use Rattle.vio_num.specs.declared.names.UnitId.{UnitId}
use Rattle.vio_num.specs.declared.hypervisor.Hrc.{Hrc}
use Rattle.vio_trace.specs.declared.read_heads.FrameHead.{FrameHead}
use Rattle.vio_trace.specs.declared.fields.Then.{Then}
use Rattle.vio_trace.specs.declared.fields.Last.{Last}
use Rattle.vio_trace.specs.Heads.{frame_head, IsFrameHead}
use Rattle.vio_trace.proofs.Parted.{line_refused}
use Rattle.vio_trace.proofs.read_heads.FrameHeadLine.read.Goals as goal

pub returns-in_default : goal.returns-in_default
returns-in_default c row h e = search (rules, e)

pub returns-in_err-fields : goal.returns-in_err-fields
returns-in_err-fields c =
    let parts : FrameHead → Then UnitId (Then ℕ (Then Hrc (Then ℕ (Last (List ℕ))))) = λ row. record { word = row.unit; rest = record { word = row.number; rest = record { word = row.code; rest = record { word = row.from; rest = record { word = row.bytes } } } } } in
    let fact = line_refused (codes "frame ") _ _ frame_head IsFrameHead parts (λ row h. (h.unit, (h.number, (tt, (h.from, h.bytes))))) (λ row. refl)
    c.args.line.now c.in-Some.rest.now (search rules) c.in_err-fields.field-0.0 c.in_err-fields.ensures in
    search (rules, fact)
