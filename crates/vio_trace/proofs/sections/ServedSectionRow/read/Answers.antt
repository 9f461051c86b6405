use Rattle.vio_num.specs.declared.history.Served.{Served}
use Rattle.vio_trace.specs.Form.{IsServeRow}
use Rattle.vio_trace.specs.Text.{serve_text}
use Rattle.vio_trace.proofs.Begun.{first_alone}
use Rattle.vio_trace.proofs.sections.ServedSectionRow.read.Goals as goal

pub returns-clause-begun : goal.returns-clause-begun
returns-clause-begun c = first_alone serve_text IsServeRow (λ (row : Served). Unit {0}) c.args.text.now _ c.read_line.ensures.alone
