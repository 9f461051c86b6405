use Rattle.vio_trace.specs.declared.lan_rows.PortRow.{PortRow}
use Rattle.vio_trace.specs.Form.{IsPortRow}
use Rattle.vio_trace.specs.Text.{port_text}
use Rattle.vio_trace.proofs.Begun.{first_alone}
use Rattle.vio_trace.proofs.sections.PortRowSectionRow.read.Goals as goal

pub returns-clause-begun : goal.returns-clause-begun
returns-clause-begun c = first_alone port_text IsPortRow (λ (row : PortRow). Unit {0}) c.args.text.now _ c.read_line.ensures.alone
