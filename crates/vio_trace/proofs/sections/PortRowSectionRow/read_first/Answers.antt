use Rattle.vio_trace.specs.Form.{PortBefore, IsPortRow}
use Rattle.vio_trace.specs.Text.{port_text}
use Rattle.vio_trace.proofs.Ends.{port_line_is}
use Rattle.vio_trace.proofs.Firsts.{first_row}
use Rattle.vio_trace.proofs.Laws.{port_section}
use Rattle.vio_trace.proofs.Lans.{port_cut}
use Rattle.vio_trace.proofs.sections.PortRowSectionRow.read_first.Goals as goal

pub returns-clause-first : goal.returns-clause-first
returns-clause-first c =
    first_row port_text IsPortRow PortBefore 7 port_line_is port_cut port_section c.args.text.now _ _ c.in_ok-read_line.ensures.ok.0 c.in_ok-read_line.ensures.ok.1
