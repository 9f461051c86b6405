use Rattle.vio_trace.specs.Form.{TceValueBefore, IsTceValueRow}
use Rattle.vio_trace.specs.Text.{tce_text}
use Rattle.vio_trace.proofs.Ends.{tce_line_is}
use Rattle.vio_trace.proofs.Firsts.{first_row}
use Rattle.vio_trace.proofs.Laws.{tce_section}
use Rattle.vio_trace.proofs.Windows.{tce_cut}
use Rattle.vio_trace.proofs.sections.TceValueRowSectionRow.read_first.Goals as goal

pub returns-clause-first : goal.returns-clause-first
returns-clause-first c =
    first_row tce_text IsTceValueRow TceValueBefore 11 tce_line_is tce_cut tce_section c.args.text.now _ _ c.in_ok-read_line.ensures.ok.0 c.in_ok-read_line.ensures.ok.1
