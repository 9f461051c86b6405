use Rattle.vio_trace.specs.Form.{LogBefore, IsLogRow}
use Rattle.vio_trace.specs.Text.{log_text}
use Rattle.vio_trace.proofs.Ends.{log_line_is}
use Rattle.vio_trace.proofs.Firsts.{first_row}
use Rattle.vio_trace.proofs.Laws.{log_section}
use Rattle.vio_trace.proofs.RowsTold.{log_cut}
use Rattle.vio_trace.proofs.sections.LogRowSectionRow.read_first.Goals as goal

pub returns-clause-first : goal.returns-clause-first
returns-clause-first c =
    first_row log_text IsLogRow LogBefore 1 log_line_is log_cut log_section c.args.text.now _ _ c.in_ok-read_line.ensures.ok.0 c.in_ok-read_line.ensures.ok.1
