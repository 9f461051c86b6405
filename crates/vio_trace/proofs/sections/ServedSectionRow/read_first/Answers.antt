use Rattle.vio_num.specs.declared.history.Served.{Served}
use Rattle.vio_trace.specs.Form.{IsServeRow}
use Rattle.vio_trace.specs.Text.{serve_text}
use Rattle.vio_trace.proofs.Ends.{serve_line_is}
use Rattle.vio_trace.proofs.Firsts.{first_row}
use Rattle.vio_trace.proofs.Laws.{serve_section}
use Rattle.vio_trace.proofs.Histories.{serve_cut}
use Rattle.vio_trace.proofs.sections.ServedSectionRow.read_first.Goals as goal

pub returns-clause-first : goal.returns-clause-first
returns-clause-first c =
    first_row serve_text IsServeRow (λ (a b : Served). Unit {0}) 4 serve_line_is serve_cut serve_section c.args.text.now _ _ c.in_ok-read_line.ensures.ok.0 c.in_ok-read_line.ensures.ok.1
