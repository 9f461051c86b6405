use Rattle.vio_trace.specs.Form.{PostBefore, IsPostRow}
use Rattle.vio_trace.specs.Text.{post_text}
use Rattle.vio_trace.proofs.Ends.{post_line_is}
use Rattle.vio_trace.proofs.Firsts.{first_row}
use Rattle.vio_trace.proofs.Laws.{post_section}
use Rattle.vio_trace.proofs.Lans.{post_cut}
use Rattle.vio_trace.proofs.sections.PostRowSectionRow.read_first.Goals as goal

pub returns-clause-first : goal.returns-clause-first
returns-clause-first c =
    first_row post_text IsPostRow PostBefore 8 post_line_is post_cut post_section c.args.text.now _ _ c.in_ok-read_line.ensures.ok.0 c.in_ok-read_line.ensures.ok.1
