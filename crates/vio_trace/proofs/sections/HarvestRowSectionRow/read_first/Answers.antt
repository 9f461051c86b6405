use Rattle.vio_trace.specs.Form.{HarvestBefore, IsHarvestRow}
use Rattle.vio_trace.specs.Text.{harvest_text}
use Rattle.vio_trace.proofs.Ends.{harvest_line_is}
use Rattle.vio_trace.proofs.Firsts.{first_row}
use Rattle.vio_trace.proofs.Laws.{harvest_section}
use Rattle.vio_trace.proofs.Lans.{harvest_cut}
use Rattle.vio_trace.proofs.sections.HarvestRowSectionRow.read_first.Goals as goal

pub returns-clause-first : goal.returns-clause-first
returns-clause-first c =
    first_row harvest_text IsHarvestRow HarvestBefore 10 harvest_line_is harvest_cut harvest_section c.args.text.now _ _ c.in_ok-read_line.ensures.ok.0 c.in_ok-read_line.ensures.ok.1
