use Rattle.vio_num.specs.declared.history.Grant.{Grant}
use Rattle.vio_trace.specs.Form.{IsGrantRow}
use Rattle.vio_trace.specs.Text.{grant_text}
use Rattle.vio_trace.proofs.Ends.{grant_line_is}
use Rattle.vio_trace.proofs.Firsts.{first_row}
use Rattle.vio_trace.proofs.Laws.{grant_section}
use Rattle.vio_trace.proofs.Histories.{grant_cut}
use Rattle.vio_trace.proofs.sections.GrantSectionRow.read_first.Goals as goal

pub returns-clause-first : goal.returns-clause-first
returns-clause-first c =
    first_row grant_text IsGrantRow (λ (a b : Grant). Unit {0}) 3 grant_line_is grant_cut grant_section c.args.text.now _ _ c.in_ok-read_line.ensures.ok.0 c.in_ok-read_line.ensures.ok.1
