use Rattle.vio_num.specs.declared.history.Grant.{Grant}
use Rattle.vio_trace.specs.Form.{IsGrantRow}
use Rattle.vio_trace.specs.Text.{grant_text}
use Rattle.vio_trace.proofs.Begun.{first_alone}
use Rattle.vio_trace.proofs.sections.GrantSectionRow.read.Goals as goal

pub returns-clause-begun : goal.returns-clause-begun
returns-clause-begun c = first_alone grant_text IsGrantRow (λ (row : Grant). Unit {0}) c.args.text.now _ c.read_line.ensures.alone
