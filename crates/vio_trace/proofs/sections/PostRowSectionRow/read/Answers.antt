use Rattle.vio_trace.specs.declared.lan_rows.PostRow.{PostRow}
use Rattle.vio_trace.specs.Form.{IsPostRow}
use Rattle.vio_trace.specs.Text.{post_text}
use Rattle.vio_trace.proofs.Begun.{first_alone}
use Rattle.vio_trace.proofs.sections.PostRowSectionRow.read.Goals as goal

pub returns-clause-begun : goal.returns-clause-begun
returns-clause-begun c = first_alone post_text IsPostRow (λ (row : PostRow). Unit {0}) c.args.text.now _ c.read_line.ensures.alone
