use Rattle.vio_trace.specs.declared.window_rows.TceValueRow.{TceValueRow}
use Rattle.vio_trace.specs.Form.{IsTceValueRow}
use Rattle.vio_trace.specs.Text.{tce_text}
use Rattle.vio_trace.proofs.Begun.{first_alone}
use Rattle.vio_trace.proofs.sections.TceValueRowSectionRow.read.Goals as goal

pub returns-clause-begun : goal.returns-clause-begun
returns-clause-begun c = first_alone tce_text IsTceValueRow (λ (row : TceValueRow). Unit {0}) c.args.text.now _ c.read_line.ensures.alone
