use Rattle.vio_trace.specs.declared.lan_rows.HarvestRow.{HarvestRow}
use Rattle.vio_trace.specs.Form.{IsHarvestRow}
use Rattle.vio_trace.specs.Text.{harvest_text}
use Rattle.vio_trace.proofs.Begun.{first_alone}
use Rattle.vio_trace.proofs.sections.HarvestRowSectionRow.read.Goals as goal

pub returns-clause-begun : goal.returns-clause-begun
returns-clause-begun c = first_alone harvest_text IsHarvestRow (λ (row : HarvestRow). Unit {0}) c.args.text.now _ c.read_line.ensures.alone
