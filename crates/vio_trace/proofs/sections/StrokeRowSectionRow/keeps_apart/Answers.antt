use Rattle.vio_trace.proofs.Apart.{strokes_apart}
use Rattle.vio_trace.proofs.Firsts.{stroke_lines}
use Rattle.vio_trace.proofs.sections.StrokeRowSectionRow.keeps_apart.Goals as goal

pub returns : goal.returns
returns c = record { apart = strokes_apart; lines = stroke_lines }
