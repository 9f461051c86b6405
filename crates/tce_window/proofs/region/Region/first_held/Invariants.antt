use Rattle.tce_window.specs.Region.{AreThere, first_page}
use Rattle.tce_window.specs.Window.{strokes_at}
use Rattle.tce_window.proofs.region.Region.first_held.Given as goal

abbrev pub invariant-loop-page : goal.invariant-loop-page
invariant-loop-page l = AreThere (strokes_at l.self) (first_page l.at) l.page
