use Rattle.tce_window.specs.Named.{AreFresh}
use Rattle.tce_window.specs.Region.{first_page}
use Rattle.tce_window.specs.Window.{strokes_at}
use Rattle.tce_window.proofs.region.Region.first_stale.Given as goal

abbrev pub invariant-loop-page : goal.invariant-loop-page
invariant-loop-page l = AreFresh l.name l.at l.len (strokes_at l.self) (first_page l.at) l.page
