-- What is left of the search is the whole of it.
use Rattle.std.proofs.Common.{◌≡◌, drop}
use Rattle.vio_chart.specs.Partner.{other_of}
use Rattle.vio_chart.proofs.link.other_of.Given as goal

abbrev pub invariant-loop-piece : goal.invariant-loop-piece
invariant-loop-piece l = other_of l.unit (drop l.piece-index l.pieces) l.further ≡ other_of l.unit l.pieces l.further
