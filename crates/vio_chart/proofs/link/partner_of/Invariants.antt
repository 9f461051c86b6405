-- What is left of the search is the whole of it.
use Rattle.std.proofs.Common.{◌≡◌, drop}
use Rattle.vio_chart.specs.Partner.{partner_of}
use Rattle.vio_chart.proofs.link.partner_of.Given as goal

abbrev pub invariant-loop-copy : goal.invariant-loop-copy
invariant-loop-copy l = partner_of l.unit (drop l.copy-index l.copies) ≡ partner_of l.unit l.copies
