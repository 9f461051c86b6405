use Rattle.std.proofs.Common.{◌≡◌, [], replicate, Some}
use Rattle.tce_window.proofs.region.Region.zero.Given as goal

abbrev pub invariant-loop-page : goal.invariant-loop-page
invariant-loop-page l = l.pages.items ≡ replicate l._page (Some (record { strokes = []; spare = 0 }))
