use Rattle.std.proofs.Common.{◌≡◌, ◌≤◌, replicate, None, vec_capacity}
use Rattle.tce_window.proofs.region.Region.empty.Given as goal

abbrev pub invariant-loop-page : goal.invariant-loop-page
invariant-loop-page l = record {
  away : l.pages.items ≡ replicate l._page None;
  room : l.fn.count ≤ vec_capacity l.pages;
}
