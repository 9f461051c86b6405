use Rattle.std.proofs.Common.{◌≡◌, ◌+◌, drop}
use Rattle.tce_window.specs.Held.{held_strokes}
use Rattle.tce_window.specs.Laying.{place_on}
use Rattle.tce_window.proofs.held_pages.HeldPages.place_on.Given as goal

abbrev pub invariant-loop-place : goal.invariant-loop-place
invariant-loop-place l = record {
  place : l.place + place_on (drop l.place l.self) l.number ≡ place_on l.self l.number;
  there : held_strokes (drop l.place l.self) l.number ≡ held_strokes l.self l.number;
}
