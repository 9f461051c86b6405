use Rattle.std.proofs.Common.{◌≡◌, List, ◌++◌, length}
use Rattle.entry_slots.specs.EntryCuts.{StandsFor}
use Rattle.entry_slots.specs.Entries.{EntrySeatValue}
use Rattle.entry_slots.proofs.entries.Entries.join_guests.Given as goal

abbrev pub invariant-loop-other : goal.invariant-loop-other
invariant-loop-other l = (back : List EntrySeatValue) × (l.fn.guests.items ≡ l.guests.items ++ back) × StandsFor l.self l.fn.owner back l.seat

abbrev pub decreases-loop-other : goal.decreases-loop-other
decreases-loop-other l = length l.guests.items
