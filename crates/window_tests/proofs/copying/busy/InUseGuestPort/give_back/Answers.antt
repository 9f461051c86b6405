use Rattle.std.proofs.Common.{◌≡◌, ◌-◌, ℕ, List, [], Option, Some, None, refl}
use Rattle.page_slots.specs.Stroke.{StrokeValue}
use Rattle.tce_window.specs.Held.{held_strokes, either}
use Rattle.page_slots.specs.Seats.{places_from}
use Rattle.tce_window.specs.Moved.{stroke_count}
use Rattle.rdma_copy.specs.Handless.{IsAbsent}
use Rattle.window_tests.proofs.copying.busy.InUseGuestPort.give_back.Goals as goal

none_in_place : (strokes : Option (List StrokeValue)) → IsAbsent strokes → None ≡ either None strokes
none_in_place (Some strokes) none = absurd none
none_in_place None none = refl

none_laid : (strokes : Option (List StrokeValue)) → IsAbsent strokes → [] ≡ places_from 0 (stroke_count strokes - 0)
none_laid (Some strokes) none = absurd none
none_laid None none = refl

pub returns-clause-strokes : goal.returns-clause-strokes
returns-clause-strokes g c p = none_in_place (held_strokes c.args.held.pages p) (c.requires.1 p)

pub returns-clause-laid : goal.returns-clause-laid
returns-clause-laid g c shared p = none_laid (held_strokes c.args.held.pages p) (c.requires.1 p)
