-- What is as before.
use Rattle.std.proofs.Common.{Bool, true, false, List, [], Option, Some, None, refl, sym, append-nil}
use Rattle.page_slots.specs.Stroke.{StrokeValue}
use Rattle.tce_window.specs.Port.{Grows}
use Rattle.tce_window.specs.PortState.{PortState, LaysNone}
use Rattle.crq_session.specs.EndState.{EndState, OnlyReserves}
use Rattle.crq_session.specs.Answered.{SendsNone}

-- a page is later as it is now
pub grows_same : (shared : Bool) (page : Option (List StrokeValue)) → Grows shared page page
grows_same true (Some strokes) = ([], sym (append-nil strokes))
grows_same false (Some strokes) = refl
grows_same shared None = tt

pub lays_none : (shared : Bool) (own : PortState) → LaysNone shared own own
lays_none shared own = record { strokes = λ p. grows_same shared (own.strokes p); laid = λ is p. refl }

pub reserves_none : (a b : EndState) → OnlyReserves a b → SendsNone a b
reserves_none a b r = record { sent = r.sent; drops = r.drops }
