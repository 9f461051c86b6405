-- What a hold leaves, by its answer, as a port through any borrows.
use Rattle.std.proofs.Common.{ℕ, true, List, Ok, Err, Result}
use Rattle.std.specs.Prelude.{IfOk, IfErr, OnErr}
use Rattle.std.specs.Borrow.{GName}
use Rattle.tce_window.specs.declared.answers.HoldFault.{HoldFault}
use Rattle.tce_window.specs.declared.answers.Right.{Right}
use Rattle.tce_window.specs.Held.{HeldValue}
use Rattle.tce_window.specs.PortState.{Holds, HoldsNone, OnlyHolds, LaysNothing}
use Rattle.shared_window.specs.Ranges.{HoldsRange, RefusesHold}
use Rattle.shared_window.specs.SharedWindow.{SharedWindowValue, WindowSeatValue, port_of}

module _ (w : SharedWindowValue) (old new : WindowSeatValue) (ioba len : ℕ) (right : Right) (ls : List GName) where
  pub ok_holds : (r : Result HeldValue HoldFault) → IfOk r (HoldsRange w old ioba len right new) → IfOk r (Holds true (port_of ls w old) ioba len right (port_of ls w new))
  ok_holds (Ok held) h = h.holds ls
  ok_holds (Err fault) h = tt

  pub err_none : (r : Result HeldValue HoldFault) → IfErr r (RefusesHold w old ioba len right new) → OnErr r (HoldsNone true (port_of ls w old) (port_of ls w new))
  err_none (Ok held) h = tt
  err_none (Err fault) h = h.none ls

  pub lays_nothing : (r : Result HeldValue HoldFault) → IfOk r (HoldsRange w old ioba len right new) → IfErr r (RefusesHold w old ioba len right new) → LaysNothing true (port_of ls w old) (port_of ls w new)
  lays_nothing (Ok held) h e = h.laid ls
  lays_nothing (Err fault) h e = e.laid ls

  pub only_holds : (r : Result HeldValue HoldFault) → IfOk r (HoldsRange w old ioba len right new) → IfErr r (RefusesHold w old ioba len right new) → OnlyHolds true (port_of ls w old) (port_of ls w new)
  only_holds (Ok held) h e = h.rest ls
  only_holds (Err fault) h e = e.rest ls
