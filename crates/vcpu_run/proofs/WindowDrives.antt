-- What a call on a client's window leaves of its pair.
use Rattle.std.proofs.Common.{false, [], Option, Some, None, refl, ap}
use Rattle.crq_session.specs.PlainState.{end_of, side_of}
use Rattle.tce_window.specs.PlainPort.{known_of}
use Rattle.tce_window.specs.PortState.{PortPlace}
use Rattle.tce_window.specs.Window.{WindowValue}
use Rattle.unit_region.specs.Kept.{KeepsWindow}
use Rattle.vcpu_run.specs.declared.driver.Driver.{Driver}
use Rattle.vcpu_run.specs.declared.pair.Pair.{Pair}
use Rattle.vcpu_run.specs.Pairs.{Drives, GoesOn}
use Rattle.vcpu_run.proofs.Announcing.{puts_same}
use Rattle.vcpu_run.proofs.Driving.{alone_same}
use Rattle.vcpu_run.proofs.Keeping.{driver_stays}

window_goes : (old new : WindowValue) (driver : Option Driver) → KeepsWindow false (known_of old) (known_of new) → GoesOn old new driver driver
window_goes old new None keeps = refl
window_goes old new (Some driver) keeps = (refl, λ is. driver_stays old new (Some driver) keeps.place keeps.grows is)

pub window_drives : (old : Pair) (window : WindowValue) → KeepsWindow false (known_of old.window) (known_of window) → Drives old (record old { window = window })
window_drives old window keeps = record {
  server = refl;
  own = refl;
  event = refl;
  server_slots = refl;
  client_slots = refl;
  got = refl;
  unit = ap (λ (place : PortPlace). place.unit) keeps.place;
  pages = ap (λ (place : PortPlace). place.size) keeps.place;
  held = keeps.held;
  grows = keeps.grows;
  driver = window_goes old.window window old.driver keeps;
  laid = keeps.own refl;
  server_registered = refl;
  server_session = refl;
  server_taken = refl;
  puts = puts_same (end_of [] old.link false);
  reached = λ is. is;
  alone = alone_same old.driver (side_of old.link false).registered;
}
