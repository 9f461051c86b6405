-- A window with its owner and a guest as a port: what the owner's seat knows and holds.
use Rattle.std.specs.Prelude.{◌≡◌, ℕ, ◌+◌, ◌*◌, ◌∷◌, Some, slice_get, refl}
use Rattle.vio_num.specs.declared.TheConstants.{PAGE_BYTES}
use Rattle.tce_window.specs.Grant.{values_of}
use Rattle.tce_window.specs.Held.{HeldValue}
use Rattle.tce_window.specs.Moved.{Follows}
use Rattle.tce_window.specs.PortState.{PortState}
use Rattle.shared_window.specs.declared.shared_own.SharedOwn.{SharedOwn}
use Rattle.shared_window.specs.GuestState.{written_still_out}
use Rattle.shared_window.specs.SharedWindow.{window_names, port_of, IsOutWith, FoundBy}

abbrev pub own_state : SharedOwn → PortState
own_state port = port_of (port.owner.ghost_name ∷ port.guest.ghost_name ∷ window_names port.window.now) port.window.now port.owner.now.seat

abbrev pub own_fits : SharedOwn → HeldValue → Type 0
own_fits port = IsOutWith port.window.now port.owner.now.seat

abbrev pub own_found : SharedOwn → ℕ → ℕ → Type 0
own_found port = FoundBy port.owner.now.seat

abbrev pub own_spare : SharedOwn → ℕ
own_spare port = port.owner.now.spare

-- version 0 of each entry
pub own_begins : (port : SharedOwn) (e : ℕ) → slice_get ((own_state port).values e) 0 ≡ Some (PAGE_BYTES * e + 3)
unfolding values_of
own_begins port e = refl

-- a range that was written through is still the one that the owner's seat holds
pub own_still_fits : (port : SharedOwn) (old new : HeldValue) → own_fits port old → Follows old new → own_fits port new
own_still_fits port old new = written_still_out port.window.now port.owner.now.seat old new
