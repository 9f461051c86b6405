-- The owner of a shared window as a port.
use Rattle.std.specs.Prelude.{◌≡◌, ℕ, ◌+◌, ◌*◌, ◌∷◌, Some, slice_get, refl}
use Rattle.vio_num.specs.declared.TheConstants.{PAGE_BYTES}
use Rattle.tce_window.specs.Grant.{values_of}
use Rattle.tce_window.specs.PortState.{PortState}
use Rattle.shared_window.specs.declared.owner.SharedOwner.{SharedOwner}
use Rattle.shared_window.specs.SharedWindow.{window_names, port_of}

abbrev pub owner_state : SharedOwner → PortState
owner_state port = port_of (port.owner.ghost_name ∷ window_names port.window.now) port.window.now port.owner.now.seat

abbrev pub owner_spare : SharedOwner → ℕ
owner_spare port = port.owner.now.spare

-- version 0 of each entry
pub owner_begins : (port : SharedOwner) (e : ℕ) → slice_get ((owner_state port).values e) 0 ≡ Some (PAGE_BYTES * e + 3)
unfolding values_of
owner_begins port e = refl
