-- Why a call that puts values into a window's entries was Busy.
use Rattle.std.specs.Prelude.{◌≡◌, ◌≢◌, Bool, false}
use Rattle.vio_num.specs.Counts.{Rose}
use Rattle.vio_num.specs.declared.hypervisor.Hrc.{Hrc}
use Rattle.vio_num.specs.declared.hypervisor.Hrc.TheVariants as codes
use Rattle.tce_window.specs.PortState.{PortState}

-- A page or an entry was read in use, and where nobody else has a hand in the window the port holds some of it itself.
pub record FindsUse (is_shared : Bool) (old new : PortState) : Type 0 where
  pub rose : Rose old.in_use new.in_use
  pub held : is_shared ≡ false → old.held_count ≢ 0

-- a call is Busy only for this
abbrev pub BusyFor : (is_shared : Bool) → (old new : PortState) → Hrc → Type 0
BusyFor is_shared old new code = code ≡ codes.Busy → FindsUse is_shared old new
