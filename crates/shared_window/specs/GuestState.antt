-- A guest of a shared window as a port.
use Rattle.std.specs.Prelude.{◌≡◌, ℕ, ◌+◌, ◌*◌, ◌++◌, true, List, ◌∷◌, Option, Some, None, is_some, slice_get, refl}
use Rattle.vio_num.specs.declared.TheConstants.{PAGE_BYTES}
use Rattle.std.proofs.Common.{sym, ap, ◌∙◌, subst}
use Rattle.std.proofs.lemmas.List.{append_assoc}
use Rattle.page_slots.specs.Stroke.{StrokeValue}
use Rattle.page_slots.specs.Seats.{saw}
use Rattle.tce_window.specs.Grant.{values_of}
use Rattle.tce_window.specs.Held.{HeldValue, held_strokes}
use Rattle.tce_window.specs.Moved.{Follows}
use Rattle.tce_window.specs.Port.{Grows}
use Rattle.tce_window.specs.PortState.{PortState}
use Rattle.shared_window.specs.declared.guest.SharedGuest.{SharedGuest}
use Rattle.shared_window.specs.Hand.{BeginsIn}
use Rattle.shared_window.specs.SharedWindow.{SharedWindowValue, WindowSeatValue, window_names, port_of, AreOut, IsOutWith, FoundBy}

abbrev pub guest_state : SharedGuest → PortState
guest_state port = port_of (port.guest.ghost_name ∷ window_names port.window.now) port.window.now port.guest.now

abbrev pub guest_fits : SharedGuest → HeldValue → Type 0
guest_fits port = IsOutWith port.window.now port.guest.now

abbrev pub guest_found : SharedGuest → ℕ → ℕ → Type 0
guest_found port = FoundBy port.guest.now

-- version 0 of each entry
pub guest_begins : (port : SharedGuest) (e : ℕ) → slice_get ((guest_state port).values e) 0 ≡ Some (PAGE_BYTES * e + 3)
unfolding values_of
guest_begins port e = refl

-- a page that is there stays there, with all its strokes
still_there : (old new : Option (List StrokeValue)) → Grows true old new → is_some new ≡ is_some old
still_there (Some old) (Some new) grown = refl
still_there (Some old) None grown = absurd grown
still_there None (Some new) grown = absurd grown
still_there None None grown = refl

still_begins : (front : List StrokeValue) (old new : Option (List StrokeValue)) → Grows true old new → BeginsIn front old → BeginsIn front new
still_begins front (Some old) (Some new) (more, is) (rest, e) = (rest ++ more, is ∙ (ap (λ l. l ++ more) e ∙ append_assoc front rest more))
still_begins front (Some old) None grown begins = absurd grown
still_begins front None (Some new) grown begins = absurd grown
still_begins front None None grown begins = begins

-- a range that was written through is still the one that the seat holds
pub written_still_out : (window : SharedWindowValue) (seat : WindowSeatValue) (old new : HeldValue) → IsOutWith window seat old → Follows old new → IsOutWith window seat new
written_still_out window seat old new out follows = record {
  pieces = subst (AreOut window seat) (sym follows.pieces) out.pieces;
  pages = λ p. still_there (held_strokes old.pages p) (held_strokes new.pages p) (follows.pages p) ∙ out.pages p;
  more = λ p. still_begins (saw seat.pages p) (held_strokes old.pages p) (held_strokes new.pages p) (follows.pages p) (out.more p);
}

pub written_still_fits : (port : SharedGuest) (old new : HeldValue) → guest_fits port old → Follows old new → guest_fits port new
written_still_fits port old new = written_still_out port.window.now port.guest.now old new
