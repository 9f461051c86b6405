-- What callers of a shared window's ports use: a seat whose port kept its place is still one at the window.
use Rattle.std.proofs.Common.{◌≡◌, ◌+◌, ◌<◌, ◌≤◌, List, ◌∷◌, take, drop, slice_index, sym, ap, ◌∙◌, subst}
use Rattle.std.specs.Borrow.{GName}
use Rattle.std.proofs.Math.Seq.{take-append_seam, drop-append_seam}
use Rattle.atomic_table.specs.Seated.{TableId}
use Rattle.tce_window.specs.PortState.{PortPlace}
use Rattle.shared_window.specs.Opening.{OwnerValue, IsOwnerAt}
use Rattle.shared_window.specs.SharedWindow.{SharedWindowValue, WindowSeatValue, IsSeatAt, names_in, window_names, port_of}

-- the table that has these names
abbrev named : List GName → TableId
named names = record {
  words = slice_index names 0;
  slots = slice_index names 1;
  views_name = slice_index names 2;
  atom = slice_index names 3;
  block = slice_index names 4;
  offset = slice_index names 5;
  slot_names = drop 6 names;
}

-- the names of a window's pages, and those of its entries
abbrev pages_in : List GName → TableId
pages_in names = named (take (slice_index names 0) (drop 1 names))

abbrev entries_in : List GName → TableId
entries_in names = named (drop (slice_index names 0) (drop 1 names))

pages_named : (w : SharedWindowValue) → pages_in (window_names w) ≡ w.pages.id
pages_named w = ap named (take-append_seam (names_in w.pages.id) (names_in w.entries.id))

entries_named : (w : SharedWindowValue) → entries_in (window_names w) ≡ w.entries.id
entries_named w = ap named (drop-append_seam (names_in w.pages.id) (names_in w.entries.id))

-- windows with the same names and as many pages
module _ (w w' : SharedWindowValue) (names : window_names w' ≡ window_names w) (size : w'.pages.count ≡ w.pages.count) where
  same_pages : w'.pages.id ≡ w.pages.id
  same_pages = sym (pages_named w') ∙ (ap pages_in names ∙ pages_named w)

  same_entries : w'.entries.id ≡ w.entries.id
  same_entries = sym (entries_named w') ∙ (ap entries_in names ∙ entries_named w)

  pub seat_stays : (seat : WindowSeatValue) → IsSeatAt w' seat → IsSeatAt w seat
  seat_stays seat at = record {
    pages = at.pages ∙ same_pages;
    entries = at.entries ∙ same_entries;
    empty = record { size = at.empty.size ∙ size; away = at.empty.away };
    inside = λ p h. subst (λ n. p < n) size (at.inside p h);
    within = λ some. subst (λ n. seat.entries.held_from + seat.entries.held_count ≤ n) size (at.within some);
    free = at.free;
  }

  pub owner_stays : (owner : OwnerValue) → IsOwnerAt w' owner → IsOwnerAt w owner
  owner_stays owner is = record { at = seat_stays owner.seat is.at; owns = is.owns; size = is.size ∙ size; rows = is.rows; within = is.within }

-- the port of a seat through one borrow, and through two
pub guest_stays : (w w' : SharedWindowValue) (old new : WindowSeatValue) (lender lender' : GName) → (port_of (lender' ∷ window_names w') w' new).place ≡ (port_of (lender ∷ window_names w) w old).place → IsSeatAt w' new → IsSeatAt w new
guest_stays w w' old new lender lender' place = seat_stays w w' (ap (λ (p : PortPlace). drop 1 p.lenders) place) (ap (λ (p : PortPlace). p.size) place) new

pub own_stays : (w w' : SharedWindowValue) (old new : OwnerValue) (lender lender' : GName) → (port_of (lender' ∷ window_names w') w' new.seat).place ≡ (port_of (lender ∷ window_names w) w old.seat).place → IsOwnerAt w' new → IsOwnerAt w new
own_stays w w' old new lender lender' place = owner_stays w w' (ap (λ (p : PortPlace). drop 1 p.lenders) place) (ap (λ (p : PortPlace). p.size) place) new

pub both_stay : (w w' : SharedWindowValue) (old new : OwnerValue) (first second first' second' : GName) → (port_of (first' ∷ second' ∷ window_names w') w' new.seat).place ≡ (port_of (first ∷ second ∷ window_names w) w old.seat).place → IsOwnerAt w' new → IsOwnerAt w new
both_stay w w' old new first second first' second' place = owner_stays w w' (ap (λ (p : PortPlace). drop 2 p.lenders) place) (ap (λ (p : PortPlace). p.size) place) new
