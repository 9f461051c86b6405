-- Each seat is new.
use Rattle.std.proofs.Common.{rules, ◌≡◌, List, [], ◌∷◌, ◌++◌, refl, sym, ap, subst, ◌∙◌}
use Rattle.page_slots.specs.Page.{AreWithinPage}
use Rattle.page_slots.specs.Seats.{PageSeatValue}
use Rattle.page_slots.specs.Turns.{IsFresh}
use Rattle.shared_window.specs.Opening.{IsNewSeat}
use Rattle.shared_window.specs.SharedWindow.{SharedWindowValue}
use Rattle.shared_window.proofs.NewSeats.{new_is, last_of, others_of}
use Rattle.shared_window.proofs.window.Window.open.Goals as goal

pub guests_of-requires-clause-places : goal.guests_of-requires-clause-places
guests_of-requires-clause-places c =
    let all : List PageSeatValue = c.in_ok-shared.field-0.seats.items in
    let rest : List PageSeatValue = c.pop.new.self.items in
    let popped : all ≡ rest ++ c.in-Some-pop.place ∷ [] = search rules in
    others_of (IsFresh c.in_ok-shared.field-0.pages) all rest c.in-Some-pop.place popped c.in_ok-shared.ensures.fresh

pub returns : goal.returns
returns c =
    let all : List PageSeatValue = c.in_ok-shared.field-0.seats.items in
    let rest : List PageSeatValue = c.pop.new.self.items in
    let popped : all ≡ rest ++ c.in-Some-pop.place ∷ [] = search rules in
    let e = c.in_ok-entries.ensures in
    let count = c.in_ok-shared.ensures.count_is in
    let w : SharedWindowValue = record { unit = c.args.unit; pages = c.in_ok-shared.field-0.pages; entries = c.in_ok-entries.field-0.entries } in
    let seat = c.in_ok-new_seat.field-0 in
    let new : IsNewSeat w seat = new_is w c.args.pages c.in-Some-pop.place c.in_ok-entries.field-0.owner seat count (last_of (IsFresh w.pages) all rest c.in-Some-pop.place popped c.in_ok-shared.ensures.fresh) e.owner_is c.in_ok-new_seat.ensures in
    let table = c.in_ok-open.ensures in
    record {
      unit_is = refl;
      size = count;
      all_seats = search rules;
      owner_is = record {
        at = new.at;
        owns = ap (λ s. s.entries.owns) c.in_ok-new_seat.ensures ∙ e.owns;
        size = ap (λ t. t.size) table ∙ sym count;
        rows = ap (λ t. t.rows) table ∙ sym new.rows;
        within = λ p. subst AreWithinPage (sym (new.seen p)) tt;
      };
      owner_new = new;
      none_spare = ap (λ t. t.spare) table;
      all_guests = c.in_ok-guests.ensures.0 ∙ e.all_seats;
      guests_new = c.in_ok-guests.ensures.1;
    }
