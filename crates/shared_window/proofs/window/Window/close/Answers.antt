-- All seats are closed by, and come back where there is no memory.
use Rattle.std.proofs.Common.{rules, ◌≡◌, ◌<◌, All, List, [], ◌∷◌, ◌++◌, map, sym, ap, ◌∙◌, subst}
use Rattle.std.proofs.lemmas.List.{append_cancel_right}
use Rattle.page_slots.specs.Seats.{PageSeatValue}
use Rattle.page_slots.specs.Turns.{AreAll}
use Rattle.entry_slots.specs.Entries.{EntrySeatValue}
use Rattle.entry_slots.specs.EntryCuts.{AreGuests}
use Rattle.vio_num.specs.Words.{Begins}
use Rattle.tce_window.specs.Window.{strokes_at}
use Rattle.shared_window.specs.Closing.{IsLeftPage, seats_of}
use Rattle.shared_window.specs.Opening.{OwnerValue}
use Rattle.shared_window.specs.SharedWindow.{SharedWindowValue, WindowSeatValue}
use Rattle.shared_window.proofs.Closings.{all_places, all_holders, all_of, all_there, left_page, same_last}
use Rattle.shared_window.proofs.Partings.{same_seats}
use Rattle.shared_window.proofs.window.Window.close.Goals as goal

pub close-requires : goal.close-requires
close-requires c =
    let g : List WindowSeatValue = c.args.guests.items in
    let pages = ap (λ (w : SharedWindowValue). w.pages) c.self.view_is in
    let place : c.seat.inside.pages ≡ c.args.owner.seat.pages = ap (λ (s : WindowSeatValue). s.pages) c.seat.view_is ∙ ap (λ (o : OwnerValue). o.seat.pages) c.owner.view_is in
    let seats : c.push_reserved.new.self.items ≡ seats_of c.args.owner g = c.push_reserved.ensures.items ∙ (λ i. c.part.ensures.parts.places_are i ++ place i ∷ []) in
    subst (λ l. AreAll c.self.inside.pages l) (sym seats) (subst (λ v. AreAll v (seats_of c.args.owner g)) (sym pages) (all_places c.args.self c.args.owner g c.requires))

pub close-requires-in-Ok-close-clause-guests : goal.close-requires-in-Ok-close-clause-guests
close-requires-in-Ok-close-clause-guests c =
    let g : List WindowSeatValue = c.args.guests.items in
    let entries = ap (λ (w : SharedWindowValue). w.entries) c.self.view_is in
    subst (λ l. AreGuests c.self.inside.entries l) (sym c.part.ensures.parts.holders_are) (subst (λ v. AreGuests v (map (λ (s : WindowSeatValue). s.entries) g)) (sym entries) (all_holders c.args.self c.args.owner g c.requires))

pub of_parts-requires-clause-there : goal.of_parts-requires-clause-there
of_parts-requires-clause-there c = all_there c.self.inside.pages c.push_reserved.new.self.items c.in-Ok-close.list.items c.put_all-region.result c.in-Ok-close.ensures.ok c.put_all-region.ensures.strokes (search rules)

pub returns-in-Ok-close-clause-ok : goal.returns-in-Ok-close-clause-ok
returns-in-Ok-close-clause-ok c =
    let g : List WindowSeatValue = c.args.guests.items in
    let place : c.seat.inside.pages ≡ c.args.owner.seat.pages = ap (λ (s : WindowSeatValue). s.pages) c.seat.view_is ∙ ap (λ (o : OwnerValue). o.seat.pages) c.owner.view_is in
    let seats : c.push_reserved.new.self.items ≡ seats_of c.args.owner g = c.push_reserved.ensures.items ∙ (λ i. c.part.ensures.parts.places_are i ++ place i ∷ []) in
    let count = ap (λ (w : SharedWindowValue). w.pages.count) c.self.view_is in
    let holder : c.seat.inside.entries ≡ c.args.owner.seat.entries = ap (λ (s : WindowSeatValue). s.entries) c.seat.view_is ∙ ap (λ (o : OwnerValue). o.seat.entries) c.owner.view_is in
    let plain = c.of_parts.ensures in
    let size = c.put_all-region.ensures.size in
    let listed = c.in-Ok-close.ensures.ok.count in
    let fronts : All (λ (s : EntrySeatValue). Begins s.rows c.args.owner.seat.entries.rows) (map (λ s. s.entries) g) = subst (λ l. All (λ (s : EntrySeatValue). Begins s.rows c.args.owner.seat.entries.rows) l) c.part.ensures.parts.holders_are
    (subst (λ (o : EntrySeatValue). All (λ (s : EntrySeatValue). Begins s.rows o.rows) c.part.new.self.holders.items) holder c.close-in-Ok-close.ensures) in
    record {
      unit_is = ap (λ v. v.unit) plain ∙ ap (λ (w : SharedWindowValue). w.unit) c.self.view_is;
      size = search rules;
      pages_are = λ p less.
          subst (λ (l : List PageSeatValue). IsLeftPage l p (strokes_at c.of_parts.result.pages p)) seats
          (subst (λ pages. IsLeftPage c.push_reserved.new.self.items p (strokes_at pages p)) (sym (ap (λ v. v.pages) plain))
          (left_page c.self.inside.pages c.push_reserved.new.self.items c.in-Ok-close.list.items c.put_all-region.result c.in-Ok-close.ensures.ok c.put_all-region.ensures.strokes (search rules) p (subst (λ n. p < n) (sym count) less)));
      rows_are = ap (λ v. v.rows) plain ∙ ap (λ (o : OwnerValue). o.rows) c.owner.view_is;
      spare_is = ap (λ v. v.spare) plain ∙ ap (λ (o : OwnerValue). o.spare) c.owner.view_is;
      known = subst (λ rows. All (λ (guest : WindowSeatValue). Begins guest.entries.rows rows) g) (sym c.requires.owner_is.rows) (all_of (λ (s : EntrySeatValue). Begins s.rows c.args.owner.seat.entries.rows) (λ (s : WindowSeatValue). s.entries) g fronts);
      held_from_is = ap (λ v. v.held_from) plain;
      none_held = ap (λ v. v.held_count) plain;
      in_use_is = ap (λ v. v.in_use) plain ∙ (ap (λ (s : WindowSeatValue). s.in_use) c.seat.view_is ∙ ap (λ (o : OwnerValue). o.seat.in_use) c.owner.view_is);
    }

pub returns-in-Some-clause-back : goal.returns-in-Some-clause-back
returns-in-Some-clause-back c =
    let g : List WindowSeatValue = c.args.guests.items in
    let front : List PageSeatValue = c.pop.new.self.items in
    let back = c.in-Err.ensures.back in
    let popped : c.in-Err.seats.items ≡ front ++ c.in-Some.place ∷ [] = search rules in
    let whole : front ++ c.in-Some.place ∷ [] ≡ c.part.new.self.places.items ++ c.seat.inside.pages ∷ [] = sym popped ∙ (search rules ∙ c.push_reserved.ensures.items) in
    let place : c.in-Some.place ≡ c.seat.inside.pages = same_last front c.part.new.self.places.items c.in-Some.place c.seat.inside.pages whole in
    let places : front ≡ c.part.new.self.places.items = append_cancel_right front c.part.new.self.places.items (c.in-Some.place ∷ []) (whole ∙ ap (λ (s : PageSeatValue). c.part.new.self.places.items ++ s ∷ []) (sym place)) in
    let made = c.rejoin.ensures in
    let parts = c.part.ensures.parts in
    let pages : c.in-Err.field-0.pages ≡ c.self.inside.pages = search rules in
    let seat : record { pages = c.in-Some.place; entries = c.seat.inside.entries; region = c.seat.inside.region; in_use = c.seat.inside.in_use } ≡ c.owner.inside.seat =
    (λ i. record { pages = place i; entries = c.seat.inside.entries; region = c.seat.inside.region; in_use = c.seat.inside.in_use }) ∙ c.seat.view_is in (
      (λ i. record { unit = c.self.inside.unit; pages = pages i; entries = c.self.inside.entries }) ∙ c.self.view_is,
      (λ i. record { seat = seat i; size = c.owner.inside.table.size; rows = c.owner.inside.table.rows; spare = c.owner.inside.table.spare }) ∙ c.owner.view_is,
      same_seats c.rejoin.new.guests.items g (sym made.places_are ∙ (places ∙ parts.places_are)) (sym made.holders_are ∙ parts.holders_are) (sym made.rests_are ∙ parts.rests_are),
    )
