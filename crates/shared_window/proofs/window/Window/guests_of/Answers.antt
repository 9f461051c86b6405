-- Each pair of seats is a new guest's.
use Rattle.std.proofs.Common.{rules, arith, ◌≡◌, List, [], ◌∷◌, ◌++◌, length, length-append, ap, ◌∙◌}
use Rattle.std.proofs.lemmas.List.Elements.{All-push}
use Rattle.page_slots.specs.Seats.{PageSeatValue}
use Rattle.page_slots.specs.Turns.{IsFresh}
use Rattle.entry_slots.specs.Entries.{EntrySeatValue, IsFreshAt}
use Rattle.shared_window.specs.Opening.{IsNewSeat}
use Rattle.shared_window.proofs.NewSeats.{new_is, last_of, others_of}
use Rattle.shared_window.proofs.window.Window.guests_of.Goals as goal

pub loop-holder-preserved : goal.loop-holder-preserved
loop-holder-preserved c =
    let w = c.args.self.now in
    let holders : List EntrySeatValue = c.pop.new.self.items in
    let places : List PageSeatValue = c.pop-in-Some.new.self.items in
    let inv = c.loop-holder.invariant in
    let popped : c.loop-holder.holders.items ≡ holders ++ c.in-Some.holder ∷ [] = search rules in
    let taken : c.loop-holder.places.items ≡ places ++ c.in-Some-pop.place ∷ [] = search rules in
    let guest = c.in_ok-new_seat.field-0 in
    let longer = ap length popped ∙ length-append holders (c.in-Some.holder ∷ []) in
    let longer' = ap length taken ∙ length-append places (c.in-Some-pop.place ∷ []) in
    let grown = ap length c.push_reserved.ensures.items ∙ length-append c.loop-holder.guests.items (guest ∷ []) in
    let made = inv.made in
    let pairs = inv.pairs in
    record {
      made = omega (arith, made, longer, grown);
      pairs = omega (arith, pairs, longer, longer');
      room = search rules;
      places = others_of (IsFresh w.pages) c.loop-holder.places.items places c.in-Some-pop.place taken inv.places;
      holders = others_of (IsFreshAt w.entries) c.loop-holder.holders.items holders c.in-Some.holder popped inv.holders;
      new = rw c.push_reserved.ensures.items (All-push (IsNewSeat w) c.loop-holder.guests.items guest inv.new
          (new_is w c.args.count c.in-Some-pop.place c.in-Some.holder guest c.requires.size.2 (last_of (IsFresh w.pages) c.loop-holder.places.items places c.in-Some-pop.place taken inv.places)
          (last_of (IsFreshAt w.entries) c.loop-holder.holders.items holders c.in-Some.holder popped inv.holders) c.in_ok-new_seat.ensures));
    }
