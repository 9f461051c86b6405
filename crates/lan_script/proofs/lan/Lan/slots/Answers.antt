use Rattle.std.proofs.Common.{◌∙◌, List, ap, sym}
use Rattle.lan_script.specs.declared.seat.PortSeat.{PortSeat}
use Rattle.lan_script.specs.Seats.{seat_at}
use Rattle.lan_script.proofs.Resting.{sized_in}
use Rattle.lan_script.proofs.lan.Lan.slots.Goals as goal

pub returns : goal.returns
returns c = record {
  least = (sized_in _ c.args.unit c.in-Some.seat c.self.invariant.sized
      (ap (λ (l : List PortSeat). seat_at l c.args.unit) (sym c.deref.ensures.value) ∙ sym c.seat_of.ensures ∙ c.in-Some.is)).1.0;
}
