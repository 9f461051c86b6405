-- The figures of the rows before the present one were added, each once.
use Rattle.std.proofs.Common.{take}
use Rattle.vio_trace.specs.declared.lan_rows.OfferRow.{OfferRow}
use Rattle.vio_chart.specs.Drawn.{Adds, AreDrawn}
use Rattle.vio_chart.specs.Picture.{IsArrow, unit_x}
use Rattle.vio_chart.proofs.groups.put_frame.Given as goal

abbrev pub invariant-loop-offer : goal.invariant-loop-offer
invariant-loop-offer l = Adds (AreDrawn (λ (offer : OfferRow). IsArrow (unit_x l.units l.fn.frame.unit) (unit_x l.units offer.port)) (take l.offer-index l.offer-items)) l.initial.buffer.items l.buffer.items
