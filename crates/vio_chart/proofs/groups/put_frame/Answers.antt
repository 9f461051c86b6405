use Rattle.std.proofs.Common.{List, subst}
use Rattle.vio_num.specs.declared.names.UnitId.{UnitId}
use Rattle.vio_trace.specs.declared.lan_rows.OfferRow.{OfferRow}
use Rattle.vio_trace.specs.declared.lan_rows.Offered.TheVariants as offers
use Rattle.vio_chart.specs.Drawn.{Adds, AreDrawn}
use Rattle.vio_chart.specs.Picture.{IsArrow, unit_x}
use Rattle.vio_chart.proofs.Lists.{adds_all, adds_more}
use Rattle.vio_chart.proofs.groups.put_frame.Goals as goal

pub loop-offer-preserved : goal.loop-offer-preserved
loop-offer-preserved c =
    let no_unit : UnitId = record { partition = 0; unit = 0 } in
    let none : OfferRow = record { unit = no_unit; number = 0; port = no_unit; offered = offers.Done } in
    adds_more (λ (offer : OfferRow). IsArrow (unit_x c.args.units.now c.args.frame.now.unit) (unit_x c.args.units.now offer.port)) _ _ none _ _ _ c.loop-offer-test.true c.loop-offer.invariant c.in_ok-put_offer_arrow.ensures

pub returns : goal.returns
returns c =
    subst (λ (l : List OfferRow). Adds (AreDrawn (λ (offer : OfferRow). IsArrow (unit_x c.args.units.now c.args.frame.now.unit) (unit_x c.args.units.now offer.port)) l) c.args.buffer.now.items c.loop-offer.buffer.items)
    c.as_slice-offer-items.ensures
    (adds_all (λ (offer : OfferRow). IsArrow (unit_x c.args.units.now c.args.frame.now.unit) (unit_x c.args.units.now offer.port)) _ _ _ _ c.loop-offer-test.false c.loop-offer.invariant)
