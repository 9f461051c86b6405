use Rattle.std.proofs.Common.{rules, arith, ◌≡◌, ◌∷◌, [], ◌++◌}
use Rattle.std.proofs.lemmas.List.Elements.{All-push}
use Rattle.vio_trace.specs.Form.{IsOfferRow}
use Rattle.vio_trace.specs.Reading.{IsNamed}
use Rattle.vio_trace.specs.Text.{offer_text}
use Rattle.vio_trace.proofs.Apart.{no_offer_read}
use Rattle.vio_trace.proofs.Pushed.{not_both, push_text}
use Rattle.vio_trace.proofs.sections.read_offers.Goals as goal

pub loop-offer-preserved : goal.loop-offer-preserved
loop-offer-preserved c =
    let made : c.push.new.self ≡ c.loop-offer.offers ++ c.in-Ok.offer ∷ [] = search rules in
    let named : IsNamed c.args.unit c.args.number c.in-Ok.offer = record { unit_is = c.is_of_frame.ensures.unit (search rules); number_is = c.is_of_frame.ensures.number (search rules) } in
    record {
      rows = rw made (All-push IsOfferRow c.loop-offer.offers c.in-Ok.offer c.loop-offer.invariant.rows c.in-Ok.ensures.ok.0);
      named = rw made (All-push (IsNamed c.args.unit c.args.number) c.loop-offer.offers c.in-Ok.offer c.loop-offer.invariant.named named);
      text = rw made (push_text offer_text c.loop-offer.offers c.in-Ok.offer c.args.text.now c.loop-offer.rest.now c.in-Ok.behind.now c.loop-offer.invariant.text c.in-Ok.ensures.ok.1);
      shorter = omega (arith, c.in-Ok.ensures.shorter, c.loop-offer.invariant.shorter);
    }

pub returns-else-is_of_frame-clause-behind : goal.returns-else-is_of_frame-clause-behind
returns-else-is_of_frame-clause-behind c =
    no_offer_read c.args.unit c.args.number c.in-Ok.offer c.loop-offer.rest.now c.in-Ok.behind.now c.in-Ok.ensures.ok.0 c.in-Ok.ensures.ok.1
    (λ h. not_both c.is_of_frame.result (search rules) (c.is_of_frame.ensures.other h.0 h.1))
