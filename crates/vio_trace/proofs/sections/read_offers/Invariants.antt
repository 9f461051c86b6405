-- The offers read so far name the frame, and they and what is behind them are the text.
use Rattle.std.proofs.Common.{◌≡◌, ◌≤◌, ◌++◌, All, length}
use Rattle.std.specs.Prelude.{flat_map}
use Rattle.vio_trace.specs.Form.{IsOfferRow}
use Rattle.vio_trace.specs.Reading.{IsNamed}
use Rattle.vio_trace.specs.Text.{offer_text}
use Rattle.vio_trace.proofs.sections.read_offers.Given as goal

abbrev pub invariant-loop-offer : goal.invariant-loop-offer
invariant-loop-offer l = record {
  rows : All IsOfferRow l.offers;
  named : All (IsNamed l.fn.unit l.fn.number) l.offers;
  text : l.fn.text ≡ flat_map offer_text l.offers ++ l.rest;
  shorter : length l.rest ≤ length l.fn.text;
}

abbrev pub decreases-loop-offer : goal.decreases-loop-offer
decreases-loop-offer l = length l.rest
