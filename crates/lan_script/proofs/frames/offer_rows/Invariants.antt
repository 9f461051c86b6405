use Rattle.std.proofs.Common.{◌≡◌, take, map}
use Rattle.lan_script.specs.Frames.{offer_row_of}
use Rattle.lan_script.proofs.frames.offer_rows.Given as goal

abbrev pub invariant-loop-offer : goal.invariant-loop-offer
invariant-loop-offer l = l.rows ≡ map (offer_row_of l.unit l.number) (take l.offer-index l.offers)
