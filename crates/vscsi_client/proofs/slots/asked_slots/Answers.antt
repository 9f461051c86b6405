use Rattle.std.proofs.Common.{◌∙◌, ◌==◌, false, Some, replicate, sym, ap}
use Rattle.std.proofs.lemmas.List.{get_or-replicate}
use Rattle.std.proofs.lemmas.List.Folds.{list_any_more}
use Rattle.std.proofs.lemmas.Option.{slice_get-get_or}
use Rattle.vscsi_client.proofs.slots.asked_slots.Goals as goal

pub loop-request-init : goal.loop-request-init
loop-request-init c = λ place below. slice_get-get_or (replicate 200 false) place false below ∙ ap Some (get_or-replicate 200 place false false below)

pub loop-request-preserved : goal.loop-request-preserved
loop-request-preserved c = λ place below. c.mark.ensures place _ (c.loop-request.invariant place below)
    ∙ ap Some (sym (list_any_more (λ request. request.slot == place) c.args.outgoing.now c.loop-request.request-index _ c.loop-request-test.true))
