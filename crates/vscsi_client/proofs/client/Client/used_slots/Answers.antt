use Rattle.std.proofs.Common.{◌∙◌, ◌||◌, Some, ap}
use Rattle.std.proofs.Math.Bool.{or_assoc}
use Rattle.vscsi_client.specs.State.{is_asked, is_slot, stage_uses}
use Rattle.vscsi_client.proofs.client.Client.used_slots.Goals as goal

pub returns : goal.returns
returns c = rw (← c.self.view_is) (λ place below.
    c.mark-2.ensures place _ (c.mark.ensures place _ (c.asked_slots-used.ensures place below))
    ∙ ap (λ b. Some ((is_asked c.deref.result.now place || b) || is_slot c.self.inside.logout place)) (c.slot.ensures place)
    ∙ ap Some (or_assoc (is_asked c.deref.result.now place) (stage_uses c.self.inside.login place) (is_slot c.self.inside.logout place))
    ∙ ap (λ os. Some (is_asked os place || (stage_uses c.self.inside.login place || is_slot c.self.inside.logout place))) c.deref.ensures.0)
