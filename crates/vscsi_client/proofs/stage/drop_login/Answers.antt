use Rattle.std.proofs.Common.{rules}
use Rattle.std.proofs.lemmas.List.Elements.{filter_from_retain}
use Rattle.vscsi_client.specs.Taking.{is_step}
use Rattle.vscsi_client.proofs.stage.drop_login.Goals as goal

pub returns : goal.returns
returns c = filter_from_retain _ is_step (λ p x b q called. search rules) _ _ _ c.retain.ensures.filtered
