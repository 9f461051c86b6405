use Rattle.vscsi_client.proofs.Frames.{keeps_puts}
use Rattle.vscsi_client.proofs.client.Client.put_entry.Goals as goal

pub returns-in-Err-clause-crq_rest : goal.returns-in-Err-clause-crq_rest
returns-in-Err-clause-crq_rest g c =
    keeps_puts _ _ _ _ _ c.args.due c.put_first.result c.put_first.ensures.put c.put_first.ensures.none c.put_first.ensures.crq_rest

pub returns-in-Ok-clause-crq_rest : goal.returns-in-Ok-clause-crq_rest
returns-in-Ok-clause-crq_rest g c =
    keeps_puts _ _ _ _ _ c.args.due c.put_first.result c.put_first.ensures.put c.put_first.ensures.none c.put_first.ensures.crq_rest
