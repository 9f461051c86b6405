use Rattle.vio_io.specs.Image.{ImageState}
use Rattle.std.proofs.Common.{ap}
use Rattle.paprvio.proofs.Sizing.{answer_sized, served_same, served_sized}
use Rattle.paprvio.proofs.running.run_plan.Goals as goal

pub returns-in-Ok-clause-told : goal.returns-in-Ok-clause-told
returns-in-Ok-clause-told g c =
    answer_sized c.args.telling c.args.plan.now (g.Di.Blocks.state c.args.image) _ (g.Di.Blocks.state c.run_counted.result.image) c.run_counted.result.answer
    c.in-Ok.ensures.done c.run_counted.ensures.told

pub returns-in-Ok-clause-served : goal.returns-in-Ok-clause-served
returns-in-Ok-clause-served g c =
    served_sized (g.Di.Blocks.state c.args.image) _ (g.Di.Blocks.state c.run_counted.result.image) c.in-Ok.ensures.done c.run_counted.ensures.served

pub returns-in-Err-clause-served : goal.returns-in-Err-clause-served
returns-in-Err-clause-served g c =
    served_same (g.Di.Blocks.state c.args.image).blocks _ (ap (λ (s : ImageState). s.blocks) c.in-Err.ensures.failed.rest)
