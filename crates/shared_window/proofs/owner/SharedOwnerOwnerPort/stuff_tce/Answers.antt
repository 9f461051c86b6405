use Rattle.std.proofs.Common.{◌∷◌, replicate}
use Rattle.shared_window.proofs.PuttingValues.{puts_port}
use Rattle.shared_window.specs.SharedWindow.{window_names}
use Rattle.shared_window.proofs.owner.SharedOwnerOwnerPort.stuff_tce.Goals as goal

pub returns-clause-put : goal.returns-clause-put
returns-clause-put c = puts_port c.args.self.now.window.now c.args.self.now.owner.now c.stuff_tce.new.owner c.args.ioba (replicate c.args.count c.args.tce) (c.args.self.now.owner.ghost_name ∷ window_names c.args.self.now.window.now) c.stuff_tce.result c.args.self.now.ours c.stuff_tce.ensures.at c.stuff_tce.ensures.puts
