use Rattle.std.proofs.Common.{◌∷◌}
use Rattle.shared_window.proofs.PuttingValues.{puts_port}
use Rattle.shared_window.specs.SharedWindow.{window_names}
use Rattle.shared_window.proofs.owner.SharedOwnerOwnerPort.put_tce_indirect.Goals as goal

pub returns-clause-put : goal.returns-clause-put
returns-clause-put c = puts_port c.args.self.now.window.now c.args.self.now.owner.now c.put_tce_indirect.new.owner c.args.ioba c.args.list.now (c.args.self.now.owner.ghost_name ∷ window_names c.args.self.now.window.now) c.put_tce_indirect.result c.args.self.now.ours c.put_tce_indirect.ensures.at c.put_tce_indirect.ensures.puts
