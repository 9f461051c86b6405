use Rattle.std.proofs.Common.{[], ◌∷◌}
use Rattle.shared_window.specs.SharedWindow.{window_names}
use Rattle.shared_window.proofs.shared_own.SharedOwnGuestPort.give_back.Goals as goal

pub returns-clause-laid : goal.returns-clause-laid
returns-clause-laid c = c.give_own.ensures.gives.laid []

pub returns-clause-rest : goal.returns-clause-rest
returns-clause-rest c = c.give_own.ensures.gives.rest (c.args.self.now.owner.ghost_name ∷ c.args.self.now.guest.ghost_name ∷ window_names c.args.self.now.window.now)
