use Rattle.client_tests.proofs.Fits.{task_fits}
use Rattle.client_tests.proofs.calls.task.Goals as goal

pub returns-clause-rows : goal.returns-clause-rows
returns-clause-rows g c = task_fits _ _ _ _ _ _ _ _ c.task.result c.task.ensures.sent c.task.ensures.same c.requires.rows
