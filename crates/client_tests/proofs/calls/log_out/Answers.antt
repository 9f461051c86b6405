use Rattle.client_tests.proofs.Fits.{logout_fits}
use Rattle.client_tests.proofs.calls.log_out.Goals as goal

pub returns-clause-rows : goal.returns-clause-rows
returns-clause-rows g c = logout_fits _ _ _ _ _ _ c.logout.result c.logout.ensures.sent c.logout.ensures.same c.requires.rows
