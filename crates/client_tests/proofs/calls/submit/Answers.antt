use Rattle.client_tests.proofs.Fits.{submit_fits}
use Rattle.client_tests.proofs.calls.submit.Goals as goal

pub returns-clause-rows : goal.returns-clause-rows
returns-clause-rows g c =
    submit_fits _ _ _ _ _ _ c.submit.result c.requires.fits c.submit.ensures.refused c.submit.ensures.sent c.submit.ensures.why c.requires.rows
