use Rattle.client_tests.proofs.Fits.{turn_fits}
use Rattle.client_tests.proofs.calls.log_in.Goals as goal

pub returns-in_err-turn-clause-rows : goal.returns-in_err-turn-clause-rows
returns-in_err-turn-clause-rows g c = turn_fits _ _ _ _ c.login_turn.result c.login_turn.ensures.turned c.requires.rows

pub returns-clause-rows : goal.returns-clause-rows
returns-clause-rows g c = turn_fits _ _ _ _ c.login_turn.result c.login_turn.ensures.turned c.requires.rows
