use Rattle.client_tests.proofs.Fits.{take_fits}
use Rattle.client_tests.proofs.calls.take.Goals as goal

pub returns-in_err-answer-clause-rows : goal.returns-in_err-answer-clause-rows
returns-in_err-answer-clause-rows g c = take_fits _ _ _ _ _ c.take_answer.result c.take_answer.ensures.taken c.take_answer.ensures.later c.requires.rows

pub returns-clause-rows : goal.returns-clause-rows
returns-clause-rows g c = take_fits _ _ _ _ _ c.take_answer.result c.take_answer.ensures.taken c.take_answer.ensures.later c.requires.rows
