use Rattle.std.proofs.Common.{length, ap, rules}
use Rattle.block_server.proofs.Answered.{answers_of, status_len}
use Rattle.block_server.proofs.answers.with_status.Goals as goal

pub returns-clause-answer : goal.returns-clause-answer
returns-clause-answer c = answers_of _ _ _ c.write_iu.ensures (search rules)

pub returns-clause-length : goal.returns-clause-length
returns-clause-length c = status_len _ _ _ c.write_iu.ensures.unit.exact (ap length c.new.ensures) c.sense_part-sense.ensures.len
