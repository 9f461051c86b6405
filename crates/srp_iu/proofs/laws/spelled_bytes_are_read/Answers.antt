use Rattle.srp_iu.proofs.Refusals.{unrefused}
use Rattle.srp_iu.proofs.laws.spelled_bytes_are_read.Goals as goal

pub returns-clause-spelled : goal.returns-clause-spelled
returns-clause-spelled c bytes iu s = unrefused bytes iu s
