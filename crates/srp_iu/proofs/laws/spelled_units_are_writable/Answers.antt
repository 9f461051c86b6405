use Rattle.srp_iu.proofs.Writables.{writable}
use Rattle.srp_iu.proofs.laws.spelled_units_are_writable.Goals as goal

pub returns : goal.returns
returns c bytes iu s = writable bytes iu s
