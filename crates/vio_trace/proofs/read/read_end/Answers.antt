use Rattle.std.proofs.Common.{rules}
use Rattle.vio_trace.proofs.BegunTrace.{end_first, end_past}
use Rattle.vio_trace.proofs.SectionedShared.{end_missing}
use Rattle.vio_trace.proofs.read.read_end.Goals as goal

pub returns-in-None-clause-bad : goal.returns-in-None-clause-bad
returns-in-None-clause-bad c = end_missing c.args.text.now c.in-None.ensures

pub returns-in-None-clause-begun : goal.returns-in-None-clause-begun
returns-in-None-clause-begun c = end_first c.args.text.now

pub returns-in-Some-clause-begun : goal.returns-in-Some-clause-begun
returns-in-Some-clause-begun c = end_past c.args.text.now c.in-Some.rest.now (search rules)
