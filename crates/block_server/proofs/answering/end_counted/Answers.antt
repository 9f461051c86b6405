use Rattle.std.proofs.Common.{true}
use Rattle.block_server.proofs.answering.end_counted.Goals as goal

pub returns-clause-books : goal.returns-clause-books
returns-clause-books c = c.end_login.ensures.books true

pub returns-clause-cuts : goal.returns-clause-cuts
returns-clause-cuts c = c.end_login.ensures.cuts
