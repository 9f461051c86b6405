use Rattle.std.proofs.Common.{false, refl}
use Rattle.block_server.proofs.answering.lose_partner.Goals as goal

pub returns-clause-books : goal.returns-clause-books
returns-clause-books c = c.end_login.ensures.books false

pub returns-clause-cuts : goal.returns-clause-cuts
returns-clause-cuts c = λ q now. c.end_login.ensures.cuts q now refl
