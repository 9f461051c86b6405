use Rattle.std.proofs.Common.{inl, refl}
use Rattle.block_server.proofs.Readying.{idles_same}
use Rattle.block_server.proofs.Onces.{once_same}
use Rattle.std.proofs.Common.{rules}
use Rattle.block_server.proofs.Quieting.{still_same}
use Rattle.block_server.proofs.ComingParts.{comes_none}
use Rattle.block_server.specs.Steps.{NoStage}
use Rattle.block_server.proofs.Asides.{calls_none}
use Rattle.block_server.proofs.turning.free_closed.Goals as goal

pub returns-then-not-unit-clause-once : goal.returns-then-not-unit-clause-once
returns-then-not-unit-clause-once g c = λ records disk serving. once_same _ _ _ _ _ _ refl refl refl disk serving

pub returns-then-not-unit-clause-waits : goal.returns-then-not-unit-clause-waits
returns-then-not-unit-clause-waits g c = λ moved. idles_same _ _

pub returns-then-not-unit-clause-agrees : goal.returns-then-not-unit-clause-agrees
returns-then-not-unit-clause-agrees g c = λ is. is

pub returns-then-not-unit-clause-books : goal.returns-then-not-unit-clause-books
returns-then-not-unit-clause-books g c = λ records judged is. is

pub returns-clause-books : goal.returns-clause-books
returns-clause-books g c = λ records. c.free.ensures.books records (search rules)

pub returns-then-not-unit-clause-answers : goal.returns-then-not-unit-clause-answers
returns-then-not-unit-clause-answers g c = λ records alone has. has

pub returns-clause-answers : goal.returns-clause-answers
returns-clause-answers g c = λ records. c.free.ensures.answers records (search rules)

pub returns-clause-refuses : goal.returns-clause-refuses
returns-clause-refuses g c = λ records. c.free.ensures.refuses records (search rules)

pub returns-then-not-unit-clause-comes : goal.returns-then-not-unit-clause-comes
returns-then-not-unit-clause-comes g c = comes_none NoStage _ _ _ _ (still_same _) refl refl

pub returns-then-not-unit-clause-aside : goal.returns-then-not-unit-clause-aside
returns-then-not-unit-clause-aside g c = λ records alone. inl (calls_none c.args.unit.now (g.S.Site.state c.args.site.now) records)

pub returns-clause-aside : goal.returns-clause-aside
returns-clause-aside g c = λ records alone. c.free.ensures.aside records alone (search rules)
