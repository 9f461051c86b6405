use Rattle.block_server.proofs.Keeping.{moved_to}
use Rattle.block_server.specs.Judged.{keys_of}
use Rattle.std.proofs.Common.{ap, refl}
use Rattle.block_server.proofs.Ledgers.{explains_same}
use Rattle.block_server.specs.Refusals.{ledger_at}
use Rattle.block_server.specs.Doings.{doing}
use Rattle.block_server.proofs.intake.make_room.Goals as goal

pub returns-in_err-reserve-clause-books : goal.returns-in_err-reserve-clause-books
returns-in_err-reserve-clause-books c = λ site judged is. moved_to _ _ judged refl refl refl refl refl refl refl refl c.reserve.ensures.items refl refl refl refl refl is

pub returns-clause-books : goal.returns-clause-books
returns-clause-books c = λ site judged is.
    moved_to _ _ judged refl refl refl refl refl refl refl refl c.reserve.ensures.items (ap keys_of c.make_room.ensures.lists.history) c.make_room.ensures.lists.grants refl refl refl is

pub returns-in_err-reserve-clause-refuses : goal.returns-in_err-reserve-clause-refuses
returns-in_err-reserve-clause-refuses c = λ queue taken answers. explains_same (ledger_at c.args.unit.now queue taken answers c.args.records.now) _ refl refl refl c.reserve.ensures.items refl refl refl refl refl

pub returns-clause-refuses : goal.returns-clause-refuses
returns-clause-refuses c = λ queue taken answers. explains_same (ledger_at c.args.unit.now queue taken answers c.args.records.now) _ refl refl refl c.reserve.ensures.items refl c.make_room.ensures.lists.grants refl refl refl

pub returns-in_err-reserve-clause-doing : goal.returns-in_err-reserve-clause-doing
returns-in_err-reserve-clause-doing c = λ site i. record (doing c.args.unit.now site c.args.records.now) { pending = c.reserve.ensures.items i }

pub returns-clause-doing : goal.returns-clause-doing
returns-clause-doing c = λ site i. record (doing c.args.unit.now site c.args.records.now) {
  pending = c.reserve.ensures.items i;
  rows = c.make_room.ensures.lists.history i;
  lines = c.make_room.ensures.lists.grants i;
}
