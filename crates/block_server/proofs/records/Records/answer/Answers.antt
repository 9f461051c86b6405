use Rattle.block_server.proofs.HandRows.{answered_same}
use Rattle.std.proofs.Common.{refl}
use Rattle.block_server.proofs.Booking.{row_there}
use Rattle.block_server.proofs.records.Records.answer.Goals as goal

pub returns-in-Some-clause-rows : goal.returns-in-Some-clause-rows
returns-in-Some-clause-rows c = answered_same _ _ _ _ (row_there _ _ _ c.in-Some.ensures.item.3) refl
