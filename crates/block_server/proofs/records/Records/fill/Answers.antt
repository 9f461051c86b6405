use Rattle.block_server.proofs.HandRows.{rows_filled}
use Rattle.std.proofs.Common.{refl}
use Rattle.block_server.proofs.Booking.{keys_set, row_there}
use Rattle.block_server.proofs.Owing.{states_set}
use Rattle.block_server.proofs.records.Records.fill.Goals as goal

pub returns-in-Some-clause-keys : goal.returns-in-Some-clause-keys
returns-in-Some-clause-keys c = keys_set _ _ _ _ (row_there _ _ _ c.in-Some.ensures.item.3) refl

pub returns-in-Some-clause-states : goal.returns-in-Some-clause-states
returns-in-Some-clause-states c = states_set _ _ _ _ (row_there _ _ _ c.in-Some.ensures.item.3) refl

pub returns-in-Some-clause-rows : goal.returns-in-Some-clause-rows
returns-in-Some-clause-rows c = rows_filled _ _ _ _ (row_there _ _ _ c.in-Some.ensures.item.3)
