-- How much is to come to the queue of a client.
use Rattle.std.proofs.Common.{◌≤◌, arith, length, length-append, length-drop, ap}
use Rattle.vio_num.specs.Queue.{Handed}
use Rattle.crq_session.specs.Answered.{received_now, taken_now}
use Rattle.crq_session.specs.EndState.{EndState}
use Rattle.block_server.specs.Talk.{to_come}

-- no more is to come to a queue than it has slots
pub room_in : (end : EndState) → Handed (received_now end) (taken_now end) end.place.own_slots → length (to_come end) ≤ end.place.own_slots
room_in end handed =
    omega (arith, length-drop (length (taken_now end)) (received_now end), ap length handed.in_order, length-append (taken_now end) handed.rest, handed.within)
