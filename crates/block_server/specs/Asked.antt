-- Where requests to log in stand, and that they are answered in their order, each at most once (SRP, "Login process").
use Rattle.std.specs.Prelude.{⊤, ◌≡◌, ◌⊎◌, ◌<◌, ◌++◌, ℕ, List, [], ◌∷◌, Option, Some, None, IfSome, length, slice_get}
use Rattle.crq_ring.specs.Sessions.{of_session}
use Rattle.crq_ring.specs.declared.rows.PipeRow.{PipeRow}
use Rattle.crq_session.specs.EndState.{EndState}
use Rattle.block_server.specs.declared.request.Arrival.{Arrival}
use Rattle.block_server.specs.declared.request.Request.{Request}
use Rattle.block_server.specs.declared.unit.Unit.{Unit}

-- where a request was asked: the session, and the number of its entry there
pub record AskedAt : Type 0 where
  pub session : ℕ
  pub number : ℕ

-- It was asked before the other: in an earlier session, or by an earlier entry of the same.
abbrev pub IsAskedBefore : AskedAt → AskedAt → Type 0
IsAskedBefore a b = (a.session < b.session) ⊎ ((a.session ≡ b.session) × (a.number < b.number))

abbrev pub IsAskedFirst : AskedAt → List AskedAt → Type 0
IsAskedFirst a [] = ⊤
IsAskedFirst a (b ∷ bs) = IsAskedBefore a b × IsAskedFirst a bs

-- Each of these was asked before all that stand behind it: so none stands there twice.
abbrev pub AreAskedInOrder : List AskedAt → Type 0
AreAskedInOrder [] = ⊤
AreAskedInOrder (a ∷ bs) = IsAskedFirst a bs × AreAskedInOrder bs

-- the number of the entry that is judged next: the one that waits, or else the one that is taken next
abbrev pub number_ahead : Option Arrival → (session : ℕ) → List PipeRow → ℕ
number_ahead (Some arrival) session taken = arrival.number
number_ahead None session taken = length (of_session session taken)

-- where the requests were asked that are pending, and behind them where the entry stands that is judged next
abbrev pub still_to_answer : (session : ℕ) → List PipeRow → Option Arrival → List Request → List AskedAt
still_to_answer session taken waiting [] = record { session = session; number = number_ahead waiting session taken } ∷ []
still_to_answer session taken waiting (request ∷ requests) =
    record { session = session; number = request.number } ∷ still_to_answer session taken waiting requests

-- BETWEEN TURNS -----------------------------------------------------------------------------------

-- The requests asked at these places, and behind them those that the unit of this number has still to answer, stand in order.
abbrev pub AskInOrder : (earlier : List AskedAt) → List Unit → (number : ℕ) → EndState → Type 0
AskInOrder earlier units number queue = IfSome (slice_get units number)
    (λ u. AreAskedInOrder (earlier ++ still_to_answer queue.last_session queue.taken u.waiting u.pending.items))
