-- That requests to log in are answered in their order: of a unit whose books are in order, over turns of other units, and what no
-- request has twice.
use Rattle.std.proofs.Common.{◌≡◌, ◌⊎◌, inl, inr, ◌++◌, ◌<◌, ◌≤◌, ℕ, List, [], ◌∷◌, Option, Some, None, IfSome, slice_get, refl, sym, subst, arith}
use Rattle.std.proofs.lemmas.Option.{IfSome_then}
use Rattle.crq_ring.specs.declared.rows.PipeRow.{PipeRow}
use Rattle.crq_session.specs.EndState.{EndState}
use Rattle.vio_num.specs.declared.history.Grant.{Grant}
use Rattle.vio_num.specs.declared.history.Served.{Served}
use Rattle.vio_num.specs.declared.names.UnitId.{UnitId}
use Rattle.block_server.specs.Asked.{AreAskedInOrder, AskInOrder, AskedAt, IsAskedBefore, IsAskedFirst, number_ahead, still_to_answer}
use Rattle.block_server.specs.Books.{number_of}
use Rattle.block_server.specs.Judged.{Judged}
use Rattle.block_server.specs.Judges.{HasKept}
use Rattle.block_server.specs.Numbers.{AreAbove, AreBelow, Rise, granted_numbers, numbers_of}
use Rattle.block_server.specs.Rejecting.{LinesTellLogin}
use Rattle.block_server.specs.declared.request.Arrival.{Arrival}
use Rattle.block_server.specs.declared.request.Request.{Request}
use Rattle.block_server.specs.declared.unit.Unit.{Unit}

rise_behind : (xs ys : List ℕ) → Rise (xs ++ ys) → Rise ys
rise_behind [] ys is = is
rise_behind (x ∷ xs) ys is = rise_behind xs ys is.1

below_behind : (n : ℕ) (xs ys : List ℕ) → AreBelow n (xs ++ ys) → AreBelow n ys
below_behind n [] ys is = is
below_behind n (x ∷ xs) ys is = below_behind n xs ys is.1

-- requests whose numbers rise, below that of the entry that is judged next, were asked in order
module _ (session : ℕ) (taken : List PipeRow) (waiting : Option Arrival) where
  behind : (n : ℕ) (pending : List Request) → AreAbove n (numbers_of pending) → n < number_ahead waiting session taken
      → IsAskedFirst (record { session = session; number = n }) (still_to_answer session taken waiting pending)
  behind n [] above low = (inr (refl, low), tt)
  behind n (request ∷ requests) above low = (inr (refl, above.0), behind n requests above.1 low)

  in_order : (pending : List Request) → Rise (numbers_of pending) → AreBelow (number_ahead waiting session taken) (numbers_of pending)
      → AreAskedInOrder (still_to_answer session taken waiting pending)
  in_order [] rise below = (tt, tt)
  in_order (request ∷ requests) rise below = (behind request.number requests rise.0 below.0, in_order requests rise.1 below.1)

-- What a unit of which nothing was answered has still to answer was asked in order.
pub asked_kept : (units : List Unit) (unit : ℕ) (id : UnitId) (queue : EndState) (history : List Served) (grants : List Grant) (judged : List Judged)
    → HasKept units unit id queue history grants judged → AskInOrder [] units unit queue
asked_kept units unit id queue history grants judged has = IfSome_then (slice_get units unit) has (λ u is.
    in_order queue.last_session queue.taken u.waiting u.pending.items
    (rise_behind (granted_numbers id queue.last_session grants) (numbers_of u.pending.items) is.rising.now)
    (subst (λ (n : ℕ). AreBelow n (numbers_of u.pending.items)) (same u.waiting)
    (below_behind (number_of u.waiting queue) (granted_numbers id queue.last_session grants) (numbers_of u.pending.items) is.rising.below)))
  where
    same : (waiting : Option Arrival) → number_of waiting queue ≡ number_ahead waiting queue.last_session queue.taken
    same None = refl
    same (Some arrival) = refl

-- The lines say which login is on.
pub on_kept : (units : List Unit) (unit : ℕ) (id : UnitId) (queue : EndState) (history : List Served) (grants : List Grant) (judged : List Judged)
    → HasKept units unit id queue history grants judged → LinesTellLogin units unit id queue grants
on_kept units unit id queue history grants judged has =
    IfSome_then (slice_get units unit) has (λ u is. record { on = is.numbers.on; off = λ over. (is.idle over).1; later = is.lines.later })

-- The unit, its queue's session and what was taken from it stay.
pub asked_elsewhere : (earlier : List AskedAt) (units units' : List Unit) (n : ℕ) (queue queue' : EndState) → slice_get units' n ≡ slice_get units n → queue'.last_session ≡ queue.last_session
    → queue'.taken ≡ queue.taken → AskInOrder earlier units n queue → AskInOrder earlier units' n queue'
asked_elsewhere earlier units units' n queue queue' same session taken =
    subst (λ (z : Option Unit × ℕ × List PipeRow). IfSome z.0 (λ u. AreAskedInOrder (earlier ++ still_to_answer z.1 z.2 u.waiting u.pending.items)))
    (λ i. (sym same i, sym session i, sym taken i))
