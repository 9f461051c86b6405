-- That requests to log in are answered in their order, as requests come and go.
use Rattle.std.proofs.Common.{◌≡◌, ◌⊎◌, inl, inr, ◌+◌, ◌++◌, ◌<◌, ◌≤◌, ℕ, zero, suc, List, [], ◌∷◌, Option, Some, None, IfSome, drop, length, map, slice_get, refl, sym, ◌∙◌, ap, subst, arith, append_assoc, length-append}
use Rattle.std.proofs.Math.Nat.{eq-or-lt_of_le}
use Rattle.std.proofs.lemmas.List.{map-append}
use Rattle.crq_ring.specs.Sessions.{of_session}
use Rattle.crq_ring.specs.declared.rows.PipeRow.{PipeRow}
use Rattle.crq_ring.proofs.SessionLaws.{of_session-push}
use Rattle.vio_num.specs.declared.entry.Entry.{Entry}
use Rattle.block_server.specs.Asked.{AreAskedInOrder, AskedAt, IsAskedBefore, IsAskedFirst, number_ahead, still_to_answer}
use Rattle.block_server.specs.Granting.{IsSrpAt}
use Rattle.block_server.specs.LoginAnswers.{LoginAnswer, asked_at}
use Rattle.block_server.specs.declared.request.Arrival.{Arrival}
use Rattle.block_server.specs.declared.request.Request.{Request}

-- What is in order behind other places stays so with the new list in the place of the old.
pub record Leads (old new : List AskedAt) : Type 0 where
  pub first : (a : AskedAt) → IsAskedFirst a old → IsAskedFirst a new
  pub order : AreAskedInOrder old → AreAskedInOrder new

pub leads_same : (old new : List AskedAt) → new ≡ old → Leads old new
leads_same old new same = record { first = λ a is. subst (IsAskedFirst a) (sym same) is; order = λ is. subst AreAskedInOrder (sym same) is }

pub leads_on : (a b c : List AskedAt) → Leads a b → Leads b c → Leads a c
leads_on a b c one next = record { first = λ x is. next.first x (one.first x is); order = λ is. next.order (one.order is) }

leads_cons : (x : AskedAt) (old new : List AskedAt) → Leads old new → Leads (x ∷ old) (x ∷ new)
leads_cons x old new is = record {
  first = λ a all. (all.0, is.first a all.1);
  order = λ all. (is.first x all.0, is.order all.1);
}

leads_drop : (x : AskedAt) (old : List AskedAt) → Leads (x ∷ old) old
leads_drop x old = record { first = λ a all. all.1; order = λ all. all.1 }

leads_behind : (front old new : List AskedAt) → Leads old new → Leads (front ++ old) (front ++ new)
leads_behind [] old new is = is
leads_behind (x ∷ front) old new is = leads_cons x (front ++ old) (front ++ new) (leads_behind front old new is)

-- Behind the answers of a step the next step's stand.
pub order_on : (earlier : List AskedAt) (one next : List LoginAnswer) (old new : List AskedAt) → Leads old (map asked_at next ++ new) → AreAskedInOrder (earlier ++ (map asked_at one ++ old))
    → AreAskedInOrder (earlier ++ (map asked_at (one ++ next) ++ new))
order_on earlier one next old new is was =
    subst (λ (list : List AskedAt). AreAskedInOrder (earlier ++ list))
    (sym (ap (λ (list : List AskedAt). list ++ new) (map-append asked_at one next) ∙ append_assoc (map asked_at one) (map asked_at next) new))
    ((leads_behind earlier (map asked_at one ++ old) (map asked_at one ++ (map asked_at next ++ new)) (leads_behind (map asked_at one) old (map asked_at next ++ new) is)).order was)

-- WHAT IS STILL TO BE ANSWERED --------------------------------------------------------------------

later_place : (session n m : ℕ) (a : AskedAt) → n ≤ m → IsAskedBefore a (record { session = session; number = n }) → IsAskedBefore a (record { session = session; number = m })
later_place session n m a most (inl before) = inl before
later_place session n m a most (inr before) = inr (before.0, below a.number n m before.1 most)
  where
    below : (x y z : ℕ) → x < y → y ≤ z → x < z
    below x y z low high = omega (arith, low, high)

-- The entry that is judged next is the same or a later one.
pub still_later : (session : ℕ) (taken taken' : List PipeRow) (waiting waiting' : Option Arrival) (pending : List Request) → number_ahead waiting session taken ≤ number_ahead waiting' session taken'
    → Leads (still_to_answer session taken waiting pending) (still_to_answer session taken' waiting' pending)
still_later session taken taken' waiting waiting' [] most =
    record { first = λ a all. (later_place session (number_ahead waiting session taken) (number_ahead waiting' session taken') a most all.0, tt); order = λ all. (tt, tt) }
still_later session taken taken' waiting waiting' (request ∷ requests) most =
    leads_cons (record { session = session; number = request.number }) (still_to_answer session taken waiting requests) (still_to_answer session taken' waiting' requests)
    (still_later session taken taken' waiting waiting' requests most)

-- The oldest is pending no more.
pub still_popped : (session : ℕ) (taken : List PipeRow) (waiting : Option Arrival) (pending : List Request)
    → Leads (still_to_answer session taken waiting pending) (still_to_answer session taken waiting (drop 1 pending))
still_popped session taken waiting [] = leads_same (still_to_answer session taken waiting []) (still_to_answer session taken waiting []) refl
still_popped session taken waiting (request ∷ requests) = leads_drop (record { session = session; number = request.number }) (still_to_answer session taken waiting requests)

-- None is pending any more.
pub still_none : (session : ℕ) (taken : List PipeRow) (waiting : Option Arrival) (pending : List Request)
    → Leads (still_to_answer session taken waiting pending) (still_to_answer session taken waiting [])
still_none session taken waiting [] = leads_same (still_to_answer session taken waiting []) (still_to_answer session taken waiting []) refl
still_none session taken waiting (request ∷ requests) =
    leads_on (still_to_answer session taken waiting (request ∷ requests)) (still_to_answer session taken waiting requests) (still_to_answer session taken waiting [])
    (leads_drop (record { session = session; number = request.number }) (still_to_answer session taken waiting requests))
    (still_none session taken waiting requests)

-- What waited is pending behind the others.
pub still_pushed : (session : ℕ) (taken : List PipeRow) (arrival : Arrival) (pending : List Request) (request : Request) → request.number ≡ arrival.number → arrival.number < length (of_session session taken)
    → Leads (still_to_answer session taken (Some arrival) pending) (still_to_answer session taken None (pending ++ request ∷ []))
still_pushed session taken arrival [] request same low = record {
  first = λ a all.
      let at : IsAskedBefore a (record { session = session; number = request.number }) = subst (λ (n : ℕ). IsAskedBefore a (record { session = session; number = n })) (sym same) all.0 in
      (at, (later_place session arrival.number (length (of_session session taken)) a (below arrival.number (length (of_session session taken)) low) all.0, tt));
  order = λ all. ((inr (refl, subst (λ (n : ℕ). n < length (of_session session taken)) (sym same) low), tt), (tt, tt));
}
  where
    below : (x y : ℕ) → x < y → x ≤ y
    below x y low = omega (arith, low)
still_pushed session taken arrival (first ∷ pending) request same low =
    leads_cons (record { session = session; number = first.number }) (still_to_answer session taken (Some arrival) pending) (still_to_answer session taken None (pending ++ request ∷ []))
    (still_pushed session taken arrival pending request same low)

-- A session begins.
pub still_begun : (session session' : ℕ) (taken : List PipeRow) → session ≤ session' → Leads (still_to_answer session taken None []) (still_to_answer session' taken None [])
still_begun session session' taken most = record { first = λ a all. (by a (eq-or-lt_of_le most) all.0, tt); order = λ all. (tt, tt) }
  where
    less : (x y z : ℕ) → x < y → y < z → x < z
    less x y z low high = omega (arith, low, high)

    by : (a : AskedAt) → (session ≡ session') ⊎ (session < session') → IsAskedBefore a (record { session = session; number = length (of_session session taken) })
        → IsAskedBefore a (record { session = session'; number = length (of_session session' taken) })
    by a (inr more) (inl before) = inl (less a.session session session' before more)
    by a (inr more) (inr before) = inl (subst (λ (n : ℕ). n < session') (sym before.0) more)
    by a (inl same) before = subst (λ (n : ℕ). IsAskedBefore a (record { session = n; number = length (of_session n taken) })) same before

-- ENTRIES ----------------------------------------------------------------------------------------

-- an entry that is there was taken
pub there_below : (xs : List Entry) (n : ℕ) (x : Entry) → slice_get xs n ≡ Some x → n < length xs
there_below [] n x there = absurd (nothing n there)
  where
    nothing : (n : ℕ) → slice_get [] n ≡ Some x → ⊥
    nothing zero same = cc (same)
    nothing (suc n) same = cc (same)
there_below (y ∷ ys) zero x there = omega arith
there_below (y ∷ ys) (suc n) x there = more n (length ys) (there_below ys n x there)
  where
    more : (a b : ℕ) → a < b → suc a < suc b
    more a b low = omega (arith, low)

pub srp_below : (taken : List PipeRow) (session number : ℕ) (entry : Entry) → IsSrpAt taken session number entry → number < length (of_session session taken)
srp_below taken session number entry at = there_below (of_session session taken) number entry at.there

-- what waits was taken, so the entry that is taken next is a later one
pub ahead_most : (session : ℕ) (taken : List PipeRow) (waiting : Option Arrival) → IfSome waiting (λ arrival. IsSrpAt taken session arrival.number arrival.entry)
    → number_ahead waiting session taken ≤ number_ahead None session taken
ahead_most session taken None is = omega arith
ahead_most session taken (Some arrival) is = below arrival.number (length (of_session session taken)) (srp_below taken session arrival.number arrival.entry is)
  where
    below : (x y : ℕ) → x < y → x ≤ y
    below x y low = omega (arith, low)

-- one entry more was taken
pub ahead_taken : (session : ℕ) (taken taken' : List PipeRow) (row : PipeRow) (waiting : Option Arrival) → row.session ≡ session → taken' ≡ taken ++ row ∷ []
    → number_ahead waiting session taken ≤ number_ahead waiting session taken'
ahead_taken session taken taken' row (Some arrival) own more = omega arith
ahead_taken session taken taken' row None own more =
    grows (length (of_session session taken)) (length (of_session session taken'))
    (ap length (subst (λ (q : ℕ). of_session q taken' ≡ of_session q taken ++ row.entry ∷ []) own (ap (of_session row.session) more ∙ of_session-push row taken))
    ∙ length-append (of_session session taken) (row.entry ∷ []))
  where
    grows : (a b : ℕ) → b ≡ a + 1 → a ≤ b
    grows a b same = omega (arith, same)
