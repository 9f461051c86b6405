-- The queues of clients that are not registered, as turns go on, and those of a partition's seats, one after the other.
use Rattle.std.proofs.Common.{◌≡◌, ◌≢◌, ◌∙◌, ◌⊎◌, inl, inr, ℕ, zero, suc, ◌+◌, ◌<◌, ◌≤◌, Bool, true, false, cond, List, [], ◌∷◌, Option, Some, None, IsSomeAnd, length, slice_get, slice_set, refl, sym, ap, subst, arith}
use Rattle.std.proofs.lemmas.Option.{slice_get_within}
use Rattle.crq_session.specs.PlainState.{end_of, side_of}
use Rattle.crq_session.specs.declared.link.PlainLink.{PlainLink}
use Rattle.std.specs.Borrow.{GName}
use Rattle.vcpu_run.specs.declared.pair.Pair.{Pair}
use Rattle.vcpu_run.specs.declared.unit_seat.Seat.{Seat}
use Rattle.vcpu_run.specs.declared.unit_seat.Seat.TheVariants as places
use Rattle.vcpu_run.specs.Agreed.{SameElse}
use Rattle.vcpu_run.specs.EventsMade.{times_open}
use Rattle.vcpu_run.specs.FailedShut.{AllStayShut, AreShutTo, IsShutAt, SeatsShut, opens_if}
use Rattle.vcpu_run.specs.ScriptTold.{SameClient, SameClients}
use Rattle.vcpu_run.proofs.Driving.{get_set_other, get_set_same, same_or}

-- THE QUEUES --------------------------------------------------------------------------------------

-- the end that was lent is the pair's again
pub queue_link : (f g : Bool) (x y : List GName) (lent old link : PlainLink) → lent ≡ old → f ≡ false → g ≡ false → (end_of y link g).registered ≡ (end_of x lent f).registered
    → (side_of link false).registered ≡ (side_of old false).registered
queue_link f g x y lent old link same first next is =
    subst (λ (l : PlainLink). (end_of y link false).registered ≡ (end_of x l false).registered) same
    (subst (λ (d : Bool). (end_of y link false).registered ≡ (end_of x lent d).registered) first
    (subst (λ (d : Bool). (end_of y link d).registered ≡ (end_of x lent f).registered) next is))

pub off_link : (g : Bool) (y : List GName) (link : PlainLink) → g ≡ false → (end_of y link g).registered ≡ false → (side_of link false).registered ≡ false
off_link g y link next is = subst (λ (d : Bool). (end_of y link d).registered ≡ false) next is

pub none_open : (pair : Pair) → (side_of pair.link false).registered ≡ false → times_open pair ≡ 0
none_open pair off = ap (λ r. cond r 1 0) off

pub never_opens : (pair : Pair) → times_open pair ≡ 0 → (side_of pair.link false).registered ≡ false
never_opens pair none = at (side_of pair.link false).registered refl
  where
    at : (b : Bool) → (side_of pair.link false).registered ≡ b → (side_of pair.link false).registered ≡ false
    at false e = e
    at true e =
        let one : times_open pair ≡ 1 = ap (λ r. cond r 1 0) e in
        absurd (omega (arith, one, none))

-- ALL PAIRS ---------------------------------------------------------------------------------------

pub stay_none : (pairs : List Pair) → AllStayShut pairs pairs
stay_none pairs k = omega arith

pub stay_then : (a b c : List Pair) → AllStayShut a b → AllStayShut b c → AllStayShut a c
stay_then a b c first next k =
    let one : opens_if (slice_get b k) ≤ opens_if (slice_get a k) = first k in
    let two : opens_if (slice_get c k) ≤ opens_if (slice_get b k) = next k in
    omega (arith, one, two)

pub stay_set : (pairs : List Pair) (i : ℕ) (old new : Pair) → slice_get pairs i ≡ Some old → (side_of new.link false).registered ≡ (side_of old.link false).registered
    → AllStayShut pairs (slice_set pairs i new)
stay_set pairs i old new there same k = at (same_or k i)
  where
    still : times_open new ≡ times_open old
    still = ap (λ r. cond r 1 0) same

    less : times_open new ≤ times_open old
    less = omega (arith, still)

    at : (k ≡ i) ⊎ (k ≢ i) → opens_if (slice_get (slice_set pairs i new) k) ≤ opens_if (slice_get pairs k)
    at (inl e) = subst (λ n. opens_if (slice_get (slice_set pairs i new) n) ≤ opens_if (slice_get pairs n)) (sym e)
        (subst (λ (o : Option Pair). opens_if o ≤ opens_if (slice_get pairs i)) (sym (get_set_same pairs i new (slice_get_within pairs i old there)))
        (subst (λ (o : Option Pair). times_open new ≤ opens_if o) (sym there) less))
    at (inr apart) = subst (λ (o : Option Pair). opens_if o ≤ opens_if (slice_get pairs k)) (sym (get_set_other pairs i k new apart)) (omega arith)

pub off_set : (pairs : List Pair) (i : ℕ) (new : Pair) → i < length pairs → (side_of new.link false).registered ≡ false → opens_if (slice_get (slice_set pairs i new) i) ≡ 0
off_set pairs i new within off = ap opens_if (get_set_same pairs i new within) ∙ none_open new off

-- the clients are as they were
pub clients_stay : (old new : List Pair) → SameClients old new → AllStayShut old new
clients_stay old new same k = at (slice_get new k) refl
  where
    at : (o : Option Pair) → slice_get new k ≡ o → opens_if (slice_get new k) ≤ opens_if (slice_get old k)
    at None e =
        let least : 0 ≤ opens_if (slice_get old k) = omega arith in
        subst (λ (o : Option Pair). opens_if o ≤ opens_if (slice_get old k)) (sym e) least
    at (Some after) e = subst (λ (o : Option Pair). opens_if o ≤ opens_if (slice_get old k)) (sym e) (by after (slice_get old k) (same k after e))
      where
        by : (after : Pair) (o : Option Pair) → IsSomeAnd o (λ before. SameClient before after) → times_open after ≤ opens_if o
        by after None is = absurd is
        by after (Some before) is =
            let still : times_open after ≡ times_open before = ap (λ r. cond r 1 0) is.queue in
            let less : times_open after ≤ times_open before = omega (arith, still) in
            less

-- THE SEATS ---------------------------------------------------------------------------------------

pub seats_stay : (seats : List Seat) (old new : List Pair) → AllStayShut old new → SeatsShut seats old → SeatsShut seats new
seats_stay seats old new stay shut unit k at =
    let before : opens_if (slice_get old k) ≡ 0 = shut unit k at in
    let less : opens_if (slice_get new k) ≤ opens_if (slice_get old k) = stay k in
    omega (arith, before, less)

-- what was done at one of the seats leaves the other pairs as they were
pub shut_next : (seats : List Seat) (i : ℕ) (seat : Seat) (old new : List Pair) → slice_get seats i ≡ Some seat → SameElse (seat ∷ []) old new → IsShutAt seat new
    → AreShutTo i seats old → AreShutTo (i + 1) seats new
shut_next seats i seat old new there others here before unit k below at = by (same_or unit i)
  where
    seat_is : (a b : Seat) → Some a ≡ Some b → a ≡ b
    seat_is a b e = cc (e)

    sits_or : (o : Option Seat) → (o ≡ Some (places.Client k)) ⊎ (o ≢ Some (places.Client k))
    sits_or None = inr (λ e. absurd (cc (e)))
    sits_or (Some places.Server) = inr (λ e. absurd (cc (e)))
    sits_or (Some places.Port) = inr (λ e. absurd (cc (e)))
    sits_or (Some (places.Client j)) = which (same_or j k)
      where
        inside : Some (places.Client j) ≡ Some (places.Client k) → j ≡ k
        inside e = cc (e)

        which : (j ≡ k) ⊎ (j ≢ k) → (Some (places.Client j) ≡ Some (places.Client k)) ⊎ (Some (places.Client j) ≢ Some (places.Client k))
        which (inl e) = inl (ap (λ n. Some (places.Client n)) e)
        which (inr apart) = inr (λ e. apart (inside e))

    one : (u : ℕ) → Some seat ≢ Some (places.Client k) → slice_get (seat ∷ []) u ≢ Some (places.Client k)
    one u other is = at_place u is
      where
        at_place : (u : ℕ) → slice_get (seat ∷ []) u ≡ Some (places.Client k) → ⊥
        at_place zero is = other is
        at_place (suc u) is = nothing u is
          where
            nothing : (n : ℕ) → slice_get {X = Seat} [] n ≡ Some (places.Client k) → ⊥
            nothing n e = cc

    by : (unit ≡ i) ⊎ (unit ≢ i) → opens_if (slice_get new k) ≡ 0
    by (inl e) = here k (seat_is seat (places.Client k) (sym there ∙ (ap (slice_get seats) (sym e) ∙ at)))
    by (inr apart) = or (sits_or (Some seat))
      where
        or : (Some seat ≡ Some (places.Client k)) ⊎ (Some seat ≢ Some (places.Client k)) → opens_if (slice_get new k) ≡ 0
        or (inl is) = here k (seat_is seat (places.Client k) is)
        or (inr other) = ap opens_if (others k (λ u. one u other)) ∙ before unit k (omega (arith, below, apart)) at

pub shut_all : (seats : List Seat) (count : ℕ) (pairs : List Pair) → length seats ≤ count → AreShutTo count seats pairs → SeatsShut seats pairs
shut_all seats count pairs all shut unit k at =
    let less : unit < length seats = slice_get_within seats unit (places.Client k) at in
    shut unit k (omega (arith, less, all)) at

pub shut_before : (seats : List Seat) (pairs : List Pair) → AreShutTo 0 seats pairs
shut_before seats pairs unit k below at = absurd (omega (arith, below))
