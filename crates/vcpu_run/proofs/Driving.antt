-- What turns of clients leave of all pairs, one behind the other.
use Rattle.std.proofs.Common.{◌≡◌, ◌≢◌, ◌∙◌, ◌⊎◌, inl, inr, ℕ, zero, suc, ◌<◌, Bool, true, false, List, [], ◌∷◌, Option, Some, None, IfNone, IfSome, IsSomeAnd, length, slice_get, slice_index_or, slice_set, refl, sym, ap, subst, arith}
use Rattle.std.proofs.lemmas.Option.{slice_get_within, slice_get-get_or}
use Rattle.tce_window.specs.Window.{WindowValue, strokes_at}
use Rattle.tce_window.specs.PlainPort.{known_of}
use Rattle.std.specs.Borrow.{GName}
use Rattle.crq_session.specs.EndState.{EndPlace}
use Rattle.crq_session.specs.declared.link.PlainLink.{PlainLink}
use Rattle.vcpu_run.specs.Announces.{Announces}
use Rattle.crq_session.specs.PlainState.{end_of, side_of as link_side}
use Rattle.rdma_copy.specs.Copies.{side_of}
use Rattle.rdma_copy.proofs.Laws.{side_same, side_on}
use Rattle.unit_region.specs.Kept.{LaysOwnOn}
use Rattle.unit_region.proofs.Laws.{own_same, own_then}
use Rattle.vcpu_run.specs.declared.driver.Driver.{Driver}
use Rattle.vcpu_run.specs.declared.pair.Pair.{Pair}
use Rattle.vcpu_run.specs.declared.unit_seat.Seat.{Seat}
use Rattle.vcpu_run.specs.declared.unit_seat.Seat.TheVariants as places
use Rattle.vcpu_run.specs.Pairs.{AreDriven, AreDrivers, Drives, GoesOn, IsDriver}
use Rattle.vcpu_run.specs.Reached.{IfReached}
use Rattle.vcpu_run.specs.Scripts.{AreSeats}
use Rattle.vcpu_run.specs.Works.{HaveClients}
use Rattle.vcpu_run.proofs.Announcing.{both_bools, puts_at, puts_on, puts_same}

pub some_is : {X : Type 0} (x y : X) → Some x ≡ Some y → x ≡ y
some_is x y h = cc

pub some_more : {X : Type 0} (o : Option X) (P Q : X → Type 0) → ((x : X) → P x → Q x) → IsSomeAnd o P → IsSomeAnd o Q
some_more None P Q more h = h
some_more (Some x) P Q more h = more x h

pred_is : (j i : ℕ) → suc j ≡ suc i → j ≡ i
pred_is j i e = cc

pub same_or : (j i : ℕ) → (j ≡ i) ⊎ (j ≢ i)
same_or zero zero = inl refl
same_or zero (suc i) = inr (λ e. cc)
same_or (suc j) zero = inr (λ e. cc)
same_or (suc j) (suc i) = elim (same_or j i) as (λ _. (suc j ≡ suc i) ⊎ (suc j ≢ suc i)) [ inl e ↦ inl (ap suc e) | inr apart ↦ inr (λ e. apart (pred_is j i e)) ]

pub get_set_same : {X : Type 0} (xs : List X) (i : ℕ) (y : X) → i < length xs → slice_get (slice_set xs i y) i ≡ Some y
get_set_same [] i y less = absurd (omega arith)
get_set_same (x ∷ xs) zero y less = refl
get_set_same (x ∷ xs) (suc i) y less = get_set_same xs i y (omega arith)

pub get_set_other : {X : Type 0} (xs : List X) (i j : ℕ) (y : X) → j ≢ i → slice_get (slice_set xs i y) j ≡ slice_get xs j
get_set_other [] i j y apart = refl
get_set_other (x ∷ xs) zero zero y apart = absurd (apart refl)
get_set_other (x ∷ xs) zero (suc j) y apart = refl
get_set_other (x ∷ xs) (suc i) zero y apart = refl
get_set_other (x ∷ xs) (suc i) (suc j) y apart = get_set_other xs i j y (λ e. apart (ap suc e))

pub set_length : {X : Type 0} (xs : List X) (i : ℕ) (y : X) → length (slice_set xs i y) ≡ length xs
set_length [] i y = refl
set_length (x ∷ xs) zero y = refl
set_length (x ∷ xs) (suc i) y = ap suc (set_length xs i y)

-- one pair
goes_same : (window : WindowValue) (driver : Option Driver) → GoesOn window window driver driver
goes_same window None = refl
goes_same window (Some driver) = (refl, λ is. is)

goes_on : (a b c : WindowValue) (x y z : Option Driver) → GoesOn a b x y → GoesOn b c y z → GoesOn a c x z
goes_on a b c None y z first next = subst (λ (o : Option Driver). GoesOn b c o z) first next
goes_on a b c (Some x) None z first next = absurd first
goes_on a b c (Some x) (Some y) z first next =
    some_more z _ _ (λ d step. (step.0 ∙ first.0, λ is. step.1 (first.1 is))) next

pub alone_same : (driver : Option Driver) (b : Bool) → IfNone driver (b ≡ b)
alone_same None b = refl
alone_same (Some driver) b = tt

alone_on : (x y z : Bool) (a b : WindowValue) (o p : Option Driver) → GoesOn a b o p → IfNone o (y ≡ x) → IfNone p (z ≡ y) → IfNone o (z ≡ x)
alone_on x y z a b None None goes first next = next ∙ first
alone_on x y z a b None (Some driver) goes first next = cc
alone_on x y z a b (Some driver) p goes first next = tt

pub drives_same : (pair : Pair) → Drives pair pair
drives_same pair = record {
  server = refl;
  own = refl;
  event = refl;
  server_slots = refl;
  client_slots = refl;
  got = refl;
  unit = refl;
  pages = refl;
  held = refl;
  grows = side_same (side_of (known_of pair.window));
  driver = goes_same pair.window pair.driver;
  laid = λ p. own_same pair.window.unit (strokes_at pair.window.pages p);
  server_registered = refl;
  server_session = refl;
  server_taken = refl;
  puts = puts_same (end_of [] pair.link false);
  reached = λ is. is;
  alone = alone_same pair.driver (link_side pair.link false).registered;
}

pub drives_on : (a b c : Pair) → Drives a b → Drives b c → Drives a c
drives_on a b c first next = record {
  server = next.server ∙ first.server;
  own = next.own ∙ first.own;
  event = next.event ∙ first.event;
  server_slots = next.server_slots ∙ first.server_slots;
  client_slots = next.client_slots ∙ first.client_slots;
  got = next.got ∙ first.got;
  unit = next.unit ∙ first.unit;
  pages = next.pages ∙ first.pages;
  held = next.held ∙ first.held;
  grows = side_on (side_of (known_of a.window)) (side_of (known_of b.window)) (side_of (known_of c.window)) first.grows next.grows;
  driver = goes_on a.window b.window c.window a.driver b.driver c.driver first.driver next.driver;
  laid = λ p. own_then a.window.unit (strokes_at a.window.pages p) (strokes_at b.window.pages p) (strokes_at c.window.pages p) (first.laid p)
      (subst (λ unit. LaysOwnOn unit (strokes_at b.window.pages p) (strokes_at c.window.pages p)) first.unit (next.laid p));
  server_registered = next.server_registered ∙ first.server_registered;
  server_session = next.server_session ∙ first.server_session;
  server_taken = next.server_taken ∙ first.server_taken;
  puts = puts_on (end_of [] a.link false) (end_of [] b.link false) (end_of [] c.link false) first.server_registered next.server_session first.puts next.puts;
  reached = λ is. next.reached (first.reached is);
  alone = alone_on _ _ _ a.window b.window a.driver b.driver first.driver first.alone next.alone;
}

-- at the client's end of the link alone
drives_here : (a b : List GName) (old : Pair) (link : PlainLink) → (end_of b link false).place ≡ (end_of a old.link false).place
    → (end_of b link false).counts.partner_session ≡ (end_of a old.link false).counts.partner_session → Announces (end_of [] old.link false) (end_of [] link false)
    → IfNone old.driver ((end_of b link false).registered ≡ (end_of a old.link false).registered)
    → Drives old (record { server = old.server; link = link; own = old.own; window = old.window; driver = old.driver })
drives_here a b old link place session puts alone = record {
  server = refl;
  own = refl;
  event = ap (λ (p : EndPlace). p.partner_kept) place;
  server_slots = ap (λ (p : EndPlace). p.partner_slots) place;
  client_slots = ap (λ (p : EndPlace). p.own_slots) place;
  got = ap (λ (p : EndPlace). p.received) place;
  unit = refl;
  pages = refl;
  held = refl;
  grows = side_same (side_of (known_of old.window));
  driver = goes_same old.window old.driver;
  laid = λ p. own_same old.window.unit (strokes_at old.window.pages p);
  server_registered = ap (λ (p : EndPlace). p.partner_registered) place;
  server_session = session;
  server_taken = ap (λ (p : EndPlace). p.partner_taken) place;
  puts = puts;
  reached = subst (IfReached old.driver) (sym (ap (λ (p : EndPlace). p.received) place));
  alone = alone;
}

pub drives_link : (f g : Bool) (a b : List GName) (old : Pair) (lent link : PlainLink) → lent ≡ old.link → f ≡ false
    → (end_of b link g).place ≡ (end_of a lent f).place → (end_of b link g).counts.partner_session ≡ (end_of a lent f).counts.partner_session
    → Announces (end_of a lent f) (end_of b link g) → IfNone old.driver ((end_of b link g).registered ≡ (end_of a lent f).registered)
    → Drives old (record { server = old.server; link = link; own = old.own; window = old.window; driver = old.driver })
drives_link f g a b old lent link same is place session puts alone =
    at lent same f g is (ap (λ (p : EndPlace). p.first) place ∙ is) place session (puts_at f g a b lent link is place puts) alone
  where
    at : (l : PlainLink) → l ≡ old.link → (d d' : Bool) → d ≡ false → d' ≡ false → (end_of b link d').place ≡ (end_of a l d).place
        → (end_of b link d').counts.partner_session ≡ (end_of a l d).counts.partner_session → Announces (end_of [] l false) (end_of [] link false)
        → IfNone old.driver ((end_of b link d').registered ≡ (end_of a l d).registered)
        → Drives old (record { server = old.server; link = link; own = old.own; window = old.window; driver = old.driver })
    at l same false false e e' p s q r =
        drives_here a b old link (subst (λ (m : PlainLink). (end_of b link false).place ≡ (end_of a m false).place) same p)
        (subst (λ (m : PlainLink). (end_of b link false).counts.partner_session ≡ (end_of a m false).counts.partner_session) same s)
        (subst (λ (m : PlainLink). Announces (end_of [] m false) (end_of [] link false)) same q)
        (subst (λ (m : PlainLink). IfNone old.driver ((end_of b link false).registered ≡ (end_of a m false).registered)) same r)
    at l same true d' e e' p s q r = absurd (both_bools true refl e)
    at l same false true e e' p s q r = absurd (both_bools true refl e')

pub if_none : (o : Option Driver) (P : Type 0) → P → IfNone o P
if_none None P is = is
if_none (Some driver) P is = tt

pub some_none : (P : Driver → Type 0) (o : Option Driver) (Q : Type 0) → IsSomeAnd o P → IfNone o Q
some_none P None Q is = absurd is
some_none P (Some driver) Q is = tt

-- all pairs
pub driven_same : (pairs : List Pair) → AreDriven pairs pairs
driven_same pairs = record { count = refl; each = λ k pair found. subst (λ (o : Option Pair). IsSomeAnd o (Drives pair)) (sym found) (drives_same pair) }

pub driven_at : (P : Pair → Type 0) (old new : List Pair) (k : ℕ) → AreDriven old new → ((a b : Pair) → Drives a b → P a → P b)
    → IsSomeAnd (slice_get old k) P → IsSomeAnd (slice_get new k) P
driven_at P old new k driven keeps h = at (slice_get old k) refl h
  where
    at : (o : Option Pair) → slice_get old k ≡ o → IsSomeAnd o P → IsSomeAnd (slice_get new k) P
    at None e g = absurd g
    at (Some a) e g = some_more (slice_get new k) (Drives a) P (λ b drives. keeps a b drives g) (driven.each k a e)

pub driven_on : (a b c : List Pair) → AreDriven a b → AreDriven b c → AreDriven a c
driven_on a b c first next = record {
  count = next.count ∙ first.count;
  each = λ k pair found. driven_at (Drives pair) b c k next (λ x y drives before. drives_on pair x y before drives) (first.each k pair found);
}

pub driven_set : (pairs : List Pair) (i : ℕ) (old new : Pair) → slice_get pairs i ≡ Some old → Drives old new → AreDriven pairs (slice_set pairs i new)
driven_set pairs i old new there drives = record {
  count = set_length pairs i new;
  each = λ k pair found. at k pair found (same_or k i);
}
  where
    at : (k : ℕ) (pair : Pair) → slice_get pairs k ≡ Some pair → (k ≡ i) ⊎ (k ≢ i) → IsSomeAnd (slice_get (slice_set pairs i new) k) (Drives pair)
    at k pair found (inl e) =
        let is : old ≡ pair = some_is old pair (sym there ∙ (ap (λ n. slice_get pairs n) (sym e) ∙ found)) in
        subst (λ n. IsSomeAnd (slice_get (slice_set pairs i new) n) (Drives pair)) (sym e)
        (subst (λ (o : Option Pair). IsSomeAnd o (Drives pair)) (sym (get_set_same pairs i new (slice_get_within pairs i old there)))
        (subst (λ (p : Pair). Drives p new) is drives))
    at k pair found (inr apart) =
        subst (λ (o : Option Pair). IsSomeAnd o (Drives pair)) (sym (get_set_other pairs i k new apart ∙ found)) (drives_same pair)

-- drivers stay where they are
still_client : (a b : Pair) → Drives a b → IsSomeAnd a.driver (IsDriver a.window) → IsSomeAnd b.driver (IsDriver b.window)
still_client a b drives is = at a.driver is drives.driver
  where
    at : (o : Option Driver) → IsSomeAnd o (IsDriver a.window) → GoesOn a.window b.window o b.driver → IsSomeAnd b.driver (IsDriver b.window)
    at None h goes = absurd h
    at (Some driver) h goes = some_more b.driver _ (IsDriver b.window) (λ d step. step.1 h) goes

pub still_clients : (seats : List Seat) (old new : List Pair) → AreDriven old new → HaveClients seats old → HaveClients seats new
still_clients seats old new driven have u k found =
    driven_at (λ pair. IsSomeAnd pair.driver (IsDriver pair.window)) old new k driven still_client (have u k found)

pub still_seats : (partition : ℕ) (seats : List Seat) (old new : List Pair) → AreDriven old new → AreSeats partition seats old → AreSeats partition seats new
still_seats partition seats old new driven are u k found = driven_at (λ pair. IsSomeAnd pair.driver _) old new k driven still (are u k found)
  where
    still : (a b : Pair) → Drives a b → IsSomeAnd a.driver (λ driver. driver.unit ≡ record { partition = partition; unit = u })
        → IsSomeAnd b.driver (λ driver. driver.unit ≡ record { partition = partition; unit = u })
    still a b drives is = at a.driver is drives.driver
      where
        at : (o : Option Driver) → IsSomeAnd o (λ driver. driver.unit ≡ record { partition = partition; unit = u })
            → GoesOn a.window b.window o b.driver → IsSomeAnd b.driver (λ driver. driver.unit ≡ record { partition = partition; unit = u })
        at None h goes = absurd h
        at (Some driver) h goes = some_more b.driver _ _ (λ d step. step.0 ∙ h) goes

pub still_drivers : (old new : List Pair) → AreDriven old new → AreDrivers old → AreDrivers new
still_drivers old new driven are k pair found = at (slice_get old k) refl
  where
    each : (a b : Pair) → Drives a b → IfSome a.driver (IsDriver a.window) → IfSome b.driver (IsDriver b.window)
    each a b drives is = by a.driver is drives.driver
      where
        some : (o : Option Driver) → IsSomeAnd o (IsDriver b.window) → IfSome o (IsDriver b.window)
        some None h = tt
        some (Some d) h = h

        none : (o : Option Driver) → o ≡ None → IfSome o (IsDriver b.window)
        none o e = subst (λ (o : Option Driver). IfSome o (IsDriver b.window)) (sym e) tt

        by : (o : Option Driver) → IfSome o (IsDriver a.window) → GoesOn a.window b.window o b.driver → IfSome b.driver (IsDriver b.window)
        by None h goes = none b.driver goes
        by (Some driver) h goes = some b.driver (some_more b.driver _ (IsDriver b.window) (λ d step. step.1 h) goes)

    at : (o : Option Pair) → slice_get old k ≡ o → IfSome pair.driver (IsDriver pair.window)
    at None e = absurd (out (slice_get_within new k pair found))
      where
        out : k < length new → ⊥
        out less = nothing old k e (subst (λ n. k < n) driven.count less)
          where
            nothing : (xs : List Pair) (i : ℕ) → slice_get xs i ≡ None → i < length xs → ⊥
            nothing [] i none below = omega arith
            nothing (x ∷ xs) zero none below = absurd (cc)
            nothing (x ∷ xs) (suc i) none below = nothing xs i none (omega arith)
    at (Some a) e =
        let drives : Drives a pair = subst (λ (o : Option Pair). IsSomeAnd o (Drives a)) found (driven.each k a e) in
        each a pair drives (are k a e)

-- a partition's units have drivers, which are those of their windows
pub clients_of : (partition : ℕ) (seats : List Seat) (pairs : List Pair) → AreSeats partition seats pairs → AreDrivers pairs → HaveClients seats pairs
clients_of partition seats pairs are drivers u k found = at (slice_get pairs k) refl (are u k found)
  where
    both : (Q R : Driver → Type 0) (o : Option Driver) → IsSomeAnd o Q → IfSome o R → IsSomeAnd o R
    both Q R None h r = h
    both Q R (Some d) h r = r

    at : (o : Option Pair) → slice_get pairs k ≡ o → IsSomeAnd o (λ pair. IsSomeAnd pair.driver (λ driver. driver.unit ≡ record { partition = partition; unit = u }))
        → IsSomeAnd o (λ pair. IsSomeAnd pair.driver (IsDriver pair.window))
    at None e h = h
    at (Some pair) e h = both _ (IsDriver pair.window) pair.driver h (drivers k pair e)

pub seat_within : {X : Type 0} (P : X → Type 0) (xs : List X) (i : ℕ) → IsSomeAnd (slice_get xs i) P → i < length xs
seat_within P [] i h = absurd h
seat_within P (x ∷ xs) zero h = omega arith
seat_within P (x ∷ xs) (suc i) h = let less = seat_within P xs i h in omega (arith, less)

pub some_there : {X : Type 0} (P : X → Type 0) (o : Option X) (x : X) → o ≡ Some x → IsSomeAnd o P → P x
some_there P o x is h = subst (λ (t : Option _). IsSomeAnd t P) is h

pub seat_of : (seats : List Seat) (k : ℕ) → k < length seats → slice_get seats k ≡ Some (slice_index_or seats k places.Server)
seat_of seats k less = slice_get-get_or seats k places.Server less

-- a client sits at one pair
pub client_is : (j k : ℕ) → Some (places.Client j) ≡ Some (places.Client k) → j ≡ k
client_is j k e = cc

pub no_port : (k : ℕ) → Some (places.Client k) ≡ Some places.Port → ⊥
no_port k e = cc
