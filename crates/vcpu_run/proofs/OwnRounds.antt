-- The turns of the server units, one behind the other, and what they leave of the pairs of own clients.
use Rattle.std.proofs.Common.{◌≡◌, ◌≢◌, ◌∙◌, ◌⊎◌, inl, inr, Bool, false, ℕ, ◌+◌, ◌<◌, ◌≤◌, List, [], Option, Some, IsSomeAnd, length, refl, slice_get, slice_set, sym, subst, arith}
use Rattle.std.proofs.lemmas.Option.{slice_get_within}
use Rattle.vio_num.specs.declared.history.Served.{Served}
use Rattle.boot_text.specs.declared.plan.Line.{Line}
use Rattle.crq_session.specs.PlainState.{end_of}
use Rattle.tce_window.specs.PlainPort.{known_of}
use Rattle.block_server.specs.Talk.{Word}
use Rattle.block_server.specs.declared.unit.Unit.{Unit}
use Rattle.vscsi_client.specs.Ports.{ports}
use Rattle.vcpu_run.specs.Credited.{Ended}
use Rattle.vcpu_run.specs.Machines.{server_id}
use Rattle.vcpu_run.specs.OwnCounts.{KeepsPair}
use Rattle.vcpu_run.specs.OwnPairs.{IsNewOwnPair, IsOverOwn, IsOwnPair, IsReadyOwnPair, TalksOwn, doing_of}
use Rattle.vcpu_run.specs.OwnServes.{IsReadyOwnIn, IsServedOwnIn, IsServedOwnPair, ServesOwn, ServesOwnAt}
use Rattle.vcpu_run.specs.PlainPairs.{ServerBooks, SparesUnit}
use Rattle.vcpu_run.specs.declared.driver.Driver.{Driver}
use Rattle.vcpu_run.specs.declared.pair.Pair.{Pair}
use Rattle.vcpu_run.specs.declared.script.Progress.{Progress}
use Rattle.vcpu_run.proofs.Driving.{get_set_same, same_or}
use Rattle.vcpu_run.proofs.Listed.{held, held_is, held_then, is_held}
use Rattle.vcpu_run.proofs.OwnBooks.{over_books, rest_books, seen_books}
use Rattle.vcpu_run.proofs.PlainRounds.{spares_on}

-- ---- one turn

pub served_own_at : (home : ℕ) (books books' : ServerBooks) (pairs : List Pair) (n : ℕ) (old new : Pair) → n < length pairs → slice_get pairs n ≡ Some old
    → ServesOwn home books books' n old new → ServesOwnAt home books books' pairs (slice_set pairs n new) n
served_own_at home books books' pairs n old new less found serves granted u told lines line p ready =
    is_held (IsServedOwnPair granted told lines home u n books' line p) (slice_get (slice_set pairs n new) n) new (get_set_same pairs n new less)
    (serves granted u told lines line p (held_is (IsReadyOwnPair granted told lines home u n books line p) (slice_get pairs n) old found ready))

-- ---- a turn of another unit

owed_spared : (told more lines lines' : ℕ) → lines ≤ lines' → told + more ≤ lines → told + more ≤ lines'
owed_spared told more lines lines' upto owed = omega (arith, upto, owed)

talks_spared : (granted : ℕ) (told : List Ended) (lines : List Line) (home u k : ℕ) (books books' : ServerBooks) (words : List Word) (line : Option Line) (p : Progress) (unit : Unit) (driver : Driver) (pair : Pair)
    → SparesUnit home books books' k → TalksOwn granted told lines home u k books words line p unit driver pair → TalksOwn granted told lines home u k books' words line p unit driver pair
talks_spared granted told lines home u k books books' words line p unit driver pair spares is =
    record { talks = is.talks; owed = omega (arith, spares.grants, is.owed); now = is.now; spares = is.spares; stands = is.stands }

over_spared : (granted : ℕ) (failed : Bool) (told : List Ended) (home u k : ℕ) (books books' : ServerBooks) (line : Option Line) (p : Progress) (unit : Unit) (driver : Driver) (pair : Pair)
    → SparesUnit home books books' k → IsOverOwn granted failed told home u k books line p unit driver pair → IsOverOwn granted failed told home u k books' line p unit driver pair
unfolding over_books
over_spared granted failed told home u k books books' line p unit driver pair spares is = record {
  over = over_books granted failed (doing_of unit home k books pair) books'.rows books'.lines driver.client (end_of [] pair.link false) is.over;
  owed = owed_spared _ _ _ _ spares.grants is.owed;
  seen = seen_books (doing_of unit home k books pair) books'.rows books'.lines (ports false (end_of [] pair.link false) false (known_of pair.window)) is.seen;
  rests = rest_books (doing_of unit home k books pair) books'.rows books'.lines is.rests;
  ends = is.ends;
  server_slots = is.server_slots;
  own_slots = is.own_slots;
  stands = is.stands;
}

own_spared : (granted : ℕ) (failed : Bool) (told : List Ended) (lines : List Line) (home u k : ℕ) (books books' : ServerBooks) (words : List Word) (line : Option Line) (p : Progress) (pair : Pair)
    → SparesUnit home books books' k → IsOwnPair granted failed told lines home u k books words line p pair → IsOwnPair granted failed told lines home u k books' words line p pair
own_spared granted failed told lines home u k books books' words line p pair spares is = record {
  unit = is.unit;
  there = spares.same ∙ is.there;
  id = is.id;
  driver = is.driver;
  driver_is = is.driver_is;
  how = by is.how;
  keeps = subst (λ (list : List Served). KeepsPair told (server_id home k) list is.driver pair) (sym spares.rows) is.keeps;
  numbers = is.numbers;
}
  where
    by : TalksOwn granted told lines home u k books words line p is.unit is.driver pair ⊎ IsOverOwn granted failed told home u k books line p is.unit is.driver pair
        → TalksOwn granted told lines home u k books' words line p is.unit is.driver pair ⊎ IsOverOwn granted failed told home u k books' line p is.unit is.driver pair
    by (inl talks) = inl (talks_spared granted told lines home u k books books' words line p is.unit is.driver pair spares talks)
    by (inr over) = inr (over_spared granted failed told home u k books books' line p is.unit is.driver pair spares over)

new_spared : (granted : ℕ) (told : List Ended) (lines : List Line) (home u k : ℕ) (books books' : ServerBooks) (line : Option Line) (p : Progress) (pair : Pair)
    → SparesUnit home books books' k → IsNewOwnPair granted told lines home u k books line p pair → IsNewOwnPair granted told lines home u k books' line p pair
new_spared granted told lines home u k books books' line p pair spares is = record {
  unit = is.unit;
  there = spares.same ∙ is.there;
  id = is.id;
  driver = is.driver;
  driver_is = is.driver_is;
  new = is.new;
  owed = omega (arith, spares.grants, is.owed);
  now = is.now;
  spares = is.spares;
  stands = is.stands;
  sent = is.sent;
  keeps = subst (λ (list : List Served). KeepsPair told (server_id home k) list is.driver pair) (sym spares.rows) is.keeps;
  numbers = is.numbers;
}

ready_spared : (granted : ℕ) (told : List Ended) (lines : List Line) (home u k : ℕ) (books books' : ServerBooks) (line : Option Line) (p : Progress) (pair : Pair)
    → SparesUnit home books books' k → IsReadyOwnPair granted told lines home u k books line p pair → IsReadyOwnPair granted told lines home u k books' line p pair
ready_spared granted told lines home u k books books' line p pair spares (inl (failed, words, is)) =
    inl (failed, words, own_spared granted failed told lines home u k books books' words line p pair spares is)
ready_spared granted told lines home u k books books' line p pair spares (inr is) = inr (new_spared granted told lines home u k books books' line p pair spares is)

pub own_else : (granted : ℕ) (told : List Ended) (lines : List Line) (home u k : ℕ) (books books' : ServerBooks) (line : Option Line) (p : Progress) (old new : List Pair)
    → SparesUnit home books books' k → slice_get new k ≡ slice_get old k → IsServedOwnIn granted told lines home u k books line p old → IsServedOwnIn granted told lines home u k books' line p new
own_else granted told lines home u k books books' line p old new spares same is =
    subst (λ (o : Option Pair). IsSomeAnd o (IsServedOwnPair granted told lines home u k books' line p)) (sym same)
    (held_then (IsServedOwnPair granted told lines home u k books line p) (IsServedOwnPair granted told lines home u k books' line p) (slice_get old k)
    (λ pair at. (at.0, own_spared granted at.0 told lines home u k books books' [] line p pair spares at.1)) is)

pub own_ready_else : (granted : ℕ) (told : List Ended) (lines : List Line) (home u k : ℕ) (books books' : ServerBooks) (line : Option Line) (p : Progress) (old new : List Pair)
    → SparesUnit home books books' k → slice_get new k ≡ slice_get old k → IsReadyOwnIn granted told lines home u k books line p old → IsReadyOwnIn granted told lines home u k books' line p new
own_ready_else granted told lines home u k books books' line p old new spares same is =
    subst (λ (o : Option Pair). IsSomeAnd o (IsReadyOwnPair granted told lines home u k books' line p)) (sym same)
    (held_then (IsReadyOwnPair granted told lines home u k books line p) (IsReadyOwnPair granted told lines home u k books' line p) (slice_get old k)
    (λ pair. ready_spared granted told lines home u k books books' line p pair spares) is)

-- a pair behind a turn is one before the next
pub own_ready : (granted : ℕ) (told : List Ended) (lines : List Line) (home u k : ℕ) (books : ServerBooks) (line : Option Line) (p : Progress) (pairs : List Pair)
    → IsServedOwnIn granted told lines home u k books line p pairs → IsReadyOwnIn granted told lines home u k books line p pairs
own_ready granted told lines home u k books line p pairs =
    held_then (IsServedOwnPair granted told lines home u k books line p) (IsReadyOwnPair granted told lines home u k books line p) (slice_get pairs k) (λ pair at. inl (at.0, [], at.1))

-- ---- the turns of a round

-- The first units had their turns, and the others and their pairs are as they were.
pub record ServedOwnTo (count home : ℕ) (books books' : ServerBooks) (old new : List Pair) : Type 0 where
  pub before : (k : ℕ) → k < count → ServesOwnAt home books books' old new k
  pub later : (k : ℕ) → count ≤ k → SparesUnit home books books' k × (slice_get new k ≡ slice_get old k)

pub served_own_none : (home : ℕ) (books : ServerBooks) (pairs : List Pair) → ServedOwnTo 0 home books books pairs pairs
served_own_none home books pairs = record {
  before = λ k less. absurd (omega (arith, less));
  later = λ k upto. (record { same = refl; lines = λ is. is; grants = omega arith; rows = refl }, refl);
}

pub served_own_next : (n home now_home : ℕ) (books middle books' : ServerBooks) (old between new : List Pair) → now_home ≡ home → ServedOwnTo n home books middle old between
    → ServesOwnAt now_home middle books' between new n → ((k : ℕ) → k ≢ n → SparesUnit now_home middle books' k)
    → ((k : ℕ) → k ≢ n → slice_get new k ≡ slice_get between k) → ServedOwnTo (n + 1) home books books' old new
served_own_next n home now_home books middle books' old between new home_is to serves_now spares_now same = record {
  before = λ k less granted u told lines line p ready. by k granted u told lines line p ready less (same_or k n);
  later = λ k upto.
      let apart : k ≢ n = λ is. omega (arith, upto, is) in
      (spares_on home k books middle books' (to.later k (omega (arith, upto))).0 (spares k apart), same k apart ∙ (to.later k (omega (arith, upto))).1);
}
  where
    serves : ServesOwnAt home middle books' between new n
    serves = subst (λ h. ServesOwnAt h middle books' between new n) home_is serves_now

    spares : (k : ℕ) → k ≢ n → SparesUnit home middle books' k
    spares k apart = subst (λ h. SparesUnit h middle books' k) home_is (spares_now k apart)

    by : (k granted u : ℕ) (told : List Ended) (lines : List Line) (line : Option Line) (p : Progress) → IsReadyOwnIn granted told lines home u k books line p old → k < n + 1 → (k ≡ n) ⊎ (k ≢ n)
        → IsServedOwnIn granted told lines home u k books' line p new
    by k granted u told lines line p ready less (inl is) =
        let upto : n ≤ k = omega (arith, is) in
        let middle_ready : IsReadyOwnIn granted told lines home u k middle line p between =
        own_ready_else granted told lines home u k books middle line p old between (to.later k upto).0 (to.later k upto).1 ready in
        subst (λ i. IsServedOwnIn granted told lines home u i books' line p new) (sym is)
        (serves granted u told lines line p (subst (λ i. IsReadyOwnIn granted told lines home u i middle line p between) is middle_ready))
    by k granted u told lines line p ready less (inr apart) =
        own_else granted told lines home u k middle books' line p between new (spares k apart) (same k apart) (to.before k (omega (arith, less, apart)) granted u told lines line p ready)

within_pairs : (granted : ℕ) (told : List Ended) (lines : List Line) (home u k : ℕ) (books : ServerBooks) (line : Option Line) (p : Progress) (pairs : List Pair)
    → IsReadyOwnIn granted told lines home u k books line p pairs → k < length pairs
within_pairs granted told lines home u k books line p pairs is =
    let at = held (IsReadyOwnPair granted told lines home u k books line p) (slice_get pairs k) is in slice_get_within pairs k at.0 at.1

-- each unit that has a pair had its turn
pub served_own_all : (count home : ℕ) (books books' : ServerBooks) (old new : List Pair) → length old ≤ count → ServedOwnTo count home books books' old new → (k : ℕ)
    → ServesOwnAt home books books' old new k
served_own_all count home books books' old new all to k granted u told lines line p ready =
    to.before k (omega (arith, all, within_pairs granted told lines home u k books line p old ready)) granted u told lines line p ready
