-- How the units of scripts come to wait, script by script and server unit by server unit.
use Rattle.std.proofs.Common.{◌≡◌, ◌≢◌, ◌∙◌, ◌⊎◌, inl, inr, ℕ, ◌+◌, ◌<◌, ◌≤◌, suc, Bool, true, false, All, List, [], ◌∷◌, Option, Some, IsSomeAnd, length, slice_get, slice_set, refl, sym, ap, subst, arith}
use Rattle.std.specs.Option.{option_map}
use Rattle.std.proofs.lemmas.Option.{slice_get-map, slice_get_within}
use Rattle.block_server.specs.declared.unit.Unit.{Unit}
use Rattle.vcpu_run.specs.declared.pair.Pair.{Pair}
use Rattle.vcpu_run.specs.declared.script.Script.{Script}
use Rattle.vcpu_run.specs.declared.unit_seat.Seat.{Seat}
use Rattle.vcpu_run.specs.Lines.{IsOver}
use Rattle.vcpu_run.specs.Links.{AreIdleTo, AreOverTo, ClientsWait, SeatsWait, LinkState, NoneBehind, RestsAt, SeatsRestWhole, ServerWaits, ServersWait, links_of, link_state}
use Rattle.vcpu_run.specs.Machines.{AllRun}
use Rattle.vcpu_run.specs.Scripts.{OnlyRuns, are_servers}
use Rattle.vcpu_run.proofs.Announcing.{both_bools}
use Rattle.vcpu_run.proofs.Driving.{get_set_same, same_or}
use Rattle.vcpu_run.proofs.Homes.{all_at}
use Rattle.vcpu_run.proofs.Resting.{events_rest}
use Rattle.vcpu_run.proofs.Listed.{held_is, is_held, there_is}

-- one server unit more
links_elsewhere : (pairs pairs' : List Pair) (k : ℕ) → slice_get pairs' k ≡ slice_get pairs k → slice_get (links_of pairs') k ≡ slice_get (links_of pairs) k
links_elsewhere pairs pairs' k same =
    slice_get-map (λ (q : Pair). link_state q.link) pairs' k ∙ (ap (option_map (λ (q : Pair). link_state q.link)) same ∙ sym (slice_get-map (λ (q : Pair). link_state q.link) pairs k))

pub serves_next : (pairs pairs' : List Pair) (units units' : List Unit) (n : ℕ) → ((k : ℕ) → k ≢ n → slice_get pairs' k ≡ slice_get pairs k)
    → ((k : ℕ) → k ≢ n → slice_get units' k ≡ slice_get units k)
    → IsSomeAnd (slice_get (links_of pairs') n) (ServerWaits (slice_get units' n))
    → ((k : ℕ) (link : LinkState) → k < n → slice_get (links_of pairs) k ≡ Some link → ServerWaits (slice_get units k) link)
    → (k : ℕ) (link : LinkState) → k < n + 1 → slice_get (links_of pairs') k ≡ Some link → ServerWaits (slice_get units' k) link
serves_next pairs pairs' units units' n else others here before k link less found = at (same_or k n)
  where
    at : (k ≡ n) ⊎ (k ≢ n) → ServerWaits (slice_get units' k) link
    at (inl e) =
        held_is (ServerWaits (slice_get units' k)) (slice_get (links_of pairs') k) link found
        (subst (λ m. IsSomeAnd (slice_get (links_of pairs') m) (ServerWaits (slice_get units' m))) (sym e) here)
    at (inr apart) =
        subst (λ (o : Option Unit). ServerWaits o link) (sym (others k apart))
        (before k link (omega (arith, less, apart)) (sym (links_elsewhere pairs pairs' k (else k apart)) ∙ found))

links_length : (pairs : List Pair) → length (links_of pairs) ≡ length pairs
links_length [] = refl
links_length (p ∷ ps) = ap suc (links_length ps)

pub serves_all : (pairs : List Pair) (units : List Unit) (n : ℕ) → length pairs ≤ n
    → ((k : ℕ) (link : LinkState) → k < n → slice_get (links_of pairs) k ≡ Some link → ServerWaits (slice_get units k) link) → ServersWait units (links_of pairs)
serves_all pairs units n all wait k link found =
    let less = slice_get_within (links_of pairs) k link found in
    let size = links_length pairs in
    wait k link (omega (arith, less, size, all)) found

-- the script that made a turn
pub set_rests : (scripts : List Script) (i : ℕ) (old new : Script) (seats : List Seat) (before after : List Pair) → i < length scripts → new.seats.items ≡ seats
    → (IsOver new → SeatsRestWhole seats before after) → IsSomeAnd (slice_get (slice_set scripts i new) i) IsOver
    → IsSomeAnd (slice_get (slice_set scripts i new) i) (λ script. SeatsRestWhole script.seats.items before after)
set_rests scripts i old new seats before after less same rests over =
    let there = get_set_same scripts i new less in
    is_held (λ (script : Script). SeatsRestWhole script.seats.items before after) (slice_get (slice_set scripts i new) i) new there
    (subst (λ (list : List Seat). SeatsRestWhole list before after) (sym same) (rests (held_is IsOver (slice_get (slice_set scripts i new) i) new there over)))

-- the script that made a turn has the seats of before
seats_run : (scripts scripts' : List Script) (n : ℕ) (old script : Script) → AllRun scripts scripts' → slice_get scripts n ≡ Some old → slice_get scripts' n ≡ Some script
    → script.seats.items ≡ old.seats.items
seats_run scripts scripts' n old script run before after =
    let runs : OnlyRuns old script = held_is (OnlyRuns old) (slice_get scripts' n) script after (run.each n old before) in
    rw runs.seats refl

pub rests_servers : (scripts : List Script) (n : ℕ) (here : Script) (units units' : List Unit) (old new : List Pair) → slice_get scripts n ≡ Some here → are_servers here.seats.items ≡ true
    → ServersWait units' (links_of new) → RestsAt n scripts units units' old new
rests_servers scripts n here units units' old new there is wait = record {
  servers = λ script found of. wait;
  same = λ script found other. absurd (both_bools (are_servers script.seats.items) (of_here script found) other);
  clients = λ script found other. absurd (both_bools (are_servers script.seats.items) (of_here script found) other);
}
  where
    of_here : (script : Script) → slice_get scripts n ≡ Some script → are_servers script.seats.items ≡ true
    of_here script found = held_is (λ (s : Script). are_servers s.seats.items ≡ true) (slice_get scripts n) script found
        (is_held (λ (s : Script). are_servers s.seats.items ≡ true) (slice_get scripts n) here there is)

pub rests_clients : (scripts scripts' : List Script) (n : ℕ) (here : Script) (units : List Unit) (old new : List Pair) → AllRun scripts scripts' → slice_get scripts n ≡ Some here
    → are_servers here.seats.items ≡ false → IsSomeAnd (slice_get scripts' n) (λ script. SeatsRestWhole script.seats.items old new) → RestsAt n scripts' units units old new
rests_clients scripts scripts' n here units old new run there other rests = record {
  same = λ script found other. refl;
  servers = λ script found of.
      absurd (both_bools (are_servers script.seats.items) of (ap are_servers (seats_run scripts scripts' n here script run there found) ∙ other));
  clients = λ script found is. held_is (λ (s : Script). SeatsRestWhole s.seats.items old new) (slice_get scripts' n) script found rests;
}

-- one script more
pub idle_next : (n : ℕ) (units units' : List Unit) (pairs pairs' : List Pair) (scripts scripts' : List Script) → n < length scripts'
    → ((i : ℕ) → i ≢ n → slice_get scripts' i ≡ slice_get scripts i)
    → (IsSomeAnd (slice_get scripts' n) IsOver → RestsAt n scripts' units units' pairs pairs')
    → (AreOverTo n scripts → AreIdleTo n units pairs scripts)
    → AreOverTo (n + 1) scripts' → AreIdleTo (n + 1) units' pairs' scripts'
idle_next n units units' pairs pairs' scripts scripts' less else turn before over =
    let this = there_is scripts' n less in
    let rests : RestsAt n scripts' units units' pairs pairs' = turn (is_held IsOver (slice_get scripts' n) this.0 this.1 (over n this.0 (omega arith) this.1)) in
    let was : AreIdleTo n units pairs scripts = before (λ i script below found. over i script (omega (arith, below)) (else i (below_apart i below) ∙ found)) in
    record {
      servers = λ i script below found of. servers rests was this.0 this.1 i script found of (same_or i n) below (are_servers this.0.seats.items) refl;
      clients = λ i script below found other none. clients rests was this.0 this.1 i script found other none (same_or i n) below;
    }
  where
    below_apart : (i : ℕ) → i < n → i ≢ n
    below_apart i below e = omega (arith, below, e)

    servers : RestsAt n scripts' units units' pairs pairs' → AreIdleTo n units pairs scripts → (this : Script) → slice_get scripts' n ≡ Some this
        → (i : ℕ) (script : Script) → slice_get scripts' i ≡ Some script → are_servers script.seats.items ≡ true → (i ≡ n) ⊎ (i ≢ n) → i < n + 1
        → (b : Bool) → are_servers this.seats.items ≡ b → ServersWait units' (links_of pairs')
    servers rests was this there i script found of (inl e) below b is =
        rests.servers script (ap (slice_get scripts') (sym e) ∙ found) of
    servers rests was this there i script found of (inr apart) below true is = rests.servers this there is
    servers rests was this there i script found of (inr apart) below false is =
        subst (λ (us : List Unit). ServersWait us (links_of pairs')) (sym (rests.same this there is))
        (subst (ServersWait units) (sym (rests.clients this there is).seats_rest.rest.still)
        (was.servers i script (omega (arith, below, apart)) (sym (else i apart) ∙ found) of))

    clients : RestsAt n scripts' units units' pairs pairs' → AreIdleTo n units pairs scripts → (this : Script) → slice_get scripts' n ≡ Some this
        → (i : ℕ) (script : Script) → slice_get scripts' i ≡ Some script → are_servers script.seats.items ≡ false → NoneBehind i (n + 1) scripts'
        → (i ≡ n) ⊎ (i ≢ n) → i < n + 1 → SeatsWait script.seats.items pairs'
    clients rests was this there i script found other none (inl e) below =
        let rest = rests.clients script (ap (slice_get scripts') (sym e) ∙ found) other in
        record { clients = rest.seats_rest.wait; events = rest.events }
    clients rests was this there i script found other none (inr apart) below =
        let less : i < n = omega (arith, below, apart) in
        let last = none n this less (omega arith) there in
        let rest = (rests.clients this there last).seats_rest.rest in
        let wait = was.clients i script less (sym (else i apart) ∙ found) other
        (λ j later behind within at. none j later behind (omega (arith, within)) (else j (below_apart j within) ∙ at)) in
        record {
          clients = subst (ClientsWait script.seats.items) (sym rest.still) wait.clients;
          events = events_rest script.seats.items pairs pairs' rest wait.events;
        }

pub idle_all : (n : ℕ) (units : List Unit) (pairs : List Pair) (scripts : List Script) → length scripts ≤ n → (AreOverTo n scripts → AreIdleTo n units pairs scripts)
    → AreOverTo (length scripts) scripts → AreIdleTo (length scripts) units pairs scripts
idle_all n units pairs scripts all idle over =
    let is : AreIdleTo n units pairs scripts = idle (λ i script below found. over i script (slice_get_within scripts i script found) found) in
    record {
      servers = λ i script below found of. is.servers i script (omega (arith, below, all)) found of;
      clients = λ i script below found other none.
          is.clients i script (omega (arith, below, all)) found other
          (λ j later behind within at. none j later behind (slice_get_within scripts j later at) at);
    }

pub idle_none : (units : List Unit) (pairs : List Pair) (scripts : List Script) → AreIdleTo 0 units pairs scripts
idle_none units pairs scripts = record {
  servers = λ i script below found of. absurd (omega (arith, below));
  clients = λ i script below found other none. absurd (omega (arith, below));
}

pub over_all : (scripts : List Script) → All IsOver scripts → AreOverTo (length scripts) scripts
over_all scripts over i script below found = all_at IsOver scripts i script over found
