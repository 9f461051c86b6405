-- That resets have their queues registered, as a round in which nothing moved goes on.
use Rattle.std.proofs.Common.{◌≡◌, ◌≢◌, ◌∙◌, ◌⊎◌, inl, inr, ℕ, ◌+◌, ◌≤◌, ◌<◌, true, false, List, Option, Some, None, IfSome, IsSomeAnd, length, slice_get, slice_set, refl, sym, ap, subst, arith}
use Rattle.std.specs.Option.{option_map}
use Rattle.std.proofs.lemmas.Option.{slice_get-map, slice_get_within}
use Rattle.block_server.specs.declared.unit.Unit.{Unit}
use Rattle.lan_script.specs.declared.seat.PortSeat.{PortSeat}
use Rattle.vcpu_run.specs.declared.pair.Pair.{Pair}
use Rattle.vcpu_run.specs.declared.script.Script.{Script}
use Rattle.vcpu_run.specs.declared.unit_seat.Seat.{Seat}
use Rattle.vcpu_run.specs.Agreed.{SameElse}
use Rattle.vcpu_run.specs.Holding.{AreNotHeldOff, AreOpenIf, AreOpenTo, HasServersBefore, IsHeldOff, IsOpenUpTo, IsRegistered, LeavesResetOpen, IsResetOpen, IsBehindServers}
use Rattle.vcpu_run.specs.Links.{LinkState, ServerWaits, ServersWait, link_state, links_of}
use Rattle.vcpu_run.specs.Machines.{AllRun, AreScripts}
use Rattle.vcpu_run.specs.Scripts.{OnlyRuns, are_servers}
use Rattle.vcpu_run.specs.ScriptTold.{SameClient, SameClients}
use Rattle.vcpu_run.proofs.Announcing.{both_bools}
use Rattle.vcpu_run.proofs.Driving.{same_or, some_is}
use Rattle.vcpu_run.proofs.Held.{served_before, servers_before}
use Rattle.vcpu_run.proofs.Listed.{each_set, held, there_is}
use Rattle.vcpu_run.proofs.RoundsTold.{SameSeats, others_same}

-- a server unit that waits leaves room for the event of its client, unless that is registered
waits_room : (unit : Option Unit) (link : LinkState) → ServerWaits unit link → IsHeldOff link → ⊥
waits_room unit link (inl full) off = both_bools link.client.registered full.registered off.shut
waits_room unit link (inr empty) off =
    let same = ap length empty.0.taken in let full = off.full.full in let some = off.slots in omega (arith, same, full, some)

room_all : (units : List Unit) (pairs : List Pair) (seats : List Seat) → ServersWait units (links_of pairs) → AreNotHeldOff seats (links_of pairs)
room_all units pairs seats wait unit k sits off =
    let there = held IsHeldOff (slice_get (links_of pairs) k) off in
    waits_room (slice_get units k) there.0 (wait k there.0 there.1) there.2

-- a turn of the server units
open_clients : (old new : List Pair) (script : Script) → SameClients old new → IsResetOpen old script → IsResetOpen new script
open_clients old new script same opens none line k next reset sits = at (slice_get new k) refl
  where
    at : (o : Option Pair) → slice_get new k ≡ o → IfSome (slice_get new k) IsRegistered
    at None e = subst (λ (o : Option Pair). IfSome o IsRegistered) (sym e) tt
    at (Some after) e =
        let there = held (λ before. SameClient before after) (slice_get old k) (same k after e) in
        let before : IsRegistered there.0 = subst (λ (o : Option Pair). IfSome o IsRegistered) there.1 (opens none line k next reset sits) in
        subst (λ (o : Option Pair). IfSome o IsRegistered) (sym e) (there.2.queue ∙ before)

pub open_served : (units : List Unit) (old new : List Pair) (scripts : List Script) (i : ℕ) (here : Script) → slice_get scripts i ≡ Some here
    → are_servers here.seats.items ≡ true → SameClients old new → ServersWait units (links_of new) → IsOpenUpTo i old scripts → IsOpenUpTo (i + 1) new scripts
open_served units old new scripts i here found of same wait before = record {
  opened = λ j other below there served. at j other below there served (same_or j i);
  room = λ j other more there servers. room_all units new other.seats.items wait;
}
  where
    at : (j : ℕ) (other : Script) → j < i + 1 → slice_get scripts j ≡ Some other → IsBehindServers j other scripts → (j ≡ i) ⊎ (j ≢ i) → IsResetOpen new other
    at j other below there served (inl e) =
        let is : here ≡ other = some_is here other (sym found ∙ (ap (λ n. slice_get scripts n) (sym e) ∙ there)) in
        absurd (both_bools (are_servers here.seats.items) of (ap (λ (s : Script). are_servers s.seats.items) is ∙ served.others))
    at j other below there served (inr apart) = open_clients old new other same (before.opened j other (omega (arith, below, apart)) there served)

-- a turn of one script
open_else : (old new : List Pair) (script : Script) → SameSeats old new script → IsResetOpen old script → IsResetOpen new script
open_else old new script same opens none line k next reset sits =
    subst (λ (o : Option Pair). IfSome o IsRegistered) (sym (same line.unit k sits)) (opens none line k next reset sits)

room_else : (old new : List Pair) (script : Script) → SameSeats old new script → AreNotHeldOff script.seats.items (links_of old) → AreNotHeldOff script.seats.items (links_of new)
room_else old new script same room unit k sits off = room unit k sits (subst (λ o. IsSomeAnd o IsHeldOff) link off)
  where
    link : slice_get (links_of new) k ≡ slice_get (links_of old) k
    link = slice_get-map (λ (q : Pair). link_state q.link) new k
        ∙ (ap (option_map (λ (q : Pair). link_state q.link)) (same unit k sits) ∙ sym (slice_get-map (λ (q : Pair). link_state q.link) old k))

servers_less : (scripts : List Script) (i : ℕ) (script : Script) → slice_get scripts i ≡ Some script → are_servers script.seats.items ≡ false
    → HasServersBefore (i + 1) scripts → HasServersBefore i scripts
servers_less scripts i script found others before = at (same_or before.0 i)
  where
    at : (before.0 ≡ i) ⊎ (before.0 ≢ i) → HasServersBefore i scripts
    at (inl e) =
        let of : are_servers script.seats.items ≡ true =
        subst (λ o. IsSomeAnd o (λ s. are_servers s.seats.items ≡ true)) (ap (λ m. slice_get scripts m) e ∙ found) before.2 in
        absurd (both_bools (are_servers script.seats.items) of others)
    at (inr apart) = let below = before.1 in (before.0, omega (arith, below, apart), before.2)

reset_open : (old new : List Pair) (script : Script) → AreNotHeldOff script.seats.items (links_of old) → LeavesResetOpen old new script → IsResetOpen new script
reset_open old new script room held none line k next reset sits = at (held none line k next reset sits)
  where
    at : IfSome (slice_get new k) IsRegistered ⊎ IsSomeAnd (slice_get (links_of old) k) IsHeldOff → IfSome (slice_get new k) IsRegistered
    at (inl on) = on
    at (inr off) = absurd (room line.unit k sits off)

pub open_turned : (old new : List Pair) (ports : List PortSeat) (scripts : List Script) (i : ℕ) (script later : Script) → slice_get scripts i ≡ Some script
    → AreScripts old ports scripts → SameElse script.seats.items old new → OnlyRuns script later → are_servers script.seats.items ≡ false → LeavesResetOpen old new later
    → IsOpenUpTo i old scripts → IsOpenUpTo (i + 1) new (slice_set scripts i later)
open_turned old new ports scripts i script later found are others rest plain held before = record {
  opened = λ j other below there served. opens j other there below served;
  room = λ j other more there servers. rooms j other there more servers;
}
  where
    opens : (j : ℕ) (other : Script) → slice_get (slice_set scripts i later) j ≡ Some other → j < i + 1 → IsBehindServers j other (slice_set scripts i later) → IsResetOpen new other
    opens =
        each_set (λ j other. j < i + 1 → IsBehindServers j other (slice_set scripts i later) → IsResetOpen new other) scripts i later
        (λ j other there apart below served.
        open_else old new other (others_same old new ports scripts i j script other found there apart are others)
        (before.opened j other (omega (arith, below, apart)) there (served_before scripts i j script later other found rest served)))
        (λ below served.
        reset_open old new later
        (subst (λ ss. AreNotHeldOff ss.items (links_of old)) (sym rest.seats)
        (before.room i script (omega arith) found (servers_before scripts i i script later found rest served.servers))) held)

    rooms : (j : ℕ) (other : Script) → slice_get (slice_set scripts i later) j ≡ Some other → i + 1 ≤ j → HasServersBefore (i + 1) (slice_set scripts i later)
        → AreNotHeldOff other.seats.items (links_of new)
    rooms =
        each_set (λ j other. i + 1 ≤ j → HasServersBefore (i + 1) (slice_set scripts i later) → AreNotHeldOff other.seats.items (links_of new)) scripts i later
        (λ j other there apart more servers.
        room_else old new other (others_same old new ports scripts i j script other found there apart are others)
        (before.room j other (omega (arith, more)) there (servers_less scripts i script found plain (servers_before scripts i (i + 1) script later found rest servers))))
        (λ more servers. absurd (omega (arith, more)))

-- no script, and all
pub open_none : (pairs : List Pair) (scripts : List Script) → IsOpenUpTo 0 pairs scripts
open_none pairs scripts = record {
  opened = λ i script below found served. absurd (omega (arith, below));
  room = λ i script more found servers. let below = servers.1 in absurd (omega (arith, below));
}

pub open_all : (n : ℕ) (pairs : List Pair) (scripts : List Script) → length scripts ≤ n → IsOpenUpTo n pairs scripts → AreOpenTo (length scripts) pairs scripts
open_all n pairs scripts all is i script below found served = is.opened i script (omega (arith, below, all)) found served

-- the scripts before were run on, and the one that is next has not been touched
servers_run : (scripts now : List Script) (n : ℕ) → AllRun scripts now → HasServersBefore n now → HasServersBefore n scripts
servers_run scripts now n run before =
    let there = held (λ (s : Script). are_servers s.seats.items ≡ true) (slice_get now before.0) before.2 in
    let within = slice_get_within now before.0 there.0 there.1 in
    let count = run.count in
    let was = there_is scripts before.0 (omega (arith, within, count)) in
    let runs : OnlyRuns was.0 there.0 = subst (λ (o : Option Script). IsSomeAnd o (OnlyRuns was.0)) there.1 (run.each before.0 was.0 was.1) in (
      before.0,
      before.1,
      subst (λ (o : Option Script). IsSomeAnd o (λ s. are_servers s.seats.items ≡ true)) (sym was.1)
          (subst (λ ss. are_servers ss.items ≡ true) runs.seats there.2),
    )

pub open_next : (pairs : List Pair) (scripts now : List Script) (n : ℕ) → ((i : ℕ) → n ≤ i → slice_get now i ≡ slice_get scripts i) → AllRun scripts now
    → AreOpenTo (length scripts) pairs scripts → AreOpenIf (λ j. j ≡ n) pairs now
open_next pairs scripts now n rest run opens j script is found served =
    let there : slice_get scripts j ≡ Some script = sym (rest j (omega (arith, is))) ∙ found in
    opens j script (slice_get_within scripts j script there) there (record { others = served.others; servers = servers_run scripts now j run served.servers })
