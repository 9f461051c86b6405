-- A turn of a server unit whose session is over, or was, at its client's pair.
use Rattle.std.proofs.Common.{◌≡◌, ◌∙◌, inl, inr, ℕ, ◌+◌, ◌≤◌, ◌==◌, Bool, true, false, List, [], Option, Some, None, sym, subst}
use Rattle.boot_text.specs.declared.plan.Line.{Line}
use Rattle.boot_text.specs.declared.verb.Verb.{Verb}
use Rattle.boot_text.specs.declared.verb.Verb.TheVariants as verbs
use Rattle.crq_session.specs.EndState.{EndState}
use Rattle.crq_session.specs.PlainState.{end_of}
use Rattle.tce_window.specs.PlainPort.{known_of}
use Rattle.vio_num.specs.declared.names.UnitId.{UnitId}
use Rattle.block_server.specs.Doings.{Doing, DoesTurn}
use Rattle.block_server.specs.declared.unit.Unit.{Unit}
use Rattle.vscsi_client.specs.Ports.{ports}
use Rattle.vscsi_client.specs.State.{ClientState}
use Rattle.vcpu_run.specs.Credited.{Ended}
use Rattle.vcpu_run.specs.Machines.{server_id}
use Rattle.vcpu_run.specs.OwnActs.{IsSeenAt}
use Rattle.vcpu_run.specs.OwnPairs.{ComesOver, IsOverOwn, RestsIdle, StandsOver, doing_of}
use Rattle.vcpu_run.specs.PlainClients.{granted_in, grants_of}
use Rattle.vcpu_run.specs.PlainPairs.{ServerBooks}
use Rattle.vcpu_run.specs.PlainScripts.{OfUnit}
use Rattle.vcpu_run.specs.PlainTalk.{AreEnds}
use Rattle.vcpu_run.specs.declared.driver.Driver.{Driver}
use Rattle.vcpu_run.specs.declared.pair.Pair.{Pair}
use Rattle.vcpu_run.specs.declared.script.Progress.{Progress}
use Rattle.vcpu_run.specs.declared.script.Progress.TheVariants as progress
use Rattle.vcpu_run.proofs.OverOwes.{OwesOver, credit_of, owes_turn}
use Rattle.vcpu_run.proofs.OverOwn.{LeavesClient, as_taken, over_taken}

-- The same is so at another end of the client's, in the same session, which took as much.
pub owes_own : (many granted : ℕ) (failed : Bool) (d : Doing) (s : ClientState) (own own' : EndState) → LeavesClient own own' → OwesOver many granted failed d s own → OwesOver many granted failed d s own'
unfolding over_taken
owes_own many granted failed d s own own' leaves is =
    subst (OwesOver many granted failed d s) (sym same) (record { over = over_taken granted failed d s own own' is.over; owed = is.owed })
  where
    same : own' ≡ as_taken own own'
    same = λ i. record own' { last_session = leaves.session i; registered = leaves.registered i; taken = leaves.taken i }

-- Where the client's line came is said of its registration alone.
comes_served : (verb : Verb) (p : Progress) (s : ClientState) (own own' : EndState) → own'.registered ≡ own.registered → ComesOver verb p s own → ComesOver verb p s own'
comes_served verbs.Login p s own own' same comes = comes
comes_served verbs.Reset progress.Freed s own own' same comes = comes
comes_served verbs.Reset p s own own' same comes = (comes.0, same ∙ comes.1)
comes_served verb p s own own' same comes = (comes.0, same ∙ comes.1)

pub of_served : (A A' B B' : Type 0) → (A → A') → (B → B') → (its : Bool) → OfUnit its A B → OfUnit its A' B'
of_served A A' B B' first rest true of = first of
of_served A A' B B' first rest false of = rest of

stands_served : (u : ℕ) (failed : Bool) (line : Option Line) (p : Progress) (s : ClientState) (own own' : EndState) → own'.registered ≡ own.registered → StandsOver u failed line p s own
    → StandsOver u failed line p s own'
stands_served u failed None p s own own' same (inl fails) = inl fails
stands_served u failed None p s own own' same (inr rests) = inr (rests.0, same ∙ rests.1)
stands_served u failed (Some line) p s own own' same (inl (going, of)) = inl (
  going,
  of_served (ComesOver line.verb p s own) (ComesOver line.verb p s own') (RestsIdle s × (own.registered ≡ true)) (RestsIdle s × (own'.registered ≡ true))
      (comes_served line.verb p s own own' same) (λ rests. (rests.0, same ∙ rests.1)) (line.unit == u) of,
)
stands_served u failed (Some line) p s own own' same (inr fails) = inr fails

-- What the unit's turn leaves at the pair, but for what it does: its client is as it was, and both see one another.
pub record ServesPair (home k : ℕ) (books' : ServerBooks) (unit' : Unit) (driver driver' : Driver) (pair pair' : Pair) : Type 0 where
  pub client : driver'.client ≡ driver.client
  pub leaves : LeavesClient (end_of [] pair.link false) (end_of [] pair'.link false)
  pub seen : IsSeenAt (doing_of unit' home k books' pair') (ports false (end_of [] pair'.link false) false (known_of pair'.window))
  pub ends : AreEnds (end_of [] pair'.link true) (end_of [] pair'.link false)
  pub server_slots : (end_of [] pair'.link true).place.own_slots ≡ (end_of [] pair.link true).place.own_slots
  pub own_slots : (end_of [] pair'.link false).place.own_slots ≡ (end_of [] pair.link false).place.own_slots

pub over_served : (granted : ℕ) (failed : Bool) (told : List Ended) (home u k : ℕ) (books books' : ServerBooks) (line : Option Line) (p : Progress) (unit unit' : Unit) (driver driver' : Driver)
    (pair pair' : Pair) → unit.id ≡ server_id home k → unit'.id ≡ server_id home k → DoesTurn (doing_of unit home k books pair) (doing_of unit' home k books' pair')
    → ServesPair home k books' unit' driver driver' pair pair' → IsOverOwn granted failed told home u k books line p unit driver pair
    → IsOverOwn granted failed told home u k books' line p unit' driver' pair'
over_served granted failed told home u k books books' line p unit unit' driver driver' pair pair' id id' turn serves is = record {
  over = behind.over;
  owed = subst (λ (name : UnitId). granted_in told + credit_of behind.over.answers ≤ grants_of name books'.lines) id' behind.owed;
  seen = serves.seen;
  rests = turn.rests;
  ends = serves.ends;
  server_slots = subst (λ (n : ℕ). 256 ≤ n) (sym serves.server_slots) is.server_slots;
  own_slots = subst (λ (n : ℕ). 256 ≤ n) (sym serves.own_slots) is.own_slots;
  stands = subst (λ (s : ClientState). StandsOver u failed line p s (end_of [] pair'.link false)) (sym serves.client)
      (stands_served u failed line p driver.client (end_of [] pair.link false) (end_of [] pair'.link false) serves.leaves.registered is.stands);
}
  where
    before : OwesOver (granted_in told) granted failed (doing_of unit home k books pair) driver.client (end_of [] pair.link false)
    before = record { over = is.over; owed = subst (λ (name : UnitId). granted_in told + credit_of is.over.answers ≤ grants_of name books.lines) (sym id) is.owed }

    behind : OwesOver (granted_in told) granted failed (doing_of unit' home k books' pair') driver'.client (end_of [] pair'.link false)
    behind = subst (λ (s : ClientState). OwesOver (granted_in told) granted failed (doing_of unit' home k books' pair') s (end_of [] pair'.link false)) (sym serves.client)
        (owes_own (granted_in told) granted failed (doing_of unit' home k books' pair') driver.client (end_of [] pair.link false) (end_of [] pair'.link false) serves.leaves
        (owes_turn (granted_in told) granted failed (doing_of unit home k books pair) (doing_of unit' home k books' pair') driver.client (end_of [] pair.link false) before turn.does))
