-- An own client's step at its pair, its server unit's session being over, or having been, while no login is under way: it stays so between turns.
use Rattle.std.proofs.Common.{◌≡◌, ◌∙◌, ℕ, ◌+◌, ◌≤◌, Bool, true, false, cond, List, [], Option, refl, sym, ap, subst, arith}
use Rattle.std.specs.Borrow.{GName}
use Rattle.boot_text.specs.declared.plan.Line.{Line}
use Rattle.crq_session.specs.EndState.{EndPlace}
use Rattle.crq_session.specs.PlainState.{end_of}
use Rattle.tce_window.specs.PlainPort.{known_of}
use Rattle.block_server.specs.Doings.{Doing, IsAtRest}
use Rattle.block_server.specs.declared.unit.Unit.{Unit}
use Rattle.vscsi_client.specs.Ports.{Ports, ports}
use Rattle.vscsi_client.specs.State.{ClientState}
use Rattle.vcpu_run.specs.Acts.{Acting}
use Rattle.vcpu_run.specs.ActsAt.{acting_at}
use Rattle.vcpu_run.specs.Credited.{Ended}
use Rattle.vcpu_run.specs.Machines.{server_id}
use Rattle.vcpu_run.specs.OwnActs.{GoesOver, IsSeenAt, RestsOver, left_at}
use Rattle.vcpu_run.specs.OwnOver.{IsOver}
use Rattle.vcpu_run.specs.OwnPairs.{IsOverOwn, RestsIdle, StandsOver, doing_of}
use Rattle.vcpu_run.specs.PlainClients.{granted_in, grants_of}
use Rattle.vcpu_run.specs.PlainPairs.{ServerBooks, between_of}
use Rattle.vcpu_run.specs.PlainTalk.{ServerStays, grants_one}
use Rattle.vcpu_run.specs.declared.driver.Driver.{Driver}
use Rattle.vcpu_run.specs.declared.pair.Pair.{Pair}
use Rattle.vcpu_run.specs.declared.script.Progress.{Progress}
use Rattle.vcpu_run.proofs.OwnActPairs.{SameQueue, end_answers, left_is, over_end, rest_left, seen_end}
use Rattle.vcpu_run.proofs.OwnActRests.{none_granted}

-- through which borrows the client's end is reached
abbrev pub client_at : List GName → Pair → Ports
client_at names pair = ports false (end_of names pair.link false) false (known_of pair.window)

same_queue : (a b : List GName) (pair : Pair) → SameQueue (client_at a pair).crq (client_at b pair).crq
same_queue a b pair = record { taken = record { registered = refl; session = refl; taken = refl }; received = refl; partner = refl; kept = refl }

pub seen_by : (a b : List GName) (d : Doing) (pair : Pair) → IsSeenAt d (client_at a pair) → IsSeenAt d (client_at b pair)
seen_by a b d pair seen = seen_end d (client_at a pair) (client_at b pair) seen (same_queue a b pair) refl refl refl

pub over_by : (a b : List GName) (granted : ℕ) (failed : Bool) (d : Doing) (s : ClientState) (pair : Pair) → IsSeenAt d (client_at a pair) → IsOver granted failed d s (end_of a pair.link false)
    → IsOver granted failed d s (end_of b pair.link false)
over_by a b granted failed d s pair seen over = over_end granted failed d s (client_at a pair) (client_at b pair) seen over (same_queue a b pair) refl

pub by_answers : (a b : List GName) (granted : ℕ) (failed : Bool) (d : Doing) (s : ClientState) (pair : Pair) (seen : IsSeenAt d (client_at a pair))
    (over : IsOver granted failed d s (end_of a pair.link false)) → (over_by a b granted failed d s pair seen over).answers ≡ over.answers
unfolding over_by
by_answers a b granted failed d s pair seen over = end_answers granted failed d s (client_at a pair) (client_at b pair) seen over (same_queue a b pair) refl

-- what is so of the client as it acts
pub rests_at : (names : List GName) (granted : ℕ) (failed : Bool) (told : List Ended) (home u k : ℕ) (books : ServerBooks) (line : Option Line) (p : Progress) (unit : Unit) (driver : Driver) (pair : Pair)
    → IsOverOwn granted failed told home u k books line p unit driver pair → RestsIdle driver.client → RestsOver granted failed (doing_of unit home k books pair) (acting_at names driver pair)
rests_at names granted failed told home u k books line p unit driver pair is rests = record {
  seen = seen_by [] names (doing_of unit home k books pair) pair is.seen;
  over = over_by [] names granted failed (doing_of unit home k books pair) driver.client pair is.seen is.over;
  settled = rests.settled;
  idle = rests.login;
}

pub rests_idle : (granted : ℕ) (failed : Bool) (d : Doing) (old new : Acting) → GoesOver granted failed d old new → RestsIdle new.client
rests_idle granted failed d old new goes = record { settled = goes.settled; login = goes.idle }

-- none of its logins is owed
owed_none : (told granted count : ℕ) (b c : Bool) → c ≡ false → told + cond b 1 0 ≤ count → granted ≤ told → granted + cond c 1 0 ≤ count
owed_none told granted count b true is owed less = absurd (cc (is))
owed_none told granted count b false is owed less = omega (arith, owed, less)

pub over_pair : (names : List GName) (granted : ℕ) (failed failed' : Bool) (told told' : List Ended) (home u k : ℕ) (books : ServerBooks) (line line' : Option Line) (p p' : Progress) (unit : Unit)
    (driver driver' : Driver) (pair pair' : Pair) → IsOverOwn granted failed told home u k books line p unit driver pair
    → GoesOver granted failed' (doing_of unit home k books pair) (acting_at names driver pair) (acting_at names driver' pair')
    → ServerStays (between_of unit driver pair) (between_of unit driver' pair') → granted_in told' ≤ granted_in told
    → StandsOver u failed' line' p' driver'.client (end_of [] pair'.link false)
    → IsOverOwn granted failed' told' home u k books line' p' unit driver' pair'
over_pair names granted failed failed' told told' home u k books line line' p p' unit driver driver' pair pair' is goes stays less stands = record {
  over = over;
  owed = owed_none (granted_in told) (granted_in told') (grants_of (server_id home k) books.lines) (grants_one is.over.answers) (grants_one over.answers)
      (none_granted granted failed' d' driver'.client (end_of [] pair'.link false) over goes.idle) is.owed less;
  seen = seen_by names [] d' pair' seen;
  rests = subst IsAtRest (sym left) (rest_left d (client_at names pair') goes.over.rests.entries is.rests);
  ends = stays.ends;
  server_slots = subst (λ (n : ℕ). 256 ≤ n) (sym stays.slots) is.server_slots;
  own_slots = subst (λ (n : ℕ). 256 ≤ n) (sym (ap (λ (place : EndPlace). place.own_slots) goes.over.rests.place)) is.own_slots;
  stands = stands;
}
  where
    d : Doing
    d = doing_of unit home k books pair

    d' : Doing
    d' = doing_of unit home k books pair'

    left : d' ≡ left_at d (client_at names pair') goes.over.rests.entries
    left = left_is (server_id home k) books.rows books.lines (between_of unit driver pair) (between_of unit driver' pair') goes.over.rests.entries stays is.ends
        (ap (λ (place : EndPlace). record place { lenders = [] }) goes.over.rests.place) goes.over.rests.put goes.over.rests.reached

    here : goes.over.left ≡ d'
    here = goes.over.rests.is ∙ sym left

    seen : IsSeenAt d' (client_at names pair')
    seen = subst (λ (at : Doing). IsSeenAt at (client_at names pair')) here goes.over.seen

    over : IsOver granted failed' d' driver'.client (end_of [] pair'.link false)
    over = over_by names [] granted failed' d' driver'.client pair' seen
        (subst (λ (at : Doing). IsOver granted failed' at driver'.client (end_of names pair'.link false)) here goes.over.over)
