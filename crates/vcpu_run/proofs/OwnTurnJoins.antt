-- An own client at its pair behind a turn of its login, its server unit's session being over, or having been: it stays so between turns, or both talk
-- anew, and some replay leads to where the client stands.
use Rattle.std.proofs.Common.{◌≡◌, ◌∙◌, inl, inr, ℕ, ◌+◌, ◌≤◌, ◌&&◌, not, Bool, true, false, true≢false, cond, drop, List, [], Option, Some, None, is_some, length, arith, refl, sym, ap, subst}
use Rattle.std.proofs.lemmas.List.Elements.{All-nil}
use Rattle.std.specs.Borrow.{GName}
use Rattle.boot_text.specs.declared.plan.Line.{Line}
use Rattle.crq_ring.specs.Sessions.{of_session}
use Rattle.crq_ring.specs.declared.rows.PipeRow.{PipeRow}
use Rattle.crq_session.specs.Answered.{taken_now}
use Rattle.crq_session.specs.EndState.{EndPlace}
use Rattle.crq_session.specs.PlainState.{end_of}
use Rattle.crq_session.specs.declared.handshake.Handshake.TheVariants.{Up, Waiting}
use Rattle.block_server.specs.Doings.{Doing, IsAtRest}
use Rattle.block_server.specs.declared.unit.Unit.{Unit}
use Rattle.vscsi_client.specs.State.{next_tag}
use Rattle.vscsi_client.specs.declared.outgoing.Outgoing.{Outgoing}
use Rattle.vcpu_run.specs.Credited.{Ended}
use Rattle.vcpu_run.specs.Machines.{server_id}
use Rattle.vcpu_run.specs.OwnActs.{IsSeenAt, RestsAt, StaysOver, left_at}
use Rattle.vcpu_run.specs.OwnJoins.{GrantsLogin, HasLogin, JoinsNow}
use Rattle.vcpu_run.specs.OwnOver.{IsOver}
use Rattle.vcpu_run.specs.OwnPairs.{IsOverOwn, StandsOver, TalksOwn, doing_of}
use Rattle.vcpu_run.specs.Pairs.{Drives}
use Rattle.vcpu_run.specs.PlainClients.{granted_in, grants_of}
use Rattle.vcpu_run.specs.PlainPairs.{ServerBooks, between_of}
use Rattle.vcpu_run.specs.PlainSteps.{AreReplayedAs, FollowsReplay}
use Rattle.vcpu_run.specs.PlainTalk.{ServerStays, TookNoMore, grants_one, owes}
use Rattle.vcpu_run.specs.Replay.{Asked, Replay, any_share}
use Rattle.vcpu_run.specs.declared.driver.Driver.{Driver}
use Rattle.vcpu_run.specs.declared.pair.Pair.{Pair}
use Rattle.vcpu_run.specs.declared.script.Progress.{Progress}
use Rattle.vcpu_run.specs.declared.script.Progress.TheVariants as progress
use Rattle.vcpu_run.proofs.OwnActOwn.{by_answers, client_at, over_by, seen_by}
use Rattle.vcpu_run.proofs.OwnActPairs.{left_is, rest_left}
use Rattle.vcpu_run.proofs.PlainScripted.{stands_next}
use Rattle.vcpu_run.proofs.PlainSeated.{pair_is, server_stays}
use Rattle.vcpu_run.proofs.RejoinTalks.{talks_anew}

-- ---- the unit stands as the client left it

left_here : (names : List GName) (home k : ℕ) (books : ServerBooks) (unit : Unit) (a b : Driver) (old new : Pair) (left : Doing) → ServerStays (between_of unit a old) (between_of unit b new)
    → (granted : ℕ) (failed : Bool) (told : List Ended) (u : ℕ) (line : Option Line) (p : Progress) → IsOverOwn granted failed told home u k books line p unit a old
    → (rests : RestsAt (doing_of unit home k books old) left (client_at names old) (client_at names new))
    → (left ≡ doing_of unit home k books new) × IsAtRest (doing_of unit home k books new)
left_here names home k books unit a b old new left stays granted failed told u line p is rests = (
  rests.is ∙ sym there,
  subst IsAtRest (sym there) (rest_left (doing_of unit home k books old) (client_at names new) rests.entries is.rests),
)
  where
    there : doing_of unit home k books new ≡ left_at (doing_of unit home k books old) (client_at names new) rests.entries
    there = left_is (server_id home k) books.rows books.lines (between_of unit a old) (between_of unit b new) rests.entries stays is.ends
        (ap (λ (place : EndPlace). record place { lenders = [] }) rests.place) rests.put rests.reached

-- the server unit's end stays, where no more was taken than came
pub stays_took : (granted : ℕ) (failed : Bool) (told : List Ended) (home u k : ℕ) (books : ServerBooks) (line : Option Line) (p : Progress) (unit : Unit) (a b : Driver) (old new : Pair) → Drives old new
    → IsOverOwn granted failed told home u k books line p unit a old → TookNoMore (end_of [] new.link false) → ServerStays (between_of unit a old) (between_of unit b new)
stays_took granted failed told home u k books line p unit a b old new drives is took = server_stays unit a b old new drives is.ends.server_took took

-- ---- its session is over, or was, as before

-- What is so of the server unit as this pair shows it, and which logins are owed.
record OverNow (names : List GName) (granted : ℕ) (failed : Bool) (d d' : Doing) (a b : Driver) (old new : Pair) (stays : StaysOver granted failed d b.client (client_at names old) (client_at names new)) : Type 0 where
  seen : IsSeenAt d' (client_at names new)
  over : IsOver granted failed d' b.client (end_of [] new.link false)
  same : over.answers ≡ stays.over.answers

over_now : (names : List GName) (granted : ℕ) (failed : Bool) (d d' : Doing) (a b : Driver) (old new : Pair) (stays : StaysOver granted failed d b.client (client_at names old) (client_at names new))
    → stays.left ≡ d' → OverNow names granted failed d d' a b old new stays
over_now names granted failed d d' a b old new stays here = record {
  seen = seen;
  over = over_by names [] granted failed d' b.client new seen there.0;
  same = by_answers names [] granted failed d' b.client new seen there.0 ∙ there.1;
}
  where
    seen : IsSeenAt d' (client_at names new)
    seen = subst (λ (at : Doing). IsSeenAt at (client_at names new)) here stays.seen

    there : (over : IsOver granted failed d' b.client (end_of names new.link false)) × (over.answers ≡ stays.over.answers)
    there = subst (λ (at : Doing). (over : IsOver granted failed at b.client (end_of names new.link false)) × (over.answers ≡ stays.over.answers)) here (stays.over, refl)

-- where no more logins are owed than were granted
pub stays_pair : (names : List GName) (granted : ℕ) (failed failed' : Bool) (told told' : List Ended) (home u k : ℕ) (books : ServerBooks) (line line' : Option Line) (p p' : Progress) (unit : Unit) (a b : Driver)
    (old new : Pair) → Drives old new → IsOverOwn granted failed told home u k books line p unit a old
    → (stays : StaysOver granted failed' (doing_of unit home k books old) b.client (client_at names old) (client_at names new))
    → granted_in told' + cond (grants_one stays.over.answers) 1 0 ≤ grants_of (server_id home k) books.lines → StandsOver u failed' line' p' b.client (end_of [] new.link false)
    → IsOverOwn granted failed' told' home u k books line' p' unit b new
stays_pair names granted failed failed' told told' home u k books line line' p p' unit a b old new drives is stays owed stands = record {
  over = now.over;
  owed = omega (arith, owed, ap {B = ℕ} (λ list. cond (grants_one list) 1 0) now.same);
  seen = seen_by names [] (doing_of unit home k books new) new now.seen;
  rests = here.1;
  ends = server.ends;
  server_slots = subst (λ (n : ℕ). 256 ≤ n) (sym server.slots) is.server_slots;
  own_slots = subst (λ (n : ℕ). 256 ≤ n) (sym (ap (λ (place : EndPlace). place.own_slots) stays.rests.place)) is.own_slots;
  stands = stands;
}
  where
    took : TookNoMore (end_of [] new.link false)
    took = subst (λ (rows : List PipeRow). length (taken_now (end_of [] new.link false)) ≤ length (of_session (end_of [] new.link false).last_session rows)) (sym stays.seen.received) stays.over.took

    server : ServerStays (between_of unit a old) (between_of unit b new)
    server = stays_took granted failed told home u k books line p unit a b old new drives is took

    here : (stays.left ≡ doing_of unit home k books new) × IsAtRest (doing_of unit home k books new)
    here = left_here names home k books unit a b old new stays.left server granted failed told u line p is stays.rests

    now : OverNow names granted failed' (doing_of unit home k books old) (doing_of unit home k books new) a b old new stays
    now = over_now names granted failed' (doing_of unit home k books old) (doing_of unit home k books new) a b old new stays here.0

-- ---- both talk anew

-- through which borrows the end is reached does not matter
has_by : (a b : List GName) (granted : ℕ) (driver : Driver) (pair : Pair) → HasLogin granted driver.client (end_of a pair.link false) → HasLogin granted driver.client (end_of b pair.link false)
has_by a b granted driver pair has = record {
  registered = has.registered;
  none = has.none;
  handshake = has.handshake;
  due = has.due;
  kept = has.kept;
  held = has.held;
  outgoing = has.outgoing;
  login = has.login;
  logout = has.logout;
  granted_is = has.granted_is;
  tabled = has.tabled;
}

-- a unit at rest fetches nothing
none_waits : (d : Doing) → IsAtRest d → d.waiting ≡ None
none_waits d (inl free) = free.waiting
none_waits d (inr awaits) = awaits.waiting

-- what is replayed of a client that has its login: nothing is outstanding
abbrev logged_now : Driver → Replay
logged_now driver = record { tag = next_tag driver.client; is_on = true; outstanding = [] }

logged_follows : (granted : ℕ) (unit : Unit) (driver : Driver) (pair : Pair) → HasLogin granted driver.client (end_of [] pair.link false)
    → FollowsReplay granted (logged_now driver) (between_of unit driver pair)
logged_follows granted unit driver pair has = record {
  tag = refl;
  login = has.login;
  settled = λ waits. up_waits (sym has.handshake ∙ waits);
  fresh = λ off. absurd (true≢false (sym has.registered ∙ off));
  credits = record {
    is_on = ap is_some has.granted_is;
    there = λ on. has.registered;
    outstanding = subst (λ (list : List Outgoing). AreReplayedAs list []) (sym has.outgoing) tt;
    none = λ off. refl;
    within = omega arith;
  };
}
  where
    up_waits : Up ≡ Waiting → ⊥
    up_waits e = cc (e)

-- a client that has its login is owed none
owes_none : (granted : ℕ) (unit : Unit) (driver : Driver) (pair : Pair) → HasLogin granted driver.client (end_of [] pair.link false) → owes (between_of unit driver pair) [] ≡ 0
owes_none granted unit driver pair has =
    ap {B = ℕ} (λ there. cond ((end_of [] pair.link false).registered && (not there && (unit.logins.taking && not false))) 1 0) (ap is_some has.granted_is)
    ∙ by (end_of [] pair.link false).registered
  where
    by : (b : Bool) → ◌≡◌ {A = ℕ} (cond (b && false) 1 0) 0
    by true = refl
    by false = refl

pub joins_pair : (names : List GName) (granted : ℕ) (failed : Bool) (told told' : List Ended) (lines : List Line) (home u k : ℕ) (books : ServerBooks) (line line' : Option Line) (p : Progress) (unit : Unit)
    (a b : Driver) (old new : Pair) → Drives old new → new.driver ≡ Some b → IsOverOwn granted failed told home u k books line p unit a old
    → JoinsNow granted (doing_of unit home k books old) b.client (client_at names old) (client_at names new) → granted_in told' ≤ grants_of (server_id home k) books.lines
    → TalksOwn granted told' lines home u k books [] line' progress.Fresh unit b new
joins_pair names granted failed told told' lines home u k books line line' p unit a b old new drives there is joins owed = record {
  talks = talks_anew granted (between_of unit b new) (server_id home k) books.rows books.lines has
      (subst (GrantsLogin granted) here.0 joins.unit)
      (seen_by names [] (doing_of unit home k books new) new (subst (λ (at : Doing). IsSeenAt at (client_at names new)) here.0 joins.seen))
      (none_waits (doing_of unit home k books new) here.1) server.ends
      (subst (λ (n : ℕ). 256 ≤ n) (sym server.slots) is.server_slots)
      (subst (λ (n : ℕ). 256 ≤ n) (sym (ap (λ (place : EndPlace). place.own_slots) joins.rests.place)) is.own_slots);
  owed = omega (arith, owed, owes_none granted unit b new has);
  now = logged_now b;
  spares = λ written spared. All-nil (λ (asked : Asked). any_share written (drop 1 asked.ranges) ≡ false);
  stands = stands_next granted u line' (logged_now b) new
      (pair_is (FollowsReplay granted (logged_now b)) new b there (λ unit. logged_follows granted unit b new has));
}
  where
    has : HasLogin granted b.client (end_of [] new.link false)
    has = has_by names [] granted b new joins.client

    server : ServerStays (between_of unit a old) (between_of unit b new)
    server = stays_took granted failed told home u k books line p unit a b old new drives is joins.took

    here : (joins.left ≡ doing_of unit home k books new) × IsAtRest (doing_of unit home k books new)
    here = left_here names home k books unit a b old new joins.left server granted failed told u line p is joins.rests
