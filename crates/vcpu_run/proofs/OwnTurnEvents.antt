-- An own client at its pair as events are put in a turn of its script, its server unit's session being over, or having been, also while its own login
-- is under way: it stays so, and what answers it is to look at are the same.
use Rattle.std.proofs.Common.{◌≡◌, ◌∙◌, inl, inr, ℕ, ◌+◌, ◌≤◌, ◌==◌, Bool, true, false, cond, List, [], ◌∷◌, Option, Some, None, length, refl, sym, ap, subst, arith}
use Rattle.std.specs.Borrow.{GName}
use Rattle.boot_text.specs.declared.plan.Line.{Line}
use Rattle.boot_text.specs.declared.verb.Verb.{Verb}
use Rattle.boot_text.specs.declared.verb.Verb.TheVariants as verbs
use Rattle.crq_ring.specs.Sessions.{of_session}
use Rattle.crq_ring.specs.declared.rows.PipeRow.{PipeRow}
use Rattle.crq_session.specs.Answered.{taken_now}
use Rattle.crq_session.specs.EndState.{EndPlace, EndState}
use Rattle.crq_session.specs.PlainState.{end_of}
use Rattle.srp_iu.specs.declared.unit.Iu.{Iu}
use Rattle.block_server.specs.Doings.{Doing, IsAtRest}
use Rattle.block_server.specs.declared.unit.Unit.{Unit}
use Rattle.vscsi_client.specs.State.{ClientState}
use Rattle.vcpu_run.specs.ActsAt.{Leads, LeadsOver, PushesEvent, acting_at}
use Rattle.vcpu_run.specs.Credited.{Ended}
use Rattle.vcpu_run.specs.Machines.{server_id}
use Rattle.vcpu_run.specs.OwnActs.{IsSeenAt, StaysOver, left_at}
use Rattle.vcpu_run.specs.OwnOver.{IsOver}
use Rattle.vcpu_run.specs.OwnPairs.{ComesOver, IsOverOwn, RestsIdle, StandsOver, doing_of}
use Rattle.vcpu_run.specs.Pairs.{Drives}
use Rattle.vcpu_run.specs.PlainClients.{granted_in, grants_of}
use Rattle.vcpu_run.specs.PlainPairs.{ServerBooks, between_of}
use Rattle.vcpu_run.specs.PlainScripts.{OfUnit}
use Rattle.vcpu_run.specs.PlainTalk.{ServerStays, TookNoMore, grants_one}
use Rattle.vcpu_run.specs.declared.driver.Driver.{Driver}
use Rattle.vcpu_run.specs.declared.pair.Pair.{Pair}
use Rattle.vcpu_run.specs.declared.script.Progress.{Progress}
use Rattle.vcpu_run.specs.declared.script.Progress.TheVariants as progress
use Rattle.vcpu_run.proofs.Driving.{some_is}
use Rattle.vcpu_run.proofs.OwnActEach.{here_telling, on_telling}
use Rattle.vcpu_run.proofs.OwnActLeft.{StaysTelling}
use Rattle.vcpu_run.proofs.OwnActOwn.{by_answers, client_at, over_by, seen_by}
use Rattle.vcpu_run.proofs.OwnActPairs.{left_is, rest_left}
use Rattle.vcpu_run.proofs.OwnActPushes.{pushes_telling}
use Rattle.vcpu_run.proofs.PlainSeated.{driver_behind, server_stays}

-- ---- one step behind the other

-- What such a step leaves: the client is as it was.
record Pushed (granted : ℕ) (failed : Bool) (d : Doing) (a b : Driver) (old new : Pair) (answers : List Iu) : Type 0 where
  over : StaysOver granted failed d b.client (client_at [] old) (client_at [] new)
  tells : over.over.answers ≡ answers
  client : b.client ≡ a.client
  registered : (end_of [] new.link false).registered ≡ (end_of [] old.link false).registered

pushed_here : (granted : ℕ) (failed : Bool) (d : Doing) (a : Driver) (pair : Pair) → IsSeenAt d (client_at [] pair) → (over : IsOver granted failed d a.client (end_of [] pair.link false))
    → Pushed granted failed d a a pair pair over.answers
pushed_here granted failed d a pair seen over =
    let same : StaysTelling granted failed d a.client (client_at [] pair) (client_at [] pair) over.answers = here_telling granted failed d a.client (client_at [] pair) seen over in
    record { over = same.0; tells = same.1; client = refl; registered = refl }

pushed_none : (granted : ℕ) (failed : Bool) (d : Doing) (a b : Driver) (old new : Pair) → old.driver ≡ Some a → new.driver ≡ Some b → new ≡ old → IsSeenAt d (client_at [] old)
    → (over : IsOver granted failed d a.client (end_of [] old.link false)) → Pushed granted failed d a b old new over.answers
pushed_none granted failed d a b old new was there same seen over =
    subst (λ (pair : Pair). Pushed granted failed d a b old pair over.answers) (sym same)
    (subst (λ (driver : Driver). Pushed granted failed d a driver old old over.answers) (some_is a b (sym was ∙ (ap (λ (pair : Pair). pair.driver) (sym same) ∙ there)))
    (pushed_here granted failed d a old seen over))

pushed_behind : (granted : ℕ) (failed : Bool) (d : Doing) (a m b : Driver) (old mid new : Pair) (answers : List Iu) → (first : Pushed granted failed d a m old mid answers)
    → Pushed granted failed first.over.left m b mid new first.over.over.answers → Pushed granted failed d a b old new answers
pushed_behind granted failed d a m b old mid new answers first next =
    let both : StaysTelling granted failed d b.client (client_at [] old) (client_at [] new) next.over.over.answers =
    on_telling granted failed failed d m.client b.client (client_at [] old) (client_at [] mid) (client_at [] new) first.over next.over in
    record { over = both.0; tells = both.1 ∙ next.tells ∙ first.tells; client = next.client ∙ first.client; registered = next.registered ∙ first.registered }

-- through which borrows the end is reached does not matter
one_pushed : (names : List GName) (granted : ℕ) (failed : Bool) (d : Doing) (a b : Driver) (old new : Pair) → IsSeenAt d (client_at [] old)
    → (over : IsOver granted failed d a.client (end_of [] old.link false)) → PushesEvent (acting_at names a old) (acting_at names b new) → Pushed granted failed d a b old new over.answers
one_pushed names granted failed d a b old new seen over pushes = record {
  over = record {
    left = on.0.left;
    rests = record {
      entries = on.0.rests.entries;
      put = on.0.rests.put;
      reached = on.0.rests.reached;
      session = on.0.rests.session;
      place = ap (λ (place : EndPlace). record place { lenders = [] }) on.0.rests.place;
      is = on.0.rests.is;
    };
    seen = seen_by names [] on.0.left new on.0.seen;
    over = back.0;
  };
  tells = back.1 ∙ on.1 ∙ at.1;
  client = pushes.client.client;
  registered = pushes.rest.registered ∙ pushes.ready.registered;
}
  where
    at : (is : IsOver granted failed d a.client (end_of names old.link false)) × (is.answers ≡ over.answers)
    at = (over_by [] names granted failed d a.client old seen over, by_answers [] names granted failed d a.client old seen over)

    on : StaysTelling granted failed d b.client (client_at names old) (client_at names new) at.0.answers
    on = pushes_telling granted failed d (acting_at names a old) (acting_at names b new) (seen_by [] names d old seen) at.0 (record { crq = refl; own = refl }) pushes

    back : (is : IsOver granted failed on.0.left b.client (end_of [] new.link false)) × (is.answers ≡ on.0.over.answers)
    back = (over_by names [] granted failed on.0.left b.client new on.0.seen on.0.over, by_answers names [] granted failed on.0.left b.client new on.0.seen on.0.over)

leads_pushed : (granted : ℕ) (failed : Bool) (over : List Pair) (d : Doing) (a b : Driver) (old new : Pair) → old.driver ≡ Some a → new.driver ≡ Some b → IsSeenAt d (client_at [] old)
    → (is : IsOver granted failed d a.client (end_of [] old.link false)) → LeadsOver PushesEvent over old new → Pushed granted failed d a b old new is.answers
leads_pushed granted failed [] d a b old new was there seen is same = pushed_none granted failed d a b old new was there same seen is
leads_pushed granted failed (next ∷ over) d a b old new was there seen is (at, more) =
    let step = driver_behind (λ (x y : Driver). (names : List GName) × PushesEvent (acting_at names x old) (acting_at names y next)) old.driver next.driver a was at in
    let first : Pushed granted failed d a step.0 old next is.answers = one_pushed step.2.0 granted failed d a step.0 old next seen is step.2.1 in
    pushed_behind granted failed d a step.0 b old next new is.answers first
    (leads_pushed granted failed over first.over.left step.0 b next new step.1 there first.over.seen first.over.over more)

-- ---- the server unit's end stays

pub end_stays : (granted : ℕ) (failed : Bool) (d : Doing) (unit : Unit) (a b : Driver) (old new : Pair) → Drives old new → TookNoMore (end_of [] old.link true)
    → StaysOver granted failed d b.client (client_at [] old) (client_at [] new) → ServerStays (between_of unit a old) (between_of unit b new)
end_stays granted failed d unit a b old new drives server stays = server_stays unit a b old new drives server took
  where
    took : TookNoMore (end_of [] new.link false)
    took = subst (λ (rows : List PipeRow). length (taken_now (end_of [] new.link false)) ≤ length (of_session (end_of [] new.link false).last_session rows)) (sym stays.seen.received)
        stays.over.took

-- ---- it stays so between turns, with what it is owed

owed_same : (told granted count : ℕ) (b c : Bool) → c ≡ b → told + cond b 1 0 ≤ count → granted ≤ told → granted + cond c 1 0 ≤ count
owed_same told granted count b c is owed less = subst (λ (x : Bool). granted + cond x 1 0 ≤ count) (sym is) (omega (arith, owed, less))

pub over_kept : (granted : ℕ) (failed failed' : Bool) (told told' : List Ended) (home u k : ℕ) (books : ServerBooks) (line line' : Option Line) (p p' : Progress) (unit : Unit)
    (a b : Driver) (old new : Pair) → (is : IsOverOwn granted failed told home u k books line p unit a old)
    → (stays : StaysOver granted failed' (doing_of unit home k books old) b.client (client_at [] old) (client_at [] new)) → grants_one stays.over.answers ≡ grants_one is.over.answers
    → ServerStays (between_of unit a old) (between_of unit b new) → granted_in told' ≤ granted_in told → StandsOver u failed' line' p' b.client (end_of [] new.link false)
    → IsOverOwn granted failed' told' home u k books line' p' unit b new
over_kept granted failed failed' told told' home u k books line line' p p' unit a b old new is on same stays less stands = record {
  over = over.0;
  owed = owed_same (granted_in told) (granted_in told') (grants_of (server_id home k) books.lines) (grants_one is.over.answers) (grants_one over.0.answers) over.1 is.owed less;
  seen = subst (λ (at : Doing). IsSeenAt at (client_at [] new)) here on.seen;
  rests = subst IsAtRest (sym left) (rest_left d (client_at [] new) on.rests.entries is.rests);
  ends = stays.ends;
  server_slots = subst (λ (n : ℕ). 256 ≤ n) (sym stays.slots) is.server_slots;
  own_slots = subst (λ (n : ℕ). 256 ≤ n) (sym (ap (λ (place : EndPlace). place.own_slots) on.rests.place)) is.own_slots;
  stands = stands;
}
  where
    d : Doing
    d = doing_of unit home k books old

    d' : Doing
    d' = doing_of unit home k books new

    left : d' ≡ left_at d (client_at [] new) on.rests.entries
    left = left_is (server_id home k) books.rows books.lines (between_of unit a old) (between_of unit b new) on.rests.entries stays is.ends on.rests.place on.rests.put on.rests.reached

    here : on.left ≡ d'
    here = on.rests.is ∙ sym left

    over : (at : IsOver granted failed' d' b.client (end_of [] new.link false)) × (grants_one at.answers ≡ grants_one is.over.answers)
    over = subst (λ (at : Doing). (its : IsOver granted failed' at b.client (end_of [] new.link false)) × (grants_one its.answers ≡ grants_one is.over.answers)) here (on.over, same)

-- ---- where the line came

comes_same : (verb : Verb) (p : Progress) (s : ClientState) (own own' : EndState) → (own.registered ≡ true → own'.registered ≡ true) → ComesOver verb p s own → ComesOver verb p s own'
comes_same verbs.Login p s own own' on comes = comes
comes_same verbs.Reset progress.Freed s own own' on comes = comes
comes_same verbs.Reset progress.Fresh s own own' on comes = (comes.0, on comes.1)
comes_same verbs.Reset (progress.Took n) s own own' on comes = (comes.0, on comes.1)
comes_same verbs.Reset (progress.Posted n) s own own' on comes = (comes.0, on comes.1)
comes_same verb p s own own' on comes = (comes.0, on comes.1)

stands_same : (u : ℕ) (failed : Bool) (line : Option Line) (p : Progress) (s : ClientState) (own own' : EndState) → (own.registered ≡ true → own'.registered ≡ true)
    → StandsOver u failed line p s own → StandsOver u failed line p s own'
stands_same u failed None p s own own' on (inl gone) = inl gone
stands_same u failed None p s own own' on (inr is) = inr (is.0, on is.1)
stands_same u failed (Some line) p s own own' on (inr gone) = inr gone
stands_same u failed (Some line) p s own own' on (inl is) = inl (is.0, by (line.unit == u) is.1)
  where
    by : (b : Bool) → OfUnit b (ComesOver line.verb p s own) (RestsIdle s × (own.registered ≡ true)) → OfUnit b (ComesOver line.verb p s own') (RestsIdle s × (own'.registered ≡ true))
    by true its = comes_same line.verb p s own own' on its
    by false other = (other.0, on other.1)

-- ---- events are put, whatever is under way

pub over_events : (granted : ℕ) (failed : Bool) (told : List Ended) (home u k : ℕ) (books : ServerBooks) (line : Option Line) (p : Progress) (unit : Unit) (a b : Driver) (old new : Pair)
    → old.driver ≡ Some a → new.driver ≡ Some b → Drives old new → Leads PushesEvent old new → IsOverOwn granted failed told home u k books line p unit a old
    → IsOverOwn granted failed told home u k books line p unit b new
over_events granted failed told home u k books line p unit a b old new was there drives leads is =
    over_kept granted failed failed told told home u k books line line p p unit a b old new is all.over (ap grants_one all.tells)
    (end_stays granted failed (doing_of unit home k books old) unit a b old new drives is.ends.server_took all.over) (omega arith)
    (subst (λ (s : ClientState). StandsOver u failed line p s (end_of [] new.link false)) (sym all.client)
    (stands_same u failed line p a.client (end_of [] old.link false) (end_of [] new.link false) (λ on. all.registered ∙ on) is.stands))
  where
    all : Pushed granted failed (doing_of unit home k books old) a b old new is.over.answers
    all = leads_pushed granted failed leads.over (doing_of unit home k books old) a b old new was there is.seen is.over leads.leads
