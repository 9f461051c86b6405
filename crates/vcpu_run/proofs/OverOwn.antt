-- A turn of a server unit, where its client's queue receives what was put: the session of the unit is over behind it, or was, as before.
use Rattle.std.proofs.Common.{◌≡◌, ◌⊎◌, inl, inr, ℕ, Bool, true, List, [], ◌∷◌}
use Rattle.crq_session.specs.EndState.{EndState}
use Rattle.vio_num.specs.declared.entry.Entry.{Entry}
use Rattle.block_server.specs.Doings.{Doing}
use Rattle.vscsi_client.specs.State.{ClientState}
use Rattle.vcpu_run.specs.OwnOver.{HasAsked, IsAnew, IsComing, IsGranted, IsOver, IsPrepared, IsServing, IsShut, IsTaken, IsUnheard, IsWritten, Joins, Rejoins, stream_of}
use Rattle.vcpu_run.specs.PlainTalk.{Ask}
use Rattle.vcpu_run.proofs.OverPhases.{StandsOver}

-- an end that is in the same session, and took as much
abbrev pub as_taken : (own own' : EndState) → EndState
as_taken own own' = record own' { last_session = own.last_session; registered = own.registered; taken = own.taken }

shut_own : (d : Doing) (s : ClientState) (own own' : EndState) (stream : List Entry) → IsShut d s own stream → IsShut d s (as_taken own own') stream
shut_own d s own own' stream is = record { over = is.over; idle = is.idle; kept = is.kept; event = is.event; told = is.told }

unheard_own : (d : Doing) (own own' : EndState) (stream : List Entry) → IsUnheard d own stream → IsUnheard d (as_taken own own') stream
unheard_own d own own' stream is = record { new = is.new; registered = is.registered; gone = is.gone; queue = is.queue; begins = is.begins }

anew_own : (d : Doing) (s : ClientState) (own own' : EndState) (stream : List Entry) → IsAnew d s own stream → IsAnew d s (as_taken own own') stream
anew_own d s own own' stream is =
    record { idle = is.idle; kept = is.kept; queue = is.queue; unsent = is.unsent; first = is.first; stirs = is.stirs; logging = is.logging }

asked_own : (s : ClientState) (own own' : EndState) (stream : List Entry) (ask : Ask) → HasAsked s own stream ask → HasAsked s (as_taken own own') stream ask
asked_own s own own' stream ask is = record { login = is.login; asked = is.asked; due = is.due; up = is.up; complete = is.complete }

coming_own : (d : Doing) (own own' : EndState) (ask : Ask) → IsComing d own ask → IsComing d (as_taken own own') ask
coming_own d own own' ask is = record {
  idle = is.idle;
  kept = is.kept;
  entry = is.entry;
  front = is.front;
  back = is.back;
  queue = is.queue;
  shakes = is.shakes;
  behind = is.behind;
  shows = is.shows;
}

unfoldable serving_own : (d : Doing) (own own' : EndState) (ask : Ask) → IsServing d own ask → IsServing d (as_taken own own') ask
serving_own d own own' ask is = record { current = is.current; up = is.up; request = is.request; pending = is.pending; is = is.is; queue = is.queue }

taken_own : (d : Doing) (own own' : EndState) (ask : Ask) → IsTaken d own ask → IsTaken d (as_taken own own') ask
taken_own d own own' ask is = record { serves = serving_own d own own' ask is.serves; stage = is.stage; kept = is.kept; entry = is.entry }

prepared_own : (d : Doing) (own own' : EndState) (ask : Ask) → IsPrepared d own ask → IsPrepared d (as_taken own own') ask
prepared_own d own own' ask is = record {
  serves = serving_own d own own' ask is.serves;
  outcome = is.outcome;
  stage = is.stage;
  grants = is.grants;
  answer = is.answer;
  kept = is.kept;
  entry = is.entry;
}

written_own : (granted : ℕ) (d : Doing) (own own' : EndState) (ask : Ask) → IsWritten granted d own ask → IsWritten granted d (as_taken own own') ask
unfolding serving_own
written_own granted d own own' ask is = record {
  serves = serving_own d own own' ask is.serves;
  outcome = is.outcome;
  stage = is.stage;
  grants = is.grants;
  iu = is.iu;
  stands = is.stands;
  kept = is.kept;
  entry = is.entry;
}

granted_own : (d : Doing) (s : ClientState) (own own' : EndState) (stream : List Entry) → IsGranted d s own stream → IsGranted d s (as_taken own own') stream
granted_own d s own own' stream is = record {
  current = is.current;
  taking = is.taking;
  outstanding = is.outstanding;
  pending = is.pending;
  stage = is.stage;
  up = is.up;
  kept = is.kept;
  queue = is.queue;
  front = is.front;
  entry = is.entry;
  last = is.last;
  srp = is.srp;
}

joins_own : (granted : ℕ) (d : Doing) (s : ClientState) (own own' : EndState) (stream : List Entry) (answered lost : List Ask) → Joins granted d s own stream answered lost
    → Joins granted d s (as_taken own own') stream answered lost
joins_own granted d s own own' stream answered lost j = record { ask = j.ask; has = asked_own s own own' stream j.ask j.has; where_is = by j.where_is }
  where
    by : (((answered ≡ []) × (lost ≡ j.ask ∷ [])) × (IsComing d own j.ask ⊎ (IsTaken d own j.ask ⊎ (IsPrepared d own j.ask ⊎ IsWritten granted d own j.ask))))
        ⊎ (((answered ≡ j.ask ∷ []) × (lost ≡ [])) × IsGranted d s own stream)
        → (((answered ≡ []) × (lost ≡ j.ask ∷ []))
        × (IsComing d (as_taken own own') j.ask ⊎ (IsTaken d (as_taken own own') j.ask ⊎ (IsPrepared d (as_taken own own') j.ask ⊎ IsWritten granted d (as_taken own own') j.ask))))
        ⊎ (((answered ≡ j.ask ∷ []) × (lost ≡ [])) × IsGranted d s (as_taken own own') stream)
    by (inl (parts, inl c)) = inl (parts, inl (coming_own d own own' j.ask c))
    by (inl (parts, inr (inl t))) = inl (parts, inr (inl (taken_own d own own' j.ask t)))
    by (inl (parts, inr (inr (inl p)))) = inl (parts, inr (inr (inl (prepared_own d own own' j.ask p))))
    by (inl (parts, inr (inr (inr w)))) = inl (parts, inr (inr (inr (written_own granted d own own' j.ask w))))
    by (inr (parts, g)) = inr (parts, granted_own d s own own' stream g)

rejoins_own : (granted : ℕ) (failed : Bool) (d : Doing) (s : ClientState) (own own' : EndState) (stream : List Entry) (answered lost : List Ask) → Rejoins granted failed d s own stream answered lost
    → Rejoins granted failed d s (as_taken own own') stream answered lost
rejoins_own granted failed d s own own' stream answered lost is =
    record { going = is.going; event = is.event; open_is = is.open_is; none_gone = is.none_gone; aware = is.aware; there = there is.there; how = how is.how }
  where
    there : (own.registered ≡ true) ⊎ ((failed ≡ true) ⊎ IsAnew d s own stream) → (own.registered ≡ true) ⊎ ((failed ≡ true) ⊎ IsAnew d s (as_taken own own') stream)
    there (inl on) = inl on
    there (inr (inl fails)) = inr (inl fails)
    there (inr (inr anew)) = inr (inr (anew_own d s own own' stream anew))

    how : IsAnew d s own stream ⊎ Joins granted d s own stream answered lost → IsAnew d s (as_taken own own') stream ⊎ Joins granted d s (as_taken own own') stream answered lost
    how (inl anew) = inl (anew_own d s own own' stream anew)
    how (inr joins) = inr (joins_own granted d s own own' stream answered lost joins)

pub stands_own : (granted : ℕ) (failed : Bool) (d : Doing) (s : ClientState) (own own' : EndState) (stream : List Entry) (answered lost : List Ask) → StandsOver granted failed d s own stream answered lost
    → StandsOver granted failed d s (as_taken own own') stream answered lost
stands_own granted failed d s own own' stream answered lost (inl is) = inl (shut_own d s own own' stream is)
stands_own granted failed d s own own' stream answered lost (inr (inl is)) = inr (inl is)
stands_own granted failed d s own own' stream answered lost (inr (inr (inl is))) = inr (inr (inl (unheard_own d own own' stream is)))
stands_own granted failed d s own own' stream answered lost (inr (inr (inr is))) = inr (inr (inr (rejoins_own granted failed d s own own' stream answered lost is)))

unfoldable pub over_taken : (granted : ℕ) (failed : Bool) (d : Doing) (s : ClientState) (own own' : EndState) → IsOver granted failed d s own → IsOver granted failed d s (as_taken own own')
over_taken granted failed d s own own' is = record {
  answered = is.answered;
  lost = is.lost;
  answers = is.answers;
  rest = is.rest;
  come = is.come;
  owed = is.owed;
  grants = is.grants;
  most = is.most;
  partner = is.partner;
  to = is.to;
  reaches = is.reaches;
  shut = is.shut;
  away = is.away;
  there = is.there;
  took = is.took;
  usable = is.usable;
  tabled = is.tabled;
  on = is.on;
  phase = stands_own granted failed d s own own' (stream_of s is.rest) is.answered is.lost is.phase;
}

-- ---- a unit's turn, as the machine makes it

-- The client and its end are as they were, but for what the end received.
pub record LeavesClient (own own' : EndState) : Type 0 where
  pub session : own'.last_session ≡ own.last_session
  pub registered : own'.registered ≡ own.registered
  pub taken : own'.taken ≡ own.taken
