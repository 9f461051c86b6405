-- What lies between a client and its server unit whose session is over does not depend on the rows and the lines of the server's records.
use Rattle.std.proofs.Common.{◌≡◌, ◌⊎◌, inl, inr, Bool, true, ℕ, List, [], ◌∷◌}
use Rattle.vio_num.specs.declared.entry.Entry.{Entry}
use Rattle.vio_num.specs.declared.history.Grant.{Grant}
use Rattle.vio_num.specs.declared.history.Served.{Served}
use Rattle.crq_session.specs.EndState.{EndState}
use Rattle.block_server.specs.Doings.{Doing, IsAtRest}
use Rattle.vscsi_client.specs.Ports.{Ports}
use Rattle.vscsi_client.specs.State.{ClientState}
use Rattle.vcpu_run.specs.OwnActs.{IsSeenAt}
use Rattle.vcpu_run.specs.OwnOver.{EndsEarly, IsAnew, IsComing, IsGranted, IsIdle, IsLogging, IsNew, IsOver, IsPrepared, IsServing, IsShut, IsStale, IsTaken, IsUnheard, IsWritten, Joins, Rejoins, stream_of}
use Rattle.vcpu_run.specs.PlainTalk.{Ask}

-- a unit that stands there, with other records
abbrev pub at_books : Doing → List Served → List Grant → Doing
at_books d rows lines = record d { rows = rows; lines = lines }

idle_books : (d : Doing) (rows : List Served) (lines : List Grant) → IsIdle d → IsIdle (at_books d rows lines)
idle_books d rows lines is = record { current = is.current; pending = is.pending; stage = is.stage }

early_books : (d : Doing) (rows : List Served) (lines : List Grant) → EndsEarly d → EndsEarly (at_books d rows lines)
early_books d rows lines is = record { entry = is.entry; more = is.more; coming = is.coming; srp = is.srp }

new_books : (d : Doing) (rows : List Served) (lines : List Grant) → IsNew d → IsNew (at_books d rows lines)
new_books d rows lines is = record { going = is.going; waiting = is.waiting; idle = idle_books d rows lines is.idle; kept = is.kept; event = is.event }

shut_books : (d : Doing) (rows : List Served) (lines : List Grant) (s : ClientState) (own : EndState) (stream : List Entry) → IsShut d s own stream → IsShut (at_books d rows lines) s own stream
shut_books d rows lines s own stream is = record { over = is.over; idle = idle_books d rows lines is.idle; kept = is.kept; event = is.event; told = is.told }

stale_books : (d : Doing) (rows : List Served) (lines : List Grant) → IsStale d → IsStale (at_books d rows lines)
stale_books d rows lines is = record { new = new_books d rows lines is.new; early = early_books d rows lines is.early }

unheard_books : (d : Doing) (rows : List Served) (lines : List Grant) (own : EndState) (stream : List Entry) → IsUnheard d own stream → IsUnheard (at_books d rows lines) own stream
unheard_books d rows lines own stream is =
    record { new = new_books d rows lines is.new; registered = is.registered; gone = is.gone; queue = by is.queue; begins = is.begins }
  where
    by : (d.coming ≡ []) ⊎ EndsEarly d → (d.coming ≡ []) ⊎ EndsEarly (at_books d rows lines)
    by (inl none) = inl none
    by (inr early) = inr (early_books d rows lines early)

logging_books : (d : Doing) (rows : List Served) (lines : List Grant) (s : ClientState) (stream : List Entry) → IsLogging d s stream → IsLogging (at_books d rows lines) s stream
logging_books d rows lines s stream is = record { up = is.up; complete = is.complete; entry = is.entry; last = is.last }

anew_books : (d : Doing) (rows : List Served) (lines : List Grant) (s : ClientState) (own : EndState) (stream : List Entry) → IsAnew d s own stream → IsAnew (at_books d rows lines) s own stream
anew_books d rows lines s own stream is = record {
  idle = idle_books d rows lines is.idle;
  kept = is.kept;
  queue = is.queue;
  unsent = is.unsent;
  first = is.first;
  stirs = is.stirs;
  logging = λ on login. logging_books d rows lines s stream (is.logging on login);
}

-- ---- a login that was asked for

coming_books : (d : Doing) (rows : List Served) (lines : List Grant) (own : EndState) (ask : Ask) → IsComing d own ask → IsComing (at_books d rows lines) own ask
coming_books d rows lines own ask is = record {
  idle = idle_books d rows lines is.idle;
  kept = is.kept;
  entry = is.entry;
  front = is.front;
  back = is.back;
  queue = is.queue;
  shakes = is.shakes;
  behind = is.behind;
  shows = is.shows;
}

unfoldable serving_books : (d : Doing) (rows : List Served) (lines : List Grant) (own : EndState) (ask : Ask) → IsServing d own ask → IsServing (at_books d rows lines) own ask
serving_books d rows lines own ask is = record { current = is.current; up = is.up; request = is.request; pending = is.pending; is = is.is; queue = is.queue }

taken_books : (d : Doing) (rows : List Served) (lines : List Grant) (own : EndState) (ask : Ask) → IsTaken d own ask → IsTaken (at_books d rows lines) own ask
taken_books d rows lines own ask is = record { serves = serving_books d rows lines own ask is.serves; stage = is.stage; kept = is.kept; entry = is.entry }

prepared_books : (d : Doing) (rows : List Served) (lines : List Grant) (own : EndState) (ask : Ask) → IsPrepared d own ask → IsPrepared (at_books d rows lines) own ask
prepared_books d rows lines own ask is = record {
  serves = serving_books d rows lines own ask is.serves;
  outcome = is.outcome;
  stage = is.stage;
  grants = is.grants;
  answer = is.answer;
  kept = is.kept;
  entry = is.entry;
}

written_books : (granted : ℕ) (d : Doing) (rows : List Served) (lines : List Grant) (own : EndState) (ask : Ask) → IsWritten granted d own ask → IsWritten granted (at_books d rows lines) own ask
unfolding serving_books
written_books granted d rows lines own ask is = record {
  serves = serving_books d rows lines own ask is.serves;
  outcome = is.outcome;
  stage = is.stage;
  grants = is.grants;
  iu = is.iu;
  stands = is.stands;
  kept = is.kept;
  entry = is.entry;
}

granted_books : (d : Doing) (rows : List Served) (lines : List Grant) (s : ClientState) (own : EndState) (stream : List Entry) → IsGranted d s own stream → IsGranted (at_books d rows lines) s own stream
granted_books d rows lines s own stream is = record {
  current = is.current;
  taking = is.taking;
  outstanding = is.outstanding;
  pending = is.pending;
  stage = is.stage;
  up = is.up;
  kept = is.kept;
  queue = is.queue;
  front = is.front;
  entry = is.entry;
  last = is.last;
  srp = is.srp;
}

joins_books : (granted : ℕ) (d : Doing) (rows : List Served) (lines : List Grant) (s : ClientState) (own : EndState) (stream : List Entry) (answered lost : List Ask)
    → Joins granted d s own stream answered lost → Joins granted (at_books d rows lines) s own stream answered lost
joins_books granted d rows lines s own stream answered lost j = record { ask = j.ask; has = j.has; where_is = by j.where_is }
  where
    by : (((answered ≡ []) × (lost ≡ j.ask ∷ [])) × (IsComing d own j.ask ⊎ (IsTaken d own j.ask ⊎ (IsPrepared d own j.ask ⊎ IsWritten granted d own j.ask))))
        ⊎ (((answered ≡ j.ask ∷ []) × (lost ≡ [])) × IsGranted d s own stream)
        → (((answered ≡ []) × (lost ≡ j.ask ∷ []))
        × (IsComing (at_books d rows lines) own j.ask ⊎ (IsTaken (at_books d rows lines) own j.ask ⊎ (IsPrepared (at_books d rows lines) own j.ask ⊎ IsWritten granted (at_books d rows lines) own j.ask))))
        ⊎ (((answered ≡ j.ask ∷ []) × (lost ≡ [])) × IsGranted (at_books d rows lines) s own stream)
    by (inl (parts, inl c)) = inl (parts, inl (coming_books d rows lines own j.ask c))
    by (inl (parts, inr (inl t))) = inl (parts, inr (inl (taken_books d rows lines own j.ask t)))
    by (inl (parts, inr (inr (inl p)))) = inl (parts, inr (inr (inl (prepared_books d rows lines own j.ask p))))
    by (inl (parts, inr (inr (inr w)))) = inl (parts, inr (inr (inr (written_books granted d rows lines own j.ask w))))
    by (inr (parts, g)) = inr (parts, granted_books d rows lines s own stream g)

rejoins_books : (granted : ℕ) (failed : Bool) (d : Doing) (rows : List Served) (lines : List Grant) (s : ClientState) (own : EndState) (stream : List Entry) (answered lost : List Ask)
    → Rejoins granted failed d s own stream answered lost → Rejoins granted failed (at_books d rows lines) s own stream answered lost
rejoins_books granted failed d rows lines s own stream answered lost is =
    record { going = is.going; event = is.event; open_is = is.open_is; none_gone = is.none_gone; aware = is.aware; there = there is.there; how = how is.how }
  where
    there : (own.registered ≡ true) ⊎ ((failed ≡ true) ⊎ IsAnew d s own stream) → (own.registered ≡ true) ⊎ ((failed ≡ true) ⊎ IsAnew (at_books d rows lines) s own stream)
    there (inl on) = inl on
    there (inr (inl fails)) = inr (inl fails)
    there (inr (inr anew)) = inr (inr (anew_books d rows lines s own stream anew))

    how : IsAnew d s own stream ⊎ Joins granted d s own stream answered lost
        → IsAnew (at_books d rows lines) s own stream ⊎ Joins granted (at_books d rows lines) s own stream answered lost
    how (inl anew) = inl (anew_books d rows lines s own stream anew)
    how (inr joins) = inr (joins_books granted d rows lines s own stream answered lost joins)

-- ---- all of it

pub phase_books : (granted : ℕ) (failed : Bool) (d : Doing) (rows : List Served) (lines : List Grant) (s : ClientState) (own : EndState) (stream : List Entry) (answered lost : List Ask)
    → IsShut d s own stream ⊎ (IsStale d ⊎ (IsUnheard d own stream ⊎ Rejoins granted failed d s own stream answered lost))
    → IsShut (at_books d rows lines) s own stream
    ⊎ (IsStale (at_books d rows lines) ⊎ (IsUnheard (at_books d rows lines) own stream ⊎ Rejoins granted failed (at_books d rows lines) s own stream answered lost))
phase_books granted failed d rows lines s own stream answered lost (inl shut) = inl (shut_books d rows lines s own stream shut)
phase_books granted failed d rows lines s own stream answered lost (inr (inl stale)) = inr (inl (stale_books d rows lines stale))
phase_books granted failed d rows lines s own stream answered lost (inr (inr (inl unheard))) = inr (inr (inl (unheard_books d rows lines own stream unheard)))
phase_books granted failed d rows lines s own stream answered lost (inr (inr (inr rejoins))) =
    inr (inr (inr (rejoins_books granted failed d rows lines s own stream answered lost rejoins)))

-- the same stands between the two, with the same answers
unfoldable pub over_books : (granted : ℕ) (failed : Bool) (d : Doing) (rows : List Served) (lines : List Grant) (s : ClientState) (own : EndState) → IsOver granted failed d s own
    → IsOver granted failed (at_books d rows lines) s own
over_books granted failed d rows lines s own is = record {
  answered = is.answered;
  lost = is.lost;
  answers = is.answers;
  rest = is.rest;
  come = is.come;
  owed = is.owed;
  grants = is.grants;
  most = is.most;
  partner = is.partner;
  to = is.to;
  reaches = is.reaches;
  shut = is.shut;
  away = is.away;
  there = is.there;
  took = is.took;
  usable = is.usable;
  tabled = is.tabled;
  on = is.on;
  phase = phase_books granted failed d rows lines s own (stream_of s is.rest) is.answered is.lost is.phase;
}

pub seen_books : (d : Doing) (rows : List Served) (lines : List Grant) (at : Ports) → IsSeenAt d at → IsSeenAt (at_books d rows lines) at
seen_books d rows lines at is = record {
  alone = is.alone;
  apart = is.apart;
  window = is.window;
  received = is.received;
  on = is.on;
  down = is.down;
  usable = is.usable;
  idle = is.idle;
  events = is.events;
}

pub rest_books : (d : Doing) (rows : List Served) (lines : List Grant) → IsAtRest d → IsAtRest (at_books d rows lines)
rest_books d rows lines (inl free) = inl (record { waiting = free.waiting; stage = free.stage; kept = free.kept })
rest_books d rows lines (inr awaits) = inr (record {
  waiting = awaits.waiting;
  outcome = awaits.outcome;
  stage = awaits.stage;
  request = awaits.request;
  rest = awaits.rest;
  pending = awaits.pending;
  kept = awaits.kept;
  going = awaits.going;
})
