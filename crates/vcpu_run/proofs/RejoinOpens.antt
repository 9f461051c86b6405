-- A client beside a server unit whose session is over, or was, registers its queue, finds it registered, or is held up by the event that it keeps.
use Rattle.std.proofs.Common.{◌≡◌, ◌≢◌, ◌∙◌, ◌⊎◌, inl, inr, ℕ, ◌≤◌, ◌++◌, ◌&&◌, All, Bool, true, false, true≢false, IfSome, List, [], ◌∷◌, Option, Some, None, append-nil, arith, drop, length, refl, sym, ap, ap₂, subst}
use Rattle.std.proofs.lemmas.List.Elements.{All-cons, All-head, All-nil, All-tail}
use Rattle.vio_num.specs.Entry.{is_srp_entry}
use Rattle.vio_num.specs.declared.entry.Entry.{Entry}
use Rattle.crq_ring.specs.Sessions.{of_session}
use Rattle.crq_ring.specs.declared.rows.PipeRow.{PipeRow}
use Rattle.crq_session.specs.Answered.{HoldsUp, Opens, Settles, taken_now}
use Rattle.crq_session.specs.EndState.{EndCounts, EndPlace, EndState, OnlyRegisters, OnlyReserves}
use Rattle.crq_session.specs.declared.answers.RegAnswer.{RegAnswer}
use Rattle.crq_session.specs.declared.answers.RegAnswer.TheVariants as reg
use Rattle.crq_session.specs.declared.handshake.Handshake.TheVariants.{Down, Waiting}
use Rattle.block_server.specs.Closings.{is_event}
use Rattle.block_server.specs.Doings.{Doing, rows_to}
use Rattle.block_server.specs.Talk.{to_come}
use Rattle.vscsi_client.specs.Ports.{Ports}
use Rattle.vscsi_client.specs.State.{ClientState}
use Rattle.vscsi_client.specs.Turned.{Registers, RegistersAs, SameHands, Site, Steps, freed_by, registered_by}
use Rattle.vscsi_client.specs.Turned.LoginStep.{Registered}
use Rattle.vcpu_run.specs.OwnActs.{IsSeenAt, IsSettled, StaysOver, left_at}
use Rattle.vcpu_run.specs.OwnOver.{AreShakes, IsAnew, IsAware, IsFresh, IsIdle, IsNews, IsOver, IsShake, IsStale, Rejoins, stream_of}
use Rattle.vcpu_run.specs.PlainTalk.{Ask, IsOwnWindow, grants_one}
use Rattle.vcpu_run.proofs.RejoinLooks.{owed_none}
use Rattle.vcpu_run.proofs.RejoinPhases.{PhaseOver, off_on}
use Rattle.vcpu_run.proofs.RejoinSteps.{StepsTo}
use Rattle.vcpu_run.proofs.OwnStreams.{AreSrp}

-- A client whose queue is not registered, at its ports, and between its calls.
pub record IsOff (granted : ℕ) (d : Doing) (a : Site) : Type 0 where
  pub seen : IsSeenAt d a.at
  pub over : IsOver granted false d a.client a.at.crq
  pub off : a.at.crq.registered ≡ false

-- ---- where both stand then

-- these are events
abbrev pub AreEvents : List Entry → Type 0
AreEvents = All (λ (entry : Entry). is_event entry ≡ true)

shakes_behind : (coming entries : List Entry) → AreShakes coming → AreEvents entries → AreShakes (coming ++ entries)
shakes_behind [] [] all events = All-nil (λ (e : Entry). IsShake e ⊎ (is_event e ≡ true))
shakes_behind [] (entry ∷ entries) all events =
    All-cons (λ (e : Entry). IsShake e ⊎ (is_event e ≡ true)) entry entries (inr (All-head (λ (e : Entry). is_event e ≡ true) entry entries events))
    (shakes_behind [] entries all (All-tail (λ (e : Entry). is_event e ≡ true) entry entries events))
shakes_behind (first ∷ coming) entries all events =
    All-cons (λ (e : Entry). IsShake e ⊎ (is_event e ≡ true)) first (coming ++ entries) (All-head (λ (e : Entry). IsShake e ⊎ (is_event e ≡ true)) first coming all)
    (shakes_behind coming entries (All-tail (λ (e : Entry). IsShake e ⊎ (is_event e ≡ true)) first coming all) events)

registered_aware : (s : ClientState) → IsAware (registered_by s)
registered_aware s = record { granted = refl; outgoing = refl; logout = refl; kept = refl }

-- No login is on.
record OpenPhase (granted : ℕ) (d left : Doing) (s : ClientState) (own : EndState) : Type 0 where
  current : d.logins.current ≡ 0
  phase : PhaseOver granted left s own [] [] []

idle_left : (d : Doing) (at : Ports) (entries : List Entry) → IsIdle d → IsIdle (left_at d at entries)
idle_left d at entries idle = record { current = idle.current; pending = idle.pending; stage = idle.stage }

stale_left : (d : Doing) (at : Ports) (entries : List Entry) → IsStale d → IsStale (left_at d at entries)
stale_left d at entries stale = record {
  new = record { going = stale.new.going; waiting = stale.new.waiting; idle = idle_left d at entries stale.new.idle; kept = stale.new.kept; event = stale.new.event };
  early = record {
    entry = stale.early.entry;
    more = stale.early.more ++ entries;
    coming = ap (λ (list : List Entry). list ++ entries) stale.early.coming;
    srp = stale.early.srp;
  };
}

-- what is registered awaits that the unit hears of it
opened_anew : (d : Doing) (at : Ports) (entries : List Entry) (s : ClientState) (own : EndState) (stream : List Entry) → AreEvents entries → IsAnew d s own stream
    → IsAnew (left_at d at entries) (registered_by s) at.crq []
opened_anew d at entries s own stream events anew = record {
  idle = idle_left d at entries anew.idle;
  kept = anew.kept;
  queue = shakes_behind d.coming entries anew.queue events;
  unsent = λ on tag slot is. cc (is);
  first = λ on kept. (refl, refl);
  stirs = λ on waits. inr (inr (inr ([], refl)));
  logging = λ on logs. absurd (by logs);
}
  where
    by : (false ≡ true) ⊎ (false ≡ true) → ⊥
    by (inl e) = true≢false (sym e)
    by (inr e) = true≢false (sym e)

opened_phase : (granted : ℕ) (d : Doing) (at : Ports) (entries : List Entry) (s : ClientState) (own : EndState) (stream : List Entry) (answered lost : List Ask) → own.registered ≡ false
    → at.crq.registered ≡ true → AreEvents entries → PhaseOver granted d s own stream answered lost → OpenPhase granted d (left_at d at entries) (registered_by s) at.crq
opened_phase granted d at entries s own stream answered lost off on events (inl shut) = record {
  current = shut.idle.current;
  phase = inl (record { over = shut.over; idle = idle_left d at entries shut.idle; kept = shut.kept; event = shut.event; told = inr (inr (inr (inr fresh))) });
}
  where
    fresh : IsFresh (registered_by s) []
    fresh = record { aware = registered_aware s; login = refl; handshake = refl; none = refl; due = refl }
opened_phase granted d at entries s own stream answered lost off on events (inr (inl stale)) =
    record { current = stale.new.idle.current; phase = inr (inl (stale_left d at entries stale)) }
opened_phase granted d at entries s own stream answered lost off on events (inr (inr (inl un))) = absurd (off_on own un.registered off)
opened_phase granted d at entries s own stream answered lost off on events (inr (inr (inr joins))) = by joins.there
  where
    by : (own.registered ≡ true) ⊎ ((false ≡ true) ⊎ IsAnew d s own stream) → OpenPhase granted d (left_at d at entries) (registered_by s) at.crq
    by (inl there) = absurd (off_on own there off)
    by (inr (inl failed)) = absurd (true≢false (sym failed))
    by (inr (inr anew)) = record {
      current = anew.idle.current;
      phase = inr (inr (inr (record {
        going = joins.going;
        event = joins.event;
        open_is = joins.open_is;
        none_gone = λ there. refl;
        aware = λ there. registered_aware s;
        there = inl on;
        how = inl (opened_anew d at entries s own stream events anew);
      })));
    }

-- nothing is known of a client that is held up but that
held_phase_up : (granted : ℕ) (d : Doing) (at : Ports) (s : ClientState) (own : EndState) (stream : List Entry) (answered lost : List Ask) → own.registered ≡ false → at.crq.registered ≡ false
    → PhaseOver granted d s own stream answered lost → PhaseOver granted (left_at d at []) (freed_by s) at.crq [] [] []
held_phase_up granted d at s own stream answered lost off still (inl shut) =
    inl (record { over = shut.over; idle = idle_left d at [] shut.idle; kept = shut.kept; event = shut.event; told = inr (inl still) })
held_phase_up granted d at s own stream answered lost off still (inr (inl stale)) = inr (inl (stale_left d at [] stale))
held_phase_up granted d at s own stream answered lost off still (inr (inr (inl un))) = absurd (off_on own un.registered off)
held_phase_up granted d at s own stream answered lost off still (inr (inr (inr joins))) = inr (inr (inr (by joins.there)))
  where
    at' : IsAnew d s own stream → IsAnew (left_at d at []) (freed_by s) at.crq []
    at' anew = record {
      idle = idle_left d at [] anew.idle;
      kept = anew.kept;
      queue = shakes_behind d.coming [] anew.queue (All-nil (λ (e : Entry). is_event e ≡ true));
      unsent = λ on. absurd (off_on at.crq on still);
      first = λ on. absurd (off_on at.crq on still);
      stirs = λ on. absurd (off_on at.crq on still);
      logging = λ on. absurd (off_on at.crq on still);
    }

    by : (own.registered ≡ true) ⊎ ((false ≡ true) ⊎ IsAnew d s own stream) → Rejoins granted false (left_at d at []) (freed_by s) at.crq [] [] []
    by (inl there) = absurd (off_on own there off)
    by (inr (inl failed)) = absurd (true≢false (sym failed))
    by (inr (inr anew)) = record {
      going = joins.going;
      event = joins.event;
      open_is = joins.open_is;
      none_gone = λ on. refl;
      aware = λ on. absurd (off_on at.crq on still);
      there = inr (inr (at' anew));
      how = inl (at' anew);
    }

-- What is so behind a registration: no answer grants a login.
record OverNone (granted : ℕ) (d : Doing) (s : ClientState) (own : EndState) : Type 0 where
  over : IsOver granted false d s own
  none : grants_one over.answers ≡ false

-- ---- what the unit sees

reaches_left : (d : Doing) (old new : Ports) → IsSeenAt d old → new.crq.place ≡ old.crq.place → d.handshake ≢ Down → (new.crq.place.partner_registered && new.crq.registered) ≡ new.crq.registered
reaches_left d old new seen place up = ap (λ b. b && new.crq.registered) (ap (λ (p : EndPlace). p.partner_registered) place ∙ seen.on up)

shut_left : (d : Doing) (old new : Ports) → IsSeenAt d old → new.crq.place ≡ old.crq.place → d.handshake ≡ Down → (new.crq.place.partner_registered && new.crq.registered) ≡ false
shut_left d old new seen place down = ap (λ b. b && new.crq.registered) (ap (λ (p : EndPlace). p.partner_registered) place ∙ seen.down down)

-- ---- a queue that is registered

-- What was put of the event that was kept.
record PutsKept (old new : EndState) : Type 0 where
  entries : List Entry
  events : AreEvents entries
  put : new.sent ≡ old.sent ++ rows_to old.counts.partner_session entries
  reached : (entries ≡ []) ⊎ (old.place.partner_registered ≡ true)

puts_kept : (old new : EndState) (kept : Option Entry) → new.counts.partner_session ≡ old.counts.partner_session → IfSome kept (λ event. is_event event ≡ true) → Settles false kept old new
    → PutsKept old new
puts_kept old new None counts event settles = record {
  entries = [];
  events = All-nil (λ (e : Entry). is_event e ≡ true);
  put = settles.sent ∙ sym (append-nil old.sent);
  reached = inl refl;
}
puts_kept old new (Some event) counts is (inl puts) = record {
  entries = event ∷ [];
  events = All-cons (λ (e : Entry). is_event e ≡ true) event [] is (All-nil (λ (e : Entry). is_event e ≡ true));
  put = puts.sent ∙ ap (λ (q : ℕ). old.sent ++ record { session = q; entry = event } ∷ []) counts;
  reached = inr (puts.partner refl);
}
puts_kept old new (Some event) counts is (inr loses) = record {
  entries = [];
  events = All-nil (λ (e : Entry). is_event e ≡ true);
  put = loses.none.sent ∙ sym (append-nil old.sent);
  reached = inl refl;
}

-- What a client leaves that registers its queue: nothing is to come.
pub record OpensIn (promised : Bool) (granted : ℕ) (d : Doing) (a b : Site) : Type 0 where
  pub steps : StepsTo promised granted d a b
  pub client : b.client ≡ registered_by a.client
  pub none : to_come b.at.crq ≡ []

opens_in : (promised : Bool) (granted : ℕ) (d : Doing) (a b : Site) (room : EndState) → IsOff granted d a → SameHands a b → OnlyReserves a.at.crq room → OnlyRegisters false room b.at.crq
    → Opens false room b.at.crq → b.client ≡ registered_by a.client → b.at.own ≡ a.at.own → OpensIn promised granted d a b
opens_in promised granted d a b room is hands ready rest opens client window = record {
  steps = record {
    left = left_at d b.at kept.entries;
    rests = record {
      entries = kept.entries;
      put = kept.put ∙ ap₂ (λ (rows : List PipeRow) (q : ℕ). rows ++ rows_to q kept.entries) ready.sent (ap (λ (c : EndCounts). c.partner_session) ready.counts);
      reached = reached kept.reached;
      session = rest.counts.same_session refl ∙ ap (λ (c : EndCounts). c.partner_session) ready.counts;
      place = place;
      is = refl;
    };
    stands = record {
      seen = record {
        alone = hands.crq ∙ is.seen.alone;
        apart = hands.own ∙ is.seen.apart;
        window = refl;
        received = received;
        on = λ up. ap (λ (p : EndPlace). p.partner_registered) place ∙ is.seen.on up;
        down = λ down. ap (λ (p : EndPlace). p.partner_registered) place ∙ is.seen.down down;
        usable = subst IsOwnWindow (sym window) is.seen.usable;
        idle = λ on. opens.kept;
        events = subst (λ (o : Option Entry). IfSome o (λ event. is_event event ≡ true)) (sym opens.kept) tt;
      };
      over = none.over;
      registered = opens.registered;
      kept = subst AreSrp (sym (ap (λ (s : ClientState). s.kept) client)) (All-nil (λ (e : Entry). is_srp_entry e ≡ true));
      logout = subst (λ (s : ClientState). IfSome s.granted (λ _. s.logout ≡ None)) (sym client) tt;
      fewer = λ grants. absurd (true≢false (sym grants ∙ none.none));
    };
  };
  client = client;
  none = come;
}
  where
    place : b.at.crq.place ≡ a.at.crq.place
    place = rest.place ∙ ready.place

    received : b.at.crq.place.received ≡ d.sent
    received = ap (λ (p : EndPlace). p.received) place ∙ is.seen.received

    kept : PutsKept room b.at.crq
    kept = puts_kept room b.at.crq room.kept (rest.counts.same_session refl)
        (subst (λ (o : Option Entry). IfSome o (λ event. is_event event ≡ true)) (sym ready.kept) is.seen.events) opens.settles

    reached : (kept.entries ≡ []) ⊎ (room.place.partner_registered ≡ true) → (kept.entries ≡ []) ⊎ (a.at.crq.place.partner_registered ≡ true)
    reached (inl none) = inl none
    reached (inr there) = inr (sym (ap (λ (p : EndPlace). p.partner_registered) ready.place) ∙ there)

    come : to_come b.at.crq ≡ []
    come = ap₂ (λ (taken list : List Entry). drop (length taken) list) opens.none_taken (opens.none_received refl)

    phase : OpenPhase granted d (left_at d b.at kept.entries) (registered_by a.client) b.at.crq
    phase = opened_phase granted d b.at kept.entries a.client a.at.crq (stream_of a.client is.over.rest) is.over.answered is.over.lost is.off opens.registered kept.events is.over.phase

    none : OverNone granted (left_at d b.at kept.entries) b.client b.at.crq
    none = subst (λ (s : ClientState). OverNone granted (left_at d b.at kept.entries) s b.at.crq) (sym client) (record {
      over = record {
        answered = [];
        lost = [];
        answers = [];
        rest = [];
        come = λ on. sym come ∙ ap (λ (rows : List PipeRow). drop (length (taken_now b.at.crq)) (of_session b.at.crq.last_session rows)) received;
        owed = owed_none granted d.id b.at.own (registered_by a.client) [] (registered_aware a.client) refl refl (All-nil IsNews) tt;
        grants = is.over.grants;
        most = is.over.most;
        partner = refl;
        to = refl;
        reaches = λ up. reaches_left d a.at b.at is.seen place up;
        shut = λ down. (shut_left d a.at b.at is.seen place down, (is.over.shut down).1);
        away = λ off. absurd (off_on b.at.crq opens.registered off);
        there = λ on down. waits_down down;
        took = omega (arith, ap length opens.none_taken);
        usable = subst IsOwnWindow (sym window) is.seen.usable;
        tabled = is.over.tabled;
        on = λ on current. absurd (current phase.current);
        phase = phase.phase;
      };
      none = refl;
    })
      where
        waits_down : Waiting ≡ Down → ⊥
        waits_down e = cc (e)

-- ---- one that is not, since the event that is kept is not put

-- What a client leaves that is held up: it forgot all, and its queue is not registered.
pub record HeldUp (granted : ℕ) (d : Doing) (a b : Site) : Type 0 where
  pub stays : StaysOver granted false d b.client a.at b.at
  pub settled : IsSettled b.client
  pub grants : grants_one stays.over.answers ≡ false
  pub aware : IsAware b.client
  pub off : b.at.crq.registered ≡ false

held_up : (granted number held : ℕ) (d : Doing) (a b : Site) (room : EndState) → IsOff granted d a → SameHands a b → OnlyReserves a.at.crq room → OnlyRegisters false room b.at.crq
    → HoldsUp false room b.at.crq number held → b.client ≡ freed_by a.client → b.at.own ≡ a.at.own → HeldUp granted d a b
held_up granted number held d a b room is hands ready rest holds client window = record {
  stays = record {
    left = left_at d b.at [];
    rests = record {
      entries = [];
      put = holds.kept.full.sent ∙ ready.sent ∙ sym (append-nil a.at.crq.sent);
      reached = inl refl;
      session = rest.counts.same_session refl ∙ ap (λ (c : EndCounts). c.partner_session) ready.counts;
      place = place;
      is = refl;
    };
    seen = record {
      alone = hands.crq ∙ is.seen.alone;
      apart = hands.own ∙ is.seen.apart;
      window = refl;
      received = received;
      on = λ up. ap (λ (p : EndPlace). p.partner_registered) place ∙ is.seen.on up;
      down = λ down. ap (λ (p : EndPlace). p.partner_registered) place ∙ is.seen.down down;
      usable = subst IsOwnWindow (sym window) is.seen.usable;
      idle = λ on. absurd (off_on b.at.crq on holds.still);
      events = subst (λ (o : Option Entry). IfSome o (λ event. is_event event ≡ true)) (sym (holds.kept.kept ∙ ready.kept)) is.seen.events;
    };
    over = none.over;
  };
  settled = subst IsSettled (sym client) (record { held = refl; kept = All-nil (λ (e : Entry). is_srp_entry e ≡ true); logout = tt });
  grants = none.none;
  aware = subst IsAware (sym client) (record { granted = refl; outgoing = refl; logout = refl; kept = refl });
  off = holds.still;
}
  where
    place : b.at.crq.place ≡ a.at.crq.place
    place = rest.place ∙ ready.place

    received : b.at.crq.place.received ≡ d.sent
    received = ap (λ (p : EndPlace). p.received) place ∙ is.seen.received

    session : b.at.crq.last_session ≡ a.at.crq.last_session
    session = holds.session ∙ ready.last_session

    none : OverNone granted (left_at d b.at []) b.client b.at.crq
    none = subst (λ (s : ClientState). OverNone granted (left_at d b.at []) s b.at.crq) (sym client) (record {
      over = record {
        answered = [];
        lost = [];
        answers = [];
        rest = [];
        come = λ on. absurd (off_on b.at.crq on holds.still);
        owed = owed_none granted d.id b.at.own (freed_by a.client) [] (record { granted = refl; outgoing = refl; logout = refl; kept = refl }) refl refl (All-nil IsNews) tt;
        grants = is.over.grants;
        most = is.over.most;
        partner = refl;
        to = refl;
        reaches = λ up. reaches_left d a.at b.at is.seen place up;
        shut = λ down. (shut_left d a.at b.at is.seen place down, (is.over.shut down).1);
        away = λ off. (refl, refl);
        there = λ on. absurd (off_on b.at.crq on holds.still);
        took = subst (λ (q : ℕ). length (of_session q b.at.crq.taken) ≤ length (of_session q d.sent)) (sym session)
            (subst (λ (rows : List PipeRow). length (of_session a.at.crq.last_session rows) ≤ length (of_session a.at.crq.last_session d.sent)) (sym (rest.taken ∙ ready.taken)) is.over.took);
        usable = subst IsOwnWindow (sym window) is.seen.usable;
        tabled = is.over.tabled;
        on = λ on. absurd (off_on b.at.crq on holds.still);
        phase = held_phase_up granted d b.at a.client a.at.crq (stream_of a.client is.over.rest) is.over.answered is.over.lost is.off holds.still is.over.phase;
      };
      none = refl;
    })

-- ---- the step

-- Either the queue is registered now, or the client is held up, which the answer says.
abbrev pub OpenedBy : (promised : Bool) (granted : ℕ) → Doing → (a b : Site) → RegAnswer → Type 0
OpenedBy promised granted d a b (reg.Busy number held) = HeldUp granted d a b
OpenedBy promised granted d a b answer = OpensIn promised granted d a b

pub over_opens : (promised : Bool) (granted line : ℕ) (answer : RegAnswer) (d : Doing) (a b : Site) → IsOff granted d a → Steps line (Registered answer) a b → SameHands a b → OpenedBy promised granted d a b answer
over_opens promised granted line answer d a b is did hands = by answer registers.registers
  where
    registers : Registers false a.client b.client a.at.crq b.at.crq answer
    registers = subst (λ shared. Registers shared a.client b.client a.at.crq b.at.crq answer) is.seen.alone did.0

    by : (answer : RegAnswer) → RegistersAs false a.client b.client registers.room b.at.crq answer → OpenedBy promised granted d a b answer
    by reg.Resource (there, rest, client) = absurd (off_on registers.room there (registers.ready.registered ∙ is.off))
    by reg.Success (opens, open', client) = opens_in promised granted d a b registers.room is hands registers.ready registers.rest opens client did.1
    by (reg.Closed control) (opens, closed, client) = opens_in promised granted d a b registers.room is hands registers.ready registers.rest opens client did.1
    by (reg.Busy number held) (holds, client) = held_up granted number held d a b registers.room is hands registers.ready registers.rest holds client did.1
    by reg.Parameter none = absurd none
