-- In the middle of a turn in which a plain client waits for its login: what it takes and looks at, one entry after the other.
use Rattle.std.proofs.Common.{◌≡◌, ◌∙◌, ◌⊎◌, inl, inr, ℕ, ◌≤◌, ◌++◌, true, false, true≢false, List, [], ◌∷◌, arith, drop, length, length-append, length-drop, refl, sym, ap, ap₂, subst}
use Rattle.std.specs.Prelude.{⊤}
use Rattle.vio_num.specs.declared.entry.Entry.{Entry}
use Rattle.crq_session.specs.Answered.{received_now, taken_now, FindsNone}
use Rattle.crq_session.specs.EndState.{EndPlace, EndState, OnlyTakes, OnlyReserves, Rises}
use Rattle.srp_iu.specs.declared.unit.Iu.{Iu}
use Rattle.tce_window.specs.PortState.{PortState}
use Rattle.block_server.specs.Talk.{to_come}
use Rattle.vscsi_client.specs.State.{ClientState}
use Rattle.vscsi_client.specs.Turned.{Looks, Site, Steps, TakesNext, SameHands, PollsNone}
use Rattle.vscsi_client.specs.Turned.LoginStep.{Looked, Took, TookNone}
use Rattle.vscsi_client.specs.declared.found.Found.{Found}
use Rattle.vcpu_run.proofs.PlainData.{data_kept}
use Rattle.vcpu_run.proofs.PlainSlots.{keeps_same}
use Rattle.vcpu_run.proofs.PlainTaking.{poll_come}
use Rattle.vcpu_run.proofs.PlainTurns.{come_same, own_rows}
use Rattle.vcpu_run.specs.PlainTalk.{AreEnds, AskedParts, Between, IsCalm, IsOwnWindow, IsTalking, ServerStays, TookNoMore, awaited}
use Rattle.vcpu_run.proofs.PlainLooked.{LookedAt, took_looked, takes_on}
use Rattle.vcpu_run.proofs.PlainStill.{StandsStill, all_true, calm_still, reads_leave, talk_still}
use Rattle.crq_ring.proofs.SessionLaws.{of_session-append}
use Rattle.crq_ring.specs.Sessions.{of_session}
use Rattle.crq_ring.specs.declared.rows.PipeRow.{PipeRow}

-- the two in the middle of the client's turn, at this site: the server unit's end knows what the client took so far
abbrev pub mid_at : Between → Site → Between
mid_at at b = record at {
  client = b.client;
  own = b.at.crq;
  window = b.at.own;
  server = record at.server { place = record at.server.place { partner_taken = b.at.crq.taken } };
}

-- the server unit and its end stay as the client takes
pub mid_stays : (at : Between) (b : Site) → AreEnds at.server at.own → OnlyTakes false at.own b.at.crq → TookNoMore b.at.crq
    → ServerStays at (mid_at at b)
mid_stays at b ends only most = record {
  unit = refl;
  session = refl;
  registered = refl;
  kept = refl;
  taken = refl;
  slots = refl;
  ends = record {
    server_sees = record {
      partner = ends.server_sees.partner ∙ sym only.registered;
      session = ends.server_sees.session ∙ sym only.last_session;
      received = ap (λ (place : EndPlace). place.received) only.place ∙ ends.server_sees.received;
      taken = refl;
      slots = ends.server_sees.slots ∙ sym (ap (λ (place : EndPlace). place.own_slots) only.place);
    };
    own_sees = record {
      partner = ap (λ (place : EndPlace). place.partner_registered) only.place ∙ ends.own_sees.partner;
      session = only.counts.same_session refl ∙ ends.own_sees.session;
      received = ends.own_sees.received ∙ sym only.sent;
      taken = ap (λ (place : EndPlace). place.partner_taken) only.place ∙ ends.own_sees.taken;
      slots = ap (λ (place : EndPlace). place.partner_slots) only.place ∙ ends.own_sees.slots;
    };
    server_took = ends.server_took;
    own_took = most;
  };
}

-- it takes no more than it received
pub takes_most : (at mid : ClientState) (old new : EndState) → TakesNext false at mid old new → TookNoMore old → TookNoMore new
takes_most at mid old new takes most =
    omega (arith, most, length-drop (length (taken_now old)) (received_now old), ap length come, ap length received, ap length taken ∙ length-append (taken_now old) (takes.entry ∷ []))
  where
    only : OnlyTakes false old new
    only = takes_on at mid old new takes

    come : to_come old ≡ takes.entry ∷ to_come new
    come = poll_come old new takes.entry (record { room = takes.room; ready = takes.ready; number = takes.number; taken = takes.taken }) only

    received : received_now new ≡ received_now old
    received = ap₂ (λ q (rows : List PipeRow). of_session q rows) only.last_session (ap (λ (place : EndPlace). place.received) only.place)

    taken : taken_now new ≡ taken_now old ++ takes.entry ∷ []
    taken =
        ap₂ (λ q (rows : List PipeRow). of_session q rows) only.last_session
        (takes.taken.taken ∙ ap₂ (λ (rows : List PipeRow) (q : ℕ). rows ++ record { session = q; entry = takes.entry } ∷ []) takes.ready.taken takes.ready.last_session)
        ∙ of_session-append old.last_session old.taken (record { session = old.last_session; entry = takes.entry } ∷ [])
        ∙ ap (λ (list : List Entry). of_session old.last_session old.taken ++ list) (own_rows old.last_session (takes.entry ∷ []))

-- What is so between them at a site where nothing is held.
pub record IsClear (granted : ℕ) (at : Between) (b : Site) (asked : AskedParts) (answers : List Iu) : Type 0 where
  pub calm : IsCalm granted (mid_at at b) []
  pub talk : IsTalking granted (mid_at at b) [] asked answers
  pub crq_alone : b.at.crq_shared ≡ false
  pub own_alone : b.at.own_shared ≡ false

-- What is so once the client took an entry and looked at it.
pub record TookOne (granted : ℕ) (at : Between) (b d : Site) (asked : AskedParts) (answers : List Iu) (found : Found) : Type 0 where
  pub calm : IsCalm granted (mid_at at d) []
  pub looked : LookedAt granted (mid_at at b) (mid_at at d) asked answers found
  pub crq_alone : d.at.crq_shared ≡ false
  pub own_alone : d.at.own_shared ≡ false

-- It took one from the one site, and looked at it then: nothing else came of that.
pub record TookThen (granted : ℕ) (at : Between) (b c d : Site) (found : Found) : Type 0 where
  pub takes : TakesNext false b.client c.client b.at.crq d.at.crq
  pub looks : Looks false c.client d.client b.at.own d.at.own found
  pub only : OnlyTakes false b.at.crq d.at.crq
  pub come : to_come b.at.crq ≡ takes.entry ∷ to_come d.at.crq
  pub stays : ServerStays (mid_at at b) (mid_at at d)
  pub calm : IsCalm granted (mid_at at d) []
  pub crq_alone : d.at.crq_shared ≡ false
  pub own_alone : d.at.own_shared ≡ false

pub took_then : (granted line : ℕ) (at : Between) (b c d : Site) (found : Found) → IsCalm granted (mid_at at b) [] → b.at.crq_shared ≡ false → b.at.own_shared ≡ false
    → Steps line Took b c → SameHands b c → Steps line (Looked found) c d → SameHands c d → TookThen granted at b c d found
took_then granted line at b c d found calm crq own took hands looked hands' = record {
  takes = takes;
  looks = looks;
  only = only;
  come = poll_come b.at.crq d.at.crq takes.entry (record { room = takes.room; ready = takes.ready; number = takes.number; taken = takes.taken }) only;
  stays = stays;
  calm = calm_still granted (mid_at at b) (mid_at at d) calm stays only.sent (ap (λ (place : EndPlace). place.own_slots) only.place)
      (reads_leave b.at.own d.at.own calm.usable looks.reads).own;
  crq_alone = hands'.crq ∙ hands.crq ∙ crq;
  own_alone = hands'.own ∙ hands.own ∙ own;
}
  where
    takes : TakesNext false b.client c.client b.at.crq d.at.crq
    takes = subst (λ (end : EndState). TakesNext false b.client c.client b.at.crq end) (sym looked.1)
        (subst (λ shared. TakesNext shared b.client c.client b.at.crq c.at.crq) crq took.0)

    looks : Looks false c.client d.client b.at.own d.at.own found
    looks = subst (λ (window : PortState). Looks false c.client d.client window d.at.own found) took.1
        (subst (λ shared. Looks shared c.client d.client c.at.own d.at.own found) (hands.own ∙ own) looked.0)

    only : OnlyTakes false b.at.crq d.at.crq
    only = takes_on b.client c.client b.at.crq d.at.crq takes

    stays : ServerStays (mid_at at b) (mid_at at d)
    stays = mid_stays (mid_at at b) d calm.ends only (takes_most b.client c.client b.at.crq d.at.crq takes calm.ends.own_took)

pub takes_looks : (granted line : ℕ) (at : Between) (b c d : Site) (found : Found) (asked : AskedParts) (answers : List Iu) → IsClear granted at b asked answers
    → Steps line Took b c → SameHands b c → Steps line (Looked found) c d → SameHands c d → TookOne granted at b d asked answers found
takes_looks granted line at b c d found asked answers clear took hands looked hands' =
    let then' = took_then granted line at b c d found clear.calm clear.crq_alone clear.own_alone took hands looked hands' in
    record {
      calm = then'.calm;
      looked = took_looked granted (mid_at at b) (mid_at at d) asked answers c.client found clear.calm clear.talk then'.takes then'.looks then'.stays;
      crq_alone = then'.crq_alone;
      own_alone = then'.own_alone;
    }

-- ---- it finds none

-- what was polled in vain is as it was
pub record FindsNothing (old new : EndState) : Type 0 where
  pub only : OnlyTakes false old new
  pub taken : new.taken ≡ old.taken

pub polled : (s s' : ClientState) (old new : EndState) → PollsNone false s s' old new → FindsNothing old new
polled s s' old new polls = record {
  only = record {
    place = polls.rest.place ∙ polls.ready.place;
    last_session = polls.rest.last_session ∙ polls.ready.last_session;
    registered = polls.rest.registered ∙ polls.ready.registered;
    kept = polls.rest.kept ∙ polls.ready.kept;
    sent = polls.rest.sent ∙ polls.ready.sent;
    drops = polls.rest.drops ∙ polls.ready.drops;
    counts = subst (λ counts. Rises false counts new.counts) polls.ready.counts polls.rest.counts;
    full = polls.rest.full ∙ ap (λ counts. counts.full) polls.ready.counts;
    closed = polls.rest.closed ∙ ap (λ counts. counts.closed) polls.ready.counts;
    in_use = polls.rest.in_use ∙ ap (λ counts. counts.in_use) polls.ready.counts;
  };
  taken = by polls.none ∙ polls.ready.taken;
}
  where
    by : FindsNone false polls.room new polls.number ⊎ ((polls.room.registered ≡ false) × OnlyReserves polls.room new) → new.taken ≡ polls.room.taken
    by (inl finds) = finds.taken
    by (inr closed) = closed.1.taken

-- The poll in vain leaves all as it was; and nothing is to come.
pub record TookNothing (granted : ℕ) (at : Between) (b c : Site) : Type 0 where
  pub client : c.client ≡ b.client
  pub calm : IsCalm granted (mid_at at c) []
  pub still : StandsStill (λ o. ⊤) (mid_at at b) (mid_at at c)
  pub registered : c.at.crq.registered ≡ b.at.crq.registered
  pub come : to_come c.at.crq ≡ to_come b.at.crq
  pub none : b.at.crq.registered ≡ true → to_come c.at.crq ≡ []
  pub crq_alone : c.at.crq_shared ≡ false
  pub own_alone : c.at.own_shared ≡ false

none_left : (list : List Entry) → drop (length list) list ≡ []
none_left [] = refl
none_left (entry ∷ list) = none_left list

pub took_nothing : (granted line : ℕ) (at : Between) (b c : Site) → IsCalm granted (mid_at at b) [] → b.at.crq_shared ≡ false → b.at.own_shared ≡ false
    → Steps line TookNone b c → SameHands b c → TookNothing granted at b c
took_nothing granted line at b c calm crq own took hands = record {
  client = polls.client;
  calm = calm_still granted (mid_at at b) (mid_at at c) calm stays found.only.sent (ap (λ (place : EndPlace). place.own_slots) found.only.place)
      (subst IsOwnWindow (sym took.1) calm.usable);
  still = record {
    server = stays;
    client = polls.client;
    sent = found.only.sent;
    registered = found.only.registered;
    kept = found.only.kept;
    come = come;
    slots = ap (λ (place : EndPlace). place.own_slots) found.only.place;
    window = record { own = subst IsOwnWindow (sym took.1) calm.usable; keeps = keeps_same b.at.own c.at.own took.1 };
    spares = all_true (awaited b.client);
    tables = data_kept b.at.own c.at.own took.1;
  };
  registered = found.only.registered;
  come = come;
  none = λ there. come ∙ by there polls.none;
  crq_alone = hands.crq ∙ crq;
  own_alone = hands.own ∙ own;
}
  where
    polls : PollsNone false b.client c.client b.at.crq c.at.crq
    polls = subst (λ shared. PollsNone shared b.client c.client b.at.crq c.at.crq) crq took.0

    found : FindsNothing b.at.crq c.at.crq
    found = polled b.client c.client b.at.crq c.at.crq polls

    come : to_come c.at.crq ≡ to_come b.at.crq
    come = come_same b.at.crq c.at.crq found.only.place found.only.last_session found.taken

    by : b.at.crq.registered ≡ true → FindsNone false polls.room c.at.crq polls.number ⊎ ((polls.room.registered ≡ false) × OnlyReserves polls.room c.at.crq) → to_come b.at.crq ≡ []
    by there (inl finds) =
        sym (come_same b.at.crq polls.room polls.ready.place polls.ready.last_session polls.ready.taken)
        ∙ ap (λ (list : List Entry). drop (length (taken_now polls.room)) list) (finds.all_taken refl) ∙ none_left (taken_now polls.room)
    by there (inr closed) = absurd (true≢false (sym there ∙ sym polls.ready.registered ∙ closed.0))

    most : TookNoMore c.at.crq
    most = subst (λ (n : ℕ). n ≤ length (received_now c.at.crq))
        (sym (ap₂ (λ q (rows : List PipeRow). length (of_session q rows)) found.only.last_session found.taken))
        (subst (λ (n : ℕ). length (taken_now b.at.crq) ≤ n)
        (sym (ap₂ (λ q (rows : List PipeRow). length (of_session q rows)) found.only.last_session (ap (λ (place : EndPlace). place.received) found.only.place)))
        calm.ends.own_took)

    stays : ServerStays (mid_at at b) (mid_at at c)
    stays = mid_stays (mid_at at b) c calm.ends found.only most

pub takes_none : (granted : ℕ) (at : Between) (b c : Site) (asked : AskedParts) (answers : List Iu) → IsClear granted at b asked answers → TookNothing granted at b c
    → IsClear granted at c asked answers
takes_none granted at b c asked answers clear nothing = record {
  calm = nothing.calm;
  talk = talk_still (λ o. ⊤) granted (mid_at at b) (mid_at at c) [] asked answers nothing.still clear.talk;
  crq_alone = nothing.crq_alone;
  own_alone = nothing.own_alone;
}
