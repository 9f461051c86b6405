-- How a turn of a plain client's login begins: its queue is registered, or is now.
use Rattle.std.proofs.Common.{◌≡◌, ◌∙◌, ◌⊎◌, inl, inr, ℕ, ◌≤◌, Bool, true, false, true≢false, List, [], ◌∷◌, arith, length, refl, sym, ap, ap₂, subst}
use Rattle.std.specs.Prelude.{⊤}
use Rattle.crq_ring.specs.Sessions.{of_session}
use Rattle.crq_ring.specs.declared.rows.PipeRow.{PipeRow}
use Rattle.crq_session.specs.Answered.{received_now, taken_now}
use Rattle.crq_session.specs.EndState.{EndCounts, EndPlace, EndState, OnlyReserves, OnlyTakes}
use Rattle.crq_session.specs.declared.answers.RegAnswer.{RegAnswer}
use Rattle.crq_session.specs.declared.answers.RegAnswer.TheVariants as reg
use Rattle.crq_session.specs.declared.handshake.Handshake.{Handshake}
use Rattle.crq_session.specs.declared.handshake.Handshake.TheVariants.{Down, Up, Waiting}
use Rattle.srp_iu.specs.declared.unit.Iu.{Iu}
use Rattle.block_server.specs.Talk.{to_come}
use Rattle.vscsi_client.specs.State.{ClientState}
use Rattle.vscsi_client.specs.Turned.{Registers, RegistersAs, SameHands, Site, Steps, ends_turn}
use Rattle.vscsi_client.specs.Turned.LoginStep.{Registered}
use Rattle.vcpu_run.specs.PlainSteps.{HasFreed, KeptApart, MayLogIn}
use Rattle.vcpu_run.specs.PlainTalk.{AskedParts, Between, InPhase, IsAway, IsBeginning, IsCalm, IsOwnWindow, IsTalking, ServerStays, TalksPlainly, TookNoMore, awaited, is_sent}
use Rattle.vcpu_run.specs.Replay.{Replay}
use Rattle.vcpu_run.proofs.PlainAways.{Opened}
use Rattle.vcpu_run.proofs.PlainBegins.{registers_anew, registers_going}
use Rattle.vcpu_run.proofs.PlainData.{data_kept}
use Rattle.vcpu_run.proofs.PlainLogins.{agree_none}
use Rattle.vcpu_run.proofs.PlainMids.{mid_at, mid_stays}
use Rattle.vcpu_run.proofs.PlainPauses.{Starts}
use Rattle.vcpu_run.proofs.PlainReady.{own_few}
use Rattle.vcpu_run.proofs.PlainRests.{AtRest, Rests, idle_apart}
use Rattle.vcpu_run.proofs.PlainSlots.{keeps_same}
use Rattle.vcpu_run.proofs.PlainStill.{StandsStill, all_true, begun_still, calm_still, talk_still}
use Rattle.vcpu_run.proofs.PlainTurns.{come_same}

-- ---- a queue that is registered

-- The registration found it so, and changed nothing but the room.
pub record FindsOpen (s s' : ClientState) (old new : EndState) (answer : RegAnswer) : Type 0 where
  pub ready : OnlyReserves old new
  pub client : s' ≡ s
  pub going : ends_turn (Registered answer) ≡ false

pub reserves_on : (a b c : EndState) → OnlyReserves a b → OnlyReserves b c → OnlyReserves a c
reserves_on a b c first next = record {
  place = next.place ∙ first.place;
  last_session = next.last_session ∙ first.last_session;
  registered = next.registered ∙ first.registered;
  kept = next.kept ∙ first.kept;
  sent = next.sent ∙ first.sent;
  drops = next.drops ∙ first.drops;
  taken = next.taken ∙ first.taken;
  counts = next.counts ∙ first.counts;
}

pub finds_open : (s s' : ClientState) (old new : EndState) (answer : RegAnswer) → old.registered ≡ true → Registers false s s' old new answer → FindsOpen s s' old new answer
finds_open s s' old new answer there registers = by answer registers.registers
  where
    room : registers.room.registered ≡ true
    room = registers.ready.registered ∙ there

    by : (answer : RegAnswer) → RegistersAs false s s' registers.room new answer → FindsOpen s s' old new answer
    by reg.Resource (is, ready, client) = record { ready = reserves_on old registers.room new registers.ready ready; client = client; going = refl }
    by reg.Success (opens, open', client) = absurd (true≢false (sym room ∙ opens.unregistered))
    by (reg.Closed control) (opens, closed, client) = absurd (true≢false (sym room ∙ opens.unregistered))
    by (reg.Busy number held) (holds, client) = absurd (true≢false (sym room ∙ holds.unregistered))
    by reg.Parameter none = absurd none

-- the counts are as they were
pub takes_nothing : (old new : EndState) → OnlyReserves old new → OnlyTakes false old new
takes_nothing old new ready = record {
  place = ready.place;
  last_session = ready.last_session;
  registered = ready.registered;
  kept = ready.kept;
  sent = ready.sent;
  drops = ready.drops;
  counts = record {
    partner_session = omega (arith, ap (λ (c : EndCounts). c.partner_session) ready.counts);
    same_session = λ alone. ap (λ (c : EndCounts). c.partner_session) ready.counts;
    full = omega (arith, ap (λ (c : EndCounts). c.full) ready.counts);
    empty = omega (arith, ap (λ (c : EndCounts). c.empty) ready.counts);
    closed = omega (arith, ap (λ (c : EndCounts). c.closed) ready.counts);
    in_use = omega (arith, ap (λ (c : EndCounts). c.in_use) ready.counts);
  };
  full = ap (λ (c : EndCounts). c.full) ready.counts;
  closed = ap (λ (c : EndCounts). c.closed) ready.counts;
  in_use = ap (λ (c : EndCounts). c.in_use) ready.counts;
}

-- How both have come there.
abbrev pub StandsOpen : (granted : ℕ) → Between → Type 0
StandsOpen granted at = IsBeginning at [] ⊎ ((asked : AskedParts) × (answers : List Iu) × IsTalking granted at [] asked answers × KeptApart at.client)

pub rests_start : (granted line : ℕ) (at : Between) (a b : Site) (answer : RegAnswer) → a.client ≡ at.client → a.at.crq ≡ at.own → a.at.own ≡ at.window → a.at.crq_shared ≡ false
    → a.at.own_shared ≡ false → at.own.registered ≡ true → IsCalm granted at [] → StandsOpen granted at → Steps line (Registered answer) a b → SameHands a b
    → Rests granted at (Registered answer ∷ []) b × (ends_turn (Registered answer) ≡ false)
rests_start granted line at a b answer client crq own crq_alone own_alone there calm stands did hands = (
  record {
    since = record {
      registered = finds.ready.registered;
      granted = ap (λ (s : ClientState). s.granted) finds.client;
      outgoing = ap (λ (s : ClientState). s.outgoing) finds.client;
      login = ap (λ (s : ClientState). s.login) finds.client;
      tabled = ap (λ (s : ClientState). s.tabled) finds.client;
      rows = ap (λ (s : ClientState). s.rows) finds.client;
    };
    counts = record { left = omega (arith, ap length come); spent = λ last. absurd (true≢false (sym last)); unused = refl };
    rest = by stands;
  },
  finds.going,
)
  where
    registers : Registers false at.client b.client at.own b.at.crq answer
    registers = subst (λ (s : ClientState). Registers false s b.client at.own b.at.crq answer) client
        (subst (λ (end : EndState). Registers false a.client b.client end b.at.crq answer) crq
        (subst (λ shared. Registers shared a.client b.client a.at.crq b.at.crq answer) crq_alone did.0))

    finds : FindsOpen at.client b.client at.own b.at.crq answer
    finds = finds_open at.client b.client at.own b.at.crq answer there registers

    window : b.at.own ≡ at.window
    window = did.1 ∙ own

    come : to_come b.at.crq ≡ to_come at.own
    come = come_same at.own b.at.crq finds.ready.place finds.ready.last_session finds.ready.taken

    most : TookNoMore b.at.crq
    most = subst (λ (n : ℕ). n ≤ length (received_now b.at.crq))
        (sym (ap₂ (λ q (rows : List PipeRow). length (of_session q rows)) finds.ready.last_session finds.ready.taken))
        (subst (λ (n : ℕ). length (taken_now at.own) ≤ n)
        (sym (ap₂ (λ q (rows : List PipeRow). length (of_session q rows)) finds.ready.last_session (ap (λ (place : EndPlace). place.received) finds.ready.place)))
        calm.ends.own_took)

    stays : ServerStays at (mid_at at b)
    stays = mid_stays at b calm.ends (takes_nothing at.own b.at.crq finds.ready) most

    slots : b.at.crq.place.own_slots ≡ at.own.place.own_slots
    slots = ap (λ (place : EndPlace). place.own_slots) finds.ready.place

    still : StandsStill (λ o. ⊤) at (mid_at at b)
    still = record {
      server = stays;
      client = finds.client;
      sent = finds.ready.sent;
      registered = finds.ready.registered;
      kept = finds.ready.kept;
      come = come;
      slots = slots;
      window = record { own = subst IsOwnWindow (sym window) calm.usable; keeps = keeps_same at.window b.at.own window };
      spares = all_true (awaited at.client);
      tables = data_kept at.window b.at.own window;
    }

    calm' : IsCalm granted (mid_at at b) []
    calm' = calm_still granted at (mid_at at b) calm stays finds.ready.sent slots (subst IsOwnWindow (sym window) calm.usable)

    by : StandsOpen granted at → AtRest granted at b
    by (inl begun) = inl (record {
      calm = calm';
      begun = begun_still (λ o. ⊤) at (mid_at at b) still begun;
      crq_alone = hands.crq ∙ crq_alone;
      own_alone = hands.own ∙ own_alone;
    })
    by (inr (asked, answers, talk, apart)) = inr (record {
      asked = asked;
      answers = answers;
      clear = record {
        calm = calm';
        talk = talk_still (λ o. ⊤) granted at (mid_at at b) [] asked answers still talk;
        crq_alone = hands.crq ∙ crq_alone;
        own_alone = hands.own ∙ own_alone;
      };
      apart = subst KeptApart (sym finds.client) apart;
    })

up_waits : (handshake : Handshake) → handshake ≡ Up → handshake ≡ Waiting → ⊥
up_waits handshake up waits = cc (up, waits)

down_waits : (handshake : Handshake) → handshake ≡ Down → handshake ≡ Waiting → ⊥
down_waits handshake down waits = cc (down, waits)

-- What the replay says of where such a turn begins.
pub record OpensWith (granted : ℕ) (now : Replay) (at : Between) : Type 0 where
  pub starts : Starts granted now at
  pub stands : StandsOpen granted at

pub opens_with : (granted : ℕ) (now : Replay) (at : Between) → TalksPlainly granted at [] → MayLogIn granted now at → at.own.registered ≡ true → OpensWith granted now at
opens_with granted now at talks may there = by talks.phase may
  where
    few : length (to_come at.own) ≤ 202
    few = own_few granted at [] talks.phase there

    begun_with : IsBeginning at [] → MayLogIn granted now at → OpensWith granted now at
    begun_with begun (inl (inl follows)) = absurd (follows.settled begun.handshake)
    begun_with begun (inl (inr (inl awaits))) = record {
      starts = record {
        few = few;
        slots = talks.calm.own_slots;
        tabled = talks.tabled;
        started = inl (record { idle = begun.login; tag = awaits.tag; credits = agree_none granted now at awaits.off awaits.none begun.granted begun.outgoing });
      };
      stands = inl begun;
    }
    begun_with begun (inl (inr (inr sent))) = absurd (true≢false (sym sent.login ∙ ap is_sent begun.login))
    begun_with begun (inr freed) = absurd (true≢false (sym there ∙ freed.0.registered))

    talking_with : (asked : AskedParts) (answers : List Iu) → IsTalking granted at [] asked answers → MayLogIn granted now at → OpensWith granted now at
    talking_with asked answers talk (inl (inl follows)) = record {
      starts = record {
        few = few;
        slots = talks.calm.own_slots;
        tabled = talks.tabled;
        started = inl (record { idle = follows.login; tag = follows.tag; credits = follows.credits });
      };
      stands = inr (asked, answers, talk, idle_apart at.client follows.login);
    }
    talking_with asked answers talk (inl (inr (inl awaits))) = absurd (up_waits at.client.handshake talk.handshake awaits.waits)
    talking_with asked answers talk (inl (inr (inr sent))) = record {
      starts = record { few = few; slots = talks.calm.own_slots; tabled = talks.tabled; started = inr sent };
      stands = inr (asked, answers, talk, sent.apart);
    }
    talking_with asked answers talk (inr freed) = absurd (true≢false (sym there ∙ freed.0.registered))

    by : InPhase granted at [] → MayLogIn granted now at → OpensWith granted now at
    by (inl away) may = absurd (true≢false (sym there ∙ away.registered))
    by (inr (inl begun)) may = begun_with begun may
    by (inr (inr (asked, answers, talk))) may = talking_with asked answers talk may

-- ---- a queue that is not registered

-- Nothing is on there, and nothing outstanding.
pub record GoneWith (granted : ℕ) (now : Replay) (at : Between) : Type 0 where
  pub away : IsAway at []
  pub freed : HasFreed now at
  pub off : now.is_on ≡ false
  pub none : now.outstanding ≡ []

off_by : (on there : Bool) → (on ≡ true → there ≡ true) → there ≡ false → on ≡ false
off_by true there has gone = absurd (true≢false (sym (has refl) ∙ gone))
off_by false there has gone = refl

pub gone_with : (granted : ℕ) (now : Replay) (at : Between) → TalksPlainly granted at [] → MayLogIn granted now at → at.own.registered ≡ false → GoneWith granted now at
gone_with granted now at talks may gone = by talks.phase may
  where
    away_with : IsAway at [] → MayLogIn granted now at → GoneWith granted now at
    away_with away (inl (inl follows)) =
        let off = off_by now.is_on at.own.registered follows.credits.there gone in
        record { away = away; freed = record { registered = gone; tag = follows.tag }; off = off; none = follows.credits.none off }
    away_with away (inl (inr (inl awaits))) = absurd (down_waits at.client.handshake away.handshake awaits.waits)
    away_with away (inl (inr (inr sent))) = absurd (true≢false (sym sent.registered ∙ gone))
    away_with away (inr freed) = record { away = away; freed = freed.0; off = freed.1; none = freed.2 }

    by : InPhase granted at [] → MayLogIn granted now at → GoneWith granted now at
    by (inl away) may = away_with away may
    by (inr (inl begun)) may = absurd (true≢false (sym begun.registered ∙ gone))
    by (inr (inr (asked, answers, talk))) may = absurd (true≢false (sym talk.registered ∙ gone))

pub opened_start : (granted line : ℕ) (at : Between) (a b : Site) (answer : RegAnswer) → a.client ≡ at.client → a.at.crq ≡ at.own → a.at.own ≡ at.window → a.at.crq_shared ≡ false
    → IsCalm granted at [] → IsAway at [] → Steps line (Registered answer) a b → SameHands a b → Opened at (Registered answer ∷ []) b × (ends_turn (Registered answer) ≡ false)
opened_start granted line at a b answer client crq own crq_alone calm away did hands = (
  record {
    opens = registers_anew granted at b.client b.at.crq answer calm away registers;
    window = did.1 ∙ own;
    crq_alone = hands.crq ∙ crq_alone;
    no_put = λ due answer last. cc (last.is);
  },
  registers_going granted at b.client b.at.crq answer calm away registers,
)
  where
    registers : Registers false at.client b.client at.own b.at.crq answer
    registers = subst (λ (s : ClientState). Registers false s b.client at.own b.at.crq answer) client
        (subst (λ (end : EndState). Registers false a.client b.client end b.at.crq answer) crq
        (subst (λ shared. Registers shared a.client b.client a.at.crq b.at.crq answer) crq_alone did.0))
