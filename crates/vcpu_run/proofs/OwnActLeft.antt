-- A client's step beside a server unit whose session is over, or was: what it leaves of where the unit stands.
use Rattle.std.proofs.Common.{◌≡◌, ◌≢◌, ◌∙◌, ◌⊎◌, true≢false, inl, inr, ℕ, ◌++◌, ◌≤◌, ◌&&◌, Bool, true, false, IfSome, List, [], None, append_assoc, length, refl, sym, ap, ap₂}
use Rattle.std.proofs.lemmas.List.{map-append}
use Rattle.std.proofs.lemmas.List.Elements.{All-append}
use Rattle.vio_num.specs.declared.entry.Entry.{Entry}
use Rattle.crq_ring.specs.Sessions.{of_session}
use Rattle.crq_ring.specs.declared.rows.PipeRow.{PipeRow}
use Rattle.crq_session.specs.Answered.{taken_now}
use Rattle.crq_session.specs.EndState.{EndPlace, EndState}
use Rattle.crq_session.specs.declared.handshake.Handshake.TheVariants.{Down}
use Rattle.srp_iu.specs.declared.unit.Iu.{Iu}
use Rattle.block_server.specs.Closings.{is_event}
use Rattle.block_server.specs.Doings.{Doing, rows_to}
use Rattle.vscsi_client.specs.Ports.{Ports}
use Rattle.vscsi_client.specs.State.{ClientState}
use Rattle.vcpu_run.specs.OwnActs.{IsSeenAt, RestsAt, StaysOver, left_at}
use Rattle.vcpu_run.specs.OwnOver.{AreShakes, EndsEarly, IsAnew, IsIdle, IsNew, IsOver, IsOwed, IsShake, IsShut, IsStale, IsUnheard, Rejoins, coming_to, stream_of}
use Rattle.vcpu_run.specs.PlainTalk.{Ask, IsOwnWindow, grants_one}

-- ---- one step behind the other

pub rests_on : (d e f : Doing) (a b c : Ports) → RestsAt d e a b → RestsAt e f b c → RestsAt d f a c
rests_on d e f a b c first next = record {
  entries = first.entries ++ next.entries;
  put = next.put ∙ ap₂ (λ (rows : List PipeRow) (q : ℕ). rows ++ rows_to q next.entries) first.put first.session
      ∙ append_assoc a.crq.sent (rows_to a.crq.counts.partner_session first.entries) (rows_to a.crq.counts.partner_session next.entries)
      ∙ ap (λ (rows : List PipeRow). a.crq.sent ++ rows) (sym (map-append (λ (entry : Entry). record { session = a.crq.counts.partner_session; entry = entry }) first.entries next.entries));
  reached = by first.reached next.reached;
  session = next.session ∙ first.session;
  place = next.place ∙ first.place;
  is = next.is ∙ ap (λ (at : Doing). left_at at c next.entries) first.is
      ∙ ap (λ (coming : List Entry). record (left_at d c []) { coming = coming }) (append_assoc d.coming first.entries next.entries);
}
  where
    by : (first.entries ≡ []) ⊎ (a.crq.place.partner_registered ≡ true) → (next.entries ≡ []) ⊎ (b.crq.place.partner_registered ≡ true)
        → (first.entries ++ next.entries ≡ []) ⊎ (a.crq.place.partner_registered ≡ true)
    by (inr there) also = inr there
    by (inl empty) (inl last) = inl (ap₂ (λ (xs ys : List Entry). xs ++ ys) empty last)
    by (inl empty) (inr there) = inr (sym (ap (λ (place : EndPlace). place.partner_registered) first.place) ∙ there)

-- ---- what is built of a step

-- What a step leaves at the ports, these having been put.
pub record Leaves (old new : Ports) (entries : List Entry) : Type 0 where
  pub put : new.crq.sent ≡ old.crq.sent ++ rows_to old.crq.counts.partner_session entries
  pub reached : (entries ≡ []) ⊎ (old.crq.place.partner_registered ≡ true)
  pub session : new.crq.counts.partner_session ≡ old.crq.counts.partner_session
  pub place : new.crq.place ≡ old.crq.place
  pub alone : new.crq_shared ≡ false
  pub apart : new.own_shared ≡ false
  pub usable : IsOwnWindow new.own
  pub idle : new.crq.registered ≡ true → new.crq.kept ≡ None
  pub events : IfSome new.crq.kept (λ event. is_event event ≡ true)

abbrev pub IsPhase : (granted : ℕ) (failed : Bool) → Doing → ClientState → EndState → (stream : List Entry) → (answered lost : List Ask) → Type 0
IsPhase granted failed d s own stream answered lost =
    IsShut d s own stream ⊎ (IsStale d ⊎ (IsUnheard d own stream ⊎ Rejoins granted failed d s own stream answered lost))

-- What it leaves of the client, and between it and its unit.
pub record NextOver (granted : ℕ) (failed : Bool) (d : Doing) (s : ClientState) (new : Ports) (entries : List Entry) : Type 0 where
  pub answered : List Ask
  pub lost : List Ask
  pub answers : List Iu
  pub rest : List Entry
  pub come : new.crq.registered ≡ true → rest ≡ coming_to new.crq d.sent
  pub owed : IsOwed granted d.id new.own s (stream_of s rest) answered lost answers
  pub away : new.crq.registered ≡ false → (s.handshake ≡ Down) × (s.due ≡ [])
  pub there : new.crq.registered ≡ true → s.handshake ≢ Down
  pub took : length (taken_now new.crq) ≤ length (of_session new.crq.last_session d.sent)
  pub tabled : s.tabled ≡ None
  pub on : new.crq.registered ≡ true → d.logins.current ≢ 0 → grants_one answers ≡ true
  pub phase : IsPhase granted failed (left_at d new entries) s new.crq (stream_of s rest) answered lost

pub stays_over : (granted : ℕ) (failed failed' : Bool) (d : Doing) (s s' : ClientState) (old new : Ports) (entries : List Entry) → IsSeenAt d old → IsOver granted failed d s old.crq
    → Leaves old new entries → NextOver granted failed' d s' new entries → StaysOver granted failed' d s' old new
stays_over granted failed failed' d s s' old new entries seen over leaves next = record {
  left = left_at d new entries;
  rests = record { entries = entries; put = leaves.put; reached = leaves.reached; session = leaves.session; place = leaves.place; is = refl };
  seen = record {
    alone = leaves.alone;
    apart = leaves.apart;
    window = refl;
    received = ap (λ (place : EndPlace). place.received) leaves.place ∙ seen.received;
    on = on;
    down = down;
    usable = leaves.usable;
    idle = leaves.idle;
    events = leaves.events;
  };
  over = record {
    answered = next.answered;
    lost = next.lost;
    answers = next.answers;
    rest = next.rest;
    come = next.come;
    owed = next.owed;
    grants = over.grants;
    most = over.most;
    partner = refl;
    to = refl;
    reaches = λ up. ap (λ b. b && new.crq.registered) (on up);
    shut = λ is. (ap (λ b. b && new.crq.registered) (down is), (over.shut is).1);
    away = next.away;
    there = next.there;
    took = next.took;
    usable = leaves.usable;
    tabled = next.tabled;
    on = next.on;
    phase = next.phase;
  };
}
  where
    on : d.handshake ≢ Down → new.crq.place.partner_registered ≡ true
    on up = ap (λ (place : EndPlace). place.partner_registered) leaves.place ∙ seen.on up

    down : d.handshake ≡ Down → new.crq.place.partner_registered ≡ false
    down is = ap (λ (place : EndPlace). place.partner_registered) leaves.place ∙ seen.down is

-- So both are behind a step, and these are the answers that the client is to look at.
abbrev pub StaysTelling : (granted : ℕ) (failed : Bool) → Doing → ClientState → (old new : Ports) → (answers : List Iu) → Type 0
StaysTelling granted failed d s old new answers = (on : StaysOver granted failed d s old new) × (on.over.answers ≡ answers)

pub stays_telling : (granted : ℕ) (failed failed' : Bool) (d : Doing) (s s' : ClientState) (old new : Ports) (entries : List Entry) → IsSeenAt d old → IsOver granted failed d s old.crq
    → Leaves old new entries → (next : NextOver granted failed' d s' new entries) → StaysTelling granted failed' d s' old new next.answers
unfolding stays_over
stays_telling granted failed failed' d s s' old new entries seen over leaves next = (stays_over granted failed failed' d s s' old new entries seen over leaves next, refl)

-- ---- what is so of the unit that stands still

pub idle_left : (d : Doing) (at : Ports) (entries : List Entry) → IsIdle d → IsIdle (left_at d at entries)
idle_left d at entries idle = record { current = idle.current; pending = idle.pending; stage = idle.stage }

pub new_left : (d : Doing) (at : Ports) (entries : List Entry) → IsNew d → IsNew (left_at d at entries)
new_left d at entries new = record { going = new.going; waiting = new.waiting; idle = idle_left d at entries new.idle; kept = new.kept; event = new.event }

-- what is to come is an SRP entry first, whatever comes behind it
pub early_left : (d : Doing) (at : Ports) (entries : List Entry) → EndsEarly d → EndsEarly (left_at d at entries)
early_left d at entries early = record {
  entry = early.entry;
  more = early.more ++ entries;
  coming = ap (λ (coming : List Entry). coming ++ entries) early.coming;
  srp = early.srp;
}

pub stale_left : (d : Doing) (at : Ports) (entries : List Entry) → IsStale d → IsStale (left_at d at entries)
stale_left d at entries stale = record { new = new_left d at entries stale.new; early = early_left d at entries stale.early }

-- Both begin anew, and the client's queue is not registered: so it is behind what shakes, or events.
pub anew_away : (d : Doing) (s s' : ClientState) (own : EndState) (new : Ports) (stream stream' : List Entry) (entries : List Entry) → new.crq.registered ≡ false → AreShakes entries
    → IsAnew d s own stream → IsAnew (left_at d new entries) s' new.crq stream'
anew_away d s s' own new stream stream' entries off shakes anew = record {
  idle = idle_left d new entries anew.idle;
  kept = anew.kept;
  queue = All-append (λ (entry : Entry). IsShake entry ⊎ (is_event entry ≡ true)) d.coming entries anew.queue shakes;
  unsent = λ on. absurd (true≢false (sym on ∙ off));
  first = λ on. absurd (true≢false (sym on ∙ off));
  stirs = λ on. absurd (true≢false (sym on ∙ off));
  logging = λ on. absurd (true≢false (sym on ∙ off));
}
