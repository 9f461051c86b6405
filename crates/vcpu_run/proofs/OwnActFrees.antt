-- A client's queue is freed, or its event is put, whose server unit's session is over, or was: it stays so.
use Rattle.std.proofs.Common.{◌≡◌, ◌∙◌, ◌⊎◌, inl, inr, ℕ, ◌≤◌, ◌++◌, All, Bool, true, false, true≢false, IfSome, List, [], ◌∷◌, Option, None, append-nil, length, refl, sym, ap, ap₂, subst}
use Rattle.std.proofs.lemmas.List.Elements.{All-cons, All-nil, All-weaker}
use Rattle.vio_num.specs.Entry.{partner_failed, partner_freed}
use Rattle.vio_num.specs.declared.entry.Entry.{Entry}
use Rattle.crq_ring.specs.Sessions.{of_session}
use Rattle.crq_ring.specs.declared.rows.PipeRow.{PipeRow}
use Rattle.crq_session.specs.Answered.{Frees, Keeps, Loses, Puts as PutsEntry, taken_now}
use Rattle.crq_session.specs.EndState.{EndPlace, EndState, OnlyFrees, OnlyReserves}
use Rattle.tce_window.specs.PortState.{PortState}
use Rattle.block_server.specs.Closings.{is_event}
use Rattle.block_server.specs.Doings.{Doing, rows_to}
use Rattle.vscsi_client.specs.Ports.{Ports}
use Rattle.vscsi_client.specs.State.{ClientState}
use Rattle.vscsi_client.specs.Turned.{unlinked}
use Rattle.vscsi_client.specs.declared.stage.Stage.{Stage}
use Rattle.vscsi_client.specs.declared.stage.Stage.TheVariants.{Idle}
use Rattle.vcpu_run.specs.OwnActs.{IsSeenAt, IsSettled, SameHands, StaysOver, left_at}
use Rattle.vcpu_run.specs.OwnOver.{IsOver, IsOwed, IsShake, LoginShows, stream_of}
use Rattle.vcpu_run.specs.PlainTalk.{IsOwnWindow}
use Rattle.vcpu_run.proofs.OwnActLeft.{IsPhase, Leaves, NextOver, stays_over}
use Rattle.vcpu_run.proofs.OwnActOwed.{KnowsSame, TellsSo, owed_by}
use Rattle.vcpu_run.proofs.OwnActPast.{phase_away}
use Rattle.vcpu_run.proofs.OwnActStill.{AreEvents, phase_off}

-- ---- what is put

-- An event was put, or none was; what is kept is an event.
record Told (old new : EndState) (entries : List Entry) : Type 0 where
  put : new.sent ≡ old.sent ++ rows_to old.counts.partner_session entries
  reached : (entries ≡ []) ⊎ (old.place.partner_registered ≡ true)
  events : AreEvents entries
  kept : IfSome new.kept (λ event. is_event event ≡ true)

one_event : (event : Entry) → is_event event ≡ true → AreEvents (event ∷ [])
one_event event is = All-cons (λ (entry : Entry). is_event entry ≡ true) event [] is (All-nil (λ (entry : Entry). is_event entry ≡ true))

kept_none : (kept : Option Entry) → kept ≡ None → IfSome kept (λ event. is_event event ≡ true)
kept_none kept none = subst (λ (k : Option Entry). IfSome k (λ event. is_event event ≡ true)) (sym none) tt

told_one : (old room new : EndState) (event : Entry) → is_event event ≡ true → OnlyReserves old room → new.counts.partner_session ≡ old.counts.partner_session → PutsEntry false room event new
    → IfSome new.kept (λ event. is_event event ≡ true) → Told old new (event ∷ [])
told_one old room new event is ready session puts kept = record {
  put = puts.sent ∙ ap₂ (λ (rows : List PipeRow) (q : ℕ). rows ++ rows_to q (event ∷ [])) ready.sent session;
  reached = inr (ap (λ (place : EndPlace). place.partner_registered) (sym ready.place) ∙ puts.partner refl);
  events = one_event event is;
  kept = kept;
}

told_none : (old room new : EndState) → OnlyReserves old room → new.sent ≡ room.sent → IfSome new.kept (λ event. is_event event ≡ true) → Told old new []
told_none old room new ready sent kept = record {
  put = sent ∙ ready.sent ∙ sym (append-nil old.sent);
  reached = inl refl;
  events = All-nil (λ (entry : Entry). is_event entry ≡ true);
  kept = kept;
}

-- the client's queue was freed
frees_told : (old room new : EndState) (event : Entry) → is_event event ≡ true → OnlyReserves old room → new.counts.partner_session ≡ old.counts.partner_session → Frees false room event new
    → (entries : List Entry) × Told old new entries
frees_told old room new event is ready session frees = by frees.tells
  where
    by : (PutsEntry false room event new × (new.kept ≡ None)) ⊎ (Keeps false room event new ⊎ (Loses false room new × (new.kept ≡ None))) → (entries : List Entry) × Told old new entries
    by (inl (puts, none)) = (event ∷ [], told_one old room new event is ready session puts (kept_none new.kept none))
    by (inr (inl keeps)) = ([], told_none old room new ready keeps.full.sent (subst (λ (k : Option Entry). IfSome k (λ event. is_event event ≡ true)) (sym keeps.kept) is))
    by (inr (inr (loses, none))) = ([], told_none old room new ready loses.none.sent (kept_none new.kept none))

-- ---- the queue was freed

-- What is so of such a call.
pub record Freeing (granted : ℕ) (failed : Bool) (d : Doing) (s s' : ClientState) (old new : Ports) (event : Entry) : Type 0 where
  pub seen : IsSeenAt d old
  pub over : IsOver granted failed d s old.crq
  pub room : EndState
  pub ready : OnlyReserves old.crq room
  pub frees : Frees false room event new.crq
  pub rest : OnlyFrees false room new.crq
  pub own : new.own ≡ old.own
  pub client : s' ≡ unlinked s
  pub hands : SameHands old new

pub frees_over : (granted : ℕ) (failed failed' : Bool) (d : Doing) (s s' : ClientState) (old new : Ports) (event : Entry) → is_event event ≡ true
    → (at : Freeing granted failed d s s' old new event)
    → ((entries : List Entry) → AreEvents entries → IsPhase granted failed' (left_at d new entries) s' new.crq (stream_of s at.over.rest) at.over.answered at.over.lost)
    → StaysOver granted failed' d s' old new
frees_over granted failed failed' d s s' old new event is at phase = stays_over granted failed failed' d s s' old new told.0 at.seen at.over leaves next
  where
    session : new.crq.counts.partner_session ≡ old.crq.counts.partner_session
    session = at.rest.counts.same_session refl ∙ ap (λ counts. counts.partner_session) at.ready.counts

    told : (entries : List Entry) × Told old.crq new.crq entries
    told = frees_told old.crq at.room new.crq event is at.ready session at.frees

    off : new.crq.registered ≡ false
    off = at.frees.freed

    on : old.crq.registered ≡ true
    on = sym at.ready.registered ∙ at.frees.registered

    leaves : Leaves old new told.0
    leaves = record {
      put = told.1.put;
      reached = told.1.reached;
      session = session;
      place = at.rest.place ∙ at.ready.place;
      alone = at.hands.crq ∙ at.seen.alone;
      apart = at.hands.own ∙ at.seen.apart;
      usable = subst IsOwnWindow (sym at.own) at.seen.usable;
      idle = λ there. absurd (true≢false (sym there ∙ off));
      events = told.1.kept;
    }

    stream : stream_of s' at.over.rest ≡ stream_of s at.over.rest
    stream = ap (λ (s : ClientState). stream_of s at.over.rest) at.client

    took : length (taken_now new.crq) ≤ length (of_session new.crq.last_session d.sent)
    took =
        subst (λ (n : ℕ). n ≤ length (of_session new.crq.last_session d.sent))
        (sym (ap₂ (λ (q : ℕ) (rows : List PipeRow). length (of_session q rows)) (at.rest.last_session ∙ at.ready.last_session) (at.rest.taken ∙ at.ready.taken)))
        (subst (λ (q : ℕ). length (taken_now old.crq) ≤ length (of_session q d.sent)) (sym (at.rest.last_session ∙ at.ready.last_session)) at.over.took)

    same : KnowsSame s s'
    same = record {
      rows = ap (λ (s : ClientState). length s.rows) at.client;
      outgoing = ap (λ (s : ClientState). s.outgoing) at.client;
      login = ap (λ (s : ClientState). s.login) at.client;
      logout = ap (λ (s : ClientState). s.logout) at.client;
      granted = ap (λ (s : ClientState). s.granted) at.client;
    }

    owed : IsOwed granted d.id new.own s (stream_of s at.over.rest) at.over.answered at.over.lost at.over.answers
    owed = subst (λ (w : PortState). IsOwed granted d.id w s (stream_of s at.over.rest) at.over.answered at.over.lost at.over.answers) (at.seen.window ∙ sym at.own) at.over.owed

    next : NextOver granted failed' d s' new told.0
    next = record {
      answered = at.over.answered;
      lost = at.over.lost;
      answers = at.over.answers;
      rest = at.over.rest;
      come = λ there. absurd (true≢false (sym there ∙ off));
      owed = owed_by granted d.id new.own new.own s s' (stream_of s at.over.rest) (stream_of s' at.over.rest) at.over.answered at.over.lost at.over.answers same
          (record { unit = refl; strokes = λ page stroke there. there })
          (subst (λ (list : List Entry). TellsSo new.own s'.login list at.over.answered at.over.lost at.over.answers) (sym stream) (record {
            told = owed.told;
            news = owed.news;
            behind = owed.behind;
            written = subst (λ (stage : Stage). All (LoginShows new.own stage) at.over.lost) (sym same.login) owed.written;
          })) owed;
      away = λ is. (ap (λ (s : ClientState). s.handshake) at.client, ap (λ (s : ClientState). s.due) at.client);
      there = λ there. absurd (true≢false (sym there ∙ off));
      took = took;
      tabled = ap (λ (s : ClientState). s.tabled) at.client ∙ at.over.tabled;
      on = λ there. absurd (true≢false (sym there ∙ off));
      phase = subst (λ (list : List Entry). IsPhase granted failed' (left_at d new told.0) s' new.crq list at.over.answered at.over.lost) (sym stream) (phase told.0 told.1.events);
    }

-- the client's partition failed: whatever was under way
pub fails_over : (granted : ℕ) (failed : Bool) (d : Doing) (s s' : ClientState) (old new : Ports) → Freeing granted failed d s s' old new partner_failed → StaysOver granted true d s' old new
fails_over granted failed d s s' old new at =
    frees_over granted failed true d s s' old new partner_failed refl at
    (λ entries events. phase_off granted failed true d s s' old.crq new (stream_of s at.over.rest) entries at.over.answered at.over.lost (ap (λ (s : ClientState). s.login) at.client)
    (at.own ∙ sym at.seen.window) at.frees.freed events (λ on. refl) (λ is. refl) at.over.phase)

-- the client is reset: no login is under way
pub resets_over : (granted : ℕ) (failed : Bool) (d : Doing) (s s' : ClientState) (old new : Ports) → s.login ≡ Idle → Freeing granted failed d s s' old new partner_freed
    → StaysOver granted failed d s' old new
resets_over granted failed d s s' old new idle at =
    frees_over granted failed failed d s s' old new partner_freed refl at
    (λ entries events. phase_away granted failed failed d s s' old.crq new (stream_of s at.over.rest) (stream_of s at.over.rest) entries at.over.answered at.over.answered at.over.lost at.over.lost
    idle at.frees.freed (All-weaker (λ (e : Entry). is_event e ≡ true) (λ (e : Entry). IsShake e ⊎ (is_event e ≡ true)) (λ e is. inr is) entries events) at.over.phase)

-- what is so of the client then is what was
pub unlinked_settled : (s s' : ClientState) → s' ≡ unlinked s → IsSettled s → IsSettled s'
unlinked_settled s s' same settled = subst IsSettled (sym same) (record { held = settled.held; kept = settled.kept; logout = settled.logout })
