-- What is so between a plain client and its server unit stays so where nothing is put, taken or answered, and the slots stay.
use Rattle.std.proofs.Common.{◌≡◌, ◌∙◌, ◌⊎◌, inl, inr, ℕ, ◌*◌, ◌/◌, ◌%◌, ◌<◌, ◌≤◌, ◌++◌, All, true, false, List, [], ◌∷◌, Option, Some, None, IsSome, is_some, length, min, nat_le, refl, sym, ap, ap₂, subst}
use Rattle.std.proofs.lemmas.List.Elements.{All-append, All-cons, All-nil}
use Rattle.std.specs.Prelude.{⊤}
use Rattle.vio_num.specs.declared.entry.Entry.{Entry}
use Rattle.page_slots.specs.Stroke.{StrokeValue}
use Rattle.srp_iu.specs.declared.unit.Iu.{Iu}
use Rattle.tce_window.specs.PortState.{OnlyReads, PortState}
use Rattle.block_server.specs.Talk.{MayAsk, Word, talk_of, to_come}
use Rattle.block_server.specs.declared.unit.Unit.{Unit}
use Rattle.vscsi_client.specs.Sending.{task_of}
use Rattle.vscsi_client.specs.Spans.{meets}
use Rattle.vscsi_client.specs.State.{ClientState}
use Rattle.vscsi_client.specs.Units.{slot_address}
use Rattle.vscsi_client.specs.declared.TheConstants.{DATA_START}
use Rattle.vscsi_client.specs.declared.outgoing.Outgoing.{Outgoing}
use Rattle.vscsi_client.specs.declared.outgoing.Span.{Span}
use Rattle.vscsi_client.specs.declared.stage.Stage.{Stage}
use Rattle.vscsi_client.specs.declared.stage.Stage.TheVariants.{Idle, Sent, Written}
use Rattle.vcpu_run.proofs.PlainData.{data_same, named_kept, names_rest, none_meets}
use Rattle.vcpu_run.specs.PlainTalk.{AreSaidThere, CountsAsked, ArePending, AreStale, AskedParts, Between, HaveAnswers, HearsOfClient, HearsOfGone, InPhase, IsAsk, IsAway, IsBeginning, IsCalm, IsOwnWindow, IsTalking, IsVacant, KeepsTables, KeepsSlots, ServerStays, TagsRise, TalksPlainly, all_asked, awaited, is_logout, is_sent, login_name, name_of, on_behind, StartsAt, IsOwnEntry, shown_on}
use Rattle.vcpu_run.proofs.PlainReady.{all_front}
use Rattle.vcpu_run.proofs.PlainSays.{none_said}
use Rattle.vcpu_run.proofs.PlainServed.{all_spared, answers_move}
use Rattle.vcpu_run.proofs.PlainStays.{grown_same}
use Rattle.vcpu_run.proofs.PlainPuts.{LeavesWindow}
use Rattle.vcpu_run.proofs.PlainTurns.{come_kept}
use Rattle.unit_region.specs.RegionLines.{IsOn}
use Rattle.vcpu_run.proofs.PlainRejected.{says_move}

-- ---- the window

-- a read leaves all as it was
pub reads_leave : (old new : PortState) → IsOwnWindow old → OnlyReads false old new → LeavesWindow (λ slot. ⊤) old new
reads_leave old new own only = record { own = own'; keeps = keeps }
  where
    same : (p : ℕ) → new.strokes p ≡ old.strokes p
    same p = grown_same (old.strokes p) (new.strokes p) (only.strokes p)

    own' : IsOwnWindow new
    own' = record {
      values = λ e. subst (IsOwnEntry e) (sym (ap (λ (values : ℕ → List ℕ). values e) only.values)) (own.values e);
      size = subst (λ n. DATA_START ≤ 4096 * n) (sym (ap (λ place. place.size) only.place)) own.size;
      most = subst (λ n. n ≤ 256) (sym (ap (λ place. place.size) only.place)) own.most;
      there = λ p below. subst IsSome (sym (same p)) (own.there p (subst (λ n. p < n) (ap (λ place. place.size) only.place) below));
    }

    keeps : KeepsSlots (λ slot. ⊤) old new
    keeps = record {
      strokes = λ page stroke is. subst (IsOn stroke) (sym (same page)) is;
      unit = ap (λ place. place.unit) only.place;
      slots = λ slot bytes within spares whole shows.
          ap (λ (now : Option (List StrokeValue)). shown_on now (slot_address slot % 4096) (length bytes)) (same (slot_address slot / 4096)) ∙ shows;
    }

-- what is awaited without a table is spared
pub all_true : (outgoing : List Outgoing) → All (λ o. ⊤) outgoing
all_true [] = All-nil (λ (o : Outgoing). ⊤)
all_true (o ∷ outgoing) = All-cons (λ (o : Outgoing). ⊤) o outgoing tt (all_true outgoing)

pub awaited_spared : (s : ClientState) (span : Span) → All (λ (o : Outgoing). meets o.table span ≡ false) s.outgoing → All (λ (o : Outgoing). meets o.table span ≡ false) (awaited s)
awaited_spared s span all = All-append (λ (o : Outgoing). meets o.table span ≡ false) s.outgoing (login_name s.login) all (by s.login)
  where
    by : (stage : Stage) → All (λ (o : Outgoing). meets o.table span ≡ false) (login_name stage)
    by (Sent tag slot) =
        All-cons (λ (o : Outgoing). meets o.table span ≡ false) (task_of tag slot) [] (none_meets span) (All-nil (λ (o : Outgoing). meets o.table span ≡ false))
    by (Written tag slot) = All-nil (λ (o : Outgoing). meets o.table span ≡ false)
    by Idle = All-nil (λ (o : Outgoing). meets o.table span ≡ false)

-- a read leaves all tables
pub reads_data : (old new : PortState) → OnlyReads false old new → KeepsTables (λ ask. ⊤) old new
reads_data old new only = data_same old new (λ p. grown_same (old.strokes p) (new.strokes p) (only.strokes p))

-- ---- all else

-- Nothing changed between them but what lies in the client's window behind the slots, and room that was made; and not the tables of what is
-- awaited, which is spared.
pub record StandsStill (spared : Outgoing → Type 0) (at at' : Between) : Type 0 where
  pub server : ServerStays at at'
  pub client : at'.client ≡ at.client
  pub sent : at'.own.sent ≡ at.own.sent
  pub registered : at'.own.registered ≡ at.own.registered
  pub kept : at'.own.kept ≡ at.own.kept
  pub come : to_come at'.own ≡ to_come at.own
  pub slots : at'.own.place.own_slots ≡ at.own.place.own_slots
  pub window : LeavesWindow (λ slot. ⊤) at.window at'.window
  pub spares : All spared (awaited at.client)
  pub tables : KeepsTables (λ ask. spared (name_of ask)) at.window at'.window

-- where the client's end put nothing, nothing came to the server unit's
pub server_still : (granted : ℕ) (at at' : Between) → IsCalm granted at [] → ServerStays at at' → at'.own.sent ≡ at.own.sent → to_come at'.server ≡ []
server_still granted at at' calm stays sent =
    come_kept at.server at'.server (stays.ends.own_sees.received ∙ sent ∙ sym calm.ends.own_sees.received) stays.session stays.taken
    ∙ none_said at.window (to_come at.server) calm.said

pub calm_still : (granted : ℕ) (at at' : Between) → IsCalm granted at [] → ServerStays at at' → at'.own.sent ≡ at.own.sent → at'.own.place.own_slots ≡ at.own.place.own_slots
    → IsOwnWindow at'.window → IsCalm granted at' []
calm_still granted at at' calm stays sent slots own = record {
  registered = stays.registered ∙ calm.registered;
  closing = ap (λ (u : Unit). u.line.closing) stays.unit ∙ calm.closing;
  up = λ e. calm.up (sym (ap (λ (u : Unit). u.line.handshake) stays.unit) ∙ e);
  waiting = ap (λ (u : Unit). u.waiting) stays.unit ∙ calm.waiting;
  kept = ap (λ (u : Unit). u.line.kept) stays.unit ∙ calm.kept;
  event = stays.kept ∙ calm.event;
  stage = ap (λ (u : Unit). u.service.stage) stays.unit ∙ calm.stage;
  grants = ap (λ (u : Unit). u.logins.granted) stays.unit ∙ calm.grants;
  most = calm.most;
  ends = stays.ends;
  server_slots = subst (λ n. 256 ≤ n) (sym stays.slots) calm.server_slots;
  own_slots = subst (λ n. 256 ≤ n) (sym slots) calm.own_slots;
  usable = own;
  said = subst (λ (entries : List Entry). AreSaidThere at'.window entries []) (sym (server_still granted at at' calm stays sent)) tt;
}

vacant_still : (at at' : Between) → ServerStays at at' → IsVacant at.unit → IsVacant at'.unit
vacant_still at at' stays = subst IsVacant (sym stays.unit)

away_still : (spared : Outgoing → Type 0) (at at' : Between) → StandsStill spared at at' → IsAway at [] → IsAway at' []
away_still spared at at' still away = record {
  registered = still.registered ∙ away.registered;
  handshake = ap (λ (s : ClientState). s.handshake) still.client ∙ away.handshake;
  kept = still.kept ∙ away.kept;
  due = ap (λ (s : ClientState). s.due) still.client ∙ away.due;
  stale = subst (λ (u : Unit). AreStale u.pending.items) (sym still.server.unit) away.stale;
  heard = by away.heard;
}
  where
    by : HearsOfGone at [] → HearsOfGone at' []
    by (inl one) = inl one
    by (inr none) = inr (refl, vacant_still at at' still.server none.1)

pub begun_still : (spared : Outgoing → Type 0) (at at' : Between) → StandsStill spared at at' → IsBeginning at [] → IsBeginning at' []
begun_still spared at at' still begun = record {
  registered = still.registered ∙ begun.registered;
  handshake = ap (λ (s : ClientState). s.handshake) still.client ∙ begun.handshake;
  due = ap (λ (s : ClientState). s.due) still.client ∙ begun.due;
  granted = ap (λ (s : ClientState). s.granted) still.client ∙ begun.granted;
  outgoing = ap (λ (s : ClientState). s.outgoing) still.client ∙ begun.outgoing;
  login = ap (λ (s : ClientState). s.login) still.client ∙ begun.login;
  logout = ap (λ (s : ClientState). s.logout) still.client ∙ begun.logout;
  kept = ap (λ (s : ClientState). s.kept) still.client ∙ begun.kept;
  held = ap (λ (s : ClientState). s.held) still.client ∙ begun.held;
  vacant = vacant_still at at' still.server begun.vacant;
  heard = by begun.heard;
}
  where
    by : HearsOfClient at [] → HearsOfClient at' []
    by (inl one) = inl (one.0, still.come ∙ one.1)
    by (inr none) = inr (refl, ap (λ (u : Unit). u.line.handshake) still.server.unit ∙ none.1, still.come ∙ none.2)

pub talk_still : (spared : Outgoing → Type 0) (granted : ℕ) (at at' : Between) (words : List Word) (asked : AskedParts) (answers : List Iu) → StandsStill spared at at' → IsTalking granted at words asked answers
    → IsTalking granted at' words asked answers
talk_still spared granted at at' words asked answers still talk = record {
  registered = still.registered ∙ talk.registered;
  handshake = ap (λ (s : ClientState). s.handshake) still.client ∙ talk.handshake;
  up = ap (λ (u : Unit). u.line.handshake) still.server.unit ∙ talk.up;
  due = ap (λ (s : ClientState). s.due) still.client ∙ talk.due;
  held = ap (λ (s : ClientState). s.held) still.client ∙ talk.held;
  each = talk.each;
  slots = talk.slots;
  tags = subst (λ (s : ClientState). TagsRise (length s.rows) (all_asked asked)) (sym still.client) talk.tags;
  order = talk.order;
  pending = subst (λ (u : Unit). ArePending u.pending.items asked.pending) (sym still.server.unit) talk.pending;
  coming = talk.coming;
  few = talk.few;
  may = subst (λ (u : Unit). All (λ one. MayAsk (talk_of u) one.iu) asked.coming) (sym still.server.unit) talk.may;
  answered = subst (λ (list : List Entry). HaveAnswers at'.window list asked.answered answers)
      (sym (ap₂ (λ (kept come : List Entry). kept ++ come) (ap (λ (s : ClientState). s.kept) still.client) still.come))
      (answers_move at.window at'.window (λ slot. ⊤) still.window.keeps (at.client.kept ++ to_come at.own) asked.answered answers (all_spared asked.answered)
      (all_front IsAsk asked.answered (asked.pending ++ asked.coming) talk.each) talk.answered);
  awaited = talk.awaited ∙ sym (ap awaited still.client);
  logouts = subst (λ (s : ClientState). All (λ ask. is_logout ask.iu ≡ true → s.logout ≡ Some ask.slot) (all_asked asked)) (sym still.client) talk.logouts;
  sent = talk.sent ∙ sym (ap (λ (s : ClientState). is_sent s.login) still.client);
  stage = subst (λ (s : ClientState). (s.login ≡ Idle) ⊎ (is_sent s.login ≡ true)) (sym still.client) talk.stage;
  none = λ none. ap (λ (s : ClientState). s.outgoing) still.client ∙ talk.none (sym (ap (λ (s : ClientState). s.granted) still.client) ∙ none);
  within = subst (λ (s : ClientState). length s.outgoing ≤ 200) (sym still.client) talk.within;
  counts = subst (λ (u : Unit). CountsAsked u asked.pending) (sym still.server.unit) talk.counts;
  tables = named_kept spared at.window at'.window still.tables (asked.pending ++ asked.coming)
      (names_rest spared asked.answered (asked.pending ++ asked.coming) (subst (All spared) (sym talk.awaited) still.spares)) talk.tables;
  starts = subst (λ (s : ClientState). All (StartsAt s.rows) (asked.pending ++ asked.coming)) (sym still.client) talk.starts;
  spared = talk.spared;
  login = record {
    credits = subst (λ (s : ClientState). (s.granted ≡ None) ⊎ (s.granted ≡ Some (min granted 200))) (sym still.client) talk.login.credits;
    before = λ no'. ap (λ (s : ClientState). is_some s.granted) still.client ∙ talk.login.before no'
        ∙ ap (λ (u : Unit). on_behind (nat_le 1 u.logins.current) (asked.pending ++ asked.coming)) (sym still.server.unit);
    on = λ some. subst (λ (u : Unit). 1 ≤ u.logins.current) (sym still.server.unit) (talk.login.on some);
    answer = λ some. ap (λ (s : ClientState). is_some s.granted) still.client ∙ talk.login.answer some;
    grant = says_move granted at.unit.id at'.unit.id at.window at'.window (ap (λ (u : Unit). u.id) still.server.unit) still.window.keeps.unit still.window.keeps.strokes answers talk.login.grant;
  };
}

pub plainly_still : (spared : Outgoing → Type 0) (granted : ℕ) (at at' : Between) → TalksPlainly granted at [] → StandsStill spared at at' → TalksPlainly granted at' []
plainly_still spared granted at at' talks still = record {
  calm = calm_still granted at at' talks.calm still.server still.sent still.slots still.window.own;
  phase = by talks.phase;
  tabled = ap (λ (s : ClientState). s.tabled) still.client ∙ talks.tabled;
}
  where
    by : InPhase granted at [] → InPhase granted at' []
    by (inl away) = inl (away_still spared at at' still away)
    by (inr (inl begun)) = inr (inl (begun_still spared at at' still begun))
    by (inr (inr (asked, answers, talk))) = inr (inr (asked, answers, talk_still spared granted at at' [] asked answers still talk))
