-- A plain client and its server unit at their pair: through which borrows the link is reached does not matter, and what a turn leaves of
-- the window and of what is pending.
use Rattle.std.proofs.Common.{◌≡◌, ◌*◌, ◌<◌, ◌≤◌, ◌∷◌, inl, inr, ℕ, false, List, [], Some, IsSome, refl, sym, ap, subst}
use Rattle.std.specs.Borrow.{GName}
use Rattle.vio_num.specs.declared.history.Grant.{Grant}
use Rattle.crq_session.specs.EndState.{EndState}
use Rattle.tce_window.specs.PortState.{PortState}
use Rattle.srp_iu.specs.declared.unit.Iu.{Iu}
use Rattle.block_server.specs.Ranges.{Known, MayWrite, WritesOn, known_in, seen_in}
use Rattle.block_server.specs.Standing.{stood}
use Rattle.block_server.specs.Talk.{Word, talk_of}
use Rattle.block_server.specs.declared.request.Request.{Request}
use Rattle.vscsi_client.specs.declared.TheConstants.{DATA_START}
use Rattle.vcpu_run.specs.PlainTalk.{AgreeOnLogin, AskedParts, Between, HasRights, InPhase, IsAway, IsBeginning, IsCalm, IsOwnEntry, IsOwnWindow, IsTalking, TalksPlainly}
use Rattle.vcpu_run.proofs.PlainRights.{rights_same}
use Rattle.vcpu_run.proofs.PlainLeaves.{lays_own}
use Rattle.vcpu_run.proofs.PlainTurns.{Turns}

-- ---- through which borrows a link is reached does not matter

abbrev pub lent : List GName → EndState → EndState
lent names end = record end { place = record end.place { lenders = names } }

abbrev pub lent_at : (names owns : List GName) → Between → Between
lent_at names owns at = record at { server = lent names at.server; own = lent owns at.own }

calm_lent : (names owns : List GName) (granted : ℕ) (at : Between) (words : List Word) → IsCalm granted at words → IsCalm granted (lent_at names owns at) words
calm_lent names owns granted at words calm = record {
  registered = calm.registered;
  closing = calm.closing;
  up = calm.up;
  waiting = calm.waiting;
  kept = calm.kept;
  event = calm.event;
  stage = calm.stage;
  grants = calm.grants;
  most = calm.most;
  ends = record {
    server_sees = record {
      partner = calm.ends.server_sees.partner;
      session = calm.ends.server_sees.session;
      received = calm.ends.server_sees.received;
      taken = calm.ends.server_sees.taken;
      slots = calm.ends.server_sees.slots;
    };
    own_sees = record {
      partner = calm.ends.own_sees.partner;
      session = calm.ends.own_sees.session;
      received = calm.ends.own_sees.received;
      taken = calm.ends.own_sees.taken;
      slots = calm.ends.own_sees.slots;
    };
    server_took = calm.ends.server_took;
    own_took = calm.ends.own_took;
  };
  server_slots = calm.server_slots;
  own_slots = calm.own_slots;
  usable = calm.usable;
  said = calm.said;
}

away_lent : (names owns : List GName) (at : Between) (words : List Word) → IsAway at words → IsAway (lent_at names owns at) words
away_lent names owns at words away = record {
  registered = away.registered;
  handshake = away.handshake;
  kept = away.kept;
  due = away.due;
  stale = away.stale;
  heard = away.heard;
}

begun_lent : (names owns : List GName) (at : Between) (words : List Word) → IsBeginning at words → IsBeginning (lent_at names owns at) words
begun_lent names owns at words begun = record {
  registered = begun.registered;
  handshake = begun.handshake;
  due = begun.due;
  granted = begun.granted;
  outgoing = begun.outgoing;
  login = begun.login;
  logout = begun.logout;
  kept = begun.kept;
  held = begun.held;
  vacant = begun.vacant;
  heard = begun.heard;
}

agree_lent : (names owns : List GName) (granted : ℕ) (at : Between) (asked : AskedParts) (answers : List Iu) → AgreeOnLogin granted at asked answers → AgreeOnLogin granted (lent_at names owns at) asked answers
agree_lent names owns granted at asked answers login = record { credits = login.credits; before = login.before; on = login.on; answer = login.answer; grant = login.grant }

pub talk_lent : (names owns : List GName) (granted : ℕ) (at : Between) (words : List Word) (asked : AskedParts) (answers : List Iu) → IsTalking granted at words asked answers
    → IsTalking granted (lent_at names owns at) words asked answers
talk_lent names owns granted at words asked answers talk = record {
  registered = talk.registered;
  handshake = talk.handshake;
  up = talk.up;
  due = talk.due;
  held = talk.held;
  each = talk.each;
  slots = talk.slots;
  tags = talk.tags;
  order = talk.order;
  pending = talk.pending;
  coming = talk.coming;
  few = talk.few;
  may = talk.may;
  answered = talk.answered;
  awaited = talk.awaited;
  logouts = talk.logouts;
  sent = talk.sent;
  stage = talk.stage;
  none = talk.none;
  within = talk.within;
  counts = talk.counts;
  tables = talk.tables;
  starts = talk.starts;
  spared = talk.spared;
  login = agree_lent names owns granted at asked answers talk.login;
}

pub talks_lent : (names owns : List GName) (granted : ℕ) (at : Between) (words : List Word) → TalksPlainly granted at words → TalksPlainly granted (lent_at names owns at) words
talks_lent names owns granted at words talks = record { calm = calm_lent names owns granted at words talks.calm; phase = by talks.phase; tabled = talks.tabled }
  where
    by : InPhase granted at words → InPhase granted (lent_at names owns at) words
    by (inl away) = inl (away_lent names owns at words away)
    by (inr (inl begun)) = inr (inl (begun_lent names owns at words begun))
    by (inr (inr (asked, answers, talk))) = inr (inr (asked, answers, talk_lent names owns granted at words asked answers talk))

-- ---- the window

same_own : (old new : PortState) → IsOwnWindow old → new.place ≡ old.place → Some (known_in new) ≡ Some (known_in old) → IsOwnWindow new
same_own old new own place same =
    let known = held (known_in new) (known_in old) same in
    record {
      values = λ e. subst (IsOwnEntry e) (sym (ap (λ (k : Known). k.values e) known)) (own.values e);
      size = subst (λ n. DATA_START ≤ 4096 * n) (sym (ap (λ place. place.size) place)) own.size;
      most = subst (λ n. n ≤ 256) (sym (ap (λ place. place.size) place)) own.most;
      there = λ p below. subst IsSome (sym (ap (λ (k : Known). k.strokes p) known)) (own.there p (subst (λ n. p < n) (ap (λ place. place.size) place) below));
    }
  where
    held : (a b : Known) → Some a ≡ Some b → a ≡ b
    held a b e = cc (e)

-- a turn of the server unit puts no value, so the rights are as they were
pub rights_behind : (at at' : Between) (lines lines' : List Grant) (words : List Word) → Turns at at' lines lines' words
    → WritesOn (stood at.window) at.unit at.server words (seen_in false at.window) (seen_in false at'.window) → HasRights at.window → HasRights at'.window
rights_behind at at' lines lines' words turn wrote = by turn.middle.pending.items refl
  where
    held : (a b : Known) → Some a ≡ Some b → a ≡ b
    held a b e = cc (e)

    by : (requests : List Request) → turn.middle.pending.items ≡ requests → HasRights at.window → HasRights at'.window
    by [] none =
        rights_same at.window at'.window
        (ap (λ (k : Known). k.values) (held (known_in at'.window) (known_in at.window) (wrote.none (talk_of turn.middle) turn.hears.heard none)))
    by (request ∷ rest) is = rights_same at.window at'.window (wrote.wrote (talk_of turn.middle) request rest turn.hears.heard is).values

pub own_behind : (at at' : Between) (lines lines' : List Grant) (words : List Word) → Turns at at' lines lines' words → IsOwnWindow at.window → at'.window.place ≡ at.window.place
    → WritesOn (stood at.window) at.unit at.server words (seen_in false at.window) (seen_in false at'.window) → IsOwnWindow at'.window
own_behind at at' lines lines' words turn own place wrote = by turn.middle.pending.items refl
  where
    by : (requests : List Request) → turn.middle.pending.items ≡ requests → IsOwnWindow at'.window
    by [] none = same_own at.window at'.window own place (wrote.none (talk_of turn.middle) turn.hears.heard none)
    by (request ∷ rest) is =
        lays_own (MayWrite (stood at.window) request) at.window at'.window own place (wrote.wrote (talk_of turn.middle) request rest turn.hears.heard is)
