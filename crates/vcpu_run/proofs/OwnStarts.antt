-- A turn of a server unit begins, while its client talks to it: what lies between them is so of where the unit stands.
use Rattle.std.proofs.Common.{◌≡◌, ◌≢◌, ◌∙◌, ℕ, ◌≤◌, ◌++◌, ◌&&◌, ◌||◌, All, Bool, List, [], None, drop, length, refl, sym, ap, ap₂, subst}
use Rattle.std.proofs.lemmas.List.Elements.{All-nil}
use Rattle.vio_num.specs.declared.history.Grant.{Grant}
use Rattle.vio_num.specs.declared.history.Served.{Served}
use Rattle.vio_num.specs.declared.names.UnitId.{UnitId}
use Rattle.crq_ring.specs.Sessions.{of_session}
use Rattle.crq_ring.specs.declared.rows.PipeRow.{PipeRow}
use Rattle.crq_session.specs.Answered.{taken_now}
use Rattle.srp_iu.specs.declared.unit.Iu.{Iu}
use Rattle.block_server.specs.Doings.{Doing, doing_at}
use Rattle.block_server.specs.Receipts.{is_down}
use Rattle.block_server.specs.Talk.{Word, to_come}
use Rattle.block_server.specs.declared.service.Stage.{Stage}
use Rattle.vcpu_run.specs.OwnTurns.{IsServedAt, MayAnswer, MayRead, StillTalks, TalksWithin, unserved}
use Rattle.vcpu_run.specs.PlainTalk.{AreSaidThere, AskedParts, Between, DataLies, HaveAnswers, IsCalm, IsTalking}

-- where the unit stands
abbrev pub doing_of : Between → (name : UnitId) → List Served → List Grant → Doing
doing_of at name rows lines = doing_at at.unit name at.server at.window rows lines

pub within_begins : (granted : ℕ) (at : Between) (words : List Word) (asked : AskedParts) (answers : List Iu) (name : UnitId) (rows : List Served) (lines : List Grant)
    → IsCalm granted at words → IsTalking granted at words asked answers → at.client.tabled ≡ None → name ≡ at.unit.id → at.window.place.unit ≢ at.unit.id
    → TalksWithin granted (doing_of at name rows lines) at.client at.own asked.answered asked.pending asked.coming answers
within_begins granted at words asked answers name rows lines calm talk tabled named apart = record {
  talker = record {
    registered = talk.registered;
    handshake = talk.handshake;
    due = talk.due;
    held = talk.held;
    tabled = tabled;
    stage = talk.stage;
    none = talk.none;
    within = talk.within;
    credits = talk.login.credits;
  };
  all = record {
    each = talk.each;
    slots = talk.slots;
    tags = talk.tags;
    order = talk.order;
    awaited = talk.awaited;
    logouts = talk.logouts;
    sent = talk.sent;
  };
  goes = record {
    going = ap₂ (λ (a b : Bool). a || b) calm.closing (ap is_down talk.up);
    up = talk.up;
    event = calm.event;
    reaches = ap₂ (λ (a b : Bool). a && b) calm.registered (calm.ends.server_sees.partner ∙ talk.registered);
    partner = calm.ends.server_sees.partner ∙ talk.registered;
    to = calm.ends.server_sees.session;
    grants = calm.grants;
    most = calm.most;
    took = subst (λ (rows : List PipeRow). length (taken_now at.own) ≤ length (of_session at.own.last_session rows)) calm.ends.server_sees.received calm.ends.own_took;
    named = named;
    apart = apart;
    usable = calm.usable;
  };
  pends = talk.pending;
  comes = subst (AreSaidThere at.window (to_come at.server)) talk.coming calm.said;
  told = subst (λ (rows : List PipeRow). HaveAnswers at.window (at.client.kept ++ drop (length (taken_now at.own)) (of_session at.own.last_session rows)) asked.answered answers)
      calm.ends.server_sees.received talk.answered;
  grant = talk.login.grant;
  tables = subst (λ (stage : Stage). All (DataLies at.window) (unserved stage asked.pending ++ asked.coming)) (sym calm.stage) talk.tables;
  starts = talk.starts;
  spared = talk.spared;
  served = subst (IsServedAt granted (doing_of at name rows lines) asked.pending) (sym calm.stage) calm.kept;
}

unfoldable pub still_begins : (granted : ℕ) (at : Between) (words : List Word) (asked : AskedParts) (answers : List Iu) (name : UnitId) (rows : List Served) (lines : List Grant)
    → IsCalm granted at words → IsTalking granted at words asked answers → at.client.tabled ≡ None → name ≡ at.unit.id → at.window.place.unit ≢ at.unit.id
    → StillTalks granted (doing_of at name rows lines) at.client at.own asked.coming (asked.pending ++ asked.coming)
still_begins granted at words asked answers name rows lines calm talk tabled named apart = record {
  answered = asked.answered;
  pending = asked.pending;
  coming = asked.coming;
  answers = answers;
  talks = within_begins granted at words asked answers name rows lines calm talk tabled named apart;
  done = record { heard = []; heard_is = refl; read = All-nil (MayRead at.window); gone = []; gone_is = refl; answered = All-nil (MayAnswer at.window) };
}
