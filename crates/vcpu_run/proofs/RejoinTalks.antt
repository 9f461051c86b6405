-- A client that took the answer that grants its login, beside a server unit whose session was over: both talk anew.
use Rattle.std.proofs.Common.{◌≡◌, ◌≢◌, ◌∙◌, inl, inr, ℕ, zero, suc, ◌≤◌, ◌++◌, ◌&&◌, ◌||◌, nat_le, Bool, true, false, true≢false, List, [], Some, None, is_some, arith, length, refl, sym, ap, ap₂, subst}
use Rattle.std.proofs.lemmas.Bool.Decides.{nat_tests}
use Rattle.std.proofs.lemmas.List.Elements.{All-nil}
use Rattle.vio_num.specs.declared.entry.Entry.{Entry}
use Rattle.vio_num.specs.declared.history.Grant.{Grant}
use Rattle.vio_num.specs.declared.history.Served.{Served}
use Rattle.vio_num.specs.declared.names.UnitId.{UnitId}
use Rattle.crq_session.specs.declared.handshake.Handshake.{Handshake}
use Rattle.crq_session.specs.declared.handshake.Handshake.TheVariants.{Down, Up}
use Rattle.block_server.specs.Doings.{Doing, doing_at}
use Rattle.block_server.specs.Receipts.{is_down}
use Rattle.block_server.specs.Talk.{MayAsk, talk_of}
use Rattle.block_server.specs.declared.request.Request.{Request}
use Rattle.vscsi_client.specs.Ports.{ports}
use Rattle.vscsi_client.specs.declared.outgoing.Outgoing.{Outgoing}
use Rattle.vscsi_client.specs.declared.stage.Stage.{Stage}
use Rattle.vcpu_run.specs.OwnActs.{IsSeenAt}
use Rattle.vcpu_run.specs.OwnJoins.{GrantsLogin, HasLogin}
use Rattle.vcpu_run.specs.PlainTalk.{AreEnds, AreSaidThere, ArePending, Ask, Between, DataLies, HaveAnswers, IsAnswerBy, IsAsk, IsCalm, IsTalking, StartsAt, TalksPlainly, is_logout, is_sent, login_name}

-- where both stand as a client leaves them that has its login
abbrev pub unit_at : Between → (name : UnitId) → List Served → List Grant → Doing
unit_at at name rows lines = doing_at at.unit name at.server at.window rows lines

on_now : (current : ℕ) → current ≢ 0 → nat_le 1 current ≡ true
on_now zero on = absurd (on refl)
on_now (suc n) on = grind (arith, nat_tests)

going_line : (closing : Bool) (handshake : Handshake) → (closing || is_down handshake) ≡ false → closing ≡ false
going_line true handshake going = absurd (true≢false going)
going_line false handshake going = refl

up_down : (handshake : Handshake) → handshake ≡ Up → handshake ≢ Down
up_down handshake up down = cc (up, down)

calm_anew : (granted : ℕ) (at : Between) (name : UnitId) (rows : List Served) (lines : List Grant) → GrantsLogin granted (unit_at at name rows lines)
    → IsSeenAt (unit_at at name rows lines) (ports false at.own false at.window) → at.unit.waiting ≡ None → AreEnds at.server at.own → 256 ≤ at.server.place.own_slots
    → 256 ≤ at.own.place.own_slots → IsCalm granted at []
calm_anew granted at name rows lines unit seen waiting ends server_slots own_slots = record {
  registered = sym ends.own_sees.partner ∙ seen.on (up_down at.unit.line.handshake unit.up);
  closing = going_line at.unit.line.closing at.unit.line.handshake unit.going;
  up = up_down at.unit.line.handshake unit.up;
  waiting = waiting;
  kept = unit.kept;
  event = unit.event;
  stage = unit.stage;
  grants = unit.grants;
  most = unit.most;
  ends = ends;
  server_slots = server_slots;
  own_slots = own_slots;
  usable = seen.usable;
  said = subst (λ (list : List Entry). AreSaidThere at.window list []) (sym unit.coming) tt;
}

talk_anew : (granted : ℕ) (at : Between) (name : UnitId) (rows : List Served) (lines : List Grant) → HasLogin granted at.client at.own → GrantsLogin granted (unit_at at name rows lines)
    → IsTalking granted at [] (record { answered = []; pending = []; coming = [] }) []
talk_anew granted at name rows lines client unit = record {
  registered = client.registered;
  handshake = client.handshake;
  up = unit.up;
  due = client.due;
  held = client.held;
  each = All-nil IsAsk;
  slots = tt;
  tags = tt;
  order = tt;
  pending = subst (λ (list : List Request). ArePending list []) (sym unit.pending) tt;
  coming = refl;
  few = omega arith;
  may = All-nil (λ (one : Ask). MayAsk (talk_of at.unit) one.iu);
  answered = subst (λ (list : List Entry). HaveAnswers at.window list [] []) (sym (ap₂ (λ (kept come : List Entry). kept ++ come) client.kept client.none)) tt;
  awaited = sym (ap₂ (λ (outgoing : List Outgoing) (stage : Stage). outgoing ++ login_name stage) client.outgoing client.login);
  logouts = All-nil (λ (one : Ask). is_logout one.iu ≡ true → at.client.logout ≡ Some one.slot);
  sent = sym (ap is_sent client.login);
  stage = inl client.login;
  none = λ none. client.outgoing;
  within = subst (λ (list : List Outgoing). length list ≤ 200) (sym client.outgoing) (omega arith);
  counts = record { taking = unit.taking ∙ sym (ap (λ b. b && true) on); outstanding = λ there. unit.outstanding };
  tables = All-nil (DataLies at.window);
  starts = All-nil (StartsAt at.client.rows);
  spared = tt;
  login = record {
    credits = inr client.granted_is;
    before = λ none. ap is_some client.granted_is ∙ sym on;
    on = λ has. absurd (true≢false (sym has));
    answer = λ has. absurd (true≢false (sym has));
    grant = All-nil (IsAnswerBy granted at.unit.id at.window);
  };
}
  where
    on : nat_le 1 at.unit.logins.current ≡ true
    on = on_now at.unit.logins.current unit.current

pub talks_anew : (granted : ℕ) (at : Between) (name : UnitId) (rows : List Served) (lines : List Grant) → HasLogin granted at.client at.own → GrantsLogin granted (unit_at at name rows lines)
    → IsSeenAt (unit_at at name rows lines) (ports false at.own false at.window) → at.unit.waiting ≡ None → AreEnds at.server at.own → 256 ≤ at.server.place.own_slots
    → 256 ≤ at.own.place.own_slots → TalksPlainly granted at []
talks_anew granted at name rows lines client unit seen waiting ends server_slots own_slots = record {
  calm = calm_anew granted at name rows lines unit seen waiting ends server_slots own_slots;
  phase = inr (inr (record { answered = []; pending = []; coming = [] }, [], talk_anew granted at name rows lines client unit));
  tabled = client.tabled;
}
