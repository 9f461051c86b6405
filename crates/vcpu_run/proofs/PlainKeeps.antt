-- A plain client that keeps the answer to a request for later, in a turn of a login.
use Rattle.std.proofs.Common.{◌≡◌, ◌∙◌, ◌⊎◌, ℕ, ◌≤◌, ◌++◌, All, true, List, [], Option, Some, None, is_some, length, min, nat_le, sym, ap, ap₂, subst}
use Rattle.std.specs.Prelude.{⊤}
use Rattle.vio_num.specs.declared.entry.Entry.{Entry}
use Rattle.srp_iu.specs.declared.unit.Iu.{Iu}
use Rattle.block_server.specs.Talk.{MayAsk, talk_of, to_come}
use Rattle.block_server.specs.declared.unit.Unit.{Unit}
use Rattle.vscsi_client.specs.declared.outgoing.Outgoing.{Outgoing}
use Rattle.vscsi_client.specs.declared.stage.Stage.{Stage}
use Rattle.vscsi_client.specs.declared.stage.Stage.TheVariants.{Idle}
use Rattle.vcpu_run.specs.PlainTalk.{CountsAsked, ArePending, AskedParts, Between, HaveAnswers, IsAsk, IsTalking, KeepsTables, KeepsSlots, TagsRise, all_asked, is_logout, is_sent, login_name, on_behind}
use Rattle.vcpu_run.proofs.PlainReady.{all_front}
use Rattle.vcpu_run.proofs.PlainServed.{all_kept, all_spared, answers_move}
use Rattle.vcpu_run.proofs.PlainStarts.{KeepPlaces, starts_behind}
use Rattle.vcpu_run.proofs.PlainRejected.{says_move}

-- What a client that keeps an answer for later leaves as it was.
pub record KeepsEntry (at at' : Between) : Type 0 where
  pub unit : at'.unit ≡ at.unit
  pub registered : at'.own.registered ≡ at.own.registered
  pub keeps : KeepsSlots (λ slot. ⊤) at.window at'.window
  pub tables : KeepsTables (λ ask. ⊤) at.window at'.window
  pub entries : at'.client.kept ++ to_come at'.own ≡ at.client.kept ++ to_come at.own
  pub handshake : at'.client.handshake ≡ at.client.handshake
  pub due : at'.client.due ≡ at.client.due
  pub held : at'.client.held ≡ at.client.held
  pub granted : at'.client.granted ≡ at.client.granted
  pub outgoing : at'.client.outgoing ≡ at.client.outgoing
  pub login : at'.client.login ≡ at.client.login
  pub logout : at'.client.logout ≡ at.client.logout
  pub rows : length at'.client.rows ≡ length at.client.rows
  pub places : KeepPlaces at.client.rows at'.client.rows

pub kept_talk : (granted : ℕ) (at at' : Between) (asked : AskedParts) (answers : List Iu) → IsTalking granted at [] asked answers → KeepsEntry at at'
    → IsTalking granted at' [] asked answers
kept_talk granted at at' asked answers talk keeps = record {
  registered = keeps.registered ∙ talk.registered;
  handshake = keeps.handshake ∙ talk.handshake;
  up = ap (λ (u : Unit). u.line.handshake) keeps.unit ∙ talk.up;
  due = keeps.due ∙ talk.due;
  held = keeps.held ∙ talk.held;
  each = talk.each;
  slots = talk.slots;
  tags = subst (λ (n : ℕ). TagsRise n (all_asked asked)) (sym keeps.rows) talk.tags;
  order = talk.order;
  pending = subst (λ (u : Unit). ArePending u.pending.items asked.pending) (sym keeps.unit) talk.pending;
  coming = talk.coming;
  few = talk.few;
  may = subst (λ (u : Unit). All (λ one. MayAsk (talk_of u) one.iu) asked.coming) (sym keeps.unit) talk.may;
  answered = subst (λ (list : List Entry). HaveAnswers at'.window list asked.answered answers) (sym keeps.entries)
      (answers_move at.window at'.window (λ slot. ⊤) keeps.keeps (at.client.kept ++ to_come at.own) asked.answered answers (all_spared asked.answered)
      (all_front IsAsk asked.answered (asked.pending ++ asked.coming) talk.each) talk.answered);
  awaited = talk.awaited
      ∙ sym (ap₂ (λ (outgoing : List Outgoing) (stage : Stage). outgoing ++ login_name stage) keeps.outgoing keeps.login);
  logouts = subst (λ (logout : Option ℕ). All (λ ask. is_logout ask.iu ≡ true → logout ≡ Some ask.slot) (all_asked asked)) (sym keeps.logout) talk.logouts;
  sent = talk.sent ∙ sym (ap is_sent keeps.login);
  stage = subst (λ (stage : Stage). (stage ≡ Idle) ⊎ (is_sent stage ≡ true)) (sym keeps.login) talk.stage;
  none = λ none. keeps.outgoing ∙ talk.none (sym keeps.granted ∙ none);
  within = subst (λ (list : List Outgoing). length list ≤ 200) (sym keeps.outgoing) talk.within;
  counts = subst (λ (u : Unit). CountsAsked u asked.pending) (sym keeps.unit) talk.counts;
  tables = all_kept at.window at'.window (λ ask. ⊤) keeps.tables (asked.pending ++ asked.coming) (all_spared (asked.pending ++ asked.coming)) talk.tables;
  starts = starts_behind at.client.rows at'.client.rows keeps.places asked.answered (asked.pending ++ asked.coming) talk.tags talk.starts;
  spared = talk.spared;
  login = record {
    credits = subst (λ (known : Option ℕ). (known ≡ None) ⊎ (known ≡ Some (min granted 200))) (sym keeps.granted) talk.login.credits;
    before = λ no'. ap is_some keeps.granted ∙ talk.login.before no'
        ∙ ap (λ (u : Unit). on_behind (nat_le 1 u.logins.current) (asked.pending ++ asked.coming)) (sym keeps.unit);
    on = λ some. subst (λ (u : Unit). 1 ≤ u.logins.current) (sym keeps.unit) (talk.login.on some);
    answer = λ some. ap is_some keeps.granted ∙ talk.login.answer some;
    grant = says_move granted at.unit.id at'.unit.id at.window at'.window (ap (λ (u : Unit). u.id) keeps.unit) keeps.keeps.unit keeps.keeps.strokes answers talk.login.grant;
  };
}
