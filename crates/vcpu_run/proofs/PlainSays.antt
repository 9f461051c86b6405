-- Behind a call by which a plain client sent something, what is so between it and its server unit is so, and what it asked is to come.
use Rattle.std.proofs.Common.{◌≡◌, ◌∙◌, inl, inr, ℕ, ◌≤◌, ◌++◌, true, true≢false, List, [], ◌∷◌, Some, None, refl, sym, ap, subst}
use Rattle.vio_num.specs.declared.entry.Entry.{Entry}
use Rattle.tce_window.specs.PortState.{PortState}
use Rattle.block_server.specs.Talk.{Word, to_come}
use Rattle.block_server.specs.declared.unit.Unit.{Unit}
use Rattle.vcpu_run.specs.PlainTalk.{AreEnds, AreSaidThere, Ask, Between, InPhase, IsCalm, IsOwnWindow, IsSaidThere, TalksPlainly, word_of}
use Rattle.vcpu_run.proofs.PlainAsks.{Sends, SendsOut, logs_out, sends_talk}

-- The entry was put into the server unit's queue; else the ends and the unit are as they were.
pub record EntryPut (at at' : Between) (entry : Entry) : Type 0 where
  pub unit : at'.unit ≡ at.unit
  pub ends : AreEnds at'.server at'.own
  pub registered : at'.server.registered ≡ at.server.registered
  pub kept : at'.server.kept ≡ at.server.kept
  pub server_slots : at'.server.place.own_slots ≡ at.server.place.own_slots
  pub own_slots : at'.own.place.own_slots ≡ at.own.place.own_slots
  pub come : to_come at'.server ≡ to_come at.server ++ entry ∷ []
  pub usable : IsOwnWindow at'.window

pub none_said : (window : PortState) (entries : List Entry) → AreSaidThere window entries [] → entries ≡ []
none_said window [] said = refl
none_said window (entry ∷ entries) said = absurd said

pub calm_asks : (granted : ℕ) (at at' : Between) (entry : Entry) (word : Word) → IsCalm granted at [] → EntryPut at at' entry → IsSaidThere at'.window entry word
    → IsCalm granted at' (word ∷ [])
calm_asks granted at at' entry word calm put says = record {
  registered = put.registered ∙ calm.registered;
  closing = ap (λ (u : Unit). u.line.closing) put.unit ∙ calm.closing;
  up = λ e. calm.up (sym (ap (λ (u : Unit). u.line.handshake) put.unit) ∙ e);
  waiting = ap (λ (u : Unit). u.waiting) put.unit ∙ calm.waiting;
  kept = ap (λ (u : Unit). u.line.kept) put.unit ∙ calm.kept;
  event = put.kept ∙ calm.event;
  stage = ap (λ (u : Unit). u.service.stage) put.unit ∙ calm.stage;
  grants = ap (λ (u : Unit). u.logins.granted) put.unit ∙ calm.grants;
  most = calm.most;
  ends = put.ends;
  server_slots = subst (λ n. 256 ≤ n) (sym put.server_slots) calm.server_slots;
  own_slots = subst (λ n. 256 ≤ n) (sym put.own_slots) calm.own_slots;
  usable = put.usable;
  said = subst (λ (entries : List Entry). AreSaidThere at'.window entries (word ∷ []))
      (sym (put.come ∙ ap (λ (entries : List Entry). entries ++ entry ∷ []) (none_said at.window (to_come at.server) calm.said))) (says, tt);
}

no_grant : {n : ℕ} → None ≡ Some n → ⊥
no_grant e = cc (e)

-- a task or a command
pub plainly_sends : (granted : ℕ) (at at' : Between) (ask : Ask) (entry : Entry) → TalksPlainly granted at [] → at.own.registered ≡ true → Sends at at' ask → EntryPut at at' entry
    → IsSaidThere at'.window entry (word_of ask) → TalksPlainly granted at' (word_of ask ∷ [])
plainly_sends granted at at' ask entry talks registered sends put says = record {
  calm = calm_asks granted at at' entry (word_of ask) talks.calm put says;
  phase = by talks.phase;
  tabled = sends.tabled;
}
  where
    by : InPhase granted at [] → InPhase granted at' (word_of ask ∷ [])
    by (inl away) = absurd (true≢false (sym registered ∙ away.registered))
    by (inr (inl begun)) = absurd (no_grant (sym begun.granted ∙ sends.grants.1))
    by (inr (inr (asked, answers, talk))) =
        inr (inr (record { answered = asked.answered; pending = asked.pending; coming = ask ∷ [] }, answers, sends_talk granted at at' asked answers ask talks.calm talk sends))

-- a logout
pub plainly_out : (granted : ℕ) (at at' : Between) (ask : Ask) (entry : Entry) → TalksPlainly granted at [] → at.own.registered ≡ true → SendsOut at at' ask → EntryPut at at' entry
    → IsSaidThere at'.window entry (word_of ask) → TalksPlainly granted at' (word_of ask ∷ [])
plainly_out granted at at' ask entry talks registered sends put says = record {
  calm = calm_asks granted at at' entry (word_of ask) talks.calm put says;
  phase = by talks.phase;
  tabled = sends.tabled ∙ talks.tabled;
}
  where
    by : InPhase granted at [] → InPhase granted at' (word_of ask ∷ [])
    by (inl away) = absurd (true≢false (sym registered ∙ away.registered))
    by (inr (inl begun)) = absurd (no_grant (sym begun.granted ∙ sends.grants.1))
    by (inr (inr (asked, answers, talk))) =
        inr (inr (record { answered = []; pending = []; coming = ask ∷ [] }, answers, logs_out granted at at' asked answers ask talk sends))
