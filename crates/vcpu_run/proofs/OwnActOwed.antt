-- What a client is owed whose server unit's session is over, or was: behind a step that leaves it so, behind an answer that is taken, and behind
-- an event that tells that the unit is gone.
use Rattle.std.proofs.Common.{◌≡◌, ◌∙◌, ◌⊎◌, ℕ, ◌≤◌, ◌++◌, All, true, false, List, [], ◌∷◌, Option, Some, None, length, min, refl, sym, ap, ap₂, subst}
use Rattle.std.proofs.lemmas.List.Elements.{All-cons, All-nil, All-tail}
use Rattle.vio_num.specs.Entry.{is_srp_entry}
use Rattle.vio_num.specs.declared.entry.Entry.{Entry}
use Rattle.vio_num.specs.declared.names.UnitId.{UnitId}
use Rattle.srp_iu.specs.declared.unit.Iu.{Iu}
use Rattle.tce_window.specs.PortState.{PortState}
use Rattle.vscsi_client.specs.State.{ClientState}
use Rattle.vscsi_client.specs.declared.outgoing.Outgoing.{Outgoing}
use Rattle.vscsi_client.specs.declared.stage.Stage.{Stage}
use Rattle.vscsi_client.specs.declared.stage.Stage.TheVariants.{Idle}
use Rattle.vcpu_run.specs.OwnOver.{IsNews, IsOwed, IsUnanswered, LoginShows, NoneBehindGone, answers_among, is_under_way, news_among, under_way}
use Rattle.vcpu_run.specs.PlainTalk.{Ask, HaveAnswers, IsAsk, KeepsSlots, TagsRise, is_logout}
use Rattle.vcpu_run.proofs.OwnStreams.{answers_other, news_other}
use Rattle.vcpu_run.proofs.PlainAsks.{all_parts}
use Rattle.vcpu_run.proofs.PlainNotes.{LaysOn}
use Rattle.vcpu_run.proofs.PlainRejected.{says_move}
use Rattle.vcpu_run.proofs.PlainServed.{answers_move}

-- ---- what stays

-- what is owed to a client sees the same of both
pub record KnowsSame (s s' : ClientState) : Type 0 where
  pub rows : length s'.rows ≡ length s.rows
  pub outgoing : s'.outgoing ≡ s.outgoing
  pub login : s'.login ≡ s.login
  pub logout : s'.logout ≡ s.logout
  pub granted : s'.granted ≡ s.granted

pub knows_same : (s s' : ClientState) → s' ≡ s → KnowsSame s s'
knows_same s s' same = record {
  rows = ap (λ (s : ClientState). length s.rows) same;
  outgoing = ap (λ (s : ClientState). s.outgoing) same;
  login = ap (λ (s : ClientState). s.login) same;
  logout = ap (λ (s : ClientState). s.logout) same;
  granted = ap (λ (s : ClientState). s.granted) same;
}

-- what the client is to look at tells of the answers, and what else is in it
pub record TellsSo (window : PortState) (login : Stage) (stream : List Entry) (answered lost : List Ask) (answers : List Iu) : Type 0 where
  pub told : HaveAnswers window (answers_among stream) answered answers
  pub news : All IsNews (news_among stream)
  pub behind : NoneBehindGone stream
  pub written : All (LoginShows window login) lost

pub owed_by : (granted : ℕ) (id : UnitId) (old new : PortState) (s s' : ClientState) (stream stream' : List Entry) (answered lost : List Ask) (answers : List Iu) → KnowsSame s s'
    → LaysOn old new → TellsSo new s'.login stream' answered lost answers → IsOwed granted id old s stream answered lost answers
    → IsOwed granted id new s' stream' answered lost answers
owed_by granted id old new s s' stream stream' answered lost answers same lays tells owed = record {
  each = owed.each;
  slots = owed.slots;
  tags = subst (λ (n : ℕ). TagsRise n (answered ++ lost)) (sym same.rows) owed.tags;
  order = owed.order;
  told = tells.told;
  news = tells.news;
  behind = tells.behind;
  awaited = owed.awaited ∙ ap₂ (λ (outgoing : List Outgoing) (stage : Stage). outgoing ++ under_way stage) (sym same.outgoing) (sym same.login);
  logouts = subst (λ (logout : Option ℕ). All (λ ask. is_logout ask.iu ≡ true → logout ≡ Some ask.slot) (answered ++ lost)) (sym same.logout) owed.logouts;
  sent = owed.sent ∙ ap is_under_way (sym same.login);
  written = tells.written;
  unanswered = subst (λ (stage : Stage). IsUnanswered stage answered) (sym same.login) owed.unanswered;
  none = λ off. same.outgoing ∙ owed.none (sym same.granted ∙ off);
  within = subst (λ (list : List Outgoing). length list ≤ 200) (sym same.outgoing) owed.within;
  credits = subst (λ (known : Option ℕ). (known ≡ None) ⊎ (known ≡ Some (min granted 200))) (sym same.granted) owed.credits;
  grant = says_move granted id id old new refl lays.unit lays.strokes answers owed.grant;
}

-- no login is under way whose unit would have to show
pub shows_none : (window : PortState) (login : Stage) (lost : List Ask) → login ≡ Idle → All (LoginShows window login) lost
shows_none window login [] idle = All-nil (LoginShows window login)
shows_none window login (ask ∷ lost) idle = All-cons (LoginShows window login) ask lost (subst (λ (stage : Stage). LoginShows window stage ask) (sym idle) tt) (shows_none window login lost idle)

-- another window, in which the slots of all of these stay, or their answers do
pub owed_moved : (granted : ℕ) (id : UnitId) (old new : PortState) (spared : ℕ → Type 0) (s s' : ClientState) (stream stream' : List Entry) (answered lost : List Ask) (answers : List Iu)
    → KnowsSame s s' → stream' ≡ stream → s.login ≡ Idle → KeepsSlots spared old new → All (λ ask. spared ask.slot) answered → IsOwed granted id old s stream answered lost answers
    → IsOwed granted id new s' stream' answered lost answers
owed_moved granted id old new spared s s' stream stream' answered lost answers same is idle keeps spares owed =
    owed_by granted id old new s s' stream stream' answered lost answers same (record { unit = keeps.unit; strokes = keeps.strokes })
    (subst (λ (list : List Entry). TellsSo new s'.login list answered lost answers) (sym is) (record {
      told = answers_move old new spared keeps (answers_among stream) answered answers spares (all_parts IsAsk answered lost owed.each).0 owed.told;
      news = owed.news;
      behind = owed.behind;
      written = shows_none new s'.login lost (same.login ∙ idle);
    })) owed

-- ---- an entry that is no answer

-- it was looked at
pub owed_past : (granted : ℕ) (id : UnitId) (window : PortState) (s s' : ClientState) (entry : Entry) (rest : List Entry) (answered lost : List Ask) (answers : List Iu) → KnowsSame s s'
    → is_srp_entry entry ≡ false → IsOwed granted id window s (entry ∷ rest) answered lost answers → IsOwed granted id window s' rest answered lost answers
owed_past granted id window s s' entry rest answered lost answers same isnt owed =
    owed_by granted id window window s s' (entry ∷ rest) rest answered lost answers same (record { unit = refl; strokes = λ page stroke on. on }) (record {
      told = subst (λ (list : List Entry). HaveAnswers window list answered answers) (answers_other entry rest isnt) owed.told;
      news = All-tail IsNews entry (news_among rest) (subst (All IsNews) (news_other entry rest isnt) owed.news);
      behind = owed.behind.1;
      written = subst (λ (stage : Stage). All (LoginShows window stage) lost) (sym same.login) owed.written;
    }) owed
