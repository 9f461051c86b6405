-- A logout that a server unit serves within a turn, while its client talks to it: nothing of it is left.
use Rattle.std.proofs.Common.{◌≡◌, ◌∙◌, inl, ℕ, ◌++◌, All, true, List, [], ◌∷◌, Some, append-nil, append_assoc, length, map, sym, subst}
use Rattle.std.specs.Prelude.{⊤}
use Rattle.std.proofs.lemmas.List.Elements.{All-push, All-tail}
use Rattle.vio_num.specs.declared.entry.Entry.{Entry}
use Rattle.crq_session.specs.EndState.{EndState}
use Rattle.srp_iu.specs.declared.unit.Iu.{Iu}
use Rattle.block_server.specs.Doings.{Doing, LogsOutFirst}
use Rattle.block_server.specs.declared.request.Request.{Request}
use Rattle.block_server.specs.declared.service.Stage.{Stage}
use Rattle.vscsi_client.specs.State.{ClientState}
use Rattle.vcpu_run.specs.OwnTurns.{AwaitsAll, HasDone, IsServedAt, MayAnswer, StillTalks, TalksWithin, unserved}
use Rattle.vcpu_run.specs.PlainTalk.{AreInOrder, ArePending, AreSaidThere, Ask, DataLies, IsAsk, IsOwnWindow, KeepsSlots, StartsAt, is_logout, word_of}
use Rattle.vcpu_run.proofs.OwnSame.{goes_on, rights_stay, told_on}
use Rattle.vcpu_run.proofs.OwnWindows.{answers_stay, known_own, known_slots, known_tables, reads_stay, said_stays}
use Rattle.vcpu_run.proofs.PlainLists.{all_without, apart_without, first_logout, login_without, logout_no_login, names_without, order_logout, order_tail, rise_without}
use Rattle.vcpu_run.proofs.PlainReady.{all_front, all_rest}
use Rattle.vcpu_run.proofs.PlainRejected.{says_move}
use Rattle.vcpu_run.proofs.PlainServed.{all_kept, all_spared, pending_first}

-- what the client awaits without it
pub awaits_without : (s : ClientState) (front : List Ask) (ask : Ask) (more : List Ask) → is_logout ask.iu ≡ true → AwaitsAll s (front ++ ask ∷ more) → AwaitsAll s (front ++ more)
awaits_without s front ask more logout awaits = record {
  each = all_without IsAsk front ask more awaits.each;
  slots = apart_without front ask more awaits.slots;
  tags = rise_without (length s.rows) front ask more awaits.tags;
  order = subst (λ (list : List Ask). AreInOrder (list ++ more)) (sym empty)
      (order_tail ask more (subst (λ (list : List Ask). AreInOrder (list ++ ask ∷ more)) empty awaits.order));
  awaited = sym (names_without front ask more logout) ∙ awaits.awaited;
  logouts = all_without (λ (one : Ask). is_logout one.iu ≡ true → s.logout ≡ Some one.slot) front ask more awaits.logouts;
  sent = sym (login_without front ask more (logout_no_login ask.iu logout)) ∙ awaits.sent;
}
  where
    empty : front ≡ []
    empty = first_logout front ask more awaits.order logout

-- what is gone with the oldest
pub gone_push : (whole0 gone : List Ask) (ask : Ask) (more coming : List Ask) → whole0 ≡ gone ++ ((ask ∷ more) ++ coming) → whole0 ≡ (gone ++ ask ∷ []) ++ (more ++ coming)
gone_push whole0 gone ask more coming is = is ∙ sym (append_assoc gone (ask ∷ []) (more ++ coming))

pub logs_within : (granted : ℕ) (d d' : Doing) (s : ClientState) (own : EndState) (answered : List Ask) (ask : Ask) (more coming : List Ask) (answers : List Iu)
    → TalksWithin granted d s own answered (ask ∷ more) coming answers → (step : LogsOutFirst d d') → is_logout ask.iu ≡ true → ArePending d'.pending more
    → TalksWithin granted d' s own answered more coming answers
logs_within granted d d' s own answered ask more coming answers talks step logout are = record {
  talker = talks.talker;
  all = awaits_without s answered ask (more ++ coming) logout talks.all;
  goes = goes_on granted d d' own [] step.stays step.line.ended step.line.handshake (step.line.event ∙ talks.goes.event) step.line.reaches step.put.client.place usable
      (step.put.sent ∙ sym (append-nil d.sent)) talks.goes;
  pends = are;
  comes = subst (λ (entries : List Entry). AreSaidThere d'.client entries (map word_of coming)) (sym step.coming)
      (said_stays (λ slot. ⊤) d.client d'.client talks.goes.usable keeps usable d.coming coming (all_rest IsAsk (ask ∷ more) coming each) (all_spared coming) talks.comes);
  told = told_on d d' s own answered answers (λ slot. ⊤) keeps (all_spared answered) (all_front IsAsk answered (ask ∷ more ++ coming) talks.all.each) step.put.sent talks.told;
  grant = says_move granted d.id d'.id d.client d'.client step.stays.id keeps.unit keeps.strokes answers talks.grant;
  tables = subst (λ (stage : Stage). All (DataLies d'.client) (unserved stage more ++ coming)) (sym step.stage)
      (all_kept d.client d'.client (λ one. ⊤) (known_tables d.client d'.client step.put.client) (more ++ coming) (all_spared (more ++ coming))
      (All-tail (DataLies d.client) ask (more ++ coming)
      (subst (λ (stage : Stage). All (DataLies d.client) (unserved stage (ask ∷ more) ++ coming)) step.first talks.tables)));
  starts = All-tail (StartsAt s.rows) ask (more ++ coming) talks.starts;
  spared = talks.spared.1;
  served = subst (IsServedAt granted d' more) (sym step.stage) (step.kept ∙ subst (IsServedAt granted d (ask ∷ more)) step.first talks.served);
}
  where
    keeps : KeepsSlots (λ slot. ⊤) d.client d'.client
    keeps = known_slots d.client d'.client step.put.client

    usable : IsOwnWindow d'.client
    usable = known_own d.client d'.client step.put.client talks.goes.usable

    each : All IsAsk (ask ∷ more ++ coming)
    each = all_rest IsAsk answered (ask ∷ more ++ coming) talks.all.each

unfoldable pub logs_on : (granted : ℕ) (d d' : Doing) (s : ClientState) (own : EndState) (coming0 whole0 : List Ask) → LogsOutFirst d d' → StillTalks granted d s own coming0 whole0
    → StillTalks granted d' s own coming0 whole0
logs_on granted d d' s own coming0 whole0 step still =
    let first = pending_first step.request d'.pending still.pending (subst (λ (requests : List Request). ArePending requests still.pending) step.pending still.talks.pends) in
    let logout : is_logout first.0.iu ≡ true = order_logout first.0.iu (sym first.3.order ∙ step.order) in
    let talks : TalksWithin granted d s own still.answered (first.0 ∷ first.1) still.coming still.answers =
    subst (λ (pending : List Ask). TalksWithin granted d s own still.answered pending still.coming still.answers) first.2 still.talks in
    let done : HasDone d.client coming0 whole0 (first.0 ∷ first.1) still.coming =
    subst (λ (pending : List Ask). HasDone d.client coming0 whole0 pending still.coming) first.2 still.done in
    record {
      answered = still.answered;
      pending = first.1;
      coming = still.coming;
      answers = still.answers;
      talks = logs_within granted d d' s own still.answered first.0 first.1 still.coming still.answers talks step logout first.4;
      done = record {
        heard = done.heard;
        heard_is = done.heard_is;
        read = reads_stay d.client d'.client (rights_stay d.client d'.client step.put.client) done.heard done.read;
        gone = done.gone ++ first.0 ∷ [];
        gone_is = gone_push whole0 done.gone first.0 first.1 still.coming done.gone_is;
        answered = answers_stay d.client d'.client (rights_stay d.client d'.client step.put.client) (done.gone ++ first.0 ∷ [])
            (All-push (MayAnswer d.client) done.gone first.0 done.answered (inl logout));
      };
    }
