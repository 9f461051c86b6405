-- The oldest request is served within a turn of a server unit, up to its answer, while its client talks to it: its data lie on the pages of its data.
use Rattle.std.proofs.Common.{◌≡◌, ◌∙◌, ℕ, ◌++◌, All, false, List, [], ◌∷◌, append-nil, map, refl, sym, subst}
use Rattle.std.specs.Prelude.{⊤}
use Rattle.std.proofs.lemmas.List.Elements.{All-head, All-tail}
use Rattle.vio_num.specs.declared.entry.Entry.{Entry}
use Rattle.crq_session.specs.EndState.{EndState}
use Rattle.srp_iu.specs.declared.unit.Iu.{Iu}
use Rattle.block_server.specs.Doings.{Doing, Prepares, name_for}
use Rattle.block_server.specs.Judged.{row_in}
use Rattle.block_server.specs.Standing.{IsAnswerTo}
use Rattle.block_server.specs.Talk.{Suits, order_asked}
use Rattle.block_server.specs.declared.request.Order.{Order}
use Rattle.block_server.specs.declared.request.Request.{Request}
use Rattle.block_server.specs.declared.service.Stage.{Stage}
use Rattle.vscsi_client.specs.Spans.{meets}
use Rattle.vscsi_client.specs.State.{ClientState}
use Rattle.vcpu_run.specs.OwnTurns.{HasDone, IsServedAt, StillTalks, TalksWithin, unserved}
use Rattle.vcpu_run.specs.PlainTalk.{ArePending, AreSaidThere, Ask, DataLies, IsAsk, IsOwnWindow, IsPendingAs, KeepsSlots, word_of}
use Rattle.vcpu_run.proofs.OwnDataStays.{LaysData, bears_data, data_own, data_slots, data_tables}
use Rattle.vcpu_run.proofs.OwnSame.{done_on, goes_on, told_on}
use Rattle.vcpu_run.proofs.OwnWindows.{said_stays}
use Rattle.vcpu_run.proofs.PlainReady.{all_front, all_rest}
use Rattle.vcpu_run.proofs.PlainRejected.{says_move}
use Rattle.vcpu_run.proofs.PlainServed.{all_kept, all_spared, pending_first}

-- what it lays
pub prepares_data : (d d' : Doing) (ask : Ask) (step : Prepares d d') → IsOwnWindow d.client → DataLies d.client ask → IsPendingAs step.request ask → LaysData ask d.client d'.client
prepares_data d d' ask step own lies is =
    bears_data d.client d'.client own ask lies (name_for d.name step.request) step.request.order is.order d'.rows (row_in d'.stage) step.bears

pub prepares_within : (granted : ℕ) (d d' : Doing) (s : ClientState) (own : EndState) (answered : List Ask) (ask : Ask) (more coming : List Ask) (answers : List Iu)
    → TalksWithin granted d s own answered (ask ∷ more) coming answers → (step : Prepares d d') → IsPendingAs step.request ask → All (DataLies d.client) ((ask ∷ more) ++ coming)
    → LaysData ask d.client d'.client → TalksWithin granted d' s own answered (ask ∷ more) coming answers
prepares_within granted d d' s own answered ask more coming answers talks step is tables lays = record {
  talker = talks.talker;
  all = talks.all;
  goes = goes_on granted d d' own [] step.stays step.line.ended step.line.handshake (step.line.event ∙ talks.goes.event) step.line.reaches step.place usable
      (step.sent ∙ sym (append-nil d.sent)) talks.goes;
  pends = subst (λ (requests : List Request). ArePending requests (ask ∷ more)) (sym step.pends) talks.pends;
  comes = subst (λ (entries : List Entry). AreSaidThere d'.client entries (map word_of coming)) (sym step.coming)
      (said_stays (λ slot. ⊤) d.client d'.client talks.goes.usable keeps usable d.coming coming (all_rest IsAsk (ask ∷ more) coming each) (all_spared coming) talks.comes);
  told = told_on d d' s own answered answers (λ slot. ⊤) keeps (all_spared answered) (all_front IsAsk answered (ask ∷ more ++ coming) talks.all.each) step.sent talks.told;
  grant = says_move granted d.id d'.id d.client d'.client step.stays.id keeps.unit keeps.strokes answers talks.grant;
  tables = subst (λ (stage : Stage). All (DataLies d'.client) (unserved stage (ask ∷ more) ++ coming)) (sym step.stage)
      (all_kept d.client d'.client (λ other. meets ask.pages other.table ≡ false) (data_tables ask d.client d'.client lays) (more ++ coming) talks.spared.0
      (All-tail (DataLies d.client) ask (more ++ coming) tables));
  starts = talks.starts;
  spared = talks.spared;
  served = subst (IsServedAt granted d' (ask ∷ more)) (sym step.stage) (
    step.kept ∙ subst (IsServedAt granted d (ask ∷ more)) step.first talks.served,
    record {
      ask = ask;
      more = more;
      first = refl;
      current = d.logins.current;
      suits = subst (λ (order : Order). Suits d.logins.current order step.outcome) is.order step.suits;
      answer = subst (λ (n : ℕ). IsAnswerTo d.logins.current n ask.tag (order_asked ask.iu) step.outcome d'.answer) talks.goes.grants
          (subst (λ (tag : ℕ). IsAnswerTo d.logins.current d.logins.granted tag (order_asked ask.iu) step.outcome d'.answer) is.tag
          (subst (λ (order : Order). IsAnswerTo d.logins.current d.logins.granted step.request.tag order step.outcome d'.answer) is.order step.answer));
    },
  );
}
  where
    keeps : KeepsSlots (λ slot. ⊤) d.client d'.client
    keeps = data_slots ask d.client d'.client talks.goes.usable step.place lays

    usable : IsOwnWindow d'.client
    usable = data_own ask d.client d'.client talks.goes.usable step.place lays

    each : All IsAsk (ask ∷ more ++ coming)
    each = all_rest IsAsk answered (ask ∷ more ++ coming) talks.all.each

unfoldable pub prepares_on : (granted : ℕ) (d d' : Doing) (s : ClientState) (own : EndState) (coming0 whole0 : List Ask) → Prepares d d' → StillTalks granted d s own coming0 whole0
    → StillTalks granted d' s own coming0 whole0
prepares_on granted d d' s own coming0 whole0 step still =
    let first = pending_first step.request step.rest still.pending (subst (λ (requests : List Request). ArePending requests still.pending) step.pending still.talks.pends) in
    let talks : TalksWithin granted d s own still.answered (first.0 ∷ first.1) still.coming still.answers =
    subst (λ (pending : List Ask). TalksWithin granted d s own still.answered pending still.coming still.answers) first.2 still.talks in
    let tables : All (DataLies d.client) ((first.0 ∷ first.1) ++ still.coming) =
    subst (λ (stage : Stage). All (DataLies d.client) (unserved stage (first.0 ∷ first.1) ++ still.coming)) step.first talks.tables in
    let lays : LaysData first.0 d.client d'.client =
    prepares_data d d' first.0 step talks.goes.usable (All-head (DataLies d.client) first.0 (first.1 ++ still.coming) tables) first.3 in
    record {
      answered = still.answered;
      pending = first.0 ∷ first.1;
      coming = still.coming;
      answers = still.answers;
      talks = prepares_within granted d d' s own still.answered first.0 first.1 still.coming still.answers talks step first.3 tables lays;
      done = done_on d.client d'.client coming0 whole0 (first.0 ∷ first.1) still.coming (record { place = step.place; values = lays.values })
          (subst (λ (pending : List Ask). HasDone d.client coming0 whole0 pending still.coming) first.2 still.done);
    }
