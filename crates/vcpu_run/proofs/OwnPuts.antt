-- The entry of an answer that a server unit puts, or keeps, within a turn, while its client talks to it: the client is to look at the answer behind
-- all that it is to look at.
use Rattle.std.proofs.Common.{◌≡◌, ◌∙◌, inr, ℕ, ◌≤◌, ◌++◌, cond, All, List, [], ◌∷◌, Some, append_assoc, drop, length, map, refl, sym, ap, subst}
use Rattle.std.specs.Prelude.{⊤}
use Rattle.std.proofs.lemmas.List.{drop-append-le}
use Rattle.std.proofs.lemmas.List.Elements.{All-head, All-push, All-tail}
use Rattle.vio_num.specs.Entry.{srp_entry}
use Rattle.vio_num.specs.declared.entry.Entry.{Entry}
use Rattle.crq_ring.specs.Sessions.{of_session}
use Rattle.crq_ring.specs.declared.rows.PipeRow.{PipeRow}
use Rattle.crq_session.specs.Answered.{taken_now}
use Rattle.crq_session.specs.EndState.{EndState}
use Rattle.srp_iu.specs.declared.unit.Iu.{Iu}
use Rattle.block_server.specs.Doings.{Doing, KeepsEntry, PutsEntry, entry_for, rows_to}
use Rattle.block_server.specs.Talk.{MayWriteAnswer, Suits, order_asked}
use Rattle.block_server.specs.declared.line.Kept.TheVariants as keeps
use Rattle.block_server.specs.declared.request.Request.{Request}
use Rattle.block_server.specs.declared.service.Outcome.{Outcome}
use Rattle.block_server.specs.declared.service.Stage.{Stage}
use Rattle.block_server.specs.declared.service.Stage.TheVariants as stages
use Rattle.vscsi_client.specs.State.{ClientState}
use Rattle.vscsi_client.specs.Units.{slot_address}
use Rattle.vcpu_run.specs.OwnOver.{coming_to}
use Rattle.vcpu_run.specs.OwnTurns.{AwaitsAll, HasDone, IsServedAt, MayAnswer, StandsOver, StillTalks, TalksWithin, unserved}
use Rattle.vcpu_run.specs.PlainTalk.{AnswerStands, ArePending, AreSaidThere, Ask, DataLies, HaveAnswers, IsAnswerBy, IsAsk, IsOwnWindow, IsPendingAs, KeepsSlots, StartsAt, word_of}
use Rattle.vcpu_run.proofs.Losing.{of_append}
use Rattle.vcpu_run.proofs.OwnOuts.{gone_push}
use Rattle.vcpu_run.proofs.OwnSame.{StaysWithin, answer_stands, goes_on, rights_stay, stands_over, still_served}
use Rattle.vcpu_run.proofs.OwnWindows.{answers_stay, known_own, known_slots, known_tables, reads_stay, said_stays}
use Rattle.vcpu_run.proofs.PlainLists.{answers_push}
use Rattle.vcpu_run.proofs.PlainReady.{all_front, all_rest}
use Rattle.vcpu_run.proofs.PlainRejected.{says_move}
use Rattle.vcpu_run.proofs.PlainServed.{all_kept, all_spared, answers_move, pending_first}
use Rattle.vcpu_run.proofs.PlainTurns.{own_rows}

-- ---- what is to come to the client

pub coming_push : (own : EndState) (sent : List PipeRow) (entries : List Entry) → length (taken_now own) ≤ length (of_session own.last_session sent)
    → coming_to own (sent ++ rows_to own.last_session entries) ≡ coming_to own sent ++ entries
coming_push own sent entries took =
    ap (drop (length (taken_now own)))
    (of_append own.last_session sent (rows_to own.last_session entries)
    ∙ ap (λ (list : List Entry). of_session own.last_session sent ++ list) (own_rows own.last_session entries))
    ∙ drop-append-le (length (taken_now own)) (of_session own.last_session sent) entries took

-- ---- it is kept

-- the stage of an answer whose entry is to be put
pub at_entry : (granted : ℕ) (d d' : Doing) (pending : List Ask) (outcome : Outcome) (request : Request) (rest : List Request) → StaysWithin d d' → All IsAsk pending → d.stage ≡ stages.Entry outcome
    → d.pending ≡ request ∷ rest → d'.kept ≡ Some (keeps.Answer (entry_for request d.answer) outcome) → IsServedAt granted d pending d.stage → IsServedAt granted d' pending d.stage
at_entry granted d d' pending outcome request rest stays each first items kept served =
    subst (IsServedAt granted d' pending) (sym first) (
      inr (record {
        request = request;
        rest = rest;
        pending = stays.served.pending ∙ items;
        kept = kept ∙ ap (λ (bytes : List ℕ). Some (keeps.Answer (entry_for request bytes) outcome)) (sym stays.served.answer);
      }),
      stands_over granted d d' outcome pending pending stays.unit.id stays.served.answer (record { same = λ ask more is. (more, is) })
          (known_slots d.client d'.client stays.client) (rights_stay d.client d'.client stays.client) each stands,
    )
  where
    stands : StandsOver granted d outcome pending
    stands = (subst (IsServedAt granted d pending) first served).1

unfoldable pub keeps_entry : (granted : ℕ) (d d' : Doing) (s : ClientState) (own : EndState) (coming0 whole0 : List Ask) → KeepsEntry d d' → StillTalks granted d s own coming0 whole0
    → StillTalks granted d' s own coming0 whole0
keeps_entry granted d d' s own coming0 whole0 step still =
    still_served granted d d' s own coming0 whole0 stays still
    (at_entry granted d d' still.pending step.outcome step.request step.rest stays
    (all_front IsAsk still.pending still.coming (all_rest IsAsk still.answered (still.pending ++ still.coming) still.talks.all.each)) step.first step.pending step.kept still.talks.served)
  where
    stays : StaysWithin d d'
    stays = record {
      unit = step.stays;
      served = step.served;
      client = step.put.client;
      coming = step.coming;
      sent = step.put.sent;
      ended = step.line.ended;
      handshake = step.line.handshake;
      reaches = step.line.reaches;
      event = step.line.event ∙ still.talks.goes.event;
    }

-- ---- it is put

-- what was put
sent_one : (d d' : Doing) (own : EndState) (step : PutsEntry d d') → d.to ≡ own.last_session → d'.sent ≡ d.sent ++ rows_to own.last_session (entry_for step.request d.answer ∷ [])
sent_one d d' own step to =
    step.sent
    ∙ ap (λ b. d.sent ++ cond b (rows_to d.to (entry_for step.request d.answer ∷ [])) []) step.reaches
    ∙ ap (λ q. d.sent ++ rows_to q (entry_for step.request d.answer ∷ [])) to

-- the answer that stands over the oldest
heads : (a b : Ask) (xs ys : List Ask) → a ∷ xs ≡ b ∷ ys → b ≡ a
heads a b xs ys e = cc (e)

pub over_first : (granted : ℕ) (d : Doing) (outcome : Outcome) (ask : Ask) (more : List Ask) → StandsOver granted d outcome (ask ∷ more)
    → (answer : Iu) × AnswerStands granted d.id d.client ask (length d.answer) outcome answer × MayWriteAnswer d.client (slot_address ask.slot)
over_first granted d outcome ask more over =
    let same : over.ask ≡ ask = heads ask over.ask more over.more over.first in (
      over.answer,
      subst (λ (one : Ask). AnswerStands granted d.id d.client one (length d.answer) outcome over.answer) same over.stands,
      subst (λ (one : Ask). MayWriteAnswer d.client (slot_address one.slot)) same over.may,
    )

-- what it answers suits what is asked there
pub over_suits : (granted : ℕ) (d : Doing) (outcome : Outcome) (ask : Ask) (more : List Ask) → StandsOver granted d outcome (ask ∷ more)
    → (current : ℕ) × Suits current (order_asked ask.iu) outcome
over_suits granted d outcome ask more over =
    let same : over.ask ≡ ask = heads ask over.ask more over.more over.first in
    (over.asks.0, subst (λ (one : Ask). Suits over.asks.0 (order_asked one.iu) outcome) same over.asks.1)

pub puts_within : (granted : ℕ) (d d' : Doing) (s : ClientState) (own : EndState) (answered : List Ask) (ask : Ask) (more coming : List Ask) (answers : List Iu)
    → TalksWithin granted d s own answered (ask ∷ more) coming answers → (step : PutsEntry d d') → IsPendingAs step.request ask → ArePending d'.pending more
    → (answer : Iu) → AnswerStands granted d.id d.client ask (length d.answer) step.outcome answer
    → TalksWithin granted d' s own (answered ++ ask ∷ []) more coming (answers ++ answer ∷ [])
puts_within granted d d' s own answered ask more coming answers talks step is are answer stood = record {
  talker = talks.talker;
  all = subst (AwaitsAll s) (sym (append_assoc answered (ask ∷ []) (more ++ coming))) talks.all;
  goes = goes_on granted d d' own (rows_to own.last_session (entry ∷ [])) step.stays step.line.ended step.line.handshake (step.line.event ∙ talks.goes.event) step.line.reaches
      step.client.place usable sent talks.goes;
  pends = are;
  comes = subst (λ (entries : List Entry). AreSaidThere d'.client entries (map word_of coming)) (sym step.coming)
      (said_stays (λ slot. ⊤) d.client d'.client talks.goes.usable keeps usable d.coming coming (all_rest IsAsk (ask ∷ more) coming each) (all_spared coming) talks.comes);
  told = subst (λ (entries : List Entry). HaveAnswers d'.client entries (answered ++ ask ∷ []) (answers ++ answer ∷ [])) (sym stream)
      (answers_push d'.client (s.kept ++ coming_to own d.sent) answered answers entry ask answer
      (answers_move d.client d'.client (λ slot. ⊤) keeps (s.kept ++ coming_to own d.sent) answered answers (all_spared answered)
      (all_front IsAsk answered (ask ∷ more ++ coming) talks.all.each) talks.told)
      (record {
        long = length d.answer;
        few = stands.few;
        entry_is = ap (srp_entry (length d.answer)) is.tag;
        bytes = stands.bytes;
        stand = stands.stand;
        whole = stands.whole;
        spelled = stands.spelled;
        suits = stands.suits;
      }));
  grant = All-push (IsAnswerBy granted d'.id d'.client) answers answer
      (says_move granted d.id d'.id d.client d'.client step.stays.id keeps.unit keeps.strokes answers talks.grant) stands.credits;
  tables = subst (λ (stage : Stage). All (DataLies d'.client) (unserved stage more ++ coming)) (sym step.stage)
      (all_kept d.client d'.client (λ one. ⊤) (known_tables d.client d'.client step.client) (more ++ coming) (all_spared (more ++ coming))
      (subst (λ (stage : Stage). All (DataLies d.client) (unserved stage (ask ∷ more) ++ coming)) step.first talks.tables));
  starts = All-tail (StartsAt s.rows) ask (more ++ coming) talks.starts;
  spared = talks.spared.1;
  served = subst (IsServedAt granted d' more) (sym step.stage) step.kept;
}
  where
    entry : Entry
    entry = entry_for step.request d.answer

    keeps : KeepsSlots (λ slot. ⊤) d.client d'.client
    keeps = known_slots d.client d'.client step.client

    usable : IsOwnWindow d'.client
    usable = known_own d.client d'.client step.client talks.goes.usable

    each : All IsAsk (ask ∷ more ++ coming)
    each = all_rest IsAsk answered (ask ∷ more ++ coming) talks.all.each

    stands : AnswerStands granted d'.id d'.client ask (length d.answer) step.outcome answer
    stands = answer_stands granted d.id d'.id d.client d'.client ask (length d.answer) (length d.answer) step.outcome answer step.stays.id refl
        (All-head IsAsk ask (more ++ coming) each) keeps stood

    sent : d'.sent ≡ d.sent ++ rows_to own.last_session (entry ∷ [])
    sent = sent_one d d' own step talks.goes.to

    stream : s.kept ++ coming_to own d'.sent ≡ (s.kept ++ coming_to own d.sent) ++ entry ∷ []
    stream = ap (λ (list : List Entry). s.kept ++ list) (ap (coming_to own) sent ∙ coming_push own d.sent (entry ∷ []) talks.goes.took)
        ∙ sym (append_assoc s.kept (coming_to own d.sent) (entry ∷ []))

unfoldable pub puts_on : (granted : ℕ) (d d' : Doing) (s : ClientState) (own : EndState) (coming0 whole0 : List Ask) → PutsEntry d d' → StillTalks granted d s own coming0 whole0
    → StillTalks granted d' s own coming0 whole0
puts_on granted d d' s own coming0 whole0 step still =
    let first = pending_first step.request d'.pending still.pending (subst (λ (requests : List Request). ArePending requests still.pending) step.pending still.talks.pends) in
    let talks : TalksWithin granted d s own still.answered (first.0 ∷ first.1) still.coming still.answers =
    subst (λ (pending : List Ask). TalksWithin granted d s own still.answered pending still.coming still.answers) first.2 still.talks in
    let done : HasDone d.client coming0 whole0 (first.0 ∷ first.1) still.coming =
    subst (λ (pending : List Ask). HasDone d.client coming0 whole0 pending still.coming) first.2 still.done in
    let over = over_first granted d step.outcome first.0 first.1 (subst (IsServedAt granted d (first.0 ∷ first.1)) step.first talks.served).1 in
    record {
      answered = still.answered ++ first.0 ∷ [];
      pending = first.1;
      coming = still.coming;
      answers = still.answers ++ over.0 ∷ [];
      talks = puts_within granted d d' s own still.answered first.0 first.1 still.coming still.answers talks step first.3 first.4 over.0 over.1;
      done = record {
        heard = done.heard;
        heard_is = done.heard_is;
        read = reads_stay d.client d'.client (rights_stay d.client d'.client step.client) done.heard done.read;
        gone = done.gone ++ first.0 ∷ [];
        gone_is = gone_push whole0 done.gone first.0 first.1 still.coming done.gone_is;
        answered = answers_stay d.client d'.client (rights_stay d.client d'.client step.client) (done.gone ++ first.0 ∷ [])
            (All-push (MayAnswer d.client) done.gone first.0 done.answered (inr over.2));
      };
    }
