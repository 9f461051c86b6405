-- A step within a turn of a server unit that changes nothing of what lies between it and its client, or only what is pending behind the oldest.
use Rattle.std.proofs.Common.{◌≡◌, ◌∙◌, ◌⊎◌, inl, inr, ℕ, ◌≤◌, ◌++◌, All, List, [], ◌∷◌, Some, None, append-nil, length, length-append, map, sym, ap, subst, arith}
use Rattle.std.specs.Prelude.{⊤}
use Rattle.std.proofs.lemmas.List.Elements.{All-cons, All-head, All-nil}
use Rattle.vio_num.specs.declared.entry.Entry.{Entry}
use Rattle.vio_num.specs.declared.names.UnitId.{UnitId}
use Rattle.crq_ring.specs.Sessions.{of_session}
use Rattle.crq_ring.specs.declared.rows.PipeRow.{PipeRow}
use Rattle.crq_session.specs.EndState.{EndState}
use Rattle.srp_iu.specs.declared.unit.Iu.{Iu}
use Rattle.tce_window.specs.PortState.{PortPlace, PortState}
use Rattle.tce_window.specs.declared.answers.Right.TheVariants.{Write}
use Rattle.block_server.specs.Doings.{Doing, StaysServed, StaysUnit, entry_for}
use Rattle.block_server.specs.Standing.{IsAnswerTo}
use Rattle.block_server.specs.Talk.{StaysKnown, order_asked}
use Rattle.block_server.specs.declared.line.Kept.TheVariants as keeps
use Rattle.block_server.specs.declared.request.Request.{Request}
use Rattle.block_server.specs.declared.service.Outcome.{Outcome}
use Rattle.block_server.specs.declared.service.Stage.{Stage}
use Rattle.block_server.specs.declared.service.Stage.TheVariants as stages
use Rattle.vscsi_client.specs.State.{ClientState}
use Rattle.vscsi_client.specs.Units.{slot_address}
use Rattle.vcpu_run.specs.OwnOver.{coming_to}
use Rattle.vcpu_run.specs.OwnTurns.{GoesOn, HasDone, IsServedAt, IsWorkedOut, KeepsAnswer, StandsOver, StillTalks, TalksWithin, unserved}
use Rattle.vcpu_run.specs.PlainTalk.{AnswerStands, ArePending, AreSaidThere, Ask, DataLies, HaveAnswers, IsAnswerBy, IsAsk, IsOwnWindow, KeepsSlots, word_of}
use Rattle.vcpu_run.proofs.Losing.{of_append}
use Rattle.vcpu_run.proofs.OwnWindows.{StaysGranted, answers_stay, known_own, known_slots, known_tables, reads_stay, said_stays, usable_stays}
use Rattle.vcpu_run.proofs.PlainReady.{all_front, all_rest}
use Rattle.vcpu_run.proofs.PlainRejected.{says_move}
use Rattle.vcpu_run.proofs.PlainServed.{all_kept, all_spared, answers_move}

-- ---- the session

pub goes_on : (granted : ℕ) (old new : Doing) (own : EndState) (more : List PipeRow) → StaysUnit old new → new.ended ≡ old.ended → new.handshake ≡ old.handshake → new.event ≡ None
    → new.reaches ≡ old.reaches → new.client.place ≡ old.client.place → IsOwnWindow new.client → new.sent ≡ old.sent ++ more → GoesOn granted old own → GoesOn granted new own
goes_on granted old new own more stays ended handshake event reaches place usable sent goes = record {
  going = ended ∙ goes.going;
  up = handshake ∙ goes.up;
  event = event;
  reaches = reaches ∙ goes.reaches;
  partner = stays.partner ∙ goes.partner;
  to = stays.to ∙ goes.to;
  grants = stays.granted ∙ goes.grants;
  most = goes.most;
  took = omega (
    arith,
    goes.took,
    ap (λ (rows : List PipeRow). length (of_session own.last_session rows)) sent,
    ap (λ (list : List Entry). length list) (of_append own.last_session old.sent more),
    length-append (of_session own.last_session old.sent) (of_session own.last_session more),
  );
  named = stays.name ∙ goes.named ∙ sym stays.id;
  apart = λ e. goes.apart (sym (ap (λ (p : PortPlace). p.unit) place) ∙ e ∙ stays.id);
  usable = usable;
}

-- ---- the service

-- the oldest is the same
pub record SameOldest (pending pending' : List Ask) : Type 0 where
  pub same : (ask : Ask) (more : List Ask) → pending ≡ ask ∷ more → (more' : List Ask) × (pending' ≡ ask ∷ more')

pub worked_out : (granted : ℕ) (old new : Doing) (outcome : Outcome) (pending pending' : List Ask) → new.answer ≡ old.answer → SameOldest pending pending'
    → IsWorkedOut granted old outcome pending → IsWorkedOut granted new outcome pending'
worked_out granted old new outcome pending pending' same oldest is = record {
  ask = is.ask;
  more = (oldest.same is.ask is.more is.first).0;
  first = (oldest.same is.ask is.more is.first).1;
  current = is.current;
  suits = is.suits;
  answer = subst (IsAnswerTo is.current granted is.ask.tag (order_asked is.ask.iu) outcome) (sym same) is.answer;
}

-- an answer stands where it stood
pub answer_stands : (granted : ℕ) (who who' : UnitId) (old new : PortState) (ask : Ask) (long long' : ℕ) (outcome : Outcome) (answer : Iu) → who' ≡ who → long' ≡ long → IsAsk ask
    → KeepsSlots (λ slot. ⊤) old new → AnswerStands granted who old ask long outcome answer → AnswerStands granted who' new ask long' outcome answer
answer_stands granted who who' old new ask long long' outcome answer same length_is is_ask keeps stands = record {
  few = subst (λ n. n ≤ 256) (sym length_is) stands.few;
  bytes = stands.bytes;
  stand = keeps.slots ask.slot stands.bytes is_ask.slot_is tt stands.whole stands.stand;
  whole = stands.whole;
  spelled = stands.spelled;
  suits = stands.suits;
  grants = stands.grants;
  credits = All-head (IsAnswerBy granted who' new) answer []
      (says_move granted who who' old new same keeps.unit keeps.strokes (answer ∷ [])
      (All-cons (IsAnswerBy granted who old) answer [] stands.credits (All-nil (IsAnswerBy granted who old))));
}

pub stands_over : (granted : ℕ) (old new : Doing) (outcome : Outcome) (pending pending' : List Ask) → new.id ≡ old.id → new.answer ≡ old.answer → SameOldest pending pending'
    → KeepsSlots (λ slot. ⊤) old.client new.client → StaysGranted old.client new.client → All IsAsk pending → StandsOver granted old outcome pending
    → StandsOver granted new outcome pending'
stands_over granted old new outcome pending pending' id same oldest keeps rights each is = record {
  ask = is.ask;
  more = (oldest.same is.ask is.more is.first).0;
  first = (oldest.same is.ask is.more is.first).1;
  asks = is.asks;
  answer = is.answer;
  stands = answer_stands granted old.id new.id old.client new.client is.ask (length old.answer) (length new.answer) outcome is.answer id (ap (λ (bytes : List ℕ). length bytes) same)
      (All-head IsAsk is.ask is.more (subst (All IsAsk) is.first each)) keeps is.stands;
  may = usable_stays old.client new.client Write (slot_address is.ask.slot) 256 rights is.may;
}

-- its entry is kept still
keeps_on : (old new : Doing) (outcome : Outcome) → new.kept ≡ old.kept → new.answer ≡ old.answer
    → ((request : Request) (rest : List Request) → old.pending ≡ request ∷ rest → (rest' : List Request) × (new.pending ≡ request ∷ rest')) → KeepsAnswer old outcome → KeepsAnswer new outcome
keeps_on old new outcome kept answer oldest is = record {
  request = is.request;
  rest = (oldest is.request is.rest is.pending).0;
  pending = (oldest is.request is.rest is.pending).1;
  kept = kept ∙ is.kept ∙ ap (λ (bytes : List ℕ). Some (keeps.Answer (entry_for is.request bytes) outcome)) (sym answer);
}

pub record StaysOldest (old new : Doing) (pending pending' : List Ask) : Type 0 where
  pub id : new.id ≡ old.id
  pub answer : new.answer ≡ old.answer
  pub kept : new.kept ≡ old.kept
  pub first : (request : Request) (rest : List Request) → old.pending ≡ request ∷ rest → (rest' : List Request) × (new.pending ≡ request ∷ rest')
  pub oldest : SameOldest pending pending'
  pub keeps : KeepsSlots (λ slot. ⊤) old.client new.client
  pub rights : StaysGranted old.client new.client

pub served_on : (granted : ℕ) (old new : Doing) (pending pending' : List Ask) (stage : Stage) → StaysOldest old new pending pending' → All IsAsk pending
    → IsServedAt granted old pending stage → IsServedAt granted new pending' stage
served_on granted old new pending pending' stages.Start stays each served = stays.kept ∙ served
served_on granted old new pending pending' (stages.Answer outcome) stays each served =
    (stays.kept ∙ served.0, worked_out granted old new outcome pending pending' stays.answer stays.oldest served.1)
served_on granted old new pending pending' (stages.Entry outcome) stays each served =
    (by served.0, stands_over granted old new outcome pending pending' stays.id stays.answer stays.oldest stays.keeps stays.rights each served.1)
  where
    by : (old.kept ≡ None) ⊎ KeepsAnswer old outcome → (new.kept ≡ None) ⊎ KeepsAnswer new outcome
    by (inl none) = inl (stays.kept ∙ none)
    by (inr kept) = inr (keeps_on old new outcome stays.kept stays.answer stays.first kept)
served_on granted old new pending pending' stage stays each served = absurd served

-- ---- nothing changed

-- Of what is said nothing changed, but for what is kept.
pub record StaysWithin (old new : Doing) : Type 0 where
  pub unit : StaysUnit old new
  pub served : StaysServed old new
  pub client : StaysKnown old.client new.client
  pub coming : new.coming ≡ old.coming
  pub sent : new.sent ≡ old.sent
  pub ended : new.ended ≡ old.ended
  pub handshake : new.handshake ≡ old.handshake
  pub reaches : new.reaches ≡ old.reaches
  pub event : new.event ≡ None

pub rights_stay : (old new : PortState) → StaysKnown old new → StaysGranted old new
rights_stay old new stays = record { place = stays.place; values = stays.values }

pub told_on : (old new : Doing) (s : ClientState) (own : EndState) (answered : List Ask) (answers : List Iu) (spared : ℕ → Type 0) → KeepsSlots spared old.client new.client
    → All (λ ask. spared ask.slot) answered → All IsAsk answered → new.sent ≡ old.sent → HaveAnswers old.client (s.kept ++ coming_to own old.sent) answered answers
    → HaveAnswers new.client (s.kept ++ coming_to own new.sent) answered answers
told_on old new s own answered answers spared keeps apart each sent told =
    subst (λ (rows : List PipeRow). HaveAnswers new.client (s.kept ++ coming_to own rows) answered answers) (sym sent)
    (answers_move old.client new.client spared keeps (s.kept ++ coming_to own old.sent) answered answers apart each told)

pub within_same : (granted : ℕ) (old new : Doing) (s : ClientState) (own : EndState) (answered pending coming : List Ask) (answers : List Iu) → StaysWithin old new
    → IsServedAt granted new pending old.stage → TalksWithin granted old s own answered pending coming answers → TalksWithin granted new s own answered pending coming answers
within_same granted old new s own answered pending coming answers stays served talks = record {
  talker = talks.talker;
  all = talks.all;
  goes = goes_on granted old new own [] stays.unit stays.ended stays.handshake stays.event stays.reaches stays.client.place usable
      (stays.sent ∙ sym (append-nil old.sent)) talks.goes;
  pends = subst (λ (requests : List Request). ArePending requests pending) (sym stays.served.pending) talks.pends;
  comes = subst (λ (entries : List Entry). AreSaidThere new.client entries (map word_of coming)) (sym stays.coming)
      (said_stays (λ slot. ⊤) old.client new.client talks.goes.usable keeps usable old.coming coming (all_rest IsAsk pending coming each) (all_spared coming) talks.comes);
  told = told_on old new s own answered answers (λ slot. ⊤) keeps (all_spared answered) (all_front IsAsk answered (pending ++ coming) talks.all.each) stays.sent talks.told;
  grant = says_move granted old.id new.id old.client new.client stays.unit.id keeps.unit keeps.strokes answers talks.grant;
  tables = subst (λ (stage : Stage). All (DataLies new.client) (unserved stage pending ++ coming)) (sym stays.served.stage)
      (all_kept old.client new.client (λ ask. ⊤) (known_tables old.client new.client stays.client) (unserved old.stage pending ++ coming)
      (all_spared (unserved old.stage pending ++ coming)) talks.tables);
  starts = talks.starts;
  spared = talks.spared;
  served = subst (IsServedAt granted new pending) (sym stays.served.stage) served;
}
  where
    keeps : KeepsSlots (λ slot. ⊤) old.client new.client
    keeps = known_slots old.client new.client stays.client

    usable : IsOwnWindow new.client
    usable = known_own old.client new.client stays.client talks.goes.usable

    each : All IsAsk (pending ++ coming)
    each = all_rest IsAsk answered (pending ++ coming) talks.all.each

pub done_on : (old new : PortState) (coming0 whole0 pending coming : List Ask) → StaysGranted old new → HasDone old coming0 whole0 pending coming → HasDone new coming0 whole0 pending coming
done_on old new coming0 whole0 pending coming stays done = record {
  heard = done.heard;
  heard_is = done.heard_is;
  read = reads_stay old new stays done.heard done.read;
  gone = done.gone;
  gone_is = done.gone_is;
  answered = answers_stay old new stays done.gone done.answered;
}

-- what was kept is
pub served_same : (granted : ℕ) (old new : Doing) (pending : List Ask) → StaysWithin old new → new.kept ≡ old.kept → All IsAsk pending → IsServedAt granted old pending old.stage
    → IsServedAt granted new pending old.stage
served_same granted old new pending stays kept each served = served_on granted old new pending pending old.stage (record {
  id = stays.unit.id;
  answer = stays.served.answer;
  kept = kept;
  first = λ request rest is. (rest, stays.served.pending ∙ is);
  oldest = record { same = λ ask more is. (more, is) };
  keeps = known_slots old.client new.client stays.client;
  rights = rights_stay old.client new.client stays.client;
}) each served

unfoldable pub still_served : (granted : ℕ) (old new : Doing) (s : ClientState) (own : EndState) (coming0 whole0 : List Ask) → StaysWithin old new → (still : StillTalks granted old s own coming0 whole0)
    → IsServedAt granted new still.pending old.stage → StillTalks granted new s own coming0 whole0
still_served granted old new s own coming0 whole0 stays still served = record {
  answered = still.answered;
  pending = still.pending;
  coming = still.coming;
  answers = still.answers;
  talks = within_same granted old new s own still.answered still.pending still.coming still.answers stays served still.talks;
  done = done_on old.client new.client coming0 whole0 still.pending still.coming (rights_stay old.client new.client stays.client) still.done;
}

unfoldable pub still_same : (granted : ℕ) (old new : Doing) (s : ClientState) (own : EndState) (coming0 whole0 : List Ask) → StaysWithin old new → new.kept ≡ old.kept
    → StillTalks granted old s own coming0 whole0 → StillTalks granted new s own coming0 whole0
still_same granted old new s own coming0 whole0 stays kept still =
    still_served granted old new s own coming0 whole0 stays still (served_same granted old new still.pending stays kept
    (all_front IsAsk still.pending still.coming (all_rest IsAsk still.answered (still.pending ++ still.coming) still.talks.all.each)) still.talks.served)
