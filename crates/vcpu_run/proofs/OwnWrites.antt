-- An answer that a server unit writes over the oldest request within a turn, while its client talks to it: it stands there, and might be written.
use Rattle.std.proofs.Common.{◌≡◌, ◌≢◌, ◌∙◌, inl, ℕ, ◌+◌, ◌%◌, ◌≤◌, ◌++◌, All, List, [], ◌∷◌, None, append-nil, length, map, refl, sym, subst, arith}
use Rattle.std.specs.Prelude.{⊤}
use Rattle.std.proofs.lemmas.List.Elements.{All-head, All-weaker}
use Rattle.vio_num.specs.declared.entry.Entry.{Entry}
use Rattle.crq_session.specs.EndState.{EndState}
use Rattle.srp_iu.specs.declared.unit.Iu.{Iu}
use Rattle.tce_window.specs.declared.answers.Right.TheVariants.{Write}
use Rattle.rdma_copy.specs.Copies.{MayHold}
use Rattle.block_server.specs.Bearing.{IsAnswerPart}
use Rattle.block_server.specs.Doings.{Doing, WritesAnswer, name_for}
use Rattle.block_server.specs.Ranges.{IsAnswerRange, LaysWithin, known_in}
use Rattle.block_server.specs.Standing.{IsAnswerTo, Stands}
use Rattle.block_server.specs.Talk.{Suits, order_asked}
use Rattle.block_server.specs.declared.request.Request.{Request}
use Rattle.block_server.specs.declared.service.Outcome.{Outcome}
use Rattle.block_server.specs.declared.service.Stage.{Stage}
use Rattle.vscsi_client.specs.State.{ClientState}
use Rattle.vscsi_client.specs.Units.{slot_address}
use Rattle.vscsi_client.specs.declared.TheConstants.{SLOTS}
use Rattle.vcpu_run.specs.OwnTurns.{GoesOn, HasDone, IsServedAt, IsWorkedOut, StillTalks, TalksWithin, unserved}
use Rattle.vcpu_run.specs.PlainTalk.{AnswerStands, AreApart, ArePending, AreSaidThere, Ask, DataLies, IsAsk, IsOwnWindow, IsPendingAs, KeepsSlots, word_of}
use Rattle.vcpu_run.proofs.OwnLays.{bears_lay, is_shown, lays_slots, lays_tables}
use Rattle.vcpu_run.proofs.OwnSame.{done_on, goes_on, told_on}
use Rattle.vcpu_run.proofs.OwnWindows.{said_stays, slot_wide, usable_stays}
use Rattle.vcpu_run.proofs.PlainAnswered.{answer_few, laid_stands}
use Rattle.vcpu_run.proofs.PlainData.{IsOfTable}
use Rattle.vcpu_run.proofs.PlainLeaves.{lays_own}
use Rattle.vcpu_run.proofs.PlainLists.{apart_front}
use Rattle.vcpu_run.proofs.PlainReady.{all_front, all_rest}
use Rattle.vcpu_run.proofs.PlainRejected.{says_move}
use Rattle.vcpu_run.proofs.PlainServed.{all_kept, all_spared, pending_first}
use Rattle.vcpu_run.proofs.PlainSlots.{slot_on, slots_apart}
use Rattle.vcpu_run.proofs.PlainStays.{Apart}

-- ---- lists

-- those behind the oldest have other slots
pub apart_rest : (front : List Ask) (ask : Ask) (more : List Ask) → AreApart (front ++ ask ∷ more) → All (λ one. one.slot ≢ ask.slot) more
apart_rest [] ask more apart =
    All-weaker (λ (one : Ask). ask.slot ≢ one.slot) (λ (one : Ask). one.slot ≢ ask.slot) (λ one differs same. differs (sym same)) more apart.0
apart_rest (first ∷ front) ask more apart = apart_rest front ask more apart.1

-- what was worked out is of the oldest
pub record WorkedFirst (granted : ℕ) (d : Doing) (outcome : Outcome) (ask : Ask) : Type 0 where
  pub current : ℕ
  pub suits : Suits current (order_asked ask.iu) outcome
  pub answer : IsAnswerTo current granted ask.tag (order_asked ask.iu) outcome d.answer

heads : (a b : Ask) (xs ys : List Ask) → a ∷ xs ≡ b ∷ ys → b ≡ a
heads a b xs ys e = cc (e)

pub worked_first : (granted : ℕ) (d : Doing) (outcome : Outcome) (ask : Ask) (more : List Ask) → IsWorkedOut granted d outcome (ask ∷ more) → WorkedFirst granted d outcome ask
worked_first granted d outcome ask more is =
    let same : is.ask ≡ ask = heads ask is.ask more is.more is.first in
    record {
      current = is.current;
      suits = subst (λ (one : Ask). Suits is.current (order_asked one.iu) outcome) same is.suits;
      answer = subst (λ (one : Ask). IsAnswerTo is.current granted one.tag (order_asked one.iu) outcome d.answer) same is.answer;
    }

-- ---- what is laid

-- the answer lies over the request
lays_answer : (d d' : Doing) (step : WritesAnswer d d') → length d.answer ≤ 256 → LaysWithin (IsAnswerRange step.request) (known_in d.client) (known_in d'.client)
lays_answer d d' step few =
    bears_lay (IsAnswerPart (name_for d.name step.request) step.request.address d.answer) (IsAnswerRange step.request) (known_in d.client) (known_in d'.client)
    (λ address bytes name part. (part.address_is, subst (λ (list : List ℕ). length list ≤ 256) (sym part.are) few)) step.bears

slots_keep : (d d' : Doing) (ask : Ask) (step : WritesAnswer d d') → IsOwnWindow d.client → IsPendingAs step.request ask
    → LaysWithin (IsAnswerRange step.request) (known_in d.client) (known_in d'.client) → KeepsSlots (λ slot. slot ≢ ask.slot) d.client d'.client
slots_keep d d' ask step own is lays = lays_slots (IsAnswerRange step.request) (λ slot. slot ≢ ask.slot) d.client d'.client own step.place lays by
  where
    by : (slot : ℕ) → slot ≤ SLOTS → slot ≢ ask.slot → (a n : ℕ) → IsAnswerRange step.request a n → Apart a n (slot_address slot) 256
    by slot within differs a n range =
        subst (λ from. Apart from n (slot_address slot) 256) (sym (range.0 ∙ is.address)) (slots_apart ask.slot slot n (λ same. differs (sym same)) range.1)

tables_keep : (d d' : Doing) (ask : Ask) (step : WritesAnswer d d') → IsOwnWindow d.client → IsPendingAs step.request ask → IsAsk ask
    → LaysWithin (IsAnswerRange step.request) (known_in d.client) (known_in d'.client) → (other : Ask) → DataLies d.client other → DataLies d'.client other
tables_keep d d' ask step own is is_ask lays other = lays_tables (IsAnswerRange step.request) d.client d'.client own lays other by
  where
    by : (a : ℕ) → IsOfTable other a → (b n : ℕ) → IsAnswerRange step.request b n → Apart b n a 1
    by a of b n range = inl (omega (arith, range.0, is.address, range.1, is_ask.slot_is, of.behind))

-- ---- it stands

stands_now : (granted : ℕ) (d d' : Doing) (ask : Ask) (step : WritesAnswer d d') → IsOwnWindow d'.client → d.name ≡ d'.id → d'.client.place.unit ≢ d'.id → IsPendingAs step.request ask → IsAsk ask
    → WorkedFirst granted d step.outcome ask → (answer : Iu) × AnswerStands granted d'.id d'.client ask (length d'.answer) step.outcome answer
stands_now granted d d' ask step own named apart is is_ask worked =
    let there : Stands d'.client (record { who = d.name; mark = ask.tag }) (slot_address ask.slot) d'.answer =
    subst (λ (bytes : List ℕ). Stands d'.client (record { who = d.name; mark = ask.tag }) (slot_address ask.slot) bytes) (sym step.answer)
    (subst (λ (a : ℕ). Stands d'.client (record { who = d.name; mark = ask.tag }) a d.answer) is.address
    (subst (λ (tag : ℕ). Stands d'.client (record { who = d.name; mark = tag }) step.request.address d.answer) is.tag step.stands)) in
    let answer : IsAnswerTo worked.current granted ask.tag (order_asked ask.iu) step.outcome d'.answer =
    subst (IsAnswerTo worked.current granted ask.tag (order_asked ask.iu) step.outcome) (sym step.answer) worked.answer in
    let few : length d'.answer ≤ 256 = answer_few worked.current granted ask.tag (order_asked ask.iu) step.outcome d'.answer answer in
    let fits : slot_address ask.slot % 4096 + length d'.answer ≤ 4096 = (slot_on d'.client own ask.slot (length d'.answer) is_ask.slot_is there.some few).fits in
    laid_stands worked.current granted d.name d'.id d'.client ask step.outcome d'.answer own named apart is_ask there.some worked.suits answer (there.laid fits)
    (is_shown d'.client own (slot_address ask.slot) d'.answer (there.shows fits))

-- ---- the step

pub writes_within : (granted : ℕ) (d d' : Doing) (s : ClientState) (own : EndState) (answered : List Ask) (ask : Ask) (more coming : List Ask) (answers : List Iu)
    → TalksWithin granted d s own answered (ask ∷ more) coming answers → (step : WritesAnswer d d') → IsPendingAs step.request ask → IsAsk ask
    → (d.kept ≡ None) × IsWorkedOut granted d step.outcome (ask ∷ more) → TalksWithin granted d' s own answered (ask ∷ more) coming answers
writes_within granted d d' s own answered ask more coming answers talks step is is_ask at = record {
  talker = talks.talker;
  all = talks.all;
  goes = goes;
  pends = subst (λ (requests : List Request). ArePending requests (ask ∷ more)) (sym step.pends) talks.pends;
  comes = subst (λ (entries : List Entry). AreSaidThere d'.client entries (map word_of coming)) (sym step.coming)
      (said_stays (λ slot. slot ≢ ask.slot) d.client d'.client talks.goes.usable keeps usable d.coming coming (all_rest IsAsk (ask ∷ more) coming each)
      (all_rest (λ (one : Ask). one.slot ≢ ask.slot) more coming (apart_rest answered ask (more ++ coming) talks.all.slots)) talks.comes);
  told = told_on d d' s own answered answers (λ slot. slot ≢ ask.slot) keeps (apart_front answered ask (more ++ coming) talks.all.slots)
      (all_front IsAsk answered (ask ∷ more ++ coming) talks.all.each) step.sent talks.told;
  grant = says_move granted d.id d'.id d.client d'.client step.stays.id keeps.unit keeps.strokes answers talks.grant;
  tables = subst (λ (stage : Stage). All (DataLies d'.client) (unserved stage (ask ∷ more) ++ coming)) (sym step.stage)
      (all_kept d.client d'.client (λ one. ⊤) (λ other spares lies. tables_keep d d' ask step talks.goes.usable is is_ask lays other lies) (more ++ coming) (all_spared (more ++ coming))
      (subst (λ (stage : Stage). All (DataLies d.client) (unserved stage (ask ∷ more) ++ coming)) step.first talks.tables));
  starts = talks.starts;
  spared = talks.spared;
  served = subst (IsServedAt granted d' (ask ∷ more)) (sym step.stage) (
    inl (step.kept ∙ at.0),
    record {
      ask = ask;
      more = more;
      first = refl;
      asks = (worked.current, worked.suits);
      answer = stands.0;
      stands = stands.1;
      may = usable_stays d.client d'.client Write (slot_address ask.slot) 256 (record { place = step.place; values = step.bears.values })
          (slot_wide d.client talks.goes.usable Write ask.slot (length d.answer) is_ask.slot_is step.stands.some (answer_few worked.current granted ask.tag (order_asked ask.iu) step.outcome d.answer worked.answer)
          (subst (λ (a : ℕ). MayHold d.client Write a (length d.answer)) is.address step.may));
    },
  );
}
  where
    worked : WorkedFirst granted d step.outcome ask
    worked = worked_first granted d step.outcome ask more at.1

    lays : LaysWithin (IsAnswerRange step.request) (known_in d.client) (known_in d'.client)
    lays = lays_answer d d' step (answer_few worked.current granted ask.tag (order_asked ask.iu) step.outcome d.answer worked.answer)

    keeps : KeepsSlots (λ slot. slot ≢ ask.slot) d.client d'.client
    keeps = slots_keep d d' ask step talks.goes.usable is lays

    usable : IsOwnWindow d'.client
    usable = lays_own (IsAnswerRange step.request) d.client d'.client talks.goes.usable step.place lays

    each : All IsAsk (ask ∷ more ++ coming)
    each = all_rest IsAsk answered (ask ∷ more ++ coming) talks.all.each

    goes : GoesOn granted d' own
    goes = goes_on granted d d' own [] step.stays step.line.ended step.line.handshake (step.line.event ∙ talks.goes.event) step.line.reaches step.place usable
        (step.sent ∙ sym (append-nil d.sent)) talks.goes

    stands : (answer : Iu) × AnswerStands granted d'.id d'.client ask (length d'.answer) step.outcome answer
    stands = stands_now granted d d' ask step usable (talks.goes.named ∙ sym step.stays.id) goes.apart is is_ask worked

unfoldable pub writes_on : (granted : ℕ) (d d' : Doing) (s : ClientState) (own : EndState) (coming0 whole0 : List Ask) → WritesAnswer d d' → StillTalks granted d s own coming0 whole0
    → StillTalks granted d' s own coming0 whole0
writes_on granted d d' s own coming0 whole0 step still =
    let first = pending_first step.request step.rest still.pending (subst (λ (requests : List Request). ArePending requests still.pending) step.pending still.talks.pends) in
    let talks : TalksWithin granted d s own still.answered (first.0 ∷ first.1) still.coming still.answers =
    subst (λ (pending : List Ask). TalksWithin granted d s own still.answered pending still.coming still.answers) first.2 still.talks in
    let is_ask : IsAsk first.0 =
    All-head IsAsk first.0 (first.1 ++ still.coming) (all_rest IsAsk still.answered (first.0 ∷ first.1 ++ still.coming) talks.all.each) in
    record {
      answered = still.answered;
      pending = first.0 ∷ first.1;
      coming = still.coming;
      answers = still.answers;
      talks = writes_within granted d d' s own still.answered first.0 first.1 still.coming still.answers talks step first.3 is_ask
          (subst (IsServedAt granted d (first.0 ∷ first.1)) step.first talks.served);
      done = done_on d.client d'.client coming0 whole0 (first.0 ∷ first.1) still.coming (record { place = step.place; values = step.bears.values })
          (subst (λ (pending : List Ask). HasDone d.client coming0 whole0 pending still.coming) first.2 still.done);
    }
