-- A request that a server unit takes while its client talks to it: what was to come is pending behind all, and could be read.
use Rattle.std.proofs.Common.{◌≡◌, ◌∙◌, ℕ, ◌+◌, ◌++◌, All, List, [], ◌∷◌, append-nil, append_assoc, drop, length, map, sym, ap, subst, arith}
use Rattle.std.specs.Prelude.{⊤}
use Rattle.std.proofs.lemmas.List.Elements.{All-head, All-push, All-tail}
use Rattle.crq_session.specs.EndState.{EndState}
use Rattle.srp_iu.specs.Grammar.{Spells}
use Rattle.srp_iu.specs.declared.unit.Iu.{Iu}
use Rattle.tce_window.specs.Pieces.{IsGranted, IsLast, IsUsable, MayUse}
use Rattle.tce_window.specs.PortState.{PortState}
use Rattle.tce_window.specs.declared.answers.Right.TheVariants.{Read}
use Rattle.block_server.specs.Doings.{Doing, TakesRequest}
use Rattle.block_server.specs.Talk.{IsReadWhole, order_asked, tag_asked}
use Rattle.block_server.specs.declared.request.Request.{Request}
use Rattle.block_server.specs.declared.service.Stage.{Stage}
use Rattle.block_server.specs.declared.service.Stage.TheVariants as stages
use Rattle.vscsi_client.specs.State.{ClientState}
use Rattle.vscsi_client.specs.Units.{slot_address}
use Rattle.vcpu_run.specs.OwnTurns.{HasDone, IsServedAt, MayRead, StillTalks, TalksWithin, AwaitsAll, unserved}
use Rattle.vcpu_run.specs.PlainTalk.{ArePending, AreSaidThere, AreSpared, Ask, DataLies, IsAsk, IsAskedThere, IsOwnWindow, IsPendingAs, KeepsSlots, StartsAt, word_of}
use Rattle.vcpu_run.proofs.OwnNever.{comes_first, read_ask}
use Rattle.vcpu_run.proofs.OwnSame.{SameOldest, goes_on, rights_stay, served_on, told_on}
use Rattle.vcpu_run.proofs.OwnWindows.{known_own, known_slots, known_tables, reads_stay, answers_stay, said_stays}
use Rattle.vcpu_run.proofs.PlainLists.{pending_push}
use Rattle.vcpu_run.proofs.PlainReady.{all_front, all_rest}
use Rattle.vcpu_run.proofs.PlainRejected.{says_move}
use Rattle.vcpu_run.proofs.PlainServed.{all_kept, all_spared}
use Rattle.vcpu_run.proofs.PlainSlots.{slot_on}
use Rattle.vcpu_run.proofs.PlainStands.{IsOnPage, IsOne, one_of}

-- ---- what was read could be read

pub read_usable : (window : PortState) (address len : ℕ) (bytes : List ℕ) → IsOnPage window address len → IsReadWhole window address bytes → length bytes ≡ len
    → IsUsable window.values Read window.place.size address len
read_usable window address len bytes on whole long = λ e from below.
    let same : one.piece.entry ≡ e = omega (arith, one.entry, from, below, on.fits) in
    (omega (arith, one.entry, same, on.inside), subst (MayUse window.values Read) same may)
  where
    one : IsOne address len whole.pieces
    one = one_of window.place.unit address len (address + length bytes) whole.pieces (ap (λ (n : ℕ). address + n) long) on.some on.fits whole.read.touched

    granted : IsGranted window.values Read one.piece
    granted = All-head (IsGranted window.values Read) one.piece [] (subst (All (IsGranted window.values Read)) one.one whole.read.granted)

    last : IsLast window.values one.piece
    last = All-head (IsLast window.values) one.piece [] (subst (All (IsLast window.values)) one.one whole.last)

    may : MayUse window.values Read one.piece.entry
    may = record { version = one.piece.version; value = granted.value; current = record { shown = granted.shown; last = last }; granted = granted.granted }

-- ---- lists

pub push_more : (front pending : List Ask) (ask : Ask) (more : List Ask) → front ++ (pending ++ ask ∷ more) ≡ front ++ ((pending ++ ask ∷ []) ++ more)
push_more front pending ask more = ap (λ (list : List Ask). front ++ list) (sym (append_assoc pending (ask ∷ []) more))

pub unserved_push : (granted : ℕ) (d : Doing) (pending : List Ask) (ask : Ask) (more : List Ask) (stage : Stage) → IsServedAt granted d pending stage
    → unserved stage pending ++ ask ∷ more ≡ unserved stage (pending ++ ask ∷ []) ++ more
unserved_push granted d pending ask more stages.Start served = sym (append_assoc pending (ask ∷ []) more)
unserved_push granted d pending ask more (stages.Answer outcome) served = behind served.1.ask served.1.more served.1.first
  where
    behind : (first : Ask) (rest : List Ask) → pending ≡ first ∷ rest → drop 1 pending ++ ask ∷ more ≡ drop 1 (pending ++ ask ∷ []) ++ more
    behind first rest is = subst (λ (list : List Ask). drop 1 list ++ ask ∷ more ≡ drop 1 (list ++ ask ∷ []) ++ more) (sym is) (sym (append_assoc rest (ask ∷ []) more))
unserved_push granted d pending ask more (stages.Entry outcome) served = behind served.1.ask served.1.more served.1.first
  where
    behind : (first : Ask) (rest : List Ask) → pending ≡ first ∷ rest → drop 1 pending ++ ask ∷ more ≡ drop 1 (pending ++ ask ∷ []) ++ more
    behind first rest is = subst (λ (list : List Ask). drop 1 list ++ ask ∷ more ≡ drop 1 (list ++ ask ∷ []) ++ more) (sym is) (sym (append_assoc rest (ask ∷ []) more))
unserved_push granted d pending ask more stage served = absurd served

pub oldest_push : (pending : List Ask) (ask : Ask) → SameOldest pending (pending ++ ask ∷ [])
oldest_push pending ask = record { same = λ first rest is. (rest ++ ask ∷ [], ap (λ (list : List Ask). list ++ ask ∷ []) is) }

-- ---- the step

-- the request is what was asked
pub taken_as : (d d' : Doing) (ask : Ask) → IsOwnWindow d.client → IsAsk ask → (step : TakesRequest d d') → IsAskedThere d.client step.entry (slot_address ask.slot) ask.bytes ask.iu
    → IsPendingAs step.request ask
taken_as d d' ask own is_ask step said = record {
  address = step.address ∙ said.address_is;
  tag = asked.1 ∙ is_ask.tag_is;
  order = asked.0;
  bytes = same;
}
  where
    same : step.request.unit.items ≡ ask.bytes
    same = read_ask d.client own step.entry ask is_ask said step.request.address step.request.unit.items step.address step.long step.read

    asked : (step.request.order ≡ order_asked ask.iu) × (step.request.tag ≡ tag_asked ask.iu)
    asked = step.asked ask.iu (subst (λ (bytes : List ℕ). Spells bytes ask.iu) (sym same) said.spelled)

pub takes_within : (granted : ℕ) (d d' : Doing) (s : ClientState) (own : EndState) (answered pending : List Ask) (ask : Ask) (more : List Ask) (answers : List Iu)
    → TalksWithin granted d s own answered pending (ask ∷ more) answers → (step : TakesRequest d d') → IsAskedThere d.client step.entry (slot_address ask.slot) ask.bytes ask.iu
    → AreSaidThere d.client d'.coming (map word_of more) → TalksWithin granted d' s own answered (pending ++ ask ∷ []) more answers
takes_within granted d d' s own answered pending ask more answers talks step said others = record {
  talker = talks.talker;
  all = subst (AwaitsAll s) (push_more answered pending ask more) talks.all;
  goes = goes_on granted d d' own [] step.stays step.line.ended step.line.handshake (step.line.event ∙ talks.goes.event) step.line.reaches step.put.client.place usable
      (step.put.sent ∙ sym (append-nil d.sent)) talks.goes;
  pends = subst (λ (requests : List Request). ArePending requests (pending ++ ask ∷ [])) (sym step.pending)
      (pending_push d.pending pending step.request ask talks.pends (taken_as d d' ask talks.goes.usable (All-head IsAsk ask more coming_each) step said));
  comes = said_stays (λ slot. ⊤) d.client d'.client talks.goes.usable keeps usable d'.coming more (All-tail IsAsk ask more coming_each) (all_spared more) others;
  told = told_on d d' s own answered answers (λ slot. ⊤) keeps (all_spared answered) (all_front IsAsk answered (pending ++ ask ∷ more) talks.all.each) step.put.sent talks.told;
  grant = says_move granted d.id d'.id d.client d'.client step.stays.id keeps.unit keeps.strokes answers talks.grant;
  tables = subst (λ (stage : Stage). All (DataLies d'.client) (unserved stage (pending ++ ask ∷ []) ++ more)) (sym step.stage)
      (all_kept d.client d'.client (λ one. ⊤) (known_tables d.client d'.client step.put.client) (unserved d.stage (pending ++ ask ∷ []) ++ more)
      (all_spared (unserved d.stage (pending ++ ask ∷ []) ++ more))
      (subst (All (DataLies d.client)) (unserved_push granted d pending ask more d.stage talks.served) talks.tables));
  starts = subst (All (StartsAt s.rows)) (push_more [] pending ask more) talks.starts;
  spared = subst AreSpared (push_more [] pending ask more) talks.spared;
  served = subst (IsServedAt granted d' (pending ++ ask ∷ [])) (sym step.stage)
      (served_on granted d d' pending (pending ++ ask ∷ []) d.stage (record {
        id = step.stays.id;
        answer = step.answer;
        kept = step.kept;
        first = λ request rest is. (rest ++ step.request ∷ [], step.pending ∙ ap (λ (list : List Request). list ++ step.request ∷ []) is);
        oldest = oldest_push pending ask;
        keeps = keeps;
        rights = rights_stay d.client d'.client step.put.client;
      }) (all_front IsAsk pending (ask ∷ more) each) talks.served);
}
  where
    keeps : KeepsSlots (λ slot. ⊤) d.client d'.client
    keeps = known_slots d.client d'.client step.put.client

    usable : IsOwnWindow d'.client
    usable = known_own d.client d'.client step.put.client talks.goes.usable

    each : All IsAsk (pending ++ ask ∷ more)
    each = all_rest IsAsk answered (pending ++ ask ∷ more) talks.all.each

    coming_each : All IsAsk (ask ∷ more)
    coming_each = all_rest IsAsk pending (ask ∷ more) each

pub takes_done : (d d' : Doing) (coming0 whole0 pending : List Ask) (ask : Ask) (more : List Ask) → IsOwnWindow d.client → IsAsk ask → (step : TakesRequest d d')
    → IsAskedThere d.client step.entry (slot_address ask.slot) ask.bytes ask.iu → HasDone d.client coming0 whole0 pending (ask ∷ more)
    → HasDone d'.client coming0 whole0 (pending ++ ask ∷ []) more
takes_done d d' coming0 whole0 pending ask more own is_ask step said done = record {
  heard = done.heard ++ ask ∷ [];
  heard_is = done.heard_is ∙ sym (append_assoc done.heard (ask ∷ []) more);
  read = reads_stay d.client d'.client (rights_stay d.client d'.client step.put.client) (done.heard ++ ask ∷ []) (All-push (MayRead d.client) done.heard ask done.read may);
  gone = done.gone;
  gone_is = done.gone_is ∙ push_more done.gone pending ask more;
  answered = answers_stay d.client d'.client (rights_stay d.client d'.client step.put.client) done.gone done.answered;
}
  where
    may : MayRead d.client ask
    may = read_usable d.client (slot_address ask.slot) (length ask.bytes) step.request.unit.items (slot_on d.client own ask.slot (length ask.bytes) is_ask.slot_is said.some said.few)
        (subst (λ (a : ℕ). IsReadWhole d.client a step.request.unit.items) (step.address ∙ said.address_is) step.read) (step.long ∙ said.long)

unfoldable pub takes_on : (granted : ℕ) (d d' : Doing) (s : ClientState) (own : EndState) (coming0 whole0 : List Ask) → TakesRequest d d' → StillTalks granted d s own coming0 whole0
    → StillTalks granted d' s own coming0 whole0
takes_on granted d d' s own coming0 whole0 step still =
    let first = comes_first d.client d.coming still.coming step.entry d'.coming step.heard still.talks.comes in
    let talks : TalksWithin granted d s own still.answered still.pending (first.ask ∷ first.more) still.answers =
    subst (λ (coming : List Ask). TalksWithin granted d s own still.answered still.pending coming still.answers) first.is still.talks in
    let done : HasDone d.client coming0 whole0 still.pending (first.ask ∷ first.more) =
    subst (λ (coming : List Ask). HasDone d.client coming0 whole0 still.pending coming) first.is still.done in
    let is_ask : IsAsk first.ask =
    All-head IsAsk first.ask first.more
    (all_rest IsAsk still.pending (first.ask ∷ first.more) (all_rest IsAsk still.answered (still.pending ++ first.ask ∷ first.more) talks.all.each)) in
    record {
      answered = still.answered;
      pending = still.pending ++ first.ask ∷ [];
      coming = first.more;
      answers = still.answers;
      talks = takes_within granted d d' s own still.answered still.pending first.ask first.more still.answers talks step first.said first.others;
      done = takes_done d d' coming0 whole0 still.pending first.ask first.more talks.goes.usable is_ask step first.said done;
    }
