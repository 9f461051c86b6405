-- A turn of a server unit ends, while its client talks to it: all that was to come was heard, and what was the oldest then might be answered.
use Rattle.std.proofs.Common.{◌≡◌, ◌≢◌, ◌∙◌, inl, inr, ℕ, ◌+◌, ◌≤◌, ◌++◌, ◌&&◌, ◌||◌, All, Bool, true, false, true≢false, List, [], ◌∷◌, None, length, length-append, length-drop, map, refl, sym, ap, subst, arith}
use Rattle.std.proofs.lemmas.List.Elements.{All-head}
use Rattle.vio_num.specs.declared.entry.Entry.{Entry}
use Rattle.vio_num.specs.declared.history.Grant.{Grant}
use Rattle.vio_num.specs.declared.history.Served.{Served}
use Rattle.vio_num.specs.declared.names.UnitId.{UnitId}
use Rattle.crq_ring.specs.Sessions.{of_session}
use Rattle.crq_ring.specs.declared.rows.PipeRow.{PipeRow}
use Rattle.crq_session.specs.Answered.{partner_took, sent_now, taken_now}
use Rattle.crq_session.specs.EndState.{EndState}
use Rattle.tce_window.specs.PortState.{PortState}
use Rattle.block_server.specs.Doings.{Doing, doing_at}
use Rattle.block_server.specs.HeardOut.{HasNoRoom, HearsOut, ServesOut, to_serve}
use Rattle.block_server.specs.HeardOut.HearsOut.{full, heard_all, keeps, over, shut, waits}
use Rattle.block_server.specs.Receipts.{is_down}
use Rattle.block_server.specs.Talk.{MayWriteAnswer, to_come}
use Rattle.block_server.specs.declared.request.Request.{Request}
use Rattle.block_server.specs.declared.service.Stage.{Stage}
use Rattle.block_server.specs.declared.service.Stage.TheVariants as stages
use Rattle.block_server.specs.declared.unit.Unit.{Unit}
use Rattle.vscsi_client.specs.State.{ClientState}
use Rattle.vscsi_client.specs.Units.{slot_address}
use Rattle.vscsi_client.specs.declared.outgoing.Outgoing.{Outgoing}
use Rattle.vcpu_run.specs.OwnOver.{coming_to}
use Rattle.vcpu_run.specs.OwnTurns.{AwaitsAll, IsServedAt, IsTalker, MayAnswer, StillTalks, TalksWithin}
use Rattle.vcpu_run.specs.PlainTalk.{AreSaidThere, Ask, word_of}
use Rattle.vcpu_run.proofs.PlainReady.{answers_long, asks_few, awaited_few, pending_long}

-- ---- how many there are

pub all_few : (granted : ℕ) (s : ClientState) (own : EndState) (all : List Ask) → IsTalker granted s own → AwaitsAll s all → length all ≤ 202
all_few granted s own all talker awaits =
    omega (arith, asks_few all awaits.order, ap (λ (names : List Outgoing). length names) awaits.awaited, awaited_few s talker.within)

pub said_long : (window : PortState) (entries : List Entry) (coming : List Ask) → AreSaidThere window entries (map word_of coming) → length entries ≡ length coming
said_long window [] [] said = refl
said_long window [] (ask ∷ coming) said = absurd said
said_long window (entry ∷ entries) [] said = absurd said
said_long window (entry ∷ entries) (ask ∷ coming) said = let rest : length entries ≡ length coming = said_long window entries coming said.1 in omega (arith, rest)

none_long : (list : List Ask) → length list ≡ 0 → list ≡ []
none_long [] none = refl
none_long (ask ∷ list) none = absurd (omega (arith, none))

-- ---- all was heard

-- The unit's end sees how far the client has taken, and how many slots its queue has.
pub record SeesClient (queue own : EndState) : Type 0 where
  pub taken : queue.place.partner_taken ≡ own.taken
  pub slots : queue.place.partner_slots ≡ own.place.own_slots
  pub room : 256 ≤ own.place.own_slots

-- the answers that the client is yet to look at do not fill its queue
has_room : (granted : ℕ) (unit : Unit) (name : UnitId) (queue : EndState) (client : PortState) (rows : List Served) (lines : List Grant) (s : ClientState) (own : EndState) (coming0 whole0 : List Ask)
    → StillTalks granted (doing_at unit name queue client rows lines) s own coming0 whole0 → SeesClient queue own → HasNoRoom queue → ⊥
has_room granted unit name queue client rows lines s own coming0 whole0 still sees none =
    omega (arith, sent, took, none.slots, sees.slots, sees.room, told, few, split, coming)
  where
    talks : TalksWithin granted (doing_at unit name queue client rows lines) s own still.answered still.pending still.coming still.answers
    talks = still.talks

    sent : length (sent_now queue queue.counts.partner_session) ≡ length (of_session own.last_session queue.sent)
    sent = ap (λ (q : ℕ). length (of_session q queue.sent)) talks.goes.to

    took : length (partner_took queue queue.counts.partner_session) ≡ length (taken_now own)
    took = ap (λ (q : ℕ). length (of_session q queue.place.partner_taken)) talks.goes.to ∙ ap (λ (list : List PipeRow). length (of_session own.last_session list)) sees.taken

    told : length (s.kept ++ coming_to own queue.sent) ≡ length still.answered
    told = answers_long client (s.kept ++ coming_to own queue.sent) still.answered still.answers talks.told

    few : length still.answered ≤ 202
    few = omega (
      arith,
      all_few granted s own (still.answered ++ (still.pending ++ still.coming)) talks.talker talks.all,
      length-append still.answered (still.pending ++ still.coming),
    )

    split : length (s.kept ++ coming_to own queue.sent) ≡ length s.kept + length (coming_to own queue.sent)
    split = length-append s.kept (coming_to own queue.sent)

    coming : length (of_session own.last_session queue.sent) ≤ length (taken_now own) + length (coming_to own queue.sent)
    coming = omega (arith, talks.goes.took, length-drop (length (taken_now own)) (of_session own.last_session queue.sent))

or_true : (a b : Bool) → a ≡ true → (a || b) ≡ true
or_true a b is = ap (λ (x : Bool). x || b) is

pub heard_out : (granted : ℕ) (unit : Unit) (name : UnitId) (queue : EndState) (client : PortState) (rows : List Served) (lines : List Grant) (s : ClientState) (own : EndState) (coming0 whole0 : List Ask)
    → (still : StillTalks granted (doing_at unit name queue client rows lines) s own coming0 whole0) → SeesClient queue own → HearsOut 255 false unit queue → still.coming ≡ []
heard_out granted unit name queue client rows lines s own coming0 whole0 still sees out = by out
  where
    talks : TalksWithin granted (doing_at unit name queue client rows lines) s own still.answered still.pending still.coming still.answers
    talks = still.talks

    by : HearsOut 255 false unit queue → still.coming ≡ []
    by (heard_all none) = none_long still.coming (sym (said_long client (to_come queue) still.coming talks.comes) ∙ ap (λ (list : List Entry). length list) none)
    by (over closed) = absurd (true≢false (sym (or_true unit.line.closing (is_down unit.line.handshake) closed) ∙ talks.goes.going))
    by (shut off) = absurd (true≢false (sym talks.goes.reaches ∙ ap (λ (b : Bool). b && queue.place.partner_registered) off))
    by (keeps some none) = absurd (has_room granted unit name queue client rows lines s own coming0 whole0 still sees none)
    by (waits apart some) = absurd (true≢false (sym apart))
    by (full many) = absurd (omega (
      arith,
      many,
      pending_long unit.pending.items still.pending talks.pends,
      all_few granted s own (still.answered ++ (still.pending ++ still.coming)) talks.talker talks.all,
      length-append still.answered (still.pending ++ still.coming),
      length-append still.pending still.coming,
    ))

-- ---- the oldest might be answered

heads : (a b : Ask) (xs ys : List Ask) → a ∷ xs ≡ b ∷ ys → a ≡ b
heads a b xs ys e = cc (e)

-- where an entry is kept, an answer stands over the oldest
kept_may : (granted : ℕ) (d : Doing) (ask : Ask) (more pending coming : List Ask) → ask ∷ more ≡ pending ++ coming → (stage : Stage) → IsServedAt granted d pending stage → d.kept ≢ None
    → MayWriteAnswer d.client (slot_address ask.slot)
kept_may granted d ask more pending coming is stages.Start served kept = absurd (kept served)
kept_may granted d ask more pending coming is (stages.Answer outcome) served kept = absurd (kept served.0)
kept_may granted d ask more pending coming is (stages.Entry outcome) served kept =
    subst (λ (one : Ask). MayWriteAnswer d.client (slot_address one.slot)) (sym same) served.1.may
  where
    same : ask ≡ served.1.ask
    same = heads ask served.1.ask more (served.1.more ++ coming) (is ∙ ap (λ (list : List Ask). list ++ coming) served.1.first)
kept_may granted d ask more pending coming is stage served kept = absurd served

pub first_may : (granted : ℕ) (unit unit' : Unit) (name : UnitId) (queue queue' : EndState) (client' : PortState) (rows' : List Served) (lines' : List Grant) (s : ClientState) (own : EndState)
    (coming0 whole0 : List Ask) → (still : StillTalks granted (doing_at unit' name queue' client' rows' lines') s own coming0 whole0) → still.coming ≡ []
    → to_serve unit queue ≡ length whole0 → ServesOut unit unit' queue queue' → (ask : Ask) (more : List Ask) → whole0 ≡ ask ∷ more → MayAnswer client' ask
first_may granted unit unit' name queue queue' client' rows' lines' s own coming0 whole0 still all serve out ask more first = gone still.done.gone refl
  where
    d : Doing
    d = doing_at unit' name queue' client' rows' lines'

    talks : TalksWithin granted d s own still.answered still.pending still.coming still.answers
    talks = still.talks

    pending : length unit'.pending.items ≡ length still.pending
    pending = pending_long unit'.pending.items still.pending talks.pends

    coming : length (to_come queue') ≡ length still.coming
    coming = said_long client' (to_come queue') still.coming talks.comes

    gone : (list : List Ask) → still.done.gone ≡ list → MayAnswer client' ask
    gone (g ∷ list) is =
        let same : ask ≡ g = heads ask g more (list ++ (still.pending ++ still.coming))
        (sym first ∙ still.done.gone_is ∙ ap (λ (front : List Ask). front ++ (still.pending ++ still.coming)) is) in
        subst (MayAnswer client') (sym same) (All-head (MayAnswer client') g list (subst (All (MayAnswer client')) is still.done.answered))
    gone [] is = by out
      where
        whole : ask ∷ more ≡ still.pending ++ still.coming
        whole = sym first ∙ still.done.gone_is ∙ ap (λ (front : List Ask). front ++ (still.pending ++ still.coming)) is

        long : length (ask ∷ more) ≡ length still.pending + length still.coming
        long = ap (λ (list : List Ask). length list) whole ∙ length-append still.pending still.coming

        by : ServesOut unit unit' queue queue' → MayAnswer client' ask
        by (inl none) = absurd (omega (arith, long, pending, ap (λ (list : List Request). length list) none, ap (λ (list : List Ask). length list) all))
        by (inr (inl closed)) = absurd (true≢false (sym (or_true unit'.line.closing (is_down unit'.line.handshake) closed) ∙ talks.goes.going))
        by (inr (inr (inl kept))) = inr (kept_may granted d ask more still.pending still.coming whole d.stage talks.served kept)
        by (inr (inr (inr less))) = absurd (omega (arith, less, serve, ap (λ (list : List Ask). length list) first, long, pending, coming))
