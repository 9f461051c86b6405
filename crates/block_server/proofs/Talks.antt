-- A turn in which nothing is amiss: how its parts follow one another.
use Rattle.std.proofs.Common.{◌≡◌, ◌≢◌, ◌⊎◌, ◌||◌, inl, inr, ◌+◌, ◌++◌, ◌≤◌, ℕ, Bool, true, false, cond, IsSome, List, [], ◌∷◌, Option, Some, None, Result, Ok, Err, OnOk, drop, length, slice_get, slice_set, refl, sym, ◌∙◌, ap, subst, arith, length-append}
use Rattle.crq_ring.proofs.SessionLaws.{of_session-append, of_session-nil, of_session-push}
use Rattle.crq_ring.specs.Sessions.{of_session}
use Rattle.crq_ring.specs.declared.rows.PipeRow.{PipeRow}
use Rattle.crq_session.specs.Answered.{LosesKept, PutsNone, partner_took, taken_now}
use Rattle.crq_session.specs.EndState.{EndState, OnlyPushes, OnlyReserves}
use Rattle.tce_window.specs.Pieces.{IsUsable}
use Rattle.tce_window.specs.PortState.{PortState}
use Rattle.tce_window.specs.declared.answers.Right.TheVariants.{Write}
use Rattle.vio_num.specs.declared.entry.Entry.{Entry}
use Rattle.vio_num.specs.declared.history.Grant.{Grant}
use Rattle.vio_num.specs.declared.memory.NoMemory.{NoMemory}
use Rattle.block_server.specs.Talk.{FitOneTurn, SayWords, ComeInOrder, HasHeard, HasHeardAll, HasRoomFor, HearsAll, IsListening, IsServable, IsTurnReady, MayWriteAnswer, PutsReplies, Reach, Replies, ServesFirst, ServesNext, StaysKnown, Talk, TalksOn, UnitTalksOn, Word, replies, session_rows, talk_of, to_come}
use Rattle.crq_session.specs.declared.handshake.Handshake.{Handshake}
use Rattle.crq_session.specs.declared.handshake.Handshake.TheVariants.{Down, Up, Waiting}
use Rattle.block_server.specs.Receipts.{is_down, is_ended}
use Rattle.block_server.specs.declared.intake.Next.{Next}
use Rattle.block_server.specs.declared.intake.Next.TheVariants.{End, Entry as NextEntry, Service}
use Rattle.block_server.specs.declared.line.Line.{Line}
use Rattle.block_server.specs.declared.request.Request.{Request}
use Rattle.block_server.specs.declared.unit.Unit.{Unit}
use Rattle.block_server.proofs.Listening.{calm_same, heard_on, no_losses, puts_none, slots_kept}
use Rattle.block_server.proofs.Reading.{known_same, stays_known}
use Rattle.block_server.proofs.Units.{get_set_same}

-- THE FIRST STEPS --------------------------------------------------------------------------------

-- no event is kept, and none was put
pub pushes_none : (link : Bool) (old new : EndState) → link ≡ false → old.kept ≡ None → OnlyPushes link old new → PutsNone link old new → Replies old new []
pushes_none link old new alone none rest is = by old.kept none is.loses
  where
    by : (kept : Option Entry) → kept ≡ None → LosesKept link kept old new → Replies old new []
    by None none sends = record {
      place = rest.place;
      last_session = rest.last_session;
      registered = rest.registered;
      taken = rest.taken;
      partner = rest.counts.same_session alone;
      put = puts_none old new sends.sent;
    }
    by (Some event) none loses = absurd (cc (none))

pub none_kept : (kept : Option Entry) → kept ≡ None → IsSome kept → ⊥
none_kept None none some = cc (some)
none_kept (Some event) none some = cc (none)

pub replies_reserved : (old mid new : EndState) → OnlyReserves old mid → Replies mid new [] → Replies old new []
replies_reserved old mid new reserves is = record {
  place = is.place ∙ reserves.place;
  last_session = is.last_session ∙ reserves.last_session;
  registered = is.registered ∙ reserves.registered;
  taken = is.taken ∙ reserves.taken;
  partner = is.partner ∙ ap (λ counts. counts.partner_session) reserves.counts;
  put = is.put ∙ (λ i. reserves.sent i ++ cond (reserves.place i).partner_registered (session_rows (reserves.counts i).partner_session []) []);
}

-- WHAT STAYS --------------------------------------------------------------------------------------

-- the same of a queue into which nothing was put
taken_still : (old new : EndState) → Replies old new [] → taken_now new ≡ taken_now old
taken_still old new is = ap (λ (z : ℕ × List PipeRow). of_session z.0 z.1) (λ i. (is.last_session i, is.taken i))

come_still : (old new : EndState) → Replies old new [] → to_come new ≡ to_come old
come_still old new is = ap (λ (z : ℕ × (ℕ × List PipeRow)). drop z.0 (of_session z.1.0 z.1.1)) (λ i. (length (taken_still old new is i), (is.last_session i, (is.place i).received)))

pub calm_on : (link : Bool) (unit : Unit) (old new : Reach) (words : List Word) → Replies old.queue new.queue [] → new.client ≡ old.client → new.shared ≡ old.shared → IsListening unit old link words → IsListening unit new link words
calm_on link unit old new words is client shared calm = record {
  alone = calm.alone;
  apart = shared ∙ calm.apart;
  registered = is.registered ∙ calm.registered;
  closing = calm.closing;
  up = calm.up;
  waiting = calm.waiting;
  kept = calm.kept;
  said = subst (λ (z : PortState × List Entry). SayWords z.0 z.1 words) (λ i. (sym client i, sym (come_still old.queue new.queue is) i)) calm.said;
  order = subst (λ (entries : List Entry). ComeInOrder (talk_of unit) (length entries) words) (sym (taken_still old.queue new.queue is)) calm.order;
  slots = slots_kept old.queue new.queue (length (replies words)) is.place is.partner is.put calm.slots;
}

pub heard_still : (unit unit' : Unit) (old new : Reach) (lines lines' : List Grant) → unit' ≡ unit → Replies old.queue new.queue [] → new.client ≡ old.client → lines' ≡ lines → HasHeard unit unit' old new lines lines' []
heard_still unit unit' old new lines lines' same is client lines_are = record {
  heard = ap talk_of same;
  taken = ap length (taken_still old.queue new.queue is) ∙ omega arith;
  stage = λ at. ap (λ (u : Unit). u.service.stage) same ∙ at;
  place = is.place;
  session = is.last_session;
  registered = is.registered;
  partner = is.partner;
  put = is.put;
  window = stays_known _ _ _ (known_same old.client) client;
  lines_are = no_losses lines lines' lines_are;
}

-- ROOM -------------------------------------------------------------------------------------------

own_rows : (q : ℕ) (entries : List Entry) → of_session q (session_rows q entries) ≡ entries
own_rows q [] = of_session-nil q
own_rows q (entry ∷ entries) =
    of_session-append q (record { session = q; entry = entry } ∷ []) (session_rows q entries)
    ∙ (λ i. first i ++ own_rows q entries i)
  where
    first : of_session q (record { session = q; entry = entry } ∷ []) ≡ entry ∷ []
    first = of_session-push (record { session = q; entry = entry }) [] ∙ ap (λ xs. xs ++ entry ∷ []) (of_session-nil q)

room_left : (q count took slots : ℕ) (sent : List PipeRow) (entries : List Entry) → length (of_session q sent) + (length entries + count) ≤ took + slots
    → length (of_session q (sent ++ session_rows q entries)) + count ≤ took + slots
room_left q count took slots sent entries room =
    omega (arith, room, ap length (of_session-append q sent (session_rows q entries)), length-append (of_session q sent) (of_session q (session_rows q entries)), ap length (own_rows q entries))

pub slots_left : (old new : EndState) (count : ℕ) (entries : List Entry) → new.place ≡ old.place → new.counts.partner_session ≡ old.counts.partner_session → PutsReplies old new entries
    → HasRoomFor old (length entries + count) → HasRoomFor new count
slots_left old new count entries place partner put room on = subst (λ (z : ℕ × List PipeRow). length (of_session z.0 z.1) + count ≤ length (partner_took new new.counts.partner_session) + new.place.partner_slots)
    (λ i. (sym partner i, sym sent i))
    (subst (λ (z : ℕ × EndState). length (of_session old.counts.partner_session (old.sent ++ session_rows old.counts.partner_session entries)) + count ≤ length (partner_took z.1 z.0) + z.1.place.partner_slots)
    (λ i. (sym partner i, record new { place = sym place i }))
    (room_left old.counts.partner_session count (length (partner_took old old.counts.partner_session)) old.place.partner_slots old.sent entries (room on_old)))
  where
    on_old : old.place.partner_registered ≡ true
    on_old = ap (λ p. p.partner_registered) (sym place) ∙ on

    sent : new.sent ≡ old.sent ++ session_rows old.counts.partner_session entries
    sent = put ∙ ap (λ (b : Bool). old.sent ++ cond b (session_rows old.counts.partner_session entries) []) on_old

-- WHAT MAY BE ANSWERED ---------------------------------------------------------------------------

pub may_known : (old new : PortState) (address : ℕ) → StaysKnown old new → MayWriteAnswer old address → MayWriteAnswer new address
may_known old new address same may =
    subst (λ (z : (ℕ → List ℕ) × ℕ). IsUsable z.0 Write z.1 address 256) (λ i. (sym same.values i, (sym same.place i).size)) may

-- THE WHOLE --------------------------------------------------------------------------------------

-- the end of a turn is none of these
pub not_end : (next : Next) → next ≡ End → (next ≡ NextEntry) ⊎ (next ≡ Service) → ⊥
not_end next is (inl goes) = cc (is, goes)
not_end next is (inr serves) = cc (is, serves)

-- What is so where the unit begins to listen.
pub ready_on : (link : Bool) (unit u1 u2 : Unit) (r0 r1 r2 : Reach) (words : List Word) → IsTurnReady unit r0 link words → u1 ≡ unit → Replies r0.queue r1.queue [] → r1.client ≡ r0.client → r1.shared ≡ r0.shared
    → u2 ≡ u1 → r2 ≡ r1 → IsListening u2 r2 link words × FitOneTurn u2 r2 words
ready_on link unit u1 u2 r0 r1 r2 words calm same1 still client shared same2 reach = (
  subst (λ (u : Unit). IsListening u r2 link words) (sym same) (calm_on link unit r0 r2 words still2 (ap (λ (r : Reach). r.client) reach ∙ client) (ap (λ (r : Reach). r.shared) reach ∙ shared) calm.calm),
  record {
    slots = subst (λ (n : ℕ). length words ≤ n) (sym (ap (λ p. p.own_slots) still2.place)) calm.few.slots;
    pending = subst (λ (u : Unit). length u.pending.items + length words ≤ 256) (sym same) calm.few.pending;
  },
)
  where
    same : u2 ≡ unit
    same = same2 ∙ same1

    still2 : Replies r0.queue r2.queue []
    still2 = subst (λ (r : Reach). Replies r0.queue r.queue []) (sym reach) still

-- The steps of a turn, one behind the other: what was to be done first left the queue and the window as they were; all was heard; and
-- then the oldest request was served, if there was one.
pub talks_on : {A : Type 0} (link : Bool) (unit u1 u2 u3 u4 : Unit) (r0 r1 r2 r3 : Reach) (q4 : EndState) (l0 l2 l3 l4 : List Grant) (words : List Word) (result : Result A NoMemory)
    → IsTurnReady unit r0 link words → u1 ≡ unit → Replies r0.queue r1.queue [] → r1.client ≡ r0.client → r1.shared ≡ r0.shared → u2 ≡ u1 → r2 ≡ r1 → l2 ≡ l0 → r3.shared ≡ r2.shared
    → (IsListening u2 r2 link words → FitOneTurn u2 r2 words → HasHeard u2 u3 r2 r3 l2 l3 words × HasHeardAll u3 r3.queue)
    → (u3.pending.items ≡ [] → u4 ≡ u3) → (u3.pending.items ≡ [] → q4 ≡ r3.queue) → (u3.pending.items ≡ [] → l4 ≡ l3)
    → ((request : Request) (rest : List Request) → IsServable u3 r3 link request rest → OnOk result (ServesFirst u3 u4 r3.queue q4 l3 l4 request))
    → OnOk result (TalksOn unit u4 r0 q4 l0 l4 words)
talks_on link unit u1 u2 u3 u4 r0 r1 r2 r3 q4 l0 l2 l3 l4 words (Err memory) calm same1 still client shared same2 reach lines shared3 hears none queue unserved serves = tt
talks_on link unit u1 u2 u3 u4 r0 r1 r2 r3 q4 l0 l2 l3 l4 words (Ok done) calm same1 still client shared same2 reach lines shared3 hears none queue unserved serves = record {
  middle = u3;
  between = r3;
  added = l3;
  hears = all;
  all = heard.1;
  serves = by u3.pending.items refl;
}
  where
    same : u2 ≡ unit
    same = same2 ∙ same1

    still2 : Replies r0.queue r2.queue []
    still2 = subst (λ (r : Reach). Replies r0.queue r.queue []) (sym reach) still

    client2 : r2.client ≡ r0.client
    client2 = ap (λ (r : Reach). r.client) reach ∙ client

    shared2 : r2.shared ≡ r0.shared
    shared2 = ap (λ (r : Reach). r.shared) reach ∙ shared

    ready : IsListening u2 r2 link words × FitOneTurn u2 r2 words
    ready = ready_on link unit u1 u2 r0 r1 r2 words calm same1 still client shared same2 reach

    heard : HasHeard u2 u3 r2 r3 l2 l3 words × HasHeardAll u3 r3.queue
    heard = hears ready.0 ready.1

    all : HasHeard unit u3 r0 r3 l0 l3 words
    all = heard_on unit u2 u3 r0 r2 r3 l0 l2 l3 [] words (heard_still unit u2 r0 r2 l0 l2 same still2 client2 lines) heard.0

    by : (pending : List Request) → u3.pending.items ≡ pending → ServesNext u3 u4 r3.queue q4 l3 l4
    by [] is = inl (record { none = is; same = none is; queue = queue is; lines_are = unserved is })
    by (request ∷ rest) is = inr (
      request,
      rest,
      is,
      serves request rest (record {
        alone = calm.calm.alone;
        apart = shared3 ∙ shared2 ∙ calm.calm.apart;
        registered = all.registered ∙ calm.calm.registered;
        pending = is;
        stage = all.stage calm.stage;
        may = λ asked. may_known r0.client r3.client request.address all.window (calm.next (talk_of u3) request rest all.heard is asked);
        slots = slots_left r0.queue r3.queue 1 (replies words) all.place all.partner all.put calm.slots;
      }),
    )

-- the same of a unit that differs in whether it did something alone
pub talks_from : (unit unit1 unit' : Unit) (r : Reach) (q : EndState) (l l' : List Grant) (words : List Word) → talk_of unit1 ≡ talk_of unit
    → unit1.service.stage ≡ unit.service.stage → TalksOn unit1 unit' r q l l' words → TalksOn unit unit' r q l l' words
talks_from unit unit1 unit' r q l l' words talk stage is = record {
  middle = is.middle;
  between = is.between;
  added = is.added;
  hears = record {
    heard = subst (λ (t : Talk). HearsAll t (length (taken_now r.queue)) words (talk_of is.middle)) talk is.hears.heard;
    taken = is.hears.taken;
    stage = λ at. is.hears.stage (stage ∙ at);
    place = is.hears.place;
    session = is.hears.session;
    registered = is.hears.registered;
    partner = is.hears.partner;
    put = is.hears.put;
    window = is.hears.window;
    lines_are = is.hears.lines_are;
  };
  all = is.all;
  serves = is.serves;
}

-- and of what is so before it
pub calm_from : (unit unit1 : Unit) (r : Reach) (link : Bool) (words : List Word) → talk_of unit1 ≡ talk_of unit → unit1.line ≡ unit.line → unit1.waiting ≡ unit.waiting → unit1.service.stage ≡ unit.service.stage
    → IsTurnReady unit r link words → IsTurnReady unit1 r link words
calm_from unit unit1 r link words talk line waiting stage calm = record {
  calm = calm_same link unit unit1 r r words talk line waiting refl calm.calm;
  event = calm.event;
  few = record { slots = calm.few.slots; pending = subst (λ (t : Talk). length t.pending + length words ≤ 256) (sym talk) calm.few.pending };
  stage = stage ∙ calm.stage;
  next = λ t request rest heard. calm.next t request rest (subst (λ (from : Talk). HearsAll from (length (taken_now r.queue)) words t) talk heard);
  slots = calm.slots;
}

-- a session that goes on
pub both_off : (closing down : Bool) → (closing || down) ≡ false → closing ≡ false
both_off false down off = refl
both_off true down off = absurd (cc (off))

pub still_on : (line : Line) → line.closing ≡ false → line.handshake ≢ Down → is_ended line ≡ false
still_on line closing up = ap (λ (b : Bool). b || is_down line.handshake) closing ∙ not_down line.handshake up
  where
    not_down : (h : Handshake) → h ≢ Down → is_down h ≡ false
    not_down Down up = absurd (up refl)
    not_down Waiting up = refl
    not_down Up up = refl

-- the unit of a number, which is then that of the turn
some_same : {X : Type 0} (a b : X) → Some a ≡ Some b → a ≡ b
some_same a b e = cc (e)

pub unit_talks : {A : Type 0} (link : Bool) (units : List Unit) (n : ℕ) (unit found unit' : Unit) (r : Reach) (q : EndState) (l l' : List Grant) (words : List Word) (result : Result A NoMemory)
    → slice_get units n ≡ Some found → slice_get units n ≡ Some unit → (IsTurnReady found r link words → OnOk result (TalksOn found unit' r q l l' words)) → IsTurnReady unit r link words
    → OnOk result (UnitTalksOn (slice_set units n unit') n unit r q l l' words)
unit_talks link units n unit found unit' r q l l' words (Err memory) there at talks calm = tt
unit_talks link units n unit found unit' r q l l' words (Ok done) there at talks calm = record {
  unit' = unit';
  there = get_set_same units n found unit' there;
  talks = subst (λ (u : Unit). TalksOn u unit' r q l l' words) same (talks (subst (λ (u : Unit). IsTurnReady u r link words) (sym same) calm));
}
  where
    same : found ≡ unit
    same = some_same found unit (sym there ∙ at)
