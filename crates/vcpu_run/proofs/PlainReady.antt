-- A plain client's server unit is ready for its turn: it hears all that is to come.
use Rattle.std.proofs.Common.{◌≡◌, ◌∙◌, inl, inr, ℕ, suc, ◌+◌, ◌≤◌, ◌++◌, All, Bool, true, false, cond, List, [], ◌∷◌, length, length-append, length-drop, map, refl, sym, ap, subst, arith}
use Rattle.std.specs.Prelude.{⊤}
use Rattle.std.proofs.lemmas.List.{length-map}
use Rattle.std.proofs.lemmas.List.Elements.{All-append, All-cons, All-head, All-nil, All-tail, All-weaker}
use Rattle.vio_num.specs.declared.entry.Entry.{Entry}
use Rattle.crq_ring.specs.Sessions.{of_session}
use Rattle.crq_ring.specs.declared.rows.PipeRow.{PipeRow}
use Rattle.crq_session.specs.Answered.{partner_took, received_now, sent_now, taken_now}
use Rattle.crq_session.specs.EndState.{EndState}
use Rattle.srp_iu.specs.declared.unit.Iu.{Iu}
use Rattle.tce_window.specs.PortState.{PortState}
use Rattle.tce_window.specs.declared.answers.Right.TheVariants.{Write}
use Rattle.block_server.specs.Talk.{ComeInOrder, HasRoomFor, HearsAll, HearsOne, IsTurnReady, MayAsk, MayWriteAnswer, Talk, Word, reach, replies, talk_of, to_come}
use Rattle.block_server.specs.Talk.Word.{asks, begins, gone}
use Rattle.block_server.specs.declared.request.Request.{Request}
use Rattle.vscsi_client.specs.State.{ClientState}
use Rattle.vscsi_client.specs.Units.{slot_address}
use Rattle.vscsi_client.specs.declared.TheConstants.{SLOTS}
use Rattle.vscsi_client.specs.declared.outgoing.Outgoing.{Outgoing}
use Rattle.vscsi_client.specs.declared.stage.Stage.{Stage}
use Rattle.vscsi_client.specs.declared.stage.Stage.TheVariants.{Idle, Sent, Written}
use Rattle.vcpu_run.specs.PlainTalk.{AreEnds, AreInOrder, ArePending, Ask, AskedParts, Between, HasRights, HaveAnswers, HearsOfClient, HearsOfGone, InPhase, IsAsk, IsCalm, IsOwnWindow, IsTalking, TalksPlainly, all_asked, awaited, is_logout, login_name, name_of, names_of, word_of, TookNoMore}
use Rattle.vcpu_run.proofs.PlainSlots.{words_said}
use Rattle.vcpu_run.proofs.PlainStands.{slot_usable}

-- ---- numbers

-- behind the first none is a logout
tail_names : (ask : Ask) (more : List Ask) → AreInOrder (ask ∷ more) → length (names_of more) ≡ length more
tail_names ask [] order = refl
tail_names ask (next ∷ more) order =
    ap (λ b. length (cond b (names_of more) (name_of next ∷ names_of more))) order.1 ∙ ap suc (tail_names next more order.3)

pub asks_few : (more : List Ask) → AreInOrder more → length more ≤ length (names_of more) + 1
asks_few [] order = omega arith
asks_few (ask ∷ more) order = by (is_logout ask.iu)
  where
    by : (b : Bool) → length (ask ∷ more) ≤ length (cond b (names_of more) (name_of ask ∷ names_of more)) + 1
    by true = omega (arith, tail_names ask more order)
    by false = omega (arith, tail_names ask more order)

login_few : (stage : Stage) → length (login_name stage) ≤ 1
login_few Idle = omega arith
login_few (Written tag slot) = omega arith
login_few (Sent tag slot) = omega arith

pub awaited_few : (s : ClientState) → length s.outgoing ≤ 200 → length (awaited s) ≤ 201
awaited_few s few =
    omega (arith, few, length-append s.outgoing (login_name s.login), login_few s.login)

pub all_few : (granted : ℕ) (at : Between) (words : List Word) (asked : AskedParts) (answers : List Iu) → IsTalking granted at words asked answers → length (all_asked asked) ≤ 202
all_few granted at words asked answers talk =
    omega (arith, asks_few (all_asked asked) talk.order, ap (λ (names : List Outgoing). length names) talk.awaited, awaited_few at.client talk.within)

pub pending_long : (requests : List Request) (more : List Ask) → ArePending requests more → length requests ≡ length more
pending_long [] [] are = refl
pending_long [] (ask ∷ more) are = absurd are
pending_long (request ∷ requests) [] are = absurd are
pending_long (request ∷ requests) (ask ∷ more) are = ap suc (pending_long requests more are.1)

pub answers_long : (window : PortState) (entries : List Entry) (more : List Ask) (answers : List Iu) → HaveAnswers window entries more answers → length entries ≡ length more
answers_long window [] [] [] have = refl
answers_long window [] [] (answer ∷ answers) have = absurd have
answers_long window [] (ask ∷ more) answers have = absurd have
answers_long window (entry ∷ entries) [] answers have = absurd have
answers_long window (entry ∷ entries) (ask ∷ more) [] have = absurd have
answers_long window (entry ∷ entries) (ask ∷ more) (answer ∷ answers) have = ap suc (answers_long window entries more answers have.1)

one_few : (words one : List Word) → words ≡ one → length one ≤ 1 → length words ≤ 1
one_few words one is few = omega (arith, ap (λ (list : List Word). length list) is, few)

pub words_few : (granted : ℕ) (at : Between) (words : List Word) → InPhase granted at words → length words ≤ 1
words_few granted at words (inl away) = by away.heard
  where
    by : HearsOfGone at words → length words ≤ 1
    by (inl one) = one_few words (gone ∷ []) one (omega arith)
    by (inr none) = one_few words [] none.0 (omega arith)
words_few granted at words (inr (inl begun)) = by begun.heard
  where
    by : HearsOfClient at words → length words ≤ 1
    by (inl one) = one_few words (begins ∷ []) one.0 (omega arith)
    by (inr none) = one_few words [] none.0 (omega arith)
words_few granted at words (inr (inr (asked, answers, talk))) = one_few words (map word_of asked.coming) talk.coming (omega (arith, talk.few, length-map asked.coming word_of))

pub replies_few : (words : List Word) → length (replies words) ≤ length words
replies_few [] = omega arith
replies_few (begins ∷ words) = omega (arith, replies_few words)
replies_few (gone ∷ words) = omega (arith, replies_few words)
replies_few (asks address bytes iu ∷ words) = omega (arith, replies_few words)

-- ---- what is pending

-- an answer may be written over each request of a list, and over that which a word asks
abbrev AreMay : PortState → List Request → Type 0
AreMay window requests = All (λ request. MayWriteAnswer window request.address) requests

abbrev MayWriteOver : PortState → Word → Type 0
MayWriteOver window (asks address bytes iu) = MayWriteAnswer window address
MayWriteOver window word = ⊤

pub slot_may : (window : PortState) (address slot : ℕ) → IsOwnWindow window → HasRights window → slot ≤ SLOTS → address ≡ slot_address slot → MayWriteAnswer window address
slot_may window address slot own rights within is = subst (MayWriteAnswer window) (sym is) (slot_usable window own rights Write slot within)

stale_may : (window : PortState) → IsOwnWindow window → HasRights window → (requests : List Request) → All (λ request. (slot : ℕ) × (slot ≤ SLOTS) × (request.address ≡ slot_address slot)) requests
    → AreMay window requests
stale_may window own rights requests are =
    All-weaker (λ (request : Request). (slot : ℕ) × (slot ≤ SLOTS) × (request.address ≡ slot_address slot)) (λ (request : Request). MayWriteAnswer window request.address)
    (λ request is. slot_may window request.address is.0 own rights is.1 is.2) requests are

pending_may : (window : PortState) → IsOwnWindow window → HasRights window → (requests : List Request) (more : List Ask) → ArePending requests more → All IsAsk more
    → AreMay window requests
pending_may window own rights [] [] are each = All-nil (λ (request : Request). MayWriteAnswer window request.address)
pending_may window own rights [] (ask ∷ more) are each = absurd are
pending_may window own rights (request ∷ requests) [] are each = absurd are
pending_may window own rights (request ∷ requests) (ask ∷ more) are each =
    All-cons (λ (request : Request). MayWriteAnswer window request.address) request requests
    (slot_may window request.address ask.slot own rights (All-head IsAsk ask more each).slot_is are.0.address)
    (pending_may window own rights requests more are.1 (All-tail IsAsk ask more each))

-- parts of a list
pub all_front : {X : Type 0} (P : X → Type 0) (xs ys : List X) → All P (xs ++ ys) → All P xs
all_front P [] ys all = All-nil P
all_front P (x ∷ xs) ys all = All-cons P x xs (All-head P x (xs ++ ys) all) (all_front P xs ys (All-tail P x (xs ++ ys) all))

pub all_rest : {X : Type 0} (P : X → Type 0) (xs ys : List X) → All P (xs ++ ys) → All P ys
all_rest P [] ys all = all
all_rest P (x ∷ xs) ys all = all_rest P xs ys (All-tail P x (xs ++ ys) all)

-- WHAT IS PENDING
record Pends (window : PortState) (requests : List Request) : Type 0 where
  may : AreMay window requests
  few : length requests ≤ 202

pends : (granted : ℕ) (at : Between) (words : List Word) → HasRights at.window → IsCalm granted at words → InPhase granted at words → Pends at.window at.unit.pending.items
pends granted at words rights calm (inl away) = record { may = stale_may at.window calm.usable rights at.unit.pending.items away.stale.slots; few = away.stale.few }
pends granted at words rights calm (inr (inl begun)) =
    subst (Pends at.window) (sym begun.vacant.pending) (record { may = All-nil (λ (request : Request). MayWriteAnswer at.window request.address); few = omega arith })
pends granted at words rights calm (inr (inr (asked, answers, talk))) = record {
  may = pending_may at.window calm.usable rights at.unit.pending.items asked.pending talk.pending
      (all_front IsAsk asked.pending asked.coming (all_rest IsAsk asked.answered (asked.pending ++ asked.coming) talk.each));
  few = omega (
    arith,
    pending_long at.unit.pending.items asked.pending talk.pending,
    all_few granted at words asked answers talk,
    length-append asked.answered (asked.pending ++ asked.coming),
    length-append asked.pending asked.coming,
  );
}

-- an answer may be written over what is to come
may_over : (window : PortState) → IsOwnWindow window → HasRights window → (coming : List Ask) → All IsAsk coming → All (MayWriteOver window) (map word_of coming)
may_over window own rights [] each = All-nil (MayWriteOver window)
may_over window own rights (ask ∷ more) each =
    All-cons (MayWriteOver window) (word_of ask) (map word_of more) (slot_may window (slot_address ask.slot) ask.slot own rights (All-head IsAsk ask more each).slot_is refl)
    (may_over window own rights more (All-tail IsAsk ask more each))

words_may : (granted : ℕ) (at : Between) (words : List Word) → HasRights at.window → IsCalm granted at words → InPhase granted at words → All (MayWriteOver at.window) words
words_may granted at words rights calm (inl away) = by away.heard
  where
    by : HearsOfGone at words → All (MayWriteOver at.window) words
    by (inl one) = subst (All (MayWriteOver at.window)) (sym one) (All-cons (MayWriteOver at.window) gone [] tt (All-nil (MayWriteOver at.window)))
    by (inr none) = subst (All (MayWriteOver at.window)) (sym none.0) (All-nil (MayWriteOver at.window))
words_may granted at words rights calm (inr (inl begun)) = by begun.heard
  where
    by : HearsOfClient at words → All (MayWriteOver at.window) words
    by (inl one) = subst (All (MayWriteOver at.window)) (sym one.0) (All-cons (MayWriteOver at.window) begins [] tt (All-nil (MayWriteOver at.window)))
    by (inr none) = subst (All (MayWriteOver at.window)) (sym none.0) (All-nil (MayWriteOver at.window))
words_may granted at words rights calm (inr (inr (asked, answers, talk))) =
    subst (All (MayWriteOver at.window)) (sym talk.coming)
    (may_over at.window calm.usable rights asked.coming
    (all_rest IsAsk asked.pending asked.coming (all_rest IsAsk asked.answered (asked.pending ++ asked.coming) talk.each)))

-- and so over all that is pending once it was heard
may_one : (window : PortState) (a b : Talk) (number : ℕ) (word : Word) → HearsOne a number word b → MayWriteOver window word → AreMay window a.pending → AreMay window b.pending
may_one window a b number begins is may all = subst (λ (t : Talk). AreMay window t.pending) (sym is) all
may_one window a b number gone is may all = subst (AreMay window) (sym is.loses.pending) (All-nil (λ request. MayWriteAnswer window request.address))
may_one window a b number (asks address bytes iu) is may all =
    subst (AreMay window) (sym is.pending) (All-append (λ request. MayWriteAnswer window request.address) a.pending (is.request ∷ []) all
    (All-cons (λ request. MayWriteAnswer window request.address) is.request [] (subst (MayWriteAnswer window) (sym is.is.address_is) may) (All-nil (λ request. MayWriteAnswer window request.address))))

may_all : (window : PortState) (words : List Word) (a b : Talk) (number : ℕ) → HearsAll a number words b → All (MayWriteOver window) words → AreMay window a.pending → AreMay window b.pending
may_all window [] a b number is may all = subst (λ (t : Talk). AreMay window t.pending) (sym is) all
may_all window (word ∷ words) a b number is may all =
    may_all window words is.0 b (number + 1) is.2 (All-tail (MayWriteOver window) word words may)
    (may_one window a is.0 number word is.1 (All-head (MayWriteOver window) word words may) all)

-- ---- what is to come comes where it may

one_comes : (granted : ℕ) (at : Between) (words : List Word) (asked : AskedParts) (answers : List Iu) (n : ℕ) → IsTalking granted at words asked answers
    → (coming : List Ask) → coming ≡ asked.coming → ComeInOrder (talk_of at.unit) n (map word_of coming)
one_comes granted at words asked answers n talk [] is = tt
one_comes granted at words asked answers n talk (ask ∷ []) is =
    ((talk.up, All-head (λ (ask : Ask). MayAsk (talk_of at.unit) ask.iu) ask [] (subst (All (λ (ask : Ask). MayAsk (talk_of at.unit) ask.iu)) (sym is) talk.may)), λ middle hears. tt)
one_comes granted at words asked answers n talk (ask ∷ next ∷ more) is =
    absurd (omega (arith, talk.few, ap (λ (list : List Ask). length list) is))

pub in_order : (granted : ℕ) (at : Between) (words : List Word) (n : ℕ) → IsCalm granted at words → InPhase granted at words → ComeInOrder (talk_of at.unit) n words
in_order granted at words n calm (inl away) = by away.heard
  where
    by : HearsOfGone at words → ComeInOrder (talk_of at.unit) n words
    by (inl one) = subst (ComeInOrder (talk_of at.unit) n) (sym one) (calm.up, λ middle hears. tt)
    by (inr none) = subst (ComeInOrder (talk_of at.unit) n) (sym none.0) tt
in_order granted at words n calm (inr (inl begun)) = by begun.heard
  where
    by : HearsOfClient at words → ComeInOrder (talk_of at.unit) n words
    by (inl one) = subst (ComeInOrder (talk_of at.unit) n) (sym one.0) (calm.up, λ middle hears. tt)
    by (inr none) = subst (ComeInOrder (talk_of at.unit) n) (sym none.0) tt
in_order granted at words n calm (inr (inr (asked, answers, talk))) =
    subst (ComeInOrder (talk_of at.unit) n) (sym talk.coming) (one_comes granted at words asked answers n talk asked.coming refl)

-- ---- there is room for what is sent

-- what is to come to the client
pub own_few : (granted : ℕ) (at : Between) (words : List Word) → InPhase granted at words → at.own.registered ≡ true → length (to_come at.own) ≤ 202
own_few granted at words (inl away) there = absurd (false_true (sym away.registered ∙ there))
  where
    false_true : false ≡ true → ⊥
    false_true e = cc (e)
own_few granted at words (inr (inl begun)) there = by begun.heard
  where
    by : HearsOfClient at words → length (to_come at.own) ≤ 202
    by (inl one) = omega (arith, ap (λ (list : List Entry). length list) one.1)
    by (inr none) = omega (arith, ap (λ (list : List Entry). length list) none.2)
own_few granted at words (inr (inr (asked, answers, talk))) there =
    omega (
      arith,
      answers_long at.window (at.client.kept ++ to_come at.own) asked.answered answers talk.answered,
      length-append at.client.kept (to_come at.own),
      all_few granted at words asked answers talk,
      length-append asked.answered (asked.pending ++ asked.coming),
    )

come_long : (end : EndState) → TookNoMore end → length (received_now end) ≡ length (taken_now end) + length (to_come end)
come_long end took = omega (arith, took, length-drop (length (taken_now end)) (received_now end))

pub room_for : (server own : EndState) (count : ℕ) → AreEnds server own → (own.registered ≡ true → length (to_come own) + count ≤ own.place.own_slots) → HasRoomFor server count
room_for server own count ends few registered =
    let sent : length (sent_now server server.counts.partner_session) ≡ length (received_now own) =
    ap (λ q. length (of_session q server.sent)) ends.server_sees.session ∙ ap (λ (rows : List PipeRow). length (of_session own.last_session rows)) (sym ends.server_sees.received) in
    let took : length (partner_took server server.counts.partner_session) ≡ length (taken_now own) =
    ap (λ q. length (of_session q server.place.partner_taken)) ends.server_sees.session ∙ ap (λ (rows : List PipeRow). length (of_session own.last_session rows)) ends.server_sees.taken in
    omega (arith, sent, took, ends.server_sees.slots, come_long own ends.own_took, few (sym ends.server_sees.partner ∙ registered))

-- THE TURN

pub talk_ready : (granted : ℕ) (at : Between) (words : List Word) → HasRights at.window → TalksPlainly granted at words → IsTurnReady at.unit (reach at.server at.window false) false words
talk_ready granted at words rights talks =
    let calm = talks.calm in
    let few : length words ≤ 1 = words_few granted at words talks.phase in
    let pending = pends granted at words rights calm talks.phase in
    record {
      calm = record {
        alone = refl;
        apart = refl;
        registered = calm.registered;
        closing = calm.closing;
        up = calm.up;
        waiting = calm.waiting;
        kept = calm.kept;
        said = words_said at.window calm.usable rights (to_come at.server) words calm.said;
        order = in_order granted at words (length (taken_now at.server)) calm talks.phase;
        slots = room_for at.server at.own (length (replies words)) calm.ends
            (λ there. omega (arith, own_few granted at words talks.phase there, calm.own_slots, few, replies_few words));
      };
      event = calm.event;
      few = record { slots = omega (arith, few, calm.server_slots); pending = omega (arith, few, pending.few) };
      stage = calm.stage;
      next = λ talk request rest heard is asked.
          All-head (λ request. MayWriteAnswer at.window request.address) request rest (subst (AreMay at.window) is
          (may_all at.window words (talk_of at.unit) talk (length (taken_now at.server)) heard (words_may granted at words rights calm talks.phase) pending.may));
      slots = room_for at.server at.own (length (replies words) + 1) calm.ends
          (λ there. omega (arith, own_few granted at words talks.phase there, calm.own_slots, few, replies_few words));
    }
