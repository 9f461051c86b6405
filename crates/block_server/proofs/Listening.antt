-- How a unit hears the words that are to come, one behind the other.
use Rattle.std.proofs.Common.{◌≡◌, ◌≢◌, ◌⊎◌, ◌==◌, ◌&&◌, inl, inr, ◌+◌, ◌++◌, ◌<◌, ◌≤◌, ℕ, zero, suc, Bool, true, false, cond, All, List, [], ◌∷◌, Some, None, Result, Ok, Err, IfOk, drop, length, slice_get, refl, sym, ◌∙◌, ap, subst, arith, append-nil, append_assoc, length-append}
use Rattle.std.proofs.lemmas.Bool.Decides.{nat_tests}
use Rattle.std.proofs.lemmas.List.Elements.{All-append, All-cons, All-nil}
use Rattle.std.proofs.lemmas.List.{map-append}
use Rattle.crq_ring.proofs.SessionLaws.{of_session-push}
use Rattle.crq_ring.specs.Sessions.{of_session}
use Rattle.crq_ring.specs.declared.rows.PipeRow.{PipeRow}
use Rattle.crq_session.specs.Answered.{FindsFull, FindsNone, Sends, Takes, TurnsBack, partner_took, received_now, sent_now, taken_now}
use Rattle.crq_session.specs.Answers.{IfClosed, IfEmpty, OnNotSent}
use Rattle.crq_session.specs.declared.answers.PollAnswer.{PollAnswer}
use Rattle.crq_session.specs.declared.answers.PollAnswer.TheVariants as polling
use Rattle.crq_session.specs.declared.answers.SendAnswer.{SendAnswer}
use Rattle.crq_session.specs.declared.answers.SendAnswer.TheVariants as sending
use Rattle.crq_session.specs.EndState.{EndState, OnlyReserves, OnlySends, OnlyTakes}
use Rattle.srp_iu.specs.declared.unit.Iu.{Iu}
use Rattle.vio_num.specs.Entry.{entry_format, first_byte, initialization_complete, initialize, is_srp_entry, kind_of}
use Rattle.vio_num.specs.declared.entry.Kind.{Kind}
use Rattle.vio_num.specs.declared.entry.Kind.TheVariants.{Command, Event, Init, Reserved, Unused}
use Rattle.vio_num.specs.declared.entry.Entry.{Entry}
use Rattle.vio_num.specs.declared.history.Grant.{Grant}
use Rattle.vio_num.specs.declared.history.Grant.TheVariants.{Lapsed}
use Rattle.vio_num.specs.declared.history.Lapse.TheVariants.{Lost}
use Rattle.vio_num.specs.declared.memory.NoMemory.{NoMemory}
use Rattle.tce_window.specs.Pieces.{IsUsable}
use Rattle.tce_window.specs.PortState.{PortState}
use Rattle.tce_window.specs.declared.answers.Right.TheVariants.{Read}
use Rattle.block_server.specs.Closings.{is_event}
use Rattle.block_server.specs.Ends.{EndsLogin}
use Rattle.block_server.specs.declared.records.Records.{Records}
use Rattle.block_server.specs.Talk.{AcceptsRequest, AddsLosses, FitOneTurn, SayWords, ComeInOrder, HasHeard, HasRoomFor, HearsAll, HearsFirst, HearsOne, SaysRequest, HasHeardAll, IsListening, IsLoss, IsReceivedAs, IsReplied, SaysWord, MayAsk, PutsReplies, Reach, Replies, StaysKnown, Talk, Word, replies, session_rows, talk_of, to_come}
use Rattle.block_server.specs.Talk.Word.{asks, begins, gone}
use Rattle.block_server.specs.declared.intake.Next.{Next}
use Rattle.block_server.specs.declared.intake.Next.TheVariants.{Entry as NextEntry, Service}
use Rattle.block_server.specs.declared.service.Stage.TheVariants.{Start}
use Rattle.block_server.specs.declared.unit.Unit.{Unit}
use Rattle.crq_session.specs.declared.handshake.Handshake.{Handshake}
use Rattle.crq_session.specs.declared.handshake.Handshake.TheVariants.{Down, Up, Waiting}
use Rattle.crq_session.specs.declared.handshake.Step.{Step}
use Rattle.crq_session.specs.declared.handshake.Step.TheVariants.{SendComplete}
use Rattle.crq_session.specs.Handshake.{state_after, state_by, step_after, step_entry}
use Rattle.block_server.proofs.Reading.{known_on, known_same, stand_known, stays_known}

-- THE NEXT ENTRY ---------------------------------------------------------------------------------

some_is : {X : Type 0} (a b : X) → Some a ≡ Some b → a ≡ b
some_is a b e = cc (e)

-- an element is the first of the list from its place on
drop_next : {X : Type 0} (xs : List X) (n : ℕ) (x : X) → slice_get xs n ≡ Some x → drop n xs ≡ x ∷ drop (n + 1) xs
drop_next [] n x is = absurd (cc (is))
drop_next (y ∷ ys) zero x is = ap (λ z. z ∷ ys) (some_is y x is)
drop_next (y ∷ ys) (suc n) x is = drop_next ys n x is ∙ ap (λ (k : ℕ). x ∷ drop k (y ∷ ys)) at
  where
    at : suc (n + 1) ≡ suc n + 1
    at = omega arith

-- nothing is left behind a whole list
pub drop_whole : {X : Type 0} (xs : List X) → drop (length xs) xs ≡ []
drop_whole [] = refl
drop_whole (x ∷ xs) = drop_whole xs

-- The next entry was taken, and nothing else changed in the queue.
pub record Came (old new : EndState) (number : ℕ) (entry : Entry) : Type 0 where
  pub place : new.place ≡ old.place
  pub last_session : new.last_session ≡ old.last_session
  pub registered : new.registered ≡ old.registered
  pub partner : new.counts.partner_session ≡ old.counts.partner_session
  pub sent : new.sent ≡ old.sent
  pub come : to_come old ≡ entry ∷ to_come new
  pub more : length (taken_now new) ≡ length (taken_now old) + 1
  pub number_is : number ≡ length (taken_now old)

-- the queue's end, of which nothing is other than what was taken
taken_same : (old mid : EndState) → OnlyReserves old mid → taken_now mid ≡ taken_now old
taken_same old mid rest = ap (λ (z : ℕ × List PipeRow). of_session z.0 z.1) (λ i. (rest.last_session i, rest.taken i))

pub came : (link : Bool) (old mid new : EndState) (number : ℕ) (entry : Entry) → link ≡ false → OnlyReserves old mid → OnlyTakes link mid new → Takes link mid new number entry → Came old new number entry
came link old mid new number entry alone reserves takes is = record {
  place = takes.place ∙ reserves.place;
  last_session = session;
  registered = takes.registered ∙ reserves.registered;
  partner = takes.counts.same_session alone ∙ ap (λ counts. counts.partner_session) reserves.counts;
  sent = takes.sent ∙ reserves.sent;
  come = drop_next (received_now old) (length (taken_now old)) entry there
      ∙ ap (λ (z : ℕ × List Entry). entry ∷ drop z.0 z.1) (λ i. (sym more i, sym received i));
  more = more;
  number_is = number_is;
}
  where
    session : new.last_session ≡ old.last_session
    session = takes.last_session ∙ reserves.last_session

    number_is : number ≡ length (taken_now old)
    number_is = is.number_is ∙ ap length (taken_same old mid reserves)

    received : received_now new ≡ received_now old
    received = ap (λ (z : ℕ × List PipeRow). of_session z.0 z.1) (λ i. (session i, ((takes.place ∙ reserves.place) i).received))

    received_mid : received_now mid ≡ received_now old
    received_mid = ap (λ (z : ℕ × List PipeRow). of_session z.0 z.1) (λ i. (reserves.last_session i, (reserves.place i).received))

    there : slice_get (received_now old) (length (taken_now old)) ≡ Some entry
    there = ap (λ (z : ℕ × List Entry). slice_get z.1 z.0) (λ i. (sym number_is i, sym received_mid i)) ∙ is.there alone

    pushed : taken_now new ≡ taken_now mid ++ entry ∷ []
    pushed = ap (λ (z : ℕ × List PipeRow). of_session z.0 z.1) (λ i. (takes.last_session i, is.taken i)) ∙ of_session-push (record { session = mid.last_session; entry = entry }) mid.taken

    more : length (taken_now new) ≡ length (taken_now old) + 1
    more = ap length pushed ∙ length-append (taken_now mid) (entry ∷ []) ∙ ap (λ n. n + 1) (ap length (taken_same old mid reserves))

-- WHAT IS PUT ------------------------------------------------------------------------------------

-- nothing more is put for no reply
none_more : (b : Bool) (q : ℕ) → cond b (session_rows q []) [] ≡ []
none_more true q = refl
none_more false q = refl

pub puts_none : (old new : EndState) → new.sent ≡ old.sent → PutsReplies old new []
puts_none old new same = same ∙ sym (ap (λ more. old.sent ++ more) (none_more old.place.partner_registered old.counts.partner_session) ∙ append-nil old.sent)

pub replies_none : (old new : EndState) → new ≡ old → Replies old new []
replies_none old new same = record {
  place = ap (λ (q : EndState). q.place) same;
  last_session = ap (λ (q : EndState). q.last_session) same;
  registered = ap (λ (q : EndState). q.registered) same;
  taken = ap (λ (q : EndState). q.taken) same;
  partner = ap (λ (q : EndState). q.counts.partner_session) same;
  put = puts_none old new (ap (λ (q : EndState). q.sent) same);
}

-- the end of a queue that only sent
sends_only : (link : Bool) (old new : EndState) (entries : List Entry) → link ≡ false → OnlySends link old new → PutsReplies old new entries → Replies old new entries
sends_only link old new entries alone rest put = record {
  place = rest.place;
  last_session = rest.last_session;
  registered = rest.registered;
  taken = rest.taken;
  partner = rest.counts.same_session alone;
  put = put;
}

-- A reply was put.
pub sends_reply : (link : Bool) (old new : EndState) (reply : Entry) (number : ℕ) → link ≡ false → OnlySends link old new → Sends link old reply new number → Replies old new (reply ∷ [])
sends_reply link old new reply number alone rest is = sends_only link old new (reply ∷ []) alone rest
    (is.puts.sent
    ∙ ap (λ (q : ℕ). old.sent ++ session_rows q (reply ∷ [])) (rest.counts.same_session alone)
    ∙ ap (λ (b : Bool). old.sent ++ cond b (session_rows old.counts.partner_session (reply ∷ [])) []) (sym (is.puts.partner alone)))

-- It was turned back, since the partner's queue is closed.
turned_reply : (link : Bool) (old new : EndState) (reply : Entry) → link ≡ false → OnlySends link old new → new.sent ≡ old.sent → old.place.partner_registered ≡ false → Replies old new (reply ∷ [])
turned_reply link old new reply alone rest same off = sends_only link old new (reply ∷ []) alone rest
    (same ∙ sym (ap (λ (b : Bool). old.sent ++ cond b (session_rows old.counts.partner_session (reply ∷ [])) []) off ∙ append-nil old.sent))

pub not_put_reply : (link : Bool) (old new : EndState) (reply : Entry) (answer : SendAnswer) → link ≡ false → old.registered ≡ true → OnlySends link old new
    → ((number : ℕ) → answer ≡ sending.Success number → ⊥) → ((number held : ℕ) → answer ≡ sending.Dropped number held → ⊥)
    → IfClosed answer (TurnsBack link old new) → OnNotSent answer (old.registered ≡ false) → Replies old new (reply ∷ [])
not_put_reply link old new reply (sending.Success number) alone on rest success dropped closed off = absurd (success number refl)
not_put_reply link old new reply (sending.Dropped number held) alone on rest success dropped closed off = absurd (dropped number held refl)
not_put_reply link old new reply (sending.Closed control) alone on rest success dropped closed off =
    turned_reply link old new reply alone rest closed.none.sent (closed.closed.meets.partner alone)
not_put_reply link old new reply sending.Parameter alone on rest success dropped closed off = absurd (cc (on, off))
not_put_reply link old new reply sending.NotRegistered alone on rest success dropped closed off = absurd (cc (on, off))

-- There was room for it.
pub full_no : (link : Bool) (old new : EndState) (number held : ℕ) → link ≡ false → OnlySends link old new → HasRoomFor old 1 → FindsFull link old new number held → ⊥
full_no link old new number held alone rest room full =
    let q : new.counts.partner_session ≡ old.counts.partner_session = rest.counts.same_session alone in
    omega (
      arith,
      room (full.partner alone),
      subst (λ (n : ℕ). length (sent_now old n) ≡ length (partner_took old n) + old.place.partner_slots) q (full.full_slot alone),
    )

-- what is said stays said while the client's window stays as it was
said_one : (old new : PortState) → StaysKnown old new → (entry : Entry) (word : Word) → SaysWord old entry word → SaysWord new entry word
said_one old new same entry begins said = said
said_one old new same entry gone said = said
said_one old new same entry (asks address bytes iu) said = record {
  srp = said.srp;
  address_is = said.address_is;
  long = said.long;
  some = said.some;
  few = said.few;
  may = subst (λ (z : (ℕ → List ℕ) × ℕ). IsUsable z.0 Read z.1 address (length bytes)) (λ i. (sym same.values i, (sym same.place i).size)) said.may;
  stand = stand_known old new address bytes same said.stand;
  spelled = said.spelled;
}

pub said_known : (old new : PortState) → StaysKnown old new → (entries : List Entry) (words : List Word) → SayWords old entries words → SayWords new entries words
said_known old new same [] [] said = tt
said_known old new same [] (word ∷ words) said = said
said_known old new same (entry ∷ entries) [] said = said
said_known old new same (entry ∷ entries) (word ∷ words) said = (said_one old new same entry word said.0, said_known old new same entries words said.1)

-- room for what is put stays room for the rest
slots_pushed : (q count took slots : ℕ) (sent : List PipeRow) (reply : Entry) → length (of_session q sent) + (count + 1) ≤ took + slots
    → length (of_session q (sent ++ record { session = q; entry = reply } ∷ [])) + count ≤ took + slots
slots_pushed q count took slots sent reply room =
    omega (arith, room, ap length (of_session-push (record { session = q; entry = reply }) sent), length-append (of_session q sent) (reply ∷ []))

pub slots_kept : (old new : EndState) (count : ℕ) → new.place ≡ old.place → new.counts.partner_session ≡ old.counts.partner_session → PutsReplies old new [] → HasRoomFor old count → HasRoomFor new count
slots_kept old new count place partner put room on = subst (λ (z : ℕ × List PipeRow). length (of_session z.0 z.1) + count ≤ length (partner_took new new.counts.partner_session) + new.place.partner_slots)
    (λ i. (sym partner i, sym sent i))
    (subst (λ (z : ℕ × EndState). length (of_session old.counts.partner_session old.sent) + count ≤ length (partner_took z.1 z.0) + z.1.place.partner_slots)
    (λ i. (sym partner i, record new { place = sym place i }))
    (room (ap (λ p. p.partner_registered) (sym place) ∙ on)))
  where
    sent : new.sent ≡ old.sent
    sent = put ∙ ap (λ more. old.sent ++ more) (none_more old.place.partner_registered old.counts.partner_session) ∙ append-nil old.sent

slots_after : (old new : EndState) (count : ℕ) (reply : Entry) → new.place ≡ old.place → new.counts.partner_session ≡ old.counts.partner_session → PutsReplies old new (reply ∷ []) → HasRoomFor old (count + 1)
    → HasRoomFor new count
slots_after old new count reply place partner put room on = subst (λ (z : ℕ × List PipeRow). length (of_session z.0 z.1) + count ≤ length (partner_took new new.counts.partner_session) + new.place.partner_slots)
    (λ i. (sym partner i, sym sent i))
    (subst (λ (z : ℕ × EndState). length (of_session old.counts.partner_session (old.sent ++ record { session = old.counts.partner_session; entry = reply } ∷ [])) + count ≤ length (partner_took z.1 z.0) + z.1.place.partner_slots)
    (λ i. (sym partner i, record new { place = sym place i }))
    (slots_pushed old.counts.partner_session count (length (partner_took old old.counts.partner_session)) old.place.partner_slots old.sent reply (room on_old)))
  where
    on_old : old.place.partner_registered ≡ true
    on_old = ap (λ p. p.partner_registered) (sym place) ∙ on

    sent : new.sent ≡ old.sent ++ record { session = old.counts.partner_session; entry = reply } ∷ []
    sent = put ∙ ap (λ (b : Bool). old.sent ++ cond b (session_rows old.counts.partner_session (reply ∷ [])) []) on_old

slots_on : (old new : EndState) (word : Word) (words : List Word) → new.place ≡ old.place → new.counts.partner_session ≡ old.counts.partner_session → PutsReplies old new (replies (word ∷ []))
    → HasRoomFor old (length (replies (word ∷ words))) → HasRoomFor new (length (replies words))
slots_on old new begins words place partner put room = slots_after old new (length (replies words)) initialization_complete place partner put (λ on. omega (arith, room on))
slots_on old new gone words place partner put room = slots_kept old new (length (replies words)) place partner put room
slots_on old new (asks address bytes iu) words place partner put room = slots_kept old new (length (replies words)) place partner put room

-- another entry than an SRP one asks nothing
pub not_asked : (client : PortState) (entry : Entry) (address : ℕ) (bytes : List ℕ) (iu : Iu) → SaysRequest client entry address bytes iu → is_srp_entry entry ≡ false → ⊥
not_asked client entry address bytes iu asked other = cc (asked.srp, other)

-- ONE WORD ---------------------------------------------------------------------------------------

-- what the unit is behind it
pub record StaysListening (unit' : Unit) : Type 0 where
  pub closing : unit'.line.closing ≡ false
  pub up : unit'.line.handshake ≢ Down
  pub waiting : unit'.waiting ≡ None
  pub kept : unit'.line.kept ≡ None

-- The first word was heard: the others are to come.
pub hears_on : (link : Bool) (unit unit' : Unit) (old mid new : Reach) (lines lines' : List Grant) (number : ℕ) (entry : Entry) (word : Word) (words : List Word) (next : Next)
    → IsListening unit old link (word ∷ words) → Came old.queue mid.queue number entry → Replies mid.queue new.queue (replies (word ∷ [])) → new.shared ≡ old.shared → StaysKnown old.client new.client
    → StaysListening unit' → HearsOne (talk_of unit) (length (taken_now old.queue)) word (talk_of unit') → AddsLosses lines lines' → (unit.service.stage ≡ Start → unit'.service.stage ≡ Start) → next ≡ NextEntry
    → HearsFirst link unit unit' old new lines lines' (word ∷ words) next
hears_on link unit unit' old mid new lines lines' number entry word words next calm came put shared window stays heard lines_are stage is = (
  is,
  record {
    heard = (talk_of unit', heard, refl);
    taken = more;
    stage = stage;
    place = put.place ∙ came.place;
    session = put.last_session ∙ came.last_session;
    registered = put.registered ∙ came.registered;
    partner = put.partner ∙ came.partner;
    put = put_all;
    window = window;
    lines_are = lines_are;
  },
  record {
    alone = calm.alone;
    apart = shared ∙ calm.apart;
    registered = put.registered ∙ came.registered ∙ calm.registered;
    closing = stays.closing;
    up = stays.up;
    waiting = stays.waiting;
    kept = stays.kept;
    said = subst (λ (entries : List Entry). SayWords new.client entries words) (sym left) (said_known old.client new.client window (to_come mid.queue) words said.1);
    order = subst (λ (n : ℕ). ComeInOrder (talk_of unit') n words) (sym more) (calm.order.1 (talk_of unit') heard);
    slots = slots_on old.queue new.queue word words (put.place ∙ came.place) (put.partner ∙ came.partner) put_all calm.slots;
  },
)
  where
    taken : taken_now new.queue ≡ taken_now mid.queue
    taken = ap (λ (z : ℕ × List PipeRow). of_session z.0 z.1) (λ i. (put.last_session i, put.taken i))

    more : length (taken_now new.queue) ≡ length (taken_now old.queue) + 1
    more = ap length taken ∙ came.more

    left : to_come new.queue ≡ to_come mid.queue
    left = ap (λ (z : ℕ × (ℕ × List PipeRow)). drop z.0 (of_session z.1.0 z.1.1)) (λ i. (length (taken i), (put.last_session i, (put.place i).received)))

    said : SayWords old.client (entry ∷ to_come mid.queue) (word ∷ words)
    said = subst (λ (entries : List Entry). SayWords old.client entries (word ∷ words)) came.come calm.said

    put_all : PutsReplies old.queue new.queue (replies (word ∷ []))
    put_all = put.put ∙ ap (λ (q : EndState). q.sent ++ cond q.place.partner_registered (session_rows q.counts.partner_session (replies (word ∷ []))) [])
        (λ i. record mid.queue { sent = came.sent i; place = came.place i; counts = record mid.queue.counts { partner_session = came.partner i } })

-- WHAT AN ENTRY SAYS -----------------------------------------------------------------------------

-- the kind of an entry that says it
abbrev pub kind_said : Word → Kind
kind_said begins = Init
kind_said gone = Event
kind_said (asks address bytes iu) = Command

pub first_is : (n m : ℕ) → (n == m) ≡ true → n ≡ m
first_is n m is = grind (arith, nat_tests, is)

both_first : (a b : Bool) → a && b ≡ true → a ≡ true
both_first true b is = refl
both_first false b is = absurd (cc (is))

said_kind : (client : PortState) (entry : Entry) (word : Word) → SaysWord client entry word → kind_of (first_byte entry) ≡ kind_said word
said_kind client entry begins said = ap (λ (e : Entry). kind_of (first_byte e)) said
said_kind client entry gone said = ap kind_of (first_is (first_byte entry) 0xFF said)
said_kind client entry (asks address bytes iu) said = ap kind_of (first_is (first_byte entry) 0x80 (both_first (first_byte entry == 0x80) (entry_format entry == 0x01) said.srp))

-- the word that the next entry says is the first
first_said : (client : PortState) (entry : Entry) (entries more : List Entry) (words : List Word) → more ≡ entry ∷ entries → SayWords client more words
    → (word : Word) × (rest : List Word) × (words ≡ word ∷ rest) × SaysWord client entry word
first_said client entry entries more words is said = by words (subst (λ (list : List Entry). SayWords client list words) is said)
  where
    by : (words : List Word) → SayWords client (entry ∷ entries) words → (word : Word) × (rest : List Word) × (words ≡ word ∷ rest) × SaysWord client entry word
    by [] said = absurd said
    by (word ∷ rest) said = (word, rest, refl, said.0)

-- an entry of no such kind says nothing
pub no_word : (link : Bool) (unit : Unit) (old mid : Reach) (number : ℕ) (entry : Entry) (words : List Word) (kind : Kind) → IsListening unit old link words → Came old.queue mid.queue number entry
    → kind_of (first_byte entry) ≡ kind → ((word : Word) → kind_said word ≡ kind → ⊥) → ⊥
no_word link unit old mid number entry words kind calm came is none =
    let first = first_said old.client entry (to_come mid.queue) (to_come old.queue) words came.come calm.said in
    none first.0 (sym (said_kind old.client entry first.0 first.3) ∙ is)

pub said_none : (word : Word) (kind : Kind) → (kind ≡ Unused) ⊎ (kind ≡ Reserved) → kind_said word ≡ kind → ⊥
said_none begins kind (inl other) is = cc (other, is)
said_none begins kind (inr other) is = cc (other, is)
said_none gone kind (inl other) is = cc (other, is)
said_none gone kind (inr other) is = cc (other, is)
said_none (asks address bytes iu) kind (inl other) is = cc (other, is)
said_none (asks address bytes iu) kind (inr other) is = cc (other, is)

-- Nothing was found: there was no word.
none_left : (link : Bool) (mid new : EndState) (answer : PollAnswer) → link ≡ false → mid.registered ≡ true → ((number : ℕ) (entry : Entry) → answer ≡ polling.Got number entry → ⊥)
    → (answer ≡ polling.NotRegistered → mid.registered ≡ false) → IfEmpty answer (FindsNone link mid new) → received_now mid ≡ taken_now mid
none_left link mid new (polling.Got number entry) alone on got off empty = absurd (got number entry refl)
none_left link mid new (polling.Empty number) alone on got off empty = empty.all_taken alone
none_left link mid new polling.NotRegistered alone on got off empty = absurd (cc (on, off refl))

pub hears_none : (link : Bool) (unit unit' : Unit) (old mid new : Reach) (lines : List Grant) (answer : PollAnswer) (words : List Word) → unit' ≡ unit
    → OnlyReserves old.queue mid.queue → OnlyTakes link mid.queue new.queue → mid.client ≡ old.client → new.client ≡ mid.client → new.queue.taken ≡ mid.queue.taken
    → ((number : ℕ) (entry : Entry) → answer ≡ polling.Got number entry → ⊥) → (answer ≡ polling.NotRegistered → mid.queue.registered ≡ false) → IfEmpty answer (FindsNone link mid.queue new.queue)
    → IsListening unit old link words → HearsFirst link unit unit' old new lines lines words Service
hears_none link unit unit' old mid new lines answer words same reserves takes windows windows' taken got off empty calm = by words (subst (λ (entries : List Entry). SayWords old.client entries words) none calm.said)
  where
    all : received_now mid.queue ≡ taken_now mid.queue
    all = none_left link mid.queue new.queue answer calm.alone (reserves.registered ∙ calm.registered) got off empty

    none : to_come old.queue ≡ []
    none = ap (λ (z : ℕ × (ℕ × List PipeRow)). drop z.0 (of_session z.1.0 z.1.1)) (sym (λ i. (length (taken_same old.queue mid.queue reserves i), (reserves.last_session i, (reserves.place i).received))))
        ∙ ap (λ (entries : List Entry). drop (length (taken_now mid.queue)) entries) all ∙ drop_whole (taken_now mid.queue)

    now : taken_now new.queue ≡ taken_now old.queue
    now = ap (λ (z : ℕ × List PipeRow). of_session z.0 z.1) (λ i. (takes.last_session i, taken i)) ∙ taken_same old.queue mid.queue reserves

    by : (words : List Word) → SayWords old.client [] words → HearsFirst link unit unit' old new lines lines words Service
    by [] said = (
      refl,
      record {
        heard = ap talk_of same;
        taken = ap length now ∙ omega arith;
        stage = λ at. ap (λ (u : Unit). u.service.stage) same ∙ at;
        place = takes.place ∙ reserves.place;
        session = takes.last_session ∙ reserves.last_session;
        registered = takes.registered ∙ reserves.registered;
        partner = takes.counts.same_session calm.alone ∙ ap (λ counts. counts.partner_session) reserves.counts;
        put = puts_none old.queue new.queue (takes.sent ∙ reserves.sent);
        window = stays_known _ _ _ (stays_known _ _ _ (known_same old.client) windows) windows';
        lines_are = record { more = []; added = sym (append-nil lines); losses = All-nil IsLoss };
      },
      record {
        closing = ap (λ (u : Unit). u.line.closing) same ∙ calm.closing;
        up = subst (λ (u : Unit). u.line.handshake ≢ Down) (sym same) calm.up;
        waiting = ap (λ (u : Unit). u.waiting) same ∙ calm.waiting;
        kept = ap (λ (u : Unit). u.line.kept) same ∙ calm.kept;
        none = ap (λ (z : ℕ × (ℕ × List PipeRow)). drop z.0 (of_session z.1.0 z.1.1)) (λ i. (length (now i), ((takes.last_session ∙ reserves.last_session) i, ((takes.place ∙ reserves.place) i).received))) ∙ none;
      },
    )
    by (word ∷ rest) said = absurd said

-- THE FIRST WORD ---------------------------------------------------------------------------------

-- no other kind asks
asked_first : (client : PortState) (entry : Entry) (word : Word) → SaysWord client entry word → kind_of (first_byte entry) ≡ Command
    → (address : ℕ) × (bytes : List ℕ) × (iu : Iu) × (word ≡ asks address bytes iu)
asked_first client entry begins said is = absurd (cc (is, said_kind client entry begins said))
asked_first client entry gone said is = absurd (cc (is, said_kind client entry gone said))
asked_first client entry (asks address bytes iu) said is = (address, bytes, iu, refl)

-- no other kind begins
begun_first : (client : PortState) (entry : Entry) (word : Word) → SaysWord client entry word → kind_of (first_byte entry) ≡ Init → word ≡ begins
begun_first client entry begins said is = refl
begun_first client entry gone said is = absurd (cc (is, said_kind client entry gone said))
begun_first client entry (asks address bytes iu) said is = absurd (cc (is, said_kind client entry (asks address bytes iu) said))

-- no other kind says that the partner is gone
gone_first : (client : PortState) (entry : Entry) (word : Word) → SaysWord client entry word → kind_of (first_byte entry) ≡ Event → word ≡ gone
gone_first client entry begins said is = absurd (cc (is, said_kind client entry begins said))
gone_first client entry gone said is = refl
gone_first client entry (asks address bytes iu) said is = absurd (cc (is, said_kind client entry (asks address bytes iu) said))

-- no line was added
pub no_losses : (lines lines' : List Grant) → lines' ≡ lines → AddsLosses lines lines'
no_losses lines lines' same = record { more = []; added = same ∙ sym (append-nil lines); losses = All-nil IsLoss }

-- An SRP entry was taken, and its request accepted.
asked_on : (link : Bool) (unit unit1 unit' : Unit) (old mid new : Reach) (lines lines' : List Grant) (number : ℕ) (entry : Entry) (address : ℕ) (bytes : List ℕ) (iu : Iu) (words : List Word) (next : Next)
    → IsListening unit old link (asks address bytes iu ∷ words) → talk_of unit1 ≡ talk_of unit → unit1.line ≡ unit.line → unit1.service ≡ unit.service → Came old.queue mid.queue number entry → mid.client ≡ old.client → new.shared ≡ old.shared
    → (next ≡ NextEntry) × IsReceivedAs unit1 unit' mid new lines lines' number address bytes iu
    → HearsFirst link unit unit' old new lines lines' (asks address bytes iu ∷ words) next
asked_on link unit unit1 unit' old mid new lines lines' number entry address bytes iu words next calm talk line service came client shared is =
    hears_on link unit unit' old mid new lines lines' number entry (asks address bytes iu) words next calm came (replies_none mid.queue new.queue is.1.queue) shared
    (subst (λ (port : PortState). StaysKnown port new.client) client is.1.window)
    (record {
      closing = ap (λ l. l.closing) same ∙ calm.closing;
      up = subst (λ (h : Handshake). h ≢ Down) (ap (λ l. l.handshake) (sym same)) calm.up;
      waiting = is.1.waiting;
      kept = ap (λ l. l.kept) same ∙ calm.kept;
    })
    (subst (λ (z : Talk × ℕ). AcceptsRequest z.0 z.1 address bytes iu (talk_of unit')) (λ i. (talk i, came.number_is i)) is.1.accepted.accepts)
    (no_losses lines lines' is.1.accepted.lines_are) (λ at. ap (λ s. s.stage) (is.1.accepted.service ∙ service) ∙ at) is.0
  where
    same : unit'.line ≡ unit.line
    same = is.1.accepted.line ∙ line

pub hears_asked : (link : Bool) (unit unit1 unit' : Unit) (old mid new : Reach) (lines lines' : List Grant) (number : ℕ) (entry : Entry) (words : List Word) (result : Result Next NoMemory)
    → IsListening unit old link words → talk_of unit1 ≡ talk_of unit → unit1.line ≡ unit.line → unit1.service ≡ unit.service → Came old.queue mid.queue number entry → mid.client ≡ old.client → mid.shared ≡ old.shared → new.shared ≡ mid.shared
    → kind_of (first_byte entry) ≡ Command
    → ((address : ℕ) (bytes : List ℕ) (iu : Iu) → mid.shared ≡ false → unit1.line.handshake ≡ Up → MayAsk (talk_of unit1) iu → SaysRequest mid.client entry address bytes iu
    → IfOk result (λ next. (next ≡ NextEntry) × IsReceivedAs unit1 unit' mid new lines lines' number address bytes iu))
    → IfOk result (HearsFirst link unit unit' old new lines lines' words)
hears_asked link unit unit1 unit' old mid new lines lines' number entry words (Err memory) calm talk line service came client shared shared' is hears = tt
hears_asked link unit unit1 unit' old mid new lines lines' number entry words (Ok next) calm talk line service came client shared shared' is hears =
    let first = first_said old.client entry (to_come mid.queue) (to_come old.queue) words came.come calm.said in
    let asked = asked_first old.client entry first.0 first.3 is in
    by words asked.0 asked.1 asked.2 first.1 (first.2 ∙ ap (λ (w : Word). w ∷ first.1) asked.3) calm (subst (SaysWord old.client entry) asked.3 first.3)
  where
    by : (words : List Word) (address : ℕ) (bytes : List ℕ) (iu : Iu) (rest : List Word) → words ≡ asks address bytes iu ∷ rest → IsListening unit old link words
        → SaysRequest old.client entry address bytes iu → HearsFirst link unit unit' old new lines lines' words next
    by words address bytes iu rest same calm said =
        subst (λ (w : List Word). HearsFirst link unit unit' old new lines lines' w next) (sym same)
        (asked_on link unit unit1 unit' old mid new lines lines' number entry address bytes iu rest next now talk line service came client (shared' ∙ shared)
        (hears address bytes iu (shared ∙ calm.apart) (ap (λ l. l.handshake) line ∙ now.order.0.0) (subst (λ (t : Talk). MayAsk t iu) (sym talk) now.order.0.1)
        (subst (λ (port : PortState). SaysRequest port entry address bytes iu) (sym client) said)))
      where
        now : IsListening unit old link (asks address bytes iu ∷ rest)
        now = subst (IsListening unit old link) same calm

-- The partner begins: the reply was put.
begun_after : (h : Handshake) → h ≢ Down → state_after h initialize ≡ Up
begun_after Down apart = absurd (apart refl)
begun_after Waiting apart = refl
begun_after Up apart = refl

begun_step : (h : Handshake) → h ≢ Down → step_after h initialize ≡ SendComplete
begun_step Down apart = absurd (apart refl)
begun_step Waiting apart = refl
begun_step Up apart = refl

pub hears_begun : (link : Bool) (unit unit1 unit' : Unit) (old mid new : Reach) (lines : List Grant) (number : ℕ) (entry reply : Entry) (step : Step) (words : List Word) (next : Next)
    → IsListening unit old link words → unit1.line.closing ≡ unit.line.closing → unit1.line.kept ≡ unit.line.kept → unit1.waiting ≡ unit.waiting → unit1.logins ≡ unit.logins → unit1.pending.items ≡ unit.pending.items → unit1.service ≡ unit.service
    → unit1.line.handshake ≡ state_after unit.line.handshake entry → step ≡ step_after unit.line.handshake entry → Some reply ≡ step_entry step → Came old.queue mid.queue number entry → mid.client ≡ old.client → mid.shared ≡ old.shared → new.shared ≡ mid.shared
    → kind_of (first_byte entry) ≡ Init
    → (link ≡ false → mid.queue.registered ≡ true → HasRoomFor mid.queue 1 → (next ≡ NextEntry) × IsReplied unit1 unit' mid new reply)
    → HearsFirst link unit unit' old new lines lines words next
hears_begun link unit unit1 unit' old mid new lines number entry reply step words next calm closing kept waiting logins pending service shook stepped replied came client shared shared' is hears =
    let first = first_said old.client entry (to_come mid.queue) (to_come old.queue) words came.come calm.said in
    by words first.1 (first.2 ∙ ap (λ (w : Word). w ∷ first.1) (begun_first old.client entry first.0 first.3 is)) calm
    (subst (SaysWord old.client entry) (begun_first old.client entry first.0 first.3 is) first.3)
  where
    by : (words rest : List Word) → words ≡ begins ∷ rest → IsListening unit old link words → entry ≡ initialize → HearsFirst link unit unit' old new lines lines words next
    by words rest begun calm said = subst (λ (w : List Word). HearsFirst link unit unit' old new lines lines w next) (sym begun)
        (hears_on link unit unit' old mid new lines lines number entry begins rest next now came
        (subst (λ (e : Entry). Replies mid.queue new.queue (e ∷ [])) complete put.1.put) (shared' ∙ shared) (stays_known _ _ _ (stays_known _ _ _ (known_same old.client) client) put.1.window)
        (record {
          closing = ap (λ (u : Unit). u.line.closing) put.1.same ∙ closing ∙ now.closing;
          up = λ down. up_apart (sym up_path ∙ down);
          waiting = ap (λ (u : Unit). u.waiting) put.1.same ∙ waiting ∙ now.waiting;
          kept = ap (λ (u : Unit). u.line.kept) put.1.same ∙ kept ∙ now.kept;
        })
        (λ i. record { handshake = up_path i; current = (logins' i).current; taking = (logins' i).taking; outstanding = (logins' i).target.outstanding; granted = (logins' i).granted; pending = pending' i }) (no_losses lines lines refl) (λ at. ap (λ (u : Unit). u.service.stage) put.1.same ∙ ap (λ s. s.stage) service ∙ at) put.0)
      where
        now : IsListening unit old link (begins ∷ rest)
        now = subst (IsListening unit old link) begun calm

        complete : reply ≡ initialization_complete
        complete = some_is reply initialization_complete (replied ∙ ap step_entry (stepped ∙ ap (step_after unit.line.handshake) said ∙ begun_step unit.line.handshake now.up))

        room : HasRoomFor mid.queue 1
        room = slots_kept old.queue mid.queue 1 came.place came.partner (puts_none old.queue mid.queue came.sent) (λ on. omega (arith, now.slots on))

        put : (next ≡ NextEntry) × IsReplied unit1 unit' mid new reply
        put = hears now.alone (came.registered ∙ now.registered) room

        up : unit1.line.handshake ≡ Up
        up = shook ∙ ap (state_after unit.line.handshake) said ∙ begun_after unit.line.handshake now.up

        up_path : (talk_of unit').handshake ≡ Up
        up_path = ap (λ (u : Unit). u.line.handshake) put.1.same ∙ up

        logins' : unit'.logins ≡ unit.logins
        logins' = ap (λ (u : Unit). u.logins) put.1.same ∙ logins

        pending' : unit'.pending.items ≡ unit.pending.items
        pending' = ap (λ (u : Unit). u.pending.items) put.1.same ∙ pending

        up_apart : Up ≢ Down
        up_apart e = cc (e)

pub no_reply : (link : Bool) (unit : Unit) (old mid : Reach) (number : ℕ) (entry : Entry) (step : Step) (words : List Word) → IsListening unit old link words → Came old.queue mid.queue number entry
    → kind_of (first_byte entry) ≡ Init → step ≡ step_after unit.line.handshake entry → None ≡ step_entry step → ⊥
no_reply link unit old mid number entry step words calm came is stepped none =
    let first = first_said old.client entry (to_come mid.queue) (to_come old.queue) words came.come calm.said in
    let word = begun_first old.client entry first.0 first.3 is in
    let said : entry ≡ initialize = subst (SaysWord old.client entry) word first.3 in
    cc (none, ap step_entry (stepped ∙ ap (step_after unit.line.handshake) said ∙ begun_step unit.line.handshake calm.up))

-- The partner is gone.
gone_up : (h : Handshake) (entry : Entry) → h ≢ Down → kind_of (first_byte entry) ≡ Event → state_after h entry ≢ Down
gone_up Down entry apart is = absurd (apart refl)
gone_up Waiting entry apart is = λ down. cc (sym (ap (λ (k : Kind). state_by Waiting k (entry_format entry)) is) ∙ down)
gone_up Up entry apart is = λ down. cc (sym (ap (λ (k : Kind). state_by Up k (entry_format entry)) is) ∙ down)

pub hears_gone : (link : Bool) (unit unit1 unit' : Unit) (old mid : Reach) (records records' : Records) (session number : ℕ) (entry : Entry) (words : List Word)
    → IsListening unit old link words → unit1.id ≡ unit.id → unit1.logins ≡ unit.logins → unit1.line.closing ≡ unit.line.closing → unit1.line.handshake ≡ state_after unit.line.handshake entry
    → Came old.queue mid.queue number entry → mid.client ≡ old.client → mid.shared ≡ old.shared → kind_of (first_byte entry) ≡ Event → EndsLogin unit1 unit' records records' session Lost 0 0
    → unit'.line.handshake ≡ unit1.line.handshake → unit'.line.closing ≡ unit1.line.closing → unit'.service.stage ≡ Start → HearsFirst link unit unit' old mid records.grants.items records'.grants.items words NextEntry
hears_gone link unit unit1 unit' old mid records records' session number entry words calm id logins closing shook came client shared is ends stays closes stage =
    let first = first_said old.client entry (to_come mid.queue) (to_come old.queue) words came.come calm.said in
    by words first.1 (first.2 ∙ ap (λ (w : Word). w ∷ first.1) (gone_first old.client entry first.0 first.3 is)) calm
    (subst (SaysWord old.client entry) (gone_first old.client entry first.0 first.3 is) first.3)
  where
    by : (words rest : List Word) → words ≡ gone ∷ rest → IsListening unit old link words → is_event entry ≡ true
        → HearsFirst link unit unit' old mid records.grants.items records'.grants.items words NextEntry
    by words rest lost calm said = subst (λ (w : List Word). HearsFirst link unit unit' old mid records.grants.items records'.grants.items w NextEntry) (sym lost)
        (hears_on link unit unit' old mid mid records.grants.items records'.grants.items number entry gone rest NextEntry now came (replies_none mid.queue mid.queue refl) shared
        (stays_known _ _ _ (known_same old.client) client)
        (record {
          closing = closes ∙ closing ∙ now.closing;
          up = subst (λ (h : Handshake). h ≢ Down) (sym (stays ∙ shook)) (gone_up unit.line.handshake entry now.up is);
          waiting = ends.waiting;
          kept = ends.kept;
        })
        (record {
          event = entry;
          says = said;
          loses = record { handshake = stays ∙ shook; current = ends.off; taking = ends.closed; granted = ends.as_many ∙ ap (λ l. l.granted) logins; pending = ends.pending };
        })
        (record {
          more = Lapsed unit1.id session unit1.logins.current Lost 0 0 ∷ [];
          added = ends.line;
          losses = All-cons IsLoss _ [] (unit1.id, session, unit1.logins.current, refl) (All-nil IsLoss);
        })
        (λ at. stage) refl)
      where
        now : IsListening unit old link (gone ∷ rest)
        now = subst (IsListening unit old link) lost calm

-- ONE WORD BEHIND ANOTHER ------------------------------------------------------------------------

hears_append : (done more : List Word) (number : ℕ) (a b c : Talk) → HearsAll a number done b → HearsAll b (number + length done) more c → HearsAll a number (done ++ more) c
hears_append [] more number a b c first next = subst (λ (z : Talk × ℕ). HearsAll z.0 z.1 more c) (λ i. (first i, at i)) next
  where
    at : number + 0 ≡ number
    at = omega arith
hears_append (word ∷ done) more number a b c first next =
    (first.0, first.1, hears_append done more (number + 1) first.0 b c first.2 (subst (λ (n : ℕ). HearsAll b n more c) at next))
  where
    at : number + suc (length done) ≡ number + 1 + length done
    at = omega arith

replies_append : (done more : List Word) → replies (done ++ more) ≡ replies done ++ replies more
replies_append [] more = refl
replies_append (begins ∷ done) more = ap (λ entries. initialization_complete ∷ entries) (replies_append done more)
replies_append (gone ∷ done) more = replies_append done more
replies_append (asks address bytes iu ∷ done) more = replies_append done more

rows_append : (q : ℕ) (xs ys : List Entry) → session_rows q (xs ++ ys) ≡ session_rows q xs ++ session_rows q ys
rows_append q xs ys = map-append (λ (entry : Entry). record { session = q; entry = entry }) xs ys

more_append : (b : Bool) (q : ℕ) (xs ys : List Entry) → cond b (session_rows q xs) [] ++ cond b (session_rows q ys) [] ≡ cond b (session_rows q (xs ++ ys)) []
more_append true q xs ys = sym (rows_append q xs ys)
more_append false q xs ys = refl

puts_on : (a b c : EndState) (xs ys : List Entry) → b.place ≡ a.place → b.counts.partner_session ≡ a.counts.partner_session → PutsReplies a b xs → PutsReplies b c ys → PutsReplies a c (xs ++ ys)
puts_on a b c xs ys place partner first next =
    next ∙ ap (λ (z : List PipeRow × (Bool × ℕ)). z.0 ++ cond z.1.0 (session_rows z.1.1 ys) []) (λ i. (first i, ((place i).partner_registered, partner i)))
    ∙ append_assoc a.sent (cond a.place.partner_registered (session_rows a.counts.partner_session xs) []) (cond a.place.partner_registered (session_rows a.counts.partner_session ys) [])
    ∙ ap (λ more. a.sent ++ more) (more_append a.place.partner_registered a.counts.partner_session xs ys)

losses_on : (a b c : List Grant) → AddsLosses a b → AddsLosses b c → AddsLosses a c
losses_on a b c first next = record {
  more = first.more ++ next.more;
  added = next.added ∙ ap (λ lines. lines ++ next.more) first.added ∙ append_assoc a first.more next.more;
  losses = All-append IsLoss first.more next.more first.losses next.losses;
}

pub heard_on : (u0 u1 u2 : Unit) (s0 s1 s2 : Reach) (l0 l1 l2 : List Grant) (done more : List Word) → HasHeard u0 u1 s0 s1 l0 l1 done → HasHeard u1 u2 s1 s2 l1 l2 more
    → HasHeard u0 u2 s0 s2 l0 l2 (done ++ more)
heard_on u0 u1 u2 s0 s1 s2 l0 l1 l2 done more first next = record {
  heard = hears_append done more (length (taken_now s0.queue)) (talk_of u0) (talk_of u1) (talk_of u2) first.heard (subst (λ (n : ℕ). HearsAll (talk_of u1) n more (talk_of u2)) first.taken next.heard);
  taken = omega (arith, first.taken, next.taken, length-append done more);
  stage = λ at. next.stage (first.stage at);
  place = next.place ∙ first.place;
  session = next.session ∙ first.session;
  registered = next.registered ∙ first.registered;
  partner = next.partner ∙ first.partner;
  put = subst (PutsReplies s0.queue s2.queue) (sym (replies_append done more)) (puts_on s0.queue s1.queue s2.queue (replies done) (replies more) first.place first.partner first.put next.put);
  window = known_on s0.client s1.client s2.client first.window next.window;
  lines_are = losses_on l0 l1 l2 first.lines_are next.lines_are;
}

-- nothing was heard
pub heard_none : (u u' : Unit) (s s' : Reach) (l l' : List Grant) → talk_of u' ≡ talk_of u → u'.service.stage ≡ u.service.stage → s' ≡ s → l' ≡ l → HasHeard u u' s s' l l' []
heard_none u u' s s' l l' talk stage site lines = subst (λ (z : Reach). HasHeard u u' s z l l' []) (sym site) (record {
  heard = talk;
  taken = omega arith;
  stage = λ at. stage ∙ at;
  place = refl;
  session = refl;
  registered = refl;
  partner = refl;
  put = puts_none s.queue s.queue refl;
  window = known_same s.client;
  lines_are = no_losses l l' lines;
})

-- the same unit, as far as it listens
pub calm_same : (link : Bool) (u u' : Unit) (s s' : Reach) (words : List Word) → talk_of u' ≡ talk_of u → u'.line ≡ u.line → u'.waiting ≡ u.waiting → s' ≡ s → IsListening u s link words → IsListening u' s' link words
calm_same link u u' s s' words talk line waiting site calm = subst (λ (z : Reach). IsListening u' z link words) (sym site) (record {
  alone = calm.alone;
  apart = calm.apart;
  registered = calm.registered;
  closing = ap (λ l. l.closing) line ∙ calm.closing;
  up = subst (λ (h : Handshake). h ≢ Down) (ap (λ l. l.handshake) (sym line)) calm.up;
  waiting = waiting ∙ calm.waiting;
  kept = ap (λ l. l.kept) line ∙ calm.kept;
  said = calm.said;
  order = subst (λ (t : Talk). ComeInOrder t (length (taken_now s.queue)) words) (sym talk) calm.order;
  slots = calm.slots;
})

-- THE LOOP ---------------------------------------------------------------------------------------

-- As many of the words were heard as entries were taken, and the others are to come.
pub record HearsSome (link : Bool) (unit unit' : Unit) (old new : Reach) (lines lines' : List Grant) (words : List Word) (taken : ℕ) : Type 0 where
  pub done : List Word
  pub rest : List Word
  pub split : words ≡ done ++ rest
  pub count : length done ≡ taken
  pub heard : HasHeard unit unit' old new lines lines' done
  pub left : IsListening unit' new link rest

-- the next one was heard
pub hears_next : (link : Bool) (u0 u1 u2 u3 : Unit) (s0 s1 s2 : Reach) (l0 l1 l2 l3 : List Grant) (words : List Word) (taken : ℕ) (next : Next)
    → HearsSome link u0 u1 s0 s1 l0 l1 words taken → talk_of u2 ≡ talk_of u1 → u2.service.stage ≡ u1.service.stage → u2.line ≡ u1.line → u2.waiting ≡ u1.waiting → l2 ≡ l1
    → ((rest : List Word) → IsListening u2 s1 link rest → HearsFirst link u2 u3 s1 s2 l2 l3 rest next)
    → ((next ≡ NextEntry) × HearsSome link u0 u3 s0 s2 l0 l3 words (taken + 1)) ⊎ ((next ≡ Service) × HasHeard u0 u3 s0 s2 l0 l3 words × HasHeardAll u3 s2.queue)
hears_next link u0 u1 u2 u3 s0 s1 s2 l0 l1 l2 l3 words taken next some talk stage line waiting lines hears = by some.rest some.split left (hears some.rest left)
  where
    left : IsListening u2 s1 link some.rest
    left = calm_same link u1 u2 s1 s1 some.rest talk line waiting refl some.left

    first : HasHeard u0 u2 s0 s1 l0 l2 (some.done ++ [])
    first = heard_on u0 u1 u2 s0 s1 s1 l0 l1 l2 some.done [] some.heard (heard_none u1 u2 s1 s1 l1 l2 talk stage refl lines)

    by : (rest : List Word) → words ≡ some.done ++ rest → IsListening u2 s1 link rest → HearsFirst link u2 u3 s1 s2 l2 l3 rest next
        → ((next ≡ NextEntry) × HearsSome link u0 u3 s0 s2 l0 l3 words (taken + 1)) ⊎ ((next ≡ Service) × HasHeard u0 u3 s0 s2 l0 l3 words × HasHeardAll u3 s2.queue)
    by [] split left is = inr (
      is.0,
      subst (HasHeard u0 u3 s0 s2 l0 l3) (append-nil (some.done ++ []) ∙ append-nil some.done ∙ sym (split ∙ append-nil some.done))
          (heard_on u0 u2 u3 s0 s1 s2 l0 l2 l3 (some.done ++ []) [] first is.1),
      is.2,
    )
    by (word ∷ rest) split left is = inl (
      is.0,
      record {
        done = some.done ++ word ∷ [];
        rest = rest;
        split = split ∙ sym (append_assoc some.done (word ∷ []) rest);
        count = length-append some.done (word ∷ []) ∙ ap (λ n. n + 1) some.count;
        heard = subst (λ (before : List Word). HasHeard u0 u3 s0 s2 l0 l3 (before ++ word ∷ [])) (append-nil some.done) (heard_on u0 u2 u3 s0 s1 s2 l0 l2 l3 (some.done ++ []) (word ∷ []) first is.1);
        left = is.2;
      },
    )

-- none was heard yet
pub hears_begin : (link : Bool) (u u' : Unit) (s s' : Reach) (l l' : List Grant) (words : List Word) → u' ≡ u → s' ≡ s → l' ≡ l → IsListening u s link words → HearsSome link u u' s s' l l' words 0
hears_begin link u u' s s' l l' words same site lines calm = record {
  done = [];
  rest = words;
  split = refl;
  count = refl;
  heard = heard_none u u' s s' l l' (ap talk_of same) (ap (λ (v : Unit). v.service.stage) same) site lines;
  left = calm_same link u u' s s' words (ap talk_of same) (ap (λ (v : Unit). v.line) same) (ap (λ (v : Unit). v.waiting) same) site calm;
}

pub goes_next : {A B C : Type 0} (next : Next) → next ≡ NextEntry → ((next ≡ NextEntry) × A) ⊎ ((next ≡ Service) × B × C) → A
goes_next next is (inl goes) = goes.1
goes_next next is (inr ends) = absurd (cc (is, ends.0))

pub ends_next : {A B C : Type 0} (next : Next) → (next ≡ NextEntry → ⊥) → ((next ≡ NextEntry) × A) ⊎ ((next ≡ Service) × B × C) → (next ≡ Service) × B × C
ends_next next apart (inl goes) = absurd (apart goes.0)
ends_next next apart (inr ends) = ends

-- each word makes one request pending at most
one_more : (a b : Talk) (number : ℕ) (word : Word) → HearsOne a number word b → length b.pending ≤ length a.pending + 1
one_more a b number begins is = omega (arith, ap (λ (t : Talk). length t.pending) is)
one_more a b number gone is = omega (arith, ap length is.loses.pending)
one_more a b number (asks address bytes iu) is = omega (arith, ap length is.pending, length-append a.pending (is.request ∷ []))

few_more : (words : List Word) (number : ℕ) (a b : Talk) → HearsAll a number words b → length b.pending ≤ length a.pending + length words
few_more [] number a b is = omega (arith, ap (λ (t : Talk). length t.pending) is)
few_more (word ∷ words) number a b is = omega (arith, one_more a is.0 number word is.1, few_more words (number + 1) is.0 b is.2)

-- As many entries were taken as a turn takes, or as many requests are pending as may be: there is no word left.
pub hears_all : (link : Bool) (u u' : Unit) (s s' : Reach) (l l' : List Grant) (words : List Word) (taken slots : ℕ) → HearsSome link u u' s s' l l' words taken → FitOneTurn u s words
    → slots ≡ s.queue.place.own_slots → (taken < slots → length u'.pending.items < 256 → ⊥) → HasHeard u u' s s' l l' words × HasHeardAll u' s'.queue
hears_all link u u' s s' l l' words taken slots some few slots_are full = by some.rest some.split some.left
  where
    none_said : (client : PortState) (entries : List Entry) → SayWords client entries [] → entries ≡ []
    none_said client [] said = refl
    none_said client (entry ∷ entries) said = absurd said

    by : (rest : List Word) → words ≡ some.done ++ rest → IsListening u' s' link rest → HasHeard u u' s s' l l' words × HasHeardAll u' s'.queue
    by [] split left = (
      subst (HasHeard u u' s s' l l') (sym (split ∙ append-nil some.done)) some.heard,
      record { closing = left.closing; up = left.up; waiting = left.waiting; kept = left.kept; none = none_said s'.client (to_come s'.queue) left.said },
    )
    by (word ∷ rest) split left =
        let long : length words ≡ length some.done + length (word ∷ rest) = ap length split ∙ length-append some.done (word ∷ rest) in
        absurd (full (omega (arith, some.count, long, few.slots, slots_are))
        (omega (arith, long, few.pending, few_more some.done (length (taken_now s.queue)) (talk_of u) (talk_of u') some.heard.heard)))
