-- What the calls leave of the ends' values, from what their steps tell.
use Rattle.std.proofs.Common.{◌≡◌, ℕ, ◌+◌, ◌<◌, ◌≤◌, ◌^◌, List, [], ◌∷◌, ◌++◌, length, Some, slice_get, sym, refl, ◌∙◌, ap, subst, arith}
use Rattle.std.proofs.lemmas.Option.{slice_get-get_or}
use Rattle.atomic_table.specs.Seated.{TableId}
use Rattle.vio_num.specs.declared.entry.Entry.{Entry}
use Rattle.vio_num.specs.Counts.{Rose}
use Rattle.vio_num.specs.Queue.{LawfulDrop}
use Rattle.crq_ring.specs.declared.view.RingView.{RingView}
use Rattle.crq_ring.specs.Control.{IsEnded}
use Rattle.vio_num.specs.Words.{Begins, WordRead, ReadsWord}
use Rattle.crq_ring.specs.Ends.{SendValue, RecvValue, end_sent, known_now, end_taken, heard_now}
use Rattle.crq_ring.specs.Ring.{EndPuts, EndFindsFull, KnowsTaken, KeepsSending, EndTakes, EndFindsNone, KnowsPut, KeepsReceiving, Learns, Knows}
use Rattle.crq_ring.specs.RingCuts.{told_by}
use Rattle.crq_ring.specs.RingSteps.{Seated, own_now, other_now, Keeps, KnowsEnded, Reads, Heard, Probed, Looked}
use Rattle.crq_ring.specs.Sessions.{of_session, recorded}
use Rattle.crq_ring.specs.Window.{entry_of, entry_at, IsFull, IsVacant}
use Rattle.crq_ring.proofs.Fronts.{begins_less, begins_of, begins_on, begins_either}
use Rattle.crq_ring.proofs.RingPasses.{PutSteps, PollSteps}
use Rattle.crq_ring.proofs.RingRows.{lapped}

-- the words that a seat read
abbrev pub last_of : Seated → WordRead
last_of m = record { count = m.0.reads; word = m.0.word }

-- The value of an end shows what its seat knows.
pub record SendShows (v : SendValue) (m : Seated) : Type 0 where
  pub session : v.session ≡ m.0.session
  pub inside : v.inside ≡ m.0.inside
  pub sent : v.sent ≡ m.0.own
  pub known : v.known ≡ m.0.other
  pub last : v.last ≡ last_of m

pub record RecvShows (v : RecvValue) (m : Seated) : Type 0 where
  pub session : v.session ≡ m.0.session
  pub is_open : v.is_open ≡ m.0.is_open
  pub taken : v.taken ≡ m.0.own
  pub heard : v.heard ≡ m.0.other
  pub last : v.last ≡ last_of m

pub reads_word : (a b : WordRead) (m m' : Seated) (word : ℕ) → a ≡ last_of m → b ≡ last_of m' → Reads m word m' → ReadsWord a b word
reads_word a b m m' word x y r = record {
  read = subst (λ (z : WordRead × WordRead). z.0.count < z.1.count) (λ i. (sym x i, sym y i)) (omega (arith, r.count));
  word_is = ap (λ (z : WordRead). z.word) y ∙ r.word_is;
}

module _ (v : SendValue) (m : Seated) (s : SendShows v m) where
  pub sent_is : end_sent v ≡ own_now m
  sent_is = λ i. of_session (s.session i) (s.sent i)

  pub known_is : known_now v ≡ other_now m
  known_is = λ i. of_session (s.session i) (s.known i)

module _ (v : RecvValue) (m : Seated) (s : RecvShows v m) where
  pub taken_is : end_taken v ≡ own_now m
  taken_is = λ i. of_session (s.session i) (s.taken i)

  pub heard_is : heard_now v ≡ other_now m
  heard_is = λ i. of_session (s.session i) (s.heard i)

module _ (old new : SendValue) (m m' : Seated) (was : SendShows old m) (is : SendShows new m') where
  pub knows_taken : new.ring ≡ old.ring → Begins m.0.other m'.0.other → Begins (other_now m') (own_now m') → KnowsTaken old new
  knows_taken ring more front = record {
    ring = ring;
    known = subst (λ (z : List _ × List _). Begins z.0 z.1) (λ i. (sym was.known i, sym is.known i)) more;
    front = subst (λ (z : List Entry × List Entry). Begins z.0 z.1) (λ i. (sym (known_is new m' is) i, sym (sent_is new m' is) i)) front;
  }

  pub keeps_sending : new.ring ≡ old.ring → old.full ≤ new.full → m.0.reads ≤ m'.0.reads → Keeps m m' → Begins m.0.other m'.0.other → Begins (other_now m') (own_now m') → KeepsSending old new
  keeps_sending ring full counted g more front = record {
    knows = knows_taken ring more front;
    session = is.session ∙ (g.session ∙ sym was.session);
    inside = is.inside ∙ (g.inside ∙ sym was.inside);
    full = full;
    reads = subst (λ (z : WordRead × WordRead). z.0.count ≤ z.1.count) (λ i. (sym was.last i, sym is.last i)) counted;
  }

  pub found_full : (n number held : ℕ) → Probed m held m' → IsFull held → m.0.slots ≡ n → 0 < n → number ≡ length (own_now m) → new.sent ≡ old.sent
      → new.drops ≡ recorded old.drops (record { session = old.session; number = number; held = held }) → Rose old.full new.full → EndFindsFull n old number held new
  found_full n number held told full slots some last same drops rose = let xs : List Entry = own_now m in
      let room : length xs ≡ length (other_now m') + m.0.slots = told.full full in let slots_are : m.0.slots ≡ n = slots in
      let a : length (end_sent old) ≡ length xs = ap length (sent_is old m was) in let d : length (known_now new) ≡ length (other_now m') = ap length (known_is new m' is) in
      let knew : length (known_now old) ≤ length (known_now new) = begins_less (known_now old) (known_now new) (known_more told) in record {
        full_slot = omega arith;
        none_known = omega arith;
        number_is = omega arith;
        lawful = subst (λ (z : List Entry × ℕ). LawfulDrop z.0 z.1 number held) (λ i. (sym (sent_is old m was) i, slots i)) (lapped xs m.0.slots (length (other_now m')) number held (subst (λ z. 0 < z) (sym slots) some) last room (told.held full));
        sent = same;
        drops = drops;
        full = rose;
        read = reads_word old.last new.last m m' held was.last is.last told.reads;
      }
    where
      known_more : Probed m held m' → Begins (known_now old) (known_now new)
      known_more told = subst (λ (z : List Entry × List Entry). Begins z.0 z.1) (λ i. (sym (known_is old m was) i, (ap (λ q. of_session q m'.0.other) (sym told.keeps.session) ∙ sym (known_is new m' is)) i))
          (begins_of m.0.session m.0.other m'.0.other told.other)

  pub put_done : (n number : ℕ) (entry : Entry) → PutSteps n m entry m' → number ≡ length (own_now m) → new.drops ≡ old.drops → new.full ≡ old.full → EndPuts n old number entry new
  put_done n number entry done last drops full = record {
    empty_slot = let a : length (end_sent old) ≡ length (own_now m) = ap length (sent_is old m was) in let d : length (known_now new) ≡ length (other_now m') = ap length (known_is new m' is) in
        let l : length (own_now m) < length (other_now m') + n = done.empty_slot in omega arith;
    number_is = last ∙ ap length (sym (sent_is old m was));
    sent = is.sent ∙ (done.own ∙ (λ i. sym was.sent i ++ record { session = sym was.session i; entry = entry } ∷ []));
    sent_now = sent_is new m' is ∙ (done.pushed ∙ ap (λ l. l ++ entry ∷ []) (sym (sent_is old m was)));
    drops = drops;
    full = full;
  }

module _ (old new : RecvValue) (m m' : Seated) (was : RecvShows old m) (is : RecvShows new m') where
  pub knows_put : new.ring ≡ old.ring → old.empty ≤ new.empty → Begins m.0.other m'.0.other → Begins (own_now m') (other_now m') → KnowsEnded m m' → KnowsPut old new
  knows_put ring empty more front ended = record {
    ring = ring;
    heard = subst (λ (z : List _ × List _). Begins z.0 z.1) (λ i. (sym was.heard i, sym is.heard i)) more;
    front = subst (λ (z : List Entry × List Entry). Begins z.0 z.1) (λ i. (sym (taken_is new m' is) i, sym (heard_is new m' is) i)) front;
    ended = λ q over. ap (of_session q) is.heard ∙ (ended q (subst (λ (z : ℕ × _). IsEnded z.0 z.1 q) (λ i. (was.session i, was.is_open i)) over) ∙ ap (of_session q) (sym was.heard));
    empty = empty;
  }

  pub keeps_receiving : new.ring ≡ old.ring → old.empty ≤ new.empty → new.renewals ≡ old.renewals → Keeps m m' → Begins m.0.other m'.0.other → Begins (own_now m') (other_now m') → KnowsEnded m m' → KeepsReceiving old new
  keeps_receiving ring empty renewals g more front ended = record {
    knows = knows_put ring empty more front ended;
    session = is.session ∙ (g.session ∙ sym was.session);
    is_open = is.is_open ∙ (g.is_open ∙ sym was.is_open);
    renewals = renewals;
  }

  pub taken_next : (number : ℕ) (entry : Entry) → PollSteps m entry m' → number ≡ length (own_now m) → new.empty ≡ old.empty → EndTakes old number entry new
  taken_next number entry done last empty = let xs : List Entry = own_now m in let l : number < length (other_now m') = (let more : length xs < length (other_now m') = done.more in omega arith) in record {
    number_is = last ∙ ap length (sym (taken_is old m was));
    there = ap (λ l. slice_get l number) (heard_is new m' is) ∙ (slice_get-get_or (other_now m') number (entry_of 0 0) l ∙ ap Some (ap (λ k. entry_at (other_now m') k) last ∙ done.there));
    taken = is.taken ∙ (done.own ∙ (λ i. sym was.taken i ++ record { session = sym was.session i; entry = entry } ∷ []));
    taken_now = taken_is new m' is ∙ (done.pushed ∙ ap (λ l. l ++ entry ∷ []) (sym (taken_is old m was)));
    empty = empty;
  }

  pub found_none : (number high : ℕ) → Looked m high m' → IsVacant high → number ≡ length (own_now m) → new.taken ≡ old.taken → Rose old.empty new.empty → EndFindsNone old number new
  found_none number high told vacant last same rose = let all : heard_now new ≡ end_taken old = heard_is new m' is ∙ (told.vacant vacant ∙ sym (taken_is old m was)) in record {
    number_is = last ∙ ap length (sym (taken_is old m was));
    all_taken = all;
    none_heard = let less : length (heard_now old) ≤ length (heard_now new) = begins_less (heard_now old) (heard_now new) heard_more in let e : length (heard_now new) ≡ length (end_taken old) = ap length all in
        let f : number ≡ length (end_taken old) = last ∙ ap length (sym (taken_is old m was)) in omega arith;
    taken = same;
    empty = rose;
    shows = subst (λ z. z < 2 ^ 56) (sym (ap (λ (z : WordRead). z.word) is.last ∙ told.reads.word_is)) vacant;
    read = let r = reads_word old.last new.last m m' high was.last is.last told.reads in record { read = r.read; word_is = refl };
  }
    where
      heard_more : Begins (heard_now old) (heard_now new)
      heard_more = subst (λ (z : List Entry × List Entry). Begins z.0 z.1) (λ i. (sym (heard_is old m was) i, (ap (λ q. of_session q m'.0.other) (sym told.keeps.session) ∙ sym (heard_is new m' is)) i))
          (begins_of m.0.session m.0.other m'.0.other told.other)

-- what an end knows after it was handed a note
pub told : (m m' : Seated) (v note : RingView) → m.0 ≡ told_by v note → Heard m m' → Begins note.own m'.0.other × Begins note.other m'.0.own
told m m' v note is h = (
  subst (λ (u : RingView). Begins u.told_other m'.0.other) is h.told_other,
  subst (λ l. Begins note.other l) (sym h.own) (subst (λ (u : RingView). Begins u.told_own m.0.own) is h.told_own),
)

-- what it is then that the receiver learnt, and that the sender knows
pub learnt_front : (new : RecvValue) (m : Seated) (is : RecvShows new m) (note : RingView) → Begins note.own m.0.other → Begins note.other m.0.own → Begins (own_now m) (other_now m)
    → (old : RecvValue) (ring : TableId) → Learns old (record { ring = ring; sent = note.own; known = note.other }) new
learnt_front new m is note sent known front old ring = let mine : Begins (of_session new.session note.own) (heard_now new) = subst (λ l. Begins (of_session new.session note.own) (of_session new.session l)) (sym is.heard) (begins_of new.session note.own m.0.other sent) in record {
  sent = subst (λ l. Begins note.own l) (sym is.heard) sent;
  agrees = begins_either (of_session new.session note.own) (end_taken new) (heard_now new) mine (subst (λ (z : List Entry × List Entry). Begins z.0 z.1) (λ i. (sym (taken_is new m is) i, sym (heard_is new m is) i)) front);
  sent_length = begins_less (of_session new.session note.own) (heard_now new) mine;
  known = subst (λ l. Begins note.other l) (sym is.taken) known;
}

pub known_room : (new : SendValue) (m : Seated) (is : SendShows new m) (note : RingView) → Begins note.own m.0.other → Begins note.other m.0.own → Begins (other_now m) (own_now m)
    → (old : SendValue) (ring : TableId) → Knows old (record { ring = ring; taken = note.own; heard = note.other }) new
known_room new m is note taken heard front old ring = let mine : Begins (of_session new.session note.own) (known_now new) = subst (λ l. Begins (of_session new.session note.own) (of_session new.session l)) (sym is.known) (begins_of new.session note.own m.0.other taken) in record {
  taken = subst (λ l. Begins note.own l) (sym is.known) taken;
  front = begins_on (of_session new.session note.own) (known_now new) (end_sent new) mine (subst (λ (z : List Entry × List Entry). Begins z.0 z.1) (λ i. (sym (known_is new m is) i, sym (sent_is new m is) i)) front);
  taken_length = begins_less (of_session new.session note.own) (known_now new) mine;
  heard = subst (λ l. Begins note.other l) (sym is.sent) heard;
}
