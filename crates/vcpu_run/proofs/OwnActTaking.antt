-- What a client takes, whose server unit's session is over, or was: the first that it is to look at, and what that leaves at its ports.
use Rattle.std.proofs.Common.{◌≡◌, ◌∙◌, ◌⊎◌, inl, inr, ℕ, ◌+◌, ◌≤◌, ◌++◌, All, arith, length-drop, Bool, true, false, true≢false, IfSome, List, [], ◌∷◌, Option, None, append-nil, drop, length, refl, sym, ap, ap₂, subst}
use Rattle.std.proofs.lemmas.List.Elements.{All-head, All-nil, All-tail}
use Rattle.vio_num.specs.Entry.{is_srp_entry}
use Rattle.vio_num.specs.declared.entry.Entry.{Entry}
use Rattle.crq_ring.specs.Sessions.{of_session}
use Rattle.crq_ring.specs.declared.rows.PipeRow.{PipeRow}
use Rattle.crq_session.specs.Answered.{received_now, taken_now}
use Rattle.crq_session.specs.EndState.{EndPlace, EndState, OnlyTakes}
use Rattle.tce_window.specs.PortState.{OnlyReads}
use Rattle.block_server.specs.Closings.{is_event}
use Rattle.block_server.specs.Doings.{Doing}
use Rattle.block_server.specs.Talk.{to_come}
use Rattle.vscsi_client.specs.Ports.{Ports}
use Rattle.vscsi_client.specs.State.{ClientState}
use Rattle.vscsi_client.specs.Taking.{Fetches, IsNext, Judges, JudgesFirst, TakesAs, taken_by}
use Rattle.vscsi_client.specs.declared.answers.Taken.{Taken}
use Rattle.vscsi_client.specs.declared.outgoing.Outgoing.{Outgoing}
use Rattle.vcpu_run.specs.OwnActs.{IsSeenAt, IsSettled, SameHands}
use Rattle.vcpu_run.specs.OwnOver.{coming_to, held_in, stream_of}
use Rattle.vcpu_run.proofs.OwnActLeft.{Leaves}
use Rattle.vcpu_run.proofs.PlainStill.{reads_leave}
use Rattle.vcpu_run.proofs.PlainTaking.{poll_come, taken_more}

-- ---- what is to come

pub coming_is : (sent : List PipeRow) (own : EndState) → own.place.received ≡ sent → coming_to own sent ≡ to_come own
coming_is sent own received = ap (λ (rows : List PipeRow). drop (length (taken_now own)) (of_session own.last_session rows)) (sym received)

-- where no entry is held, what is kept stands before what is to come
pub stream_is : (s : ClientState) (coming : List Entry) → s.held ≡ None → stream_of s coming ≡ s.kept ++ coming
stream_is s coming held = ap (λ (h : Option Entry). s.kept ++ (held_in h ++ coming)) held

-- ---- what was taken

-- An entry was the first, and was taken as this: of what is kept, or else of the own queue, which is registered then.
pub record TakesSo (sent : List PipeRow) (coming : List Entry) (s s' : ClientState) (old new : Ports) (taken : Taken) : Type 0 where
  pub entry : Entry
  pub kept : List Entry
  pub next : List Entry
  pub stream : s.kept ++ coming ≡ entry ∷ (kept ++ next)
  pub from : (s.kept ≡ entry ∷ kept) ⊎ ((s.kept ≡ []) × (kept ≡ []) × (old.crq.registered ≡ true))
  pub come : new.crq.registered ≡ true → next ≡ coming_to new.crq sent
  pub took : length (taken_now new.crq) ≤ length (of_session new.crq.last_session sent)
  pub judged : Judges false s.outgoing entry old.own new.own taken
  pub client : s' ≡ taken_by entry taken (record s { kept = kept })

heads : (a b : Entry) (xs ys : List Entry) → a ∷ xs ≡ b ∷ ys → a ≡ b
heads a b xs ys e = cc (e)

tails : (a b : Entry) (xs ys : List Entry) → a ∷ xs ≡ b ∷ ys → xs ≡ ys
tails a b xs ys e = cc (e)

-- Of what is kept or to come an entry was the next.
record NextIs (sent : List PipeRow) (kept coming : List Entry) (old new : EndState) (entry : Entry) (rest : List Entry) : Type 0 where
  next : List Entry
  stream : kept ++ coming ≡ entry ∷ (rest ++ next)
  from : (kept ≡ entry ∷ rest) ⊎ ((kept ≡ []) × (rest ≡ []) × (old.registered ≡ true))
  come : new.registered ≡ true → next ≡ coming_to new sent
  took : length (taken_now new) ≤ length (of_session new.last_session sent)

-- no more was taken than there is
took_within : (a b : ℕ) (entry : Entry) (xs ys : List Entry) → drop a xs ≡ entry ∷ drop b ys → length ys ≡ length xs → b ≡ a + 1 → b ≤ length ys
took_within a b entry xs ys is long more = omega (arith, ap length is, length-drop a xs, length-drop b ys, long, more)

next_is : (sent : List PipeRow) (kept coming : List Entry) (old new : EndState) (entry : Entry) (rest : List Entry) → old.place.received ≡ sent
    → (old.registered ≡ true → coming ≡ coming_to old sent) → length (taken_now old) ≤ length (of_session old.last_session sent) → OnlyTakes false old new
    → IsNext kept false old entry rest new → NextIs sent kept coming old new entry rest
next_is sent [] coming old new entry rest received come took only next = record {
  next = to_come new;
  stream = come on ∙ coming_is sent old received ∙ is ∙ ap (λ (list : List Entry). entry ∷ (list ++ to_come new)) (sym next.0);
  from = inr (refl, next.0, on);
  come = λ still. sym (coming_is sent new got);
  took = subst (λ (n : ℕ). length (taken_now new) ≤ n) (ap (λ (rows : List PipeRow). length (of_session new.last_session rows)) got)
      (took_within (length (taken_now old)) (length (taken_now new)) entry (received_now old) (received_now new) is (ap length rows) one_more);
}
  where
    on : old.registered ≡ true
    on = sym next.1.ready.registered ∙ next.1.taken.registered

    got : new.place.received ≡ sent
    got = ap (λ (place : EndPlace). place.received) only.place ∙ received

    rows : received_now new ≡ received_now old
    rows = ap₂ (λ q (rows : List PipeRow). of_session q rows) only.last_session (ap (λ (place : EndPlace). place.received) only.place)

    is : to_come old ≡ entry ∷ to_come new
    is = poll_come old new entry next.1 only

    one_more : length (taken_now new) ≡ length (taken_now old) + 1
    one_more =
        ap₂ (λ (q : ℕ) (rows : List PipeRow). length (of_session q rows)) only.last_session
        (next.1.taken.taken ∙ ap₂ (λ (rows : List PipeRow) (q : ℕ). rows ++ record { session = q; entry = entry } ∷ []) next.1.ready.taken next.1.ready.last_session)
        ∙ taken_more old.last_session old.taken entry
next_is sent (first ∷ more) coming old new entry rest received come took only next = record {
  next = coming;
  stream = ap₂ (λ (e : Entry) (list : List Entry). e ∷ (list ++ coming)) (sym next.0) (sym next.1);
  from = inl (ap₂ (λ (e : Entry) (list : List Entry). e ∷ list) (sym next.0) (sym next.1));
  come = subst (λ (end : EndState). end.registered ≡ true → coming ≡ coming_to end sent) (sym next.2) come;
  took = subst (λ (end : EndState). length (taken_now end) ≤ length (of_session end.last_session sent)) (sym next.2) took;
}

pub takes_so : (sent : List PipeRow) (coming : List Entry) (s s' : ClientState) (old new : Ports) (taken : Taken) → old.crq_shared ≡ false → old.own_shared ≡ false
    → old.crq.place.received ≡ sent → (old.crq.registered ≡ true → coming ≡ coming_to old.crq sent)
    → length (taken_now old.crq) ≤ length (of_session old.crq.last_session sent) → OnlyTakes false old.crq new.crq → TakesAs s s' old new taken
    → TakesSo sent coming s s' old new taken
takes_so sent coming s s' old new taken alone apart received come took only takes = record {
  entry = entry;
  kept = rest;
  next = found.next;
  stream = found.stream;
  from = found.from;
  come = found.come;
  took = found.took;
  judged = subst (λ (list : List Outgoing). Judges false list entry old.own new.own taken) (ap (λ (s : ClientState). s.outgoing) fetched.client)
      (subst (λ (e : Entry). Judges false takes.kept.outgoing e old.own new.own taken) (heads judged.entry entry judged.rest rest kept_is) judged.judged);
  client = judged.client
      ∙ ap₂ (λ (e : Entry) (list : List Entry). taken_by e taken (record takes.kept { kept = list })) (heads judged.entry entry judged.rest rest kept_is) (tails judged.entry entry judged.rest rest kept_is)
      ∙ ap (λ (s : ClientState). taken_by entry taken (record s { kept = rest })) fetched.client;
}
  where
    fetched : Fetches false s takes.kept old.crq new.crq
    fetched = subst (λ b. Fetches b s takes.kept old.crq new.crq) alone takes.fetched

    judged : JudgesFirst false takes.kept s' old.own new.own taken
    judged = subst (λ b. JudgesFirst b takes.kept s' old.own new.own taken) apart takes.judged

    entry : Entry
    entry = fetched.entry

    rest : List Entry
    rest = fetched.rest

    found : NextIs sent s.kept coming old.crq new.crq entry rest
    found = next_is sent s.kept coming old.crq new.crq entry rest received come took only fetched.next

    kept_is : judged.entry ∷ judged.rest ≡ entry ∷ rest
    kept_is = sym judged.first ∙ ap (λ (s : ClientState). s.kept) fetched.client

-- ---- what that leaves at the ports

pub leaves_takes : (d : Doing) (old new : Ports) → IsSeenAt d old → OnlyTakes false old.crq new.crq → OnlyReads false old.own new.own → SameHands old new → Leaves old new []
leaves_takes d old new seen only reads hands = record {
  put = only.sent ∙ sym (append-nil old.crq.sent);
  reached = inl refl;
  session = only.counts.same_session refl;
  place = only.place;
  alone = hands.crq ∙ seen.alone;
  apart = hands.own ∙ seen.apart;
  usable = (reads_leave old.own new.own seen.usable reads).own;
  idle = λ on. only.kept ∙ seen.idle (sym only.registered ∙ on);
  events = subst (λ (kept : Option Entry). IfSome kept (λ event. is_event event ≡ true)) (sym only.kept) seen.events;
}

-- what is kept behind it are answers
pub rest_answers : (s : ClientState) (entry : Entry) (rest : List Entry) (registered : Bool) → IsSettled s → (s.kept ≡ entry ∷ rest) ⊎ ((s.kept ≡ []) × (rest ≡ []) × (registered ≡ true))
    → All (λ (entry : Entry). is_srp_entry entry ≡ true) rest
rest_answers s entry rest registered settled (inl is) =
    All-tail (λ (entry : Entry). is_srp_entry entry ≡ true) entry rest (subst (All (λ (entry : Entry). is_srp_entry entry ≡ true)) is settled.kept)
rest_answers s entry rest registered settled (inr empty) =
    subst (All (λ (entry : Entry). is_srp_entry entry ≡ true)) (sym empty.1) (All-nil (λ (entry : Entry). is_srp_entry entry ≡ true))

-- what is no answer was not kept: the queue is registered
pub from_queue : (s : ClientState) (entry : Entry) (rest : List Entry) (registered : Bool) → IsSettled s → is_srp_entry entry ≡ false
    → (s.kept ≡ entry ∷ rest) ⊎ ((s.kept ≡ []) × (rest ≡ []) × (registered ≡ true)) → (rest ≡ []) × (registered ≡ true)
from_queue s entry rest registered settled isnt (inl is) =
    absurd (true≢false (sym (All-head (λ (entry : Entry). is_srp_entry entry ≡ true) entry rest (subst (All (λ (entry : Entry). is_srp_entry entry ≡ true)) is settled.kept)) ∙ isnt))
from_queue s entry rest registered settled isnt (inr empty) = (empty.1, empty.2)
