-- What a call of a shared pipe leaves, between two exchanges of notes.
use Rattle.std.proofs.Common.{◌≡◌, ℕ, ◌+◌, ◌<◌, ◌≤◌, List, [], ◌∷◌, ◌++◌, length, get_or, Some, slice_get, ap, sym, ◌∙◌, subst, arith}
use Rattle.std.proofs.Math.Seq.{get_or-append_seam}
use Rattle.std.proofs.lemmas.List.{length-append}
use Rattle.std.proofs.lemmas.Option.{slice_get-get_or}
use mathlib.Core.List.{append_assoc}
use Rattle.vio_num.specs.declared.entry.Entry.{Entry}
use Rattle.vio_num.specs.Counts.{Rose}
use Rattle.vio_num.specs.Queue.{LawfulDrop}
use Rattle.crq_ring.specs.declared.shared.SharedPipe.{SharedPipe}
use Rattle.vio_num.specs.Words.{Begins}
use Rattle.crq_ring.specs.Ends.{end_sent, known_now, end_taken, heard_now}
use Rattle.crq_ring.specs.Port.{PortPlace, Puts, FindsFull, Takes, FindsNone}
use Rattle.crq_ring.specs.Ring.{EndPuts, EndFindsFull, KeepsSending, EndTakes, EndFindsNone, KeepsReceiving}
use Rattle.crq_ring.specs.Sessions.{of_session}
use Rattle.crq_ring.specs.SharedPipe.{state_of, TellsSender, TellsReceiver}
use Rattle.crq_ring.proofs.Fronts.{begins_on, begins_both, begins_less, begins_of}

-- an entry behind a list that is a front with it
there_at : (xs ys : List Entry) (entry : Entry) → Begins (xs ++ entry ∷ []) ys → slice_get ys (length xs) ≡ Some entry
there_at xs ys entry b = let whole : ys ≡ xs ++ entry ∷ b.0 = b.1 ∙ append_assoc xs (entry ∷ []) b.0 in
    let long : length ys ≡ length xs + length (entry ∷ b.0) = ap length whole ∙ length-append xs (entry ∷ b.0) in
    slice_get-get_or ys (length xs) entry (omega (arith, long)) ∙ ap Some (ap (λ l. get_or l (length xs) entry) whole ∙ get_or-append_seam xs entry b.0 entry)

-- a put between an exchange that tells the sender and one that tells the receiver
module _ (old told done new : SharedPipe) (a : TellsSender old told) (kept : KeepsSending told.send.now done.send.now) (same : done.recv.now ≡ told.recv.now) (b : TellsReceiver done new) where
  put_slots : told.ring.now.slots ≡ old.ring.now.slots
  put_slots = ap (λ (p : PortPlace). p.slots) a.place

  put_sessions : done.send.now.session ≡ old.recv.now.session
  put_sessions = kept.session ∙ (a.send.keeps.session ∙ old.together)

  sent_before : end_sent told.send.now ≡ end_sent old.send.now
  sent_before = λ i. of_session (a.send.keeps.session i) (a.send.sent i)

  sent_after : end_sent new.send.now ≡ end_sent done.send.now
  sent_after = ap (λ v. end_sent v) b.send

  -- the sender knows all that was taken
  known_all : length (known_now done.send.now) ≡ length (end_taken old.recv.now)
  known_all = let q : ℕ = done.send.now.session in
      let took : of_session q old.recv.now.taken ≡ end_taken old.recv.now = ap (λ k. of_session k old.recv.now.taken) put_sessions in
      let at_most : length (known_now done.send.now) ≤ length (of_session q new.recv.now.taken) = begins_less (known_now done.send.now) (of_session q new.recv.now.taken) (begins_of q done.send.now.known new.recv.now.taken b.known) in
      let taken : new.recv.now.taken ≡ old.recv.now.taken = b.recv.taken ∙ ap (λ v. v.taken) (same ∙ a.recv) in
      let at_least : length (of_session q old.recv.now.taken) ≤ length (known_now done.send.now) =
      begins_less (of_session q old.recv.now.taken) (known_now done.send.now) (begins_of q old.recv.now.taken done.send.now.known (begins_on old.recv.now.taken told.send.now.known done.send.now.known a.taken kept.knows.known)) in
      let e : length (of_session q old.recv.now.taken) ≡ length (end_taken old.recv.now) = ap length took in
      let f : length (of_session q new.recv.now.taken) ≡ length (of_session q old.recv.now.taken) = ap (λ l. length (of_session q l)) taken in
      omega (arith, at_most, at_least, e, f)

  pub puts_through : (number : ℕ) (entry : Entry) → EndPuts told.ring.now.slots told.send.now number entry done.send.now → Puts (state_of old) number entry (state_of new)
  puts_through number entry put = record {
    empty_slot = let l : length (end_sent told.send.now) < length (known_now done.send.now) + told.ring.now.slots = put.empty_slot in
        omega (arith, l, known_all, put_slots, ap length sent_before);
    number_is = put.number_is ∙ ap length sent_before;
    sent = sent_after ∙ (put.sent_now ∙ ap (λ l. l ++ entry ∷ []) sent_before);
  }

  pub finds_full_through : (number held : ℕ) → EndFindsFull told.ring.now.slots told.send.now number held done.send.now → FindsFull (state_of old) number held (state_of new)
  finds_full_through number held full = record {
    full_slot = let l : length (end_sent told.send.now) ≡ length (known_now done.send.now) + told.ring.now.slots = full.full_slot in
        omega (arith, l, known_all, put_slots, ap length sent_before);
    number_is = full.number_is ∙ ap length sent_before;
    lawful = subst (λ (z : List Entry × ℕ). LawfulDrop z.0 z.1 number held) (λ i. (sent_before i, put_slots i)) full.lawful;
    sent = sent_after ∙ ((λ i. of_session (kept.session i) (full.sent i)) ∙ sent_before);
    full = subst (λ (z : ℕ × ℕ). Rose z.0 z.1) (λ i. (a.send.full i, ap (λ v. v.full) (sym b.send) i)) full.full;
  }

-- a poll between an exchange that tells the receiver and one that tells the sender
module _ (old told done new : SharedPipe) (a : TellsReceiver old told) (kept : KeepsReceiving told.recv.now done.recv.now) (same : done.send.now ≡ told.send.now) (b : TellsSender done new) where
  poll_session : done.recv.now.session ≡ old.recv.now.session
  poll_session = kept.session ∙ a.recv.keeps.session

  taken_before : end_taken told.recv.now ≡ end_taken old.recv.now
  taken_before = λ i. of_session (a.recv.keeps.session i) (a.recv.taken i)

  taken_after : end_taken new.recv.now ≡ end_taken done.recv.now
  taken_after = ap (λ v. end_taken v) b.recv

  sent_same : new.send.now.sent ≡ old.send.now.sent
  sent_same = b.send.sent ∙ ap (λ v. v.sent) (same ∙ a.send)

  sent_session : new.send.now.session ≡ old.send.now.session
  sent_session = b.send.keeps.session ∙ ap (λ v. v.session) (same ∙ a.send)

  sent_still : end_sent new.send.now ≡ end_sent old.send.now
  sent_still = λ i. of_session (sent_session i) (sent_same i)

  -- what was taken is a front of what was put
  took_front : Begins (end_taken done.recv.now) (end_sent old.send.now)
  took_front = let q : ℕ = done.recv.now.session in let is : new.send.now.session ≡ q = sent_session ∙ (old.together ∙ sym poll_session) in
      subst (λ l. Begins (end_taken done.recv.now) l) sent_still
      (begins_on (end_taken done.recv.now) (known_now new.send.now) (end_sent new.send.now)
      (subst (λ k. Begins (end_taken done.recv.now) (of_session k new.send.now.known)) (sym is) (begins_of q done.recv.now.taken new.send.now.known b.taken))
      b.send.keeps.knows.front)

  pub takes_through : (number : ℕ) (entry : Entry) → EndTakes told.recv.now number entry done.recv.now → Takes (state_of old) number entry (state_of new)
  takes_through number entry took = let front : Begins (end_taken told.recv.now ++ entry ∷ []) (end_sent old.send.now) = subst (λ l. Begins l (end_sent old.send.now)) took.taken_now took_front in record {
    number_is = took.number_is ∙ ap length taken_before;
    there = ap (slice_get (end_sent old.send.now)) took.number_is ∙ there_at (end_taken told.recv.now) (end_sent old.send.now) entry front;
    taken = taken_after ∙ (took.taken_now ∙ ap (λ l. l ++ entry ∷ []) taken_before);
  }

  pub finds_none_through : (number : ℕ) → EndFindsNone told.recv.now number done.recv.now → FindsNone (state_of old) number (state_of new)
  finds_none_through number found = let still : end_taken done.recv.now ≡ end_taken old.recv.now = (λ i. of_session (kept.session i) (found.taken i)) ∙ taken_before in
      let q : ℕ = done.recv.now.session in let all : heard_now done.recv.now ≡ end_taken old.recv.now = found.all_taken ∙ taken_before in
      let put : Begins (end_sent old.send.now) (end_taken old.recv.now) =
      subst (λ (z : ℕ × List Entry). Begins (of_session z.0 old.send.now.sent) z.1) (λ i. ((poll_session ∙ sym old.together) i, all i))
      (begins_of q old.send.now.sent done.recv.now.heard (begins_on old.send.now.sent told.recv.now.heard done.recv.now.heard a.sent kept.knows.heard)) in record {
        number_is = found.number_is ∙ ap length taken_before;
        all_taken = begins_both (end_sent old.send.now) (end_taken old.recv.now) put (subst (λ l. Begins l (end_sent old.send.now)) still took_front);
        taken = taken_after ∙ still;
        empty = subst (λ (z : ℕ × ℕ). Rose z.0 z.1) (λ i. (a.recv.empty i, ap (λ v. v.empty) (sym b.recv) i)) found.empty;
      }
