-- What is done beside a client's lines, whose server unit's session is over, or was: the event that its queue keeps is put, or is not; and its
-- partition fails.
use Rattle.std.proofs.Common.{◌≡◌, ◌∙◌, ◌⊎◌, inl, inr, ℕ, ◌++◌, Bool, true, false, true≢false, IfSome, IsSome, List, [], ◌∷◌, Option, Some, None, append-nil, refl, sym, ap, ap₂, subst}
use Rattle.std.proofs.lemmas.List.Elements.{All-cons, All-nil}
use Rattle.vio_num.specs.Entry.{partner_failed}
use Rattle.vio_num.specs.declared.entry.Entry.{Entry}
use Rattle.crq_ring.specs.declared.rows.PipeRow.{PipeRow}
use Rattle.crq_session.specs.Answered.{Frees, LosesKept, Pushes, Puts as PutsEntry, PutsNone, StillKept}
use Rattle.crq_session.specs.EndState.{EndPlace, EndState, OnlyFrees, OnlyPushes, OnlyReserves}
use Rattle.tce_window.specs.PortState.{PortState}
use Rattle.block_server.specs.Closings.{is_event}
use Rattle.block_server.specs.Doings.{Doing, rows_to}
use Rattle.vscsi_client.specs.Ports.{Ports}
use Rattle.vscsi_client.specs.State.{ClientState}
use Rattle.vcpu_run.specs.Acts.{Acting}
use Rattle.vcpu_run.specs.ActsAt.{FailsOnce, FailsQueue, FindsQueueFree, PushesEvent}
use Rattle.vcpu_run.specs.OwnActs.{IsSeenAt, SameHands, StaysOver}
use Rattle.vcpu_run.specs.OwnOver.{IsOver, IsOwed, stream_of}
use Rattle.vcpu_run.specs.PlainTalk.{IsOwnWindow}
use Rattle.vcpu_run.proofs.OwnActFrees.{fails_over}
use Rattle.vcpu_run.proofs.OwnActLeft.{Leaves, NextOver, StaysTelling, stays_telling}
use Rattle.vcpu_run.proofs.OwnActLooks.{StaysTaken, come_still, still_telling, took_still}
use Rattle.vcpu_run.proofs.OwnActStill.{AreEvents, phase_off}

-- ---- the queue is not registered

-- events were put, or nothing was; and the partition may have failed
off_over : (granted : ℕ) (failed failed' : Bool) (d : Doing) (s : ClientState) (old new : Ports) (entries : List Entry) → IsSeenAt d old → (over : IsOver granted failed d s old.crq) → Leaves old new entries
    → new.own ≡ old.own → StaysTaken old.crq new.crq → old.crq.registered ≡ false → AreEvents entries → (failed ≡ true → failed' ≡ true) → StaysTelling granted failed' d s old new over.answers
off_over granted failed failed' d s old new entries seen over leaves window same off events still = stays_telling granted failed failed' d s s old new entries seen over leaves next
  where
    there : new.own ≡ d.client
    there = window ∙ sym seen.window

    next : NextOver granted failed' d s new entries
    next = record {
      answered = over.answered;
      lost = over.lost;
      answers = over.answers;
      rest = over.rest;
      come = λ on. over.come (sym same.registered ∙ on) ∙ come_still d.sent old.crq new.crq same;
      owed = subst (λ (w : PortState). IsOwed granted d.id w s (stream_of s over.rest) over.answered over.lost over.answers) (sym there) over.owed;
      away = λ is. over.away off;
      there = λ on. over.there (sym same.registered ∙ on);
      took = took_still d.sent old.crq new.crq same over.took;
      tabled = over.tabled;
      on = λ on. over.on (sym same.registered ∙ on);
      phase = phase_off granted failed failed' d s s old.crq new (stream_of s over.rest) entries over.answered over.lost refl there (same.registered ∙ off) events
          (λ on. absurd (true≢false (sym on ∙ off))) still over.phase;
    }

-- ---- the event that is kept

pushes_same : (old new : Ports) (room : EndState) → OnlyReserves old.crq room → OnlyPushes false room new.crq → StaysTaken old.crq new.crq
pushes_same old new room ready rest = record {
  registered = rest.registered ∙ ready.registered;
  session = rest.last_session ∙ ready.last_session;
  taken = rest.taken ∙ ready.taken;
}

pushes_leave : (d : Doing) (old new : Ports) (room : EndState) (entries : List Entry) → IsSeenAt d old → OnlyReserves old.crq room → OnlyPushes false room new.crq → new.own ≡ old.own → SameHands old new
    → new.crq.sent ≡ room.sent ++ rows_to new.crq.counts.partner_session entries → (entries ≡ []) ⊎ (room.place.partner_registered ≡ true)
    → (new.crq.kept ≡ None) ⊎ (new.crq.kept ≡ room.kept) → Leaves old new entries
pushes_leave d old new room entries seen ready rest own hands put reached kept = record {
  put = put ∙ ap₂ (λ (rows : List PipeRow) (q : ℕ). rows ++ rows_to q entries) ready.sent session;
  reached = by reached;
  session = session;
  place = rest.place ∙ ready.place;
  alone = hands.crq ∙ seen.alone;
  apart = hands.own ∙ seen.apart;
  usable = subst IsOwnWindow (sym own) seen.usable;
  idle = λ on. idle on kept;
  events = events kept;
}
  where
    session : new.crq.counts.partner_session ≡ old.crq.counts.partner_session
    session = rest.counts.same_session refl ∙ ap (λ counts. counts.partner_session) ready.counts

    by : (entries ≡ []) ⊎ (room.place.partner_registered ≡ true) → (entries ≡ []) ⊎ (old.crq.place.partner_registered ≡ true)
    by (inl none) = inl none
    by (inr there) = inr (ap (λ (place : EndPlace). place.partner_registered) (sym ready.place) ∙ there)

    idle : new.crq.registered ≡ true → (new.crq.kept ≡ None) ⊎ (new.crq.kept ≡ room.kept) → new.crq.kept ≡ None
    idle on (inl none) = none
    idle on (inr same) = same ∙ ready.kept ∙ seen.idle (sym (rest.registered ∙ ready.registered) ∙ on)

    events : (new.crq.kept ≡ None) ⊎ (new.crq.kept ≡ room.kept) → IfSome new.crq.kept (λ event. is_event event ≡ true)
    events (inl none) = subst (λ (k : Option Entry). IfSome k (λ event. is_event event ≡ true)) (sym none) tt
    events (inr same) = subst (λ (k : Option Entry). IfSome k (λ event. is_event event ≡ true)) (sym (same ∙ ready.kept)) seen.events

-- it was put: the queue is not registered
put_over : (granted : ℕ) (failed : Bool) (d : Doing) (s : ClientState) (old new : Ports) (room : EndState) (kept : Option Entry) → room.kept ≡ kept → IsSeenAt d old → (over : IsOver granted failed d s old.crq)
    → OnlyReserves old.crq room → OnlyPushes false room new.crq → new.own ≡ old.own → SameHands old new → new.crq.kept ≡ None → IsSome kept → IfSome kept (λ event. PutsEntry false room event new.crq)
    → StaysTelling granted failed d s old new over.answers
put_over granted failed d s old new room None is seen over ready rest own hands none some puts = absurd (cc (some))
put_over granted failed d s old new room (Some event) is seen over ready rest own hands none some puts = by old.crq.registered refl
  where
    kept : old.crq.kept ≡ Some event
    kept = sym ready.kept ∙ is

    its : is_event event ≡ true
    its = subst (λ (k : Option Entry). IfSome k (λ event. is_event event ≡ true)) kept seen.events

    by : (b : Bool) → old.crq.registered ≡ b → StaysTelling granted failed d s old new over.answers
    by true on = absurd (cc (seen.idle on, kept))
    by false off =
        off_over granted failed failed d s old new (event ∷ []) seen over (pushes_leave d old new room (event ∷ []) seen ready rest own hands puts.sent (inr (puts.partner refl)) (inl none)) own
        (pushes_same old new room ready rest) off (All-cons (λ (entry : Entry). is_event entry ≡ true) event [] its (All-nil (λ (entry : Entry). is_event entry ≡ true))) (λ is. is)

-- it was not
lost_none : (room new : EndState) (kept : Option Entry) → LosesKept false kept room new → new.sent ≡ room.sent
lost_none room new None none = none.sent
lost_none room new (Some event) loses = loses.none.sent

unput_still : (granted : ℕ) (failed : Bool) (d : Doing) (s : ClientState) (old new : Ports) (room : EndState) → IsSeenAt d old → (over : IsOver granted failed d s old.crq)
    → OnlyReserves old.crq room → OnlyPushes false room new.crq → new.own ≡ old.own → SameHands old new → new.crq.sent ≡ room.sent → (new.crq.kept ≡ None) ⊎ (new.crq.kept ≡ room.kept)
    → StaysTelling granted failed d s old new over.answers
unput_still granted failed d s old new room seen over ready rest own hands sent kept =
    still_telling granted failed d s old new seen over
    (pushes_leave d old new room [] seen ready rest own hands (sent ∙ sym (append-nil room.sent)) (inl refl) kept) own (pushes_same old new room ready rest)

-- what answers the client is to look at are the same
pub pushes_telling : (granted : ℕ) (failed : Bool) (d : Doing) (old new : Acting) → IsSeenAt d old.ports → (over : IsOver granted failed d old.client old.ports.crq) → SameHands old.ports new.ports
    → PushesEvent old new → StaysTelling granted failed d new.client old.ports new.ports over.answers
pushes_telling granted failed d old new seen over hands pushes =
    subst (λ (s : ClientState). StaysTelling granted failed d s old.ports new.ports over.answers) (sym pushes.client.client) (by pushes.pushes)
  where
    rest : OnlyPushes false pushes.room new.ports.crq
    rest = subst (λ b. OnlyPushes b pushes.room new.ports.crq) seen.alone pushes.rest

    by : PutsNone old.ports.crq_shared pushes.room new.ports.crq
        ⊎ (Pushes old.ports.crq_shared pushes.room new.ports.crq ⊎ ((number : ℕ) × (held : ℕ) × StillKept old.ports.crq_shared pushes.room new.ports.crq number held))
        → StaysTelling granted failed d old.client old.ports new.ports over.answers
    by (inl none) =
        unput_still granted failed d old.client old.ports new.ports pushes.room seen over pushes.ready rest pushes.own hands
        (lost_none pushes.room new.ports.crq pushes.room.kept (subst (λ b. LosesKept b pushes.room.kept pushes.room new.ports.crq) seen.alone none.loses)) (inl none.kept)
    by (inr (inl put)) =
        put_over granted failed d old.client old.ports new.ports pushes.room pushes.room.kept refl seen over pushes.ready rest pushes.own hands put.kept put.some
        (subst (λ b. IfSome pushes.room.kept (λ event. PutsEntry b pushes.room event new.ports.crq)) seen.alone put.puts)
    by (inr (inr (number, held, still))) =
        unput_still granted failed d old.client old.ports new.ports pushes.room seen over pushes.ready rest pushes.own hands still.full.sent (inr still.kept)

-- ---- the partition fails

-- the queue was not registered: only room was made
found_free : (granted : ℕ) (failed : Bool) (d : Doing) (old new : Acting) → IsSeenAt d old.ports → IsOver granted failed d old.client old.ports.crq → SameHands old.ports new.ports
    → FindsQueueFree old new → StaysOver granted true d new.client old.ports new.ports
found_free granted failed d old new seen over hands free =
    subst (λ (s : ClientState). StaysOver granted true d s old.ports new.ports) (sym free.client.client)
    (off_over granted failed true d old.client old.ports new.ports [] seen over (record {
      put = free.ready.sent ∙ sym (append-nil old.ports.crq.sent);
      reached = inl refl;
      session = ap (λ counts. counts.partner_session) free.ready.counts;
      place = free.ready.place;
      alone = hands.crq ∙ seen.alone;
      apart = hands.own ∙ seen.apart;
      usable = subst IsOwnWindow (sym free.own) seen.usable;
      idle = λ on. absurd (true≢false (sym on ∙ free.unregistered));
      events = subst (λ (k : Option Entry). IfSome k (λ event. is_event event ≡ true)) (sym free.ready.kept) seen.events;
    }) free.own (record { registered = free.ready.registered; session = free.ready.last_session; taken = free.ready.taken }) (sym free.ready.registered ∙ free.unregistered)
    (All-nil (λ (entry : Entry). is_event entry ≡ true)) (λ is. refl)).0

failed_queue : (granted : ℕ) (failed : Bool) (d : Doing) (old new : Acting) → IsSeenAt d old.ports → IsOver granted failed d old.client old.ports.crq → SameHands old.ports new.ports
    → FailsQueue old new → StaysOver granted true d new.client old.ports new.ports
failed_queue granted failed d old new seen over hands fails = fails_over granted failed d old.client new.client old.ports new.ports (record {
  seen = seen;
  over = over;
  room = fails.room;
  ready = fails.ready;
  frees = subst (λ b. Frees b fails.room partner_failed new.ports.crq) seen.alone fails.tells;
  rest = subst (λ b. OnlyFrees b fails.room new.ports.crq) seen.alone fails.rest;
  own = fails.own;
  client = fails.client;
  hands = hands;
})

pub failed_over : (granted : ℕ) (failed : Bool) (d : Doing) (old new : Acting) → IsSeenAt d old.ports → IsOver granted failed d old.client old.ports.crq → SameHands old.ports new.ports
    → FailsOnce old new → StaysOver granted true d new.client old.ports new.ports
failed_over granted failed d old new seen over hands (inl fails) = failed_queue granted failed d old new seen over hands fails
failed_over granted failed d old new seen over hands (inr (inl free)) = found_free granted failed d old new seen over hands free
failed_over granted failed d old new seen over hands (inr (inr used)) = absurd (true≢false (sym used.used.shared_end ∙ seen.alone))
