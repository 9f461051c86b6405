-- What the parts of a turn leave of the answers that a unit owes.
use Rattle.std.proofs.Common.{◌≡◌, ◌≢◌, ◌⊎◌, inl, inr, ◌+◌, ◌++◌, ◌≤◌, ℕ, zero, suc, Bool, true, false, Contains, List, [], ◌∷◌, Some, None, length, slice_get, slice_set, refl, sym, ◌∙◌, ap, subst, arith}
use Rattle.std.proofs.lemmas.List.{append_assoc, length-append}
use Rattle.std.proofs.lemmas.List.Elements.{Contains-append_left, Contains-push}
use Rattle.vio_num.specs.declared.history.Grant.{Grant}
use Rattle.vio_num.specs.declared.history.Grant.TheVariants.{Granted, Lapsed}
use Rattle.vio_num.specs.declared.history.Lapse.{Lapse}
use Rattle.vio_num.specs.declared.history.Served.{Served}
use Rattle.vio_num.specs.declared.names.UnitId.{UnitId}
use Rattle.vio_num.specs.declared.entry.Entry.{Entry as QueueEntry}
use Rattle.vio_num.specs.Entry.{first_byte}
use Rattle.crq_ring.specs.Sessions.{of_session}
use Rattle.crq_ring.proofs.SessionLaws.{of_session-push}
use Rattle.crq_session.specs.EndState.{EndPlace, EndState, OnlyTakes}
use Rattle.crq_session.specs.Answered.{Takes, received_now, taken_now}
use Rattle.block_server.specs.Judged.{is_logout}
use Rattle.block_server.specs.Makers.{same_unit}
use Rattle.block_server.specs.Owed.{AreCutOff, HasAnswers, IsAwaited, IsCutOff, IsEventAhead, IsEventKept, IsLossAhead, Owing, RowState, SeesAnswers, row_state, row_states, row_in}

-- ROWS

pub some_same : {X : Type 0} → (x y : X) → Some x ≡ Some y → x ≡ y
some_same x y same = cc (same)

pub none_some : {X : Type 0} → (x : X) → None ≡ Some x → ⊥
none_some x same = absurd (cc (same))

-- the row of a state
pub got_row : (rows : List Served) (at : ℕ) (state : RowState) → slice_get (row_states rows) at ≡ Some state → (row : Served) × ((slice_get rows at ≡ Some row) × (row_state row ≡ state))
got_row [] at state there = absurd (none_some state there)
got_row (row ∷ rows) zero state there = (row, (refl, some_same (row_state row) state there))
got_row (row ∷ rows) (suc at) state there = got_row rows at state there

pub state_there : (rows : List Served) (at : ℕ) (row : Served) → slice_get rows at ≡ Some row → slice_get (row_states rows) at ≡ Some (row_state row)
state_there [] at row there = absurd (none_some row there)
state_there (first ∷ rows) zero row there = ap (λ (r : Served). Some (row_state r)) (some_same first row there)
state_there (first ∷ rows) (suc at) row there = state_there rows at row there

-- A row in the place of one of the same state.
pub states_set : (rows : List Served) (i : ℕ) (row row' : Served) → slice_get rows i ≡ Some row → row_state row' ≡ row_state row → row_states (slice_set rows i row') ≡ row_states rows
states_set [] i row row' there same = refl
states_set (first ∷ rows) zero row row' there same =
    ap (λ k. k ∷ row_states rows) (same ∙ ap (λ (r : Served). row_state r) (sym (some_same first row there)))
states_set (first ∷ rows) (suc i) row row' there same = ap (λ states. row_state first ∷ states) (states_set rows i row row' there same)

-- what stands in a list in which one row was put in the place of another
pub set_cases : (rows : List Served) (i at : ℕ) (new row : Served) → slice_get (slice_set rows i new) at ≡ Some row → (row ≡ new) ⊎ ((at ≢ i) × (slice_get rows at ≡ Some row))
set_cases [] i at new row there = absurd (none_some row there)
set_cases (first ∷ rows) zero zero new row there = inl (sym (some_same new row there))
set_cases (first ∷ rows) zero (suc at) new row there = inr (λ same. absurd (omega (arith, same)), there)
set_cases (first ∷ rows) (suc i) zero new row there = inr (λ same. absurd (omega (arith, same)), there)
set_cases (first ∷ rows) (suc i) (suc at) new row there = by (set_cases rows i at new row there)
  where
    by : (row ≡ new) ⊎ ((at ≢ i) × (slice_get rows at ≡ Some row)) → (row ≡ new) ⊎ ((suc at ≢ suc i) × (slice_get rows at ≡ Some row))
    by (inl is) = inl is
    by (inr other) = inr (λ same. other.0 (omega (arith, same)), other.1)

-- what stands in a list with one state more
pub push_cases : (states : List RowState) (new : RowState) (at : ℕ) (row : RowState) → slice_get (states ++ new ∷ []) at ≡ Some row → (slice_get states at ≡ Some row) ⊎ ((at ≡ length states) × (row ≡ new))
push_cases [] new zero row there = inr (refl, sym (some_same new row there))
push_cases [] new (suc at) row there = absurd (none_some row there)
push_cases (first ∷ states) new zero row there = inl there
push_cases (first ∷ states) new (suc at) row there = by (push_cases states new at row there)
  where
    by : (slice_get states at ≡ Some row) ⊎ ((at ≡ length states) × (row ≡ new)) → (slice_get states at ≡ Some row) ⊎ ((suc at ≡ suc (length states)) × (row ≡ new))
    by (inl is) = inl is
    by (inr last) = inr (ap suc last.0, last.1)

pub push_last : (states : List RowState) (new : RowState) → slice_get (states ++ new ∷ []) (length states) ≡ Some new
push_last [] new = refl
push_last (first ∷ states) new = push_last states new

-- LINES

pub cut_more : (id : UnitId) (grants more : List Grant) (session login : ℕ) → IsCutOff id grants session login → IsCutOff id (grants ++ more) session login
cut_more id grants more session login cut = record {
  before = cut.before;
  after = cut.after ++ more;
  parts = ap (λ (xs : List Grant). xs ++ more) cut.parts ∙ append_assoc cut.before cut.after more;
  number = cut.number;
  credits = cut.credits;
  granted = cut.granted;
  of = cut.of;
  cause = cut.cause;
  outstanding = cut.outstanding;
  limit = cut.limit;
  ended = Contains-append_left cut.after more (Lapsed id session cut.of cut.cause cut.outstanding cut.limit) cut.ended;
  other = cut.other;
}

-- A line says that the session ended: what is awaited is cut off.
cut_now : (id : UnitId) (grants : List Grant) (session of login number credits : ℕ) (cause : Lapse) (outstanding limit : ℕ) → is_logout cause ≡ false
    → Contains grants (Granted id session login number credits) → IsCutOff id (grants ++ Lapsed id session of cause outstanding limit ∷ []) session login
cut_now id grants session of login number credits cause outstanding limit other granted = record {
  before = grants;
  after = Lapsed id session of cause outstanding limit ∷ [];
  parts = refl;
  number = number;
  credits = credits;
  granted = granted;
  of = of;
  cause = cause;
  outstanding = outstanding;
  limit = limit;
  ended = Contains-push [] (Lapsed id session of cause outstanding limit);
  other = other;
}

length_push : {X : Type 0} → (xs : List X) (x : X) → length (xs ++ x ∷ []) ≡ length xs + 1
length_push xs x = length-append xs (x ∷ [])

-- STEPS

awaited_more : (mid new : Owing) (at : ℕ) (row : RowState) (more : List Grant) → new.id ≡ mid.id → new.queue.last_session ≡ mid.queue.last_session → new.ended ≡ mid.ended
    → new.grants ≡ mid.grants ++ more → (is : IsAwaited mid at row) → (row_in new.stage ≡ Some at) ⊎ IsLossAhead new.queue → IsAwaited new at row
awaited_more mid new at row more id session ended grants is why = record {
  number = is.number;
  credits = is.credits;
  granted = subst (λ (z : UnitId × List Grant). Contains z.1 (Granted z.0 row.session row.login is.number is.credits)) (λ i. (sym id i, sym grants i))
      (Contains-append_left mid.grants more (Granted mid.id row.session row.login is.number is.credits) is.granted);
  session = is.session ∙ sym session;
  going = ended ∙ is.going;
  why = why;
}

-- A line says that the session lost its partner, or ended for a cause.
pub cut_all : (owing : Owing) (session of : ℕ) (cause : Lapse) (outstanding limit : ℕ) (rows : List RowState) (grants : List Grant) → session ≡ owing.queue.last_session → is_logout cause ≡ false
    → rows ≡ owing.rows → grants ≡ owing.grants ++ Lapsed owing.id session of cause outstanding limit ∷ [] → HasAnswers owing → AreCutOff owing.id rows grants
cut_all owing session of cause outstanding limit rows grants now other same added has = λ at row there own none.
    subst (λ (all : List Grant). IsCutOff owing.id all row.session row.login) (sym added) (by row (has.each at row (ap (λ (xs : List RowState). slice_get xs at) (sym same) ∙ there) own none))
  where
    by : {at : ℕ} → (row : RowState) → IsCutOff owing.id owing.grants row.session row.login ⊎ IsAwaited owing at row
        → IsCutOff owing.id (owing.grants ++ Lapsed owing.id session of cause outstanding limit ∷ []) row.session row.login
    by row (inl cut) = cut_more owing.id owing.grants (Lapsed owing.id session of cause outstanding limit ∷ []) row.session row.login cut
    by row (inr is) =
        subst (λ (q : ℕ). IsCutOff owing.id (owing.grants ++ Lapsed owing.id session of cause outstanding limit ∷ []) q row.login) (now ∙ sym is.session)
        (cut_now owing.id owing.grants session of row.login is.number is.credits cause outstanding limit other
        (subst (λ (q : ℕ). Contains owing.grants (Granted owing.id q row.login is.number is.credits)) (is.session ∙ sym now) is.granted))

pub no_login : (n : ℕ) → n ≡ 0 → 1 ≤ n → ⊥
no_login n none some = absurd (omega (arith, none, some))

-- Where all are cut off no answer is owed, whatever the queue is.
pub has_cut : (owing : Owing) → owing.current ≡ 0 → row_in owing.stage ≡ None → AreCutOff owing.id owing.rows owing.grants → HasAnswers owing
has_cut owing off none cut = record {
  each = λ at row there own lacks. inl (cut at row there own lacks);
  serving = λ at is. absurd (none_some at (sym none ∙ is));
  owed = λ some. absurd (no_login owing.current off some);
  goes_on = λ some. absurd (no_login owing.current off some);
}

-- the same of a unit of another place
pub has_cut_of : (id : UnitId) (rows : List RowState) (grants : List Grant) (owing : Owing) → owing.id ≡ id → owing.rows ≡ rows → owing.grants ≡ grants → owing.current ≡ 0 → row_in owing.stage ≡ None
    → AreCutOff id rows grants → HasAnswers owing
has_cut_of id rows grants owing same same_rows same_grants off none cut =
    has_cut owing off none (subst (λ (z : UnitId × (List RowState × List Grant)). AreCutOff z.0 z.1.0 z.1.1) (λ i. (sym same i, (sym same_rows i, sym same_grants i))) cut)

-- Nothing is awaited in a session that is over.
ended_cut : (owing : Owing) → owing.ended ≡ true → HasAnswers owing → AreCutOff owing.id owing.rows owing.grants
ended_cut owing over has at row there own none = by (has.each at row there own none)
  where
    by : IsCutOff owing.id owing.grants row.session row.login ⊎ IsAwaited owing at row → IsCutOff owing.id owing.grants row.session row.login
    by (inl cut) = cut
    by (inr is) = absurd (cc (over, is.going))

pub ended_off : (owing : Owing) → owing.ended ≡ true → HasAnswers owing → 1 ≤ owing.current → ⊥
ended_off owing over has some = absurd (cc (over, (has.goes_on some).1))

-- The queue and the line of a session that is over stand otherwise.
pub owes_ended : (mid new : Owing) → mid.ended ≡ true → new.id ≡ mid.id → new.current ≡ mid.current → new.stage ≡ mid.stage → new.pending ≡ mid.pending → new.rows ≡ mid.rows
    → new.grants ≡ mid.grants → HasAnswers mid → HasAnswers new
owes_ended mid new over id current stage pending rows grants has =
    subst (λ (o : Owing). HasAnswers o) (λ i. record {
      id = (sym id) i;
      current = (sym current) i;
      stage = (sym stage) i;
      pending = (sym pending) i;
      ended = new.ended;
      queue = new.queue;
      rows = (sym rows) i;
      grants = (sym grants) i;
    }) (record {
      each = λ at row there own none. inl (ended_cut mid over has at row there own none);
      serving = λ at is. let hand = has.serving at is in record { row = hand.row; there = hand.there; front = hand.front; rest = hand.rest; parts = hand.parts; gets = hand.gets };
      owed = λ some. absurd (ended_off mid over has some);
      goes_on = λ some. absurd (ended_off mid over has some);
    })

-- A call, or the client, left its session, its registration and what is on its way.
pub owes_seen : (mid new : Owing) → SeesAnswers mid.queue new.queue → new.id ≡ mid.id → new.current ≡ mid.current → new.stage ≡ mid.stage → new.pending ≡ mid.pending → new.ended ≡ mid.ended
    → new.rows ≡ mid.rows → new.grants ≡ mid.grants → HasAnswers mid → HasAnswers new
owes_seen mid new sees id current stage pending ended rows grants has =
    subst (λ (o : Owing). HasAnswers o) (λ i. record {
      id = (sym id) i;
      current = (sym current) i;
      stage = (sym stage) i;
      pending = (sym pending) i;
      ended = (sym ended) i;
      queue = new.queue;
      rows = (sym rows) i;
      grants = (sym grants) i;
    }) (record {
      each = λ at row there own none. by at row (has.each at row there own none);
      serving = λ at is. let hand = has.serving at is in record { row = hand.row; there = hand.there; front = hand.front; rest = hand.rest; parts = hand.parts; gets = hand.gets };
      owed = λ some gone. loss some (sees.gone (has.goes_on some).0 gone);
      goes_on = λ some. (sees.registered ∙ (has.goes_on some).0, (has.goes_on some).1);
    })
  where
    loss : 1 ≤ mid.current → (mid.queue.place.partner_registered ≡ false) ⊎ IsLossAhead new.queue → IsLossAhead new.queue
    loss some (inl was) = sees.ahead (has.owed some was)
    loss some (inr is) = is

    still : (at : ℕ) → (row_in mid.stage ≡ Some at) ⊎ IsLossAhead mid.queue → (row_in mid.stage ≡ Some at) ⊎ IsLossAhead new.queue
    still at (inl is) = inl is
    still at (inr ahead) = inr (sees.ahead ahead)

    by : (at : ℕ) (row : RowState) → IsCutOff mid.id mid.grants row.session row.login ⊎ IsAwaited mid at row
        → IsCutOff mid.id mid.grants row.session row.login ⊎ IsAwaited (record mid { queue = new.queue }) at row
    by at row (inl cut) = inl cut
    by at row (inr is) = inr (record {
      number = is.number;
      credits = is.credits;
      granted = is.granted;
      session = is.session ∙ sym sees.session;
      going = is.going;
      why = still at is.why;
    })

-- what such a call leaves
pub seen_call : (old new : EndState) → new.place ≡ old.place → new.last_session ≡ old.last_session → new.registered ≡ old.registered → new.taken ≡ old.taken → SeesAnswers old new
seen_call old new place session registered taken = record {
  session = session;
  registered = registered;
  ahead = λ loss. record { registered = registered ∙ loss.registered; comes = comes loss.comes };
  gone = λ on gone. inl (ap (λ (p : EndPlace). p.partner_registered) (sym place) ∙ gone);
}
  where
    comes : IsEventAhead old ⊎ IsEventKept old → IsEventAhead new ⊎ IsEventKept new
    comes (inl is) = inl (record {
      number = is.number;
      event = is.event;
      there = (λ i. slice_get (of_session (session i) (place i).received) is.number) ∙ is.there;
      ahead = subst (λ (n : ℕ). n ≤ is.number) (λ i. length (of_session (sym session i) (sym taken i))) is.ahead;
      says = is.says;
    })
    comes (inr is) = inr (record { event = is.event; kept = (λ i. (place i).partner_kept) ∙ is.kept; says = is.says })

pub seen_same : (old new : EndState) → new ≡ old → SeesAnswers old new
seen_same old new same = seen_call old new (λ i. (same i).place) (λ i. (same i).last_session) (λ i. (same i).registered) (λ i. (same i).taken)

-- An entry was taken that is no event.
pub seen_taken : (shared : Bool) (old new : EndState) (number : ℕ) (entry : QueueEntry) → shared ≡ false → Takes shared old new number entry → OnlyTakes shared old new
    → (first_byte entry ≡ 0xFF → ⊥) → SeesAnswers old new
seen_taken shared old new number entry alone takes only plain = record {
  session = only.last_session;
  registered = only.registered;
  ahead = λ loss. record { registered = only.registered ∙ loss.registered; comes = comes loss.comes };
  gone = λ on gone. inl ((λ i. (sym only.place i).partner_registered) ∙ gone);
}
  where
    count : length (taken_now new) ≡ length (taken_now old) + 1
    count = (λ i. length (of_session (only.last_session i) (takes.taken i)))
        ∙ ap (λ (xs : List QueueEntry). length xs) (of_session-push (record { session = old.last_session; entry = entry }) old.taken) ∙ length_push (taken_now old) entry

    later : (n : ℕ) → length (taken_now old) ≤ n → number ≢ n → length (taken_now new) ≤ n
    later n low apart = omega (arith, low, apart, count, takes.number_is)

    comes : IsEventAhead old ⊎ IsEventKept old → IsEventAhead new ⊎ IsEventKept new
    comes (inl is) = inl (record {
      number = is.number;
      event = is.event;
      there = (λ i. slice_get (of_session (only.last_session i) (only.place i).received) is.number) ∙ is.there;
      ahead = later is.number is.ahead (λ same. plain (ap first_byte (some_same entry is.event (sym (takes.there alone) ∙ ap (slice_get (received_now old)) same ∙ is.there)) ∙ is.says));
      says = is.says;
    })
    comes (inr is) = inr (record { event = is.event; kept = (λ i. (only.place i).partner_kept) ∙ is.kept; says = is.says })

-- The service of the oldest request is over: its row has its answer, or the client is gone.
pub owes_on : (mid new : Owing) (more : List Grant) → new.id ≡ mid.id → new.queue ≡ mid.queue → new.ended ≡ mid.ended → new.grants ≡ mid.grants ++ more
    → ((at : ℕ) (row : RowState) → slice_get new.rows at ≡ Some row → row.answered ≡ false → (slice_get mid.rows at ≡ Some row) × (row_in mid.stage ≡ Some at → IsLossAhead mid.queue))
    → row_in new.stage ≡ None
    → (1 ≤ new.current → (1 ≤ mid.current) ⊎ ((mid.queue.registered ≡ true) × ((mid.ended ≡ false) × (mid.queue.place.partner_registered ≡ true))))
    → HasAnswers mid → HasAnswers new
owes_on mid new more id queue ended grants was none on has = record {
  each = λ at row there own lacks.
      let old = was at row there lacks in
      by at row old.1 (has.each at row old.0 (subst (λ (u : UnitId). same_unit row.unit u ≡ true) id own) lacks);
  serving = λ at is. absurd (none_some at (sym none ∙ is));
  owed = λ some gone. subst IsLossAhead (sym queue) (loss (on some) ((λ i. (sym queue i).place.partner_registered) ∙ gone));
  goes_on = λ some. up (on some);
}
  where
    loss : (1 ≤ mid.current) ⊎ ((mid.queue.registered ≡ true) × ((mid.ended ≡ false) × (mid.queue.place.partner_registered ≡ true))) → mid.queue.place.partner_registered ≡ false → IsLossAhead mid.queue
    loss (inl some) gone = has.owed some gone
    loss (inr is) gone = absurd (cc (is.1.1, gone))

    up : (1 ≤ mid.current) ⊎ ((mid.queue.registered ≡ true) × ((mid.ended ≡ false) × (mid.queue.place.partner_registered ≡ true))) → (new.queue.registered ≡ true) × (new.ended ≡ false)
    up (inl some) = ((λ i. (queue i).registered) ∙ (has.goes_on some).0, ended ∙ (has.goes_on some).1)
    up (inr is) = ((λ i. (queue i).registered) ∙ is.0, ended ∙ is.1.0)

    still : (at : ℕ) → (row_in mid.stage ≡ Some at → IsLossAhead mid.queue) → (row_in mid.stage ≡ Some at) ⊎ IsLossAhead mid.queue → IsLossAhead mid.queue
    still at gone (inl is) = gone is
    still at gone (inr ahead) = ahead

    by : (at : ℕ) (row : RowState) → (row_in mid.stage ≡ Some at → IsLossAhead mid.queue) → IsCutOff mid.id mid.grants row.session row.login ⊎ IsAwaited mid at row
        → IsCutOff new.id new.grants row.session row.login ⊎ IsAwaited new at row
    by at row gone (inl cut) = inl (subst (λ (z : UnitId × List Grant). IsCutOff z.0 z.1 row.session row.login) (λ i. (sym id i, sym grants i)) (cut_more mid.id mid.grants more row.session row.login cut))
    by at row gone (inr is) = inr (awaited_more mid new at row more id (λ i. (queue i).last_session) ended grants is (inr (subst IsLossAhead (sym queue) (still at gone is.why))))
