-- What the parts of a turn leave of why lines stand there, and of the answers to requests to log in.
use Rattle.std.proofs.Common.{◌≡◌, ◌⊎◌, inl, inr, ◌≤◌, ◌++◌, ◌∙◌, ℕ, Bool, true, false, All, List, [], ◌∷◌, Option, Some, None, length, map, drop, slice_get, slice_set, refl, sym, ap, subst, arith, append-nil, append_assoc}
use Rattle.std.proofs.lemmas.List.{map-append}
use Rattle.std.proofs.lemmas.List.Elements.{All-nil, All-cons, All-head, filter-append}
use Rattle.crq_ring.specs.Sessions.{of_session}
use Rattle.crq_ring.specs.declared.rows.PipeRow.{PipeRow}
use Rattle.crq_session.specs.EndState.{EndState}
use Rattle.vio_num.specs.Entry.{is_srp_entry, iu_address, iu_length}
use Rattle.vio_num.specs.Words.{Begins}
use Rattle.vio_num.specs.declared.entry.Entry.{Entry}
use Rattle.vio_num.specs.declared.history.Grant.{Grant}
use Rattle.vio_num.specs.declared.history.Grant.TheVariants.{Lapsed}
use Rattle.vio_num.specs.declared.history.Lapse.{Lapse}
use Rattle.vio_num.specs.declared.history.Served.{Served}
use Rattle.vio_num.specs.declared.names.UnitId.{UnitId}
use Rattle.block_server.specs.Asked.{AreAskedInOrder, AskInOrder, AskedAt, number_ahead, still_to_answer}
use Rattle.block_server.specs.Causes.{Hearing, Told, told_to}
use Rattle.block_server.specs.Closings.{is_event}
use Rattle.block_server.specs.Dealt.{AreDealt, AsksNoLogin, HasDealt, IsLoginSettled, SendsSoFar}
use Rattle.block_server.specs.Granting.{IsSrpAt}
use Rattle.block_server.specs.Judged.{is_login}
use Rattle.block_server.specs.LoginAnswers.{LoginsMore, asked_at, grants_in, is_grant, login_answers}
use Rattle.block_server.specs.Moves.{Passes}
use Rattle.block_server.specs.Receipts.{Standing, TakesEntry, is_ended, standing_of}
use Rattle.block_server.specs.Refusals.{AnswersInOrder, AreAccounted, AreExplained, Basis, Explains, ExplainsOf, Front, IsExplained, Ledger, basis_in, basis_seen, ledger_at, ledger_of, to_answer}
use Rattle.block_server.specs.Serving.{Desk, Held, IsServing, Once, Terms}
use Rattle.block_server.specs.SiteState.{SiteState}
use Rattle.block_server.specs.declared.records.Records.{Records}
use Rattle.block_server.specs.declared.request.Arrival.{Arrival}
use Rattle.block_server.specs.declared.request.Request.{Request}
use Rattle.block_server.specs.declared.unit.Unit.{Unit}
use Rattle.block_server.proofs.Asking.{Leads, ahead_most, ahead_taken, leads_on, leads_same, order_on, srp_below, still_begun, still_later, still_none, still_popped, still_pushed}
use Rattle.block_server.specs.Rejecting.{IsOnByLines, LinesTellLogin, RejectInTime}
use Rattle.block_server.proofs.OnThen.{in_time_on, on_begun, on_lapsed, on_same}
use Rattle.block_server.proofs.Dealing.{AreBeforeEvent, deal_begun, deal_entry, deal_ignored, deal_lost, deal_over, deal_popped, deal_pushed, deal_put, deal_same, deal_taken}
use Rattle.block_server.proofs.LoginPuts.{logins_none, logins_on}
use Rattle.block_server.proofs.Refusing.{known_apart, known_begun, known_ended, known_entry, known_left, known_pushed, known_same, known_taken}
use Rattle.block_server.proofs.Agreeing.{if_at, some_at}
use Rattle.block_server.proofs.Taking.{passed_session, passed_taken}
use Rattle.block_server.proofs.Units.{get_set_same}

pub begins_same : (old new : List PipeRow) → new ≡ old → Begins old new
begins_same old new same = ([], same ∙ sym (append-nil old))

-- a line that grants no login
no_grant : (lines lines' : List Grant) (line : Grant) → lines' ≡ lines ++ line ∷ [] → is_grant line ≡ false → grants_in lines' ≡ grants_in lines
no_grant lines lines' line more ends = ap grants_in more ∙ filter-append is_grant lines (line ∷ []) ∙ ap (λ list. grants_in lines ++ list) (one ends) ∙ append-nil (grants_in lines)
  where
    one : is_grant line ≡ false → grants_in (line ∷ []) ≡ []
    one e = rw e refl

-- what became of the requests to log in, in the one and in the other
abbrev pub Deals : Hearing → (sends sends' : SendsSoFar) → (old new : Ledger) → Type 0
Deals Hears sends sends' old new =
    AreDealt Hears old.session old.taken old.waiting old.pending old.ended sends → AreDealt Hears new.session new.taken new.waiting new.pending new.ended sends'

-- what is known of the sends in a turn, where answers to these requests were put
abbrev pub sends_of : Front → List AskedAt → SendsSoFar
sends_of front put = record { put = put; closed = front.closed }

-- the same where answers to these are put, or none
abbrev pub DealsMore : Hearing → Front → (more : List AskedAt) → (old new : Ledger) → Type 0
DealsMore Hears front more old new =
    (earlier put : List AskedAt) → front.asked ≡ Some earlier → Deals Hears (sends_of front put) (sends_of front (put ++ more)) old new

abbrev pub DealsOn : Hearing → Front → (old new : Ledger) → Type 0
DealsOn Hears front old new = (earlier put : List AskedAt) → front.asked ≡ Some earlier → Deals Hears (sends_of front put) (sends_of front put) old new

-- What a step leaves of a unit's name, of its lines, and of the login that these say is on.
pub record KeepsOn (old new : Ledger) : Type 0 where
  pub id : new.id ≡ old.id
  pub lines : Begins old.lines new.lines
  pub on : IsOnByLines old.id old.session old.current old.ended old.lines → IsOnByLines new.id new.session new.current new.ended new.lines

-- the login that is on is the same
pub on_stays : (old new : Ledger) → new.id ≡ old.id → new.current ≡ old.current → new.session ≡ old.session → new.ended ≡ old.ended → new.lines ≡ old.lines → KeepsOn old new
on_stays old new id current session ended lines = record {
  id = id;
  lines = ([], lines ∙ sym (append-nil old.lines));
  on = on_same old.id new.id old.session new.session old.current new.current old.ended new.ended old.lines new.lines id session current ended lines;
}

-- it ended
pub on_ends : (old new : Ledger) (line : Grant) (login : ℕ) (cause : Lapse) (outstanding granted : ℕ) → line ≡ Lapsed old.id old.session login cause outstanding granted
    → new.id ≡ old.id → new.current ≡ 0 → new.session ≡ old.session → new.lines ≡ old.lines ++ line ∷ [] → KeepsOn old new
on_ends old new line login cause outstanding granted is id current session lines =
    let all : new.lines ≡ old.lines ++ Lapsed old.id old.session login cause outstanding granted ∷ [] = lines ∙ ap (λ (l : Grant). old.lines ++ l ∷ []) is in
    record {
      id = id;
      lines = (line ∷ [], lines);
      on = λ was. on_same old.id new.id old.session new.session 0 new.current new.ended new.ended (old.lines ++ Lapsed old.id old.session login cause outstanding granted ∷ []) new.lines id session current refl all
          (on_lapsed old.id old.session old.current login cause outstanding granted old.ended new.ended old.lines was);
    }

-- One step more.
pub accounted : (told : Told → Bool) (unit : UnitId) (front : Front) (old new : Ledger)
    → (AreExplained told unit front.since (basis_in old) → AreExplained told unit front.since (basis_in new)) → Begins old.taken new.taken
    → (more : LoginsMore (told_to told unit) new.taken old.answers new.answers old.lines new.lines) → DealsMore (told_to told unit) front (map asked_at more.more) old new
    → Leads (to_answer old) (map asked_at more.more ++ to_answer new) → KeepsOn old new
    → (IsOnByLines old.id old.session old.current old.ended old.lines → RejectInTime old.id (grants_in old.lines) new.lines more.more)
    → AreAccounted told unit front old → AreAccounted told unit front new
unfolding logins_on
accounted told unit front old new know begins more deal leads keeps rejects is = record {
  known = know is.known;
  logins = logins_on (told_to told unit) old.taken new.taken front.answers old.answers new.answers front.lines old.lines new.lines begins is.logins more;
  dealt = λ earlier at. subst (λ (put : List AskedAt). AreDealt (told_to told unit) new.session new.taken new.waiting new.pending new.ended (sends_of front put))
      (append_assoc earlier (map asked_at is.logins.more) (map asked_at more.more) ∙ ap (λ (list : List AskedAt). earlier ++ list) (sym (map-append asked_at is.logins.more more.more)))
      (deal earlier (earlier ++ map asked_at is.logins.more) at (is.dealt earlier at));
  order = λ earlier at. order_on earlier is.logins.more more.more (to_answer old) (to_answer new) leads (is.order earlier at);
  grown = (is.grown.0 ++ keeps.lines.0, keeps.lines.1 ∙ ap (λ (list : List Grant). list ++ keeps.lines.0) is.grown.1 ∙ append_assoc front.lines is.grown.0 keeps.lines.0);
  on = λ earlier at. keeps.on (is.on earlier at);
  rejects = λ earlier at. subst (λ (id : UnitId). RejectInTime id (grants_in front.lines) new.lines (is.logins.more ++ more.more)) (sym keeps.id)
      (in_time_on old.id (grants_in front.lines) old.lines new.lines is.logins.more more.more keeps.lines (is.rejects earlier at)
      (subst (λ (list : List Grant). RejectInTime old.id list new.lines more.more) is.logins.granted (rejects (is.on earlier at))));
}

-- One in which no login was granted or rejected.
none_more : (told : Told → Bool) (unit : UnitId) (front : Front) (old new : Ledger)
    → (AreExplained told unit front.since (basis_in old) → AreExplained told unit front.since (basis_in new)) → Begins old.taken new.taken → new.answers ≡ old.answers
    → grants_in new.lines ≡ grants_in old.lines → DealsOn (told_to told unit) front old new → Leads (to_answer old) (to_answer new) → KeepsOn old new
    → AreAccounted told unit front old → AreAccounted told unit front new
unfolding logins_none
none_more told unit front old new know begins answers lines deal leads keeps =
    accounted told unit front old new know begins (logins_none (told_to told unit) new.taken old.answers new.answers old.lines new.lines answers lines)
    (λ earlier put at was. subst (λ (list : List AskedAt). AreDealt (told_to told unit) new.session new.taken new.waiting new.pending new.ended (sends_of front list)) (sym (append-nil put))
    (deal earlier put at was))
    leads keeps (λ on. tt)

-- what is still to be answered, of the same requests
answer_same : (old new : Ledger) → new.session ≡ old.session → new.taken ≡ old.taken → new.waiting ≡ old.waiting → new.pending ≡ old.pending → Leads (to_answer old) (to_answer new)
answer_same old new session taken waiting pending = leads_same (to_answer old) (to_answer new) (λ i. still_to_answer (session i) (taken i) (waiting i) (pending i))

-- the same where an entry more may have been taken
answer_later : (old new : Ledger) → new.session ≡ old.session → new.pending ≡ old.pending → number_ahead old.waiting old.session old.taken ≤ number_ahead new.waiting old.session new.taken
    → Leads (to_answer old) (to_answer new)
answer_later old new session pending most =
    leads_on (to_answer old) (still_to_answer old.session new.taken new.waiting old.pending) (to_answer new)
    (still_later old.session old.taken new.taken old.waiting new.waiting old.pending most)
    (leads_same (still_to_answer old.session new.taken new.waiting old.pending) (to_answer new) (λ i. still_to_answer (session i) new.taken new.waiting (pending i)))

-- nothing waits and nothing is pending any more
answer_none : (told : Told → Bool) (unit : UnitId) (since : List Grant) (old new : Ledger) → new.session ≡ old.session → new.taken ≡ old.taken → new.waiting ≡ None → new.pending ≡ []
    → AreExplained told unit since (basis_in old) → Leads (to_answer old) (to_answer new)
answer_none told unit since old new session taken waiting pending is =
    leads_on (to_answer old) (still_to_answer old.session old.taken None old.pending) (to_answer new)
    (still_later old.session old.taken old.taken old.waiting None old.pending (ahead_most old.session old.taken old.waiting is.waits))
    (leads_on (still_to_answer old.session old.taken None old.pending) (still_to_answer old.session old.taken None []) (to_answer new)
    (still_none old.session old.taken None old.pending)
    (leads_same (still_to_answer old.session old.taken None []) (to_answer new) (λ i. still_to_answer (session i) (taken i) (waiting i) (pending i))))

-- the oldest is pending no more
pub answer_popped : (old new : Ledger) → new.session ≡ old.session → new.taken ≡ old.taken → new.waiting ≡ old.waiting → new.pending ≡ drop 1 old.pending → Leads (to_answer old) (to_answer new)
answer_popped old new session taken waiting pending =
    leads_on (to_answer old) (still_to_answer old.session old.taken old.waiting (drop 1 old.pending)) (to_answer new)
    (still_popped old.session old.taken old.waiting old.pending)
    (leads_same (still_to_answer old.session old.taken old.waiting (drop 1 old.pending)) (to_answer new) (λ i. still_to_answer (session i) (taken i) (waiting i) (pending i)))

-- what waits, what is pending and whether the session goes on is the same, or only those changed
deals_same : (Hears : Hearing) (sends : SendsSoFar) (old new : Ledger) → new.session ≡ old.session → new.taken ≡ old.taken → new.waiting ≡ old.waiting → new.pending ≡ old.pending → new.ended ≡ old.ended
    → Deals Hears sends sends old new
deals_same Hears sends old new = deal_same Hears sends old.session new.session old.taken new.taken old.waiting new.waiting old.pending new.pending old.ended new.ended

deals_at : (Hears : Hearing) (sends : SendsSoFar) (old new : Ledger) → new.session ≡ old.session → new.taken ≡ old.taken → AreDealt Hears old.session old.taken new.waiting new.pending new.ended sends
    → AreDealt Hears new.session new.taken new.waiting new.pending new.ended sends
deals_at Hears sends old new session taken = deal_same Hears sends old.session new.session old.taken new.taken new.waiting new.waiting new.pending new.pending new.ended new.ended session taken refl refl refl

-- Nothing of it changed.
pub explains_same : (old new : Ledger) → new.session ≡ old.session → new.taken ≡ old.taken → new.waiting ≡ old.waiting → new.pending ≡ old.pending → new.ended ≡ old.ended
    → new.lines ≡ old.lines → new.answers ≡ old.answers → new.id ≡ old.id → new.current ≡ old.current → Explains old new
explains_same old new session taken waiting pending ended lines answers id current = λ told unit front.
    none_more told unit front old new (known_same (basis_in old) (basis_in new) session taken waiting pending ended lines told unit front.since) (begins_same old.taken new.taken taken) answers
    (ap grants_in lines) (λ earlier put at. deals_same (told_to told unit) (sends_of front put) old new session taken waiting pending ended) (answer_same old new session taken waiting pending) (on_stays old new id current session ended lines)

pub explains_stands : (unit unit' : Unit) (old new : SiteState) (records records' : Records) → standing_of unit' ≡ standing_of unit → Passes old new
    → unit'.pending.items ≡ unit.pending.items → records'.grants.items ≡ records.grants.items → login_answers new.queue.sent ≡ login_answers old.queue.sent
    → unit'.logins.current ≡ unit.logins.current → Explains (ledger_of unit old records) (ledger_of unit' new records')
explains_stands unit unit' old new records records' stands passes pending lines answers current =
    explains_same (ledger_of unit old records) (ledger_of unit' new records') (passed_session old new passes) (passed_taken old new passes) (ap (λ (s : Standing). s.waiting) stands) pending
    (ap (λ (s : Standing). s.ended) stands) lines answers (ap (λ (s : Standing). s.id) stands) current

-- One behind the other.
pub explains_on : (a b c : Ledger) → Explains a b → Explains b c → Explains a c
explains_on a b c first next = λ told unit front is. next told unit front (first told unit front is)

-- The login ended, and a line says why.
pub explained_ended : (told : Told → Bool) (unit : UnitId) (front : Front) (old new : Ledger) (line : Grant) → new.session ≡ old.session → new.taken ≡ old.taken
    → new.waiting ≡ None → new.pending ≡ [] → new.lines ≡ old.lines ++ line ∷ [] → IsExplained (told_to told unit) unit old.taken line → is_grant line ≡ false → new.answers ≡ old.answers
    → (new.ended ≡ true) ⊎ AreBeforeEvent old.session old.taken → KeepsOn old new → AreAccounted told unit front old → AreAccounted told unit front new
explained_ended told unit front old new line session taken waiting pending more cause ends answers how keeps was =
    none_more told unit front old new (known_ended told unit front.since (basis_in old) (basis_in new) line session taken waiting pending more cause) (begins_same old.taken new.taken taken)
    answers (no_grant old.lines new.lines line more ends) (λ earlier put at is. deals_at (told_to told unit) (sends_of front put) old new session taken (by (sends_of front put) how is))
    (answer_none told unit front.since old new session taken waiting pending was.known) keeps was
  where
    by : (sends : SendsSoFar) → (new.ended ≡ true) ⊎ AreBeforeEvent old.session old.taken → AreDealt (told_to told unit) old.session old.taken old.waiting old.pending old.ended sends
        → AreDealt (told_to told unit) old.session old.taken new.waiting new.pending new.ended sends
    by sends (inl over) = deal_over (told_to told unit) sends old.session old.taken old.waiting new.waiting old.pending new.pending old.ended new.ended over
    by sends (inr lost) = deal_lost (told_to told unit) sends old.session old.taken old.waiting new.waiting old.pending new.pending old.ended new.ended lost

-- nothing is, and a session begins
answer_begun : (old new : Ledger) → new.taken ≡ old.taken → old.waiting ≡ None → old.pending ≡ [] → new.waiting ≡ None → new.pending ≡ [] → old.session ≤ new.session
    → Leads (to_answer old) (to_answer new)
answer_begun old new taken none empty none' empty' later =
    leads_on (to_answer old) (still_to_answer old.session old.taken None []) (to_answer new)
    (leads_same (to_answer old) (still_to_answer old.session old.taken None []) (λ i. still_to_answer old.session old.taken (sym none i) (sym empty i)))
    (leads_on (still_to_answer old.session old.taken None []) (still_to_answer new.session old.taken None []) (to_answer new)
    (still_begun old.session new.session old.taken later)
    (leads_same (still_to_answer new.session old.taken None []) (to_answer new) (λ i. still_to_answer new.session (taken i) (none' i) (empty' i))))

-- A session begins, or ended before: nothing is pending.
pub explains_begun : (old new : Ledger) → old.ended ≡ true → new.taken ≡ old.taken → new.waiting ≡ old.waiting → new.pending ≡ old.pending → new.lines ≡ old.lines → new.answers ≡ old.answers
    → (new.ended ≡ true) ⊎ (of_session new.session new.taken ≡ []) → old.session ≤ new.session → new.id ≡ old.id → new.current ≡ old.current → Explains old new
explains_begun old new over taken waiting pending lines answers how later id current = λ told unit front is.
    none_more told unit front old new (known_begun (basis_in old) (basis_in new) over taken waiting pending lines told unit front.since) (begins_same old.taken new.taken taken) answers
    (ap grants_in lines) (λ earlier put at was. deal_begun (told_to told unit) (sends_of front put) new.session new.taken new.waiting new.pending new.ended how)
    (answer_begun old new taken (is.known.idle over).0 (is.known.idle over).1 (waiting ∙ (is.known.idle over).0) (pending ∙ (is.known.idle over).1) later)
    (record {
      id = id;
      lines = ([], lines ∙ sym (append-nil old.lines));
      on = λ was. on_same old.id new.id new.session new.session old.current new.current new.ended new.ended old.lines new.lines id refl current refl lines
          (on_begun old.id old.session new.session old.current old.ended new.ended old.lines over later was);
    }) is

-- An entry was taken, and does not wait.
pub explains_taken : (old new : Ledger) (row : PipeRow) → new.session ≡ old.session → new.taken ≡ old.taken ++ row ∷ [] → row.session ≡ old.session
    → (is_event row.entry ≡ true) ⊎ (is_srp_entry row.entry ≡ false) → new.waiting ≡ old.waiting → new.pending ≡ old.pending → new.ended ≡ old.ended
    → new.lines ≡ old.lines → new.answers ≡ old.answers → new.id ≡ old.id → new.current ≡ old.current → Explains old new
explains_taken old new row session taken own kind waiting pending ended lines answers id current = λ told unit front.
    none_more told unit front old new (known_taken (basis_in old) (basis_in new) session (row ∷ [], taken) waiting pending ended lines told unit front.since) (row ∷ [], taken) answers (ap grants_in lines)
    (λ earlier put some is. deal_same (told_to told unit) (sends_of front put) old.session new.session new.taken new.taken old.waiting new.waiting old.pending new.pending new.ended new.ended session refl waiting pending refl
    (deal_taken (told_to told unit) (sends_of front put) old.session old.taken new.taken row own taken old.waiting old.pending old.ended new.ended ended kind is))
    (answer_later old new session pending
    (subst (λ (w : Option Arrival). number_ahead old.waiting old.session old.taken ≤ number_ahead w old.session new.taken) (sym waiting) (ahead_taken old.session old.taken new.taken row old.waiting own taken)))
    (on_stays old new id current session ended lines)

-- An SRP entry was taken, and waits.
pub explains_entry : (old new : Ledger) (before after : SiteState) (arrival : Arrival) → TakesEntry before after arrival.number arrival.entry → is_srp_entry arrival.entry ≡ true
    → old.session ≡ before.queue.last_session → old.taken ≡ before.queue.taken → old.waiting ≡ None → old.ended ≡ false → new.session ≡ after.queue.last_session → new.taken ≡ after.queue.taken
    → new.waiting ≡ Some arrival → new.pending ≡ old.pending → new.ended ≡ old.ended → new.lines ≡ old.lines → new.answers ≡ old.answers → new.id ≡ old.id → new.current ≡ old.current → Explains old new
explains_entry old new before after arrival taken srp was_session was_taken none going session now_taken waits pending ended lines answers id current = λ told unit front.
    let row : PipeRow = record { session = before.queue.last_session; entry = arrival.entry } in
    let grown : new.taken ≡ old.taken ++ row ∷ [] = now_taken ∙ taken.taken ∙ ap (λ rows. rows ++ row ∷ []) (sym was_taken) in
    none_more told unit front old new
    (known_entry (basis_in old) (basis_in new) before after arrival taken srp was_session was_taken going session now_taken waits pending ended lines told unit front.since)
    (row ∷ [], grown) answers (ap grants_in lines)
    (λ earlier put some is. deal_same (told_to told unit) (sends_of front put) old.session new.session new.taken new.taken (Some arrival) new.waiting old.pending new.pending new.ended new.ended
    (session ∙ taken.session ∙ sym was_session) refl waits pending refl
    (deal_entry (told_to told unit) (sends_of front put) old.session old.taken new.taken row (sym was_session) grown arrival old.pending old.ended new.ended ended
    (taken.number_is ∙ (λ i. length (of_session (sym was_session i) (sym was_taken i))))
    (deal_same (told_to told unit) (sends_of front put) old.session old.session old.taken old.taken old.waiting None old.pending old.pending old.ended old.ended refl refl (sym none) refl refl is)))
    (answer_later old new (session ∙ taken.session ∙ sym was_session) pending
    (level (number_ahead old.waiting old.session old.taken) (number_ahead new.waiting old.session new.taken)
    (ap (λ (w : Option Arrival). number_ahead w old.session new.taken) waits ∙ taken.number_is ∙ (λ i. length (of_session (sym was_session i) (sym was_taken i)))
    ∙ sym (ap (λ (w : Option Arrival). number_ahead w old.session old.taken) none))))
    (on_stays old new id current (session ∙ taken.session ∙ sym was_session) ended lines)
  where
    level : (a b : ℕ) → b ≡ a → a ≤ b
    level a b same = omega (arith, same)

-- What waited waits no more: it asks for nothing that is kept, or its request is pending behind those that are.
pub explains_ignored : (told : Told → Bool) (unit : UnitId) (front : Front) (old new : Ledger) (arrival : Arrival) → IsSrpAt old.taken old.session arrival.number arrival.entry
    → old.waiting ≡ Some arrival → new.waiting ≡ None → new.session ≡ old.session → new.taken ≡ old.taken → new.pending ≡ old.pending → new.ended ≡ old.ended → new.lines ≡ old.lines
    → new.answers ≡ old.answers → AsksNoLogin (told_to told unit) arrival.entry → new.id ≡ old.id → new.current ≡ old.current → AreAccounted told unit front old → AreAccounted told unit front new
explains_ignored told unit front old new arrival at waits waiting session taken pending ended lines answers none id current =
    none_more told unit front old new
    (λ known. known_same (record (basis_in old) { waiting = None }) (basis_in new) session taken waiting pending ended lines told unit front.since (known_apart told unit front.since (basis_in old) known))
    (begins_same old.taken new.taken taken) answers (ap grants_in lines)
    (λ earlier put some is. deal_same (told_to told unit) (sends_of front put) old.session new.session old.taken new.taken None new.waiting old.pending new.pending new.ended new.ended session taken waiting pending refl
    (deal_ignored (told_to told unit) (sends_of front put) old.session old.taken old.pending old.ended new.ended ended arrival at none
    (deal_same (told_to told unit) (sends_of front put) old.session old.session old.taken old.taken old.waiting (Some arrival) old.pending old.pending old.ended old.ended refl refl (sym waits) refl refl is)))
    (leads_on (to_answer old) (still_to_answer old.session old.taken None old.pending) (to_answer new)
    (still_later old.session old.taken old.taken old.waiting None old.pending
    (subst (λ (w : Option Arrival). number_ahead w old.session old.taken ≤ number_ahead None old.session old.taken) (sym waits) (ahead_most old.session old.taken (Some arrival) at)))
    (leads_same (still_to_answer old.session old.taken None old.pending) (to_answer new) (λ i. still_to_answer (session i) (taken i) (waiting i) (pending i))))
    (on_stays old new id current session ended lines)

pub explains_pushed : (told : Told → Bool) (unit : UnitId) (front : Front) (old new : Ledger) (request : Request) (arrival : Arrival) → old.ended ≡ false
    → IsSrpAt old.taken old.session arrival.number arrival.entry → request.number ≡ arrival.number → request.address ≡ iu_address arrival.entry
    → length request.unit.items ≡ iu_length arrival.entry → old.waiting ≡ Some arrival → new.waiting ≡ None → new.session ≡ old.session → new.taken ≡ old.taken → new.ended ≡ old.ended
    → new.lines ≡ old.lines → new.pending ≡ old.pending ++ request ∷ [] → new.answers ≡ old.answers → (is_login request.order ≡ true) ⊎ AsksNoLogin (told_to told unit) arrival.entry
    → new.id ≡ old.id → new.current ≡ old.current → AreAccounted told unit front old → AreAccounted told unit front new
explains_pushed told unit front old new request arrival going found number_is at long waits waiting session taken ended lines pushed answers how id current =
    none_more told unit front old new
    (λ known. known_pushed (record (basis_in old) { waiting = None }) (basis_in new) request arrival.entry going
    (subst (λ (n : ℕ). IsSrpAt old.taken old.session n arrival.entry) (sym number_is) found) at long session taken waiting ended lines pushed told unit front.since
    (known_apart told unit front.since (basis_in old) known))
    (begins_same old.taken new.taken taken) answers (ap grants_in lines)
    (λ earlier put some is. deal_same (told_to told unit) (sends_of front put) old.session new.session old.taken new.taken None new.waiting (old.pending ++ request ∷ []) new.pending new.ended new.ended session taken waiting pushed refl
    (deal_pushed (told_to told unit) (sends_of front put) old.session old.taken old.pending old.ended new.ended ended arrival found request number_is how
    (deal_same (told_to told unit) (sends_of front put) old.session old.session old.taken old.taken old.waiting (Some arrival) old.pending old.pending old.ended old.ended refl refl (sym waits) refl refl is)))
    (leads_on (to_answer old) (still_to_answer old.session old.taken (Some arrival) old.pending) (to_answer new)
    (leads_same (to_answer old) (still_to_answer old.session old.taken (Some arrival) old.pending) (λ i. still_to_answer old.session old.taken (sym waits i) old.pending))
    (leads_on (still_to_answer old.session old.taken (Some arrival) old.pending) (still_to_answer old.session old.taken None (old.pending ++ request ∷ [])) (to_answer new)
    (still_pushed old.session old.taken arrival old.pending request number_is (srp_below old.taken old.session arrival.number arrival.entry found))
    (leads_same (still_to_answer old.session old.taken None (old.pending ++ request ∷ [])) (to_answer new) (λ i. still_to_answer (session i) (taken i) (waiting i) (pushed i)))))
    (on_stays old new id current session ended lines)

-- The oldest request, which is pending no more, asked for no login, or its answer was put, or lost.
abbrev pub IsGone : Hearing → SendsSoFar → (old : Ledger) → Type 0
IsGone Hears sends old = (first : Request) (rest : List Request) → old.pending ≡ first ∷ rest → (is_login first.order ≡ false) ⊎ IsLoginSettled Hears old.taken sends old.session first.number

-- what became of the requests then
pub deals_left : (Hears : Hearing) (sends : SendsSoFar) (old new : Ledger) → new.session ≡ old.session → new.taken ≡ old.taken → new.waiting ≡ old.waiting → new.ended ≡ old.ended → new.pending ≡ drop 1 old.pending
    → IsGone Hears sends old → Deals Hears sends sends old new
deals_left Hears sends old new session taken waiting ended pending gone is =
    deal_same Hears sends old.session new.session old.taken new.taken old.waiting new.waiting (drop 1 old.pending) new.pending new.ended new.ended session taken waiting pending refl
    (deal_popped Hears sends old.session old.taken old.pending old.ended new.ended ended old.waiting gone is)

-- the same where its answer was put
pub deals_answered : (Hears : Hearing) (front : Front) (more : List AskedAt) (old new : Ledger) → new.session ≡ old.session → new.taken ≡ old.taken → new.waiting ≡ old.waiting → new.ended ≡ old.ended
    → new.pending ≡ drop 1 old.pending → ((put : List AskedAt) → IsGone Hears (sends_of front (put ++ more)) old) → DealsMore Hears front more old new
deals_answered Hears front more old new session taken waiting ended pending gone = λ earlier put at is.
    deals_left Hears (sends_of front (put ++ more)) old new session taken waiting ended pending (gone put)
    (deal_put Hears (sends_of front put) more old.session old.taken old.waiting old.pending old.ended is)

-- The oldest request is pending no more, and a line came that grants none, or none.
pub explains_left : (told : Told → Bool) (unit : UnitId) (front : Front) (old new : Ledger) (lines : List Grant) → new.session ≡ old.session → new.taken ≡ old.taken → new.waiting ≡ old.waiting
    → new.ended ≡ old.ended → new.pending ≡ drop 1 old.pending → new.lines ≡ old.lines ++ lines → All (IsExplained (told_to told unit) unit old.taken) lines → grants_in new.lines ≡ grants_in old.lines
    → new.answers ≡ old.answers
    → (AreExplained told unit front.since (basis_in old) → (earlier put : List AskedAt) → front.asked ≡ Some earlier → IsGone (told_to told unit) (sends_of front put) old)
    → KeepsOn old new → AreAccounted told unit front old → AreAccounted told unit front new
explains_left told unit front old new lines session taken waiting ended pending more causes grants answers gone keeps is =
    none_more told unit front old new (known_left told unit front.since (basis_in old) (basis_in new) 1 lines session taken waiting ended pending more causes)
    (begins_same old.taken new.taken taken) answers grants
    (λ earlier put at. deals_left (told_to told unit) (sends_of front put) old new session taken waiting ended pending (gone is.known earlier put at))
    (answer_popped old new session taken waiting pending) keeps is

-- It was the client's own logout, or another that asks for no login.
pub explains_settled : (old new : Ledger) (line : Grant) (first : Request) (rest : List Request) → old.pending ≡ first ∷ rest → is_login first.order ≡ false → new.session ≡ old.session → new.taken ≡ old.taken
    → new.waiting ≡ old.waiting → new.ended ≡ old.ended
    → new.pending ≡ drop 1 old.pending → new.lines ≡ old.lines ++ line ∷ [] → ((Hears : Hearing) (unit : UnitId) → IsExplained Hears unit old.taken line) → is_grant line ≡ false
    → new.answers ≡ old.answers → KeepsOn old new → Explains old new
explains_settled old new line first rest parts other session taken waiting ended pending more cause ends answers keeps = λ told unit front.
    explains_left told unit front old new (line ∷ []) session taken waiting ended pending more
    (All-cons (IsExplained (told_to told unit) unit old.taken) line [] (cause (told_to told unit) unit) (All-nil (IsExplained (told_to told unit) unit old.taken)))
    (no_grant old.lines new.lines line more ends) answers
    (λ known earlier put at front rest' parts'. inl (subst (λ (r : Request). is_login r.order ≡ false) (head_is first front rest rest' (sym parts ∙ parts')) other)) keeps
  where
    head_is : (x y : Request) (xs ys : List Request) → x ∷ xs ≡ y ∷ ys → x ≡ y
    head_is x y xs ys same = cc (same)

-- A part of a turn behind another that left the desk in order.
pub explained_then : (d d' : Held) (a b : Desk) (s s' : List PipeRow) (h h' : List Served) (front : Front) (x y z : Ledger) → Once d d' a b s s' h h'
    → (AreAccounted d.terms.told a.id front x → AreAccounted d.terms.told a.id front y)
    → (IsServing d'.terms b h' → AreAccounted d'.terms.told b.id front y → AreAccounted d'.terms.told b.id front z)
    → AreAccounted d.terms.told a.id front x → AreAccounted d.terms.told a.id front z
explained_then d d' a b s s' h h' front x y z once first next is =
    subst (λ (w : UnitId × Terms). AreAccounted w.1.told w.0 front y → AreAccounted w.1.told w.0 front z) (λ i. (once.id i, once.terms i)) (next once.serving) (first is)

begins_same_lines : (old new : List Grant) → new ≡ old → Begins old new
begins_same_lines old new same = ([], same ∙ sym (append-nil old))

-- As a turn begins nothing was put in it.
pub accounted_first : (told : Told → Bool) (unit : UnitId) (front : Front) (ledger : Ledger) → AreExplained told unit front.since (basis_in ledger) → front.lines ≡ ledger.lines → front.answers ≡ ledger.answers
    → ((earlier : List AskedAt) → front.asked ≡ Some earlier → AreDealt (told_to told unit) ledger.session ledger.taken ledger.waiting ledger.pending ledger.ended (sends_of front earlier))
    → ((earlier : List AskedAt) → front.asked ≡ Some earlier → AreAskedInOrder (earlier ++ to_answer ledger))
    → ((earlier : List AskedAt) → front.asked ≡ Some earlier → IsOnByLines ledger.id ledger.session ledger.current ledger.ended ledger.lines) → AreAccounted told unit front ledger
unfolding logins_none
accounted_first told unit front ledger is lines answers dealt order on = record {
  known = is;
  logins = logins_none (told_to told unit) ledger.taken front.answers ledger.answers front.lines ledger.lines (sym answers) (ap grants_in (sym lines));
  dealt = λ earlier at. subst (λ (put : List AskedAt). AreDealt (told_to told unit) ledger.session ledger.taken ledger.waiting ledger.pending ledger.ended (sends_of front put)) (sym (append-nil earlier))
      (dealt earlier at);
  order = order;
  on = on;
  rejects = λ earlier at. tt;
  grown = begins_same_lines front.lines ledger.lines (sym lines);
}

-- What it puts of answers to requests to log in is in order.
pub in_order_turn : (told : Told → Bool) (units : List Unit) (n : ℕ) (u u' : Unit) (unit : UnitId) (queue queue' : EndState) (since : List Grant) (earlier : List AskedAt) (closed : ℕ → Bool)
    (records records' : Records) → slice_get units n ≡ Some u → AreExplained told unit since (basis_seen u queue records.grants.items)
    → ((front : Front) → front.closed ≡ closed → AreAccounted told unit front (ledger_at u queue.last_session queue.taken (login_answers queue.sent) records)
    → AreAccounted told unit front (ledger_at u' queue'.last_session queue'.taken (login_answers queue'.sent) records'))
    → u.id ≡ unit → u'.id ≡ unit → AskInOrder earlier units n queue → LinesTellLogin units n unit queue records.grants.items → HasDealt told earlier closed units n unit queue
    → AnswersInOrder told earlier closed (slice_set units n u') n unit queue queue' records records'
in_order_turn told units n u u' unit queue queue' since earlier closed records records' there known step own own' order on dealt =
    let ledger : Ledger = ledger_at u queue.last_session queue.taken (login_answers queue.sent) records in
    let front : Front = record { since = since; lines = records.grants.items; answers = login_answers queue.sent; asked = Some earlier; closed = closed } in
    let before : AreAskedInOrder (earlier ++ to_answer ledger) =
    some_at (slice_get units n) u (λ x. AreAskedInOrder (earlier ++ still_to_answer queue.last_session queue.taken x.waiting x.pending.items)) there order in
    let was = some_at (slice_get units n) u
    (λ x. AreDealt (told_to told unit) queue.last_session queue.taken x.waiting x.pending.items (is_ended x.line) (record { put = earlier; closed = closed })) there dealt in
    let after = step front refl (accounted_first told unit front ledger known refl refl
    (λ other same. subst (λ (list : List AskedAt). AreDealt (told_to told unit) ledger.session ledger.taken ledger.waiting ledger.pending ledger.ended (sends_of front list)) (some_is earlier other same) was)
    (λ other same. subst (λ (list : List AskedAt). AreAskedInOrder (list ++ to_answer ledger)) (some_is earlier other same) before)
    (λ other some. subst (λ (id : UnitId). IsOnByLines id queue.last_session u.logins.current (is_ended u.line) records.grants.items) (sym own)
    (some_at (slice_get units n) u (λ x. IsOnByLines unit queue.last_session x.logins.current (is_ended x.line) records.grants.items) there on))) in
    record {
      logins = after.logins;
      lines = after.grown;
      order = if_at (slice_get (slice_set units n u') n) u'
          (λ x. AreAskedInOrder ((earlier ++ map asked_at after.logins.more) ++ still_to_answer queue'.last_session queue'.taken x.waiting x.pending.items)) (get_set_same units n u u' there)
          (subst AreAskedInOrder
          (sym (append_assoc earlier (map asked_at after.logins.more) (still_to_answer queue'.last_session queue'.taken u'.waiting u'.pending.items))) (after.order earlier refl));
      rejects = subst (λ (id : UnitId). RejectInTime id (grants_in records.grants.items) records'.grants.items after.logins.more) own' (after.rejects earlier refl);
      on = if_at (slice_get (slice_set units n u') n) u' (λ x. IsOnByLines unit queue'.last_session x.logins.current (is_ended x.line) records'.grants.items) (get_set_same units n u u' there)
          (subst (λ (id : UnitId). IsOnByLines id queue'.last_session u'.logins.current (is_ended u'.line) records'.grants.items) own' (after.on earlier refl));
      deals = if_at (slice_get (slice_set units n u') n) u'
          (λ x. AreDealt (told_to told unit) queue'.last_session queue'.taken x.waiting x.pending.items (is_ended x.line) (record { put = earlier ++ map asked_at after.logins.more; closed = closed }))
          (get_set_same units n u u' there) (after.dealt earlier refl);
    }
  where
    some_is : (a b : List AskedAt) → Some a ≡ Some b → a ≡ b
    some_is a b same = cc (same)
