-- The parts of a turn, one behind the other: what each takes in, and what it judges.
use Rattle.std.proofs.Common.{◌≡◌, inl, inr, ◌+◌, ◌<◌, ◌++◌, ◌≤◌, arith, append-nil, length-append, ℕ, Bool, true, false, All, List, [], ◌∷◌, Option, Some, None, IfSome, length, map, slice_get, slice_set, refl, sym, ◌∙◌, ap, subst, le_refl}
use Rattle.std.proofs.lemmas.List.{map-append}
use Rattle.crq_ring.specs.Sessions.{of_session}
use Rattle.crq_session.specs.EndState.{EndState}
use Rattle.vio_num.specs.Entry.{is_srp_entry, iu_address, iu_length}
use Rattle.vio_num.specs.declared.entry.Entry.{Entry}
use Rattle.rdma_copy.specs.declared.copy.CopyRecord.{CopyRecord}
use Rattle.tce_window.specs.PortState.{PortState}
use Rattle.vio_num.specs.declared.history.Grant.{Grant}
use Rattle.vio_num.specs.declared.history.Lapse.{Lapse}
use Rattle.vio_num.specs.declared.history.Lapse.TheVariants as lapses
use Rattle.crq_session.specs.declared.handshake.Handshake.{Handshake}
use Rattle.crq_ring.specs.declared.rows.PipeRow.{PipeRow}
use Rattle.crq_ring.proofs.SessionLaws.{of_session-push}
use Rattle.vio_num.specs.declared.names.UnitId.{UnitId}
use Rattle.block_server.specs.Advances.{Advances}
use Rattle.block_server.specs.Books.{books_at, books_of, books_seen, is_up, next_of, number_of}
use Rattle.block_server.specs.Closings.{Gives, is_event, is_handshake}
use Rattle.block_server.specs.Decided.{EndsBooks, IsToJudge, JudgesOne}
use Rattle.block_server.specs.Ends.{EndsLogin}
use Rattle.block_server.specs.Judged.{Ahead, AreKept, Books, IsAtStage, IsInTime, IsOutcome, Judged, Keeps, KeepsLines, is_logout, is_limit}
use Rattle.block_server.specs.Judges.{AreInTime, HasJudged, Judges}
use Rattle.block_server.specs.Moves.{FetchesOne, Passes}
use Rattle.block_server.specs.Receipts.{EndedFor, Intake, IsIntake, LinesMore, MayTake, Receipt, Standing, TakesEntry, TakesIn, intake_of, is_ended, is_fatal, standing_of}
use Rattle.block_server.specs.SiteState.{SiteState}
use Rattle.block_server.specs.declared.line.Line.{Line}
use Rattle.block_server.specs.declared.records.Records.{Records}
use Rattle.block_server.specs.declared.request.Arrival.{Arrival}
use Rattle.block_server.specs.declared.service.Outcome.{Outcome}
use Rattle.block_server.specs.declared.service.Outcome.TheVariants as outcomes
use Rattle.block_server.specs.declared.service.Stage.TheVariants as stages
use Rattle.block_server.specs.declared.unit.Unit.{Unit}
use Rattle.block_server.proofs.Advancing.{advances_same}
use Rattle.block_server.proofs.Deciding.{judges_ended, judges_entry, judges_fetched, judges_none, judges_on, judges_other, judges_still}
use Rattle.block_server.proofs.GoingOn.{srp_no_event}
use Rattle.block_server.proofs.Lines.{lines_closed, lines_taken, row_at}
use Rattle.block_server.proofs.Receiving.{intake_passes, intake_stays, receipt_of}
use Rattle.block_server.proofs.Keeping.{going_on, keeps_later, keeps_session, moved_to}
use Rattle.block_server.proofs.Units.{get_set_same}
use Rattle.block_server.proofs.Taking.{ends_for, ends_line, lines_same, passed_session, passed_taken, takes_entry, takes_none, takes_on, takes_other, grown_of, window_copies}

-- What a part takes in, and what it judges.
pub record Works (unit unit' : Standing) (old new : SiteState) (books books' : Books) : Type 0 where
  pub takes : TakesIn unit unit' old new books.grants books'.grants
  pub judges : Judges unit unit' old new books books'
  pub named : books.id ≡ unit.id
  pub named' : books'.id ≡ unit'.id

-- One behind another.
pub works_on : (u0 u1 u2 : Standing) (s0 s1 s2 : SiteState) (b0 b1 b2 : Books) → Works u0 u1 s0 s1 b0 b1 → Works u1 u2 s1 s2 b1 b2 → Works u0 u2 s0 s2 b0 b2
works_on u0 u1 u2 s0 s1 s2 b0 b1 b2 first next = record {
  takes = takes_on u0 u1 u2 s0 s1 s2 b0.grants b1.grants b2.grants first.takes next.takes;
  judges = judges_on u0 u1 u2 s0 s1 s2 b0 b1 b2 first.takes (first.named' ∙ first.takes.id) (next.named' ∙ next.takes.id ∙ sym next.named) first.judges next.judges;
  named = first.named;
  named' = next.named';
}

-- Of a unit's own books.
pub works : (unit unit' : Standing) (old new : SiteState) (books books' : Books) → books.id ≡ unit.id → books'.id ≡ unit'.id
    → TakesIn unit unit' old new books.grants books'.grants → Judges unit unit' old new books books' → Works unit unit' old new books books'
works unit unit' old new books books' named named' takes judges = record { takes = takes; judges = judges; named = named; named' = named' }

-- A part that takes nothing, fetches nothing, and leaves the unit as it stands.
pub works_none : (unit unit' : Standing) (old new : SiteState) (books books' : Books) → unit' ≡ unit → books.id ≡ unit.id → books'.id ≡ unit'.id → Advances old new → Passes old new
    → LinesMore unit.id unit.granted books.grants books'.grants → Keeps books books' → Works unit unit' old new books books'
works_none unit unit' old new books books' same named named' advances passes lines keeps = record {
  takes = takes_none unit unit' old new books.grants books'.grants same advances passes lines;
  judges = judges_none unit unit' old new books books' same advances passes lines keeps;
  named = named;
  named' = named';
}

-- the entry that is judged next, over a call that takes none
next_passed : (waiting : Option Arrival) (old new : SiteState) → Passes old new → next_of waiting new.queue ≡ next_of waiting old.queue
next_passed (Some arrival) old new passes = λ i. record { number = arrival.number; taken = passed_taken old new passes i }
next_passed None old new passes = λ i. record { number = length (of_session (passed_session old new passes i) (passed_taken old new passes i)); taken = passed_taken old new passes i }

-- A part that only calls the queue or the windows.
pub works_pass : (unit : Unit) (records : Records) (old new : SiteState) → Advances old new → Passes old new
    → Works (standing_of unit) (standing_of unit) old new (books_at unit old records) (books_at unit new records)
works_pass unit records old new advances passes = works_none (standing_of unit) (standing_of unit) old new (books_at unit old records) (books_at unit new records) refl refl refl advances passes
    (lines_same unit.id unit.logins.granted records.grants.items records.grants.items refl)
    (λ judged is. moved_to (books_at unit old records) (books_at unit new records) judged refl (passed_session old new passes) (next_passed unit.waiting old new passes)
    refl refl refl refl refl refl refl refl refl refl refl is)

-- the entry that is judged next, behind this one
abbrev behind : Books → Entry → (number : ℕ) → Ahead
behind books entry number = record { number = number; taken = books.next.taken ++ row_at books.session entry ∷ [] }

taken_row : (old new : SiteState) (books : Books) (number : ℕ) (entry : Entry) → TakesEntry old new number entry → books.session ≡ old.queue.last_session → books.next ≡ next_of None old.queue
    → new.queue.taken ≡ books.next.taken ++ row_at books.session entry ∷ []
taken_row old new books number entry taken session next = taken.taken ∙ (λ i. (sym (ap (λ (n : Ahead). n.taken) next)) i ++ row_at ((sym session) i) entry ∷ [])

all_taken : (old : SiteState) (books : Books) → books.session ≡ old.queue.last_session → books.next ≡ next_of None old.queue → books.next.number ≡ length (of_session books.session books.next.taken)
all_taken old books session next =
    ap (λ (n : Ahead). n.number) next ∙ (λ i. length (of_session ((sym session) i) ((sym (ap (λ (n : Ahead). n.taken) next)) i)))

-- A part that takes an SRP entry, which waits to be fetched.
pub works_entry : (unit unit' : Standing) (old new : SiteState) (books books' : Books) (number : ℕ) (entry : Entry) (arrival : Arrival) → MayTake unit
    → TakesEntry old new number entry → is_srp_entry entry ≡ true → arrival.number ≡ number → arrival.entry ≡ entry → books.id ≡ unit.id → unit'.id ≡ unit.id → unit'.granted ≡ unit.granted
    → unit'.waiting ≡ Some arrival → unit'.ended ≡ unit.ended → books.session ≡ old.queue.last_session → books.next ≡ next_of None old.queue
    → books'.session ≡ new.queue.last_session → books'.next ≡ next_of (Some arrival) new.queue → books'.ended ≡ books.ended → books'.id ≡ books.id
    → books'.current ≡ books.current → books'.last ≡ books.last → books'.taking ≡ books.taking → books'.stage ≡ books.stage → books'.kept ≡ books.kept
    → books'.pending ≡ books.pending → books'.rows ≡ books.rows → books'.grants ≡ books.grants → books'.up ≡ books.up → books'.credits ≡ books.credits → Works unit unit' old new books books'
works_entry unit unit' old new books books' number entry arrival may taken srp at of named id granted waits ended session next session' next' over same current last taking stage kept pending rows grants up credits = record {
  takes = takes_entry unit unit' old new books.grants books'.grants number entry arrival may taken srp at of taken.advances id granted waits ended grants;
  judges = judges_entry unit unit' old new books books' number entry arrival may taken srp at of taken.advances waits ended grants
      (λ judged is. moved_to (record books { next = behind books entry books.next.number }) books' judged same (session' ∙ taken.session ∙ sym session)
      (next' ∙ (λ i. record { number = (at ∙ taken.number_is ∙ sym (ap (λ (n : Ahead). n.number) next)) i; taken = (taken_row old new books number entry taken session next) i }))
      current last taking stage kept pending rows grants over up credits
      (keeps_later books (behind books entry books.next.number) books.ended books.up judged (le_refl books.next.number) is.idle
      (lines_taken books.id books.session books.next (behind books entry books.next.number) books.current books.taking books.up books.up books.credits books.grants books.ended judged entry
      refl (all_taken old books session next) (srp_no_event entry srp) (inl (refl, refl)) is.lines) is));
  named = named;
  named' = same ∙ named ∙ sym id;
}

-- A part that takes another entry.
pub works_other : (unit unit' : Standing) (old new : SiteState) (books books' : Books) (number : ℕ) (entry : Entry) → MayTake unit
    → TakesEntry old new number entry → is_srp_entry entry ≡ false → is_event entry ≡ false → (books.ended ≡ false → books'.up ≡ false → (books.up ≡ false) × (is_handshake entry ≡ false)) → books.id ≡ unit.id → unit'.id ≡ unit.id → unit'.granted ≡ unit.granted
    → unit'.waiting ≡ None → books.session ≡ old.queue.last_session → books.next ≡ next_of None old.queue
    → books'.session ≡ new.queue.last_session → books'.next ≡ next_of None new.queue → books'.ended ≡ books.ended → books'.id ≡ books.id
    → books'.current ≡ books.current → books'.last ≡ books.last → books'.taking ≡ books.taking → books'.stage ≡ books.stage → books'.kept ≡ books.kept
    → books'.pending ≡ books.pending → books'.rows ≡ books.rows → books'.grants ≡ books.grants → books'.credits ≡ books.credits → Works unit unit' old new books books'
works_other unit unit' old new books books' number entry may taken other event heard named id granted none session next session' next' over same current last taking stage kept pending rows grants credits = record {
  takes = takes_other unit unit' old new books.grants books'.grants number entry may taken other taken.advances id granted none grants;
  judges = judges_other unit unit' old new books books' number entry may taken other taken.advances none grants
      (λ judged is. moved_to (record books { next = behind books entry (books.next.number + 1); up = books'.up }) books' judged same (session' ∙ taken.session ∙ sym session)
      (next' ∙ (λ i. record { number = longer i; taken = (taken_row old new books number entry taken session next) i }))
      current last taking stage kept pending rows grants over refl credits
      (keeps_later books (behind books entry (books.next.number + 1)) books.ended books'.up judged (next_more books.next.number) is.idle
      (lines_taken books.id books.session books.next (behind books entry (books.next.number + 1)) books.current books.taking books.up books'.up books.credits books.grants books.ended judged entry
      refl (all_taken old books session next) event (inr (refl, heard)) is.lines) is));
  named = named;
  named' = same ∙ named ∙ sym id;
}
  where
    next_more : (n : ℕ) → n ≤ n + 1
    next_more n = omega arith

    row : PipeRow
    row = row_at old.queue.last_session entry

    longer : length (of_session new.queue.last_session new.queue.taken) ≡ books.next.number + 1
    longer = (λ i. length (of_session (taken.session i) (taken.taken i))) ∙ ap length (of_session-push row old.queue.taken)
        ∙ length-append (of_session old.queue.last_session old.queue.taken) (entry ∷ []) ∙ ap (λ (n : Ahead). n.number + 1) (sym next)

-- An event says that the partner is gone, and the login that is on ends.
pub keeps_gone : (unit : Unit) (h : Handshake) (unit' : Unit) (old new : SiteState) (records records' : Records) (session number : ℕ) (entry : Entry) → MayTake (standing_of unit)
    → TakesEntry old new number entry → is_event entry ≡ true → is_ended (record unit.line { handshake = h }) ≡ is_ended unit.line → is_ended unit'.line ≡ false → unit'.waiting ≡ None
    → session ≡ old.queue.last_session → EndsBooks (record unit { line = record unit.line { handshake = h } }) unit' records records' session false lapses.Lost 0 0
    → Keeps (books_at unit old records) (books_at unit' new records')
keeps_gone unit h unit' old new records records' session number entry may taken says same still waiting session_is ends = λ judged is.
    let gone = record unit { line = record unit.line { handshake = h } } in
    let next = next_of unit.waiting old.queue in
    let next' = next_of unit'.waiting new.queue in
    let going : is_ended (record unit.line { handshake = h }) ≡ false = same ∙ may.goes_on in
    let before : AreKept (record (books_of gone session next records) { up = is_up unit.line.handshake }) judged =
    moved_to (books_at unit old records) (record (books_of gone session next records) { up = is_up unit.line.handshake }) judged refl session_is refl refl refl refl refl refl refl refl refl same refl refl is in
    let after : AreKept (record (books_of unit' session next' records') { ended = false }) (judged ++ []) =
    ends (is_up unit.line.handshake) next next' judged [] refl (record {
      going = going;
      done = ap (λ w. number_of w new.queue) waiting ∙ (λ i. length (of_session ((taken.session ∙ sym session_is) i) new.queue.taken));
      full = λ limit. absurd (cc (limit));
      why = inl (record {
        cause_is = refl;
        none = refl;
        still = refl;
        event = entry;
        says = says;
        all = ap (λ w. number_of w old.queue) may.none ∙ (λ i. length (of_session ((sym session_is) i) old.queue.taken));
        taken = taken.taken ∙ (λ i. old.queue.taken ++ record { session = (sym session_is) i; entry = entry } ∷ []);
      });
    }) before in
    moved_to (record (books_of unit' session next' records') { ended = false }) (books_at unit' new records') judged refl (taken.session ∙ sym session_is) refl refl refl refl refl refl refl refl refl still refl refl
    (subst (AreKept (record (books_of unit' session next' records') { ended = false })) (append-nil judged) after)

-- A part that takes such an event.
pub judges_gone : (unit unit' : Unit) (old new : SiteState) (records records' : Records) (number : ℕ) (entry : Entry) → MayTake (standing_of unit) → TakesEntry old new number entry → is_srp_entry entry ≡ false
    → standing_of unit' ≡ standing_of unit → LinesMore unit.id unit.logins.granted records.grants.items records'.grants.items → Keeps (books_at unit old records) (books_at unit' new records')
    → Judges (standing_of unit) (standing_of unit') old new (books_at unit old records) (books_at unit' new records')
judges_gone unit unit' old new records records' number entry may taken other stands lines keeps =
    judges_still (standing_of unit) (standing_of unit') old new (books_at unit old records) (books_at unit' new records')
    (λ receipts is. intake_stays (intake_of (standing_of unit) new records.grants.items) (intake_of (standing_of unit') new records'.grants.items) receipts
    (grown_of (standing_of unit) (standing_of unit') new new records.grants.items records'.grants.items unit.id unit.logins.granted (advances_same new) lines)
    refl refl refl (ap (λ s. s.waiting) stands) (ap (λ s. s.ended) stands)
    (intake_passes (intake_of (standing_of unit) old records.grants.items) (intake_of (standing_of unit) new records.grants.items) receipts entry
    (grown_of (standing_of unit) (standing_of unit) old new records.grants.items records.grants.items unit.id unit.logins.granted taken.advances (lines_same unit.id unit.logins.granted _ _ refl))
    taken.session taken.taken other (window_copies old new taken.windows) may.none may.none may.goes_on is)) keeps

-- A part that ends the session for such a cause.
pub judges_over : (unit unit' : Unit) (old new : SiteState) (records records' : Records) (session : ℕ) (cause : Lapse) (outstanding granted : ℕ)
    → EndsLogin unit unit' records records' session cause outstanding granted → unit'.id ≡ unit.id → unit'.line.closing ≡ true → is_fatal cause ≡ true → is_limit cause ≡ false
    → session ≡ old.queue.last_session → Advances old new → Passes old new → EndsBooks unit unit' records records' session true cause outstanding granted → (unit.waiting ≡ None → cause ≡ lapses.Refused)
    → ((receipts : List Receipt) (judged : List Judged) → IsIntake (intake_of (standing_of unit) old records.grants.items) receipts → AreKept (books_at unit old records) judged → is_ended unit.line ≡ false)
    → ((arrival : Arrival) → unit.waiting ≡ Some arrival → (judged : List Judged) → is_ended unit.line ≡ false → AreKept (books_at unit old records) judged
    → Gives unit.id old.queue.taken judged records.grants.items (receipt_of (intake_of (standing_of unit) old records.grants.items) arrival None []) cause outstanding granted)
    → Judges (standing_of unit) (standing_of unit') old new (books_at unit old records) (books_at unit' new records')
judges_over unit unit' old new records records' session cause outstanding granted is id closing fatal limited session_is advances passes keeps down going gives =
    judges_ended (standing_of unit) (standing_of unit') old new (books_at unit old records) (books_at unit' new records') (next_of unit'.waiting new.queue) cause outstanding granted
    id is.waiting over id
    (subst (λ (n : ℕ). EndedFor unit.id n records'.grants.items) session_is (ends_for unit unit' records records' session cause outstanding granted is fatal))
    advances passes (ends_line unit unit' records records' session cause outstanding granted is) refl (passed_taken old new passes)
    (ap (λ w. number_of w new.queue) is.waiting ∙ (λ i. length (of_session (passed_session old new passes i) new.queue.taken))) fatal limited down going gives
    (λ judged more end was. moved_to (record (books_of unit' old.queue.last_session (next_of unit'.waiting new.queue) records') { ended = true }) (books_at unit' new records') (judged ++ more)
    refl (passed_session old new passes) refl refl refl refl refl refl refl refl refl over refl refl
    (subst (λ (n : ℕ). EndsBooks unit unit' records records' n true cause outstanding granted) session_is keeps
    (is_up unit.line.handshake) (next_of unit.waiting old.queue) (next_of unit'.waiting new.queue) judged more (no_logout cause fatal) end was))
  where
    closes : (line : Line) → line.closing ≡ true → is_ended line ≡ true
    closes line closing = cc (closing)

    over : is_ended unit'.line ≡ true
    over = closes unit'.line closing

    no_logout : (cause : Lapse) → is_fatal cause ≡ true → is_logout cause ≡ false
    no_logout lapses.Logout fatal = absurd (cc (fatal))
    no_logout lapses.Lost fatal = refl
    no_logout cause fatal = refl

-- A part that fetches the information unit of the entry that waits, and judges it.
pub judges_received : (unit unit' : Unit) (records records' : Records) (old new : SiteState) (arrival : Arrival) (session address : ℕ) (bytes : List ℕ) → unit.waiting ≡ Some arrival → unit'.waiting ≡ None
    → unit'.id ≡ unit.id → address ≡ iu_address arrival.entry → FetchesOne old new address bytes → length bytes ≡ iu_length arrival.entry → new.queue ≡ old.queue → Advances old new
    → LinesMore unit.id unit.logins.granted records.grants.items records'.grants.items → session ≡ old.queue.last_session
    → is_up unit.line.handshake ≡ true → ((next next' : Ahead) → (receipt : Receipt) → IsToJudge (books_of unit session next records) session next' arrival.number bytes receipt
    → JudgesOne (books_of unit session next records) (books_of unit' session next' records') receipt)
    → Judges (standing_of unit) (standing_of unit') old new (books_at unit old records) (books_at unit' new records')
judges_received unit unit' records records' old new arrival session address bytes waits none id at one long queue advances lines session_is up judge =
    judges_fetched (standing_of unit) (standing_of unit') old new (books_at unit old records) (books_at unit' new records') arrival address bytes waits none id at one long queue advances lines
    refl (ap (λ w. next_of w old.queue) waits) refl id up
    (λ receipt to. subst (λ (z : ℕ × Option Arrival). JudgesOne (books_at unit old records) (books_of unit' z.0 (next_of z.1 new.queue) records') receipt)
    (λ i. (ap (λ (q : EndState). q.last_session) (sym queue) i, sym none i))
    (subst (λ (q : EndState). JudgesOne (books_at unit old records) (books_of unit' old.queue.last_session (next_of None q) records') receipt) (sym queue)
    (subst (λ (n : ℕ). (next' : Ahead) → IsToJudge (books_of unit n (next_of unit.waiting old.queue) records) n next' arrival.number bytes receipt
    → JudgesOne (books_of unit n (next_of unit.waiting old.queue) records) (books_of unit' n next' records') receipt) session_is
    (λ next'. judge (next_of unit.waiting old.queue) next' receipt) (next_of None old.queue) to)))

-- What a call that only touches the windows or the queue leaves of the books.
pub keeps_pass : (unit : Unit) (records : Records) (old new : SiteState) → Passes old new → Keeps (books_at unit old records) (books_at unit new records)
keeps_pass unit records old new passes = λ judged is. moved_to (books_at unit old records) (books_at unit new records) judged refl (passed_session old new passes) (next_passed unit.waiting old new passes)
    refl refl refl refl refl refl refl refl refl refl refl is

-- A session begins: nothing is pending, and no login is on.
pub keeps_registered : (unit : Unit) (records : Records) (old mid : SiteState) (books' : Books) → is_ended unit.line ≡ true → unit.waiting ≡ None
    → mid.queue.last_session ≡ old.queue.last_session + 1 → mid.queue.taken ≡ old.queue.taken
    → (unit.pending.items ≡ [] → unit.logins.current ≡ 0 → Keeps (record (books_at unit mid records) { ended = false; up = false }) books') → Keeps (books_at unit old records) books'
keeps_registered unit records old mid books' over waiting session taken next = λ judged is.
    let idle = is.idle over in
    next idle.0 idle.1 judged
    (keeps_session (books_at unit old records) mid.queue.last_session (next_of unit.waiting mid.queue) false judged session over taken (first judged is) idle.0 idle.1 is)
  where
    later : (a b : ℕ) → b ≡ a + 1 → a < b
    later a b next = omega (arith, next)

    first : (judged : List Judged) → AreKept (books_at unit old records) judged → number_of unit.waiting mid.queue ≡ 0
    first judged is = ap (λ w. number_of w mid.queue) waiting
        ∙ ap length (ap (of_session mid.queue.last_session) taken ∙ is.lines.risen mid.queue.last_session (later _ _ session))

-- A session that is to be closed is freed.
pub keeps_freed : (unit : Unit) (line : Line) (records : Records) (old new : SiteState) → Passes old new → line.kept ≡ unit.line.kept → is_ended unit.line ≡ true → is_ended line ≡ true
    → Keeps (books_at unit old records) (books_at (record unit { line = line }) new records)
keeps_freed unit line records old new passes kept over ended = λ judged is.
    let books = books_at unit old records in
    moved_to (record books { ended = true; up = is_up line.handshake }) (books_at (record unit { line = line }) new records) judged
    refl (passed_session old new passes) (next_passed unit.waiting old new passes) refl refl refl refl kept refl refl refl ended refl refl
    (keeps_later books books.next true (is_up line.handshake) judged (le_refl books.next.number) (λ still. is.idle over)
    (lines_closed books.id books.session books.next books.current books.taking books.up (is_up line.handshake) books.credits books.grants judged
    (subst (λ (t : Bool). KeepsLines books.id books.session books.next books.current books.taking books.up books.credits books.grants t judged) over is.lines)) is)

-- While an answer is to be copied the session goes on.
pub answer_going : (books : Books) (judged : List Judged) (outcome : Outcome) → AreKept books judged → books.stage ≡ stages.Answer outcome → books.ended ≡ false
answer_going books judged outcome is at = by outcome (subst (IsAtStage books.current books.pending) at is.stage)
  where
    by : (outcome : Outcome) → IsOutcome books.current books.pending outcome → books.ended ≡ false
    by (outcomes.Granted number) front = going_on books judged front.front front.rest front.parts is
    by outcomes.Rejected front = going_on books judged front.front front.rest front.parts is
    by (outcomes.Served row) front = going_on books judged front.front front.rest front.parts is

-- The copy of an answer was refused, and the session ends.
pub keeps_refused : (unit unit' : Unit) (site : SiteState) (records records' : Records) (session : ℕ) (outcome : Outcome) → session ≡ site.queue.last_session → unit'.waiting ≡ None
    → unit'.line.closing ≡ true → unit.service.stage ≡ stages.Answer outcome → EndsBooks unit unit' records records' session true lapses.Refused 0 0
    → Keeps (books_at unit site records) (books_at unit' site records')
keeps_refused unit unit' site records records' session outcome session_is waiting closing at ends = λ judged is.
    moved_to (record (books_of unit' site.queue.last_session (next_of unit'.waiting site.queue) records') { ended = true }) (books_at unit' site records') judged
    refl refl refl refl refl refl refl refl refl refl refl (closes unit'.line closing) refl refl
    (subst (AreKept (record (books_of unit' site.queue.last_session (next_of unit'.waiting site.queue) records') { ended = true })) (append-nil judged)
    (subst (λ (n : ℕ). EndsBooks unit unit' records records' n true lapses.Refused 0 0) session_is ends (is_up unit.line.handshake) (next_of unit.waiting site.queue) (next_of unit'.waiting site.queue)
    judged [] refl (record {
      going = answer_going (books_at unit site records) judged outcome is at;
      done = ap (λ w. number_of w site.queue) waiting;
      full = λ limit. absurd (cc (limit));
      why = inr (inl (record { cause_is = refl; none = refl; over = refl; taken = refl }));
    }) is))
  where
    closes : (line : Line) → line.closing ≡ true → is_ended line ≡ true
    closes line closing = cc (closing)

-- what a unit's intake is judged by, over the states that its server tells
abbrev pub intake_seen : Unit → (own client : PortState) → EndState → List CopyRecord → List Grant → Intake
intake_seen unit own client queue copies grants = record {
  own = own;
  client = client;
  queue = queue;
  copies = copies;
  grants = grants;
  waiting = unit.waiting;
  ended = is_ended unit.line;
}

-- What a unit that takes its turn has judged.
pub judged_turn : (units : List Unit) (n : ℕ) (unit unit' : Unit) (old new : SiteState) (records records' : Records) (own own' client client' : PortState) (queue queue' : EndState)
    (copies copies' : List CopyRecord) → slice_get units n ≡ Some unit → unit.id ≡ old.own.place.unit
    → TakesIn (standing_of unit) (standing_of unit') old new records.grants.items records'.grants.items
    → Judges (standing_of unit) (standing_of unit') old new (books_at unit old records) (books_at unit' new records')
    → old.own ≡ own → old.client ≡ client → old.queue ≡ queue → old.copies ≡ copies → new.own ≡ own' → new.client ≡ client' → new.queue ≡ queue' → new.copies ≡ copies'
    → (judged : List Judged) → HasJudged units n own client queue copies records.history.items records.grants.items judged
    → (more : List Judged) × (HasJudged (slice_set units n unit') n own' client' queue' copies' records'.history.items records'.grants.items (judged ++ more)
    × AreInTime own.place.unit records.grants.items more)
judged_turn units n unit unit' old new records records' own own' client client' queue queue' copies copies' there named takes judges own_is client_is queue_is copies_is own_is' client_is' queue_is' copies_is' judged has =
    let grants = records.grants.items in
    let grants' = records'.grants.items in
    let named_own : unit.id ≡ own.place.unit = named ∙ ap (λ (port : PortState). port.place.unit) own_is in
    let named_own' : unit'.id ≡ own'.place.unit = takes.id ∙ named ∙ sym takes.place ∙ ap (λ (port : PortState). port.place.unit) own_is' in
    let before : IsIntake (intake_of (standing_of unit) old grants) (map (λ j. j.receipt) judged) =
    subst (λ (z : PortState × PortState × EndState × List CopyRecord). IsIntake (intake_seen unit z.0 z.1 z.2 z.3 grants) (map (λ j. j.receipt) judged))
    (λ i. ((sym own_is) i, (sym client_is) i, (sym queue_is) i, (sym copies_is) i))
    (subst (λ (u : Option Unit). IfSome u (λ u. IsIntake (intake_seen u own client queue copies grants) (map (λ j. j.receipt) judged))) there has.received) in
    let kept : AreKept (books_seen unit own.place.unit queue records.history.items grants) judged =
    subst (λ (u : Option Unit). IfSome u (λ u. AreKept (books_seen u own.place.unit queue records.history.items grants) judged)) there has.kept in
    let after = judges.more named (map (λ j. j.receipt) judged) judged before
    (moved_to (books_seen unit own.place.unit queue records.history.items grants) (books_at unit old records) judged named_own
    (ap (λ (q : EndState). q.last_session) queue_is) (ap (next_of unit.waiting) queue_is) refl refl refl refl refl refl refl refl refl refl refl kept) in (
      after.more,
      (
        record {
          received = subst (λ (u : Option Unit). IfSome u (λ u. IsIntake (intake_seen u own' client' queue' copies' grants') (map (λ j. j.receipt) (judged ++ after.more)))) (sym (get_set_same units n unit unit' there))
              (subst (λ (z : PortState × PortState × EndState × List CopyRecord). IsIntake (intake_seen unit' z.0 z.1 z.2 z.3 grants') (map (λ j. j.receipt) (judged ++ after.more)))
              (λ i. (own_is' i, client_is' i, queue_is' i, copies_is' i))
              (subst (IsIntake (intake_of (standing_of unit') new grants')) (sym (map-append (λ (j : Judged). j.receipt) judged after.more)) after.received));
          kept = subst (λ (u : Option Unit). IfSome u (λ u. AreKept (books_seen u own'.place.unit queue' records'.history.items grants') (judged ++ after.more))) (sym (get_set_same units n unit unit' there))
              (moved_to (books_at unit' new records') (books_seen unit' own'.place.unit queue' records'.history.items grants') (judged ++ after.more) (sym named_own')
              (sym (ap (λ (q : EndState). q.last_session) queue_is')) (sym (ap (next_of unit'.waiting) queue_is')) refl refl refl refl refl refl refl refl refl refl refl after.kept);
        },
        subst (λ (id : UnitId). All (IsInTime id grants) after.more) (takes.id ∙ named_own) after.in_time,
      ),
    )
