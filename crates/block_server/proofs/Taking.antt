-- What the parts of a turn do to a unit's intake, one behind the other.
use Rattle.std.proofs.Common.{◌≡◌, ◌+◌, ◌++◌, ◌<◌, ℕ, zero, suc, true, false, Contains, IfSome, List, [], ◌∷◌, Option, Some, None, length, filter, slice_get, slice_set, refl, sym, ◌∙◌, ap, ap₂, subst, arith, append-nil, append_assoc, All}
use Rattle.std.proofs.lemmas.List.Elements.{All-nil, All-cons, All-append, All-weaker, Contains-push, filter-append}
use Rattle.crq_session.specs.EndState.{EndState}
use Rattle.rdma_copy.specs.declared.copy.CopyRecord.{CopyRecord}
use Rattle.tce_window.specs.PortState.{PortPlace, PortState}
use Rattle.vio_num.specs.Entry.{is_srp_entry, iu_address, iu_length}
use Rattle.vio_num.specs.declared.entry.Entry.{Entry}
use Rattle.vio_num.specs.declared.history.Grant.{Grant}
use Rattle.vio_num.specs.declared.history.Grant.TheVariants.{Lapsed}
use Rattle.vio_num.specs.declared.history.Lapse.{Lapse}
use Rattle.vio_num.specs.declared.names.UnitId.{UnitId}
use Rattle.block_server.specs.Advances.{Advances}
use Rattle.block_server.specs.Ends.{EndsLogin}
use Rattle.block_server.specs.Moves.{Fetches, FetchesOne, Passes, is_intake, taken_so_far}
use Rattle.block_server.specs.Receipts.{AwaitNone, EndedFor, HasIntake, Intake, IsIntake, GrantsMany, LinesMore, MayTake, Receipt, ReceivesMore, Standing, TakesEntry, TakesIn, intake_of, is_ended, is_fatal, standing_of, unit_of}
use Rattle.block_server.specs.SiteState.{SameWindows, SiteState}
use Rattle.block_server.specs.declared.line.Line.{Line}
use Rattle.block_server.specs.declared.records.Records.{Records}
use Rattle.block_server.specs.declared.request.Arrival.{Arrival}
use Rattle.block_server.specs.declared.unit.Unit.{Unit}
use Rattle.block_server.proofs.Units.{get_set_same}
use Rattle.block_server.proofs.Receiving.{Grown, intake_begins, intake_closes, intake_ends, intake_fetches, intake_passes, intake_stays, intake_takes, receipt_of}

-- how a unit stands
pub id_stands : (unit unit' : Standing) → unit' ≡ unit → unit'.id ≡ unit.id
id_stands unit unit' same = ap (λ s. s.id) same

pub waiting_stands : (unit unit' : Standing) → unit' ≡ unit → unit'.waiting ≡ unit.waiting
waiting_stands unit unit' same = ap (λ s. s.waiting) same

pub ended_stands : (unit unit' : Standing) → unit' ≡ unit → unit'.ended ≡ unit.ended
ended_stands unit unit' same = ap (λ s. s.ended) same

pub stands : (unit unit' : Standing) → unit'.id ≡ unit.id → unit'.granted ≡ unit.granted → unit'.waiting ≡ unit.waiting → unit'.ended ≡ unit.ended → unit' ≡ unit
stands unit unit' id granted waiting ended = λ i. record { id = id i; granted = granted i; waiting = waiting i; ended = ended i }

pub stands_line : (unit unit' : Unit) → unit'.id ≡ unit.id → unit'.logins.granted ≡ unit.logins.granted → unit'.waiting ≡ unit.waiting → unit'.line.closing ≡ unit.line.closing
    → unit'.line.handshake ≡ unit.line.handshake → standing_of unit' ≡ standing_of unit
stands_line unit unit' id granted waiting closing handshake = stands (standing_of unit) (standing_of unit') id granted waiting (ended_same unit.line unit'.line closing handshake)
  where
    ended_same : (line line' : Line) → line'.closing ≡ line.closing → line'.handshake ≡ line.handshake → is_ended line' ≡ is_ended line
    ended_same line line' closing handshake = cc (closing, handshake)

pub may_stands : (unit unit' : Standing) → unit' ≡ unit → MayTake unit → MayTake unit'
may_stands unit unit' same may = subst MayTake (sym same) may

-- what a call passes over
pub passed_session : (old new : SiteState) → Passes old new → new.queue.last_session ≡ old.queue.last_session
unfolding taken_so_far
passed_session old new same = ap (λ t. t.session) same

pub passed_taken : (old new : SiteState) → Passes old new → new.queue.taken ≡ old.queue.taken
unfolding taken_so_far
passed_taken old new same = ap (λ t. t.taken) same

pub passed_copies : (old new : SiteState) → Passes old new → filter (is_intake new.own.place.unit) new.copies ≡ filter (is_intake old.own.place.unit) old.copies
unfolding taken_so_far
passed_copies old new same = ap (λ t. t.copies) same

pub window_copies : (old new : SiteState) → SameWindows old new → filter (is_intake new.own.place.unit) new.copies ≡ filter (is_intake old.own.place.unit) old.copies
window_copies old new same = ap₂ (λ (own : PortState) copies. filter (is_intake own.place.unit) copies) same.own same.copies

pub passes_windows : (old new : SiteState) → new.queue.last_session ≡ old.queue.last_session → new.queue.taken ≡ old.queue.taken → SameWindows old new → Passes old new
unfolding taken_so_far
passes_windows old new session taken same = cc (session, taken, window_copies old new same)

-- lines on logins
pub lines_same : (unit : UnitId) (granted : ℕ) (old new : List Grant) → new ≡ old → LinesMore unit granted old new
lines_same unit granted old new same =
    record { more = []; added = same ∙ sym (append-nil old); of_unit = All-nil (λ line. unit_of line ≡ unit); many = All-nil (GrantsMany granted) }

pub lines_one : (unit : UnitId) (granted : ℕ) (old new : List Grant) (line : Grant) → unit_of line ≡ unit → GrantsMany granted line → new ≡ old ++ line ∷ [] → LinesMore unit granted old new
lines_one unit granted old new line of many added = record {
  more = line ∷ [];
  added = added;
  of_unit = All-cons (λ line. unit_of line ≡ unit) line [] of (All-nil (λ line. unit_of line ≡ unit));
  many = All-cons (GrantsMany granted) line [] many (All-nil (GrantsMany granted));
}

pub lines_pushed : (unit : UnitId) (granted : ℕ) (old new : List Grant) (line : Grant) → new ≡ old ++ line ∷ [] → unit_of line ≡ unit → GrantsMany granted line → LinesMore unit granted old new
lines_pushed unit granted old new line added of many = lines_one unit granted old new line of many added

pub lines_on : (unit unit' : UnitId) (granted granted' : ℕ) (old mid new : List Grant) → unit' ≡ unit → granted' ≡ granted → LinesMore unit granted old mid → LinesMore unit' granted' mid new
    → LinesMore unit granted old new
lines_on unit unit' granted granted' old mid new same many first next = record {
  more = first.more ++ next.more;
  added = next.added ∙ ap (λ front. front ++ next.more) first.added ∙ append_assoc old first.more next.more;
  of_unit = All-append (λ line. unit_of line ≡ unit) first.more next.more first.of_unit
      (All-weaker (λ line. unit_of line ≡ unit') (λ line. unit_of line ≡ unit) (λ line of. of ∙ same) next.more next.of_unit);
  many = All-append (GrantsMany granted) first.more next.more first.many (subst (λ (n : ℕ). All (GrantsMany n) next.more) many next.many);
}

pub grown_of : (unit unit' : Standing) (old new : SiteState) (grants grants' : List Grant) (id : UnitId) (granted : ℕ) → Advances old new → LinesMore id granted grants grants'
    → Grown (intake_of unit old grants) (intake_of unit' new grants')
grown_of unit unit' old new grants grants' id granted advances lines =
    record { own = advances.own; client = advances.client; taken = advances.taken; grants = (lines.more, lines.added) }

no_more : (intake : Intake) (receipts : List Receipt) → IsIntake intake receipts → ReceivesMore intake receipts
no_more intake receipts is = record { more = []; is = subst (IsIntake intake) (sym (append-nil receipts)) is }

-- One part of a turn behind another.
pub takes_on : (u0 u1 u2 : Standing) (s0 s1 s2 : SiteState) (r0 r1 r2 : List Grant) → TakesIn u0 u1 s0 s1 r0 r1 → TakesIn u1 u2 s1 s2 r1 r2 → TakesIn u0 u2 s0 s2 r0 r2
takes_on u0 u1 u2 s0 s1 s2 r0 r1 r2 first next = record {
  id = next.id ∙ first.id;
  granted = next.granted ∙ first.granted;
  place = next.place ∙ first.place;
  lines = lines_on u0.id u1.id u0.granted u1.granted _ _ _ first.id first.granted first.lines next.lines;
  receipts = λ own receipts is.
      let one = first.receipts own receipts is in
      let other = next.receipts (first.id ∙ own ∙ sym first.place) (receipts ++ one.more) one.is in
      record { more = one.more ++ other.more; is = subst (IsIntake (intake_of u2 s2 r2)) (append_assoc receipts one.more other.more) other.is };
}

-- A part that takes nothing, fetches nothing, and leaves the unit as it stands.
pub takes_none : (unit unit' : Standing) (old new : SiteState) (grants grants' : List Grant) → unit' ≡ unit → Advances old new → Passes old new
    → LinesMore unit.id unit.granted grants grants' → TakesIn unit unit' old new grants grants'
takes_none unit unit' old new grants grants' same advances passes lines = record {
  id = ap (λ s. s.id) same;
  granted = ap (λ s. s.granted) same;
  place = advances.own.unit;
  lines = lines;
  receipts = λ own receipts is. no_more (intake_of unit' new grants') receipts
      (intake_stays (intake_of unit old grants) (intake_of unit' new grants') receipts (grown_of unit unit' old new grants grants' unit.id unit.granted advances lines)
      (passed_session old new passes) (passed_taken old new passes) (passed_copies old new passes) (ap (λ s. s.waiting) same) (ap (λ s. s.ended) same) is);
}

-- the unit's lines on the end of a session
pub ends_line : (unit unit' : Unit) (records records' : Records) (session : ℕ) (cause : Lapse) (outstanding granted : ℕ)
    → EndsLogin unit unit' records records' session cause outstanding granted → LinesMore unit.id unit.logins.granted records.grants.items records'.grants.items
ends_line unit unit' records records' session cause outstanding granted is =
    lines_one unit.id unit.logins.granted _ _ (Lapsed unit.id session unit.logins.current cause outstanding granted) refl tt is.line

pub ends_for : (unit unit' : Unit) (records records' : Records) (session : ℕ) (cause : Lapse) (outstanding granted : ℕ)
    → EndsLogin unit unit' records records' session cause outstanding granted → is_fatal cause ≡ true → EndedFor unit.id session records'.grants.items
ends_for unit unit' records records' session cause outstanding granted is fatal =
    let line = Lapsed unit.id session unit.logins.current cause outstanding granted in
    record {
      login = unit.logins.current;
      cause = cause;
      outstanding = outstanding;
      granted = granted;
      listed = subst (λ lines. Contains lines line) (sym is.line) (Contains-push records.grants.items line);
      fatal = fatal;
    }

-- A part that ends the session for such a cause: the entry that waits, if one does, is not fetched.
pub takes_ended : (unit unit' : Unit) (old new : SiteState) (records records' : Records) (session : ℕ) (cause : Lapse) (outstanding granted : ℕ)
    → EndsLogin unit unit' records records' session cause outstanding granted → unit'.id ≡ unit.id → unit'.line.closing ≡ true → is_fatal cause ≡ true
    → session ≡ old.queue.last_session → Advances old new → Passes old new
    → TakesIn (standing_of unit) (standing_of unit') old new records.grants.items records'.grants.items
takes_ended unit unit' old new records records' session cause outstanding granted is id closing fatal session_is advances passes =
    let lines = ends_line unit unit' records records' session cause outstanding granted is in
    let over : is_ended unit'.line ≡ true = closes unit'.line closing in
    let grown = grown_of (standing_of unit) (standing_of unit') old new records.grants.items records'.grants.items unit.id unit.logins.granted advances lines in
    let before = intake_of (standing_of unit) old records.grants.items in
    let after = intake_of (standing_of unit') new records'.grants.items in
    record {
      id = id;
      granted = is.as_many;
      place = advances.own.unit;
      lines = lines;
      receipts = λ own receipts intake.
          let ended : EndedFor new.own.place.unit old.queue.last_session records'.grants.items =
          subst (λ (u : UnitId). EndedFor u old.queue.last_session records'.grants.items) (own ∙ sym advances.own.unit)
          (subst (λ (n : ℕ). EndedFor unit.id n records'.grants.items) session_is (ends_for unit unit' records records' session cause outstanding granted is fatal)) in
          at before after receipts grown (passed_session old new passes) (passed_taken old new passes) (passed_copies old new passes) ended is.waiting over intake unit.waiting refl;
    }
  where
    closes : (line : Line) → line.closing ≡ true → is_ended line ≡ true
    closes line closing = cc (closing)

    at : (before after : Intake) (receipts : List Receipt) → Grown before after → after.queue.last_session ≡ before.queue.last_session → after.queue.taken ≡ before.queue.taken
        → filter (is_intake after.own.place.unit) after.copies ≡ filter (is_intake before.own.place.unit) before.copies
        → EndedFor after.own.place.unit before.queue.last_session after.grants → after.waiting ≡ None → after.ended ≡ true → IsIntake before receipts
        → (waiting : Option Arrival) → before.waiting ≡ waiting → ReceivesMore after receipts
    at before after receipts grown session taken copies ended none over intake None waits =
        no_more after receipts (intake_closes before after receipts grown session taken copies waits none over intake)
    at before after receipts grown session taken copies ended none over intake (Some arrival) waits = record {
      more = receipt_of before arrival None [] ∷ [];
      is = intake_ends before after receipts arrival grown session taken copies ended waits none over intake;
    }

-- A part that fetches the information unit of the entry that waits.
pub takes_fetched : (unit unit' : Standing) (old new : SiteState) (grants grants' : List Grant) (arrival : Arrival) (address : ℕ) (bytes : List ℕ)
    → unit.waiting ≡ Some arrival → unit'.waiting ≡ None → unit'.id ≡ unit.id → unit'.granted ≡ unit.granted → address ≡ iu_address arrival.entry → FetchesOne old new address bytes → length bytes ≡ iu_length arrival.entry
    → new.queue ≡ old.queue → Advances old new → LinesMore unit.id unit.granted grants grants' → TakesIn unit unit' old new grants grants'
takes_fetched unit unit' old new grants grants' arrival address bytes waits none id granted at one long queue advances lines = record {
  id = id;
  granted = granted;
  place = advances.own.unit;
  lines = lines;
  receipts = λ own receipts is. record {
    more = receipt_of (intake_of unit old grants) arrival (Some one.copy) bytes ∷ [];
    is = intake_fetches (intake_of unit old grants) (intake_of unit' new grants') receipts arrival one.copy bytes (grown_of unit unit' old new grants grants' unit.id unit.granted advances lines)
        (ap (λ q. q.last_session) queue) (ap (λ q. q.taken) queue) (one_more old new one.copy one.made one.is_unit advances.own_place)
        long
        (subst (λ (z : ℕ × ℕ). Fetches new.own new.client z.0 0 z.1 bytes one.copy) (λ i. (at i, long i)) one.fetched) waits none is;
  };
}
  where
    one_more : (old new : SiteState) (copy : CopyRecord) → new.copies ≡ old.copies ++ copy ∷ [] → is_intake new.own.place.unit copy ≡ true → new.own.place ≡ old.own.place
        → filter (is_intake new.own.place.unit) new.copies ≡ filter (is_intake old.own.place.unit) old.copies ++ copy ∷ []
    one_more old new copy made is place =
        ap (filter (is_intake new.own.place.unit)) made ∙ filter-append (is_intake new.own.place.unit) old.copies (copy ∷ [])
        ∙ ap (λ more. filter (is_intake new.own.place.unit) old.copies ++ more) (only copy is)
        ∙ ap (λ (p : PortPlace). filter (is_intake p.unit) old.copies ++ copy ∷ []) place
      where
        only : (copy : CopyRecord) → is_intake new.own.place.unit copy ≡ true → filter (is_intake new.own.place.unit) (copy ∷ []) ≡ copy ∷ []
        only copy is = rw is refl

-- A part that takes an SRP entry, which waits to be fetched.
pub takes_entry : (unit unit' : Standing) (old new : SiteState) (grants grants' : List Grant) (number : ℕ) (entry : Entry) (arrival : Arrival) → MayTake unit
    → TakesEntry old new number entry → is_srp_entry entry ≡ true → arrival.number ≡ number → arrival.entry ≡ entry → Advances old new
    → unit'.id ≡ unit.id → unit'.granted ≡ unit.granted → unit'.waiting ≡ Some arrival → unit'.ended ≡ unit.ended → grants' ≡ grants → TakesIn unit unit' old new grants grants'
takes_entry unit unit' old new grants grants' number entry arrival may taken srp at of advances id granted waits ended same =
    let lines = lines_same unit.id unit.granted _ _ same in
    record {
      id = id;
      granted = granted;
      place = advances.own.unit;
      lines = lines;
      receipts = λ own receipts is. no_more (intake_of unit' new grants') receipts
          (intake_takes (intake_of unit old grants) (intake_of unit' new grants') receipts number entry arrival (grown_of unit unit' old new grants grants' unit.id unit.granted advances lines)
          taken.session taken.number_is taken.taken srp (window_copies old new taken.windows) may.none waits at of (ended ∙ may.goes_on) may.goes_on is);
    }

-- A part that takes another entry.
pub takes_other : (unit unit' : Standing) (old new : SiteState) (grants grants' : List Grant) (number : ℕ) (entry : Entry) → MayTake unit
    → TakesEntry old new number entry → is_srp_entry entry ≡ false → Advances old new
    → unit'.id ≡ unit.id → unit'.granted ≡ unit.granted → unit'.waiting ≡ None → grants' ≡ grants → TakesIn unit unit' old new grants grants'
takes_other unit unit' old new grants grants' number entry may taken other advances id granted none same =
    let lines = lines_same unit.id unit.granted _ _ same in
    record {
      id = id;
      granted = granted;
      place = advances.own.unit;
      lines = lines;
      receipts = λ own receipts is. no_more (intake_of unit' new grants') receipts
          (intake_passes (intake_of unit old grants) (intake_of unit' new grants') receipts entry (grown_of unit unit' old new grants grants' unit.id unit.granted advances lines)
          taken.session taken.taken other (window_copies old new taken.windows) may.none none may.goes_on is);
    }

-- A part in which a session begins.
pub takes_session : (unit unit' : Standing) (old mid new : SiteState) (grants grants' : List Grant) → unit.ended ≡ true
    → mid.queue.last_session ≡ old.queue.last_session + 1 → mid.queue.taken ≡ old.queue.taken → SameWindows old mid → Passes mid new → Advances old new
    → unit'.id ≡ unit.id → unit'.granted ≡ unit.granted → unit'.waiting ≡ unit.waiting → grants' ≡ grants → TakesIn unit unit' old new grants grants'
takes_session unit unit' old mid new grants grants' ended session taken windows passes advances id granted waiting same =
    let lines = lines_same unit.id unit.granted _ _ same in
    record {
      id = id;
      granted = granted;
      place = advances.own.unit;
      lines = lines;
      receipts = λ own receipts is. no_more (intake_of unit' new grants') receipts
          (intake_begins (intake_of unit old grants) (intake_of unit' new grants') receipts (grown_of unit unit' old new grants grants' unit.id unit.granted advances lines)
          (later _ _ _ session (passed_session mid new passes)) (passed_taken mid new passes ∙ taken) (passed_copies mid new passes ∙ window_copies old mid windows)
          waiting ended is);
    }
  where
    later : (a b c : ℕ) → b ≡ a + 1 → c ≡ b → a < c
    later a b c next same = omega (arith, next, same)

-- The entries of a unit that takes its turn, which bears the name of its own window.
pub intake_turn : (units : List Unit) (n : ℕ) (unit unit' : Unit) (old new : SiteState) (grants grants' : List Grant) (own own' client client' : PortState) (queue queue' : EndState)
    (copies copies' : List CopyRecord) → slice_get units n ≡ Some unit → unit.id ≡ old.own.place.unit → TakesIn (standing_of unit) (standing_of unit') old new grants grants'
    → old.own ≡ own → old.client ≡ client → old.queue ≡ queue → old.copies ≡ copies → new.own ≡ own' → new.client ≡ client' → new.queue ≡ queue' → new.copies ≡ copies'
    → (receipts : List Receipt) → HasIntake units n own client queue copies grants receipts
    → (more : List Receipt) × HasIntake (slice_set units n unit') n own' client' queue' copies' grants' (receipts ++ more)
intake_turn units n unit unit' old new grants grants' own own' client client' queue queue' copies copies' there named takes own_is client_is queue_is copies_is own_is' client_is' queue_is' copies_is' receipts is =
    let before : IsIntake (intake_of (standing_of unit) old grants) receipts =
    subst (λ (z : PortState × PortState × EndState × List CopyRecord). IsIntake (record {
      own = z.0;
      client = z.1;
      queue = z.2;
      copies = z.3;
      grants = grants;
      waiting = unit.waiting;
      ended = is_ended unit.line;
    }) receipts) (λ i. ((sym own_is) i, (sym client_is) i, (sym queue_is) i, (sym copies_is) i))
    (subst (λ (u : Option Unit). IfSome u (λ u. IsIntake (record {
      own = own;
      client = client;
      queue = queue;
      copies = copies;
      grants = grants;
      waiting = u.waiting;
      ended = is_ended u.line;
    }) receipts)) there is) in
    let after = takes.receipts named receipts before in (
      after.more,
      subst (λ (u : Option Unit). IfSome u (λ u. IsIntake (record {
        own = own';
        client = client';
        queue = queue';
        copies = copies';
        grants = grants';
        waiting = u.waiting;
        ended = is_ended u.line;
      }) (receipts ++ after.more))) (sym (get_set_same units n unit unit' there))
          (subst (λ (z : PortState × PortState × EndState × List CopyRecord). IsIntake (record {
            own = z.0;
            client = z.1;
            queue = z.2;
            copies = z.3;
            grants = grants';
            waiting = unit'.waiting;
            ended = is_ended unit'.line;
          }) (receipts ++ after.more)) (λ i. (own_is' i, client_is' i, queue_is' i, copies_is' i)) after.is),
    )

-- No unit has an entry that waits.
pub none_wait : (units : List Unit) → units ≡ [] → AwaitNone units
none_wait units none = subst AwaitNone (sym none) (λ n. tt)

pub more_wait : (units : List Unit) (new : Unit) → AwaitNone units → new.waiting ≡ None → AwaitNone (units ++ new ∷ [])
more_wait [] new all none zero = none
more_wait [] new all none (suc n) = tt
more_wait (first ∷ units) new all none zero = all zero
more_wait (first ∷ units) new all none (suc n) = more_wait units new (λ m. all (suc m)) none n
