-- Laws of a unit's books for the crates above: they stay over turns of other units, and where nothing is pending all is served.
use Rattle.block_server.proofs.Counting.{limits_to, same_self}
use Rattle.std.proofs.Common.{◌≡◌, ◌≢◌, ◌+◌, inl, inr, ◌++◌, ◌==◌, ◌&&◌, ◌≤◌, ℕ, zero, suc, Bool, true, false, All, List, [], ◌∷◌, Option, Some, None, IfSome, filter, length, map, refl, sym, ◌∙◌, ap, subst}
use Rattle.std.specs.List.{slice_get}
use Rattle.std.proofs.lemmas.Bool.{eqb-true}
use Rattle.std.proofs.lemmas.Option.{IfSome_then}
use Rattle.std.proofs.lemmas.List.Elements.{All-cons, All-head, All-tail, All-weaker}
use Rattle.crq_ring.specs.Sessions.{of_session}
use Rattle.crq_ring.proofs.SessionLaws.{of_session-nil}
use Rattle.crq_session.specs.EndState.{EndState}
use Rattle.vio_num.specs.declared.history.Grant.{Grant}
use Rattle.vio_num.specs.declared.history.Served.{Served}
use Rattle.vio_num.specs.declared.names.UnitId.{UnitId}
use Rattle.block_server.specs.Answering.{OnlyRowsOf, StaysRow}
use Rattle.block_server.specs.Books.{books_seen, is_up, next_of, number_of}
use Rattle.block_server.specs.Judged.{AreCounted, AreKept, Books, Credits, IsAllServed, IsPast, IsServedUnder, IsWorkDone, Judged, RowKey, due, due_under, has_row, is_under, keys_of, row_key, row_number, row_numbers, IsOpenRow, answered_under}
use Rattle.block_server.specs.Closings.{HasCauses}
use Rattle.block_server.specs.Numbers.{NameLogins, Rise, granted_numbers}
use Rattle.block_server.specs.Judges.{AreUnused, HasKept}
use Rattle.block_server.specs.Makers.{same_unit}
use Rattle.block_server.specs.Receipts.{EndedFor, LinesMore, is_ended, unit_of}
use Rattle.block_server.specs.declared.request.Arrival.{Arrival}
use Rattle.block_server.specs.declared.request.Request.{Request}
use Rattle.block_server.specs.declared.service.Stage.{Stage}
use Rattle.block_server.specs.declared.service.Stage.TheVariants.{Start}
use Rattle.block_server.specs.declared.unit.Unit.{Unit}
use Rattle.block_server.proofs.Bystanding.{fresh_books, keeps_lines, kept_new}
use Rattle.block_server.proofs.Judging.{filter_first, filter_pass}
use Rattle.block_server.proofs.Keeping.{moved_to}
use Rattle.block_server.proofs.RowsRising.{rows_first, rows_passed, rows_to}

-- names that are apart
pub apart_is : (a b : UnitId) → a ≢ b → same_unit a b ≡ false
apart_is a b apart = at (a.partition == b.partition) refl (a.unit == b.unit) refl
  where
    at : (p : Bool) → (a.partition == b.partition) ≡ p → (u : Bool) → (a.unit == b.unit) ≡ u → (p && u) ≡ false
    at true p_is true u_is = absurd (apart (λ i. record { partition = eqb-true a.partition b.partition p_is i; unit = eqb-true a.unit b.unit u_is i }))
    at true p_is false u_is = refl
    at false p_is u u_is = refl

-- the same unit, seen later, or by another of its queue's ends
pub kept_seen : (units units' : List Unit) (unit : ℕ) (id : UnitId) (queue queue' : EndState) (history : List Served) (grants : List Grant) (judged : List Judged)
    → slice_get units' unit ≡ slice_get units unit → queue'.last_session ≡ queue.last_session → queue'.taken ≡ queue.taken
    → HasKept units unit id queue history grants judged → HasKept units' unit id queue' history grants judged
kept_seen units units' unit id queue queue' history grants judged same session taken has =
    subst (λ (o : Option Unit). IfSome o (λ u. AreKept (books_seen u id queue' history grants) judged)) (sym same)
    (IfSome_then (slice_get units unit) has
    (λ u is. moved_to (books_seen u id queue history grants) (books_seen u id queue' history grants) judged refl session (next u.waiting)
    refl refl refl refl refl refl refl refl refl refl refl is))
  where
    next : (waiting : Option Arrival) → next_of waiting queue' ≡ next_of waiting queue
    next (Some arrival) = λ i. record { number = arrival.number; taken = taken i }
    next None = λ i. record { number = length (of_session (session i) (taken i)); taken = taken i }

-- rows of other units
no_row : (unit other : UnitId) (login : ℕ) (row : Served) → other ≢ unit → row.unit ≡ other → is_under unit login (row_key row) ≡ false
no_row unit other login row apart is = and_false (same_unit row.unit unit) (row.login == login) (apart_is row.unit unit (λ e. apart (sym is ∙ e)))
  where
    and_false : (a b : Bool) → a ≡ false → (a && b) ≡ false
    and_false a b is = cc (is)

no_number : (unit other : UnitId) (q : ℕ) (row : Served) → other ≢ unit → row.unit ≡ other → row_number unit q (row_key row) ≡ None
no_number unit other q row apart is = rw (and_false (same_unit row.unit unit) (row.session == q) (apart_is row.unit unit (λ e. apart (sym is ∙ e)))) refl
  where
    and_false : (a b : Bool) → a ≡ false → (a && b) ≡ false
    and_false a b is = cc (is)

-- Of another unit's rows none is of this one, and those of this one stay.
record Stay (unit : UnitId) (keys keys' : List RowKey) : Type 0 where
  same : (login : ℕ) → filter (is_under unit login) keys' ≡ filter (is_under unit login) keys
  under : All (λ (row : RowKey). same_unit row.unit unit ≡ true → 1 ≤ row.login) keys → All (λ (row : RowKey). same_unit row.unit unit ≡ true → 1 ≤ row.login) keys'
  place : (i : ℕ) (row : RowKey) → slice_get keys i ≡ Some row → same_unit row.unit unit ≡ true → slice_get keys' i ≡ Some row
  numbers : (q : ℕ) → row_numbers unit q keys' ≡ row_numbers unit q keys

apart_rows : (unit other : UnitId) (rows : List Served) → other ≢ unit → All (λ row. row.unit ≡ other) rows → Stay unit [] (keys_of rows)
apart_rows unit other [] apart all = record { same = λ login. refl; under = λ none. none; place = λ i row there. absurd (cc (there)); numbers = λ q. refl }
apart_rows unit other (row ∷ rows) apart all =
    let is : row.unit ≡ other = All-head (λ (r : Served). r.unit ≡ other) row rows all in
    let rest = apart_rows unit other rows apart (All-tail (λ (r : Served). r.unit ≡ other) row rows all) in
    record {
      same = λ login. filter_pass (is_under unit login) (row_key row) (keys_of rows) (no_row unit other login row apart is) ∙ rest.same login;
      under = λ none. All-cons (λ (r : RowKey). same_unit r.unit unit ≡ true → 1 ≤ r.login) (row_key row) (keys_of rows)
          (λ own. absurd (cc (own, apart_is row.unit unit (λ e. apart (sym is ∙ e))))) (rest.under none);
      place = λ i row there. absurd (cc (there));
      numbers = λ q. rows_passed unit q (row_key row) (keys_of rows) (no_number unit other q row apart is) ∙ rest.numbers q;
    }

rows_stay : (unit other : UnitId) (rows news : List Served) → other ≢ unit → OnlyRowsOf other rows news → Stay unit (keys_of rows) (keys_of news)
rows_stay unit other [] news apart only = apart_rows unit other news apart only
rows_stay unit other (row ∷ rows) [] apart only = absurd only
rows_stay unit other (row ∷ rows) (new ∷ news) apart only = by (rows_stay unit other rows news apart only.1) only.0
  where
    front : Stay unit (keys_of rows) (keys_of news) → (login : ℕ) → (b : Bool) → is_under unit login (row_key row) ≡ b → filter (is_under unit login) (keys_of (row ∷ news)) ≡ filter (is_under unit login) (keys_of (row ∷ rows))
    front rest login true is = filter_first (is_under unit login) (row_key row) (keys_of news) is ∙ ap (λ xs. row_key row ∷ xs) (rest.same login)
        ∙ sym (filter_first (is_under unit login) (row_key row) (keys_of rows) is)
    front rest login false is = filter_pass (is_under unit login) (row_key row) (keys_of news) is ∙ rest.same login
        ∙ sym (filter_pass (is_under unit login) (row_key row) (keys_of rows) is)

    kept_place : Stay unit (keys_of rows) (keys_of news) → new ≡ row → (i : ℕ) (k : RowKey) → slice_get (keys_of (row ∷ rows)) i ≡ Some k → same_unit k.unit unit ≡ true
        → slice_get (keys_of (new ∷ news)) i ≡ Some k
    kept_place rest same zero k there own = ap (λ (r : Served). Some (row_key r)) same ∙ there
    kept_place rest same (suc i) k there own = rest.place i k there own

    some_key : (a b : RowKey) → Some a ≡ Some b → a ≡ b
    some_key a b same = cc (same)

    other_place : Stay unit (keys_of rows) (keys_of news) → row.unit ≡ other → (i : ℕ) (k : RowKey) → slice_get (keys_of (row ∷ rows)) i ≡ Some k → same_unit k.unit unit ≡ true
        → slice_get (keys_of (new ∷ news)) i ≡ Some k
    other_place rest of zero k there own = absurd (cc (own, ap (λ (r : RowKey). same_unit r.unit unit) (some_key (row_key row) k there), apart_is row.unit unit (λ e. apart (sym of ∙ e))))
    other_place rest of (suc i) k there own = rest.place i k there own

    by : Stay unit (keys_of rows) (keys_of news) → StaysRow other row new → Stay unit (keys_of (row ∷ rows)) (keys_of (new ∷ news))
    by rest (inl same) = record {
      same = λ login. ap (λ (r : Served). filter (is_under unit login) (keys_of (r ∷ news))) same ∙ front rest login (is_under unit login (row_key row)) refl;
      under = λ all. subst (λ (r : Served). All (λ (k : RowKey). same_unit k.unit unit ≡ true → 1 ≤ k.login) (keys_of (r ∷ news))) (sym same)
          (All-cons (λ (k : RowKey). same_unit k.unit unit ≡ true → 1 ≤ k.login) (row_key row) (keys_of news)
          (All-head (λ (k : RowKey). same_unit k.unit unit ≡ true → 1 ≤ k.login) (row_key row) (keys_of rows) all)
          (rest.under (All-tail (λ (k : RowKey). same_unit k.unit unit ≡ true → 1 ≤ k.login) (row_key row) (keys_of rows) all)));
      place = kept_place rest same;
      numbers = λ q. subst (λ (r : Served). row_numbers unit q (keys_of (r ∷ news)) ≡ row_numbers unit q (keys_of (row ∷ rows))) (sym same)
          (rows_first unit q (row_key row) (keys_of rows) (keys_of news) (rest.numbers q));
    }
    by rest (inr both) = record {
      same = λ login. filter_pass (is_under unit login) (row_key new) (keys_of news) (no_row unit other login new apart both.is) ∙ rest.same login
          ∙ sym (filter_pass (is_under unit login) (row_key row) (keys_of rows) (no_row unit other login row apart both.was));
      under = λ all. All-cons (λ (k : RowKey). same_unit k.unit unit ≡ true → 1 ≤ k.login) (row_key new) (keys_of news)
          (λ own. absurd (cc (own, apart_is new.unit unit (λ e. apart (sym both.is ∙ e)))))
          (rest.under (All-tail (λ (k : RowKey). same_unit k.unit unit ≡ true → 1 ≤ k.login) (row_key row) (keys_of rows) all));
      place = other_place rest both.was;
      numbers = λ q. rows_passed unit q (row_key new) (keys_of news) (no_number unit other q new apart both.is) ∙ rest.numbers q
          ∙ sym (rows_passed unit q (row_key row) (keys_of rows) (no_number unit other q row apart both.was));
    }

-- the books over them
rows_kept : (books : Books) (rows : List RowKey) (judged : List Judged) → Stay books.id books.rows rows → AreKept books judged → AreKept (record books { rows = rows }) judged
rows_kept books rows judged stay is = record {
  fates = is.fates;
  served = λ login some. at login (is.served login some);
  logins = is.logins;
  pending = is.pending;
  stage = is.stage;
  kept = is.kept;
  under = stay.under is.under;
  lines = is.lines;
  idle = is.idle;
  numbers = is.numbers;
  rising = is.rising;
  rows = rows_to books.id books.session books.next.number (due (has_row books.stage) books.pending) (due (has_row books.stage) books.pending) books.rows rows refl stay.numbers is.rows;
  counted = record {
    row = λ place in_service. stays (is.counted.row place in_service);
    exact = λ some. ap (λ (n : ℕ). books.credits.outstanding + n) (answered books.current) ∙ is.counted.exact some;
    most = is.counted.most;
    limits = limits_to books.id books.rows rows judged judged books.grants (λ login some. (answered login, refl)) is.counted.limits;
    asked_out = is.counted.asked_out;
    none_later = is.counted.none_later;
  };
}
  where
    answered : (login : ℕ) → answered_under books.id login rows ≡ answered_under books.id login books.rows
    answered login = ap (λ (xs : List RowKey). length (filter (λ (r : RowKey). r.answered) xs)) (stay.same login)

    stays : {place : ℕ} → IsOpenRow books.id books.current books.rows place → IsOpenRow books.id books.current rows place
    stays {place = place} was = record {
      row = was.row;
      there = stay.place place was.row was.there (subst (λ (id : UnitId). same_unit id books.id ≡ true) (sym was.unit_is) (same_self books.id));
      unit_is = was.unit_is;
      login_is = was.login_is;
      open_is = was.open_is;
    }

    at : (login : ℕ) → IsServedUnder books.id books.session judged books.rows books.grants books.stage books.pending login
        → IsServedUnder books.id books.session judged rows books.grants books.stage books.pending login
    at login was = record {
      rest = was.rest;
      in_order = was.in_order ∙ ap (λ xs. map (λ (row : RowKey). row.key) xs ++ was.rest) (sym (stay.same login));
      waiting = was.waiting;
      out = was.out;
    }

-- A turn of another unit: only rows and lines of its own came, or changed.
pub kept_elsewhere : {granted : ℕ} (units units' : List Unit) (unit : ℕ) (other id : UnitId) (queue queue' : EndState) (history history' : List Served) (grants grants' : List Grant) (judged : List Judged)
    → other ≢ id → slice_get units' unit ≡ slice_get units unit → queue'.last_session ≡ queue.last_session → queue'.taken ≡ queue.taken
    → OnlyRowsOf other history history' → LinesMore other granted grants grants'
    → HasKept units unit id queue history grants judged → HasKept units' unit id queue' history' grants' judged
kept_elsewhere units units' unit other id queue queue' history history' grants grants' judged apart same session taken rows lines has =
    kept_seen units units' unit id queue queue' history' grants' judged same session taken
    (subst (λ (all : List Grant). IfSome (slice_get units unit) (λ u. AreKept (books_seen u id queue history' all) judged)) (sym lines.added)
    (IfSome_then (slice_get units unit) has
    (λ u is. rows_kept (books_seen u id queue history (grants ++ lines.more)) (keys_of history') judged (rows_stay id other history history' apart rows)
    (keeps_lines (books_seen u id queue history grants) lines.more judged
    (All-weaker (λ line. unit_of line ≡ other) (λ line. same_unit (unit_of line) id ≡ false) (λ line of. apart_is (unit_of line) id (λ e. apart (sym of ∙ e))) lines.more lines.of_unit) is))))

-- Where nothing is pending all that was asked is served.
none_due : (id : UnitId) (session : ℕ) (judged : List Judged) (rows : List RowKey) (grants : List Grant) (stage : Stage) (pending : List Request) (login : ℕ) → pending ≡ []
    → IsServedUnder id session judged rows grants stage pending login → IsAllServed id judged rows grants login
none_due id session judged rows grants stage pending login none is = record {
  rest = is.rest;
  in_order = is.in_order;
  on = λ on. is.waiting on ∙ ap (due_under session login (has_row stage)) none ∙ none_of (has_row stage);
  out = is.out;
}
  where
    none_of : (has : Bool) → due_under session login has [] ≡ []
    none_of true = refl
    none_of false = refl

pub served_at_rest : (units : List Unit) (unit : ℕ) (u : Unit) (id : UnitId) (queue : EndState) (history : List Served) (grants : List Grant) (judged : List Judged)
    → slice_get units unit ≡ Some u → u.pending.items ≡ [] → HasKept units unit id queue history grants judged → IsWorkDone id history grants judged
served_at_rest units unit u id queue history grants judged there none has =
    let is : AreKept (books_seen u id queue history grants) judged =
    subst (λ (o : Option Unit). IfSome o (λ u. AreKept (books_seen u id queue history grants) judged)) there has in
    record {
      fates = is.fates;
      served = λ login some. none_due id queue.last_session judged (keys_of history) grants u.service.stage u.pending.items login none (is.served login some);
    }

-- Each line of the unit has its cause.
pub causes_seen : (units : List Unit) (unit : ℕ) (u : Unit) (id : UnitId) (queue : EndState) (history : List Served) (grants : List Grant) (judged : List Judged)
    → slice_get units unit ≡ Some u → HasKept units unit id queue history grants judged → HasCauses id queue.taken judged grants
causes_seen units unit u id queue history grants judged there has =
    let is : AreKept (books_seen u id queue history grants) judged =
    subst (λ (o : Option Unit). IfSome o (λ u. AreKept (books_seen u id queue history grants) judged)) there has in
    is.lines.causes

-- Each session of a unit that is over ended for a cause, and a line says so.
pub closed_seen : (units : List Unit) (unit : ℕ) (u : Unit) (id : UnitId) (queue : EndState) (history : List Served) (grants : List Grant) (judged : List Judged)
    → slice_get units unit ≡ Some u → HasKept units unit id queue history grants judged → (session : ℕ) → 1 ≤ session → IsPast queue.last_session (is_ended u.line) session → EndedFor id session grants
closed_seen units unit u id queue history grants judged there has =
    let is : AreKept (books_seen u id queue history grants) judged =
    subst (λ (o : Option Unit). IfSome o (λ u. AreKept (books_seen u id queue history grants) judged)) there has in
    is.lines.closed

-- Units that judged nothing.
pub none_unused : (units : List Unit) → units ≡ [] → AreUnused units
none_unused units none = subst AreUnused (sym none) (λ number id queue first none. tt)

pub more_unused : (units : List Unit) (new : Unit) → AreUnused units → new.logins.current ≡ 0 → new.logins.last ≡ 0 → new.logins.taking ≡ false → new.service.stage ≡ Start
    → new.line.kept ≡ None → new.pending.items ≡ [] → new.waiting ≡ None → AreUnused (units ++ new ∷ [])
more_unused units new all current last taking stage kept pending waiting = at units all
  where
    credits : Credits
    credits = record { outstanding = new.logins.target.outstanding; granted = new.logins.granted }

    first : (queue : EndState) → queue.taken ≡ [] → number_of new.waiting queue ≡ 0
    first queue none = ap (λ w. number_of w queue) waiting ∙ ap length (ap (of_session queue.last_session) none ∙ of_session-nil queue.last_session)

    unused : (id : UnitId) (queue : EndState) → queue.last_session ≡ 0 → queue.taken ≡ [] → AreKept (books_seen new id queue [] []) []
    unused id queue begun none =
        moved_to (fresh_books id queue.last_session (next_of new.waiting queue) (is_ended new.line) (is_up new.line.handshake) credits) (books_seen new id queue [] []) [] refl refl refl current last taking stage kept pending refl refl refl refl refl
        (kept_new id queue.last_session (next_of new.waiting queue) (is_ended new.line) (is_up new.line.handshake) credits begun none (first queue none))

    at : (units : List Unit) → AreUnused units → AreUnused (units ++ new ∷ [])
    at [] all zero id queue begun none = unused id queue begun none
    at [] all (suc n) id queue begun none = tt
    at (first ∷ units) all zero id queue begun none = all zero id queue begun none
    at (first ∷ units) all (suc n) id queue begun none = at units (λ m id queue begun none. all (suc m) id queue begun none) n id queue begun none

-- What is outstanding is counted, and was where a login ended for more than it grants.
pub counted_seen : (units : List Unit) (unit : ℕ) (u : Unit) (id : UnitId) (queue : EndState) (history : List Served) (grants : List Grant) (judged : List Judged)
    → slice_get units unit ≡ Some u → HasKept units unit id queue history grants judged → AreCounted (books_seen u id queue history grants) judged
counted_seen units unit u id queue history grants judged there has =
    let is : AreKept (books_seen u id queue history grants) judged =
    subst (λ (o : Option Unit). IfSome o (λ u. AreKept (books_seen u id queue history grants) judged)) there has in
    is.counted

-- Each line of a unit names its login.
pub numbers_seen : (units : List Unit) (unit : ℕ) (u : Unit) (id : UnitId) (queue : EndState) (history : List Served) (grants : List Grant) (judged : List Judged)
    → slice_get units unit ≡ Some u → HasKept units unit id queue history grants judged → NameLogins id [] grants
numbers_seen units unit u id queue history grants judged there has =
    let is : AreKept (books_seen u id queue history grants) judged =
    subst (λ (o : Option Unit). IfSome o (λ u. AreKept (books_seen u id queue history grants) judged)) there has in
    is.numbers.each

-- In each session the numbers of the entries over which logins of a unit were granted rise.
pub rising_seen : (units : List Unit) (unit : ℕ) (u : Unit) (id : UnitId) (queue : EndState) (history : List Served) (grants : List Grant) (judged : List Judged)
    → slice_get units unit ≡ Some u → HasKept units unit id queue history grants judged → (session : ℕ) → Rise (granted_numbers id session grants)
rising_seen units unit u id queue history grants judged there has =
    let is : AreKept (books_seen u id queue history grants) judged =
    subst (λ (o : Option Unit). IfSome o (λ u. AreKept (books_seen u id queue history grants) judged)) there has in
    is.rising.each

-- And so do those of the entries of its rows.
pub rows_seen : (units : List Unit) (unit : ℕ) (u : Unit) (id : UnitId) (queue : EndState) (history : List Served) (grants : List Grant) (judged : List Judged)
    → slice_get units unit ≡ Some u → HasKept units unit id queue history grants judged → (session : ℕ) → Rise (row_numbers id session (keys_of history))
rows_seen units unit u id queue history grants judged there has =
    let is : AreKept (books_seen u id queue history grants) judged =
    subst (λ (o : Option Unit). IfSome o (λ u. AreKept (books_seen u id queue history grants) judged)) there has in
    is.rows.each
