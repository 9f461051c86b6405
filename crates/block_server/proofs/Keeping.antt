-- What the parts of a turn leave of what a unit's books say.
use Rattle.std.proofs.Common.{◌≡◌, ◌⊎◌, inl, inr, ◌+◌, ◌==◌, ◌&&◌, ◌++◌, ◌<◌, ◌≤◌, ℕ, Bool, true, false, All, List, [], ◌∷◌, Option, Some, None, drop, length, suc, ◌-◌, slice_get, slice_set, map, filter, refl, sym, ◌∙◌, ap, subst, arith, length-append}
use Rattle.std.proofs.lemmas.Bool.{eq-eqb, eqb-true, ne_eqb}
use Rattle.std.proofs.lemmas.List.{length-map}
use Rattle.std.proofs.lemmas.List.Elements.{All-push, All-weaker, Contains-append_left, Contains-push}
use Rattle.vio_num.specs.declared.history.Grant.{Grant}
use Rattle.vio_num.specs.declared.history.Grant.TheVariants.{Granted, Lapsed}
use Rattle.vio_num.specs.declared.history.Lapse.{Lapse}
use Rattle.vio_num.specs.declared.history.Lapse.TheVariants as lapses
use Rattle.vio_num.specs.declared.names.UnitId.{UnitId}
use Rattle.block_server.specs.Makers.{same_unit}
use Rattle.block_server.specs.Receipts.{Receipt}
use Rattle.block_server.specs.Judged.{Ahead, AreKept, AreLogins, ArePending, Books, Credits, Fate, HasLimit, HasLogout, IsOpenRow, Key, KeepsLines, KeepsRowsRising, accepted, answered_under, is_command, row_in, is_under, HasFate, HasFront, HasGrant, IsAtStage, IsGranting, IsKeptAt, IsOn, IsOutcome, IsServedUnder, Judged, KeepsLogins, RowKey, due, due_under, ends, gets_row, has_row, is_login, request_key}
use Rattle.block_server.specs.Fates.Fate.{ends_it, ignored, asks_login, asks_logout, asked}
use Rattle.block_server.specs.declared.line.Kept.{Kept}
use Rattle.block_server.specs.declared.request.Request.{Request}
use Rattle.block_server.specs.declared.request.Order.{Order}
use Rattle.block_server.specs.declared.request.Order.TheVariants as orders
use Rattle.block_server.specs.declared.service.Outcome.{Outcome}
use Rattle.block_server.specs.declared.service.Outcome.TheVariants as outcomes
use Rattle.block_server.specs.declared.service.Stage.{Stage}
use Rattle.block_server.specs.declared.service.Stage.TheVariants as stages
use Rattle.block_server.proofs.Numbering.{numbers_begun, numbers_ended, numbers_granted}
use Rattle.block_server.proofs.Rising.{rising_begun, rising_granted, rising_lapsed, rising_later, rising_none, rising_popped}
use Rattle.block_server.proofs.RowsRising.{rows_added, rows_begun, rows_later, rows_marked, rows_none, rows_popped, rows_to}
use Rattle.block_server.proofs.Counting.{answered_push, limits_on, limits_to, logout_rest, mark_all, mark_here, mark_other, mark_under, marked, none_answered, open_last, open_room, open_start, same_self}
use Rattle.block_server.proofs.Lapsing.{lines_out}
use Rattle.block_server.proofs.Lines.{lines_granted, lines_session}
use Rattle.block_server.proofs.Judging.{all_logins, due_popped, filter_left, login_no_row, row_no_login, served_due, served_granted, served_left, served_row}

command_gets : (order : Order) → is_command order ≡ true → gets_row order ≡ true
command_gets (orders.Login request) is = absurd (cc (is))
command_gets orders.Logout is = absurd (cc (is))
command_gets (orders.Task task) is = refl
command_gets (orders.Command command) is = refl
command_gets orders.Unreadable is = refl

-- a stage whose request has its row has a request
pub front_of : (current : ℕ) (pending : List Request) (stage : Stage) → IsAtStage current pending stage → has_row stage ≡ true → HasFront pending
front_of current pending stages.Start is some = absurd (cc (some))
front_of current pending stages.OutTable is some = absurd (cc (some))
front_of current pending stages.InTable is some = absurd (cc (some))
front_of current pending (stages.DataOut cursor) is some = absurd (cc (some))
front_of current pending (stages.Given row reply) is some = record { front = is.front; rest = is.rest; parts = is.parts; gets = command_gets is.front.order is.asks }
front_of current pending (stages.DataIn row reply cursor) is some = record { front = is.front; rest = is.rest; parts = is.parts; gets = command_gets is.front.order is.asks }
front_of current pending (stages.Answer (outcomes.Granted number)) is some = absurd (cc (some))
front_of current pending (stages.Answer outcomes.Rejected) is some = absurd (cc (some))
front_of current pending (stages.Answer (outcomes.Served row)) is some = is
front_of current pending (stages.Entry (outcomes.Granted number)) is some = absurd (cc (some))
front_of current pending (stages.Entry outcomes.Rejected) is some = absurd (cc (some))
front_of current pending (stages.Entry (outcomes.Served row)) is some = is

no_kept : (stage : Stage) (kept : Option Kept) → kept ≡ None → IsKeptAt stage kept
no_kept stage kept none = subst (IsKeptAt stage) (sym none) tt

no_cons : (request : Request) (requests pending : List Request) → pending ≡ request ∷ requests → pending ≡ [] → ⊥
no_cons request requests pending some none = absurd (cc (some, none))

none_one : (n : ℕ) → n ≡ 0 → 1 ≤ n → ⊥
none_one n none some = absurd (omega (arith, none, some))

pub zero_one : 1 ≤ 0 → ⊥
zero_one some = absurd (omega (arith, some))

-- lines more leave each entry its fate
pub fate_grows : (unit : UnitId) (grants more : List Grant) (judged : List Judged) → All (λ j. HasFate unit grants j.receipt j.fate) judged
    → All (λ j. HasFate unit (grants ++ more) j.receipt j.fate) judged
fate_grows unit grants more judged all =
    All-weaker (λ j. HasFate unit grants j.receipt j.fate) (λ j. HasFate unit (grants ++ more) j.receipt j.fate) (λ j. grows j.receipt j.fate) judged all
  where
    grant_grows : (session login number : ℕ) → HasGrant unit grants session login number → HasGrant unit (grants ++ more) session login number
    grant_grows session login number is =
        record { at = is.at; credits = is.credits; listed = Contains-append_left grants more (Granted unit session login is.at is.credits) is.listed; earlier = is.earlier }

    grows : (receipt : Receipt) (fate : Fate) → HasFate unit grants receipt fate → HasFate unit (grants ++ more) receipt fate
    grows receipt ends_it is = record {
      login = is.login;
      cause = is.cause;
      outstanding = is.outstanding;
      granted = is.granted;
      listed = Contains-append_left grants more (Lapsed unit receipt.session is.login is.cause is.outstanding is.granted) is.listed;
      fatal = is.fatal;
    }
    grows receipt ignored is = is
    grows receipt asks_login is = is
    grows receipt (asks_logout n) is = (is.0, (is.1.0, (is.1.1.0, grant_grows receipt.session n receipt.number is.1.1.1)))
    grows receipt (asked n) is = (is.0, (is.1.0, grant_grows receipt.session n receipt.number is.1.1))

-- The service comes to another stage, without a row more.
pub keeps_stage : (books : Books) (stage' : Stage) (judged : List Judged) → has_row stage' ≡ has_row books.stage → row_in stage' ≡ row_in books.stage → IsAtStage books.current books.pending stage' → books.kept ≡ None
    → AreKept books judged → AreKept (record books { stage = stage' }) judged
keeps_stage books stage' judged same placed at none is = record {
  fates = is.fates;
  served = λ login some. served_due books.id books.session judged books.rows books.grants books.stage stage' books.pending books.pending login
      (ap (λ has. due_under books.session login has books.pending) (sym same)) (is.served login some);
  logins = is.logins;
  pending = is.pending;
  stage = at;
  kept = no_kept stage' books.kept none;
  under = is.under;
  lines = is.lines;
  idle = is.idle;
  numbers = is.numbers;
  rising = is.rising;
  rows = subst (λ (has : Bool). KeepsRowsRising books.id books.session books.next.number (due has books.pending) books.rows) (sym same) is.rows;
  counted = record {
    row = λ place in_service. is.counted.row place (sym placed ∙ in_service);
    exact = is.counted.exact;
    most = is.counted.most;
    limits = is.counted.limits;
    asked_out = is.counted.asked_out;
    none_later = is.counted.none_later;
  };
}

-- the row that a request gets
abbrev pub row_of_request : Books → Request → RowKey
row_of_request books request = record { unit = books.id; login = request.login; key = request_key books.session request; answered = false }

-- The request in service gets its row.
pub keeps_row : (books : Books) (stage' : Stage) (front : Request) (rest : List Request) (judged : List Judged) → books.pending ≡ front ∷ rest
    → has_row books.stage ≡ false → has_row stage' ≡ true → row_in stage' ≡ Some (length books.rows) → gets_row front.order ≡ true → IsAtStage books.current books.pending stage' → books.kept ≡ None
    → AreKept books judged → AreKept (record books { stage = stage'; rows = books.rows ++ row_of_request books front ∷ [] }) judged
keeps_row books stage' front rest judged parts before after placed asks at none is =
    let under = (subst (ArePending books.current books.next.number books.taking) parts is.pending).0.under (row_no_login front.order asks) in
    record {
      fates = is.fates;
      served = λ login some. subst (λ pending. IsServedUnder books.id books.session judged (books.rows ++ row_of_request books front ∷ []) books.grants stage' pending login) (sym parts)
          (served_row books.id books.session judged books.rows books.grants books.stage stage' front rest books.current login before after asks under.0 (is.logins.on under.1)
          (subst (λ pending. IsServedUnder books.id books.session judged books.rows books.grants books.stage pending login) parts (is.served login some)));
      logins = is.logins;
      pending = is.pending;
      stage = at;
      kept = no_kept stage' books.kept none;
      under = All-push (λ (row : RowKey). same_unit row.unit books.id ≡ true → 1 ≤ row.login) books.rows (row_of_request books front) is.under
          (λ own. subst (λ (n : ℕ). 1 ≤ n) (sym under.0) under.1);
      lines = is.lines;
      idle = is.idle;
      numbers = is.numbers;
      rising = is.rising;
      rows = subst (λ (has : Bool). KeepsRowsRising books.id books.session books.next.number (due has books.pending) (books.rows ++ row_of_request books front ∷ [])) (sym after)
          (subst (λ (pending : List Request). KeepsRowsRising books.id books.session books.next.number (due true pending) (books.rows ++ row_of_request books front ∷ [])) (sym parts)
          (rows_added books.id books.session books.next.number front rest books.rows (row_of_request books front) refl refl refl
          (subst (λ (pending : List Request). KeepsRowsRising books.id books.session books.next.number pending books.rows) parts
          (subst (λ (has : Bool). KeepsRowsRising books.id books.session books.next.number (due has books.pending) books.rows) before is.rows))));
      counted = record {
        row = λ place in_service. open_last books.id books.current books.rows (row_of_request books front) place (place_is place (sym in_service ∙ placed)) refl under.0 refl;
        exact = λ some. ap (λ (n : ℕ). books.credits.outstanding + n) (answered_push books.id books.current books.rows (row_of_request books front) refl) ∙ is.counted.exact some;
        most = is.counted.most;
        limits = limits_to books.id books.rows (books.rows ++ row_of_request books front ∷ []) judged judged books.grants
            (λ login some. (answered_push books.id login books.rows (row_of_request books front) refl, refl)) is.counted.limits;
        asked_out = is.counted.asked_out;
        none_later = is.counted.none_later;
      };
    }
  where
    place_is : (place : ℕ) → Some place ≡ Some (length books.rows) → place ≡ length books.rows
    place_is place same = cc (same)

-- The oldest request is dropped, which has its row or asks for a login.
pub keeps_popped : (books : Books) (front : Request) (rest : List Request) (judged : List Judged) → books.pending ≡ front ∷ rest
    → (has_row books.stage ≡ true) ⊎ (is_login front.order ≡ true)
    → AreKept books judged → AreKept (record books { stage = stages.Start; kept = None; pending = rest }) judged
keeps_popped books front rest judged parts gone is = record {
  fates = is.fates;
  served = λ login some. served_due books.id books.session judged books.rows books.grants books.stage stages.Start books.pending rest login
      (ap (due_under books.session login (has_row books.stage)) parts ∙ due_popped books.session login (has_row books.stage) front rest (no_row_left gone)) (is.served login some);
  logins = is.logins;
  pending = (subst (ArePending books.current books.next.number books.taking) parts is.pending).1;
  stage = tt;
  kept = tt;
  under = is.under;
  lines = is.lines;
  idle = λ over. absurd (no_cons front rest books.pending parts (is.idle over).0);
  numbers = is.numbers;
  rising = rising_popped books.id books.session books.next.number books.pending rest front books.grants parts is.rising;
  rows = rows_popped books.id books.session books.next.number (has_row books.stage) books.pending rest front books.rows parts is.rows;
  counted = record {
    row = open_start books.id books.current books.rows;
    exact = is.counted.exact;
    most = is.counted.most;
    limits = is.counted.limits;
    asked_out = λ some off. logout_rest front rest books.pending parts (other gone) (is.counted.asked_out some off);
    none_later = is.counted.none_later;
  };
}
  where
    no_row_left : (has_row books.stage ≡ true) ⊎ (is_login front.order ≡ true) → (has_row books.stage ≡ true) ⊎ (gets_row front.order ≡ false)
    no_row_left (inl some) = inl some
    no_row_left (inr asks) = inr (login_no_row front.order asks)

    first_same : (a b : Request) (xs ys : List Request) → a ∷ xs ≡ b ∷ ys → a ≡ b
    first_same a b xs ys same = cc (same)

    other : (has_row books.stage ≡ true) ⊎ (is_login front.order ≡ true) → front.order ≡ orders.Logout → ⊥
    other (inl some) logout =
        let first = front_of books.current books.pending books.stage is.stage some in
        absurd (cc (ap (λ (r : Request). gets_row r.order) (first_same first.front front first.rest rest (sym first.parts ∙ parts)), first.gets, ap gets_row logout))
    other (inr asks) logout = absurd (cc (asks, ap is_login logout))

-- None is there to drop.
pub keeps_idle : (books : Books) (judged : List Judged) → books.pending ≡ [] → AreKept books judged → AreKept (record books { stage = stages.Start; kept = None; pending = [] }) judged
keeps_idle books judged none is = record {
  fates = is.fates;
  served = λ login some. served_due books.id books.session judged books.rows books.grants books.stage stages.Start books.pending [] login
      (ap (due_under books.session login (has_row books.stage)) none ∙ none_due_of books.session login (has_row books.stage)) (is.served login some);
  logins = is.logins;
  pending = tt;
  stage = tt;
  kept = tt;
  under = is.under;
  lines = is.lines;
  idle = λ over. (refl, (is.idle over).1);
  numbers = is.numbers;
  rising = rising_none books.id books.session books.next.number books.pending books.grants is.rising;
  rows = rows_none books.id books.session books.next.number (due (has_row books.stage) books.pending) books.rows is.rows;
  counted = record {
    row = open_start books.id books.current books.rows;
    exact = is.counted.exact;
    most = is.counted.most;
    limits = is.counted.limits;
    asked_out = λ some off. subst HasLogout none (is.counted.asked_out some off);
    none_later = is.counted.none_later;
  };
}
  where
    none_due_of : (session login : ℕ) (has : Bool) → due_under session login has [] ≡ []
    none_due_of session login true = refl
    none_due_of session login false = refl

-- the requests that are pending, whatever login is on, where each asks for one
logins_pending : (current next current' next' : ℕ) (taking taking' : Bool) (pending : List Request) → next ≤ next' → AreLogins pending → ArePending current next taking pending
    → ArePending current' next' taking' pending
logins_pending current next current' next' taking taking' [] most logins are = tt
logins_pending current next current' next' taking taking' (request ∷ requests) most logins are = (
  record {
    under = λ other. absurd (cc (other, logins.0));
    number = below request.number next next' are.0.number most;
    last = λ other none. absurd (cc (other, logins.0));
  },
  logins_pending current next current' next' taking taking' requests most logins.1 are.1,
)
  where
    below : (a b c : ℕ) → a < b → b ≤ c → a < c
    below a b c low high = omega (arith, low, high)

same_most : (n : ℕ) → n ≤ n
same_most n = omega arith

apart_later : (a b n : ℕ) → a ≤ b → b < n → (a == n) ≡ false
apart_later a b n low high = ne_eqb a n (λ same. none a b n low high same)
  where
    none : (a b n : ℕ) → a ≤ b → b < n → a ≡ n → ⊥
    none a b n low high same = absurd (omega (arith, low, high, same))

-- no later login is ended by a line on this one
later_on : (unit : UnitId) (current last session : ℕ) (cause : Lapse) (outstanding granted : ℕ) (grants : List Grant) → current ≤ last → ((n : ℕ) → last < n → IsOn unit n grants)
    → (n : ℕ) → last < n → IsOn unit n (grants ++ Lapsed unit session current cause outstanding granted ∷ [])
later_on unit current last session cause outstanding granted grants most none n high =
    filter_left (ends unit n) grants (Lapsed unit session current cause outstanding granted) (second (same_unit unit unit) (current == n) (apart_later current last n most high)) ∙ none n high
  where
    second : (a b : Bool) → b ≡ false → a && b ≡ false
    second true b is = is
    second false b is = refl

pub off_logins : (unit : UnitId) (session next current last of : ℕ) (session' next' : ℕ) (taking : Bool) (cause : Lapse) (outstanding granted : ℕ) (grants : List Grant)
    → KeepsLogins unit session next current last taking grants
    → KeepsLogins unit session' next' 0 last false (grants ++ Lapsed unit of current cause outstanding granted ∷ [])
off_logins unit session next current last of session' next' taking cause outstanding granted grants is = record {
  most = omega arith;
  on = λ some. absurd (zero_one some);
  none_later = later_on unit current last of cause outstanding granted grants is.most is.none_later;
  granted = λ some. absurd (zero_one some);
  takes = λ some. absurd (cc (some));
}

-- While a request is pending the session goes on.
pub going_on : (books : Books) (judged : List Judged) (front : Request) (rest : List Request) → books.pending ≡ front ∷ rest → AreKept books judged → books.ended ≡ false
going_on books judged front rest parts is = at books.ended refl
  where
    at : (ended : Bool) → books.ended ≡ ended → books.ended ≡ false
    at true over = absurd (no_cons front rest books.pending parts (is.idle over).0)
    at false on = on

-- The login that is on ended by its logout, which is the oldest request.
pub keeps_left : (books : Books) (front : Request) (rest : List Request) (outstanding granted : ℕ) (credits' : Credits) (judged : List Judged) → books.pending ≡ front ∷ rest
    → is_login front.order ≡ false → gets_row front.order ≡ false
    → AreKept books judged → AreKept (record books {
      current = 0;
      taking = false;
      stage = stages.Start;
      kept = None;
      pending = rest;
      grants = books.grants ++ Lapsed books.id books.session books.current lapses.Logout outstanding granted ∷ [];
      credits = credits';
    }) judged
keeps_left books front rest outstanding granted credits' judged parts other none is =
    let are = subst (ArePending books.current books.next.number books.taking) parts is.pending in
    let behind = (are.0.last other none).1 in
    record {
      fates = fate_grows books.id books.grants (Lapsed books.id books.session books.current lapses.Logout outstanding granted ∷ []) judged is.fates;
      served = λ login some. served_left books.id books.session books.session judged books.rows books.grants books.stage front rest books.current login lapses.Logout outstanding granted none behind is.logins.on some
          (subst (λ pending. IsServedUnder books.id books.session judged books.rows books.grants books.stage pending login) parts (is.served login some));
      logins = off_logins books.id books.session books.next.number books.current books.last books.session books.session books.next.number books.taking lapses.Logout outstanding granted books.grants is.logins;
      pending = logins_pending books.current books.next.number 0 books.next.number books.taking false rest (same_most books.next.number) behind are.1;
      stage = tt;
      kept = tt;
      under = is.under;
      lines = lines_out books.id books.session books.next books.current books.taking books.up books.credits credits' books.grants books.ended judged outstanding granted
          (going_on books judged front rest parts is) (are.0.last other none).0 (are.0.under other).1 is.logins.on is.lines;
      idle = λ over. absurd (no_cons front rest books.pending parts (is.idle over).0);
      numbers = numbers_ended books.id books.session books.current books.last lapses.Logout outstanding granted books.grants is.numbers;
      rising = rising_lapsed books.id books.id books.session books.next.number books.session books.current lapses.Logout outstanding granted rest books.grants
          (rising_popped books.id books.session books.next.number books.pending rest front books.grants parts is.rising);
      rows = rows_popped books.id books.session books.next.number (has_row books.stage) books.pending rest front books.rows parts is.rows;
      counted = record {
        row = open_start books.id 0 books.rows;
        exact = λ some. absurd (zero_one some);
        most = λ some. absurd (zero_one some);
        limits = All-push (HasLimit books.id books.rows judged) books.grants (Lapsed books.id books.session books.current lapses.Logout outstanding granted) is.counted.limits tt;
        asked_out = λ some. absurd (zero_one some);
        none_later = is.counted.none_later;
      };
    }

head_same : (x y : Request) (xs ys : List Request) → x ∷ xs ≡ y ∷ ys → x ≡ y
head_same x y xs ys same = cc (same)

-- A login began, for the oldest request.
pub keeps_granted : (books : Books) (number : ℕ) (front : Request) (rest : List Request) (judged : List Judged) → books.pending ≡ front ∷ rest → IsGranting books.current number books.pending
    → AreKept books judged → AreKept (record books {
      current = books.last + 1;
      last = books.last + 1;
      taking = true;
      stage = stages.Start;
      kept = None;
      pending = rest;
      grants = books.grants ++ Granted books.id books.session (books.last + 1) number books.credits.granted ∷ [];
      credits = record { outstanding = 0; granted = books.credits.granted };
    }) judged
keeps_granted books number front rest judged parts grants is =
    let line = Granted books.id books.session (books.last + 1) number books.credits.granted in
    let are = subst (ArePending books.current books.next.number books.taking) parts is.pending in
    let logins = all_logins books.current books.next.number books.taking (front ∷ rest) grants.none_on are in
    record {
      fates = fate_grows books.id books.grants (line ∷ []) judged is.fates;
      served = λ login some. served_granted books.id books.session books.session (books.last + 1) number books.credits.granted judged books.rows books.grants books.stage front rest login logins
          (subst (λ pending. IsServedUnder books.id books.session judged books.rows books.grants books.stage pending login) parts (is.served login some));
      logins = record {
        most = same_most (books.last + 1);
        on = λ some. filter_left (ends books.id (books.last + 1)) books.grants line refl ∙ is.logins.none_later (books.last + 1) (next_one books.last);
        none_later = λ n high. filter_left (ends books.id n) books.grants line refl ∙ is.logins.none_later n (after_one books.last n high);
        granted = λ some. record {
          at = number;
          credits = books.credits.granted;
          listed = Contains-push books.grants line;
          earlier = subst (λ (n : ℕ). n < books.next.number) grants.number_is
              (subst (ArePending books.current books.next.number books.taking) grants.parts is.pending).0.number;
        };
        takes = λ some. next_one_some books.last;
      };
      pending = logins_pending books.current books.next.number (books.last + 1) books.next.number books.taking true rest (same_most books.next.number) logins.1 are.1;
      stage = tt;
      kept = tt;
      under = is.under;
      lines = lines_granted books.id books.session books.next books.current (books.last + 1) number books.taking books.up books.credits books.grants books.ended judged
          (going_on books judged front rest parts is) is.lines;
      idle = λ over. absurd (no_cons front rest books.pending parts (is.idle over).0);
      numbers = numbers_granted books.id books.session books.current books.last number books.credits.granted books.grants grants.none_on is.numbers;
      rising = rising_granted books.id books.session books.next.number (books.last + 1) number books.credits.granted books.pending rest front books.grants parts
          (ap (λ (r : Request). r.number) (head_same front grants.front rest grants.rest (sym parts ∙ grants.parts)) ∙ grants.number_is) is.rising;
      rows = rows_popped books.id books.session books.next.number (has_row books.stage) books.pending rest front books.rows parts is.rows;
      counted = record {
        row = open_start books.id (books.last + 1) books.rows;
        exact = λ some. zero_left _ (none_answered books.id (books.last + 1) books.rows
            (none_front _ _ (sym (is.served (books.last + 1) some).in_order ∙ is.counted.none_later (books.last + 1) (next_one books.last))))
            ∙ sym (ap length (is.counted.none_later (books.last + 1) (next_one books.last)));
        most = λ some. zero_most books.credits.granted;
        limits = All-push (HasLimit books.id books.rows judged) books.grants line is.counted.limits tt;
        asked_out = λ some off. absurd (cc (off));
        none_later = λ login high. is.counted.none_later login (after_one books.last login high);
      };
    }
  where
    zero_most : (n : ℕ) → 0 ≤ n
    zero_most n = omega arith

    zero_left : (n : ℕ) → n ≡ 0 → 0 + n ≡ 0
    zero_left n none = omega (arith, none)

    none_front : (xs ys : List Key) → xs ++ ys ≡ [] → xs ≡ []
    none_front [] ys empty = refl
    none_front (x ∷ xs) ys empty = absurd (cc (empty))

    next_one : (n : ℕ) → n < n + 1
    next_one n = omega arith

    next_one_some : (n : ℕ) → 1 ≤ n + 1
    next_one_some n = omega arith

    after_one : (n m : ℕ) → n + 1 < m → n < m
    after_one n m high = omega (arith, high)

-- A session began, while nothing was pending.
pub keeps_session : (books : Books) (session' : ℕ) (next' : Ahead) (up' : Bool) (judged : List Judged) → session' ≡ books.session + 1 → books.ended ≡ true → next'.taken ≡ books.next.taken → next'.number ≡ 0 → books.pending ≡ [] → books.current ≡ 0
    → AreKept books judged → AreKept (record books { session = session'; next = next'; ended = false; up = up' }) judged
keeps_session books session' next' up' judged one over taken first none off is = record {
  fates = is.fates;
  served = λ login some. moved login (is.served login some);
  logins = record {
    most = is.logins.most;
    on = is.logins.on;
    none_later = is.logins.none_later;
    granted = λ some. absurd (none_one books.current off some);
    takes = is.logins.takes;
  };
  pending = subst (ArePending books.current next'.number books.taking) (sym none) tt;
  stage = is.stage;
  kept = is.kept;
  under = is.under;
  lines = lines_session books.id books.session session' books.next next' books.current books.taking books.up up' books.credits books.grants books.ended judged one over taken first off is.lines;
  idle = λ still. (none, off);
  numbers = numbers_begun books.id books.session session' books.current books.last books.grants off (is.lines.later session' later) is.numbers;
  rising = rising_begun books.id books.session session' books.next.number next'.number books.pending books.grants none (is.lines.later session' later) is.rising;
  rows = rows_begun books.id books.session session' books.next.number next'.number (due (has_row books.stage) books.pending) books.rows
      (ap (due (has_row books.stage)) none ∙ none_due (has_row books.stage)) later is.rows;
  counted = record { row = is.counted.row; exact = is.counted.exact; most = is.counted.most; limits = is.counted.limits; asked_out = is.counted.asked_out; none_later = is.counted.none_later };
}
  where
    later : books.session < session'
    later = omega (arith, one)

    none_due : (has : Bool) → due has [] ≡ []
    none_due true = refl
    none_due false = refl

    nothing : (session login : ℕ) (has : Bool) → due_under session login has [] ≡ []
    nothing session login true = refl
    nothing session login false = refl

    moved : (login : ℕ) → IsServedUnder books.id books.session judged books.rows books.grants books.stage books.pending login
        → IsServedUnder books.id session' judged books.rows books.grants books.stage books.pending login
    moved login was = record {
      rest = was.rest;
      in_order = was.in_order;
      waiting = λ on. was.waiting on ∙ ap (due_under books.session login (has_row books.stage)) none ∙ nothing books.session login (has_row books.stage)
          ∙ sym (nothing session' login (has_row books.stage)) ∙ ap (due_under session' login (has_row books.stage)) (sym none);
      out = was.out;
    }

-- The next entry is a later one, or its line stands otherwise.
pub later_pending : (current next next' : ℕ) (taking : Bool) (pending : List Request) → next ≤ next' → ArePending current next taking pending → ArePending current next' taking pending
later_pending current next next' taking [] most are = tt
later_pending current next next' taking (request ∷ requests) most are =
    (record { under = are.0.under; number = below request.number next next' are.0.number most; last = are.0.last }, later_pending current next next' taking requests most are.1)
  where
    below : (a b c : ℕ) → a < b → b ≤ c → a < c
    below a b c low high = omega (arith, low, high)

pub later_logins : (unit : UnitId) (session next next' current last : ℕ) (taking : Bool) (grants : List Grant) → next ≤ next' → KeepsLogins unit session next current last taking grants
    → KeepsLogins unit session next' current last taking grants
later_logins unit session next next' current last taking grants most is = record {
  most = is.most;
  on = is.on;
  none_later = is.none_later;
  granted = λ some. let grant = is.granted some in record { at = grant.at; credits = grant.credits; listed = grant.listed; earlier = below grant.at next next' grant.earlier most };
  takes = is.takes;
}
  where
    below : (a b c : ℕ) → a < b → b ≤ c → a < c
    below a b c low high = omega (arith, low, high)

pub keeps_later : (books : Books) (next' : Ahead) (ended' up' : Bool) (judged : List Judged) → books.next.number ≤ next'.number → (ended' ≡ true → (books.pending ≡ []) × (books.current ≡ 0))
    → KeepsLines books.id books.session next' books.current books.taking up' books.credits books.grants ended' judged
    → AreKept books judged → AreKept (record books { next = next'; ended = ended'; up = up' }) judged
keeps_later books next' ended' up' judged most idle lines is = record {
  fates = is.fates;
  served = is.served;
  logins = later_logins books.id books.session books.next.number next'.number books.current books.last books.taking books.grants most is.logins;
  pending = later_pending books.current books.next.number next'.number books.taking books.pending most is.pending;
  stage = is.stage;
  kept = is.kept;
  under = is.under;
  lines = lines;
  idle = idle;
  numbers = is.numbers;
  rising = rising_later books.id books.session books.next.number next'.number books.pending books.grants most is.rising;
  rows = rows_later books.id books.session books.next.number next'.number (due (has_row books.stage) books.pending) books.rows most is.rows;
  counted = record { row = is.counted.row; exact = is.counted.exact; most = is.counted.most; limits = is.counted.limits; asked_out = is.counted.asked_out; none_later = is.counted.none_later };
}

-- Books of the same content.
pub moved_to : (mid new : Books) (judged : List Judged) → new.id ≡ mid.id → new.session ≡ mid.session → new.next ≡ mid.next → new.current ≡ mid.current → new.last ≡ mid.last
    → new.taking ≡ mid.taking → new.stage ≡ mid.stage → new.kept ≡ mid.kept → new.pending ≡ mid.pending → new.rows ≡ mid.rows → new.grants ≡ mid.grants → new.ended ≡ mid.ended
    → new.up ≡ mid.up → new.credits ≡ mid.credits → AreKept mid judged → AreKept new judged
moved_to mid new judged id session next current last taking stage kept pending rows grants ended up credits is =
    subst (λ (books : Books). AreKept books judged) (λ i. record {
      id = (sym id) i;
      session = (sym session) i;
      next = (sym next) i;
      current = (sym current) i;
      last = (sym last) i;
      taking = (sym taking) i;
      stage = (sym stage) i;
      kept = (sym kept) i;
      pending = (sym pending) i;
      rows = (sym rows) i;
      grants = (sym grants) i;
      ended = (sym ended) i;
      up = (sym up) i;
      credits = (sym credits) i;
    }) is

-- Another entry is kept, or none.
pub keeps_kept : (books : Books) (kept' : Option Kept) (judged : List Judged) → IsKeptAt books.stage kept' → AreKept books judged → AreKept (record books { kept = kept' }) judged
keeps_kept books kept' judged at is = record {
  fates = is.fates;
  served = is.served;
  logins = is.logins;
  pending = is.pending;
  stage = is.stage;
  kept = at;
  under = is.under;
  lines = is.lines;
  idle = is.idle;
  numbers = is.numbers;
  rising = is.rising;
  rows = is.rows;
  counted = record { row = is.counted.row; exact = is.counted.exact; most = is.counted.most; limits = is.counted.limits; asked_out = is.counted.asked_out; none_later = is.counted.none_later };
}

popped_to : (books : Books) (front : Request) (rest : List Request) (judged : List Judged) → books.pending ≡ front ∷ rest
    → AreKept (record books { stage = stages.Start; kept = None; pending = rest }) judged
    → AreKept (record books { stage = stages.Start; kept = None; pending = drop 1 books.pending }) judged
popped_to books front rest judged parts is =
    subst (λ (pending : List Request). AreKept (record books { stage = stages.Start; kept = None; pending = pending }) judged) (sym (ap (drop 1) parts)) is

-- The service of the oldest request ends as its answer was to be put.
pub keeps_finished : (books : Books) (outcome : Outcome) (judged : List Judged) → books.stage ≡ stages.Entry outcome
    → AreKept books judged → AreKept (record books { stage = stages.Start; kept = None; pending = drop 1 books.pending }) judged
keeps_finished books outcome judged at is = by outcome at (subst (IsAtStage books.current books.pending) at is.stage)
  where
    by : (outcome : Outcome) → books.stage ≡ stages.Entry outcome → IsOutcome books.current books.pending outcome
        → AreKept (record books { stage = stages.Start; kept = None; pending = drop 1 books.pending }) judged
    by (outcomes.Granted number) at front =
        popped_to books front.front front.rest judged front.parts (keeps_popped books front.front front.rest judged front.parts (inr front.asks) is)
    by outcomes.Rejected at front =
        popped_to books front.front front.rest judged front.parts (keeps_popped books front.front front.rest judged front.parts (inr front.asks) is)
    by (outcomes.Served row) at front =
        popped_to books front.front front.rest judged front.parts (keeps_popped books front.front front.rest judged front.parts (inl (ap has_row at)) is)

-- It was granted its login.
pub keeps_begun : (books : Books) (number : ℕ) (judged : List Judged) → books.stage ≡ stages.Entry (outcomes.Granted number)
    → AreKept books judged → AreKept (record books {
      current = books.last + 1;
      last = books.last + 1;
      taking = true;
      stage = stages.Start;
      kept = None;
      pending = drop 1 books.pending;
      grants = books.grants ++ Granted books.id books.session (books.last + 1) number books.credits.granted ∷ [];
      credits = record { outstanding = 0; granted = books.credits.granted };
    }) judged
keeps_begun books number judged at is =
    let front : IsGranting books.current number books.pending = subst (IsAtStage books.current books.pending) at is.stage in
    subst (λ (pending : List Request). AreKept (record books {
      current = books.last + 1;
      last = books.last + 1;
      taking = true;
      stage = stages.Start;
      kept = None;
      pending = pending;
      grants = books.grants ++ Granted books.id books.session (books.last + 1) number books.credits.granted ∷ [];
      credits = record { outstanding = 0; granted = books.credits.granted };
    }) judged) (sym (ap (drop 1) front.parts)) (keeps_granted books number front.front front.rest judged front.parts front is)

-- Its answer was copied.
pub keeps_delivered : (books : Books) (outcome : Outcome) (judged : List Judged) → books.stage ≡ stages.Answer outcome → books.kept ≡ None
    → AreKept books judged → AreKept (record books { stage = stages.Entry outcome }) judged
keeps_delivered books outcome judged at none is =
    keeps_stage books (stages.Entry outcome) judged (same outcome ∙ sym (ap has_row at)) (placed outcome ∙ sym (ap row_in at)) (subst (IsAtStage books.current books.pending) at is.stage) none is
  where
    same : (outcome : Outcome) → has_row (stages.Entry outcome) ≡ has_row (stages.Answer outcome)
    same (outcomes.Granted number) = refl
    same outcomes.Rejected = refl
    same (outcomes.Served row) = refl

    placed : (outcome : Outcome) → row_in (stages.Entry outcome) ≡ row_in (stages.Answer outcome)
    placed (outcomes.Granted number) = refl
    placed outcomes.Rejected = refl
    placed (outcomes.Served row) = refl

-- The oldest request was answered: its row has its answer, and one less is outstanding.
pub keeps_answered : (books : Books) (place : ℕ) (row : RowKey) (judged : List Judged) → books.stage ≡ stages.Entry (outcomes.Served place) → slice_get books.rows place ≡ Some row
    → AreKept books judged → AreKept (record books {
      stage = stages.Start;
      kept = None;
      pending = drop 1 books.pending;
      rows = slice_set books.rows place (marked row);
      credits = record { outstanding = books.credits.outstanding - 1; granted = books.credits.granted };
    }) judged
keeps_answered books place row judged at there is =
    let fin = keeps_finished books (outcomes.Served place) judged at is in
    let first : HasFront books.pending = subst (IsAtStage books.current books.pending) at is.stage in
    let on = ((subst (ArePending books.current books.next.number books.taking) first.parts is.pending).0.under (row_no_login first.front.order first.gets)).1 in
    let lacks : IsOpenRow books.id books.current books.rows place = is.counted.row place (ap row_in at) in
    let same = some_is lacks.row row (sym lacks.there ∙ there) in
    let under : is_under books.id books.current row ≡ true = own_row row (sym (ap (λ (r : RowKey). r.unit) same) ∙ lacks.unit_is) (sym (ap (λ (r : RowKey). r.login) same) ∙ lacks.login_is) in
    let unanswered : row.answered ≡ false = sym (ap (λ (r : RowKey). r.answered) same) ∙ lacks.open_is in
    let rows' = slice_set books.rows place (marked row) in
    record {
      fates = fin.fates;
      served = λ login some. served_marked login (fin.served login some);
      logins = fin.logins;
      pending = fin.pending;
      stage = tt;
      kept = tt;
      under = mark_all (λ (r : RowKey). same_unit r.unit books.id ≡ true → 1 ≤ r.login) books.rows place row there (λ r keeps. keeps) is.under;
      lines = record {
        causes = is.lines.causes;
        begun = is.lines.begun;
        risen = is.lines.risen;
        later = is.lines.later;
        over = is.lines.over;
        going = is.lines.going;
        closed = is.lines.closed;
        upto = is.lines.upto;
        near = is.lines.near;
        unheard = is.lines.unheard;
        on = is.lines.on;
        off = is.lines.off;
        counted = λ some. below books.credits.outstanding _ (is.lines.counted some);
      };
      idle = fin.idle;
      numbers = is.numbers;
      rising = fin.rising;
      rows = rows_to books.id books.session books.next.number (drop 1 books.pending) (drop 1 books.pending) books.rows rows' refl
          (λ q. rows_marked books.id q books.rows place row there) fin.rows;
      counted = record {
        row = open_start books.id books.current rows';
        exact = λ some. counts books.credits.outstanding _ _ (length (accepted books.current judged)) (mark_here books.id books.current books.rows place row there under unanswered)
            (is.counted.exact some) (enough (open_room books.id books.current books.rows place row there under unanswered) (is.served books.current some));
        most = λ some. below books.credits.outstanding _ (is.counted.most some);
        limits = limits_on books.id books.current books.rows rows' judged judged books.grants (is.logins.on on)
            (λ login some apart. (mark_other books.id login books.rows place row there (other_row row login under apart), refl)) is.counted.limits;
        asked_out = fin.counted.asked_out;
        none_later = is.counted.none_later;
      };
    }
  where
    some_is : (a b : RowKey) → Some a ≡ Some b → a ≡ b
    some_is a b same = cc (same)

    own_row : (row : RowKey) → row.unit ≡ books.id → row.login ≡ books.current → is_under books.id books.current row ≡ true
    own_row row unit login = subst (λ (z : UnitId × ℕ). same_unit z.0 books.id && (z.1 == books.current) ≡ true) (λ i. ((sym unit) i, (sym login) i))
        (both (same_unit books.id books.id) (books.current == books.current) (same_self books.id) (eq-eqb books.current books.current refl))
      where
        both : (a b : Bool) → a ≡ true → b ≡ true → a && b ≡ true
        both a b x y = cc (x, y)

    other_row : (row : RowKey) (login : ℕ) → is_under books.id books.current row ≡ true → (books.current == login) ≡ false → is_under books.id login row ≡ false
    other_row row login under apart = second (same_unit row.unit books.id) (row.login == login)
        (subst (λ (n : ℕ). (n == login) ≡ false) (sym (eqb-true row.login books.current (right (same_unit row.unit books.id) (row.login == books.current) under))) apart)
      where
        second : (a b : Bool) → b ≡ false → a && b ≡ false
        second true b is = is
        second false b is = refl

        right : (a b : Bool) → a && b ≡ true → b ≡ true
        right true b is = is
        right false b is = absurd (cc (is))

    below : (a c : ℕ) → a ≤ c → a - 1 ≤ c
    below a c low = omega (arith, low)

    counts : (a b b' n : ℕ) → b' ≡ suc b → a + b ≡ n → suc b ≤ n → (a - 1) + b' ≡ n
    counts a b b' n more was room = omega (arith, more, was, room)

    enough : suc (answered_under books.id books.current books.rows) ≤ length (filter (is_under books.id books.current) books.rows)
        → IsServedUnder books.id books.session judged books.rows books.grants books.stage books.pending books.current
        → suc (answered_under books.id books.current books.rows) ≤ length (accepted books.current judged)
    enough room was = over _ _ _ _ (length was.rest) room (length-map (filter (is_under books.id books.current) books.rows) (λ (r : RowKey). r.key))
        (ap length was.in_order ∙ length-append (map (λ (r : RowKey). r.key) (filter (is_under books.id books.current) books.rows)) was.rest)
      where
        over : (a b c d e : ℕ) → a ≤ b → c ≡ b → d ≡ c + e → a ≤ d
        over a b c d e room same sum = omega (arith, room, same, sum)

    served_marked : (login : ℕ) → IsServedUnder books.id books.session judged books.rows books.grants stages.Start (drop 1 books.pending) login
        → IsServedUnder books.id books.session judged (slice_set books.rows place (marked row)) books.grants stages.Start (drop 1 books.pending) login
    served_marked login was = record {
      rest = was.rest;
      in_order = was.in_order ∙ ap (λ (keys : List Key). keys ++ was.rest) (sym (mark_under books.id login books.rows place row there));
      waiting = was.waiting;
      out = was.out;
    }
