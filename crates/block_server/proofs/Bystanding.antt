-- A unit's books as it is made, and over the turns of other units.
use Rattle.vio_num.specs.declared.history.Lapse.TheVariants as lapses
use Rattle.block_server.proofs.Numbering.{numbers_new, numbers_others}
use Rattle.block_server.proofs.Rising.{rising_new, rising_others}
use Rattle.block_server.proofs.RowsRising.{rows_new}
use Rattle.block_server.proofs.Counting.{open_start}
use Rattle.std.proofs.Common.{◌≡◌, ◌⊎◌, inl, ◌==◌, ◌&&◌, ◌++◌, ◌≤◌, ℕ, Bool, true, false, All, List, [], ◌∷◌, None, filter, refl, sym, ◌∙◌, ap, subst, arith, append-nil}
use Rattle.std.proofs.lemmas.List.Elements.{Contains-append_left, All-head, All-nil, All-tail, All-weaker, filter-append, All-append}
use Rattle.vio_num.specs.declared.history.Grant.{Grant}
use Rattle.vio_num.specs.declared.history.Grant.TheVariants.{Granted, Lapsed}
use Rattle.vio_num.specs.declared.names.UnitId.{UnitId}
use Rattle.block_server.specs.Makers.{same_unit}
use Rattle.block_server.specs.Receipts.{unit_of}
use Rattle.block_server.specs.Judged.{Ahead, AreKept, Books, Credits, HasFate, HasGrant, IsServedUnder, Judged, RowKey, ends, is_logout, logs_out, HasLimit}
use Rattle.block_server.specs.declared.service.Stage.TheVariants as stages
use Rattle.block_server.proofs.Judging.{filter_pass}
use Rattle.block_server.proofs.Lapsing.{lines_new, lines_others}
use Rattle.block_server.proofs.Keeping.{fate_grows}

-- what a filter leaves of a list with others behind it, none of which it takes
filter_none : {X : Type 0} (test : X → Bool) (xs : List X) → All (λ x. test x ≡ false) xs → filter test xs ≡ []
filter_none test [] all = refl
filter_none test (x ∷ xs) all =
    filter_pass test x xs (All-head (λ y. test y ≡ false) x xs all) ∙ filter_none test xs (All-tail (λ y. test y ≡ false) x xs all)

filter_others : {X : Type 0} (test : X → Bool) (xs more : List X) → All (λ x. test x ≡ false) more → filter test (xs ++ more) ≡ filter test xs
filter_others test xs more all = filter-append test xs more ∙ ap (λ ys. filter test xs ++ ys) (filter_none test more all) ∙ append-nil (filter test xs)

first_false : (a b : Bool) → a ≡ false → a && b ≡ false
first_false a b is = cc (is)

next_false : (a b : Bool) → b ≡ false → a && b ≡ false
next_false true b is = is
next_false false b is = refl

no_end : (unit : UnitId) (login : ℕ) (line : Grant) → same_unit (unit_of line) unit ≡ false → ends unit login line ≡ false
no_end unit login (Granted of session n number credits) other = refl
no_end unit login (Lapsed of session n cause outstanding granted) other = first_false (same_unit of unit) (n == login) other

no_logout : (unit : UnitId) (login : ℕ) (line : Grant) → same_unit (unit_of line) unit ≡ false → logs_out unit login line ≡ false
no_logout unit login (Granted of session n number credits) other = refl
no_logout unit login (Lapsed of session n cause outstanding granted) other =
    next_false (is_logout cause) (same_unit of unit && (n == login)) (first_false (same_unit of unit) (n == login) other)

grant_grows : (unit : UnitId) (grants more : List Grant) (session login number : ℕ) → HasGrant unit grants session login number → HasGrant unit (grants ++ more) session login number
grant_grows unit grants more session login number is =
    record { at = is.at; credits = is.credits; listed = Contains-append_left grants more (Granted unit session login is.at is.credits) is.listed; earlier = is.earlier }

no_limit : (unit : UnitId) (rows : List RowKey) (judged : List Judged) (line : Grant) → same_unit (unit_of line) unit ≡ false → HasLimit unit rows judged line
no_limit unit rows judged (Granted of session login number credits) other = tt
no_limit unit rows judged (Lapsed of session login lapses.Logout outstanding granted) other = tt
no_limit unit rows judged (Lapsed of session login lapses.Lost outstanding granted) other = tt
no_limit unit rows judged (Lapsed of session login lapses.Early outstanding granted) other = tt
no_limit unit rows judged (Lapsed of session login lapses.BadIu outstanding granted) other = tt
no_limit unit rows judged (Lapsed of session login lapses.NotLogin outstanding granted) other = tt
no_limit unit rows judged (Lapsed of session login lapses.Refused outstanding granted) other = tt
no_limit unit rows judged (Lapsed of session login lapses.OverLimit outstanding granted) other = λ own. absurd (apart (same_unit of unit) other own)
  where
    apart : (b : Bool) → b ≡ false → b ≡ true → ⊥
    apart b is other = cc (is, other)

-- Lines of other units came.
pub keeps_lines : (books : Books) (lines : List Grant) (judged : List Judged) → All (λ line. same_unit (unit_of line) books.id ≡ false) lines → AreKept books judged
    → AreKept (record books { grants = books.grants ++ lines }) judged
keeps_lines books lines judged apart is = record {
  fates = fate_grows books.id books.grants lines judged is.fates;
  served = λ login some. at login (is.served login some);
  logins = record {
    most = is.logins.most;
    on = λ some. same_ends books.current ∙ is.logins.on some;
    none_later = λ n high. same_ends n ∙ is.logins.none_later n high;
    granted = λ some. grant_grows books.id books.grants lines books.session books.current books.next.number (is.logins.granted some);
    takes = is.logins.takes;
  };
  pending = is.pending;
  stage = is.stage;
  kept = is.kept;
  under = is.under;
  lines = lines_others books.id books.session books.next books.current books.taking books.up books.credits books.grants books.ended judged lines apart is.lines;
  idle = is.idle;
  numbers = numbers_others books.id books.session books.current books.last books.grants lines apart is.numbers;
  rising = rising_others books.id books.session books.next.number books.pending books.grants lines apart is.rising;
  rows = is.rows;
  counted = record {
    row = is.counted.row;
    exact = is.counted.exact;
    most = is.counted.most;
    limits = All-append (HasLimit books.id books.rows judged) books.grants lines is.counted.limits
        (All-weaker (λ line. same_unit (unit_of line) books.id ≡ false) (HasLimit books.id books.rows judged) (λ line other. no_limit books.id books.rows judged line other) lines apart);
    asked_out = is.counted.asked_out;
    none_later = is.counted.none_later;
  };
}
  where
    same_ends : (n : ℕ) → filter (ends books.id n) (books.grants ++ lines) ≡ filter (ends books.id n) books.grants
    same_ends n = filter_others (ends books.id n) books.grants lines
        (All-weaker (λ line. same_unit (unit_of line) books.id ≡ false) (λ line. ends books.id n line ≡ false) (λ line other. no_end books.id n line other) lines apart)

    same_logs : (n : ℕ) → filter (logs_out books.id n) (books.grants ++ lines) ≡ filter (logs_out books.id n) books.grants
    same_logs n = filter_others (logs_out books.id n) books.grants lines
        (All-weaker (λ line. same_unit (unit_of line) books.id ≡ false) (λ line. logs_out books.id n line ≡ false) (λ line other. no_logout books.id n line other) lines apart)

    at : (login : ℕ) → IsServedUnder books.id books.session judged books.rows books.grants books.stage books.pending login
        → IsServedUnder books.id books.session judged books.rows (books.grants ++ lines) books.stage books.pending login
    at login was = record {
      rest = was.rest;
      in_order = was.in_order;
      waiting = λ on. was.waiting (sym (same_ends login) ∙ on);
      out = subst (λ (xs : List Grant). (xs ≡ []) ⊎ (was.rest ≡ [])) (sym (same_logs login)) was.out;
    }

-- the books of a unit that was made
abbrev pub fresh_books : (id : UnitId) (session : ℕ) (next : Ahead) (ended up : Bool) (credits : Credits) → Books
fresh_books id session next ended up credits = record {
  id = id;
  session = session;
  next = next;
  current = 0;
  last = 0;
  taking = false;
  stage = stages.Start;
  kept = None;
  pending = [];
  rows = [];
  grants = [];
  ended = ended;
  up = up;
  credits = credits;
}

-- A unit was made, among no rows and no lines, and no session of its queue began.
pub kept_new : (id : UnitId) (session : ℕ) (next : Ahead) (ended up : Bool) (credits : Credits) → session ≡ 0 → next.taken ≡ [] → next.number ≡ 0 → AreKept (fresh_books id session next ended up credits) []
kept_new id session next ended up credits first none zero = record {
  fates = All-nil (λ (j : Judged). HasFate id [] j.receipt j.fate);
  served = λ login some. record { rest = []; in_order = refl; waiting = λ on. refl; out = inl refl };
  logins = record {
    most = omega arith;
    on = λ some. refl;
    none_later = λ n high. refl;
    granted = λ some. absurd (no_one some);
    takes = λ on. absurd (cc (on));
  };
  pending = tt;
  stage = tt;
  kept = tt;
  under = All-nil (λ (row : RowKey). same_unit row.unit id ≡ true → 1 ≤ row.login);
  lines = lines_new id session next up credits ended first none zero;
  idle = λ over. (refl, refl);
  numbers = numbers_new id session;
  rising = rising_new id session next.number;
  rows = rows_new id session next.number;
  counted = record {
    row = open_start id 0 [];
    exact = λ some. absurd (no_one some);
    most = λ some. absurd (no_one some);
    limits = All-nil (HasLimit id [] []);
    asked_out = λ some. absurd (no_one some);
    none_later = λ login high. refl;
  };
}
  where
    no_one : 1 ≤ 0 → ⊥
    no_one some = absurd (omega (arith, some))
