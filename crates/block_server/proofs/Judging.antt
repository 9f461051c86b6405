-- How a unit's requests stay those that are served in order, each once: over lists alone.
use Rattle.std.proofs.Common.{◌≡◌, ◌≢◌, ◌⊎◌, inl, inr, ◌==◌, ◌&&◌, ◌++◌, ◌≤◌, ℕ, Bool, true, false, cond, List, [], ◌∷◌, map, filter, refl, sym, ◌∙◌, ap, subst, arith, append-nil, append_assoc}
use Rattle.std.proofs.lemmas.Bool.{eq-eqb, eqb-true, ne_eqb}
use Rattle.std.proofs.lemmas.List.{map-append}
use Rattle.std.proofs.lemmas.List.Elements.{filter-append}
use Rattle.vio_num.specs.declared.history.Grant.{Grant}
use Rattle.vio_num.specs.declared.history.Grant.TheVariants.{Granted, Lapsed}
use Rattle.vio_num.specs.declared.history.Lapse.{Lapse}
use Rattle.vio_num.specs.declared.names.UnitId.{UnitId}
use Rattle.block_server.specs.Makers.{same_unit}
use Rattle.block_server.specs.Receipts.{Receipt}
use Rattle.block_server.specs.Judged.{AreLogins, ArePending, Fate, HasFront, IsOn, IsServedUnder, Judged, Key, RowKey, accepted, due, due_under, ends, gets_row, has_row, is_due, is_login, is_logout, is_under, logs_out, login_of, receipt_key, request_key, rows_under}
use Rattle.block_server.specs.Fates.Fate.{asked}
use Rattle.block_server.specs.declared.request.Order.{Order}
use Rattle.block_server.specs.declared.request.Order.TheVariants as orders
use Rattle.block_server.specs.declared.request.Request.{Request}
use Rattle.block_server.specs.declared.service.Stage.{Stage}
use Rattle.block_server.specs.declared.service.Stage.TheVariants as stages

-- what a filter leaves of a list with one element more
pub filter_kept : {X : Type 0} (test : X → Bool) (xs : List X) (x : X) → test x ≡ true → filter test (xs ++ x ∷ []) ≡ filter test xs ++ x ∷ []
filter_kept test xs x is = filter-append test xs (x ∷ []) ∙ ap (λ b. filter test xs ++ cond b (x ∷ []) []) is

pub filter_left : {X : Type 0} (test : X → Bool) (xs : List X) (x : X) → test x ≡ false → filter test (xs ++ x ∷ []) ≡ filter test xs
filter_left test xs x is = filter-append test xs (x ∷ []) ∙ ap (λ b. filter test xs ++ cond b (x ∷ []) []) is ∙ append-nil (filter test xs)

pub filter_first : {X : Type 0} (test : X → Bool) (x : X) (xs : List X) → test x ≡ true → filter test (x ∷ xs) ≡ x ∷ filter test xs
filter_first test x xs is = ap (λ b. cond b (x ∷ filter test xs) (filter test xs)) is

pub filter_pass : {X : Type 0} (test : X → Bool) (x : X) (xs : List X) → test x ≡ false → filter test (x ∷ xs) ≡ filter test xs
filter_pass test x xs is = ap (λ b. cond b (x ∷ filter test xs) (filter test xs)) is

no_push : {X : Type 0} (xs : List X) (x : X) → xs ++ x ∷ [] ≢ []
no_push [] x none = absurd (cc (none))
no_push (y ∷ xs) x none = absurd (cc (none))

pub unit_self : (unit : UnitId) → same_unit unit unit ≡ true
unit_self unit = both (unit.partition == unit.partition) (unit.unit == unit.unit) (eq-eqb unit.partition unit.partition refl) (eq-eqb unit.unit unit.unit refl)
  where
    both : (a b : Bool) → a ≡ true → b ≡ true → a && b ≡ true
    both a b x y = cc (x, y)

and_true : (a b : Bool) → a ≡ true → b ≡ true → a && b ≡ true
and_true a b x y = cc (x, y)

and_false : (a b : Bool) → b ≡ false → a && b ≡ false
and_false true b is = is
and_false false b is = refl

and_first : (a b : Bool) → a ≡ false → a && b ≡ false
and_first a b is = cc (is)

both_first : (a b : Bool) → a && b ≡ true → a ≡ true
both_first true b is = refl
both_first false b is = absurd (cc (is))

both_next : (a b : Bool) → a && b ≡ true → b ≡ true
both_next true b is = is
both_next false b is = absurd (cc (is))

-- a command or a task asks for no login
pub row_no_login : (order : Order) → gets_row order ≡ true → is_login order ≡ false
row_no_login (orders.Login request) is = absurd (cc (is))
row_no_login orders.Logout is = refl
row_no_login (orders.Task task) is = refl
row_no_login (orders.Command command) is = refl
row_no_login orders.Unreadable is = refl

pub login_no_row : (order : Order) → is_login order ≡ true → gets_row order ≡ false
login_no_row (orders.Login request) is = refl
login_no_row orders.Logout is = absurd (cc (is))
login_no_row (orders.Task task) is = absurd (cc (is))
login_no_row (orders.Command command) is = absurd (cc (is))
login_no_row orders.Unreadable is = absurd (cc (is))

-- The request in service gets its row.
pub served_row : (unit : UnitId) (session : ℕ) (judged : List Judged) (rows : List RowKey) (grants : List Grant) (stage stage' : Stage) (front : Request) (rest : List Request) (current login : ℕ)
    → has_row stage ≡ false → has_row stage' ≡ true → gets_row front.order ≡ true → front.login ≡ current → IsOn unit current grants
    → IsServedUnder unit session judged rows grants stage (front ∷ rest) login
    → IsServedUnder unit session judged (rows ++ record { unit = unit; login = front.login; key = request_key session front; answered = false } ∷ []) grants stage' (front ∷ rest) login
served_row unit session judged rows grants stage stage' front rest current login none some asks under on is = at (front.login == login) refl
  where
    made : RowKey
    made = record { unit = unit; login = front.login; key = request_key session front; answered = false }

    more : List Key
    more = map (request_key session) (filter (is_due login) rest)

    after : due_under session login (has_row stage') (front ∷ rest) ≡ more
    after = ap (λ b. due_under session login b (front ∷ rest)) some

    first : (b : Bool) → (front.login == login) ≡ b → due_under session login false (front ∷ rest) ≡ cond b (request_key session front ∷ more) more
    first true e = ap (map (request_key session)) (filter_first (is_due login) front rest (and_true _ _ asks e))
    first false e = ap (map (request_key session)) (filter_pass (is_due login) front rest (and_false _ _ e))

    none_left : (xs : List Key) → xs ≡ request_key session front ∷ more → (filter (logs_out unit login) grants ≡ []) ⊎ (xs ≡ [])
        → filter (logs_out unit login) grants ≡ []
    none_left xs some (inl gone) = gone
    none_left xs some (inr gone) = absurd (cc (some, gone))

    at : (b : Bool) → (front.login == login) ≡ b → IsServedUnder unit session judged (rows ++ made ∷ []) grants stage' (front ∷ rest) login
    at true e =
        let same : login ≡ current = sym (eqb-true front.login login e) ∙ under in
        let was : is.rest ≡ request_key session front ∷ more =
        is.waiting (subst (λ (n : ℕ). IsOn unit n grants) (sym same) on) ∙ ap (λ b. due_under session login b (front ∷ rest)) none ∙ first true e in
        record {
          rest = more;
          in_order = is.in_order ∙ ap (λ xs. rows_under unit login rows ++ xs) was ∙ sym (append_assoc (rows_under unit login rows) (request_key session front ∷ []) more)
              ∙ ap (λ xs. xs ++ more) (sym (ap (map (λ row. row.key)) (filter_kept (is_under unit login) rows made (and_true _ _ (unit_self unit) e))
              ∙ map-append (λ (row : RowKey). row.key) (filter (is_under unit login) rows) (made ∷ [])));
          waiting = λ still. sym after;
          out = inl (none_left is.rest was is.out);
        }
    at false e = record {
      rest = is.rest;
      in_order = is.in_order ∙ ap (λ xs. map (λ row. row.key) xs ++ is.rest) (sym (filter_left (is_under unit login) rows made (and_false _ _ e)));
      waiting = λ still. is.waiting still ∙ ap (λ b. due_under session login b (front ∷ rest)) none ∙ first false e ∙ sym after;
      out = is.out;
    }

-- Of a login that is not on no request is due, nor of any where all ask for one.
none_due : (current next : ℕ) (taking : Bool) (login : ℕ) → login ≢ current → (pending : List Request) → ArePending current next taking pending → filter (is_due login) pending ≡ []
none_due current next taking login apart [] are = refl
none_due current next taking login apart (request ∷ requests) are = at (none_due current next taking login apart requests are.1) (is_due login request) refl
  where
    at : filter (is_due login) requests ≡ [] → (b : Bool) → is_due login request ≡ b → filter (is_due login) (request ∷ requests) ≡ []
    at rest true e = absurd (apart (sym (eqb-true request.login login (both_next (gets_row request.order) (request.login == login) e))
        ∙ (are.0.under (row_no_login request.order (both_first (gets_row request.order) (request.login == login) e))).0))
    at rest false e = filter_pass (is_due login) request requests e ∙ rest

pub no_login_due : (login : ℕ) (pending : List Request) → AreLogins pending → filter (is_due login) pending ≡ []
no_login_due login [] are = refl
no_login_due login (request ∷ requests) are =
    filter_pass (is_due login) request requests (and_first (gets_row request.order) (request.login == login) (login_no_row request.order are.0))
    ∙ no_login_due login requests are.1

-- while none is on
pub all_logins : (current next : ℕ) (taking : Bool) (pending : List Request) → current ≡ 0 → ArePending current next taking pending → AreLogins pending
all_logins current next taking [] none are = tt
all_logins current next taking (request ∷ requests) none are = (at (is_login request.order) refl, all_logins current next taking requests none are.1)
  where
    below : (n : ℕ) → 1 ≤ n → n ≢ 0
    below n some none = omega (arith, some, none)

    at : (b : Bool) → is_login request.order ≡ b → is_login request.order ≡ true
    at true e = e
    at false e = absurd (below current (are.0.under e).1 none)

due_none : (login : ℕ) (has : Bool) (pending : List Request) → filter (is_due login) pending ≡ [] → filter (is_due login) (due has pending) ≡ []
due_none login false pending none = none
due_none login true [] none = none
due_none login true (request ∷ requests) none = at (is_due login request) refl
  where
    at : (b : Bool) → is_due login request ≡ b → filter (is_due login) requests ≡ []
    at true e = absurd (cc (filter_first (is_due login) request requests e, none))
    at false e = sym (filter_pass (is_due login) request requests e) ∙ none

-- What is due stays as it was.
pub served_due : (unit : UnitId) (session : ℕ) (judged : List Judged) (rows : List RowKey) (grants : List Grant) (stage stage' : Stage) (pending pending' : List Request) (login : ℕ)
    → due_under session login (has_row stage) pending ≡ due_under session login (has_row stage') pending'
    → IsServedUnder unit session judged rows grants stage pending login → IsServedUnder unit session judged rows grants stage' pending' login
served_due unit session judged rows grants stage stage' pending pending' login same is =
    record { rest = is.rest; in_order = is.in_order; waiting = λ on. is.waiting on ∙ same; out = is.out }

-- The oldest request is dropped, which has its row or gets none.
pub due_popped : (session login : ℕ) (has : Bool) (front : Request) (rest : List Request) → (has ≡ true) ⊎ (gets_row front.order ≡ false)
    → due_under session login has (front ∷ rest) ≡ due_under session login false rest
due_popped session login true front rest gone = refl
due_popped session login false front rest (inl some) = absurd (cc (some))
due_popped session login false front rest (inr none) =
    ap (map (request_key session)) (filter_pass (is_due login) front rest (and_first (gets_row front.order) (front.login == login) none))

no_end : (unit : UnitId) (login current : ℕ) (grants : List Grant) (line : Grant) → ends unit login line ≡ true → IsOn unit login (grants ++ line ∷ []) → ⊥
no_end unit login current grants line is on = no_push (filter (ends unit login) grants) line (sym (filter_kept (ends unit login) grants line is) ∙ on)

apart_of : (a b : ℕ) → (a == b) ≡ false → b ≢ a
apart_of a b e same = absurd (cc (e, eq-eqb a b (sym same)))

-- The login that is on ended for another cause than its logout, and what was pending is dropped.
pub served_ended : (unit : UnitId) (session session' of : ℕ) (judged : List Judged) (rows : List RowKey) (grants : List Grant) (stage : Stage) (pending : List Request) (current next login : ℕ) (taking : Bool)
    (cause : Lapse) (outstanding granted : ℕ) → is_logout cause ≡ false → ArePending current next taking pending
    → IsServedUnder unit session judged rows grants stage pending login
    → IsServedUnder unit session' judged rows (grants ++ Lapsed unit of current cause outstanding granted ∷ []) stages.Start [] login
served_ended unit session session' of judged rows grants stage pending current next login taking cause outstanding granted other are is = record {
  rest = is.rest;
  in_order = is.in_order;
  waiting = λ on. at (current == login) refl on;
  out = out_of is.out;
}
  where
    line : Grant
    line = Lapsed unit of current cause outstanding granted

    same : filter (logs_out unit login) (grants ++ line ∷ []) ≡ filter (logs_out unit login) grants
    same = filter_left (logs_out unit login) grants line (and_first (is_logout cause) (same_unit unit unit && (current == login)) other)

    out_of : (filter (logs_out unit login) grants ≡ []) ⊎ (is.rest ≡ []) → (filter (logs_out unit login) (grants ++ line ∷ []) ≡ []) ⊎ (is.rest ≡ [])
    out_of (inl none) = inl (same ∙ none)
    out_of (inr none) = inr none

    at : (b : Bool) → (current == login) ≡ b → IsOn unit login (grants ++ line ∷ []) → is.rest ≡ []
    at true e on = absurd (no_end unit login current grants line (and_true (same_unit unit unit) (current == login) (unit_self unit) e) on)
    at false e on = is.waiting (sym (filter_left (ends unit login) grants line (and_false (same_unit unit unit) (current == login) e)) ∙ on)
        ∙ ap (map (request_key session)) (due_none login (has_row stage) pending (none_due current next taking login (apart_of current login e) pending are))

-- It ended by its logout, behind which nothing is under a login.
pub served_left : (unit : UnitId) (session of : ℕ) (judged : List Judged) (rows : List RowKey) (grants : List Grant) (stage : Stage) (front : Request) (rest : List Request) (current login : ℕ)
    (cause : Lapse) (outstanding granted : ℕ) → gets_row front.order ≡ false → AreLogins rest → (1 ≤ current → IsOn unit current grants) → 1 ≤ login
    → IsServedUnder unit session judged rows grants stage (front ∷ rest) login
    → IsServedUnder unit session judged rows (grants ++ Lapsed unit of current cause outstanding granted ∷ []) stages.Start rest login
served_left unit session of judged rows grants stage front rest current login cause outstanding granted none behind on some is = record {
  rest = is.rest;
  in_order = is.in_order;
  waiting = λ still. at (current == login) refl still ∙ sym later;
  out = out_of (current == login) refl is.out;
}
  where
    line : Grant
    line = Lapsed unit of current cause outstanding granted

    later : due_under session login false rest ≡ []
    later = ap (map (request_key session)) (no_login_due login rest behind)

    left : IsOn unit login grants → is.rest ≡ []
    left on = is.waiting on ∙ due_popped session login (has_row stage) front rest (inr none) ∙ later

    at : (b : Bool) → (current == login) ≡ b → IsOn unit login (grants ++ line ∷ []) → is.rest ≡ []
    at true e still = absurd (no_end unit login current grants line (and_true (same_unit unit unit) (current == login) (unit_self unit) e) still)
    at false e still = left (sym (filter_left (ends unit login) grants line (and_false (same_unit unit unit) (current == login) e)) ∙ still)

    out_of : (b : Bool) → (current == login) ≡ b → (filter (logs_out unit login) grants ≡ []) ⊎ (is.rest ≡ [])
        → (filter (logs_out unit login) (grants ++ line ∷ []) ≡ []) ⊎ (is.rest ≡ [])
    out_of true e was = inr (left (subst (λ (n : ℕ). IsOn unit n grants) (eqb-true current login e) (on (subst (λ (n : ℕ). 1 ≤ n) (sym (eqb-true current login e)) some))))
    out_of false e (inl gone) = inl (filter_left (logs_out unit login) grants line
        (and_false (is_logout cause) (same_unit unit unit && (current == login)) (and_false (same_unit unit unit) (current == login) e)) ∙ gone)
    out_of false e (inr gone) = inr gone

-- A login began, for the oldest request, while all that were pending asked for one.
pub served_granted : (unit : UnitId) (session of n number credits : ℕ) (judged : List Judged) (rows : List RowKey) (grants : List Grant) (stage : Stage) (front : Request) (rest : List Request) (login : ℕ)
    → AreLogins (front ∷ rest) → IsServedUnder unit session judged rows grants stage (front ∷ rest) login
    → IsServedUnder unit session judged rows (grants ++ Granted unit of n number credits ∷ []) stages.Start rest login
served_granted unit session of n number credits judged rows grants stage front rest login are is = record {
  rest = is.rest;
  in_order = is.in_order;
  waiting = λ still. is.waiting (sym (filter_left (ends unit login) grants line refl) ∙ still)
      ∙ ap (map (request_key session)) (due_none login (has_row stage) (front ∷ rest) (no_login_due login (front ∷ rest) are))
      ∙ sym (ap (map (request_key session)) (no_login_due login rest are.1));
  out = out_of is.out;
}
  where
    line : Grant
    line = Granted unit of n number credits

    out_of : (filter (logs_out unit login) grants ≡ []) ⊎ (is.rest ≡ []) → (filter (logs_out unit login) (grants ++ line ∷ []) ≡ []) ⊎ (is.rest ≡ [])
    out_of (inl none) = inl (filter_left (logs_out unit login) grants line refl ∙ none)
    out_of (inr none) = inr none

-- what is due once a request is behind the others
no_front : HasFront [] → ⊥
no_front is = absurd (cc (is.parts))

due_push : (session login : ℕ) (has : Bool) (pending : List Request) (request : Request) → (has ≡ true → HasFront pending) → is_due login request ≡ true
    → due_under session login has (pending ++ request ∷ []) ≡ due_under session login has pending ++ request_key session request ∷ []
due_push session login false pending request front is =
    ap (map (request_key session)) (filter_kept (is_due login) pending request is) ∙ map-append (request_key session) (filter (is_due login) pending) (request ∷ [])
due_push session login true [] request front is = absurd (no_front (front refl))
due_push session login true (first ∷ pending) request front is =
    ap (map (request_key session)) (filter_kept (is_due login) pending request is) ∙ map-append (request_key session) (filter (is_due login) pending) (request ∷ [])

pub due_pass : (session login : ℕ) (has : Bool) (pending : List Request) (request : Request) → (has ≡ true → HasFront pending) → is_due login request ≡ false
    → due_under session login has (pending ++ request ∷ []) ≡ due_under session login has pending
due_pass session login false pending request front is = ap (map (request_key session)) (filter_left (is_due login) pending request is)
due_pass session login true [] request front is = absurd (no_front (front refl))
due_pass session login true (first ∷ pending) request front is = ap (map (request_key session)) (filter_left (is_due login) pending request is)

-- no line logs out a login that none ends
on_logs : (unit : UnitId) (login : ℕ) (grants : List Grant) → IsOn unit login grants → filter (logs_out unit login) grants ≡ []
on_logs unit login [] on = refl
on_logs unit login (Granted of session n number credits ∷ grants) on = on_logs unit login grants on
on_logs unit login (Lapsed of session n cause outstanding granted ∷ grants) on = at (λ still. on_logs unit login grants still) (same_unit of unit && (n == login)) refl
  where
    line : Grant
    line = Lapsed of session n cause outstanding granted

    at : (IsOn unit login grants → filter (logs_out unit login) grants ≡ []) → (b : Bool) → ends unit login line ≡ b → filter (logs_out unit login) (line ∷ grants) ≡ []
    at rest true e = absurd (cc (filter_first (ends unit login) line grants e, on))
    at rest false e = filter_pass (logs_out unit login) line grants (and_false (is_logout cause) (same_unit of unit && (n == login)) e)
        ∙ rest (sym (filter_pass (ends unit login) line grants e) ∙ on)

-- A command or a task came behind the others, under the login that is on.
pub served_more : (unit : UnitId) (session : ℕ) (judged : List Judged) (rows : List RowKey) (grants : List Grant) (stage : Stage) (pending : List Request) (request : Request) (receipt : Receipt) (current login : ℕ)
    → receipt_key receipt ≡ request_key session request → gets_row request.order ≡ true → request.login ≡ current → (has_row stage ≡ true → HasFront pending)
    → IsOn unit current grants → IsServedUnder unit session judged rows grants stage pending login
    → IsServedUnder unit session (judged ++ record { receipt = receipt; fate = asked current } ∷ []) rows grants stage (pending ++ request ∷ []) login
served_more unit session judged rows grants stage pending request receipt current login key asks under front on is = at (current == login) refl
  where
    j : Judged
    j = record { receipt = receipt; fate = asked current }

    k : Key
    k = request_key session request

    at : (b : Bool) → (current == login) ≡ b → IsServedUnder unit session (judged ++ j ∷ []) rows grants stage (pending ++ request ∷ []) login
    at true e = record {
      rest = is.rest ++ k ∷ [];
      in_order = ap (map (λ j. receipt_key j.receipt)) (filter_kept (λ j. login_of j.fate == login) judged j e)
          ∙ map-append (λ (j : Judged). receipt_key j.receipt) (filter (λ j. login_of j.fate == login) judged) (j ∷ [])
          ∙ ap (λ (x : Key). accepted login judged ++ x ∷ []) key ∙ ap (λ xs. xs ++ k ∷ []) is.in_order ∙ append_assoc (rows_under unit login rows) is.rest (k ∷ []);
      waiting = λ still. ap (λ xs. xs ++ k ∷ []) (is.waiting still)
          ∙ sym (due_push session login (has_row stage) pending request front (and_true (gets_row request.order) (request.login == login) asks (ap (λ (n : ℕ). n == login) under ∙ e)));
      out = inl (on_logs unit login grants (subst (λ (n : ℕ). IsOn unit n grants) (eqb-true current login e) on));
    }
    at false e = record {
      rest = is.rest;
      in_order = ap (map (λ j. receipt_key j.receipt)) (filter_left (λ j. login_of j.fate == login) judged j e) ∙ is.in_order;
      waiting = λ still. is.waiting still
          ∙ sym (due_pass session login (has_row stage) pending request front (and_false (gets_row request.order) (request.login == login) (ap (λ (n : ℕ). n == login) under ∙ e)));
      out = is.out;
    }

-- An entry was judged that is neither.
pub served_other : (unit : UnitId) (session : ℕ) (judged : List Judged) (rows : List RowKey) (grants : List Grant) (stage : Stage) (pending : List Request) (receipt : Receipt) (fate : Fate) (login : ℕ)
    → login_of fate ≡ 0 → 1 ≤ login → IsServedUnder unit session judged rows grants stage pending login
    → IsServedUnder unit session (judged ++ record { receipt = receipt; fate = fate } ∷ []) rows grants stage pending login
served_other unit session judged rows grants stage pending receipt fate login none some is = record {
  rest = is.rest;
  in_order = ap (map (λ j. receipt_key j.receipt)) (filter_left (λ j. login_of j.fate == login) judged (record { receipt = receipt; fate = fate })
      (ne_eqb (login_of fate) login (apart (login_of fate) login none some))) ∙ is.in_order;
  waiting = is.waiting;
  out = is.out;
}
  where
    apart : (a b : ℕ) → a ≡ 0 → 1 ≤ b → a ≢ b
    apart a b none some same = omega (arith, none, some, same)
