-- What is decided of an information unit.
use Rattle.std.proofs.Common.{◌≡◌, ◌≢◌, inl, inr, ◌+◌, ◌++◌, ◌<◌, ◌≤◌, ℕ, Bool, Option, Some, None, if◌then◌else◌, true, false, IsSome, List, [], ◌∷◌, length, refl, sym, ◌∙◌, ap, subst, arith}
use Rattle.std.proofs.Math.Nat.{lt_of_not-le}
use Rattle.srp_iu.specs.Grammar.{Spells}
use Rattle.srp_iu.specs.declared.command.Cmd.{Cmd}
use Rattle.srp_iu.specs.declared.login.LoginReq.{LoginReq}
use Rattle.srp_iu.specs.declared.task.TskMgmt.{TskMgmt}
use Rattle.srp_iu.specs.declared.unit.Iu.{Iu}
use Rattle.srp_iu.specs.declared.unit.Iu.TheVariants as units
use Rattle.vio_num.specs.declared.history.Grant.{Grant}
use Rattle.vio_num.specs.declared.history.Grant.TheVariants.{Granted, Lapsed}
use Rattle.crq_ring.specs.Sessions.{of_session}
use Rattle.std.proofs.lemmas.List.Elements.{Contains-push}
use Rattle.vio_num.specs.declared.history.Lapse.{Lapse}
use Rattle.vio_num.specs.declared.history.Lapse.TheVariants as lapses
use Rattle.block_server.specs.Books.{books_of, credits_of, is_up}
use Rattle.block_server.specs.Closings.{Gives, IsUnderLogin, TakesNone, last_line}
use Rattle.block_server.specs.Decided.{Decides, DecidesOrder, EndsBooks, IsCause, IsToJudge, JudgesOne, StaysOn, TakesUnder, IsAtLimit}
use Rattle.block_server.specs.Judged.{Ahead, AreKept, Asks, Books, Credits, IsIgnored, IsLastGrant, Judged, accepted, gets_row, is_login, is_logout, is_limit}
use Rattle.block_server.specs.Fates.Fate.{asked, asks_login, asks_logout, ends_it, ignored}
use Rattle.block_server.specs.Receipts.{Receipt, is_ended, is_fatal}
use Rattle.block_server.specs.declared.intake.Verdict.{Verdict}
use Rattle.block_server.specs.declared.intake.Verdict.TheVariants as verdicts
use Rattle.block_server.specs.declared.records.Records.{Records}
use Rattle.block_server.specs.declared.unit.Unit.{Unit}
use Rattle.block_server.proofs.Closing.{none_grows}
use Rattle.block_server.specs.declared.request.Request.{Request}
use Rattle.block_server.proofs.Accepting.{IsNext, grant_of, keeps_asked, keeps_judged, keeps_unasked}
use Rattle.block_server.proofs.Keeping.{moved_to}
use Rattle.block_server.specs.declared.logins.Logins.{Logins}
use Rattle.block_server.specs.declared.request.Order.{Order}
use Rattle.block_server.specs.declared.request.Order.TheVariants as orders

pub under_order : (old new : Logins) (login : ℕ) (bytes : List ℕ) (order : Order) → gets_row order ≡ true → TakesUnder old new login bytes → DecidesOrder old new login bytes order
under_order old new login bytes (orders.Login request) gets is = absurd (cc (gets))
under_order old new login bytes orders.Logout gets is = absurd (cc (gets))
under_order old new login bytes (orders.Task task) gets is = is
under_order old new login bytes (orders.Command command) gets is = is
under_order old new login bytes orders.Unreadable gets is = is

pub task_asks : (bytes : List ℕ) (task : TskMgmt) → Spells bytes (units.TskMgmt task) → Asks bytes
task_asks bytes task is = record { type_is = inl is.unit.kind; tagged = long (length bytes) is.unit.full }
  where
    long : (n : ℕ) → 48 ≤ n → 16 ≤ n
    long n full = omega (arith, full)

pub command_asks : (bytes : List ℕ) (command : Cmd) → Spells bytes (units.Cmd command) → Asks bytes
command_asks bytes command is = record { type_is = inr is.unit.kind; tagged = omega (arith, is.unit.full) }

-- the books once a request was accepted, by the logins
abbrev pub accepted_books : Books → (next' : Ahead) → Logins → Request → Books
accepted_books books next' new request = record books {
  next = next';
  current = new.current;
  last = new.last;
  taking = new.taking;
  pending = books.pending ++ request ∷ [];
  credits = credits_of new;
}

no_login : 1 ≤ 0 → ⊥
no_login some = absurd (omega (arith, some))

-- how the entry stands behind those that were judged
next_to : (books : Books) (session : ℕ) (next' : Ahead) (number : ℕ) (bytes : List ℕ) (receipt : Receipt) → IsToJudge books session next' number bytes receipt → IsNext books next' receipt
next_to books session next' number bytes receipt to = record {
  session_is = to.session_is ∙ sym to.present;
  number_is = to.number_is ∙ sym to.most;
  below = subst (λ (n : ℕ). n < next'.number) (sym to.most) to.below;
  going = to.going;
  up = to.up;
  taken = to.taken;
  all = to.all ∙ ap (λ (n : ℕ). length (of_session n books.next.taken)) (sym to.present);
}

-- What is granted and outstanding, as the logins say.
credits_same : (books : Books) (old new : Logins) → books.credits ≡ credits_of old → new.granted ≡ old.granted → new.target.outstanding ≡ old.target.outstanding → credits_of new ≡ books.credits
credits_same books old new credits granted outstanding = (λ i. record { outstanding = outstanding i; granted = granted i }) ∙ sym credits

-- such a cause ends a session
pub cause_fatal : (logins : Logins) (bytes : List ℕ) (cause : Lapse) (outstanding granted : ℕ) → IsCause logins bytes cause outstanding granted → is_fatal cause ≡ true
cause_fatal logins bytes lapses.Logout outstanding granted is = absurd is
cause_fatal logins bytes lapses.Lost outstanding granted is = absurd is
cause_fatal logins bytes lapses.Early outstanding granted is = absurd is
cause_fatal logins bytes lapses.Refused outstanding granted is = absurd is
cause_fatal logins bytes lapses.BadIu outstanding granted is = refl
cause_fatal logins bytes lapses.NotLogin outstanding granted is = refl
cause_fatal logins bytes lapses.OverLimit outstanding granted is = refl

-- The client asked to end the login whose grant is the last line.
asked_last : (books : Books) (judged : List Judged) (receipt : Receipt) → receipt.session ≡ books.session → IsLastGrant books.id books.session books.current books.credits.granted books.grants
    → TakesNone books.id books.session (judged ++ record { receipt = receipt; fate = asks_logout books.current } ∷ []) books.grants
asked_last books judged receipt now last = λ login number credits other. record {
  one = record { receipt = receipt; fate = asks_logout books.current };
  listed = Contains-push judged (record { receipt = receipt; fate = asks_logout books.current });
  session_is = now;
  fate_is = ap asks_logout (same login number credits other);
}
  where
    login_on : Option Grant → ℕ
    login_on None = 0
    login_on (Some (Granted of session login number credits)) = login
    login_on (Some (Lapsed of session login cause outstanding granted)) = login

    same : (login number credits : ℕ) → last_line books.id books.session books.grants ≡ Some (Granted books.id books.session login number credits) → books.current ≡ login
    same login number credits other = sym (ap login_on last.last) ∙ ap login_on other

-- A command or a task was accepted.
asked_one : (books : Books) (session : ℕ) (next' : Ahead) (number : ℕ) (bytes : List ℕ) (receipt : Receipt) (old new : Logins) (request : Request) → IsToJudge books session next' number bytes receipt
    → books.current ≡ old.current → books.last ≡ old.last → books.taking ≡ old.taking → books.credits ≡ credits_of old → request.number ≡ number → request.unit.items ≡ bytes → gets_row request.order ≡ true
    → is_login request.order ≡ false → TakesUnder old new request.login bytes → JudgesOne books (accepted_books books next' new request) receipt
asked_one books session next' number bytes receipt old new request to current last taking credits at unit gets other is =
    let on : books.taking ≡ true = taking ∙ is.was in
    record {
      fate = asked books.current;
      in_time = λ judged kept some. kept.logins.on some;
      kept = λ judged kept. moved_to (record books {
        next = next';
        pending = books.pending ++ request ∷ [];
        credits = record { outstanding = books.credits.outstanding + 1; granted = books.credits.granted };
      }) (accepted_books books next' new request)
          (judged ++ record { receipt = receipt; fate = asked books.current } ∷ []) refl refl refl (is.stays.current ∙ sym current) (is.stays.last ∙ sym last) (is.stays.taking ∙ sym taking)
          refl refl refl refl refl refl refl
          (λ i. record { outstanding = (is.more ∙ ap (λ (c : Credits). c.outstanding + 1) (sym credits)) i; granted = (is.stays.granted ∙ ap (λ (c : Credits). c.granted) (sym credits)) i })
          (keeps_asked books next' request receipt judged
          (λ i. record { session = (to.session_is ∙ sym to.present) i; number = (to.number_is ∙ sym at) i; bytes = (to.bytes_are ∙ sym unit) i })
          gets other (is.login_is ∙ sym current) on (next_to books session next' number bytes receipt to)
          to.copied (subst Asks (sym to.bytes_are) is.asks)
          (subst (λ (z : ℕ × ℕ). z.0 ≤ z.1)
          (λ i. ((is.more ∙ ap (λ (c : Credits). c.outstanding + 1) (sym credits)) i, (is.stays.granted ∙ ap (λ (c : Credits). c.granted) (sym credits)) i)) is.within) kept);
    }

-- A request was accepted.
pub accepted_one : (books : Books) (session : ℕ) (next' : Ahead) (number : ℕ) (bytes : List ℕ) (receipt : Receipt) (old new : Logins) (request : Request) (order : Order) → IsToJudge books session next' number bytes receipt
    → books.current ≡ old.current → books.last ≡ old.last → books.taking ≡ old.taking → books.credits ≡ credits_of old → request.number ≡ number → request.unit.items ≡ bytes → request.order ≡ order
    → DecidesOrder old new request.login bytes order → JudgesOne books (accepted_books books next' new request) receipt
accepted_one books session next' number bytes receipt old new request (orders.Login asked_for) to current last taking credits at unit order is = record {
  fate = asks_login;
  in_time = λ judged kept some. absurd (no_login some);
  kept = λ judged kept. moved_to (record books { next = next'; taking = books.taking; pending = books.pending ++ request ∷ [] }) (accepted_books books next' new request)
      (judged ++ record { receipt = receipt; fate = asks_login } ∷ []) refl refl refl (is.0.current ∙ sym current) (is.0.last ∙ sym last) (is.0.taking ∙ sym taking) refl refl refl refl refl refl
      refl (credits_same books old new credits is.0.granted is.0.outstanding)
      (keeps_unasked books next' books.taking request receipt asks_login judged refl (to.copied, (asked_for, subst (λ xs. Spells xs (units.LoginReq asked_for)) (sym to.bytes_are) is.1))
      (next_to books session next' number bytes receipt to) (at ∙ sym to.number_is) (ap gets_row order) (inl (ap is_login order))
      (λ other. absurd (cc (other, ap is_login order))) (λ on. on) (λ off. inl off) (λ ends. absurd (cc (ends)))
      (λ off. none_grows books.id books.session judged (record { receipt = receipt; fate = asks_login } ∷ []) books.grants (kept.lines.off off)) kept);
}
accepted_one books session next' number bytes receipt old new request orders.Logout to current last taking credits at unit order is = record {
  fate = asks_logout books.current;
  in_time = λ judged kept some. absurd (no_login some);
  kept = λ judged kept.
      let on : books.taking ≡ true = taking ∙ is.was in
      moved_to (record books { next = next'; taking = false; pending = books.pending ++ request ∷ [] }) (accepted_books books next' new request)
      (judged ++ record { receipt = receipt; fate = asks_logout books.current } ∷ []) refl refl refl (is.current ∙ sym current) (is.last ∙ sym last) is.off refl refl refl refl refl refl
      refl (credits_same books old new credits is.granted is.outstanding)
      (keeps_unasked books next' false request receipt (asks_logout books.current) judged refl (
        to.copied,
        (
          is.tag,
          (
            subst (λ xs. Spells xs (units.ILogout is.tag)) (sym to.bytes_are) is.spelled,
            grant_of books receipt judged on (to.session_is ∙ sym to.present) (upto _ _ (to.most ∙ sym to.number_is)) kept,
          ),
        ),
      )
      (next_to books session next' number bytes receipt to) (at ∙ sym to.number_is) (ap gets_row order)
      (inr (is.login_is ∙ sym current, (kept.logins.takes on, on))) (λ other. refl) (λ off. absurd (cc (off))) (λ off. inr order) (λ ends. absurd (cc (ends)))
      (λ off. asked_last books judged receipt (to.session_is ∙ sym to.present) (kept.lines.on (kept.logins.takes on))) kept);
}
  where
    upto : (a b : ℕ) → a ≡ b → a ≤ b
    upto a b same = omega (arith, same)
accepted_one books session next' number bytes receipt old new request (orders.Task task) to current last taking credits at unit order is =
    asked_one books session next' number bytes receipt old new request to current last taking credits at unit (ap gets_row order) (ap is_login order) is
accepted_one books session next' number bytes receipt old new request (orders.Command command) to current last taking credits at unit order is =
    asked_one books session next' number bytes receipt old new request to current last taking credits at unit (ap gets_row order) (ap is_login order) is
accepted_one books session next' number bytes receipt old new request orders.Unreadable to current last taking credits at unit order is =
    asked_one books session next' number bytes receipt old new request to current last taking credits at unit (ap gets_row order) (ap is_login order) is

-- the books once an information unit was passed over
abbrev pub passed_books : Books → (next' : Ahead) → Logins → Books
passed_books books next' new = record books { next = next'; current = new.current; last = new.last; taking = new.taking; credits = credits_of new }

-- One that asks nothing was passed over.
pub passed_one : (books : Books) (session : ℕ) (next' : Ahead) (number : ℕ) (bytes : List ℕ) (receipt : Receipt) (old new : Logins) → IsToJudge books session next' number bytes receipt
    → books.current ≡ old.current → books.last ≡ old.last → books.taking ≡ old.taking → books.credits ≡ credits_of old → StaysOn old new × ((iu : Iu) × (Spells bytes iu × IsIgnored iu))
    → JudgesOne books (passed_books books next' new) receipt
passed_one books session next' number bytes receipt old new to current last taking credits is = record {
  fate = ignored;
  in_time = λ judged kept some. absurd (no_login some);
  kept = λ judged kept. moved_to (record books { next = next' }) (passed_books books next' new) (judged ++ record { receipt = receipt; fate = ignored } ∷ [])
      refl refl refl (is.0.current ∙ sym current) (is.0.last ∙ sym last) (is.0.taking ∙ sym taking) refl refl refl refl refl refl
      refl (credits_same books old new credits is.0.granted is.0.outstanding)
      (keeps_judged books next' receipt ignored judged refl (to.copied, (is.1.0, subst (λ xs. Spells xs is.1.0) (sym to.bytes_are) is.1.1.0, is.1.1.1))
      (next_to books session next' number bytes receipt to) (λ ends. absurd (cc (ends))) kept);
}

-- the cause that the bytes give, by what was judged before
gives_cause : (books : Books) (judged : List Judged) (receipt : Receipt) (old : Logins) (bytes : List ℕ) (cause : Lapse) (outstanding granted : ℕ) → AreKept books judged → receipt.session ≡ books.session
    → receipt.bytes ≡ bytes → IsSome receipt.copy → books.taking ≡ old.taking → books.credits ≡ credits_of old → IsCause old bytes cause outstanding granted
    → Gives books.id books.next.taken judged books.grants receipt cause outstanding granted
gives_cause books judged receipt old bytes lapses.BadIu outstanding granted is now of copied taking credits cause =
    inr (record {
      copied = copied;
      spells_none = subst (λ (xs : List ℕ). (iu : Iu) → ¬ Spells xs iu) (sym of) cause.0;
      off = λ asks. subst (λ (n : ℕ). TakesNone books.id n judged books.grants) (sym now) (is.lines.off (taking ∙ cause.1 (subst Asks of asks)));
    })
gives_cause books judged receipt old bytes lapses.NotLogin outstanding granted is now of copied taking credits cause = (
  copied,
  (
    subst IsUnderLogin (sym of) cause.1,
    subst (λ (n : ℕ). TakesNone books.id n judged books.grants) (sym now) (is.lines.off (taking ∙ cause.0)),
  ),
)
gives_cause books judged receipt old bytes lapses.OverLimit outstanding granted is now of copied taking credits cause =
    let some = is.logins.takes (taking ∙ cause.1.on) in
    let last = is.lines.on some in
    record {
      copied = copied;
      asks = subst Asks (sym of) cause.0;
      login = books.current;
      number = last.number;
      on = subst (λ (n : ℕ). last_line books.id n books.grants ≡ Some (Granted books.id n books.current last.number granted)) (sym now)
          (last.last ∙ ap (λ (n : ℕ). Some (Granted books.id books.session books.current last.number n)) (ap (λ (c : Credits). c.granted) credits ∙ sym cause.1.granted_is));
      all = subst (λ (n : ℕ). n ≤ length (accepted books.current judged)) (ap (λ (c : Credits). c.outstanding) credits ∙ sym cause.1.full) (is.lines.counted some);
      most = cause.1.most;
    }
gives_cause books judged receipt old bytes lapses.Early outstanding granted is now of copied taking credits cause = absurd cause
gives_cause books judged receipt old bytes lapses.Refused outstanding granted is now of copied taking credits cause = absurd cause
gives_cause books judged receipt old bytes lapses.Lost outstanding granted is now of copied taking credits cause = absurd cause
gives_cause books judged receipt old bytes lapses.Logout outstanding granted is now of copied taking credits cause = absurd cause

-- A request was accepted, by its verdict, and stands behind those that are pending.
pub accepted_push : (books : Books) (session : ℕ) (next' : Ahead) (number : ℕ) (bytes : List ℕ) (receipt : Receipt) (old new : Logins) (request : Request) (pending : List Request) (verdict : Verdict) (login tag : ℕ) (order : Order)
    → pending ≡ books.pending ++ request ∷ [] → IsToJudge books session next' number bytes receipt → books.current ≡ old.current → books.last ≡ old.last → books.taking ≡ old.taking → books.credits ≡ credits_of old
    → request.number ≡ number → request.unit.items ≡ bytes → request.order ≡ order → request.login ≡ login → verdict ≡ verdicts.Accepted login tag order → Decides old new bytes verdict
    → JudgesOne books (record books { next = next'; current = new.current; last = new.last; taking = new.taking; pending = pending; credits = credits_of new }) receipt
accepted_push books session next' number bytes receipt old new request pending verdict login tag order pushed to current last taking credits at unit order_is login_is is decides =
    subst (λ (all : List Request). JudgesOne books (record books { next = next'; current = new.current; last = new.last; taking = new.taking; pending = all; credits = credits_of new }) receipt) (sym pushed)
    (accepted_one books session next' number bytes receipt old new request order to current last taking credits at unit order_is
    (subst (λ (n : ℕ). DecidesOrder old new n bytes order) (sym login_is) (subst (Decides old new bytes) is decides)))

-- An information unit was passed over, by its verdict.
pub passed_by : (books : Books) (session : ℕ) (next' : Ahead) (number : ℕ) (bytes : List ℕ) (receipt : Receipt) (old new : Logins) (verdict : Verdict) → IsToJudge books session next' number bytes receipt
    → books.current ≡ old.current → books.last ≡ old.last → books.taking ≡ old.taking → books.credits ≡ credits_of old → verdict ≡ verdicts.Ignored → Decides old new bytes verdict
    → JudgesOne books (passed_books books next' new) receipt
passed_by books session next' number bytes receipt old new verdict to current last taking credits is decides =
    passed_one books session next' number bytes receipt old new to current last taking credits (subst (Decides old new bytes) is decides)

-- what is outstanding as it ends for more than it grants
at_limit : (logins : Logins) (bytes : List ℕ) (cause : Lapse) (outstanding granted : ℕ) → IsCause logins bytes cause outstanding granted → is_limit cause ≡ true → IsAtLimit logins outstanding granted
at_limit logins bytes lapses.OverLimit outstanding granted is limit = is.1
at_limit logins bytes lapses.Logout outstanding granted is limit = absurd (cc (limit))
at_limit logins bytes lapses.Lost outstanding granted is limit = absurd (cc (limit))
at_limit logins bytes lapses.Early outstanding granted is limit = absurd (cc (limit))
at_limit logins bytes lapses.BadIu outstanding granted is limit = absurd (cc (limit))
at_limit logins bytes lapses.NotLogin outstanding granted is limit = absurd (cc (limit))
at_limit logins bytes lapses.Refused outstanding granted is limit = absurd (cc (limit))

-- One ended the session, by its verdict.
pub ended_by : (unit unit' : Unit) (old new : Logins) (session : ℕ) (next next' : Ahead) (number : ℕ) (bytes : List ℕ) (receipt : Receipt) (records records' : Records) (verdict : Verdict)
    (cause : Lapse) (outstanding granted : ℕ) → unit.logins ≡ old → IsToJudge (books_of unit session next records) session next' number bytes receipt
    → verdict ≡ verdicts.Fatal cause outstanding granted → Decides old new bytes verdict → is_ended unit'.line ≡ true
    → EndsBooks (record unit { logins = new }) unit' records records' session true cause outstanding granted → JudgesOne (books_of unit session next records) (books_of unit' session next' records') receipt
ended_by unit unit' old new session next next' number bytes receipt records records' verdict cause outstanding granted before to is decides over ends = record {
  fate = ends_it;
  in_time = λ judged kept some. absurd (no_login some);
  kept = λ judged kept.
      let fatal : StaysOn old new × IsCause old bytes cause outstanding granted = subst (Decides old new bytes) is decides in
      let stays = fatal.0 in
      let was = moved_to (books_of unit session next records) (books_of (record unit { logins = new }) session next records) judged refl refl refl (stays.current ∙ sym (ap (λ (l : Logins). l.current) before))
      (stays.last ∙ sym (ap (λ (l : Logins). l.last) before)) (stays.taking ∙ sym (ap (λ (l : Logins). l.taking) before)) refl refl refl refl refl refl refl
      (credits_same (books_of unit session next records) old new (ap credits_of before) stays.granted stays.outstanding) kept in
      moved_to (record (books_of unit' session next' records') { ended = true }) (books_of unit' session next' records') (judged ++ record { receipt = receipt; fate = ends_it } ∷ [])
      refl refl refl refl refl refl refl refl refl refl refl over refl refl
      (ends (is_up unit.line.handshake) next next' judged (record { receipt = receipt; fate = ends_it } ∷ []) (no_logout cause (cause_fatal old bytes cause outstanding granted fatal.1)) (record {
        going = to.going;
        done = to.all ∙ ap (λ rows. length (of_session session rows)) (sym to.taken);
        full = λ limit.
            let full = at_limit old bytes cause outstanding granted fatal.1 limit in (was.logins.takes (stays.taking ∙ full.on), full.full ∙ sym stays.outstanding);
        why = inr (inr (record {
          receipt = receipt;
          one = refl;
          session_is = to.session_is;
          fatal = cause_fatal old bytes cause outstanding granted fatal.1;
          gives = gives_cause (books_of unit session next records) judged receipt old bytes cause outstanding granted kept to.session_is to.bytes_are to.copied (ap (λ (l : Logins). l.taking) before) (ap credits_of before) fatal.1;
          over = refl;
          taken = to.taken;
        }));
      }) was);
}
  where
    no_logout : (cause : Lapse) → is_fatal cause ≡ true → is_logout cause ≡ false
    no_logout lapses.Logout fatal = absurd (cc (fatal))
    no_logout lapses.Lost fatal = refl
    no_logout cause fatal = refl

-- an information unit that is none of those that a server acts on
pub ignored_iu : (iu : Iu) → ((r : LoginReq) → iu ≢ units.LoginReq r) → ((tag : ℕ) → iu ≢ units.ILogout tag) → ((task : TskMgmt) → iu ≢ units.TskMgmt task) → ((command : Cmd) → iu ≢ units.Cmd command) → IsIgnored iu
ignored_iu (units.LoginReq r) a b c d = absurd (a r refl)
ignored_iu (units.ILogout tag) a b c d = absurd (b tag refl)
ignored_iu (units.TskMgmt task) a b c d = absurd (c task refl)
ignored_iu (units.Cmd command) a b c d = absurd (d command refl)
ignored_iu (units.CredRsp tag) a b c d = tt
ignored_iu (units.TLogout reason tag) a b c d = tt
ignored_iu (units.CredReq delta tag) a b c d = tt
ignored_iu (units.LoginRsp r) a b c d = tt
ignored_iu (units.Rsp r) a b c d = tt
ignored_iu (units.LoginRej r) a b c d = tt

-- the login that takes requests
pub taken_on : (on : Bool) (current login : ℕ) → (if on then Some current else None) ≡ Some login → (on ≡ true) × (login ≡ current)
taken_on true current login is = (refl, sym (cc (is)))
taken_on false current login is = absurd (cc (is))

-- what has a tag has sixteen bytes
pub tagged_long : (n : ℕ) (result : Option ℕ) (tag : ℕ) → result ≡ Some tag → (n < 16 → result ≡ None) → 16 ≤ n
tagged_long n result tag is none = more (lt_of_not-le (λ (low : n ≤ 15). absurd (cc (is, none (less low)))))
  where
    less : n ≤ 15 → n < 16
    less low = omega (arith, low)

    more : 15 < n → 16 ≤ n
    more high = omega (arith, high)
