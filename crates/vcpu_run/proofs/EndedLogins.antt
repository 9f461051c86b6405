-- Each login that was granted in a session in which none is on has a line that ends it.
use Rattle.std.proofs.Common.{◌≡◌, ◌∙◌, ◌+◌, ◌<◌, ◌≤◌, ◌&&◌, ◌==◌, ◌++◌, ℕ, zero, suc, Bool, true, false, List, [], ◌∷◌, Option, Some, length, get_or, slice_get, refl, sym, ap, subst, arith, append-nil, append_assoc, eq-eqb, eqb-true, IfSome}
use Rattle.std.specs.List.{AllPairs}
use Rattle.std.proofs.lemmas.Option.{slice_get-get_or, slice_get_within}
use Rattle.vio_num.specs.declared.history.Grant.{Grant}
use Rattle.vio_num.specs.declared.history.Grant.TheVariants.{Granted, Lapsed}
use Rattle.vio_num.specs.declared.history.Lapse.{Lapse}
use Rattle.vio_num.specs.declared.names.UnitId.{UnitId}
use Rattle.block_server.specs.Closings.{ClosesBefore, is_closing, is_line}
use Rattle.block_server.specs.Makers.{same_unit}
use Rattle.vio_num.specs.declared.history.Served.{Served}
use Rattle.crq_session.specs.EndState.{EndState}
use Rattle.block_server.specs.Numbers.{NameLogins, NamesLogin, granted_to, login_left, login_on}
use Rattle.block_server.specs.Owed.{HasAnswers, HaveAnswers, IsLossAhead, owing_seen}
use Rattle.block_server.specs.Receipts.{EndedFor, is_fatal}
use Rattle.block_server.specs.declared.unit.Unit.{Unit}
use Rattle.vcpu_run.specs.FailedShut.{HasEndBehind}
use Rattle.block_server.proofs.Judging.{unit_self}
use Rattle.block_server.proofs.Heard.{last_other, last_own}

-- A line on the end of this login stands at a place among these lines.
pub record HasEnd (unit : UnitId) (session login : ℕ) (lines : List Grant) : Type 0 where
  pub at : ℕ
  pub cause : Lapse
  pub outstanding : ℕ
  pub granted : ℕ
  pub of : UnitId
  pub there : slice_get lines at ≡ Some (Lapsed of session login cause outstanding granted)
  pub unit_is : same_unit of unit ≡ true

further : (unit : UnitId) (q n : ℕ) (line : Grant) (lines : List Grant) → HasEnd unit q n lines → HasEnd unit q n (line ∷ lines)
further unit q n line lines is = record { at = suc is.at; cause = is.cause; outstanding = is.outstanding; granted = is.granted; of = is.of; there = is.there; unit_is = is.unit_is }

first_of : (a b : Bool) → (a && b) ≡ true → a ≡ true
first_of true b is = refl
first_of false b is = absurd (cc (is))

second_of : (a b : Bool) → (a && b) ≡ true → b ≡ true
second_of true b is = is
second_of false b is = absurd (cc (is))

-- A login that is on is ended among lines behind which none is.
pub ended_on : (unit : UnitId) (q n : ℕ) (before lines : List Grant) → NameLogins unit before lines → login_on unit q (before ++ lines) ≡ 0 → login_on unit q before ≡ n → 1 ≤ n
    → HasEnd unit q n lines
ended_on unit q n before [] names off on some =
    let none : login_on unit q before ≡ 0 = subst (λ (lines : List Grant). login_on unit q lines ≡ 0) (append-nil before) off in
    absurd (omega (arith, none, on, some))
ended_on unit q n before (line ∷ lines) names off on some =
    at (is_line unit q line) refl
    (λ other. ended_on unit q n (before ++ line ∷ []) lines names.1 (subst (λ (all : List Grant). login_on unit q all ≡ 0) (sym (append_assoc before (line ∷ []) lines)) off)
    (ap login_left (last_other unit q before line other) ∙ on) some)
  where
    here : (l : Grant) → l ≡ line → NamesLogin unit before l → is_line unit q l ≡ true → HasEnd unit q n (l ∷ lines)
    here (Granted of s login number credits) same named own =
        let s_is : s ≡ q = eqb-true s q (second_of (same_unit of unit) (s == q) own) in
        let none : login_on unit q before ≡ 0 = subst (λ (m : ℕ). login_on unit m before ≡ 0) s_is (named (first_of (same_unit of unit) (s == q) own)).1 in
        absurd (omega (arith, none, on, some))
    here (Lapsed of s login cause outstanding granted) same named own =
        let s_is : s ≡ q = eqb-true s q (second_of (same_unit of unit) (s == q) own) in
        let login_is : login ≡ n = subst (λ (m : ℕ). login ≡ login_on unit m before) s_is (named (first_of (same_unit of unit) (s == q) own)) ∙ on in
        record {
          at = 0;
          cause = cause;
          outstanding = outstanding;
          granted = granted;
          of = of;
          there = ap (λ (m : ℕ). Some (Lapsed of m login cause outstanding granted)) s_is ∙ ap (λ (m : ℕ). Some (Lapsed of q m cause outstanding granted)) login_is;
          unit_is = first_of (same_unit of unit) (s == q) own;
        }

    at : (b : Bool) → is_line unit q line ≡ b → (is_line unit q line ≡ false → HasEnd unit q n lines) → HasEnd unit q n (line ∷ lines)
    at true own later = here line refl names.0 own
    at false other later = further unit q n line lines (later other)

-- A login that a line grants is ended behind it, where none is on in its session behind all lines.
pub ended_behind : (unit : UnitId) (q n number credits : ℕ) (before after : List Grant) → NameLogins unit (before ++ Granted unit q n number credits ∷ []) after
    → login_on unit q ((before ++ Granted unit q n number credits ∷ []) ++ after) ≡ 0 → 1 ≤ n → is_line unit q (Granted unit q n number credits) ≡ true → HasEnd unit q n after
ended_behind unit q n number credits before after names off some own =
    ended_on unit q n (before ++ Granted unit q n number credits ∷ []) after names off (ap login_left (last_own unit q before (Granted unit q n number credits) own)) some

behind_first : (unit : UnitId) (q n : ℕ) (line : Grant) (lines : List Grant) → HasEnd unit q n lines → HasEndBehind unit q n (line ∷ lines) 0
behind_first unit q n line lines is =
    record { at = suc is.at; later = omega arith; cause = is.cause; outstanding = is.outstanding; granted = is.granted; of = is.of; there = is.there; unit_is = is.unit_is }

behind_further : (unit : UnitId) (q n : ℕ) (line : Grant) (lines : List Grant) (i : ℕ) → HasEndBehind unit q n lines i → HasEndBehind unit q n (line ∷ lines) (suc i)
behind_further unit q n line lines i is = record {
  at = suc is.at;
  later = let less : i < is.at = is.later in omega (arith, less);
  cause = is.cause;
  outstanding = is.outstanding;
  granted = is.granted;
  of = is.of;
  there = is.there;
  unit_is = is.unit_is;
}

line_is : (a b : Grant) → Some a ≡ Some b → a ≡ b
line_is a b same = cc (same)

both : (a b : Bool) → a ≡ true → b ≡ true → (a && b) ≡ true
both a b x y = cc (x, y)

-- Each login that was granted in a session in which none is on is ended behind its grant.
ended_at : (unit : UnitId) (q : ℕ) (before lines : List Grant) → NameLogins unit before lines → login_on unit q (before ++ lines) ≡ 0 → (i n number credits : ℕ)
    → slice_get lines i ≡ Some (Granted unit q n number credits) → HasEndBehind unit q n lines i
ended_at unit q before [] names off i n number credits there = absurd (cc (there))
ended_at unit q before (line ∷ lines) names off zero n number credits there =
    behind_first unit q n line lines
    (here line (line_is line (Granted unit q n number credits) there) names.0 names.1
    (subst (λ (all : List Grant). login_on unit q all ≡ 0) (sym (append_assoc before (line ∷ []) lines)) off))
  where
    here : (l : Grant) → l ≡ Granted unit q n number credits → NamesLogin unit before l → NameLogins unit (before ++ l ∷ []) lines → login_on unit q ((before ++ l ∷ []) ++ lines) ≡ 0
        → HasEnd unit q n lines
    here l same named rest none =
        let grant : Grant = Granted unit q n number credits in
        let first : NamesLogin unit before grant = subst (NamesLogin unit before) same named in
        let next : n ≡ granted_to unit before + 1 = (first (unit_self unit)).0 in
        ended_behind unit q n number credits before lines (subst (λ (x : Grant). NameLogins unit (before ++ x ∷ []) lines) same rest)
        (subst (λ (x : Grant). login_on unit q ((before ++ x ∷ []) ++ lines) ≡ 0) same none) (omega (arith, next))
        (both (same_unit unit unit) (q == q) (unit_self unit) (eq-eqb q q refl))
ended_at unit q before (line ∷ lines) names off (suc i) n number credits there =
    behind_further unit q n line lines i
    (ended_at unit q (before ++ line ∷ []) lines names.1 (subst (λ (all : List Grant). login_on unit q all ≡ 0) (sym (append_assoc before (line ∷ []) lines)) off) i n number credits there)

pub all_ended : (unit : UnitId) (q : ℕ) (lines : List Grant) → NameLogins unit [] lines → login_on unit q lines ≡ 0 → (i n number credits : ℕ)
    → slice_get lines i ≡ Some (Granted unit q n number credits) → HasEndBehind unit q n lines i
all_ended unit q lines names off = ended_at unit q [] lines names off

-- Where the client's queue is not registered and no event is on its way, no login is on.
pub out_at_rest : (units : List Unit) (u : ℕ) (unit : Unit) (id : UnitId) (queue : EndState) (history : List Served) (grants : List Grant) → slice_get units u ≡ Some unit
    → queue.place.partner_registered ≡ false → ¬ IsLossAhead queue → HaveAnswers units u id queue history grants → unit.logins.current ≡ 0
out_at_rest units u unit id queue history grants there gone quiet has = at unit.logins.current refl
  where
    is : HasAnswers (owing_seen unit id queue history grants)
    is = subst (λ (o : Option Unit). IfSome o (λ unit. HasAnswers (owing_seen unit id queue history grants))) there has

    at : (n : ℕ) → unit.logins.current ≡ n → unit.logins.current ≡ 0
    at zero e = e
    at (suc n) e = absurd (quiet (is.owed (omega (arith, e)) gone))

-- lines behind others of which none is of the session
none_more : (unit : UnitId) (q : ℕ) (before rest : List Grant) → ((j : ℕ) (line : Grant) → slice_get rest j ≡ Some line → is_line unit q line ≡ false)
    → login_on unit q (before ++ rest) ≡ login_on unit q before
none_more unit q before [] none = ap (login_on unit q) (append-nil before)
none_more unit q before (line ∷ rest) none =
    ap (login_on unit q) (sym (append_assoc before (line ∷ []) rest))
    ∙ (none_more unit q (before ++ line ∷ []) rest (λ j l there. none (suc j) l there) ∙ ap login_left (last_other unit q before line (none zero line refl)))

off_at : (unit : UnitId) (q : ℕ) (before lines : List Grant) (i : ℕ) (closing : Grant) → slice_get lines i ≡ Some closing
    → ((j : ℕ) (line : Grant) → i < j → slice_get lines j ≡ Some line → is_line unit q line ≡ false) → is_line unit q closing ≡ true → login_left (Some closing) ≡ 0
    → login_on unit q (before ++ lines) ≡ 0
off_at unit q before [] i closing there none own off = absurd (cc (there))
off_at unit q before (line ∷ rest) zero closing there none own off =
    let same : line ≡ closing = line_is line closing there in
    ap (login_on unit q) (sym (append_assoc before (line ∷ []) rest))
    ∙ (none_more unit q (before ++ line ∷ []) rest (λ j l found. none (suc j) l (omega arith) found)
    ∙ (ap login_left (last_own unit q before line (subst (λ (l : Grant). is_line unit q l ≡ true) (sym same) own)) ∙ (ap (λ (l : Grant). login_left (Some l)) same ∙ off)))
off_at unit q before (line ∷ rest) (suc i) closing there none own off =
    ap (login_on unit q) (sym (append_assoc before (line ∷ []) rest))
    ∙ off_at unit q (before ++ line ∷ []) rest i closing there (λ j l less found. none (suc j) l (omega (arith, less)) found) own off

-- No login is on in a session that ended for a cause.
pub closed_off : (unit : UnitId) (q : ℕ) (lines : List Grant) → EndedFor unit q lines → AllPairs (ClosesBefore unit) lines → login_on unit q lines ≡ 0
closed_off unit q lines ended last = off_at unit q [] lines ended.listed.0 closing here none own refl
  where
    closing : Grant
    closing = Lapsed unit q ended.login ended.cause ended.outstanding ended.granted

    own : is_line unit q closing ≡ true
    own = both (same_unit unit unit) (q == q) (unit_self unit) (eq-eqb q q refl)

    here : slice_get lines ended.listed.0 ≡ Some closing
    here = slice_get-get_or lines ended.listed.0 closing ended.listed.1 ∙ ap Some ended.listed.2

    none : (j : ℕ) (line : Grant) → ended.listed.0 < j → slice_get lines j ≡ Some line → is_line unit q line ≡ false
    none j line less found =
        let within : j < length lines = slice_get_within lines j line found in
        let is : get_or lines j closing ≡ line = line_is (get_or lines j closing) line (sym (slice_get-get_or lines j closing within) ∙ found) in
        subst (λ (l : Grant). is_line unit q l ≡ false) is
        (last ended.listed.0 j closing less within q
        (subst (λ (l : Grant). is_closing unit q l ≡ true) (sym ended.listed.2) (both (is_fatal ended.cause) (same_unit unit unit && (q == q)) ended.fatal own)))
