-- Which logins lines cut off: those of a session that ended for a cause, and those of one in which an event was taken behind their grant.
use Rattle.std.proofs.Common.{◌≡◌, ◌⊎◌, inl, inr, ◌∙◌, ◌<◌, ◌≤◌, ◌&&◌, ◌==◌, ◌++◌, ℕ, zero, suc, Bool, true, false, cond, List, [], ◌∷◌, Some, filter, get_or, length, slice_get, refl, sym, ap, subst, arith, append_assoc, eq-eqb, eqb-true}
use Rattle.std.specs.List.{AllPairs, Contains}
use Rattle.std.proofs.lemmas.List.Elements.{Contains-append_left, Contains-append_right}
use Rattle.std.proofs.lemmas.Option.{slice_get-get_or, slice_get_within}
use Rattle.vio_num.specs.declared.history.Grant.{Grant}
use Rattle.vio_num.specs.declared.history.Grant.TheVariants.{Granted, Lapsed}
use Rattle.vio_num.specs.declared.history.Lapse.{Lapse}
use Rattle.vio_num.specs.declared.history.Lapse.TheVariants as lapses
use Rattle.vio_num.specs.declared.names.UnitId.{UnitId}
use Rattle.block_server.specs.Closings.{ClosesBefore, is_closing, is_line, is_loss, is_lost}
use Rattle.block_server.specs.Judged.{is_logout}
use Rattle.block_server.specs.Makers.{same_unit}
use Rattle.block_server.specs.Owed.{IsCutOff}
use Rattle.block_server.specs.Receipts.{EndedFor, is_fatal, unit_of}
use Rattle.block_server.proofs.Judging.{unit_self}

pub line_is : (a b : Grant) → Some a ≡ Some b → a ≡ b
line_is a b same = cc (same)

both : (a b : Bool) → a ≡ true → b ≡ true → (a && b) ≡ true
both a b x y = cc (x, y)

second_of : (a b : Bool) → (a && b) ≡ true → b ≡ true
second_of true b is = is
second_of false b is = absurd (cc (is))

pub contains_at : (lines : List Grant) (k : ℕ) (line : Grant) → slice_get lines k ≡ Some line → Contains lines line
contains_at lines k line there =
    let within : k < length lines = slice_get_within lines k line there in
    (k, within, line_is (get_or lines k line) line (sym (slice_get-get_or lines k line within) ∙ there))

contains_first : (line : Grant) (lines : List Grant) → Contains (line ∷ lines) line
contains_first line lines = contains_at (line ∷ lines) 0 line refl

-- A line at a later place says that the session was lost, or ended for a cause.
pub cut_behind : (unit : UnitId) (session login number credits of : ℕ) (cause : Lapse) (outstanding limit : ℕ) (lines : List Grant) (p i : ℕ) → p < i
    → slice_get lines p ≡ Some (Granted unit session login number credits) → slice_get lines i ≡ Some (Lapsed unit session of cause outstanding limit) → is_logout cause ≡ false
    → IsCutOff unit lines session login
cut_behind unit session login number credits of cause outstanding limit [] p i less there found other = absurd (cc (there))
cut_behind unit session login number credits of cause outstanding limit (line ∷ lines) p zero less there found other = absurd (omega (arith, less))
cut_behind unit session login number credits of cause outstanding limit (line ∷ lines) zero (suc i) less there found other =
    let grant : Grant = Granted unit session login number credits in
    record {
      before = line ∷ [];
      after = lines;
      parts = refl;
      number = number;
      credits = credits;
      granted = subst (λ (l : Grant). Contains (l ∷ []) grant) (sym (line_is line grant there)) (contains_first grant []);
      of = of;
      cause = cause;
      outstanding = outstanding;
      limit = limit;
      ended = contains_at lines i (Lapsed unit session of cause outstanding limit) found;
      other = other;
    }
cut_behind unit session login number credits of cause outstanding limit (line ∷ lines) (suc p) (suc i) less there found other =
    let rest = cut_behind unit session login number credits of cause outstanding limit lines p i (omega (arith, less)) there found other in
    record {
      before = line ∷ rest.before;
      after = rest.after;
      parts = ap (λ (ls : List Grant). line ∷ ls) rest.parts;
      number = rest.number;
      credits = rest.credits;
      granted = Contains-append_right (line ∷ []) rest.before (Granted unit session login rest.number rest.credits) rest.granted;
      of = rest.of;
      cause = rest.cause;
      outstanding = rest.outstanding;
      limit = rest.limit;
      ended = rest.ended;
      other = rest.other;
    }

-- It stays so among more lines.
pub cut_more : (unit : UnitId) (lines more : List Grant) (session login : ℕ) → IsCutOff unit lines session login → IsCutOff unit (lines ++ more) session login
cut_more unit lines more session login is = record {
  before = is.before;
  after = is.after ++ more;
  parts = ap (λ (ls : List Grant). ls ++ more) is.parts ∙ append_assoc is.before is.after more;
  number = is.number;
  credits = is.credits;
  granted = is.granted;
  of = is.of;
  cause = is.cause;
  outstanding = is.outstanding;
  limit = is.limit;
  ended = Contains-append_left is.after more (Lapsed unit session is.of is.cause is.outstanding is.limit) is.ended;
  other = is.other;
}

-- a number is below another, is that one, or is above it
pub which : (q n : ℕ) → (q < n) ⊎ ((q ≡ n) ⊎ (n < q))
which zero zero = inr (inl refl)
which zero (suc n) = inl (omega arith)
which (suc q) zero = inr (inr (omega arith))
which (suc q) (suc n) = next (which q n)
  where
    next : (q < n) ⊎ ((q ≡ n) ⊎ (n < q)) → (suc q < suc n) ⊎ ((suc q ≡ suc n) ⊎ (suc n < suc q))
    next (inl less) = inl (omega (arith, less))
    next (inr (inl same)) = inr (inl (ap suc same))
    next (inr (inr more)) = inr (inr (omega (arith, more)))

not_fatal : (cause : Lapse) → is_fatal cause ≡ true → is_logout cause ≡ false
not_fatal lapses.Logout is = absurd (cc (is))
not_fatal lapses.Lost is = refl
not_fatal lapses.Early is = refl
not_fatal lapses.BadIu is = refl
not_fatal lapses.NotLogin is = refl
not_fatal lapses.OverLimit is = refl
not_fatal lapses.Refused is = refl

-- A login of a session that ended for a cause is cut off: the line that says so is the session's last.
pub cut_ended : (unit : UnitId) (session login number credits : ℕ) (lines : List Grant) (p : ℕ) → EndedFor unit session lines → AllPairs (ClosesBefore unit) lines
    → slice_get lines p ≡ Some (Granted unit session login number credits) → IsCutOff unit lines session login
cut_ended unit session login number credits lines p ended last there = at (which p ended.listed.0)
  where
    grant : Grant
    grant = Granted unit session login number credits

    closing : Grant
    closing = Lapsed unit session ended.login ended.cause ended.outstanding ended.granted

    own : (same_unit unit unit && (session == session)) ≡ true
    own = both (same_unit unit unit) (session == session) (unit_self unit) (eq-eqb session session refl)

    here : slice_get lines ended.listed.0 ≡ Some closing
    here = slice_get-get_or lines ended.listed.0 closing ended.listed.1 ∙ ap Some ended.listed.2

    apart : Some closing ≡ Some grant → ⊥
    apart same = cc (same)

    at : (p < ended.listed.0) ⊎ ((p ≡ ended.listed.0) ⊎ (ended.listed.0 < p)) → IsCutOff unit lines session login
    at (inl less) = cut_behind unit session login number credits ended.login ended.cause ended.outstanding ended.granted lines p ended.listed.0 less there here (not_fatal ended.cause ended.fatal)
    at (inr (inl same)) = absurd (apart (sym here ∙ (ap (slice_get lines) (sym same) ∙ there)))
    at (inr (inr more)) =
        let within : p < length lines = slice_get_within lines p grant there in
        let is : get_or lines p closing ≡ grant = line_is (get_or lines p closing) grant (sym (slice_get-get_or lines p closing within) ∙ there) in
        let closes : is_closing unit session (get_or lines ended.listed.0 closing) ≡ true =
        subst (λ (l : Grant). is_closing unit session l ≡ true) (sym ended.listed.2) (both (is_fatal ended.cause) (same_unit unit unit && (session == session)) ended.fatal own) in
        let none : is_line unit session grant ≡ false = subst (λ (l : Grant). is_line unit session l ≡ false) is (last ended.listed.0 p closing more within session closes) in
        absurd (cc (none, own))

-- A session of whose lines there are none has no login.
pub none_of : (unit : UnitId) (session login number credits : ℕ) (lines : List Grant) (p : ℕ) → filter (is_line unit session) lines ≡ []
    → slice_get lines p ≡ Some (Granted unit session login number credits) → ⊥
none_of unit session login number credits [] p none there = absurd (cc (there))
none_of unit session login number credits (line ∷ lines) p none there = at (λ k left found. none_of unit session login number credits lines k left found) p there (is_line unit session line) refl
  where
    own : (same_unit unit unit && (session == session)) ≡ true
    own = both (same_unit unit unit) (session == session) (unit_self unit) (eq-eqb session session refl)

    kept : is_line unit session line ≡ true → ⊥
    kept is = cc (ap (λ b. cond b (line ∷ filter (is_line unit session) lines) (filter (is_line unit session) lines)) (sym is) ∙ none)

    left : is_line unit session line ≡ false → filter (is_line unit session) lines ≡ []
    left is = ap (λ b. cond b (line ∷ filter (is_line unit session) lines) (filter (is_line unit session) lines)) (sym is) ∙ none

    at : ((k : ℕ) → filter (is_line unit session) lines ≡ [] → slice_get lines k ≡ Some (Granted unit session login number credits) → ⊥)
        → (p : ℕ) → slice_get (line ∷ lines) p ≡ Some (Granted unit session login number credits) → (b : Bool) → is_line unit session line ≡ b → ⊥
    at more p found true is = kept is
    at more zero found false is =
        let same : line ≡ Granted unit session login number credits = line_is line (Granted unit session login number credits) found in
        absurd (cc (sym is ∙ ap (is_line unit session) same, own))
    at more (suc p) found false is = more p (left is) found

-- A line that says that the partner is gone, among lines of the unit.
pub record HasLoss (unit : UnitId) (session : ℕ) (lines : List Grant) : Type 0 where
  pub at : ℕ
  pub of : ℕ
  pub outstanding : ℕ
  pub granted : ℕ
  pub there : slice_get lines at ≡ Some (Lapsed unit session of lapses.Lost outstanding granted)

lost_is : (cause : Lapse) → is_lost cause ≡ true → cause ≡ lapses.Lost
lost_is lapses.Logout is = absurd (cc (is))
lost_is lapses.Lost is = refl
lost_is lapses.Early is = absurd (cc (is))
lost_is lapses.BadIu is = absurd (cc (is))
lost_is lapses.NotLogin is = absurd (cc (is))
lost_is lapses.OverLimit is = absurd (cc (is))
lost_is lapses.Refused is = absurd (cc (is))

first_of : (a b : Bool) → (a && b) ≡ true → a ≡ true
first_of true b is = refl
first_of false b is = absurd (cc (is))

loss_here : (unit : UnitId) (session : ℕ) (line : Grant) (lines : List Grant) → unit_of line ≡ unit → is_loss unit session line ≡ true → HasLoss unit session (line ∷ lines)
loss_here unit session (Granted of q login number credits) lines own is = absurd (cc (is))
loss_here unit session (Lapsed of q login cause outstanding granted) lines own is =
    let ours = second_of (is_lost cause) (same_unit of unit && (q == session)) is in
    let q_is : q ≡ session = eqb-true q session (second_of (same_unit of unit) (q == session) ours) in
    record {
      at = 0;
      of = login;
      outstanding = outstanding;
      granted = granted;
      there = ap (λ (u : UnitId). Some (Lapsed u q login cause outstanding granted)) own
          ∙ (ap (λ (m : ℕ). Some (Lapsed unit m login cause outstanding granted)) q_is
          ∙ ap (λ (c : Lapse). Some (Lapsed unit session login c outstanding granted)) (lost_is cause (first_of (is_lost cause) (same_unit of unit && (q == session)) is)));
    }

pub some_loss : (unit : UnitId) (session : ℕ) (lines : List Grant) → ((k : ℕ) (line : Grant) → slice_get lines k ≡ Some line → unit_of line ≡ unit)
    → 1 ≤ length (filter (is_loss unit session) lines) → HasLoss unit session lines
some_loss unit session [] own some = absurd (omega (arith, some))
some_loss unit session (line ∷ lines) own some = at (λ rest. some_loss unit session lines (λ k l there. own (suc k) l there) rest) (is_loss unit session line) refl
  where
    further : HasLoss unit session lines → HasLoss unit session (line ∷ lines)
    further is = record { at = suc is.at; of = is.of; outstanding = is.outstanding; granted = is.granted; there = is.there }

    at : (1 ≤ length (filter (is_loss unit session) lines) → HasLoss unit session lines) → (b : Bool) → is_loss unit session line ≡ b → HasLoss unit session (line ∷ lines)
    at more true is = loss_here unit session line lines (own 0 line refl) is
    at more false is =
        let rest : List Grant = filter (is_loss unit session) lines in
        further (more (subst (λ b. 1 ≤ length (cond b (line ∷ rest) rest)) is some))
