-- That the lines say which login is on, and was as another was rejected: over lines that come, and sessions that begin.
use Rattle.std.proofs.Common.{◌≡◌, ◌⊎◌, inl, inr, ◌++◌, ◌<◌, ◌≤◌, ℕ, Bool, true, false, List, [], ◌∷◌, Option, Some, None, filter, refl, sym, ◌∙◌, ap, subst, arith, append-nil, append_assoc}
use Rattle.std.specs.List.{filter_map}
use Rattle.std.proofs.Math.Nat.{eq-or-lt_of_le}
use Rattle.std.proofs.lemmas.List.Elements.{filter-append, filter_map-append}
use Rattle.vio_num.specs.Words.{Begins}
use Rattle.vio_num.specs.declared.history.Grant.{Grant}
use Rattle.vio_num.specs.declared.history.Grant.TheVariants.{Granted, Lapsed}
use Rattle.vio_num.specs.declared.history.Lapse.{Lapse}
use Rattle.vio_num.specs.declared.names.UnitId.{UnitId}
use Rattle.block_server.specs.Closings.{is_line, last_of}
use Rattle.block_server.specs.LoginAnswers.{LoginAnswer, grants_in, line_of}
use Rattle.block_server.specs.Numbers.{login_left, login_on}
use Rattle.block_server.specs.Rejecting.{IsOnByLines, IsOnThen, RejectInTime, RejectsThen}
use Rattle.block_server.specs.Makers.{same_unit}
use Rattle.block_server.proofs.Heard.{last_own}
use Rattle.block_server.proofs.Judging.{filter_left}
use Rattle.block_server.proofs.Lines.{line_later}
use Rattle.block_server.proofs.Numbering.{own_line}

-- ANSWERS ----------------------------------------------------------------------------------------

-- more lines came
then_more : (unit : UnitId) (granted lines lines' : List Grant) (line : Option Grant) (answer : LoginAnswer) → Begins lines lines' → RejectsThen unit granted lines line answer
    → RejectsThen unit granted lines' line answer
then_more unit granted lines lines' (Some line) answer more is = tt
then_more unit granted lines lines' None answer more is = record {
  before = is.before;
  after = is.after ++ more.0;
  parts = more.1 ∙ ap (λ (list : List Grant). list ++ more.0) is.parts ∙ append_assoc is.before is.after more.0;
  grants = is.grants;
  on_is = is.on_is;
}

-- one step behind another
pub in_time_on : (unit : UnitId) (granted lines lines' : List Grant) (one next : List LoginAnswer) → Begins lines lines' → RejectInTime unit granted lines one
    → RejectInTime unit (granted ++ filter_map line_of one) lines' next → RejectInTime unit granted lines' (one ++ next)
in_time_on unit granted lines lines' [] next more first then = subst (λ (list : List Grant). RejectInTime unit list lines' next) (append-nil granted) then
in_time_on unit granted lines lines' (answer ∷ answers) next more first then = (
  then_more unit granted lines lines' answer.line answer more first.0,
  in_time_on unit (granted ++ filter_map line_of (answer ∷ [])) lines lines' answers next more first.1
      (subst (λ (list : List Grant). RejectInTime unit list lines' next)
      (ap (λ (list : List Grant). granted ++ list) (filter_map-append line_of (answer ∷ []) answers) ∙ sym (append_assoc granted (filter_map line_of (answer ∷ [])) (filter_map line_of answers)))
      then),
)

-- LINES ------------------------------------------------------------------------------------------

-- Nothing of it changed.
pub on_same : (unit unit' : UnitId) (session session' current current' : ℕ) (ended ended' : Bool) (lines lines' : List Grant) → unit' ≡ unit → session' ≡ session → current' ≡ current → ended' ≡ ended → lines' ≡ lines
    → IsOnByLines unit session current ended lines → IsOnByLines unit' session' current' ended' lines'
on_same unit unit' session session' current current' ended ended' lines lines' u s c e l =
    subst (λ (z : UnitId × ℕ × ℕ × Bool × List Grant). IsOnByLines z.0 z.1 z.2 z.3 z.4) (λ i. (sym u i, sym s i, sym c i, sym e i, sym l i))

-- The login that was on ended, or none was.
pub on_lapsed : (unit : UnitId) (session current login : ℕ) (cause : Lapse) (outstanding granted : ℕ) (ended ended' : Bool) (lines : List Grant) → IsOnByLines unit session current ended lines
    → IsOnByLines unit session 0 ended' (lines ++ Lapsed unit session login cause outstanding granted ∷ [])
on_lapsed unit session current login cause outstanding granted ended ended' lines is =
    let line = Lapsed unit session login cause outstanding granted in
    record {
      on = sym (ap login_left (last_own unit session lines line (own_line unit session)));
      off = λ over. refl;
      later = λ q above. filter_left (is_line unit q) lines line (line_later unit session q (same_unit unit unit) above) ∙ is.later q above;
    }

-- One was granted in a session that goes on.
pub on_granted : (unit : UnitId) (session current login number credits : ℕ) (ended ended' : Bool) (lines : List Grant) → ended' ≡ false → IsOnByLines unit session current ended lines
    → IsOnByLines unit session login ended' (lines ++ Granted unit session login number credits ∷ [])
on_granted unit session current login number credits ended ended' lines going is =
    let line = Granted unit session login number credits in
    record {
      on = sym (ap login_left (last_own unit session lines line (own_line unit session)));
      off = λ over. absurd (apart ended' going over);
      later = λ q above. filter_left (is_line unit q) lines line (line_later unit session q (same_unit unit unit) above) ∙ is.later q above;
    }
  where
    apart : (b : Bool) → b ≡ false → b ≡ true → ⊥
    apart b is other = cc (is, other)

-- A session begins behind one that ended.
pub on_begun : (unit : UnitId) (session session' current : ℕ) (ended ended' : Bool) (lines : List Grant) → ended ≡ true → session ≤ session' → IsOnByLines unit session current ended lines
    → IsOnByLines unit session' current ended' lines
on_begun unit session session' current ended ended' lines over most is = record {
  on = by (eq-or-lt_of_le most);
  off = λ still. is.off over;
  later = λ q above. is.later q (between session session' q most above);
}
  where
    between : (a b c : ℕ) → a ≤ b → b < c → a < c
    between a b c low high = omega (arith, low, high)

    by : (session ≡ session') ⊎ (session < session') → current ≡ login_on unit session' lines
    by (inl same) = is.on ∙ ap (λ (n : ℕ). login_on unit n lines) same
    by (inr more) = is.off over ∙ sym (ap (λ (list : List Grant). login_left (last_of list)) (is.later session' more))
