-- Which login each line names, as lines come.
use Rattle.std.proofs.Common.{◌≡◌, ◌+◌, ◌++◌, ◌==◌, ◌&&◌, ℕ, Bool, true, false, All, List, [], ◌∷◌, length, filter, refl, sym, ◌∙◌, ap, subst, append-nil, append_assoc, length-append}
use Rattle.std.proofs.lemmas.Bool.{eq-eqb}
use Rattle.std.proofs.lemmas.List.Elements.{All-head, All-tail}
use Rattle.vio_num.specs.declared.history.Grant.{Grant}
use Rattle.vio_num.specs.declared.history.Grant.TheVariants.{Granted, Lapsed}
use Rattle.vio_num.specs.declared.history.Lapse.{Lapse}
use Rattle.vio_num.specs.declared.names.UnitId.{UnitId}
use Rattle.block_server.specs.Closings.{is_line, last_of}
use Rattle.block_server.specs.Makers.{same_unit}
use Rattle.block_server.specs.Numbers.{KeepsNumbers, NameLogins, NamesLogin, grants_to, login_left}
use Rattle.block_server.specs.Receipts.{unit_of}
use Rattle.block_server.proofs.Counting.{same_self}
use Rattle.block_server.proofs.Heard.{last_other, last_own}
use Rattle.block_server.proofs.Judging.{filter_kept, filter_left}

-- a line behind those that name their logins
names_push : (unit : UnitId) (before lines : List Grant) (line : Grant) → NameLogins unit before lines → NamesLogin unit (before ++ lines) line → NameLogins unit before (lines ++ line ∷ [])
names_push unit before [] line all new = (subst (λ (list : List Grant). NamesLogin unit list line) (append-nil before) new, tt)
names_push unit before (first ∷ lines) line all new =
    (all.0, names_push unit (before ++ first ∷ []) lines line all.1 (subst (λ (list : List Grant). NamesLogin unit list line) (sym (append_assoc before (first ∷ []) lines)) new))

-- whether a line is of the unit and session that it names
pub own_line : (unit : UnitId) (session : ℕ) → same_unit unit unit && (session == session) ≡ true
own_line unit session = both (same_unit unit unit) (session == session) (same_self unit) (eq-eqb session session refl)
  where
    both : (a b : Bool) → a ≡ true → b ≡ true → a && b ≡ true
    both true true a b = refl
    both false b a other = absurd (cc (a))
    both true false a b = absurd (cc (b))

-- A login is granted while none is on.
pub numbers_granted : (unit : UnitId) (session current last number credits : ℕ) (grants : List Grant) → current ≡ 0 → KeepsNumbers unit session current last grants
    → KeepsNumbers unit session (last + 1) (last + 1) (grants ++ Granted unit session (last + 1) number credits ∷ [])
numbers_granted unit session current last number credits grants none is =
    let line = Granted unit session (last + 1) number credits in
    record {
      count = ap (λ (n : ℕ). n + 1) is.count
          ∙ sym (ap length (filter_kept (grants_to unit) grants line (same_self unit)) ∙ length-append (filter (grants_to unit) grants) (line ∷ []));
      on = sym (ap login_left (last_own unit session grants line (own_line unit session)));
      each = names_push unit [] grants line is.each (λ own. (ap (λ (n : ℕ). n + 1) is.count, sym is.on ∙ none));
    }

-- The login that is on ended, or none is.
pub numbers_ended : (unit : UnitId) (session current last : ℕ) (cause : Lapse) (outstanding granted : ℕ) (grants : List Grant) → KeepsNumbers unit session current last grants
    → KeepsNumbers unit session 0 last (grants ++ Lapsed unit session current cause outstanding granted ∷ [])
numbers_ended unit session current last cause outstanding granted grants is =
    let line = Lapsed unit session current cause outstanding granted in
    record {
      count = is.count ∙ sym (ap length (filter_left (grants_to unit) grants line refl));
      on = sym (ap login_left (last_own unit session grants line (own_line unit session)));
      each = names_push unit [] grants line is.each (λ own. is.on);
    }

-- Another session begins, of which no line is yet.
pub numbers_begun : (unit : UnitId) (session session' current last : ℕ) (grants : List Grant) → current ≡ 0 → filter (is_line unit session') grants ≡ [] → KeepsNumbers unit session current last grants
    → KeepsNumbers unit session' current last grants
numbers_begun unit session session' current last grants off none is =
    record { count = is.count; on = off ∙ sym (ap (λ (lines : List Grant). login_left (last_of lines)) none); each = is.each }

-- A line of another unit came.
number_other : (unit : UnitId) (session current last : ℕ) (grants : List Grant) (line : Grant) → same_unit (unit_of line) unit ≡ false → KeepsNumbers unit session current last grants
    → KeepsNumbers unit session current last (grants ++ line ∷ [])
number_other unit session current last grants line other is = record {
  count = is.count ∙ sym (ap length (filter_left (grants_to unit) grants line (no_grant line other)));
  on = is.on ∙ sym (ap login_left (last_other unit session grants line (no_line line other)));
  each = names_push unit [] grants line is.each (no_name line other);
}
  where
    apart : (b : Bool) → b ≡ false → b ≡ true → ⊥
    apart b is other = cc (is, other)

    and_first : (a b : Bool) → a ≡ false → a && b ≡ false
    and_first false b is = refl
    and_first true b is = absurd (cc (is))

    no_grant : (line : Grant) → same_unit (unit_of line) unit ≡ false → grants_to unit line ≡ false
    no_grant (Granted of q login number credits) other = other
    no_grant (Lapsed of q login cause outstanding granted) other = refl

    no_line : (line : Grant) → same_unit (unit_of line) unit ≡ false → is_line unit session line ≡ false
    no_line (Granted of q login number credits) other = and_first (same_unit of unit) (q == session) other
    no_line (Lapsed of q login cause outstanding granted) other = and_first (same_unit of unit) (q == session) other

    no_name : (line : Grant) → same_unit (unit_of line) unit ≡ false → NamesLogin unit grants line
    no_name (Granted of q login number credits) other = λ own. absurd (apart (same_unit of unit) other own)
    no_name (Lapsed of q login cause outstanding granted) other = λ own. absurd (apart (same_unit of unit) other own)

pub numbers_others : (unit : UnitId) (session current last : ℕ) (grants lines : List Grant) → All (λ line. same_unit (unit_of line) unit ≡ false) lines → KeepsNumbers unit session current last grants
    → KeepsNumbers unit session current last (grants ++ lines)
numbers_others unit session current last grants [] apart is = subst (KeepsNumbers unit session current last) (sym (append-nil grants)) is
numbers_others unit session current last grants (line ∷ lines) apart is =
    subst (KeepsNumbers unit session current last) (append_assoc grants (line ∷ []) lines)
    (numbers_others unit session current last (grants ++ line ∷ []) lines (All-tail (λ line. same_unit (unit_of line) unit ≡ false) line lines apart)
    (number_other unit session current last grants line (All-head (λ line. same_unit (unit_of line) unit ≡ false) line lines apart) is))

-- A unit was made, among no lines.
pub numbers_new : (unit : UnitId) (session : ℕ) → KeepsNumbers unit session 0 0 []
numbers_new unit session = record { count = refl; on = refl; each = tt }
