-- That each line keeps its cause, as more is taken, judged and written.
use Rattle.std.proofs.Common.{◌≡◌, ◌+◌, ◌++◌, ◌<◌, ◌≤◌, ℕ, Bool, true, false, List, [], ◌∷◌, get_or, length, filter, take, refl, sym, ◌∙◌, ap, subst, arith, append-nil, append_assoc, length-append}
use Rattle.std.specs.List.{AllPairs}
use Rattle.std.proofs.lemmas.List.{take-append-le}
use Rattle.std.proofs.lemmas.List.Elements.{Contains-append_left}
use Rattle.std.proofs.lemmas.List.Quantifiers.{all_pairs_push}
use Rattle.crq_ring.specs.Sessions.{of_session}
use Rattle.crq_ring.specs.declared.rows.PipeRow.{PipeRow}
use Rattle.crq_ring.proofs.SessionLaws.{of_session-append}
use Rattle.vio_num.specs.declared.history.Grant.{Grant}
use Rattle.vio_num.specs.declared.history.Grant.TheVariants.{Granted, Lapsed}
use Rattle.vio_num.specs.declared.history.Lapse.{Lapse}
use Rattle.vio_num.specs.declared.history.Lapse.TheVariants as lapses
use Rattle.vio_num.specs.declared.names.UnitId.{UnitId}
use Rattle.block_server.specs.Closings.{AreLosses, ClosesBefore, EndsBefore, Gives, HasCause, HasCauses, HaveCauses, IsAskedOut, IsEndedBy, TakesNone, heard, is_closing, is_line}
use Rattle.block_server.specs.Fates.{Judged, ends}
use Rattle.block_server.specs.Fates.Fate.{ends_it}
use Rattle.block_server.specs.Receipts.{Receipt}
use Rattle.block_server.proofs.Judging.{filter_kept, filter_left}
use Rattle.block_server.proofs.Heard.{none_at}

-- as more is taken and judged

asked_grows : (judged more : List Judged) (session login : ℕ) → IsAskedOut judged session login → IsAskedOut (judged ++ more) session login
asked_grows judged more session login is =
    record { one = is.one; listed = Contains-append_left judged more is.one is.listed; session_is = is.session_is; fate_is = is.fate_is }

pub none_grows : (unit : UnitId) (session : ℕ) (judged more : List Judged) (lines : List Grant) → TakesNone unit session judged lines → TakesNone unit session (judged ++ more) lines
none_grows unit session judged more lines is = λ login number credits last. asked_grows judged more session login (is login number credits last)

gives_grows : (unit : UnitId) (taken rows : List PipeRow) (judged : List Judged) (lines : List Grant) (receipt : Receipt) (cause : Lapse) (outstanding granted : ℕ)
    → Gives unit taken judged lines receipt cause outstanding granted → Gives unit (taken ++ rows) judged lines receipt cause outstanding granted
gives_grows unit taken rows judged lines receipt lapses.Logout outstanding granted is = absurd is
gives_grows unit taken rows judged lines receipt lapses.Lost outstanding granted is = absurd is
gives_grows unit taken rows judged lines receipt lapses.Early outstanding granted is =
    let more = of_session-append receipt.session taken rows in
    record {
      none = is.none;
      there = below receipt.number (length (of_session receipt.session taken)) (length (of_session receipt.session rows)) _ is.there
          (ap length more ∙ length-append (of_session receipt.session taken) (of_session receipt.session rows));
      unheard = ap (λ xs. heard (take receipt.number xs)) more
          ∙ ap heard (take-append-le receipt.number (of_session receipt.session taken) (of_session receipt.session rows) is.there) ∙ is.unheard;
    }
  where
    below : (n a b c : ℕ) → n ≤ a → c ≡ a + b → n ≤ c
    below n a b c low same = omega (arith, low, same)
gives_grows unit taken rows judged lines receipt lapses.BadIu outstanding granted is = is
gives_grows unit taken rows judged lines receipt lapses.NotLogin outstanding granted is = is
gives_grows unit taken rows judged lines receipt lapses.OverLimit outstanding granted is = is
gives_grows unit taken rows judged lines receipt lapses.Refused outstanding granted is = is

ended_grows : (unit : UnitId) (taken rows : List PipeRow) (judged more : List Judged) (lines : List Grant) (session : ℕ) (cause : Lapse) (outstanding granted : ℕ)
    → IsEndedBy unit taken judged lines session cause outstanding granted → IsEndedBy unit (taken ++ rows) (judged ++ more) lines session cause outstanding granted
ended_grows unit taken rows judged more lines session cause outstanding granted is = record {
  before = is.before;
  receipt = is.receipt;
  after = is.after ++ more;
  parts = ap (λ xs. xs ++ more) is.parts ∙ append_assoc is.before (record { receipt = is.receipt; fate = ends_it } ∷ is.after) more;
  session_is = is.session_is;
  gives = gives_grows unit taken rows is.before lines is.receipt cause outstanding granted is.gives;
}

cause_grows : (unit : UnitId) (taken rows : List PipeRow) (judged more : List Judged) (lines : List Grant) (line : Grant)
    → HasCause unit taken judged lines line → HasCause unit (taken ++ rows) (judged ++ more) lines line
cause_grows unit taken rows judged more lines (Granted of session login number credits) is = tt
cause_grows unit taken rows judged more lines (Lapsed of session login lapses.Logout outstanding granted) is = λ own. asked_grows judged more session login (is own)
cause_grows unit taken rows judged more lines (Lapsed of session login lapses.Lost outstanding granted) is = tt
cause_grows unit taken rows judged more lines (Lapsed of session login lapses.Refused outstanding granted) is = tt
cause_grows unit taken rows judged more lines (Lapsed of session login lapses.Early outstanding granted) is =
    λ own. ended_grows unit taken rows judged more lines session lapses.Early outstanding granted (is own)
cause_grows unit taken rows judged more lines (Lapsed of session login lapses.BadIu outstanding granted) is =
    λ own. ended_grows unit taken rows judged more lines session lapses.BadIu outstanding granted (is own)
cause_grows unit taken rows judged more lines (Lapsed of session login lapses.NotLogin outstanding granted) is =
    λ own. ended_grows unit taken rows judged more lines session lapses.NotLogin outstanding granted (is own)
cause_grows unit taken rows judged more lines (Lapsed of session login lapses.OverLimit outstanding granted) is =
    λ own. ended_grows unit taken rows judged more lines session lapses.OverLimit outstanding granted (is own)

pub all_grow : (unit : UnitId) (taken rows : List PipeRow) (judged more : List Judged) (before lines : List Grant)
    → HaveCauses unit taken judged before lines → HaveCauses unit (taken ++ rows) (judged ++ more) before lines
all_grow unit taken rows judged more before [] is = tt
all_grow unit taken rows judged more before (line ∷ lines) is =
    (cause_grows unit taken rows judged more before line is.0, all_grow unit taken rows judged more (before ++ line ∷ []) lines is.1)

-- a line behind the others
all_push : (unit : UnitId) (taken : List PipeRow) (judged : List Judged) (before lines : List Grant) (line : Grant)
    → HaveCauses unit taken judged before lines → HasCause unit taken judged (before ++ lines) line → HaveCauses unit taken judged before (lines ++ line ∷ [])
all_push unit taken judged before [] line is one = (subst (λ xs. HasCause unit taken judged xs line) (append-nil before) one, tt)
all_push unit taken judged before (first ∷ lines) line is one = (
  is.0,
  all_push unit taken judged (before ++ first ∷ []) lines line is.1
      (subst (λ xs. HasCause unit taken judged xs line) (sym (append_assoc before (first ∷ []) lines)) one),
)

-- More was taken and judged.
pub causes_grow : (unit : UnitId) (taken rows : List PipeRow) (judged more : List Judged) (lines : List Grant) → AreLosses unit (taken ++ rows) lines → AllPairs EndsBefore (judged ++ more)
    → HasCauses unit taken judged lines → HasCauses unit (taken ++ rows) (judged ++ more) lines
causes_grow unit taken rows judged more lines losses once is = record {
  losses = losses;
  once = once;
  last = is.last;
  single = is.single;
  causes = all_grow unit taken rows judged more [] lines is.causes;
}

-- A line came, behind none that closes its session.
pub causes_push : (unit : UnitId) (taken : List PipeRow) (judged : List Judged) (lines : List Grant) (line : Grant) → AreLosses unit taken (lines ++ line ∷ [])
    → ((session : ℕ) → is_line unit session line ≡ true → filter (is_closing unit session) lines ≡ [])
    → ((login : ℕ) → 1 ≤ login → ends unit login line ≡ true → filter (ends unit login) lines ≡ []) → HasCause unit taken judged lines line
    → AllPairs EndsBefore judged → AllPairs (ClosesBefore unit) lines → ((login : ℕ) → 1 ≤ login → length (filter (ends unit login) lines) ≤ 1) → HaveCauses unit taken judged [] lines
    → HasCauses unit taken judged (lines ++ line ∷ [])
causes_push unit taken judged lines line losses unclosed on cause once last single causes = record {
  losses = losses;
  once = once;
  last = all_pairs_push (ClosesBefore unit) lines line last (λ k d less session closing. apart (get_or lines k d) session (is_line unit session line) refl k d less closing);
  single = λ login some. ended login some (ends unit login line) refl;
  causes = all_push unit taken judged [] lines line causes cause;
}
  where
    apart : (first : Grant) (session : ℕ) (b : Bool) → is_line unit session line ≡ b → (k : ℕ) (d : Grant) → k < length lines → is_closing unit session (get_or lines k d) ≡ true → is_line unit session line ≡ false
    apart first session true is k d less closing = absurd (cc (closing, none_at (is_closing unit session) lines k d (unclosed session is) less))
    apart first session false is k d less closing = is

    one : (xs : List Grant) → xs ≡ [] → length (xs ++ line ∷ []) ≤ 1
    one xs none = subst (λ (ys : List Grant). length (ys ++ line ∷ []) ≤ 1) (sym none) (omega arith)

    ended : (login : ℕ) → 1 ≤ login → (b : Bool) → ends unit login line ≡ b → length (filter (ends unit login) (lines ++ line ∷ [])) ≤ 1
    ended login some true is = subst (λ (xs : List Grant). length xs ≤ 1) (sym (filter_kept (ends unit login) lines line is)) (one (filter (ends unit login) lines) (on login some is))
    ended login some false is = subst (λ (xs : List Grant). length xs ≤ 1) (sym (filter_left (ends unit login) lines line is)) (single login some)
