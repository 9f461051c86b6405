-- What the end of a login leaves of the lines and their causes, and lines of other units.
use Rattle.std.proofs.Common.{◌≡◌, ◌⊎◌, inl, inr, ◌+◌, ◌==◌, ◌&&◌, ◌++◌, ◌<◌, ◌≤◌, ℕ, Bool, true, false, All, List, [], ◌∷◌, length, filter, take, refl, sym, ◌∙◌, ap, subst, arith, append-nil, append_assoc}
use Rattle.std.specs.List.{AllPairs}
use Rattle.std.proofs.lemmas.Bool.{eq-eqb, eqb-true}
use Rattle.std.proofs.lemmas.List.{take_all}
use Rattle.std.proofs.lemmas.List.Elements.{All-head, All-push, All-tail, All-nil, Contains-push}
use Rattle.crq_ring.specs.Sessions.{of_session}
use Rattle.crq_ring.specs.declared.rows.PipeRow.{PipeRow}
use Rattle.crq_ring.proofs.SessionLaws.{of_session-nil, of_session-pass, of_session-push}
use Rattle.vio_num.specs.declared.entry.Entry.{Entry}
use Rattle.vio_num.specs.declared.history.Grant.{Grant}
use Rattle.vio_num.specs.declared.history.Grant.TheVariants.{Granted, Lapsed}
use Rattle.vio_num.specs.declared.history.Lapse.{Lapse}
use Rattle.vio_num.specs.declared.history.Lapse.TheVariants as lapses
use Rattle.vio_num.specs.declared.names.UnitId.{UnitId}
use Rattle.block_server.specs.Closings.{AreLosses, ClosesBefore, EndsBefore, Gives, HasCause, HasCauses, HaveCauses, IsEndedBy, heard, is_closing, is_event, is_line, is_lost, is_loss}
use Rattle.block_server.specs.Decided.{IsEnd, IsGone, IsJudgedLast, IsTurnedDown}
use Rattle.block_server.specs.Fates.{Judged, ends}
use Rattle.block_server.specs.Fates.Fate.{ends_it}
use Rattle.block_server.specs.Judged.{Ahead, Books, Credits, IsOn, IsPast, KeepsLines}
use Rattle.block_server.specs.Makers.{same_unit}
use Rattle.block_server.specs.Receipts.{EndedFor, Receipt, is_fatal, unit_of}
use Rattle.block_server.proofs.Closing.{all_grow, causes_push}
use Rattle.block_server.proofs.Heard.{and_first, and_next, heard_event, last_other, last_own, take_none}
use Rattle.block_server.proofs.Judging.{filter_left, unit_self}
use Rattle.block_server.proofs.Lines.{apart_later, closed_more, line_later, losses_gone, losses_other, once_push, row_at}

upto : (a b : ℕ) → a ≡ b → a ≤ b
upto a b same = omega (arith, same)

near : (a b : ℕ) → a ≡ b → b ≤ a + 1
near a b same = omega (arith, same)

second : (a b : Bool) → (a && b) ≡ true → b ≡ true
second true b is = is
second false b is = absurd (cc (is))

both : (a b : Bool) → a ≡ true → b ≡ true → (a && b) ≡ true
both a b x y = cc (x, y)

one_zero : 1 ≤ 0 → ⊥
one_zero some = absurd (omega (arith, some))

-- what stands in the lines, but for those that say that the partner is gone
record Others (unit : UnitId) (taken : List PipeRow) (judged : List Judged) (lines : List Grant) : Type 0 where
  once : AllPairs EndsBefore judged
  last : AllPairs (ClosesBefore unit) lines
  single : (login : ℕ) → 1 ≤ login → length (filter (ends unit login) lines) ≤ 1
  causes : HaveCauses unit taken judged [] lines

others_of : (unit : UnitId) (taken : List PipeRow) (judged : List Judged) (lines : List Grant) → HasCauses unit taken judged lines → Others unit taken judged lines
others_of unit taken judged lines is = record { once = is.once; last = is.last; single = is.single; causes = is.causes }

others_grow : (unit : UnitId) (taken rows : List PipeRow) (judged more : List Judged) (lines : List Grant) → AllPairs EndsBefore (judged ++ more) → HasCauses unit taken judged lines
    → Others unit (taken ++ rows) (judged ++ more) lines
others_grow unit taken rows judged more lines once is = record { once = once; last = is.last; single = is.single; causes = all_grow unit taken rows judged more [] lines is.causes }

-- a session that is over as the login ended was over before, or this line says so
closed_lapsed : (unit : UnitId) (session login : ℕ) (cause : Lapse) (outstanding granted : ℕ) (grants : List Grant) (ended' : Bool) → ((q : ℕ) → 1 ≤ q → q < session → EndedFor unit q grants)
    → (ended' ≡ true → is_fatal cause ≡ true) → (q : ℕ) → 1 ≤ q → IsPast session ended' q → EndedFor unit q (grants ++ Lapsed unit session login cause outstanding granted ∷ [])
closed_lapsed unit session login cause outstanding granted grants ended' closed ends q some (inl earlier) = closed_more unit q grants _ (closed q some earlier)
closed_lapsed unit session login cause outstanding granted grants ended' closed ends q some (inr last) =
    subst (λ (n : ℕ). EndedFor unit n (grants ++ Lapsed unit session login cause outstanding granted ∷ [])) (sym last.0) (record {
      login = login;
      cause = cause;
      outstanding = outstanding;
      granted = granted;
      listed = Contains-push grants (Lapsed unit session login cause outstanding granted);
      fatal = ends last.1;
    })

-- A line on the end of the login that is on came, and none is on any more.
lines_lapsed : (unit : UnitId) (session : ℕ) (next' : Ahead) (current : ℕ) (up : Bool) (credits' : Credits) (grants : List Grant) (ended' : Bool) (judged : List Judged) (cause : Lapse) (outstanding granted : ℕ)
    → (1 ≤ current → IsOn unit current grants) → filter (is_closing unit session) grants ≡ []
    → AreLosses unit next'.taken (grants ++ Lapsed unit session current cause outstanding granted ∷ [])
    → HasCause unit next'.taken judged grants (Lapsed unit session current cause outstanding granted)
    → Others unit next'.taken judged grants → All (λ j. j.receipt.session ≤ session) judged → ((q : ℕ) → session < q → of_session q next'.taken ≡ [])
    → ((q : ℕ) → session < q → filter (is_line unit q) grants ≡ []) → All (λ j. j.fate ≡ ends_it → j.receipt.session ≡ session → ended' ≡ true) judged
    → ((q : ℕ) → 1 ≤ q → q < session → EndedFor unit q grants) → (ended' ≡ true → is_fatal cause ≡ true) → (ended' ≡ false → is_fatal cause ≡ false) → next'.number ≤ length (of_session session next'.taken) → length (of_session session next'.taken) ≤ next'.number + 1
    → (ended' ≡ false → up ≡ false → heard (take next'.number (of_session session next'.taken)) ≡ false)
    → KeepsLines unit session next' 0 false up credits' (grants ++ Lapsed unit session current cause outstanding granted ∷ []) ended' judged
lines_lapsed unit session next' current up credits' grants ended' judged cause outstanding granted on unclosed losses why causes begun risen later over closed ends fatal low high unheard =
    let line = Lapsed unit session current cause outstanding granted in
    record {
      causes = causes_push unit next'.taken judged grants line losses
          (λ q own. subst (λ (n : ℕ). filter (is_closing unit n) grants ≡ []) (eqb-true session q (second (same_unit unit unit) (session == q) own)) unclosed)
          (λ n some ends. let same = eqb-true current n (second (same_unit unit unit) (current == n) ends) in
          subst (λ (m : ℕ). 1 ≤ m → IsOn unit m grants) same on some)
          why causes.once causes.last causes.single causes.causes;
      begun = begun;
      risen = risen;
      later = λ q above. filter_left (is_line unit q) grants line (line_later unit session q (same_unit unit unit) above) ∙ later q above;
      over = over;
      going = λ still. filter_left (is_closing unit session) grants line (and_first (is_fatal cause) (same_unit unit unit && (session == session)) (fatal still)) ∙ unclosed;
      closed = λ q some past. closed_lapsed unit session current cause outstanding granted grants ended' closed ends q some past;
      upto = low;
      near = high;
      unheard = unheard;
      on = λ some. absurd (one_zero some);
      off = λ off login number credits last. absurd (cc (
        last,
        last_own unit session grants line (both (same_unit unit unit) (session == session) (unit_self unit) (eq-eqb session session refl)),
      ));
      counted = λ some. absurd (one_zero some);
    }

-- Its client asked for that.
pub lines_out : (unit : UnitId) (session : ℕ) (next : Ahead) (current : ℕ) (taking up : Bool) (credits credits' : Credits) (grants : List Grant) (ended : Bool) (judged : List Judged) (outstanding granted : ℕ)
    → ended ≡ false → taking ≡ false → 1 ≤ current → (1 ≤ current → IsOn unit current grants) → KeepsLines unit session next current taking up credits grants ended judged
    → KeepsLines unit session next 0 false up credits' (grants ++ Lapsed unit session current lapses.Logout outstanding granted ∷ []) ended judged
lines_out unit session next current taking up credits credits' grants ended judged outstanding granted going off some on is =
    let last = is.on some in
    lines_lapsed unit session next current up credits' grants ended judged lapses.Logout outstanding granted on (is.going going)
    (losses_other unit next.taken grants (Lapsed unit session current lapses.Logout outstanding granted) (λ q. refl) is.causes.losses)
    (λ own. is.off off current last.number credits.granted last.last)
    (others_of unit next.taken judged grants is.causes) is.begun is.risen is.later is.over (λ q some earlier. is.closed q some (inl earlier)) (λ over. absurd (cc (over, going))) (λ still. refl) is.upto is.near is.unheard

cause_lost : (cause : Lapse) → is_fatal cause ≡ true → is_lost cause ≡ false
cause_lost lapses.Logout fatal = absurd (cc (fatal))
cause_lost lapses.Lost fatal = absurd (cc (fatal))
cause_lost lapses.Early fatal = refl
cause_lost lapses.BadIu fatal = refl
cause_lost lapses.NotLogin fatal = refl
cause_lost lapses.OverLimit fatal = refl
cause_lost lapses.Refused fatal = refl

-- the cause that an entry gives
cause_of : (unit : UnitId) (taken : List PipeRow) (judged : List Judged) (lines : List Grant) (session login outstanding granted : ℕ) (cause : Lapse) → is_fatal cause ≡ true
    → IsEndedBy unit taken judged lines session cause outstanding granted → HasCause unit taken judged lines (Lapsed unit session login cause outstanding granted)
cause_of unit taken judged lines session login outstanding granted lapses.Logout fatal is = absurd (cc (fatal))
cause_of unit taken judged lines session login outstanding granted lapses.Lost fatal is = absurd (cc (fatal))
cause_of unit taken judged lines session login outstanding granted lapses.Early fatal is = λ own. is
cause_of unit taken judged lines session login outstanding granted lapses.BadIu fatal is = λ own. is
cause_of unit taken judged lines session login outstanding granted lapses.NotLogin fatal is = λ own. is
cause_of unit taken judged lines session login outstanding granted lapses.OverLimit fatal is = λ own. is
cause_of unit taken judged lines session login outstanding granted lapses.Refused fatal is = tt

-- It ended since the partner is gone.
lines_gone : (unit : UnitId) (session : ℕ) (next next' : Ahead) (current : ℕ) (taking up up' : Bool) (credits credits' : Credits) (grants : List Grant) (ended : Bool) (judged : List Judged) (outstanding granted : ℕ) (entry : Entry)
    → ended ≡ false → is_event entry ≡ true → next'.taken ≡ next.taken ++ row_at session entry ∷ [] → next'.number ≡ length (of_session session next'.taken)
    → (1 ≤ current → IsOn unit current grants) → KeepsLines unit session next current taking up credits grants ended judged
    → KeepsLines unit session next' 0 false up' credits' (grants ++ Lapsed unit session current lapses.Lost outstanding granted ∷ []) ended judged
lines_gone unit session next next' current taking up up' credits credits' grants ended judged outstanding granted entry going says taken done on is =
    let row = row_at session entry in
    lines_lapsed unit session next' current up' credits' grants ended judged lapses.Lost outstanding granted on (is.going going)
    (subst (λ rows. AreLosses unit rows (grants ++ Lapsed unit session current lapses.Lost outstanding granted ∷ [])) (sym taken)
    (losses_gone unit next.taken session current outstanding granted entry grants says is.causes.losses))
    tt
    (subst (λ (z : List PipeRow × List Judged). Others unit z.0 z.1 grants) (λ i. ((sym taken) i, append-nil judged i))
    (others_grow unit next.taken (row ∷ []) judged [] grants (subst (AllPairs EndsBefore) (sym (append-nil judged)) is.causes.once) is.causes))
    is.begun (λ q later. ap (of_session q) taken ∙ of_session-pass q row next.taken (apart_later session q later) ∙ is.risen q later) is.later is.over (λ q some earlier. is.closed q some (inl earlier)) (λ over. absurd (cc (over, going))) (λ still. refl)
    (upto _ _ done) (near _ _ done)
    (λ still down. ap heard (take_all next'.number (of_session session next'.taken) (upto _ _ (sym done))) ∙ ap heard (ap (of_session session) taken ∙ of_session-push row next.taken)
    ∙ heard_event (of_session session next.taken) entry says)

-- It ended as the session did, for the copy of an answer that was refused.
lines_refused : (unit : UnitId) (session : ℕ) (next next' : Ahead) (current : ℕ) (taking up up' : Bool) (credits credits' : Credits) (grants : List Grant) (ended : Bool) (judged : List Judged) (outstanding granted : ℕ)
    → ended ≡ false → next'.taken ≡ next.taken → next'.number ≡ length (of_session session next'.taken)
    → (1 ≤ current → IsOn unit current grants) → KeepsLines unit session next current taking up credits grants ended judged
    → KeepsLines unit session next' 0 false up' credits' (grants ++ Lapsed unit session current lapses.Refused outstanding granted ∷ []) true judged
lines_refused unit session next next' current taking up up' credits credits' grants ended judged outstanding granted going taken done on is =
    lines_lapsed unit session next' current up' credits' grants true judged lapses.Refused outstanding granted on (is.going going)
    (subst (λ rows. AreLosses unit rows (grants ++ Lapsed unit session current lapses.Refused outstanding granted ∷ [])) (sym taken)
    (losses_other unit next.taken grants (Lapsed unit session current lapses.Refused outstanding granted) (λ q. refl) is.causes.losses))
    tt (subst (λ rows. Others unit rows judged grants) (sym taken) (others_of unit next.taken judged grants is.causes))
    is.begun (λ q later. ap (of_session q) taken ∙ is.risen q later) is.later (λ k d less fate same. refl) (λ q some earlier. is.closed q some (inl earlier)) (λ over. refl) (λ still. absurd (cc (still)))
    (upto _ _ done) (near _ _ done) (λ still. absurd (cc (still)))

-- It ended as the session did, for the entry that was judged.
lines_last : (unit : UnitId) (session : ℕ) (next next' : Ahead) (current : ℕ) (taking up up' : Bool) (credits credits' : Credits) (grants : List Grant) (ended : Bool) (judged : List Judged) (cause : Lapse) (outstanding granted : ℕ)
    (receipt : Receipt) → ended ≡ false → receipt.session ≡ session → is_fatal cause ≡ true → Gives unit next.taken judged grants receipt cause outstanding granted
    → next'.taken ≡ next.taken → next'.number ≡ length (of_session session next'.taken)
    → (1 ≤ current → IsOn unit current grants) → KeepsLines unit session next current taking up credits grants ended judged
    → KeepsLines unit session next' 0 false up' credits' (grants ++ Lapsed unit session current cause outstanding granted ∷ []) true (judged ++ record { receipt = receipt; fate = ends_it } ∷ [])
lines_last unit session next next' current taking up up' credits credits' grants ended judged cause outstanding granted receipt going now fatal gives taken done on is =
    let j : Judged = record { receipt = receipt; fate = ends_it } in
    lines_lapsed unit session next' current up' credits' grants true (judged ++ j ∷ []) cause outstanding granted on (is.going going)
    (subst (λ rows. AreLosses unit rows (grants ++ Lapsed unit session current cause outstanding granted ∷ [])) (sym taken)
    (losses_other unit next.taken grants (Lapsed unit session current cause outstanding granted)
    (λ q. and_first (is_lost cause) (same_unit unit unit && (session == q)) (cause_lost cause fatal)) is.causes.losses))
    (subst (λ rows. HasCause unit rows (judged ++ j ∷ []) grants (Lapsed unit session current cause outstanding granted)) (sym taken)
    (cause_of unit next.taken (judged ++ j ∷ []) grants session current outstanding granted cause fatal
    (record { before = judged; receipt = receipt; after = []; parts = refl; session_is = now; gives = gives })))
    (subst (λ rows. Others unit rows (judged ++ j ∷ []) grants) (append-nil next.taken ∙ sym taken)
    (others_grow unit next.taken [] judged (j ∷ []) grants (once_push session ended judged j now going is.begun is.over is.causes.once) is.causes))
    (All-push (λ j. j.receipt.session ≤ session) judged j is.begun (upto _ _ now)) (λ q later. ap (of_session q) taken ∙ is.risen q later) is.later
    (λ k d less fate same. refl) (λ q some earlier. is.closed q some (inl earlier)) (λ over. fatal) (λ still. absurd (cc (still)))
    (upto _ _ done) (near _ _ done) (λ still. absurd (cc (still)))

-- It ended for another cause than its logout.
pub lines_end : (books : Books) (next' : Ahead) (up' : Bool) (credits' : Credits) (ended' : Bool) (cause : Lapse) (outstanding granted : ℕ) (judged more : List Judged)
    → (1 ≤ books.current → IsOn books.id books.current books.grants) → IsEnd books next' ended' cause outstanding granted judged more
    → KeepsLines books.id books.session books.next books.current books.taking books.up books.credits books.grants books.ended judged
    → KeepsLines books.id books.session next' 0 false up' credits' (books.grants ++ Lapsed books.id books.session books.current cause outstanding granted ∷ []) ended' (judged ++ more)
lines_end books next' up' credits' ended' cause outstanding granted judged more on end is = by end.why
  where
    by : IsGone books next' ended' cause more ⊎ (IsTurnedDown books next' ended' cause more ⊎ IsJudgedLast books next' ended' cause outstanding granted judged more)
        → KeepsLines books.id books.session next' 0 false up' credits' (books.grants ++ Lapsed books.id books.session books.current cause outstanding granted ∷ []) ended' (judged ++ more)
    by (inl gone) = subst (λ (z : Lapse × Bool × List Judged). KeepsLines books.id books.session next' 0 false up' credits' (books.grants ++ Lapsed books.id books.session books.current z.0 outstanding granted ∷ []) z.1 z.2)
        (λ i. ((sym gone.cause_is) i, (end.going ∙ sym gone.still) i, (sym (ap (λ xs. judged ++ xs) gone.none ∙ append-nil judged)) i))
        (lines_gone books.id books.session books.next next' books.current books.taking books.up up' books.credits credits' books.grants books.ended judged outstanding granted gone.event
        end.going gone.says gone.taken end.done on is)
    by (inr (inl down)) = subst (λ (z : Lapse × Bool × List Judged). KeepsLines books.id books.session next' 0 false up' credits' (books.grants ++ Lapsed books.id books.session books.current z.0 outstanding granted ∷ []) z.1 z.2)
        (λ i. ((sym down.cause_is) i, (sym down.over) i, (sym (ap (λ xs. judged ++ xs) down.none ∙ append-nil judged)) i))
        (lines_refused books.id books.session books.next next' books.current books.taking books.up up' books.credits credits' books.grants books.ended judged outstanding granted end.going down.taken end.done on is)
    by (inr (inr last)) = subst (λ (z : Bool × List Judged). KeepsLines books.id books.session next' 0 false up' credits' (books.grants ++ Lapsed books.id books.session books.current cause outstanding granted ∷ []) z.0 z.1)
        (λ i. ((sym last.over) i, (ap (λ xs. judged ++ xs) (sym last.one)) i))
        (lines_last books.id books.session books.next next' books.current books.taking books.up up' books.credits credits' books.grants books.ended judged cause outstanding granted last.receipt
        end.going last.session_is last.fatal last.gives last.taken end.done on is)

-- LINES OF OTHER UNITS ---------------------------------------------------------------------------

other_line : (unit : UnitId) (line : Grant) → same_unit (unit_of line) unit ≡ false → ((q : ℕ) → is_line unit q line ≡ false) × (((q : ℕ) → is_loss unit q line ≡ false) × (((q : ℕ) → is_closing unit q line ≡ false) × ((n : ℕ) → ends unit n line ≡ false)))
other_line unit (Granted of session login number credits) other = ((λ q. and_first (same_unit of unit) (session == q) other), ((λ q. refl), ((λ q. refl), (λ n. refl))))
other_line unit (Lapsed of session login cause outstanding granted) other = (
  (λ q. and_first (same_unit of unit) (session == q) other),
  (
    (λ q. and_next (is_lost cause) (same_unit of unit && (session == q)) (and_first (same_unit of unit) (session == q) other)),
    ((λ q. and_next (is_fatal cause) (same_unit of unit && (session == q)) (and_first (same_unit of unit) (session == q) other)), (λ n. and_first (same_unit of unit) (login == n) other)),
  ),
)

other_cause : (unit : UnitId) (taken : List PipeRow) (judged : List Judged) (lines : List Grant) (line : Grant) → same_unit (unit_of line) unit ≡ false → HasCause unit taken judged lines line
other_cause unit taken judged lines (Granted of session login number credits) other = tt
other_cause unit taken judged lines (Lapsed of session login lapses.Logout outstanding granted) other = λ own. absurd (cc (own, other))
other_cause unit taken judged lines (Lapsed of session login lapses.Lost outstanding granted) other = tt
other_cause unit taken judged lines (Lapsed of session login lapses.Refused outstanding granted) other = tt
other_cause unit taken judged lines (Lapsed of session login lapses.Early outstanding granted) other = λ own. absurd (cc (own, other))
other_cause unit taken judged lines (Lapsed of session login lapses.BadIu outstanding granted) other = λ own. absurd (cc (own, other))
other_cause unit taken judged lines (Lapsed of session login lapses.NotLogin outstanding granted) other = λ own. absurd (cc (own, other))
other_cause unit taken judged lines (Lapsed of session login lapses.OverLimit outstanding granted) other = λ own. absurd (cc (own, other))

-- A line of another unit came.
lines_other : (unit : UnitId) (session : ℕ) (next : Ahead) (current : ℕ) (taking up : Bool) (credits : Credits) (grants : List Grant) (ended : Bool) (judged : List Judged) (line : Grant)
    → same_unit (unit_of line) unit ≡ false → KeepsLines unit session next current taking up credits grants ended judged
    → KeepsLines unit session next current taking up credits (grants ++ line ∷ []) ended judged
lines_other unit session next current taking up credits grants ended judged line other is =
    let none = other_line unit line other in
    record {
      causes = causes_push unit next.taken judged grants line (losses_other unit next.taken grants line none.1.0 is.causes.losses)
          (λ q own. absurd (cc (own, none.0 q))) (λ n some ended. absurd (cc (ended, none.1.1.1 n))) (other_cause unit next.taken judged grants line other)
          is.causes.once is.causes.last is.causes.single is.causes.causes;
      begun = is.begun;
      risen = is.risen;
      later = λ q above. filter_left (is_line unit q) grants line (none.0 q) ∙ is.later q above;
      over = is.over;
      going = λ still. filter_left (is_closing unit session) grants line (none.1.1.0 session) ∙ is.going still;
      closed = λ q some past. closed_more unit q grants (line ∷ []) (is.closed q some past);
      upto = is.upto;
      near = is.near;
      unheard = is.unheard;
      on = λ some. let last = is.on some in record { number = last.number; last = last_other unit session grants line (none.0 session) ∙ last.last };
      off = λ off login number granted last. is.off off login number granted (sym (last_other unit session grants line (none.0 session)) ∙ last);
      counted = is.counted;
    }

pub lines_others : (unit : UnitId) (session : ℕ) (next : Ahead) (current : ℕ) (taking up : Bool) (credits : Credits) (grants : List Grant) (ended : Bool) (judged : List Judged) (lines : List Grant)
    → All (λ line. same_unit (unit_of line) unit ≡ false) lines → KeepsLines unit session next current taking up credits grants ended judged
    → KeepsLines unit session next current taking up credits (grants ++ lines) ended judged
lines_others unit session next current taking up credits grants ended judged [] all is =
    subst (λ (all : List Grant). KeepsLines unit session next current taking up credits all ended judged) (sym (append-nil grants)) is
lines_others unit session next current taking up credits grants ended judged (line ∷ lines) all is =
    subst (λ (all : List Grant). KeepsLines unit session next current taking up credits all ended judged) (append_assoc grants (line ∷ []) lines)
    (lines_others unit session next current taking up credits (grants ++ line ∷ []) ended judged lines (All-tail (λ line. same_unit (unit_of line) unit ≡ false) line lines all)
    (lines_other unit session next current taking up credits grants ended judged line (All-head (λ line. same_unit (unit_of line) unit ≡ false) line lines all) is))

-- no session is over before one began
none_past : (session : ℕ) (ended : Bool) (q : ℕ) → session ≡ 0 → 1 ≤ q → IsPast session ended q → ⊥
none_past session ended q first some (inl earlier) = absurd (omega (arith, first, some, earlier))
none_past session ended q first some (inr last) = absurd (omega (arith, first, some, last.0))

-- A unit that took nothing, of whose queue no session began.
pub lines_new : (unit : UnitId) (session : ℕ) (next : Ahead) (up : Bool) (credits : Credits) (ended : Bool) → session ≡ 0 → next.taken ≡ [] → next.number ≡ 0
    → KeepsLines unit session next 0 false up credits [] ended []
lines_new unit session next up credits ended first none zero = record {
  causes = record {
    losses = λ q. sym (ap (λ rows. length (filter is_event (of_session q rows))) none ∙ ap (λ xs. length (filter is_event xs)) (of_session-nil q));
    once = λ i j d less inside. absurd (omega (arith, inside));
    last = λ i j d less inside. absurd (omega (arith, inside));
    single = λ n some. omega arith;
    causes = tt;
  };
  begun = All-nil (λ (j : Judged). j.receipt.session ≤ session);
  risen = λ q later. ap (of_session q) none ∙ of_session-nil q;
  later = λ q later. refl;
  over = All-nil (λ (j : Judged). j.fate ≡ ends_it → j.receipt.session ≡ session → ended ≡ true);
  going = λ on. refl;
  closed = λ q some past. absurd (none_past session ended q first some past);
  upto = low _ _ zero;
  near = subst (λ (xs : List Entry). length xs ≤ next.number + 1) (sym fresh) (low 0 (next.number + 1) refl);
  unheard = λ on down. ap (λ xs. heard (take next.number xs)) fresh ∙ ap heard (take_none next.number);
  on = λ some. absurd (one_zero some);
  off = λ off login number credits last. absurd (cc (last));
  counted = λ some. absurd (one_zero some);
}
  where
    fresh : of_session session next.taken ≡ []
    fresh = ap (of_session session) none ∙ of_session-nil session

    low : (a b : ℕ) → a ≡ 0 → a ≤ b
    low a b zero = omega (arith, zero)
