-- The answers to requests to log in that a unit put: over its own turns, turns of others, before the first, and at rest.
use Rattle.std.proofs.Common.{◌≡◌, ◌⊎◌, inl, inr, ◌∙◌, ◌++◌, ◌==◌, ◌&&◌, ℕ, Bool, true, false, cond, All, List, [], ◌∷◌, Option, Some, None, IfSome, filter, map, slice_get, refl, sym, ap, subst, append-nil}
use Rattle.std.specs.List.{Contains, cons_option, filter_map}
use Rattle.std.proofs.Math.Logic.{∥∥₁_elim}
use Rattle.std.proofs.lemmas.List.{append_cancel_left, map-append}
use Rattle.std.proofs.lemmas.List.Elements.{All-head, All-nil, All-tail, All-weaker, filter-append}
use Rattle.crq_ring.specs.declared.rows.PipeRow.{PipeRow}
use Rattle.vio_num.specs.Words.{Begins}
use Rattle.vio_num.specs.declared.entry.Entry.{Entry}
use Rattle.vio_num.specs.declared.history.Grant.{Grant}
use Rattle.vio_num.specs.declared.history.Grant.TheVariants.{Granted, Lapsed}
use Rattle.vio_num.specs.declared.names.UnitId.{UnitId}
use Rattle.crq_session.specs.EndState.{EndState}
use Rattle.block_server.specs.Asked.{AreAskedInOrder, AskInOrder, AskedAt, IsAskedFirst, still_to_answer}
use Rattle.block_server.specs.Causes.{Hearing, Includes, Told, told_to}
use Rattle.block_server.specs.Dealt.{AreDealt, AsksNoLogin, HasDealt, IsLoginAnswered, IsLoginSettled, IsPutOrLost, KnowsSends, SendsSoFar, TookNoEvent}
use Rattle.block_server.specs.Granting.{IsRejectedOver}
use Rattle.block_server.specs.LoginAnswers.{IsLoginAnswer, IsLoginPut, LoginAnswer, asked_at, grants_in, is_grant, line_of, login_answers}
use Rattle.block_server.specs.Judges.{AreUnused}
use Rattle.block_server.specs.Makers.{same_unit}
use Rattle.block_server.specs.Ready.{AgreesAt, HasNothing}
use Rattle.block_server.specs.Receipts.{LinesMore, is_ended, unit_of}
use Rattle.block_server.specs.Refusals.{AnswersInOrder}
use Rattle.block_server.specs.declared.records.Records.{Records}
use Rattle.block_server.specs.declared.unit.Unit.{Unit}
use Rattle.block_server.specs.Closings.{is_line, last_of}
use Rattle.block_server.specs.Numbers.{login_left}
use Rattle.block_server.specs.Rejecting.{IsOnByLines, LinesTellLogin, RejectInTime, RejectsThen}
use Rattle.block_server.proofs.AskedLaws.{asked_kept, on_kept}
use Rattle.std.proofs.lemmas.Option.{IfSome_then}
use Rattle.block_server.proofs.DealtLaws.{dealt_at_rest, dealt_unused, dealt_wider}
use Rattle.block_server.proofs.Laws.{logins_on}
use Rattle.block_server.proofs.OnThen.{in_time_on}
use Rattle.vcpu_run.specs.LoginsSent.{AreLoginsDealt, AreLoginsInOrder, GoInOrder, IsLoginGiven, lines_by}
use Rattle.vcpu_run.proofs.LoginsDealt.{IsClosedSo}
use Rattle.vcpu_run.proofs.RowCopies.{granted_more}
use Rattle.vcpu_run.proofs.Sole.{same_refl}

-- LINES ------------------------------------------------------------------------------------------

-- whether a line is of the unit, and whether all are
abbrev is_by : UnitId → Grant → Bool
is_by unit line = same_unit (unit_of line) unit

abbrev all_by : UnitId → List Grant → Bool
all_by unit [] = true
all_by unit (line ∷ lines) = is_by unit line && all_by unit lines

-- where each is nothing is left out, and where none is nothing stays
keeps_all : (unit : UnitId) (lines : List Grant) → all_by unit lines ≡ true → filter (is_by unit) lines ≡ lines
keeps_all unit [] is = refl
keeps_all unit (line ∷ lines) is = at (is_by unit line) (keeps_all unit lines) is
  where
    at : (b : Bool) → (all_by unit lines ≡ true → filter (is_by unit) lines ≡ lines) → (b && all_by unit lines) ≡ true
        → cond b (line ∷ filter (is_by unit) lines) (filter (is_by unit) lines) ≡ line ∷ lines
    at true rest is = ap (λ (more : List Grant). line ∷ more) (rest is)
    at false rest is = absurd (cc (is))

keeps_none : (unit : UnitId) (lines : List Grant) → All (λ line. is_by unit line ≡ false) lines → filter (is_by unit) lines ≡ []
keeps_none unit [] all = refl
keeps_none unit (line ∷ lines) all = at (is_by unit line) (All-head (λ line. is_by unit line ≡ false) line lines all) (keeps_none unit lines (All-tail (λ line. is_by unit line ≡ false) line lines all))
  where
    at : (b : Bool) → b ≡ false → filter (is_by unit) lines ≡ [] → cond b (line ∷ filter (is_by unit) lines) (filter (is_by unit) lines) ≡ []
    at true e none = absurd (cc (e))
    at false e none = none

-- two tests in either order
passes : (test : Grant → Bool) (line : Grant) (lines : List Grant) → test line ≡ true → filter test (line ∷ lines) ≡ line ∷ filter test lines
passes test line lines e = ap (λ (b : Bool). cond b (line ∷ filter test lines) (filter test lines)) e

skips : (test : Grant → Bool) (line : Grant) (lines : List Grant) → test line ≡ false → filter test (line ∷ lines) ≡ filter test lines
skips test line lines e = ap (λ (b : Bool). cond b (line ∷ filter test lines) (filter test lines)) e

either_order : (p q : Grant → Bool) (lines : List Grant) → filter p (filter q lines) ≡ filter q (filter p lines)
either_order p q [] = refl
either_order p q (line ∷ lines) = at (p line) refl (q line) refl (either_order p q lines)
  where
    at : (a : Bool) → p line ≡ a → (b : Bool) → q line ≡ b → filter p (filter q lines) ≡ filter q (filter p lines)
        → filter p (cond b (line ∷ filter q lines) (filter q lines)) ≡ filter q (cond a (line ∷ filter p lines) (filter p lines))
    at true e true e' same = passes p line (filter q lines) e ∙ (ap (λ (more : List Grant). line ∷ more) same ∙ sym (passes q line (filter p lines) e'))
    at true e false e' same = same ∙ sym (skips q line (filter p lines) e')
    at false e true e' same = skips p line (filter q lines) e ∙ same
    at false e false e' same = same

-- lines that grant a login, of a turn of the unit
grants_own : {granted : ℕ} (unit : UnitId) (lines lines' : List Grant) (more : List LoginAnswer) → LinesMore unit granted lines lines' → grants_in lines' ≡ grants_in lines ++ filter_map line_of more
    → all_by unit (filter_map line_of more) ≡ true
grants_own unit lines lines' more came granted = subst (λ (list : List Grant). all_by unit list ≡ true) same (own came.more came.of_unit)
  where
    same : grants_in came.more ≡ filter_map line_of more
    same = append_cancel_left (grants_in lines) (grants_in came.more) (filter_map line_of more) (sym (filter-append is_grant lines came.more) ∙ (ap grants_in (sym came.added) ∙ granted))

    both : (a b : Bool) → a ≡ true → b ≡ true → (a && b) ≡ true
    both a b x y = cc (x, y)

    by_name : (line : Grant) → unit_of line ≡ unit → is_by unit line ≡ true
    by_name line of = ap (λ (id : UnitId). same_unit id unit) of ∙ same_refl unit

    own : (list : List Grant) → All (λ line. unit_of line ≡ unit) list → all_by unit (grants_in list) ≡ true
    own [] all = refl
    own (Granted of session login number credits ∷ list) all =
        both (is_by unit (Granted of session login number credits)) (all_by unit (grants_in list))
        (by_name (Granted of session login number credits) (All-head (λ line. unit_of line ≡ unit) (Granted of session login number credits) list all))
        (own list (All-tail (λ line. unit_of line ≡ unit) (Granted of session login number credits) list all))
    own (Lapsed of session login cause outstanding granted ∷ list) all = own list (All-tail (λ line. unit_of line ≡ unit) (Lapsed of session login cause outstanding granted) list all)

-- the same where it is only known that there are such lines
grants_all : {granted : ℕ} (unit : UnitId) (lines lines' : List Grant) (more : List LoginAnswer) → ∥ LinesMore unit granted lines lines' ∥₁ → grants_in lines' ≡ grants_in lines ++ filter_map line_of more
    → all_by unit (filter_map line_of more) ≡ true
grants_all unit lines lines' more came granted = at (all_by unit (filter_map line_of more)) refl
  where
    differ : (b : Bool) → b ≡ false → b ≡ true → ⊥
    differ b off is = cc (off, is)

    at : (b : Bool) → all_by unit (filter_map line_of more) ≡ b → b ≡ true
    at true e = refl
    at false e = absurd (∥∥₁_elim came (λ a b. absurd a) (λ came. differ (all_by unit (filter_map line_of more)) e (grants_own unit lines lines' more came granted)))

-- those of the unit's lines
own_grants : {granted : ℕ} (unit : UnitId) (lines lines' : List Grant) (more : List LoginAnswer) → ∥ LinesMore unit granted lines lines' ∥₁ → grants_in lines' ≡ grants_in lines ++ filter_map line_of more
    → grants_in (lines_by unit lines') ≡ grants_in (lines_by unit lines) ++ filter_map line_of more
own_grants unit lines lines' more came granted =
    either_order is_grant (is_by unit) lines'
    ∙ (ap (filter (is_by unit)) granted
    ∙ (filter-append (is_by unit) (grants_in lines) (filter_map line_of more)
    ∙ (ap (λ (list : List Grant). list ++ filter (is_by unit) (filter_map line_of more)) (either_order (is_by unit) is_grant lines)
    ∙ ap (λ (list : List Grant). grants_in (lines_by unit lines) ++ list) (keeps_all unit (filter_map line_of more) (grants_all unit lines lines' more came granted)))))

-- a line of others is none of the unit's
by_line : (unit : UnitId) (session : ℕ) (line : Grant) → is_by unit line ≡ false → is_line unit session line ≡ false
by_line unit session (Granted of q login number credits) other = and_false (same_unit of unit) (q == session) other
  where
    and_false : (a b : Bool) → a ≡ false → (a && b) ≡ false
    and_false a b is = cc (is)
by_line unit session (Lapsed of q login cause outstanding granted) other = and_false (same_unit of unit) (q == session) other
  where
    and_false : (a b : Bool) → a ≡ false → (a && b) ≡ false
    and_false a b is = cc (is)

-- none is left by a test that none passes
filter_none : (test : Grant → Bool) (lines : List Grant) → All (λ line. test line ≡ false) lines → filter test lines ≡ []
filter_none test [] all = refl
filter_none test (line ∷ lines) all = skips test line lines (All-head (λ line. test line ≡ false) line lines all) ∙ filter_none test lines (All-tail (λ line. test line ≡ false) line lines all)

-- the unit's lines of a session among its own
session_by : (unit : UnitId) (session : ℕ) (lines : List Grant) → filter (is_line unit session) (lines_by unit lines) ≡ filter (is_line unit session) lines
session_by unit session [] = refl
session_by unit session (line ∷ lines) = at (is_by unit line) refl (session_by unit session lines)
  where
    keep : (a b : List Grant) → a ≡ b → (t : Bool) → cond t (line ∷ a) a ≡ cond t (line ∷ b) b
    keep a b same t = ap (λ (list : List Grant). cond t (line ∷ list) list) same

    at : (b : Bool) → is_by unit line ≡ b → filter (is_line unit session) (lines_by unit lines) ≡ filter (is_line unit session) lines
        → filter (is_line unit session) (lines_by unit (line ∷ lines)) ≡ filter (is_line unit session) (line ∷ lines)
    at true e same = ap (filter (is_line unit session)) (passes (is_by unit) line lines e) ∙ keep (filter (is_line unit session) (lines_by unit lines)) (filter (is_line unit session) lines) same (is_line unit session line)
    at false e same = ap (filter (is_line unit session)) (skips (is_by unit) line lines e) ∙ (same ∙ sym (skips (is_line unit session) line lines (by_line unit session line e)))

-- By the unit's own lines each was rejected in time, too.
in_time_by : (unit : UnitId) (granted lines : List Grant) (more : List LoginAnswer) → all_by unit (filter_map line_of more) ≡ true → RejectInTime unit granted lines more
    → RejectInTime unit (filter (is_by unit) granted) (lines_by unit lines) more
in_time_by unit granted lines [] all is = tt
in_time_by unit granted lines (answer ∷ more) all is = step answer.line (λ list. in_time_by unit list lines more) all is.0 is.1
  where
    then : (line : Option Grant) → RejectsThen unit granted lines line answer → RejectsThen unit (filter (is_by unit) granted) (lines_by unit lines) line answer
    then (Some line) was = tt
    then None was = record {
      before = lines_by unit was.before;
      after = lines_by unit was.after;
      parts = ap (lines_by unit) was.parts ∙ filter-append (is_by unit) was.before was.after;
      grants = either_order is_grant (is_by unit) was.before ∙ ap (filter (is_by unit)) was.grants;
      on_is = was.on_is ∙ ap (λ (list : List Grant). login_left (last_of list)) (sym (session_by unit answer.asked.session was.before));
    }

    first : (a b : Bool) → (a && b) ≡ true → a ≡ true
    first true b is = refl
    first false b is = absurd (cc (is))

    behind : (a b : Bool) → (a && b) ≡ true → b ≡ true
    behind true b is = is
    behind false b is = absurd (cc (is))

    step : (line : Option Grant) → ((list : List Grant) → all_by unit (filter_map line_of more) ≡ true → RejectInTime unit list lines more → RejectInTime unit (filter (is_by unit) list) (lines_by unit lines) more)
        → all_by unit (cons_option line (filter_map line_of more)) ≡ true → RejectsThen unit granted lines line answer → RejectInTime unit (granted ++ cons_option line []) lines more
        → RejectsThen unit (filter (is_by unit) granted) (lines_by unit lines) line answer × RejectInTime unit (filter (is_by unit) granted ++ cons_option line []) (lines_by unit lines) more
    step None rest_by all was rest = (
      then None was,
      subst (λ (list : List Grant). RejectInTime unit list (lines_by unit lines) more) (filter-append (is_by unit) granted []) (rest_by (granted ++ []) all rest),
    )
    step (Some line) rest_by all was rest = (
      tt,
      subst (λ (list : List Grant). RejectInTime unit list (lines_by unit lines) more)
          (filter-append (is_by unit) granted (line ∷ [])
          ∙ ap (λ (list : List Grant). filter (is_by unit) granted ++ list) (passes (is_by unit) line [] (first (is_by unit line) (all_by unit (filter_map line_of more)) all)))
          (rest_by (granted ++ line ∷ []) (behind (is_by unit line) (all_by unit (filter_map line_of more)) all) rest),
    )

-- OVER TURNS -------------------------------------------------------------------------------------

-- Over a turn of the unit.
pub order_served : {granted : ℕ} (told : Told → Bool) (unit : UnitId) (units units' : List Unit) (k : ℕ) (queue queue' : EndState) (records records' : Records) (Heard Heard' : Type 0)
    → Begins queue.taken queue'.taken → ∥ LinesMore unit granted records.grants.items records'.grants.items ∥₁
    → ((earlier : List AskedAt) → AskInOrder earlier units k queue → LinesTellLogin units k unit queue records.grants.items → (closed : ℕ → Bool) → KnowsSends (AgreesAt units k queue) false queue queue' closed
    → HasDealt told earlier closed units k unit queue → AnswersInOrder told earlier closed units' k unit queue queue' records records')
    → ((closed : Bool) → (closed ≡ true → Heard) → IsClosedSo told units units' k unit queue queue' closed Heard')
    → GoInOrder told units k unit queue.last_session queue.taken (login_answers queue.sent) records.grants.items Heard
    → GoInOrder told units' k unit queue'.last_session queue'.taken (login_answers queue'.sent) records'.grants.items Heard'
unfolding logins_on
order_served told unit units units' k queue queue' records records' Heard Heard' more came step choose is =
    let Hears = told_to told unit in
    let lines = records.grants.items in
    let lines' = records'.grants.items in
    let so = choose is.closed is.heard in
    let now = step (map asked_at is.put.more) is.asked is.on so.closed so.knows (dealt_wider told (map asked_at is.put.more) (λ q. is.closed) so.closed units k unit queue so.wider is.dealt) in
    let puts = now.logins in
    record {
      put = logins_on Hears queue.taken queue'.taken [] (login_answers queue.sent) (login_answers queue'.sent) [] (lines_by unit lines) (lines_by unit lines') more is.put
          (record { more = puts.more; put = puts.put; granted = own_grants unit lines lines' puts.more came puts.granted; each = puts.each });
      asked = subst (λ (list : List AskedAt). AskInOrder list units' k queue') (sym (map-append asked_at is.put.more puts.more)) now.order;
      rejects = in_time_on unit [] (lines_by unit lines) (lines_by unit lines') is.put.more puts.more
          (lines_by unit now.lines.0, ap (lines_by unit) now.lines.1 ∙ filter-append (is_by unit) lines now.lines.0) is.rejects
          (subst (λ (list : List Grant). RejectInTime unit list (lines_by unit lines') puts.more) (either_order (is_by unit) is_grant lines ∙ is.put.granted)
          (in_time_by unit (grants_in lines) lines' puts.more (grants_all unit lines lines' puts.more came puts.granted) now.rejects));
      on = now.on;
      closed = so.last;
      dealt = subst (λ (list : List AskedAt). HasDealt told list (λ q. so.last) units' k unit queue') (sym (map-append asked_at is.put.more puts.more))
          (so.dealt (map asked_at is.put.more ++ map asked_at puts.more) now.deals);
      heard = so.heard;
    }

-- Over a turn of another unit.
lines_elsewhere : {granted : ℕ} (unit other : UnitId) (lines lines' : List Grant) → LinesMore other granted lines lines' → same_unit other unit ≡ false → lines_by unit lines' ≡ lines_by unit lines
lines_elsewhere unit other lines lines' came apart =
    ap (lines_by unit) came.added ∙ (filter-append (is_by unit) lines came.more
    ∙ (ap (λ (list : List Grant). lines_by unit lines ++ list)
    (keeps_none unit came.more
    (All-weaker (λ line. unit_of line ≡ other) (λ line. is_by unit line ≡ false) (λ line of. ap (λ (id : UnitId). same_unit id unit) of ∙ apart) came.more came.of_unit))
    ∙ append-nil (lines_by unit lines)))

pub order_elsewhere : {granted : ℕ} (told : Told → Bool) (units units' : List Unit) (k : ℕ) (unit other : UnitId) (session : ℕ) (taken : List PipeRow) (answers : List Entry) (lines lines' : List Grant)
    (Heard : Type 0) → slice_get units' k ≡ slice_get units k → LinesMore other granted lines lines' → same_unit other unit ≡ false
    → GoInOrder told units k unit session taken answers lines Heard → GoInOrder told units' k unit session taken answers lines' Heard
order_elsewhere told units units' k unit other session taken answers lines lines' Heard same came apart is = record {
  put = record { more = is.put.more; put = is.put.put; granted = ap grants_in (lines_elsewhere unit other lines lines' came apart) ∙ is.put.granted; each = is.put.each };
  asked = subst (λ (o : Option Unit). IfSome o (λ u. AreAskedInOrder (map asked_at is.put.more ++ still_to_answer session taken u.waiting u.pending.items))) (sym same) is.asked;
  rejects = subst (λ (list : List Grant). RejectInTime unit [] list is.put.more) (sym (lines_elsewhere unit other lines lines' came apart)) is.rejects;
  on = subst (λ (o : Option Unit). IfSome o (λ u. IsOnByLines unit session u.logins.current (is_ended u.line) lines')) (sym same)
      (IfSome_then (slice_get units k) is.on (λ u was. record {
        on = was.on ∙ ap (λ (list : List Grant). login_left (last_of list)) (sym (others session));
        off = was.off;
        later = λ q above. others q ∙ was.later q above;
      }));
  closed = is.closed;
  dealt = subst (λ (o : Option Unit). IfSome o (λ u. AreDealt (told_to told unit) session taken u.waiting u.pending.items (is_ended u.line)
      (record { put = map asked_at is.put.more; closed = λ q. is.closed }))) (sym same) is.dealt;
  heard = is.heard;
}
  where
    others : (q : ℕ) → filter (is_line unit q) lines' ≡ filter (is_line unit q) lines
    others q = ap (filter (is_line unit q)) came.added ∙ filter-append (is_line unit q) lines came.more
        ∙ (ap (λ (list : List Grant). filter (is_line unit q) lines ++ list)
        (filter_none (is_line unit q) came.more
        (All-weaker (λ line. unit_of line ≡ other) (λ line. is_line unit q line ≡ false) (λ line of. by_line unit q line (ap (λ (id : UnitId). same_unit id unit) of ∙ apart)) came.more came.of_unit))
        ∙ append-nil (filter (is_line unit q) lines))

-- Before the first turn.
pub order_fresh : (told : Told → Bool) (units : List Unit) (k : ℕ) (unit : UnitId) (queue : EndState) (answers : List Entry) (lines : List Grant) (Heard : Type 0) → answers ≡ [] → lines ≡ []
    → queue.last_session ≡ 0 → queue.taken ≡ [] → AreUnused units → GoInOrder told units k unit queue.last_session queue.taken answers lines Heard
order_fresh told units k unit queue answers lines Heard none no_lines begun empty unused = record {
  put = record {
    more = [];
    put = none;
    granted = ap (λ (list : List Grant). grants_in (lines_by unit list)) no_lines;
    each = All-nil (IsLoginAnswer (told_to told unit) queue.taken);
  };
  asked = asked_kept units k unit queue [] [] [] (unused k unit queue begun empty);
  rejects = tt;
  on = subst (λ (list : List Grant). LinesTellLogin units k unit queue list) (sym no_lines) (on_kept units k unit queue [] [] [] (unused k unit queue begun empty));
  closed = false;
  dealt = dealt_unused told [] (λ q. false) units k unit queue empty;
  heard = λ closed. absurd (cc (closed));
}

-- Where an event that was heard is heard of by another end of the same queue.
pub order_heard : (told : Told → Bool) (units : List Unit) (k : ℕ) (unit : UnitId) (session : ℕ) (taken : List PipeRow) (answers : List Entry) (lines : List Grant) (Heard Heard' : Type 0)
    → (Heard → Heard') → GoInOrder told units k unit session taken answers lines Heard → GoInOrder told units k unit session taken answers lines Heard'
order_heard told units k unit session taken answers lines Heard Heard' then is = record {
  put = is.put;
  asked = is.asked;
  rejects = is.rejects;
  on = is.on;
  closed = is.closed;
  dealt = is.dealt;
  heard = λ closed. then (is.heard closed);
}

-- MORE IS HEARD ----------------------------------------------------------------------------------

pub rejected_more : (Hears More : Hearing) → Includes Hears More → (taken : List PipeRow) (session number : ℕ) → IsRejectedOver Hears taken session number → IsRejectedOver More taken session number
rejected_more Hears More more taken session number is = record {
  entry = is.entry;
  at = is.at;
  bytes = is.bytes;
  long = is.long;
  brought = more _ is.brought;
  asked = is.asked;
  asks = is.asks;
  current = is.current;
  answer = is.answer;
  rejects = is.rejects;
  written = more _ is.written;
}

put_more : (Hears More : Hearing) → Includes Hears More → (taken : List PipeRow) (entry : Entry) (line : Option Grant) (asked : AskedAt) (on : ℕ) → IsLoginPut Hears taken entry line asked on
    → IsLoginPut More taken entry line asked on
unfolding rejected_more
put_more Hears More more taken entry (Some (Granted unit session login number credits)) asked on is = record {
  over = record {
    entry = is.over.entry;
    at = is.over.at;
    bytes = is.over.bytes;
    long = is.over.long;
    brought = more _ is.over.brought;
    asked = is.over.asked;
    asks = is.over.asks;
    may = is.over.may;
    answer = is.over.answer;
    grants = is.over.grants;
    written = more _ is.over.written;
  };
  entry_is = is.entry_is;
  asked_is = is.asked_is;
}
put_more Hears More more taken entry (Some (Lapsed unit session login cause outstanding granted)) asked on is = is
put_more Hears More more taken entry None asked on is =
    record { over = rejected_more Hears More more taken asked.session asked.number is.over; entry_is = is.entry_is; on_is = is.on_is }

-- those at the front of a list that is in order are
first_front : (a : AskedAt) (xs ys : List AskedAt) → IsAskedFirst a (xs ++ ys) → IsAskedFirst a xs
first_front a [] ys is = tt
first_front a (x ∷ xs) ys is = (is.0, first_front a xs ys is.1)

order_front : (xs ys : List AskedAt) → AreAskedInOrder (xs ++ ys) → AreAskedInOrder xs
order_front [] ys is = tt
order_front (x ∷ xs) ys is = (first_front x xs ys is.0, order_front xs ys is.1)

-- What a unit put, by all that is shown.
pub order_shown : (told : Told → Bool) (More : Hearing) (units : List Unit) (k : ℕ) (u : Unit) (unit : UnitId) (session : ℕ) (taken : List PipeRow) (answers : List Entry) (lines : List Grant)
    (Heard : Type 0) → Includes (told_to told unit) More → slice_get units k ≡ Some u → GoInOrder told units k unit session taken answers lines Heard → AreLoginsInOrder More unit taken answers lines
order_shown told More units k u unit session taken answers lines Heard more there is = record {
  put = record {
    more = is.put.more;
    put = is.put.put;
    granted = is.put.granted;
    each = All-weaker (IsLoginAnswer (told_to told unit) taken) (IsLoginAnswer More taken) (λ answer was. put_more (told_to told unit) More more taken answer.entry answer.line answer.asked answer.on was) is.put.more is.put.each;
  };
  order = order_front (map asked_at is.put.more) (still_to_answer session taken u.waiting u.pending.items)
      (subst (λ (o : Option Unit). IfSome o (λ u. AreAskedInOrder (map asked_at is.put.more ++ still_to_answer session taken u.waiting u.pending.items))) there is.asked);
  rejects = is.rejects;
}

-- of an entry whose login was answered
answered_more : (Hears More : Hearing) → Includes Hears More → (session : ℕ) (taken : List PipeRow) (number : ℕ) → IsLoginAnswered Hears taken session number → IsLoginAnswered More taken session number
answered_more Hears More more session taken number (inl is) = inl (is.0, granted_more Hears More more taken session number is.0 is.1)
answered_more Hears More more session taken number (inr is) = inr (rejected_more Hears More more taken session number is)

-- AT REST ----------------------------------------------------------------------------------------

-- Where nothing waits and nothing is pending in a session that goes on, and no event was heard but what was taken, each request to log
-- in was answered.
pub order_at_rest : (told : Told → Bool) (More : Hearing) (units : List Unit) (k : ℕ) (u : Unit) (unit : UnitId) (session : ℕ) (taken : List PipeRow) (answers : List Entry) (lines : List Grant)
    (Heard : Type 0) → Includes (told_to told unit) More → slice_get units k ≡ Some u → HasNothing u → (Heard → TookNoEvent session taken → ⊥)
    → GoInOrder told units k unit session taken answers lines Heard → AreLoginsDealt More unit session taken answers lines
unfolding order_shown
order_at_rest told More units k u unit session taken answers lines Heard more there none over is = record {
  sent = order_shown told More units k u unit session taken answers lines Heard more there is;
  answered = λ number entry at quiet. by number entry
      (dealt_at_rest Hears session taken u.waiting u.pending.items (is_ended u.line) sends dealt none.waiting none.pending none.going number entry at quiet);
}
  where
    Hears : Hearing
    Hears = told_to told unit

    sends : SendsSoFar
    sends = record { put = map asked_at is.put.more; closed = λ q. is.closed }

    dealt : AreDealt Hears session taken u.waiting u.pending.items (is_ended u.line) sends
    dealt = subst (λ (o : Option Unit). IfSome o (λ u. AreDealt Hears session taken u.waiting u.pending.items (is_ended u.line) sends)) there is.dealt

    given : (number : ℕ) → IsPutOrLost sends session number → TookNoEvent session taken → Contains sends.put (record { session = session; number = number })
    given number (inl put) quiet = put
    given number (inr closed) quiet = absurd (over (is.heard closed) quiet)

    by : (number : ℕ) (entry : Entry) → AsksNoLogin Hears entry ⊎ IsLoginSettled Hears taken sends session number
        → AsksNoLogin More entry ⊎ IsLoginGiven More session taken sends.put number
    by number entry (inl asks) = inl (record { bytes = asks.bytes; long = asks.long; brought = more _ asks.brought; none = asks.none })
    by number entry (inr was) = inr (record { answered = answered_more Hears More more session taken number was.answered; given = given number was.put })
