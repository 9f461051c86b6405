-- What is heard of the other end among the entries that were taken, and the last line of a session: over lists alone.
use Rattle.std.proofs.Common.{◌≡◌, ◌≢◌, ◌+◌, ◌==◌, ◌&&◌, ◌||◌, ◌++◌, ◌<◌, ◌≤◌, ℕ, zero, suc, Bool, true, false, if◌then◌else◌, List, [], ◌∷◌, Some, get_or, length, map, filter, take, refl, sym, ◌∙◌, ap, arith, length-append}
use Rattle.std.proofs.lemmas.Bool.{eqb-true, ne_eqb}
use Rattle.std.proofs.lemmas.List.{map-append}
use Rattle.vio_num.specs.Entry.{entry_format, first_byte}
use Rattle.vio_num.specs.declared.entry.Entry.{Entry}
use Rattle.vio_num.specs.declared.history.Grant.{Grant}
use Rattle.vio_num.specs.declared.history.Grant.TheVariants.{Granted, Lapsed}
use Rattle.vio_num.specs.declared.names.UnitId.{UnitId}
use Rattle.block_server.specs.Closings.{has_no_event, heard, is_closing, is_event, is_handshake, is_line, last_line, last_of}
use Rattle.block_server.specs.Fates.{Judged, accepted, login_of, receipt_key}
use Rattle.block_server.specs.Makers.{same_unit}
use Rattle.block_server.proofs.Judging.{filter_first, filter_kept, filter_left, filter_pass}

and_none : (b : Bool) → (b && false) ≡ false
and_none true = refl
and_none false = refl

pub and_next : (a b : Bool) → b ≡ false → (a && b) ≡ false
and_next a b is = ap (λ c. a && c) is ∙ and_none a

pub and_first : (a b : Bool) → a ≡ false → (a && b) ≡ false
and_first a b is = cc (is)

or_none : (b : Bool) → (b || false) ≡ b
or_none true = refl
or_none false = refl

-- AN ENTRY MORE ----------------------------------------------------------------------------------

no_event_left : (entries : List Entry) (entry : Entry) → is_event entry ≡ true → has_no_event (entries ++ entry ∷ []) ≡ false
no_event_left [] entry is = ap (λ b. if b then false else true) is
no_event_left (first ∷ entries) entry is = at (is_event first) (no_event_left entries entry is)
  where
    at : (b : Bool) → has_no_event (entries ++ entry ∷ []) ≡ false → (if b then false else has_no_event (entries ++ entry ∷ [])) ≡ false
    at true rest = refl
    at false rest = rest

no_event_more : (entries : List Entry) (entry : Entry) → is_event entry ≡ false → has_no_event (entries ++ entry ∷ []) ≡ has_no_event entries
no_event_more [] entry other = ap (λ b. if b then false else true) other
no_event_more (first ∷ entries) entry other = ap (λ t. if is_event first then false else t) (no_event_more entries entry other)

event_apart : (entry : Entry) → is_event entry ≡ true → is_handshake entry ≡ false
event_apart entry is = and_first (first_byte entry == 0xC0) ((entry_format entry == 0x01) || (entry_format entry == 0x02)) (ne_eqb (first_byte entry) 0xC0 (λ same. none (eqb-true (first_byte entry) 0xFF is) same))
  where
    none : first_byte entry ≡ 0xFF → first_byte entry ≡ 0xC0 → ⊥
    none event other = apart (sym event ∙ other)
      where
        apart : ◌≢◌ {A = ℕ} 0xFF 0xC0
        apart same = absurd (omega (arith, same))

pub heard_event : (entries : List Entry) (entry : Entry) → is_event entry ≡ true → heard (entries ++ entry ∷ []) ≡ false
heard_event [] entry is = and_first (is_handshake entry) true (event_apart entry is)
heard_event (first ∷ entries) entry is =
    ap (λ t. heard (entries ++ entry ∷ []) || (is_handshake first && t)) (no_event_left entries entry is)
    ∙ ap (λ t. t || (is_handshake first && false)) (heard_event entries entry is) ∙ and_none (is_handshake first)

pub heard_pass : (entries : List Entry) (entry : Entry) → is_event entry ≡ false → is_handshake entry ≡ false → heard (entries ++ entry ∷ []) ≡ heard entries
heard_pass [] entry event other = and_first (is_handshake entry) true other
heard_pass (first ∷ entries) entry event other =
    ap (λ t. heard (entries ++ entry ∷ []) || (is_handshake first && t)) (no_event_more entries entry event)
    ∙ ap (λ t. t || (is_handshake first && has_no_event entries)) (heard_pass entries entry event other)

pub take_none : {X : Type 0} (n : ℕ) → take {A = X} n [] ≡ []
take_none zero = refl
take_none (suc n) = refl

-- LINES ------------------------------------------------------------------------------------------

last_push : (lines : List Grant) (line : Grant) → last_of (lines ++ line ∷ []) ≡ Some line
last_push [] line = refl
last_push (first ∷ []) line = refl
last_push (first ∷ next ∷ lines) line = last_push (next ∷ lines) line

-- the last line of a session, as one comes
pub last_own : (unit : UnitId) (session : ℕ) (lines : List Grant) (line : Grant) → is_line unit session line ≡ true → last_line unit session (lines ++ line ∷ []) ≡ Some line
last_own unit session lines line is = ap last_of (filter_kept (is_line unit session) lines line is) ∙ last_push (filter (is_line unit session) lines) line

pub last_other : (unit : UnitId) (session : ℕ) (lines : List Grant) (line : Grant) → is_line unit session line ≡ false
    → last_line unit session (lines ++ line ∷ []) ≡ last_line unit session lines
last_other unit session lines line other = ap last_of (filter_left (is_line unit session) lines line other)

-- a line that closes a session is of that
closing_line : (unit : UnitId) (session : ℕ) (line : Grant) → is_line unit session line ≡ false → is_closing unit session line ≡ false
closing_line unit session (Granted of q login number credits) other = refl
closing_line unit session (Lapsed of q login cause outstanding granted) other = and_next _ (same_unit of unit && (q == session)) other

pub none_closing : (unit : UnitId) (session : ℕ) (lines : List Grant) → filter (is_line unit session) lines ≡ [] → filter (is_closing unit session) lines ≡ []
none_closing unit session [] none = refl
none_closing unit session (line ∷ lines) none = at (none_closing unit session lines) (is_line unit session line) refl
  where
    at : (filter (is_line unit session) lines ≡ [] → filter (is_closing unit session) lines ≡ []) → (b : Bool) → is_line unit session line ≡ b
        → filter (is_closing unit session) (line ∷ lines) ≡ []
    at rest true is = absurd (cc (filter_first (is_line unit session) line lines is, none))
    at rest false other = filter_pass (is_closing unit session) line lines (closing_line unit session line other)
        ∙ rest (sym (filter_pass (is_line unit session) line lines other) ∙ none)

-- an element of a list from which a filter takes none
pub none_at : {X : Type 0} (test : X → Bool) (xs : List X) (k : ℕ) (d : X) → filter test xs ≡ [] → k < length xs → test (get_or xs k d) ≡ false
none_at test [] k d none less = absurd (omega (arith, less))
none_at {X = X} test (x ∷ xs) k d none less = at (none_at test xs) (test x) refl k less
  where
    below : (k : ℕ) → suc k < length (x ∷ xs) → k < length xs
    below k less = omega (arith, less)

    at : ((k : ℕ) (d : X) → filter test xs ≡ [] → k < length xs → test (get_or xs k d) ≡ false) → (b : Bool) → test x ≡ b → (k : ℕ) → k < length (x ∷ xs)
        → test (get_or (x ∷ xs) k d) ≡ false
    at rest true is k less = absurd (cc (filter_first test x xs is, none))
    at rest false other zero less = other
    at rest false other (suc k) less = rest k d (sym (filter_pass test x xs other) ∙ none) (below k less)

-- REQUESTS ---------------------------------------------------------------------------------------

pub accepted_one : (login : ℕ) (judged : List Judged) (j : Judged) → (login_of j.fate == login) ≡ true → length (accepted login (judged ++ j ∷ [])) ≡ length (accepted login judged) + 1
accepted_one login judged j is = ap (λ (js : List Judged). length (map (λ j. receipt_key j.receipt) js)) (filter_kept (λ j. login_of j.fate == login) judged j is)
    ∙ ap length (map-append (λ (j : Judged). receipt_key j.receipt) (filter (λ j. login_of j.fate == login) judged) (j ∷ []))
    ∙ length-append (map (λ (j : Judged). receipt_key j.receipt) (filter (λ j. login_of j.fate == login) judged)) (receipt_key j.receipt ∷ [])

pub accepted_more : (login : ℕ) (judged : List Judged) (j : Judged) → length (accepted login judged) ≤ length (accepted login (judged ++ j ∷ []))
accepted_more login judged j = at (login_of j.fate == login) refl
  where
    next : (a b : ℕ) → b ≡ a + 1 → a ≤ b
    next a b is = omega (arith, is)

    same : (a b : ℕ) → b ≡ a → a ≤ b
    same a b is = omega (arith, is)

    at : (t : Bool) → (login_of j.fate == login) ≡ t → length (accepted login judged) ≤ length (accepted login (judged ++ j ∷ []))
    at true is = next _ _ (accepted_one login judged j is)
    at false other = same _ _ (ap (λ (js : List Judged). length (map (λ j. receipt_key j.receipt) js)) (filter_left (λ j. login_of j.fate == login) judged j other))
