-- Values that are put one after another.
use Rattle.std.proofs.Common.{◌≡◌, ◌↔◌, ℕ, ◌+◌, ◌*◌, ◌/◌, ◌%◌, ◌<◌, ◌≤◌, ◌&&◌, Bool, true, false, List, [], ◌∷◌, ◌++◌, length, get_or, take, drop, IsTrue, refl, sym, ◌∙◌, ap, subst, arith, add-one, add-zero, append-nil, cond, ◌-◌}
use Rattle.std.proofs.lemmas.Bool.Decides.{nat_tests}
use Rattle.std.proofs.lemmas.List.{take_more, length-take-le}
use Rattle.std.proofs.Math.Seq.{drop-cons}
use Rattle.tce_window.specs.declared.answers.TceRow.{TceRow}
use Rattle.tce_window.specs.declared.answers.TceAnswer.{TceAnswer}
use Rattle.tce_window.specs.declared.answers.TceAnswer.TheVariants.{Done, Parameter, Busy}
use Rattle.tce_window.specs.Grant.{values_of, has_right}
use Rattle.tce_window.specs.Puts.{takes, takes_each, put_rows, put_answer, put_into, put_by}
use Rattle.tce_window.specs.Answers.{IfBusy}
use Rattle.tce_window.specs.PlainPort.{known_of}
use Rattle.tce_window.specs.PortState.{IsHeldEntry, Puts, MeetsPins}
use Rattle.tce_window.specs.Window.{WindowValue, holds}
use Rattle.std.proofs.lemmas.Bool.Decides.{nat_tests}
use Rattle.tce_window.specs.Answers.{times_in_use}
use Rattle.std.proofs.lemmas.Bool.{eq-eqb, ne_eqb}
use Rattle.tce_window.proofs.Values.{by_number, values_of-own, values_of-other}

-- the list from i on
pub rest_from : (list : List ℕ) (i : ℕ) → i < length list → drop i list ≡ get_or list i 0 ∷ drop (i + 1) list
rest_from list i h = rw add-one (drop-cons list i 0 h)

-- a good value is put into an entry of the window, and grants a page of the region
pub good_value : (n f tce : ℕ) → takes n (f * 4096) tce ≡ true → (f < n) × (IsTrue (has_right tce) → tce / 4096 < n)
good_value n f tce e = grind (arith, nat_tests)

and_both : (a b : Bool) → (a && b) ≡ true → (a ≡ true) × (b ≡ true)
and_both true true e = (refl, refl)
and_both true false e = (refl, e)
and_both false b e = absurd (cc)

pub good_first : (n f tce : ℕ) (list : List ℕ) → takes_each n (f * 4096) (tce ∷ list) ≡ true → takes n (f * 4096) tce ≡ true
good_first n f tce list e = (and_both (takes n (f * 4096) tce) (takes_each n (f * 4096 + 4096) list) e).0

pub good_rest : (n f tce : ℕ) (list : List ℕ) → takes_each n (f * 4096) (tce ∷ list) ≡ true → takes_each n ((f + 1) * 4096) list ≡ true
good_rest n f tce list e =
    let next : f * 4096 + 4096 ≡ (f + 1) * 4096 = omega arith in
    subst (λ at. takes_each n at list ≡ true) next ((and_both (takes n (f * 4096) tce) (takes_each n (f * 4096 + 4096) list) e).1)

-- one value more
pub put_rows-push : (rows : List TceRow) (entry : ℕ) (list : List ℕ) (tce : ℕ) → put_rows rows entry (list ++ tce ∷ [])
    ≡ put_rows rows entry list ++ record { entry = entry + length list; version = length (values_of (put_rows rows entry list) (entry + length list)); value = tce } ∷ []
put_rows-push rows entry [] tce = rw (add-zero entry) refl
put_rows-push rows entry (first ∷ list) tce =
    let row : TceRow = record { entry = entry; version = length (values_of rows entry); value = first } in
    let further : entry + 1 + length list ≡ entry + length (first ∷ list) = omega arith in
    put_rows-push (rows ++ row ∷ []) (entry + 1) list tce
    ∙ ap (λ e. put_rows (rows ++ row ∷ []) (entry + 1) list ++ record { entry = e; version = length (values_of (put_rows (rows ++ row ∷ []) (entry + 1) list) e); value = tce } ∷ []) further

pub answer_held : (is_held : ℕ → Bool) (entry done tce : ℕ) (list : List ℕ) → is_held entry ≡ true → put_answer is_held entry done (tce ∷ list) ≡ Busy entry 1 done
answer_held is_held entry done tce list e = rw e refl

pub answer_free : (is_held : ℕ → Bool) (entry done tce : ℕ) (list : List ℕ) → is_held entry ≡ false → put_answer is_held entry done (tce ∷ list) ≡ put_answer is_held (entry + 1) (done + 1) list
answer_free is_held entry done tce list e = rw e refl

-- one step of putting a list, of which the first `at` values are put
pub good_next : (n f at : ℕ) (list : List ℕ) → at < length list → takes_each n ((f + at) * 4096) (drop at list) ≡ true
    → takes_each n ((f + (at + 1)) * 4096) (drop (at + 1) list) ≡ true
good_next n f at list less e =
    let here : takes_each n ((f + at) * 4096) (get_or list at 0 ∷ drop (at + 1) list) ≡ true = subst (λ l. takes_each n ((f + at) * 4096) l ≡ true) (rest_from list at less) e in
    let next : f + at + 1 ≡ f + (at + 1) = omega arith in
    subst (λ k. takes_each n (k * 4096) (drop (at + 1) list) ≡ true) next (good_rest n (f + at) (get_or list at 0) (drop (at + 1) list) here)

pub good_here : (n f at : ℕ) (list : List ℕ) → at < length list → takes_each n ((f + at) * 4096) (drop at list) ≡ true
    → (f + at < n) × (IsTrue (has_right (get_or list at 0)) → get_or list at 0 / 4096 < n)
good_here n f at list less e =
    good_value n (f + at) (get_or list at 0) (good_first n (f + at) (get_or list at 0) (drop (at + 1) list)
    (subst (λ l. takes_each n ((f + at) * 4096) l ≡ true) (rest_from list at less) e))

pub held_here : (is_held : ℕ → Bool) (f at : ℕ) (list : List ℕ) → at < length list → is_held (f + at) ≡ true
    → put_answer is_held (f + at) at (drop at list) ≡ Busy (f + at) 1 at
held_here is_held f at list less e =
    ap (put_answer is_held (f + at) at) (rest_from list at less) ∙ answer_held is_held (f + at) at (get_or list at 0) (drop (at + 1) list) e

pub free_here : (is_held : ℕ → Bool) (f at : ℕ) (list : List ℕ) → at < length list → is_held (f + at) ≡ false
    → put_answer is_held (f + (at + 1)) (at + 1) (drop (at + 1) list) ≡ put_answer is_held (f + at) at (drop at list)
free_here is_held f at list less e =
    let next : f + (at + 1) ≡ f + at + 1 = omega arith in
    ap (λ k. put_answer is_held k (at + 1) (drop (at + 1) list)) next
    ∙ sym (answer_free is_held (f + at) at (get_or list at 0) (drop (at + 1) list) e)
    ∙ ap (put_answer is_held (f + at) at) (sym (rest_from list at less))

pub rows_next : (old rows : List TceRow) (f at : ℕ) (list : List ℕ) → at < length list → rows ≡ put_rows old f (take at list)
    → rows ++ record { entry = f + at; version = length (values_of rows (f + at)); value = get_or list at 0 } ∷ [] ≡ put_rows old f (take (at + 1) list)
rows_next old rows f at list less e =
    let size : length (take at list) ≡ at = length-take-le at list (omega (arith, less)) in
    let tce = get_or list at 0 in
    ap (λ rs. rs ++ record { entry = f + at; version = length (values_of rs (f + at)); value = tce } ∷ []) e
    ∙ ap (λ k. put_rows old f (take at list) ++ record { entry = f + k; version = length (values_of (put_rows old f (take at list)) (f + k)); value = tce } ∷ []) (sym size)
    ∙ sym (put_rows-push old f (take at list) tce)
    ∙ ap (put_rows old f) (sym (take_more list at 0 less))

-- the address from which a list with a value may be put is that of an entry
first_good : (n ioba tce : ℕ) → takes n ioba tce ≡ true → (ioba / 4096 < n) × (ioba / 4096 * 4096 ≡ ioba)
first_good n ioba tce e =
    let multiple : ioba % 4096 ≡ 0 = grind (arith, nat_tests) in
    (grind (arith, nat_tests), omega (arith, multiple))

pub first_entry : (n ioba : ℕ) (list : List ℕ) → 0 < length list → takes_each n ioba list ≡ true → ioba / 4096 < n
first_entry n ioba [] some e = absurd (omega (arith, some))
first_entry n ioba (tce ∷ list) some e = (first_good n ioba tce ((and_both (takes n ioba tce) (takes_each n (ioba + 4096) list) e).0)).0

pub entry_address : (n ioba : ℕ) (list : List ℕ) → 0 < length list → takes_each n ioba list ≡ true → takes_each n (ioba / 4096 * 4096) list ≡ true
entry_address n ioba [] some e = absurd (omega (arith, some))
entry_address n ioba (tce ∷ list) some e =
    subst (λ at. takes_each n at (tce ∷ list) ≡ true) (sym ((first_good n ioba tce ((and_both (takes n ioba tce) (takes_each n (ioba + 4096) list) e).0)).1)) e

-- values put into later entries are none of an earlier one's
put_into-before : (f : ℕ) (list : List ℕ) (e : ℕ) → e < f → put_into f list e ≡ []
put_into-before f [] e h = refl
put_into-before f (tce ∷ list) e h =
    rw (ne_eqb f e (λ same. absurd (omega (arith, h, same)))) (put_into-before (f + 1) list e (omega (arith, h)))

-- each entry takes its value of the list that is put
pub values_put : (rows : List TceRow) (f : ℕ) (list : List ℕ) (e : ℕ) → values_of (put_rows rows f list) e ≡ values_of rows e ++ put_into f list e
values_put rows f [] e = sym (append-nil (values_of rows e))
values_put rows f (tce ∷ list) e =
    let row : TceRow = record { entry = f; version = length (values_of rows f); value = tce } in
    values_put (rows ++ row ∷ []) (f + 1) list e
    ∙ by_number f e (values_of (rows ++ row ∷ []) e ++ put_into (f + 1) list e ≡ values_of rows e ++ put_into f (tce ∷ list) e)
    (λ same. subst (λ k. values_of (rows ++ row ∷ []) k ++ put_into (f + 1) list k ≡ values_of rows k ++ put_into f (tce ∷ list) k) same
    (rw (eq-eqb f f refl)
    (ap (λ xs. xs ++ put_into (f + 1) list f) (values_of-own rows row)
    ∙ ap (λ xs. values_of rows f ++ tce ∷ [] ++ xs) (put_into-before (f + 1) list f (omega arith))
    ∙ append-nil (values_of rows f ++ tce ∷ []))))
    (λ other. rw (ne_eqb f e other) (ap (λ xs. xs ++ put_into (f + 1) list e) (values_of-other rows row e other)))

take_one : (x : ℕ) (xs : List ℕ) (n m : ℕ) → n ≡ m + 1 → take n (x ∷ xs) ≡ x ∷ take m xs
take_one x xs n m e = rw e (rw add-one refl)

differ : (a b : Bool) → a ≡ false → b ≡ true → a ≡ b → ⊥
differ a b e f g = cc

-- P where all was put, Q of the entry, its pins and the number put; none was refused
abbrev pub MatchPut : TceAnswer → Type 0 → (ℕ → ℕ → ℕ → Type 0) → Type 0
MatchPut Done P Q = P
MatchPut Parameter P Q = ⊥
MatchPut (Busy entry pins done) P Q = Q entry pins done

-- what is said of an answer, made weaker
pub put_weaker : (answer : TceAnswer) (P : Type 0) (Q Q' : ℕ → ℕ → ℕ → Type 0) → ((e p d : ℕ) → Q e p d → Q' e p d) → MatchPut answer P Q → MatchPut answer P Q'
put_weaker Done P Q Q' f m = m
put_weaker Parameter P Q Q' f m = m
put_weaker (Busy entry pins done) P Q Q' f m = f entry pins done m

-- of a list that is put from entry f on, d values being put before, this entry is held
abbrev pub StopsAt : (is_held : ℕ → Bool) (f d : ℕ) (list : List ℕ) → ℕ → ℕ → ℕ → Type 0
StopsAt is_held f d list entry pins done =
    (entry + d ≡ f + done) × (d ≤ done) × (done < d + length list) × (pins ≡ 1) × (is_held entry ≡ true)

-- the first held entry is the one that is named
busy_step : (is_held : ℕ → Bool) (f d tce : ℕ) (list : List ℕ) (here : Bool) → is_held f ≡ here
    → MatchPut (put_answer is_held (f + 1) (d + 1) list) (Unit {0}) (StopsAt is_held (f + 1) (d + 1) list)
    → MatchPut (cond here (Busy f 1 d) (put_answer is_held (f + 1) (d + 1) list)) (Unit {0}) (StopsAt is_held f d (tce ∷ list))
busy_step is_held f d tce list true is later = (refl, omega arith, omega arith, refl, is)
busy_step is_held f d tce list false is later =
    put_weaker (put_answer is_held (f + 1) (d + 1) list) (Unit {0}) _ _
    (λ e p n m. (omega (arith, m.0), omega (arith, m.1), omega (arith, m.2), m.3, m.4)) later

pub busy_at : (is_held : ℕ → Bool) (f d : ℕ) (list : List ℕ) → MatchPut (put_answer is_held f d list) (Unit {0}) (StopsAt is_held f d list)
busy_at is_held f d [] = tt
busy_at is_held f d (tce ∷ list) = busy_step is_held f d tce list (is_held f) refl (busy_at is_held (f + 1) (d + 1) list)

-- the part of a list that was put, counted from d
abbrev put_since : ℕ → TceAnswer → List ℕ → List ℕ
put_since d Done list = list
put_since d Parameter list = []
put_since d (Busy entry pins done) list = take (done - d) list

since_start : (answer : TceAnswer) (list : List ℕ) → put_since 0 answer list ≡ put_by answer list
since_start Done list = refl
since_start Parameter list = refl
since_start (Busy entry pins done) list =
    let all : done - 0 ≡ done = omega arith in
    ap (λ n. take n list) all

since_more : (answer : TceAnswer) (f d tce e : ℕ) (list : List ℕ) → MatchPut answer (Unit {0}) (λ entry pins done. d + 1 ≤ done)
    → (f ≡ e → ⊥) → put_into (f + 1) (put_since (d + 1) answer list) e ≡ [] → put_into f (put_since d answer (tce ∷ list)) e ≡ []
since_more Done f d tce e list m other h = rw (ne_eqb f e other) h
since_more Parameter f d tce e list m other h = absurd m
since_more (Busy entry pins done) f d tce e list m other h =
    let split : take (done - d) (tce ∷ list) ≡ tce ∷ take (done - (d + 1)) list = take_one tce list (done - d) (done - (d + 1)) (omega (arith, m)) in
    ap (λ l. put_into f l e) split ∙ rw (ne_eqb f e other) h

keep_step : (is_held : ℕ → Bool) (f d tce e : ℕ) (list : List ℕ) (here : Bool) → is_held f ≡ here → is_held e ≡ true
    → put_into (f + 1) (put_since (d + 1) (put_answer is_held (f + 1) (d + 1) list) list) e ≡ []
    → put_into f (put_since d (cond here (Busy f 1 d) (put_answer is_held (f + 1) (d + 1) list)) (tce ∷ list)) e ≡ []
keep_step is_held f d tce e list true is held later =
    let none : d - d ≡ 0 = omega arith in
    ap (λ n. put_into f (take n (tce ∷ list)) e) none
keep_step is_held f d tce e list false is held later =
    since_more (put_answer is_held (f + 1) (d + 1) list) f d tce e list
    (put_weaker (put_answer is_held (f + 1) (d + 1) list) (Unit {0}) _ _ (λ e p n m. m.1) (busy_at is_held (f + 1) (d + 1) list))
    (λ same. absurd (differ (is_held f) (is_held e) is held (ap is_held same))) later

keep_since : (is_held : ℕ → Bool) (f d e : ℕ) (list : List ℕ) → is_held e ≡ true → put_into f (put_since d (put_answer is_held f d list) list) e ≡ []
keep_since is_held f d e [] held = refl
keep_since is_held f d e (tce ∷ list) held =
    keep_step is_held f d tce e list (is_held f) refl held (keep_since is_held (f + 1) (d + 1) e list held)

-- an entry that is held takes no value
pub keeps_held : (is_held : ℕ → Bool) (f e : ℕ) (list : List ℕ) → is_held e ≡ true → put_into f (put_by (put_answer is_held f 0 list) list) e ≡ []
keeps_held is_held f e list held =
    ap (λ l. put_into f l e) (sym (since_start (put_answer is_held f 0 list) list)) ∙ keep_since is_held f 0 e list held

-- the same of an answer that is tied to these
pub values_told : (new old : List TceRow) (f : ℕ) (list : List ℕ) (e : ℕ) → new ≡ put_rows old f list → values_of new e ≡ values_of old e ++ put_into f list e
values_told new old f list e same = ap (λ rows. values_of rows e) same ∙ values_put old f list e

held_cases : (good : Bool) (is_held : ℕ → Bool) (f e : ℕ) (list : List ℕ) (answer : TceAnswer) → (good ≡ false → answer ≡ Parameter)
    → (good ≡ true → answer ≡ put_answer is_held f 0 list) → is_held e ≡ true → put_into f (put_by answer list) e ≡ []
held_cases false is_held f e list answer refused put held = ap (λ a. put_into f (put_by a list) e) (refused refl)
held_cases true is_held f e list answer refused put held = ap (λ a. put_into f (put_by a list) e) (put refl) ∙ keeps_held is_held f e list held

pub held_told : (good : Bool) (is_held : ℕ → Bool) (new old : List TceRow) (f e : ℕ) (list : List ℕ) (answer : TceAnswer) → new ≡ put_rows old f (put_by answer list)
    → (good ≡ false → answer ≡ Parameter) → (good ≡ true → answer ≡ put_answer is_held f 0 list) → is_held e ≡ true → values_of new e ≡ values_of old e
held_told good is_held new old f e list answer same refused put held =
    values_told new old f (put_by answer list) e same
    ∙ ap (λ xs. values_of old e ++ xs) (held_cases good is_held f e list answer refused put held)
    ∙ append-nil (values_of old e)

held_entry : (window : WindowValue) (e : ℕ) → holds window e ≡ true → IsHeldEntry (known_of window) e
held_entry window e held =
    let low : window.held_from ≤ e = grind (arith, nat_tests) in
    let high : e < window.held_from + window.held_count = grind (arith, nat_tests) in
    (low, high)

busy_cases : (window : WindowValue) (ioba : ℕ) (list : List ℕ) (answer : TceAnswer) → MatchPut answer (Unit {0}) (StopsAt (holds window) (ioba / 4096) 0 list)
    → IfBusy answer (MeetsPins false (known_of window) ioba list)
busy_cases window ioba list Done m = tt
busy_cases window ioba list Parameter m = absurd m
busy_cases window ioba list (Busy entry pins done) m = record {
  busy = record { place = omega (arith, m.0); below = omega (arith, m.2); pinned = omega (arith, m.3) };
  held = λ _. held_entry window entry m.4;
}

if_busy_refused : (answer : TceAnswer) (P : ℕ → ℕ → ℕ → Type 0) → answer ≡ Parameter → IfBusy answer P
if_busy_refused answer P refused = subst (λ a. IfBusy a P) (sym refused) tt

-- an entry that is met with pins is held
pub busy_told : (good : Bool) (window : WindowValue) (ioba : ℕ) (list : List ℕ) (answer : TceAnswer) → (good ≡ false → answer ≡ Parameter)
    → (good ≡ true → answer ≡ put_answer (holds window) (ioba / 4096) 0 list) → IfBusy answer (MeetsPins false (known_of window) ioba list)
busy_told false window ioba list answer refused put = if_busy_refused answer _ (refused refl)
busy_told true window ioba list answer refused put =
    busy_cases window ioba list answer
    (subst (λ a. MatchPut a (Unit {0}) (StopsAt (holds window) (ioba / 4096) 0 list)) (sym (put refl)) (busy_at (holds window) (ioba / 4096) 0 list))

not_parameter : (is_held : ℕ → Bool) (f d : ℕ) (list : List ℕ) → ¬ (put_answer is_held f d list ≡ Parameter)
not_parameter is_held f d list e = subst (λ a. MatchPut a (Unit {0}) (StopsAt is_held f d list)) e (busy_at is_held f d list)

-- what is refused is exactly what is not good
pub parameter_told : (good : Bool) (is_held : ℕ → Bool) (f : ℕ) (list : List ℕ) (answer : TceAnswer) → (good ≡ false → answer ≡ Parameter)
    → (good ≡ true → answer ≡ put_answer is_held f 0 list) → (answer ≡ Parameter) ↔ (good ≡ false)
parameter_told false is_held f list answer refused put = (λ e. refl, λ e. refused refl)
parameter_told true is_held f list answer refused put = (λ e. absurd (not_parameter is_held f 0 list (sym (put refl) ∙ e)), λ e. refused e)

-- what was put, and what a held entry keeps
pub puts_told : (good : Bool) (old new : WindowValue) (ioba : ℕ) (list : List ℕ) (answer : TceAnswer) → new.rows ≡ put_rows old.rows (ioba / 4096) (put_by answer list)
    → (good ≡ false → answer ≡ Parameter) → (good ≡ true → answer ≡ put_answer (holds old) (ioba / 4096) 0 list)
    → Puts (known_of old) ioba (put_by answer list) (known_of new)
puts_told good old new ioba list answer same refused put = record {
  values = λ e. values_told new.rows old.rows (ioba / 4096) (put_by answer list) e same;
  held = λ e h.
      let low = h.0 in
      let high = h.1 in
      let held : holds old e ≡ true = grind (arith, nat_tests) in
      held_told good (holds old) new.rows old.rows (ioba / 4096) e list answer same refused put held;
}

pub never_falls : (answer : TceAnswer) (before after : ℕ) → after ≡ times_in_use answer before → before ≤ after
never_falls Done before after e = omega (arith, e)
never_falls Parameter before after e = omega (arith, e)
never_falls (Busy entry pins done) before after e = omega (arith, e)
