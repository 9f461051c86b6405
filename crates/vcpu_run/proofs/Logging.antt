-- The rows of a script's lines, and what is so of a script as it goes on.
use Rattle.std.proofs.Common.{◌≡◌, ◌∙◌, ℕ, zero, suc, true, false, Bool, cond, drop, ◌+◌, ◌<◌, ◌≤◌, All, List, [], ◌∷◌, ◌++◌, Some, length, map, option_map, slice_get, refl, sym, ap, subst, arith, length-append, append_assoc}
use Rattle.std.proofs.lemmas.List.{drop_all, length-map, map-append}
use Rattle.std.proofs.lemmas.List.Elements.{All-nil, All-cons, All-append, All-head, All-tail}
use Rattle.std.proofs.lemmas.Option.{slice_get_within, slice_get-map}
use Rattle.vio_num.specs.Words.{Begins}
use Rattle.boot_text.specs.declared.plan.Line.{Line}
use Rattle.boot_text.specs.declared.verb.Verb.{Verb}
use Rattle.boot_text.specs.declared.verb.Verb.TheVariants as verbs
use Rattle.vio_trace.specs.declared.rows.LogRow.{LogRow}
use Rattle.vcpu_run.specs.declared.pair.Pair.{Pair}
use Rattle.vcpu_run.specs.declared.script.Progress.{Progress}
use Rattle.vcpu_run.specs.declared.script.Script.{Script}
use Rattle.vcpu_run.specs.Lines.{lines_to_fail, numbers_to_fail, place_behind}
use Rattle.vcpu_run.specs.Pairs.{AreDriven}
use Rattle.vcpu_run.specs.Scripts.{AreLogged, IsScript}
use Rattle.vcpu_run.specs.Works.{fails}
use Rattle.vcpu_run.proofs.Driving.{some_is, still_seats}

-- a front with the element behind it is a front
one_more : (front rest : List ℕ) (x : ℕ) → slice_get (front ++ rest) (length front) ≡ Some x → Begins (front ++ x ∷ []) (front ++ rest)
one_more [] [] x h = absurd (cc)
one_more [] (y ∷ ys) x h = (ys, ap (λ z. z ∷ ys) (some_is y x h))
one_more (z ∷ zs) rest x h = let more = one_more zs rest x h in (more.0, ap (λ t. z ∷ t) more.1)

begins_more : (front whole : List ℕ) (x : ℕ) → Begins front whole → slice_get whole (length front) ≡ Some x → Begins (front ++ x ∷ []) whole
begins_more front whole x begins found =
    subst (Begins (front ++ x ∷ [])) (sym begins.1)
    (one_more front begins.0 x (ap (λ w. slice_get w (length front)) (sym begins.1) ∙ found))

-- the rows before the first line
pub logged_none : (partition : ℕ) (lines : List Line) → AreLogged partition 0 lines []
logged_none partition lines = record {
  own = All-nil (λ (row : LogRow). row.partition ≡ partition);
  numbers = (map (λ (line : Line). line.number) lines, refl);
  reached = λ some. refl;
  whole = refl;
}

-- the lines that are left, from the one at this place on
left_one : (lines : List Line) (at : ℕ) (line : Line) → slice_get lines at ≡ Some line
    → numbers_to_fail (drop at lines) ≡ line.number ∷ numbers_to_fail (drop (place_behind lines at line) lines)
left_one [] at line found = cc
left_one (first ∷ lines) zero line found =
    subst (λ (l : Line). numbers_to_fail (first ∷ lines) ≡ l.number ∷ numbers_to_fail (drop (place_behind (first ∷ lines) 0 l) (first ∷ lines))) (some_is first line found)
    (ap (λ rest. first.number ∷ rest) (left (fails first.verb)))
  where
    left : (b : Bool) → map (λ line. line.number) (cond b [] (lines_to_fail lines)) ≡ numbers_to_fail (drop (cond b (length (first ∷ lines)) 1) (first ∷ lines))
    left true = ap numbers_to_fail (sym (drop_all (length lines) lines (omega arith)))
    left false = refl
left_one (first ∷ lines) (suc at) line found = left_one lines at line found ∙ ap (λ rest. line.number ∷ numbers_to_fail rest) (behind (fails line.verb))
  where
    behind : (b : Bool) → drop (cond b (length lines) (at + 1)) lines ≡ drop (cond b (length (first ∷ lines)) (suc at + 1)) (first ∷ lines)
    behind true = refl
    behind false = let next : suc at + 1 ≡ suc (at + 1) = omega arith in sym (ap (λ n. drop n (first ∷ lines)) next)

whole_one : (lines : List Line) (at n : ℕ) (line : Line) (logs : List LogRow) (row : LogRow) → slice_get lines at ≡ Some line → row.line ≡ line.number → n ≡ place_behind lines at line
    → numbers_to_fail lines ≡ map (λ row. row.line) logs ++ numbers_to_fail (drop at lines)
    → numbers_to_fail lines ≡ map (λ row. row.line) (logs ++ row ∷ []) ++ numbers_to_fail (drop n lines)
whole_one lines at n line logs row found number behind whole =
    let numbers : List ℕ = map (λ (row : LogRow). row.line) logs in
    let rest : List ℕ = numbers_to_fail (drop n lines) in
    let left : numbers_to_fail (drop at lines) ≡ row.line ∷ rest =
    left_one lines at line found ∙ (ap (λ x. x ∷ numbers_to_fail (drop (place_behind lines at line) lines)) (sym number) ∙ ap (λ k. row.line ∷ numbers_to_fail (drop k lines)) (sym behind)) in
    whole ∙ (ap (λ more. numbers ++ more) left ∙ (sym (append_assoc numbers (row.line ∷ []) rest) ∙ ap (λ front. front ++ rest) (sym (map-append (λ (row : LogRow). row.line) logs (row ∷ [])))))

next_reached : (lines : List Line) (at n : ℕ) (line : Line) → n ≡ place_behind lines at line → n < length lines → n ≡ at + 1
next_reached lines at n line behind less = behind ∙ next (fails line.verb) (subst (λ k. k < length lines) behind less)
  where
    next : (b : Bool) → cond b (length lines) (at + 1) < length lines → cond b (length lines) (at + 1) ≡ at + 1
    next true less = absurd (omega (arith, less))
    next false less = refl

pub behind_within : (lines : List Line) (at : ℕ) (line : Line) → at < length lines → place_behind lines at line ≤ length lines
behind_within lines at line less = within (fails line.verb)
  where
    within : (b : Bool) → cond b (length lines) (at + 1) ≤ length lines
    within true = omega arith
    within false = omega (arith, less)

-- one row more, of the line at which the script stands
pub logged_one : (partition at n : ℕ) (lines : List Line) (logs : List LogRow) (line : Line) (row : LogRow) → slice_get lines at ≡ Some line
    → row.partition ≡ partition → row.line ≡ line.number → n ≡ place_behind lines at line → AreLogged partition at lines logs
    → AreLogged partition n lines (logs ++ row ∷ [])
logged_one partition at n lines logs line row found own number behind logged =
    let within : at < length lines = slice_get_within lines at line found in
    let many : length logs ≡ at = logged.reached within in
    let numbers : List ℕ = map (λ (row : LogRow). row.line) logs in
    let long : length numbers ≡ at = length-map logs (λ (row : LogRow). row.line) ∙ many in
    let there : slice_get (map (λ (line : Line). line.number) lines) (length numbers) ≡ Some row.line =
    ap (λ i. slice_get (map (λ (line : Line). line.number) lines) i) long
    ∙ (slice_get-map (λ (line : Line). line.number) lines at ∙ (ap (option_map (λ (line : Line). line.number)) found ∙ ap Some (sym number))) in
    record {
      own = All-append (λ (row : LogRow). row.partition ≡ partition) logs (row ∷ []) logged.own
          (All-cons (λ (row : LogRow). row.partition ≡ partition) row [] own (All-nil (λ (row : LogRow). row.partition ≡ partition)));
      numbers = subst (λ front. Begins front (map (λ (line : Line). line.number) lines)) (sym (map-append (λ (row : LogRow). row.line) logs (row ∷ [])))
          (begins_more numbers (map (λ (line : Line). line.number) lines) row.line logged.numbers there);
      reached = λ less. omega (arith, next_reached lines at n line behind less, many, length-append logs (row ∷ []));
      whole = whole_one lines at n line logs row found number behind logged.whole;
    }

-- a script between turns of pairs
pub script_stays : (old new : List Pair) (script : Script) → AreDriven old new → IsScript old script → IsScript new script
script_stays old new script driven is = record {
  seats = still_seats script.partition script.seats.items old new driven is.seats;
  lines = is.lines;
  in_order = is.in_order;
  at = is.at;
  logs = is.logs;
}

pub script_steps : (old new : List Pair) (script : Script) (progress : Progress) → AreDriven old new → IsScript old script
    → IsScript new (record script { progress = progress })
script_steps old new script progress driven is = record {
  seats = still_seats script.partition script.seats.items old new driven is.seats;
  lines = is.lines;
  in_order = is.in_order;
  at = is.at;
  logs = is.logs;
}

-- the current line
pub all_at : {X : Type 0} (P : X → Type 0) (xs : List X) (i : ℕ) (x : X) → slice_get xs i ≡ Some x → All P xs → P x
all_at P [] i x found all = absurd (cc)
all_at P (y ∷ ys) zero x found all = subst P (some_is y x found) (All-head P y ys all)
all_at P (y ∷ ys) (suc i) x found all = all_at P ys i x found (All-tail P y ys all)

pub one_unit : (verb : Verb) → (verb ≡ verbs.Fail → ⊥) → fails verb ≡ false
one_unit verbs.Login h = refl
one_unit verbs.Reset h = refl
one_unit verbs.Logout h = refl
one_unit verbs.Tur h = refl
one_unit (verbs.Read lba blocks at pieces table) h = refl
one_unit (verbs.Write lba blocks at pieces table) h = refl
one_unit (verbs.Command cdb) h = refl
one_unit (verbs.CommandIn cdb at len pieces table) h = refl
one_unit (verbs.CommandOut cdb at len pieces table) h = refl
one_unit (verbs.Task function tag) h = refl
one_unit (verbs.Take count) h = refl
one_unit (verbs.Data tag) h = refl
one_unit verbs.Open h = refl
one_unit verbs.Close h = refl
one_unit (verbs.Post at len count) h = refl
one_unit (verbs.Send to len seed at) h = refl
one_unit (verbs.ChangeMac own) h = refl
one_unit (verbs.Multicast control group) h = refl
one_unit (verbs.Fill at len seed) h = refl
one_unit (verbs.Poke at bytes) h = refl
one_unit (verbs.Peek at len) h = refl
one_unit (verbs.Tce entry page readable writable) h = refl
one_unit (verbs.Hcall number arguments) h = refl
one_unit verbs.Fail h = absurd (h refl)
