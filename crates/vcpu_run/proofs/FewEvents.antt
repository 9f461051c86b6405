-- A client's events, as its lines go on: no more than its records tell of resets, and one more where its partition fails.
use Rattle.std.proofs.Common.{◌≡◌, ◌∙◌, ℕ, ◌+◌, ◌≤◌, ◌==◌, ◌&&◌, Bool, true, false, cond, filter, map, MatchBool, List, [], ◌∷◌, ◌++◌, Option, Some, None, slice_get, refl, sym, ap, ap₂, subst, arith, zero, suc}
use Rattle.std.proofs.lemmas.Option.{slice_get_past}
use Rattle.vio_num.specs.declared.entry.Entry.{Entry}
use Rattle.crq_ring.specs.declared.rows.PipeRow.{PipeRow}
use Rattle.crq_session.specs.PlainState.{end_of, side_of}
use Rattle.crq_session.specs.declared.link.PlainLink.{PlainLink}
use Rattle.boot_text.specs.declared.plan.Line.{Line}
use Rattle.boot_text.specs.declared.verb.Verb.{Verb}
use Rattle.vcpu_run.specs.declared.pair.Pair.{Pair}
use Rattle.vcpu_run.specs.declared.script.Progress.{Progress}
use Rattle.vcpu_run.specs.Credited.{Ended, ended_by}
use Rattle.vcpu_run.specs.EventsHeard.{event_if, events_among, events_taken, one_event}
use Rattle.vcpu_run.specs.EventsMade.{PairCalm, PairMakes, PairShuts, events_at, times_open}
use Rattle.vcpu_run.specs.EventsPut.{StepMakes, events_of, times_freed}
use Rattle.vcpu_run.specs.FewEvents.{FewAt, PairFew, resets_told, times_failing, times_renewed}
use Rattle.vcpu_run.specs.Freeing.{is_reset}
use Rattle.vcpu_run.specs.Lines.{IsOver}
use Rattle.vcpu_run.specs.SentOrder.{entries_begun, entries_put, is_begun}
use Rattle.vcpu_run.specs.declared.script.Script.{Script}
use Rattle.vcpu_run.specs.Works.{fails}
use Rattle.vcpu_run.proofs.CalmTurns.{freed_most}
use Rattle.vcpu_run.proofs.Driving.{some_is}

-- before the first line
pub no_events : (link : PlainLink) → (side_of link true).queue.sent ≡ [] → (side_of link false).kept ≡ None → events_of (end_of [] link false) ≡ 0
no_events link sent kept = ap₂ (λ (a b : ℕ). a + b) (ap events_taken sent) (ap event_if kept)

-- a queue is open once at most
open_most : (pair : Pair) → times_open pair ≤ 1
open_most pair = at (side_of pair.link false).registered
  where
    at : (b : Bool) → cond b 1 0 ≤ 1
    at true = omega arith
    at false = omega arith

-- one record more
pub resets_more : (own : List Ended) (e : Ended) → resets_told (own ++ e ∷ []) ≡ resets_told own + cond (is_reset e.verb) 1 0
resets_more [] e = omega arith
resets_more (first ∷ others) e = plain (cond (is_reset first.verb) 1 0) (resets_told others) (cond (is_reset e.verb) 1 0) (resets_told (others ++ e ∷ [])) (resets_more others e)
  where
    plain : (a b c all : ℕ) → all ≡ b + c → a + all ≡ (a + b) + c
    plain a b c all is = omega (arith, is)

-- the line that fails is one of the lines
pub failing_one : (lines : List Line) (at : ℕ) (line : Line) → slice_get lines at ≡ Some line → fails line.verb ≡ true → times_failing lines ≡ 1
failing_one [] at line found is = absurd (cc (found))
failing_one (first ∷ lines) zero line found is =
    ap (λ b. cond b 1 (times_failing lines)) (subst (λ (l : Line). fails l.verb ≡ true) (sym (some_is first line found)) is)
failing_one (first ∷ lines) (suc at) line found is = by (fails first.verb) (failing_one lines at line found is)
  where
    by : (b : Bool) → times_failing lines ≡ 1 → cond b 1 (times_failing lines) ≡ 1
    by true rest = refl
    by false rest = rest

-- with no more events than resets, whatever the next line is
pub few_any : (unit : ℕ) (lines : List Line) (resets : ℕ) (p : Progress) (current : Option Line) (pair : Pair) → events_at pair ≤ resets → FewAt unit lines resets p current pair
few_any unit lines resets p None pair few = omega (arith, few)
few_any unit lines resets p (Some line) pair few = at (fails line.verb)
  where
    most : times_open pair ≤ 1
    most = open_most pair

    at : (b : Bool) → MatchBool b (events_at pair + times_open pair ≤ resets + 1) (events_at pair ≤ resets + times_renewed unit p line)
    at true = omega (arith, few, most)
    at false = omega (arith, few)

-- before the current line fails the partition
pub few_now : (unit : ℕ) (lines : List Line) (resets : ℕ) (p : Progress) (current : Option Line) (line : Line) (pair : Pair) → current ≡ Some line → fails line.verb ≡ false
    → FewAt unit lines resets p current pair → events_at pair ≤ resets + times_renewed unit p line
few_now unit lines resets p current line pair found one few =
    subst (λ b. MatchBool b (events_at pair + times_open pair ≤ resets + 1) (events_at pair ≤ resets + times_renewed unit p line)) one
    (subst (λ (o : Option Line). FewAt unit lines resets p o pair) found few)

pub few_then : (unit : ℕ) (lines : List Line) (resets : ℕ) (p : Progress) (current : Option Line) (line : Line) (pair : Pair) → current ≡ Some line → fails line.verb ≡ false
    → events_at pair ≤ resets + times_renewed unit p line → FewAt unit lines resets p current pair
few_then unit lines resets p current line pair found one few =
    subst (λ (o : Option Line). FewAt unit lines resets p o pair) (sym found)
    (subst (λ b. MatchBool b (events_at pair + times_open pair ≤ resets + 1) (events_at pair ≤ resets + times_renewed unit p line)) (sym one) few)

-- a line that is no reset of this unit
pub other_none : (unit : ℕ) (p : Progress) (line : Line) → (line.unit == unit) ≡ false → times_renewed unit p line ≡ 0
other_none unit p line apart = at (is_reset line.verb) (line.unit == unit) apart
  where
    at : (a b : Bool) → b ≡ false → cond (a && b) (times_freed p) 0 ≡ 0
    at true b no_unit = ap (λ c. cond c (times_freed p) 0) no_unit
    at false b no_unit = refl

-- a step of a line of this unit that waits, or that ends
pub own_waits : (unit resets : ℕ) (p p' : Progress) (line : Line) (before after : Pair) → (line.unit == unit) ≡ true → PairMakes line.verb p p' before after
    → events_at before ≤ resets + times_renewed unit p line → events_at after ≤ resets + times_renewed unit p' line
own_waits unit resets p p' line before after here makes few = at (is_reset line.verb) (line.unit == unit) here makes few
  where
    at : (a b : Bool) → b ≡ true → StepMakes a p p' (end_of [] before.link false) (end_of [] after.link false) → events_at before ≤ resets + cond (a && b) (times_freed p) 0
        → events_at after ≤ resets + cond (a && b) (times_freed p') 0
    at true true e makes few = omega (arith, makes, few)
    at false b e makes few = omega (arith, makes, few)
    at true false e makes few = absurd (cc (e))

pub own_ends : (unit resets : ℕ) (p p' : Progress) (line : Line) (before after : Pair) → PairMakes line.verb p p' before after
    → events_at before ≤ resets + times_renewed unit p line → events_at after ≤ resets + cond (is_reset line.verb) 1 0
own_ends unit resets p p' line before after makes few = at (is_reset line.verb) (line.unit == unit) makes few
  where
    most : times_freed p' ≤ 1
    most = freed_most p'

    at : (a b : Bool) → StepMakes a p p' (end_of [] before.link false) (end_of [] after.link false) → events_at before ≤ resets + cond (a && b) (times_freed p) 0
        → events_at after ≤ resets + cond a 1 0
    at true true makes few = omega (arith, makes, few, most)
    at true false makes few = omega (arith, makes, few, most)
    at false b makes few = omega (arith, makes, few)

-- no event was made, and the queue is as before
pub few_calm : (unit : ℕ) (lines : List Line) (resets : ℕ) (p : Progress) (current : Option Line) (before after : Pair) → PairCalm before after
    → (side_of after.link false).registered ≡ (side_of before.link false).registered → FewAt unit lines resets p current before → FewAt unit lines resets p current after
few_calm unit lines resets p None before after calm same few = omega (arith, calm, few)
few_calm unit lines resets p (Some line) before after calm same few = at (fails line.verb) few
  where
    still : times_open after ≡ times_open before
    still = ap (λ b. cond b 1 0) same

    at : (b : Bool) → MatchBool b (events_at before + times_open before ≤ resets + 1) (events_at before ≤ resets + times_renewed unit p line)
        → MatchBool b (events_at after + times_open after ≤ resets + 1) (events_at after ≤ resets + times_renewed unit p line)
    at true h = omega (arith, calm, still, h)
    at false h = omega (arith, calm, h)

-- no line is left
pub few_over : (unit : ℕ) (lines : List Line) (resets : ℕ) (p : Progress) (current : Option Line) (before after : Pair) → current ≡ None → PairCalm before after
    → FewAt unit lines resets p current before → FewAt unit lines resets p current after
few_over unit lines resets p current before after none calm few =
    let was : events_at before ≤ resets + times_failing lines = subst (λ (o : Option Line). FewAt unit lines resets p o before) none few in
    subst (λ (o : Option Line). FewAt unit lines resets p o after) (sym none) (omega (arith, calm, was))

-- the line fails the partition: it is gone on with, or it ended
pub few_shuts : (unit : ℕ) (lines : List Line) (resets : ℕ) (p : Progress) (current : Option Line) (line : Line) (before after : Pair) → current ≡ Some line → fails line.verb ≡ true
    → PairShuts before after → FewAt unit lines resets p current before → events_at after + times_open after ≤ resets + 1
few_shuts unit lines resets p current line before after found failing shuts few =
    let was : events_at before + times_open before ≤ resets + 1 =
    subst (λ b. MatchBool b (events_at before + times_open before ≤ resets + 1) (events_at before ≤ resets + times_renewed unit p line)) failing
    (subst (λ (o : Option Line). FewAt unit lines resets p o before) found few) in
    omega (arith, shuts, was)

pub few_failing : (unit : ℕ) (lines : List Line) (resets : ℕ) (p : Progress) (current : Option Line) (line : Line) (pair : Pair) → current ≡ Some line → fails line.verb ≡ true
    → events_at pair + times_open pair ≤ resets + 1 → FewAt unit lines resets p current pair
few_failing unit lines resets p current line pair found failing few =
    subst (λ (o : Option Line). FewAt unit lines resets p o pair) (sym found)
    (subst (λ b. MatchBool b (events_at pair + times_open pair ≤ resets + 1) (events_at pair ≤ resets + times_renewed unit p line)) (sym failing) few)

pub few_failed : (unit : ℕ) (lines : List Line) (at resets resets' : ℕ) (p : Progress) (current : Option Line) (line : Line) (pair : Pair) → slice_get lines at ≡ Some line
    → fails line.verb ≡ true → current ≡ None → resets ≤ resets' → events_at pair + times_open pair ≤ resets + 1 → FewAt unit lines resets' p current pair
few_failed unit lines at resets resets' p current line pair found failing none more few =
    let one : times_failing lines ≡ 1 = failing_one lines at line found failing in
    subst (λ (o : Option Line). FewAt unit lines resets' p o pair) (sym none) (omega (arith, one, more, few))

-- a line of another unit
pub few_else : (unit : ℕ) (lines : List Line) (resets : ℕ) (p p' : Progress) (current : Option Line) (line : Line) (pair : Pair) → current ≡ Some line → fails line.verb ≡ false
    → (line.unit == unit) ≡ false → FewAt unit lines resets p current pair → FewAt unit lines resets p' current pair
few_else unit lines resets p p' current line pair found one apart few =
    let was : events_at pair ≤ resets + times_renewed unit p line = few_now unit lines resets p current line pair found one few in
    let none : times_renewed unit p line ≡ 0 = other_none unit p line apart in
    let none' : times_renewed unit p' line ≡ 0 = other_none unit p' line apart in
    few_then unit lines resets p' current line pair found one (omega (arith, was, none, none'))

pub else_ends : (unit : ℕ) (lines : List Line) (resets : ℕ) (p : Progress) (current : Option Line) (line : Line) (pair : Pair) → current ≡ Some line → fails line.verb ≡ false
    → (line.unit == unit) ≡ false → FewAt unit lines resets p current pair → events_at pair ≤ resets
else_ends unit lines resets p current line pair found one apart few =
    let was : events_at pair ≤ resets + times_renewed unit p line = few_now unit lines resets p current line pair found one few in
    let none : times_renewed unit p line ≡ 0 = other_none unit p line apart in
    omega (arith, was, none)

-- the records as they grow
pub resets_own : (own own' : List Ended) (e : Ended) → own' ≡ own ++ e ∷ [] → resets_told own' ≡ resets_told own + cond (is_reset e.verb) 1 0
resets_own own own' e is = ap resets_told is ∙ resets_more own e

-- a step that changes nothing
pub makes_same : (verb : Verb) (p : Progress) (pair : Pair) → PairMakes verb p p pair pair
makes_same verb p pair = at (is_reset verb)
  where
    at : (b : Bool) → StepMakes b p p (end_of [] pair.link false) (end_of [] pair.link false)
    at true = omega arith
    at false = omega arith

-- a script that is over: of what was put in sessions, no more are events
begun_fewer : (rows : List PipeRow) → events_among (entries_begun rows) ≤ events_taken rows
begun_fewer [] = omega arith
begun_fewer (row ∷ rows) = at (is_begun row) (begun_fewer rows)
  where
    entry : PipeRow → Entry
    entry r = r.entry

    at : (b : Bool) → events_among (entries_begun rows) ≤ events_taken rows
        → events_among (map entry (cond b (row ∷ filter is_begun rows) (filter is_begun rows))) ≤ one_event row.entry + events_taken rows
    at true rest = omega (arith, rest)
    at false rest = omega (arith, rest)

pub few_put : (script : Script) (unit : ℕ) (pair : Pair) → IsOver script → PairFew script unit pair
    → events_among (entries_put pair) ≤ resets_told (ended_by unit script.lines.now script.logs.items) + times_failing script.lines.now
few_put script unit pair over few =
    let resets = resets_told (ended_by unit script.lines.now script.logs.items) in
    let none : slice_get script.lines.now script.at ≡ None = slice_get_past script.lines.now script.at over in
    let all : events_at pair ≤ resets + times_failing script.lines.now = subst (λ (o : Option Line). FewAt unit script.lines.now resets script.progress o pair) none few in
    let most : events_among (entries_put pair) ≤ events_taken (side_of pair.link true).queue.sent = begun_fewer (side_of pair.link true).queue.sent in
    omega (arith, all, most)
