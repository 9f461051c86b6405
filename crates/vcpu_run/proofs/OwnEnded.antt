-- A line that waited is ended: it is none of an own client's, so its pair stands as before.
use Rattle.std.proofs.Common.{◌≡◌, ◌∙◌, ◌⊎◌, inl, inr, ℕ, ◌≤◌, ◌==◌, ◌++◌, Bool, true, false, true≢false, List, [], ◌∷◌, Option, Some, None, IfSome, IsSomeAnd, length, refl, slice_get, slice_set, sym, ap, subst, arith, eqb-true}
use Rattle.boot_text.specs.declared.plan.Line.{Line}
use Rattle.boot_text.specs.declared.verb.Verb.{Verb}
use Rattle.boot_text.specs.declared.verb.Verb.TheVariants as verbs
use Rattle.crq_session.specs.EndState.{EndState}
use Rattle.crq_session.specs.PlainState.{end_of}
use Rattle.vio_trace.specs.declared.rows.LogRow.{LogRow}
use Rattle.block_server.specs.Talk.{Word}
use Rattle.block_server.specs.declared.unit.Unit.{Unit}
use Rattle.vscsi_client.specs.State.{ClientState}
use Rattle.vcpu_run.specs.Credited.{Ended}
use Rattle.vcpu_run.specs.OwnPairs.{ComesOver, IsNewOwnPair, IsOverOwn, IsOwnPair, IsReadyOwnPair, RestsIdle, StandsOver, TalksOwn}
use Rattle.vcpu_run.specs.OwnRuns.{AreOwn, AtOwnSeats, IsOwnSeat, OwnInRound}
use Rattle.vcpu_run.specs.OwnServes.{EndsOwn}
use Rattle.vcpu_run.specs.PlainPairs.{ServerBooks}
use Rattle.vcpu_run.specs.PlainScripts.{NoneAwaits, OfUnit, awaits, told_in}
use Rattle.vcpu_run.specs.Scripts.{OnlyRuns, are_servers}
use Rattle.vcpu_run.specs.Works.{fails}
use Rattle.vcpu_run.specs.declared.driver.Driver.{Driver}
use Rattle.vcpu_run.specs.declared.pair.Pair.{Pair}
use Rattle.vcpu_run.specs.declared.script.Progress.{Progress}
use Rattle.vcpu_run.specs.declared.script.Progress.TheVariants as progress
use Rattle.vcpu_run.specs.declared.script.Script.{Script}
use Rattle.vcpu_run.proofs.Crediting.{here_or}
use Rattle.vcpu_run.proofs.Listed.{each_set, held_then}
use Rattle.vcpu_run.proofs.OwnActLines.{rests_logging}
use Rattle.vcpu_run.proofs.OwnRuns.{seat_same_own}
use Rattle.vcpu_run.proofs.PlainRuns.{behind_set}
use Rattle.vcpu_run.proofs.PlainScripted.{ended_other, stands_next, stands_other}
use Rattle.vcpu_run.proofs.ScriptsTold.{EndsWaiting, of_login, of_reset, of_take}

-- ---- where the client stands, before the next line

rests_fresh : (verb : Verb) (s : ClientState) (own : EndState) → RestsIdle s → own.registered ≡ true → ComesOver verb progress.Fresh s own
rests_fresh verbs.Login s own rests on = rests_logging s rests
rests_fresh verb s own rests on = (rests, on)

over_next : (u : ℕ) (next : Option Line) (s : ClientState) (own : EndState) → RestsIdle s × (own.registered ≡ true) → StandsOver u false next progress.Fresh s own
over_next u None s own rests = inr rests
over_next u (Some line) s own rests = inl (refl, by (line.unit == u))
  where
    by : (b : Bool) → OfUnit b (ComesOver line.verb progress.Fresh s own) (RestsIdle s × (own.registered ≡ true))
    by true = rests_fresh line.verb s own rests.0 rests.1
    by false = rests

over_other : (u : ℕ) (failed : Bool) (line : Line) (o next : Option Line) (p : Progress) (s : ClientState) (own : EndState) → o ≡ Some line → fails line.verb ≡ false → (line.unit == u) ≡ false
    → StandsOver u failed o p s own → StandsOver u failed next progress.Fresh s own
over_other u failed line o next p s own found goes other stands = by (subst (λ (x : Option Line). StandsOver u failed x p s own) found stands)
  where
    by : StandsOver u failed (Some line) p s own → StandsOver u failed next progress.Fresh s own
    by (inr failing) = absurd (true≢false (sym failing.1 ∙ goes))
    by (inl comes) = subst (λ (b : Bool). StandsOver u b next progress.Fresh s own) (sym comes.0)
        (over_next u next s own (subst (λ (b : Bool). OfUnit b (ComesOver line.verb p s own) (RestsIdle s × (own.registered ≡ true))) other comes.1))

talks_next : (granted : ℕ) (told : List Ended) (lines : List Line) (home u k : ℕ) (books : ServerBooks) (words : List Word) (line : Line) (o next : Option Line) (p : Progress) (unit : Unit) (driver : Driver) (pair : Pair)
    → o ≡ Some line → fails line.verb ≡ false → (line.unit == u) ≡ false → TalksOwn granted told lines home u k books words o p unit driver pair
    → TalksOwn granted told lines home u k books words next progress.Fresh unit driver pair
talks_next granted told lines home u k books words line o next p unit driver pair found goes other is = record {
  talks = is.talks;
  owed = is.owed;
  now = is.now;
  spares = is.spares;
  stands = stands_next granted u next is.now pair (stands_other granted u line o p is.now pair found goes other is.stands);
}

own_over_next : (granted : ℕ) (failed : Bool) (told : List Ended) (home u k : ℕ) (books : ServerBooks) (line : Line) (o next : Option Line) (p : Progress) (unit : Unit) (driver : Driver) (pair : Pair)
    → o ≡ Some line → fails line.verb ≡ false → (line.unit == u) ≡ false → IsOverOwn granted failed told home u k books o p unit driver pair
    → IsOverOwn granted failed told home u k books next progress.Fresh unit driver pair
own_over_next granted failed told home u k books line o next p unit driver pair found goes other is = record {
  over = is.over;
  owed = is.owed;
  seen = is.seen;
  rests = is.rests;
  ends = is.ends;
  server_slots = is.server_slots;
  own_slots = is.own_slots;
  stands = over_other u failed line o next p driver.client (end_of [] pair.link false) found goes other is.stands;
}

-- ---- its pair

own_next : (granted : ℕ) (failed : Bool) (told : List Ended) (lines : List Line) (home u k : ℕ) (books : ServerBooks) (words : List Word) (line : Line) (o next : Option Line) (p : Progress) (pair : Pair)
    → o ≡ Some line → fails line.verb ≡ false → (line.unit == u) ≡ false → IsOwnPair granted failed told lines home u k books words o p pair
    → IsOwnPair granted failed told lines home u k books words next progress.Fresh pair
own_next granted failed told lines home u k books words line o next p pair found goes other is = record {
  unit = is.unit;
  there = is.there;
  id = is.id;
  driver = is.driver;
  driver_is = is.driver_is;
  how = by is.how;
  keeps = is.keeps;
  numbers = is.numbers;
}
  where
    by : TalksOwn granted told lines home u k books words o p is.unit is.driver pair ⊎ IsOverOwn granted failed told home u k books o p is.unit is.driver pair
        → TalksOwn granted told lines home u k books words next progress.Fresh is.unit is.driver pair ⊎ IsOverOwn granted failed told home u k books next progress.Fresh is.unit is.driver pair
    by (inl talks) = inl (talks_next granted told lines home u k books words line o next p is.unit is.driver pair found goes other talks)
    by (inr over) = inr (own_over_next granted failed told home u k books line o next p is.unit is.driver pair found goes other over)

new_next : (granted : ℕ) (told : List Ended) (lines : List Line) (home u k : ℕ) (books : ServerBooks) (line : Line) (o next : Option Line) (p : Progress) (pair : Pair)
    → o ≡ Some line → fails line.verb ≡ false → (line.unit == u) ≡ false → IsNewOwnPair granted told lines home u k books o p pair → IsNewOwnPair granted told lines home u k books next progress.Fresh pair
new_next granted told lines home u k books line o next p pair found goes other is = record {
  unit = is.unit;
  there = is.there;
  id = is.id;
  driver = is.driver;
  driver_is = is.driver_is;
  new = is.new;
  owed = is.owed;
  now = is.now;
  spares = is.spares;
  stands = stands_next granted u next is.now pair (stands_other granted u line o p is.now pair found goes other is.stands);
  sent = is.sent;
  keeps = is.keeps;
  numbers = is.numbers;
}

ready_next : (granted : ℕ) (told : List Ended) (lines : List Line) (home u k : ℕ) (books : ServerBooks) (line : Line) (o next : Option Line) (p : Progress) (pair : Pair)
    → o ≡ Some line → fails line.verb ≡ false → (line.unit == u) ≡ false → IsReadyOwnPair granted told lines home u k books o p pair → IsReadyOwnPair granted told lines home u k books next progress.Fresh pair
ready_next granted told lines home u k books line o next p pair found goes other (inl (failed, words, is)) =
    inl (failed, words, own_next granted failed told lines home u k books words line o next p pair found goes other is)
ready_next granted told lines home u k books line o next p pair found goes other (inr is) = inr (new_next granted told lines home u k books line o next p pair found goes other is)

-- ---- a script's line

pub waiting_ends_own : (pairs : List Pair) (script done : Script) (line : Line) (row : LogRow) → slice_get script.lines.now script.at ≡ Some line
    → length script.logs.items ≡ script.at → EndsWaiting script.progress line.verb row.outcome → done.lines ≡ script.lines → done.logs.items ≡ script.logs.items ++ row ∷ []
    → done.progress ≡ progress.Fresh → EndsOwn pairs script done
waiting_ends_own pairs script done line row found many ends lines logs fresh granted home u k books none is =
    subst (λ (text : List Line). IsSomeAnd (slice_get pairs k) (IsReadyOwnPair granted (told_in u done) text home u k books (slice_get done.lines.now done.at) done.progress))
    (ap (λ l. l.now) (sym lines))
    (subst (λ (told : List Ended). IsSomeAnd (slice_get pairs k) (IsReadyOwnPair granted told script.lines.now home u k books (slice_get done.lines.now done.at) done.progress))
    (sym (ended_other u script done line row found many lines logs (other (here_or line.unit u))))
    (subst (λ (p : Progress). IsSomeAnd (slice_get pairs k) (IsReadyOwnPair granted (told_in u script) script.lines.now home u k books (slice_get done.lines.now done.at) p)) (sym fresh)
    (held_then (IsReadyOwnPair granted (told_in u script) script.lines.now home u k books (slice_get script.lines.now script.at) script.progress)
    (IsReadyOwnPair granted (told_in u script) script.lines.now home u k books (slice_get done.lines.now done.at) progress.Fresh) (slice_get pairs k)
    (λ pair. ready_next granted (told_in u script) script.lines.now home u k books line (slice_get script.lines.now script.at) (slice_get done.lines.now done.at) script.progress pair found (goes ends)
    (other (here_or line.unit u))) is)))
  where
    goes : EndsWaiting script.progress line.verb row.outcome → fails line.verb ≡ false
    goes (of_login verb outcome) = ap fails verb
    goes (of_reset verb outcome) = ap fails verb
    goes (of_take count verb outcome) = ap fails verb

    awaited : EndsWaiting script.progress line.verb row.outcome → awaits line.verb ≡ true
    awaited (of_login verb outcome) = ap awaits verb
    awaited (of_reset verb outcome) = ap awaits verb
    awaited (of_take count verb outcome) = ap awaits verb

    other : ((line.unit == u) ≡ true) ⊎ ((line.unit == u) ≡ false) → (line.unit == u) ≡ false
    other (inr differ) = differ
    other (inl same) =
        let quiet : line.unit ≡ u → awaits line.verb ≡ false = subst (λ (o : Option Line). IfSome o (λ l. l.unit ≡ u → awaits l.verb ≡ false)) found none in
        absurd (true≢false (sym (awaited ends) ∙ quiet (eqb-true line.unit u same)))

-- ---- in a run

pub ended_own_at : (granted home n : ℕ) (books : ServerBooks) (pairs : List Pair) (scripts : List Script) (script later : Script) → slice_get scripts n ≡ Some script → OnlyRuns script later
    → EndsOwn pairs script later → ((u k : ℕ) → IsOwnSeat script u k → NoneAwaits u script) → AreOwn granted home books pairs scripts
    → AreOwn granted home books pairs (slice_set scripts n later)
ended_own_at granted home n books pairs scripts script later found rest kept none is i u k now there seat =
    each_set (λ j (s : Script). IsOwnSeat s u k → OwnInRound granted home 0 books pairs (slice_set scripts n later) j u k s) scripts n later
    (λ j s at apart sits. let was = is j u k s at sits in record {
      behind = behind_set home j n scripts script later found rest was.behind;
      others = was.others;
      ready = was.ready;
      served = λ less upto. absurd (omega (arith, less));
    })
    (λ sits. let own = seat_same_own script later u k rest sits in let was = is n u k script found own in record {
      behind = behind_set home n n scripts script later found rest was.behind;
      others = ap (λ seats. are_servers seats.items) rest.seats ∙ was.others;
      ready = kept granted home u k books (none u k own) was.ready;
      served = λ less upto. absurd (omega (arith, less));
    }) i now there seat

-- the script that is next has not been touched
pub awaits_own_next : (scripts now : List Script) (n : ℕ) → ((i : ℕ) → n ≤ i → slice_get now i ≡ slice_get scripts i) → AtOwnSeats scripts (λ i u k script. NoneAwaits u script)
    → AtOwnSeats now (λ i u k script. i ≡ n → NoneAwaits u script)
awaits_own_next scripts now n rest none i u k script found seat is = none i u k script (sym (rest i (omega (arith, is))) ∙ found) seat
