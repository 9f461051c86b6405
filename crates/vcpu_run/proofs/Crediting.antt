-- A script's records and its clients' credits, as lines end.
use Rattle.std.proofs.Common.{◌≡◌, ◌≢◌, ◌∙◌, ◌⊎◌, inl, inr, ℕ, ◌+◌, ◌<◌, ◌≤◌, nat_lt, ◌==◌, cond, Bool, true, false, List, [], ◌∷◌, ◌++◌, Option, Some, None, Result, Ok, Err, OnOk, IfSome, IsSomeAnd, length, slice_get, refl, sym, ap, subst, arith, eq-eqb, eqb-true}
use Rattle.std.specs.Option.{option_map}
use Rattle.std.proofs.lemmas.Bool.Decides.{nat_tests}
use Rattle.std.proofs.lemmas.Option.{slice_get_past, slice_get_within}
use Rattle.vio_num.specs.declared.hypervisor.Moved.{Moved}
use Rattle.vio_num.specs.declared.memory.NoMemory.{NoMemory}
use Rattle.boot_text.specs.declared.plan.Line.{Line}
use Rattle.boot_text.specs.declared.verb.Verb.{Verb}
use Rattle.vio_trace.specs.declared.outcome.Outcome.{Outcome}
use Rattle.vio_trace.specs.declared.outcome.Outcome.TheVariants as outcomes
use Rattle.vio_trace.specs.declared.rows.LogRow.{LogRow}
use Rattle.vscsi_client.specs.State.{ClientState}
use Rattle.vcpu_run.specs.declared.driver.Driver.{Driver}
use Rattle.vcpu_run.specs.declared.pair.Pair.{Pair}
use Rattle.vcpu_run.specs.declared.unit_seat.Seat.{Seat}
use Rattle.vcpu_run.specs.declared.unit_seat.Seat.TheVariants as places
use Rattle.vcpu_run.specs.declared.script.Progress.{Progress}
use Rattle.vcpu_run.specs.declared.script.Script.{Script}
use Rattle.unit_region.specs.declared.step.Step.{Step}
use Rattle.unit_region.specs.declared.step.Step.TheVariants as steps
use Rattle.vcpu_run.specs.Credited.{Agrees, Credit, Ended, IsFresh, IsWithin, KeepsAgreed, KeepsCredit, StepsAgreed, StepsPort, credit_after, credit_by, ended_by, grants, taken_in, uses_credit}
use Rattle.vcpu_run.specs.Agreed.{AllSame, AreLoggedOut, IsCredited, OnDrivers, SameDrivers, StepsLine, StepsSeat, driver_at, driver_in, taken_at, taken_by}
use Rattle.vcpu_run.specs.Sendings.{SameCredits}
use Rattle.vcpu_run.specs.Scripts.{AreSeats}
use Rattle.vcpu_run.specs.Suited.{suits}
use Rattle.vcpu_run.proofs.Credits.{agrees_none, agrees_same}
use Rattle.vcpu_run.proofs.Driving.{client_is, no_port, some_is}

-- one line more
pub after_more : (credit : Option Credit) (es : List Ended) (e : Ended) → credit_after credit (es ++ e ∷ []) ≡ credit_by e.verb e.outcome (credit_after credit es)
after_more credit [] e = refl
after_more credit (x ∷ es) e = after_more (credit_by x.verb x.outcome credit) es e

pub keeps_more : (credit : Option Credit) (es : List Ended) (e : Ended) → KeepsCredit credit es → IsWithin (credit_by e.verb e.outcome (credit_after credit es))
    → KeepsCredit credit (es ++ e ∷ [])
keeps_more credit [] e keeps within = (within, tt)
keeps_more credit (x ∷ es) e keeps within = (keeps.0, keeps_more (credit_by x.verb x.outcome credit) es e keeps.1 within)

pub within_last : (credit : Option Credit) (es : List Ended) → IsWithin credit → KeepsCredit credit es → IsWithin (credit_after credit es)
within_last credit [] within keeps = within
within_last credit (x ∷ es) within keeps = within_last (credit_by x.verb x.outcome credit) es keeps.0 keeps.1

pub ended_more : (unit : ℕ) (lines : List Line) (logs : List LogRow) (line : Line) (row : LogRow) → slice_get lines (length logs) ≡ Some line
    → ended_by unit lines (logs ++ row ∷ []) ≡ cond (line.unit == unit) (ended_by unit lines logs ++ record { verb = line.verb; outcome = row.outcome } ∷ []) (ended_by unit lines logs)
ended_more unit [] logs line row found = absurd (nothing (length logs) found)
  where
    nothing : (n : ℕ) → slice_get {X = Line} [] n ≡ Some line → ⊥
    nothing n e = cc
ended_more unit (l ∷ lines) [] line row found = at (l.unit == unit) refl
  where
    same : l ≡ line
    same = some_is l line found

    rest : (ls : List Line) → ended_by unit ls [] ≡ []
    rest [] = refl
    rest (x ∷ xs) = refl

    at : (b : Bool) → (l.unit == unit) ≡ b
        → cond b (record { verb = l.verb; outcome = row.outcome } ∷ ended_by unit lines []) (ended_by unit lines [])
        ≡ cond (line.unit == unit) (record { verb = line.verb; outcome = row.outcome } ∷ []) []
    at true is = rw (rest lines) (rw (← same) (rw is refl))
    at false is = rw (rest lines) (rw (← same) (rw is refl))
ended_more unit (l ∷ lines) (r ∷ logs) line row found = at (l.unit == unit) (ended_more unit lines logs line row found)
  where
    at : (b : Bool) → ended_by unit lines (logs ++ row ∷ []) ≡ cond (line.unit == unit) (ended_by unit lines logs ++ record { verb = line.verb; outcome = row.outcome } ∷ []) (ended_by unit lines logs)
        → cond b (record { verb = l.verb; outcome = r.outcome } ∷ ended_by unit lines (logs ++ row ∷ [])) (ended_by unit lines (logs ++ row ∷ []))
        ≡ cond (line.unit == unit) (cond b (record { verb = l.verb; outcome = r.outcome } ∷ ended_by unit lines logs) (ended_by unit lines logs) ++ record { verb = line.verb; outcome = row.outcome } ∷ [])
        (cond b (record { verb = l.verb; outcome = r.outcome } ∷ ended_by unit lines logs) (ended_by unit lines logs))
    at true e = by (line.unit == unit) e
      where
        by : (d : Bool) → ended_by unit lines (logs ++ row ∷ []) ≡ cond d (ended_by unit lines logs ++ record { verb = line.verb; outcome = row.outcome } ∷ []) (ended_by unit lines logs)
            → record { verb = l.verb; outcome = r.outcome } ∷ ended_by unit lines (logs ++ row ∷ [])
            ≡ cond d (record { verb = l.verb; outcome = r.outcome } ∷ (ended_by unit lines logs ++ record { verb = line.verb; outcome = row.outcome } ∷ [])) (record { verb = l.verb; outcome = r.outcome } ∷ ended_by unit lines logs)
        by true e = ap (λ es. record { verb = l.verb; outcome = r.outcome } ∷ es) e
        by false e = ap (λ es. record { verb = l.verb; outcome = r.outcome } ∷ es) e
    at false e = e

-- two units have not one seat
pub one_seat : (partition u v k : ℕ) (seats : List Seat) (pairs : List Pair) → AreSeats partition seats pairs → slice_get seats u ≡ Some (places.Client k)
    → slice_get seats v ≡ Some (places.Client k) → u ≡ v
one_seat partition u v k seats pairs are here there = at (slice_get pairs k) (are u k here) (are v k there)
  where
    driver : (o : Option Driver) → IsSomeAnd o (λ d. d.unit ≡ record { partition = partition; unit = u }) → IsSomeAnd o (λ d. d.unit ≡ record { partition = partition; unit = v }) → u ≡ v
    driver None x y = absurd x
    driver (Some d) x y = ap (λ id. id.unit) (sym x ∙ y)

    at : (o : Option Pair) → IsSomeAnd o (λ pair. IsSomeAnd pair.driver (λ d. d.unit ≡ record { partition = partition; unit = u }))
        → IsSomeAnd o (λ pair. IsSomeAnd pair.driver (λ d. d.unit ≡ record { partition = partition; unit = v })) → u ≡ v
    at None x y = absurd x
    at (Some pair) x y = driver pair.driver x y

apart_by : (a b : ℕ) → (a == b) ≡ false → a ≡ b → ⊥
apart_by a b other e = both (a == b) other (eq-eqb a b e)
  where
    both : (t : Bool) → t ≡ false → t ≡ true → ⊥
    both t x y = cc

-- the drivers of one pair before and after
pub record Two (o p : Option Driver) (P : Driver → Driver → Type 0) : Type 0 where
  pub a : Driver
  pub b : Driver
  pub was : o ≡ Some a
  pub is : p ≡ Some b
  pub holds : P a b

pub two_of : (o p : Option Driver) (P : Driver → Driver → Type 0) (Q : Driver → Type 0) → OnDrivers o p P → IsSomeAnd o Q → Two o p P
two_of None p P Q on there = absurd there
two_of (Some a) None P Q on there = absurd on
two_of (Some a) (Some b) P Q on there = record { a = a; b = b; was = refl; is = refl; holds = on }

seat_there : (partition u k : ℕ) (seats : List Seat) (pairs : List Pair) → AreSeats partition seats pairs → slice_get seats u ≡ Some (places.Client k)
    → IsSomeAnd (driver_at pairs k) (λ d. d.unit ≡ record { partition = partition; unit = u })
seat_there partition u k seats pairs are found = at (slice_get pairs k) (are u k found)
  where
    at : (o : Option Pair) → IsSomeAnd o (λ pair. IsSomeAnd pair.driver (λ d. d.unit ≡ record { partition = partition; unit = u }))
        → IsSomeAnd (driver_in o) (λ d. d.unit ≡ record { partition = partition; unit = u })
    at None h = absurd h
    at (Some pair) h = h

-- nothing changed of the clients
pub credited_same : (old new : List Pair) (script : Script) → SameDrivers old new → IsCredited old script → IsCredited new script
credited_same old new script same is = record {
  law = is.law;
  fresh = is.fresh;
  agrees = λ less unit k found.
      subst (λ (o : Option Driver). IfSome o (λ driver. Agrees (taken_by unit script) (credit_after None (ended_by unit script.lines.now script.logs.items)) driver.client))
      (sym (same k)) (is.agrees less unit k found);
  ports = is.ports;
}

-- or nothing of the credits of the script's own clients
pub credited_by_own : (old new : List Pair) (script : Script)
    → ((unit k : ℕ) → slice_get script.seats.items unit ≡ Some (places.Client k) → OnDrivers (driver_at old k) (driver_at new k) (λ a b. SameCredits a.client b.client))
    → IsCredited old script → IsCredited new script
credited_by_own old new script same is = record {
  law = is.law;
  fresh = is.fresh;
  agrees = λ less unit k found.
      at (taken_by unit script) (credit_after None (ended_by unit script.lines.now script.logs.items)) (driver_at old k) (driver_at new k) (same unit k found) (is.agrees less unit k found);
  ports = is.ports;
}
  where
    at : (taken : ℕ) (credit : Option Credit) (o p : Option Driver) → OnDrivers o p (λ a b. SameCredits a.client b.client)
        → IfSome o (λ driver. Agrees taken credit driver.client) → IfSome p (λ driver. Agrees taken credit driver.client)
    at taken credit o None on h = tt
    at taken credit None (Some b) on h = absurd on
    at taken credit (Some a) (Some b) on h = agrees_same taken credit a.client b.client on h

pub credited_all : (old new : List Pair) (script : Script) → AllSame old new → IsCredited old script → IsCredited new script
credited_all old new script same is = credited_by_own old new script (λ unit k found. same k) is

-- the unit of the current line, or another
pub here_or : (a b : ℕ) → ((a == b) ≡ true) ⊎ ((a == b) ≡ false)
here_or a b = at (a == b)
  where
    at : (t : Bool) → (t ≡ true) ⊎ (t ≡ false)
    at true = inl refl
    at false = inr refl

-- the current line is to be gone on with
pub credited_waits : (old new : List Pair) (script : Script) (progress : Progress) (line : Line) (seat : ℕ) (did : Moved)
    → slice_get script.lines.now script.at ≡ Some line → slice_get script.seats.items line.unit ≡ Some (places.Client seat)
    → AreSeats script.partition script.seats.items old
    → StepsSeat seat line.verb (taken_in script.progress) (taken_in progress) old new (Ok (steps.Waits did))
    → IsCredited old script → IsCredited new (record script { progress = progress })
credited_waits old new script progress line seat did found sits are step is = record {
  law = is.law;
  fresh = subst (λ (o : Option Line). IfSome o (λ l. IsFresh l.verb (taken_in progress))) (sym found) agreed.0;
  agrees = λ less unit k at. by less unit k at (here_or line.unit unit);
  ports = is.ports;
}
  where
    two : Two (driver_at old seat) (driver_at new seat) (λ a b. StepsAgreed line.verb (taken_in script.progress) (taken_in progress) a.client b.client (Ok (steps.Waits did)))
    two = two_of (driver_at old seat) (driver_at new seat) _ _ step.credit (seat_there script.partition line.unit seat script.seats.items old are sits)

    fresh : IsFresh line.verb (taken_in script.progress)
    fresh = subst (λ (o : Option Line). IfSome o (λ l. IsFresh l.verb (taken_in script.progress))) found is.fresh

    agreed : KeepsAgreed line.verb (taken_in script.progress) (taken_in progress) two.a.client two.b.client (steps.Waits did)
    agreed = two.holds fresh

    by : script.at < length script.lines.now → (unit k : ℕ) → slice_get script.seats.items unit ≡ Some (places.Client k) → ((line.unit == unit) ≡ true) ⊎ ((line.unit == unit) ≡ false)
        → IfSome (driver_at new k) (λ driver. Agrees (taken_at unit (taken_in progress) (slice_get script.lines.now script.at)) (credit_after None (ended_by unit script.lines.now script.logs.items)) driver.client)
    by less unit k at (inl e) =
        let same : line.unit ≡ unit = eqb-true line.unit unit e in
        let one : seat ≡ k = client_is seat k (sym sits ∙ (ap (λ n. slice_get script.seats.items n) same ∙ at)) in
        let credit : Option Credit = credit_after None (ended_by unit script.lines.now script.logs.items) in
        let before : Agrees (taken_in script.progress) credit two.a.client =
        subst (λ b. Agrees (cond b (taken_in script.progress) 0) credit two.a.client) e
        (subst (λ (o : Option Line). Agrees (taken_at unit (taken_in script.progress) o) credit two.a.client) found
        (subst (λ (o : Option Driver). IfSome o (λ driver. Agrees (taken_by unit script) credit driver.client)) (ap (λ n. driver_at old n) (sym one) ∙ two.was) (is.agrees less unit k at))) in
        subst (λ (o : Option Driver). IfSome o (λ driver. Agrees (taken_at unit (taken_in progress) (slice_get script.lines.now script.at)) credit driver.client)) (sym (ap (λ n. driver_at new n) (sym one) ∙ two.is))
        (subst (λ (o : Option Line). Agrees (taken_at unit (taken_in progress) o) credit two.b.client) (sym found)
        (subst (λ b. Agrees (cond b (taken_in progress) 0) credit two.b.client) (sym e) (agreed.1 credit before)))
    by less unit k at (inr e) =
        let credit : Option Credit = credit_after None (ended_by unit script.lines.now script.logs.items) in
        let apart : k ≢ seat = λ is. apart_by line.unit unit e (one_seat script.partition line.unit unit k script.seats.items old are (sits ∙ ap (λ n. Some (places.Client n)) (sym is)) at) in
        subst (λ (o : Option Driver). IfSome o (λ driver. Agrees (taken_at unit (taken_in progress) (slice_get script.lines.now script.at)) credit driver.client)) (sym (step.others k apart))
        (subst (λ n. IfSome (driver_at old k) (λ driver. Agrees n credit driver.client))
        (ap (taken_at unit (taken_in script.progress)) found ∙ (ap (λ b. cond b (taken_in script.progress) 0) e ∙ (sym (ap (λ b. cond b (taken_in progress) 0) e) ∙ sym (ap (taken_at unit (taken_in progress)) found))))
        (is.agrees less unit k at))

-- the lines of a unit that ended before, and one that ended so
abbrev own_before : Script → ℕ → List Ended
own_before script unit = ended_by unit script.lines.now script.logs.items

abbrev ended_so : Line → LogRow → Ended
ended_so line row = record { verb = line.verb; outcome = row.outcome }

-- with this one behind them, if it is the unit's
abbrev ended_behind : Script → Line → LogRow → ℕ → List Ended
ended_behind script line row unit = cond (line.unit == unit) (own_before script unit ++ ended_so line row ∷ []) (own_before script unit)

-- the current line ended: with it the records keep the credits, and the clients agree with them
ended_as : (new : List Pair) (script ended : Script) (line : Line) (row : LogRow)
    → slice_get script.lines.now script.at ≡ Some line → length script.logs.items ≡ script.at
    → ended.lines ≡ script.lines → ended.seats ≡ script.seats → ended.logs.items ≡ script.logs.items ++ row ∷ [] → taken_in ended.progress ≡ 0
    → ((unit : ℕ) → KeepsCredit None (ended_behind script line row unit))
    → ((unit k : ℕ) → slice_get script.seats.items unit ≡ Some (places.Client k) → IfSome (driver_at new k) (λ driver. Agrees 0 (credit_after None (ended_behind script line row unit)) driver.client))
    → ((unit : ℕ) → slice_get script.seats.items unit ≡ Some places.Port → credit_after None (ended_behind script line row unit) ≡ None)
    → IsCredited new ended
ended_as new script ended line row found many lines seats logs none law agree port = record {
  law = λ unit. subst (KeepsCredit None) (sym (records unit)) (law unit);
  fresh = fresh_none (slice_get ended.lines.now ended.at);
  agrees = λ less unit k at.
      subst (λ n. IfSome (driver_at new k) (λ driver. Agrees n (credit_after None (ended_by unit ended.lines.now ended.logs.items)) driver.client)) (sym (none_taken unit (slice_get ended.lines.now ended.at)))
      (subst (λ es. IfSome (driver_at new k) (λ driver. Agrees 0 (credit_after None es) driver.client)) (sym (records unit))
      (agree unit k (subst (λ ss. slice_get ss.items unit ≡ Some (places.Client k)) seats at)));
  ports = λ unit at.
      let here : slice_get script.seats.items unit ≡ Some places.Port = subst (λ ss. slice_get ss.items unit ≡ Some places.Port) seats at in
      ap (credit_after None) (records unit) ∙ port unit here;
}
  where
    there : slice_get script.lines.now (length script.logs.items) ≡ Some line
    there = ap (λ n. slice_get script.lines.now n) many ∙ found

    records : (unit : ℕ) → ended_by unit ended.lines.now ended.logs.items ≡ ended_behind script line row unit
    records unit = ap (λ ls. ended_by unit ls.now ended.logs.items) lines ∙ (ap (ended_by unit script.lines.now) logs ∙ ended_more unit script.lines.now script.logs.items line row there)

    fresh_none : (o : Option Line) → IfSome o (λ l. IsFresh l.verb (taken_in ended.progress))
    fresh_none None = tt
    fresh_none (Some l) = λ take. none

    none_taken : (unit : ℕ) (o : Option Line) → taken_at unit (taken_in ended.progress) o ≡ 0
    none_taken unit None = refl
    none_taken unit (Some l) = at (l.unit == unit)
      where
        at : (b : Bool) → cond b (taken_in ended.progress) 0 ≡ 0
        at true = none
        at false = refl

-- it is one of a client
pub credited_ends : (old new : List Pair) (script ended : Script) (line : Line) (row : LogRow) (seat taken' : ℕ)
    → slice_get script.lines.now script.at ≡ Some line → slice_get script.seats.items line.unit ≡ Some (places.Client seat)
    → AreSeats script.partition script.seats.items old → length script.logs.items ≡ script.at
    → StepsSeat seat line.verb (taken_in script.progress) taken' old new (Ok (steps.Ends row.outcome))
    → ended.lines ≡ script.lines → ended.seats ≡ script.seats → ended.logs.items ≡ script.logs.items ++ row ∷ [] → taken_in ended.progress ≡ 0
    → IsCredited old script → IsCredited new ended
credited_ends old new script ended line row seat taken' found sits are many step lines seats logs none is = ended_as new script ended line row found many lines seats logs none
    (λ unit. law unit (here_or line.unit unit)) (λ unit k at. by unit k at (here_or line.unit unit)) (λ unit at. port unit at (here_or line.unit unit))
  where
    within : script.at < length script.lines.now
    within = slice_get_within script.lines.now script.at line found

    e : Ended
    e = ended_so line row

    before : ℕ → List Ended
    before unit = own_before script unit

    two : Two (driver_at old seat) (driver_at new seat) (λ a b. StepsAgreed line.verb (taken_in script.progress) taken' a.client b.client (Ok (steps.Ends row.outcome)))
    two = two_of (driver_at old seat) (driver_at new seat) _ _ step.credit (seat_there script.partition line.unit seat script.seats.items old are sits)

    agreed : KeepsAgreed line.verb (taken_in script.progress) taken' two.a.client two.b.client (steps.Ends row.outcome)
    agreed = two.holds (subst (λ (o : Option Line). IfSome o (λ l. IsFresh l.verb (taken_in script.progress))) found is.fresh)

    both : (unit : ℕ) → (line.unit == unit) ≡ true → IsWithin (credit_by e.verb e.outcome (credit_after None (before unit))) × Agrees 0 (credit_by e.verb e.outcome (credit_after None (before unit))) two.b.client
    both unit h =
        let same : line.unit ≡ unit = eqb-true line.unit unit h in
        agreed (credit_after None (before unit)) (within_last None (before unit) tt (is.law unit))
        (subst (λ b. Agrees (cond b (taken_in script.progress) 0) (credit_after None (before unit)) two.a.client) h
        (subst (λ (o : Option Line). Agrees (taken_at unit (taken_in script.progress) o) (credit_after None (before unit)) two.a.client) found
        (subst (λ (o : Option Driver). IfSome o (λ driver. Agrees (taken_by unit script) (credit_after None (before unit)) driver.client)) two.was
        (is.agrees within unit seat (ap (λ n. slice_get script.seats.items n) (sym same) ∙ sits)))))

    port : (unit : ℕ) → slice_get script.seats.items unit ≡ Some places.Port → ((line.unit == unit) ≡ true) ⊎ ((line.unit == unit) ≡ false)
        → credit_after None (cond (line.unit == unit) (before unit ++ e ∷ []) (before unit)) ≡ None
    port unit at (inl h) =
        absurd (no_port seat (sym sits ∙ (ap (λ n. slice_get script.seats.items n) (eqb-true line.unit unit h) ∙ at)))
    port unit at (inr h) = ap (λ b. credit_after None (cond b (before unit ++ e ∷ []) (before unit))) h ∙ is.ports unit at

    law : (unit : ℕ) → ((line.unit == unit) ≡ true) ⊎ ((line.unit == unit) ≡ false) → KeepsCredit None (cond (line.unit == unit) (before unit ++ e ∷ []) (before unit))
    law unit (inl h) = subst (λ b. KeepsCredit None (cond b (before unit ++ e ∷ []) (before unit))) (sym h) (keeps_more None (before unit) e (is.law unit) (both unit h).0)
    law unit (inr h) = subst (λ b. KeepsCredit None (cond b (before unit ++ e ∷ []) (before unit))) (sym h) (is.law unit)

    by : (unit k : ℕ) → slice_get script.seats.items unit ≡ Some (places.Client k) → ((line.unit == unit) ≡ true) ⊎ ((line.unit == unit) ≡ false)
        → IfSome (driver_at new k) (λ driver. Agrees 0 (credit_after None (cond (line.unit == unit) (before unit ++ e ∷ []) (before unit))) driver.client)
    by unit k at (inl h) =
        let same : line.unit ≡ unit = eqb-true line.unit unit h in
        let one : seat ≡ k = client_is seat k (sym sits ∙ (ap (λ n. slice_get script.seats.items n) same ∙ at)) in
        subst (λ b. IfSome (driver_at new k) (λ driver. Agrees 0 (credit_after None (cond b (before unit ++ e ∷ []) (before unit))) driver.client)) (sym h)
        (subst (λ (o : Option Driver). IfSome o (λ driver. Agrees 0 (credit_after None (before unit ++ e ∷ [])) driver.client)) (sym (ap (λ n. driver_at new n) (sym one) ∙ two.is))
        (subst (λ c. Agrees 0 c two.b.client) (sym (after_more None (before unit) e)) (both unit h).1))
    by unit k at (inr h) =
        let apart : k ≢ seat = λ t. apart_by line.unit unit h (one_seat script.partition line.unit unit k script.seats.items old are (sits ∙ ap (λ n. Some (places.Client n)) (sym t)) at) in
        let zero_taken : taken_by unit script ≡ 0 = ap (taken_at unit (taken_in script.progress)) found ∙ ap (λ b. cond b (taken_in script.progress) 0) h in
        subst (λ b. IfSome (driver_at new k) (λ driver. Agrees 0 (credit_after None (cond b (before unit ++ e ∷ []) (before unit))) driver.client)) (sym h)
        (subst (λ (o : Option Driver). IfSome o (λ driver. Agrees 0 (credit_after None (before unit)) driver.client)) (sym (step.others k apart))
        (subst (λ n. IfSome (driver_at old k) (λ driver. Agrees n (credit_after None (before unit)) driver.client)) zero_taken (is.agrees within unit k at)))

-- the partition failed: no line is left
pub credited_fails : (old new : List Pair) (script ended : Script) (line : Line) (row : LogRow) → slice_get script.lines.now script.at ≡ Some line
    → length script.logs.items ≡ script.at → row.outcome ≡ outcomes.Done → ended.lines ≡ script.lines → ended.seats ≡ script.seats → ended.logs.items ≡ script.logs.items ++ row ∷ []
    → ended.at ≡ length ended.lines.now → IsCredited old script → IsCredited new ended
credited_fails old new script ended line row found many done lines seats logs over is = record {
  law = λ unit. subst (KeepsCredit None) (sym (records unit)) (law unit (line.unit == unit));
  fresh = subst (λ (o : Option Line). IfSome o (λ l. IsFresh l.verb (taken_in ended.progress))) (sym none) tt;
  agrees = λ less unit k at. absurd (omega (arith, less, over));
  ports = λ unit at.
      let here : slice_get script.seats.items unit ≡ Some places.Port = subst (λ ss. slice_get ss.items unit ≡ Some places.Port) seats at in
      ap (credit_after None) (records unit) ∙ port unit here (line.unit == unit);
}
  where
    none : slice_get ended.lines.now ended.at ≡ None
    none = slice_get_past ended.lines.now ended.at (omega (arith, over))

    there : slice_get script.lines.now (length script.logs.items) ≡ Some line
    there = ap (λ n. slice_get script.lines.now n) many ∙ found

    e : Ended
    e = record { verb = line.verb; outcome = row.outcome }

    before : ℕ → List Ended
    before unit = ended_by unit script.lines.now script.logs.items

    records : (unit : ℕ) → ended_by unit ended.lines.now ended.logs.items ≡ cond (line.unit == unit) (before unit ++ e ∷ []) (before unit)
    records unit = ap (λ ls. ended_by unit ls.now ended.logs.items) lines ∙ (ap (ended_by unit script.lines.now) logs ∙ ended_more unit script.lines.now script.logs.items line row there)

    port : (unit : ℕ) → slice_get script.seats.items unit ≡ Some places.Port → (b : Bool) → credit_after None (cond b (before unit ++ e ∷ []) (before unit)) ≡ None
    port unit at true =
        after_more None (before unit) e
        ∙ (ap (λ o. credit_by line.verb o (credit_after None (before unit))) done ∙ is.ports unit at)
    port unit at false = is.ports unit at

    law : (unit : ℕ) (b : Bool) → KeepsCredit None (cond b (before unit ++ e ∷ []) (before unit))
    law unit true = keeps_more None (before unit) e (is.law unit)
        (subst (λ o. IsWithin (credit_by line.verb o (credit_after None (before unit)))) (sym done) (within_last None (before unit) tt (is.law unit)))
    law unit false = is.law unit

-- a line that waits for what does not come any more
pub steps_none : (pairs : List Pair) (seat : ℕ) (verb : Verb) (taken : ℕ) (result : Result Step NoMemory) → ((s : ClientState) → StepsAgreed verb taken taken s s result)
    → StepsSeat seat verb taken taken pairs pairs result
steps_none pairs seat verb taken result agreed = record { others = λ k apart. refl; credit = at (driver_at pairs seat) }
  where
    at : (o : Option Driver) → OnDrivers o o (λ a b. StepsAgreed verb taken taken a.client b.client result)
    at None = tt
    at (Some d) = agreed d.client

-- where no line is left
pub credited_rest : (old new : List Pair) (script : Script) → length script.lines.now ≤ script.at → IsCredited old script → IsCredited new script
credited_rest old new script over is = record { law = is.law; fresh = is.fresh; agrees = λ less unit k at. absurd (omega (arith, over, less)); ports = is.ports }

pub over_by : (x y : ℕ) → nat_lt x y ≡ false → y ≤ x
over_by x y e = grind (arith, nat_tests)

pub on_ok : {T : Type 0} {E : Type 0} (r : Result T E) (P : Type 0) → P → OnOk r P
on_ok (Ok x) P p = p
on_ok (Err e) P p = tt

-- before the first line
pub credited_new : (pairs : List Pair) (script : Script) → script.logs.items ≡ [] → taken_in script.progress ≡ 0 → AreLoggedOut script.seats.items pairs → IsCredited pairs script
credited_new pairs script logs none out = record {
  law = λ unit. subst (λ rs. KeepsCredit None (ended_by unit script.lines.now rs)) (sym logs) (empty unit script.lines.now);
  fresh = fresh (slice_get script.lines.now script.at);
  agrees = λ less unit k at. agrees (taken_by unit script) (credit_after None (ended_by unit script.lines.now script.logs.items)) (driver_at pairs k) (out unit k at);
  ports = λ unit at. ap (λ rs. credit_after None (ended_by unit script.lines.now rs)) logs ∙ ap (credit_after None) (nothing unit script.lines.now);
}
  where
    empty : (unit : ℕ) (ls : List Line) → KeepsCredit None (ended_by unit ls [])
    empty unit [] = tt
    empty unit (l ∷ ls) = tt

    nothing : (unit : ℕ) (ls : List Line) → ended_by unit ls [] ≡ []
    nothing unit [] = refl
    nothing unit (l ∷ ls) = refl

    fresh : (o : Option Line) → IfSome o (λ l. IsFresh l.verb (taken_in script.progress))
    fresh None = tt
    fresh (Some l) = λ take. none

    agrees : (taken : ℕ) (credit : Option Credit) (o : Option Driver) → IfSome o (λ driver. driver.client.granted ≡ None) → IfSome o (λ driver. Agrees taken credit driver.client)
    agrees taken credit None h = tt
    agrees taken credit (Some d) h = agrees_none taken credit d.client h

pub less_by : (x y : ℕ) → nat_lt x y ≡ true → x < y
less_by x y e = grind (arith, nat_tests)

-- an outcome that grants nothing leaves a unit without a login
none_by : (verb : Verb) (outcome : Outcome) → grants outcome ≡ false → credit_by verb outcome None ≡ None
none_by verb (outcomes.Granted credits) h = absurd (cc)
none_by verb (outcomes.Sent tag) h = at (uses_credit verb)
  where
    at : (b : Bool) → cond b (option_map (λ (c : Credit). record c { outstanding = c.outstanding + 1 }) None) None ≡ None
    at true = refl
    at false = refl
none_by verb (outcomes.Took count) h = refl
none_by verb outcomes.Lost h = refl
none_by verb (outcomes.TookThenLost count) h = refl
none_by verb (outcomes.Rejected reason) h = refl
none_by verb outcomes.Unanswered h = refl
none_by verb outcomes.Range h = refl
none_by verb outcomes.NotLoggedIn h = refl
none_by verb (outcomes.NoCredit limit) h = refl
none_by verb (outcomes.Overlap tag) h = refl
none_by verb outcomes.Closed h = refl
none_by verb (outcomes.Dropped number held) h = refl
none_by verb (outcomes.Data len sum) h = refl
none_by verb (outcomes.Stale page) h = refl
none_by verb outcomes.Unknown h = refl
none_by verb (outcomes.Code code) h = refl
none_by verb (outcomes.Value value) h = refl
none_by verb (outcomes.Posted buffers code) h = refl
none_by verb (outcomes.Frame code number) h = refl
none_by verb outcomes.Done h = refl
none_by verb (outcomes.Bytes shown) h = refl

-- the current line, of a unit at a port, is to be gone on with
pub port_waits : (old new : List Pair) (script : Script) (progress : Progress) (line : Line) (did : Moved)
    → slice_get script.lines.now script.at ≡ Some line → slice_get script.seats.items line.unit ≡ Some places.Port → SameDrivers old new
    → StepsPort line.verb (taken_in script.progress) (taken_in progress) (Ok (steps.Waits did))
    → IsCredited old script → IsCredited new (record script { progress = progress })
port_waits old new script progress line did found sits same step is = record {
  law = is.law;
  fresh = subst (λ (o : Option Line). IfSome o (λ l. IsFresh l.verb (taken_in progress))) (sym found)
      (step (subst (λ (o : Option Line). IfSome o (λ l. IsFresh l.verb (taken_in script.progress))) found is.fresh));
  agrees = λ less unit k at.
      subst (λ (o : Option Driver). IfSome o (λ driver. Agrees (taken_at unit (taken_in progress) (slice_get script.lines.now script.at)) (credit_after None (ended_by unit script.lines.now script.logs.items)) driver.client)) (sym (same k))
      (subst (λ n. IfSome (driver_at old k) (λ driver. Agrees n (credit_after None (ended_by unit script.lines.now script.logs.items)) driver.client)) (alike unit k at)
      (is.agrees less unit k at));
  ports = is.ports;
}
  where
    apart : (unit k : ℕ) → slice_get script.seats.items unit ≡ Some (places.Client k) → (line.unit == unit) ≡ false
    apart unit k at = by (here_or line.unit unit)
      where
        by : ((line.unit == unit) ≡ true) ⊎ ((line.unit == unit) ≡ false) → (line.unit == unit) ≡ false
        by (inl h) = absurd (no_port k (sym at ∙ (ap (λ n. slice_get script.seats.items n) (sym (eqb-true line.unit unit h)) ∙ sits)))
        by (inr h) = h

    alike : (unit k : ℕ) → slice_get script.seats.items unit ≡ Some (places.Client k) → taken_by unit script ≡ taken_at unit (taken_in progress) (slice_get script.lines.now script.at)
    alike unit k at =
        let other = apart unit k at in
        ap (taken_at unit (taken_in script.progress)) found ∙ (ap (λ b. cond b (taken_in script.progress) 0) other ∙ (sym (ap (λ b. cond b (taken_in progress) 0) other) ∙ sym (ap (taken_at unit (taken_in progress)) found)))

-- it ended
pub port_ends : (old new : List Pair) (script ended : Script) (line : Line) (row : LogRow)
    → slice_get script.lines.now script.at ≡ Some line → slice_get script.seats.items line.unit ≡ Some places.Port
    → length script.logs.items ≡ script.at → SameDrivers old new → grants row.outcome ≡ false
    → ended.lines ≡ script.lines → ended.seats ≡ script.seats → ended.logs.items ≡ script.logs.items ++ row ∷ [] → taken_in ended.progress ≡ 0
    → IsCredited old script → IsCredited new ended
port_ends old new script ended line row found sits many same plain lines seats logs none is = ended_as new script ended line row found many lines seats logs none
    (λ unit. law unit (here_or line.unit unit)) (λ unit k at. by unit k at (here_or line.unit unit)) (λ unit at. port unit at (here_or line.unit unit))
  where
    e : Ended
    e = ended_so line row

    before : ℕ → List Ended
    before unit = own_before script unit

    within : script.at < length script.lines.now
    within = slice_get_within script.lines.now script.at line found

    own : credit_after None (before line.unit) ≡ None
    own = is.ports line.unit sits

    still : credit_after None (before line.unit ++ e ∷ []) ≡ None
    still = after_more None (before line.unit) e ∙ (ap (credit_by line.verb row.outcome) own ∙ none_by line.verb row.outcome plain)

    one : IsWithin (credit_by e.verb e.outcome (credit_after None (before line.unit)))
    one = subst IsWithin (sym (ap (credit_by line.verb row.outcome) own ∙ none_by line.verb row.outcome plain)) tt

    law : (unit : ℕ) → ((line.unit == unit) ≡ true) ⊎ ((line.unit == unit) ≡ false) → KeepsCredit None (cond (line.unit == unit) (before unit ++ e ∷ []) (before unit))
    law unit (inl h) = subst (λ b. KeepsCredit None (cond b (before unit ++ e ∷ []) (before unit))) (sym h)
        (subst (λ u. KeepsCredit None (before u ++ e ∷ [])) (eqb-true line.unit unit h) (keeps_more None (before line.unit) e (is.law line.unit) one))
    law unit (inr h) = subst (λ b. KeepsCredit None (cond b (before unit ++ e ∷ []) (before unit))) (sym h) (is.law unit)

    port : (unit : ℕ) → slice_get script.seats.items unit ≡ Some places.Port → ((line.unit == unit) ≡ true) ⊎ ((line.unit == unit) ≡ false)
        → credit_after None (cond (line.unit == unit) (before unit ++ e ∷ []) (before unit)) ≡ None
    port unit at (inl h) = ap (λ b. credit_after None (cond b (before unit ++ e ∷ []) (before unit))) h
        ∙ subst (λ u. credit_after None (before u ++ e ∷ []) ≡ None) (eqb-true line.unit unit h) still
    port unit at (inr h) = ap (λ b. credit_after None (cond b (before unit ++ e ∷ []) (before unit))) h ∙ is.ports unit at

    by : (unit k : ℕ) → slice_get script.seats.items unit ≡ Some (places.Client k) → ((line.unit == unit) ≡ true) ⊎ ((line.unit == unit) ≡ false)
        → IfSome (driver_at new k) (λ driver. Agrees 0 (credit_after None (cond (line.unit == unit) (before unit ++ e ∷ []) (before unit))) driver.client)
    by unit k at (inl h) = absurd (no_port k (sym at ∙ (ap (λ n. slice_get script.seats.items n) (sym (eqb-true line.unit unit h)) ∙ sits)))
    by unit k at (inr h) =
        let zero_taken : taken_by unit script ≡ 0 = ap (taken_at unit (taken_in script.progress)) found ∙ ap (λ b. cond b (taken_in script.progress) 0) h in
        subst (λ b. IfSome (driver_at new k) (λ driver. Agrees 0 (credit_after None (cond b (before unit ++ e ∷ []) (before unit))) driver.client)) (sym h)
        (subst (λ (o : Option Driver). IfSome o (λ driver. Agrees 0 (credit_after None (before unit)) driver.client)) (sym (same k))
        (subst (λ n. IfSome (driver_at old k) (λ driver. Agrees n (credit_after None (before unit)) driver.client)) zero_taken (is.agrees within unit k at)))

-- the current line ended, at whichever unit it is
pub line_ends : (old new : List Pair) (script ended : Script) (line : Line) (row : LogRow) (taken' : ℕ)
    → slice_get script.lines.now script.at ≡ Some line → IsSomeAnd (slice_get script.seats.items line.unit) (suits line.verb)
    → AreSeats script.partition script.seats.items old → length script.logs.items ≡ script.at
    → StepsLine script.seats.items line (taken_in script.progress) taken' old new (Ok (steps.Ends row.outcome))
    → ended.lines ≡ script.lines → ended.seats ≡ script.seats → ended.logs.items ≡ script.logs.items ++ row ∷ [] → taken_in ended.progress ≡ 0
    → IsCredited old script → IsCredited new ended
line_ends old new script ended line row taken' found suited are many step lines seats logs none is = at (slice_get script.seats.items line.unit) refl suited
  where
    at : (o : Option Seat) → slice_get script.seats.items line.unit ≡ o → IsSomeAnd o (suits line.verb) → IsCredited new ended
    at None e h = absurd h
    at (Some places.Server) e h = absurd h
    at (Some (places.Client k)) e h = credited_ends old new script ended line row k taken' found e are many (step.client k e) lines seats logs none is
    at (Some places.Port) e h = port_ends old new script ended line row found e many (step.port e).0 (step.port e).1 lines seats logs none is

-- it is to be gone on with
pub line_waits : (old new : List Pair) (script : Script) (progress : Progress) (line : Line) (did : Moved)
    → slice_get script.lines.now script.at ≡ Some line → IsSomeAnd (slice_get script.seats.items line.unit) (suits line.verb)
    → AreSeats script.partition script.seats.items old
    → StepsLine script.seats.items line (taken_in script.progress) (taken_in progress) old new (Ok (steps.Waits did))
    → IsCredited old script → IsCredited new (record script { progress = progress })
line_waits old new script progress line did found suited are step is = at (slice_get script.seats.items line.unit) refl suited
  where
    at : (o : Option Seat) → slice_get script.seats.items line.unit ≡ o → IsSomeAnd o (suits line.verb) → IsCredited new (record script { progress = progress })
    at None e h = absurd h
    at (Some places.Server) e h = absurd h
    at (Some (places.Client k)) e h = credited_waits old new script progress line k did found e are (step.client k e) is
    at (Some places.Port) e h = port_waits old new script progress line did found e (step.port e).0 (step.port e).1 is

-- a line that waits for what does not come any more, at whichever unit it is
pub lines_none : (pairs : List Pair) (seats : List Seat) (line : Line) (taken : ℕ) (outcome : Outcome)
    → ((s : ClientState) → StepsAgreed line.verb taken taken s s (Ok (steps.Ends outcome))) → grants outcome ≡ false
    → StepsLine seats line taken taken pairs pairs (Ok (steps.Ends outcome))
lines_none pairs seats line taken outcome agreed plain = record {
  client = λ k at. steps_none pairs k line.verb taken (Ok (steps.Ends outcome)) agreed;
  port = λ at. (λ k. refl, plain);
}
