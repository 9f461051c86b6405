-- What is so of the answers of a script's clients, as its lines go on and end.
use Rattle.std.proofs.Common.{◌≡◌, ◌∙◌, ◌⊎◌, inl, inr, ℕ, ◌==◌, cond, Bool, true, false, List, [], ◌∷◌, ◌++◌, Option, Some, None, Ok, IfSome, IsSomeAnd, length, slice_get, refl, sym, ap, subst, arith, eq-eqb, eqb-true}
use Rattle.std.proofs.lemmas.Option.{slice_get_past}
use Rattle.vio_num.specs.declared.hypervisor.Moved.{Moved}
use Rattle.boot_text.specs.declared.plan.Line.{Line}
use Rattle.boot_text.specs.declared.verb.Verb.{Verb}
use Rattle.boot_text.specs.declared.verb.Verb.TheVariants as verbs
use Rattle.vio_trace.specs.declared.outcome.Outcome.{Outcome}
use Rattle.vio_trace.specs.declared.outcome.Outcome.TheVariants as outcomes
use Rattle.vio_trace.specs.declared.rows.LogRow.{LogRow}
use Rattle.unit_region.specs.declared.step.Step.TheVariants as steps
use Rattle.vcpu_run.specs.declared.pair.Pair.{Pair}
use Rattle.vcpu_run.specs.declared.script.Progress.{Progress}
use Rattle.vcpu_run.specs.declared.script.Progress.TheVariants as progress
use Rattle.vcpu_run.specs.declared.script.Script.{Script}
use Rattle.vcpu_run.specs.declared.unit_seat.Seat.TheVariants as places
use Rattle.vcpu_run.specs.AnswersTaken.{IsTakeSaid, TakesNow, takes_by}
use Rattle.vcpu_run.specs.Credited.{Ended, ended_by, is_take, taken_in}
use Rattle.vcpu_run.specs.EventsHeard.{lost_of}
use Rattle.vcpu_run.specs.DataKept.{IsKeptAt, range_in}
use Rattle.vcpu_run.specs.Pairs.{AreDriven, Drives}
use Rattle.vcpu_run.proofs.DataSteps.{fails_no_data}
use Rattle.vcpu_run.specs.Scripts.{AreSeats}
use Rattle.vcpu_run.specs.ScriptTold.{AtSeats, IsScriptTaken, SameClient, SameClients, own_of, progress_at, progress_by}
use Rattle.vcpu_run.specs.TakenScripts.{AllGive, AreUntaken, PairAgrees, PairGives, PairTaken}
use Rattle.vcpu_run.specs.Takings.{IsTakenUpTo}
use Rattle.vcpu_run.specs.Telling.{SeatTold}
use Rattle.vcpu_run.specs.Works.{fails}
use Rattle.vcpu_run.proofs.AnswersCounted.{none_up_to}
use Rattle.vcpu_run.proofs.Crediting.{ended_more, here_or}
use Rattle.vcpu_run.proofs.Driving.{client_is, no_port, some_is}
use Rattle.vcpu_run.proofs.LoginsTold.{true_false}
use Rattle.vcpu_run.proofs.SeatPairs.{apart_seats, before_of, else_by, fresh_at, here_by, not_port, same_pair}
use Rattle.vcpu_run.proofs.TakenOn.{kept_pair, taken_ends, taken_none, taken_quiet, taken_same, taken_waits}

-- what is taken at pairs keeps what is so of their answers
kept_all : (old new : List Pair) (script : Script) → AreDriven old new → AllGive old new → AtSeats script.seats.items old (λ unit pair. PairTaken (own_of unit script) pair)
    → AtSeats script.seats.items new (λ unit pair. PairTaken (own_of unit script) pair)
kept_all old new script driven gives is unit k after at now = by (slice_get old k) refl (gives k after now)
  where
    by : (o : Option Pair) → slice_get old k ≡ o → IsSomeAnd o (λ before. PairGives before after) → PairTaken (own_of unit script) after
    by None e h = absurd h
    by (Some before) e h = kept_pair (own_of unit script) before after (subst (λ (o : Option Pair). IsSomeAnd o (Drives before)) now (driven.each k before e)) h (is unit k before at e)

-- what a line took so far, where it is the current one
abbrev pub UpTo : (script : Script) (p : Progress) → Option Line → Type 0
UpTo script p o = IfSome o (λ l. (k : ℕ) → slice_get script.seats.items l.unit ≡ Some (places.Client k) → IsTakenUpTo l.verb (taken_in p))

up_to_of : (script : Script) (line : Line) (o : Option Line) → o ≡ Some line → UpTo script script.progress o
    → (k : ℕ) → slice_get script.seats.items line.unit ≡ Some (places.Client k) → IsTakenUpTo line.verb (taken_in script.progress)
up_to_of script line o found is = subst (UpTo script script.progress) found is

-- a line that is to begin took none
none_taken : (verb : Verb) → IsTakenUpTo verb 0
none_taken verb = at (is_take verb) refl
  where
    taken : (verb : Verb) → is_take verb ≡ true → IsTakenUpTo verb 0
    taken (verbs.Take count) is = omega arith
    taken verbs.Login is = absurd (cc)
    taken verbs.Reset is = absurd (cc)
    taken verbs.Logout is = absurd (cc)
    taken verbs.Tur is = absurd (cc)
    taken (verbs.Read lba blocks at pieces table) is = absurd (cc)
    taken (verbs.Write lba blocks at pieces table) is = absurd (cc)
    taken (verbs.Command cdb) is = absurd (cc)
    taken (verbs.CommandIn cdb at len pieces table) is = absurd (cc)
    taken (verbs.CommandOut cdb at len pieces table) is = absurd (cc)
    taken (verbs.Task function of) is = absurd (cc)
    taken (verbs.Data of) is = absurd (cc)
    taken verbs.Open is = absurd (cc)
    taken verbs.Close is = absurd (cc)
    taken (verbs.Post at len count) is = absurd (cc)
    taken (verbs.Send to len seed at) is = absurd (cc)
    taken (verbs.ChangeMac own) is = absurd (cc)
    taken (verbs.Multicast control group) is = absurd (cc)
    taken (verbs.Fill at len seed) is = absurd (cc)
    taken (verbs.Poke at bytes) is = absurd (cc)
    taken (verbs.Peek at len) is = absurd (cc)
    taken (verbs.Tce entry page readable writable) is = absurd (cc)
    taken (verbs.Hcall number arguments) is = absurd (cc)
    taken verbs.Fail is = absurd (cc)

    at : (b : Bool) → is_take verb ≡ b → IsTakenUpTo verb 0
    at false other = none_up_to verb 0 other refl
    at true takes = taken verb takes

fresh_up_to : (script : Script) (p : Progress) (o : Option Line) → p ≡ progress.Fresh → UpTo script p o
fresh_up_to script p None is = tt
fresh_up_to script p (Some line) is = λ k at. subst (λ (q : Progress). IsTakenUpTo line.verb (taken_in q)) (sym is) (none_taken line.verb)

-- the current line is to be gone on with, at the pair where its client sits
pub waits_taken : (old new : List Pair) (script : Script) (p' : Progress) (line : Line) (seat : ℕ) (here : Pair) (did : Moved)
    → slice_get script.lines.now script.at ≡ Some line → fails line.verb ≡ false → slice_get script.seats.items line.unit ≡ Some (places.Client seat) → slice_get new seat ≡ Some here
    → AreSeats script.partition script.seats.items old → AreDriven old new → SeatTold seat line script.progress p' old new (Ok (steps.Waits did))
    → IsScriptTaken old script → IsScriptTaken new (record script { progress = p' })
waits_taken old new script p' line seat here did found one sits there are driven step is = record {
  kept = kept_all old new script driven step.gives is.kept;
  up_to = subst (UpTo script p') (sym found) (λ k at. (own line.unit here sits there (eq-eqb line.unit line.unit refl)).0);
  agrees = λ l next ok unit k after at now. by unit k after at now (here_or line.unit unit);
}
  where
    of : IsTakenUpTo line.verb (taken_in script.progress)
    of = up_to_of script line (slice_get script.lines.now script.at) found is.up_to seat sits

    own : (unit : ℕ) (after : Pair) → slice_get script.seats.items unit ≡ Some (places.Client seat) → slice_get new seat ≡ Some after → (line.unit == unit) ≡ true
        → IsTakenUpTo line.verb (taken_in p') × PairAgrees (own_of unit script) p' after
    own unit after at now same =
        let b = before_of script.partition unit seat script.seats.items old new after are driven at now in
        taken_waits line.verb script.progress p' (own_of unit script) b.pair after did b.has of (step.takes b.pair after b.there now)
        (subst (λ (q : Progress). PairAgrees (own_of unit script) q b.pair) (here_by unit script.progress line (slice_get script.lines.now script.at) found same)
        (is.agrees line found one unit seat b.pair at b.there))

    by : (unit k : ℕ) (after : Pair) → slice_get script.seats.items unit ≡ Some (places.Client k) → slice_get new k ≡ Some after → ((line.unit == unit) ≡ true) ⊎ ((line.unit == unit) ≡ false)
        → PairAgrees (own_of unit script) (progress_at unit p' (slice_get script.lines.now script.at)) after
    by unit k after at now (inl e) =
        let same_seat : seat ≡ k = client_is seat k (sym sits ∙ (ap (λ n. slice_get script.seats.items n) (eqb-true line.unit unit e) ∙ at)) in
        subst (λ (q : Progress). PairAgrees (own_of unit script) q after) (sym (here_by unit p' line (slice_get script.lines.now script.at) found e))
        (own unit after (at ∙ ap (λ n. Some (places.Client n)) (sym same_seat)) (ap (slice_get new) same_seat ∙ now) e).1
    by unit k after at now (inr e) =
        let b = before_of script.partition unit k script.seats.items old new after are driven at now in
        let apart = apart_seats script.partition unit line.unit k seat script.seats.items old are sits at e in
        subst (λ (q : Progress). PairAgrees (own_of unit script) q after) (sym (else_by unit p' line (slice_get script.lines.now script.at) found e))
        (subst (PairAgrees (own_of unit script) progress.Fresh) (sym (same_pair old new k after b.pair (step.beside k apart) now b.there))
        (subst (λ (q : Progress). PairAgrees (own_of unit script) q b.pair) (else_by unit script.progress line (slice_get script.lines.now script.at) found e)
        (is.agrees line found one unit k b.pair at b.there)))

-- the records of a unit are those of before, and that of its line
own_more : (script done : Script) (line : Line) (row : LogRow) (unit : ℕ) → slice_get script.lines.now script.at ≡ Some line → length script.logs.items ≡ script.at
    → done.lines ≡ script.lines → done.logs.items ≡ script.logs.items ++ row ∷ []
    → own_of unit done ≡ cond (line.unit == unit) (own_of unit script ++ record { verb = line.verb; outcome = row.outcome } ∷ []) (own_of unit script)
own_more script done line row unit found many lines logs = ap (λ ls. ended_by unit ls.now done.logs.items) lines
    ∙ (ap (ended_by unit script.lines.now) logs ∙ ended_more unit script.lines.now script.logs.items line row (ap (λ n. slice_get script.lines.now n) many ∙ found))

-- the current line ended, at the pair where its client sits
pub ends_taken : (old new : List Pair) (script done : Script) (line : Line) (row : LogRow) (seat : ℕ) (p' : Progress)
    → slice_get script.lines.now script.at ≡ Some line → fails line.verb ≡ false → slice_get script.seats.items line.unit ≡ Some (places.Client seat)
    → AreSeats script.partition script.seats.items old → AreDriven old new → length script.logs.items ≡ script.at
    → SeatTold seat line script.progress p' old new (Ok (steps.Ends row.outcome))
    → done.lines ≡ script.lines → done.seats ≡ script.seats → done.logs.items ≡ script.logs.items ++ row ∷ [] → done.progress ≡ progress.Fresh
    → IsScriptTaken old script → IsScriptTaken new done
ends_taken old new script done line row seat p' found one sits are driven many step lines seats logs fresh is = record {
  kept = λ unit k after at now. (each unit k after (back unit k at) now (here_or line.unit unit)).0;
  up_to = fresh_up_to done done.progress (slice_get done.lines.now done.at) fresh;
  agrees = λ l next ok unit k after at now. subst (λ (q : Progress). PairAgrees (own_of unit done) q after)
      (sym (ap (λ (p : Progress). progress_at unit p (slice_get done.lines.now done.at)) fresh ∙ fresh_at unit (slice_get done.lines.now done.at)))
      (each unit k after (back unit k at) now (here_or line.unit unit)).1;
}
  where
    of : IsTakenUpTo line.verb (taken_in script.progress)
    of = up_to_of script line (slice_get script.lines.now script.at) found is.up_to seat sits

    e : Ended
    e = record { verb = line.verb; outcome = row.outcome }

    back : (unit k : ℕ) → slice_get done.seats.items unit ≡ Some (places.Client k) → slice_get script.seats.items unit ≡ Some (places.Client k)
    back unit k at = subst (λ ss. slice_get ss.items unit ≡ Some (places.Client k)) seats at

    records : (unit : ℕ) → own_of unit done ≡ cond (line.unit == unit) (own_of unit script ++ e ∷ []) (own_of unit script)
    records unit = own_more script done line row unit found many lines logs

    still : (unit k : ℕ) (after : Pair) → slice_get script.seats.items unit ≡ Some (places.Client k) → slice_get new k ≡ Some after → PairTaken (own_of unit script) after
    still unit k after at now = kept_all old new script driven step.gives is.kept unit k after at now

    each : (unit k : ℕ) (after : Pair) → slice_get script.seats.items unit ≡ Some (places.Client k) → slice_get new k ≡ Some after → ((line.unit == unit) ≡ true) ⊎ ((line.unit == unit) ≡ false)
        → PairTaken (own_of unit done) after × PairAgrees (own_of unit done) progress.Fresh after
    each unit k after at now (inl same) =
        let same_seat : seat ≡ k = client_is seat k (sym sits ∙ (ap (λ n. slice_get script.seats.items n) (eqb-true line.unit unit same) ∙ at)) in
        let b = before_of script.partition unit k script.seats.items old new after are driven at now in
        let agrees = subst (λ (q : Progress). PairAgrees (own_of unit script) q b.pair) (here_by unit script.progress line (slice_get script.lines.now script.at) found same)
        (is.agrees line found one unit k b.pair at b.there) in
        let stepped : SeatTold k line script.progress p' old new (Ok (steps.Ends row.outcome)) =
        subst (λ n. SeatTold n line script.progress p' old new (Ok (steps.Ends row.outcome))) same_seat step in
        subst (λ (own : List Ended). PairTaken own after × PairAgrees own progress.Fresh after)
        (sym (records unit ∙ ap (λ t. cond t (own_of unit script ++ e ∷ []) (own_of unit script)) same))
        (taken_ends script.progress p' (own_of unit script) e b.pair after b.has of (stepped.takes b.pair after b.there now) (stepped.hears b.pair after b.there now) (stepped.reads b.pair after b.there now)
        (subst (λ (o : Option Pair). IsSomeAnd o (λ before. PairGives before after)) b.there (stepped.gives k after now))
        (subst (λ (o : Option Pair). IsSomeAnd o (Drives b.pair)) now (driven.each k b.pair b.there)).server (is.kept unit k b.pair at b.there)
        (still unit k after at now) agrees)
    each unit k after at now (inr differ) =
        let b = before_of script.partition unit k script.seats.items old new after are driven at now in
        let apart = apart_seats script.partition unit line.unit k seat script.seats.items old are sits at differ in
        let agrees = subst (λ (q : Progress). PairAgrees (own_of unit script) q b.pair) (else_by unit script.progress line (slice_get script.lines.now script.at) found differ)
        (is.agrees line found one unit k b.pair at b.there) in
        subst (λ (own : List Ended). PairTaken own after × PairAgrees own progress.Fresh after)
        (sym (records unit ∙ ap (λ t. cond t (own_of unit script ++ e ∷ []) (own_of unit script)) differ)) (
          still unit k after at now,
          subst (PairAgrees (own_of unit script) progress.Fresh) (sym (same_pair old new k after b.pair (step.beside k apart) now b.there)) agrees,
        )

-- the current line is a port's
pub port_waits_taken : (pairs : List Pair) (script : Script) (p' : Progress) (line : Line) → slice_get script.lines.now script.at ≡ Some line → fails line.verb ≡ false
    → slice_get script.seats.items line.unit ≡ Some places.Port → IsScriptTaken pairs script → IsScriptTaken pairs (record script { progress = p' })
port_waits_taken pairs script p' line found one sits is = record {
  kept = is.kept;
  up_to = subst (UpTo script p') (sym found) (λ k at. absurd (no_port k (sym at ∙ sits)));
  agrees = λ l next ok unit k pair at now. let other = not_port script line unit k sits at in
      subst (λ (q : Progress). PairAgrees (own_of unit script) q pair) (else_by unit script.progress line (slice_get script.lines.now script.at) found other
      ∙ sym (else_by unit p' line (slice_get script.lines.now script.at) found other)) (is.agrees line found one unit k pair at now);
}

pub port_ends_taken : (pairs : List Pair) (script done : Script) (line : Line) (row : LogRow) → slice_get script.lines.now script.at ≡ Some line → fails line.verb ≡ false
    → slice_get script.seats.items line.unit ≡ Some places.Port → length script.logs.items ≡ script.at → done.lines ≡ script.lines → done.seats ≡ script.seats
    → done.logs.items ≡ script.logs.items ++ row ∷ [] → done.progress ≡ progress.Fresh → IsScriptTaken pairs script → IsScriptTaken pairs done
port_ends_taken pairs script done line row found one sits many lines seats logs fresh is = record {
  kept = λ unit k pair at now. let here = back unit k at in
      subst (λ (own : List Ended). PairTaken own pair) (sym (records unit k here)) (is.kept unit k pair here now);
  up_to = fresh_up_to done done.progress (slice_get done.lines.now done.at) fresh;
  agrees = λ l next ok unit k pair at now. let here = back unit k at in
      subst (λ (q : Progress). PairAgrees (own_of unit done) q pair)
      (sym (ap (λ (p : Progress). progress_at unit p (slice_get done.lines.now done.at)) fresh ∙ fresh_at unit (slice_get done.lines.now done.at)))
      (subst (λ (own : List Ended). PairAgrees own progress.Fresh pair) (sym (records unit k here))
      (subst (λ (q : Progress). PairAgrees (own_of unit script) q pair) (else_by unit script.progress line (slice_get script.lines.now script.at) found (not_port script line unit k sits here))
      (is.agrees line found one unit k pair here now)));
}
  where
    e : Ended
    e = record { verb = line.verb; outcome = row.outcome }

    back : (unit k : ℕ) → slice_get done.seats.items unit ≡ Some (places.Client k) → slice_get script.seats.items unit ≡ Some (places.Client k)
    back unit k at = subst (λ ss. slice_get ss.items unit ≡ Some (places.Client k)) seats at

    records : (unit k : ℕ) → slice_get script.seats.items unit ≡ Some (places.Client k) → own_of unit done ≡ own_of unit script
    records unit k here = own_more script done line row unit found many lines logs
        ∙ ap (λ t. cond t (own_of unit script ++ e ∷ []) (own_of unit script)) (not_port script line unit k sits here)

-- before the first line
pub new_taken : (pairs : List Pair) (script : Script) → script.logs.items ≡ [] → script.progress ≡ progress.Fresh → AreUntaken pairs → IsScriptTaken pairs script
new_taken pairs script logs fresh untaken = record {
  kept = λ unit k pair at now. subst (λ (own : List Ended). PairTaken own pair) (sym (none unit)) (taken_none pair (untaken k pair now).3 (untaken k pair now).0).0;
  up_to = fresh_up_to script script.progress (slice_get script.lines.now script.at) fresh;
  agrees = λ l next ok unit k pair at now. subst (λ (own : List Ended). PairAgrees own (progress_by unit script) pair) (sym (none unit))
      (subst (λ (q : Progress). PairAgrees [] q pair) (sym (ap (λ (p : Progress). progress_at unit p (slice_get script.lines.now script.at)) fresh ∙ fresh_at unit (slice_get script.lines.now script.at)))
      (taken_none pair (untaken k pair now).3 (untaken k pair now).0).1);
}
  where
    empty : (unit : ℕ) (lines : List Line) → ended_by unit lines [] ≡ []
    empty unit [] = refl
    empty unit (l ∷ ls) = refl

    none : (unit : ℕ) → own_of unit script ≡ []
    none unit = ap (ended_by unit script.lines.now) logs ∙ empty unit script.lines.now

-- the line that fails the partition is to be gone on with
pub fail_waits_taken : (old new : List Pair) (script : Script) (line : Line) → slice_get script.lines.now script.at ≡ Some line → fails line.verb ≡ true
    → AreDriven old new → AllGive old new → IsScriptTaken old script → IsScriptTaken new script
fail_waits_taken old new script line found failing driven gives is = record {
  kept = kept_all old new script driven gives is.kept;
  up_to = is.up_to;
  agrees = λ l next ok unit k pair at now.
      absurd (true_false (fails line.verb) failing (subst (λ (x : Line). fails x.verb ≡ false) (some_is l line (sym next ∙ found)) ok));
}

no_line : (l : Line) → None ≡ Some l → ⊥
no_line l e = cc

-- of a line that fails the partition no record tells of answers
fails_said : (verb : Verb) → fails verb ≡ true → (tags : List ℕ) (now : TakesNow) (outcome : Outcome) → IsTakeSaid tags now verb outcome
fails_said verbs.Login is tags now outcome = tt
fails_said verbs.Reset is tags now outcome = tt
fails_said verbs.Logout is tags now outcome = tt
fails_said verbs.Tur is tags now outcome = tt
fails_said (verbs.Read lba blocks at pieces table) is tags now outcome = tt
fails_said (verbs.Write lba blocks at pieces table) is tags now outcome = tt
fails_said (verbs.Command cdb) is tags now outcome = tt
fails_said (verbs.CommandIn cdb at len pieces table) is tags now outcome = tt
fails_said (verbs.CommandOut cdb at len pieces table) is tags now outcome = tt
fails_said (verbs.Task function of) is tags now outcome = tt
fails_said (verbs.Take count) is tags now outcome = absurd (cc)
fails_said (verbs.Data of) is tags now outcome = absurd (cc)
fails_said verbs.Open is tags now outcome = tt
fails_said verbs.Close is tags now outcome = tt
fails_said (verbs.Post at len count) is tags now outcome = tt
fails_said (verbs.Send to len seed at) is tags now outcome = tt
fails_said (verbs.ChangeMac own) is tags now outcome = tt
fails_said (verbs.Multicast control group) is tags now outcome = tt
fails_said (verbs.Fill at len seed) is tags now outcome = tt
fails_said (verbs.Poke at bytes) is tags now outcome = tt
fails_said (verbs.Peek at len) is tags now outcome = tt
fails_said (verbs.Tce entry page readable writable) is tags now outcome = tt
fails_said (verbs.Hcall number arguments) is tags now outcome = tt
fails_said verbs.Fail is tags now outcome = tt

-- it ended, and no line is left
pub fail_ends_taken : (old new : List Pair) (script done : Script) (line : Line) (row : LogRow) → slice_get script.lines.now script.at ≡ Some line → fails line.verb ≡ true
    → AreDriven old new → AllGive old new → length script.logs.items ≡ script.at → row.outcome ≡ outcomes.Done
    → done.lines ≡ script.lines → done.seats ≡ script.seats → done.logs.items ≡ script.logs.items ++ row ∷ [] → done.at ≡ length done.lines.now
    → IsScriptTaken old script → IsScriptTaken new done
fail_ends_taken old new script done line row found failing driven gives many ended lines seats logs over is = record {
  kept = λ unit k after at now. each unit after
      (kept_all old new script driven gives is.kept unit k after (subst (λ ss. slice_get ss.items unit ≡ Some (places.Client k)) seats at) now) (here_or line.unit unit);
  up_to = subst (UpTo done done.progress) (sym none) tt;
  agrees = λ l next ok unit k pair at now. absurd (no_line l (sym none ∙ next));
}
  where
    none : slice_get done.lines.now done.at ≡ None
    none = ap (slice_get done.lines.now) over ∙ slice_get_past done.lines.now (length done.lines.now) (omega arith)

    e : Ended
    e = record { verb = line.verb; outcome = row.outcome }

    quiet : (now : TakesNow) → takes_by line.verb row.outcome now ≡ now
    quiet now = ap (λ (o : Outcome). takes_by line.verb o now) ended

    each : (unit : ℕ) (after : Pair) → PairTaken (own_of unit script) after → ((line.unit == unit) ≡ true) ⊎ ((line.unit == unit) ≡ false) → PairTaken (own_of unit done) after
    each unit after kept (inl same) =
        subst (λ (own : List Ended). PairTaken own after) (sym (own_more script done line row unit found many lines logs
        ∙ ap (λ b. cond b (own_of unit script ++ e ∷ []) (own_of unit script)) same))
        (taken_quiet (own_of unit script) e after (ap lost_of ended) (λ rs. subst (IsKeptAt rs (range_in line.verb)) (sym ended) tt) (fails_no_data line.verb failing) (λ tags now. fails_said line.verb failing tags now row.outcome) quiet kept)
    each unit after kept (inr differ) =
        subst (λ (own : List Ended). PairTaken own after) (sym (own_more script done line row unit found many lines logs
        ∙ ap (λ b. cond b (own_of unit script ++ e ∷ []) (own_of unit script)) differ)) kept

-- no line is left, and a turn was had
pub over_taken : (old new : List Pair) (script : Script) → slice_get script.lines.now script.at ≡ None → AreDriven old new → AllGive old new → IsScriptTaken old script → IsScriptTaken new script
over_taken old new script none driven gives is = record {
  kept = kept_all old new script driven gives is.kept;
  up_to = is.up_to;
  agrees = λ l next ok unit k pair at now. absurd (no_line l (sym none ∙ next));
}

-- the clients are as they were
pub clients_taken : (old new : List Pair) (script : Script) → SameClients old new → IsScriptTaken old script → IsScriptTaken new script
clients_taken old new script same is = record {
  kept = λ unit k after at now. kept unit k after at (slice_get old k) refl (same k after now);
  up_to = is.up_to;
  agrees = λ l next ok unit k after at now. agrees l next ok unit k after at (slice_get old k) refl (same k after now);
}
  where
    kept : (unit k : ℕ) (after : Pair) → slice_get script.seats.items unit ≡ Some (places.Client k) → (o : Option Pair) → slice_get old k ≡ o
        → IsSomeAnd o (λ before. SameClient before after) → PairTaken (own_of unit script) after
    kept unit k after at None e h = absurd h
    kept unit k after at (Some before) e h = (taken_same (own_of unit script) (progress_by unit script) before after h).0 (is.kept unit k before at e)

    agrees : (l : Line) → slice_get script.lines.now script.at ≡ Some l → fails l.verb ≡ false → (unit k : ℕ) (after : Pair) → slice_get script.seats.items unit ≡ Some (places.Client k)
        → (o : Option Pair) → slice_get old k ≡ o → IsSomeAnd o (λ before. SameClient before after) → PairAgrees (own_of unit script) (progress_by unit script) after
    agrees l next ok unit k after at None e h = absurd h
    agrees l next ok unit k after at (Some before) e h =
        (taken_same (own_of unit script) (progress_by unit script) before after h).1 (is.agrees l next ok unit k before at e)
