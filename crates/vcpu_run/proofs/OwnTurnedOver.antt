-- What a turn of a script leaves at an own client's pair, behind the events, where its server unit's session is over, or was: with its line's step,
-- with another unit's, where a line fails the partition, and behind the last line.
use Rattle.std.proofs.Common.{◌≡◌, ◌∙◌, ◌⊎◌, inl, inr, ℕ, ◌≤◌, ◌++◌, All, Bool, false, List, [], ◌∷◌, Option, Some, None, refl, slice_get, sym, ap, subst, arith}
use Rattle.std.specs.Borrow.{GName}
use Rattle.std.proofs.lemmas.List.Elements.{All-push}
use Rattle.boot_text.specs.declared.plan.Line.{Line}
use Rattle.boot_text.specs.declared.verb.Verb.{Verb}
use Rattle.boot_text.specs.declared.verb.Verb.TheVariants as verbs
use Rattle.vio_trace.specs.declared.outcome.Outcome.TheVariants as outcomes
use Rattle.crq_session.specs.PlainState.{end_of, side_of}
use Rattle.tce_window.specs.PlainPort.{known_of}
use Rattle.block_server.specs.declared.unit.Unit.{Unit}
use Rattle.unit_region.specs.declared.step.Step.{Step}
use Rattle.unit_region.specs.declared.step.Step.TheVariants as steps
use Rattle.vcpu_run.specs.Acts.{ActsFor}
use Rattle.vcpu_run.specs.ActsAt.{EndsLine, StepLeaves, acting_at}
use Rattle.vcpu_run.specs.Agreed.{OnDrivers}
use Rattle.vcpu_run.specs.Credited.{Ended}
use Rattle.vcpu_run.specs.Machines.{server_id}
use Rattle.vcpu_run.specs.OwnClients.{IsGrantOf, IsOwnClient}
use Rattle.vcpu_run.specs.OwnPairs.{IsOverOwn}
use Rattle.vcpu_run.specs.OwnSteps.{LogsIn}
use Rattle.vcpu_run.specs.OwnTurned.{OverOrTalks, StepsOver}
use Rattle.vcpu_run.specs.Pairs.{Drives}
use Rattle.vcpu_run.specs.PlainClients.{granted_in}
use Rattle.vcpu_run.specs.PlainPairs.{ServerBooks}
use Rattle.vcpu_run.specs.PlainRejected.{TellsOf}
use Rattle.vcpu_run.specs.PlainScripts.{told_in}
use Rattle.vcpu_run.specs.Scripts.{IsScript, OnlyRuns}
use Rattle.vcpu_run.specs.Works.{fails}
use Rattle.vcpu_run.specs.declared.driver.Driver.{Driver}
use Rattle.vcpu_run.specs.declared.pair.Pair.{Pair}
use Rattle.vcpu_run.specs.declared.script.Progress.{Progress}
use Rattle.vcpu_run.specs.declared.script.Script.{Script}
use Rattle.vcpu_run.proofs.Driving.{some_is}
use Rattle.vcpu_run.proofs.OwnTurnFailed.{FailedOver, over_fails}
use Rattle.vcpu_run.proofs.OwnTurnLeaves.{ToldFailed, none_failed, told_else, told_fail, told_own}
use Rattle.vcpu_run.proofs.OwnTurnLogged.{logged_line}
use Rattle.vcpu_run.proofs.OwnTurnOver.{over_other, over_takes}
use Rattle.vcpu_run.proofs.OwnTurnSeats.{DoesElse, DoesFail, DoesOwn, DoesRest, SeatDoes}
use Rattle.vcpu_run.proofs.OwnTurnSteps.{line_steps, not_failed, own_verb}

-- What comes of it: it is so still, or the two talk. What was told before, and stands in the window, is told on; and each login that is told was
-- granted is one of this many requests, if each was before.
pub record TurnedOver (granted home u k : ℕ) (books : ServerBooks) (unit : Unit) (b : Driver) (after : Pair) (told : List Ended) (script' : Script) : Type 0 where
  pub failed : Bool
  pub how : OverOrTalks granted failed (told_in u script') script'.lines.now home u k books (slice_get script'.lines.now script'.at) script'.progress unit b after
  pub tells : All (TellsOf (server_id home k) (known_of after.window).strokes) told → All (TellsOf (server_id home k) (known_of after.window).strokes) (told_in u script')
  pub numbers : All (λ e. IsGrantOf granted e.outcome) told → All (λ e. IsGrantOf granted e.outcome) (told_in u script')

-- What is so of a client behind the events.
pub record StandsIn (granted : ℕ) (failed : Bool) (home u k : ℕ) (books : ServerBooks) (unit : Unit) (a b : Driver) (middle after : Pair) (script script' : Script) : Type 0 where
  pub own : IsOwnClient u script.lines.now
  pub runs : OnlyRuns script script'
  pub pairs : List Pair
  pub are : IsScript pairs script
  pub id : unit.id ≡ server_id home k
  pub was : middle.driver ≡ Some a
  pub there : after.driver ≡ Some b
  pub drives : Drives middle after
  pub over : IsOverOwn granted failed (told_in u script) home u k books (slice_get script.lines.now script.at) script.progress unit a middle

-- ---- behind the last line

rest_turned : (granted : ℕ) (failed : Bool) (home u k : ℕ) (books : ServerBooks) (unit : Unit) (a b : Driver) (middle after : Pair) (script script' : Script)
    → StandsIn granted failed home u k books unit a b middle after script script' → DoesRest middle after script script'
    → TurnedOver granted home u k books unit b after (told_in u script) script'
rest_turned granted failed home u k books unit a b middle after script script' is does =
    subst (TurnedOver granted home u k books unit b after (told_in u script)) (sym does.leaves) (record {
      failed = failed;
      how = inr (subst (λ (o : Option Line). IsOverOwn granted failed (told_in u script) home u k books o script.progress unit b after) (sym does.none)
          (over_takes granted failed (told_in u script) home u k books script.progress unit a b middle after is.was is.there is.drives does.acts
          (subst (λ (o : Option Line). IsOverOwn granted failed (told_in u script) home u k books o script.progress unit a middle) does.none is.over)));
      tells = λ all. all;
      numbers = λ all. all;
    })

-- ---- the partition fails

fail_turned : (granted : ℕ) (failed : Bool) (home u k : ℕ) (books : ServerBooks) (unit : Unit) (a b : Driver) (middle after : Pair) (script script' : Script) (line : Line)
    → StandsIn granted failed home u k books unit a b middle after script script' → slice_get script.lines.now script.at ≡ Some line → DoesFail line middle after script script'
    → TurnedOver granted home u k books unit b after (told_in u script) script'
fail_turned granted failed home u k books unit a b middle after script script' line is found does = by does.leaves
  where
    over : IsOverOwn granted failed (told_in u script) home u k books (Some line) script.progress unit a middle
    over = subst (λ (o : Option Line). IsOverOwn granted failed (told_in u script) home u k books o script.progress unit a middle) found is.over

    fails_to : (line' : Option Line) (p' : Progress) (told' : List Ended) → (line' ≡ Some line) ⊎ (line' ≡ None) → granted_in told' ≤ granted_in (told_in u script)
        → FailedOver granted told' home u k books line' p' unit b after
    fails_to line' p' told' behind less =
        over_fails granted failed (told_in u script) told' home u k books line line' script.progress p' unit a b middle after does.failing behind is.was is.there is.drives less does.acts over

    by : (script' ≡ script) ⊎ (EndsLine line outcomes.Done script script' × ((side_of after.link false).registered ≡ false))
        → TurnedOver granted home u k books unit b after (told_in u script) script'
    by (inl same) =
        let on : FailedOver granted (told_in u script) home u k books (Some line) script.progress unit b after = fails_to (Some line) script.progress (told_in u script) (inl refl) (omega arith) in
        subst (TurnedOver granted home u k books unit b after (told_in u script)) (sym same) (record {
          failed = on.failed;
          how = inr (subst (λ (o : Option Line). IsOverOwn granted on.failed (told_in u script) home u k books o script.progress unit b after) (sym found) on.over);
          tells = λ all. all;
          numbers = λ all. all;
        })
    by (inr (ends, off)) =
        let none : slice_get script'.lines.now script'.at ≡ None =
        ap (λ lines. slice_get lines.now script'.at) is.runs.lines ∙ none_failed script script' line does.failing ends in
        let last : ToldFailed (told_in u script) (told_in u script') = told_fail u is.pairs script script' line is.are is.runs found ends in
        let on : FailedOver granted (told_in u script') home u k books (slice_get script'.lines.now script'.at) script'.progress unit b after =
        fails_to (slice_get script'.lines.now script'.at) script'.progress (told_in u script') (inr none) (omega (arith, last.granted)) in
        record { failed = on.failed; how = inr on.over; tells = last.tells (server_id home k) (known_of after.window).strokes; numbers = last.numbers granted }

-- ---- a line of the unit

pub logs_or : (verb : Verb) → LogsIn verb ⊎ (LogsIn verb → ⊥)
logs_or verbs.Login = inl tt
logs_or verbs.Reset = inl tt
logs_or verb = inr (λ logs. logs)

-- what was done at the pair of this client
pub acts_there : (P : Driver → Driver → Type 0) (o o' : Option Driver) (a b : Driver) → o ≡ Some a → o' ≡ Some b → OnDrivers o o' P → P a b
acts_there P o o' a b was there acts = subst (λ (x : Option Driver). OnDrivers (Some a) x P) there (subst (λ (x : Option Driver). OnDrivers x o' P) was acts)

own_turned : (granted : ℕ) (failed : Bool) (home u k : ℕ) (books : ServerBooks) (unit : Unit) (a b : Driver) (middle after : Pair) (script script' : Script) (line : Line)
    → StandsIn granted failed home u k books unit a b middle after script script' → slice_get script.lines.now script.at ≡ Some line → fails line.verb ≡ false
    → DoesOwn u line middle after script script' → TurnedOver granted home u k books unit b after (told_in u script) script'
own_turned granted failed home u k books unit a b middle after script script' line is found goes does = by does.step leads does.leaves
  where
    over : IsOverOwn granted failed (told_in u script) home u k books (Some line) script.progress unit a middle
    over = subst (λ (o : Option Line). IsOverOwn granted failed (told_in u script) home u k books o script.progress unit a middle) found is.over

    whole : IsOverOwn granted false (told_in u script) home u k books (Some line) script.progress unit a middle
    whole = subst (λ (b : Bool). IsOverOwn granted b (told_in u script) home u k books (Some line) script.progress unit a middle)
        (not_failed u failed line script.progress a.client (end_of [] middle.link false) goes over.stands) over

    acts : (names : List GName) × ActsFor line.number line.verb script.progress does.progress (acting_at names a middle) (acting_at names b after) does.step
    acts = acts_there (λ (x y : Driver). (names : List GName) × ActsFor line.number line.verb script.progress does.progress (acting_at names x middle) (acting_at names y after) does.step)
        middle.driver after.driver a b is.was is.there does.acts

    leads : StepsOver granted (told_in u script) script'.lines.now home u k books line (slice_get script'.lines.now script'.at) does.progress unit b after does.step
    leads = at (logs_or line.verb)
      where
        at : LogsIn line.verb ⊎ (LogsIn line.verb → ⊥)
            → StepsOver granted (told_in u script) script'.lines.now home u k books line (slice_get script'.lines.now script'.at) does.progress unit b after does.step
        at (inl logs) =
            logged_line acts.0 granted (told_in u script) script'.lines.now home u k books line (slice_get script'.lines.now script'.at) script.progress does.progress unit a b middle after does.step
            does.own logs is.id is.drives is.there whole does.lawful acts.1
        at (inr other) =
            line_steps acts.0 granted (told_in u script) script'.lines.now home u k books line (slice_get script'.lines.now script'.at) script.progress does.progress unit a b middle after does.step
            other (own_verb u script.at script.lines.now line is.own found does.own) is.drives whole acts.1

    by : (step : Step) → StepsOver granted (told_in u script) script'.lines.now home u k books line (slice_get script'.lines.now script'.at) does.progress unit b after step
        → StepLeaves line does.progress script script' step → TurnedOver granted home u k books unit b after (told_in u script) script'
    by (steps.Waits did) on leaves = subst (TurnedOver granted home u k books unit b after (told_in u script)) (sym leaves) (record {
      failed = false;
      how = inr (subst (λ (o : Option Line). IsOverOwn granted false (told_in u script) home u k books o does.progress unit b after) (sym found) on);
      tells = λ all. all;
      numbers = λ all. all;
    })
    by (steps.Ends outcome) on leaves =
        let e : Ended = record { verb = line.verb; outcome = outcome } in
        let more : told_in u script' ≡ told_in u script ++ e ∷ [] = told_own u is.pairs script script' line outcome is.are is.runs found does.own leaves in
        record {
          failed = false;
          how = subst (λ (told : List Ended). OverOrTalks granted false told script'.lines.now home u k books (slice_get script'.lines.now script'.at) script'.progress unit b after) (sym more)
              (subst (λ (p : Progress). OverOrTalks granted false (told_in u script ++ e ∷ []) script'.lines.now home u k books (slice_get script'.lines.now script'.at) p unit b after)
              (sym leaves.fresh) on.0);
          tells = λ all. subst (All (TellsOf (server_id home k) (known_of after.window).strokes)) (sym more)
              (All-push (TellsOf (server_id home k) (known_of after.window).strokes) (told_in u script) e all on.1);
          numbers = λ all. subst (All (λ (one : Ended). IsGrantOf granted one.outcome)) (sym more) (All-push (λ (one : Ended). IsGrantOf granted one.outcome) (told_in u script) e all on.2);
        }

-- ---- another unit's line

else_turned : (granted : ℕ) (failed : Bool) (home u k : ℕ) (books : ServerBooks) (unit : Unit) (a b : Driver) (middle after : Pair) (script script' : Script) (line : Line)
    → StandsIn granted failed home u k books unit a b middle after script script' → slice_get script.lines.now script.at ≡ Some line → fails line.verb ≡ false
    → DoesElse u line middle after script script' → TurnedOver granted home u k books unit b after (told_in u script) script'
else_turned granted failed home u k books unit a b middle after script script' line is found goes does = record {
  failed = failed;
  how = inr (subst (λ (told : List Ended). IsOverOwn granted failed told home u k books (slice_get script'.lines.now script'.at) script'.progress unit b after) (sym told) here);
  tells = λ all. subst (All (TellsOf (server_id home k) (known_of after.window).strokes)) (sym told) all;
  numbers = λ all. subst (All (λ (one : Ended). IsGrantOf granted one.outcome)) (sym told) all;
}
  where
    same : a ≡ b
    same = some_is a b (sym is.was ∙ (ap (λ (pair : Pair). pair.driver) (sym does.same) ∙ is.there))

    here : IsOverOwn granted failed (told_in u script) home u k books (slice_get script'.lines.now script'.at) script'.progress unit b after
    here = subst (λ (pair : Pair). IsOverOwn granted failed (told_in u script) home u k books (slice_get script'.lines.now script'.at) script'.progress unit b pair) (sym does.same)
        (subst (λ (driver : Driver). IsOverOwn granted failed (told_in u script) home u k books (slice_get script'.lines.now script'.at) script'.progress unit driver middle) same
        (over_other granted failed (told_in u script) home u k books line (slice_get script'.lines.now script'.at) script.progress script'.progress unit a middle does.other goes
        (subst (λ (o : Option Line). IsOverOwn granted failed (told_in u script) home u k books o script.progress unit a middle) found is.over)))

    by : (step : Step) → StepLeaves line does.progress script script' step → told_in u script' ≡ told_in u script
    by (steps.Waits did) leaves = ap (told_in u) leaves
    by (steps.Ends outcome) leaves = told_else u is.pairs script script' line outcome is.are is.runs found does.other leaves

    told : told_in u script' ≡ told_in u script
    told = by does.step does.leaves

-- ---- any of these

pub does_turned : (granted : ℕ) (failed : Bool) (home u k : ℕ) (books : ServerBooks) (unit : Unit) (a b : Driver) (middle after : Pair) (script script' : Script)
    → StandsIn granted failed home u k books unit a b middle after script script' → SeatDoes u middle after script script'
    → TurnedOver granted home u k books unit b after (told_in u script) script'
does_turned granted failed home u k books unit a b middle after script script' is (inl rests) = rest_turned granted failed home u k books unit a b middle after script script' is rests
does_turned granted failed home u k books unit a b middle after script script' is (inr does) = by does.how
  where
    by : DoesFail does.line middle after script script'
        ⊎ ((fails does.line.verb ≡ false) × (DoesOwn u does.line middle after script script' ⊎ DoesElse u does.line middle after script script'))
        → TurnedOver granted home u k books unit b after (told_in u script) script'
    by (inl gone) = fail_turned granted failed home u k books unit a b middle after script script' does.line is does.found gone
    by (inr (goes, inl own)) = own_turned granted failed home u k books unit a b middle after script script' does.line is does.found goes own
    by (inr (goes, inr other)) = else_turned granted failed home u k books unit a b middle after script script' does.line is does.found goes other
