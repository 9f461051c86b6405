-- An own client that talks with its server unit, at its pair in a turn of its script behind the events: what it comes to.
use Rattle.std.proofs.Common.{◌≡◌, ◌∙◌, ◌⊎◌, inl, inr, ℕ, ◌==◌, ◌++◌, All, Bool, true, false, List, [], ◌∷◌, Option, Some, None, refl, length, slice_get, sym, ap, subst}
use Rattle.std.specs.Borrow.{GName}
use Rattle.std.proofs.lemmas.List.Elements.{All-push}
use Rattle.boot_text.specs.declared.plan.Line.{Line}
use Rattle.unit_region.specs.declared.step.Step.{Step}
use Rattle.unit_region.specs.declared.step.Step.TheVariants as steps
use Rattle.crq_session.specs.PlainState.{side_of}
use Rattle.tce_window.specs.PlainPort.{known_of}
use Rattle.vio_num.specs.declared.names.UnitId.{UnitId}
use Rattle.block_server.specs.Talk.{Word}
use Rattle.block_server.specs.declared.unit.Unit.{Unit}
use Rattle.vio_trace.specs.declared.outcome.Outcome.{Outcome}
use Rattle.vio_trace.specs.declared.outcome.Outcome.TheVariants as outcomes
use Rattle.vcpu_run.specs.Acts.{ActsFor}
use Rattle.vcpu_run.specs.ActsAt.{EndsLine, PairActs, StepLeaves, acting_at}
use Rattle.vcpu_run.specs.Credited.{Ended}
use Rattle.vcpu_run.specs.Machines.{server_id}
use Rattle.vcpu_run.specs.OwnClients.{IsGrantOf, IsOwnClient}
use Rattle.vcpu_run.specs.OwnPairs.{IsOverOwn, TalksOwn}
use Rattle.vcpu_run.specs.OwnSteps.{LogsIn}
use Rattle.vcpu_run.specs.Pairs.{Drives}
use Rattle.vcpu_run.specs.PlainClients.{lie_behind, names_own, written_by}
use Rattle.vcpu_run.specs.PlainPairs.{ServerBooks}
use Rattle.vcpu_run.specs.PlainRejected.{TellsOf}
use Rattle.vcpu_run.specs.PlainScripts.{PairFailed, PairIs, PairNotes, PairSteppedOn, answers_in, told_in}
use Rattle.vcpu_run.specs.PlainSteps.{IsPlainVerb, RestsAs}
use Rattle.vcpu_run.specs.Replay.{Replay}
use Rattle.vcpu_run.specs.Scripts.{IsScript, OnlyRuns}
use Rattle.vcpu_run.specs.Works.{fails}
use Rattle.vcpu_run.specs.declared.driver.Driver.{Driver}
use Rattle.vcpu_run.specs.declared.pair.Pair.{Pair}
use Rattle.vcpu_run.specs.declared.script.Progress.{Progress}
use Rattle.vcpu_run.specs.declared.script.Progress.TheVariants as progress
use Rattle.vcpu_run.specs.declared.script.Script.{Script}
use Rattle.vcpu_run.proofs.OwnTurnFails.{failed_own, fails_last, fails_on}
use Rattle.vcpu_run.proofs.OwnTurnLeaves.{none_failed, told_else, told_fail, told_own}
use Rattle.vcpu_run.proofs.OwnTurnSays.{acts_number, says_number}
use Rattle.vcpu_run.proofs.OwnTurnSeats.{DoesElse, DoesFail, DoesOwn, DoesRest, SeatDoes, driver_goes}
use Rattle.vcpu_run.proofs.OwnTurnTalks.{TalksNow, other_ends_own, other_waits, own_ends, own_steps, own_waits, rests_own, spares_now}
use Rattle.vcpu_run.proofs.OwnTurnedOver.{acts_there, logs_or}
use Rattle.vcpu_run.proofs.PlainScripted.{notes_none}
use Rattle.vcpu_run.proofs.PlainSeated.{talks_at}
use Rattle.vcpu_run.proofs.PlainSpared.{filtered}
use Rattle.vcpu_run.proofs.PlainTellings.{drives_stay, lines_move}

-- ---- what a turn comes to

-- Behind it the two talk, or the session of the unit is over, or was; the client's lines tell what they may, and of each login that was granted as many
-- requests as were; and what it noted was laid.
pub record TurnedTo (granted : ℕ) (told told' : List Ended) (lines : List Line) (home u k : ℕ) (books : ServerBooks) (line : Option Line) (p : Progress) (unit : Unit) (old new : Pair) : Type 0 where
  pub failed : Bool
  pub words : List Word
  pub driver : Driver
  pub driver_is : new.driver ≡ Some driver
  pub how : TalksOwn granted told' lines home u k books words line p unit driver new ⊎ IsOverOwn granted failed told' home u k books line p unit driver new
  pub tells : All (TellsOf (server_id home k) (known_of old.window).strokes) told → All (TellsOf (server_id home k) (known_of new.window).strokes) told'
  pub numbers : All (λ e. IsGrantOf granted e.outcome) told → All (λ e. IsGrantOf granted e.outcome) told'
  pub notes : PairNotes (answers_in old.driver) new

-- the same of this script
abbrev pub TurnedIn : (granted home u k : ℕ) → ServerBooks → Unit → (old new : Pair) → (script script' : Script) → Type 0
TurnedIn granted home u k books unit old new script script' =
    TurnedTo granted (told_in u script) (told_in u script') script.lines.now home u k books (slice_get script.lines.now script'.at) script'.progress unit old new

-- where it stands so
pub turned_by : (granted home u k : ℕ) (books : ServerBooks) (unit : Unit) (old new : Pair) (script script' : Script) (told' : List Ended) (line' : Option Line) (p' : Progress)
    → told_in u script' ≡ told' → slice_get script.lines.now script'.at ≡ line' → script'.progress ≡ p'
    → TurnedTo granted (told_in u script) told' script.lines.now home u k books line' p' unit old new → TurnedIn granted home u k books unit old new script script'
turned_by granted home u k books unit old new script script' told' line' p' told line p is =
    subst (λ (t : List Ended). TurnedTo granted (told_in u script) t script.lines.now home u k books (slice_get script.lines.now script'.at) script'.progress unit old new) (sym told)
    (subst (λ (l : Option Line). TurnedTo granted (told_in u script) told' script.lines.now home u k books l script'.progress unit old new) (sym line)
    (subst (λ (q : Progress). TurnedTo granted (told_in u script) told' script.lines.now home u k books line' q unit old new) (sym p) is))

-- what its lines told before is so
pub tells_on : (who : UnitId) (told : List Ended) (old new : Pair) → Drives old new → All (TellsOf who (known_of old.window).strokes) told → All (TellsOf who (known_of new.window).strokes) told
tells_on who told old new drives = lines_move who who (known_of old.window).strokes (known_of new.window).strokes refl (drives_stay old new drives) told

talks_to : (granted : ℕ) (told told' : List Ended) (lines : List Line) (home u k : ℕ) (books : ServerBooks) (line : Option Line) (p : Progress) (unit : Unit) (old new : Pair)
    → TalksNow granted told' lines home u k books line p unit new
    → (All (TellsOf (server_id home k) (known_of old.window).strokes) told → All (TellsOf (server_id home k) (known_of new.window).strokes) told')
    → (All (λ e. IsGrantOf granted e.outcome) told → All (λ e. IsGrantOf granted e.outcome) told')
    → PairNotes (answers_in old.driver) new → TurnedTo granted told told' lines home u k books line p unit old new
talks_to granted told told' lines home u k books line p unit old new now tells numbers notes = record {
  failed = false;
  words = now.words;
  driver = now.driver;
  driver_is = now.driver_is;
  how = inl now.talks;
  tells = tells;
  numbers = numbers;
  notes = notes;
}

-- ---- its own line

own_plain : (u n : ℕ) (lines : List Line) (line : Line) → IsOwnClient u lines → slice_get lines n ≡ Some line → (line.unit == u) ≡ true → IsPlainVerb line.verb
own_plain u n lines line is found own = record {
  own_entry = filtered u (λ l. names_own l.verb ≡ true) lines n line is.own_entries found own;
  behind = filtered u (λ l. lie_behind (written_by l.verb) ≡ true) lines n line is.behind found own;
}

-- where its line says that a login was granted, it says that this many requests were
own_number : (granted : ℕ) (unit : Unit) (a : Driver) (line : Line) (p p' : Progress) (now : Replay) (middle after : Pair) (outcome : Outcome) → middle.driver ≡ Some a → Drives middle after
    → PairActs line p p' middle after (steps.Ends outcome) → PairSteppedOn granted unit line.verb p' now middle after (steps.Ends outcome) → IsGrantOf granted outcome
own_number granted unit a line p p' now middle after outcome was drives acts on = by (logs_or line.verb)
  where
    there : (b : Driver) × (after.driver ≡ Some b)
    there = driver_goes middle after a was drives

    its : (names : List GName) × ActsFor line.number line.verb p p' (acting_at names a middle) (acting_at names there.0 after) (steps.Ends outcome)
    its = acts_there (λ (x y : Driver). (names : List GName) × ActsFor line.number line.verb p p' (acting_at names x middle) (acting_at names y after) (steps.Ends outcome))
        middle.driver after.driver a there.0 was there.1 acts

    by : LogsIn line.verb ⊎ (LogsIn line.verb → ⊥) → IsGrantOf granted outcome
    by (inl logs) = says_number granted (length after.window.pages) now line.verb outcome logs on.stepped.0
    by (inr other) = acts_number granted line.number line.verb p p' (acting_at its.0 a middle) (acting_at its.0 there.0 after) outcome other its.1

talks_own : (granted home u k : ℕ) (books : ServerBooks) (unit : Unit) (a : Driver) (line : Line) (middle after : Pair) (pairs : List Pair) (script script' : Script)
    → IsScript pairs script → OnlyRuns script script' → IsOwnClient u script.lines.now → unit.id ≡ server_id home k → middle.driver ≡ Some a → Drives middle after
    → slice_get script.lines.now script.at ≡ Some line → fails line.verb ≡ false → DoesOwn u line middle after script script'
    → TalksOwn granted (told_in u script) script.lines.now home u k books [] (Some line) script.progress unit a middle → TurnedIn granted home u k books unit middle after script script'
talks_own granted home u k books unit a line middle after pairs script script' are runs own id was drives found goes does is = by does.step does.acts does.leaves on
  where
    told : List Ended
    told = told_in u script

    on : PairSteppedOn granted unit line.verb does.progress is.now middle after does.step
    on = own_steps granted told script.lines.now home u k books line script.progress does.progress unit a middle after does.step does.own goes was is
        (own_plain u script.at script.lines.now line own found does.own) (spares_now u script.at script.lines.now line is.now own found does.own is.spares) does.plainly

    by : (step : Step) → PairActs line script.progress does.progress middle after step → StepLeaves line does.progress script script' step
        → PairSteppedOn granted unit line.verb does.progress is.now middle after step
        → TurnedIn granted home u k books unit middle after script script'
    by (steps.Waits did) acts leaves on = turned_by granted home u k books unit middle after script script' told (Some line) does.progress
        (ap (told_in u) leaves) (ap (λ (s : Script). slice_get script.lines.now s.at) leaves ∙ found) (ap (λ (s : Script). s.progress) leaves)
        (talks_to granted told told script.lines.now home u k books (Some line) does.progress unit middle after
        (own_waits granted told script.lines.now home u k books line script.progress does.progress unit a middle after did does.own was is on)
        (tells_on (server_id home k) told middle after drives) (λ all. all) on.noted)
    by (steps.Ends outcome) acts leaves on = turned_by granted home u k books unit middle after script script' (told ++ record { verb = line.verb; outcome = outcome } ∷ [])
        (slice_get script.lines.now script'.at) progress.Fresh (told_own u pairs script script' line outcome are runs found does.own leaves) refl leaves.fresh
        (talks_to granted told (told ++ record { verb = line.verb; outcome = outcome } ∷ []) script.lines.now home u k books (slice_get script.lines.now script'.at) progress.Fresh unit middle after
        (own_ends granted script.at told script.lines.now home u k books line (slice_get script.lines.now script'.at) script.progress does.progress unit a middle after outcome found does.own was is on)
        (λ all. All-push (TellsOf (server_id home k) (known_of after.window).strokes) told (record { verb = line.verb; outcome = outcome })
        (tells_on (server_id home k) told middle after drives all)
        (subst (λ (who : UnitId). TellsOf who (known_of after.window).strokes (record { verb = line.verb; outcome = outcome })) id on.laid))
        (λ all. All-push (λ (e : Ended). IsGrantOf granted e.outcome) told (record { verb = line.verb; outcome = outcome }) all
        (own_number granted unit a line script.progress does.progress is.now middle after outcome was drives acts on)) on.noted)

-- ---- another's

talks_else : (granted home u k : ℕ) (books : ServerBooks) (unit : Unit) (a : Driver) (line : Line) (middle after : Pair) (pairs : List Pair) (script script' : Script)
    → IsScript pairs script → OnlyRuns script script' → middle.driver ≡ Some a → slice_get script.lines.now script.at ≡ Some line → fails line.verb ≡ false
    → DoesElse u line middle after script script'
    → TalksOwn granted (told_in u script) script.lines.now home u k books [] (Some line) script.progress unit a middle → TurnedIn granted home u k books unit middle after script script'
talks_else granted home u k books unit a line middle after pairs script script' are runs was found goes does is =
    subst (λ (pair : Pair). TurnedIn granted home u k books unit middle pair script script') (sym does.same) (by does.step does.leaves)
  where
    told : List Ended
    told = told_in u script

    stays : (line' : Option Line) (p' : Progress) → TalksOwn granted told script.lines.now home u k books [] line' p' unit a middle
        → TurnedTo granted told told script.lines.now home u k books line' p' unit middle middle
    stays line' p' talks = talks_to granted told told script.lines.now home u k books line' p' unit middle middle
        (record { words = []; driver = a; driver_is = was; talks = talks }) (λ all. all) (λ all. all) (notes_none middle middle refl)

    by : (step : Step) → StepLeaves line does.progress script script' step → TurnedIn granted home u k books unit middle middle script script'
    by (steps.Waits did) leaves = turned_by granted home u k books unit middle middle script script' told (Some line) does.progress
        (ap (told_in u) leaves) (ap (λ (s : Script). slice_get script.lines.now s.at) leaves ∙ found) (ap (λ (s : Script). s.progress) leaves)
        (stays (Some line) does.progress (other_waits granted told script.lines.now home u k books line script.progress does.progress unit a middle does.other goes is))
    by (steps.Ends outcome) leaves = turned_by granted home u k books unit middle middle script script' told (slice_get script.lines.now script'.at) progress.Fresh
        (told_else u pairs script script' line outcome are runs found does.other leaves) refl leaves.fresh
        (stays (slice_get script.lines.now script'.at) progress.Fresh
        (other_ends_own granted told script.lines.now home u k books line (slice_get script.lines.now script'.at) script.progress unit a middle does.other goes is))

-- ---- the partition fails

talks_fail : (granted home u k : ℕ) (books : ServerBooks) (unit : Unit) (a : Driver) (line : Line) (middle after : Pair) (pairs : List Pair) (script script' : Script)
    → IsScript pairs script → OnlyRuns script script' → middle.driver ≡ Some a → Drives middle after → slice_get script.lines.now script.at ≡ Some line
    → DoesFail line middle after script script'
    → TalksOwn granted (told_in u script) script.lines.now home u k books [] (Some line) script.progress unit a middle → TurnedIn granted home u k books unit middle after script script'
talks_fail granted home u k books unit a line middle after pairs script script' are runs was drives found does is = by does.leaves
  where
    told : List Ended
    told = told_in u script

    failed : PairFailed granted unit [] middle after
    failed = failed_own granted told script.lines.now home u k books line script.progress unit a middle after does.failing was is does.plainly

    by : (script' ≡ script) ⊎ (EndsLine line outcomes.Done script script' × ((side_of after.link false).registered ≡ false)) → TurnedIn granted home u k books unit middle after script script'
    by (inl same) = turned_by granted home u k books unit middle after script script' told (Some line) script.progress
        (ap (told_in u) same) (ap (λ (s : Script). slice_get script.lines.now s.at) same ∙ found) (ap (λ (s : Script). s.progress) same)
        (talks_to granted told told script.lines.now home u k books (Some line) script.progress unit middle after
        (fails_on granted told script.lines.now home u k books line script.progress unit a middle after does.failing was is does.plainly)
        (tells_on (server_id home k) told middle after drives) (λ all. all) (notes_none middle after failed.answers))
    by (inr ends) =
        let later = told_fail u pairs script script' line are runs found ends.0 in
        turned_by granted home u k books unit middle after script script' (told_in u script') None script'.progress refl (none_failed script script' line does.failing ends.0) refl
        (talks_to granted told (told_in u script') script.lines.now home u k books None script'.progress unit middle after
        (fails_last granted told (told_in u script') script.lines.now home u k books line script.progress script'.progress unit a middle after does.failing was later.granted ends.1 is does.plainly)
        (λ all. later.tells (server_id home k) (known_of after.window).strokes (tells_on (server_id home k) told middle after drives all))
        (later.numbers granted) (notes_none middle after failed.answers))

-- ---- behind the last line

talks_rest : (granted home u k : ℕ) (books : ServerBooks) (unit : Unit) (a : Driver) (middle after : Pair) (script script' : Script) → middle.driver ≡ Some a → Drives middle after
    → DoesRest middle after script script'
    → TalksOwn granted (told_in u script) script.lines.now home u k books [] None script.progress unit a middle → TurnedIn granted home u k books unit middle after script script'
talks_rest granted home u k books unit a middle after script script' was drives does is =
    turned_by granted home u k books unit middle after script script' told None script.progress
    (ap (told_in u) does.leaves) (ap (λ (s : Script). slice_get script.lines.now s.at) does.leaves ∙ does.none) (ap (λ (s : Script). s.progress) does.leaves)
    (talks_to granted told told script.lines.now home u k books None script.progress unit middle after
    (rests_own granted told script.lines.now home u k books script.progress unit a middle after was is does.plainly)
    (tells_on (server_id home k) told middle after drives) (λ all. all) (notes is.stands))
  where
    told : List Ended
    told = told_in u script

    notes : (later : Replay) × PairIs (RestsAs granted later) middle → PairNotes (answers_in middle.driver) after
    notes follows = (does.plainly granted unit follows.0 (talks_at granted unit [] middle a was is.talks) follows.1).4 (answers_in middle.driver) (notes_none middle middle refl)

-- ---- whatever is done

pub talks_turned : (granted home u k : ℕ) (books : ServerBooks) (unit : Unit) (a : Driver) (middle after : Pair) (pairs : List Pair) (script script' : Script)
    → IsScript pairs script → OnlyRuns script script' → IsOwnClient u script.lines.now → unit.id ≡ server_id home k → middle.driver ≡ Some a → Drives middle after
    → SeatDoes u middle after script script'
    → TalksOwn granted (told_in u script) script.lines.now home u k books [] (slice_get script.lines.now script.at) script.progress unit a middle
    → TurnedIn granted home u k books unit middle after script script'
talks_turned granted home u k books unit a middle after pairs script script' are runs own id was drives (inl rests) is =
    talks_rest granted home u k books unit a middle after script script' was drives rests
    (subst (λ (o : Option Line). TalksOwn granted (told_in u script) script.lines.now home u k books [] o script.progress unit a middle) rests.none is)
talks_turned granted home u k books unit a middle after pairs script script' are runs own id was drives (inr does) is = by does.how
  where
    at : TalksOwn granted (told_in u script) script.lines.now home u k books [] (Some does.line) script.progress unit a middle
    at = subst (λ (o : Option Line). TalksOwn granted (told_in u script) script.lines.now home u k books [] o script.progress unit a middle) does.found is

    by : DoesFail does.line middle after script script' ⊎ ((fails does.line.verb ≡ false) × (DoesOwn u does.line middle after script script' ⊎ DoesElse u does.line middle after script script'))
        → TurnedIn granted home u k books unit middle after script script'
    by (inl failing) = talks_fail granted home u k books unit a does.line middle after pairs script script' are runs was drives does.found failing at
    by (inr (goes, inl its)) = talks_own granted home u k books unit a does.line middle after pairs script script' are runs own id was drives does.found goes its at
    by (inr (goes, inr other)) = talks_else granted home u k books unit a does.line middle after pairs script script' are runs was does.found goes other at
