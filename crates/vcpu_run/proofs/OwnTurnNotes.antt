-- What an own client notes in a turn of its script, its server unit's session being over, or having been: another unit laid it. And what its lines
-- keep of a client, whatever stands between it and its unit.
use Rattle.std.proofs.Common.{◌≡◌, ◌∙◌, ◌⊎◌, inl, inr, ℕ, Bool, false, List, [], ◌∷◌, Option, Some, None, refl, sym, ap, subst, slice_get}
use Rattle.std.specs.Borrow.{GName}
use Rattle.boot_text.specs.declared.plan.Line.{Line}
use Rattle.boot_text.specs.declared.verb.Verb.{Verb}
use Rattle.boot_text.specs.declared.verb.Verb.TheVariants as verbs
use Rattle.crq_session.specs.EndState.{EndState}
use Rattle.crq_session.specs.PlainState.{end_of}
use Rattle.tce_window.specs.PlainPort.{known_of}
use Rattle.block_server.specs.declared.unit.Unit.{Unit}
use Rattle.unit_region.specs.declared.step.Step.{Step}
use Rattle.vscsi_client.specs.State.{ClientState}
use Rattle.vcpu_run.specs.Acts.{Acting, ActsFor, ResetsFirst, ResetsOnce}
use Rattle.vcpu_run.specs.ActsAt.{FailsOnce, LeadsOver, acting_at}
use Rattle.vcpu_run.specs.Agreed.{OnDrivers}
use Rattle.vcpu_run.specs.OwnPairs.{IsOverOwn, RestsIdle, StandsOver, doing_of}
use Rattle.vcpu_run.specs.OwnSteps.{LogsIn}
use Rattle.vcpu_run.specs.PlainNoted.{NotesLaid}
use Rattle.vcpu_run.specs.PlainPairs.{ServerBooks}
use Rattle.vcpu_run.specs.PlainScripts.{PairNotes, answers_in, told_in}
use Rattle.vcpu_run.specs.Works.{fails}
use Rattle.vcpu_run.specs.declared.driver.Driver.{Driver}
use Rattle.vcpu_run.specs.declared.pair.Pair.{Pair}
use Rattle.vcpu_run.specs.declared.script.Progress.{Progress}
use Rattle.vcpu_run.specs.declared.script.Script.{Script}
use Rattle.vcpu_run.proofs.OwnActAlone.{acts_alone}
use Rattle.vcpu_run.proofs.OwnActLines.{acts_over}
use Rattle.vcpu_run.proofs.OwnActOwn.{rests_at}
use Rattle.vcpu_run.proofs.OwnTurnLeads.{leads_takes}
use Rattle.vcpu_run.proofs.OwnTurnSeats.{DoesElse, DoesFail, DoesOwn, DoesRest, SeatDoes}
use Rattle.vcpu_run.proofs.OwnTurnSteps.{line_rests, not_failed, own_verb}
use Rattle.vcpu_run.proofs.OwnTurnedOver.{StandsIn, acts_there, logs_or}
use Rattle.vcpu_run.proofs.PlainScripted.{notes_none}

-- ---- nothing is noted

reset_notes : (line : ℕ) (p p' : Progress) (old new : Acting) (step : Step) → ResetsOnce line p p' old new step → new.answers ≡ old.answers
reset_notes line p p' old new step (inl logs) = logs.1.answers
reset_notes line p p' old new step (inr (going, first)) = by first
  where
    by : ResetsFirst line p p' old new step → new.answers ≡ old.answers
    by (inl frees) = frees.0.answers
    by (inr (inl logs)) = logs.0.logs.answers
    by (inr (inr used)) = used.0.client.answers

logs_note : (line : ℕ) (verb : Verb) (p p' : Progress) (old new : Acting) (step : Step) → LogsIn verb → ActsFor line verb p p' old new step → new.answers ≡ old.answers
logs_note line verbs.Login p p' old new step logs acts = acts.answers
logs_note line verbs.Reset p p' old new step logs acts = reset_notes line p p' old new step acts
logs_note line verb p p' old new step logs acts = absurd logs

fails_note : (old new : Acting) → FailsOnce old new → new.answers ≡ old.answers
fails_note old new (inl fails) = fails.answers
fails_note old new (inr (inl free)) = free.client.answers
fails_note old new (inr (inr used)) = used.client.answers

fails_notes : (over : List Pair) (old new : Pair) → LeadsOver FailsOnce over old new → answers_in new.driver ≡ answers_in old.driver
fails_notes [] old new same = ap (λ (pair : Pair). answers_in pair.driver) same
fails_notes (next ∷ over) old new did = fails_notes over next new did.1 ∙ one old.driver next.driver did.0
  where
    one : (o o' : Option Driver) → OnDrivers o o' (λ a b. (names : List GName) × FailsOnce (acting_at names a old) (acting_at names b next)) → answers_in o' ≡ answers_in o
    one (Some a) (Some b) (names, fails) = fails_note (acting_at names a old) (acting_at names b next) fails
    one None None did = refl
    one (Some a) None did = absurd did
    one None (Some b) did = absurd did

-- ---- what is noted was laid

pair_notes : (a b : Driver) (old new : Pair) → old.driver ≡ Some a → new.driver ≡ Some b → NotesLaid new.window.unit (known_of new.window).strokes a.answers.items b.answers.items
    → PairNotes (answers_in old.driver) new
pair_notes a b old new was there notes =
    subst (λ (o : Option Driver). NotesLaid new.window.unit (known_of new.window).strokes (answers_in o) (answers_in new.driver)) (sym was)
    (subst (λ (o : Option Driver). NotesLaid new.window.unit (known_of new.window).strokes a.answers.items (answers_in o)) (sym there) notes)

idle_last : (u : ℕ) (failed : Bool) (p : Progress) (s : ClientState) (own : EndState) → StandsOver u failed None p s own → RestsIdle s
idle_last u failed p s own (inl gone) = gone.1
idle_last u failed p s own (inr is) = is.0

rest_notes : (granted : ℕ) (failed : Bool) (home u k : ℕ) (books : ServerBooks) (unit : Unit) (a b : Driver) (middle after : Pair) (script script' : Script)
    → StandsIn granted failed home u k books unit a b middle after script script' → DoesRest middle after script script' → PairNotes (answers_in middle.driver) after
rest_notes granted failed home u k books unit a b middle after script script' is does =
    pair_notes a b middle after is.was is.there (leads_takes granted failed does.acts.over (doing_of unit home k books middle) a b middle after is.was is.there
    (rests_at [] granted failed (told_in u script) home u k books None script.progress unit a middle over
    (idle_last u failed script.progress a.client (end_of [] middle.link false) over.stands)) does.acts.leads).led.goes.noted
  where
    over : IsOverOwn granted failed (told_in u script) home u k books None script.progress unit a middle
    over = subst (λ (o : Option Line). IsOverOwn granted failed (told_in u script) home u k books o script.progress unit a middle) does.none is.over

own_notes : (granted : ℕ) (failed : Bool) (home u k : ℕ) (books : ServerBooks) (unit : Unit) (a b : Driver) (middle after : Pair) (script script' : Script) (line : Line)
    → StandsIn granted failed home u k books unit a b middle after script script' → slice_get script.lines.now script.at ≡ Some line → fails line.verb ≡ false
    → DoesOwn u line middle after script script' → PairNotes (answers_in middle.driver) after
own_notes granted failed home u k books unit a b middle after script script' line is found goes does = at (logs_or line.verb)
  where
    over : IsOverOwn granted failed (told_in u script) home u k books (Some line) script.progress unit a middle
    over = subst (λ (o : Option Line). IsOverOwn granted failed (told_in u script) home u k books o script.progress unit a middle) found is.over

    whole : IsOverOwn granted false (told_in u script) home u k books (Some line) script.progress unit a middle
    whole = subst (λ (b : Bool). IsOverOwn granted b (told_in u script) home u k books (Some line) script.progress unit a middle)
        (not_failed u failed line script.progress a.client (end_of [] middle.link false) goes over.stands) over

    acts : (names : List GName) × ActsFor line.number line.verb script.progress does.progress (acting_at names a middle) (acting_at names b after) does.step
    acts = acts_there (λ (x y : Driver). (names : List GName) × ActsFor line.number line.verb script.progress does.progress (acting_at names x middle) (acting_at names y after) does.step)
        middle.driver after.driver a b is.was is.there does.acts

    at : LogsIn line.verb ⊎ (LogsIn line.verb → ⊥) → PairNotes (answers_in middle.driver) after
    at (inl logs) =
        notes_none middle after (ap answers_in is.there
        ∙ logs_note line.number line.verb script.progress does.progress (acting_at acts.0 a middle) (acting_at acts.0 b after) does.step logs acts.1 ∙ sym (ap answers_in is.was))
    at (inr other) =
        pair_notes a b middle after is.was is.there (acts_over granted false line.number line.verb script.progress does.progress (doing_of unit home k books middle)
        (acting_at acts.0 a middle) (acting_at acts.0 b after) does.step other (own_verb u script.at script.lines.now line is.own found does.own)
        (rests_at acts.0 granted false (told_in u script) home u k books (Some line) script.progress unit a middle whole (line_rests u line script.progress a middle other whole.stands).0)
        (acts_alone line.number line.verb script.progress does.progress (acting_at acts.0 a middle) (acting_at acts.0 b after) does.step (record { crq = refl; own = refl }) acts.1)).goes.noted

pub notes_turned : (granted : ℕ) (failed : Bool) (home u k : ℕ) (books : ServerBooks) (unit : Unit) (a b : Driver) (middle after : Pair) (script script' : Script)
    → StandsIn granted failed home u k books unit a b middle after script script' → SeatDoes u middle after script script' → PairNotes (answers_in middle.driver) after
notes_turned granted failed home u k books unit a b middle after script script' is (inl rests) = rest_notes granted failed home u k books unit a b middle after script script' is rests
notes_turned granted failed home u k books unit a b middle after script script' is (inr does) = by does.how
  where
    by : DoesFail does.line middle after script script'
        ⊎ ((fails does.line.verb ≡ false) × (DoesOwn u does.line middle after script script' ⊎ DoesElse u does.line middle after script script')) → PairNotes (answers_in middle.driver) after
    by (inl gone) = notes_none middle after (fails_notes gone.acts.over middle after gone.acts.leads)
    by (inr (goes, inl own)) = own_notes granted failed home u k books unit a b middle after script script' does.line is does.found goes own
    by (inr (goes, inr other)) = notes_none middle after (ap (λ (pair : Pair). answers_in pair.driver) other.same)
