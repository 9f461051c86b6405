-- An own client that talks with its server unit, at its pair in a turn of its script: with whatever replay leads to where its line came, its line
-- goes on as the replay, and the two talk on.
use Rattle.std.proofs.Common.{◌≡◌, ◌∙◌, inl, inr, ℕ, ◌+◌, ◌≤◌, ◌==◌, ◌++◌, ◌&&◌, not, Bool, true, false, IsSomeAnd, List, [], ◌∷◌, Option, Some, None, Ok, is_some, length, refl, slice_get, ap, subst, arith}
use Rattle.boot_text.specs.declared.plan.Line.{Line}
use Rattle.boot_text.specs.declared.verb.Verb.{Verb}
use Rattle.crq_session.specs.PlainState.{side_of}
use Rattle.unit_region.specs.declared.step.Step.{Step}
use Rattle.unit_region.specs.declared.step.Step.TheVariants as steps
use Rattle.vio_num.specs.declared.hypervisor.Moved.{Moved}
use Rattle.vio_trace.specs.declared.outcome.Outcome.{Outcome}
use Rattle.block_server.specs.Talk.{Word}
use Rattle.block_server.specs.declared.unit.Unit.{Unit}
use Rattle.vcpu_run.specs.Credited.{Ended}
use Rattle.vcpu_run.specs.Machines.{server_id}
use Rattle.vcpu_run.specs.OwnClients.{IsOwnClient}
use Rattle.vcpu_run.specs.OwnPairs.{SparesLines, TalksOwn}
use Rattle.vcpu_run.specs.PlainClients.{granted_in, grants_of, lines_of, tables_in, written_by}
use Rattle.vcpu_run.specs.PlainPairs.{ServerBooks, between_of}
use Rattle.vcpu_run.specs.PlainScripts.{OfUnit, PairIs, PairPlainly, PairRestsPlainly, PairSteppedOn, PairTalksOn, StandsAt}
use Rattle.vcpu_run.specs.PlainSteps.{FollowsReplay, HasCome, IsPlainVerb, RestsAs, SparesTables, WasFailed, granted_by}
use Rattle.vcpu_run.specs.PlainTalk.{TalksPlainly, owes}
use Rattle.vcpu_run.specs.Replay.{Replay, after_line, any_share}
use Rattle.vcpu_run.specs.Works.{fails}
use Rattle.vcpu_run.specs.declared.driver.Driver.{Driver}
use Rattle.vcpu_run.specs.declared.pair.Pair.{Pair}
use Rattle.vcpu_run.specs.declared.script.Progress.{Progress}
use Rattle.vcpu_run.specs.declared.script.Progress.TheVariants as progress
use Rattle.vcpu_run.proofs.PlainAsking.{follows_still}
use Rattle.vcpu_run.proofs.PlainOwed.{one_if}
use Rattle.vcpu_run.proofs.PlainReplayed.{come_still}
use Rattle.vcpu_run.proofs.PlainScripted.{granted_more, other_stands, own_stands, pair_still, stands_next, stands_other, stands_own}
use Rattle.vcpu_run.proofs.PlainSeated.{driver_of, owes_there, talks_at}
use Rattle.vcpu_run.proofs.PlainSpared.{filtered, line_spares, table_in}
use Rattle.vcpu_run.proofs.PlainTurning.{rests_either, rests_owe}

-- The two talk, and these words are to come.
pub record TalksNow (granted : ℕ) (told : List Ended) (lines : List Line) (home u k : ℕ) (books : ServerBooks) (line : Option Line) (p : Progress) (unit : Unit) (pair : Pair) : Type 0 where
  pub words : List Word
  pub driver : Driver
  pub driver_is : pair.driver ≡ Some driver
  pub talks : TalksOwn granted told lines home u k books words line p unit driver pair

-- ---- its own line

-- it writes on no page of a table of what is outstanding
pub spares_now : (u n : ℕ) (lines : List Line) (line : Line) (now : Replay) → IsOwnClient u lines → slice_get lines n ≡ Some line → (line.unit == u) ≡ true → SparesLines u lines now
    → SparesTables line.verb now
spares_now u n lines line now is found own spares =
    spares (written_by line.verb)
    (table_in (written_by line.verb) (lines_of u lines) (filtered u (λ l. any_share (written_by l.verb) (tables_in (lines_of u lines)) ≡ false) lines n line is.no_table found own))

-- what a step of it leaves
pub own_steps : (granted : ℕ) (told : List Ended) (lines : List Line) (home u k : ℕ) (books : ServerBooks) (line : Line) (p p' : Progress) (unit : Unit) (a : Driver) (old new : Pair) (step : Step)
    → (line.unit == u) ≡ true → fails line.verb ≡ false → old.driver ≡ Some a → (is : TalksOwn granted told lines home u k books [] (Some line) p unit a old) → IsPlainVerb line.verb
    → SparesTables line.verb is.now → PairPlainly line.verb p p' old new (Ok step) → PairSteppedOn granted unit line.verb p' is.now old new step
own_steps granted told lines home u k books line p p' unit a old new step own goes was is verb spares plainly =
    plainly verb granted unit is.now spares (talks_at granted unit [] old a was is.talks) (stands_own granted u line (Some line) p is.now old refl goes own is.stands)

-- it is owed what it was, but for what it is told
owed_on : (granted : ℕ) (told told' : List Ended) (home k : ℕ) (books : ServerBooks) (unit : Unit) (a b : Driver) (old new : Pair) (words : List Word) (more : ℕ)
    → old.driver ≡ Some a → new.driver ≡ Some b → granted_in told' ≡ granted_in told + more
    → granted_in told + owes (between_of unit a old) [] ≤ grants_of (server_id home k) books.lines
    → more + owes (between_of unit b new) words ≤ owes (between_of unit a old) []
    → granted_in told' + owes (between_of unit b new) words ≤ grants_of (server_id home k) books.lines
owed_on granted told told' home k books unit a b old new words more was there same owed less = omega (arith, same, owed, less)

told_owed : (granted : ℕ) (unit : Unit) (verb : Verb) (p : Progress) (now : Replay) (a b : Driver) (old new : Pair) (step : Step) → old.driver ≡ Some a → new.driver ≡ Some b
    → (on : PairSteppedOn granted unit verb p now old new step) → granted_by step + owes (between_of unit b new) on.words ≤ owes (between_of unit a old) []
told_owed granted unit verb p now a b old new step was there on = omega (arith, on.told, owes_there unit on.words new b there, owes_there unit [] old a was)

-- it is to be gone on with
pub own_waits : (granted : ℕ) (told : List Ended) (lines : List Line) (home u k : ℕ) (books : ServerBooks) (line : Line) (p p' : Progress) (unit : Unit) (a : Driver) (old new : Pair) (did : Moved)
    → (line.unit == u) ≡ true → old.driver ≡ Some a → (is : TalksOwn granted told lines home u k books [] (Some line) p unit a old)
    → PairSteppedOn granted unit line.verb p' is.now old new (steps.Waits did) → TalksNow granted told lines home u k books (Some line) p' unit new
own_waits granted told lines home u k books line p p' unit a old new did own was is on =
    let at = driver_of (λ (b : Driver). TalksPlainly granted (between_of unit b new) on.words) new.driver on.talks in
    record {
      words = on.words;
      driver = at.0;
      driver_is = at.1;
      talks = record {
        talks = at.2;
        owed = owed_on granted told told home k books unit a at.0 old new on.words 0 was at.1 (omega arith) is.owed
            (told_owed granted unit line.verb p' is.now a at.0 old new (steps.Waits did) was at.1 on);
        now = is.now;
        spares = is.spares;
        stands = own_stands granted u line (Some line) p' is.now new refl own on.stepped.0;
      };
    }

-- it ends, and another comes, or none
pub own_ends : (granted n : ℕ) (told : List Ended) (lines : List Line) (home u k : ℕ) (books : ServerBooks) (line : Line) (line' : Option Line) (p p' : Progress) (unit : Unit) (a : Driver) (old new : Pair)
    (outcome : Outcome) → slice_get lines n ≡ Some line → (line.unit == u) ≡ true → old.driver ≡ Some a → (is : TalksOwn granted told lines home u k books [] (Some line) p unit a old)
    → PairSteppedOn granted unit line.verb p' is.now old new (steps.Ends outcome)
    → TalksNow granted (told ++ record { verb = line.verb; outcome = outcome } ∷ []) lines home u k books line' progress.Fresh unit new
own_ends granted n told lines home u k books line line' p p' unit a old new outcome found own was is on =
    let at = driver_of (λ (b : Driver). TalksPlainly granted (between_of unit b new) on.words) new.driver on.talks in
    let ended : Ended = record { verb = line.verb; outcome = outcome } in
    record {
      words = on.words;
      driver = at.0;
      driver_is = at.1;
      talks = record {
        talks = at.2;
        owed = owed_on granted told (told ++ ended ∷ []) home k books unit a at.0 old new on.words (granted_by (steps.Ends outcome)) was at.1 (granted_more told ended) is.owed
            (told_owed granted unit line.verb p' is.now a at.0 old new (steps.Ends outcome) was at.1 on);
        now = after_line granted (length new.window.pages) is.now line.verb;
        spares = line_spares granted (length new.window.pages) u n lines line is.now found own is.spares;
        stands = stands_next granted u line' (after_line granted (length new.window.pages) is.now line.verb) new on.stepped.1;
      };
    }

-- ---- another unit's line

pub other_waits : (granted : ℕ) (told : List Ended) (lines : List Line) (home u k : ℕ) (books : ServerBooks) (line : Line) (p p' : Progress) (unit : Unit) (a : Driver) (pair : Pair)
    → (line.unit == u) ≡ false → fails line.verb ≡ false → TalksOwn granted told lines home u k books [] (Some line) p unit a pair
    → TalksOwn granted told lines home u k books [] (Some line) p' unit a pair
other_waits granted told lines home u k books line p p' unit a pair other goes is = record {
  talks = is.talks;
  owed = is.owed;
  now = is.now;
  spares = is.spares;
  stands = other_stands granted u line (Some line) p' is.now pair refl other (stands_other granted u line (Some line) p is.now pair refl goes other is.stands);
}

pub other_ends_own : (granted : ℕ) (told : List Ended) (lines : List Line) (home u k : ℕ) (books : ServerBooks) (line : Line) (line' : Option Line) (p : Progress) (unit : Unit) (a : Driver) (pair : Pair)
    → (line.unit == u) ≡ false → fails line.verb ≡ false → TalksOwn granted told lines home u k books [] (Some line) p unit a pair
    → TalksOwn granted told lines home u k books [] line' progress.Fresh unit a pair
other_ends_own granted told lines home u k books line line' p unit a pair other goes is = record {
  talks = is.talks;
  owed = is.owed;
  now = is.now;
  spares = is.spares;
  stands = stands_next granted u line' is.now pair (stands_other granted u line (Some line) p is.now pair refl goes other is.stands);
}

-- ---- behind the last line

pub rests_own : (granted : ℕ) (told : List Ended) (lines : List Line) (home u k : ℕ) (books : ServerBooks) (p : Progress) (unit : Unit) (a : Driver) (old new : Pair) → old.driver ≡ Some a
    → TalksOwn granted told lines home u k books [] None p unit a old → PairRestsPlainly old new → TalksNow granted told lines home u k books None p unit new
rests_own granted told lines home u k books p unit a old new was is rests =
    let follows : (later : Replay) × PairIs (RestsAs granted later) old = is.stands in
    let later = rests granted unit follows.0 (talks_at granted unit [] old a was is.talks) follows.1 in
    let at = driver_of (λ (b : Driver). TalksPlainly granted (between_of unit b new) []) new.driver later.0 in
    record {
      words = [];
      driver = at.0;
      driver_is = at.1;
      talks = record {
        talks = at.2;
        owed = owed_on granted told told home k books unit a at.0 old new [] 0 was at.1 (omega arith) is.owed
            (omega (arith, rests_owe granted unit later.2 new later.0 later.3, owes_there unit [] new at.0 at.1));
        now = is.now;
        spares = is.spares;
        stands = (later.2, later.3);
      };
    }

-- ---- events are put: the client is as it was

stands_moved : (granted u : ℕ) (line : Option Line) (p : Progress) (now : Replay) (before after : Pair) → (PairIs WasFailed before → PairIs WasFailed after) → after.driver ≡ before.driver
    → (side_of after.link false).registered ≡ (side_of before.link false).registered → StandsAt granted u line p now before → StandsAt granted u line p now after
stands_moved granted u None p now before after failed driver queue is = (is.0, rests_either granted is.0 before after driver queue failed is.1)
stands_moved granted u (Some line) p now before after failed driver queue (inr is) = inr (is.0, failed is.1)
stands_moved granted u (Some line) p now before after failed driver queue (inl is) = inl (at (line.unit == u) is)
  where
    at : (b : Bool) → OfUnit b (PairIs (HasCome granted line.verb p now) before) (PairIs (FollowsReplay granted now) before)
        → OfUnit b (PairIs (HasCome granted line.verb p now) after) (PairIs (FollowsReplay granted now) after)
    at true come = pair_still (HasCome granted line.verb p now) before after (come_still granted line.verb p now) driver queue come
    at false f = pair_still (FollowsReplay granted now) before after (λ x y client registered f. follows_still granted now x y f client registered) driver queue f

pub pushed_own : (granted : ℕ) (told : List Ended) (lines : List Line) (home u k : ℕ) (books : ServerBooks) (line : Option Line) (p : Progress) (unit : Unit) (a : Driver) (old new : Pair) → old.driver ≡ Some a
    → new.driver ≡ old.driver → (side_of new.link false).registered ≡ (side_of old.link false).registered → PairTalksOn old new
    → TalksOwn granted told lines home u k books [] line p unit a old → TalksOwn granted told lines home u k books [] line p unit a new
pushed_own granted told lines home u k books line p unit a old new was driver queue on is =
    let later = on granted unit (talks_at granted unit [] old a was is.talks) in
    record {
      talks = subst (λ (o : Option Driver). IsSomeAnd o (λ d. TalksPlainly granted (between_of unit d new) [])) (driver ∙ was) later.0;
      owed = omega (arith, is.owed, same);
      now = is.now;
      spares = is.spares;
      stands = stands_moved granted u line p is.now old new later.1 driver queue is.stands;
    }
  where
    same : owes (between_of unit a new) [] ≡ owes (between_of unit a old) []
    same = ap (λ there. one_if (there && (not (is_some a.client.granted) && (unit.logins.taking && not false)))) queue
