-- The lines of a script's plain clients go on and end as the replay of each says.
use Rattle.std.proofs.Common.{◌≡◌, ◌≢◌, ◌∙◌, ◌⊎◌, inl, inr, ℕ, ◌+◌, ◌≤◌, ◌==◌, arith, filter, length-append, ◌++◌, cond, Bool, true, false, true≢false, List, [], ◌∷◌, Option, Some, None, Ok, IfSome, IsSomeAnd, length, refl, slice_get, sym, ap, subst, eq-eqb, eqb-true, All}
use Rattle.std.proofs.lemmas.List.Elements.{filter-append, All-push}
use Rattle.vio_num.specs.declared.hypervisor.Moved.{Moved}
use Rattle.vio_num.specs.declared.hypervisor.Moved.TheVariants.{Quiet}
use Rattle.boot_text.specs.declared.plan.Line.{Line}
use Rattle.boot_text.specs.declared.verb.Verb.{Verb}
use Rattle.boot_text.specs.declared.verb.Verb.TheVariants as verbs
use Rattle.vio_trace.specs.declared.rows.LogRow.{LogRow}
use Rattle.crq_session.specs.PlainState.{side_of}
use Rattle.unit_region.specs.declared.step.Step.{Step}
use Rattle.unit_region.specs.declared.step.Step.TheVariants as steps
use Rattle.block_server.specs.Talk.{Word}
use Rattle.block_server.specs.declared.unit.Unit.{Unit}
use Rattle.vcpu_run.specs.Credited.{Ended, ended_by, grants}
use Rattle.vcpu_run.specs.NotedOn.{AllKeepNoted}
use Rattle.vcpu_run.specs.Pairs.{AreDriven}
use Rattle.vcpu_run.specs.PlainClients.{granted_in, keeps_own}
use Rattle.vcpu_run.specs.PlainPairs.{between_of}
use Rattle.vcpu_run.specs.PlainScripts.{IsPlainSeat, LinePlainly, OfUnit, PairAsks, PairIs, PairKeepsRights, PairNotes, PairSteppedOn, PairTalks, QuietsPlainly, StandsAt, StandsPlainly, StandsPlainlyAt, TurnedPlainly, TurnsPlainly, after_ended, answers_in, awaits, owes_at, rows_in, told_in}
use Rattle.vcpu_run.specs.PlainSteps.{AsksAnew, FollowsReplay, HasCome, RestsAs, granted_by}
use Rattle.vcpu_run.specs.PlainTalk.{Between, TalksPlainly}
use Rattle.vcpu_run.specs.PortWords.{HasNoCall}
use Rattle.vcpu_run.specs.Replay.{IsReplayed, Replay, after_line, before_lines, ends_as}
use Rattle.vcpu_run.specs.Scripts.{AreSeats}
use Rattle.vcpu_run.specs.Suited.{suits}
use Rattle.vcpu_run.specs.Telling.{LineTold}
use Rattle.vcpu_run.specs.Works.{fails}
use Rattle.vcpu_run.specs.declared.driver.Driver.{Driver}
use Rattle.vcpu_run.specs.declared.pair.Pair.{Pair}
use Rattle.vcpu_run.specs.declared.script.Progress.{Progress}
use Rattle.vcpu_run.specs.declared.script.Progress.TheVariants as progress
use Rattle.vcpu_run.specs.declared.script.Script.{Script}
use Rattle.vcpu_run.specs.declared.unit_seat.Seat.{Seat}
use Rattle.vcpu_run.specs.declared.unit_seat.Seat.TheVariants as places
use Rattle.vcpu_run.proofs.Crediting.{ended_more, here_or}
use Rattle.vcpu_run.proofs.DataNoted.{keep_told}
use Rattle.vcpu_run.proofs.Driving.{some_is}
use Rattle.vcpu_run.proofs.Listed.{held, held_is, is_held}
use Rattle.vcpu_run.proofs.PlainAsking.{none_anew}
use Rattle.vcpu_run.proofs.PlainNotes.{notes_same}
use Rattle.vcpu_run.proofs.PlainOwed.{one_if}
use Rattle.vcpu_run.proofs.PlainReplayed.{after_push, line_begins, replayed_more}
use Rattle.vcpu_run.proofs.PlainSpared.{line_rights, plain_verb, spares_tables}
use Rattle.vcpu_run.proofs.SeatPairs.{after_of, apart_seats, before_of}
use Rattle.vcpu_run.proofs.PlainTellings.{driven_tell}
use Rattle.vcpu_run.specs.PlainRejected.{TellsOf}
use Rattle.tce_window.specs.PlainPort.{known_of}

-- ---- at a pair

pub pair_then : (P Q : Between → Type 0) (pair : Pair) → ((at : Between) → P at → Q at) → PairIs P pair → PairIs Q pair
pair_then P Q pair then' is = by pair.driver is
  where
    by : (o : Option Driver) → IsSomeAnd o (λ driver. (unit : Unit) → P (between_of unit driver pair)) → IsSomeAnd o (λ driver. (unit : Unit) → Q (between_of unit driver pair))
    by None h = absurd h
    by (Some driver) h = λ unit. then' (between_of unit driver pair) (h unit)

-- where the driver is as it was, and the queue as registered
pub pair_still : (P : Between → Type 0) (old new : Pair) → ((at at' : Between) → at'.client ≡ at.client → at'.own.registered ≡ at.own.registered → P at → P at') → new.driver ≡ old.driver
    → (side_of new.link false).registered ≡ (side_of old.link false).registered → PairIs P old → PairIs P new
pair_still P old new moves driver registered is =
    subst (λ (o : Option Driver). IsSomeAnd o (λ d. (unit : Unit) → P (between_of unit d new))) (sym driver) (by old.driver is)
  where
    by : (o : Option Driver) → IsSomeAnd o (λ d. (unit : Unit) → P (between_of unit d old)) → IsSomeAnd o (λ d. (unit : Unit) → P (between_of unit d new))
    by None h = absurd h
    by (Some d) h = λ unit. moves (between_of unit d old) (between_of unit d new) refl registered (h unit)

-- ---- the current line

-- whatever comes next is to begin
pub stands_next : (granted u : ℕ) (o : Option Line) (now : Replay) (pair : Pair) → PairIs (FollowsReplay granted now) pair → StandsAt granted u o progress.Fresh now pair
stands_next granted u None now pair follows = (now, pair_then (FollowsReplay granted now) (RestsAs granted now) pair (λ at f. inl f) follows)
stands_next granted u (Some line) now pair follows = inl (by (line.unit == u))
  where
    by : (b : Bool) → OfUnit b (PairIs (HasCome granted line.verb progress.Fresh now) pair) (PairIs (FollowsReplay granted now) pair)
    by true = pair_then (FollowsReplay granted now) (HasCome granted line.verb progress.Fresh now) pair (λ at f. line_begins granted line.verb now at f) follows
    by false = follows

-- a line that does not fail the partition
stands_unit : (granted u : ℕ) (line : Line) (o : Option Line) (p : Progress) (now : Replay) (pair : Pair) → o ≡ Some line → fails line.verb ≡ false → StandsAt granted u o p now pair
    → OfUnit (line.unit == u) (PairIs (HasCome granted line.verb p now) pair) (PairIs (FollowsReplay granted now) pair)
stands_unit granted u line o p now pair found goes stands = by (subst (λ (x : Option Line). StandsAt granted u x p now pair) found stands)
  where
    by : StandsAt granted u (Some line) p now pair → OfUnit (line.unit == u) (PairIs (HasCome granted line.verb p now) pair) (PairIs (FollowsReplay granted now) pair)
    by (inl unit) = unit
    by (inr failed) = absurd (true≢false (sym failed.0 ∙ goes))

pub stands_own : (granted u : ℕ) (line : Line) (o : Option Line) (p : Progress) (now : Replay) (pair : Pair) → o ≡ Some line → fails line.verb ≡ false → (line.unit == u) ≡ true
    → StandsAt granted u o p now pair → PairIs (HasCome granted line.verb p now) pair
stands_own granted u line o p now pair found goes own stands =
    subst (λ (b : Bool). OfUnit b (PairIs (HasCome granted line.verb p now) pair) (PairIs (FollowsReplay granted now) pair)) own
    (stands_unit granted u line o p now pair found goes stands)

pub stands_other : (granted u : ℕ) (line : Line) (o : Option Line) (p : Progress) (now : Replay) (pair : Pair) → o ≡ Some line → fails line.verb ≡ false → (line.unit == u) ≡ false
    → StandsAt granted u o p now pair → PairIs (FollowsReplay granted now) pair
stands_other granted u line o p now pair found goes other stands =
    subst (λ (b : Bool). OfUnit b (PairIs (HasCome granted line.verb p now) pair) (PairIs (FollowsReplay granted now) pair)) other
    (stands_unit granted u line o p now pair found goes stands)

pub own_stands : (granted u : ℕ) (line : Line) (o : Option Line) (p : Progress) (now : Replay) (pair : Pair) → o ≡ Some line → (line.unit == u) ≡ true
    → PairIs (HasCome granted line.verb p now) pair → StandsAt granted u o p now pair
own_stands granted u line o p now pair found own come =
    subst (λ (x : Option Line). StandsAt granted u x p now pair) (sym found)
    (inl (subst (λ (b : Bool). OfUnit b (PairIs (HasCome granted line.verb p now) pair) (PairIs (FollowsReplay granted now) pair)) (sym own) come))

pub other_stands : (granted u : ℕ) (line : Line) (o : Option Line) (p : Progress) (now : Replay) (pair : Pair) → o ≡ Some line → (line.unit == u) ≡ false
    → PairIs (FollowsReplay granted now) pair → StandsAt granted u o p now pair
other_stands granted u line o p now pair found other follows =
    subst (λ (x : Option Line). StandsAt granted u x p now pair) (sym found)
    (inl (subst (λ (b : Bool). OfUnit b (PairIs (HasCome granted line.verb p now) pair) (PairIs (FollowsReplay granted now) pair)) (sym other) follows))

-- ---- a step of the current line, seen from a plain client

-- what the lines of the client left so far
abbrev now_of : (granted u : ℕ) → Script → Pair → Replay
now_of granted u script pair = after_ended granted (length pair.window.pages) before_lines (ended_by u script.lines.now script.logs.items)

-- It is a line of the client's.
record StepsOwn (granted u k : ℕ) (unit : Unit) (line : Line) (p' : Progress) (script : Script) (old new : List Pair) (step : Step) : Type 0 where
  own : (line.unit == u) ≡ true
  before : Pair
  after : Pair
  here : slice_get new k ≡ Some after
  pages : length after.window.pages ≡ length before.window.pages
  stood : StandsPlainly granted u script before
  there : slice_get old k ≡ Some before
  keeps : keeps_own line.verb ≡ true
  on : PairSteppedOn granted unit line.verb p' (now_of granted u script before) before after step

-- It is another's, and the client's pair is as it was.
record StepsOther (granted u k : ℕ) (unit : Unit) (line : Line) (script : Script) (old new : List Pair) : Type 0 where
  other : (line.unit == u) ≡ false
  pair : Pair
  there : slice_get old k ≡ Some pair
  here : slice_get new k ≡ Some pair
  talks : PairTalks granted unit [] pair
  stood : StandsPlainly granted u script pair

step_of : (granted u k : ℕ) (unit : Unit) (line : Line) (p' : Progress) (script : Script) (old new : List Pair) (step : Step) → slice_get script.lines.now script.at ≡ Some line → fails line.verb ≡ false
    → IsSomeAnd (slice_get script.seats.items line.unit) (suits line.verb) → AreSeats script.partition script.seats.items old → AreDriven old new
    → (HasNoCall script.lines.now → LineTold script.seats.items line script.progress p' old new (Ok step))
    → (HasNoCall script.lines.now → LinePlainly script.seats.items line script.progress p' old new (Ok step))
    → IsPlainSeat script u k → IsSomeAnd (slice_get old k) (PairTalks granted unit []) → StandsPlainlyAt granted u k old script
    → StepsOwn granted u k unit line p' script old new step ⊎ StepsOther granted u k unit line script old new
step_of granted u k unit line p' script old new step found goes suited are driven told plain seat talks stood = by (here_or line.unit u)
  where
    was : (pair : Pair) × (slice_get old k ≡ Some pair) × PairTalks granted unit [] pair
    was = held (PairTalks granted unit []) (slice_get old k) talks

    stands : StandsPlainly granted u script was.0
    stands = held_is (StandsPlainly granted u script) (slice_get old k) was.0 was.1 stood

    after : (after : Pair) × (slice_get new k ≡ Some after)
    after = after_of script.partition u k script.seats.items old new are driven seat.sits

    same : (slice_get new k ≡ slice_get old k) → (line.unit == u) ≡ false → StepsOther granted u k unit line script old new
    same is differ = record { other = differ; pair = was.0; there = was.1; here = is ∙ was.1; talks = was.2; stood = stands }

    aside : (line.unit == u) ≡ false → (o : Option Seat) → slice_get script.seats.items line.unit ≡ o → IsSomeAnd o (suits line.verb) → StepsOther granted u k unit line script old new
    aside differ None e h = absurd h
    aside differ (Some places.Server) e h = absurd h
    aside differ (Some (places.Client j)) e h =
        same (((told seat.plain.no_call).client j e).beside k (apart_seats script.partition u line.unit k j script.seats.items old are e seat.sits differ)) differ
    aside differ (Some places.Port) e h = same (ap (λ (pairs : List Pair). slice_get pairs k) ((told seat.plain.no_call).port e)) differ

    by : ((line.unit == u) ≡ true) ⊎ ((line.unit == u) ≡ false) → StepsOwn granted u k unit line p' script old new step ⊎ StepsOther granted u k unit line script old new
    by (inr differ) = inr (aside differ (slice_get script.seats.items line.unit) refl suited)
    by (inl own) =
        let sits : slice_get script.seats.items line.unit ≡ Some (places.Client k) = ap (slice_get script.seats.items) (eqb-true line.unit u own) ∙ seat.sits in
        let pages : length after.0.window.pages ≡ length was.0.window.pages =
        let b = before_of script.partition u k script.seats.items old new after.0 are driven seat.sits after.1 in
        b.pages ∙ ap (λ (pair : Pair). length pair.window.pages) (some_is b.pair was.0 (sym b.there ∙ was.1)) in
        inl (record {
          own = own;
          before = was.0;
          after = after.0;
          here = after.1;
          pages = pages;
          stood = stands;
          there = was.1;
          keeps = line_rights u script.lines.now script.at line seat.plain found own;
          on = plain seat.plain.no_call k sits was.0 after.0 was.1 after.1 (plain_verb u script.lines.now script.at line seat.plain found own) granted unit (now_of granted u script was.0)
              (spares_tables granted (length was.0.window.pages) u script.lines.now script.logs.items script.at line seat.plain found own) was.2
              (stands_own granted u line (slice_get script.lines.now script.at) script.progress (now_of granted u script was.0) was.0 found goes own stands.stands);
        })

-- what the client asked
pub anew_at : (k : ℕ) (old new : List Pair) (before after : Pair) (words : List Word) → slice_get old k ≡ Some before → slice_get new k ≡ Some after
    → PairAsks (rows_in before.driver) words after → (a b : Pair) → slice_get old k ≡ Some a → slice_get new k ≡ Some b → PairAsks (rows_in a.driver) words b
anew_at k old new before after words there here asks a b was is =
    subst (λ (pair : Pair). PairAsks (rows_in pair.driver) words b) (some_is before a (sym there ∙ was))
    (subst (λ (pair : Pair). PairAsks (rows_in before.driver) words pair) (some_is after b (sym here ∙ is)) asks)

-- what it noted
pub noted_at : (k : ℕ) (old new : List Pair) (before after : Pair) → slice_get old k ≡ Some before → slice_get new k ≡ Some after → PairNotes (answers_in before.driver) after
    → (a b : Pair) → slice_get old k ≡ Some a → slice_get new k ≡ Some b → PairNotes (answers_in a.driver) b
noted_at k old new before after there here notes a b was is =
    subst (λ (pair : Pair). PairNotes (answers_in pair.driver) b) (some_is before a (sym there ∙ was))
    (subst (λ (pair : Pair). PairNotes (answers_in before.driver) pair) (some_is after b (sym here ∙ is)) notes)

-- whether the driver's pages keep their rights
pub rights_at : (k : ℕ) (old new : List Pair) (before after : Pair) → slice_get old k ≡ Some before → slice_get new k ≡ Some after → PairKeepsRights before after
    → (a b : Pair) → slice_get old k ≡ Some a → slice_get new k ≡ Some b → PairKeepsRights a b
rights_at k old new before after there here keeps a b was is =
    subst (λ (pair : Pair). PairKeepsRights pair b) (some_is before a (sym there ∙ was))
    (subst (λ (pair : Pair). PairKeepsRights before pair) (some_is after b (sym here ∙ is)) keeps)

-- it noted nothing
pub notes_none : (old new : Pair) → answers_in new.driver ≡ answers_in old.driver → PairNotes (answers_in old.driver) new
notes_none old new same = notes_same new.window.unit (known_of new.window).strokes (answers_in old.driver) (answers_in new.driver) same

-- what it is told, and owed
pub owed_at : (k told told' : ℕ) (unit : Unit) (old new : List Pair) (before after : Pair) (words : List Word) → slice_get old k ≡ Some before → slice_get new k ≡ Some after
    → told' + owes_at unit words after ≤ told + owes_at unit [] before → (a b : Pair) → slice_get old k ≡ Some a → slice_get new k ≡ Some b
    → told' + owes_at unit words b ≤ told + owes_at unit [] a
owed_at k told told' unit old new before after words there here owed a b was is =
    subst (λ (pair : Pair). told' + owes_at unit words b ≤ told + owes_at unit [] pair) (some_is before a (sym there ∙ was))
    (subst (λ (pair : Pair). told' + owes_at unit words pair ≤ told + owes_at unit [] before) (some_is after b (sym here ∙ is)) owed)

one_granted : (b : Bool) (e : Ended) → length (cond b (e ∷ []) []) ≡ one_if b
one_granted true e = refl
one_granted false e = refl

-- one record more
pub granted_more : (ended : List Ended) (e : Ended) → granted_in (ended ++ e ∷ []) ≡ granted_in ended + granted_by (steps.Ends e.outcome)
granted_more ended e =
    ap length (filter-append (λ (one : Ended). grants one.outcome) ended (e ∷ [])) ∙ length-append (filter (λ (one : Ended). grants one.outcome) ended) (filter (λ (one : Ended). grants one.outcome) (e ∷ []))
    ∙ ap (λ n. granted_in ended + n) (one_granted (grants e.outcome) e)

pub asks_none : (granted : ℕ) (unit : Unit) (pair : Pair) → PairTalks granted unit [] pair → PairAsks (rows_in pair.driver) [] pair
asks_none granted unit pair talks = by pair.driver talks
  where
    by : (o : Option Driver) → IsSomeAnd o (λ driver. TalksPlainly granted (between_of unit driver pair) []) → IsSomeAnd o (λ driver. AsksAnew (rows_in o) driver.client [])
    by None h = absurd h
    by (Some driver) h = none_anew driver.client driver.client refl

-- ---- the line is to be gone on with

pub waits_plainly : (old new : List Pair) (script : Script) (p' : Progress) (line : Line) (did : Moved) → slice_get script.lines.now script.at ≡ Some line → fails line.verb ≡ false
    → IsSomeAnd (slice_get script.seats.items line.unit) (suits line.verb) → AreSeats script.partition script.seats.items old → AreDriven old new
    → (HasNoCall script.lines.now → LineTold script.seats.items line script.progress p' old new (Ok (steps.Waits did)))
    → (HasNoCall script.lines.now → LinePlainly script.seats.items line script.progress p' old new (Ok (steps.Waits did))) → TurnsPlainly old new script (record script { progress = p' })
waits_plainly old new script p' line did found goes suited are driven told plain granted u k unit seat talks stood =
    by (step_of granted u k unit line p' script old new (steps.Waits did) found goes suited are driven told plain seat talks stood)
  where
    keeps : AllKeepNoted old new
    keeps = keep_told script.seats.items line script.progress p' old new (steps.Waits did) suited (told seat.plain.no_call)

    by : StepsOwn granted u k unit line p' script old new (steps.Waits did) ⊎ StepsOther granted u k unit line script old new
        → TurnedPlainly granted (told_in u script) u k unit old new (record script { progress = p' })
    by (inl step) = record {
      words = step.on.words;
      laid = λ before after there here. driven_tell unit.id k old new before after (told_in u script) driven there here;
      owed = owed_at k (granted_in (told_in u script)) (granted_in (told_in u script)) unit old new step.before step.after step.on.words step.there step.here (omega (arith, step.on.told));
      talks = is_held (PairTalks granted unit step.on.words) (slice_get new k) step.after step.here step.on.talks;
      anew = anew_at k old new step.before step.after step.on.words step.there step.here step.on.anew;
      noted = noted_at k old new step.before step.after step.there step.here step.on.noted;
      keeps = keeps;
      rights = rights_at k old new step.before step.after step.there step.here (step.on.rights step.keeps);
      stands = is_held (StandsPlainly granted u (record script { progress = p' })) (slice_get new k) step.after step.here (record {
        replayed = subst (λ n. IsReplayed granted n before_lines (ended_by u script.lines.now script.logs.items)) (sym step.pages) step.stood.replayed;
        stands = own_stands granted u line (slice_get script.lines.now script.at) p' (now_of granted u script step.after) step.after found step.own
            (subst (λ n. PairIs (HasCome granted line.verb p' (after_ended granted n before_lines (ended_by u script.lines.now script.logs.items))) step.after) (sym step.pages) step.on.stepped.0);
      });
    }
    by (inr step) = record {
      words = [];
      laid = λ before after there here. driven_tell unit.id k old new before after (told_in u script) driven there here;
      owed = owed_at k (granted_in (told_in u script)) (granted_in (told_in u script)) unit old new step.pair step.pair [] step.there step.here (omega arith);
      talks = is_held (PairTalks granted unit []) (slice_get new k) step.pair step.here step.talks;
      anew = anew_at k old new step.pair step.pair [] step.there step.here (asks_none granted unit step.pair step.talks);
      noted = noted_at k old new step.pair step.pair step.there step.here (notes_none step.pair step.pair refl);
      keeps = keeps;
      rights = rights_at k old new step.pair step.pair step.there step.here (λ rights. rights);
      stands = is_held (StandsPlainly granted u (record script { progress = p' })) (slice_get new k) step.pair step.here (record {
        replayed = step.stood.replayed;
        stands = other_stands granted u line (slice_get script.lines.now script.at) p' (now_of granted u script step.pair) step.pair found step.other
            (stands_other granted u line (slice_get script.lines.now script.at) script.progress (now_of granted u script step.pair) step.pair found goes step.other step.stood.stands);
      });
    }

-- ---- one that waits for an answer does so for its server unit

pub awaited_ends : (granted pages : ℕ) (now : Replay) (verb : Verb) (P : Type 0) → awaits verb ≡ true → IfSome (ends_as granted pages now verb) (λ said. P) → P
awaited_ends granted pages now verbs.Login P is some = some
awaited_ends granted pages now verbs.Reset P is some = some
awaited_ends granted pages now (verbs.Take count) P is some = some
awaited_ends granted pages now verbs.Logout P is some = absurd (true≢false (sym is))
awaited_ends granted pages now verbs.Tur P is some = absurd (true≢false (sym is))
awaited_ends granted pages now (verbs.Read lba blocks place pieces table) P is some = absurd (true≢false (sym is))
awaited_ends granted pages now (verbs.Write lba blocks place pieces table) P is some = absurd (true≢false (sym is))
awaited_ends granted pages now (verbs.Command cdb) P is some = absurd (true≢false (sym is))
awaited_ends granted pages now (verbs.CommandIn cdb place len pieces table) P is some = absurd (true≢false (sym is))
awaited_ends granted pages now (verbs.CommandOut cdb place len pieces table) P is some = absurd (true≢false (sym is))
awaited_ends granted pages now (verbs.Task function tag) P is some = absurd (true≢false (sym is))
awaited_ends granted pages now (verbs.Data tag) P is some = absurd (true≢false (sym is))
awaited_ends granted pages now verbs.Open P is some = absurd (true≢false (sym is))
awaited_ends granted pages now verbs.Close P is some = absurd (true≢false (sym is))
awaited_ends granted pages now (verbs.Post place len count) P is some = absurd (true≢false (sym is))
awaited_ends granted pages now (verbs.Send to len seed place) P is some = absurd (true≢false (sym is))
awaited_ends granted pages now (verbs.ChangeMac own) P is some = absurd (true≢false (sym is))
awaited_ends granted pages now (verbs.Multicast control group) P is some = absurd (true≢false (sym is))
awaited_ends granted pages now (verbs.Fill place len seed) P is some = absurd (true≢false (sym is))
awaited_ends granted pages now (verbs.Poke place bytes) P is some = absurd (true≢false (sym is))
awaited_ends granted pages now (verbs.Peek place len) P is some = absurd (true≢false (sym is))
awaited_ends granted pages now (verbs.Tce entry page readable writable) P is some = absurd (true≢false (sym is))
awaited_ends granted pages now (verbs.Hcall number arguments) P is some = absurd (true≢false (sym is))
awaited_ends granted pages now verbs.Fail P is some = absurd (true≢false (sym is))

pub waits_quietly : (old new : List Pair) (script : Script) (p' : Progress) (line : Line) → slice_get script.lines.now script.at ≡ Some line → fails line.verb ≡ false
    → IsSomeAnd (slice_get script.seats.items line.unit) (suits line.verb) → AreSeats script.partition script.seats.items old → AreDriven old new
    → (HasNoCall script.lines.now → LineTold script.seats.items line script.progress p' old new (Ok (steps.Waits Quiet)))
    → (HasNoCall script.lines.now → LinePlainly script.seats.items line script.progress p' old new (Ok (steps.Waits Quiet))) → QuietsPlainly old new script (record script { progress = p' })
waits_quietly old new script p' line found goes suited are driven told plain granted u k unit seat talks stood idle =
    subst (λ (o : Option Line). IfSome o (λ l. l.unit ≡ u → awaits l.verb ≡ false)) (sym found) (λ own. none (awaits line.verb) refl own)
  where
    at : awaits line.verb ≡ true → line.unit ≡ u → StepsOwn granted u k unit line p' script old new (steps.Waits Quiet) ⊎ StepsOther granted u k unit line script old new → ⊥
    at is own (inr step) = absurd (true≢false (sym (eq-eqb line.unit u own) ∙ step.other))
    at is own (inl step) =
        working (awaited_ends granted (length step.after.window.pages) (now_of granted u script step.before) line.verb ((step.on.words ≢ []) ⊎ (unit.pending.items ≢ [])) is step.on.stepped.1)
        (step.on.stepped.2 refl)
      where
        working : (step.on.words ≢ []) ⊎ (unit.pending.items ≢ []) → step.on.words ≡ [] → ⊥
        working (inl some) none = some none
        working (inr some) none = some idle

    none : (b : Bool) → awaits line.verb ≡ b → line.unit ≡ u → b ≡ false
    none false is own = refl
    none true is own = absurd (at is own (step_of granted u k unit line p' script old new (steps.Waits Quiet) found goes suited are driven told plain seat talks stood))

-- ---- the line ends

pub ended_own : (u : ℕ) (script done : Script) (line : Line) (row : LogRow) → slice_get script.lines.now script.at ≡ Some line → length script.logs.items ≡ script.at
    → done.lines ≡ script.lines → done.logs.items ≡ script.logs.items ++ row ∷ [] → (line.unit == u) ≡ true
    → ended_by u done.lines.now done.logs.items ≡ ended_by u script.lines.now script.logs.items ++ record { verb = line.verb; outcome = row.outcome } ∷ []
ended_own u script done line row found many lines logs own =
    ap (λ ls. ended_by u ls.now done.logs.items) lines ∙ ap (ended_by u script.lines.now) logs
    ∙ ended_more u script.lines.now script.logs.items line row (ap (slice_get script.lines.now) many ∙ found)
    ∙ ap (λ b. cond b (ended_by u script.lines.now script.logs.items ++ record { verb = line.verb; outcome = row.outcome } ∷ []) (ended_by u script.lines.now script.logs.items)) own

pub ended_other : (u : ℕ) (script done : Script) (line : Line) (row : LogRow) → slice_get script.lines.now script.at ≡ Some line → length script.logs.items ≡ script.at
    → done.lines ≡ script.lines → done.logs.items ≡ script.logs.items ++ row ∷ [] → (line.unit == u) ≡ false
    → ended_by u done.lines.now done.logs.items ≡ ended_by u script.lines.now script.logs.items
ended_other u script done line row found many lines logs other =
    ap (λ ls. ended_by u ls.now done.logs.items) lines ∙ ap (ended_by u script.lines.now) logs
    ∙ ended_more u script.lines.now script.logs.items line row (ap (slice_get script.lines.now) many ∙ found)
    ∙ ap (λ b. cond b (ended_by u script.lines.now script.logs.items ++ record { verb = line.verb; outcome = row.outcome } ∷ []) (ended_by u script.lines.now script.logs.items)) other

-- a line of another unit ended
pub other_ends : (granted u : ℕ) (script done : Script) (line : Line) (row : LogRow) (pair : Pair) → slice_get script.lines.now script.at ≡ Some line → fails line.verb ≡ false → length script.logs.items ≡ script.at
    → done.lines ≡ script.lines → done.logs.items ≡ script.logs.items ++ row ∷ [] → done.progress ≡ progress.Fresh → (line.unit == u) ≡ false → StandsPlainly granted u script pair
    → StandsPlainly granted u done pair
other_ends granted u script done line row pair found goes many lines logs fresh other stood =
    let own = ended_other u script done line row found many lines logs other in
    record {
      replayed = subst (IsReplayed granted (length pair.window.pages) before_lines) (sym own) stood.replayed;
      stands = subst (λ (p : Progress). StandsAt granted u (slice_get done.lines.now done.at) p (now_of granted u done pair) pair) (sym fresh)
          (subst (λ (ended : List Ended). StandsAt granted u (slice_get done.lines.now done.at) progress.Fresh (after_ended granted (length pair.window.pages) before_lines ended) pair) (sym own)
          (stands_next granted u (slice_get done.lines.now done.at) (now_of granted u script pair) pair
          (stands_other granted u line (slice_get script.lines.now script.at) script.progress (now_of granted u script pair) pair found goes other stood.stands)));
    }

pub ends_plainly : (old new : List Pair) (script done : Script) (p' : Progress) (line : Line) (row : LogRow) → slice_get script.lines.now script.at ≡ Some line → fails line.verb ≡ false
    → IsSomeAnd (slice_get script.seats.items line.unit) (suits line.verb) → AreSeats script.partition script.seats.items old → AreDriven old new → length script.logs.items ≡ script.at
    → (HasNoCall script.lines.now → LineTold script.seats.items line script.progress p' old new (Ok (steps.Ends row.outcome)))
    → (HasNoCall script.lines.now → LinePlainly script.seats.items line script.progress p' old new (Ok (steps.Ends row.outcome)))
    → done.lines ≡ script.lines → done.logs.items ≡ script.logs.items ++ row ∷ [] → done.progress ≡ progress.Fresh → TurnsPlainly old new script done
ends_plainly old new script done p' line row found goes suited are driven many told plain lines logs fresh granted u k unit seat talks stood =
    by (step_of granted u k unit line p' script old new (steps.Ends row.outcome) found goes suited are driven told plain seat talks stood)
  where
    e : Ended
    e = record { verb = line.verb; outcome = row.outcome }

    keeps : AllKeepNoted old new
    keeps = keep_told script.seats.items line script.progress p' old new (steps.Ends row.outcome) suited (told seat.plain.no_call)

    by : StepsOwn granted u k unit line p' script old new (steps.Ends row.outcome) ⊎ StepsOther granted u k unit line script old new
        → TurnedPlainly granted (told_in u script) u k unit old new done
    by (inr step) = record {
      words = [];
      laid = λ before after there here all.
          subst (All (TellsOf unit.id (known_of after.window).strokes)) (sym (ended_other u script done line row found many lines logs step.other))
          (driven_tell unit.id k old new before after (told_in u script) driven there here all);
      owed = owed_at k (granted_in (told_in u script)) (granted_in (told_in u done)) unit old new step.pair step.pair [] step.there step.here
          (omega (arith, ap granted_in (ended_other u script done line row found many lines logs step.other)));
      talks = is_held (PairTalks granted unit []) (slice_get new k) step.pair step.here step.talks;
      anew = anew_at k old new step.pair step.pair [] step.there step.here (asks_none granted unit step.pair step.talks);
      noted = noted_at k old new step.pair step.pair step.there step.here (notes_none step.pair step.pair refl);
      keeps = keeps;
      rights = rights_at k old new step.pair step.pair step.there step.here (λ rights. rights);
      stands = is_held (StandsPlainly granted u done) (slice_get new k) step.pair step.here
          (other_ends granted u script done line row step.pair found goes many lines logs fresh step.other step.stood);
    }
    by (inl step) =
        let own = ended_own u script done line row found many lines logs step.own in
        let pages : ℕ = length step.before.window.pages in
        let ended : List Ended = ended_by u script.lines.now script.logs.items in
        let said = subst (λ n. IfSome (ends_as granted n (after_ended granted pages before_lines ended) line.verb) (λ o. row.outcome ≡ o)) step.pages step.on.stepped.0 in
        let follows = subst (λ n. PairIs (FollowsReplay granted (after_line granted n (after_ended granted pages before_lines ended) line.verb)) step.after) step.pages step.on.stepped.1 in
        let is : after_ended granted pages before_lines (ended ++ e ∷ []) ≡ after_line granted pages (after_ended granted pages before_lines ended) line.verb =
        after_push granted pages before_lines ended e in
        let more : granted_in (told_in u done) ≡ granted_in (told_in u script) + granted_by (steps.Ends row.outcome) = ap granted_in own ∙ granted_more ended e in
        record {
          words = step.on.words;
          laid = λ before after there here all.
              subst (All (TellsOf unit.id (known_of after.window).strokes)) (sym own)
              (All-push (TellsOf unit.id (known_of after.window).strokes) ended e (driven_tell unit.id k old new before after ended driven there here all)
              (subst (λ (pair : Pair). TellsOf unit.id (known_of pair.window).strokes e) (some_is step.after after (sym step.here ∙ here)) step.on.laid));
          owed = owed_at k (granted_in (told_in u script)) (granted_in (told_in u done)) unit old new step.before step.after step.on.words step.there step.here (omega (arith, more, step.on.told));
          talks = is_held (PairTalks granted unit step.on.words) (slice_get new k) step.after step.here step.on.talks;
          anew = anew_at k old new step.before step.after step.on.words step.there step.here step.on.anew;
          noted = noted_at k old new step.before step.after step.there step.here step.on.noted;
          keeps = keeps;
          rights = rights_at k old new step.before step.after step.there step.here (step.on.rights step.keeps);
          stands = is_held (StandsPlainly granted u done) (slice_get new k) step.after step.here (record {
            replayed = subst (λ n. IsReplayed granted n before_lines (ended_by u done.lines.now done.logs.items)) (sym step.pages)
                (subst (IsReplayed granted pages before_lines) (sym own) (replayed_more granted pages before_lines ended e step.stood.replayed said));
            stands = subst (λ (p : Progress). StandsAt granted u (slice_get done.lines.now done.at) p (now_of granted u done step.after) step.after) (sym fresh)
                (subst (λ n. StandsAt granted u (slice_get done.lines.now done.at) progress.Fresh (after_ended granted n before_lines (ended_by u done.lines.now done.logs.items)) step.after) (sym step.pages)
                (subst (λ (list : List Ended). StandsAt granted u (slice_get done.lines.now done.at) progress.Fresh (after_ended granted pages before_lines list) step.after) (sym own)
                (subst (λ (now : Replay). StandsAt granted u (slice_get done.lines.now done.at) progress.Fresh now step.after) (sym is)
                (stands_next granted u (slice_get done.lines.now done.at) (after_line granted pages (after_ended granted pages before_lines ended) line.verb) step.after follows))));
          });
        }
