-- A line that fails its partition, as the plain clients of that see it: the queue of each is freed, and no line is left.
use Rattle.std.proofs.Common.{◌≡◌, ◌∙◌, ◌⊎◌, inl, inr, ℕ, ◌≤◌, ◌==◌, ◌++◌, All, cond, Bool, true, false, List, [], ◌∷◌, Option, Some, None, IfSome, IsSomeAnd, length, refl, slice_get, sym, ap, subst, arith}
use Rattle.std.proofs.lemmas.List.Elements.{All-cons, All-nil, All-push}
use Rattle.std.proofs.lemmas.Option.{slice_get_past}
use Rattle.boot_text.specs.declared.plan.Line.{Line}
use Rattle.boot_text.specs.declared.verb.Verb.{Verb}
use Rattle.boot_text.specs.declared.verb.Verb.TheVariants as verbs
use Rattle.vio_num.specs.Entry.{is_srp_entry}
use Rattle.vio_num.specs.declared.names.UnitId.{UnitId}
use Rattle.page_slots.specs.Stroke.{StrokeValue}
use Rattle.tce_window.specs.PlainPort.{known_of}
use Rattle.vio_num.specs.declared.entry.Entry.{Entry}
use Rattle.vio_trace.specs.declared.outcome.Outcome.{Outcome}
use Rattle.vio_trace.specs.declared.rows.LogRow.{LogRow}
use Rattle.crq_session.specs.PlainState.{side_of}
use Rattle.block_server.specs.Talk.{Word}
use Rattle.block_server.specs.Talk.Word.{gone}
use Rattle.block_server.specs.declared.unit.Unit.{Unit}
use Rattle.unit_region.specs.declared.step.Step.TheVariants as steps
use Rattle.vcpu_run.specs.Credited.{Ended, ended_by, grants}
use Rattle.vcpu_run.specs.FailedShut.{SeatsShut, opens_if}
use Rattle.vcpu_run.specs.Pairs.{AreDriven}
use Rattle.vcpu_run.specs.PlainClients.{granted_in}
use Rattle.vcpu_run.specs.PlainPairs.{between_of}
use Rattle.vcpu_run.specs.PlainRejected.{TellsOf, TellsRejection}
use Rattle.vcpu_run.specs.PlainScripts.{AllFailPlainly, IsPlainSeat, OfUnit, PairAsks, PairFailed, PairIs, PairTalks, QuietsPlainly, StandsAt, StandsPlainly, StandsPlainlyAt, TurnsPlainly, after_ended, awaits, owes_at, owes_to, rows_in, told_in}
use Rattle.vcpu_run.specs.PlainSteps.{AsksAnew, FollowsReplay, HasCome, IsNewWord, KeepsLogin, RestsAs, WasFailed, granted_by}
use Rattle.vcpu_run.specs.PlainTalk.{TalksPlainly}
use Rattle.vcpu_run.specs.Replay.{IsReplayed, Replay, before_lines, ends_as}
use Rattle.vcpu_run.specs.Scripts.{AreSeats}
use Rattle.vcpu_run.specs.TakenScripts.{AllGive}
use Rattle.vcpu_run.specs.Works.{fails}
use Rattle.vcpu_run.specs.declared.driver.Driver.{Driver}
use Rattle.vcpu_run.specs.declared.pair.Pair.{Pair}
use Rattle.vcpu_run.specs.declared.script.Progress.{Progress}
use Rattle.vcpu_run.specs.declared.script.Script.{Script}
use Rattle.vcpu_run.proofs.Crediting.{here_or}
use Rattle.vcpu_run.proofs.DataNoted.{keep_gives}
use Rattle.vcpu_run.proofs.Driving.{some_is}
use Rattle.vcpu_run.proofs.FailedShut.{never_opens}
use Rattle.vcpu_run.proofs.LinesShown.{fail_is}
use Rattle.vcpu_run.proofs.Listed.{held, held_is, is_held}
use Rattle.vcpu_run.proofs.PlainAreLaid.{none_laid}
use Rattle.vcpu_run.proofs.PlainOwed.{owes_none}
use Rattle.vcpu_run.proofs.PlainReplayed.{replayed_more}
use Rattle.vcpu_run.proofs.PlainScripted.{anew_at, ended_other, ended_own, granted_more, noted_at, notes_none, owed_at, pair_then, rights_at}
use Rattle.vcpu_run.proofs.PlainTellings.{driven_tell}
use Rattle.vcpu_run.proofs.SeatPairs.{after_of, before_of}

-- ---- at its pair

-- a client whose queue is not registered has kept no answer, so long as it follows its lines
off_fails : (granted : ℕ) (now : Replay) (pair : Pair) → (side_of pair.link false).registered ≡ false → PairIs (FollowsReplay granted now) pair → PairIs WasFailed pair
off_fails granted now pair off follows = by pair.driver follows
  where
    by : (o : Option Driver) → IsSomeAnd o (λ driver. (unit : Unit) → FollowsReplay granted now (between_of unit driver pair)) → IsSomeAnd o (λ driver. (unit : Unit) → WasFailed (between_of unit driver pair))
    by None h = absurd h
    by (Some driver) h = λ unit. record {
      laid = none_laid driver.client (known_of pair.window) ((h unit).fresh off);
      registered = off;
      kept = subst (All (λ (entry : Entry). is_srp_entry entry ≡ true)) (sym ((h unit).fresh off)) (All-nil (λ (entry : Entry). is_srp_entry entry ≡ true));
    }

-- so it was before: it followed its lines, or its queue was freed before
abbrev pub Stood : (granted : ℕ) → Replay → Pair → Type 0
Stood granted now pair = PairIs (FollowsReplay granted now) pair ⊎ PairIs WasFailed pair

pub off_failed : (granted : ℕ) (now : Replay) (pair : Pair) → (side_of pair.link false).registered ≡ false → Stood granted now pair → PairIs WasFailed pair
off_failed granted now pair off (inl follows) = off_fails granted now pair off follows
off_failed granted now pair off (inr failed) = failed

pub may_fail : (granted : ℕ) (now : Replay) (words : List Word) (pair : Pair) → words ≡ [] → Stood granted now pair
    → ((words ≡ []) × ((side_of pair.link false).registered ≡ true)) ⊎ PairIs WasFailed pair
may_fail granted now words pair none (inr failed) = inr failed
may_fail granted now words pair none (inl follows) = by (side_of pair.link false).registered refl
  where
    by : (b : Bool) → (side_of pair.link false).registered ≡ b → ((words ≡ []) × ((side_of pair.link false).registered ≡ true)) ⊎ PairIs WasFailed pair
    by true there = inl (none, there)
    by false off = inr (off_fails granted now pair off follows)

-- a line that fails the partition takes no step of a client's
pub fail_follows : (granted u : ℕ) (line : Line) (p : Progress) (now : Replay) (pair : Pair) → fails line.verb ≡ true → StandsAt granted u (Some line) p now pair → Stood granted now pair
fail_follows granted u line p now pair failing (inr failed) = inr failed.1
fail_follows granted u line p now pair failing (inl stands) = inl (by (line.unit == u) (subst (λ (verb : Verb). OfUnit (line.unit == u) (PairIs (HasCome granted verb p now) pair) (PairIs (FollowsReplay granted now) pair)) (fail_is line.verb failing) stands))
  where
    by : (b : Bool) → OfUnit b (PairIs (HasCome granted verbs.Fail p now) pair) (PairIs (FollowsReplay granted now) pair) → PairIs (FollowsReplay granted now) pair
    by true come = come
    by false follows = follows

-- it asked for nothing
failed_asks : (granted : ℕ) (unit : Unit) (old new : Pair) → (f : PairFailed granted unit [] old new) → PairAsks (rows_in old.driver) f.later new
failed_asks granted unit old new f = by new.driver f.talks f.rows
  where
    asked : (last most : ℕ) → (f.later ≡ []) ⊎ (f.later ≡ gone ∷ []) → All (IsNewWord last most) f.later
    asked last most (inl none) = subst (All (IsNewWord last most)) (sym none) (All-nil (IsNewWord last most))
    asked last most (inr one) = subst (All (IsNewWord last most)) (sym one) (All-cons (IsNewWord last most) gone [] tt (All-nil (IsNewWord last most)))

    by : (o : Option Driver) → IsSomeAnd o (λ driver. TalksPlainly granted (between_of unit driver new) f.later) → rows_in o ≡ rows_in old.driver
        → IsSomeAnd o (λ driver. AsksAnew (rows_in old.driver) driver.client f.later)
    by None h rows = absurd h
    by (Some driver) h rows = record {
      more = omega (arith, rows);
      asked = asked (rows_in old.driver) (length driver.client.rows) f.said;
      logins = logins f.said;
    }
      where
        logins : (f.later ≡ []) ⊎ (f.later ≡ gone ∷ []) → All (KeepsLogin driver.client.rows) f.later
        logins (inl none) = subst (All (KeepsLogin driver.client.rows)) (sym none) (All-nil (KeepsLogin driver.client.rows))
        logins (inr one) =
            subst (All (KeepsLogin driver.client.rows)) (sym one) (All-cons (KeepsLogin driver.client.rows) gone [] tt (All-nil (KeepsLogin driver.client.rows)))

-- and is owed no more than before
pub failed_owes : (granted : ℕ) (unit : Unit) (old new : Pair) → (f : PairFailed granted unit [] old new) → owes_at unit f.later new ≤ owes_at unit [] old
failed_owes granted unit old new f = by f.left
  where
    none : (o : Option Driver) → IsSomeAnd o (λ driver. (unit : Unit) → WasFailed (between_of unit driver new)) → owes_to unit f.later o new ≡ 0
    none None h = refl
    none (Some driver) h = owes_none (between_of unit driver new) f.later (inl (h unit).registered)

    by : ((new ≡ old) × (f.later ≡ [])) ⊎ PairIs WasFailed new → owes_at unit f.later new ≤ owes_at unit [] old
    by (inl same) = omega (arith, ap (λ words. owes_at unit words new) same.1 ∙ ap (owes_at unit []) same.0)
    by (inr failed) = omega (arith, none new.driver failed)

-- ---- in the script

-- what a plain client's pair was, and is
record FailedOne (granted u k : ℕ) (unit : Unit) (script : Script) (line : Line) (old new : List Pair) : Type 0 where
  before : Pair
  after : Pair
  there : slice_get old k ≡ Some before
  here : slice_get new k ≡ Some after
  pages : length after.window.pages ≡ length before.window.pages
  stood : StandsPlainly granted u script before
  was : Stood granted (after_ended granted (length before.window.pages) before_lines (ended_by u script.lines.now script.logs.items)) before
  now : PairFailed granted unit [] before after

failed_one : (granted u k : ℕ) (unit : Unit) (script : Script) (line : Line) (old new : List Pair) → slice_get script.lines.now script.at ≡ Some line → fails line.verb ≡ true
    → AreSeats script.partition script.seats.items old → AreDriven old new → AllFailPlainly old new → IsPlainSeat script u k → IsSomeAnd (slice_get old k) (PairTalks granted unit [])
    → StandsPlainlyAt granted u k old script → FailedOne granted u k unit script line old new
failed_one granted u k unit script line old new found failing are driven all seat talks stood =
    let was = held (PairTalks granted unit []) (slice_get old k) talks in
    let stands : StandsPlainly granted u script was.0 = held_is (StandsPlainly granted u script) (slice_get old k) was.0 was.1 stood in
    let after = after_of script.partition u k script.seats.items old new are driven seat.sits in
    let b = before_of script.partition u k script.seats.items old new after.0 are driven seat.sits after.1 in
    let follows : Stood granted (after_ended granted (length was.0.window.pages) before_lines (ended_by u script.lines.now script.logs.items)) was.0 =
    fail_follows granted u line script.progress (after_ended granted (length was.0.window.pages) before_lines (ended_by u script.lines.now script.logs.items)) was.0 failing
    (subst (λ (o : Option Line). StandsAt granted u o script.progress (after_ended granted (length was.0.window.pages) before_lines (ended_by u script.lines.now script.logs.items)) was.0) found stands.stands) in
    record {
      before = was.0;
      after = after.0;
      there = was.1;
      here = after.1;
      pages = b.pages ∙ ap (λ (pair : Pair). length pair.window.pages) (some_is b.pair was.0 (sym b.there ∙ was.1));
      stood = stands;
      was = follows;
      now = all k was.0 after.0 was.1 after.1 granted unit [] was.2
          (may_fail granted (after_ended granted (length was.0.window.pages) before_lines (ended_by u script.lines.now script.logs.items)) [] was.0 refl follows);
    }

-- the line is to be gone on with
pub fails_waits : (old new : List Pair) (script : Script) (line : Line) → slice_get script.lines.now script.at ≡ Some line → fails line.verb ≡ true
    → AreSeats script.partition script.seats.items old → AreDriven old new → AllFailPlainly old new → AllGive old new → TurnsPlainly old new script script
fails_waits old new script line found failing are driven all gives granted u k unit seat talks stood = record {
  words = one.now.later;
  laid = λ before after there here. driven_tell unit.id k old new before after (told_in u script) driven there here;
  owed = owed_at k (granted_in (told_in u script)) (granted_in (told_in u script)) unit old new one.before one.after one.now.later one.there one.here
      (omega (arith, failed_owes granted unit one.before one.after one.now));
  talks = is_held (PairTalks granted unit one.now.later) (slice_get new k) one.after one.here one.now.talks;
  anew = anew_at k old new one.before one.after one.now.later one.there one.here (failed_asks granted unit one.before one.after one.now);
  noted = noted_at k old new one.before one.after one.there one.here (notes_none one.before one.after one.now.answers);
  keeps = keep_gives old new gives;
  rights = rights_at k old new one.before one.after one.there one.here one.now.rights;
  stands = is_held (StandsPlainly granted u script) (slice_get new k) one.after one.here (stands one.now.left);
}
  where
    one : FailedOne granted u k unit script line old new
    one = failed_one granted u k unit script line old new found failing are driven all seat talks stood

    stands : ((one.after ≡ one.before) × (one.now.later ≡ [])) ⊎ PairIs WasFailed one.after → StandsPlainly granted u script one.after
    stands (inl same) = subst (StandsPlainly granted u script) (sym same.0) one.stood
    stands (inr failed) = record {
      replayed = subst (λ n. IsReplayed granted n before_lines (ended_by u script.lines.now script.logs.items)) (sym one.pages) one.stood.replayed;
      stands = subst (λ (o : Option Line). StandsAt granted u o script.progress (after_ended granted (length one.after.window.pages) before_lines (ended_by u script.lines.now script.logs.items)) one.after)
          (sym found) (inr (failing, failed));
    }

pub fails_quietly : (old new : List Pair) (script : Script) (line : Line) → slice_get script.lines.now script.at ≡ Some line → fails line.verb ≡ true → QuietsPlainly old new script script
fails_quietly old new script line found failing granted u k unit seat talks stood idle =
    subst (λ (o : Option Line). IfSome o (λ l. l.unit ≡ u → awaits l.verb ≡ false)) (sym found) (λ own. ap awaits (fail_is line.verb failing))

-- the line ends: of each client that sits here the queue is not registered
none_said : (granted pages : ℕ) (now : Replay) (verb : Verb) (outcome : Outcome) → verb ≡ verbs.Fail → IfSome (ends_as granted pages now verb) (λ said. outcome ≡ said)
none_said granted pages now verb outcome is = subst (λ (v : Verb). IfSome (ends_as granted pages now v) (λ said. outcome ≡ said)) (sym is) tt

-- what the client's lines that ended say behind it
record SaysNoMore (granted u pages : ℕ) (script done : Script) : Type 0 where
  replayed : IsReplayed granted pages before_lines (ended_by u done.lines.now done.logs.items)
  told : granted_in (told_in u done) ≡ granted_in (told_in u script)
  laid : (who : UnitId) (strokes : ℕ → Option (List StrokeValue)) → All (TellsOf who strokes) (told_in u script) → All (TellsOf who strokes) (told_in u done)

says_no_more : (granted u pages : ℕ) (script done : Script) (line : Line) (row : LogRow) → slice_get script.lines.now script.at ≡ Some line → fails line.verb ≡ true
    → length script.logs.items ≡ script.at → done.lines ≡ script.lines → done.logs.items ≡ script.logs.items ++ row ∷ [] → grants row.outcome ≡ false
    → IsReplayed granted pages before_lines (ended_by u script.lines.now script.logs.items) → SaysNoMore granted u pages script done
says_no_more granted u pages script done line row found failing many lines logs none is = by (here_or line.unit u)
  where
    e : Ended
    e = record { verb = line.verb; outcome = row.outcome }

    by : ((line.unit == u) ≡ true) ⊎ ((line.unit == u) ≡ false) → SaysNoMore granted u pages script done
    by (inr other) =
        let own = ended_other u script done line row found many lines logs other in
        record {
          replayed = subst (IsReplayed granted pages before_lines) (sym own) is;
          told = ap granted_in own;
          laid = λ who strokes all. subst (All (TellsOf who strokes)) (sym own) all;
        }
    by (inl same) =
        let own = ended_own u script done line row found many lines logs same in
        let no : granted_by (steps.Ends row.outcome) ≡ 0 = none_more row.outcome none in
        record {
          replayed = subst (IsReplayed granted pages before_lines) (sym own) (replayed_more granted pages before_lines (ended_by u script.lines.now script.logs.items) e is
              (none_said granted pages (after_ended granted pages before_lines (ended_by u script.lines.now script.logs.items)) line.verb row.outcome (fail_is line.verb failing)));
          told = ap granted_in own ∙ (granted_more (ended_by u script.lines.now script.logs.items) e ∙ omega (arith, no));
          laid = λ who strokes all. subst (All (TellsOf who strokes)) (sym own) (All-push (TellsOf who strokes) (ended_by u script.lines.now script.logs.items) e all
              (subst (λ (verb : Verb). TellsRejection verb row.outcome who strokes) (sym (fail_is line.verb failing)) tt));
        }
      where
        none_more : (outcome : Outcome) → grants outcome ≡ false → granted_by (steps.Ends outcome) ≡ 0
        none_more outcome none = ap (λ b. cond b 1 0) none

pub fails_ends : (old new : List Pair) (script done : Script) (line : Line) (row : LogRow) → slice_get script.lines.now script.at ≡ Some line → fails line.verb ≡ true
    → AreSeats script.partition script.seats.items old → AreDriven old new → AllFailPlainly old new → AllGive old new → SeatsShut script.seats.items new
    → length script.logs.items ≡ script.at → done.lines ≡ script.lines → done.logs.items ≡ script.logs.items ++ row ∷ [] → grants row.outcome ≡ false
    → done.at ≡ length done.lines.now → TurnsPlainly old new script done
fails_ends old new script done line row found failing are driven all gives shut many lines logs none over granted u k unit seat talks stood = record {
  words = one.now.later;
  laid = λ before after there here all. said.laid unit.id (known_of after.window).strokes (driven_tell unit.id k old new before after (told_in u script) driven there here all);
  owed = owed_at k (granted_in (told_in u script)) (granted_in (told_in u done)) unit old new one.before one.after one.now.later one.there one.here
      (omega (arith, said.told, failed_owes granted unit one.before one.after one.now));
  talks = is_held (PairTalks granted unit one.now.later) (slice_get new k) one.after one.here one.now.talks;
  anew = anew_at k old new one.before one.after one.now.later one.there one.here (failed_asks granted unit one.before one.after one.now);
  noted = noted_at k old new one.before one.after one.there one.here (notes_none one.before one.after one.now.answers);
  keeps = keep_gives old new gives;
  rights = rights_at k old new one.before one.after one.there one.here one.now.rights;
  stands = is_held (StandsPlainly granted u done) (slice_get new k) one.after one.here (record {
    replayed = subst (λ n. IsReplayed granted n before_lines (ended_by u done.lines.now done.logs.items)) (sym one.pages) said.replayed;
    stands = subst (λ (o : Option Line). StandsAt granted u o done.progress (after_ended granted (length one.after.window.pages) before_lines (ended_by u done.lines.now done.logs.items)) one.after)
        (sym (slice_get_past done.lines.now done.at (omega (arith, over))))
        (before_lines, pair_then WasFailed (RestsAs granted before_lines) one.after (λ at failed. inr failed) (failed one.now.left));
  });
}
  where
    one : FailedOne granted u k unit script line old new
    one = failed_one granted u k unit script line old new found failing are driven all seat talks stood

    said : SaysNoMore granted u (length one.before.window.pages) script done
    said = says_no_more granted u (length one.before.window.pages) script done line row found failing many lines logs none one.stood.replayed

    off : (side_of one.after.link false).registered ≡ false
    off = never_opens one.after (subst (λ (o : Option Pair). opens_if o ≡ 0) one.here (shut u k seat.sits))

    failed : ((one.after ≡ one.before) × (one.now.later ≡ [])) ⊎ PairIs WasFailed one.after → PairIs WasFailed one.after
    failed (inr is) = is
    failed (inl same) =
        off_failed granted (after_ended granted (length one.before.window.pages) before_lines (ended_by u script.lines.now script.logs.items)) one.after off
        (subst (Stood granted (after_ended granted (length one.before.window.pages) before_lines (ended_by u script.lines.now script.logs.items))) (sym same.0) one.was)
