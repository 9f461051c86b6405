-- That a client tells its server unit no more often that it is gone than its records tell of resets, and once more where its partition fails.
use Rattle.std.specs.Prelude.{ℕ, ◌+◌, ◌≤◌, ◌==◌, ◌&&◌, List, [], ◌∷◌, MatchBool, MatchOption, Option, slice_get, if◌then◌else◌}
use Rattle.vio_num.specs.declared.names.UnitId.{UnitId}
use Rattle.boot_text.specs.declared.plan.Line.{Line}
use Rattle.vio_trace.specs.declared.rows.Trace.{Trace}
use Rattle.vcpu_run.specs.declared.pair.Pair.{Pair}
use Rattle.vcpu_run.specs.declared.script.Progress.{Progress}
use Rattle.vcpu_run.specs.declared.script.Script.{Script}
use Rattle.vcpu_run.specs.AnswersSent.{sent_to}
use Rattle.vcpu_run.specs.Credited.{Ended, ended_by}
use Rattle.vcpu_run.specs.EventsHeard.{events_among}
use Rattle.vcpu_run.specs.EventsMade.{events_at, times_open}
use Rattle.vcpu_run.specs.EventsPut.{times_freed}
use Rattle.vcpu_run.specs.Freeing.{is_reset}
use Rattle.vcpu_run.specs.Works.{fails}

-- how many records are of resets
abbrev pub resets_told : List Ended → ℕ
resets_told [] = 0
resets_told (ended ∷ more) = (if is_reset ended.verb then 1 else 0) + resets_told more

-- whether one of these lines fails the partition, as a number
abbrev pub times_failing : List Line → ℕ
times_failing [] = 0
times_failing (line ∷ lines) = if fails line.verb then 1 else times_failing lines

-- whether a unit's queue was freed by the current line, which resets it
abbrev pub times_renewed : (unit : ℕ) → Progress → Line → ℕ
times_renewed unit p line = if is_reset line.verb && (line.unit == unit) then times_freed p else 0

-- while a line fails the partition, one more event for each queue that is not registered any more; else one for the reset under way
abbrev pub FewWhile : (unit : ℕ) → (resets : ℕ) → Progress → Pair → Line → Type 0
FewWhile unit resets p pair line =
    MatchBool (fails line.verb) (events_at pair + times_open pair ≤ resets + 1) (events_at pair ≤ resets + times_renewed unit p line)

-- a client's events so far
abbrev pub FewAt : (unit : ℕ) → (lines : List Line) → (resets : ℕ) → Progress → Option Line → Pair → Type 0
FewAt unit lines resets p current pair =
    MatchOption current (events_at pair ≤ resets + times_failing lines) (FewWhile unit resets p pair)

abbrev pub PairFew : Script → (unit : ℕ) → Pair → Type 0
PairFew script unit pair =
    FewAt unit script.lines.now (resets_told (ended_by unit script.lines.now script.logs.items)) script.progress (slice_get script.lines.now script.at) pair

-- A client put no more events into its server unit's queue than its records tell of resets, and one more where a line fails its partition.
abbrev pub EventsAreFew : Trace → (server : UnitId) → List Line → List Ended → Type 0
EventsAreFew trace server lines ended = events_among (sent_to trace server) ≤ resets_told ended + times_failing lines
