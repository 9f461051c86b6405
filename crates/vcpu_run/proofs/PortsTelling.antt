-- What the lines of a script tell of its ports: words, replay and offers, as steps of lines go on.
use Rattle.std.proofs.Common.{◌≡◌, ℕ, ◌==◌, ◌≤◌, false, true, [], ◌∷◌, ◌++◌, Some, length, refl, ap}
use Rattle.std.specs.List.{slice_get}
use Rattle.vio_num.specs.declared.hypervisor.Moved.{Moved}
use Rattle.boot_text.specs.declared.plan.Line.{Line}
use Rattle.boot_text.specs.declared.verb.Verb.TheVariants as verbs
use Rattle.unit_region.specs.declared.step.Step.TheVariants as steps
use Rattle.vio_trace.specs.declared.outcome.Outcome.TheVariants as outcomes
use Rattle.vio_trace.specs.declared.rows.LogRow.{LogRow}
use Rattle.lan_script.specs.PortCounts.{counts, counts_by, counts_told}
use Rattle.lan_script.specs.Replayed.{is_replayed}
use Rattle.lan_script.specs.Seats.{is_in_region}
use Rattle.lan_script.specs.Units.{LanValue}
use Rattle.vcpu_run.specs.declared.script.Script.{Script}
use Rattle.vcpu_run.specs.FailedPorts.{PortsClosed}
use Rattle.vcpu_run.specs.PortCalls.{EndsEntries}
use Rattle.vcpu_run.specs.PortMacs.{EndsPorts}
use Rattle.vcpu_run.specs.PortSteps.{AllSilent, AllTake, AreFresh, TellsStep}
use Rattle.vcpu_run.specs.PortWords.{TellsPorts, done_in, frame_of}
use Rattle.vcpu_run.specs.Suited.{is_call}
use Rattle.vcpu_run.specs.Works.{fails}
use Rattle.vcpu_run.proofs.FailedPorts.{closes_failed, closes_fresh, closes_rest, closes_step, closes_wait}
use Rattle.vcpu_run.proofs.PortFitting.{fit_ends, fit_fails, fit_fresh, fit_rest, fit_waits}
use Rattle.vcpu_run.proofs.PortAddresses.{macs_fresh, macs_quiet, macs_rest, macs_silent, macs_step, macs_wait, silent_here}
use Rattle.vcpu_run.proofs.PortAmong.{among_fresh, among_quiet, among_rest, among_silent, among_step, among_took, among_wait}
use Rattle.vcpu_run.proofs.PortBytes.{bytes_fresh, bytes_quiet, bytes_rest, bytes_silent, bytes_step, bytes_wait, fails_quiet}
use Rattle.vcpu_run.proofs.CallsKept.{fails_no_call}
use Rattle.vcpu_run.proofs.PortEntries.{entries_fresh, entries_quiet, entries_rest, entries_silent, entries_step, entries_wait}
use Rattle.vcpu_run.proofs.PortLines.{fails_apart, regions_fresh, regions_quiet, regions_rest, regions_silent, regions_step, regions_wait}
use Rattle.vcpu_run.proofs.PortLogged.{logged_fresh, logged_quiet, logged_rest, logged_silent, logged_step, logged_wait}
use Rattle.vcpu_run.proofs.PortOffering.{offers_end, offers_fail, offers_fresh, offers_rest, offers_wait}
use Rattle.vcpu_run.proofs.PortPosting.{buffers_fresh, buffers_quiet, buffers_rest, buffers_silent, buffers_step, buffers_took, buffers_wait, fails_in_form, quiet_in_form, takes_fresh, takes_quiet, takes_step, takes_took, takes_wait}
use Rattle.vcpu_run.proofs.PortPutting.{values_fresh, values_quiet, values_rest, values_silent, values_step, values_wait}
use Rattle.vcpu_run.proofs.PortRanges.{fails_ranged, quiet_ranged, ranges_fresh, ranges_quiet, ranges_rest, ranges_silent, ranges_step, ranges_wait}
use Rattle.vcpu_run.proofs.PortReplaying.{failing_replay, fresh_replay, none_replay, replay_ends, replay_waits, rest_replay, step_replay}
use Rattle.unit_region.specs.LinePuts.{is_put}
use Rattle.vcpu_run.proofs.ValuesKept.{fails_none as fails_puts_none}
use Rattle.vcpu_run.proofs.PortTelling.{fails_none, fresh_words, quiet_words, rest_words, silent_words, step_words, took_words, words_wait}

-- no port did anything
all_still : (lan : LanValue) → AllSilent lan lan
all_still lan unit = silent_here lan unit

-- the current line waits
pub port_waits : (lan lan' : LanValue) (script script' : Script) (line : Line) (moved : Moved) → slice_get script.lines.now script.at ≡ Some line
    → script' ≡ record script { progress = script'.progress } → (is_call line.verb ≡ true → ⊥)
    → (is_call line.verb ≡ false → TellsStep script.partition script.seats.items line (done_in script.progress) (done_in script'.progress) lan lan' (steps.Waits moved))
    → TellsPorts lan script → TellsPorts lan' script'
port_waits lan lan' script script' line moved found same no_call step tells = record {
  words = words_wait lan lan' script script' line moved found same step tells.words;
  among = among_wait lan lan' script script' line moved found same no_call step tells.among;
  ranges = ranges_wait lan lan' script script' line moved same no_call step tells.ranges;
  buffers = buffers_wait lan lan' script script' line moved found same step tells.buffers;
  takes = takes_wait lan lan' script script' line moved found same step tells.takes;
  values = values_wait lan lan' script script' line moved found same step tells.values;
  regions = regions_wait lan lan' script script' line moved found same no_call step tells.regions;
  logged = logged_wait lan lan' script script' line moved found same no_call step tells.logged;
  entries = entries_wait lan lan' script script' line moved found same no_call step tells.entries;
  macs = macs_wait lan lan' script script' line moved same no_call step tells.macs;
  bytes = bytes_wait lan lan' script script' line moved found same step tells.bytes;
  replay = replay_waits lan lan' script script' line moved found same step tells.replay;
  offers = offers_wait lan lan' script script' line moved found same step tells.offers;
  fit = fit_waits lan lan' script script' line moved found same step tells.replay tells.fit;
  closes = closes_wait lan lan' script script' line found same tells.closes;
}

-- it ends
pub step_tells : (lan lan' : LanValue) (script ended : Script) (line : Line) (row : LogRow) (done' : ℕ) → slice_get script.lines.now script.at ≡ Some line
    → length script.logs.items ≡ script.at → ended.partition ≡ script.partition → ended.lines ≡ script.lines → ended.seats ≡ script.seats
    → ended.logs.items ≡ script.logs.items ++ row ∷ [] → done_in ended.progress ≡ 0
    → fails line.verb ≡ false → lan'.seats ≡ lan.seats → (is_call line.verb ≡ true → EndsPorts script.partition line.verb lan lan' (steps.Ends row.outcome))
    → (is_call line.verb ≡ true → EndsEntries script.partition (slice_get script.seats.items) line.verb lan lan' (steps.Ends row.outcome))
    → (is_call line.verb ≡ false → TellsStep script.partition script.seats.items line (done_in script.progress) done' lan lan' (steps.Ends row.outcome))
    → TellsPorts lan script → TellsPorts lan' ended
step_tells lan lan' script ended line row done' found reached partition lines seats logs fresh other ports call entry step tells = record {
  words = step_words lan lan' script ended line row done' found reached partition lines seats logs fresh step tells.words;
  among = among_step lan lan' script ended line row done' found reached partition lines seats logs fresh call step tells.among;
  ranges = ranges_step lan lan' script ended line row done' found reached partition lines seats logs ports step tells.ranges;
  buffers = buffers_step lan lan' script ended line row done' found reached partition lines seats logs fresh step tells.buffers;
  takes = takes_step lan lan' script ended line row done' found reached lines seats logs fresh step tells.takes;
  values = values_step lan lan' script ended line row done' found reached partition lines seats logs step tells.values;
  regions = regions_step lan lan' script ended line row done' found reached partition lines seats logs ports entry step tells.logged tells.regions;
  logged = logged_step lan lan' script ended line row done' found reached partition lines seats logs entry step tells.logged;
  entries = entries_step lan lan' script ended line row done' found reached partition lines seats logs ports entry step tells.logged tells.entries;
  macs = macs_step lan lan' script ended line row done' found reached partition lines seats logs call step tells.macs;
  bytes = bytes_step lan lan' script ended line row done' found reached partition lines seats logs step tells.bytes;
  replay = replay_ends lan lan' script ended line row found reached partition lines seats logs fresh
      (λ no going unit sat. step_replay lan lan' script line row done' unit (line.unit == unit) ((step no).rises unit sat)) tells.replay;
  offers = offers_end lan lan' script ended line row found reached partition lines seats logs
      (λ no going unit sat. step_replay lan lan' script line row done' unit (line.unit == unit) ((step no).rises unit sat)) tells.replay tells.offers;
  fit = fit_ends lan lan' script ended line row found reached partition lines seats logs
      (λ no going unit sat. step_replay lan lan' script line row done' unit (line.unit == unit) ((step no).rises unit sat)) tells.replay tells.fit;
  closes = closes_step lan lan' script ended line row found reached lines logs other tells.closes;
}

-- a line that did nothing and is none of a replay, nor of one that lines tell of
pub quiet_tells : (lan : LanValue) (script ended : Script) (line : Line) (row : LogRow) → slice_get script.lines.now script.at ≡ Some line
    → length script.logs.items ≡ script.at → ended.partition ≡ script.partition → ended.lines ≡ script.lines → ended.seats ≡ script.seats
    → ended.logs.items ≡ script.logs.items ++ row ∷ [] → done_in ended.progress ≡ 0
    → frame_of row.outcome ≡ [] → counts_told row.outcome ≡ counts 0 0 → ((d : ℕ) → counts_by line.verb d ≡ counts 0 0) → is_replayed line.verb ≡ false
    → is_put line.verb ≡ false → is_in_region line.verb ≡ false → is_call line.verb ≡ false → fails line.verb ≡ false → TellsPorts lan script → TellsPorts lan ended
quiet_tells lan script ended line row found reached partition lines seats logs fresh no_frame none nothing other isnt apart no_call goes_on tells = record {
  words = quiet_words lan lan script ended line row found reached partition lines seats logs fresh no_frame none nothing (all_still lan) tells.words;
  among = among_quiet lan lan script ended line row found reached partition lines seats logs fresh no_frame none nothing isnt (all_still lan) tells.among;
  ranges = ranges_quiet lan lan script ended line row found reached partition lines seats logs (λ pages. quiet_ranged pages line.verb row.outcome other) (all_still lan) tells.ranges;
  buffers = buffers_quiet lan lan script ended line row found reached partition lines seats logs fresh none nothing (all_still lan) tells.buffers;
  takes = takes_quiet script ended line row found reached lines seats logs fresh (quiet_in_form line.verb row.outcome nothing other) tells.takes;
  values = values_quiet lan lan script ended line row found reached partition lines seats logs isnt (all_still lan) tells.values;
  regions = regions_quiet lan lan script ended line row found reached partition lines seats logs apart (all_still lan) tells.logged tells.regions;
  logged = logged_quiet lan lan script ended line row found reached partition lines seats logs (all_still lan) tells.logged;
  entries = entries_quiet lan lan script ended line row found reached partition lines seats logs no_call (all_still lan) tells.entries;
  macs = macs_quiet lan lan script ended line row found reached partition lines seats logs (all_still lan) tells.macs;
  bytes = bytes_quiet lan lan script ended line row found reached partition lines seats logs other (all_still lan) tells.bytes;
  replay = replay_ends lan lan script ended line row found reached partition lines seats logs fresh
      (λ no going unit sat. none_replay lan script line row unit (line.unit == unit) other) tells.replay;
  offers = offers_end lan lan script ended line row found reached partition lines seats logs
      (λ no going unit sat. none_replay lan script line row unit (line.unit == unit) other) tells.replay tells.offers;
  fit = fit_ends lan lan script ended line row found reached partition lines seats logs
      (λ no going unit sat. none_replay lan script line row unit (line.unit == unit) other) tells.replay tells.fit;
  closes = closes_step lan lan script ended line row found reached lines logs goes_on tells.closes;
}

-- a line of frames that waits and is ended: it tells of those that it took
pub took_tells : (lan : LanValue) (script ended : Script) (line : Line) (row : LogRow) (count taken : ℕ) → slice_get script.lines.now script.at ≡ Some line
    → length script.logs.items ≡ script.at → ended.partition ≡ script.partition → ended.lines ≡ script.lines → ended.seats ≡ script.seats
    → ended.logs.items ≡ script.logs.items ++ row ∷ [] → done_in ended.progress ≡ 0
    → row.outcome ≡ outcomes.Took taken → line.verb ≡ verbs.Take count → taken ≤ done_in script.progress
    → TellsPorts lan script → TellsPorts lan ended
took_tells lan script ended line row count taken found reached partition lines seats logs fresh out verb few tells = record {
  words = took_words lan script ended line row count taken found reached partition lines seats logs fresh out verb few tells.words;
  among = among_took lan script ended line row count taken found reached partition lines seats logs fresh out verb few tells.among;
  ranges = ranges_quiet lan lan script ended line row found reached partition lines seats logs (λ pages. quiet_ranged pages line.verb row.outcome (ap is_replayed verb)) (all_still lan) tells.ranges;
  buffers = buffers_took lan script ended line row count found reached partition lines seats logs fresh verb tells.buffers;
  takes = takes_took script ended line row count taken found reached lines seats logs fresh out verb few tells.takes;
  values = values_quiet lan lan script ended line row found reached partition lines seats logs (ap is_put verb) (all_still lan) tells.values;
  regions = regions_quiet lan lan script ended line row found reached partition lines seats logs (ap is_in_region verb) (all_still lan) tells.logged tells.regions;
  logged = logged_quiet lan lan script ended line row found reached partition lines seats logs (all_still lan) tells.logged;
  entries = entries_quiet lan lan script ended line row found reached partition lines seats logs (ap is_call verb) (all_still lan) tells.entries;
  macs = macs_quiet lan lan script ended line row found reached partition lines seats logs (all_still lan) tells.macs;
  bytes = bytes_quiet lan lan script ended line row found reached partition lines seats logs (ap is_replayed verb) (all_still lan) tells.bytes;
  replay = replay_ends lan lan script ended line row found reached partition lines seats logs fresh
      (λ no going unit sat. none_replay lan script line row unit (line.unit == unit) (ap is_replayed verb)) tells.replay;
  offers = offers_end lan lan script ended line row found reached partition lines seats logs
      (λ no going unit sat. none_replay lan script line row unit (line.unit == unit) (ap is_replayed verb)) tells.replay tells.offers;
  fit = fit_ends lan lan script ended line row found reached partition lines seats logs
      (λ no going unit sat. none_replay lan script line row unit (line.unit == unit) (ap is_replayed verb)) tells.replay tells.fit;
  closes = closes_step lan lan script ended line row found reached lines logs (ap fails verb) tells.closes;
}

-- a line that failed the partition
pub failed_tells : (lan lan' : LanValue) (script ended : Script) (line : Line) (row : LogRow) → slice_get script.lines.now script.at ≡ Some line
    → length script.logs.items ≡ script.at → ended.partition ≡ script.partition → ended.lines ≡ script.lines → ended.seats ≡ script.seats
    → ended.logs.items ≡ script.logs.items ++ row ∷ [] → done_in ended.progress ≡ 0
    → frame_of row.outcome ≡ [] → counts_told row.outcome ≡ counts 0 0 → fails line.verb ≡ true → AllSilent lan lan'
    → ended.at ≡ length ended.lines.now → PortsClosed script.partition script.seats.items lan'
    → TellsPorts lan script → TellsPorts lan' ended
failed_tells lan lan' script ended line row found reached partition lines seats logs fresh no_frame none failing silent over closed tells = record {
  words = quiet_words lan lan' script ended line row found reached partition lines seats logs fresh no_frame none (fails_none line.verb failing) silent tells.words;
  among = among_quiet lan lan' script ended line row found reached partition lines seats logs fresh no_frame none (fails_none line.verb failing) (fails_puts_none line.verb failing) silent tells.among;
  ranges = ranges_quiet lan lan' script ended line row found reached partition lines seats logs (λ pages. fails_ranged pages line.verb row.outcome failing) silent tells.ranges;
  buffers = buffers_quiet lan lan' script ended line row found reached partition lines seats logs fresh none (fails_none line.verb failing) silent tells.buffers;
  takes = takes_quiet script ended line row found reached lines seats logs fresh (fails_in_form line.verb row.outcome failing) tells.takes;
  values = values_quiet lan lan' script ended line row found reached partition lines seats logs (fails_puts_none line.verb failing) silent tells.values;
  regions = regions_quiet lan lan' script ended line row found reached partition lines seats logs (fails_apart line.verb failing) silent tells.logged tells.regions;
  logged = logged_quiet lan lan' script ended line row found reached partition lines seats logs silent tells.logged;
  entries = entries_quiet lan lan' script ended line row found reached partition lines seats logs (fails_no_call line.verb failing) silent tells.entries;
  macs = macs_quiet lan lan' script ended line row found reached partition lines seats logs silent tells.macs;
  bytes = bytes_quiet lan lan' script ended line row found reached partition lines seats logs (fails_quiet line.verb failing) silent tells.bytes;
  replay = failing_replay lan' script ended line found failing lines;
  offers = offers_fail lan' script ended line found failing lines;
  fit = fit_fails lan' script ended line found failing lines;
  closes = closes_failed lan' script ended over partition seats closed;
}

-- one that fails it still
pub failing_tells : (lan lan' : LanValue) (script : Script) (line : Line) → slice_get script.lines.now script.at ≡ Some line → fails line.verb ≡ true
    → AllSilent lan lan' → TellsPorts lan script → TellsPorts lan' script
failing_tells lan lan' script line found failing silent tells = record {
  words = silent_words lan lan' script silent tells.words;
  among = among_silent lan lan' script silent tells.among;
  ranges = ranges_silent lan lan' script silent tells.ranges;
  buffers = buffers_silent lan lan' script silent tells.buffers;
  takes = tells.takes;
  values = values_silent lan lan' script silent tells.values;
  regions = regions_silent lan lan' script silent tells.regions;
  logged = logged_silent lan lan' script silent tells.logged;
  entries = entries_silent lan lan' script silent tells.entries;
  macs = macs_silent lan lan' script silent tells.macs;
  bytes = bytes_silent lan lan' script silent tells.bytes;
  replay = failing_replay lan' script script line found failing refl;
  offers = offers_fail lan' script script line found failing refl;
  fit = fit_fails lan' script script line found failing refl;
  closes = closes_wait lan lan' script script line found refl tells.closes;
}

-- nothing but frames was taken
pub rest_tells : (lan lan' : LanValue) (script : Script) → AllTake script.partition lan lan' → TellsPorts lan script → TellsPorts lan' script
rest_tells lan lan' script takes tells = record {
  words = rest_words lan lan' script takes tells.words;
  among = among_rest lan lan' script takes tells.among;
  ranges = ranges_rest lan lan' script takes tells.ranges;
  buffers = buffers_rest lan lan' script takes tells.buffers;
  takes = tells.takes;
  values = values_rest lan lan' script takes tells.values;
  regions = regions_rest lan lan' script takes tells.regions;
  logged = logged_rest lan lan' script takes tells.logged;
  entries = entries_rest lan lan' script takes tells.entries;
  macs = macs_rest lan lan' script takes tells.macs;
  bytes = bytes_rest lan lan' script takes tells.bytes;
  replay = rest_replay lan lan' script takes tells.replay;
  offers = offers_rest lan lan' script takes tells.offers;
  fit = fit_rest lan lan' script takes tells.replay tells.fit;
  closes = closes_rest lan lan' script takes tells.closes;
}

-- a script before its first line
pub fresh_tells : (lan : LanValue) (script : Script) → script.logs.items ≡ [] → done_in script.progress ≡ 0 → AreFresh lan → TellsPorts lan script
fresh_tells lan script logs progress fresh = record {
  words = fresh_words lan script logs progress fresh;
  among = among_fresh lan script logs progress fresh;
  ranges = ranges_fresh lan script logs;
  buffers = buffers_fresh lan script logs progress fresh;
  takes = takes_fresh script logs progress;
  values = values_fresh lan script logs fresh;
  regions = regions_fresh lan script logs;
  logged = logged_fresh lan script fresh;
  entries = entries_fresh lan script logs;
  macs = macs_fresh lan script fresh;
  bytes = bytes_fresh lan script logs fresh;
  replay = fresh_replay lan script logs progress fresh;
  offers = offers_fresh lan script logs;
  fit = fit_fresh lan script fresh;
  closes = closes_fresh lan script logs;
}
