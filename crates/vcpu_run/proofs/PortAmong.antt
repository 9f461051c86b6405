-- What the lines of LAN units tell is among what their ports did, whatever raw calls are made, as steps of lines go on.
use Rattle.std.proofs.Common.{◌≡◌, ℕ, ◌+◌, ◌*◌, ◌≤◌, ◌==◌, cond, Bool, true, false, List, [], ◌∷◌, ◌++◌, append-nil, map, Option, Some, length, refl, sym, ◌∙◌, ap, subst, arith}
use Rattle.std.specs.List.{slice_get}
use Rattle.std.proofs.lemmas.List.{append_assoc, map-append}
use Rattle.vio_num.specs.Words.{Begins}
use Rattle.vio_num.specs.declared.hypervisor.Moved.{Moved}
use Rattle.vio_num.specs.declared.names.Mac.{Mac}
use Rattle.vio_num.specs.declared.names.UnitId.{UnitId}
use Rattle.boot_text.specs.declared.plan.Line.{Line}
use Rattle.boot_text.specs.declared.verb.Verb.{Verb}
use Rattle.boot_text.specs.declared.verb.Verb.TheVariants as verbs
use Rattle.unit_region.specs.LinePuts.{StepPuts, is_put, put_by}
use Rattle.unit_region.specs.declared.step.Step.TheVariants as steps
use Rattle.unit_region.proofs.Laws.{none_put}
use Rattle.vio_trace.specs.declared.lan_rows.FrameRow.{FrameRow}
use Rattle.vio_trace.specs.declared.outcome.Outcome.{Outcome}
use Rattle.vio_trace.specs.declared.outcome.Outcome.TheVariants as outcomes
use Rattle.vio_trace.specs.declared.rows.LogRow.{LogRow}
use Rattle.lan_script.specs.Buffers.{AddsBuffers, buffers_by, buffers_told, posted_at}
use Rattle.lan_script.specs.Entries.{ValuesGrow, values_at}
use Rattle.lan_script.specs.PortCounts.{PortCounts, counts, counts_at, counts_by, counts_told}
use Rattle.lan_script.specs.Units.{LanValue}
use Rattle.lan_script.specs.Values.{KeepsValues}
use Rattle.vcpu_run.specs.declared.script.Script.{Script}
use Rattle.vcpu_run.specs.declared.unit_seat.Seat.TheVariants as sits
use Rattle.vcpu_run.specs.Among.{AreAmong}
use Rattle.vcpu_run.specs.Credited.{Ended, ended_by}
use Rattle.vcpu_run.specs.PortMacs.{CallsPort, EndsPorts, IsOfCall}
use Rattle.vcpu_run.specs.PortPosts.{buffers_of, buffers_under}
use Rattle.vcpu_run.specs.PortReplays.{sent_at}
use Rattle.vcpu_run.specs.Ports.{unit_of}
use Rattle.vcpu_run.specs.PortSteps.{AllSilent, AllTake, AreFresh, IsIdle, Rises, RisesIf, TakesOn, TellsStep}
use Rattle.vcpu_run.specs.PortWords.{FrameTold, KeepsAmong, TellsAmong, buffers_now, counts_now, counts_under, done_in, frame_of, frame_told, frames_at, frames_told}
use Rattle.vcpu_run.specs.Suited.{is_call}
use Rattle.vcpu_run.specs.ValuesPut.{values_told}
use Rattle.vcpu_run.proofs.Among.{among_both, among_more, among_same}
use Rattle.vcpu_run.proofs.Crediting.{ended_more}
use Rattle.vcpu_run.proofs.PortPosting.{buffers_more, idle_posted, none_under as no_buffers, nothing_ended, quiet_by, quiet_told, takes_posted}
use Rattle.vcpu_run.proofs.PortTelling.{frames_more, none_under, taken_more}
use Rattle.vcpu_run.proofs.ValuesKept.{told_more}

-- ---- one port

-- what a port did more stands behind what it did, and what its lines tell more behind what they told
frames_on : (told more sent sent' : List FrameTold) → AreAmong told sent → sent' ≡ sent ++ more → AreAmong (told ++ more) sent'
frames_on told more sent sent' is same = subst (λ (l : List FrameTold). AreAmong (told ++ more) l) (sym same) (among_both told sent more is)

buffers_on : (told before after : List ℕ) (lan lan' : LanValue) (unit : UnitId) → AreAmong (told ++ before) (posted_at lan unit)
    → AddsBuffers unit before after lan lan' → AreAmong (told ++ after) (posted_at lan' unit)
buffers_on told before after lan lan' unit is adds =
    subst (λ (l : List ℕ). AreAmong l (posted_at lan' unit)) (append_assoc told before adds.more ∙ ap (λ l. told ++ l) (sym adds.told))
    (subst (λ (l : List ℕ). AreAmong ((told ++ before) ++ adds.more) l) (sym adds.posted) (among_both (told ++ before) (posted_at lan unit) adds.more is))

values_on : (own : List Ended) (verb : Verb) (outcome : Outcome) (lan lan' : LanValue) (unit : UnitId) (e : ℕ)
    → AreAmong ((4096 * e + 3) ∷ values_told e own) (values_at lan unit e) → values_at lan' unit e ≡ values_at lan unit e ++ put_by e verb outcome
    → AreAmong ((4096 * e + 3) ∷ values_told e (own ++ record { verb = verb; outcome = outcome } ∷ [])) (values_at lan' unit e)
values_on own verb outcome lan lan' unit e is puts =
    subst (λ (l : List ℕ). AreAmong l (values_at lan' unit e)) (ap (λ (l : List ℕ). (4096 * e + 3) ∷ l) (sym (told_more e own verb outcome)))
    (subst (λ (l : List ℕ). AreAmong ((4096 * e + 3) ∷ (values_told e own ++ put_by e verb outcome)) l) (sym puts)
    (among_both ((4096 * e + 3) ∷ values_told e own) (values_at lan unit e) (put_by e verb outcome) is))

-- the unit's own line ends, or waits
ends_on : (own : List Ended) (e : Ended) (buffers : List ℕ) (before : PortCounts) (lan lan' : LanValue) (unit : UnitId)
    → Rises (frame_of e.outcome) before (counts_told e.outcome) lan lan' unit → AddsBuffers unit buffers (buffers_told e.verb e.outcome) lan lan'
    → StepPuts e.verb (steps.Ends e.outcome) (values_at lan unit) (values_at lan' unit) → KeepsAmong own buffers before lan unit → KeepsAmong (own ++ e ∷ []) [] (counts 0 0) lan' unit
ends_on own e buffers before lan lan' unit rises adds puts is = record {
  frames = subst (λ (l : List FrameTold). AreAmong l (frames_at lan' unit)) (sym (frames_more own e))
      (frames_on (frames_told own) (frame_of e.outcome) (frames_at lan unit) (frames_at lan' unit) is.frames rises.frames);
  posts = subst (λ (l : List ℕ). AreAmong l (posted_at lan' unit)) (sym (append-nil (buffers_of (own ++ e ∷ [])) ∙ buffers_more own e))
      (buffers_on (buffers_of own) buffers (buffers_told e.verb e.outcome) lan lan' unit is.posts adds);
  values = λ entry. values_on own e.verb e.outcome lan lan' unit entry (is.values entry) (puts entry);
  taken = omega (arith, taken_more own e, is.taken, rises.taken);
}

waits_on : (own : List Ended) (buffers buffers' : List ℕ) (before after : PortCounts) (lan lan' : LanValue) (unit : UnitId)
    → Rises [] before after lan lan' unit → AddsBuffers unit buffers buffers' lan lan' → ((e : ℕ) → values_at lan' unit e ≡ values_at lan unit e)
    → KeepsAmong own buffers before lan unit → KeepsAmong own buffers' after lan' unit
waits_on own buffers buffers' before after lan lan' unit rises adds same is = record {
  frames = subst (λ (l : List FrameTold). AreAmong (frames_told own) l) (sym (rises.frames ∙ append-nil (frames_at lan unit))) is.frames;
  posts = buffers_on (buffers_of own) buffers buffers' lan lan' unit is.posts adds;
  values = λ e. subst (λ (l : List ℕ). AreAmong ((4096 * e + 3) ∷ values_told e own) l) (sym (same e)) (is.values e);
  taken = omega (arith, is.taken, rises.taken);
}

-- What a port did, whatever it was: its frames, its posts and the values of its entries are those of before, and others behind them, if any.
record GrowsOn (lan lan' : LanValue) (unit : UnitId) : Type 0 where
  frames : Begins (frames_at lan unit) (frames_at lan' unit)
  posted : Begins (posted_at lan unit) (posted_at lan' unit)
  taken : (counts_at lan unit).taken ≤ (counts_at lan' unit).taken
  values : ValuesGrow unit lan lan'

same_begins : {X : Type 0} (old new : List X) → new ≡ old → Begins old new
same_begins old new same = ([], same ∙ sym (append-nil old))

among_begins : {X : Type 0} (told old new : List X) → Begins old new → AreAmong told old → AreAmong told new
among_begins told old new (more, same) is = subst (λ l. AreAmong told l) (sym same) (among_more told old more is)

grows_on : (own : List Ended) (buffers : List ℕ) (now : PortCounts) (lan lan' : LanValue) (unit : UnitId) → GrowsOn lan lan' unit
    → KeepsAmong own buffers now lan unit → KeepsAmong own buffers now lan' unit
grows_on own buffers now lan lan' unit grows is = record {
  frames = among_begins (frames_told own) (frames_at lan unit) (frames_at lan' unit) grows.frames is.frames;
  posts = among_begins (buffers_of own ++ buffers) (posted_at lan unit) (posted_at lan' unit) grows.posted is.posts;
  values = λ e. among_begins ((4096 * e + 3) ∷ values_told e own) (values_at lan unit e) (values_at lan' unit e) (grows.values e) (is.values e);
  taken = omega (arith, is.taken, grows.taken);
}

still_grows : (lan lan' : LanValue) (unit : UnitId) → frames_at lan' unit ≡ frames_at lan unit → posted_at lan' unit ≡ posted_at lan unit
    → (counts_at lan unit).taken ≤ (counts_at lan' unit).taken → KeepsValues unit lan.places lan'.places → GrowsOn lan lan' unit
still_grows lan lan' unit frames posted taken values = record {
  frames = same_begins (frames_at lan unit) (frames_at lan' unit) frames;
  posted = same_begins (posted_at lan unit) (posted_at lan' unit) posted;
  taken = taken;
  values = λ e. same_begins (values_at lan unit e) (values_at lan' unit e) (values e);
}

idle_grows : (lan lan' : LanValue) (unit : UnitId) → IsIdle lan lan' unit → GrowsOn lan lan' unit
idle_grows lan lan' unit idle =
    still_grows lan lan' unit idle.frames (idle_posted lan lan' unit idle) (omega (arith, ap (λ (c : PortCounts). c.taken) idle.counts)) idle.still.values

takes_grows : (lan lan' : LanValue) (unit : UnitId) → TakesOn lan lan' unit → GrowsOn lan lan' unit
takes_grows lan lan' unit takes = still_grows lan lan' unit takes.frames (takes_posted lan lan' unit takes) takes.taken takes.still.values

silent_grows : (lan lan' : LanValue) (unit : UnitId) → AllSilent lan lan' → GrowsOn lan lan' unit
silent_grows lan lan' unit silent =
    still_grows lan lan' unit (silent unit).frames (silent unit).posted (omega (arith, ap (λ (c : PortCounts). c.taken) (silent unit).counts)) (silent unit).values

called_grows : (given : Option Mac) (lan lan' : LanValue) (unit : UnitId) → CallsPort given unit lan lan' → GrowsOn lan lan' unit
called_grows given lan lan' unit h = record {
  frames = (map frame_told h.frames.0, ap (λ (l : List FrameRow). map frame_told l) h.frames.1 ∙ map-append frame_told (sent_at lan unit) h.frames.0);
  posted = h.posted;
  taken = h.taken;
  values = h.values;
}

-- ---- the lines of a script

-- a line that tells of nothing
tells_none : (own : List Ended) (e : Ended) (lan : LanValue) (unit : UnitId) → frame_of e.outcome ≡ [] → buffers_told e.verb e.outcome ≡ []
    → (counts_told e.outcome).taken ≡ 0 → is_put e.verb ≡ false → KeepsAmong own [] (counts 0 0) lan unit → KeepsAmong (own ++ e ∷ []) [] (counts 0 0) lan unit
tells_none own e lan unit frame buffers taken isnt is = record {
  frames = subst (λ (l : List FrameTold). AreAmong l (frames_at lan unit))
      (sym (frames_more own e ∙ ap (λ l. frames_told own ++ l) frame ∙ append-nil (frames_told own))) is.frames;
  posts = subst (λ (l : List ℕ). AreAmong (l ++ []) (posted_at lan unit))
      (sym (buffers_more own e ∙ ap (λ l. buffers_of own ++ l) buffers ∙ append-nil (buffers_of own))) is.posts;
  values = λ entry. subst (λ (l : List ℕ). AreAmong ((4096 * entry + 3) ∷ l) (values_at lan unit entry))
      (sym (told_more entry own e.verb e.outcome ∙ ap (λ (l : List ℕ). values_told entry own ++ l) (none_put entry e.verb e.outcome isnt)
      ∙ append-nil (values_told entry own))) (is.values entry);
  taken = omega (arith, taken_more own e, is.taken, taken);
}

-- the record of a raw call
no_frame : (outcome : Outcome) → IsOfCall outcome → frame_of outcome ≡ []
no_frame (outcomes.Frame code number) is = absurd is
no_frame outcome is = refl

no_taken : (outcome : Outcome) → IsOfCall outcome → (counts_told outcome).taken ≡ 0
no_taken (outcomes.Took count) is = absurd is
no_taken outcome is = refl

call_told : (verb : Verb) (outcome : Outcome) → is_call verb ≡ true → buffers_told verb outcome ≡ []
call_told (verbs.Post at len count) outcome e = absurd (cc (e))
call_told verb outcome e = refl

call_buffers : (verb : Verb) (done : ℕ) → is_call verb ≡ true → buffers_by verb done ≡ []
call_buffers (verbs.Post at len count) done e = absurd (cc (e))
call_buffers verb done e = refl

call_counts : (verb : Verb) (done : ℕ) → is_call verb ≡ true → counts_by verb done ≡ counts 0 0
call_counts (verbs.Post at len count) done e = absurd (cc (e))
call_counts (verbs.Take count) done e = absurd (cc (e))
call_counts verb done e = refl

call_puts : (verb : Verb) → is_call verb ≡ true → is_put verb ≡ false
call_puts (verbs.Tce entry page readable writable) e = absurd (cc (e))
call_puts verb e = refl

-- What the end of a line does at a port of its partition, in whatever way it is shown.
abbrev AmongIf : (own : Bool) → Script → (unit : ℕ) → Line → LogRow → (lan lan' : LanValue) → Type 0
AmongIf true script unit line row lan lan' = (es : List Ended)
    → KeepsAmong es (buffers_by line.verb (done_in script.progress)) (counts_by line.verb (done_in script.progress)) lan (unit_of script.partition unit)
    → KeepsAmong (es ++ record { verb = line.verb; outcome = row.outcome } ∷ []) [] (counts 0 0) lan' (unit_of script.partition unit)
AmongIf false script unit line row lan lan' = GrowsOn lan lan' (unit_of script.partition unit)

-- a line that tells of nothing, whatever it does
none_among : (lan lan' : LanValue) (script : Script) (line : Line) (row : LogRow) (unit : ℕ) (b : Bool) → buffers_by line.verb (done_in script.progress) ≡ []
    → counts_by line.verb (done_in script.progress) ≡ counts 0 0 → frame_of row.outcome ≡ [] → buffers_told line.verb row.outcome ≡ []
    → (counts_told row.outcome).taken ≡ 0 → is_put line.verb ≡ false → GrowsOn lan lan' (unit_of script.partition unit) → AmongIf b script unit line row lan lan'
none_among lan lan' script line row unit false buffers none frame told taken isnt grows = grows
none_among lan lan' script line row unit true buffers none frame told taken isnt grows = λ es is.
    tells_none es (record { verb = line.verb; outcome = row.outcome }) lan' (unit_of script.partition unit) frame told taken isnt
    (grows_on es [] (counts 0 0) lan lan' (unit_of script.partition unit) grows
    (subst (λ (now : PortCounts). KeepsAmong es [] now lan (unit_of script.partition unit)) none
    (subst (λ (l : List ℕ). KeepsAmong es l (counts_by line.verb (done_in script.progress)) lan (unit_of script.partition unit)) buffers is)))

-- the current line ends
among_end : (lan lan' : LanValue) (script ended : Script) (line : Line) (row : LogRow) → slice_get script.lines.now script.at ≡ Some line
    → length script.logs.items ≡ script.at → ended.partition ≡ script.partition → ended.lines ≡ script.lines → ended.seats ≡ script.seats
    → ended.logs.items ≡ script.logs.items ++ row ∷ [] → done_in ended.progress ≡ 0
    → ((unit : ℕ) → slice_get script.seats.items unit ≡ Some sits.Port → AmongIf (line.unit == unit) script unit line row lan lan')
    → TellsAmong lan script → TellsAmong lan' ended
among_end lan lan' script ended line row found reached partition lines seats logs fresh step tells unit sat =
    subst (λ es. KeepsAmong es (buffers_now unit ended) (counts_now unit ended) lan' (unit_of ended.partition unit)) (sym records)
    (subst (λ now. KeepsAmong (cond (line.unit == unit) (before ++ e ∷ []) before) (buffers_now unit ended) now lan' (unit_of ended.partition unit))
    (sym (none_under unit (done_in ended.progress) (slice_get ended.lines.now ended.at) fresh))
    (subst (λ (l : List ℕ). KeepsAmong (cond (line.unit == unit) (before ++ e ∷ []) before) l (counts 0 0) lan' (unit_of ended.partition unit))
    (sym (no_buffers unit (done_in ended.progress) (slice_get ended.lines.now ended.at) fresh))
    (subst (λ p. KeepsAmong (cond (line.unit == unit) (before ++ e ∷ []) before) [] (counts 0 0) lan' (unit_of p unit)) (sym partition)
    (by (line.unit == unit) (step unit sat')
    (subst (λ (o : Option Line). KeepsAmong before (buffers_under unit (done_in script.progress) o) (counts_under unit (done_in script.progress) o) lan u) found
    (tells unit sat'))))))
  where
    u : UnitId
    u = unit_of script.partition unit

    e : Ended
    e = record { verb = line.verb; outcome = row.outcome }

    before : List Ended
    before = ended_by unit script.lines.now script.logs.items

    sat' : slice_get script.seats.items unit ≡ Some sits.Port
    sat' = ap (λ ss. slice_get ss.items unit) (sym seats) ∙ sat

    there : slice_get script.lines.now (length script.logs.items) ≡ Some line
    there = ap (λ n. slice_get script.lines.now n) reached ∙ found

    records : ended_by unit ended.lines.now ended.logs.items ≡ cond (line.unit == unit) (before ++ e ∷ []) before
    records = ap (λ ls. ended_by unit ls.now ended.logs.items) lines ∙ (ap (ended_by unit script.lines.now) logs ∙ ended_more unit script.lines.now script.logs.items line row there)

    by : (b : Bool) → AmongIf b script unit line row lan lan'
        → KeepsAmong before (cond b (buffers_by line.verb (done_in script.progress)) []) (cond b (counts_by line.verb (done_in script.progress)) (counts 0 0)) lan u
        → KeepsAmong (cond b (before ++ e ∷ []) before) [] (counts 0 0) lan' u
    by true step is = step before is
    by false grows is = grows_on before [] (counts 0 0) lan lan' u grows is

-- a raw call, and a step of any other line
called_among : (lan lan' : LanValue) (script : Script) (line : Line) (row : LogRow) (unit : ℕ) → is_call line.verb ≡ true
    → EndsPorts script.partition line.verb lan lan' (steps.Ends row.outcome) → AmongIf (line.unit == unit) script unit line row lan lan'
called_among lan lan' script line row unit call h =
    none_among lan lan' script line row unit (line.unit == unit) (call_buffers line.verb (done_in script.progress) call)
    (call_counts line.verb (done_in script.progress) call) (no_frame row.outcome h.0) (call_told line.verb row.outcome call) (no_taken row.outcome h.0) (call_puts line.verb call)
    (called_grows _ lan lan' (unit_of script.partition unit) (h.1 unit))

stepped_among : (lan lan' : LanValue) (script : Script) (line : Line) (row : LogRow) (done' unit : ℕ) (b : Bool)
    → RisesIf b (unit_of script.partition unit) line.verb (done_in script.progress) done' lan lan' (steps.Ends row.outcome) → AmongIf b script unit line row lan lan'
stepped_among lan lan' script line row done' unit true rises = λ es is.
    ends_on es (record { verb = line.verb; outcome = row.outcome }) (buffers_by line.verb (done_in script.progress)) (counts_by line.verb (done_in script.progress))
    lan lan' (unit_of script.partition unit) rises.0 rises.2.posts rises.4 is
stepped_among lan lan' script line row done' unit false idle = idle_grows lan lan' (unit_of script.partition unit) idle

pub among_step : (lan lan' : LanValue) (script ended : Script) (line : Line) (row : LogRow) (done' : ℕ) → slice_get script.lines.now script.at ≡ Some line
    → length script.logs.items ≡ script.at → ended.partition ≡ script.partition → ended.lines ≡ script.lines → ended.seats ≡ script.seats
    → ended.logs.items ≡ script.logs.items ++ row ∷ [] → done_in ended.progress ≡ 0
    → (is_call line.verb ≡ true → EndsPorts script.partition line.verb lan lan' (steps.Ends row.outcome))
    → (is_call line.verb ≡ false → TellsStep script.partition script.seats.items line (done_in script.progress) done' lan lan' (steps.Ends row.outcome))
    → TellsAmong lan script → TellsAmong lan' ended
among_step lan lan' script ended line row done' found reached partition lines seats logs fresh call step =
    among_end lan lan' script ended line row found reached partition lines seats logs fresh (λ unit sat. by unit sat (is_call line.verb) refl)
  where
    by : (unit : ℕ) → slice_get script.seats.items unit ≡ Some sits.Port → (b : Bool) → is_call line.verb ≡ b → AmongIf (line.unit == unit) script unit line row lan lan'
    by unit sat true e = called_among lan lan' script line row unit e (call e)
    by unit sat false e = stepped_among lan lan' script line row done' unit (line.unit == unit) ((step e).rises unit sat)

-- a line that did nothing at any port, and tells of nothing
pub among_quiet : (lan lan' : LanValue) (script ended : Script) (line : Line) (row : LogRow) → slice_get script.lines.now script.at ≡ Some line
    → length script.logs.items ≡ script.at → ended.partition ≡ script.partition → ended.lines ≡ script.lines → ended.seats ≡ script.seats
    → ended.logs.items ≡ script.logs.items ++ row ∷ [] → done_in ended.progress ≡ 0
    → frame_of row.outcome ≡ [] → counts_told row.outcome ≡ counts 0 0 → ((d : ℕ) → counts_by line.verb d ≡ counts 0 0) → is_put line.verb ≡ false → AllSilent lan lan'
    → TellsAmong lan script → TellsAmong lan' ended
among_quiet lan lan' script ended line row found reached partition lines seats logs fresh frame none nothing isnt silent =
    among_end lan lan' script ended line row found reached partition lines seats logs fresh
    (λ unit sat.
    none_among lan lan' script line row unit (line.unit == unit) (quiet_by line.verb nothing (done_in script.progress)) (nothing (done_in script.progress)) frame
    (quiet_told line.verb row.outcome none) (ap (λ (c : PortCounts). c.taken) none) isnt (silent_grows lan lan' (unit_of script.partition unit) silent))

-- a line of frames that waits and is ended: it tells of those that it took
pub among_took : (lan : LanValue) (script ended : Script) (line : Line) (row : LogRow) (count taken : ℕ) → slice_get script.lines.now script.at ≡ Some line
    → length script.logs.items ≡ script.at → ended.partition ≡ script.partition → ended.lines ≡ script.lines → ended.seats ≡ script.seats
    → ended.logs.items ≡ script.logs.items ++ row ∷ [] → done_in ended.progress ≡ 0
    → row.outcome ≡ outcomes.Took taken → line.verb ≡ verbs.Take count → taken ≤ done_in script.progress
    → TellsAmong lan script → TellsAmong lan ended
among_took lan script ended line row count taken found reached partition lines seats logs fresh out verb few =
    among_end lan lan script ended line row found reached partition lines seats logs fresh (λ unit sat. by unit (line.unit == unit))
  where
    done : counts_by line.verb (done_in script.progress) ≡ counts 0 (done_in script.progress)
    done = ap (λ (v : Verb). counts_by v (done_in script.progress)) verb

    told : counts_told row.outcome ≡ counts 0 taken
    told = ap counts_told out

    by : (unit : ℕ) (b : Bool) → AmongIf b script unit line row lan lan
    by unit false = still_grows lan lan (unit_of script.partition unit) refl refl (omega arith) (λ e. refl)
    by unit true = λ es is.
        let e : Ended = record { verb = line.verb; outcome = row.outcome } in
        let u = unit_of script.partition unit in
        record {
          frames = subst (λ (l : List FrameTold). AreAmong l (frames_at lan u))
              (sym (frames_more es e ∙ ap (λ (o : Outcome). frames_told es ++ frame_of o) out ∙ append-nil (frames_told es))) is.frames;
          posts = subst (λ (l : List ℕ). AreAmong l (posted_at lan u))
              (ap (λ (v : Verb). buffers_of es ++ buffers_by v (done_in script.progress)) verb
              ∙ sym (append-nil (buffers_of (es ++ e ∷ [])) ∙ buffers_more es e ∙ ap (λ (v : Verb). buffers_of es ++ buffers_told v row.outcome) verb)) is.posts;
          values = λ entry. values_on es line.verb row.outcome lan lan u entry (is.values entry)
              (sym (append-nil (values_at lan u entry)) ∙ ap (λ (l : List ℕ). values_at lan u entry ++ l) (sym (none_put entry line.verb row.outcome (ap is_put verb))));
          taken = omega (arith, taken_more es e, is.taken, ap (λ (c : PortCounts). c.taken) done, ap (λ (c : PortCounts). c.taken) told, few);
        }

-- the current line waits
pub among_wait : (lan lan' : LanValue) (script script' : Script) (line : Line) (moved : Moved) → slice_get script.lines.now script.at ≡ Some line
    → script' ≡ record script { progress = script'.progress } → (is_call line.verb ≡ true → ⊥)
    → (is_call line.verb ≡ false → TellsStep script.partition script.seats.items line (done_in script.progress) (done_in script'.progress) lan lan' (steps.Waits moved))
    → TellsAmong lan script → TellsAmong lan' script'
among_wait lan lan' script script' line moved found same no_call step tells unit sat =
    subst (λ (s : Script). KeepsAmong (ended_by unit s.lines.now s.logs.items) (buffers_now unit s) (counts_now unit s) lan' (unit_of s.partition unit)) (sym same)
    (subst (λ (o : Option Line). KeepsAmong own (buffers_under unit (done_in script'.progress) o) (counts_under unit (done_in script'.progress) o) lan' u) (sym found)
    (by (line.unit == unit) ((step (isnt (is_call line.verb) no_call)).rises unit sat')
    (subst (λ (o : Option Line). KeepsAmong own (buffers_under unit (done_in script.progress) o) (counts_under unit (done_in script.progress) o) lan u) found
    (tells unit sat'))))
  where
    own : List Ended
    own = ended_by unit script.lines.now script.logs.items

    u : UnitId
    u = unit_of script.partition unit

    sat' : slice_get script.seats.items unit ≡ Some sits.Port
    sat' = ap (λ (s : Script). slice_get s.seats.items unit) (sym same) ∙ sat

    isnt : (b : Bool) → (b ≡ true → ⊥) → b ≡ false
    isnt true not = absurd (not refl)
    isnt false not = refl

    by : (b : Bool) → RisesIf b u line.verb (done_in script.progress) (done_in script'.progress) lan lan' (steps.Waits moved)
        → KeepsAmong own (cond b (buffers_by line.verb (done_in script.progress)) []) (cond b (counts_by line.verb (done_in script.progress)) (counts 0 0)) lan u
        → KeepsAmong own (cond b (buffers_by line.verb (done_in script'.progress)) []) (cond b (counts_by line.verb (done_in script'.progress)) (counts 0 0)) lan' u
    by true rises is =
        waits_on own (buffers_by line.verb (done_in script.progress)) (buffers_by line.verb (done_in script'.progress)) (counts_by line.verb (done_in script.progress))
        (counts_by line.verb (done_in script'.progress)) lan lan' u rises.0 rises.2.posts rises.4 is
    by false idle is = grows_on own [] (counts 0 0) lan lan' u (idle_grows lan lan' u idle) is

-- nothing but frames was taken, or nothing was done of which lines tell
pub among_rest : (lan lan' : LanValue) (script : Script) → AllTake script.partition lan lan' → TellsAmong lan script → TellsAmong lan' script
among_rest lan lan' script takes tells unit sat =
    grows_on (ended_by unit script.lines.now script.logs.items) (buffers_now unit script) (counts_now unit script) lan lan' (unit_of script.partition unit)
    (takes_grows lan lan' (unit_of script.partition unit) (takes unit)) (tells unit sat)

pub among_silent : (lan lan' : LanValue) (script : Script) → AllSilent lan lan' → TellsAmong lan script → TellsAmong lan' script
among_silent lan lan' script silent tells unit sat =
    grows_on (ended_by unit script.lines.now script.logs.items) (buffers_now unit script) (counts_now unit script) lan lan' (unit_of script.partition unit)
    (silent_grows lan lan' (unit_of script.partition unit) silent) (tells unit sat)

-- a script before its first line
pub among_fresh : (lan : LanValue) (script : Script) → script.logs.items ≡ [] → done_in script.progress ≡ 0 → AreFresh lan → TellsAmong lan script
among_fresh lan script logs progress fresh unit sat =
    subst (λ es. KeepsAmong es (buffers_now unit script) (counts_now unit script) lan (unit_of script.partition unit))
    (sym (ap (λ rows. ended_by unit script.lines.now rows) logs ∙ nothing_ended unit script.lines.now))
    (subst (λ (l : List ℕ). KeepsAmong [] l (counts_now unit script) lan (unit_of script.partition unit))
    (sym (no_buffers unit (done_in script.progress) (slice_get script.lines.now script.at) progress))
    (subst (λ now. KeepsAmong [] [] now lan (unit_of script.partition unit))
    (sym (none_under unit (done_in script.progress) (slice_get script.lines.now script.at) progress))
    (record {
      frames = tt;
      posts = tt;
      values = λ e. subst (λ (l : List ℕ). AreAmong ((4096 * e + 3) ∷ []) l) (sym ((fresh (unit_of script.partition unit)).3 e)) (among_same ((4096 * e + 3) ∷ []));
      taken = omega arith;
    })))
