-- The buffers that lines of LAN units tell, and how many frames they took, as steps of lines go on.
use Rattle.std.proofs.Common.{◌≡◌, ℕ, ◌≤◌, ◌==◌, cond, Bool, true, false, List, [], ◌∷◌, ◌++◌, min, append-nil, append_assoc, Option, Some, None, length, refl, sym, ◌∙◌, ap, subst, arith}
use Rattle.std.specs.List.{slice_get}
use Rattle.std.proofs.lemmas.List.Elements.{All-append, All-cons, All-nil}
use Rattle.vio_num.specs.declared.hypervisor.Moved.{Moved}
use Rattle.vio_num.specs.declared.names.UnitId.{UnitId}
use Rattle.boot_text.specs.declared.plan.Line.{Line}
use Rattle.boot_text.specs.declared.verb.Verb.{Verb}
use Rattle.boot_text.specs.declared.verb.Verb.TheVariants as verbs
use Rattle.unit_region.specs.declared.step.Step.{Step}
use Rattle.unit_region.specs.declared.step.Step.TheVariants as steps
use Rattle.vio_trace.specs.declared.outcome.Outcome.{Outcome}
use Rattle.vio_trace.specs.declared.outcome.Outcome.TheVariants as outcomes
use Rattle.vio_trace.specs.declared.rows.LogRow.{LogRow}
use Rattle.lan_script.specs.Buffers.{AddsBuffers, buffers_by, buffers_told, line_buffers, posted_at, posted_told}
use Rattle.lan_script.specs.PortCounts.{PortCounts, counts, counts_by, counts_told}
use Rattle.lan_script.specs.Replayed.{is_replayed}
use Rattle.lan_script.specs.Seats.{is_for_port}
use Rattle.lan_script.specs.Units.{LanValue}
use Rattle.lan_script.proofs.Laws.{posted_still}
use Rattle.lan_switch.specs.Switch.{port_of}
use Rattle.vcpu_run.specs.declared.script.Script.{Script}
use Rattle.vcpu_run.specs.declared.unit_seat.Seat.TheVariants as sits
use Rattle.vcpu_run.specs.Credited.{Ended, ended_by}
use Rattle.vcpu_run.specs.Ports.{unit_of}
use Rattle.vcpu_run.specs.PortPosts.{AreInForm, EndsInForm, IsUnder, StepTakes, TakesNoMore, buffers_of, buffers_under}
use Rattle.vcpu_run.specs.PortSteps.{AllSilent, AllTake, AreFresh, IsIdle, RisesIf, TakesOn, TellsStep}
use Rattle.vcpu_run.specs.PortWords.{HasNoCall, TakesOwn, TellsBuffers, TellsTakes, buffers_now, done_in}
use Rattle.vcpu_run.specs.Suited.{is_call}
use Rattle.vcpu_run.specs.Works.{fails}
use Rattle.vcpu_run.proofs.Crediting.{ended_more}
use Rattle.vcpu_run.proofs.Logging.{all_at}

-- a port at which nothing was done, or frames were taken, posted none
pub idle_posted : (lan lan' : LanValue) (unit : UnitId) → IsIdle lan lan' unit → posted_at lan' unit ≡ posted_at lan unit
idle_posted lan lan' unit idle =
    posted_still unit (port_of lan.stations unit) (port_of lan'.stations unit) idle.still.grows (ap (λ (c : PortCounts). c.posts) idle.counts)

pub takes_posted : (lan lan' : LanValue) (unit : UnitId) → TakesOn lan lan' unit → posted_at lan' unit ≡ posted_at lan unit
takes_posted lan lan' unit takes = posted_still unit (port_of lan.stations unit) (port_of lan'.stations unit) takes.still.grows takes.posts

-- ---- buffers

pub buffers_more : (es : List Ended) (e : Ended) → buffers_of (es ++ e ∷ []) ≡ buffers_of es ++ buffers_told e.verb e.outcome
buffers_more [] e = append-nil (buffers_told e.verb e.outcome)
buffers_more (x ∷ es) e =
    ap (λ l. buffers_told x.verb x.outcome ++ l) (buffers_more es e) ∙ sym (append_assoc (buffers_told x.verb x.outcome) (buffers_of es) (buffers_told e.verb e.outcome))

-- what a port posted more stands behind what its lines told before
goes_on : (told before after : List ℕ) (lan lan' : LanValue) (unit : UnitId) → told ++ before ≡ posted_at lan unit → AddsBuffers unit before after lan lan'
    → told ++ after ≡ posted_at lan' unit
goes_on told before after lan lan' unit is adds =
    ap (λ l. told ++ l) adds.told ∙ sym (append_assoc told before adds.more) ∙ ap (λ l. l ++ adds.more) is ∙ sym adds.posted

-- what the end of a line, or its step, posted
abbrev pub PostsIf : (own : Bool) → Script → (unit : ℕ) → Line → LogRow → (lan lan' : LanValue) → Type 0
PostsIf true script unit line row lan lan' =
    AddsBuffers (unit_of script.partition unit) (buffers_by line.verb (done_in script.progress)) (buffers_told line.verb row.outcome) lan lan'
PostsIf false script unit line row lan lan' = posted_at lan' (unit_of script.partition unit) ≡ posted_at lan (unit_of script.partition unit)

no_call : (script : Script) (line : Line) → slice_get script.lines.now script.at ≡ Some line → HasNoCall script.lines.now → is_call line.verb ≡ false
no_call script line found none = all_at (λ (l : Line). is_call l.verb ≡ false) script.lines.now script.at line found none

pub none_under : (unit done : ℕ) (o : Option Line) → done ≡ 0 → buffers_under unit done o ≡ []
none_under unit done None e = refl
none_under unit done (Some line) e = by (line.unit == unit)
  where
    none_by : (verb : Verb) → buffers_by verb 0 ≡ []
    none_by (verbs.Post at len count) = ap (λ (n : ℕ). line_buffers at len n) (none count)
      where
        none : (n : ℕ) → min 0 n ≡ 0
        none n = omega arith
    none_by verb = refl

    by : (b : Bool) → cond b (buffers_by line.verb done) [] ≡ []
    by true = ap (λ d. buffers_by line.verb d) e ∙ none_by line.verb
    by false = refl

-- the current line waits
pub buffers_wait : (lan lan' : LanValue) (script script' : Script) (line : Line) (moved : Moved) → slice_get script.lines.now script.at ≡ Some line
    → script' ≡ record script { progress = script'.progress }
    → (is_call line.verb ≡ false → TellsStep script.partition script.seats.items line (done_in script.progress) (done_in script'.progress) lan lan' (steps.Waits moved))
    → TellsBuffers lan script → TellsBuffers lan' script'
buffers_wait lan lan' script script' line moved found same step tells none unit sat =
    let none' : HasNoCall script.lines.now = subst (λ (s : Script). HasNoCall s.lines.now) same none in
    let sat' : slice_get script.seats.items unit ≡ Some sits.Port = ap (λ (s : Script). slice_get s.seats.items unit) (sym same) ∙ sat in
    subst (λ (s : Script). buffers_of (ended_by unit s.lines.now s.logs.items) ++ buffers_now unit s ≡ posted_at lan' (unit_of s.partition unit)) (sym same)
    (subst (λ (o : Option Line). own unit ++ buffers_under unit (done_in script'.progress) o ≡ posted_at lan' (unit_of script.partition unit)) (sym found)
    (by (line.unit == unit) ((step (no_call script line found none')).rises unit sat')
    (subst (λ (o : Option Line). own unit ++ buffers_under unit (done_in script.progress) o ≡ posted_at lan (unit_of script.partition unit)) found (tells none' unit sat'))))
  where
    own : ℕ → List ℕ
    own u = buffers_of (ended_by u script.lines.now script.logs.items)

    by : (b : Bool) → RisesIf b (unit_of script.partition unit) line.verb (done_in script.progress) (done_in script'.progress) lan lan' (steps.Waits moved)
        → own unit ++ cond b (buffers_by line.verb (done_in script.progress)) [] ≡ posted_at lan (unit_of script.partition unit)
        → own unit ++ cond b (buffers_by line.verb (done_in script'.progress)) [] ≡ posted_at lan' (unit_of script.partition unit)
    by true rises is = goes_on (own unit) _ _ lan lan' (unit_of script.partition unit) is rises.2.posts
    by false idle is = is ∙ sym (idle_posted lan lan' (unit_of script.partition unit) idle)

-- it ends
pub buffers_end : (lan lan' : LanValue) (script ended : Script) (line : Line) (row : LogRow) → slice_get script.lines.now script.at ≡ Some line
    → length script.logs.items ≡ script.at → ended.partition ≡ script.partition → ended.lines ≡ script.lines → ended.seats ≡ script.seats
    → ended.logs.items ≡ script.logs.items ++ row ∷ [] → done_in ended.progress ≡ 0
    → (is_call line.verb ≡ false → (unit : ℕ) → slice_get script.seats.items unit ≡ Some sits.Port → PostsIf (line.unit == unit) script unit line row lan lan')
    → TellsBuffers lan script → TellsBuffers lan' ended
buffers_end lan lan' script ended line row found reached partition lines seats logs fresh step tells none unit sat =
    let none' : HasNoCall script.lines.now = subst (λ ls. HasNoCall ls.now) lines none in
    let sat' : slice_get script.seats.items unit ≡ Some sits.Port = ap (λ ss. slice_get ss.items unit) (sym seats) ∙ sat in
    ap (λ now. buffers_of (ended_by unit ended.lines.now ended.logs.items) ++ now) (none_under unit (done_in ended.progress) (slice_get ended.lines.now ended.at) fresh)
    ∙ append-nil (buffers_of (ended_by unit ended.lines.now ended.logs.items))
    ∙ ap buffers_of (records unit)
    ∙ by (line.unit == unit) (step (no_call script line found none') unit sat')
    (subst (λ (o : Option Line). buffers_of (before unit) ++ buffers_under unit (done_in script.progress) o ≡ posted_at lan (unit_of script.partition unit)) found
    (tells none' unit sat'))
    ∙ ap (λ p. posted_at lan' (unit_of p unit)) (sym partition)
  where
    e : Ended
    e = record { verb = line.verb; outcome = row.outcome }

    before : ℕ → List Ended
    before u = ended_by u script.lines.now script.logs.items

    there : slice_get script.lines.now (length script.logs.items) ≡ Some line
    there = ap (λ n. slice_get script.lines.now n) reached ∙ found

    records : (u : ℕ) → ended_by u ended.lines.now ended.logs.items ≡ cond (line.unit == u) (before u ++ e ∷ []) (before u)
    records u = ap (λ ls. ended_by u ls.now ended.logs.items) lines ∙ (ap (ended_by u script.lines.now) logs ∙ ended_more u script.lines.now script.logs.items line row there)

    by : (b : Bool) → PostsIf b script unit line row lan lan'
        → buffers_of (before unit) ++ cond b (buffers_by line.verb (done_in script.progress)) [] ≡ posted_at lan (unit_of script.partition unit)
        → buffers_of (cond b (before unit ++ e ∷ []) (before unit)) ≡ posted_at lan' (unit_of script.partition unit)
    by true adds is = buffers_more (before unit) e ∙ goes_on (buffers_of (before unit)) _ _ lan lan' (unit_of script.partition unit) is adds
    by false same is = sym (append-nil (buffers_of (before unit))) ∙ is ∙ sym same

-- a step of the current line, which ended
step_posts : (lan lan' : LanValue) (script : Script) (line : Line) (row : LogRow) (done' unit : ℕ) (b : Bool)
    → RisesIf b (unit_of script.partition unit) line.verb (done_in script.progress) done' lan lan' (steps.Ends row.outcome) → PostsIf b script unit line row lan lan'
step_posts lan lan' script line row done' unit true rises = rises.2.posts
step_posts lan lan' script line row done' unit false idle = idle_posted lan lan' (unit_of script.partition unit) idle

pub buffers_step : (lan lan' : LanValue) (script ended : Script) (line : Line) (row : LogRow) (done' : ℕ) → slice_get script.lines.now script.at ≡ Some line
    → length script.logs.items ≡ script.at → ended.partition ≡ script.partition → ended.lines ≡ script.lines → ended.seats ≡ script.seats
    → ended.logs.items ≡ script.logs.items ++ row ∷ [] → done_in ended.progress ≡ 0
    → (is_call line.verb ≡ false → TellsStep script.partition script.seats.items line (done_in script.progress) done' lan lan' (steps.Ends row.outcome))
    → TellsBuffers lan script → TellsBuffers lan' ended
buffers_step lan lan' script ended line row done' found reached partition lines seats logs fresh step =
    buffers_end lan lan' script ended line row found reached partition lines seats logs fresh
    (λ no unit sat. step_posts lan lan' script line row done' unit (line.unit == unit) ((step no).rises unit sat))

-- a line that posts none
pub quiet_by : (verb : Verb) → ((d : ℕ) → counts_by verb d ≡ counts 0 0) → (d : ℕ) → buffers_by verb d ≡ []
quiet_by (verbs.Post at len count) nothing d = ap (λ (n : ℕ). line_buffers at len n) (ap (λ (c : PortCounts). c.posts) (nothing d))
quiet_by verb nothing d = refl

none_told : (at len : ℕ) (outcome : Outcome) → counts_told outcome ≡ counts 0 0 → posted_told at len outcome ≡ []
none_told at len (outcomes.Posted buffers code) e = ap (λ (n : ℕ). line_buffers at len n) (ap (λ (c : PortCounts). c.posts) e)
none_told at len outcome e = refl

pub quiet_told : (verb : Verb) (outcome : Outcome) → counts_told outcome ≡ counts 0 0 → buffers_told verb outcome ≡ []
quiet_told (verbs.Post at len count) outcome e = none_told at len outcome e
quiet_told verb outcome e = refl

still_posts : (lan lan' : LanValue) (script : Script) (line : Line) (row : LogRow) (unit : ℕ) (b : Bool) → buffers_by line.verb (done_in script.progress) ≡ []
    → buffers_told line.verb row.outcome ≡ [] → posted_at lan' (unit_of script.partition unit) ≡ posted_at lan (unit_of script.partition unit)
    → PostsIf b script unit line row lan lan'
still_posts lan lan' script line row unit false by told same = same
still_posts lan lan' script line row unit true by told same = record {
  more = [];
  posted = same ∙ sym (append-nil (posted_at lan (unit_of script.partition unit)));
  told = told ∙ ap (λ l. l ++ []) (sym by);
}

pub buffers_quiet : (lan lan' : LanValue) (script ended : Script) (line : Line) (row : LogRow) → slice_get script.lines.now script.at ≡ Some line
    → length script.logs.items ≡ script.at → ended.partition ≡ script.partition → ended.lines ≡ script.lines → ended.seats ≡ script.seats
    → ended.logs.items ≡ script.logs.items ++ row ∷ [] → done_in ended.progress ≡ 0
    → counts_told row.outcome ≡ counts 0 0 → ((d : ℕ) → counts_by line.verb d ≡ counts 0 0) → AllSilent lan lan' → TellsBuffers lan script → TellsBuffers lan' ended
buffers_quiet lan lan' script ended line row found reached partition lines seats logs fresh none nothing silent =
    buffers_end lan lan' script ended line row found reached partition lines seats logs fresh
    (λ no unit sat.
    still_posts lan lan' script line row unit (line.unit == unit) (quiet_by line.verb nothing (done_in script.progress)) (quiet_told line.verb row.outcome none)
    (silent (unit_of script.partition unit)).posted)

-- a line of frames that waits and is ended
pub buffers_took : (lan : LanValue) (script ended : Script) (line : Line) (row : LogRow) (count : ℕ) → slice_get script.lines.now script.at ≡ Some line
    → length script.logs.items ≡ script.at → ended.partition ≡ script.partition → ended.lines ≡ script.lines → ended.seats ≡ script.seats
    → ended.logs.items ≡ script.logs.items ++ row ∷ [] → done_in ended.progress ≡ 0 → line.verb ≡ verbs.Take count → TellsBuffers lan script → TellsBuffers lan ended
buffers_took lan script ended line row count found reached partition lines seats logs fresh verb =
    buffers_end lan lan script ended line row found reached partition lines seats logs fresh
    (λ no unit sat.
    still_posts lan lan script line row unit (line.unit == unit) (ap (λ (v : Verb). buffers_by v (done_in script.progress)) verb)
    (ap (λ (v : Verb). buffers_told v row.outcome) verb) refl)

-- nothing but frames was taken, or nothing was done of which lines tell
pub buffers_rest : (lan lan' : LanValue) (script : Script) → AllTake script.partition lan lan' → TellsBuffers lan script → TellsBuffers lan' script
buffers_rest lan lan' script takes tells none unit sat = tells none unit sat ∙ sym (takes_posted lan lan' (unit_of script.partition unit) (takes unit))

pub buffers_silent : (lan lan' : LanValue) (script : Script) → AllSilent lan lan' → TellsBuffers lan script → TellsBuffers lan' script
buffers_silent lan lan' script silent tells none unit sat = tells none unit sat ∙ sym (silent (unit_of script.partition unit)).posted

-- a script before its first line
pub nothing_ended : (unit : ℕ) (ls : List Line) → ended_by unit ls [] ≡ []
nothing_ended unit [] = refl
nothing_ended unit (l ∷ ls) = refl

pub buffers_fresh : (lan : LanValue) (script : Script) → script.logs.items ≡ [] → done_in script.progress ≡ 0 → AreFresh lan → TellsBuffers lan script
buffers_fresh lan script logs progress fresh none unit sat =
    ap (λ now. buffers_of (ended_by unit script.lines.now script.logs.items) ++ now) (none_under unit (done_in script.progress) (slice_get script.lines.now script.at) progress)
    ∙ ap (λ rows. buffers_of (ended_by unit script.lines.now rows) ++ []) logs
    ∙ ap (λ es. buffers_of es ++ []) (nothing_ended unit script.lines.now)
    ∙ sym (fresh (unit_of script.partition unit)).4

-- ---- frames that were taken

-- only a line that takes can take too many
under_by : (verb : Verb) (done : ℕ) → (is_call verb ≡ false → TakesNoMore verb done) → TakesNoMore verb done
under_by (verbs.Take count) done h = h refl
under_by verb done h = tt

-- a line that is none of a port
none_in_form : (verb : Verb) (outcome : Outcome) → is_for_port verb ≡ false → EndsInForm verb outcome
none_in_form verbs.Open outcome e = absurd (cc (e))
none_in_form verbs.Close outcome e = absurd (cc (e))
none_in_form (verbs.ChangeMac mac) outcome e = absurd (cc (e))
none_in_form (verbs.Multicast control mac) outcome e = absurd (cc (e))
none_in_form (verbs.Post at len count) outcome e = absurd (cc (e))
none_in_form (verbs.Send to len seed at) outcome e = absurd (cc (e))
none_in_form (verbs.Take count) outcome e = absurd (cc (e))
none_in_form verb outcome e = tt

call_apart : (verb : Verb) → is_call verb ≡ true → is_for_port verb ≡ false
call_apart (verbs.Hcall number args) e = refl
call_apart verb e = absurd (cc (e))

within_by : (verb : Verb) (outcome : Outcome) → (is_call verb ≡ false → EndsInForm verb outcome) → EndsInForm verb outcome
within_by verb outcome h = by (is_call verb) refl
  where
    by : (b : Bool) → is_call verb ≡ b → EndsInForm verb outcome
    by true e = none_in_form verb outcome (call_apart verb e)
    by false e = h e

under_none : (unit done : ℕ) (o : Option Line) → done ≡ 0 → IsUnder unit done o
under_none unit done None e = tt
under_none unit done (Some line) e = λ own. subst (λ (d : ℕ). TakesNoMore line.verb d) (sym e) (by line.verb)
  where
    by : (verb : Verb) → TakesNoMore verb 0
    by (verbs.Take count) = omega arith
    by verb = tt

-- what is so of the current line
under_now : (script : Script) (line : Line) (unit : ℕ) → slice_get script.lines.now script.at ≡ Some line → TakesOwn script unit → (line.unit == unit) ≡ true
    → TakesNoMore line.verb (done_in script.progress)
under_now script line unit found own = subst (λ (o : Option Line). IsUnder unit (done_in script.progress) o) found own.now

own_step : (b : Bool) (script : Script) (line : Line) (done' unit : ℕ) (lan lan' : LanValue) (step : Step) → b ≡ true
    → RisesIf b (unit_of script.partition unit) line.verb (done_in script.progress) done' lan lan' step → TakesNoMore line.verb (done_in script.progress)
    → StepTakes line.verb done' step
own_step true script line done' unit lan lan' step e rises less = rises.2.takes less
own_step false script line done' unit lan lan' step e rises less = absurd (cc (e))

pub takes_wait : (lan lan' : LanValue) (script script' : Script) (line : Line) (moved : Moved) → slice_get script.lines.now script.at ≡ Some line
    → script' ≡ record script { progress = script'.progress }
    → (is_call line.verb ≡ false → TellsStep script.partition script.seats.items line (done_in script.progress) (done_in script'.progress) lan lan' (steps.Waits moved))
    → TellsTakes script → TellsTakes script'
takes_wait lan lan' script script' line moved found same step tells unit sat =
    subst (λ (s : Script). TakesOwn s unit) (sym same)
    (record {
      ended = own.ended;
      now = subst (λ (o : Option Line). IsUnder unit (done_in script'.progress) o) (sym found)
          (λ e. under_by line.verb (done_in script'.progress) (λ no.
          own_step (line.unit == unit) script line (done_in script'.progress) unit lan lan' (steps.Waits moved) e ((step no).rises unit sat') (under_now script line unit found own e)));
    })
  where
    sat' : slice_get script.seats.items unit ≡ Some sits.Port
    sat' = ap (λ (s : Script). slice_get s.seats.items unit) (sym same) ∙ sat

    own : TakesOwn script unit
    own = tells unit sat'

pub takes_end : (script ended : Script) (line : Line) (row : LogRow) → slice_get script.lines.now script.at ≡ Some line
    → length script.logs.items ≡ script.at → ended.lines ≡ script.lines → ended.seats ≡ script.seats
    → ended.logs.items ≡ script.logs.items ++ row ∷ [] → done_in ended.progress ≡ 0
    → ((unit : ℕ) → slice_get script.seats.items unit ≡ Some sits.Port → (line.unit == unit) ≡ true → TakesNoMore line.verb (done_in script.progress)
    → EndsInForm line.verb row.outcome)
    → TellsTakes script → TellsTakes ended
takes_end script ended line row found reached lines seats logs fresh within tells unit sat = record {
  ended = subst AreInForm (sym records) (by (line.unit == unit) refl);
  now = under_none unit (done_in ended.progress) (slice_get ended.lines.now ended.at) fresh;
}
  where
    e : Ended
    e = record { verb = line.verb; outcome = row.outcome }

    before : List Ended
    before = ended_by unit script.lines.now script.logs.items

    sat' : slice_get script.seats.items unit ≡ Some sits.Port
    sat' = ap (λ ss. slice_get ss.items unit) (sym seats) ∙ sat

    own : TakesOwn script unit
    own = tells unit sat'

    there : slice_get script.lines.now (length script.logs.items) ≡ Some line
    there = ap (λ n. slice_get script.lines.now n) reached ∙ found

    records : ended_by unit ended.lines.now ended.logs.items ≡ cond (line.unit == unit) (before ++ e ∷ []) before
    records = ap (λ ls. ended_by unit ls.now ended.logs.items) lines ∙ (ap (ended_by unit script.lines.now) logs ∙ ended_more unit script.lines.now script.logs.items line row there)

    by : (b : Bool) → (line.unit == unit) ≡ b → AreInForm (cond b (before ++ e ∷ []) before)
    by true is =
        All-append (λ (x : Ended). EndsInForm x.verb x.outcome) before (e ∷ []) own.ended
        (All-cons (λ (x : Ended). EndsInForm x.verb x.outcome) e [] (within unit sat' is (under_now script line unit found own is)) (All-nil (λ (x : Ended). EndsInForm x.verb x.outcome)))
    by false is = own.ended

pub takes_step : (lan lan' : LanValue) (script ended : Script) (line : Line) (row : LogRow) (done' : ℕ) → slice_get script.lines.now script.at ≡ Some line
    → length script.logs.items ≡ script.at → ended.lines ≡ script.lines → ended.seats ≡ script.seats
    → ended.logs.items ≡ script.logs.items ++ row ∷ [] → done_in ended.progress ≡ 0
    → (is_call line.verb ≡ false → TellsStep script.partition script.seats.items line (done_in script.progress) done' lan lan' (steps.Ends row.outcome))
    → TellsTakes script → TellsTakes ended
takes_step lan lan' script ended line row done' found reached lines seats logs fresh step =
    takes_end script ended line row found reached lines seats logs fresh
    (λ unit sat e less. within_by line.verb row.outcome (λ no.
    own_step (line.unit == unit) script line done' unit lan lan' (steps.Ends row.outcome) e ((step no).rises unit sat) less))

-- a line that takes none, and is none of a replay
pub quiet_in_form : (verb : Verb) (outcome : Outcome) → ((d : ℕ) → counts_by verb d ≡ counts 0 0) → is_replayed verb ≡ false → EndsInForm verb outcome
quiet_in_form verbs.Open outcome nothing e = absurd (cc (e))
quiet_in_form verbs.Close outcome nothing e = absurd (cc (e))
quiet_in_form (verbs.ChangeMac mac) outcome nothing e = absurd (cc (e))
quiet_in_form (verbs.Multicast control mac) outcome nothing e = absurd (cc (e))
quiet_in_form (verbs.Post at len count) outcome nothing e = absurd (cc (e))
quiet_in_form (verbs.Send to len seed at) outcome nothing e = absurd (cc (e))
quiet_in_form (verbs.Take count) outcome nothing e = absurd (omega (arith, ap (λ (c : PortCounts). c.taken) (nothing 1)))
quiet_in_form verb outcome nothing e = tt

-- one that fails its partition
pub fails_in_form : (verb : Verb) (outcome : Outcome) → fails verb ≡ true → EndsInForm verb outcome
fails_in_form verb outcome e = none_in_form verb outcome (fails_apart verb e)
  where
    fails_apart : (v : Verb) → fails v ≡ true → is_for_port v ≡ false
    fails_apart verbs.Fail f = refl
    fails_apart v f = absurd (cc (f))

pub takes_quiet : (script ended : Script) (line : Line) (row : LogRow) → slice_get script.lines.now script.at ≡ Some line
    → length script.logs.items ≡ script.at → ended.lines ≡ script.lines → ended.seats ≡ script.seats
    → ended.logs.items ≡ script.logs.items ++ row ∷ [] → done_in ended.progress ≡ 0 → EndsInForm line.verb row.outcome
    → TellsTakes script → TellsTakes ended
takes_quiet script ended line row found reached lines seats logs fresh form =
    takes_end script ended line row found reached lines seats logs fresh (λ unit sat e less. form)

-- a line of frames that waits and is ended
pub takes_took : (script ended : Script) (line : Line) (row : LogRow) (count taken : ℕ) → slice_get script.lines.now script.at ≡ Some line
    → length script.logs.items ≡ script.at → ended.lines ≡ script.lines → ended.seats ≡ script.seats
    → ended.logs.items ≡ script.logs.items ++ row ∷ [] → done_in ended.progress ≡ 0
    → row.outcome ≡ outcomes.Took taken → line.verb ≡ verbs.Take count → taken ≤ done_in script.progress → TellsTakes script → TellsTakes ended
takes_took script ended line row count taken found reached lines seats logs fresh out verb few =
    takes_end script ended line row found reached lines seats logs fresh
    (λ unit sat e less.
    let most : done_in script.progress ≤ count = subst (λ (v : Verb). TakesNoMore v (done_in script.progress)) verb less in
    let within : taken ≤ count = omega (arith, few, most) in
    subst (λ (v : Verb). EndsInForm v row.outcome) (sym verb) (subst (λ (o : Outcome). EndsInForm (verbs.Take count) o) (sym out) within))

-- a script before its first line
pub takes_fresh : (script : Script) → script.logs.items ≡ [] → done_in script.progress ≡ 0 → TellsTakes script
takes_fresh script logs progress unit sat = record {
  ended = subst AreInForm (sym (ap (λ rows. ended_by unit script.lines.now rows) logs ∙ nothing_ended unit script.lines.now))
      (All-nil (λ (x : Ended). EndsInForm x.verb x.outcome));
  now = under_none unit (done_in script.progress) (slice_get script.lines.now script.at) progress;
}
