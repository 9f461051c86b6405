-- What the lines of LAN units tell, as steps of lines go on.
use Rattle.std.proofs.Common.{◌≡◌, ℕ, ◌+◌, ◌≤◌, ◌==◌, cond, Bool, true, false, List, [], ◌∷◌, ◌++◌, min, append-nil, append_assoc, Option, Some, None, length, refl, sym, ◌∙◌, ap, subst, arith}
use Rattle.std.specs.List.{slice_get}
use Rattle.vio_num.specs.declared.hypervisor.Moved.{Moved}
use Rattle.vio_num.specs.declared.names.UnitId.{UnitId}
use Rattle.boot_text.specs.declared.plan.Line.{Line}
use Rattle.boot_text.specs.declared.verb.Verb.{Verb}
use Rattle.boot_text.specs.declared.verb.Verb.TheVariants as verbs
use Rattle.unit_region.specs.declared.step.Step.TheVariants as steps
use Rattle.vio_trace.specs.declared.outcome.Outcome.{Outcome}
use Rattle.vio_trace.specs.declared.outcome.Outcome.TheVariants as outcomes
use Rattle.vio_trace.specs.declared.rows.LogRow.{LogRow}
use Rattle.lan_script.specs.PortCounts.{PortCounts, counts, counts_at, counts_by, counts_told}
use Rattle.lan_script.specs.Units.{LanValue}
use Rattle.vcpu_run.specs.declared.script.Progress.{Progress}
use Rattle.vcpu_run.specs.declared.script.Progress.TheVariants as progress
use Rattle.vcpu_run.specs.declared.script.Script.{Script}
use Rattle.vcpu_run.specs.declared.unit_seat.Seat.TheVariants as sits
use Rattle.vcpu_run.specs.Credited.{Ended, ended_by, taken_in}
use Rattle.vcpu_run.specs.Ports.{unit_of}
use Rattle.vcpu_run.specs.PortSteps.{AllSilent, AllTake, AreFresh, IsIdle, IsSilent, Rises, RisesIf, TakesOn, TellsStep}
use Rattle.vcpu_run.specs.PortWords.{HasNoCall, TellsPort, TellsWords, counts_now, counts_under, done_in, frame_of, frames_at, frames_told, posts_told, taken_told}
use Rattle.vcpu_run.specs.Suited.{is_call}
use Rattle.vcpu_run.specs.Works.{fails}
use Rattle.vcpu_run.proofs.Crediting.{ended_more}
use Rattle.vcpu_run.proofs.PortAddresses.{idle_silent, silent_here}
use Rattle.vcpu_run.proofs.Logging.{all_at}

-- one line more
pub frames_more : (es : List Ended) (e : Ended) → frames_told (es ++ e ∷ []) ≡ frames_told es ++ frame_of e.outcome
frames_more [] e = append-nil (frame_of e.outcome)
frames_more (x ∷ es) e =
    ap (λ l. frame_of x.outcome ++ l) (frames_more es e) ∙ sym (append_assoc (frame_of x.outcome) (frames_told es) (frame_of e.outcome))

posts_more : (es : List Ended) (e : Ended) → posts_told (es ++ e ∷ []) ≡ posts_told es + (counts_told e.outcome).posts
posts_more [] e = omega arith
posts_more (x ∷ es) e = omega (arith, posts_more es e)

pub taken_more : (es : List Ended) (e : Ended) → taken_told (es ++ e ∷ []) ≡ taken_told es + (counts_told e.outcome).taken
taken_more [] e = omega arith
taken_more (x ∷ es) e = omega (arith, taken_more es e)

-- the unit's own line ends, or waits
tells_end : (own : List Ended) (e : Ended) (before : PortCounts) (lan lan' : LanValue) (unit : UnitId) → TellsPort own before lan unit
    → Rises (frame_of e.outcome) before (counts_told e.outcome) lan lan' unit → TellsPort (own ++ e ∷ []) (counts 0 0) lan' unit
tells_end own e before lan lan' unit tells rises = record {
  frames = frames_more own e ∙ ap (λ l. l ++ frame_of e.outcome) tells.frames ∙ sym rises.frames;
  posts = omega (arith, posts_more own e, tells.posts, rises.posts);
  taken = omega (arith, taken_more own e, tells.taken, rises.taken);
}

tells_wait : (own : List Ended) (before after : PortCounts) (lan lan' : LanValue) (unit : UnitId) → TellsPort own before lan unit
    → Rises [] before after lan lan' unit → TellsPort own after lan' unit
tells_wait own before after lan lan' unit tells rises = record {
  frames = tells.frames ∙ sym (append-nil (frames_at lan unit)) ∙ sym rises.frames;
  posts = omega (arith, tells.posts, rises.posts);
  taken = omega (arith, tells.taken, rises.taken);
}

-- a port that did nothing, or took frames
pub tells_take : (own : List Ended) (now : PortCounts) (lan lan' : LanValue) (unit : UnitId) → TellsPort own now lan unit → TakesOn lan lan' unit
    → TellsPort own now lan' unit
tells_take own now lan lan' unit tells takes = record {
  frames = tells.frames ∙ sym takes.frames;
  posts = omega (arith, tells.posts, takes.posts);
  taken = omega (arith, tells.taken, takes.taken);
}

pub idle_takes : (lan lan' : LanValue) (unit : UnitId) → IsIdle lan lan' unit → TakesOn lan lan' unit
idle_takes lan lan' unit idle = record {
  frames = idle.frames;
  posts = ap (λ (c : PortCounts). c.posts) idle.counts;
  taken = omega (arith, ap (λ (c : PortCounts). c.taken) idle.counts);
  still = idle.still;
}

tells_silent : (own : List Ended) (now : PortCounts) (lan lan' : LanValue) (unit : UnitId) → TellsPort own now lan unit → IsSilent lan lan' unit
    → TellsPort own now lan' unit
tells_silent own now lan lan' unit tells idle = record {
  frames = tells.frames ∙ sym idle.frames;
  posts = tells.posts ∙ sym (ap (λ (c : PortCounts). c.posts) idle.counts);
  taken = omega (arith, tells.taken, ap (λ (c : PortCounts). c.taken) idle.counts);
}

tells_idle : (own : List Ended) (now : PortCounts) (lan lan' : LanValue) (unit : UnitId) → TellsPort own now lan unit → IsIdle lan lan' unit
    → TellsPort own now lan' unit
tells_idle own now lan lan' unit tells idle = tells_take own now lan lan' unit tells (idle_takes lan lan' unit idle)

-- a line that did nothing yet
none_by : (verb : Verb) → counts_by verb 0 ≡ counts 0 0
none_by (verbs.Post at len count) = ap (λ n. counts n 0) (none count)
  where
    none : (n : ℕ) → min 0 n ≡ 0
    none n = omega arith
none_by (verbs.Take count) = refl
none_by verb = refl

pub none_under : (unit done : ℕ) (o : Option Line) → done ≡ 0 → counts_under unit done o ≡ counts 0 0
none_under unit done None e = refl
none_under unit done (Some line) e = by (line.unit == unit)
  where
    by : (b : Bool) → (cond b (counts_by line.verb done) (counts 0 0)) ≡ counts 0 0
    by true = ap (λ d. counts_by line.verb d) e ∙ none_by line.verb
    by false = refl

no_call : (script : Script) (line : Line) → slice_get script.lines.now script.at ≡ Some line → HasNoCall script.lines.now → is_call line.verb ≡ false
no_call script line found none = all_at (λ (l : Line). is_call l.verb ≡ false) script.lines.now script.at line found none

-- the current line of a script waits
pub words_wait : (lan lan' : LanValue) (script script' : Script) (line : Line) (moved : Moved) → slice_get script.lines.now script.at ≡ Some line
    → script' ≡ record script { progress = script'.progress }
    → (is_call line.verb ≡ false → TellsStep script.partition script.seats.items line (done_in script.progress) (done_in script'.progress) lan lan' (steps.Waits moved))
    → TellsWords lan script → TellsWords lan' script'
words_wait lan lan' script script' line moved found same step tells none unit sat =
    let none' : HasNoCall script.lines.now = subst (λ (s : Script). HasNoCall s.lines.now) same none in
    let sat' : slice_get script.seats.items unit ≡ Some sits.Port = ap (λ (s : Script). slice_get s.seats.items unit) (sym same) ∙ sat in
    subst (λ (s : Script). TellsPort (ended_by unit s.lines.now s.logs.items) (counts_now unit s) lan' (unit_of s.partition unit)) (sym same)
    (subst (λ (o : Option Line). TellsPort (ended_by unit script.lines.now script.logs.items) (counts_under unit (done_in script'.progress) o) lan' (unit_of script.partition unit)) (sym found)
    (by (line.unit == unit) ((step (no_call script line found none')).rises unit sat')
    (subst (λ (o : Option Line). TellsPort (ended_by unit script.lines.now script.logs.items) (counts_under unit (done_in script.progress) o) lan (unit_of script.partition unit)) found
    (tells none' unit sat'))))
  where
    by : (b : Bool) → RisesIf b (unit_of script.partition unit) line.verb (done_in script.progress) (done_in script'.progress) lan lan' (steps.Waits moved)
        → TellsPort (ended_by unit script.lines.now script.logs.items) (cond b (counts_by line.verb (done_in script.progress)) (counts 0 0)) lan (unit_of script.partition unit)
        → TellsPort (ended_by unit script.lines.now script.logs.items) (cond b (counts_by line.verb (done_in script'.progress)) (counts 0 0)) lan' (unit_of script.partition unit)
    by true rises is = tells_wait _ _ _ lan lan' _ is rises.0
    by false idle is = tells_idle _ _ lan lan' _ is idle

-- What the end of a line says, in whatever way it is shown.
abbrev pub EndsIf : (own : Bool) → Script → (unit : ℕ) → Line → LogRow → (lan lan' : LanValue) → Type 0
EndsIf true script unit line row lan lan' = (es : List Ended) → TellsPort es (counts_by line.verb (done_in script.progress)) lan (unit_of script.partition unit)
    → TellsPort (es ++ record { verb = line.verb; outcome = row.outcome } ∷ []) (counts 0 0) lan' (unit_of script.partition unit)
EndsIf false script unit line row lan lan' = IsSilent lan lan' (unit_of script.partition unit)

-- a step that ended its line
pub step_ends : (lan lan' : LanValue) (script : Script) (line : Line) (row : LogRow) (done' unit : ℕ) (b : Bool)
    → RisesIf b (unit_of script.partition unit) line.verb (done_in script.progress) done' lan lan' (steps.Ends row.outcome)
    → EndsIf b script unit line row lan lan'
step_ends lan lan' script line row done' unit true rises = λ es is.
    tells_end es (record { verb = line.verb; outcome = row.outcome }) (counts_by line.verb (done_in script.progress)) lan lan' (unit_of script.partition unit) is rises.0
step_ends lan lan' script line row done' unit false idle = idle_silent lan lan' (unit_of script.partition unit) idle

-- it ends
pub words_end : (lan lan' : LanValue) (script ended : Script) (line : Line) (row : LogRow) → slice_get script.lines.now script.at ≡ Some line
    → length script.logs.items ≡ script.at → ended.partition ≡ script.partition → ended.lines ≡ script.lines → ended.seats ≡ script.seats
    → ended.logs.items ≡ script.logs.items ++ row ∷ [] → done_in ended.progress ≡ 0
    → (is_call line.verb ≡ false → (unit : ℕ) → slice_get script.seats.items unit ≡ Some sits.Port → EndsIf (line.unit == unit) script unit line row lan lan')
    → TellsWords lan script → TellsWords lan' ended
words_end lan lan' script ended line row found reached partition lines seats logs fresh step tells none unit sat =
    let none' : HasNoCall script.lines.now = subst (λ ls. HasNoCall ls.now) lines none in
    let sat' : slice_get script.seats.items unit ≡ Some sits.Port = ap (λ ss. slice_get ss.items unit) (sym seats) ∙ sat in
    subst (λ es. TellsPort es (counts_now unit ended) lan' (unit_of ended.partition unit)) (sym (records unit))
    (subst (λ now. TellsPort (cond (line.unit == unit) (before unit ++ e ∷ []) (before unit)) now lan' (unit_of ended.partition unit))
    (sym (none_under unit (done_in ended.progress) (slice_get ended.lines.now ended.at) fresh))
    (subst (λ p. TellsPort (cond (line.unit == unit) (before unit ++ e ∷ []) (before unit)) (counts 0 0) lan' (unit_of p unit)) (sym partition)
    (by unit (line.unit == unit) (step (no_call script line found none') unit sat')
    (subst (λ (o : Option Line). TellsPort (before unit) (counts_under unit (done_in script.progress) o) lan (unit_of script.partition unit)) found (tells none' unit sat')))))
  where
    e : Ended
    e = record { verb = line.verb; outcome = row.outcome }

    before : ℕ → List Ended
    before unit = ended_by unit script.lines.now script.logs.items

    there : slice_get script.lines.now (length script.logs.items) ≡ Some line
    there = ap (λ n. slice_get script.lines.now n) reached ∙ found

    records : (unit : ℕ) → ended_by unit ended.lines.now ended.logs.items ≡ cond (line.unit == unit) (before unit ++ e ∷ []) (before unit)
    records unit = ap (λ ls. ended_by unit ls.now ended.logs.items) lines ∙ (ap (ended_by unit script.lines.now) logs ∙ ended_more unit script.lines.now script.logs.items line row there)

    by : (unit : ℕ) (b : Bool) → EndsIf b script unit line row lan lan'
        → TellsPort (before unit) (cond b (counts_by line.verb (done_in script.progress)) (counts 0 0)) lan (unit_of script.partition unit)
        → TellsPort (cond b (before unit ++ e ∷ []) (before unit)) (counts 0 0) lan' (unit_of script.partition unit)
    by unit true rises is = rises (before unit) is
    by unit false idle is = tells_silent (before unit) (counts 0 0) lan lan' (unit_of script.partition unit) is idle

-- a step of the current line, which ended
pub step_words : (lan lan' : LanValue) (script ended : Script) (line : Line) (row : LogRow) (done' : ℕ) → slice_get script.lines.now script.at ≡ Some line
    → length script.logs.items ≡ script.at → ended.partition ≡ script.partition → ended.lines ≡ script.lines → ended.seats ≡ script.seats
    → ended.logs.items ≡ script.logs.items ++ row ∷ [] → done_in ended.progress ≡ 0
    → (is_call line.verb ≡ false → TellsStep script.partition script.seats.items line (done_in script.progress) done' lan lan' (steps.Ends row.outcome))
    → TellsWords lan script → TellsWords lan' ended
step_words lan lan' script ended line row done' found reached partition lines seats logs fresh step =
    words_end lan lan' script ended line row found reached partition lines seats logs fresh
    (λ no unit sat. step_ends lan lan' script line row done' unit (line.unit == unit) ((step no).rises unit sat))

-- a line that did nothing at any port, and tells of nothing
pub quiet_words : (lan lan' : LanValue) (script ended : Script) (line : Line) (row : LogRow) → slice_get script.lines.now script.at ≡ Some line
    → length script.logs.items ≡ script.at → ended.partition ≡ script.partition → ended.lines ≡ script.lines → ended.seats ≡ script.seats
    → ended.logs.items ≡ script.logs.items ++ row ∷ [] → done_in ended.progress ≡ 0
    → frame_of row.outcome ≡ [] → counts_told row.outcome ≡ counts 0 0 → ((d : ℕ) → counts_by line.verb d ≡ counts 0 0) → AllSilent lan lan'
    → TellsWords lan script → TellsWords lan' ended
quiet_words lan lan' script ended line row found reached partition lines seats logs fresh no_frame none nothing idle =
    words_end lan lan' script ended line row found reached partition lines seats logs fresh
    (λ no unit sat. by unit (line.unit == unit))
  where
    by : (unit : ℕ) (b : Bool) → EndsIf b script unit line row lan lan'
    by unit true = λ es is. tells_end es (record { verb = line.verb; outcome = row.outcome }) (counts_by line.verb (done_in script.progress)) lan lan' (unit_of script.partition unit) is (record {
      frames = (idle (unit_of script.partition unit)).frames ∙ sym (append-nil (frames_at lan (unit_of script.partition unit)))
          ∙ ap (λ l. frames_at lan (unit_of script.partition unit) ++ l) (sym no_frame);
      posts = ap (λ (c : PortCounts). (counts_at lan' (unit_of script.partition unit)).posts + c.posts) (nothing (done_in script.progress) ∙ sym none)
          ∙ ap (λ (c : PortCounts). c.posts + (counts_told row.outcome).posts) (idle (unit_of script.partition unit)).counts;
      taken = ap (λ (c : PortCounts). (counts_at lan' (unit_of script.partition unit)).taken + c.taken) (nothing (done_in script.progress) ∙ sym none)
          ∙ ap (λ (c : PortCounts). c.taken + (counts_told row.outcome).taken) (idle (unit_of script.partition unit)).counts;
    })
    by unit false = idle (unit_of script.partition unit)

-- a line of frames that waits and is ended: it tells of those that it took
pub took_words : (lan : LanValue) (script ended : Script) (line : Line) (row : LogRow) (count taken : ℕ) → slice_get script.lines.now script.at ≡ Some line
    → length script.logs.items ≡ script.at → ended.partition ≡ script.partition → ended.lines ≡ script.lines → ended.seats ≡ script.seats
    → ended.logs.items ≡ script.logs.items ++ row ∷ [] → done_in ended.progress ≡ 0
    → row.outcome ≡ outcomes.Took taken → line.verb ≡ verbs.Take count → taken ≤ done_in script.progress
    → TellsWords lan script → TellsWords lan ended
took_words lan script ended line row count taken found reached partition lines seats logs fresh out verb few =
    words_end lan lan script ended line row found reached partition lines seats logs fresh
    (λ no unit sat. by unit (line.unit == unit))
  where
    done : counts_by line.verb (done_in script.progress) ≡ counts 0 (done_in script.progress)
    done = ap (λ (v : Verb). counts_by v (done_in script.progress)) verb

    told : counts_told row.outcome ≡ counts 0 taken
    told = ap counts_told out

    by : (unit : ℕ) (b : Bool) → EndsIf b script unit line row lan lan
    by unit true = λ es is. record {
      frames = frames_more es _ ∙ ap (λ (o : Outcome). frames_told es ++ frame_of o) out ∙ append-nil (frames_told es) ∙ is.frames;
      posts = omega (arith, posts_more es (record { verb = line.verb; outcome = row.outcome }), is.posts, ap (λ (c : PortCounts). c.posts) done, ap (λ (c : PortCounts). c.posts) told);
      taken = omega (arith, taken_more es (record { verb = line.verb; outcome = row.outcome }), is.taken, ap (λ (c : PortCounts). c.taken) done, ap (λ (c : PortCounts). c.taken) told, few);
    }
    by unit false = silent_here lan (unit_of script.partition unit)

-- nothing but frames was taken
pub rest_words : (lan lan' : LanValue) (script : Script) → AllTake script.partition lan lan' → TellsWords lan script → TellsWords lan' script
rest_words lan lan' script takes tells none unit sat =
    tells_take (ended_by unit script.lines.now script.logs.items) (counts_now unit script) lan lan' (unit_of script.partition unit) (tells none unit sat) (takes unit)

-- nothing was done of which lines tell
pub silent_words : (lan lan' : LanValue) (script : Script) → AllSilent lan lan' → TellsWords lan script → TellsWords lan' script
silent_words lan lan' script silent tells none unit sat =
    tells_silent (ended_by unit script.lines.now script.logs.items) (counts_now unit script) lan lan' (unit_of script.partition unit) (tells none unit sat)
    (silent (unit_of script.partition unit))

-- a script before its first line
pub fresh_words : (lan : LanValue) (script : Script) → script.logs.items ≡ [] → done_in script.progress ≡ 0 → AreFresh lan → TellsWords lan script
fresh_words lan script logs progress fresh none unit sat =
    subst (λ rows. TellsPort (ended_by unit script.lines.now rows) (counts_now unit script) lan (unit_of script.partition unit)) (sym logs)
    (subst (λ es. TellsPort es (counts_now unit script) lan (unit_of script.partition unit)) (sym (nothing script.lines.now))
    (subst (λ now. TellsPort [] now lan (unit_of script.partition unit)) (sym (none_under unit (done_in script.progress) (slice_get script.lines.now script.at) progress))
    (record {
      frames = sym (fresh (unit_of script.partition unit)).0;
      posts = ap (λ (c : PortCounts). c.posts) (sym (fresh (unit_of script.partition unit)).1);
      taken = omega arith;
    })))
  where
    nothing : (ls : List Line) → ended_by unit ls [] ≡ []
    nothing [] = refl
    nothing (l ∷ ls) = refl

-- a line that fails its partition posts and takes nothing
pub fails_none : (verb : Verb) → fails verb ≡ true → (d : ℕ) → counts_by verb d ≡ counts 0 0
fails_none (verbs.Post at len count) e d = absurd (cc (e))
fails_none (verbs.Take count) e d = absurd (cc (e))
fails_none verb e d = refl

-- the answers that a line took are within how far it came
pub taken_within : (p : Progress) → taken_in p ≤ done_in p
taken_within (progress.Took taken) = omega arith
taken_within (progress.Posted posted) = omega arith
taken_within progress.Fresh = omega arith
taken_within progress.Freed = omega arith
