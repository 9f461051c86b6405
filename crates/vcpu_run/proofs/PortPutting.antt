-- The values of the entries of LAN units' windows, as steps of lines go on.
use Rattle.std.proofs.Common.{◌≡◌, ℕ, ◌+◌, ◌*◌, ◌==◌, cond, Bool, true, false, List, [], ◌∷◌, ◌++◌, append-nil, Some, length, sym, ◌∙◌, ap, subst}
use Rattle.std.specs.List.{slice_get}
use Rattle.vio_num.specs.declared.hypervisor.Moved.{Moved}
use Rattle.vio_num.specs.declared.names.UnitId.{UnitId}
use Rattle.boot_text.specs.declared.plan.Line.{Line}
use Rattle.boot_text.specs.declared.verb.Verb.{Verb}
use Rattle.unit_region.specs.LinePuts.{StepPuts, is_put, put_by}
use Rattle.unit_region.specs.declared.step.Step.TheVariants as steps
use Rattle.unit_region.proofs.Laws.{none_put}
use Rattle.vio_trace.specs.declared.outcome.Outcome.{Outcome}
use Rattle.vio_trace.specs.declared.rows.LogRow.{LogRow}
use Rattle.lan_script.specs.Entries.{values_at}
use Rattle.lan_script.specs.Units.{LanValue}
use Rattle.lan_script.specs.Values.{KeepsValues}
use Rattle.vcpu_run.specs.declared.script.Script.{Script}
use Rattle.vcpu_run.specs.declared.unit_seat.Seat.TheVariants as sits
use Rattle.vcpu_run.specs.Credited.{Ended, ended_by}
use Rattle.vcpu_run.specs.Ports.{unit_of}
use Rattle.vcpu_run.specs.PortSteps.{AllSilent, AllTake, AreFresh, RisesIf, TellsStep}
use Rattle.vcpu_run.specs.PortWords.{HasNoCall, TellsValues, done_in}
use Rattle.vcpu_run.specs.Suited.{is_call}
use Rattle.vcpu_run.specs.ValuesPut.{KeepsPuts}
use Rattle.vcpu_run.proofs.Crediting.{ended_more}
use Rattle.vcpu_run.proofs.Logging.{all_at}
use Rattle.vcpu_run.proofs.PortBytes.{nothing_ended}
use Rattle.vcpu_run.proofs.ValuesKept.{told_more}

-- ---- a port

-- none of its values changed
still_keeps : (lan lan' : LanValue) (unit : UnitId) (own : List Ended) → KeepsValues unit lan.places lan'.places → KeepsPuts own lan unit → KeepsPuts own lan' unit
still_keeps lan lan' unit own same is e = same e ∙ is e

-- a line of the unit ended
ends_keeps : (lan lan' : LanValue) (unit : UnitId) (own : List Ended) (verb : Verb) (outcome : Outcome)
    → StepPuts verb (steps.Ends outcome) (values_at lan unit) (values_at lan' unit)
    → KeepsPuts own lan unit → KeepsPuts (own ++ record { verb = verb; outcome = outcome } ∷ []) lan' unit
ends_keeps lan lan' unit own verb outcome puts is e =
    puts e ∙ (ap (λ list. list ++ put_by e verb outcome) (is e) ∙ ap (λ list. (4096 * e + 3) ∷ list) (sym (told_more e own verb outcome)))

-- ---- scripts

waits_keeps : (b : Bool) (lan lan' : LanValue) (unit : UnitId) (own : List Ended) (verb : Verb) (done done' : ℕ) (moved : Moved)
    → RisesIf b unit verb done done' lan lan' (steps.Waits moved) → KeepsPuts own lan unit → KeepsPuts own lan' unit
waits_keeps false lan lan' unit own verb done done' moved h is = still_keeps lan lan' unit own h.still.values is
waits_keeps true lan lan' unit own verb done done' moved h is = λ e. h.4 e ∙ is e

pub values_wait : (lan lan' : LanValue) (script script' : Script) (line : Line) (moved : Moved) → slice_get script.lines.now script.at ≡ Some line
    → script' ≡ record script { progress = script'.progress }
    → (is_call line.verb ≡ false → TellsStep script.partition script.seats.items line (done_in script.progress) (done_in script'.progress) lan lan' (steps.Waits moved))
    → TellsValues lan script → TellsValues lan' script'
values_wait lan lan' script script' line moved found same step tells = subst (λ (s : Script). TellsValues lan' s) (sym same) each
  where
    each : TellsValues lan' (record script { progress = script'.progress })
    each none unit sat =
        waits_keeps (line.unit == unit) lan lan' (unit_of script.partition unit) (ended_by unit script.lines.now script.logs.items) line.verb
        (done_in script.progress) (done_in script'.progress) moved
        ((step (all_at (λ (l : Line). is_call l.verb ≡ false) script.lines.now script.at line found none)).rises unit sat) (tells none unit sat)

-- what the end of a line, or its step, put into the window of a unit
abbrev EndsPuts : (own : Bool) → UnitId → Verb → Outcome → (lan lan' : LanValue) → Type 0
EndsPuts own unit verb outcome lan lan' = (es : List Ended) → KeepsPuts es lan unit
    → KeepsPuts (cond own (es ++ record { verb = verb; outcome = outcome } ∷ []) es) lan' unit

values_end : (lan lan' : LanValue) (script ended : Script) (line : Line) (row : LogRow) → slice_get script.lines.now script.at ≡ Some line
    → length script.logs.items ≡ script.at → ended.partition ≡ script.partition → ended.lines ≡ script.lines → ended.seats ≡ script.seats
    → ended.logs.items ≡ script.logs.items ++ row ∷ []
    → (is_call line.verb ≡ false → (unit : ℕ) → slice_get script.seats.items unit ≡ Some sits.Port
    → EndsPuts (line.unit == unit) (unit_of script.partition unit) line.verb row.outcome lan lan')
    → TellsValues lan script → TellsValues lan' ended
values_end lan lan' script ended line row found reached partition lines seats logs step tells none unit sat =
    subst (λ (es : List Ended). KeepsPuts es lan' (unit_of ended.partition unit)) (sym records)
    (subst (λ (p : ℕ). KeepsPuts (cond (line.unit == unit) (before ++ record { verb = line.verb; outcome = row.outcome } ∷ []) before) lan' (unit_of p unit)) (sym partition)
    (step (all_at (λ (l : Line). is_call l.verb ≡ false) script.lines.now script.at line found none') unit sat' before (tells none' unit sat')))
  where
    none' : HasNoCall script.lines.now
    none' = subst (λ ls. HasNoCall ls.now) lines none

    sat' : slice_get script.seats.items unit ≡ Some sits.Port
    sat' = ap (λ ss. slice_get ss.items unit) (sym seats) ∙ sat

    before : List Ended
    before = ended_by unit script.lines.now script.logs.items

    there : slice_get script.lines.now (length script.logs.items) ≡ Some line
    there = ap (λ n. slice_get script.lines.now n) reached ∙ found

    records : ended_by unit ended.lines.now ended.logs.items ≡ cond (line.unit == unit) (before ++ record { verb = line.verb; outcome = row.outcome } ∷ []) before
    records = ap (λ ls. ended_by unit ls.now ended.logs.items) lines
        ∙ (ap (ended_by unit script.lines.now) logs ∙ ended_more unit script.lines.now script.logs.items line row there)

-- a step of the current line, which ended
rises_puts : (own : Bool) (unit : UnitId) (verb : Verb) (outcome : Outcome) (done done' : ℕ) (lan lan' : LanValue)
    → RisesIf own unit verb done done' lan lan' (steps.Ends outcome) → EndsPuts own unit verb outcome lan lan'
rises_puts true unit verb outcome done done' lan lan' h es is = ends_keeps lan lan' unit es verb outcome h.4 is
rises_puts false unit verb outcome done done' lan lan' h es is = still_keeps lan lan' unit es h.still.values is

pub values_step : (lan lan' : LanValue) (script ended : Script) (line : Line) (row : LogRow) (done' : ℕ) → slice_get script.lines.now script.at ≡ Some line
    → length script.logs.items ≡ script.at → ended.partition ≡ script.partition → ended.lines ≡ script.lines → ended.seats ≡ script.seats
    → ended.logs.items ≡ script.logs.items ++ row ∷ []
    → (is_call line.verb ≡ false → TellsStep script.partition script.seats.items line (done_in script.progress) done' lan lan' (steps.Ends row.outcome))
    → TellsValues lan script → TellsValues lan' ended
values_step lan lan' script ended line row done' found reached partition lines seats logs step =
    values_end lan lan' script ended line row found reached partition lines seats logs
    (λ no unit sat.
    rises_puts (line.unit == unit) (unit_of script.partition unit) line.verb row.outcome (done_in script.progress) done' lan lan' ((step no).rises unit sat))

-- a line that puts no value, and changed none
quiet_puts : (own : Bool) (unit : UnitId) (verb : Verb) (outcome : Outcome) (lan lan' : LanValue) → is_put verb ≡ false → KeepsValues unit lan.places lan'.places
    → EndsPuts own unit verb outcome lan lan'
quiet_puts false unit verb outcome lan lan' isnt same es is = still_keeps lan lan' unit es same is
quiet_puts true unit verb outcome lan lan' isnt same es is =
    ends_keeps lan lan' unit es verb outcome
    (λ e. same e ∙ sym (append-nil (values_at lan unit e)) ∙ ap (λ list. values_at lan unit e ++ list) (sym (none_put e verb outcome isnt))) is

pub values_quiet : (lan lan' : LanValue) (script ended : Script) (line : Line) (row : LogRow) → slice_get script.lines.now script.at ≡ Some line
    → length script.logs.items ≡ script.at → ended.partition ≡ script.partition → ended.lines ≡ script.lines → ended.seats ≡ script.seats
    → ended.logs.items ≡ script.logs.items ++ row ∷ [] → is_put line.verb ≡ false → AllSilent lan lan' → TellsValues lan script → TellsValues lan' ended
values_quiet lan lan' script ended line row found reached partition lines seats logs isnt silent =
    values_end lan lan' script ended line row found reached partition lines seats logs
    (λ no unit sat.
    quiet_puts (line.unit == unit) (unit_of script.partition unit) line.verb row.outcome lan lan' isnt (silent (unit_of script.partition unit)).values)

-- nothing but frames was taken, or nothing was done of which lines tell
pub values_rest : (lan lan' : LanValue) (script : Script) → AllTake script.partition lan lan' → TellsValues lan script → TellsValues lan' script
values_rest lan lan' script takes tells none unit sat =
    still_keeps lan lan' (unit_of script.partition unit) (ended_by unit script.lines.now script.logs.items) (takes unit).still.values (tells none unit sat)

pub values_silent : (lan lan' : LanValue) (script : Script) → AllSilent lan lan' → TellsValues lan script → TellsValues lan' script
values_silent lan lan' script silent tells none unit sat =
    let u = unit_of script.partition unit in
    still_keeps lan lan' u (ended_by unit script.lines.now script.logs.items) (silent u).values (tells none unit sat)

-- a script before its first line
pub values_fresh : (lan : LanValue) (script : Script) → script.logs.items ≡ [] → AreFresh lan → TellsValues lan script
values_fresh lan script logs fresh none unit sat =
    subst (λ (es : List Ended). KeepsPuts es lan (unit_of script.partition unit))
    (sym (ap (λ rows. ended_by unit script.lines.now rows) logs ∙ nothing_ended unit script.lines.now)) (fresh (unit_of script.partition unit)).3
