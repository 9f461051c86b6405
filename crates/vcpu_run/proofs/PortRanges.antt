-- Which `send` lines of LAN units end with `range`, as steps of lines go on.
use Rattle.std.proofs.Common.{◌≡◌, ℕ, ◌==◌, cond, Bool, true, false, List, [], ◌∷◌, ◌++◌, Some, length, refl, sym, ◌∙◌, ap, subst}
use Rattle.std.specs.List.{slice_get}
use Rattle.std.proofs.lemmas.List.Elements.{All-append, All-cons, All-nil}
use Rattle.vio_num.specs.declared.hypervisor.Moved.{Moved}
use Rattle.boot_text.specs.declared.plan.Line.{Line}
use Rattle.boot_text.specs.declared.verb.Verb.{Verb}
use Rattle.boot_text.specs.declared.verb.Verb.TheVariants as verbs
use Rattle.unit_region.specs.declared.step.Step.TheVariants as steps
use Rattle.vio_trace.specs.declared.outcome.Outcome.{Outcome}
use Rattle.vio_trace.specs.declared.rows.LogRow.{LogRow}
use Rattle.lan_script.specs.Replayed.{is_replayed}
use Rattle.lan_script.specs.Seats.{seat_at}
use Rattle.lan_script.specs.SendRanges.{SaysRange}
use Rattle.lan_script.specs.Units.{LanValue}
use Rattle.lan_script.specs.declared.seat.PortSeat.{PortSeat}
use Rattle.vcpu_run.specs.declared.script.Script.{Script}
use Rattle.vcpu_run.specs.declared.unit_seat.Seat.TheVariants as sits
use Rattle.vcpu_run.specs.Credited.{Ended, ended_by}
use Rattle.vcpu_run.specs.PortPosts.{AreRanged}
use Rattle.vcpu_run.specs.Ports.{unit_of}
use Rattle.vcpu_run.specs.PortSteps.{AllSilent, AllTake, RisesIf, TellsStep}
use Rattle.vcpu_run.specs.PortWords.{TellsRanges, done_in}
use Rattle.vcpu_run.specs.Suited.{is_call}
use Rattle.vcpu_run.specs.Works.{fails}
use Rattle.vcpu_run.proofs.Crediting.{ended_more}
use Rattle.vcpu_run.proofs.PortOffering.{rises_rows}
use Rattle.vcpu_run.proofs.PortPosting.{nothing_ended}

-- ---- lines that do not send

pub call_ranged : (pages : ℕ) (verb : Verb) (outcome : Outcome) → is_call verb ≡ true → SaysRange pages verb outcome
call_ranged pages (verbs.Send to len seed at) outcome e = absurd (cc (e))
call_ranged pages verb outcome e = tt

pub quiet_ranged : (pages : ℕ) (verb : Verb) (outcome : Outcome) → is_replayed verb ≡ false → SaysRange pages verb outcome
quiet_ranged pages (verbs.Send to len seed at) outcome e = absurd (cc (e))
quiet_ranged pages verb outcome e = tt

pub fails_ranged : (pages : ℕ) (verb : Verb) (outcome : Outcome) → fails verb ≡ true → SaysRange pages verb outcome
fails_ranged pages (verbs.Send to len seed at) outcome e = absurd (cc (e))
fails_ranged pages verb outcome e = tt

-- ---- the lines of a script

-- the unit's own step, where it ended its line
step_ranged : (lan lan' : LanValue) (script : Script) (line : Line) (row : LogRow) (done' unit : ℕ) (seat : PortSeat) (b : Bool) → b ≡ true
    → seat_at lan.seats (unit_of script.partition unit) ≡ Some seat
    → RisesIf b (unit_of script.partition unit) line.verb (done_in script.progress) done' lan lan' (steps.Ends row.outcome)
    → SaysRange seat.pages line.verb row.outcome
step_ranged lan lan' script line row done' unit seat true e at rises = rises.2.ranges seat at
step_ranged lan lan' script line row done' unit seat false e at rises = absurd (cc (e))

-- the current line ends
pub ranges_end : (lan lan' : LanValue) (script ended : Script) (line : Line) (row : LogRow) → slice_get script.lines.now script.at ≡ Some line
    → length script.logs.items ≡ script.at → ended.partition ≡ script.partition → ended.lines ≡ script.lines → ended.seats ≡ script.seats
    → ended.logs.items ≡ script.logs.items ++ row ∷ [] → lan'.seats ≡ lan.seats
    → ((unit : ℕ) → slice_get script.seats.items unit ≡ Some sits.Port → (line.unit == unit) ≡ true → (seat : PortSeat)
    → seat_at lan.seats (unit_of script.partition unit) ≡ Some seat → SaysRange seat.pages line.verb row.outcome)
    → TellsRanges lan script → TellsRanges lan' ended
ranges_end lan lan' script ended line row found reached partition lines seats logs ports says tells unit sat seat at =
    subst (AreRanged seat) (sym records) (by (line.unit == unit) refl)
  where
    e : Ended
    e = record { verb = line.verb; outcome = row.outcome }

    before : List Ended
    before = ended_by unit script.lines.now script.logs.items

    sat' : slice_get script.seats.items unit ≡ Some sits.Port
    sat' = ap (λ ss. slice_get ss.items unit) (sym seats) ∙ sat

    at' : seat_at lan.seats (unit_of script.partition unit) ≡ Some seat
    at' = ap (λ ss. seat_at ss (unit_of script.partition unit)) (sym ports) ∙ (ap (λ (p : ℕ). seat_at lan'.seats (unit_of p unit)) (sym partition) ∙ at)

    there : slice_get script.lines.now (length script.logs.items) ≡ Some line
    there = ap (λ n. slice_get script.lines.now n) reached ∙ found

    records : ended_by unit ended.lines.now ended.logs.items ≡ cond (line.unit == unit) (before ++ e ∷ []) before
    records = ap (λ ls. ended_by unit ls.now ended.logs.items) lines ∙ (ap (ended_by unit script.lines.now) logs ∙ ended_more unit script.lines.now script.logs.items line row there)

    by : (b : Bool) → (line.unit == unit) ≡ b → AreRanged seat (cond b (before ++ e ∷ []) before)
    by true is =
        All-append (λ (x : Ended). SaysRange seat.pages x.verb x.outcome) before (e ∷ []) (tells unit sat' seat at')
        (All-cons (λ (x : Ended). SaysRange seat.pages x.verb x.outcome) e [] (says unit sat' is seat at') (All-nil (λ (x : Ended). SaysRange seat.pages x.verb x.outcome)))
    by false is = tells unit sat' seat at'

pub ranges_step : (lan lan' : LanValue) (script ended : Script) (line : Line) (row : LogRow) (done' : ℕ) → slice_get script.lines.now script.at ≡ Some line
    → length script.logs.items ≡ script.at → ended.partition ≡ script.partition → ended.lines ≡ script.lines → ended.seats ≡ script.seats
    → ended.logs.items ≡ script.logs.items ++ row ∷ [] → lan'.seats ≡ lan.seats
    → (is_call line.verb ≡ false → TellsStep script.partition script.seats.items line (done_in script.progress) done' lan lan' (steps.Ends row.outcome))
    → TellsRanges lan script → TellsRanges lan' ended
ranges_step lan lan' script ended line row done' found reached partition lines seats logs ports step =
    ranges_end lan lan' script ended line row found reached partition lines seats logs ports (λ unit sat is seat at. by unit sat is seat at (is_call line.verb) refl)
  where
    by : (unit : ℕ) → slice_get script.seats.items unit ≡ Some sits.Port → (line.unit == unit) ≡ true → (seat : PortSeat)
        → seat_at lan.seats (unit_of script.partition unit) ≡ Some seat → (b : Bool) → is_call line.verb ≡ b → SaysRange seat.pages line.verb row.outcome
    by unit sat is seat at true e = call_ranged seat.pages line.verb row.outcome e
    by unit sat is seat at false e = step_ranged lan lan' script line row done' unit seat (line.unit == unit) is at ((step e).rises unit sat)

-- a line that does not send
pub ranges_quiet : (lan lan' : LanValue) (script ended : Script) (line : Line) (row : LogRow) → slice_get script.lines.now script.at ≡ Some line
    → length script.logs.items ≡ script.at → ended.partition ≡ script.partition → ended.lines ≡ script.lines → ended.seats ≡ script.seats
    → ended.logs.items ≡ script.logs.items ++ row ∷ [] → ((pages : ℕ) → SaysRange pages line.verb row.outcome) → AllSilent lan lan'
    → TellsRanges lan script → TellsRanges lan' ended
ranges_quiet lan lan' script ended line row found reached partition lines seats logs says silent =
    ranges_end lan lan' script ended line row found reached partition lines seats logs (silent (unit_of script.partition 0)).seats
    (λ unit sat is seat at. says seat.pages)

-- no line ended
ranges_kept : (lan lan' : LanValue) (script : Script) → ((unit : ℕ) → slice_get script.seats.items unit ≡ Some sits.Port → lan'.seats ≡ lan.seats)
    → TellsRanges lan script → TellsRanges lan' script
ranges_kept lan lan' script kept tells unit sat seat at =
    tells unit sat seat (ap (λ ss. seat_at ss (unit_of script.partition unit)) (sym (kept unit sat)) ∙ at)

pub ranges_wait : (lan lan' : LanValue) (script script' : Script) (line : Line) (moved : Moved)
    → script' ≡ record script { progress = script'.progress } → (is_call line.verb ≡ true → ⊥)
    → (is_call line.verb ≡ false → TellsStep script.partition script.seats.items line (done_in script.progress) (done_in script'.progress) lan lan' (steps.Waits moved))
    → TellsRanges lan script → TellsRanges lan' script'
ranges_wait lan lan' script script' line moved same no_call step tells =
    subst (λ (s : Script). TellsRanges lan' s) (sym same)
    (ranges_kept lan lan' script
    (λ unit sat.
    (rises_rows (line.unit == unit) (unit_of script.partition unit) line.verb (done_in script.progress) (done_in script'.progress) lan lan' (steps.Waits moved)
    ((step (isnt (is_call line.verb) no_call)).rises unit sat)).seats) tells)
  where
    isnt : (b : Bool) → (b ≡ true → ⊥) → b ≡ false
    isnt true not = absurd (not refl)
    isnt false not = refl

pub ranges_rest : (lan lan' : LanValue) (script : Script) → AllTake script.partition lan lan' → TellsRanges lan script → TellsRanges lan' script
ranges_rest lan lan' script takes = ranges_kept lan lan' script (λ unit sat. (takes unit).still.seats)

pub ranges_silent : (lan lan' : LanValue) (script : Script) → AllSilent lan lan' → TellsRanges lan script → TellsRanges lan' script
ranges_silent lan lan' script silent = ranges_kept lan lan' script (λ unit sat. (silent (unit_of script.partition unit)).seats)

-- a script before its first line
pub ranges_fresh : (lan : LanValue) (script : Script) → script.logs.items ≡ [] → TellsRanges lan script
ranges_fresh lan script logs unit sat seat at =
    subst (AreRanged seat) (sym (ap (λ rows. ended_by unit script.lines.now rows) logs ∙ nothing_ended unit script.lines.now))
    (All-nil (λ (x : Ended). SaysRange seat.pages x.verb x.outcome))
