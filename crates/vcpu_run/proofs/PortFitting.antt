-- That frames are offered to plain ports for which they are, as steps of lines go on.
use Rattle.std.proofs.Common.{◌≡◌, ◌⊎◌, ◌≤◌, inl, inr, ℕ, ◌==◌, cond, Bool, true, false, List, [], ◌∷◌, ◌++◌, append-nil, Some, length, map, sym, ◌∙◌, ap, subst, arith}
use Rattle.std.specs.List.{Contains, slice_get}
use Rattle.std.proofs.lemmas.List.{append_assoc}
use Rattle.vio_num.specs.declared.hypervisor.Moved.{Moved}
use Rattle.vio_num.specs.declared.names.Mac.{Mac}
use Rattle.vio_num.specs.declared.names.UnitId.{UnitId}
use Rattle.boot_text.specs.declared.plan.Line.{Line}
use Rattle.boot_text.specs.declared.verb.Verb.{Verb}
use Rattle.lan_switch.specs.Switch.{same_unit}
use Rattle.unit_region.specs.declared.step.Step.{Step}
use Rattle.unit_region.specs.declared.step.Step.TheVariants as steps
use Rattle.vio_trace.specs.declared.lan_rows.FrameRow.{FrameRow}
use Rattle.vio_trace.specs.declared.outcome.Outcome.{Outcome}
use Rattle.vio_trace.specs.declared.rows.LogRow.{LogRow}
use Rattle.lan_script.specs.Replayed.{replay_at}
use Rattle.lan_script.specs.Seats.{seat_at}
use Rattle.lan_script.specs.Targets.{IsTarget, offers_to}
use Rattle.lan_script.specs.Units.{LanValue, to_of}
use Rattle.lan_script.specs.declared.seat.PortSeat.{PortSeat}
use Rattle.vcpu_run.specs.declared.script.Script.{Script}
use Rattle.vcpu_run.specs.declared.unit_seat.Seat.TheVariants as sits
use Rattle.vcpu_run.specs.Credited.{Ended, ended_by}
use Rattle.vcpu_run.specs.Ports.{unit_of}
use Rattle.vcpu_run.specs.PortOffers.{OffersFit, TellsFit, WasTarget}
use Rattle.vcpu_run.specs.PortReplays.{IsPlainPort, KeepsReplay, OffersSince, sent_at}
use Rattle.vcpu_run.specs.PortSteps.{AllTake, AreFresh, RisesIf, TellsStep}
use Rattle.vcpu_run.specs.PortWords.{TellsReplay, done_in, frame_told}
use Rattle.vcpu_run.specs.Suited.{is_call}
use Rattle.vcpu_run.specs.Works.{fails}
use Rattle.vcpu_run.proofs.Crediting.{ended_more}
use Rattle.vcpu_run.proofs.PortOffering.{KeepsRows, ends_rows, no_call, no_failure, rises_rows, still_rows}
use Rattle.vcpu_run.proofs.PortReplaying.{EndsReplay}

-- what a step says of the offers to a port of its partition
rises_since : (own : Bool) (unit : UnitId) (verb : Verb) (done done' : ℕ) (lan lan' : LanValue) (step : Step) → RisesIf own unit verb done done' lan lan' step
    → OffersSince lan lan' unit
rises_since true unit verb done done' lan lan' step h = λ sender other row kept. inl (subst (λ (l : List FrameRow). Contains l row) (h.1.others sender other) kept)
rises_since false unit verb done done' lan lan' step h = h.still.offered

ends_since : (own : Bool) (unit : UnitId) (verb : Verb) (done : ℕ) (outcome : Outcome) (lan lan' : LanValue) → EndsReplay own unit verb done outcome lan lan'
    → OffersSince lan lan' unit
ends_since true unit verb done outcome lan lan' h = λ sender other row kept. inl (subst (λ (l : List FrameRow). Contains l row) (h.others sender other) kept)
ends_since false unit verb done outcome lan lan' h = h.offered

-- the offers that came since were for the port as it stood
fit_since : (lan lan' : LanValue) (unit : UnitId) (seat : PortSeat) (own : List Ended) → KeepsReplay seat own lan unit → OffersSince lan lan' unit
    → OffersFit unit seat own (sent_at lan) → OffersFit unit seat own (sent_at lan')
fit_since lan lan' unit seat own keeps since fit sender other frame kept some = by (since sender other frame kept)
  where
    by : Contains (sent_at lan sender) frame ⊎ (1 ≤ length (offers_to unit frame.offers) → IsTarget (replay_at lan unit) (to_of frame)) → WasTarget seat own (to_of frame)
    by (inl was) = fit sender other frame was some
    by (inr fits) = record {
      before = own;
      begins = ([], sym (append-nil own));
      left = replay_at lan unit;
      replayed = keeps.replayed;
      target = fits some;
    }

-- lines that end later change nothing of it
was_later : (seat : PortSeat) (own more : List Ended) (to : Mac) → WasTarget seat own to → WasTarget seat (own ++ more) to
was_later seat own more to h = record {
  before = h.before;
  begins = (h.begins.0 ++ more, ap (λ l. l ++ more) h.begins.1 ∙ append_assoc h.before h.begins.0 more);
  left = h.left;
  replayed = h.replayed;
  target = h.target;
}

was_cond : (b : Bool) (seat : PortSeat) (own more : List Ended) (to : Mac) → WasTarget seat own to → WasTarget seat (cond b (own ++ more) own) to
was_cond true seat own more to h = was_later seat own more to h
was_cond false seat own more to h = h

seat_was : (lan lan' : LanValue) (unit : UnitId) (seat : PortSeat) → KeepsRows lan lan' unit → seat_at lan'.seats unit ≡ Some seat → seat_at lan.seats unit ≡ Some seat
seat_was lan lan' unit seat kept at = ap (λ ss. seat_at ss unit) (sym kept.seats) ∙ at

-- the current line waits
pub fit_waits : (lan lan' : LanValue) (script script' : Script) (line : Line) (moved : Moved) → slice_get script.lines.now script.at ≡ Some line
    → script' ≡ record script { progress = script'.progress }
    → (is_call line.verb ≡ false → TellsStep script.partition script.seats.items line (done_in script.progress) (done_in script'.progress) lan lan' (steps.Waits moved))
    → TellsReplay lan script → TellsFit lan script → TellsFit lan' script'
fit_waits lan lan' script script' line moved found same step replay fit = subst (λ (s : Script). TellsFit lan' s) (sym same) each
  where
    each : TellsFit lan' (record script { progress = script'.progress })
    each unit plain sat seat at sized own =
        let u = unit_of script.partition unit in
        let did : RisesIf (line.unit == unit) u line.verb (done_in script.progress) (done_in script'.progress) lan lan' (steps.Waits moved) =
        (step (no_call unit script line found plain)).rises unit sat in
        let was : seat_at lan.seats u ≡ Some seat =
        seat_was lan lan' u seat (rises_rows (line.unit == unit) u line.verb (done_in script.progress) (done_in script'.progress) lan lan' (steps.Waits moved) did) at in
        fit_since lan lan' u seat (ended_by unit script.lines.now script.logs.items) (replay unit plain sat seat was sized own).keeps
        (rises_since (line.unit == unit) u line.verb (done_in script.progress) (done_in script'.progress) lan lan' (steps.Waits moved) did)
        (fit unit plain sat seat was sized own)

-- nothing but frames was taken
pub fit_rest : (lan lan' : LanValue) (script : Script) → AllTake script.partition lan lan' → TellsReplay lan script → TellsFit lan script → TellsFit lan' script
fit_rest lan lan' script takes replay fit unit plain sat seat at sized own =
    let u = unit_of script.partition unit in
    let was : seat_at lan.seats u ≡ Some seat = seat_was lan lan' u seat (still_rows lan lan' u (takes unit).still) at in
    fit_since lan lan' u seat (ended_by unit script.lines.now script.logs.items) (replay unit plain sat seat was sized own).keeps (takes unit).still.offered
    (fit unit plain sat seat was sized own)

-- a line that fails a partition leaves no plain port in it
pub fit_fails : (lan : LanValue) (script later : Script) (line : Line) → slice_get script.lines.now script.at ≡ Some line → fails line.verb ≡ true
    → later.lines ≡ script.lines → TellsFit lan later
fit_fails lan script later line found failing lines unit plain sat seat at sized own =
    absurd (not_both (fails line.verb) failing (no_failure unit script line found (subst (λ ls. IsPlainPort unit ls.now) lines plain)))
  where
    not_both : (b : Bool) → b ≡ true → b ≡ false → ⊥
    not_both b is isnt = cc (is, isnt)

-- before the first line no frame was sent
pub fit_fresh : (lan : LanValue) (script : Script) → AreFresh lan → TellsFit lan script
fit_fresh lan script fresh unit plain sat seat at sized own sender other frame kept some = absurd (nothing (sent_at lan sender) (fresh sender).0 kept)
  where
    nothing : (rows : List FrameRow) → map frame_told rows ≡ [] → Contains rows frame → ⊥
    nothing [] e (k, less, is) = omega (arith, less)
    nothing (row ∷ rows) e there = cc (e)

-- the current line ends
pub fit_ends : (lan lan' : LanValue) (script ended : Script) (line : Line) (row : LogRow) → slice_get script.lines.now script.at ≡ Some line
    → length script.logs.items ≡ script.at → ended.partition ≡ script.partition → ended.lines ≡ script.lines → ended.seats ≡ script.seats
    → ended.logs.items ≡ script.logs.items ++ row ∷ []
    → (is_call line.verb ≡ false → fails line.verb ≡ false → (unit : ℕ) → slice_get script.seats.items unit ≡ Some sits.Port
    → EndsReplay (line.unit == unit) (unit_of script.partition unit) line.verb (done_in script.progress) row.outcome lan lan')
    → TellsReplay lan script → TellsFit lan script → TellsFit lan' ended
fit_ends lan lan' script ended line row found reached partition lines seats logs step replay fit unit plain' sat' seat at' sized own sender other' frame kept some' =
    subst (λ (es : List Ended). WasTarget seat es (to_of frame)) (sym records)
    (was_cond (line.unit == unit) seat before (record { verb = line.verb; outcome = row.outcome } ∷ []) (to_of frame)
    (fit_since lan lan' u seat before (replay unit plain sat seat was sized own).keeps
    (ends_since (line.unit == unit) u line.verb (done_in script.progress) row.outcome lan lan' did) (fit unit plain sat seat was sized own) sender other frame kept some))
  where
    u : UnitId
    u = unit_of script.partition unit

    named : unit_of ended.partition unit ≡ u
    named = ap (λ p. unit_of p unit) partition

    plain : IsPlainPort unit script.lines.now
    plain = subst (λ ls. IsPlainPort unit ls.now) lines plain'

    sat : slice_get script.seats.items unit ≡ Some sits.Port
    sat = ap (λ ss. slice_get ss.items unit) (sym seats) ∙ sat'

    other : same_unit sender u ≡ false
    other = subst (λ (v : UnitId). same_unit sender v ≡ false) named other'

    some : 1 ≤ length (offers_to u frame.offers)
    some = subst (λ (v : UnitId). 1 ≤ length (offers_to v frame.offers)) named some'

    did : EndsReplay (line.unit == unit) u line.verb (done_in script.progress) row.outcome lan lan'
    did = step (no_call unit script line found plain) (no_failure unit script line found plain) unit sat

    was : seat_at lan.seats u ≡ Some seat
    was = seat_was lan lan' u seat (ends_rows (line.unit == unit) u line.verb (done_in script.progress) row.outcome lan lan' did)
        (ap (λ v. seat_at lan'.seats v) (sym named) ∙ at')

    before : List Ended
    before = ended_by unit script.lines.now script.logs.items

    there : slice_get script.lines.now (length script.logs.items) ≡ Some line
    there = ap (λ n. slice_get script.lines.now n) reached ∙ found

    records : ended_by unit ended.lines.now ended.logs.items ≡ cond (line.unit == unit) (before ++ record { verb = line.verb; outcome = row.outcome } ∷ []) before
    records = ap (λ ls. ended_by unit ls.now ended.logs.items) lines
        ∙ (ap (ended_by unit script.lines.now) logs ∙ ended_more unit script.lines.now script.logs.items line row there)
