use Rattle.std.proofs.Common.{◌≡◌, ◌∙◌, ℕ, None, Some, Ok, ap, false, length, refl, slice_get, subst, sym}
use Rattle.std.proofs.lemmas.Option.{slice_get_read, slice_get_within}
use Rattle.vio_trace.specs.declared.outcome.Outcome.{Outcome}
use Rattle.vio_trace.specs.declared.outcome.Outcome.TheVariants as outcomes
use Rattle.vio_trace.specs.declared.rows.LogRow.{LogRow}
use Rattle.vscsi_client.specs.State.{ClientState}
use Rattle.unit_region.specs.declared.step.Step.TheVariants as steps
use Rattle.vcpu_run.specs.Credited.{StepsAgreed, grants, is_take, taken_in}
use Rattle.vcpu_run.specs.CallsSaid.{seen_from}
use Rattle.vcpu_run.specs.Suited.{IsLineAt, is_call}
use Rattle.vcpu_run.specs.Works.{fails}
use Rattle.vcpu_run.proofs.DataNoted.{keep_same}
use Rattle.vcpu_run.proofs.CallsKept.{says_none}
use Rattle.vcpu_run.proofs.CallRecords.{calls_ends}
use Rattle.vcpu_run.specs.DataKept.{range_in}
use Rattle.vcpu_run.specs.DataRead.{given_by}
use Rattle.vcpu_run.proofs.LinesRead.{always_read}
use Rattle.vcpu_run.proofs.ClientRecords.{logs_ends_none}
use Rattle.vcpu_run.proofs.ClientsLay.{line_lays_none, none_lay_same}
use Rattle.vcpu_run.proofs.Keeping.{all_same}
use Rattle.vcpu_run.proofs.Crediting.{less_by, line_ends, lines_none}
use Rattle.vcpu_run.proofs.Credits.{plain_fresh, takes_same, took_agreed}
use Rattle.vcpu_run.proofs.ScriptsTold.{EndsWaiting, of_login, of_reset, of_take, waiting_shows, waiting_told}
use Rattle.vcpu_run.proofs.Held.{waited_held}
use Rattle.vcpu_run.proofs.Logging.{all_at}
use Rattle.vcpu_run.proofs.OwnEnded.{waiting_ends_own}
use Rattle.vcpu_run.proofs.PlainTurning.{waiting_ends}
use Rattle.vcpu_run.proofs.script.Script.end_waiting.Goals.{in-Login, in-Reset, in-Take}
use Rattle.vcpu_run.proofs.PortTelling.{taken_within}
use Rattle.vcpu_run.proofs.PortsTelling.{quiet_tells, took_tells}
use Rattle.lan_script.specs.Replayed.{is_replayed}
use Rattle.unit_region.specs.LinePuts.{is_put}
use Rattle.lan_script.specs.Seats.{is_in_region}
use Rattle.vcpu_run.specs.PortWords.{done_in, frame_of}
use Rattle.lan_script.specs.PortCounts.{counts, counts_by, counts_told}
use Rattle.boot_text.specs.declared.verb.Verb.{Verb}
use Rattle.vcpu_run.proofs.script.Script.end_waiting.Goals as goal

pub returns-clause-script : goal.returns-clause-script
returns-clause-script c = λ pairs is. c.end.ensures.script pairs is

pub returns-in_err-end-clause-script : goal.returns-in_err-end-clause-script
returns-in_err-end-clause-script c = λ pairs is. c.end.ensures.script pairs is

pub returns-clause-credited : goal.returns-clause-credited
returns-clause-credited c = λ pairs script is.
    let found : slice_get c.args.self.now.lines.now c.args.self.now.at ≡ Some c.in-Some.line.now =
    slice_get_read c.args.self.now.lines.now (length c.args.self.now.lines.now) c.args.self.now.at c.in-Some.line.now refl
    (less_by c.args.self.now.at (length c.args.self.now.lines.now) (sym c.in-Some.ensures.lookup.0)) c.in-Some.ensures.lookup.1 in
    let line : IsLineAt c.args.self.now.seats.items c.in-Some.line.now =
    all_at (IsLineAt c.args.self.now.seats.items) c.args.self.now.lines.now c.args.self.now.at c.in-Some.line.now found script.lines in
    let taken = taken_in c.args.self.now.progress in
    let agreed : (s : ClientState) → StepsAgreed c.in-Some.line.now.verb taken taken s s (Ok (steps.Ends c.match-line.outcome)) =
    elim c.match-line.branch [
      | in-Login w ↦ subst (λ (o : Outcome). (s : ClientState) → StepsAgreed c.in-Some.line.now.verb taken taken s s (Ok (steps.Ends o))) (sym w.outcome-is)
          (λ s. plain_fresh c.in-Some.line.now.verb taken s s (Ok (steps.Ends outcomes.Unanswered)) (ap is_take w.in-Login.is) (record { granted = refl; outgoing = refl }) refl)
      | in-Reset w ↦ subst (λ (o : Outcome). (s : ClientState) → StepsAgreed c.in-Some.line.now.verb taken taken s s (Ok (steps.Ends o))) (sym w.outcome-is)
          (λ s. plain_fresh c.in-Some.line.now.verb taken s s (Ok (steps.Ends outcomes.Unanswered)) (ap is_take w.in-Reset.is) (record { granted = refl; outgoing = refl }) refl)
      | in-Take w ↦ subst (λ (o : Outcome). (s : ClientState) → StepsAgreed c.in-Some.line.now.verb taken taken s s (Ok (steps.Ends o))) (sym w.outcome-is)
          (subst (λ n. (s : ClientState) → StepsAgreed c.in-Some.line.now.verb taken taken s s (Ok (steps.Ends (outcomes.Took n)))) (sym w.taken.ensures)
          (λ s. took_agreed c.in-Some.line.now.verb taken taken s s (takes_same taken s)))
    ] in
    let plain : grants c.match-line.outcome ≡ false =
    elim c.match-line.branch [
      | in-Login w ↦ ap grants w.outcome-is
      | in-Reset w ↦ ap grants w.outcome-is
      | in-Take w ↦ ap grants w.outcome-is
    ] in
    line_ends pairs pairs c.args.self.now c.end.new.self c.in-Some.line.now
    (record { partition = c.args.self.now.partition; line = c.in-Some.line.now.number; outcome = c.match-line.outcome }) taken
    found line.suited script.seats
    (script.logs.reached (slice_get_within c.args.self.now.lines.now c.args.self.now.at c.in-Some.line.now found))
    (lines_none pairs c.args.self.now.seats.items c.in-Some.line.now taken c.match-line.outcome agreed plain)
    c.end.ensures.rest.lines c.end.ensures.rest.seats c.in_ok-end.ensures.ended.logs c.in_ok-end.ensures.ended.none is

pub returns-clause-told : goal.returns-clause-told
returns-clause-told c = λ pairs lan script tells.
    let found : slice_get c.args.self.now.lines.now c.args.self.now.at ≡ Some c.in-Some.line.now =
    slice_get_read c.args.self.now.lines.now (length c.args.self.now.lines.now) c.args.self.now.at c.in-Some.line.now refl
    (less_by c.args.self.now.at (length c.args.self.now.lines.now) (sym c.in-Some.ensures.lookup.0)) c.in-Some.ensures.lookup.1 in
    let reached = script.logs.reached (slice_get_within c.args.self.now.lines.now c.args.self.now.at c.in-Some.line.now found) in
    let rest = c.end.ensures.rest in
    let fresh = ap done_in c.in_ok-end.ensures.fresh in
    elim c.match-line.branch [
      | in-Login w ↦ quiet_tells lan c.args.self.now c.end.new.self c.in-Some.line.now _ found reached rest.partition rest.lines rest.seats
          c.in_ok-end.ensures.ended.logs fresh (ap frame_of w.outcome-is) (ap counts_told w.outcome-is)
          (subst (λ (v : Verb). (d : ℕ) → counts_by v d ≡ counts 0 0) (sym w.in-Login.is) (λ d. refl)) (ap is_replayed w.in-Login.is) (ap is_put w.in-Login.is) (ap is_in_region w.in-Login.is) (ap is_call w.in-Login.is) (ap fails w.in-Login.is) tells
      | in-Reset w ↦ quiet_tells lan c.args.self.now c.end.new.self c.in-Some.line.now _ found reached rest.partition rest.lines rest.seats
          c.in_ok-end.ensures.ended.logs fresh (ap frame_of w.outcome-is) (ap counts_told w.outcome-is)
          (subst (λ (v : Verb). (d : ℕ) → counts_by v d ≡ counts 0 0) (sym w.in-Reset.is) (λ d. refl)) (ap is_replayed w.in-Reset.is) (ap is_put w.in-Reset.is) (ap is_in_region w.in-Reset.is) (ap is_call w.in-Reset.is) (ap fails w.in-Reset.is) tells
      | in-Take w ↦ took_tells lan c.args.self.now c.end.new.self c.in-Some.line.now _ _ (taken_in c.args.self.now.progress) found reached rest.partition rest.lines rest.seats
          c.in_ok-end.ensures.ended.logs fresh (w.outcome-is ∙ ap (λ n. outcomes.Took n) w.taken.ensures) w.in-Take.is (taken_within c.args.self.now.progress) tells
    ]

pub returns-clause-said : goal.returns-clause-said
returns-clause-said c = λ pairs script out is.
    let found : slice_get c.args.self.now.lines.now c.args.self.now.at ≡ Some c.in-Some.line.now =
    slice_get_read c.args.self.now.lines.now (length c.args.self.now.lines.now) c.args.self.now.at c.in-Some.line.now refl
    (less_by c.args.self.now.at (length c.args.self.now.lines.now) (sym c.in-Some.ensures.lookup.0)) c.in-Some.ensures.lookup.1 in
    let line : IsLineAt c.args.self.now.seats.items c.in-Some.line.now =
    all_at (IsLineAt c.args.self.now.seats.items) c.args.self.now.lines.now c.args.self.now.at c.in-Some.line.now found script.lines in
    let ends : EndsWaiting c.args.self.now.progress c.in-Some.line.now.verb c.match-line.outcome =
    elim c.match-line.branch [
      | in-Login w ↦ of_login w.in-Login.is w.outcome-is
      | in-Reset w ↦ of_reset w.in-Reset.is w.outcome-is
      | in-Take w ↦ of_take w.in-Take.count w.in-Take.is (w.outcome-is ∙ ap (λ n. outcomes.Took n) w.taken.ensures)
    ] in
    waiting_told pairs c.args.self.now c.end.new.self c.in-Some.line.now
    (record { partition = c.args.self.now.partition; line = c.in-Some.line.now.number; outcome = c.match-line.outcome })
    found line.suited script.seats
    (script.logs.reached (slice_get_within c.args.self.now.lines.now c.args.self.now.at c.in-Some.line.now found)) ends
    c.end.ensures.rest.lines c.end.ensures.rest.seats c.in_ok-end.ensures.ended.logs c.in_ok-end.ensures.fresh out is

pub returns-clause-unfreed : goal.returns-clause-unfreed
returns-clause-unfreed c = λ pairs script opens keep.
    let found : slice_get c.args.self.now.lines.now c.args.self.now.at ≡ Some c.in-Some.line.now =
    slice_get_read c.args.self.now.lines.now (length c.args.self.now.lines.now) c.args.self.now.at c.in-Some.line.now refl
    (less_by c.args.self.now.at (length c.args.self.now.lines.now) (sym c.in-Some.ensures.lookup.0)) c.in-Some.ensures.lookup.1 in
    waited_held pairs c.args.self.now c.end.new.self c.in-Some.line.now c.match-line.outcome found script.seats opens c.end.ensures.rest.lines c.end.ensures.rest.seats keep

pub returns-clause-logged : goal.returns-clause-logged
returns-clause-logged c = λ pairs script copies made is.
    let found : slice_get c.args.self.now.lines.now c.args.self.now.at ≡ Some c.in-Some.line.now =
    slice_get_read c.args.self.now.lines.now (length c.args.self.now.lines.now) c.args.self.now.at c.in-Some.line.now refl
    (less_by c.args.self.now.at (length c.args.self.now.lines.now) (sym c.in-Some.ensures.lookup.0)) c.in-Some.ensures.lookup.1 in
    let apart : is_in_region c.in-Some.line.now.verb ≡ false =
    elim c.match-line.branch [
      | in-Login w ↦ ap is_in_region w.in-Login.is
      | in-Reset w ↦ ap is_in_region w.in-Reset.is
      | in-Take w ↦ ap is_in_region w.in-Take.is
    ] in
    let ends : EndsWaiting c.args.self.now.progress c.in-Some.line.now.verb c.match-line.outcome =
    elim c.match-line.branch [
      | in-Login w ↦ of_login w.in-Login.is w.outcome-is
      | in-Reset w ↦ of_reset w.in-Reset.is w.outcome-is
      | in-Take w ↦ of_take w.in-Take.count w.in-Take.is (w.outcome-is ∙ ap (λ n. outcomes.Took n) w.taken.ensures)
    ] in
    let no_data : given_by c.in-Some.line.now.verb ≡ None =
    elim c.match-line.branch [
      | in-Login w ↦ ap given_by w.in-Login.is
      | in-Reset w ↦ ap given_by w.in-Reset.is
      | in-Take w ↦ ap given_by w.in-Take.is
    ] in
    let no_range : range_in c.in-Some.line.now.verb ≡ None =
    elim c.match-line.branch [
      | in-Login w ↦ ap range_in w.in-Login.is
      | in-Reset w ↦ ap range_in w.in-Reset.is
      | in-Take w ↦ ap range_in w.in-Take.is
    ] in
    let other : is_call c.in-Some.line.now.verb ≡ false =
    elim c.match-line.branch [
      | in-Login w ↦ ap is_call w.in-Login.is
      | in-Reset w ↦ ap is_call w.in-Reset.is
      | in-Take w ↦ ap is_call w.in-Take.is
    ] in
    record {
      strokes =
          logs_ends_none copies pairs pairs c.args.self.now c.end.new.self c.in-Some.line.now _ found
          (record { in_order = script.in_order; reached = script.logs.reached })
          (script.logs.reached (slice_get_within c.args.self.now.lines.now c.args.self.now.at c.in-Some.line.now found))
          script.seats (all_same pairs) (keep_same pairs pairs (λ k. refl)) (none_lay_same pairs) apart
          (always_read c.args.self.now.seats.items c.in-Some.line.now pairs pairs c.match-line.outcome
          (λ seen unit. waiting_shows c.args.self.now.progress c.in-Some.line.now.verb c.match-line.outcome seen unit c.in-Some.line.now.number ends) no_data no_range) made c.end.ensures.rest.partition c.end.ensures.rest.lines c.end.ensures.rest.seats c.in_ok-end.ensures.ended.logs is.strokes;
      calls =
          calls_ends pairs pairs c.args.self.now c.end.new.self c.in-Some.line.now _ found
          (record { in_order = script.in_order; reached = script.logs.reached })
          (script.logs.reached (slice_get_within c.args.self.now.lines.now c.args.self.now.at c.in-Some.line.now found))
          (all_same pairs) (line_lays_none c.args.self.now.seats.items c.in-Some.line.now pairs pairs (none_lay_same pairs)) is.strokes
          (says_none (seen_from c.args.self.now.partition c.args.self.now.seats.items pairs) c.in-Some.line.now.verb c.match-line.outcome other)
          c.end.ensures.rest.partition c.end.ensures.rest.lines c.end.ensures.rest.seats c.in_ok-end.ensures.ended.logs is.calls;
    }

pub returns-clause-clients : goal.returns-clause-clients
returns-clause-clients c = λ pairs script.
    let found : slice_get c.args.self.now.lines.now c.args.self.now.at ≡ Some c.in-Some.line.now =
    slice_get_read c.args.self.now.lines.now (length c.args.self.now.lines.now) c.args.self.now.at c.in-Some.line.now refl
    (less_by c.args.self.now.at (length c.args.self.now.lines.now) (sym c.in-Some.ensures.lookup.0)) c.in-Some.ensures.lookup.1 in
    let ends : EndsWaiting c.args.self.now.progress c.in-Some.line.now.verb c.match-line.outcome =
    elim c.match-line.branch [
      | in-Login w ↦ of_login w.in-Login.is w.outcome-is
      | in-Reset w ↦ of_reset w.in-Reset.is w.outcome-is
      | in-Take w ↦ of_take w.in-Take.count w.in-Take.is (w.outcome-is ∙ ap (λ n. outcomes.Took n) w.taken.ensures)
    ] in
    let row : LogRow = record { partition = c.args.self.now.partition; line = c.in-Some.line.now.number; outcome = c.match-line.outcome } in
    let many = script.logs.reached (slice_get_within c.args.self.now.lines.now c.args.self.now.at c.in-Some.line.now found) in
    record {
      plain = λ granted u k none stands. waiting_ends granted u k pairs c.args.self.now c.end.new.self c.in-Some.line.now row found many ends
          c.end.ensures.rest.lines c.in_ok-end.ensures.ended.logs c.in_ok-end.ensures.fresh none stands;
      own = waiting_ends_own pairs c.args.self.now c.end.new.self c.in-Some.line.now row found many ends
          c.end.ensures.rest.lines c.in_ok-end.ensures.ended.logs c.in_ok-end.ensures.fresh;
    }
