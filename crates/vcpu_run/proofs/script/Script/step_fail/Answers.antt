use Rattle.vcpu_run.proofs.DataNoted.{keep_gives}
use Rattle.vcpu_run.proofs.Resting.{not_quiet}
use Rattle.std.proofs.Common.{◌≡◌, ◌+◌, ◌∙◌, inl, inr, List, ap, cond, length, refl, subst, sym, arith}
use Rattle.std.proofs.lemmas.Option.{slice_get_within}
use Rattle.vcpu_run.proofs.CallRecords.{calls_ends, calls_still}
use Rattle.vcpu_run.proofs.LinesRead.{fails_read}
use Rattle.vcpu_run.proofs.ClientRecords.{logs_ends_none, logs_still}
use Rattle.vcpu_run.proofs.ClientsLay.{line_lays_none}
use Rattle.vcpu_run.proofs.Keeping.{driven_stay}
use Rattle.vcpu_run.proofs.PortLines.{fails_apart}
use Rattle.vcpu_run.proofs.Crediting.{credited_all, credited_fails}
use Rattle.vcpu_run.proofs.Driving.{clients_of}
use Rattle.vcpu_run.specs.Agreed.{SameElse}
use Rattle.vcpu_run.specs.FailedPorts.{PortsClosed}
use Rattle.vcpu_run.specs.FailedShut.{SeatsShut}
use Rattle.vcpu_run.proofs.ScriptsTold.{fail_ends_told, fail_out, fail_waits_told}
use Rattle.vcpu_run.proofs.Logging.{script_stays}
use Rattle.vcpu_run.specs.declared.unit_seat.Seat.{Seat}
use Rattle.vcpu_run.proofs.Held.{fails_held, fails_reset, other_held}
use Rattle.vio_trace.specs.declared.outcome.Outcome.TheVariants as outcomes
use Rattle.vcpu_run.specs.CallsSaid.{seen_from}
use Rattle.vcpu_run.proofs.CallsKept.{fails_no_call, says_none}
use Rattle.vcpu_run.proofs.PortsTelling.{failed_tells, failing_tells}
use Rattle.vcpu_run.specs.PortWords.{done_in}
use Rattle.vcpu_run.proofs.PlainDown.{fails_ends, fails_quietly, fails_waits}
use Rattle.vcpu_run.proofs.script.Script.step_fail.Goals as goal

pub fail-requires-clause-few : goal.fail-requires-clause-few
fail-requires-clause-few c = rw c.deref.ensures.value c.requires.ports.few

pub fail-requires-clause-ports : goal.fail-requires-clause-ports
fail-requires-clause-ports c = rw c.deref.ensures.value c.requires.ports.have

pub fail-requires-clause-clients : goal.fail-requires-clause-clients
fail-requires-clause-clients c = rw c.deref.ensures.value (clients_of c.args.self.now.partition c.args.self.now.seats.items c.args.pairs.now c.requires.script.seats c.requires.pairs)

pub returns-in_err-fail-clause-script : goal.returns-in_err-fail-clause-script
returns-in_err-fail-clause-script c = script_stays c.args.pairs.now c.fail.new.pairs c.args.self.now c.fail.ensures.driven c.requires.script

pub returns-in_err-end-clause-script : goal.returns-in_err-end-clause-script
returns-in_err-end-clause-script c =
    c.end.ensures.script c.fail.new.pairs (script_stays c.args.pairs.now c.fail.new.pairs c.args.self.now c.fail.ensures.driven c.requires.script)

pub returns-then-branch-clause-script : goal.returns-then-branch-clause-script
returns-then-branch-clause-script c =
    c.end.ensures.script c.fail.new.pairs (script_stays c.args.pairs.now c.fail.new.pairs c.args.self.now c.fail.ensures.driven c.requires.script)

pub returns-clause-script : goal.returns-clause-script
returns-clause-script c = script_stays c.args.pairs.now c.fail.new.pairs c.args.self.now c.fail.ensures.driven c.requires.script

pub returns-then-branch-clause-credited : goal.returns-then-branch-clause-credited
returns-then-branch-clause-credited c = λ is.
    let over : c.end.new.self.at ≡ length c.end.new.self.lines.now =
    c.in_ok-end.ensures.at ∙ (ap (λ b. cond b (length c.args.self.now.lines.now) (c.args.self.now.at + 1)) c.requires.fails
    ∙ sym (ap (λ lines. length lines.now) c.end.ensures.rest.lines)) in
    credited_fails c.args.pairs.now c.fail.new.pairs c.args.self.now _ c.args.line.now _ c.requires.line
    (c.requires.script.logs.reached (slice_get_within c.args.self.now.lines.now c.args.self.now.at c.args.line.now c.requires.line))
    refl c.end.ensures.rest.lines c.end.ensures.rest.seats c.in_ok-end.ensures.ended.logs over is

pub returns-clause-credited : goal.returns-clause-credited
returns-clause-credited c = λ is. credited_all c.args.pairs.now c.fail.new.pairs c.args.self.now c.fail.ensures.credit is

pub returns-in_err-fail-clause-others : goal.returns-in_err-fail-clause-others
returns-in_err-fail-clause-others c = subst (λ (seats : List Seat). SameElse seats c.args.pairs.now c.fail.new.pairs) c.deref.ensures.value c.fail.ensures.others

pub returns-in_err-end-clause-others : goal.returns-in_err-end-clause-others
returns-in_err-end-clause-others c = subst (λ (seats : List Seat). SameElse seats c.args.pairs.now c.fail.new.pairs) c.deref.ensures.value c.fail.ensures.others

pub returns-then-branch-clause-others : goal.returns-then-branch-clause-others
returns-then-branch-clause-others c = subst (λ (seats : List Seat). SameElse seats c.args.pairs.now c.fail.new.pairs) c.deref.ensures.value c.fail.ensures.others

pub returns-clause-others : goal.returns-clause-others
returns-clause-others c = subst (λ (seats : List Seat). SameElse seats c.args.pairs.now c.fail.new.pairs) c.deref.ensures.value c.fail.ensures.others

pub returns-then-branch-clause-quiet : goal.returns-then-branch-clause-quiet
returns-then-branch-clause-quiet c = λ is. absurd (not_quiet is)

pub returns-clause-quiet : goal.returns-clause-quiet
returns-clause-quiet c = λ is over.
    let less = slice_get_within c.args.self.now.lines.now c.args.self.now.at c.args.line.now c.requires.line in
    omega (arith, less, over)

pub returns-then-branch-clause-unfreed : goal.returns-then-branch-clause-unfreed
returns-then-branch-clause-unfreed c = λ keep.
    fails_held c.fail.new.pairs c.args.self.now c.end.new.self c.args.line.now c.requires.line c.requires.fails c.end.ensures.rest.lines

pub returns-clause-unfreed : goal.returns-clause-unfreed
returns-clause-unfreed c = λ keep. fails_held c.fail.new.pairs c.args.self.now c.args.self.now c.args.line.now c.requires.line c.requires.fails refl

pub returns-then-branch-clause-told : goal.returns-then-branch-clause-told
returns-then-branch-clause-told c = λ tells.
    let over : c.end.new.self.at ≡ length c.end.new.self.lines.now =
    c.in_ok-end.ensures.at ∙ (ap (λ b. cond b (length c.args.self.now.lines.now) (c.args.self.now.at + 1)) c.requires.fails
    ∙ sym (ap (λ lines. length lines.now) c.end.ensures.rest.lines)) in
    failed_tells c.args.lan.now c.fail.new.lan c.args.self.now c.end.new.self c.args.line.now _ c.requires.line
    (c.requires.script.logs.reached (slice_get_within c.args.self.now.lines.now c.args.self.now.at c.args.line.now c.requires.line))
    c.end.ensures.rest.partition c.end.ensures.rest.lines c.end.ensures.rest.seats c.in_ok-end.ensures.ended.logs (ap done_in c.in_ok-end.ensures.fresh)
    refl refl c.requires.fails c.fail.ensures.idle over
    (subst (λ (seats : List Seat). PortsClosed c.args.self.now.partition seats c.fail.new.lan) c.deref.ensures.value (c.in_ok-fail.ensures.closes (grind arith))) tells

pub returns-clause-told : goal.returns-clause-told
returns-clause-told c = λ tells.
    failing_tells c.args.lan.now c.fail.new.lan c.args.self.now c.args.line.now c.requires.line c.requires.fails c.fail.ensures.idle tells

pub returns-then-branch-clause-apart : goal.returns-then-branch-clause-apart
returns-then-branch-clause-apart c = c.fail.ensures.apart

pub returns-clause-apart : goal.returns-clause-apart
returns-clause-apart c = c.fail.ensures.apart

pub returns-then-branch-clause-said : goal.returns-then-branch-clause-said
returns-then-branch-clause-said c = λ is.
    let over : c.end.new.self.at ≡ length c.end.new.self.lines.now =
    c.in_ok-end.ensures.at ∙ (ap (λ b. cond b (length c.args.self.now.lines.now) (c.args.self.now.at + 1)) c.requires.fails
    ∙ sym (ap (λ lines. length lines.now) c.end.ensures.rest.lines)) in
    fail_ends_told c.args.pairs.now c.fail.new.pairs c.args.self.now c.end.new.self c.args.line.now _ c.requires.line c.requires.fails
    c.requires.script.seats c.fail.ensures.driven c.in_ok-fail.ensures.gives c.fail.ensures.values c.fail.ensures.shut
    (subst (λ (seats : List Seat). SeatsShut seats c.fail.new.pairs) c.deref.ensures.value (c.in_ok-fail.ensures.down (grind arith)))
    (c.requires.script.logs.reached (slice_get_within c.args.self.now.lines.now c.args.self.now.at c.args.line.now c.requires.line))
    refl c.end.ensures.rest.lines c.end.ensures.rest.seats c.in_ok-end.ensures.ended.logs over is

pub returns-clause-said : goal.returns-clause-said
returns-clause-said c = λ is.
    fail_waits_told c.args.pairs.now c.fail.new.pairs c.args.self.now c.args.line.now c.requires.line c.requires.fails c.requires.script.seats c.fail.ensures.driven c.in_ok-fail.ensures.gives c.fail.ensures.values c.fail.ensures.shut is

pub returns-then-branch-clause-out : goal.returns-then-branch-clause-out
returns-then-branch-clause-out c = λ is. absurd (not_quiet is)

pub returns-then-branch-clause-opened : goal.returns-then-branch-clause-opened
returns-then-branch-clause-opened c = λ is. absurd (not_quiet is)

pub returns-clause-opened : goal.returns-clause-opened
returns-clause-opened c = λ is.
    other_held c.args.pairs.now c.fail.new.pairs c.args.self.now c.args.line.now c.requires.line (fails_reset c.args.line.now.verb c.requires.fails)

pub returns-clause-out : goal.returns-clause-out
returns-clause-out c = λ is. fail_out c.fail.new.pairs c.args.self.now c.args.line.now c.requires.line (fails_reset c.args.line.now.verb c.requires.fails)

pub returns-then-branch-clause-logged : goal.returns-then-branch-clause-logged
returns-then-branch-clause-logged c = λ copies made is. record {
  strokes =
      logs_ends_none copies c.args.pairs.now c.fail.new.pairs c.args.self.now c.end.new.self c.args.line.now _ c.requires.line
      (record { in_order = c.requires.script.in_order; reached = c.requires.script.logs.reached })
      (c.requires.script.logs.reached (slice_get_within c.args.self.now.lines.now c.args.self.now.at c.args.line.now c.requires.line))
      c.requires.script.seats (driven_stay c.args.pairs.now c.fail.new.pairs c.fail.ensures.driven) (keep_gives c.args.pairs.now c.fail.new.pairs c.in_ok-fail.ensures.gives)
      c.fail.ensures.lays (fails_apart c.args.line.now.verb c.requires.fails)
      (fails_read c.args.self.now.seats.items c.args.line.now c.args.pairs.now c.fail.new.pairs _ c.requires.fails) made
      c.end.ensures.rest.partition c.end.ensures.rest.lines c.end.ensures.rest.seats c.in_ok-end.ensures.ended.logs is.strokes;
  calls =
      calls_ends c.args.pairs.now c.fail.new.pairs c.args.self.now c.end.new.self c.args.line.now _ c.requires.line
      (record { in_order = c.requires.script.in_order; reached = c.requires.script.logs.reached })
      (c.requires.script.logs.reached (slice_get_within c.args.self.now.lines.now c.args.self.now.at c.args.line.now c.requires.line))
      (driven_stay c.args.pairs.now c.fail.new.pairs c.fail.ensures.driven) (line_lays_none c.args.self.now.seats.items c.args.line.now c.args.pairs.now c.fail.new.pairs c.fail.ensures.lays)
      is.strokes (says_none (seen_from c.args.self.now.partition c.args.self.now.seats.items c.fail.new.pairs) c.args.line.now.verb outcomes.Done (fails_no_call c.args.line.now.verb c.requires.fails))
      c.end.ensures.rest.partition c.end.ensures.rest.lines c.end.ensures.rest.seats c.in_ok-end.ensures.ended.logs is.calls;
}

pub returns-clause-logged : goal.returns-clause-logged
returns-clause-logged c = λ copies made is. record {
  strokes = logs_still copies c.args.pairs.now c.fail.new.pairs c.args.self.now (driven_stay c.args.pairs.now c.fail.new.pairs c.fail.ensures.driven)
      (keep_gives c.args.pairs.now c.fail.new.pairs c.in_ok-fail.ensures.gives) c.fail.ensures.lays is.strokes;
  calls = calls_still c.args.pairs.now c.fail.new.pairs c.args.self.now (driven_stay c.args.pairs.now c.fail.new.pairs c.fail.ensures.driven) c.fail.ensures.lays is.calls;
}

pub returns-then-branch-clause-plainly : goal.returns-then-branch-clause-plainly
returns-then-branch-clause-plainly c =
    let over : c.end.new.self.at ≡ length c.end.new.self.lines.now =
    c.in_ok-end.ensures.at ∙ (ap (λ b. cond b (length c.args.self.now.lines.now) (c.args.self.now.at + 1)) c.requires.fails
    ∙ sym (ap (λ lines. length lines.now) c.end.ensures.rest.lines)) in
    fails_ends c.args.pairs.now c.fail.new.pairs c.args.self.now c.end.new.self c.args.line.now
    (record { partition = c.args.self.now.partition; line = c.args.line.now.number; outcome = outcomes.Done })
    c.requires.line c.requires.fails c.requires.script.seats c.fail.ensures.driven c.in_ok-fail.ensures.plainly c.in_ok-fail.ensures.gives
    (subst (λ (seats : List Seat). SeatsShut seats c.fail.new.pairs) c.deref.ensures.value (c.in_ok-fail.ensures.down (grind arith)))
    (c.requires.script.logs.reached (slice_get_within c.args.self.now.lines.now c.args.self.now.at c.args.line.now c.requires.line))
    c.end.ensures.rest.lines c.in_ok-end.ensures.ended.logs refl over

pub returns-clause-plainly : goal.returns-clause-plainly
returns-clause-plainly c =
    fails_waits c.args.pairs.now c.fail.new.pairs c.args.self.now c.args.line.now c.requires.line c.requires.fails c.requires.script.seats c.fail.ensures.driven
    c.in_ok-fail.ensures.plainly c.in_ok-fail.ensures.gives

pub returns-then-branch-clause-quiets : goal.returns-then-branch-clause-quiets
returns-then-branch-clause-quiets c = λ is. absurd (not_quiet is)

pub returns-clause-quiets : goal.returns-clause-quiets
returns-clause-quiets c = λ is. fails_quietly c.args.pairs.now c.fail.new.pairs c.args.self.now c.args.line.now c.requires.line c.requires.fails

pub returns-then-branch-clause-acts : goal.returns-then-branch-clause-acts
returns-then-branch-clause-acts c = (
  record {
    acts = c.in_ok-fail.ensures.acts;
    plainly = c.in_ok-fail.ensures.plainly;
    keeps = keep_gives c.args.pairs.now c.fail.new.pairs c.in_ok-fail.ensures.gives;
    leaves = inr (
      record { ended = c.in_ok-end.ensures.ended; at = c.in_ok-end.ensures.at; fresh = c.in_ok-end.ensures.fresh },
      subst (λ (seats : List Seat). SeatsShut seats c.fail.new.pairs) c.deref.ensures.value (c.in_ok-fail.ensures.down (grind arith)),
    );
  },
  λ is. absurd (not_quiet is),
)

pub returns-clause-acts : goal.returns-clause-acts
returns-clause-acts c = (
  record {
    acts = c.in_ok-fail.ensures.acts;
    plainly = c.in_ok-fail.ensures.plainly;
    keeps = keep_gives c.args.pairs.now c.fail.new.pairs c.in_ok-fail.ensures.gives;
    leaves = inl refl;
  },
  λ is. refl,
)
