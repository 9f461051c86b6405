use Rattle.vcpu_run.proofs.Resting.{not_quiet, ok_more}
use Rattle.vcpu_run.specs.NotedOn.{AllKeepNoted}
use Rattle.vcpu_run.specs.Machines.{AllStay}
use Rattle.vcpu_run.proofs.DataNoted.{keep_line, keep_told}
use Rattle.vcpu_run.proofs.Keeping.{drivers_driven}
use Rattle.vcpu_run.specs.declared.unit_seat.Seat.{Seat}
use Rattle.vcpu_run.specs.Freed.{FreesNoneIf}
use Rattle.vcpu_run.specs.Freeing.{IsSpared}
use Rattle.vcpu_run.specs.Holding.{LineOpen}
use Rattle.vcpu_run.proofs.Held.{ends_held, waits_held, waits_open}
use Rattle.vcpu_run.proofs.Elsewhere.{ok_then}
use Rattle.std.proofs.Common.{rules, ap, false, ◌≡◌, ◌∙◌, List, Ok, refl, slice_get, subst, arith}
use Rattle.std.proofs.lemmas.Option.{slice_get_within}
use Rattle.unit_region.specs.declared.step.Step.{Step}
use Rattle.unit_region.specs.declared.step.Step.TheVariants as steps
use Rattle.vcpu_run.specs.Agreed.{SameElse, StepsLine}
use Rattle.vcpu_run.specs.CallsSaid.{StepSaid, seen_from}
use Rattle.vcpu_run.specs.Credited.{taken_in}
use Rattle.vcpu_run.specs.Suited.{IsLineAt}
use Rattle.boot_text.specs.declared.plan.Line.{Line}
use Rattle.vcpu_run.specs.Suited.{is_call}
use Rattle.vcpu_run.specs.Telling.{LineOut, LineTold}
use Rattle.vcpu_run.proofs.ScriptsTold.{line_ends_told, line_waits_told, waits_out}
use Rattle.vcpu_run.specs.ClientStrokes.{LineLays}
use Rattle.vcpu_run.specs.ClientMoments.{LineStepped}
use Rattle.vcpu_run.proofs.CallRecords.{calls_ends, calls_waits}
use Rattle.vcpu_run.proofs.ClientRecords.{logs_ends, logs_waits}
use Rattle.vcpu_run.proofs.Crediting.{line_ends, line_waits}
use Rattle.vcpu_run.proofs.Driving.{clients_of}
use Rattle.vcpu_run.proofs.Keeping.{driven_stay}
use Rattle.vcpu_run.proofs.LinesRead.{line_read}
use Rattle.vcpu_run.proofs.Logging.{all_at, one_unit, script_steps}
use Rattle.vcpu_run.specs.PortCalls.{EndsEntries}
use Rattle.vcpu_run.specs.PortMacs.{EndsPorts}
use Rattle.vcpu_run.specs.PortSteps.{TellsStep}
use Rattle.vcpu_run.specs.PortWords.{done_in}
use Rattle.vcpu_run.proofs.PortsTelling.{port_waits, step_tells}
use Rattle.vcpu_run.specs.PlainScripts.{LinePlainly}
use Rattle.vcpu_run.proofs.PlainScripted.{ends_plainly, waits_plainly, waits_quietly}
use Rattle.vcpu_run.specs.ActsAt.{LineActs}
use Rattle.vcpu_run.proofs.ActsScripts.{ends_go, fails_go, waits_go}
use Rattle.vcpu_run.specs.Works.{fails}
use Rattle.vcpu_run.proofs.script.Script.step.Goals as goal

pub step_unit-requires : goal.step_unit-requires
step_unit-requires c =
    let line : IsLineAt c.args.self.now.seats.items c.args.line.now =
    all_at (IsLineAt c.args.self.now.seats.items) c.args.self.now.lines.now c.args.self.now.at c.args.line.now c.requires.line c.requires.script.lines in
    record {
      clients = rw c.deref.ensures.value (clients_of c.args.self.now.partition c.args.self.now.seats.items c.args.pairs.now c.requires.script.seats c.requires.pairs);
      ports = rw c.deref.ensures.value c.requires.ports.have;
      suited = rw c.deref.ensures.value line.suited;
      verb = record {
        one = one_unit c.args.line.now.verb c.in_default.not-Fail;
        ranged = line.ranged;
      };
    }

pub returns-in_err-step : goal.returns-in_err-step
returns-in_err-step c =
    let line : IsLineAt c.args.self.now.seats.items c.args.line.now =
    all_at (IsLineAt c.args.self.now.seats.items) c.args.self.now.lines.now c.args.self.now.at c.args.line.now c.requires.line c.requires.script.lines in
    record {
      driven = c.step_unit.ensures.driven;
      script = script_steps c.args.pairs.now c.step_unit.new.pairs c.args.self.now c.step_unit.new.progress c.step_unit.ensures.driven c.requires.script;
      rest = record { partition = refl; lines = refl; seats = refl };
      others = subst (λ (seats : List Seat). SameElse seats c.args.pairs.now c.step_unit.new.pairs) c.deref.ensures.value c.step_unit.ensures.others;
      unfreed = search rules;
      lan = c.step_unit.ensures.lan;
      credited = search rules;
      logged = search rules;
      told = search rules;
      apart = search rules;
      said = search rules;
      out = search rules;
      opened = search rules;
      quiet = search rules;
      plainly = search rules;
      quiets = search rules;
      acts = search rules;
    }

pub returns-in_err-end-in-Ends : goal.returns-in_err-end-in-Ends
returns-in_err-end-in-Ends c =
    let line : IsLineAt c.args.self.now.seats.items c.args.line.now =
    all_at (IsLineAt c.args.self.now.seats.items) c.args.self.now.lines.now c.args.self.now.at c.args.line.now c.requires.line c.requires.script.lines in
    record {
      driven = c.step_unit.ensures.driven;
      script = c.end.ensures.script c.step_unit.new.pairs (script_steps c.args.pairs.now c.step_unit.new.pairs c.args.self.now c.step_unit.new.progress c.step_unit.ensures.driven c.requires.script);
      rest = record { partition = c.end.ensures.rest.partition; lines = c.end.ensures.rest.lines; seats = c.end.ensures.rest.seats };
      others = subst (λ (seats : List Seat). SameElse seats c.args.pairs.now c.step_unit.new.pairs) c.deref.ensures.value c.step_unit.ensures.others;
      unfreed = search rules;
      lan = c.step_unit.ensures.lan;
      credited = search rules;
      logged = search rules;
      told = search rules;
      apart = search rules;
      said = search rules;
      out = search rules;
      opened = search rules;
      quiet = search rules;
      plainly = search rules;
      quiets = search rules;
      acts = search rules;
    }

pub returns-in_ok-end-in-Ends : goal.returns-in_ok-end-in-Ends
returns-in_ok-end-in-Ends c =
    let line : IsLineAt c.args.self.now.seats.items c.args.line.now =
    all_at (IsLineAt c.args.self.now.seats.items) c.args.self.now.lines.now c.args.self.now.at c.args.line.now c.requires.line c.requires.script.lines in
    record {
      driven = c.step_unit.ensures.driven;
      script = c.end.ensures.script c.step_unit.new.pairs (script_steps c.args.pairs.now c.step_unit.new.pairs c.args.self.now c.step_unit.new.progress c.step_unit.ensures.driven c.requires.script);
      rest = record { partition = c.end.ensures.rest.partition; lines = c.end.ensures.rest.lines; seats = c.end.ensures.rest.seats };
      others = subst (λ (seats : List Seat). SameElse seats c.args.pairs.now c.step_unit.new.pairs) c.deref.ensures.value c.step_unit.ensures.others;
      unfreed = λ keep.
          ends_held c.args.pairs.now c.step_unit.new.pairs c.args.self.now c.end.new.self c.step_unit.new.progress c.args.line.now c.in-Ends.outcome
          c.requires.line c.requires.script.seats
          (subst (λ (seats : List Seat). FreesNoneIf (IsSpared seats c.args.line.now) c.args.pairs.now c.step_unit.new.pairs) c.deref.ensures.value c.step_unit.ensures.stays)
          (λ no.
          subst (λ (st : Step). LineOpen c.args.self.now.seats.items c.args.line.now c.step_unit.new.progress c.args.pairs.now c.step_unit.new.pairs (Ok st)) c.in-Ends.is
          (rw (← c.deref.ensures.value) (c.in_ok-step.ensures.registered no)))
          c.end.ensures.rest.lines c.end.ensures.rest.seats keep;
      lan = c.step_unit.ensures.lan;
      credited = λ is.
          line_ends c.args.pairs.now c.step_unit.new.pairs c.args.self.now c.end.new.self c.args.line.now
          (record { partition = c.args.self.now.partition; line = c.args.line.now.number; outcome = c.in-Ends.outcome }) (taken_in c.step_unit.new.progress)
          c.requires.line line.suited c.requires.script.seats
          (c.requires.script.logs.reached (slice_get_within c.args.self.now.lines.now c.args.self.now.at c.args.line.now c.requires.line))
          (subst (λ (st : Step). StepsLine c.args.self.now.seats.items c.args.line.now (taken_in c.args.self.now.progress) (taken_in c.step_unit.new.progress) c.args.pairs.now c.step_unit.new.pairs (Ok st)) c.in-Ends.is
          (rw (← c.deref.ensures.value) c.in_ok-step.ensures.credit))
          c.end.ensures.rest.lines c.end.ensures.rest.seats c.in_ok-end-in-Ends.ensures.ended.logs c.in_ok-end-in-Ends.ensures.ended.none is;
      logged = λ copies made is.
          let stay : AllStay c.args.pairs.now c.step_unit.new.pairs = driven_stay c.args.pairs.now c.step_unit.new.pairs c.step_unit.ensures.driven in
          let keep : AllKeepNoted c.args.pairs.now c.step_unit.new.pairs =
          keep_line c.args.self.now.seats.items c.args.line.now c.args.self.now.progress c.step_unit.new.progress c.args.pairs.now c.step_unit.new.pairs (steps.Ends c.in-Ends.outcome) line.suited
          c.step_unit.ensures.drivers (λ no.
          subst (λ (st : Step). LineTold c.args.self.now.seats.items c.args.line.now c.args.self.now.progress c.step_unit.new.progress c.args.pairs.now c.step_unit.new.pairs (Ok st)) c.in-Ends.is
          (rw (← c.deref.ensures.value) (c.in_ok-step.ensures.said no))) in
          record {
            strokes =
                logs_ends copies c.args.pairs.now c.step_unit.new.pairs c.args.self.now c.end.new.self c.args.line.now
                (record { partition = c.args.self.now.partition; line = c.args.line.now.number; outcome = c.in-Ends.outcome })
                c.requires.line (record { in_order = c.requires.script.in_order; reached = c.requires.script.logs.reached })
                (c.requires.script.logs.reached (slice_get_within c.args.self.now.lines.now c.args.self.now.at c.args.line.now c.requires.line)) c.requires.script.seats stay keep
                (subst (λ (seats : List Seat). LineLays seats c.args.line.now c.args.pairs.now c.step_unit.new.pairs) c.deref.ensures.value c.step_unit.ensures.lays)
                (subst (λ (st : Step). LineStepped c.args.self.now.seats.items c.args.line.now c.args.pairs.now c.step_unit.new.pairs (Ok st)) c.in-Ends.is
                (subst (λ (seats : List Seat). LineStepped seats c.args.line.now c.args.pairs.now c.step_unit.new.pairs (Ok c.in_ok-step.step)) c.deref.ensures.value c.in_ok-step.ensures.region))
                (line_read c.args.self.now.seats.items c.args.line.now c.args.self.now.progress c.step_unit.new.progress c.args.pairs.now c.step_unit.new.pairs c.in-Ends.outcome keep
                (drivers_driven c.args.pairs.now c.step_unit.new.pairs c.step_unit.ensures.driven c.requires.pairs)
                (λ no.
                subst (λ (st : Step). LineTold c.args.self.now.seats.items c.args.line.now c.args.self.now.progress c.step_unit.new.progress c.args.pairs.now c.step_unit.new.pairs (Ok st)) c.in-Ends.is
                (rw (← c.deref.ensures.value) (c.in_ok-step.ensures.said no)))) made
                c.end.ensures.rest.partition c.end.ensures.rest.lines c.end.ensures.rest.seats c.in_ok-end-in-Ends.ensures.ended.logs is.strokes;
            calls =
                calls_ends c.args.pairs.now c.step_unit.new.pairs c.args.self.now c.end.new.self c.args.line.now
                (record { partition = c.args.self.now.partition; line = c.args.line.now.number; outcome = c.in-Ends.outcome })
                c.requires.line (record { in_order = c.requires.script.in_order; reached = c.requires.script.logs.reached })
                (c.requires.script.logs.reached (slice_get_within c.args.self.now.lines.now c.args.self.now.at c.args.line.now c.requires.line))
                (driven_stay c.args.pairs.now c.step_unit.new.pairs c.step_unit.ensures.driven)
                (subst (λ (seats : List Seat). LineLays seats c.args.line.now c.args.pairs.now c.step_unit.new.pairs) c.deref.ensures.value c.step_unit.ensures.lays) is.strokes
                (subst (λ (st : Step). StepSaid (seen_from c.args.self.now.partition c.args.self.now.seats.items c.step_unit.new.pairs) c.args.line.now.verb st) c.in-Ends.is
                (rw (← c.deref.ensures.value) c.in_ok-step.ensures.called))
                c.end.ensures.rest.partition c.end.ensures.rest.lines c.end.ensures.rest.seats c.in_ok-end-in-Ends.ensures.ended.logs is.calls;
          };
      told = λ tells.
          step_tells c.args.lan.now c.step_unit.new.lan c.args.self.now c.end.new.self c.args.line.now
          (record { partition = c.args.self.now.partition; line = c.args.line.now.number; outcome = c.in-Ends.outcome }) (done_in c.step_unit.new.progress)
          c.requires.line (c.requires.script.logs.reached (slice_get_within c.args.self.now.lines.now c.args.self.now.at c.args.line.now c.requires.line))
          c.end.ensures.rest.partition c.end.ensures.rest.lines c.end.ensures.rest.seats c.in_ok-end-in-Ends.ensures.ended.logs (ap done_in c.in_ok-end-in-Ends.ensures.fresh)
          (one_unit c.args.line.now.verb c.in_default.not-Fail) c.step_unit.ensures.lan
          (λ call.
          subst (λ (st : Step). EndsPorts c.args.self.now.partition c.args.line.now.verb c.args.lan.now c.step_unit.new.lan st) c.in-Ends.is
          (c.in_ok-step.ensures.ports call))
          (λ call.
          subst (λ (st : Step). EndsEntries c.args.self.now.partition (slice_get c.args.self.now.seats.items) c.args.line.now.verb c.args.lan.now c.step_unit.new.lan st) c.in-Ends.is
          (rw (← c.deref.ensures.value) (c.in_ok-step.ensures.entries call)))
          (λ no.
          subst (λ (st : Step). TellsStep c.args.self.now.partition c.args.self.now.seats.items c.args.line.now (done_in c.args.self.now.progress) (done_in c.step_unit.new.progress) c.args.lan.now c.step_unit.new.lan st) c.in-Ends.is
          (rw (← c.deref.ensures.value) (c.in_ok-step.ensures.told no))) tells;
      apart = c.in_ok-step.ensures.apart;
      said = λ no is. let one = one_unit c.args.line.now.verb c.in_default.not-Fail in
          line_ends_told c.args.pairs.now c.step_unit.new.pairs c.args.self.now c.end.new.self c.args.line.now
          (record { partition = c.args.self.now.partition; line = c.args.line.now.number; outcome = c.in-Ends.outcome }) c.step_unit.new.progress
          c.requires.line one line.suited c.requires.script.seats c.step_unit.ensures.driven
          (c.requires.script.logs.reached (slice_get_within c.args.self.now.lines.now c.args.self.now.at c.args.line.now c.requires.line))
          (subst (λ (st : Step). LineTold c.args.self.now.seats.items c.args.line.now c.args.self.now.progress c.step_unit.new.progress c.args.pairs.now c.step_unit.new.pairs (Ok st)) c.in-Ends.is
          (rw (← c.deref.ensures.value) (c.in_ok-step.ensures.said (all_at (λ (l : Line). is_call l.verb ≡ false) c.args.self.now.lines.now c.args.self.now.at c.args.line.now c.requires.line no))))
          c.end.ensures.rest.lines c.end.ensures.rest.seats c.in_ok-end-in-Ends.ensures.ended.logs c.in_ok-end-in-Ends.ensures.fresh is;
      out = λ is. absurd (not_quiet is);
      opened = λ is. absurd (not_quiet is);
      quiet = λ is. absurd (not_quiet is);
      plainly =
          ends_plainly c.args.pairs.now c.step_unit.new.pairs c.args.self.now c.end.new.self c.step_unit.new.progress c.args.line.now
          (record { partition = c.args.self.now.partition; line = c.args.line.now.number; outcome = c.in-Ends.outcome })
          c.requires.line (one_unit c.args.line.now.verb c.in_default.not-Fail) line.suited c.requires.script.seats c.step_unit.ensures.driven
          (c.requires.script.logs.reached (slice_get_within c.args.self.now.lines.now c.args.self.now.at c.args.line.now c.requires.line))
          (λ no.
          (subst (λ (st : Step). LineTold c.args.self.now.seats.items c.args.line.now c.args.self.now.progress c.step_unit.new.progress c.args.pairs.now c.step_unit.new.pairs (Ok st)) c.in-Ends.is
          (rw (← c.deref.ensures.value) (c.in_ok-step.ensures.said (all_at (λ (l : Line). is_call l.verb ≡ false) c.args.self.now.lines.now c.args.self.now.at c.args.line.now c.requires.line no)))))
          (λ no.
          (subst (λ (st : Step). LinePlainly c.args.self.now.seats.items c.args.line.now c.args.self.now.progress c.step_unit.new.progress c.args.pairs.now c.step_unit.new.pairs (Ok st)) c.in-Ends.is
          (rw (← c.deref.ensures.value) (c.in_ok-step.ensures.plainly (all_at (λ (l : Line). is_call l.verb ≡ false) c.args.self.now.lines.now c.args.self.now.at c.args.line.now c.requires.line no)))))
          c.end.ensures.rest.lines c.in_ok-end-in-Ends.ensures.ended.logs c.in_ok-end-in-Ends.ensures.fresh;
      quiets = λ is. absurd (not_quiet is);
      acts =
          ends_go c.args.line.now c.step_unit.new.progress c.in-Ends.outcome c.args.pairs.now c.step_unit.new.pairs c.args.self.now c.end.new.self (one_unit c.args.line.now.verb c.in_default.not-Fail)
          (λ no.
          (subst (λ (st : Step). LineActs c.args.self.now.seats.items c.args.line.now c.args.self.now.progress c.step_unit.new.progress c.args.pairs.now c.step_unit.new.pairs st) c.in-Ends.is
          (rw (← c.deref.ensures.value) (c.in_ok-step.ensures.acts no))))
          (λ no.
          (subst (λ (st : Step). LinePlainly c.args.self.now.seats.items c.args.line.now c.args.self.now.progress c.step_unit.new.progress c.args.pairs.now c.step_unit.new.pairs (Ok st)) c.in-Ends.is
          (rw (← c.deref.ensures.value) (c.in_ok-step.ensures.plainly no))))
          (λ no.
          keep_told c.args.self.now.seats.items c.args.line.now c.args.self.now.progress c.step_unit.new.progress c.args.pairs.now c.step_unit.new.pairs (steps.Ends c.in-Ends.outcome) line.suited
          (subst (λ (st : Step). LineTold c.args.self.now.seats.items c.args.line.now c.args.self.now.progress c.step_unit.new.progress c.args.pairs.now c.step_unit.new.pairs (Ok st)) c.in-Ends.is
          (rw (← c.deref.ensures.value) (c.in_ok-step.ensures.said no))))
          (record {
            ended = record { logs = c.in_ok-end-in-Ends.ensures.ended.logs; none = c.in_ok-end-in-Ends.ensures.ended.none };
            at = c.in_ok-end-in-Ends.ensures.at;
            fresh = c.in_ok-end-in-Ends.ensures.fresh;
          });
    }

pub returns-in-Waits : goal.returns-in-Waits
returns-in-Waits c =
    let line : IsLineAt c.args.self.now.seats.items c.args.line.now =
    all_at (IsLineAt c.args.self.now.seats.items) c.args.self.now.lines.now c.args.self.now.at c.args.line.now c.requires.line c.requires.script.lines in
    record {
      driven = c.step_unit.ensures.driven;
      script = script_steps c.args.pairs.now c.step_unit.new.pairs c.args.self.now c.step_unit.new.progress c.step_unit.ensures.driven c.requires.script;
      rest = record { partition = refl; lines = refl; seats = refl };
      others = subst (λ (seats : List Seat). SameElse seats c.args.pairs.now c.step_unit.new.pairs) c.deref.ensures.value c.step_unit.ensures.others;
      unfreed = λ keep.
          waits_held c.args.pairs.now c.step_unit.new.pairs c.args.self.now c.step_unit.new.progress c.args.line.now c.in-Waits.moved
          c.requires.line c.requires.script.seats
          (subst (λ (seats : List Seat). FreesNoneIf (IsSpared seats c.args.line.now) c.args.pairs.now c.step_unit.new.pairs) c.deref.ensures.value c.step_unit.ensures.stays)
          (λ no.
          subst (λ (st : Step). LineOpen c.args.self.now.seats.items c.args.line.now c.step_unit.new.progress c.args.pairs.now c.step_unit.new.pairs (Ok st)) c.in-Waits.is
          (rw (← c.deref.ensures.value) (c.in_ok-step.ensures.registered no))) keep;
      lan = c.step_unit.ensures.lan;
      credited = λ is.
          line_waits c.args.pairs.now c.step_unit.new.pairs c.args.self.now c.step_unit.new.progress c.args.line.now c.in-Waits.moved
          c.requires.line line.suited c.requires.script.seats
          (subst (λ (st : Step). StepsLine c.args.self.now.seats.items c.args.line.now (taken_in c.args.self.now.progress) (taken_in c.step_unit.new.progress) c.args.pairs.now c.step_unit.new.pairs (Ok st)) c.in-Waits.is
          (rw (← c.deref.ensures.value) c.in_ok-step.ensures.credit)) is;
      logged = λ copies made is.
          let stay : AllStay c.args.pairs.now c.step_unit.new.pairs = driven_stay c.args.pairs.now c.step_unit.new.pairs c.step_unit.ensures.driven in
          let keep : AllKeepNoted c.args.pairs.now c.step_unit.new.pairs =
          keep_line c.args.self.now.seats.items c.args.line.now c.args.self.now.progress c.step_unit.new.progress c.args.pairs.now c.step_unit.new.pairs (steps.Waits c.in-Waits.moved) line.suited
          c.step_unit.ensures.drivers (λ no.
          subst (λ (st : Step). LineTold c.args.self.now.seats.items c.args.line.now c.args.self.now.progress c.step_unit.new.progress c.args.pairs.now c.step_unit.new.pairs (Ok st)) c.in-Waits.is
          (rw (← c.deref.ensures.value) (c.in_ok-step.ensures.said no))) in
          record {
            strokes =
                logs_waits copies c.args.pairs.now c.step_unit.new.pairs c.args.self.now c.step_unit.new.progress c.args.line.now c.in-Waits.moved c.requires.line
                (record { in_order = c.requires.script.in_order; reached = c.requires.script.logs.reached })
                (c.requires.script.logs.reached (slice_get_within c.args.self.now.lines.now c.args.self.now.at c.args.line.now c.requires.line)) c.requires.script.seats stay keep
                (subst (λ (seats : List Seat). LineLays seats c.args.line.now c.args.pairs.now c.step_unit.new.pairs) c.deref.ensures.value c.step_unit.ensures.lays)
                (subst (λ (st : Step). LineStepped c.args.self.now.seats.items c.args.line.now c.args.pairs.now c.step_unit.new.pairs (Ok st)) c.in-Waits.is
                (subst (λ (seats : List Seat). LineStepped seats c.args.line.now c.args.pairs.now c.step_unit.new.pairs (Ok c.in_ok-step.step)) c.deref.ensures.value c.in_ok-step.ensures.region)) is.strokes;
            calls =
                calls_waits c.args.pairs.now c.step_unit.new.pairs c.args.self.now c.step_unit.new.progress c.args.line.now c.requires.line
                (record { in_order = c.requires.script.in_order; reached = c.requires.script.logs.reached })
                (c.requires.script.logs.reached (slice_get_within c.args.self.now.lines.now c.args.self.now.at c.args.line.now c.requires.line))
                (driven_stay c.args.pairs.now c.step_unit.new.pairs c.step_unit.ensures.driven)
                (subst (λ (seats : List Seat). LineLays seats c.args.line.now c.args.pairs.now c.step_unit.new.pairs) c.deref.ensures.value c.step_unit.ensures.lays) is.calls;
          };
      told = λ tells.
          port_waits c.args.lan.now c.step_unit.new.lan c.args.self.now (record c.args.self.now { progress = c.step_unit.new.progress }) c.args.line.now c.in-Waits.moved c.requires.line refl
          (λ call.
          subst (λ (st : Step). EndsPorts c.args.self.now.partition c.args.line.now.verb c.args.lan.now c.step_unit.new.lan st) c.in-Waits.is
          (c.in_ok-step.ensures.ports call))
          (λ no.
          subst (λ (st : Step). TellsStep c.args.self.now.partition c.args.self.now.seats.items c.args.line.now (done_in c.args.self.now.progress) (done_in c.step_unit.new.progress) c.args.lan.now c.step_unit.new.lan st) c.in-Waits.is
          (rw (← c.deref.ensures.value) (c.in_ok-step.ensures.told no))) tells;
      apart = c.in_ok-step.ensures.apart;
      said = λ no is. let one = one_unit c.args.line.now.verb c.in_default.not-Fail in
          line_waits_told c.args.pairs.now c.step_unit.new.pairs c.args.self.now c.step_unit.new.progress c.args.line.now c.in-Waits.moved
          c.requires.line one line.suited c.requires.script.seats c.step_unit.ensures.driven
          (subst (λ (st : Step). LineTold c.args.self.now.seats.items c.args.line.now c.args.self.now.progress c.step_unit.new.progress c.args.pairs.now c.step_unit.new.pairs (Ok st)) c.in-Waits.is
          (rw (← c.deref.ensures.value) (c.in_ok-step.ensures.said (all_at (λ (l : Line). is_call l.verb ≡ false) c.args.self.now.lines.now c.args.self.now.at c.args.line.now c.requires.line no)))) is;
      out = λ is no told. let one = one_unit c.args.line.now.verb c.in_default.not-Fail in
          waits_out c.args.pairs.now c.step_unit.new.pairs c.args.self.now c.step_unit.new.progress c.args.line.now c.requires.line one c.requires.script.seats c.step_unit.ensures.driven
          (subst (λ (st : Step). LineOut c.args.self.now.seats.items c.args.line.now c.args.self.now.progress c.step_unit.new.progress c.args.pairs.now c.step_unit.new.pairs (Ok st))
          (c.in-Waits.is ∙ ap (λ m. steps.Waits m) is)
          (rw (← c.deref.ensures.value) (c.in_ok-step.ensures.out (all_at (λ (l : Line). is_call l.verb ≡ false) c.args.self.now.lines.now c.args.self.now.at c.args.line.now c.requires.line no)))) told;
      opened = λ is.
          waits_open c.args.pairs.now c.step_unit.new.pairs c.args.self.now c.step_unit.new.progress c.args.line.now c.requires.line
          (λ no.
          subst (λ (st : Step). LineOpen c.args.self.now.seats.items c.args.line.now c.step_unit.new.progress c.args.pairs.now c.step_unit.new.pairs (Ok st))
          (c.in-Waits.is ∙ ap (λ m. steps.Waits m) is)
          (rw (← c.deref.ensures.value) (c.in_ok-step.ensures.registered no)));
      quiet = λ is over. let less = slice_get_within c.args.self.now.lines.now c.args.self.now.at c.args.line.now c.requires.line in omega (arith, less, over);
      plainly =
          waits_plainly c.args.pairs.now c.step_unit.new.pairs c.args.self.now c.step_unit.new.progress c.args.line.now c.in-Waits.moved
          c.requires.line (one_unit c.args.line.now.verb c.in_default.not-Fail) line.suited c.requires.script.seats c.step_unit.ensures.driven
          (λ no.
          (subst (λ (st : Step). LineTold c.args.self.now.seats.items c.args.line.now c.args.self.now.progress c.step_unit.new.progress c.args.pairs.now c.step_unit.new.pairs (Ok st)) c.in-Waits.is
          (rw (← c.deref.ensures.value) (c.in_ok-step.ensures.said (all_at (λ (l : Line). is_call l.verb ≡ false) c.args.self.now.lines.now c.args.self.now.at c.args.line.now c.requires.line no)))))
          (λ no.
          (subst (λ (st : Step). LinePlainly c.args.self.now.seats.items c.args.line.now c.args.self.now.progress c.step_unit.new.progress c.args.pairs.now c.step_unit.new.pairs (Ok st)) c.in-Waits.is
          (rw (← c.deref.ensures.value) (c.in_ok-step.ensures.plainly (all_at (λ (l : Line). is_call l.verb ≡ false) c.args.self.now.lines.now c.args.self.now.at c.args.line.now c.requires.line no)))));
      quiets = λ is.
          waits_quietly c.args.pairs.now c.step_unit.new.pairs c.args.self.now c.step_unit.new.progress c.args.line.now
          c.requires.line (one_unit c.args.line.now.verb c.in_default.not-Fail) line.suited c.requires.script.seats c.step_unit.ensures.driven
          (λ no.
          (subst (λ (st : Step). LineTold c.args.self.now.seats.items c.args.line.now c.args.self.now.progress c.step_unit.new.progress c.args.pairs.now c.step_unit.new.pairs (Ok st)) (c.in-Waits.is ∙ ap (λ m. steps.Waits m) is)
          (rw (← c.deref.ensures.value) (c.in_ok-step.ensures.said (all_at (λ (l : Line). is_call l.verb ≡ false) c.args.self.now.lines.now c.args.self.now.at c.args.line.now c.requires.line no)))))
          (λ no.
          (subst (λ (st : Step). LinePlainly c.args.self.now.seats.items c.args.line.now c.args.self.now.progress c.step_unit.new.progress c.args.pairs.now c.step_unit.new.pairs (Ok st)) (c.in-Waits.is ∙ ap (λ m. steps.Waits m) is)
          (rw (← c.deref.ensures.value) (c.in_ok-step.ensures.plainly (all_at (λ (l : Line). is_call l.verb ≡ false) c.args.self.now.lines.now c.args.self.now.at c.args.line.now c.requires.line no)))));
      acts =
          waits_go c.args.line.now c.step_unit.new.progress c.in-Waits.moved c.args.pairs.now c.step_unit.new.pairs c.args.self.now (one_unit c.args.line.now.verb c.in_default.not-Fail) line.suited
          (λ no.
          (subst (λ (st : Step). LineActs c.args.self.now.seats.items c.args.line.now c.args.self.now.progress c.step_unit.new.progress c.args.pairs.now c.step_unit.new.pairs st) c.in-Waits.is
          (rw (← c.deref.ensures.value) (c.in_ok-step.ensures.acts no))))
          (λ no.
          (subst (λ (st : Step). LinePlainly c.args.self.now.seats.items c.args.line.now c.args.self.now.progress c.step_unit.new.progress c.args.pairs.now c.step_unit.new.pairs (Ok st)) c.in-Waits.is
          (rw (← c.deref.ensures.value) (c.in_ok-step.ensures.plainly no))))
          (λ no.
          keep_told c.args.self.now.seats.items c.args.line.now c.args.self.now.progress c.step_unit.new.progress c.args.pairs.now c.step_unit.new.pairs (steps.Waits c.in-Waits.moved) line.suited
          (subst (λ (st : Step). LineTold c.args.self.now.seats.items c.args.line.now c.args.self.now.progress c.step_unit.new.progress c.args.pairs.now c.step_unit.new.pairs (Ok st)) c.in-Waits.is
          (rw (← c.deref.ensures.value) (c.in_ok-step.ensures.said no))));
    }

pub returns-in-Fail-clause-out : goal.returns-in-Fail-clause-out
returns-in-Fail-clause-out c = ok_more c.step_fail.result _ _ (λ moved out is no told. out is) c.step_fail.ensures.out

pub returns-in-Fail-clause-acts : goal.returns-in-Fail-clause-acts
returns-in-Fail-clause-acts c =
    fails_go c.step_fail.result c.args.line.now c.args.pairs.now c.step_fail.new.pairs c.args.self.now c.step_fail.new.self (ap fails c.in-Fail.is)
    c.step_fail.ensures.acts
