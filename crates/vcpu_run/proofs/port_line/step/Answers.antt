use Rattle.std.proofs.Common.{ℕ, subst, sym, ◌∙◌}
use Rattle.lan_script.specs.Entries.{PortPuts, values_at}
use Rattle.lan_script.specs.LineBytes.{StepsBytes}
use Rattle.lan_script.specs.LineSays.{SendsAs}
use Rattle.lan_script.specs.PortCounts.{CountsStep, counts_after, counts_by}
use Rattle.lan_script.specs.Regions.{PortLays, PortTold, strokes_at}
use Rattle.lan_script.specs.Replayed.{Replays}
use Rattle.lan_script.specs.declared.lines.PortStep.{PortStep}
use Rattle.lan_script.specs.declared.lines.PortStep.TheVariants as ports
use Rattle.unit_region.specs.declared.step.Step.TheVariants as steps
use Rattle.unit_region.proofs.Laws.{with_none}
use Rattle.vcpu_run.specs.Ports.{unit_of}
use Rattle.vcpu_run.specs.PortReplays.{StepReplays}
use Rattle.vcpu_run.proofs.PortKept.{line_own}
use Rattle.vcpu_run.proofs.PortLines.{waits_shown}
use Rattle.vcpu_run.proofs.PortRising.{bytes_ended, replays_ended, step_beside}
use Rattle.vcpu_run.proofs.port_line.step.Goals as goal

pub returns-in-Ends-clause-replays : goal.returns-in-Ends-clause-replays
returns-in-Ends-clause-replays c =
    let u = unit_of c.args.partition c.args.line.now.unit in
    subst (λ (done : ℕ). StepReplays u c.args.line.now.verb done c.args.lan.now c.step.new.self (steps.Ends c.in-Ends.outcome)) c.done.ensures
    (replays_ended u c.args.line.now.verb c.done.result c.in-Ends.outcome c.args.lan.now c.step.new.self c.step.ensures.seats
    (subst (λ (s : PortStep). SendsAs u s c.args.lan.now c.step.new.self) c.in-Ends.is c.in_ok-outcome.ensures.sends)
    (subst (λ (s : PortStep). CountsStep u c.args.line.now.verb c.done.result s c.args.lan.now c.step.new.self) c.in-Ends.is c.in_ok-outcome.ensures.counts)
    c.in_ok-outcome.ensures.values
    (λ first. subst (λ (s : PortStep). Replays u c.args.line.now.verb s c.args.lan.now c.step.new.self) c.in-Ends.is (c.in_ok-outcome.ensures.replays first))
    c.in_ok-outcome.ensures.regions)

pub returns-in-Ends-clause-beside : goal.returns-in-Ends-clause-beside
returns-in-Ends-clause-beside c =
    step_beside (unit_of c.args.partition c.args.line.now.unit) c.in_ok-outcome.field-0 (counts_by c.args.line.now.verb c.done.result)
    (counts_after c.args.line.now.verb c.in_ok-outcome.field-0) c.args.lan.now c.step.new.self c.step.ensures.seats c.in_ok-outcome.ensures.sends
    c.in_ok-outcome.ensures.counts c.in_ok-outcome.ensures.beside c.in_ok-outcome.ensures.others c.in_ok-outcome.ensures.regions c.args.line.now.number c.in_ok-outcome.ensures.marks

pub returns-in-Ends-clause-bytes : goal.returns-in-Ends-clause-bytes
returns-in-Ends-clause-bytes c =
    let u = unit_of c.args.partition c.args.line.now.unit in
    bytes_ended u c.args.line.now.verb c.in-Ends.outcome c.args.lan.now c.step.new.self c.step.ensures.seats
    (subst (λ (s : PortStep). SendsAs u s c.args.lan.now c.step.new.self) c.in-Ends.is c.in_ok-outcome.ensures.sends) c.in_ok-outcome.ensures.names
    (λ own. subst (λ (s : PortStep). StepsBytes u c.args.line.now.verb s c.args.lan.now c.step.new.self) c.in-Ends.is (c.in_ok-outcome.ensures.bytes own))
    c.in_ok-outcome.ensures.addresses

pub returns-in-Ends-clause-puts : goal.returns-in-Ends-clause-puts
returns-in-Ends-clause-puts c =
    let u = unit_of c.args.partition c.args.line.now.unit in
    subst (λ (s : PortStep). PortPuts c.args.line.now.verb s (values_at c.args.lan.now u) (values_at c.step.new.self u)) c.in-Ends.is c.in_ok-outcome.ensures.puts

pub returns-in-Waits-clause-puts : goal.returns-in-Waits-clause-puts
returns-in-Waits-clause-puts c =
    let u = unit_of c.args.partition c.args.line.now.unit in
    subst (λ (s : PortStep). PortPuts c.args.line.now.verb s (values_at c.args.lan.now u) (values_at c.step.new.self u)) c.in-Waits.is c.in_ok-outcome.ensures.puts

pub returns-in-Ends-clause-shows : goal.returns-in-Ends-clause-shows
returns-in-Ends-clause-shows c =
    let u = unit_of c.args.partition c.args.line.now.unit in
    subst (λ (s : PortStep). PortTold u c.args.line.now.number c.args.line.now.verb s c.step.new.self) c.in-Ends.is c.in_ok-outcome.ensures.shows

pub returns-in-Waits-clause-shows : goal.returns-in-Waits-clause-shows
returns-in-Waits-clause-shows c = waits_shown (unit_of c.args.partition c.args.line.now.unit) c.args.line.now c.step.new.self c.in-Waits.moved

pub returns-in-Ends-clause-marks : goal.returns-in-Ends-clause-marks
returns-in-Ends-clause-marks c =
    line_own (unit_of c.args.partition c.args.line.now.unit) c.args.line.now.number c.args.lan.now c.step.new.self c.in_ok-outcome.ensures.marks

pub returns-in-Waits-clause-marks : goal.returns-in-Waits-clause-marks
returns-in-Waits-clause-marks c =
    line_own (unit_of c.args.partition c.args.line.now.unit) c.args.line.now.number c.args.lan.now c.step.new.self c.in_ok-outcome.ensures.marks

pub returns-in-Waits-clause-beside : goal.returns-in-Waits-clause-beside
returns-in-Waits-clause-beside c =
    step_beside (unit_of c.args.partition c.args.line.now.unit) c.in_ok-outcome.field-0 (counts_by c.args.line.now.verb c.done.result)
    (counts_after c.args.line.now.verb c.in_ok-outcome.field-0) c.args.lan.now c.step.new.self c.step.ensures.seats c.in_ok-outcome.ensures.sends
    c.in_ok-outcome.ensures.counts c.in_ok-outcome.ensures.beside c.in_ok-outcome.ensures.others c.in_ok-outcome.ensures.regions c.args.line.now.number c.in_ok-outcome.ensures.marks

pub returns-in-Ends-clause-writes : goal.returns-in-Ends-clause-writes
returns-in-Ends-clause-writes c = λ here.
    let u = unit_of c.args.partition c.args.line.now.unit in
    subst (λ (s : PortStep). PortLays u c.args.line.now.number c.args.line.now.verb s c.args.lan.now c.step.new.self) c.in-Ends.is (c.in_ok-outcome.ensures.lays here)

pub returns-in-Waits-clause-writes : goal.returns-in-Waits-clause-writes
returns-in-Waits-clause-writes c = λ here page.
    let u = unit_of c.args.partition c.args.line.now.unit in
    let same : PortLays u c.args.line.now.number c.args.line.now.verb (ports.Waits c.in-Waits.moved c.in-Waits.done) c.args.lan.now c.step.new.self =
    subst (λ (s : PortStep). PortLays u c.args.line.now.number c.args.line.now.verb s c.args.lan.now c.step.new.self) c.in-Waits.is (c.in_ok-outcome.ensures.lays here) in
    same page ∙ sym (with_none (strokes_at c.args.lan.now u page))
