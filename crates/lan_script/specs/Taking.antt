-- What a look at a receive queue adds to the frames that its port took, and how many a line takes.
use Rattle.std.specs.Prelude.{ℕ, ◌≤◌}
use Rattle.boot_text.specs.declared.verb.Verb.{Verb}
use Rattle.boot_text.specs.declared.verb.Verb.TheVariants as verbs
use Rattle.vio_trace.specs.declared.outcome.Outcome.TheVariants as outcomes
use Rattle.lan_buffers.specs.declared.answers.Harvest.{Harvest}
use Rattle.lan_buffers.specs.declared.answers.Harvest.TheVariants as harvests
use Rattle.lan_script.specs.declared.lines.PortStep.{PortStep}
use Rattle.lan_script.specs.declared.lines.PortStep.TheVariants as steps
use Rattle.lan_script.specs.declared.taking.Taken.{Taken}
use Rattle.lan_script.specs.declared.taking.Taken.TheVariants as found
use Rattle.lan_script.specs.PortCounts.{PortCounts, counts}

abbrev pub taken_on : Taken → PortCounts
taken_on found.Frame = counts 0 1
taken_on _ = counts 0 0

abbrev pub harvested_on : Harvest → PortCounts
harvested_on (harvests.Frame number len correlator) = counts 0 1
harvested_on _ = counts 0 0

-- a step of a line that takes has taken no more than the line says, where it had not before; it ends the line with that number alone
abbrev pub TakesUpTo : (count done : ℕ) → PortStep → Type 0
TakesUpTo count done (steps.Ends (outcomes.Took taken)) = done ≤ count → taken ≤ count
TakesUpTo count done (steps.Ends outcome) = ⊥
TakesUpTo count done (steps.Waits did done') = done ≤ count → done' ≤ count

abbrev pub StaysWithin : Verb → (done : ℕ) → PortStep → Type 0
StaysWithin (verbs.Take count) done step = TakesUpTo count done step
StaysWithin _ done step = Unit {0}
