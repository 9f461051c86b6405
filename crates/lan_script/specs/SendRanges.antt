-- Which `send` lines end with `range`.
use Rattle.std.specs.Prelude.{◌≡◌, ◌↔◌, ℕ, false, IfSome, List, ⊤}
use Rattle.vio_num.specs.declared.names.UnitId.{UnitId}
use Rattle.boot_text.specs.declared.verb.Verb.{Verb}
use Rattle.boot_text.specs.declared.verb.Verb.TheVariants as verbs
use Rattle.tce_window.specs.Region.{in_region}
use Rattle.vio_trace.specs.declared.outcome.Outcome.{Outcome}
use Rattle.vio_trace.specs.declared.outcome.Outcome.TheVariants as outcomes
use Rattle.lan_script.specs.Seats.{seat_at}
use Rattle.lan_script.specs.declared.lines.PortStep.{PortStep}
use Rattle.lan_script.specs.declared.lines.PortStep.TheVariants as steps
use Rattle.lan_script.specs.declared.seat.PortSeat.{PortSeat}

-- a `send` line ends with `range` exactly where its frame does not lie in the region, which has this many pages
abbrev pub SaysRange : (pages : ℕ) → Verb → Outcome → Type 0
SaysRange pages (verbs.Send to len seed at) outcome = (outcome ≡ outcomes.Range) ↔ (in_region pages at len ≡ false)
SaysRange pages verb outcome = ⊤

-- the same of a step that ends a line at a unit, whose region has as many pages as its seat
abbrev pub StepRanges : UnitId → Verb → PortStep → List PortSeat → Type 0
StepRanges unit verb (steps.Ends outcome) seats = IfSome (seat_at seats unit) (λ seat. SaysRange seat.pages verb outcome)
StepRanges unit verb (steps.Waits did done) seats = ⊤

-- the step does not end with `range`
abbrev pub TellsNoRange : PortStep → Type 0
TellsNoRange (steps.Ends outcomes.Range) = ⊥
TellsNoRange _ = ⊤
