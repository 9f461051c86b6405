-- Which `send` lines end with `range`, as steps of lines go on.
use Rattle.std.proofs.Common.{◌≡◌, ◌+◌, ◌*◌, ◌≤◌, ℕ, Bool, true, false, true≢false, IfOk, IfSome, List, Option, Some, None, Result, Ok, Err, refl, sym, ◌∙◌, subst}
use Rattle.vio_num.specs.declared.memory.NoMemory.{NoMemory}
use Rattle.vio_num.specs.declared.names.Mac.{Mac}
use Rattle.vio_num.specs.declared.names.UnitId.{UnitId}
use Rattle.boot_text.specs.declared.verb.Verb.{Verb}
use Rattle.boot_text.specs.declared.verb.Verb.TheVariants as verbs
use Rattle.tce_window.specs.Region.{in_region}
use Rattle.vio_trace.specs.declared.outcome.Outcome.{Outcome}
use Rattle.lan_script.specs.Seats.{seat_at}
use Rattle.lan_script.specs.SendRanges.{SaysRange, StepRanges, TellsNoRange}
use Rattle.lan_script.specs.declared.lines.PortStep.{PortStep}
use Rattle.lan_script.specs.declared.lines.PortStep.TheVariants as steps
use Rattle.lan_script.specs.declared.seat.PortSeat.{PortSeat}
use Rattle.lan_script.proofs.ReplayedRegion.{range_inside}

-- one that does not, and a step that does not end with `range`
inside_not : (pages : ℕ) (to : Mac) (len seed at : ℕ) (outcome : Outcome) → TellsNoRange (steps.Ends outcome) → in_region pages at len ≡ true
    → SaysRange pages (verbs.Send to len seed at) outcome
inside_not pages to len seed at outcome tells inside =
    (λ is. absurd (subst (λ (o : Outcome). TellsNoRange (steps.Ends o)) is tells), λ out. absurd (true≢false (sym inside ∙ out)))

pub lies_inside : (unit : UnitId) (to : Mac) (len seed at : ℕ) (step : PortStep) (seats : List PortSeat) → 1 ≤ len → len ≤ 65536
    → ((seat : PortSeat) → seat_at seats unit ≡ Some seat → at + len ≤ 4096 * seat.pages) → TellsNoRange step
    → StepRanges unit (verbs.Send to len seed at) step seats
lies_inside unit to len seed at (steps.Waits did done) seats some few inside tells = tt
lies_inside unit to len seed at (steps.Ends outcome) seats some few inside tells = by (seat_at seats unit) refl
  where
    by : (o : Option PortSeat) → seat_at seats unit ≡ o → IfSome o (λ seat. SaysRange seat.pages (verbs.Send to len seed at) outcome)
    by None e = tt
    by (Some seat) e = inside_not seat.pages to len seed at outcome tells (range_inside seat.pages at len some few (inside seat e))

-- ---- steps of other lines

-- whether a line sends
abbrev pub is_sending : Verb → Bool
is_sending (verbs.Send to len seed at) = true
is_sending _ = false

pub not_sending : (verb : Verb) → ((to : Mac) (len seed at : ℕ) → verb ≡ verbs.Send to len seed at → ⊥) → is_sending verb ≡ false
not_sending (verbs.Send to len seed at) not = absurd (not to len seed at refl)
not_sending verb not = refl

no_range : (pages : ℕ) (verb : Verb) (outcome : Outcome) → is_sending verb ≡ false → SaysRange pages verb outcome
no_range pages (verbs.Send to len seed at) outcome isnt = absurd (cc (isnt))
no_range pages verb outcome isnt = tt

pub other_range : (unit : UnitId) (verb : Verb) (step : PortStep) (seats : List PortSeat) → is_sending verb ≡ false → StepRanges unit verb step seats
other_range unit verb (steps.Waits did done) seats isnt = tt
other_range unit verb (steps.Ends outcome) seats isnt = by (seat_at seats unit)
  where
    by : (o : Option PortSeat) → IfSome o (λ seat. SaysRange seat.pages verb outcome)
    by None = tt
    by (Some seat) = no_range seat.pages verb outcome isnt

pub other_ranges : (unit : UnitId) (verb : Verb) (r : Result PortStep NoMemory) (seats : List PortSeat) → is_sending verb ≡ false
    → IfOk r (λ step. StepRanges unit verb step seats)
other_ranges unit verb (Ok step) seats isnt = other_range unit verb step seats isnt
other_ranges unit verb (Err memory) seats isnt = tt

-- the line that sends
pub send_ranges : (unit : UnitId) (verb sending : Verb) (r : Result PortStep NoMemory) (seats : List PortSeat) → verb ≡ sending
    → IfOk r (λ step. StepRanges unit sending step seats) → IfOk r (λ step. StepRanges unit verb step seats)
send_ranges unit verb sending r seats is h = subst (λ (v : Verb). IfOk r (λ step. StepRanges unit v step seats)) (sym is) h
