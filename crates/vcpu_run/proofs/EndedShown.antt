-- What the lines of a client that ended show, once one more ends.
use Rattle.std.proofs.Common.{◌≡◌, ℕ, ◌++◌, List, [], ◌∷◌, Ok, IsSomeAnd, Some, length, slice_get, subst}
use Rattle.boot_text.specs.declared.plan.Line.{Line}
use Rattle.vio_trace.specs.declared.rows.LogRow.{LogRow}
use Rattle.unit_region.specs.declared.step.Step.TheVariants as steps
use Rattle.vcpu_run.specs.declared.pair.Pair.{Pair}
use Rattle.vcpu_run.specs.declared.script.Script.{Script}
use Rattle.vcpu_run.specs.declared.unit_seat.Seat.TheVariants as places
use Rattle.vcpu_run.specs.DropsShown.{PairShowsLine}
use Rattle.vcpu_run.specs.Pairs.{AreDriven, Drives}
use Rattle.vcpu_run.specs.Scripts.{AreSeats}
use Rattle.vcpu_run.specs.ScriptTold.{AtSeats, PairShown}
use Rattle.vcpu_run.specs.ShutShown.{HadEnd, SaysShut}
use Rattle.vcpu_run.proofs.DropsKept.{drives_more}
use Rattle.vcpu_run.proofs.LinesShown.{drives_sees}
use Rattle.vcpu_run.proofs.OrderSent.{one_shown, shown_on}
use Rattle.vcpu_run.proofs.SeatPairs.{before_of}

-- what the lines that ended did is there still, and more was put behind their requests
pub still_shown : (old new : List Pair) (script : Script) → AreSeats script.partition script.seats.items old → AreDriven old new
    → AtSeats script.seats.items old (PairShown script) → AtSeats script.seats.items new (PairShown script)
still_shown old new script are driven is unit k after at now =
    let b = before_of script.partition unit k script.seats.items old new after are driven at now in
    shown_on script unit b.pair after b.drives.unit (drives_sees b.pair after b.drives) (drives_more b.pair after b.drives) (is unit k b.pair at b.there)

-- the current line ended, which shows at the pair of its client what it did
pub ended_shown : (old new : List Pair) (script done : Script) (line : Line) (row : LogRow) → slice_get script.lines.now script.at ≡ Some line → length script.logs.items ≡ script.at
    → done.lines ≡ script.lines → done.seats ≡ script.seats → done.logs.items ≡ script.logs.items ++ row ∷ [] → AreSeats script.partition script.seats.items old → AreDriven old new
    → AtSeats script.seats.items old (PairShown script)
    → ((unit k : ℕ) (before after : Pair) → slice_get script.seats.items unit ≡ Some (places.Client k) → slice_get old k ≡ Some before → slice_get new k ≡ Some after
    → line.unit ≡ unit → PairShowsLine line before after (Ok (steps.Ends row.outcome)))
    → ((unit k : ℕ) (before after : Pair) → slice_get script.seats.items unit ≡ Some (places.Client k) → slice_get old k ≡ Some before → slice_get new k ≡ Some after
    → line.unit ≡ unit → IsSomeAnd before.driver (λ d. Unit {0}) → Drives before after → SaysShut (HadEnd after.link) line.verb row.outcome)
    → AtSeats done.seats.items new (PairShown done)
ended_shown old new script done line row found many lines seats logs are driven is last ends unit k after at now =
    let here : slice_get script.seats.items unit ≡ Some (places.Client k) = subst (λ ss. slice_get ss.items unit ≡ Some (places.Client k)) seats at in
    let b = before_of script.partition unit k script.seats.items old new after are driven here now in
    one_shown script done unit b.pair after line row found many lines logs b.drives.unit (drives_sees b.pair after b.drives) (drives_more b.pair after b.drives)
    (λ same. last unit k b.pair after here b.there now same) (λ same. ends unit k b.pair after here b.there now same b.has b.drives) (is unit k b.pair here b.there)
