-- What lines and calls put into the entries of a unit's window, and what calls on one entry answer.
use Rattle.std.specs.Prelude.{◌≡◌, ◌≢◌, ◌++◌, ℕ, List, IfSome, ⊤}
use Rattle.vio_num.specs.Words.{Begins}
use Rattle.vio_num.specs.declared.hypervisor.Hrc.TheVariants as codes
use Rattle.vio_num.specs.declared.names.UnitId.{UnitId}
use Rattle.boot_text.specs.declared.verb.Verb.{Verb}
use Rattle.hcall_table.specs.declared.returned.Returned.{Returned}
use Rattle.tce_window.specs.PortState.{PortState, port_at}
use Rattle.unit_region.specs.EntryAnswers.{AnswersEntry}
use Rattle.unit_region.specs.LinePuts.{put_by}
use Rattle.unit_region.specs.declared.entry_calls.EntryCall.{EntryCall}
use Rattle.unit_region.specs.declared.step.Step.{Step}
use Rattle.unit_region.specs.declared.step.Step.TheVariants as region
use Rattle.lan_script.specs.Seats.{seat_at}
use Rattle.lan_script.specs.Units.{LanValue}
use Rattle.lan_script.specs.Windows.{facts_in}
use Rattle.lan_script.specs.declared.calls.PortCall.{PortCall}
use Rattle.lan_script.specs.declared.calls.PortCall.TheVariants as calls
use Rattle.lan_script.specs.declared.lines.PortStep.{PortStep}
use Rattle.lan_script.specs.declared.lines.PortStep.TheVariants as steps

-- a unit's window, as a port of it alone sees it
abbrev pub window_seen : LanValue → UnitId → PortState
window_seen lan unit = port_at (facts_in lan.places unit)

-- the values of its entries
abbrev pub values_at : LanValue → UnitId → ℕ → List ℕ
values_at lan unit = (facts_in lan.places unit).values

-- each entry of a unit's window has the values that it had, and others behind them, if any
abbrev pub ValuesGrow : UnitId → (old new : LanValue) → Type 0
ValuesGrow unit old new = (e : ℕ) → Begins (values_at old unit e) (values_at new unit e)

-- A call on an entry of a unit's window, which has as many as its seat has pages: what it answers, and what it puts. Nothing of the window is held
-- between calls, so it is never Busy.
pub record CallsOne (unit : UnitId) (call : EntryCall) (old new : LanValue) (returned : Returned) : Type 0 where
  pub size : IfSome (seat_at old.seats unit) (λ seat. (window_seen old unit).place.size ≡ seat.pages)
  pub answers : AnswersEntry (window_seen old unit) (window_seen new unit) call returned
  pub free : returned.code ≢ codes.Busy

abbrev pub CallsEntry : UnitId → PortCall → (old new : LanValue) → Returned → Type 0
CallsEntry unit (calls.Entry call) old new returned = CallsOne unit call old new returned
CallsEntry unit call old new returned = ⊤

-- a step in a region, as one of a LAN unit
abbrev pub port_step : Step → PortStep
port_step (region.Ends outcome) = steps.Ends outcome
port_step (region.Waits moved) = steps.Waits moved 0

-- a step of a line puts what its record says behind the values of each entry, and nothing while the line goes on
abbrev pub PortPuts : Verb → PortStep → (old new : ℕ → List ℕ) → Type 0
PortPuts verb (steps.Ends outcome) old new = (e : ℕ) → new e ≡ old e ++ put_by e verb outcome
PortPuts verb (steps.Waits did done) old new = (e : ℕ) → new e ≡ old e
