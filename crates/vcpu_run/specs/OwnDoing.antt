-- What a turn of a server unit says at its pair beside what is so where nothing is amiss: its small steps, and why it hears no more.
use Rattle.std.specs.Prelude.{◌≡◌, ℕ, false, Some, slice_get}
use Rattle.vio_num.specs.declared.names.UnitId.{UnitId}
use Rattle.crq_session.specs.EndState.{EndState}
use Rattle.tce_window.specs.PortState.{PortState}
use Rattle.block_server.specs.Doings.{IsAtRest, UnitDoes, doing_at}
use Rattle.block_server.specs.HeardOut.{MayHear, UnitHearsOut}
use Rattle.block_server.specs.Ready.{AgreesAt}
use Rattle.block_server.specs.declared.unit.Unit.{Unit}
use Rattle.vcpu_run.specs.PlainPairs.{ServerBooks}

-- A turn of server unit k leads from one rest to the next; and the unit takes its queue for registered where it is.
pub record DoesAt (name : UnitId) (books books' : ServerBooks) (k : ℕ) (before after : EndState) (window window' : PortState) : Type 0 where
  pub does : (u : Unit) → slice_get books.units k ≡ Some u → IsAtRest (doing_at u name before window books.rows books.lines)
      → UnitDoes books'.units k u name before after window window' books.rows books'.rows books.lines books'.lines
  pub agrees : AgreesAt books.units k before → AgreesAt books'.units k after

-- It hears no more, and serves a request, or what keeps it from that is said.
pub record HeardAt (books books' : ServerBooks) (k : ℕ) (before after : EndState) : Type 0 where
  pub heard : (u : Unit) → slice_get books.units k ≡ Some u → MayHear u before false → UnitHearsOut books'.units k u false before after
