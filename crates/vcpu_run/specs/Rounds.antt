-- What the turns of a round leave of the parts of a machine.
use Rattle.std.specs.Prelude.{◌≡◌, ℕ, ◌+◌, Bool, false, IsSomeAnd, List, length, slice_get}
use Rattle.vio_io.specs.declared.outside.Blocks.{Ghosts}
use Rattle.vio_num.specs.declared.history.Grant.{Grant}
use Rattle.vio_num.specs.declared.history.Served.{Served}
use Rattle.vio_trace.specs.declared.window_rows.CopyRow.{CopyRow}
use Rattle.rdma_copy.specs.declared.copy.CopyRecord.{CopyRecord}
use Rattle.lan_script.specs.Units.{LanValue}
use Rattle.block_server.specs.Causes.{Told}
use Rattle.block_server.specs.TurnStock.{stock_of}
use Rattle.block_server.specs.TurnTold.{Stock}
use Rattle.block_server.specs.declared.records.Records.{Records}
use Rattle.block_server.specs.declared.server.Server.{Server}
use Rattle.block_server.specs.declared.unit.Unit.{Unit}
use Rattle.vcpu_run.specs.declared.pair.Pair.{Pair}
use Rattle.vcpu_run.specs.ClientRuns.{AreClients, AreClientsQuietTo, AreClientsTo, NoClientAwaits}
use Rattle.vcpu_run.specs.declared.script.Script.{Script}
use Rattle.vcpu_run.specs.Agreed.{AreCredited}
use Rattle.vcpu_run.specs.Answered.{AreAnswered}
use Rattle.vcpu_run.specs.CopiesCounted.{AllMadeBy, copies_at}
use Rattle.vcpu_run.specs.Heard.{AreHeard, TellsPairs}
use Rattle.vcpu_run.specs.Holding.{AreOpenIf, AreOpenTo, IsOpenUpTo, KeepQueues}
use Rattle.vcpu_run.specs.Lines.{IsOver}
use Rattle.vcpu_run.specs.Links.{AreIdleTo, AreLinked, AreOverTo, RestsAt, SeatsRestWhole}
use Rattle.vcpu_run.specs.Machines.{AllRun, AllStay}
use Rattle.vcpu_run.specs.Pairs.{ArePairs}
use Rattle.vcpu_run.specs.PlainPairs.{ServerBooks}
use Rattle.vcpu_run.specs.PortWords.{PortsTell}
use Rattle.vcpu_run.specs.PortsRest.{AreTakenTo, TurnRests}
use Rattle.vcpu_run.specs.Received.{AreReceived}
use Rattle.vcpu_run.specs.ScriptTold.{AreOutIf, AreOutTo, AreTold}
use Rattle.vcpu_run.specs.Scripts.{are_servers}
use Rattle.vcpu_run.specs.Served.{AllServed, books_at}

-- the parts of a machine, before a turn or behind it
pub record MachineParts : Type 0 where
  pub stock : Stock
  pub pairs : List Pair
  pub scripts : List Script
  pub lan : LanValue

abbrev pub parts_at : {B : Type 0} {g : Ghosts B} → Server B g → List Pair → List Script → LanValue → MachineParts
parts_at server pairs scripts lan = record { stock = stock_of server; pairs = pairs; scripts = scripts; lan = lan }

-- What no turn changes of the pairs, the scripts and the LAN.
pub record PartsStay (old new : List Pair) (before after : List Script) (lan lan' : LanValue) : Type 0 where
  pub stay : AllStay old new
  pub run : AllRun before after
  pub seats : lan'.seats ≡ lan.seats

-- What a turn that finds memory keeps: each is so behind it where it was so before.
pub record KeepsParts (old new : MachineParts) : Type 0 where
  -- The records keep the credits of the clients, and tell what was refused to them and what their ports did.
  pub credited : AreCredited (copies_at old.stock.copies old.pairs) old.pairs old.scripts → AreCredited (copies_at new.stock.copies new.pairs) new.pairs new.scripts
  pub said : AreTold old.pairs old.scripts → AreTold new.pairs new.scripts
  pub told : PortsTell old.lan old.scripts → PortsTell new.lan new.scripts
  -- The server units take their queues for registered exactly where they are.
  pub linked : AreLinked old.stock.units old.pairs → AreLinked new.stock.units new.pairs

-- What is so behind a turn of the partition with this number in which nothing moved.
pub record QuietTurn (number : ℕ) (old new : MachineParts) : Type 0 where
  pub opened : AreLinked old.stock.units old.pairs → IsOpenUpTo number old.pairs old.scripts → IsOpenUpTo (number + 1) new.pairs new.scripts
  pub out : AreTold old.pairs old.scripts → AreOutTo number old.pairs old.scripts → AreOutTo (number + 1) new.pairs new.scripts
  pub idle : AreLinked old.stock.units old.pairs → IsSomeAnd (slice_get new.scripts number) IsOver
      → RestsAt number new.scripts old.stock.units new.stock.units old.pairs new.pairs
  pub ports : IsSomeAnd (slice_get new.scripts number) IsOver → IsSomeAnd (slice_get new.scripts number) (λ script. TurnRests script old.lan new.lan)
  pub quietly : AreLinked old.stock.units old.pairs → (granted : ℕ) → AreClientsTo granted old.stock.partition number (books_at old.stock) old.pairs old.scripts
      → AreClientsQuietTo old.stock.partition number (books_at old.stock) old.pairs old.scripts
      → AreClientsQuietTo new.stock.partition (number + 1) (books_at new.stock) new.pairs new.scripts

-- The same of a turn of its script, over whatever server, where it is none of server units.
pub record QuietScript (number : ℕ) (old new : List Pair) (before after : List Script) (lan lan' : LanValue) : Type 0 where
  pub opened : IsSomeAnd (slice_get before number) (λ script. are_servers script.seats.items ≡ false) → IsOpenUpTo number old before → IsOpenUpTo (number + 1) new after
  pub out : AreTold old before → AreOutTo number old before → AreOutTo (number + 1) new after
  pub idle : IsSomeAnd (slice_get after number) IsOver → IsSomeAnd (slice_get after number) (λ script. SeatsRestWhole script.seats.items old new)
  pub ports : IsSomeAnd (slice_get after number) IsOver → IsSomeAnd (slice_get after number) (λ script. TurnRests script lan lan')
  pub quietly : (granted home : ℕ) (books : ServerBooks) → IsSomeAnd (slice_get before number) (λ script. are_servers script.seats.items ≡ false)
      → AreClientsTo granted home number books old before → AreClientsQuietTo home number books old before → AreClientsQuietTo home (number + 1) books new after

-- Where each script is over behind a round in which nothing moved, the units wait, and nothing is left to take of a port.
pub record RestsWhereOver (old new : MachineParts) : Type 0 where
  pub idle : AreLinked old.stock.units old.pairs → AreOverTo (length new.scripts) new.scripts → AreIdleTo (length new.scripts) new.stock.units new.pairs new.scripts
  pub ports : AreOverTo (length new.scripts) new.scripts → AreTakenTo (length new.scripts) new.lan new.scripts

-- What is so behind a round in which nothing moved.
pub record QuietRound (old new : MachineParts) : Type 0 where
  pub opened : AreLinked old.stock.units old.pairs → AreOpenTo (length new.scripts) new.pairs new.scripts
  pub out : AreTold old.pairs old.scripts → AreOutTo (length new.scripts) new.pairs new.scripts
  pub rests : RestsWhereOver old new
  pub quietly : AreLinked old.stock.units old.pairs → (granted : ℕ) → AreClients granted old.stock.partition (books_at old.stock) old.pairs old.scripts → NoClientAwaits new.scripts

-- What a turn of a partition without server units keeps of the pairs, over whatever server.
pub record KeepsPairs (old new : List Pair) : Type 0 where
  pub pairs : (home : ℕ) (copies : List CopyRecord) → ArePairs home copies old → ArePairs home copies new
  pub linked : (units : List Unit) → AreLinked units old → AreLinked units new
  pub answered : (history : List Served) → AreAnswered history old → AreAnswered history new
  pub received : (units : List Unit) (copies : List CopyRecord) (grants : List Grant) (history : List Served)
      → AreReceived units copies grants history old → AreReceived units copies grants history new
  -- Whatever tells all that the pairs show told all that they showed before, and what goes by it is still so.
  pub tells : (copies : List CopyRecord) (told : Told → Bool) → TellsPairs told copies new → TellsPairs told copies old
  pub heard : (size partition : ℕ) (units : List Unit) (records : Records) (copies : List CopyRecord)
      → AreHeard size partition units records copies old → AreHeard size partition units records copies new

-- What the end of lines that wait keeps of the scripts of these pairs: of their credits, of what is told of clients and ports, and of the
-- queues, where a reset that is such a line of a script of which P is so left its client logged out, and its queue registered.
pub record KeepsScripts (P : ℕ → Type 0) (pairs : List Pair) (old new : List Script) : Type 0 where
  pub credited : (copies : ℕ → List CopyRow) → AllMadeBy copies pairs → AreCredited copies pairs old → AreCredited copies pairs new
  pub said : AreOutIf P pairs old → AreTold pairs old → AreTold pairs new
  pub told : (lan : LanValue) → PortsTell lan old → PortsTell lan new
  pub unfreed : AreOpenIf P pairs old → KeepQueues pairs old → KeepQueues pairs new

-- What is so of a machine before a run, and between its rounds.
pub record IsUnderWay (now : MachineParts) : Type 0 where
  pub served : AllServed now.stock now.pairs
  pub credited : AreCredited (copies_at now.stock.copies now.pairs) now.pairs now.scripts
  pub said : AreTold now.pairs now.scripts
  pub told : PortsTell now.lan now.scripts
  pub linked : AreLinked now.stock.units now.pairs
  pub unfreed : KeepQueues now.pairs now.scripts
