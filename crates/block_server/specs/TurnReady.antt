-- What a turn of a server leaves where nothing was amiss before it.
use Rattle.std.specs.Prelude.{Bool, List, OnOk, Result, ℕ}
use Rattle.vio_num.specs.declared.hypervisor.Moved.{Moved}
use Rattle.vio_num.specs.declared.memory.NoMemory.{NoMemory}
use Rattle.vio_num.specs.declared.names.UnitId.{UnitId}
use Rattle.crq_session.specs.EndState.{EndState}
use Rattle.tce_window.specs.PortState.{PortState}
use Rattle.block_server.specs.Ranges.{WritesOn, seen_in}
use Rattle.block_server.specs.RowsOn.{RowsOn}
use Rattle.block_server.specs.Standing.{LeavesOn, stood}
use Rattle.block_server.specs.Talk.{UnitTalksOn, Word, reach}
use Rattle.block_server.specs.TurnTold.{Stock}
use Rattle.block_server.specs.declared.unit.Unit.{Unit}

-- What a turn of this unit, which was so and has this name, leaves over this end of a queue and its client's window, where these words were to
-- come and nothing was amiss, if it finds memory.
pub record TurnsReady (shared : Bool) (unit : ℕ) (u : Unit) (name : UnitId) (words : List Word) (old new : Stock) (queue queue' : EndState) (client client' : PortState) (result : Result Moved NoMemory) : Type 0 where
  -- All words were heard, and then the oldest request was served, if there was one.
  pub talks : OnOk result (UnitTalksOn new.units unit u (reach queue client shared) queue' old.records.grants.items new.records.grants.items words)
  -- It laid strokes only where that request lets it, by its table as that stood before the turn.
  pub places : OnOk result (WritesOn (stood client) u queue words (seen_in shared client) (seen_in shared client'))
  -- The answer to that request stands at its address, its entry was put last, and its row was added.
  pub leaves : OnOk result (LeavesOn name u queue words queue' client client' old.records.history.items new.records.history.items)
  -- No row was added but that of the request.
  pub rows : OnOk result (RowsOn u queue words old.records.history.items new.records.history.items)
