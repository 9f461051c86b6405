-- What a server has, before a turn or behind it.
use Rattle.vio_io.specs.declared.outside.Blocks.{Ghosts}
use Rattle.block_server.specs.TurnTold.{Stock, stock}
use Rattle.block_server.specs.declared.server.Server.{Server}

-- what this server has
abbrev pub stock_of : {B : Type 0} {ghosts : Ghosts B} → Server B ghosts → Stock
stock_of {B} {ghosts} server =
    stock server.disk.count server.partition server.units.items server.records server.copies.items (ghosts.state server.disk.image).blocks
