-- The entry that found the client's queue full.
use Rattle.vio_num.specs.declared.entry.Entry.{Entry}
use Rattle.block_server.specs.declared.line.Kept.{Kept}
use Rattle.block_server.specs.declared.line.Kept.TheVariants.{Reply, Answer}

abbrev pub kept_entry : Kept → Entry
kept_entry (Reply entry) = entry
kept_entry (Answer entry outcome) = entry
