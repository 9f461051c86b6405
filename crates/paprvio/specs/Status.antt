-- The exit statuses of the program.
use Rattle.std.specs.Prelude.{ℕ}
use Rattle.paprvio.specs.declared.status.Status.{Status}
use Rattle.paprvio.specs.declared.status.Status.TheVariants.{Done, Usage, Refused, SourceFailed, SinkFailed, ImageFailed, NoMemory}

abbrev pub status_code : Status → ℕ
status_code Done = 0
status_code Usage = 1
status_code Refused = 2
status_code SourceFailed = 3
status_code SinkFailed = 4
status_code ImageFailed = 5
status_code NoMemory = 6
