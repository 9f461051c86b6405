-- What the words ask for.
use Rattle.std.proofs.Common.{rules, map, string_bytes}
use Rattle.clap.specs.Simple.{app_of}
use Rattle.paprvio.proofs.Asking.{asked_none}
use Rattle.paprvio.proofs.words.read_words.Goals as goal

-- src/words.rt:117:1
pub returns-in-Err-2 : goal.returns-in-Err-2
returns-in-Err-2 c =
    asked_none (map string_bytes c.args.words.now) (app_of c.in-Ok.command) c.in-Err.error (search rules) c.in-Err.ensures.kinds (search rules)
