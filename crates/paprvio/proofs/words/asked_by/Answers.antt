-- What the entries of a parse ask for.
use Rattle.std.proofs.Common.{rules, ◌∙◌}
use Rattle.clap.specs.Matches.{found_of}
use Rattle.paprvio.proofs.Asking.{none_in, some_in}
use Rattle.paprvio.proofs.words.asked_by.Goals as goal

-- src/words.rt:112:16
pub returns-in_err-mode : goal.returns-in_err-mode
returns-in_err-mode c = c.from_residual.ensures ∙ none_in (found_of c.args.matches.now) c.get_str.result (search rules) c.get_str.ensures

-- src/words.rt:109:1
pub returns : goal.returns
returns c = c.request.ensures ∙ some_in (found_of c.args.matches.now) c.get_str.result c.in_ok-mode.mode c.get_str-2.result c.get_str-3.result
    (search rules) c.get_str.ensures c.get_str-2.ensures c.get_str-3.ensures
