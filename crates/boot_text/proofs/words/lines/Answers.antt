-- What `split` yields, collected, is the list of parts.
use Rattle.std.specs.Prelude.{◌==◌}
use Rattle.std.specs.Io.BufRead.{strip_last}
use Rattle.std.proofs.lemmas.Iterator.Consumers.{map_from_collect}
use Rattle.std.proofs.lemmas.Iterator.Splits.{YieldsList-from_slice_split}
use Rattle.std.proofs.Common.{rules, ◌∙◌}
use Rattle.boot_text.proofs.words.lines.Goals as goal

pub returns : goal.returns
returns c =
    map_from_collect _ c.collect.ensures.ran
    (YieldsList-from_slice_split _ (λ b. b == 10) (strip_last 10 c.args.text.now) (c.split.ensures.rest ∙ c.without_line_feed.ensures) c.split.ensures.done c.split.ensures.closure (λ x b q k. search rules))
