use Rattle.paprvio.proofs.Endings.{fits_words}
use Rattle.paprvio.proofs.Musts.{must_end}
use Rattle.paprvio.proofs.run.run.Goals as goal

pub returns-clause-must : goal.returns-clause-must
returns-clause-must g c =
    let words = c.run_words-finished.ensures in
    rw c.code.ensures (must_end _ c.run_words-finished.result.status _ _ words.ends words.asked words.runs)

pub returns-clause-words : goal.returns-clause-words
returns-clause-words g c =
    let words = c.run_words-finished.ensures in
    rw c.code.ensures (fits_words _ c.run_words-finished.result.status _ _ words.ends words.asked words.runs)
