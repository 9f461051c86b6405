use Rattle.std.proofs.Common.{subst, sym, ◌∙◌, ap}
use Rattle.vio_num.specs.Entry.{iu_length}
use Rattle.block_server.specs.Entries.{MayPut}
use Rattle.block_server.proofs.Putting.{answer_may}
use Rattle.block_server.proofs.answering.answer_entry.Goals as goal

pub returns-clause-may : goal.returns-clause-may
returns-clause-may c =
    subst MayPut (sym c.srp.ensures.entry)
    (answer_may c.args.len c.args.tag c.requires (ap iu_length (sym c.srp.ensures.entry) ∙ c.srp.ensures.length))
