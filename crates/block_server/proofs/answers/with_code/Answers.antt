use Rattle.std.proofs.Common.{refl, ◌∙◌}
use Rattle.block_server.proofs.Answered.{answers_of}
use Rattle.block_server.proofs.answers.with_code.Goals as goal

pub returns-clause-answer : goal.returns-clause-answer
returns-clause-answer c = answers_of _ _ _ c.write_iu.ensures (record {
  delta = refl;
  tag_is = refl;
  status = refl;
  no_sense = c.new.ensures;
  response = c.list_of.ensures ∙ c.data.ensures;
  residuals = record { flags = refl; out_count = refl; in_count = refl };
})
