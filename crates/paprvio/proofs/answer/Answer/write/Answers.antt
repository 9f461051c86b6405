use Rattle.paprvio.proofs.answer.Answer.write.Goals as goal

pub returns-in-Usage : goal.returns-in-Usage
returns-in-Usage g c = rw c.in-Usage.is c.write_all.ensures
