use Rattle.srp_desc.proofs.pieces.pieces_of.Goals as goal

pub returns-in-Direct-clause-err : goal.returns-in-Direct-clause-err
returns-in-Direct-clause-err c = rw c.in-Direct.is c.direct.ensures.err

pub returns-in-Direct-clause-small : goal.returns-in-Direct-clause-small
returns-in-Direct-clause-small c = rw c.in-Direct.is c.direct.ensures.small

pub returns-in-Indirect-clause-small : goal.returns-in-Indirect-clause-small
returns-in-Indirect-clause-small c = rw c.in-Indirect.is c.indirect.ensures.small
