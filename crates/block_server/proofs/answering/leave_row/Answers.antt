use Rattle.block_server.proofs.answering.leave_row.Goals as goal

pub returns-clause-cargo : goal.returns-clause-cargo
returns-clause-cargo c = λ shown shown' same. c.cut_data.ensures.cargo _ shown shown' _ same c.reset.ensures.stage
