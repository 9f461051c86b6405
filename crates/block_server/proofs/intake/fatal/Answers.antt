use Rattle.block_server.proofs.intake.fatal.Goals as goal

pub returns-clause-decides : goal.returns-clause-decides
returns-clause-decides c = λ old new bytes stays fatal. (stays, fatal)
