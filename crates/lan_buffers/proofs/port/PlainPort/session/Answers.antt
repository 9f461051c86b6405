use Rattle.lan_buffers.proofs.port.PlainPort.session.Goals as goal

pub returns-clause-law : goal.returns-clause-law
returns-clause-law c = rw (← c.self.view_is) (record { sized = c.self.invariant.kept.sized; sessions = c.self.invariant.kept.sessions })
