use Rattle.connections.proofs.resting.Resting.receive.Goals as goal

pub returns-clause-past : goal.returns-clause-past
returns-clause-past g c = rw (← c.self.view_is) c.receive.ensures.past
