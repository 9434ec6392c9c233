use Rattle.durable_map.proofs.map.DurableMap.put.Goals as goal

pub returns-clause-completes : goal.returns-clause-completes
returns-clause-completes g c = c.change.ensures.completes
