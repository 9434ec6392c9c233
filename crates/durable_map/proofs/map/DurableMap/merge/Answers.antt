use Rattle.durable_map.proofs.map.DurableMap.merge.Goals as goal

pub returns-clause-completes : goal.returns-clause-completes
returns-clause-completes g c = c.change.ensures.completes
