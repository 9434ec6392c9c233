use Rattle.durable_map.proofs.map.DurableMap.contains_key.Goals as goal

pub returns-clause-completes : goal.returns-clause-completes
returns-clause-completes g c = c.read.ensures.completes
