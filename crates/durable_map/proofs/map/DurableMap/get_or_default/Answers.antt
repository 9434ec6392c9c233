use Rattle.durable_map.proofs.map.DurableMap.get_or_default.Goals as goal

pub returns-clause-completes : goal.returns-clause-completes
returns-clause-completes g c = c.read.ensures.completes
