use Rattle.durable_map.proofs.map.DurableMap.replace_if.Goals as goal

pub returns-clause-completes : goal.returns-clause-completes
returns-clause-completes g c = c.change.ensures.completes
