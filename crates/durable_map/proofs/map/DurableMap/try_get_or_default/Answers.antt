use Rattle.durable_map.proofs.map.DurableMap.try_get_or_default.Goals as goal

pub returns-clause-tries : goal.returns-clause-tries
returns-clause-tries g c = c.try_read.ensures.tries
