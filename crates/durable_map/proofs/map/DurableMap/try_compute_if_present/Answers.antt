use Rattle.durable_map.proofs.map.DurableMap.try_compute_if_present.Goals as goal

pub returns-clause-tries : goal.returns-clause-tries
returns-clause-tries g c = c.try_change.ensures.tries
