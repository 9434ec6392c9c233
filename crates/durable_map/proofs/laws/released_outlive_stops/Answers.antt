use Rattle.durable_map.proofs.Released.{outlive, released}
use Rattle.durable_map.proofs.laws.released_outlive_stops.Goals as goal

pub returns-clause-stops : goal.returns-clause-stops
returns-clause-stops g c = outlive g.D.Disk.states g.D.Disk.honest

pub returns-clause-answered : goal.returns-clause-answered
returns-clause-answered g c = released
