use Rattle.sim_workers.proofs.Starting.{life_begins}
use Rattle.sim_workers.proofs.laws.beginnings_of_lives.Goals as goal

pub returns : goal.returns
returns c = record { stand = life_begins }
