use Rattle.sim_workers.proofs.Sweeping.{keeper_rests, keeper_steps}
use Rattle.sim_workers.proofs.laws.steps_of_the_keeper.Goals as goal

pub returns : goal.returns
returns c = record { rests = keeper_rests; steps = keeper_steps }
