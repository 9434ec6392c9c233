use Rattle.sim_workers.proofs.Calling.{call_steps}
use Rattle.sim_workers.proofs.Replying.{release_steps}
use Rattle.sim_workers.proofs.laws.steps_of_workers.Goals as goal

pub returns : goal.returns
returns c = record { calls = call_steps; releases = release_steps }
