use Rattle.sim_keeper.proofs.Staged.{stage_answers}
use Rattle.sim_keeper.proofs.laws.laws_of_batches.Goals as goal

pub returns : goal.returns
returns g c = record { stage = stage_answers g.D.Disk.states g.D.Disk.honest }
