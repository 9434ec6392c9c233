use Rattle.sim_keeper.proofs.Sweeping.{sweep_answers, sweep_step_answers}
use Rattle.sim_keeper.proofs.laws.laws_of_sweeps.Goals as goal

pub returns : goal.returns
returns g c = record { begins = sweep_answers g.D.Disk.states g.D.Disk.honest; steps = sweep_step_answers g.D.Disk.states g.D.Disk.honest }
