use Rattle.sim_keeper.proofs.CheckpointCalls.{checkpoint_answers, checkpoint_fails}
use Rattle.sim_keeper.proofs.laws.laws_of_checkpoint_calls.Goals as goal

pub returns : goal.returns
returns g c = record {
  done = checkpoint_answers g.D.Disk.states g.D.Disk.failures g.D.Disk.honest;
  fails = checkpoint_fails g.D.Disk.states g.D.Disk.failures g.D.Disk.honest;
}
