use Rattle.sim_keeper.proofs.Taken.{capture_takes_none, sweep_takes_none, sweep_takes_outbox}
use Rattle.sim_keeper.proofs.laws.laws_of_taking.Goals as goal

pub returns : goal.returns
returns g c = record {
  none = sweep_takes_none g.D.Disk.states g.D.Disk.honest;
  outbox = sweep_takes_outbox g.D.Disk.states g.D.Disk.honest;
  captures = capture_takes_none g.D.Disk.states g.D.Disk.honest;
}
