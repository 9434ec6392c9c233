use Rattle.sim_keeper.proofs.LogCalls.{broken_answers, log_answers, log_fails}
use Rattle.sim_keeper.proofs.laws.laws_of_log_calls.Goals as goal

pub returns : goal.returns
returns g c = record {
  done = log_answers g.D.Disk.states g.D.Disk.failures g.D.Disk.honest;
  fails = log_fails g.D.Disk.states g.D.Disk.failures g.D.Disk.honest;
  broken = broken_answers g.D.Disk.states;
}
