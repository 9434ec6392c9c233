use Rattle.sim_keeper.proofs.CallsTold.{calls_are_told}
use Rattle.sim_keeper.proofs.FilesTold.{files_are_told}
use Rattle.sim_keeper.proofs.Held.{stripe_is_told}
use Rattle.sim_keeper.proofs.Taken.{counts_are_told}
use Rattle.sim_keeper.proofs.Told.{checkpoint_call_is_told, log_call_is_told, walk_is_told}
use Rattle.sim_keeper.proofs.StagedTold.{staged_is_told}
use Rattle.sim_keeper.proofs.laws.laws_of_telling.Goals as goal

pub returns : goal.returns
returns g c = record {
  walk = walk_is_told g.D.Disk.states;
  stripe = stripe_is_told g.D.Disk.states g.D.Disk.honest;
  counts = counts_are_told g.D.Disk.states g.D.Disk.honest;
  log = log_call_is_told g.D.Disk.states g.D.Disk.honest;
  checkpoint = checkpoint_call_is_told g.D.Disk.states;
  staged = staged_is_told g.D.Disk.states g.D.Disk.honest;
  files = files_are_told g.D.Disk.states g.D.Disk.honest;
  calls = calls_are_told g.D.Disk.states g.D.Disk.honest;
}
