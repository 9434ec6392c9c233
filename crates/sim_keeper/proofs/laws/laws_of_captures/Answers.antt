use Rattle.sim_keeper.proofs.Capturing.{capture_answers, capture_refuses}
use Rattle.sim_keeper.proofs.CaptureSteps.{capture_step_answers}
use Rattle.sim_keeper.proofs.TooLarge.{too_many_are_too_large}
use Rattle.sim_keeper.proofs.laws.laws_of_captures.Goals as goal

pub returns : goal.returns
returns g c = record {
  begins = capture_answers g.D.Disk.states g.D.Disk.honest;
  refuses = capture_refuses g.D.Disk.states g.D.Disk.honest;
  steps = capture_step_answers g.D.Disk.states g.D.Disk.honest;
  too_large = too_many_are_too_large g.D.Disk.states g.D.Disk.honest;
}
