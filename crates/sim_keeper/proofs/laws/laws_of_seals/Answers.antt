use Rattle.sim_keeper.proofs.Begun.{begin_answers}
use Rattle.sim_keeper.proofs.Sealing.{seal_answers}
use Rattle.sim_keeper.proofs.laws.laws_of_seals.Goals as goal

pub returns : goal.returns
returns g c = record { begin = begin_answers g.D.Disk.states g.D.Disk.honest; seal = seal_answers g.D.Disk.states g.D.Disk.honest }
