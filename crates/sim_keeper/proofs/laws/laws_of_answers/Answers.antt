use Rattle.sim_keeper.proofs.Meeting.{answers_are_met}
use Rattle.sim_keeper.proofs.laws.laws_of_answers.Goals as goal

pub returns : goal.returns
returns g c = record { met = answers_are_met g.D.Disk.states c.laws_of_runs.ensures.skipped }
