use Rattle.sim_rules.proofs.MachineLaws.{released_stay_legal}
use Rattle.sim_rules.proofs.laws.laws_of_the_machine.Goals as goal

pub returns : goal.returns
returns c = record { released = released_stay_legal }
